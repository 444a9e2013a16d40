-- The tree of a new filestore.
-- serves: new (tree)
use Rattle.std.proofs.Common.{◌≡◌, ℕ, Bool, true, false, cond, List, [], Option, Some, Result, Ok, Err, IfOk, refl, sym, ap, ◌∙◌, codes}
use Rattle.std.specs.Ordering.{eq_by_cmp}
use Rattle.std.specs.FinMap.{FinMap, get, insert, empty, same_map, get-insert}
use Rattle.g_name.specs.Order.{text_cmp}
use Rattle.g_entry.specs.declared.user_rec.UserRec.{UserRec}
use Rattle.g_entry.specs.declared.file_rec.FileRec.{FileRec}
use Rattle.g_plain.specs.PlainTree.{UserRow, formatted}
use Rattle.g_plain.proofs.TextMaps.{text_total, text_exact}
use Rattle.g_tree.specs.Records.{tree_of}
use Rattle.g_tree.specs.State.{TreeState, first_users}

either : (a b : Bool) (x y : Option UserRow) → cond a x (cond b x y) ≡ cond b x (cond a x y)
either true true x y = refl
either true false x y = refl
either false b x y = refl

-- two users of one row, in either order
both_ways : (m : FinMap text_cmp UserRow) (a b : List ℕ) (row : UserRow) → insert (insert m a row) b row ≡ insert (insert m b row) a row
both_ways m a b row =
    same_map text_total text_exact _ _
    (λ q. get-insert text_total (insert m a row) b row q ∙ ap (cond (eq_by_cmp text_cmp q b) (Some row)) (get-insert text_total m a row q)
    ∙ either (eq_by_cmp text_cmp q b) (eq_by_cmp text_cmp q a) (Some row) (get m q)
    ∙ sym (get-insert text_total (insert m b row) a row q ∙ ap (cond (eq_by_cmp text_cmp q a) (Some row)) (get-insert text_total m b row q)))

first_row : UserRow
first_row = record { superior = codes "MASTER"; space = 65535; time = 1000000; money = 1000000 }

pub first_tree : (users : List UserRec) (files : List FileRec) → users ≡ first_users → files ≡ [] → (bytes : FileRec → List ℕ) → tree_of users files bytes 1 ≡ formatted
unfolding first_row
first_tree users files us fs bytes =
    (λ i. tree_of (us i) (fs i) bytes 1)
    ∙ ap (λ m. record { users = m; files = empty; next = 1 }) (both_ways empty (codes "MACROS") (codes "MASTER") first_row)

pub first_made : {E : Type 0} (made : Result TreeState E) (users : List UserRec) (files : List FileRec) → IfOk made (λ t. t.users ≡ users) → IfOk made (λ t. t.files ≡ files) → users ≡ first_users → files ≡ []
    → IfOk made (λ t. (bytes : FileRec → List ℕ) → tree_of t.users t.files bytes 1 ≡ formatted)
first_made (Ok t) users files us fs is none = λ bytes. first_tree t.users t.files (us ∙ is) (fs ∙ none) bytes
first_made (Err e) users files us fs is none = tt
