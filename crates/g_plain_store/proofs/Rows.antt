-- Rows that are found, written back and moved to another name.
-- serves: add_user (ok), give (ok), rename (ok), renew, replace, set_budget, set_traps (err, ok), take (row), take_from
use Rattle.std.proofs.Common.{◌≡◌, ℕ, Bool, true, false, cond, List, Option, Some, None, IsSome, is_some, unwrap_or, refl, sym, ap, subst, ◌∙◌, Result, Ok, Err, OnOk, OnErr, true≢false}
use Rattle.std.specs.Map.{lookup}
use Rattle.std.specs.Ordering.{eq_by_cmp, is_eq}
use Rattle.std.specs.declared.cmp.Ordering.{Ordering}
use Rattle.std.specs.declared.cmp.Ordering.TheVariants.{Less, Equal, Greater}
use Rattle.std.specs.Cmp.{eq_by_cmp_equiv}
use Rattle.std.specs.BTreeMap.{is_at}
use Rattle.std.specs.FinMap.{FinMap, get, insert, remove, from_entries, same_map, get-insert, get-remove}
use Rattle.g_name.specs.declared.full.Full.{Full}
use Rattle.g_name.specs.Order.{full_cmp, text_cmp}
use Rattle.g_name.proofs.Order.{full_total}
use Rattle.g_plain.specs.PlainTree.{FileRow, Tree, UserRow, no_row, with_modes}
use Rattle.g_plain.proofs.Maps.{get-made, made_insert}
use Rattle.g_plain.proofs.TextMaps.{full_exact}

-- names that tie are one
tie : (o : Ordering) → is_eq o ≡ true → o ≡ Equal
tie Less e = absurd (true≢false (sym e))
tie Equal e = refl
tie Greater e = absurd (true≢false (sym e))

tied : (a b : Full) → eq_by_cmp full_cmp a b ≡ true → a ≡ b
tied a b e = full_exact a b (tie (full_cmp a b) e)

-- what a look-up of the entries finds is what the map has
pub row_found : (m : FinMap full_cmp FileRow) (es : List (Full × FileRow)) (full : Full) (o : Option FileRow) → from_entries es ≡ m → o ≡ lookup (is_at (full_cmp full)) es → o ≡ get m full
row_found m es full o is found = found ∙ sym (get-made full_total es full) ∙ ap (λ n. get n full) is

pub not_absent : {X : Type 0} (o : Option X) → is_some o ≡ true → None ≡ o → ⊥
not_absent o some none = cc (ap is_some none)

pub found_some : {X : Type 0} (x : X) (o : Option X) → Some x ≡ o → IsSome o
found_some x o e = subst IsSome e refl

-- a row that was written back
pub written : (m : FinMap full_cmp FileRow) (es fs : List (Full × FileRow)) (full : Full) (row : FileRow) → from_entries es ≡ m → ((q : Full) → lookup (is_at (full_cmp q)) fs ≡ cond (is_at (full_cmp full) q) (Some row) (lookup (is_at (full_cmp q)) es)) → from_entries fs ≡ insert m full row
written m es fs full row is looks = made_insert full_total full_exact es fs full row looks ∙ ap (λ n. insert n full row) is

pub row_is : (o : Option FileRow) (row : FileRow) → Some row ≡ o → row ≡ unwrap_or o no_row
row_is o row e = ap (λ p. unwrap_or p no_row) e

-- a placeholder under the new name leaves no trace
moved_at : (a b : Bool) (x y : Option FileRow) (o : Option FileRow) → cond a x (cond b None (cond a y o)) ≡ cond a x (cond b None o)
moved_at true b x y o = refl
moved_at false b x y o = refl

pub moved : (m : FinMap full_cmp FileRow) (full to : Full) (place row : FileRow) → insert (remove (insert m to place) full) to row ≡ insert (remove m full) to row
moved m full to place row =
    same_map full_total full_exact _ _
    (λ q. get-insert full_total _ to row q
    ∙ ap (cond (eq_by_cmp full_cmp q to) (Some row)) (get-remove full_total (insert m to place) full q ∙ ap (cond (eq_by_cmp full_cmp q full) None) (get-insert full_total m to place q))
    ∙ moved_at (eq_by_cmp full_cmp q to) (eq_by_cmp full_cmp q full) (Some row) (Some place) (get m q)
    ∙ sym (get-insert full_total (remove m full) to row q ∙ ap (cond (eq_by_cmp full_cmp q to) (Some row)) (get-remove full_total m full q)))

pub absent_is : {X : Type 0} (o : Option X) → is_some o ≡ false → o ≡ None
absent_is None e = refl
absent_is (Some x) e = absurd (true≢false e)

-- a name that no file has is another than that of a file
apart : (m : FinMap full_cmp FileRow) (full to : Full) → is_some (get m full) ≡ true → get m to ≡ None → (a b : Full) → a ≡ full → b ≡ to → eq_by_cmp full_cmp a b ≡ false
apart m full to there free a b fa tb =
    elim (eq_by_cmp full_cmp a b) as (λ t. eq_by_cmp full_cmp a b ≡ t → t ≡ false) [
      | true ↦ λ tie. absurd (not_absent (get m full) there (sym free ∙ ap (get m) (sym tb ∙ sym (tied a b tie) ∙ fa)))
      | false ↦ λ _. refl
    ] refl

pub there_still : (m : FinMap full_cmp FileRow) (full to : Full) (place : FileRow) → is_some (get m full) ≡ true → get m to ≡ None → get (insert m to place) full ≡ get m full
there_still m full to place there free =
    get-insert full_total m to place full ∙ ap (λ b. cond b (Some place) (get m full)) (apart m full to there free full to refl refl)

pub new_there : (m : FinMap full_cmp FileRow) (full to : Full) (place : FileRow) → is_some (get m full) ≡ true → get m to ≡ None → is_some (get (remove (insert m to place) full) to) ≡ true
new_there m full to place there free =
    ap is_some (get-remove full_total (insert m to place) full to
    ∙ ap (λ b. cond b None (get (insert m to place) to)) ((eq_by_cmp_equiv full_total).symm to full ∙ apart m full to there free full to refl refl)
    ∙ get-insert full_total m to place to ∙ ap (λ b. cond b (Some place) (get m to)) ((eq_by_cmp_equiv full_total).refl to))

-- Writing back an unchanged row changes nothing.
pub insert_same : (m : FinMap full_cmp FileRow) (full : Full) (row : FileRow) → Some row ≡ get m full → insert m full row ≡ m
insert_same m full row is =
    same_map full_total full_exact _ _
    (λ q. get-insert full_total m full row q
    ∙ elim (eq_by_cmp full_cmp q full) as (λ t. eq_by_cmp full_cmp q full ≡ t → cond t (Some row) (get m q) ≡ get m q) [
      | true ↦ λ tie. is ∙ ap (get m) (sym (tied q full tie))
      | false ↦ λ _. refl
    ] refl)

pub on_ok : {A E P Q : Type 0} (r : Result A E) → (P → Q) → OnOk r P → OnOk r Q
on_ok (Ok x) f p = f p
on_ok (Err e) f p = p

pub on_err : {A E P Q : Type 0} (r : Result A E) → (P → Q) → OnErr r P → OnErr r Q
on_err (Ok x) f p = p
on_err (Err e) f p = f p

abbrev pub renewed : List ℕ → ℕ → FileRow → FileRow
renewed bytes stamp row = record row { bytes = bytes; stamp = stamp }

abbrev pub with_row_modes : Full → List ℕ → ℕ → FileRow → FileRow
with_row_modes full user modes row = record row { traps = with_modes full user modes row.traps }

abbrev pub with_row_traps : FinMap text_cmp ℕ → FileRow → FileRow
with_row_traps traps row = record row { traps = traps }

abbrev pub with_users : FinMap text_cmp UserRow → Tree → Tree
with_users users t = record t { users = users }
