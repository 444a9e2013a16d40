-- The users of a store's records, and the rows of the tree that they represent.
-- serves: crates above
use Rattle.std.proofs.Common.{◌≡◌, ◌∙◌, ◌||◌, ◌∷◌, [], Bool, List, None, Option, Some, ap, cond, false, find, is_some, map, refl, sym, true, ℕ}
use Rattle.std.specs.FinMap as finmap
use Rattle.std.specs.FinMap.{entries, get, get-entries, get-from_entries}
use Rattle.std.specs.Cmp.Lexicographic.{texts_ties}
use Rattle.std.specs.List.{list_any}
use Rattle.std.specs.Option.{option_map}
use Rattle.std.specs.Ordering.{eq_by_cmp}
use Rattle.std.proofs.lemmas.Bool.{false≢true}
use Rattle.g_name.specs.Order.{same_text, text_cmp}
use Rattle.g_entry.specs.declared.file_rec.FileRec.{FileRec}
use Rattle.g_entry.specs.declared.user_rec.UserRec.{UserRec}
use Rattle.g_plain.specs.PlainTree.{UserRow}
use Rattle.g_plain.proofs.TextMaps.{text_total}
use Rattle.g_tree.specs.Records.{tree_of, user_row_of, users_by_name}
use Rattle.g_job_table.specs.Accounts.{HaveRows, record_budgets, row_budgets}
use Rattle.g_job_table.specs.Keeping.{user_in}
use Rattle.g_job_table.proofs.AccountLemmas.{same_eq, same_refl}

swap_true : (a b : List ℕ) → same_text a b ≡ true → same_text b a ≡ true
swap_true a b is = ap (λ (t : List ℕ). same_text t a) (sym (same_eq a b is)) ∙ same_refl a

same_swap : (a b : List ℕ) → same_text a b ≡ same_text b a
same_swap a b =
    elim (same_text a b) as (λ t. same_text a b ≡ t → t ≡ same_text b a) [
      | true ↦ λ is. sym (swap_true a b is)
      | false ↦ λ is.
          elim (same_text b a) as (λ u. same_text b a ≡ u → false ≡ u) [
            | true ↦ λ back. absurd (false≢true (sym is ∙ swap_true b a back))
            | false ↦ λ back. refl
          ] refl
    ] refl

module _ {V : Type 0} where
  value_cond : (b : Bool) (e : List ℕ × V) (rest : Option (List ℕ × V)) (later : Option V) → option_map (λ (d : List ℕ × V). d.1) rest ≡ later
      → option_map (λ (d : List ℕ × V). d.1) (cond b (Some e) rest) ≡ cond b (Some e.1) later
  value_cond true e rest later is = refl
  value_cond false e rest later is = is

  -- a look-up by equal text is a look-up by the order of texts
  found_by : (es : List (List ℕ × V)) (user : List ℕ) → option_map (λ (d : List ℕ × V). d.1) (find (λ e. same_text e.0 user) es) ≡ finmap.find text_cmp user es
  found_by [] user = refl
  found_by (e ∷ es) user =
      ap (λ (t : Bool). option_map (λ (d : List ℕ × V). d.1) (cond t (Some e) (find (λ d. same_text d.0 user) es))) (same_swap e.0 user ∙ texts_ties user e.0)
      ∙ value_cond (eq_by_cmp text_cmp user e.0) e (find (λ d. same_text d.0 user) es) (finmap.find text_cmp user es) (found_by es user)

  key_cond : (f : UserRec → V) (b : Bool) (u : UserRec) (rest : Option UserRec) (later : Option (List ℕ × V)) → later ≡ option_map (λ (r : UserRec). (r.user, f r)) rest
      → cond b (Some (u.user, f u)) later ≡ option_map (λ (r : UserRec). (r.user, f r)) (cond b (Some u) rest)
  key_cond f true u rest later is = refl
  key_cond f false u rest later is = is

  keyed_find : (f : UserRec → V) (users : List UserRec) (user : List ℕ) → find (λ (e : List ℕ × V). same_text e.0 user) (map (λ (r : UserRec). (r.user, f r)) users) ≡ option_map (λ (r : UserRec). (r.user, f r)) (user_in users user)
  keyed_find f [] user = refl
  keyed_find f (u ∷ users) user = key_cond f (same_text u.user user) u (user_in users user) _ (keyed_find f users user)

  value_key : (f : UserRec → V) (o : Option UserRec) → option_map (λ (d : List ℕ × V). d.1) (option_map (λ (r : UserRec). (r.user, f r)) o) ≡ option_map f o
  value_key f None = refl
  value_key f (Some u) = refl

  -- the value of a user in a map of records by name
  pub got_by_name : (f : UserRec → V) (users : List UserRec) (user : List ℕ) → get (finmap.from_entries {R = text_cmp} (map (λ (r : UserRec). (r.user, f r)) users)) user ≡ option_map f (user_in users user)
  got_by_name f users user =
      get-from_entries text_total (map (λ (r : UserRec). (r.user, f r)) users) user ∙ sym (found_by (map (λ (r : UserRec). (r.user, f r)) users) user)
      ∙ ap (option_map (λ (d : List ℕ × V). d.1)) (keyed_find f users user) ∙ value_key f (user_in users user)

  any_cond : (b c : Bool) (e : List ℕ × V) (rest : Option (List ℕ × V)) → c ≡ is_some rest → (b || c) ≡ is_some (cond b (Some e) rest)
  any_cond true c e rest is = refl
  any_cond false c e rest is = is

  any_found : (p : List ℕ × V → Bool) (es : List (List ℕ × V)) → list_any p es ≡ is_some (find p es)
  any_found p [] = refl
  any_found p (e ∷ es) = any_cond (p e) (list_any p es) e (find p es) (any_found p es)

  is_some-map : {W : Type 0} (f : W → V) (o : Option W) → is_some (option_map f o) ≡ is_some o
  is_some-map f None = refl
  is_some-map f (Some x) = refl

row_parts : (o : Option (List ℕ × UserRow)) → option_map row_budgets o ≡ option_map (λ (r : UserRow). (r.time, r.money)) (option_map (λ (d : List ℕ × UserRow). d.1) o)
row_parts None = refl
row_parts (Some e) = refl

budgets_of : (users : List UserRec) (o : Option UserRec) → option_map (λ (r : UserRow). (r.time, r.money)) (option_map (user_row_of users) o) ≡ option_map record_budgets o
budgets_of users None = refl
budgets_of users (Some u) = refl

row_found : (users : List UserRec) (files : List FileRec) (bytes : FileRec → List ℕ) (next : ℕ) (user : List ℕ)
    → option_map (λ (d : List ℕ × UserRow). d.1) (find (λ e. same_text e.0 user) (entries (tree_of users files bytes next).users)) ≡ option_map (user_row_of users) (user_in users user)
row_found users files bytes next user =
    found_by (entries (tree_of users files bytes next).users) user ∙ sym (get-entries (tree_of users files bytes next).users user)
    ∙ got_by_name (user_row_of users) users user

-- the rows of the tree that records represent are those of the records
pub rows_have : (users : List UserRec) (files : List FileRec) (bytes : FileRec → List ℕ) (next : ℕ) → HaveRows users (entries (tree_of users files bytes next).users)
rows_have users files bytes next user =
    sym (row_parts (find (λ e. same_text e.0 user) (entries (tree_of users files bytes next).users))
    ∙ ap (option_map (λ (r : UserRow). (r.time, r.money))) (row_found users files bytes next user) ∙ budgets_of users (user_in users user))

-- a user of the tree is one of the records
pub knows_is : (users : List UserRec) (files : List FileRec) (bytes : FileRec → List ℕ) (next : ℕ) (user : List ℕ)
    → list_any (λ e. same_text e.0 user) (entries (tree_of users files bytes next).users) ≡ is_some (get (users_by_name users) user)
knows_is users files bytes next user =
    let rows = entries (tree_of users files bytes next).users in
    any_found (λ (e : List ℕ × UserRow). same_text e.0 user) rows
    ∙ sym (is_some-map (λ (d : List ℕ × UserRow). d.1) (find (λ e. same_text e.0 user) rows))
    ∙ ap is_some (row_found users files bytes next user) ∙ is_some-map (user_row_of users) (user_in users user)
    ∙ sym (ap is_some (got_by_name (λ (r : UserRec). r) users user) ∙ is_some-map (λ (r : UserRec). r) (user_in users user))
