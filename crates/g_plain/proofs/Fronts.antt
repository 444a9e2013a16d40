-- Checks that precede others.
-- serves: append, closed_to, granted_name, input, input_fault, output, rename, trap_check, trap_go, crates above
use Rattle.std.proofs.Common.{◌≡◌, Bool, true, false, cond, not, ◌++◌, List, [], ◌∷◌, ℕ, Option, Some, None, Result, Ok, is_some, refl, sym, ap, ◌∙◌, true≢false}
use Rattle.std.specs.List.{AllByRecursion}
use Rattle.g_name.specs.declared.full.Full.{Full}
use Rattle.g_plain.specs.declared.names.NamedFile.{NamedFile}
use Rattle.g_plain.specs.declared.refusals.CallName.{CallName}
use Rattle.g_plain.specs.declared.refusals.CallName.TheVariants as name
use Rattle.g_plain.specs.declared.refusals.GrantedName.{GrantedName}
use Rattle.g_plain.specs.declared.calls.StoreCall.{StoreCall}
use Rattle.g_plain.specs.declared.faults.StoreFault.{StoreFault}
use Rattle.g_plain.specs.declared.faults.StoreFault.TheVariants.{NoUser}
use Rattle.g_plain.specs.PlainTree.{Tree, has_user}
use Rattle.g_plain.specs.PlainStep.{Checks, first_fault, checks, fault_in}
use Rattle.g_plain.specs.Grants.{fault_or, file_named, granted_by, granted_of, name_granted, name_in}
use Rattle.g_plain.proofs.StepKept.{all_passed}

front_some : (a b : Checks) → is_some (first_fault a) ≡ true → first_fault a ≡ first_fault (a ++ b)
front_some [] b some = absurd (true≢false (sym some))
front_some (c ∷ a) b some =
    elim c.0 as (λ t. is_some (cond t (Some c.1) (first_fault a)) ≡ true → cond t (Some c.1) (first_fault a) ≡ cond t (Some c.1) (first_fault (a ++ b))) [
      | true ↦ λ _. refl
      | false ↦ λ h. front_some a b h
    ] some

front_none : (a b : Checks) → is_some (first_fault a) ≡ false → first_fault (a ++ b) ≡ first_fault b
front_none [] b none = refl
front_none (c ∷ a) b none =
    elim c.0 as (λ t. is_some (cond t (Some c.1) (first_fault a)) ≡ false → cond t (Some c.1) (first_fault (a ++ b)) ≡ first_fault b) [
      | true ↦ λ h. absurd (true≢false h)
      | false ↦ λ h. front_none a b h
    ] none

-- a fault of the front is that of all
pub front_fault : (a b : Checks) (r : Option StoreFault) → r ≡ first_fault a → is_some r ≡ true → r ≡ first_fault (a ++ b)
front_fault a b r e some = e ∙ front_some a b (ap is_some (sym e) ∙ some)

-- If the first checks find no fault, the fault is that of the rest.
pub front_passed : (a b : Checks) (r : Option StoreFault) → r ≡ first_fault a → is_some r ≡ false → first_fault b ≡ first_fault (a ++ b)
front_passed a b r e none = sym (front_none a b (ap is_some (sym e) ∙ none))

-- The last check, if those before it find no fault.
pub last_fault : (a : Checks) (test : Bool) (f : StoreFault) (r : Option StoreFault) (b : Bool) → r ≡ first_fault a → is_some r ≡ false → b ≡ test
    → cond b (Some f) None ≡ first_fault (a ++ (test, f) ∷ [])
last_fault a test f r b e none same = ap (λ t. cond t (Some f) None) same ∙ front_passed a ((test, f) ∷ []) r e none

none_of : {X : Type 0} (o : Option X) → is_some o ≡ false → o ≡ None
none_of None e = refl
none_of (Some x) e = absurd (true≢false e)

pub front_tests : (a : Checks) (r : Option StoreFault) → r ≡ first_fault a → is_some r ≡ false → AllByRecursion (λ c. c.0 ≡ false) a
front_tests a r e none = all_passed a (none_of (first_fault a) (ap is_some (sym e) ∙ none))

-- What is granted to an existing caller.
pub known_granted : (numbers : Full → Option ℕ) (t : Tree) (who : List ℕ) (call other : StoreCall) (r : Result GrantedName StoreFault) → has_user t who ≡ true → call ≡ other
    → r ≡ granted_by (checks t who other) (name_granted numbers (name_in t who other)) → r ≡ granted_of numbers t who call
known_granted numbers t who call other r there is e =
    e ∙ ap (λ b. fault_or (cond (not b) (Some NoUser) (first_fault (checks t who other))) (name_granted numbers (name_in t who other))) (sym there) ∙ ap (granted_of numbers t who) (sym is)

value_of : {A : Type 0} (o : Option StoreFault) (v x : A) → Ok x ≡ fault_or o v → x ≡ v
value_of (Some g) v x e = absurd cc
value_of None v x e = cc

-- what is granted by tests is their value, and none of them holds
pub granted_is : {A : Type 0} (a : Checks) (v x : A) → Ok x ≡ granted_by a v → x ≡ v
granted_is a v x e = value_of (first_fault a) v x e

-- A name for input determines its full name.
pub same_input : (a b : Full) → name.Input a ≡ name.Input b → a ≡ b
same_input a b e = cc

-- What a call without a fault is granted, if its file is known.
module _ (numbers : Full → Option ℕ) (t : Tree) (who : List ℕ) (call : StoreCall) (file : NamedFile) (named : Full) (is : file ≡ file_named numbers named) (fault : None ≡ fault_in t who call) where
  known_fault : (name : CallName) → Ok (name_granted numbers name) ≡ granted_by (checks t who call) (name_granted numbers name)
  known_fault name = ap (λ o. fault_or o (name_granted numbers name)) fault

  pub input_granted : name.Input named ≡ name_in t who call → Ok (record { name = name.Input file.full; number = file.number }) ≡ granted_by (checks t who call) (name_granted numbers (name_in t who call))
  input_granted there =
      (λ i. let it : GrantedName = record { name = name.Input (is i).full; number = (is i).number } in Ok it)
      ∙ ap (λ n. Ok (name_granted numbers n)) there ∙ known_fault (name_in t who call)

  pub output_granted : name.Output named ≡ name_in t who call → Ok (record { name = name.Output file.full; number = file.number }) ≡ granted_by (checks t who call) (name_granted numbers (name_in t who call))
  output_granted there =
      (λ i. let it : GrantedName = record { name = name.Output (is i).full; number = (is i).number } in Ok it)
      ∙ ap (λ n. Ok (name_granted numbers n)) there ∙ known_fault (name_in t who call)
