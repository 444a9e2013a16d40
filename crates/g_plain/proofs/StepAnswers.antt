-- The plain step's replies are of the call's kind, and its faults are its own.
-- serves: plain_refusal_changes_nothing, crates above
use Rattle.std.proofs.Common.{◌≡◌, ℕ, ◌+◌, Bool, true, false, cond, not, ◌&&◌, ◌||◌, nat_le, List, [], ◌∷◌, length, Option, Some, None, Result, Ok, Err, IsErr, refl, sym, ap, ◌∙◌, is_some, arith, true≢false}
use Rattle.std.specs.List.{AllByRecursion, list_all}
use Rattle.g_plain.specs.declared.calls.StoreCall.{StoreCall}
use Rattle.g_plain.specs.declared.calls.StoreCall.TheVariants.{NewUser, Budget, Put, Append, Fetch, Erase, Rename, List as ListFiles, TrapGo, TrapStop, TrapCheck, Retrieve}
use Rattle.g_plain.specs.declared.calls.StoreReply.{StoreReply}
use Rattle.g_plain.specs.declared.faults.StoreFault.{StoreFault}
use Rattle.g_plain.specs.declared.faults.StoreFault.TheVariants.{NoUser}
use Rattle.g_plain.specs.Faults.{fault_number}
use Rattle.g_plain.specs.PlainTree.{Tree, has_user, file_row, input_name}
use Rattle.g_plain.specs.PlainStep.{Checks, first_fault, checks, fault_of, reply_to, tree_after, plain_answer, plain_tree}
use Rattle.g_plain.specs.Replies.{IsReplyTo}
use Rattle.g_plain.specs.Rules.{IsTree}
use Rattle.g_plain.proofs.StepKept.{all_passed, not_false, not_above, file_rules}
use Rattle.g_plain.proofs.Found.{same_some}

-- the faults of the plain step have the numbers 1 to 10, 18 and 19
abbrev pub is_plain : StoreFault → Bool
is_plain fault = nat_le (fault_number fault) 10 || nat_le 18 (fault_number fault) && nat_le (fault_number fault) 19

all_plain : (t : Tree) (who : List ℕ) (call : StoreCall) → list_all (λ c. is_plain c.1) (checks t who call) ≡ true
all_plain t who (NewUser user space time money) = refl
all_plain t who (Budget user kind amount) = refl
all_plain t who (Put path bytes) = refl
all_plain t who (Append path bytes) = refl
all_plain t who (Fetch path mode) = refl
all_plain t who (Erase path) = refl
all_plain t who (Rename path to) = refl
all_plain t who (ListFiles user) = refl
all_plain t who (TrapGo path user modes) = refl
all_plain t who (TrapStop path user modes) = refl
all_plain t who (TrapCheck path user) = refl
all_plain t who (Retrieve path) = refl

both_true : (a b : Bool) → (a && b) ≡ true → (a ≡ true) × (b ≡ true)
both_true true b e = (refl, e)
both_true false b e = absurd (true≢false (sym e))

first_plain : (cs : Checks) (f : StoreFault) → list_all (λ c. is_plain c.1) cs ≡ true → first_fault cs ≡ Some f → is_plain f ≡ true
first_plain [] f all e = absurd (true≢false (sym (ap is_some e)))
first_plain (c ∷ cs) f all e =
    let parts = both_true (is_plain c.1) (list_all (λ d. is_plain d.1) cs) all in
    elim c.0 as (λ b. cond b (Some c.1) (first_fault cs) ≡ Some f → is_plain f ≡ true) [
      | true ↦ λ h. ap is_plain (sym (same_some c.1 f h)) ∙ parts.0
      | false ↦ λ h. first_plain cs f parts.1 h
    ] e

abbrev plain_by : Tree → List ℕ → StoreCall → Option StoreFault → Result StoreReply StoreFault
plain_by t who call o = elim o [ Some fault ↦ Err fault | None ↦ Ok (reply_to t who call) ]

abbrev tree_by : Tree → List ℕ → StoreCall → Option StoreFault → Tree
tree_by t who call o = elim o [ Some fault ↦ t | None ↦ tree_after t who call ]

same_err : (a b : StoreFault) → (let x : Result StoreReply StoreFault = Err a in x ≡ Err b) → a ≡ b
same_err a b e = cc

-- a fault that isn't of the plain step's own is never its fault
pub own_fault : (t : Tree) (who : List ℕ) (call : StoreCall) (f g : StoreFault) → Some f ≡ fault_of t who call → (let x : Result StoreReply StoreFault = Err f in x ≡ Err g) → is_plain g ≡ true
own_fault t who call f g some e =
    ap is_plain (sym (same_err f g e)) ∙ first_plain ((not (has_user t who), NoUser) ∷ checks t who call) f (all_plain t who call) (sym some)

kind_of : (t : Tree) (who : List ℕ) (call : StoreCall) → IsTree t → AllByRecursion (λ c. c.0 ≡ false) ((not (has_user t who), NoUser) ∷ checks t who call) → IsReplyTo call (reply_to t who call)
kind_of t who (NewUser user space time money) is p = tt
kind_of t who (Budget user kind amount) is p = tt
kind_of t who (Put path bytes) is p = not_above 65536 (length bytes) p.1.1.1.1.1.0
kind_of t who (Append path bytes) is p =
    let all = not_above 65536 (length (file_row t (input_name t who path)).bytes + length bytes) p.1.1.1.1.0 in
    omega arith
kind_of t who (Fetch path mode) is p = (file_rules t (input_name t who path) is (not_false _ p.1.1.0)).bytes
kind_of t who (Erase path) is p = tt
kind_of t who (Rename path to) is p = tt
kind_of t who (ListFiles user) is p = tt
kind_of t who (TrapGo path user modes) is p = tt
kind_of t who (TrapStop path user modes) is p = tt
kind_of t who (TrapCheck path user) is p = tt
kind_of t who (Retrieve path) is p = tt

pub granted_kind : (t : Tree) (who : List ℕ) (call : StoreCall) → IsTree t → None ≡ fault_of t who call → IsReplyTo call (reply_to t who call)
granted_kind t who call is none = kind_of t who call is (all_passed ((not (has_user t who), NoUser) ∷ checks t who call) (sym none))

pub refused_same : (t : Tree) (who : List ℕ) (call : StoreCall) → IsErr (plain_answer t who call) → plain_tree t who call ≡ t
refused_same t who call is =
    elim (fault_of t who call) as (λ o. IsErr (plain_by t who call o) → tree_by t who call o ≡ t) [ Some fault ↦ λ _. refl | None ↦ λ h. absurd (true≢false (sym h)) ] is
