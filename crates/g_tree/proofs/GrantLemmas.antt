-- What a call is granted, by the name that the plain step's look-up gives.
-- serves: refusal_of (granted, refused)
use Rattle.std.proofs.Common.{◌≡◌, ℕ, ◌+◌, true, false, not, List, ◌∷◌, Option, Some, None, Result, Ok, Err, unwrap_or, refl, sym, ap, subst, ◌∙◌}
use Rattle.std.specs.Result.{result_err}
use Rattle.std.specs.List.{AllByRecursion}
use Rattle.g_name.specs.declared.full.Full.{Full}
use Rattle.g_name.specs.declared.path.Path.{Path}
use Rattle.g_entry.specs.declared.user_rec.UserRec.{UserRec}
use Rattle.g_entry.specs.declared.file_rec.FileRec.{FileRec}
use Rattle.g_plain.specs.declared.calls.StoreCall.{StoreCall}
use Rattle.g_plain.specs.declared.calls.StoreCall.TheVariants.{NewUser, Budget, Put, Append, Fetch, Erase, Rename, List as ListFiles, TrapGo, TrapStop, TrapCheck, Retrieve}
use Rattle.g_plain.specs.declared.faults.StoreFault.{StoreFault}
use Rattle.g_plain.specs.declared.faults.StoreFault.TheVariants.{NoUser}
use Rattle.g_plain.specs.declared.refusals.CallName.{CallName}
use Rattle.g_plain.specs.declared.refusals.CallName.TheVariants as name
use Rattle.g_plain.specs.declared.refusals.GrantedName.{GrantedName}
use Rattle.g_plain.specs.PlainTree.{Tree, has_file, has_user, input_name, newest, named}
use Rattle.g_plain.specs.PlainStep.{checks, fault_of}
use Rattle.g_plain.specs.Grants.{fault_or, granted_of, name_granted, name_in, number_in}
use Rattle.g_plain.proofs.StepKept.{all_passed, not_false}
use Rattle.g_tree.specs.Records.{ForTree, HasLengths, IsRecords, number_of, tree_of}
use Rattle.g_tree.specs.AskedRecords.{IsGranted, zeros}
use Rattle.g_tree.specs.declared.asked.Granted.{Granted}
use Rattle.g_tree.proofs.FaultLemmas.{fault_same}
use Rattle.g_tree.proofs.NamedLemmas.{zeros_fit}
use Rattle.g_tree.proofs.RecordLemmas.{file_there, newest_is}
use Rattle.g_plain.proofs.Fronts.{granted_is}

fault_is : {A : Type 0} (o : Option StoreFault) (v : A) (r : Result A StoreFault) → r ≡ fault_or o v → result_err r ≡ o
fault_is (Some f) v r e = ap result_err e
fault_is None v r e = ap result_err e

none_is : {A : Type 0} (o : Option StoreFault) (v x : A) → Ok x ≡ fault_or o v → o ≡ None
none_is (Some f) v x e = absurd cc
none_is None v x e = refl

input_is : (a b : Full) → name.Input a ≡ name.Input b → a ≡ b
input_is a b e = cc

-- A file that a granted call names for input exists.
input_there : (t : Tree) (who : List ℕ) (call : StoreCall) (full : Full) → AllByRecursion (λ c. c.0 ≡ false) ((not (has_user t who), NoUser) ∷ checks t who call) → name.Input full ≡ name_in t who call
    → has_file t full ≡ true
input_there t who (NewUser user space time money) full p e = absurd cc
input_there t who (Budget user kind amount) full p e = absurd cc
input_there t who (ListFiles user) full p e = absurd cc
input_there t who (Put path text) full p e = absurd cc
input_there t who (Append path text) full p e = ap (has_file t) (input_is full (input_name t who path) e) ∙ not_false _ p.1.1.0
input_there t who (Fetch path mode) full p e = ap (has_file t) (input_is full (input_name t who path) e) ∙ not_false _ p.1.1.0
input_there t who (Erase path) full p e = ap (has_file t) (input_is full (input_name t who path) e) ∙ not_false _ p.1.1.0
input_there t who (Rename path to) full p e = ap (has_file t) (input_is full (input_name t who path) e) ∙ not_false _ p.1.1.0
input_there t who (TrapGo path user modes) full p e = ap (has_file t) (input_is full (input_name t who path) e) ∙ not_false _ p.1.1.0
input_there t who (TrapStop path user modes) full p e = ap (has_file t) (input_is full (input_name t who path) e) ∙ not_false _ p.1.1.0
input_there t who (TrapCheck path user) full p e = ap (has_file t) (input_is full (input_name t who path) e) ∙ not_false _ p.1.1.0
input_there t who (Retrieve path) full p e = ap (has_file t) (input_is full (input_name t who path) e) ∙ not_false _ p.1.1.0

module _ (users : List UserRec) (files : List FileRec) (is : IsRecords users files) where
  newest_same : (one two : FileRec → List ℕ) (m n : ℕ) (who : List ℕ) (path : Path) → newest (tree_of users files one m) who path ≡ newest (tree_of users files two n) who path
  newest_same one two m n who path = newest_is users files one m who path is ∙ sym (newest_is users files two n who path is)

  input_same : (one two : FileRec → List ℕ) (m n : ℕ) (who : List ℕ) (path : Path) → name.Input (input_name (tree_of users files one m) who path) ≡ name.Input (input_name (tree_of users files two n) who path)
  input_same one two m n who path = ap (λ k. name.Input (named who path (unwrap_or path.generation k))) (newest_same one two m n who path)

  -- the name goes neither by the bytes nor by the next stamp
  name_same : (one two : FileRec → List ℕ) (m n : ℕ) (who : List ℕ) (call : StoreCall) → name_in (tree_of users files one m) who call ≡ name_in (tree_of users files two n) who call
  name_same one two m n who (NewUser user space time money) = refl
  name_same one two m n who (Budget user kind amount) = refl
  name_same one two m n who (ListFiles user) = refl
  name_same one two m n who (Put path text) = ap (λ k. name.Output (named who path (unwrap_or path.generation (k + 1)))) (newest_same one two m n who path)
  name_same one two m n who (Append path text) = input_same one two m n who path
  name_same one two m n who (Fetch path mode) = input_same one two m n who path
  name_same one two m n who (Erase path) = input_same one two m n who path
  name_same one two m n who (Rename path to) = input_same one two m n who path
  name_same one two m n who (TrapGo path user modes) = input_same one two m n who path
  name_same one two m n who (TrapStop path user modes) = input_same one two m n who path
  name_same one two m n who (TrapCheck path user) = input_same one two m n who path
  name_same one two m n who (Retrieve path) = input_same one two m n who path

  module _ (next : ℕ) (who : List ℕ) (call : StoreCall) where
    abbrev t : Tree
    t = tree_of users files zeros next

    -- refused on zeros as on the bytes
    pub refused_as : {A : Type 0} (bytes : FileRec → List ℕ) (fault : StoreFault) (v : A) → Err fault ≡ fault_or (fault_of t who call) v → HasLengths files bytes → Some fault ≡ fault_of (tree_of users files bytes next) who call
    refused_as bytes fault v e lengths = fault_is (fault_of t who call) v (Err fault) e ∙ fault_same users files zeros bytes next is (zeros_fit files) lengths who call

    module _ (called : GrantedName) (e : Ok called ≡ granted_of (number_of users files) t who call) where
      abbrev none : fault_of t who call ≡ None
      none = none_is (fault_of t who call) (name_granted (number_of users files) (name_in t who call)) called e

      abbrev value : called ≡ name_granted (number_of users files) (name_in t who call)
      value = granted_is ((not (has_user t who), NoUser) ∷ checks t who call) (name_granted (number_of users files) (name_in t who call)) called e

      pub allowed_as : (bytes : FileRec → List ℕ) → HasLengths files bytes → None ≡ fault_of (tree_of users files bytes next) who call
      allowed_as bytes lengths = sym none ∙ fault_same users files zeros bytes next is (zeros_fit files) lengths who call

      pub numbered : called.number ≡ number_in (number_of users files) called.name
      numbered = ap (λ c. c.number) value ∙ sym (ap (λ c. number_in (number_of users files) c.name) value)

      -- what is granted by the name on zeros is so on any bytes
      pub granted_as : (granted : Granted) → IsGranted users files called.name granted → ForTree users files (λ u. IsGranted users files (name_in u who call) granted)
      granted_as granted by bytes other =
          subst (λ (c : CallName). IsGranted users files c granted) (ap (λ c. c.name) value ∙ name_same zeros bytes next other who call) by

      pub input_found : (full : Full) → called.name ≡ name.Input full → ForTree users files (λ u. has_file u full ≡ true)
      input_found full named bytes other =
          let there = input_there t who call full (all_passed ((not (has_user t who), NoUser) ∷ checks t who call) none) (sym named ∙ ap (λ c. c.name) value) in
          sym (file_there users files bytes other full) ∙ file_there users files zeros next full ∙ there
