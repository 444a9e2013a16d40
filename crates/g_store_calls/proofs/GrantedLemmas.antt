-- What a call is granted, of the records of the filestore, and how it is answered by a change of them.
-- serves: answer, append (answers, kind), budget (answers, kind), closed_file, erase (answers, kind), fetch (answers, kind), and 11 more
use Rattle.std.proofs.Common.{◌≡◌, ℕ, true, List, Option, Some, None, Result, Ok, Err, IfErr, IfOk, refl, sym, ap, subst, ◌∙◌}
use Rattle.std.specs.List.{Contains}
use Rattle.std.specs.Result.{result_err}
use Rattle.g_entry.specs.declared.file_rec.FileRec.{FileRec}
use Rattle.g_entry.specs.declared.user_rec.UserRec.{UserRec}
use Rattle.g_name.specs.declared.full.Full.{Full}
use Rattle.g_name.specs.declared.path.Path.{Path}
use Rattle.g_plain.specs.declared.calls.StoreCall.{StoreCall}
use Rattle.g_plain.specs.declared.calls.StoreCall.TheVariants.{Budget, List as ListFiles, NewUser, Put}
use Rattle.g_plain.specs.declared.calls.StoreReply.{StoreReply}
use Rattle.g_plain.specs.declared.faults.StoreFault.{StoreFault}
use Rattle.g_plain.specs.declared.refusals.CallName.{CallName}
use Rattle.g_plain.specs.declared.refusals.CallName.TheVariants as name
use Rattle.g_plain.specs.Grants.{name_in}
use Rattle.g_plain.specs.PlainTree.{Tree, input_name, output_name}
use Rattle.g_plain.specs.Replies.{IsReplyTo}
use Rattle.g_tree.specs.AskedRecords.{IsGranted, zeros}
use Rattle.g_tree.specs.declared.asked.Granted.{Granted}
use Rattle.g_tree.specs.declared.asked.Granted.TheVariants.{Input, Nothing, Output}
use Rattle.g_tree.specs.Records.{ForTree, name_of_file, number_of, tree_of}
use Rattle.g_tree.proofs.NamedLemmas.{name_found, number_there}
use Rattle.g_disc_contents.specs.Contents.{Contents, recs_in}
use Rattle.g_disc_contents.specs.Facts.{IsTied, OnlineFacts}
use Rattle.g_online.specs.declared.change.Change.{Change}
use Rattle.g_migrate.proofs.MigrationLemmas.{rules_here}
use Rattle.g_store_calls.specs.Answering.{AnswersIn}
use Rattle.g_store_calls.specs.AppliedChange.{HasAnswered}
use Rattle.g_store_calls.specs.GrantedCalls.{Grants, names_input, names_none, names_output}
use Rattle.g_store_calls.specs.Kinds.{IsSettled}
use Rattle.g_store_calls.specs.NewRecords.{GrantsFile, IsFileAt}
use Rattle.g_store_calls.specs.Replies.{IsThere, RefusesAs}
use Rattle.g_store_calls.proofs.EraseLemmas.{file_at}
use Rattle.g_store_calls.proofs.KindLemmas.{settled_applied}
use Rattle.g_store_calls.proofs.RecordLemmas.{IsRecorded, recorded, IsFileNamed}
use Rattle.g_store_calls.proofs.TellLemmas.{refuses_of}

-- THE FILE that a call names for input
module _ (o : OnlineFacts) (live : o.live ≡ true) (tied : IsTied o) (who : List ℕ) (call : StoreCall) (path : Path) (number : ℕ) (full : Full)
    (named : (t : Tree) → name_in t who call ≡ name.Input (input_name t who path)) (granted : Grants o who call (Input number full)) where
  by_name : ForTree o.contents.users (recs_in o.contents) (λ t. (full ≡ input_name t who path) × (number_of o.contents.users (recs_in o.contents) (input_name t who path) ≡ Some number))
  by_name bytes next =
      subst (λ (n : CallName). IsGranted o.contents.users (recs_in o.contents) n (Input number full)) (named (tree_of o.contents.users (recs_in o.contents) bytes next)) (granted.file bytes next)

  pub granted_at : IsFileAt o.contents.users (recs_in o.contents) who path number full
  granted_at =
      let users = o.contents.users in
      let recs = recs_in o.contents in
      let it = by_name zeros 0 in
      file_at users recs who path number full (rules_here o live tied).records (sym (ap (number_of users recs) it.0 ∙ it.1)) (λ bytes next. (by_name bytes next).0)

  -- of a tree that has these records
  pub granted_on : (us : List UserRec) (fs : List FileRec) → us ≡ o.contents.users → fs ≡ recs_in o.contents → GrantsFile us fs who call path number full
  granted_on us fs users files =
      subst (λ (x : List UserRec). GrantsFile x fs who call path number full) (sym users)
      (subst (λ (rs : List FileRec). GrantsFile o.contents.users rs who call path number full) (sym files)
      (record { next = o.contents.head.next_stamp; allowed = granted.allowed; file = granted_at }))

  pub granted_named : (us : List UserRec) (fs : List FileRec) → us ≡ o.contents.users → fs ≡ recs_in o.contents → name_of_file us fs number ≡ Some full
  granted_named us fs users files =
      let it = by_name zeros 0 in
      subst (λ (x : List UserRec). name_of_file x fs number ≡ Some full) (sym users)
      (subst (λ (rs : List FileRec). name_of_file o.contents.users rs number ≡ Some full) (sym files)
      (name_found o.contents.users (recs_in o.contents) full number (rules_here o live tied).records (ap (number_of o.contents.users (recs_in o.contents)) it.0 ∙ it.1)))

  pub granted_there : (fs : List FileRec) → fs ≡ recs_in o.contents → IsThere fs number
  granted_there fs files =
      subst (λ (rs : List FileRec). IsThere rs number) (sym files)
      (number_there o.contents.users (recs_in o.contents) full number (granted_named o.contents.users (recs_in o.contents) refl refl))

-- its record
pub there_at : (users : List UserRec) (files : List FileRec) (who : List ℕ) (path : Path) (number : ℕ) (full : Full) → IsFileAt users files who path number full
    → (r : FileRec) × Contains files r × (r.number ≡ number)
there_at users files who path number full at = (at.rec, at.there, at.number_is)

pub named_of : (users : List UserRec) (files : List FileRec) (who : List ℕ) (path : Path) (number : ℕ) (full : Full) (old : FileRec) → IsFileAt users files who path number full
    → ((r : FileRec) → Contains files r → r.number ≡ number → old ≡ r) → IsFileNamed users files who path old full
named_of users files who path number full old at is =
    subst (λ (r : FileRec). IsFileNamed users files who path r full) (sym (is at.rec at.there at.number_is)) (record { there = at.there; name_is = at.name_is; named = at.named })

-- THE NAME that a Put denotes for output
module _ (o : OnlineFacts) (live : o.live ≡ true) (tied : IsTied o) (who : List ℕ) (path : Path) (bytes : List ℕ) (number : Option ℕ) (full : Full)
    (granted : Grants o who (Put path bytes) (Output number full)) where
  pub output_called : ForTree o.contents.users (recs_in o.contents) (λ t. full ≡ output_name t who path)
  output_called some next = (granted.file some next).0

  pub output_number : number ≡ number_of o.contents.users (recs_in o.contents) full
  output_number =
      let it = granted.file zeros 0 in
      it.1 ∙ ap (number_of o.contents.users (recs_in o.contents)) (sym it.0)

  pub output_there : (n : ℕ) → number ≡ Some n → name_of_file o.contents.users (recs_in o.contents) n ≡ Some full
  output_there n is = name_found o.contents.users (recs_in o.contents) full n (rules_here o live tied).records (sym output_number ∙ is)

  pub output_none : number ≡ None → number_of o.contents.users (recs_in o.contents) full ≡ None
  output_none is = sym output_number ∙ is

-- ANSWERED by a change
pub answered : (o new : OnlineFacts) (who : List ℕ) (call : StoreCall) (change : Change) (e : Contents) (owners : List ℕ) (reply : StoreReply) → IsRecorded o who call change e owners reply
    → (answer : Result StoreReply StoreFault) → HasAnswered change reply o new answer → AnswersIn who call o answer new
answered o new who call change e owners reply is answer has =
    subst (λ (a : Result StoreReply StoreFault). AnswersIn who call o a new) (sym has.is) (recorded o new who call change e owners reply is has.made has.applied)

pub settled : (change : Change) (o new : OnlineFacts) (call : StoreCall) (reply : StoreReply) → IsReplyTo call reply → (answer : Result StoreReply StoreFault) → HasAnswered change reply o new answer
    → IsSettled call answer
settled change o new call reply kind answer has = subst (λ (a : Result StoreReply StoreFault). IsSettled call a) (sym has.is) (settled_applied change o new call reply kind has.made has.applied)

-- REFUSED OR GRANTED: the records of the filestore are those that the tree has
module _ (o : OnlineFacts) (us : List UserRec) (fs : List FileRec) (next : ℕ) (who : List ℕ) (call : StoreCall) where
  pub refused_on : (r : Result Granted StoreFault) → us ≡ o.contents.users → fs ≡ recs_in o.contents → next ≡ o.contents.head.next_stamp → RefusesAs us fs next who call (result_err r)
      → IfErr r (λ fault. RefusesAs o.contents.users (recs_in o.contents) o.contents.head.next_stamp who call (Some fault))
  refused_on (Ok granted) users files stamp is = tt
  refused_on (Err fault) users files stamp is = refuses_of o us fs next who call (Some fault) users files stamp is

  pub grants_on : (r : Result Granted StoreFault) → us ≡ o.contents.users → fs ≡ recs_in o.contents → next ≡ o.contents.head.next_stamp → RefusesAs us fs next who call (result_err r)
      → IfOk r (λ granted. ForTree us fs (λ t. IsGranted us fs (name_in t who call) granted)) → IfOk r (Grants o who call)
  grants_on (Ok granted) users files stamp is file = record {
    allowed = refuses_of o us fs next who call None users files stamp is;
    file =
        subst (λ (rs : List FileRec). ForTree o.contents.users rs (λ t. IsGranted o.contents.users rs (name_in t who call) granted)) files
        (subst (λ (x : List UserRec). ForTree x fs (λ t. IsGranted x fs (name_in t who call) granted)) users file);
  }
  grants_on (Err fault) users files stamp is file = tt

-- by what is granted one sees what the call names
pub none_named : (o : OnlineFacts) (who : List ℕ) (call : StoreCall) → Grants o who call Nothing → names_none call ≡ true
none_named o who (NewUser user space time money) granted = refl
none_named o who (Budget user kind amount) granted = refl
none_named o who (ListFiles user) granted = refl
none_named o who call granted = absurd (granted.file zeros 0)

pub input_named : (o : OnlineFacts) (who : List ℕ) (call : StoreCall) (number : ℕ) (full : Full) → Grants o who call (Input number full) → names_input call ≡ true
input_named o who (NewUser user space time money) number full granted = absurd (granted.file zeros 0)
input_named o who (Budget user kind amount) number full granted = absurd (granted.file zeros 0)
input_named o who (ListFiles user) number full granted = absurd (granted.file zeros 0)
input_named o who (Put path bytes) number full granted = absurd (granted.file zeros 0)
input_named o who call number full granted = refl

pub output_named : (o : OnlineFacts) (who : List ℕ) (call : StoreCall) (number : Option ℕ) (full : Full) → Grants o who call (Output number full) → names_output call ≡ true
output_named o who (Put path bytes) number full granted = refl
output_named o who call number full granted = absurd (granted.file zeros 0)
