-- Answers are of their call's kind; and an answer that concerns only the disc is one that concerns disc and rack.
-- serves: answer (answers, kind), list (kind), of_file (answers, kind), trap_check (kind), GrantedLemmas, RecordLemmas, SetLemmas, TellLemmas, TrapLemmas
use Rattle.std.proofs.Common.{◌≡◌, ℕ, true, List, Some, Result, Ok, Err, refl, sym, inl, inr, subst}
use Rattle.std.specs.Prelude.{◌⊎◌, not}
use Rattle.std.proofs.lemmas.Bool.{false≢true}
use Rattle.g_entry.specs.declared.file_rec.FileRec.{FileRec}
use Rattle.g_entry.specs.declared.user_rec.UserRec.{UserRec}
use Rattle.g_tape.specs.Rack.{Rack}
use Rattle.g_plain.specs.declared.calls.StoreCall.{StoreCall}
use Rattle.g_plain.specs.declared.calls.StoreCall.TheVariants.{List as ListFiles, TrapCheck}
use Rattle.g_plain.specs.declared.calls.StoreReply.{StoreReply}
use Rattle.g_plain.specs.declared.faults.StoreFault.{StoreFault}
use Rattle.g_plain.specs.declared.faults.StoreFault.TheVariants.{NoMemory, Stopped, WaitTape}
use Rattle.g_plain.specs.PlainStep.{reply_to}
use Rattle.g_plain.specs.PlainTree.{Tree}
use Rattle.g_plain.specs.Replies.{IsReplyTo}
use Rattle.g_plain.proofs.StepAnswers.{own_fault}
use Rattle.g_tree.specs.AskedRecords.{zeros}
use Rattle.g_tree.specs.Records.{tree_of, HasLengths}
use Rattle.g_tree.proofs.NamedLemmas.{zeros_fit}
use Rattle.g_disc_contents.specs.Facts.{OnlineFacts}
use Rattle.g_online.specs.declared.change.Change.{Change}
use Rattle.g_store_meaning.specs.Answers.{Answers}
use Rattle.g_store_meaning.specs.StoreInvariant.{StoreFacts}
use Rattle.g_laws_store.specs.Refusals.{only_tells}
use Rattle.g_store_calls.specs.Answering.{AnswersIn, AnswersOver}
use Rattle.g_store_calls.specs.AppliedChange.{HasApplied, answer_with}
use Rattle.g_store_calls.specs.Kinds.{IsKind, IsSettled}
use Rattle.g_store_calls.specs.Replies.{RefusesAs}

abbrev pub RepliesAs : List UserRec → List FileRec → ℕ → List ℕ → StoreCall → StoreReply → Type 0
RepliesAs users files next who call reply = (bytes : FileRec → List ℕ) → HasLengths files bytes → reply ≡ reply_to (tree_of users files bytes next) who call

-- REFUSED by the plain step
pub settled_refused : (users : List UserRec) (files : List FileRec) (next : ℕ) (who : List ℕ) (call : StoreCall) (fault : StoreFault) → RefusesAs users files next who call (Some fault) → IsSettled call (Err fault)
settled_refused users files next who call fault refuses = record {
  reply = tt;
  no_wait = λ serial is. false≢true (own_fault (tree_of users files zeros next) who call fault (WaitTape serial) (refuses zeros (zeros_fit files)) is);
}

-- CHANGED by one commit
no_wait_of : (call : StoreCall) (fault : StoreFault) → (fault ≡ Stopped) ⊎ (fault ≡ NoMemory) → IsSettled call (Err fault)
no_wait_of call fault (inl is) = record { reply = tt; no_wait = λ serial same. let no : ⊥ = cc in no }
no_wait_of call fault (inr is) = record { reply = tt; no_wait = λ serial same. let no : ⊥ = cc in no }

pub settled_applied : (change : Change) (old new : OnlineFacts) (call : StoreCall) (reply : StoreReply) → IsReplyTo call reply → (result : Result (Unit {0}) StoreFault) → HasApplied change old new result
    → IsSettled call (answer_with reply result)
settled_applied change old new call reply kind (Ok u) applied = record { reply = kind; no_wait = λ serial same. let no : ⊥ = cc in no }
settled_applied change old new call reply kind (Err fault) applied = no_wait_of call fault applied.only

-- calls that only report
pub settled_starved : (call : StoreCall) → IsSettled call (Err NoMemory)
settled_starved call = no_wait_of call NoMemory (inr refl)

tells_kind : (t : Tree) (who : List ℕ) (call : StoreCall) → only_tells call ≡ true → IsReplyTo call (reply_to t who call)
tells_kind t who (ListFiles user) tells = tt
tells_kind t who (TrapCheck path user) tells = tt
tells_kind t who call tells = absurd (false≢true tells)

pub settled_told : (users : List UserRec) (files : List FileRec) (next : ℕ) (who : List ℕ) (call : StoreCall) (reply : StoreReply) → only_tells call ≡ true → RepliesAs users files next who call reply
    → IsSettled call (Ok reply)
settled_told users files next who call reply tells replied = record {
  reply = subst (IsReplyTo call) (sym (replied zeros (zeros_fit files))) (tells_kind (tree_of users files zeros next) who call tells);
  no_wait = λ serial same. let no : ⊥ = cc in no;
}

-- if no tape is needed, for any rack
pub kind_of : (call : StoreCall) (rack : Rack) (answer : Result StoreReply StoreFault) → IsSettled call answer → IsKind call rack answer
kind_of call rack answer is = record { reply = is.reply; waits = λ serial same. absurd (is.no_wait serial same); may = λ serial same. absurd (is.no_wait serial same) }

pub over : (who : List ℕ) (call : StoreCall) (old new : OnlineFacts) (rack : Rack) (answer : Result StoreReply StoreFault) → AnswersIn who call old answer new → AnswersOver who call old rack answer new rack
over who call old new rack answer is s at at_rack unspent store plan =
    subst (λ (k : Rack). let t : StoreFacts = record s { online = new; rack = k; spent = not new.live } in Answers s who call answer t) at_rack (is s at unspent store)
