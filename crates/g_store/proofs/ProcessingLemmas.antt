-- What a store answers to a process, of states and of completed dumps.
-- serves: process (dumps, step)
use Rattle.std.proofs.Common.{◌≡◌, ℕ, Bool, false, [], Option, Some, None, Result, Err, refl, sym, ◌∙◌, ap, subst, inl}
use Rattle.std.proofs.lemmas.List.{append-nil}
use Rattle.g_tape.specs.Rack.{AreReels, Rack}
use Rattle.g_plain.specs.declared.faults.StoreFault.{StoreFault}
use Rattle.g_disc_contents.specs.Facts.{OnlineFacts}
use Rattle.g_store_meaning.specs.Answers.{IsStore}
use Rattle.g_store_meaning.specs.StoreInvariant.{DumpFacts, StoreFacts}
use Rattle.g_dumper.specs.Invariant.{up_with}
use Rattle.g_process.specs.Processing.{Processes, behind_process, process_refuses}
use Rattle.g_store.specs.Processing.{MovesDumps, StepsProcess}
use Rattle.g_store.proofs.MovedLemmas.{exit_moves}
use Rattle.g_store.proofs.ProcessedLemmas.{is_early, was}
use Rattle.g_store.proofs.ProcessedStepLemmas.{answers, early_steps}

-- refused without a read
pub refused_steps : (serial : ℕ) (s : StoreFacts) (fault : StoreFault) → s.spent ≡ false → process_refuses serial s ≡ Some fault → (let r : Result ℕ StoreFault = Err fault in StepsProcess serial s r s)
refused_steps serial s fault running is = λ told was u here. early_steps serial s running fault (is_early serial s fault is) is u here

pub refused_moves : (s : StoreFacts) → MovesDumps s s
refused_moves s = λ told was. record { move = λ shelf shelved. (shelf, shelved, λ n. inl ([], sym (append-nil (shelf n)))) }

module _ (serial : ℕ) (s : StoreFacts) (o : OnlineFacts) (rack : Rack) (dump : Option DumpFacts) (spent : Bool) (view : (let v : StoreFacts = record { online = o; rack = rack; dump = dump; spent = spent } in v ≡ s))
    (running : s.spent ≡ false) (none : process_refuses serial s ≡ None) (keeps : IsStore s) (reels : AreReels rack.reels) (r : Result ℕ StoreFault) (o' : OnlineFacts) (rack' : Rack) (t : StoreFacts)
    (end : t ≡ behind_process r o' rack') (it : Processes serial (up_with o rack None) r (behind_process r o' rack')) where
  whole : s ≡ up_with o rack None
  whole = was serial s o rack dump spent view running none

  pub steps_of : StepsProcess serial s r t
  steps_of =
      subst (StepsProcess serial s r) (sym end)
      (subst (λ (x : StoreFacts). StepsProcess serial x r (behind_process r o' rack')) (sym whole)
      (λ told was_so u here.
      let (text, shelf, shelved, up) = was_so.up refl in
      answers serial o rack reels (subst IsStore whole keeps) told was_so text shelf shelved up (ap (process_refuses serial) (sym whole) ∙ none) o' rack' u here r it))

  pub moves_of : MovesDumps s t
  moves_of =
      subst (MovesDumps s) (sym end)
      (subst (λ (x : StoreFacts). MovesDumps x (behind_process r o' rack')) (sym whole)
      (λ told was_so.
      let (text, shelf, shelved, up) = was_so.up refl in
      exit_moves text shelf (up_with o rack None) (behind_process r o' rack') shelved told up it.cause.reels serial r (it.exit told text shelf shelved up (up_is r))))
    where
      up_is : (x : Result ℕ StoreFault) → (up_with o rack None).spent ≡ false
      up_is x = refl
