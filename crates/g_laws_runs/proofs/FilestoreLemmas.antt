-- What a store holds, event by event.
-- serves: filestores_stay (devices, states), crates above
use Rattle.std.proofs.Common.{◌≡◌, ℕ, List, [], ◌∷◌, Option, Some, None, refl, sym, ◌∙◌, ap, subst, inl, inr}
use Rattle.std.specs.Prelude.{◌⊎◌, ◌||◌, Bool, true, false, Result, Ok, Err, option_map, is_some, if◌then◌else◌}
use Rattle.std.proofs.lemmas.Bool.{false≢true}
use Rattle.std.specs.FinMap.{FinMap}
use Rattle.std.specs.Fn.{Shared}
use Rattle.std.specs.Ordering.{nat_cmp}
use denote.Ref.{Bor}
use Rattle.g_rules.specs.declared.tariff.Charge.{Charge}
use Rattle.g_rules.specs.declared.tariff.Usage.{Usage}
use Rattle.g_rules.specs.declared.rule.Standing.{Standing}
use Rattle.g_disc_contents.specs.Contents.{Contents}
use Rattle.g_plain.specs.declared.calls.StoreCall.{StoreCall}
use Rattle.g_plain.specs.declared.calls.StoreReply.{StoreReply}
use Rattle.g_plain.specs.declared.faults.StoreFault.{StoreFault}
use Rattle.g_plain.specs.declared.faults.StoreFault.TheVariants.{DiscReadFault, Stopped}
use Rattle.g_store_meaning.specs.Meaning.{told_reels}
use Rattle.g_store_meaning.specs.Reading.{holding_of}
use Rattle.g_store_model.specs.CallStep.{Outcome, after_call, brings_now, commits, down, held_after, no_longer_kept, touched_by, writes, CallStep}
use Rattle.g_store_model.specs.DumpSteps.{Completed, DumpStep, Event, Going, Stepped}
use Rattle.g_store_model.specs.Process.{ProcessStep, moved, with_cut}
use Rattle.g_store_model.specs.Rising.{RestoreStep, StartStep}
use Rattle.g_store_model.specs.State.{Holding, OpenDump, Place, State, Dumped as DumpedTree}
use Rattle.g_run_model.specs.Devices.{Devices, HoldsThis, StandFor}
use Rattle.g_run_model.specs.Moves.{Move, Step}
use Rattle.g_run_model.specs.World.{World}
use Rattle.g_run_model.proofs.ProcessedLemmas.{of_each}
use Rattle.g_laws_runs.specs.Filestores.{DevicesKeepFilestores, FilestoresStay, HasFilestore, HoldsOne}
use Rattle.g_laws_runs.proofs.WalkLemmas.{AreKept, move_kept}
use Rattle.g_run_model.proofs.StepLemmas.{call_kept, restore_kept, start_kept}

abbrev pub KeepsOne : Outcome → State → State → Type 0
KeepsOne o s new = HoldsOne s → HoldsOne new

one_at : (s new : State) → new ≡ s → HoldsOne s → HoldsOne new
one_at s new is it = subst (λ (x : State). HoldsOne x) (sym is) it

in_down : (h : Option Holding) → is_some h ≡ true → is_some (option_map no_longer_kept h) ≡ true
in_down None e = absurd (false≢true e)
in_down (Some k) e = refl

pub one_down : (s : State) → HoldsOne s → HoldsOne (down s)
one_down s has = in_down s.holding has

event_one : {A : Type 0} (f : Option StoreFault) (reply : A) (s after : State) (r : Result A StoreFault) (new : State) → HoldsOne s → HoldsOne after → Event f reply s after r new → HoldsOne new
event_one None reply s after r new old done (ok, is) = one_at after new is done
event_one (Some Stopped) reply s after r new old done (err, inl is) = one_at (down s) new is (one_down s old)
event_one (Some Stopped) reply s after r new old done (err, inr is) = one_at (down after) new is (one_down after done)
event_one (Some fault) reply s after r new old done (err, is) = one_at s new is old

start_one : (s : State) (o : Outcome) (r : Result (Option ℕ) StoreFault) (new : State) → HoldsOne s → StartStep s o r new → HoldsOne new
start_one s o r new old step = start_kept (λ (x : State). HoldsOne x) s old (one_down s old) (λ k e. refl) (λ k e. refl) o r new step

restore_one : (s : State) (o : Outcome) (r : Result ℕ StoreFault) (new : State) → HoldsOne s → RestoreStep s o r new → HoldsOne new
restore_one s o r new old step = restore_kept (λ (x : State). HoldsOne x) s old (one_down s old) (λ d e. refl) (λ d e. refl) o r new step

either_one : (b : Bool) (t s : State) → HoldsOne t → HoldsOne s → HoldsOne (if b then t else s)
either_one true t s one other = one
either_one false t s one other = other

after_one : (s : State) (k : Holding) (who : List ℕ) (call : StoreCall) (until : ℕ) → HoldsOne s → HoldsOne (after_call s k who call until)
after_one s k who call until old =
    either_one (writes call || brings_now s k who call) (record (commits s (held_after s k who call until)) { open_dump = option_map (touched_by s k who call) s.open_dump }) s refl old

call_one : (s : State) (k : Holding) (who : List ℕ) (call : StoreCall) (o : Outcome) (answer : Result StoreReply StoreFault) (new : State) → HoldsOne s → CallStep s k who call o answer new → HoldsOne new
call_one s k who call o answer new old step =
    call_kept (λ (x : State). HoldsOne x) s k who call old (one_down s old) (λ until. refl) (λ until. after_one s k who call until old)
    (λ until. one_down (after_call s k who call until) (after_one s k who call until old)) o answer new step

process_one : (s : State) (k : Holding) (serial : ℕ) (o : Outcome) (r : Result ℕ StoreFault) (new : State) → HoldsOne s → ProcessStep s k serial o r new → HoldsOne new
process_one s k serial o r new old step =
    of_each HoldsOne s k serial
    (record {
      same = old;
      gone = one_down s old;
      noted_up = λ used. refl;
      noted_down = λ used. refl;
      marked_down = λ d is. refl;
      moved_up = λ places d until is. refl;
      moved_down = λ places d until cut is. by_cut places d until cut;
    }) o r new step
  where
    by_cut : (places : FinMap nat_cmp Place) (d : DumpedTree) (until : ℕ) (cut : Option (ℕ × Bool)) → HoldsOne (down (with_cut cut (moved s k serial places d until)))
    by_cut places d until None = refl
    by_cut places d until (Some c) = refl

pub one_kept : AreKept KeepsOne
one_kept = record {
  itself = λ s old. old;
  format = λ s o r new low step so old. event_one _ _ s _ r new old refl step;
  start = λ s o r new low step so old. start_one s o r new old step;
  restore = λ s o r new low step so old. restore_one s o r new old step;
  shut = λ s none old. one_down s old;
  mount = λ s serial r new step old. event_one _ _ s _ r new old old step;
  unmount = λ s serial r new step old. event_one _ _ s _ r new old old step;
  opening = λ s k serial o r new up holds (places, noted, event) so old. event_one _ _ s _ r new old refl event;
  process = λ s k serial o r new up holds step so old. process_one s k serial o r new old step;
  migrate = λ s k user full o r new holds event so old. event_one _ _ s _ r new old refl event;
  call = λ s k who call o answer new holds step so old. call_one s k who call o answer new old step;
}

pub dump_one : (s : State) (k : Holding) (d : OpenDump) (o : Outcome) (r : Result Stepped StoreFault) (new : State) → HoldsOne s → DumpStep s k d o r new → HoldsOne new
dump_one s k d o (Ok Going) new old (more, whole, read, is) = ap (λ (x : State). is_some x.holding) is ∙ old
dump_one s k d o (Ok (Completed n)) new old (last, whole, number, is) = ap (λ (x : State). is_some x.holding) is
dump_one s k d o (Err DiscReadFault) new old (read, content, is) = ap (λ (x : State). is_some x.holding) is ∙ old
dump_one s k d o (Err Stopped) new old (cut, inl (inl is)) = ap (λ (x : State). is_some x.holding) is ∙ one_down s old
dump_one s k d o (Err Stopped) new old (cut, inl (inr (first, inl is))) = ap (λ (x : State). is_some x.holding) is ∙ one_down s old
dump_one s k d o (Err Stopped) new old (cut, inl (inr (first, inr is))) = ap (λ (x : State). is_some x.holding) is ∙ one_down s old
dump_one s k d o (Err Stopped) new old (cut, inr (last, inl is)) = ap (λ (x : State). is_some x.holding) is ∙ one_down s old
dump_one s k d o (Err Stopped) new old (cut, inr (last, inr is)) = ap (λ (x : State). is_some x.holding) is
dump_one s k d o (Err fault) new old step = absurd step

-- devices that represent a state have a filestore if and only if it holds one
pub state_holds : (d : Devices) (s : State) → StandFor d s → HasFilestore d → HoldsOne s
state_holds d s stand has = ap (λ (x : State). is_some x.holding) stand.is ∙ by stand.contents stand.disc
  where
    by : (contents : Option Contents) → HoldsThis d.disc.held stand.text stand.shelf (told_reels d.rack) contents → is_some (option_map (holding_of stand.text []) contents) ≡ true
    by None none = absurd (none has.blocks has.contents has.held has.holds)
    by (Some c) is = refl

pub devices_hold : (d : Devices) (s : State) → StandFor d s → HoldsOne s → HasFilestore d
devices_hold d s stand has = by stand.contents stand.disc (sym (ap (λ (x : State). is_some x.holding) stand.is) ∙ has)
  where
    by : (contents : Option Contents) → HoldsThis d.disc.held stand.text stand.shelf (told_reels d.rack) contents → is_some (option_map (holding_of stand.text []) contents) ≡ true → HasFilestore d
    by None is some = absurd (false≢true some)
    by (Some c) (blocks, held, holds, belongs) some = record { blocks = blocks; contents = c; held = held; holds = holds }

module _ {F U : Type 0} (tariffs : Shared F (Bor Usage × Unit {0}) Charge) (tariff : F) (rules : Shared U (Bor Standing × Unit {0}) ℕ) (rule : U) where
  pub one_move : (w new : World) (move : Move) → HoldsOne w.store → Step tariffs tariff rules rule w move new → HoldsOne new.store
  one_move w new move has step = move_kept KeepsOne one_kept tariffs tariff rules rule (λ s k d o r after holds there stepped old. dump_one s k d o r after old stepped) w new move step has

  pub filestores_stay : FilestoresStay tariffs tariff rules rule
  filestores_stay w last [] has run = one_at w.store last.store (ap (λ (x : World). x.store) run) has
  filestores_stay w last (move ∷ moves) has (mid, step, run) = filestores_stay mid last moves (one_move w mid move has step) run

  pub devices_keep : DevicesKeepFilestores tariffs tariff rules rule
  devices_keep lines bad s old new moves last stand has run =
      devices_hold new (down last.store) run.stands (one_down last.store (filestores_stay _ last moves (state_holds old s stand has) run.run))
