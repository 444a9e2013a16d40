-- After each event a tree is dumped if a reel has a dump, provided that this was so before.
-- serves: OneTextLemmas, ProcessedLemmas, crates above
use Rattle.std.proofs.Common.{◌≡◌, ◌==◌, ◌||◌, ℕ, Bool, true, false, List, Option, Some, None, option_map, Result, Ok, Err, refl, sym, ◌∙◌, ap, subst, inl, inr, if◌then◌else◌}
use Rattle.std.specs.List.{list_all}
use Rattle.g_base.proofs.KeyLemmas.{list_all-change}
use Rattle.g_name.specs.declared.full.Full.{Full}
use Rattle.g_plain.specs.declared.calls.StoreCall.{StoreCall}
use Rattle.g_plain.specs.declared.calls.StoreReply.{StoreReply}
use Rattle.g_plain.specs.declared.faults.StoreFault.{StoreFault}
use Rattle.g_plain.specs.declared.faults.StoreFault.TheVariants.{DiscReadFault, Stopped}
use Rattle.g_store_model.specs.CallStep.{CallStep, Outcome, Plain, after_call, brings_now, commits, down, held_after, touched_by, writes}
use Rattle.g_store_model.specs.DumpSteps.{Completed, DumpStep, Event, Going, MigrateStep, MountStep, OpenStep, Stepped as DumpStepped, UnmountStep, with_mounted, with_used}
use Rattle.g_store_model.specs.Rising.{FormatStep, RestoreStep, StartStep, has_none}
use Rattle.g_store_model.specs.State.{Holding, OpenDump, ReelRow, State, with_reel, Dumped as DumpedTree}
use Rattle.g_run_model.specs.Laws.{HasDumped}
use Rattle.g_run_model.proofs.StepLemmas.{call_kept, restore_kept, start_kept}

-- what is dumped stays, and so do the reels' dumps
abbrev pub KeepsDumps : State → State → Type 0
KeepsDumps s new = HasDumped s → HasDumped new

dumps_of : (s mid new : State) → new ≡ mid → KeepsDumps s mid → KeepsDumps s new
dumps_of s mid new is keeps = subst (λ (x : State). KeepsDumps s x) (sym is) keeps

event_keeps : {A : Type 0} (f : Option StoreFault) (reply : A) (s after : State) (r : Result A StoreFault) (new : State) → KeepsDumps s after → Event f reply s after r new → KeepsDumps s new
event_keeps None reply s after r new keeps (ok, is) = dumps_of s after new is keeps
event_keeps (Some Stopped) reply s after r new keeps (err, inl is) = dumps_of s (down s) new is (λ has. has)
event_keeps (Some Stopped) reply s after r new keeps (err, inr is) = dumps_of s (down after) new is keeps
event_keeps (Some fault) reply s after r new keeps (err, is) = dumps_of s s new is (λ has. has)

pub format_keeps : (s : State) (o : Outcome) (r : Result (Unit {0}) StoreFault) (new : State) → FormatStep s o r new → KeepsDumps s new
format_keeps s o r new event = event_keeps _ _ s _ r new (λ has. has) event

pub start_keeps : (s : State) (o : Outcome) (r : Result (Option ℕ) StoreFault) (new : State) → StartStep s o r new → KeepsDumps s new
start_keeps s = start_kept (λ (x : State). KeepsDumps s x) s (λ has. has) (λ has. has) (λ k e has. has) (λ k e has. has)

pub restore_keeps : (s : State) (o : Outcome) (r : Result ℕ StoreFault) (new : State) → RestoreStep s o r new → KeepsDumps s new
restore_keeps s = restore_kept (λ (x : State). KeepsDumps s x) s (λ has. has) (λ has. has) (λ d e has. has) (λ d e has. has)

pub open_keeps : (s : State) (k : Holding) (serial : ℕ) (o : Outcome) (r : Result ℕ StoreFault) (new : State) → OpenStep s k serial o r new → KeepsDumps s new
open_keeps s k serial o r new (places, noted, event) = event_keeps _ _ s _ r new (λ has. has) event

pub migrate_keeps : (s : State) (k : Holding) (user : Option (List ℕ)) (full : Full) (o : Outcome) (r : Result Full StoreFault) (new : State) → MigrateStep s k user full o r new → KeepsDumps s new
migrate_keeps s k user full o r new event = event_keeps _ _ s _ r new (λ has. has) event

-- a reel that is changed, but for its dumps
pub changed_none : (f : ReelRow → ReelRow) → ((r : ReelRow) → has_none (f r) ≡ has_none r) → (at : ℕ) (rs : List ReelRow) → list_all has_none (with_reel at f rs) ≡ list_all has_none rs
changed_none f same at rs = list_all-change (λ (r : ReelRow). at == r.serial) f has_none same rs

pub mount_keeps : (s : State) (serial : ℕ) (r : Result (Unit {0}) StoreFault) (new : State) → MountStep s serial r new → KeepsDumps s new
mount_keeps s serial r new event = event_keeps _ _ s _ r new (λ has none. changed_none (with_mounted true) (λ row. refl) serial s.reels ∙ has none) event

pub unmount_keeps : (s : State) (serial : ℕ) (r : Result (Unit {0}) StoreFault) (new : State) → UnmountStep s serial r new → KeepsDumps s new
unmount_keeps s serial r new event = event_keeps _ _ s _ r new (λ has none. changed_none (with_mounted false) (λ row. refl) serial s.reels ∙ has none) event

-- a step of a dump in which no write failed: what completes is dumped
some_dumped : (s new : State) (d : DumpedTree) → new.dumped ≡ Some d → KeepsDumps s new
some_dumped s new d is has = λ none. absurd (let both : None ≡ Some d = sym none ∙ is in let no : ⊥ = cc in no)

pub dump_keeps : (s : State) (k : Holding) (d : OpenDump) (r : Result DumpStepped StoreFault) (new : State) → DumpStep s k d Plain r new → KeepsDumps s new
dump_keeps s k d (Ok Going) new (more, cut, read, is) = dumps_of s _ new is (λ has none. changed_none (with_used true) (λ row. refl) d.serial s.reels ∙ has none)
dump_keeps s k d (Ok (Completed n)) new (last, cut, number, is) =
    some_dumped s new (record { number = d.number; tree = d.tree; places = d.places; own = d.own }) (ap (λ (x : State). x.dumped) is)
dump_keeps s k d (Err DiscReadFault) new (read, content, is) = absurd (let no : ⊥ = cc in no)
dump_keeps s k d (Err Stopped) new (cut, left) = absurd (let no : ⊥ = cc in no)
dump_keeps s k d (Err fault) new step = absurd step

-- a job's call
module _ (s : State) (k : Holding) (who : List ℕ) (call : StoreCall) where
  after_keeps : (until : ℕ) → KeepsDumps s (after_call s k who call until)
  after_keeps until = by (writes call || brings_now s k who call)
    where
      by : (b : Bool) → KeepsDumps s (if b then record (commits s (held_after s k who call until)) { open_dump = option_map (touched_by s k who call) s.open_dump } else s)
      by true = λ has. has
      by false = λ has. has

  pub call_keeps : (o : Outcome) (answer : Result StoreReply StoreFault) (new : State) → CallStep s k who call o answer new → KeepsDumps s new
  call_keeps = call_kept (λ (x : State). KeepsDumps s x) s k who call (λ has. has) (λ has. has) (λ until has. has) after_keeps after_keeps
