-- What is dumped stays dumped, so no RESTORE names what is lost.
-- serves: nothing_is_lost
use Rattle.std.proofs.Common.{◌≡◌, ℕ, Bool, true, false, List, [], ◌∷◌, Option, Some, None, Result, Ok, Err, MatchOption, refl, sym, ◌∙◌, ap, subst, inl, inr}
use Rattle.std.specs.List.{list_all}
use Rattle.std.specs.Fn.{Shared}
use denote.Ref.{Bor}
use Rattle.g_rules.specs.declared.tariff.Charge.{Charge}
use Rattle.g_rules.specs.declared.tariff.Usage.{Usage}
use Rattle.g_rules.specs.declared.rule.Standing.{Standing}
use Rattle.g_plain.specs.declared.faults.StoreFault.{StoreFault}
use Rattle.g_plain.specs.declared.faults.StoreFault.TheVariants.{DiscReadFault, NoDump, RackNotMounted, Stopped, TapeReadFault}
use Rattle.g_plain.specs.PlainStep.{first_fault}
use Rattle.g_store_model.specs.CallStep.{Cut, DiscRead, Outcome, Plain, TapeRead, down, is_tape_read}
use Rattle.g_store_model.specs.DumpSteps.{Completed, DumpStep, Event, Going, Stepped, uses, with_used}
use Rattle.g_store_model.specs.Rising.{IsLost, Restores, fault_from, has_none, restore_early, restore_late}
use Rattle.g_store_model.specs.State.{Dumped as DumpedTree, Holding, OpenDump, ReelRow, State, first_reel, with_reel}
use Rattle.g_run_model.specs.Laws.{HasDumped}
use Rattle.g_run_model.specs.Moves.{Move, Run, Step}
use Rattle.g_run_model.specs.World.{World, start}
use Rattle.g_run_model.proofs.DeviceDumpLemmas.{devices_dumped}
use Rattle.g_run_model.proofs.KeptDumpLemmas.{call_keeps, changed_none, dump_keeps, format_keeps, migrate_keeps, mount_keeps, open_keeps, restore_keeps, start_keeps, unmount_keeps}
use Rattle.g_run_model.proofs.ProcessedLemmas.{process_keeps}
use Rattle.g_laws_runs.specs.NoLoss.{NothingIsLost}
use Rattle.g_laws_runs.proofs.WalkLemmas.{AreKept, move_kept}

abbrev pub KeepsDumped : Outcome → State → State → Type 0
KeepsDumped o s new = HasDumped s → HasDumped new

dumped_kept : AreKept KeepsDumped
dumped_kept = record {
  itself = λ s has. has;
  format = λ s o r new low step so. format_keeps s o r new step;
  start = λ s o r new low step so. start_keeps s o r new step;
  restore = λ s o r new low step so. restore_keeps s o r new step;
  shut = λ s none has. has;
  mount = λ s serial r new step. mount_keeps s serial r new step;
  unmount = λ s serial r new step. unmount_keeps s serial r new step;
  opening = λ s k serial o r new up holds step so. open_keeps s k serial o r new step;
  process = λ s k serial o r new up holds step so. process_keeps s k serial o r new step;
  migrate = λ s k user full o r new holds step so. migrate_keeps s k user full o r new step;
  call = λ s k who call o answer new holds step so. call_keeps s k who call o answer new step;
}

-- a step of a dump that was cut
used_none : (b : Bool) (at : ℕ) (rs : List ReelRow) → list_all has_none (with_reel at (with_used b) rs) ≡ list_all has_none rs
used_none b at rs = changed_none (with_used b) (λ r. refl) at rs

has_at : (s new : State) → new ≡ s → HasDumped s → HasDumped new
has_at s new is has = subst (λ (x : State). HasDumped x) (sym is) has

has_some : (s : State) (t : DumpedTree) → s.dumped ≡ Some t → HasDumped s
has_some s t is = λ none. absurd (let both : None ≡ Some t = sym none ∙ is in let no : ⊥ = cc in no)

dump_has : (s : State) (k : Holding) (d : OpenDump) (o : Outcome) (r : Result Stepped StoreFault) (new : State) → DumpStep s k d o r new → HasDumped s → HasDumped new
dump_has s k d o (Ok Going) new (more, whole, read, is) has = dump_keeps s k d (Ok Going) new (more, (λ e. let no : ⊥ = cc in no), (λ e. absurd (let no : ⊥ = cc in no)), is) has
dump_has s k d o (Ok (Completed n)) new (last, whole, number, is) has = dump_keeps s k d (Ok (Completed n)) new (last, (λ e. let no : ⊥ = cc in no), number, is) has
dump_has s k d o (Err DiscReadFault) new (read, content, is) has = has_at _ new is has
dump_has s k d o (Err Stopped) new (cut, inl (inl is)) has = has_at (down s) new is has
dump_has s k d o (Err Stopped) new (cut, inl (inr (first, inl is))) has = has_at (uses true d (down s)) new is (λ none. used_none true d.serial s.reels ∙ has none)
dump_has s k d o (Err Stopped) new (cut, inl (inr (first, inr is))) has = has_at (uses false d (down s)) new is (λ none. used_none false d.serial s.reels ∙ has none)
dump_has s k d o (Err Stopped) new (cut, inr (last, inl is)) has = has_some new (record { number = d.number; tree = d.tree; places = d.places; own = d.own }) (ap (λ (x : State). x.dumped) is)
dump_has s k d o (Err Stopped) new (cut, inr (last, inr is)) has = has_some new (record { number = d.number; tree = d.tree; places = d.places; own = d.own }) (ap (λ (x : State). x.dumped) is)
dump_has s k d o (Err fault) new step has = absurd step

-- A RESTORE of a state in which a tree is dumped wherever a reel has a dump
early_named : (m : Option ℕ) (b c : Bool) (fault : StoreFault) → first_fault (fault_from RackNotMounted m ∷ (b, TapeReadFault) ∷ (c, NoDump) ∷ []) ≡ Some fault → IsLost (Err fault) → ⊥
early_named (Some n) b c fault e lost = let same : fault ≡ RackNotMounted n = cc in subst (λ (f : StoreFault). IsLost (Err f)) same lost
early_named None true c fault e lost = let same : fault ≡ TapeReadFault = cc in subst (λ (f : StoreFault). IsLost (Err f)) same lost
early_named None false true fault e lost = let same : fault ≡ NoDump = cc in subst (λ (f : StoreFault). IsLost (Err f)) same lost
early_named None false false fault e lost = let no : ⊥ = cc in no

early_none : (m : Option ℕ) (b c : Bool) → c ≡ true → first_fault (fault_from RackNotMounted m ∷ (b, TapeReadFault) ∷ (c, NoDump) ∷ []) ≡ None → ⊥
early_none (Some n) b c is e = let no : ⊥ = cc in no
early_none None true c is e = let no : ⊥ = cc in no
early_none None false true is e = let no : ⊥ = cc in no
early_none None false false is e = let no : ⊥ = cc in no

restored_named : (s after : State) (n : ℕ) (o : Outcome) (answer : Result ℕ StoreFault) (new : State) → Event (restore_late o) n s after answer new → IsLost answer → ⊥
restored_named s after n Plain answer new (ok, is) lost = subst (λ (r : Result ℕ StoreFault). IsLost r) ok lost
restored_named s after n TapeRead answer new (ok, is) lost = subst (λ (r : Result ℕ StoreFault). IsLost r) ok lost
restored_named s after n DiscRead answer new (err, is) lost = subst (λ (r : Result ℕ StoreFault). IsLost r) err lost
restored_named s after n Cut answer new (err, is) lost = subst (λ (r : Result ℕ StoreFault). IsLost r) err lost

restores_named : (s : State) (t : Option DumpedTree) (o : Outcome) (answer : Result ℕ StoreFault) (new : State) → s.dumped ≡ t → HasDumped s → restore_early s o ≡ None → Restores s t o answer new → IsLost answer → ⊥
restores_named s None o answer new is has early step lost = early_none (first_reel _ s.reels) (is_tape_read o) (list_all has_none s.reels) (has is) early
restores_named s (Some t) o answer new is has early event lost = restored_named s _ t.number o answer new event lost

restore_named : (s : State) (f : Option StoreFault) (o : Outcome) (answer : Result ℕ StoreFault) (new : State) → HasDumped s → restore_early s o ≡ f
    → MatchOption f (Restores s s.dumped o answer new) (λ fault. (answer ≡ Err fault) × (new ≡ s)) → IsLost answer → ⊥
restore_named s None o answer new has early step lost = restores_named s s.dumped o answer new refl has early step lost
restore_named s (Some fault) o answer new has early (err, is) lost =
    early_named (first_reel _ s.reels) (is_tape_read o) (list_all has_none s.reels) fault early (subst (λ (r : Result ℕ StoreFault). IsLost r) err lost)

module _ {F U : Type 0} (tariffs : Shared F (Bor Usage × Unit {0}) Charge) (tariff : F) (rules : Shared U (Bor Standing × Unit {0}) ℕ) (rule : U) where
  dumped_move : (w new : World) (move : Move) → HasDumped w.store → Step tariffs tariff rules rule w move new → HasDumped new.store
  dumped_move w new move has step = move_kept KeepsDumped dumped_kept tariffs tariff rules rule (λ s k d o r after holds there stepped old. dump_has s k d o r after stepped old) w new move step has

  dumped_run : (w last : World) (moves : List Move) → HasDumped w.store → Run tariffs tariff rules rule w moves last → HasDumped last.store
  dumped_run w last [] has run = has_at w.store last.store (ap (λ (x : World). x.store) run) has
  dumped_run w last (move ∷ moves) has (mid, step, run) = dumped_run mid last moves (dumped_move w mid move has step) run

  pub nothing_is_lost : NothingIsLost tariffs tariff rules rule
  nothing_is_lost d lines bad s moves w stand run o answer new step lost =
      restore_named w.store (restore_early w.store o) o answer new (dumped_run (start lines bad s) w moves (devices_dumped d s stand) run) refl step lost
