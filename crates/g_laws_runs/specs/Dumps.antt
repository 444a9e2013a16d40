-- An open dump is unchanged until it takes a step or is gone; so it takes no more steps than it needs.
use Rattle.std.specs.Prelude.{◌≡◌, ℕ, ◌+◌, ◌≤◌, ◌<◌, true, List, [], ◌∷◌, Option, Some, None, sum_by}
use Rattle.std.specs.Fn.{Shared}
use denote.Ref.{Bor}
use Rattle.g_rules.specs.declared.tariff.Charge.{Charge}
use Rattle.g_rules.specs.declared.tariff.Usage.{Usage}
use Rattle.g_rules.specs.declared.rule.Standing.{Standing}
use Rattle.g_store_model.specs.State.{OpenDump}
use Rattle.g_run_model.specs.Moves.{Answered, Begin, Dumped, Move, Over, Step, TakeLine, Ticked, TurnOver}
use Rattle.g_run_model.specs.World.{World, is_dumping}

-- The same dump, with the same number of steps done.
pub record IsSameDump (d e : OpenDump) : Type 0 where
  pub number : e.number ≡ d.number
  pub needs : e.needs ≡ d.needs
  pub done : e.done ≡ d.done
  pub tree : e.tree ≡ d.tree

-- The dump is open and unchanged, or gone.
abbrev pub StaysOrGoes : OpenDump → Option OpenDump → Type 0
StaysOrGoes d None = Unit {0}
StaysOrGoes d (Some e) = IsSameDump d e

-- The number of dump steps in a move.
abbrev pub dump_steps : Move → ℕ
dump_steps (TakeLine tape o) = 0
dump_steps (Dumped o) = 1
dump_steps (Begin number) = 0
dump_steps (Answered o) = 0
dump_steps (TurnOver number charge) = 0
dump_steps Ticked = 0
dump_steps Over = 0

module _ {F U : Type 0} (tariffs : Shared F (Bor Usage × Unit {0}) Charge) (tariff : F) (rules : Shared U (Bor Standing × Unit {0}) ℕ) (rule : U) where
  -- only a dump step changes the progress of the open dump
  abbrev pub DumpsStay : Type 0
  DumpsStay = (w new : World) (move : Move) (d : OpenDump) → w.store.open_dump ≡ Some d → Step tariffs tariff rules rule w move new → dump_steps move ≡ 0
      → StaysOrGoes d new.store.open_dump

  -- moves before each of which a dump is open; it is always the same one
  abbrev pub RunOpen : World → List Move → World → Type 0
  RunOpen w [] new = new ≡ w
  RunOpen w (move ∷ moves) new = (mid : World) × (is_dumping w ≡ true) × Step tariffs tariff rules rule w move mid × RunOpen mid moves new

  -- a dump takes at most the steps that it needs
  abbrev pub DumpsTakeNeeds : Type 0
  DumpsTakeNeeds = (w last : World) (moves : List Move) (d : OpenDump) → w.store.open_dump ≡ Some d → d.done < d.needs → RunOpen w moves last
      → sum_by dump_steps moves + d.done ≤ d.needs
