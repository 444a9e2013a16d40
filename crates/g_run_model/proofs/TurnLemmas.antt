-- A turn's program that was run on a store is a list of moves of the world, and so is one that was answered by a plain
-- tree.
-- serves: CountedTurnLemmas, DumpedLemmas, LossLemmas, crates above
use Rattle.std.proofs.Common.{◌≡◌, ◌⊎◌, ℕ, false, List, [], ◌∷◌, ◌++◌, Some, subst}
use Rattle.std.specs.Fn.{Shared}
use denote.Ref.{Bor}
use Rattle.g_rules.specs.declared.tariff.Usage.{Usage}
use Rattle.g_rules.specs.declared.tariff.Charge.{Charge}
use Rattle.g_rules.specs.declared.rule.Standing.{Standing}
use Rattle.g_plain.specs.Programs.{Asks}
use Rattle.g_turn.specs.State.{Work}
use Rattle.g_store_model.specs.State.{State}
use Rattle.g_run_model.specs.Moves.{Move, Run}
use Rattle.g_run_model.specs.World.{World, Between, Stepped, is_dumping}

-- a world in the turn of a job
abbrev pub with_turn : World → State → ℕ → Asks Work → World
with_turn w s number p = record w { store = s; turn = Some (number, p) }

module _ {F U : Type 0} (tariffs : Shared F (Bor Usage × Unit {0}) Charge) (tariff : F) (rules : Shared U (Bor Standing × Unit {0}) ℕ) (rule : U) where
  pub run_append : (w : World) (ms ns : List Move) (mid new : World) → Run tariffs tariff rules rule w ms mid → Run tariffs tariff rules rule mid ns new → Run tariffs tariff rules rule w (ms ++ ns) new
  run_append w [] ns mid new first later = subst (λ (v : World). Run tariffs tariff rules rule v ns new) first later
  run_append w (m ∷ ms) ns mid new first later = (first.0, first.1, run_append first.0 ms ns mid new first.2 later)

  -- if a tick is ready for a turn
  abbrev pub MayBegin : World → Type 0
  MayBegin w = ((w.phase ≡ Between) × (is_dumping w ≡ false)) ⊎ (w.phase ≡ Stepped)

  abbrev pub in_turn : World → World
  in_turn w = record w { phase = Stepped }
