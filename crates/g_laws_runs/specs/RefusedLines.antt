-- Lines that are refused while the system is down leave the tree unchanged; so after a stop START has it, for any refusals
-- in between.
use Rattle.std.specs.Prelude.{◌≡◌, ◌≢◌, ◌⊎◌, ℕ, Bool, true, false, List, [], ◌∷◌}
use Rattle.std.specs.Fn.{Shared}
use denote.Ref.{Bor}
use Rattle.g_rules.specs.declared.tariff.Charge.{Charge}
use Rattle.g_rules.specs.declared.tariff.Usage.{Usage}
use Rattle.g_rules.specs.declared.rule.Standing.{Standing}
use Rattle.g_store_model.specs.CallStep.{Outcome, Cut}
use Rattle.g_run_model.specs.Accounts.{tree_of}
use Rattle.g_run_model.specs.Laws.{LeavesTree, tree_behind}
use Rattle.g_run_model.specs.Lines.{is_up}
use Rattle.g_run_model.specs.Moves.{Move, Step, TakeLine}
use Rattle.g_run_model.specs.World.{World}

-- The line left the system down, and no write failed.
pub record IsRefusedDown (w : World) (o : Outcome) (new : World) : Type 0 where
  pub was : is_up w ≡ false
  pub is : is_up new ≡ false
  pub whole : o ≢ Cut

-- The move installs no other tree, or is such a line.
abbrev pub KeepsTree : World → Move → World → Type 0
KeepsTree w (TakeLine tape o) new = LeavesTree w (TakeLine tape o) ⊎ IsRefusedDown w o new
KeepsTree w move new = LeavesTree w move

module _ {F U : Type 0} (tariffs : Shared F (Bor Usage × Unit {0}) Charge) (tariff : F) (rules : Shared U (Bor Standing × Unit {0}) ℕ) (rule : U) where
  -- A line that leaves the system down, and in which no write failed, leaves the tree unchanged.
  abbrev pub RefusedLinesLeave : Type 0
  RefusedLinesLeave = (w new : World) (tape : Bool) (o : Outcome) → Step tariffs tariff rules rule w (TakeLine tape o) new → IsRefusedDown w o new → tree_of new.store ≡ tree_of w.store

  -- A run of moves each of which installs no other tree, or is a line refused while the system is down (`KeepsTree`).
  abbrev pub RunKeeping : World → List Move → World → Type 0
  RunKeeping w [] new = new ≡ w
  RunKeeping w (move ∷ moves) new = (mid : World) × KeepsTree w move mid × Step tariffs tariff rules rule w move mid × RunKeeping mid moves new

  -- After a move that stopped the system, and lines among which no FORMAT or RESTORE was done or interrupted, the tree is
  -- that before the move or after it.
  abbrev pub StartStillHasTheTree : Type 0
  StartStillHasTheTree = (before cut up : World) (move : Move) (moves : List Move) → is_up before ≡ true → Step tariffs tariff rules rule before move cut
      → is_up cut ≡ false → RunKeeping cut moves up → (tree_of up.store ≡ tree_of before.store) ⊎ (tree_of up.store ≡ tree_behind before move)
