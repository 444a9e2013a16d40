-- The calls that were answered before a power loss.
use Rattle.std.specs.Prelude.{◌⊎◌, ℕ, List, All, Option}
use Rattle.std.specs.Fn.{Shared}
use denote.Ref.{Bor}
use Rattle.g_rules.specs.declared.tariff.Usage.{Usage}
use Rattle.g_rules.specs.declared.tariff.Charge.{Charge}
use Rattle.g_rules.specs.declared.rule.Standing.{Standing}
use Rattle.g_tape.specs.Rack.{Rack}
use Rattle.g_plain.specs.PlainTree.{Tree}
use Rattle.g_script.specs.declared.operator.Timed.{Timed}
use Rattle.g_store_model.specs.State.{State}
use Rattle.g_store_meaning.specs.Safety.{AreSafe, IsLeft}
use Rattle.g_run_model.specs.Accounts.{tree_of}
use Rattle.g_run_model.specs.Devices.{Devices, StandFor}
use Rattle.g_run_model.specs.Losses.{DownSince, MayBeLeft, StaysDown}
use Rattle.g_run_model.specs.Moves.{Answered, Move, Run}
use Rattle.g_run_model.specs.Top.{SurvivesSoFar}
use Rattle.g_run_model.specs.World.{World, start}
use Rattle.g_laws_runs.specs.OneTree.{RunOn}
use Rattle.g_laws_losses.specs.NextRun.{after_loss}

-- The move isn't the answer to a call.
abbrev pub IsNoAnswer : Move → Type 0
IsNoAnswer (Answered o) = ⊥
IsNoAnswer move = Unit {0}

module _ {F U : Type 0} (tariffs : Shared F (Bor Usage × Unit {0}) Charge) (tariff : F) (rules : Shared U (Bor Standing × Unit {0}) ℕ) (rule : U) where
  -- A system that is down answers no call, at any moment of a run.
  abbrev pub DownAnswersNothing : Type 0
  DownAnswersNothing = (lines : List Timed) (bad : Option ℕ) (s : State) (before after : List Move) (mid last : World)
      → Run tariffs tariff rules rule (start lines bad s) before mid → StaysDown tariffs tariff rules rule mid after last → All IsNoAnswer after

  -- THE TREE OF THE ANSWERED CALLS: the one that the first of these moves make of the tree before them; no later move answered a call. Each of
  -- their calls was answered for the tree that the moves before it left; if a failed write stopped the last one, it was done completely or not
  -- at all; and no other move changed the tree, except FORMAT and RESTORE (`RunOn`).
  pub record HasAnswered (first : World) (moves : List Move) (last : World) (tree : Option Tree) : Type 0 where
    pub before : List Move
    pub after : List Move
    pub mid : World
    pub since : DownSince tariffs tariff rules rule first moves last before after mid
    pub none : All IsNoAnswer after
    pub end : World
    pub on : RunOn tariffs tariff rules rule (tree_of first.store) first before tree end

  -- Each state that a power loss may leave has such a tree: it has every answered change, and the interrupted one completely or not at all.
  abbrev pub AnsweredCallsSurvive : Type 0
  AnsweredCallsSurvive = (lines : List Timed) (bad : Option ℕ) (s : State) (moves : List Move) (last : World) (u : State)
      → MayBeLeft tariffs tariff rules rule (start lines bad s) moves last u → HasAnswered (start lines bad s) moves last (tree_of u)

  -- THE ANSWERS THAT A RUN PRINTED hold of what a power loss leaves after it: each state that the devices represent then has such a tree, with
  -- the moves whose text was printed. If the system was never up in this run, the loss could also have left the same before it.
  abbrev pub AnswersAreLeft : Type 0
  AnswersAreLeft = (lines : List Timed) (bad : Option ℕ) (s : State) (old new : Devices) (before after : Option (List ℕ))
      (run : SurvivesSoFar tariffs tariff rules rule lines bad s old new before after) → AreSafe new.disc new.rack
      → (blocks : List (List ℕ)) (rack : Rack) → IsLeft new.disc new.rack blocks rack
      → ((v : State) → StandFor (after_loss blocks rack new) v → HasAnswered (start lines bad s) run.moves run.last (tree_of v))
      ⊎ (StaysDown tariffs tariff rules rule (start lines bad s) run.moves run.last × IsLeft old.disc old.rack blocks rack)
