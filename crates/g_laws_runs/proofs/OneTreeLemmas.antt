-- A whole run on one tree, move by move.
-- serves: jobs_run_on_one_tree
use Rattle.std.proofs.Common.{◌≡◌, ℕ, [], ◌∷◌, Option, Some, ap, inl, inr}
use Rattle.std.specs.Prelude.{◌⊎◌}
use Rattle.std.specs.Fn.{Shared}
use denote.Ref.{Bor}
use Rattle.g_rules.specs.declared.tariff.Charge.{Charge}
use Rattle.g_rules.specs.declared.tariff.Usage.{Usage}
use Rattle.g_rules.specs.declared.rule.Standing.{Standing}
use Rattle.g_plain.specs.PlainTree.{Tree}
use Rattle.g_store_model.specs.CallStep.{Outcome}
use Rattle.g_run_model.specs.Accounts.{tree_of}
use Rattle.g_run_model.specs.Laws.{AllOrNothing, AnswersArePlain}
use Rattle.g_run_model.specs.Moves.{Answered, Begin, Dumped, Move, Over, Step, TakeLine, Ticked, TurnOver}
use Rattle.g_run_model.specs.World.{World}
use Rattle.g_run_model.proofs.StepLemmas.{tree_held}
use Rattle.g_laws_runs.specs.OneTree.{IsAnsweredOn, MovesOn, RunsOnOneTree}

module _ {F U : Type 0} (tariffs : Shared F (Bor Usage × Unit {0}) Charge) (tariff : F) (rules : Shared U (Bor Standing × Unit {0}) ℕ) (rule : U)
    (all : AllOrNothing tariffs tariff rules rule) (plainly : AnswersArePlain tariffs tariff rules rule) where
  same_tree : (t u : Option Tree) → (u ≡ t) ⊎ (u ≡ t) → u ≡ t
  same_tree t u (inl e) = e
  same_tree t u (inr e) = e

  answered_on : (w new : World) (o : Outcome) (tree : Tree) → tree_of w.store ≡ Some tree → Step tariffs tariff rules rule w (Answered o) new → IsAnsweredOn (tree_of w.store) w (tree_of new.store) new
  answered_on w new o tree there step =
      let (number, call, more, job, answer, after, asks, asker, plain, behind, goes_on) = plainly w new o tree step there in record {
        before = tree;
        behind = after;
        before_is = there;
        behind_is = behind;
        number = number;
        call = call;
        more = more;
        job = job;
        answer = answer;
        asks = asks;
        asker = asker;
        plain = plain;
        goes_on = goes_on;
      }

  moves_on : (w new : World) (move : Move) → Step tariffs tariff rules rule w move new → MovesOn move (tree_of w.store) w (tree_of new.store) new
  moves_on w new (TakeLine tape o) step = all w new (TakeLine tape o) step
  moves_on w new (Dumped o) step = same_tree (tree_of w.store) (tree_of new.store) (all w new (Dumped o) step)
  moves_on w new (Begin number) step = same_tree (tree_of w.store) (tree_of new.store) (all w new (Begin number) step)
  moves_on w new (Answered o) (number, call, more, job, answer, s, asks, here, (k, holds, step, says_so), real, is) =
      answered_on w new o k.tree (tree_held w.store k holds) (number, call, more, job, answer, s, asks, here, (k, holds, step, says_so), real, is)
  moves_on w new (TurnOver number charge) step = same_tree (tree_of w.store) (tree_of new.store) (all w new (TurnOver number charge) step)
  moves_on w new Ticked step = same_tree (tree_of w.store) (tree_of new.store) (all w new Ticked step)
  moves_on w new Over step = same_tree (tree_of w.store) (tree_of new.store) (all w new Over step)

  pub runs_on : RunsOnOneTree tariffs tariff rules rule
  runs_on w last [] run = (run, subst_tree w last run)
    where
      subst_tree : (v u : World) → u ≡ v → tree_of u.store ≡ tree_of v.store
      subst_tree v u e = ap (λ (x : World). tree_of x.store) e
  runs_on w last (move ∷ moves) (mid, step, run) = (mid, tree_of mid.store, step, moves_on w mid move step, runs_on mid last moves run)
