-- The tree of a state that a power loss may leave.
-- serves: answered_calls_survive, answers_are_left
use Rattle.std.proofs.Common.{◌≡◌, ◌++◌, List, [], ◌∷◌, Option, refl, sym, ◌∙◌, ap, subst, inl, inr, ℕ}
use Rattle.std.specs.Fn.{Shared}
use denote.Ref.{Bor}
use Rattle.g_rules.specs.declared.tariff.Usage.{Usage}
use Rattle.g_rules.specs.declared.tariff.Charge.{Charge}
use Rattle.g_rules.specs.declared.rule.Standing.{Standing}
use Rattle.g_plain.specs.PlainTree.{Tree}
use Rattle.g_store_model.specs.CallStep.{down}
use Rattle.g_store_model.specs.State.{State}
use Rattle.g_run_model.specs.Accounts.{tree_of}
use Rattle.g_run_model.specs.Losses.{AsRead, OtherEnd}
use Rattle.g_run_model.specs.Moves.{Move}
use Rattle.g_run_model.specs.World.{World, start}
use Rattle.g_run_model.proofs.TurnLemmas.{run_append}
use Rattle.g_laws_runs.specs.NewDevices.{StatesAreOne}
use Rattle.g_laws_runs.specs.OneTree.{RunOn, RunsOnOneTree}
use Rattle.g_laws_runs.proofs.LaterLemmas.{tree_down}
use Rattle.g_laws_losses.specs.Answered.{AnsweredCallsSurvive, AnswersAreLeft, DownAnswersNothing, HasAnswered}
use Rattle.g_laws_losses.specs.NextRun.{NextRunBegins, after_loss}

module _ {F U : Type 0} (tariffs : Shared F (Bor Usage × Unit {0}) Charge) (tariff : F) (rules : Shared U (Bor Standing × Unit {0}) ℕ) (rule : U) (one_tree : RunsOnOneTree tariffs tariff rules rule) (quiet : DownAnswersNothing tariffs tariff rules rule) where
  -- a state that is down has the tree of the store that went down
  same_tree : (u s : State) → u ≡ down s → tree_of s ≡ tree_of u
  same_tree u s is = sym (ap (λ (x : State). tree_of x) is ∙ tree_down s.holding)

  pub answered_calls_survive : AnsweredCallsSurvive tariffs tariff rules rule
  answered_calls_survive lines bad s moves last u (AsRead before after mid since same) = record {
    before = before;
    after = after;
    mid = mid;
    since = since;
    none = quiet lines bad s before after mid last since.led since.rest;
    end = mid;
    on = subst (λ (t : Option Tree). RunOn tariffs tariff rules rule (tree_of s) (start lines bad s) before t mid) (same_tree u mid.store same) (one_tree (start lines bad s) mid before since.led);
  }
  answered_calls_survive lines bad s moves last u (OtherEnd before after stop was mid other ran since cut step another same) = record {
    before = before ++ stop ∷ [];
    after = after;
    mid = mid;
    since = since;
    none = quiet lines bad s (before ++ stop ∷ []) after mid last since.led since.rest;
    end = other;
    on = subst (λ (t : Option Tree). RunOn tariffs tariff rules rule (tree_of s) (start lines bad s) (before ++ stop ∷ []) t other) (same_tree u other.store same)
        (one_tree (start lines bad s) other (before ++ stop ∷ []) (run_append tariffs tariff rules rule (start lines bad s) before (stop ∷ []) was other ran (other, another, refl)));
  }

  pub answers_are_left : NextRunBegins tariffs tariff rules rule → StatesAreOne → AnswersAreLeft tariffs tariff rules rule
  answers_are_left next one lines bad s old new before after run safe blocks rack left = elim (next lines bad s old new before after run safe blocks rack left).1 [
    | inl begins ↦ inl (λ v stand.
        subst (λ (t : Option Tree). HasAnswered tariffs tariff rules rule (start lines bad s) run.moves run.last t)
        (sym (ap (λ (x : State). tree_of x) begins.like.same) ∙ ap (λ (x : State). tree_of x) (one (after_loss blocks rack new) begins.state v begins.stands stand))
        (answered_calls_survive lines bad s run.moves run.last begins.left begins.may))
    | inr before_it ↦ inr before_it
  ]
