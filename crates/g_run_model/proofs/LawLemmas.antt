-- Laws of the run.
-- serves: calls_are_answered_plainly, crates above
use Rattle.std.proofs.Common.{◌≡◌, ℕ, Option, Some, sym, ◌∙◌, ap, subst}
use Rattle.std.specs.Fn.{Shared}
use denote.Ref.{Bor}
use Rattle.g_rules.specs.declared.tariff.Usage.{Usage}
use Rattle.g_rules.specs.declared.tariff.Charge.{Charge}
use Rattle.g_rules.specs.declared.rule.Standing.{Standing}
use Rattle.g_plain.specs.PlainTree.{Tree}
use Rattle.g_run_model.specs.Accounts.{tree_of}
use Rattle.g_plain.specs.PlainAnswers.{PlainOrDevice}
use Rattle.g_run_model.specs.World.{World}
use Rattle.g_run_model.specs.Laws.{AnswersArePlain}
use Rattle.g_run_model.proofs.AnswerLemmas.{call_plain}
use Rattle.g_store_model.specs.Laws.{AnswersPlainly, RefusalsKeep, StopsLeave}
use Rattle.g_run_model.proofs.StepLemmas.{tree_held}

one_tree : (a b : Tree) → (let one : Option Tree = Some a in one ≡ Some b) → a ≡ b
one_tree a b e = cc

module _ {F U : Type 0} (tariffs : Shared F (Bor Usage × Unit {0}) Charge) (tariff : F) (rules : Shared U (Bor Standing × Unit {0}) ℕ) (rule : U)
    (plainly : AnswersPlainly) (keep : RefusalsKeep) (stops : StopsLeave) where
  pub answers_are_plain : AnswersArePlain tariffs tariff rules rule
  answers_are_plain w new o tree (number, call, more, job, answer, s, asks, here, (k, holds, step, told), real, is) has =
      let done = call_plain plainly keep stops w.store k job.user call o answer s holds step in
      let same : k.tree ≡ tree = one_tree k.tree tree (sym (tree_held w.store k holds) ∙ has) in
      let plain : PlainOrDevice tree job.user call answer done.0 = subst (λ (t : Tree). PlainOrDevice t job.user call answer done.0) same done.1 in
      (number, call, more, job, answer, done.0, asks, here, plain, ap (λ (v : World). tree_of v.store) is ∙ done.2, ap (λ (v : World). v.turn) is)
