-- The job's rules still hold, and `ready` was computed for the levels with the line.
use Rattle.std.proofs.Common.{List, ap, subst, sym, ℕ, ◌∙◌}
use Rattle.g_turn.specs.State.{Work}
use Rattle.g_turn.specs.Typing.{with_stack}
use Rattle.g_macro.specs.Holding.{with_typed}
use Rattle.g_job.specs.JobValue.{job_of}
use Rattle.g_job.specs.Rules.{IsJob}
use Rattle.g_job.specs.State.{JobState}
use Rattle.g_job.specs.Terminal.{is_ready, typed_to}
use Rattle.g_job.specs.declared.parts.Parts.{Parts}
use Rattle.g_job.proofs.TerminalLemmas.{typed_rules}
use Rattle.g_job.proofs.job.Job.add_line.Goals as goal

pub invariant_of-self-2 : goal.invariant_of-self-2
invariant_of-self-2 c =
    let same = c.in_ok-add_line.ensures.ok ∙ ap (λ (p : Parts). with_stack (with_typed c.args.line) p.work) c.deref_mut.ensures.value in
    let left = sym (c.deref_mut-2.ensures.value ∙ ap (λ (p : Parts). record p { work = c.add_line.new.self }) c.deref_mut.ensures.value) in (
      subst (λ (p : Parts). IsJob (job_of p)) left
          (subst (λ (w : Work). IsJob (record (job_of c.self.inside.parts.value) { desk = w.desk })) (sym same) (typed_rules c.args.line (job_of c.self.inside.parts.value) c.self.invariant.0)),
      c.ready_with-ready.ensures ∙ ap (λ (line : List ℕ). is_ready (typed_to line c.args.self.now)) c.as_slice.ensures
          ∙ ap (λ (j : JobState). is_ready (typed_to c.args.line j)) (sym c.self.view_is) ∙ ap (λ (w : Work). is_ready (record (job_of c.self.inside.parts.value) { desk = w.desk })) (sym same)
          ∙ ap (λ (p : Parts). is_ready (job_of p)) left,
    )
