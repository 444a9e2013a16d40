-- A ready job is still ready after one more line.
use Rattle.std.proofs.Common.{ap, sym, ◌∙◌}
use Rattle.g_job.specs.Terminal.{is_ready}
use Rattle.g_job.specs.declared.parts.Parts.{Parts}
use Rattle.g_job.proofs.TerminalLemmas.{typed_stays}
use Rattle.g_job.proofs.job.Job.ready_with.Goals as goal

pub returns-then-deref : goal.returns-then-deref
returns-then-deref c =
    c.if-deref.true
    ∙ sym (typed_stays c.args.self.now c.args.line.now
    (sym (ap is_ready c.self.view_is) ∙ sym c.self.invariant.1 ∙ sym (ap (λ (p : Parts). p.ready) c.deref.ensures) ∙ c.if-deref.true))
