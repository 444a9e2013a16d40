use Rattle.std.proofs.Common.{IfOk, subst, ◌≡◌}
use Rattle.g_demo.specs.Summary.{summary_of, summary_text}
use Rattle.g_demo.specs.declared.summary.Summary.{Summary}
use Rattle.g_run.proofs.demo.put_summary.Goals as goal

pub returns : goal.returns
returns g c =
    c.put_made.ensures (summary_text c.args.demo.now (summary_of c.args.sink.now.text))
    (subst (λ (s : Summary). IfOk c.summary_text-made.result (λ t. t ≡ summary_text c.args.demo.now s)) c.summary-summary.ensures c.summary_text-made.ensures)
