use Rattle.std.proofs.Common.{Option, ◌≡◌, ◌↔◌, subst, sym, true, ℕ}
use Rattle.g_typing.specs.Reader.{JobText, asked_by}
use Rattle.g_typing.proofs.HeadLemmas.{job_test}
use Rattle.g_typing.proofs.item.begins_job.Goals as goal

pub returns-in-None : goal.returns-in-None
returns-in-None c =
    let text = c.args.head.now.text.now in
    subst (λ (digit : Option ℕ). (c.starts_with.result ≡ true) ↔ JobText (asked_by digit text)) (sym c.in-None.is) (job_test text c.starts_with.result c.starts_with.ensures.value)
