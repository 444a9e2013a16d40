use Rattle.std.proofs.Common.{subst, sym}
use Rattle.g_lines.proofs.LineLemmas.{lines-text}
use Rattle.g_lines.specs.Documents.{IsWhole}
use Rattle.g_lines.proofs.document.end_last.Goals as goal

pub returns-in_ok-push-clause-whole : goal.returns-in_ok-push-clause-whole
returns-in_ok-push-clause-whole c = subst IsWhole (sym c.in_ok-push.ensures.ok) (lines-text c.args.text.now)
