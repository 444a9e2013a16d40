use Rattle.std.proofs.Common.{◌∙◌, sym}
use Rattle.g_known.proofs.KnownLemmas.{end_last}
use Rattle.g_known.proofs.lists.end.Goals as goal

pub returns-in-Some : goal.returns-in-Some
returns-in-Some c = c.behind.ensures ∙ sym (end_last 0 c.args.notes.now _ c.in-Some.ensures.value)
