use Rattle.g_lang.proofs.PieceLemmas.{last-taken}
use Rattle.g_lang.proofs.pieces.without_last.Goals as goal

pub returns-in-len1-up : goal.returns-in-len1-up
returns-in-len1-up c = last-taken c.args.text.now
