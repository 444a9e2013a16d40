use Rattle.g_name.proofs.ShortLemmas.{copied_short}
use Rattle.g_name.proofs.short.Short.of.Goals as goal

pub invariant_of-result : goal.invariant_of-result
invariant_of-result g c = rw c.copy_from_slice.ensures.after (copied_short g.row.N c.args.text.now c.requires.fits)
