use Rattle.g_seal.proofs.ReelLemmas.{can_read, fits_there, low_end, sum_is}
use Rattle.g_seal.proofs.reel_sum.reel_sum.Goals as goal

pub sum_from-requires-clause-low : goal.sum_from-requires-clause-low
sum_from-requires-clause-low g c =
    low_end (g.T.Tapes.rack c.args.tapes.now) c.args.copy.now c.args.len (g.met.T.Tapes.well_formed _) (c.has_all.ensures.0 c.if-not-has_all.false)

pub sum_from-requires-clause-mounted : goal.sum_from-requires-clause-mounted
sum_from-requires-clause-mounted g c = can_read (g.T.Tapes.rack c.args.tapes.now) c.args.copy.now c.args.len c.requires.mounted (c.has_all.ensures.0 c.if-not-has_all.false)

pub sum_from-requires-clause-fits : goal.sum_from-requires-clause-fits
sum_from-requires-clause-fits g c = fits_there (g.T.Tapes.rack c.args.tapes.now) c.args.copy.now c.args.len (c.has_all.ensures.0 c.if-not-has_all.false)

pub returns-in-Ok-clause-sum : goal.returns-in-Ok-clause-sum
returns-in-Ok-clause-sum g c = sum_is (g.T.Tapes.rack c.args.tapes.now) c.args.copy.now c.args.len c.in-Ok.sum (c.has_all.ensures.0 c.if-not-has_all.false) c.in-Ok.ensures.sum
