use Rattle.g_look.proofs.SeenLemmas.{are_seen, few_seen, known_seen}
use Rattle.g_look.proofs.rack.see_rack.Goals as goal

pub returns-in-Ok-clause-seen : goal.returns-in-Ok-clause-seen
returns-in-Ok-clause-seen g c = are_seen (g.T.Tapes.rack c.args.tapes.now) _ (g.met.T.Tapes.well_formed _) c.in-Ok.ensures.found

pub returns-in-Ok-clause-few : goal.returns-in-Ok-clause-few
returns-in-Ok-clause-few g c = few_seen (g.T.Tapes.rack c.args.tapes.now) _ c.in-Ok.ensures.found

pub returns-in-Ok-clause-known : goal.returns-in-Ok-clause-known
returns-in-Ok-clause-known g c = known_seen (g.T.Tapes.rack c.args.tapes.now) _ c.in-Ok.ensures.found
