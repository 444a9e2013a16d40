use Rattle.std.proofs.Common.{◌∙◌}
use Rattle.g_incr.proofs.DumpLemmas.{mark_again, mark_found, mark_past}
use Rattle.g_incr.proofs.ListLemmas.{at_some}
use Rattle.g_incr.proofs.TapeLemmas.{from_ok}
use Rattle.g_incr.proofs.read.read_mark.Goals as goal

pub returns-in-Ok-Some-clause-found : goal.returns-in-Ok-Some-clause-found
returns-in-Ok-Some-clause-found g c = λ tells.
    let old = g.T.Tapes.rack c.args.tapes.now in
    let new = g.T.Tapes.rack c.read_block.new.tapes in
    mark_found c.args.serial c.mark_place.result c.args.n.now old new c.in-Ok-Some.block (g.met.T.Tapes.well_formed c.args.tapes.now) (from_ok c.args.serial old new _ c.in-Ok-Some.ensures.reads)
    (at_some _ _ _ c.in-Ok-Some.field-0-is c.in-Ok-Some.ensures.within) c.mark_place.ensures.exact (λ bs told. c.in-Ok-Some.ensures.found bs told ∙ c.in-Ok-Some.field-0-is)
    (at_some _ _ _ c.in-Ok-Some.field-0-is c.in-Ok-Some.ensures.read) (c.is_mark.ensures.found tells)

pub returns-in-Ok-Some-clause-again : goal.returns-in-Ok-Some-clause-again
returns-in-Ok-Some-clause-again g c =
    let old = g.T.Tapes.rack c.args.tapes.now in
    let new = g.T.Tapes.rack c.read_block.new.tapes in
    mark_again c.args.serial c.mark_place.result c.args.n.now old new c.in-Ok-Some.block (g.met.T.Tapes.well_formed c.args.tapes.now) (from_ok c.args.serial old new _ c.in-Ok-Some.ensures.reads)
    (at_some _ _ _ c.in-Ok-Some.field-0-is c.in-Ok-Some.ensures.within) c.mark_place.ensures.exact (λ bs told. c.in-Ok-Some.ensures.found bs told ∙ c.in-Ok-Some.field-0-is) c.is_mark.result c.is_mark.ensures.again

pub returns-in-Ok-None-clause-again : goal.returns-in-Ok-None-clause-again
returns-in-Ok-None-clause-again g c =
    mark_past c.args.serial c.mark_place.result c.args.n.now (g.T.Tapes.rack c.args.tapes.now) c.mark_place.ensures.most (λ bs told. c.in-Ok-None.ensures.found bs told ∙ c.in-Ok-None.field-0-is)
