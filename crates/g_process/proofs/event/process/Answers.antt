use Rattle.g_process.proofs.AnswerLemmas.{prepared_then, refused_then}
use Rattle.g_process.proofs.event.process.Goals as goal

pub returns-in-Ok : goal.returns-in-Ok
returns-in-Ok g c =
    prepared_then c.args.serial c.in-Ok.job c.args.online.now (g.T.Tapes.rack c.args.tapes.now) (g.T.Tapes.rack c.prepared.new.tapes) c.requires.live c.requires.pins c.requires.tied
    (g.met.T.Tapes.well_formed _) c.in-Ok.ensures.reads c.in-Ok.ensures.job c.carry_out.new.online (g.T.Tapes.rack c.carry_out.new.tapes) c.carry_out.ensures.tied (g.met.T.Tapes.well_formed _)
    c.carry_out.result c.carry_out.ensures.carried

pub returns-in-Err : goal.returns-in-Err
returns-in-Err g c =
    refused_then c.args.serial c.args.online.now (g.T.Tapes.rack c.args.tapes.now) (g.T.Tapes.rack c.prepared.new.tapes) c.requires.live c.requires.pins c.requires.tied
    c.in-Err.ensures.reads c.in-Err.fault c.in-Err.ensures.job
