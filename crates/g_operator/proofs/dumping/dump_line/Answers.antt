use Rattle.std.specs.Prelude.{codes}
use Rattle.g_run_model.specs.Texts.{dump_text}
use Rattle.g_day.specs.System.{facts_of}
use Rattle.g_operator.proofs.AskLemmas.{granted_by, opens_line, refused_by}
use Rattle.g_operator.proofs.DayLemmas.{ready_inside, same_line}
use Rattle.g_operator.proofs.dumping.dump_line.Goals as goal

pub returns-in-Ok : goal.returns-in-Ok
returns-in-Ok g c =
    same_line c.day.view_is c.told.ensures.same
    (granted_by (opens_line c.args.serial) (facts_of g.D.Disc.state g.T.Tapes.rack c.day.inside.system) (facts_of g.D.Disc.state g.T.Tapes.rack c.opens.new.system) c.day.inside.crew c.day.inside.count (ready_inside c.day.view_is c.requires.ready) c.in-Ok.number c.in-Ok.ensures
    c.told.result.failure _ _ _ _ (c.told.ensures.put (dump_text c.in-Ok.number (codes "OPENED")) c.dump_text-made.ensures))

pub returns-in-Err : goal.returns-in-Err
returns-in-Err g c =
    same_line c.day.view_is c.refuse_or_go_down.ensures.day
    (refused_by (opens_line c.args.serial) (facts_of g.D.Disc.state g.T.Tapes.rack c.day.inside.system) (facts_of g.D.Disc.state g.T.Tapes.rack c.opens.new.system) c.day.inside.crew c.day.inside.count (ready_inside c.day.view_is c.requires.ready) c.in-Err.fault c.in-Err.ensures
    c.refuse_or_go_down.result.failure c.refuse_or_go_down.result.day.crew _ _ _ _ c.refuse_or_go_down.ensures.told)
