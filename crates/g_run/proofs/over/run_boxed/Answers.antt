-- What the run over the boxes did, it did over what is in them.
use Rattle.g_run.proofs.OverLemmas.{both_is, carried, nothing_done}
use Rattle.g_run.proofs.over.run_boxed.Goals as goal

pub run_script-requires-clause-size : goal.run_script-requires-clause-size
run_script-requires-clause-size g c = rw c.in-Ok.ensures.ok.0 c.requires.size

pub returns-in-Ok : goal.returns-in-Ok
returns-in-Ok g c =
    carried g.F.Fn c.args.rules.now.tariff.now g.U.Fn c.args.rules.now.weigh.now c.args.script.lines c.args.script.bad _ _ _ _ _ _ _ _ _ _
    (both_is _ _ _ _ c.in-Ok.ensures.ok.0 c.in-Ok.ensures.ok.1) (both_is _ _ _ _ c.unboxed.ensures.disc c.unboxed.ensures.tapes) c.unboxed.ensures.failure c.run_script.ensures

pub returns-in-Err : goal.returns-in-Err
returns-in-Err g c =
    nothing_done g.F.Fn c.args.rules.now.tariff.now g.U.Fn c.args.rules.now.weigh.now c.args.script.lines c.args.script.bad _ _ _ _ (both_is _ _ _ _ c.in-Err.ensures.err.0 c.in-Err.ensures.err.1)
