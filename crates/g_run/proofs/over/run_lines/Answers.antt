use Rattle.std.proofs.Common.{◌≤◌, arith}
use Rattle.std.proofs.lemmas.List.Elements.{All-weaker}
use Rattle.g_script.specs.declared.operator.Timed.{Timed}
use Rattle.g_ticks.specs.Parts.{IsTimedWithin}
use Rattle.g_run.proofs.LineLemmas.{all_done, all_short}
use Rattle.g_run.proofs.LittleLemmas.{room_left}
use Rattle.g_run.proofs.over.run_lines.Goals as goal

pub returns-in-None : goal.returns-in-None
returns-in-None g c =
    let first = rw c.in-None.is at c.do_lines-day.ensures in
    all_done g.F.Fn c.args.rules.now.tariff.now g.U.Fn c.args.rules.now.weigh.now c.args.lines _ _ c.tick_until_due.result.failure _ _ _ _ _ _ _ first c.tick_until_due.ensures

pub returns-in-Some : goal.returns-in-Some
returns-in-Some g c =
    let first = rw c.in-Some.is at c.do_lines-day.ensures in
    all_short g.F.Fn c.args.rules.now.tariff.now g.U.Fn c.args.rules.now.weigh.now c.args.lines _ c.in-Some.failure _ _ _ _ _ first

pub tick_until_due-requires-clause-room : goal.tick_until_due-requires-clause-room
tick_until_due-requires-clause-room g c =
    let begins = c.requires.begins in
    room_left c.do_lines-day.result.day.count _ (c.do_lines-day.ensures.late c.in-None.is 1000000000 (All-weaker IsTimedWithin (λ (t : Timed). t.turn ≤ 1000000000) (λ t is. is.1) c.args.lines c.requires.within) (omega (arith, begins)))
    c.remaining_ticks_fit.ensures
