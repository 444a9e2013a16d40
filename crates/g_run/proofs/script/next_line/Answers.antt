use Rattle.std.proofs.Common.{[], ◌∷◌, refl, arith}
use Rattle.g_day.specs.System.{SystemSafe}
use Rattle.g_ticks.proofs.SurvivingLemmas.{safe_runs}
use Rattle.g_run.proofs.LineLemmas.{line_done, line_undone}
use Rattle.g_operator.proofs.AnewLemmas.{first_line}
use Rattle.g_run.proofs.NextLemmas.{first_held, holds_done, none_held}
use Rattle.g_run.proofs.script.next_line.Goals as goal

pub returns-in-None : goal.returns-in-None
returns-in-None g c =
    let ticked = rw c.in-None.is at c.tick_until_due-day.ensures in
    let did = line_done g.F.Fn c.args.rules.now.tariff.now g.U.Fn c.args.rules.now.weigh.now c.args.next _ _ c.operator_line.result.failure _ _ _ _ _ _ _ ticked c.operator_line.ensures.line.count c.operator_line.ensures.line c.operator_line.ensures.anew in record {
      did = did;
      holds = holds_done g.F.Fn c.args.rules.now.tariff.now g.U.Fn c.args.rules.now.weigh.now SystemSafe safe_runs c.args.next _ _ c.operator_line.result.failure _ _ _ _ ticked.goes c.operator_line.ensures.line.safe c.operator_line.ensures.line.goes (λ w m between is. did.goes [] w m between is);
      first = λ is blank.
          let (blank_mid, went) = ticked.aside blank in
          first_held g.F.Fn c.args.rules.now.tariff.now g.U.Fn c.args.rules.now.weigh.now c.args.next _ _ c.operator_line.result.failure _ _ _ _ _ _ ticked.keeps.same went
          (first_line c.args.next.what is _ c.operator_line.result.failure _ _ _ _ _ c.operator_line.ensures.anew blank_mid);
    }

pub returns-in-Some : goal.returns-in-Some
returns-in-Some g c =
    let ticked = rw c.in-Some.is at c.tick_until_due-day.ensures in record {
      did = line_undone g.F.Fn c.args.rules.now.tariff.now g.U.Fn c.args.rules.now.weigh.now c.args.next _ c.in-Some.failure _ _ _ _ _ ticked;
      holds = λ w m between is. ticked.goes (c.args.next ∷ []) refl w m between is;
      first = λ is blank. none_held g.F.Fn c.args.rules.now.tariff.now g.U.Fn c.args.rules.now.weigh.now c.args.next _ c.in-Some.failure _ _ _ _ _ ticked blank;
    }

pub operator_line-requires-clause-ready : goal.operator_line-requires-clause-ready
operator_line-requires-clause-ready g c = (c.tick_until_due-day.ensures.keeps.ready c.in-None.is).0

pub operator_line-requires-clause-numbers : goal.operator_line-requires-clause-numbers
operator_line-requires-clause-numbers g c = let most = c.tick_until_due-day.ensures.keeps.numbers c.in-None.is in omega (arith, most, c.requires.numbers)
