use Rattle.std.proofs.Common.{◌≡◌, ◌+◌, ◌<◌, ◌≤◌, sym, ap, ◌∙◌, arith}
use Rattle.g_turn.specs.State.{Work}
use Rattle.g_turn.specs.contracts.work.Work.{the_view}
use Rattle.g_turn.proofs.PlainLemmas.{run_plainly}
use Rattle.g_turn.proofs.work.Work.run_plain.Goals as goal

pub returns-in-Some-clause-same : goal.returns-in-Some-clause-same
returns-in-Some-clause-same c = λ room.
    let before : c.args.self.now.orders < 64 = c.requires.few in
    let same : (the_view c.self.inside).orders ≡ c.args.self.now.orders = ap (λ (w : Work). w.orders) c.self.view_is in
    let most = c.run.ensures.most in
    let few : (the_view c.self.inside).orders + c.run.result ≤ 64 = omega (arith, before, same, most) in
    run_plainly room c.run.result (the_view c.self.inside) c.args.self.now c.in-Some.program c.run.new.self c.self.view_is few c.in-Some.is
    (sym c.is_over.ensures ∙ c.if-is_over.false) c.run.ensures.ran
