use Rattle.g_turn.specs.contracts.work.Work.{the_view}
use Rattle.g_turn.proofs.OrderLemmas.{stepped}
use Rattle.g_turn.proofs.work.Work.step.Goals as goal

pub returns-clause-ok : goal.returns-clause-ok
returns-clause-ok c =
    stepped (the_view c.self.inside) c.args.self.now c.in-Some.program c.one_order.new.program c.one_order.new.self c.in_ok-event.event
    c.self.view_is c.in-Some.is c.in_ok-event.ensures.ordered
