use Rattle.std.proofs.Common.{sym, ◌∙◌}
use Rattle.g_plan.proofs.OrderLemmas.{order-new}
use Rattle.g_plan.proofs.given.order_for.Goals as goal

pub unreachable-requires : goal.unreachable-requires
unreachable-requires c =
    order-new c.args.name c.args.x c.args.m c.args.value.now c.args.source.now c.row-row.result c.in_ok-address.address c.requires c.row-row.ensures
    (sym c.address.ensures ∙ c.in_ok-address.was) c.in-None.ensures.valid
