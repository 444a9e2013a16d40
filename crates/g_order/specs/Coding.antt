-- Orders in contracts: by their four fields.
use Rattle.g_order.specs.Order.{Fields}
use Rattle.g_order.specs.declared.orders.Order.{Order}

-- The fields of an order.
abbrev pub fields : Order → Fields
fields o = record { x = o.x; f = o.f; m = o.m; n = o.n }
