-- There is room for one more terminal, and this one is free.
use Rattle.std.proofs.Common.{None, arith, ap, subst, sym, ◌∙◌, ◌≡◌}
use Rattle.g_mop.specs.Seats.{AreSeats, seat_at}
use Rattle.g_mop.proofs.SeatLemmas.{has_room, nobody_at, seats_push}
use Rattle.g_mop.proofs.terminals.Terminals.login.Goals as goal

pub push-requires : goal.push-requires
push-requires c =
    let free : seat_at c.args.terminal c.self.inside.seats.items ≡ None =
    ap (seat_at c.args.terminal) c.self.view_is ∙ nobody_at (seat_at c.args.terminal c.args.self.now) c.is_busy.result c.is_busy.ensures c.if-is_busy.false in
    (omega arith, has_room c.self.inside.seats.items c.args.terminal c.self.invariant c.requires.0 c.requires.1 free)

pub invariant_of-self : goal.invariant_of-self
invariant_of-self c =
    let free : seat_at c.args.terminal c.self.inside.seats.items ≡ None =
    ap (seat_at c.args.terminal) c.self.view_is ∙ nobody_at (seat_at c.args.terminal c.args.self.now) c.is_busy.result c.is_busy.ensures c.if-is_busy.false in
    subst AreSeats (sym c.push.ensures.items) (seats_push c.args.terminal c.args.job c.self.inside.seats.items c.self.invariant c.requires.0 c.requires.1 free)
