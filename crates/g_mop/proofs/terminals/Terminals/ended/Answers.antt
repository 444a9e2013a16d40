-- The seats of other jobs are unchanged.
use Rattle.std.proofs.Common.{ap, not, rules, subst, sym, ◌==◌, ◌∙◌, ◌≡◌}
use Rattle.arrayvec.proofs.ArrayVecLemmas.{filter-from_retain}
use Rattle.g_mop.specs.Seats.{AreSeats, without_seat}
use Rattle.g_mop.specs.declared.seat.Seat.{Seat}
use Rattle.g_mop.proofs.SeatLemmas.{seats_without}
use Rattle.g_mop.proofs.terminals.Terminals.ended.Goals as goal

pub invariant_of-self : goal.invariant_of-self
invariant_of-self c =
    let kept : c.retain.new.self.items ≡ without_seat c.args.job c.self.inside.seats.items =
    filter-from_retain _ (λ (s : Seat). not (s.job == c.args.job)) _ (λ x b f' y called. search rules) c.self.inside.seats.items c.retain.new.self.items c.retain.ensures.filtered in
    subst AreSeats (sym kept) (seats_without c.args.job c.self.inside.seats.items c.self.invariant)

pub returns : goal.returns
returns c =
    let kept : c.retain.new.self.items ≡ without_seat c.args.job c.self.inside.seats.items =
    filter-from_retain _ (λ (s : Seat). not (s.job == c.args.job)) _ (λ x b f' y called. search rules) c.self.inside.seats.items c.retain.new.self.items c.retain.ensures.filtered in
    kept ∙ ap (without_seat c.args.job) c.self.view_is
