-- The seat at the place is the terminal's.
use Rattle.std.proofs.Common.{List, Some, ap, false, if◌then◌else◌, map, slice_get, subst, sym, ◌∙◌, ◌≡◌}
use Rattle.g_mop.specs.Seats.{AreSeats, job_in_seat, left_at, seat_at}
use Rattle.g_mop.specs.declared.seat.Seat.{Seat}
use Rattle.g_mop.proofs.SeatLemmas.{job_at, job_there, left_written, seats_left}
use Rattle.g_mop.proofs.terminals.Terminals.logout.Goals as goal

pub invariant_of-self : goal.invariant_of-self
invariant_of-self c =
    let items = c.self.inside.seats.items in
    let same = c.as_slice.ensures.value in
    let found = c.in-Some.ensures in
    let there : slice_get items c.in-Some.place ≡ Some found.0 = ap (λ (xs : List Seat). slice_get xs c.in-Some.place) (sym same) ∙ found.1 in
    let at : seat_at c.args.terminal items ≡ Some found.0 = ap (seat_at c.args.terminal) (sym same) ∙ found.2 in
    subst AreSeats (sym (left_written items c.deref_mut.result.now c.in-Some.place c.args.terminal found.0 _ c.deref_mut.ensures.value c.self.invariant there at))
    (seats_left c.args.terminal items c.self.invariant)

pub returns-clause-left : goal.returns-clause-left
returns-clause-left c =
    let items = c.self.inside.seats.items in
    let same = c.as_slice.ensures.value in
    let found = c.in-Some.ensures in
    let there : slice_get items c.in-Some.place ≡ Some found.0 = ap (λ (xs : List Seat). slice_get xs c.in-Some.place) (sym same) ∙ found.1 in
    let at : seat_at c.args.terminal items ≡ Some found.0 = ap (seat_at c.args.terminal) (sym same) ∙ found.2 in (
      ap job_in_seat (ap (seat_at c.args.terminal) (sym c.self.view_is) ∙ at) ∙ job_at found.0 found.3
          ∙ ap Some (job_there items c.deref.result.now c.in-Some.place found.0 _ c.deref.ensures.0 there),
      left_written items c.deref_mut.result.now c.in-Some.place c.args.terminal found.0 _ c.deref_mut.ensures.value c.self.invariant there at
          ∙ ap (map (left_at c.args.terminal)) c.self.view_is,
    )
