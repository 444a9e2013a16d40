use Rattle.std.proofs.Common.{◌∙◌, ap, arith, length, subst, sym}
use Rattle.g_disc_contents.specs.Contents.{with_number}
use Rattle.g_disc_contents.specs.Facts.{AreNumbers}
use Rattle.g_online.proofs.NumberLemmas.{absent_here, numbers_with, room_for, there_here}
use Rattle.g_online.proofs.numbers.UserNumbers.put.Goals as goal

pub insert-requires : goal.insert-requires
insert-requires c = (
  omega arith,
  (
    omega (arith, c.in-Err.ensures.bound, ap length c.deref.ensures.0),
    room_for c.args.number c.deref.result.now c.self.inside.numbers.items c.in-Err.place c.deref.ensures.0 c.requires c.self.invariant c.in-Err.ensures.bound
        (absent_here c.args.number c.deref.result.now c.self.inside.numbers.items c.in-Err.place c.deref.ensures.0 c.self.invariant c.in-Err.ensures.position),
  ),
)

pub invariant_of-self : goal.invariant_of-self
invariant_of-self c =
    subst (AreNumbers 63)
    (sym (c.insert.ensures.items ∙ absent_here c.args.number c.deref.result.now c.self.inside.numbers.items c.in-Err.place c.deref.ensures.0 c.self.invariant c.in-Err.ensures.position))
    (numbers_with 63 c.args.number c.self.inside.numbers.items c.requires c.self.invariant)

pub returns-in-Ok : goal.returns-in-Ok
returns-in-Ok c =
    sym c.self.view_is
    ∙ there_here c.args.number c.deref.result.now c.self.inside.numbers.items c.in-Ok.field-0 c.deref.ensures.0 c.self.invariant c.in-Ok.ensures.bound c.in-Ok.ensures.position
    ∙ ap (with_number c.args.number) c.self.view_is

pub returns-in-Err : goal.returns-in-Err
returns-in-Err c =
    c.insert.ensures.items
    ∙ absent_here c.args.number c.deref.result.now c.self.inside.numbers.items c.in-Err.place c.deref.ensures.0 c.self.invariant c.in-Err.ensures.position
    ∙ ap (with_number c.args.number) c.self.view_is
