use Rattle.std.proofs.Common.{ℕ, List, [], sym, subst}
use Rattle.g_laws_store.specs.UnjamPlan.{IsUnjamPlan}
use Rattle.g_migrate.specs.UnjamPlan.{IsRoomWithout}
use Rattle.g_migrate.proofs.NothingLemmas.{nothing_is_a_plan, room_of_nothing}
use Rattle.g_migrate.proofs.unjamming.plan_unjam.Goals as goal

pub returns-then-need-room-clause-plan : goal.returns-then-need-room-clause-plan
returns-then-need-room-clause-plan g c =
    let o = c.args.online.now in
    subst (λ (l : List ℕ). IsUnjamPlan c.args.need o l c.nothing_taken.result.room) (sym c.nothing_taken.ensures.take)
    (subst (λ (n : ℕ). IsUnjamPlan c.args.need o [] n) (sym c.nothing_taken.ensures.room) (nothing_is_a_plan o c.args.need c.room-room.result c.room-room.ensures.room c.if-need-room.true))

pub returns-then-need-room-clause-room : goal.returns-then-need-room-clause-room
returns-then-need-room-clause-room g c =
    let o = c.args.online.now in
    subst (λ (l : List ℕ). IsRoomWithout o l c.nothing_taken.result.room) (sym c.nothing_taken.ensures.take)
    (subst (λ (n : ℕ). IsRoomWithout o [] n) (sym c.nothing_taken.ensures.room) (room_of_nothing o c.room-room.result c.room-room.ensures.room))
