use Rattle.std.proofs.Common.{subst}
use Rattle.g_turn.specs.LineWork.{FiredAs}
use Rattle.g_turn.specs.Outcomes.{with_levels}
use Rattle.g_turn.specs.contracts.work.Work.{the_view}
use Rattle.g_turn.proofs.ReadyLemmas.{fired_as}
use Rattle.g_turn.proofs.work.Work.take_fired.Goals as goal

pub returns-in-Ok-clause-fired : goal.returns-in-Ok-clause-fired
returns-in-Ok-clause-fired c =
    subst (λ w. FiredAs c.in-Ok.text w (with_levels c.fire.new.self (the_view c.self.inside))) c.self.view_is
    (fired_as (the_view c.self.inside) c.fire.new.self c.in-Ok.text c.in-Ok.ensures.fires c.in-Ok.ensures.command)
