use Rattle.std.proofs.Common.{rules, ◌≡◌, false, inr}
use Rattle.g_ticks.specs.Parts.{is_past}
use Rattle.g_ticks.proofs.ticks.goes_on.Goals as goal

pub something_steps-requires : goal.something_steps-requires
something_steps-requires g c = record { ready = c.requires.ready c.in-None.is }

pub returns-else-is_past-clause-yes : goal.returns-else-is_past-clause-yes
returns-else-is_past-clause-yes g c = λ yes.
    let undue : is_past c.args.limit c.args.up.now.count ≡ false = search rules in
    let steps = c.something_steps.ensures.yes yes in
    (c.in-None.is, undue, steps.0, steps.1)

pub returns-else-is_past-clause-no : goal.returns-else-is_past-clause-no
returns-else-is_past-clause-no g c = λ isnt none. inr (c.something_steps.ensures.no isnt)
