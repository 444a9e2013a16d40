use Rattle.std.proofs.Common.{ap, sym}
use Rattle.g_day.specs.System.{SystemFacts, facts_of}
use Rattle.g_day.specs.Terminals.{is_up_in}
use Rattle.g_operator.proofs.terminals.is_up.Goals as goal

pub returns-in-Up : goal.returns-in-Up
returns-in-Up g c = ap (λ (f : SystemFacts). is_up_in f) (sym (ap (facts_of g.D.Disc.state g.T.Tapes.rack) c.in-Up.is))

pub returns-in-Down : goal.returns-in-Down
returns-in-Down g c = ap (λ (f : SystemFacts). is_up_in f) (sym (ap (facts_of g.D.Disc.state g.T.Tapes.rack) c.in-Down.is))
