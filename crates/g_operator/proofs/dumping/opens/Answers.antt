use Rattle.std.proofs.Common.{refl, sym, ap, subst}
use Rattle.std.specs.Prelude.{Err}
use Rattle.g_plain.specs.declared.faults.StoreFault.TheVariants.{NotStarted}
use Rattle.g_operator.specs.Asking.{AsksOf, Opened}
use Rattle.g_day.specs.System.{SystemFacts, Up, facts_of}
use Rattle.g_operator.proofs.dumping.opens.Goals as goal

pub returns-in-Up : goal.returns-in-Up
returns-in-Up g c =
    subst (λ (f : SystemFacts). AsksOf (λ s answer t. Opened c.args.serial s answer t) f c.open_dump.result (Up c.open_dump.new.self)) (sym (ap (facts_of g.D.Disc.state g.T.Tapes.rack) c.in-Up.is))
    (record { opens = c.open_dump.ensures.event; begins = c.open_dump.ensures.begins })

pub returns-in-Down : goal.returns-in-Down
returns-in-Down g c =
    subst (λ (f : SystemFacts). AsksOf (λ s answer t. Opened c.args.serial s answer t) f (Err NotStarted) f) (sym (ap (facts_of g.D.Disc.state g.T.Tapes.rack) c.in-Down.is)) (refl, refl)
