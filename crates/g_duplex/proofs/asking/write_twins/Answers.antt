-- The racks by who leads.
use Rattle.std.proofs.Common.{◌∙◌, sym}
use Rattle.g_tape.specs.Durable.{WritesDurably}
use Rattle.g_duplex.specs.Calls.{HasWritten, armed_when}
use Rattle.g_duplex.proofs.ReadLemmas.{from_first, from_second}
use Rattle.g_duplex.proofs.asking.write_twins.Goals as goal

pub returns-in-First-clause-written : goal.returns-in-First-clause-written
returns-in-First-clause-written g c =
    from_first (λ a b a' b'. HasWritten c.args.fires c.args.standing c.args.serial c.args.k c.args.from.now a b c.write_both.result.0 c.write_both.result.1 a' b')
    c.args.standing _ _ _ _ (sym c.leader.ensures ∙ c.in-First.is) c.write_both.ensures.written

pub returns-in-First-clause-durable : goal.returns-in-First-clause-durable
returns-in-First-clause-durable g c =
    from_first (λ a b a' b'. WritesDurably c.args.serial c.args.k c.args.from.now (armed_when c.args.fires a) c.write_both.result.0 a')
    c.args.standing (g.T.Tapes.rack c.args.first.now) (g.T.Tapes.rack c.args.second.now) (g.T.Tapes.rack c.write_both.new.leading) (g.T.Tapes.rack c.write_both.new.other)
    (sym c.leader.ensures ∙ c.in-First.is) c.write_both.ensures.durable

pub returns-in-Second-clause-durable : goal.returns-in-Second-clause-durable
returns-in-Second-clause-durable g c =
    from_second (λ a b a' b'. WritesDurably c.args.serial c.args.k c.args.from.now (armed_when c.args.fires a) c.write_both-in-Second.result.0 a')
    c.args.standing (g.T.Tapes.rack c.args.first.now) (g.T.Tapes.rack c.args.second.now) (g.T.Tapes.rack c.write_both-in-Second.new.other) (g.T.Tapes.rack c.write_both-in-Second.new.leading)
    (sym c.leader.ensures ∙ c.in-Second.is) c.write_both-in-Second.ensures.durable
