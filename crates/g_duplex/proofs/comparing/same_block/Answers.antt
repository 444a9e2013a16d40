use Rattle.g_tape.proofs.ReadLemmas.{reading_only}
use Rattle.g_duplex.proofs.comparing.same_block.Goals as goal

pub returns-in-Ok-read-clause-one : goal.returns-in-Ok-read-clause-one
returns-in-Ok-read-clause-one g c = reading_only c.args.serial c.args.k (g.T.Tapes.rack c.args.one.now) (g.T.Tapes.rack c.read.new.self) c.read.result c.read.new.into c.read.ensures

pub returns-in-Ok-read-clause-other : goal.returns-in-Ok-read-clause-other
returns-in-Ok-read-clause-other g c = reading_only c.args.serial c.args.k (g.T.Tapes.rack c.args.other.now) (g.T.Tapes.rack c.read-2.new.self) c.read-2.result c.read-2.new.into c.read-2.ensures

pub returns-in-Err-read-clause-one : goal.returns-in-Err-read-clause-one
returns-in-Err-read-clause-one g c = reading_only c.args.serial c.args.k (g.T.Tapes.rack c.args.one.now) (g.T.Tapes.rack c.read.new.self) c.read.result c.read.new.into c.read.ensures
