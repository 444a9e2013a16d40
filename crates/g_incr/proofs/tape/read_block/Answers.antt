use Rattle.std.proofs.Common.{Err, subst}
use Rattle.g_tape.specs.declared.fault.TapeFault.{TapeFault}
use Rattle.g_tape.specs.Rack.{Reading}
use Rattle.g_tape.proofs.ReadLemmas.{has_read}
use Rattle.g_incr.proofs.TapeLemmas.{end_found, good_reads, to_ok}
use Rattle.g_incr.proofs.tape.read_block.Goals as goal

pub returns-in-Ok-clause-reads : goal.returns-in-Ok-clause-reads
returns-in-Ok-clause-reads g c = to_ok c.args.serial _ _ _ (good_reads c.args.serial c.args.k _ _ c.read.new.into c.in-Ok.ensures)

pub returns-in-Ok-clause-read : goal.returns-in-Ok-clause-read
returns-in-Ok-clause-read g c = has_read c.args.serial c.args.k _ _ c.read.new.into (g.met.T.Tapes.well_formed c.args.tapes.now) c.in-Ok.ensures

pub returns-in-Err-End-clause-found : goal.returns-in-Err-End-clause-found
returns-in-Err-End-clause-found g c =
    let old = g.T.Tapes.rack c.args.tapes.now in
    let new = g.T.Tapes.rack c.read.new.self in
    end_found c.args.serial c.args.k old new c.read.new.into (g.met.T.Tapes.well_formed c.args.tapes.now)
    (subst (λ (f : TapeFault). Reading c.args.serial c.args.k old (Err f) c.read.new.into new) c.in-Err-End.field-0-is c.in-Err-End.ensures)
