use Rattle.std.proofs.Common.{arith, refl}
use Rattle.g_process.proofs.SourceLemmas.{free, from_disc, from_tape, low, never_none, read_fails, the_file}
use Rattle.g_process.proofs.sources.read_source.Goals as goal

pub file_block-requires-clause-there : goal.file_block-requires-clause-there
file_block-requires-clause-there g c =
    let (serial, readable) = c.requires.readable in
    the_file c.args.online.now (g.T.Tapes.rack c.args.tapes.now) c.args.version.now c.args.part serial readable c.requires.within c.is_online.result c.is_online.ensures c.if-is_online.true

pub returns-in-Ok-clause-read : goal.returns-in-Ok-clause-read
returns-in-Ok-clause-read g c =
    let (serial, readable) = c.requires.readable in
    from_disc c.args.online.now (g.T.Tapes.rack c.args.tapes.now) c.args.version.now c.args.part serial readable c.requires.within c.file_block.new.self c.file_block.new.into c.is_online.result _
    c.is_online.ensures c.if-is_online.true c.in-Ok.ensures.block c.in-Ok.ensures.same c.in-Ok.ensures.reads (λ is. let no : ⊥ = cc in no)

pub unreachable-requires : goal.unreachable-requires
unreachable-requires g c =
    let (serial, readable) = c.requires.readable in
    never_none c.args.online.now (g.T.Tapes.rack c.args.tapes.now) c.args.version.now c.args.part serial readable c.requires.within c.is_online.result c.is_online.ensures c.if-is_online.false c.in_default.is

pub overflow_add-copy : goal.overflow_add-copy
overflow_add-copy g c =
    let (serial, readable) = c.requires.readable in
    let less = low c.args.online.now (g.T.Tapes.rack c.args.tapes.now) c.args.version.now c.args.part serial readable c.requires.within (g.met.T.Tapes.well_formed _) c.in-Some.copy c.in-Some.is
    c.is_online.result c.is_online.ensures c.if-is_online.false in
    omega (arith, less)

pub returns-in-Ok-read-clause-read : goal.returns-in-Ok-read-clause-read
returns-in-Ok-read-clause-read g c =
    let (serial, readable) = c.requires.readable in
    from_tape c.args.online.now (g.T.Tapes.rack c.args.tapes.now) c.args.version.now c.args.part serial readable c.requires.within (g.met.T.Tapes.well_formed _) c.in-Some.copy c.in-Some.is
    c.is_online.result c.is_online.ensures c.if-is_online.false _ _ _ c.in-Ok-read.ensures

pub returns-in-Err-read-clause-read : goal.returns-in-Err-read-clause-read
returns-in-Err-read-clause-read g c =
    let (serial, readable) = c.requires.readable in
    let open_block = free c.args.online.now (g.T.Tapes.rack c.args.tapes.now) c.args.version.now c.args.part serial readable c.requires.within (g.met.T.Tapes.well_formed _) c.in-Some.copy c.in-Some.is
    c.is_online.result c.is_online.ensures c.if-is_online.false in
    let (rose, is) = read_fails _ _ _ _ c.in-Err-read.field-0 _ open_block c.in-Err-read.ensures in
    (rose, is, refl)
