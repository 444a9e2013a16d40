use Rattle.std.proofs.Common.{refl}
use Rattle.g_store_meaning.specs.StoreInvariant.{DumpFacts}
use Rattle.g_dumper.proofs.NextLemmas.{content_there, next_content, next_ready}
use Rattle.g_dumper.proofs.step.next_block.Goals as goal

pub pinned_block-requires-clause-there : goal.pinned_block-requires-clause-there
pinned_block-requires-clause-there g c =
    let (pins, at, are) = c.requires.pinned in
    let (pin, there, within) = content_there (record { plan = c.args.writer.now; done = c.args.done }) _ pins c.piece.new.into at are _ _ (c.in-Content.ensures.content _ _ refl) in
    (pins, at, pin, there, within)

pub returns-in-Ready-clause-block : goal.returns-in-Ready-clause-block
returns-in-Ready-clause-block g c =
    let (pins, at, are) = c.requires.pinned in
    next_ready (record { plan = c.args.writer.now; done = c.args.done }) _ pins _ at are (c.in-Ready.ensures.ready refl)

pub returns-in-Ok-clause-block : goal.returns-in-Ok-clause-block
returns-in-Ok-clause-block g c =
    let (pins, at, are) = c.requires.pinned in
    let d : DumpFacts = record { plan = c.args.writer.now; done = c.args.done } in
    let stands = c.in-Content.ensures.content _ _ refl in
    let (pin, there, within) = content_there d _ pins c.piece.new.into at are _ _ stands in
    next_content d _ pins _ at are _ _ pin stands there (c.in-Ok.ensures.block pins pin at there)
