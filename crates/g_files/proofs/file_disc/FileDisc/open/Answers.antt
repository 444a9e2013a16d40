use Rattle.std.proofs.Common.{ap, ◌∙◌}
use Rattle.g_files.specs.Durability.{overlaid}
use Rattle.g_files.specs.Image.{durability_seen, seen}
use Rattle.g_files.proofs.DurableBlocksLemmas.{opened_is}
use Rattle.g_files.proofs.file_disc.FileDisc.open.Goals as goal

pub returns-clause-opened : goal.returns-clause-opened
returns-clause-opened g c =
    let i = c.in_ok-over.field-0 in
    opened_is i.size (seen i) (g.F.RawFile.content c.args.file) (durability_seen i) (g.F.RawFile.durability c.args.file)
    c.new.result c.new-2.result
    (c.in_ok-over.ensures.seen ∙ c.blocks_in.ensures.same)
    (c.in_ok-over.ensures.as_durable ∙ ap (overlaid 0 0) c.blocks_in.ensures.as_durable) c.new.ensures c.new-2.ensures
