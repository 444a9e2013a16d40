use Rattle.std.proofs.Common.{◌∙◌, ap}
use Rattle.g_base.specs.Block.{blocks_for}
use Rattle.g_entry.specs.declared.file_rec.FileRec.{FileRec}
use Rattle.g_retrieve.proofs.BackLemmas.{not_absent, one_record}
use Rattle.g_store_calls.proofs.fetching.needed_blocks.Goals as goal

pub unreachable-requires : goal.unreachable-requires
unreachable-requires c = not_absent c.args.tree.now.users c.args.tree.now.files c.args.number c.file_at.ensures.records c.requires c.in-None.ensures.value

pub returns : goal.returns
returns c = λ r there at.
    c.blocks_for.ensures ∙ ap (λ (s : FileRec). blocks_for s.len) (one_record c.args.tree.now.users c.args.tree.now.files c.args.number c.in-Some.file.now r c.file_at.ensures.records c.in-Some.ensures.value there at)
