use Rattle.std.proofs.Common.{List, Bool, false, length, replicate, arith, ap, ◌∙◌}
use Rattle.g_dirs.proofs.MarkLemmas.{written_all}
use Rattle.g_dirs.proofs.marks.Marks.clear.Goals as goal

pub returns : goal.returns
returns c =
    let blocks = c.self.inside.blocks in
    let same = c.unmark.ensures ∙ ap (λ (bs : List Bool). replicate (length bs) false) c.deref_mut.ensures.value in
    written_all blocks.len blocks.items c.unmark.new.blocks blocks.ok.0 (omega (arith, blocks.ok.0, c.self.invariant.0)) same
