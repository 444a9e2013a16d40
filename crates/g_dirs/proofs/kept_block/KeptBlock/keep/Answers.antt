-- Both blocks end in the same zeros, so only the front changes.
use Rattle.std.proofs.Common.{List, length, take, ℕ, ap, sym, subst, ◌∙◌, arith}
use Rattle.g_base.specs.Fields.{IsPartWritten, padded}
use Rattle.g_dirs.proofs.KeptLemmas.{front_kept, padded_is_part, same_ends}
use Rattle.g_dirs.proofs.kept_block.KeptBlock.keep.Goals as goal

pub returns : goal.returns
returns c =
    let within = c.self.invariant.within in
    let put = ap length c.as_slice-len.ensures.value in
    let fits = c.as_slice-len.ensures.fits in
    let end = c.max-end.ensures in
    front_kept c.max-end.result c.self.inside.block c.copy_from_slice.new.self (padded 512 c.args.writer.now)
    (c.copy_from_slice.ensures.after ∙ ap (take c.max-end.result) c.block.ensures)
    (same_ends c.self.inside.len c.max-end.result c.self.inside.block c.args.writer.now (omega (arith, end)) (omega (arith, end, put)) (omega (arith, end, put, fits, within)) c.self.invariant)

pub invariant_of-self : goal.invariant_of-self
invariant_of-self c =
    let within = c.self.invariant.within in
    let value = c.as_slice-len.ensures.value in
    let put = ap length value in
    let fits = c.as_slice-len.ensures.fits in
    let end = c.max-end.ensures in
    let page = padded 512 c.args.writer.now in
    let whole = front_kept c.max-end.result c.self.inside.block c.copy_from_slice.new.self page
    (c.copy_from_slice.ensures.after ∙ ap (take c.max-end.result) c.block.ensures)
    (same_ends c.self.inside.len c.max-end.result c.self.inside.block c.args.writer.now (omega (arith, end)) (omega (arith, end, put)) (omega (arith, end, put, fits, within)) c.self.invariant) in
    subst (λ (b : List ℕ). IsPartWritten (length c.as_slice-len.result.now) b) (sym whole)
    (subst (λ (n : ℕ). IsPartWritten n page) (sym put) (padded_is_part c.args.writer.now fits))
