-- Both blocks end in the same zeros, so comparing the fronts is enough.
use Rattle.std.proofs.Common.{List, length, take, ℕ, ap, ◌∙◌, arith}
use Rattle.std.specs.Str.{bytes_eq}
use Rattle.g_base.specs.Fields.{padded}
use Rattle.g_dirs.proofs.KeptLemmas.{same_ends, same_fronts}
use Rattle.g_dirs.proofs.kept_block.KeptBlock.equals.Goals as goal

pub returns : goal.returns
returns c =
    let within = c.self.invariant.within in
    let page = padded 512 c.args.writer.now in
    let put = ap length c.as_slice.ensures.value in
    let fits = c.as_slice.ensures.fits in
    let end = c.max-end.ensures in
    c.eq.ensures
    ∙ ap (λ (b : List ℕ). bytes_eq (take c.max-end.result c.self.inside.block) (take c.max-end.result b)) c.block.ensures
    ∙ same_fronts c.max-end.result c.self.inside.block page
    (same_ends c.self.inside.len c.max-end.result c.self.inside.block c.args.writer.now (omega (arith, end)) (omega (arith, end, put)) (omega (arith, end, put, fits, within)) c.self.invariant)
    ∙ ap (λ (b : List ℕ). bytes_eq b page) c.self.view_is
