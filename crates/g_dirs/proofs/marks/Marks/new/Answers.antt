use Rattle.std.proofs.Common.{rules, ◌≡◌, arith, replicate, true}
use Rattle.std.specs.Vec.{vec_len}
use Rattle.g_dirs.proofs.MarkLemmas.{noted_all, off_first}
use Rattle.g_dirs.proofs.marks.Marks.new.Goals as goal

pub invariant_of-result : goal.invariant_of-result
invariant_of-result c =
    let long : vec_len c.in_ok-blocks.blocks ≡ 1088 = search rules in
    let same : c.in_ok-noted.noted.items ≡ replicate 34 true = search rules in
    (long, omega arith, λ i high low. let no : ⊥ = omega (arith, high, low) in absurd no, off_first _, noted_all c.in_ok-noted.noted.items c.in_ok-blocks.blocks.items same)
