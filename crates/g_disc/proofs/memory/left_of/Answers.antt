use Rattle.std.proofs.Common.{arith}
use Rattle.std.proofs.lemmas.List.{length-take}
use Rattle.g_disc.proofs.memory.left_of.Goals as goal

pub slice_bounds-copy_from_slice-end : goal.slice_bounds-copy_from_slice-end
slice_bounds-copy_from_slice-end c =
    let old = c.told-old in omega (arith, length-take 256 c.args.old.now)

pub copy_from_slice-requires : goal.copy_from_slice-requires
copy_from_slice-requires c =
    let old = c.told-old in
    let new = c.told-new in omega (arith, length-take 256 c.args.old.now, length-take 256 c.args.new.now)
