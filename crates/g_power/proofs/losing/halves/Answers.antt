-- Both blocks have 512 bytes.
use Rattle.std.proofs.Common.{arith}
use Rattle.std.proofs.lemmas.List.{length-take}
use Rattle.g_power.proofs.losing.halves.Goals as goal

pub slice_bounds-copy_from_slice-end : goal.slice_bounds-copy_from_slice-end
slice_bounds-copy_from_slice-end c =
    let second = c.told-second in omega (arith, length-take 256 c.args.second.now)

pub copy_from_slice-requires : goal.copy_from_slice-requires
copy_from_slice-requires c =
    let first = c.told-first in
    let second = c.told-second in omega (arith, length-take 256 c.args.first.now, length-take 256 c.args.second.now)
