-- Free blocks of a pool make a copy.
-- serves: store_copy (copy), crates above
use Rattle.std.proofs.Common.{◌≡◌, ℕ, ◌+◌, List, length, Bool, false, arith}
use Rattle.std.proofs.lemmas.List.Kept.{AllPairs-from_increasing}
use Rattle.std.proofs.lemmas.Option.{slice_get_within}
use Rattle.g_base.specs.Block.{blocks_for}
use Rattle.g_blocks.specs.Pool.{AreLeastFree}
use Rattle.g_copy.specs.declared.copy.DiscCopy.{DiscCopy}
use Rattle.g_copy.specs.Copy.{IsCopy}

-- as many free blocks as the bytes need, each once
pub IsCopy-from_free : (pool : List Bool) (size : ℕ) (copy : DiscCopy) → 2177 + length pool ≡ size → AreLeastFree pool (blocks_for copy.len) copy.blocks → IsCopy size copy
IsCopy-from_free pool size copy whole free = record {
  count = free.count;
  area = λ i d below.
      let one = free.free i d below in
      let low = one.low in
      let within = slice_get_within pool _ false one.flag in record { low = one.low; high = omega arith };
  apart = λ i j d before below same.
      let rising = AllPairs-from_increasing copy.blocks free.rising i j d before below in absurd (omega arith);
}
