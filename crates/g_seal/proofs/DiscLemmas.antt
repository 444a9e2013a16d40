-- Bytes of the disc that were added to a sum.
-- serves: disc_sum
use Rattle.std.proofs.Common.{◌≡◌, ℕ, ◌+◌, ◌-◌, ◌<◌, List, [], ◌++◌, length, take, min, get_or, Ok, sym, subst, arith, length-append}
use Rattle.std.proofs.lemmas.List.{length-take}
use Rattle.sha2.specs.Hashers.{Holds256}
use Rattle.sha2.specs.declared.Sha256.{Sha256}
use Rattle.g_disc.specs.Disc.{DiscState, Reads}
use Rattle.g_copy.proofs.Reading.{HasRead, has_read_more, has_read_none}

-- n blocks were read, and their bytes added
pub record HasSummed (n : ℕ) (places : List ℕ) (len left : ℕ) (sum : Sha256) (before after : DiscState) : Type 0 where
  pub bytes : List ℕ
  pub read : HasRead n places len bytes before after
  pub holds : Holds256 sum bytes
  pub left_is : left + length bytes ≡ len

-- the next block too
pub one_more : {T E : Type 0} (n : ℕ) (places : List ℕ) (len left rest : ℕ) (block : List ℕ) (before mid after : DiscState) (x : T) (sum new : Sha256) → n < length places → length block ≡ 512
    → (was : HasSummed n places len left sum before mid) → Reads {T = T} {E = E} (get_or places n 0) block mid after (Ok x)
    → ((m : List ℕ) → Holds256 sum m → Holds256 new (m ++ take (min left 512) block)) → rest ≡ left - min left 512 → HasSummed (n + 1) places len rest new before after
one_more n places len left rest block before mid after x sum new within full was read adds rest_is =
    let count : ℕ = min left 512 in
    let left_is = was.left_is in
    let part : count ≡ min (len - length was.bytes) 512 = omega (arith, left_is) in
    let more = has_read_more n places len was.bytes block before mid after x within full was.read read in
    let cut = length-take count block in
    record {
      bytes = was.bytes ++ take count block;
      read = subst (λ (k : ℕ). HasRead (n + 1) places len (was.bytes ++ take k block) before after) (sym part) more;
      holds = adds was.bytes was.holds;
      left_is = omega (arith, left_is, rest_is, cut, full, length-append was.bytes (take count block));
    }

-- nothing was read yet
pub none_yet : (places : List ℕ) (len : ℕ) (state : DiscState) (sum : Sha256) → Holds256 sum [] → HasSummed 0 places len len sum state state
none_yet places len state sum holds = record { bytes = []; read = has_read_none places len state; holds = holds; left_is = omega arith }
