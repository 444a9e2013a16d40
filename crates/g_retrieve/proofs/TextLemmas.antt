-- Bytes that are read block by block.
-- serves: read_text (read), tape_bytes (read, some), crates above
use Rattle.std.proofs.Common.{◌≡◌, ℕ, zero, suc, ◌+◌, ◌-◌, ◌*◌, ◌^◌, ◌<◌, ◌≤◌, min, List, [], ◌∷◌, ◌++◌, length, take, drop, Option, Some, None, Ok, refl, sym, ◌∙◌, ap, subst, arith, slice_get, inl, inr, if◌then◌else◌, Bool, true, false, length-append}
use Rattle.std.specs.Prelude.{◌⊎◌}
use Rattle.std.specs.Option.{ForSome}
use Rattle.std.proofs.lemmas.Bool.{cases_lt}
use Rattle.std.proofs.lemmas.Grind.{flat_map-append}
use Rattle.std.proofs.lemmas.List.{append-nil, length-take, take_min, take_more}
use Rattle.std.proofs.lemmas.Option.{get_or_from_slice_get, same_Some, slice_get_within}
use Rattle.g_base.specs.Block.{blocks_for}
use Rattle.g_copy.proofs.Blocks.{take-append}
use Rattle.g_tape.specs.declared.fault.TapeFault.TheVariants as tape
use Rattle.g_tape.specs.Rack.{AreReels, Rack, reel, refuses_unmount}
use Rattle.g_tape.specs.Reads.{HasRead, OnlyReads, blocks_of}
use Rattle.g_tape.specs.Reel.{Reel}
use Rattle.g_tape.proofs.ReadLemmas.{blocks_after_reads, is_reel, read_then, then_read}
use Rattle.g_incr.specs.Reading.{ReadsReel}
use Rattle.g_incr.proofs.ListLemmas.{get_drop}
use Rattle.g_incr.proofs.TapeLemmas.{ReadsTape, reads_then, same_len}
use Rattle.g_store_meaning.specs.Meaning.{joined}

-- so far: the blocks before block k were read, and the required bytes among theirs are there
pub record HasText (s first k len : ℕ) (bytes : List ℕ) (old new : Rack) : Type 0 where
  pub count : ℕ
  pub at : k ≡ first + count
  pub reads : ReadsTape s old None new
  pub long : length bytes ≡ min len (512 * count)
  pub text : ForSome (blocks_of s old) (λ bs. bytes ≡ take len (joined (take count (drop first bs))))
  pub read : (j : ℕ) → first ≤ j → j < k → HasRead s j old new

-- the blocks with one more
joined_more : (blocks : List (List ℕ)) (n : ℕ) (block : List ℕ) → slice_get blocks n ≡ Some block → joined (take (n + 1) blocks) ≡ joined (take n blocks) ++ block
joined_more blocks n block here =
    let within = slice_get_within blocks n block here in
    ap joined (take_more blocks n block within)
    ∙ ap (λ (b : List ℕ). joined (take n blocks ++ b ∷ [])) (get_or_from_slice_get blocks n block block here)
    ∙ flat_map-append (λ (b : List ℕ). b) (take n blocks) (block ∷ []) ∙ ap (λ (zs : List ℕ). joined (take n blocks) ++ zs) (append-nil block)

module _ (s first k len : ℕ) (bytes : List ℕ) (old mid : Rack) (so : HasText s first k len bytes old mid) where
  pub one_more_block : (new : Rack) (block : List ℕ) → length block ≡ 512 → ReadsTape s mid None new → ForSome (blocks_of s mid) (λ bs. slice_get bs k ≡ Some block) → HasRead s k mid new
      → HasText s first (k + 1) len (bytes ++ take (min (len - length bytes) 512) block) old new
  one_more_block new block full reads found has =
      let part : ℕ = min (len - length bytes) 512 in
      let cut = length-take part block in
      let at = so.at in
      let long = so.long in
      record {
        count = so.count + 1;
        at = omega arith;
        reads = reads_then s old mid new None so.reads reads;
        long = omega (arith, length-append bytes (take part block));
        text = λ bs told.
            let xs : List (List ℕ) = drop first bs in
            let done : List ℕ = joined (take so.count xs) in
            let here : slice_get xs so.count ≡ Some block =
            get_drop first bs so.count ∙ ap (slice_get bs) (sym at) ∙ found bs (blocks_after_reads s old mid so.reads.only ∙ told) in
            let so_far : bytes ≡ take len done = so.text bs told in
            let so_long : length bytes ≡ min len (length done) = ap (λ (zs : List ℕ). length zs) so_far ∙ length-take len done in
            let left : len - length bytes ≡ len - length done = omega arith in
            let all : take part block ≡ take (len - length bytes) block =
            ap (λ (m : ℕ). take (min (len - length bytes) m) block) (sym full) ∙ take_min (len - length bytes) block in
            ap (λ (zs : List ℕ). zs ++ take part block) so_far ∙ ap (λ (zs : List ℕ). take len done ++ zs) (all ∙ ap (λ (m : ℕ). take m block) left)
            ∙ sym (ap (take len) (joined_more xs so.count block here) ∙ take-append len done block);
        read = λ j least below. by_place j least below (cases_lt j k);
      }
    where
      by_place : (j : ℕ) → first ≤ j → j < k + 1 → (j < k) ⊎ (k ≤ j) → HasRead s j old new
      by_place j least below (inl before) = read_then s j old mid new (so.read j least before) reads.only
      by_place j least below (inr behind) = subst (λ (n : ℕ). HasRead s n old new) (let same : k ≡ j = omega (arith, behind, below) in same) (then_read s k old mid new so.reads.only has)

  pub all_read : k ≡ first + blocks_for len → (j : ℕ) → first ≤ j → j < first + blocks_for len → HasRead s j old mid
  all_read all j least below = so.read j least (omega (arith, below, all))

  -- the next block is on the reel
  pub not_past : k < first + blocks_for len → ((j : ℕ) → first ≤ j → j < first + blocks_for len → ForSome (reel s old.reels) (λ r. j < r.len)) → (r : Reel) → reel s old.reels ≡ Some r
      → ForSome (reel s mid.reels) (λ q. q.len ≤ k) → ⊥
  not_past below fits r there past =
      let at = so.at in
      let (q, is, len_is) = same_len s old mid so.reads.only r there in
      let over = past q is in
      let under = fits k (omega (arith, at)) below r there in
      omega (arith, over, under, len_is)

-- a reel that was read is mounted
no_tape_known : (o : Option Reel) → (refuses_unmount o ≡ Some tape.NoTape → ⊥) → (refuses_unmount o ≡ Some tape.NotMounted → ⊥) → refuses_unmount o ≡ None
no_tape_known None no_tape not_mounted = absurd (no_tape refl)
no_tape_known (Some r) no_tape not_mounted = by_mount r.mounted not_mounted
  where
    by_mount : (b : Bool) → ((if b then None else Some tape.NotMounted) ≡ Some tape.NotMounted → ⊥) → (if b then None else Some tape.NotMounted) ≡ None
    by_mount true not_mounted = refl
    by_mount false not_mounted = absurd (not_mounted refl)

pub ok_mounted : {A : Type 0} (s : ℕ) (x : A) (old new : Rack) → ReadsReel s (Ok x) old new → refuses_unmount (reel s old.reels) ≡ None
ok_mounted s x old new so =
    no_tape_known (reel s old.reels) (λ is. let gave = so.no_tape.1 is in (let no : ⊥ = cc in no)) (λ is. let gave = so.not_mounted.1 is in (let no : ⊥ = cc in no))

pub mounted_there : (o : Option Reel) → refuses_unmount o ≡ None → (r : Reel) × (o ≡ Some r)
mounted_there None free = absurd (let no : ⊥ = cc in no)
mounted_there (Some r) free = (r, refl)

-- after the catalogue was read, the blocks that are held exist
pub fits_then : (s first n : ℕ) (old mid : Rack) → OnlyReads old mid → refuses_unmount (reel s old.reels) ≡ None → (0 < n → ForSome (reel s old.reels) (λ r. first + n ≤ r.len))
    → (k : ℕ) → first ≤ k → k < first + n → ForSome (reel s mid.reels) (λ r. k < r.len)
fits_then s first n old mid only free fits k least below q there =
    let (r, at) = mounted_there (reel s old.reels) free in
    let (p, is, len) = same_len s old mid only r at in
    let same : p ≡ q = same_Some p q (sym is ∙ there) in
    let long : p.len ≡ q.len = ap (λ (x : Reel). x.len) same in
    let whole = fits (omega (arith, least, below)) r at in
    omega (arith, whole, below, len, long)

pub low_place : (s first n : ℕ) (rack : Rack) → AreReels rack.reels → refuses_unmount (reel s rack.reels) ≡ None → first < 2 ^ 32 → (0 < n → ForSome (reel s rack.reels) (λ r. first + n ≤ r.len)) → first + n < 2 ^ 32
low_place s first zero rack are free low fits = omega (arith, low)
low_place s first (suc n) rack are free low fits =
    let (r, at) = mounted_there (reel s rack.reels) free in
    let whole = fits (omega arith) r at in
    let is = is_reel s rack.reels r are.each at in
    let within = is.within in
    let most = is.sized_most in
    omega (arith, whole, within, most)

-- what was read afterwards
pub text_then : (s first len : ℕ) (text : List ℕ) (old mid : Rack) → OnlyReads old mid → ForSome (blocks_of s mid) (λ bs. text ≡ take len (joined (take (blocks_for len) (drop first bs))))
    → ForSome (blocks_of s old) (λ bs. text ≡ take len (joined (take (blocks_for len) (drop first bs))))
text_then s first len text old mid only is bs told = is bs (blocks_after_reads s old mid only ∙ told)

pub read_behind : (s first n : ℕ) (old mid new : Rack) → OnlyReads old mid → ((k : ℕ) → first ≤ k → k < first + n → HasRead s k mid new) → (k : ℕ) → first ≤ k → k < first + n → HasRead s k old new
read_behind s first n old mid new only all k least below = then_read s k old mid new only (all k least below)
