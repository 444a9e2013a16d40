-- Bytes of a reel that were added to a sum, and what a rack holds of a copy.
-- serves: has_all, reel_sum (sum), sum_from (sum), RottenLemmas
use Rattle.std.proofs.Common.{◌≡◌, ℕ, zero, suc, ◌+◌, ◌-◌, ◌^◌, ◌<◌, ◌≤◌, true, List, [], ◌++◌, length, take, drop, min, Option, Some, None, Result, Ok, Err, refl, sym, ◌∙◌, ap, subst, arith, length-append, slice_get, All}
use Rattle.std.specs.Prelude.{◌==◌, is_some, option_map}
use Rattle.std.specs.Option.{ForSome}
use Rattle.std.proofs.lemmas.Bool.{cond-true}
use Rattle.std.proofs.lemmas.List.{length-take}
use Rattle.std.proofs.lemmas.Option.{same_Some}
use Rattle.sha2.specs.Hashers.{Holds256}
use Rattle.sha2.specs.Sha256.{sha256}
use Rattle.sha2.specs.declared.Sha256.{Sha256}
use Rattle.g_base.specs.Block.{blocks_for}
use Rattle.g_base.proofs.KeyLemmas.{find-all}
use Rattle.g_entry.specs.declared.file_rec.TapeCopy.{TapeCopy}
use Rattle.g_tape.specs.declared.fault.TapeFault.{TapeFault}
use Rattle.g_tape.specs.declared.fault.TapeFault.TheVariants as tape
use Rattle.g_tape.specs.Rack.{AreReels, Rack, reel, refuses_unmount, told_of}
use Rattle.g_tape.specs.Reads.{HasRead, blocks_in, blocks_of, unread}
use Rattle.g_tape.specs.Reel.{Reel}
use Rattle.g_tape.proofs.ReadLemmas.{is_reel, nothing_read, reel-unread}
use Rattle.g_incr.proofs.TapeLemmas.{ReadsTape, reads_ok}
use Rattle.g_store_meaning.specs.Meaning.{joined, told_reels}
use Rattle.g_store_meaning.specs.Reading.{ReelsTold}
use Rattle.g_retrieve.proofs.TextLemmas.{HasText, one_more_block}
use Rattle.g_look.proofs.HeadLemmas.{told_blocks}
use Rattle.g_seal.specs.Sealing.{HasAll, bytes_from, bytes_on}

-- the blocks up to block k were read, and their bytes added
pub record HasSummed (s first k len left : ℕ) (sum : Sha256) (old new : Rack) : Type 0 where
  pub bytes : List ℕ
  pub text : HasText s first k len bytes old new
  pub holds : Holds256 sum bytes
  pub left_is : left + length bytes ≡ len

pub none_yet : (s first len : ℕ) (rack : Rack) (sum : Sha256) → refuses_unmount (reel s rack.reels) ≡ None → Holds256 sum [] → HasSummed s first first len len sum rack rack
none_yet s first len rack sum free holds = record {
  bytes = [];
  text = record {
    count = 0;
    at = omega arith;
    reads = reads_ok s rack rack (nothing_read rack) free refl;
    long = omega arith;
    text = λ bs told. sym (nothing_taken len);
    read = λ j least below. absurd (let no : ⊥ = omega (arith, least, below) in no);
  };
  holds = holds;
  left_is = omega arith;
}
  where
    nothing_taken : (n : ℕ) → take n (let none : List ℕ = [] in none) ≡ []
    nothing_taken zero = refl
    nothing_taken (suc n) = refl

pub one_more : (s first k len left rest : ℕ) (block : List ℕ) (old mid new : Rack) (sum next : Sha256) → (was : HasSummed s first k len left sum old mid) → length block ≡ 512 → ReadsTape s mid None new
    → ForSome (blocks_of s mid) (λ bs. slice_get bs k ≡ Some block) → HasRead s k mid new → ((m : List ℕ) → Holds256 sum m → Holds256 next (m ++ take (min left 512) block)) → rest ≡ left - min left 512
    → HasSummed s first (k + 1) len rest next old new
one_more s first k len left rest block old mid new sum next was full reads found has adds rest_is =
    let count : ℕ = min left 512 in
    let left_is = was.left_is in
    let part : count ≡ min (len - length was.bytes) 512 = omega (arith, left_is) in
    let more = one_more_block s first k len was.bytes old mid was.text new block full reads found has in
    let cut = length-take count block in
    record {
      bytes = was.bytes ++ take count block;
      text = subst (λ (n : ℕ). HasText s first (k + 1) len (was.bytes ++ take n block) old new) (sym part) more;
      holds = adds was.bytes was.holds;
      left_is = omega (arith, left_is, rest_is, cut, full, length-append was.bytes (take count block));
    }

-- all blocks were read
pub all_summed : (s first k len left : ℕ) (sum : Sha256) (old new : Rack) (is : HasSummed s first k len left sum old new) → k ≡ first + blocks_for len
    → ForSome (blocks_of s old) (λ bs. is.bytes ≡ take len (joined (take (blocks_for len) (drop first bs))))
all_summed s first k len left sum old new is all bs told =
    let at = is.text.at in
    let count : is.text.count ≡ blocks_for len = omega (arith, at, all) in
    is.text.text bs told ∙ ap (λ (n : ℕ). take len (joined (take n (drop first bs)))) count

-- WHAT THE RACK EXPOSES OF A REEL
there_in : (rack : Rack) (s : ℕ) (r : Reel) → reel s (told_reels rack) ≡ Some r → (q : Reel) × (reel s rack.reels ≡ Some q) × (unread q ≡ r)
there_in rack s r is = by_reel (reel s rack.reels) refl (sym (reel-unread s rack.reels) ∙ is)
  where
    by_reel : (o : Option Reel) → reel s rack.reels ≡ o → option_map unread o ≡ Some r → (q : Reel) × (reel s rack.reels ≡ Some q) × (unread q ≡ r)
    by_reel None at none = absurd (let no : ⊥ = cc in no)
    by_reel (Some q) at some = (q, at, same_Some (unread q) r some)

pub all_reel : (P : Reel → Type 0) (s : ℕ) (rs : List Reel) (r : Reel) → All P rs → reel s rs ≡ Some r → P r
all_reel P s rs r all is = find-all P (λ (q : Reel). s == q.serial) rs r all is

same_ok : (a b : ℕ) → (let x : Result ℕ TapeFault = Ok a in x ≡ Ok b) → a ≡ b
same_ok a b is = cc

-- the reel of a length that is there
ok_reel : (o : Option Reel) (n : ℕ) → Ok n ≡ told_of (λ r. r.len) o → (q : Reel) × (o ≡ Some q) × (n ≡ q.len)
ok_reel None n is = absurd (let no : ⊥ = cc in no)
ok_reel (Some q) n is = (q, refl, same_ok n q.len is)

pub has_all_if : (rack : Rack) (copy : TapeCopy) (len there : ℕ) → Ok there ≡ told_of (λ r. r.len) (reel copy.serial rack.reels) → copy.first + blocks_for len ≤ there → HasAll (told_reels rack) copy len
has_all_if rack copy len there is fits =
    let (q, at, same) = ok_reel (reel copy.serial rack.reels) there is in
    record { one = unread q; there = reel-unread copy.serial rack.reels ∙ ap (option_map unread) at; long = omega (arith, fits, same) }

pub all_if : (rack : Rack) (copy : TapeCopy) (len there : ℕ) → Ok there ≡ told_of (λ r. r.len) (reel copy.serial rack.reels) → HasAll (told_reels rack) copy len → copy.first + blocks_for len ≤ there
all_if rack copy len there is has =
    let (q, at, same) = ok_reel (reel copy.serial rack.reels) there is in
    let (p, at_p, same_p) = there_in rack copy.serial has.one has.there in
    let one : p ≡ q = same_Some p q (sym at_p ∙ at) in
    let p_len : p.len ≡ has.one.len = ap (λ (r : Reel). r.len) same_p in
    let q_len : p.len ≡ q.len = ap (λ (r : Reel). r.len) one in
    let long = has.long in
    omega (arith, long, p_len, q_len, same)

pub none_if : (rack : Rack) (copy : TapeCopy) (len : ℕ) (e : TapeFault) → Err e ≡ told_of (λ r. r.len) (reel copy.serial rack.reels) → HasAll (told_reels rack) copy len → ⊥
none_if rack copy len e is has =
    let (p, at_p, same_p) = there_in rack copy.serial has.one has.there in
    wrong p (is ∙ ap (told_of (λ r. r.len)) at_p)
  where
    wrong : (p : Reel) → (let x : Result ℕ TapeFault = Err e in x ≡ Ok p.len) → ⊥
    wrong p is = cc

-- and what a read of it requires
pub low_end : (rack : Rack) (copy : TapeCopy) (len : ℕ) → AreReels rack.reels → HasAll (told_reels rack) copy len → copy.first + blocks_for len < 2 ^ 32
low_end rack copy len are has =
    let (p, at_p, same_p) = there_in rack copy.serial has.one has.there in
    let is = is_reel copy.serial rack.reels p are.each at_p in
    let within = is.within in
    let most = is.sized_most in
    let long = has.long in
    let p_len : p.len ≡ has.one.len = ap (λ (r : Reel). r.len) same_p in
    omega (arith, within, most, long, p_len)

pub can_read : (rack : Rack) (copy : TapeCopy) (len : ℕ) → All (λ r. r.mounted ≡ true) (told_reels rack) → HasAll (told_reels rack) copy len → refuses_unmount (reel copy.serial rack.reels) ≡ None
can_read rack copy len mounted has =
    let (p, at_p, same_p) = there_in rack copy.serial has.one has.there in
    let up : p.mounted ≡ true = ap (λ (r : Reel). r.mounted) same_p ∙ all_reel (λ r. r.mounted ≡ true) copy.serial (told_reels rack) has.one mounted has.there in
    ap refuses_unmount at_p ∙ cond-true p.mounted None (Some tape.NotMounted) up

pub fits_there : (rack : Rack) (copy : TapeCopy) (len : ℕ) → HasAll (told_reels rack) copy len → ForSome (reel copy.serial rack.reels) (λ r. copy.first + blocks_for len ≤ r.len)
fits_there rack copy len has q at_q =
    let (p, at_p, same_p) = there_in rack copy.serial has.one has.there in
    let one : p ≡ q = same_Some p q (sym at_p ∙ at_q) in
    let p_len : p.len ≡ has.one.len = ap (λ (r : Reel). r.len) same_p in
    let q_len : p.len ≡ q.len = ap (λ (r : Reel). r.len) one in
    let long = has.long in
    omega (arith, long, p_len, q_len)

pub sum_is : (rack : Rack) (copy : TapeCopy) (len : ℕ) (sum : List ℕ) → HasAll (told_reels rack) copy len
    → ForSome (blocks_of copy.serial rack) (λ blocks. sum ≡ sha256 (take len (joined (take (blocks_for len) (drop copy.first blocks))))) → ReelsTold (told_reels rack)
    → sum ≡ sha256 (bytes_on (told_reels rack) copy len)
sum_is rack copy len sum has is told =
    let (p, at_p, same_p) = there_in rack copy.serial has.one has.there in
    let (bs, tells) = told_blocks has.one.blocks (all_reel (λ r. is_some r.blocks ≡ true) copy.serial (told_reels rack) has.one told.each has.there) in
    let here : blocks_of copy.serial rack ≡ Some bs = ap blocks_in at_p ∙ ap (λ (r : Reel). r.blocks) same_p ∙ tells in
    is bs here ∙ ap (λ (o : Option (List (List ℕ))). sha256 (bytes_from copy.first len o)) (sym (ap blocks_in has.there ∙ tells))
