-- The first block in which two reels differ, and racks after reads.
-- serves: compare_twins (text), push_alone, push_first, push_if_alone, push_twins (text)
use Rattle.std.proofs.Common.{◌≡◌, ◌≢◌, ◌⊎◌, ℕ, zero, suc, ◌+◌, ◌<◌, ◌≤◌, Bool, true, false, List, [], ◌∷◌, ◌++◌, length, map, take, Option, Some, None, is_some, Ok, All, refl, sym, ◌∙◌, ap, subst, inl, inr, arith, slice_get, if◌then◌else◌}
use Rattle.std.specs.Prelude.{Err, codes, get_or, nat_eq}
use Rattle.std.specs.Bool.{Decides}
use Rattle.std.specs.Cmp.Lexicographic.{pointwise, bytes_decides}
use Rattle.std.specs.List.{flat_map}
use Rattle.std.specs.Option.{option_map}
use Rattle.g_lines.specs.Lines.{ended, text_of}
use Rattle.std.proofs.lemmas.Grind.{flat_map-append}
use Rattle.std.proofs.lemmas.List.{append_assoc, append-nil, get_or-map, length-map, take_all}
use Rattle.std.proofs.lemmas.List.Elements.{All-contains}
use Rattle.g_duplex.specs.Copying.{DiffersAt, FirstDifference}
use Rattle.g_duplex.proofs.PlaceLemmas.{suc_plus}
use Rattle.g_tape.specs.declared.fault.TapeFault.{TapeFault}
use Rattle.g_tape.specs.Rack.{Rack, reel, told_of}
use Rattle.g_tape.specs.Reads.{OnlyReads, blocks_in, blocks_of, unread}
use Rattle.g_tape.specs.Reel.{Reel}
use Rattle.g_tape.proofs.PlaceLemmas.{reel-found}
use Rattle.g_tape.proofs.ReadLemmas.{reel_after_reads}
use Rattle.g_twins.specs.Twins.{AreExposed, AreMounted, alone_text, difference, difference_lines, difference_text, serials, twin_lines}

abbrev Blocks : Type 0
Blocks = List (List ℕ)

-- THE FIRST DIFFERENCE
holds_true : (b : Bool) (P : Type 0) → Decides b P → P → b ≡ true
holds_true true P decides is = refl
holds_true false P decides is = decides.1 is

holds_false : (b : Bool) (P : Type 0) → Decides b P → (P → ⊥) → b ≡ false
holds_false true P decides isnt = absurd (isnt (decides.0 refl))
holds_false false P decides isnt = refl

same_head : (x y : List ℕ) (xs ys : Blocks) → x ≡ y → difference (x ∷ xs) (y ∷ ys) ≡ option_map suc (difference xs ys)
same_head x y xs ys is = ap (λ (b : Bool). if b then option_map suc (difference xs ys) else Some 0) (holds_true (pointwise nat_eq x y) (x ≡ y) (bytes_decides x y) is)

other_head : (x y : List ℕ) (xs ys : Blocks) → x ≢ y → difference (x ∷ xs) (y ∷ ys) ≡ Some 0
other_head x y xs ys isnt = ap (λ (b : Bool). if b then option_map suc (difference xs ys) else Some 0) (holds_false (pointwise nat_eq x y) (x ≡ y) (bytes_decides x y) isnt)

pub none_differs : (xs ys : Blocks) → xs ≡ ys → difference xs ys ≡ None
none_differs xs ys is = subst (λ (zs : Blocks). difference xs zs ≡ None) is (itself xs)
  where
    itself : (zs : Blocks) → difference zs zs ≡ None
    itself [] = refl
    itself (z ∷ zs) = same_head z z zs zs refl ∙ ap (option_map suc) (itself zs)

pub differs_there : (k : ℕ) (xs ys : Blocks) → DiffersAt k xs ys → difference xs ys ≡ Some k
differs_there k [] [] (before, differs) = absurd (differs refl)
differs_there zero [] (y ∷ ys) (before, differs) = refl
differs_there (suc k) [] (y ∷ ys) (before, differs) = let wrong : [] ≡ y ∷ take k ys = before in absurd (cc)
differs_there zero (x ∷ xs) [] (before, differs) = refl
differs_there (suc k) (x ∷ xs) [] (before, differs) = let wrong : x ∷ take k xs ≡ [] = before in absurd (cc)
differs_there zero (x ∷ xs) (y ∷ ys) (before, differs) = other_head x y xs ys (λ is. differs (ap (λ (b : List ℕ). Some b) is))
differs_there (suc k) (x ∷ xs) (y ∷ ys) (before, differs) =
    let e : x ∷ take k xs ≡ y ∷ take k ys = before in
    let head : x ≡ y = cc in
    let tail : take k xs ≡ take k ys = cc in
    same_head x y xs ys head ∙ ap (option_map suc) (differs_there k xs ys (tail, differs))

-- AFTER READS a rack has the same serials, and as many reels, of which all are still mounted
serials_unread : (rs : List Reel) → map (λ (r : Reel). r.serial) (map unread rs) ≡ map (λ (r : Reel). r.serial) rs
serials_unread [] = refl
serials_unread (r ∷ rs) = ap (λ (ss : List ℕ). r.serial ∷ ss) (serials_unread rs)

pub serials_after : (old new : Rack) → OnlyReads old new → serials new ≡ serials old
serials_after old new only = sym (serials_unread new.reels) ∙ ap (map (λ (r : Reel). r.serial)) only.reels ∙ serials_unread old.reels

pub serial_after : (old new : Rack) (i s : ℕ) → OnlyReads old new → slice_get (serials new) i ≡ Some s → slice_get (serials old) i ≡ Some s
serial_after old new i s only is = ap (λ (ss : List ℕ). slice_get ss i) (sym (serials_after old new only)) ∙ is

pub length_after : (old new : Rack) → OnlyReads old new → length new.reels ≡ length old.reels
length_after old new only = sym (length-map new.reels unread) ∙ ap length only.reels ∙ length-map old.reels unread

-- each reel is the same but for its read counts
same_reel : (old new : Rack) → OnlyReads old new → (k : ℕ) (d : Reel) → k < length new.reels → unread (get_or new.reels k d) ≡ unread (get_or old.reels k d)
same_reel old new only k d inside =
    let within : k < length old.reels = omega (arith, inside, length_after old new only) in
    sym (get_or-map unread new.reels k d (unread d) inside) ∙ ap (λ (rs : List Reel). get_or rs k (unread d)) only.reels ∙ get_or-map unread old.reels k d (unread d) within

pub mounted_after : (old new : Rack) → OnlyReads old new → AreMounted old → AreMounted new
mounted_after old new only mounted s r there = by (reel s old.reels) refl
  where
    is : option_map unread (Some r) ≡ option_map unread (reel s old.reels)
    is = sym (ap (option_map unread) there) ∙ reel_after_reads s old new only

    by : (o : Option Reel) → reel s old.reels ≡ o → r.mounted ≡ true
    by None at = let no : Some (unread r) ≡ None = is ∙ ap (option_map unread) at in absurd (cc)
    by (Some b) at =
        let same : Some (unread r) ≡ Some (unread b) = is ∙ ap (option_map unread) at in
        let one : unread r ≡ unread b = cc in
        ap (λ (x : Reel). x.mounted) one ∙ mounted s b at

pub all_mounted_after : (old new : Rack) → OnlyReads old new → All (λ r. r.mounted ≡ true) old.reels → All (λ r. r.mounted ≡ true) new.reels
all_mounted_after old new only mounted k d inside = ap (λ (r : Reel). r.mounted) (same_reel old new only k d inside) ∙ mounted k d (omega (arith, inside, length_after old new only))

pub each_mounted : (rack : Rack) → All (λ r. r.mounted ≡ true) rack.reels → AreMounted rack
each_mounted rack all s r there = All-contains (λ (x : Reel). x.mounted ≡ true) rack.reels r all (reel-found s rack.reels r there).0

-- an exposed reel that the rack has
pub exposed_reel : (s : ℕ) (rack : Rack) → AreExposed rack → (r : Reel) → reel s rack.reels ≡ Some r → (xs : Blocks) × (blocks_of s rack ≡ Some xs)
exposed_reel s rack exposed r there = by r.blocks refl
  where
    told : is_some r.blocks ≡ true
    told = All-contains (λ (x : Reel). is_some x.blocks ≡ true) rack.reels r exposed (reel-found s rack.reels r there).0

    by : (o : Option Blocks) → r.blocks ≡ o → (xs : Blocks) × (blocks_of s rack ≡ Some xs)
    by None at = absurd (let no : false ≡ true = sym (ap is_some at) ∙ told in cc)
    by (Some xs) at = (xs, ap blocks_in there ∙ at)

-- whether the rack has a reel, by the answer to a call for its length
pub has_length : (s n : ℕ) (rack : Rack) → told_of (λ r. r.len) (reel s rack.reels) ≡ Ok n → (r : Reel) × (reel s rack.reels ≡ Some r)
has_length s n rack is = by (reel s rack.reels) is
  where
    by : (o : Option Reel) → told_of (λ r. r.len) o ≡ Ok n → (r : Reel) × (o ≡ Some r)
    by None told = absurd (cc)
    by (Some r) told = (r, refl)

pub has_none : (s : ℕ) (fault : TapeFault) (rack : Rack) → told_of (λ r. r.len) (reel s rack.reels) ≡ Err fault → blocks_of s rack ≡ None
has_none s fault rack is = by (reel s rack.reels) is
  where
    by : (o : Option Reel) → told_of (λ r. r.len) o ≡ Err fault → blocks_in o ≡ None
    by None told = refl
    by (Some r) told = absurd (cc)

-- THE TEXT, one serial after another
pub text_appended : (a b : List (List ℕ)) → text_of (a ++ b) ≡ text_of a ++ text_of b
text_appended a b = flat_map-append ended a b

lines_more : (f : ℕ → List (List ℕ)) (ss : List ℕ) (i s : ℕ) → slice_get ss i ≡ Some s → flat_map f (take (suc i) ss) ≡ flat_map f (take i ss) ++ f s
lines_more f [] i s is = absurd (let no : None ≡ Some s = is in cc)
lines_more f (x ∷ ss) zero s is = let e : Some x ≡ Some s = is in let same : x ≡ s = cc in append-nil (f x) ∙ ap f same
lines_more f (x ∷ ss) (suc i) s is = ap (λ (ls : List (List ℕ)). f x ++ ls) (lines_more f ss i s is) ∙ sym (append_assoc (f x) (flat_map f (take i ss)) (f s))

pub text_more : (f : ℕ → List (List ℕ)) (ss : List ℕ) (i s : ℕ) (old now next : List ℕ) → slice_get ss i ≡ Some s → now ≡ old ++ text_of (flat_map f (take i ss)) → next ≡ now ++ text_of (f s)
    → next ≡ old ++ text_of (flat_map f (take (i + 1) ss))
text_more f ss i s old now next is was more =
    let here = text_of (flat_map f (take i ss)) in
    more ∙ ap (λ (t : List ℕ). t ++ text_of (f s)) was ∙ append_assoc old here (text_of (f s))
    ∙ ap (λ (t : List ℕ). old ++ t) (sym (text_appended (flat_map f (take i ss)) (f s)) ∙ ap text_of (sym (lines_more f ss i s is)) ∙ ap (λ (n : ℕ). text_of (flat_map f (take n ss))) (suc_plus i))

-- all serials
pub text_whole : (f : ℕ → List (List ℕ)) (ss : List ℕ) (i : ℕ) (old now : List ℕ) → length ss ≤ i → now ≡ old ++ text_of (flat_map f (take i ss)) → now ≡ old ++ text_of (flat_map f ss)
text_whole f ss i old now all was = was ∙ ap (λ (xs : List ℕ). old ++ text_of (flat_map f xs)) (take_all i ss all)

pub exposed_after : (old new : Rack) → OnlyReads old new → AreExposed old → AreExposed new
exposed_after old new only exposed k d inside = ap (λ (r : Reel). is_some r.blocks) (same_reel old new only k d inside) ∙ exposed k d (omega (arith, inside, length_after old new only))

-- THE LINES OF A SERIAL
module _ (s : ℕ) (p q : Rack) (t : List ℕ) where
  lines_by : (o r : Option Blocks) → blocks_of s p ≡ o → blocks_of s q ≡ r → t ++ text_of (twin_lines s (blocks_of s p) (blocks_of s q)) ≡ t ++ text_of (twin_lines s o r)
  lines_by o r at at' = λ i. t ++ text_of (twin_lines s (at i) (at' i))

  module _ (exposed : AreExposed p) (a : Reel) (there : reel s p.reels ≡ Some a) where
    -- the second rack has no such reel
    pub lacks_twin : (next : List ℕ) → blocks_of s q ≡ None → next ≡ t ++ ended (alone_text (codes " HAS NO TWIN IN THE SECOND RACK") s) → next ≡ t ++ text_of (twin_lines s (blocks_of s p) (blocks_of s q))
    lacks_twin next none more =
        let (xs, at) = exposed_reel s p exposed a there in
        more ∙ ap (λ (x : List ℕ). t ++ x) (sym (append-nil (ended (alone_text (codes " HAS NO TWIN IN THE SECOND RACK") s)))) ∙ sym (lines_by (Some xs) None at none)

    module _ (exposed' : AreExposed q) (b : Reel) (there' : reel s q.reels ≡ Some b) where
      -- both have it, with the same blocks
      pub same_twins : (p' q' : Rack) → FirstDifference s p q (Ok None) p' q' → t ≡ t ++ text_of (twin_lines s (blocks_of s p) (blocks_of s q))
      same_twins p' q' (long, told) =
          let (xs, at) = exposed_reel s p exposed a there in
          let (ys, at') = exposed_reel s q exposed' b there' in
          sym (lines_by (Some xs) (Some ys) at at' ∙ ap (λ (d : Option ℕ). t ++ text_of (difference_lines s d)) (none_differs xs ys (told xs at ys at')) ∙ append-nil t)

      -- both have it, and block k differs
      pub other_twins : (k : ℕ) (p' q' : Rack) (next : List ℕ) → FirstDifference s p q (Ok (Some k)) p' q' → next ≡ t ++ ended (difference_text s k) → next ≡ t ++ text_of (twin_lines s (blocks_of s p) (blocks_of s q))
      other_twins k p' q' next differs more =
          let (xs, at) = exposed_reel s p exposed a there in
          let (ys, at') = exposed_reel s q exposed' b there' in
          more ∙ ap (λ (x : List ℕ). t ++ x) (sym (append-nil (ended (difference_text s k))))
          ∙ sym (lines_by (Some xs) (Some ys) at at' ∙ ap (λ (d : Option ℕ). t ++ text_of (difference_lines s d)) (differs_there k xs ys (differs xs at ys at')))
