-- The blocks of a text, individually and joined.
-- serves: lib, crates above
use Rattle.std.proofs.Common.{◌≡◌, ℕ, zero, suc, ◌+◌, ◌-◌, ◌*◌, ◌<◌, ◌≤◌, min, List, [], ◌∷◌, ◌++◌, length, get_or, take, drop, refl, sym, ◌∙◌, ap, subst, arith, inl, inr, length-append}
use Rattle.std.specs.Prelude.{◌⊎◌, All, slice_index_or}
use Rattle.std.specs.List.{flat_map}
use Rattle.std.proofs.Math.Seq.{drop-append-add}
use Rattle.std.proofs.lemmas.Bool.{cases_lt}
use Rattle.std.proofs.lemmas.List.{drop-drop, drop-take, drop_all, length-drop, length-take, take-append-drop, take-append-le, take-take, take_all, take_min}
use Rattle.std.proofs.lemmas.List.Elements.{All-head, All-tail, All-weaker}
use Rattle.std.proofs.lemmas.Option.{get_or_from_slice_get, slice_get_within}
use Rattle.g_base.specs.Block.{IsBlock, blocks_for}
use Rattle.g_copy.specs.Copy.{blocks_at}
use Rattle.g_copy.proofs.Blocks.{take-append}
use Rattle.g_disc_contents.specs.Parts.{BlocksAreParts, IsPart, JoinedAreParts, PartsJoin}

take_none : (xs : List ℕ) → take 0 xs ≡ []
take_none [] = refl
take_none (x ∷ xs) = refl

-- A text without its first n bytes.
drop_cut : (n len : ℕ) (xs : List ℕ) → drop n (take len xs) ≡ take (len - n) (drop n xs)
drop_cut n len xs = by_case (cases_lt len n)
  where
    by_case : (len < n) ⊎ (n ≤ len) → drop n (take len xs) ≡ take (len - n) (drop n xs)
    by_case (inl short) =
        let cut = length-take len xs in
        let none : len - n ≡ 0 = omega (arith, short) in
        drop_all n (take len xs) (omega (arith, cut, short)) ∙ sym (ap (λ (k : ℕ). take k (drop n xs)) none ∙ take_none (drop n xs))
    by_case (inr long) =
        let sum : len ≡ n + (len - n) = omega (arith, long) in
        ap (λ (k : ℕ). drop n (take k xs)) sum ∙ drop-take n (len - n) xs

-- The first n bytes of a block and the blocks after it, and at most one block of these.
front : (n : ℕ) (block rest : List ℕ) → length block ≡ 512 → take (length (take n (block ++ rest))) block ≡ take 512 (take n (block ++ rest))
front n block rest whole =
    let text : List ℕ = block ++ rest in
    let cut = length-take n text in
    let both = length-append block rest in
    let short : min (length (take n text)) (length block) ≡ min 512 n = omega (arith, cut, both, whole) in
    let least : min 512 n ≤ length block = omega (arith, whole) in
    sym (take_min (length (take n text)) block) ∙ ap (λ (k : ℕ). take k block) short ∙ sym (take-append-le (min 512 n) block rest least) ∙ sym (take_twice (cases_lt n 512))
  where
    take_twice : (n < 512) ⊎ (512 ≤ n) → take 512 (take n (block ++ rest)) ≡ take (min 512 n) (block ++ rest)
    take_twice (inl short) =
        let cut = length-take n (block ++ rest) in
        let is : n ≡ min 512 n = omega (arith, short) in
        take_all 512 (take n (block ++ rest)) (omega (arith, cut, short)) ∙ ap (λ (k : ℕ). take k (block ++ rest)) is
    take_twice (inr long) =
        let is : 512 ≡ min 512 n = omega (arith, long) in
        take-take 512 n (block ++ rest) long ∙ ap (λ (k : ℕ). take k (block ++ rest)) is

-- a block of 512 bytes at its place in a text
part_at : (text : List ℕ) (len part : ℕ) (block rest : List ℕ) → length block ≡ 512 → drop (512 * part) text ≡ block ++ rest → IsPart (take len text) part block
part_at text len part block rest whole at =
    let same : drop (512 * part) (take len text) ≡ take (len - 512 * part) (block ++ rest) =
    drop_cut (512 * part) len text ∙ ap (take (len - 512 * part)) at in
    record { front = subst (λ (t : List ℕ). take (length t) block ≡ take 512 t) (sym same) (front (len - 512 * part) block rest whole) }

-- What follows the first blocks.
module _ {A : Type 0} (F : A → List ℕ) where
  joined_at : (xs : List A) (part : ℕ) (d : A) → All (λ x. length (F x) ≡ 512) xs → part < length xs → (rest : List ℕ) × (drop (512 * part) (flat_map F xs) ≡ F (get_or xs part d) ++ rest)
  joined_at [] part d whole within = absurd (let no : ⊥ = omega (arith, within) in no)
  joined_at (x ∷ xs) zero d whole within = (flat_map F xs, refl)
  joined_at (x ∷ xs) (suc part) d whole within =
      let long = All-head (λ y. length (F y) ≡ 512) x xs whole in
      let at : 512 * suc part ≡ length (F x) + 512 * part = omega (arith, long) in
      let (rest, is) = joined_at xs part d (All-tail (λ y. length (F y) ≡ 512) x xs whole) (omega (arith, within)) in
      (rest, ap (λ (n : ℕ). drop n (F x ++ flat_map F xs)) at ∙ drop-append-add (F x) (flat_map F xs) (512 * part) ∙ is)

  pub joined_part : (xs : List A) (len part : ℕ) (d : A) → All (λ x. IsBlock (F x)) xs → part < length xs → IsPart (take len (flat_map F xs)) part (F (get_or xs part d))
  joined_part xs len part d are within =
      let (rest, at) = joined_at xs part d (All-weaker (λ x. IsBlock (F x)) (λ x. length (F x) ≡ 512) (λ x is. is.size) xs are) within in
      part_at (flat_map F xs) len part (F (get_or xs part d)) rest (are part d within).size at

pub blocks_are_parts : BlocksAreParts
unfolding blocks_at
blocks_are_parts blocks places len part place block are there read =
    let F : ℕ → List ℕ = λ k. slice_index_or blocks k [] in
    let is : F (get_or places part 0) ≡ block = ap F (get_or_from_slice_get places part place 0 there) ∙ get_or_from_slice_get blocks place block [] read in
    subst (IsPart (take len (flat_map F places)) part) is (joined_part F places len part 0 are (slice_get_within places part place there))

pub joined_are_parts : JoinedAreParts
joined_are_parts text blocks part block are is there =
    let F : List ℕ → List ℕ = λ b. b in
    subst (λ (t : List ℕ). IsPart t part block) is
    (subst (IsPart (take (length text) (flat_map F blocks)) part) (get_or_from_slice_get blocks part block [] there)
    (joined_part F blocks (length text) part [] are (slice_get_within blocks part block there)))

-- JOINED
no_blocks : (text : List ℕ) → blocks_for (length text) ≡ 0 → take (length text) [] ≡ text
no_blocks [] none = refl
no_blocks (x ∷ text) none = absurd (let no : ⊥ = omega (arith, none) in no)

fewer_blocks : (n m : ℕ) → suc n ≡ blocks_for m → n ≡ blocks_for (m - 512)
fewer_blocks n m is = omega (arith, is)

pub parts_join : PartsJoin
parts_join text [] are count parts = no_blocks text (sym count)
parts_join text (b ∷ blocks) are count parts =
    let first = (parts 0 b refl).front in
    let whole = (All-head IsBlock b blocks are).size in
    let left = length-drop 512 text in
    let short : length text - length b ≡ length (drop 512 text) = omega (arith, left, whole) in
    let others : length blocks ≡ blocks_for (length (drop 512 text)) = fewer_blocks (length blocks) (length text) count ∙ ap blocks_for (sym left) in
    let rest = parts_join (drop 512 text) blocks (All-tail IsBlock b blocks are) others
    (λ part block there.
    let at : 512 * (suc part) ≡ 512 + 512 * part = omega arith in
    let same : drop (512 * (suc part)) text ≡ drop (512 * part) (drop 512 text) = ap (λ (n : ℕ). drop n text) at ∙ sym (drop-drop (512 * part) 512 text) in
    record { front = subst (λ (t : List ℕ). take (length t) block ≡ take 512 t) same (parts (suc part) block there).front }) in
    take-append (length text) b (flat_map (λ (c : List ℕ). c) blocks)
    ∙ (λ i. first i ++ (ap (λ (n : ℕ). take n (flat_map (λ (c : List ℕ). c) blocks)) short ∙ rest) i) ∙ take-append-drop 512 text
