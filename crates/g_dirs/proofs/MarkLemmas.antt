-- Clearing marks.
-- serves: clear, marks, new, unmark
use Rattle.std.proofs.Common.{◌≡◌, ◌⊎◌, ℕ, ◌+◌, ◌-◌, ◌*◌, ◌/◌, ◌%◌, ◌<◌, ◌≤◌, List, ◌++◌, Bool, true, false, Some, length, take, drop, slice_get, get_or, replicate, ap, subst, sym, ◌∙◌, inl, inr, arith, length-drop, length-set}
use Rattle.std.proofs.Math.ListN.{set}
use Rattle.std.proofs.lemmas.Bool.{cases_eq, cases_lt}
use Rattle.std.proofs.lemmas.List.{ext_get_or, get_or-drop, get_or-replicate, get_or-set_same, length-replicate, length-take-le, replicate-append-replicate, take-append-le, take_all}
use Rattle.std.proofs.lemmas.Option.{get_or_from_slice_get, slice_get-get_or}
use Rattle.g_blocks.proofs.Marks.{slice_get-set_other}
use Rattle.g_dirs.specs.Marks.{AreNoted, AreOffBefore, IsBehind}

-- there is no mark from `end` on, and those before are cleared
pub unmarked : (end : ℕ) (blocks front : List Bool) → front ≡ replicate (length (take end blocks)) false → end ≤ length blocks
    → ((i : ℕ) → end ≤ i → i < length blocks → slice_get blocks i ≡ Some false) → front ++ drop end blocks ≡ replicate (length blocks) false
unmarked end blocks front off within behind =
    let rest : drop end blocks ≡ replicate (length blocks - end) false =
    ext_get_or false (drop end blocks) (replicate (length blocks - end) false) (omega (arith, length-drop end blocks, length-replicate (length blocks - end) false)) (λ i below.
    let far : end + i < length blocks = omega (arith, below, within, length-drop end blocks) in
    get_or-drop end blocks i false ∙ get_or_from_slice_get blocks (end + i) false false (behind (end + i) (omega arith) far)
    ∙ sym (get_or-replicate (length blocks - end) i false false (omega (arith, far)))) in
    let some : front ≡ replicate end false = off ∙ ap (λ (n : ℕ). replicate n false) (length-take-le end blocks within) in
    let sum : end + (length blocks - end) ≡ length blocks = omega (arith, within) in
    ap (λ (bs : List Bool). bs ++ drop end blocks) some ∙ ap (λ (bs : List Bool). replicate end false ++ bs) rest
    ∙ replicate-append-replicate end (length blocks - end) false ∙ ap (λ (n : ℕ). replicate n false) sum

-- a list that is overwritten entirely
pub written_all : (n : ℕ) (old new : List Bool) → n ≡ length old → length old ≡ 1088 → new ≡ replicate (length old) false
    → take n (new ++ drop (length new) old) ≡ replicate 1088 false
written_all n old new is long same =
    let size : length new ≡ length old = ap length same ∙ length-replicate (length old) false in
    take-append-le n new (drop (length new) old) (omega (arith, is, size)) ∙ take_all n new (omega (arith, is, size)) ∙ same ∙ ap (λ (m : ℕ). replicate m false) long

-- THE NOTES of groups
set_here : {X : Type 0} (xs : List X) (k : ℕ) (x : X) → k < length xs → slice_get (set xs k x) k ≡ Some x
set_here xs k x within =
    let long = length-set xs k x in
    slice_get-get_or (set xs k x) k x (omega (arith, within, long)) ∙ ap Some (get_or-set_same xs k x x within)

pub noted_set : (noted marks : List Bool) (k : ℕ) → k < 1088 → AreNoted noted marks → AreNoted (set noted (k / 32) true) (set marks k true)
noted_set noted marks k within are = record {
  size = length-set noted (k / 32) true ∙ are.size;
  each = λ i inside off.
      elim (cases_eq (i / 32) (k / 32)) [
        | inl same ↦
            let there : k / 32 < length noted = let size = are.size in omega (arith, within, size) in
            let on : slice_get (set noted (k / 32) true) (i / 32) ≡ Some true = subst (λ (g : ℕ). slice_get (set noted (k / 32) true) g ≡ Some true) (sym same) (set_here noted (k / 32) true there) in
            let no : ⊥ = cc in absurd no
        | inr apart ↦
            slice_get-set_other marks k i true (λ (is : i ≡ k). apart (ap (λ (n : ℕ). n / 32) is))
            ∙ are.each i inside (sym (slice_get-set_other noted (k / 32) (i / 32) true apart) ∙ off)
      ];
}

pub noted_all : (noted marks : List Bool) → noted ≡ replicate 34 true → AreNoted noted marks
noted_all noted marks is = record {
  size = ap length is ∙ length-replicate 34 true;
  each = λ i inside off.
      let group : i / 32 < 34 = omega (arith, inside) in
      let on : get_or noted (i / 32) true ≡ true = ap (λ (l : List Bool). get_or l (i / 32) true) is ∙ get_or-replicate 34 (i / 32) true true group in
      let off_too : get_or noted (i / 32) true ≡ false = get_or_from_slice_get noted (i / 32) false true off in
      let no : ⊥ = cc in absurd no;
}

-- the next candidate
pub behind_one : (marks : List Bool) (k : ℕ) → k < 1088 → slice_get marks k ≡ Some false → IsBehind marks k (k + 1)
behind_one marks k within off = record {
  later = omega arith;
  within = omega (arith, within);
  passed = λ j least less. let same : k ≡ j = omega (arith, least, less) in subst (λ (i : ℕ). slice_get marks i ≡ Some false) same off;
}

pub behind_group : (noted marks : List Bool) (k : ℕ) → k < 1088 → AreNoted noted marks → k % 32 ≡ 0 → slice_get noted (k / 32) ≡ Some false → IsBehind marks k (k + 32)
behind_group noted marks k within are whole off =
    let first : k ≡ k / 32 * 32 = omega (arith, whole) in
    record {
      later = omega arith;
      within = omega (arith, within, first);
      passed = λ j least less.
          let same : k / 32 ≡ j / 32 = omega (arith, least, less, first) in
          are.each j (omega (arith, within, first, less)) (subst (λ (g : ℕ). slice_get noted g ≡ Some false) same off);
    }

pub behind_low : (marks : List Bool) (low k : ℕ) → AreOffBefore low marks → k + 1 < low → slice_get marks k ≡ Some false → IsBehind marks k low
behind_low marks low k are before off = record {
  later = omega (arith, before);
  within = are.within;
  passed = λ j least less.
      elim (cases_lt k j) [
        | inl more ↦ are.off j (omega (arith, more)) less
        | inr back ↦ let same : k ≡ j = omega (arith, least, back) in subst (λ (i : ℕ). slice_get marks i ≡ Some false) same off
      ];
}

-- THE FIRST MARK after block 0
pub off_set : (marks : List Bool) (low k next : ℕ) → AreOffBefore low marks → next ≤ low → (next ≤ k) ⊎ (k ≡ 0) → AreOffBefore next (set marks k true)
off_set marks low k next are less here = record {
  within = let most = are.within in omega (arith, most, less);
  off = λ i first below.
      slice_get-set_other marks k i true (λ (is : i ≡ k). elim here [
        | inl under ↦ let no : ⊥ = omega (arith, under, below, is) in absurd no
        | inr zero_is ↦ let no : ⊥ = omega (arith, first, is, zero_is) in absurd no
      ])
      ∙ are.off i first (omega (arith, below, less));
}

pub off_none : (marks : List Bool) → marks ≡ replicate 1088 false → AreOffBefore 1088 marks
off_none marks is = record {
  within = omega arith;
  off = λ i first below.
      let long : length marks ≡ 1088 = ap length is ∙ length-replicate 1088 false in
      slice_get-get_or marks i false (omega (arith, below, long)) ∙ ap Some (ap (λ (l : List Bool). get_or l i false) is ∙ get_or-replicate 1088 i false false below);
}

pub off_first : (marks : List Bool) → AreOffBefore 0 marks
off_first marks = record {
  within = omega arith;
  off = λ i first below. let no : ⊥ = omega (arith, below) in absurd no;
}

pub passed_on : (marks : List Bool) (k j next : ℕ) → k ≤ j → ((i : ℕ) → k ≤ i → i < j → slice_get marks i ≡ Some false) → IsBehind marks j next
    → (k ≤ next) × (next ≤ 1088) × ((i : ℕ) → k ≤ i → i < next → slice_get marks i ≡ Some false)
passed_on marks k j next reached front is = (
  let later = is.later in omega (arith, reached, later),
  is.within,
  λ i least less.
      elim (cases_lt i j) [
        | inl before ↦ front i least before
        | inr back ↦ is.passed i back less
      ],
)
