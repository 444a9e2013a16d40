-- A file's bytes as blocks.
-- serves: DiscLemmas, FileReelLemmas, RackRiskLemmas, ReelRiskLemmas, RiskLemmas, SectorLemmas
use Rattle.std.proofs.Common.{◌≡◌, ℕ, zero, suc, ◌+◌, ◌-◌, ◌*◌, ◌<◌, ◌≤◌, List, length, take, drop, get_or, set, Some, refl, sym, ap, ◌∙◌, inl, inr, arith, length-set}
use Rattle.std.specs.Prelude.{slice_get, slice_set}
use Rattle.std.proofs.lemmas.List.{same_lists, drop-drop, take_all, get_or-set_same, get_or-set_other}
use Rattle.std.proofs.lemmas.Option.{get_or_from_slice_get}
use Rattle.std.proofs.lemmas.Bool.{cases_lt, cases_eq}
use Rattle.g_files.specs.Bytes.{part, put, blocks_of}
use Rattle.g_files.proofs.BytesLemmas.{part-put_in, part-put_before, part-put_behind}

pub length-blocks_of : (n : ℕ) (b : List ℕ) → length (blocks_of n b) ≡ n
length-blocks_of zero b = refl
length-blocks_of (suc n) b = ap suc (length-blocks_of n (drop 512 b))

pub get-blocks_of : (n k : ℕ) (b : List ℕ) → k < n → slice_get (blocks_of n b) k ≡ Some (part (512 * k) 512 b)
get-blocks_of zero k b below = absurd (omega (arith, below))
get-blocks_of (suc n) zero b below = refl
get-blocks_of (suc n) (suc k) b below =
    let same : 512 + 512 * k ≡ 512 * suc k = omega arith in
    get-blocks_of n k (drop 512 b) (omega (arith, below))
    ∙ ap (λ (xs : List ℕ). Some (take 512 xs)) (drop-drop (512 * k) 512 b ∙ ap (λ (i : ℕ). drop i b) same)

pub get_or-blocks_of : (n k : ℕ) (b : List ℕ) (d : List ℕ) → k < n → get_or (blocks_of n b) k d ≡ part (512 * k) 512 b
get_or-blocks_of n k b d below = get_or_from_slice_get (blocks_of n b) k (part (512 * k) 512 b) d (get-blocks_of n k b below)

part-put_same : (at : ℕ) (p b : List ℕ) → length p ≡ 512 → at + 512 ≤ length b → part at 512 (put at p b) ≡ p
part-put_same at p b size within =
    let none : at - at ≡ 0 = omega arith in
    part-put_in at 512 at p b (omega (arith, size, within)) (omega arith) (omega (arith, size))
    ∙ ap (λ (i : ℕ). part i 512 p) none ∙ take_all 512 p (omega (arith, size))

-- writing the bytes of one block replaces that block and no other
pub blocks-put : (n k : ℕ) (p b : List ℕ) → length p ≡ 512 → k < n → length b ≡ 512 * n → blocks_of n (put (512 * k) p b) ≡ slice_set (blocks_of n b) k p
blocks-put n k p b size below whole =
    let long = length-blocks_of n b in
    let room : 512 * k + 512 ≤ length b = omega (arith, below, whole) in
    same_lists (blocks_of n (put (512 * k) p b)) (set (blocks_of n b) k p) (length-blocks_of n (put (512 * k) p b)
    ∙ sym (length-set (blocks_of n b) k p ∙ long)) (λ j d h.
    let inside : j < n = omega (arith, h, length-blocks_of n (put (512 * k) p b)) in
    get_or-blocks_of n j (put (512 * k) p b) d inside ∙
    (elim (cases_eq j k) [
      | inl same ↦ rw same (part-put_same (512 * k) p b size room ∙ sym (get_or-set_same (blocks_of n b) k p d (omega (arith, below, long))))
      | inr other ↦
          let rest : get_or (set (blocks_of n b) k p) j d ≡ part (512 * j) 512 b = get_or-set_other (blocks_of n b) k j p d other
          ∙ get_or-blocks_of n j b d inside in
          elim (cases_lt j k) [
            | inl before ↦ part-put_before (512 * j) 512 (512 * k) p b (omega (arith, size, room)) (omega (arith, before)) ∙ sym rest
            | inr from ↦ part-put_behind (512 * j) 512 (512 * k) p b (omega (arith, size, room)) (omega (arith, size, from, other))
                (omega (arith, inside, whole)) ∙ sym rest
          ]
    ]))
