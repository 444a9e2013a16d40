-- Blocks whose trailing zeros begin at a known place.
-- serves: equals, is_zeros, keep
use Rattle.std.proofs.Common.{◌≡◌, ℕ, ◌+◌, ◌-◌, ◌≤◌, Bool, true, false, List, [], ◌∷◌, length, take, drop, replicate, ◌++◌, refl, sym, ap, ap₂, ◌∙◌, subst, arith, take-append-drop}
use Rattle.std.specs.Str.{bytes_eq}
use Rattle.std.proofs.lemmas.List.{drop_at}
use Rattle.std.proofs.lemmas.Slice.Eq.{bytes_eq-Decides}
use Rattle.g_base.specs.Fields.{IsPartWritten, padded}
use Rattle.g_base.proofs.FieldLemmas.{length-padded, zeros_further}

same_truth : (p q : Bool) → (p ≡ true → q ≡ true) → (q ≡ true → p ≡ true) → p ≡ q
same_truth true q forth back = sym (forth refl)
same_truth false true forth back = back refl
same_truth false false forth back = refl

-- blocks with the same end are equal if their fronts are
pub same_fronts : (end : ℕ) (a b : List ℕ) → drop end a ≡ drop end b → bytes_eq (take end a) (take end b) ≡ bytes_eq a b
same_fronts end a b ends =
    same_truth (bytes_eq (take end a) (take end b)) (bytes_eq a b)
    (λ is. (bytes_eq-Decides a b).1
    (sym (take-append-drop end a) ∙ ap₂ (λ (x y : List ℕ). x ++ y) ((bytes_eq-Decides (take end a) (take end b)).0 is) ends ∙ take-append-drop end b))
    (λ is. (bytes_eq-Decides (take end a) (take end b)).1 (ap (take end) ((bytes_eq-Decides a b).0 is)))

-- the front of one block and the same end make that block
pub front_kept : (end : ℕ) (old front block : List ℕ) → front ≡ take end block → drop end old ≡ drop end block → front ++ drop end old ≡ block
front_kept end old front block is ends = ap₂ (λ (x y : List ℕ). x ++ y) is ends ∙ take-append-drop end block

zeros_from : (at end : ℕ) (block : List ℕ) → at ≤ end → end ≤ 512 → IsPartWritten at block → drop end block ≡ replicate (512 - end) 0
zeros_from at end block reached within was =
    let same : at + (end - at) ≡ end = omega (arith, reached) in
    subst (λ (n : ℕ). drop n block ≡ replicate {A = ℕ} (512 - n) 0) same (zeros_further at (end - at) block (omega (arith, reached, within)) was.zeros)

-- the block of a writer ends in zeros after what was put
pub padded_is_part : (bytes : List ℕ) → length bytes ≤ 512 → IsPartWritten (length bytes) (padded 512 bytes)
unfolding padded
padded_is_part bytes fits = record {
  within = fits;
  size = length-padded 512 bytes fits;
  zeros = drop_at bytes (replicate (512 - length bytes) 0) (length bytes) refl;
}

-- after the longer front, a block and that of a writer end in the same zeros
pub same_ends : (at end : ℕ) (block bytes : List ℕ) → at ≤ end → length bytes ≤ end → end ≤ 512 → IsPartWritten at block → drop end block ≡ drop end (padded 512 bytes)
same_ends at end block bytes reached put within was =
    zeros_from at end block reached within was
    ∙ sym (zeros_from (length bytes) end (padded 512 bytes) put within (padded_is_part bytes (omega (arith, put, within))))

-- if nothing was put, all bytes are zeros
pub nothing_put : (bytes : List ℕ) → length bytes ≡ 0 → bytes_eq (replicate 512 0) (padded 512 bytes) ≡ true
unfolding padded
nothing_put [] none = (bytes_eq-Decides (replicate 512 0) (replicate 512 0)).1 refl
nothing_put (b ∷ bytes) none = absurd (omega (arith, none))
