-- What follows of blocks.
-- serves: crates above
use Rattle.std.proofs.Common.{◌≡◌, ℕ, replicate, get_or, arith, refl, inl, inr, ◌∙◌, sym}
use Rattle.std.proofs.lemmas.List.{length-replicate, get_or-replicate, get_or_past}
use Rattle.std.proofs.lemmas.Bool.{cases_lt}
use Rattle.g_base.specs.Block.{IsBlock}

-- Every item of a list of zeros is zero, as is the default.
zero_at : (n i z : ℕ) → z ≡ 0 → get_or (replicate n z) i 0 ≡ z
zero_at n i z zero =
    elim (cases_lt i n) [
      | inl within ↦ get_or-replicate n i z 0 within
      | inr past ↦ let long = length-replicate n z in get_or_past (replicate n z) i 0 (omega arith) ∙ sym zero
    ]

-- zeros are a block
pub IsBlock-zeros : IsBlock (replicate 512 0)
IsBlock-zeros = record {
  size = length-replicate {A = ℕ} 512 0;
  bytes = λ i. let e = zero_at 512 i 0 refl in omega arith;
}
