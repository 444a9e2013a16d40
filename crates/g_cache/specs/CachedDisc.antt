-- A disc with a cache: what each call does to the cache and to the disc below.
use Rattle.std.specs.Prelude.{◌≡◌, ◌⊎◌, ℕ, List, ◌∷◌, Contains, IsOk, None, OnErr, OnOk, Option, Result, Some, nat_eq, refl, slice_get, take}
use Rattle.std.specs.Coded.{Coded, code_by, coded×, coded_list, coded_ℕ}
use Rattle.std.specs.Map.{lookup, remove_entry}
use Rattle.std.specs.Option.{ForSome}
use Rattle.g_disc.specs.Disc.{DiscState, Reads, Writes}

-- the disc below, and the cached blocks with their numbers, most recently used first
pub record Cached (D : Type 0) : Type 0 where
  pub disc : D
  pub kept : List (ℕ × List ℕ)

abbrev pub cached_with : {D : Type 0} → D → List (ℕ × List ℕ) → Cached D
cached_with disc kept = record { disc = disc; kept = kept }

-- it is encoded as the pair of the two
abbrev pub cached_code : {D : Type 0} → Coded D → Coded (Cached D)
cached_code {D} disc =
    code_by (D × List (ℕ × List ℕ)) (coded× disc (coded_list (coded× coded_ℕ (coded_list coded_ℕ)))) (λ c. (c.disc, c.kept)) (λ p. cached_with p.0 p.1) (λ _. refl)

-- block k, if it is cached
abbrev pub kept_block : ℕ → List (ℕ × List ℕ) → Option (List ℕ)
kept_block k kept = lookup (nat_eq k) kept

-- the other cached blocks
abbrev pub without_block : ℕ → List (ℕ × List ℕ) → List (ℕ × List ℕ)
without_block k kept = remove_entry (nat_eq k) kept

-- if the blocks of the disc are observable: each cached block is the disc's
abbrev pub Agrees : List (ℕ × List ℕ) → Option (List (List ℕ)) → Type 0
Agrees kept held = (e : ℕ × List ℕ) → Contains kept e → ForSome held (λ blocks. slice_get blocks e.0 ≡ Some e.1)

-- The result is the cached block, which is now the most recently used. The disc below isn't called.
pub record IsRecalled {D T E : Type 0} (k : ℕ) (block into : List ℕ) (before after : Cached D) (result : Result T E) : Type 0 where
  pub ok : IsOk result
  pub answer : into ≡ block
  pub disc : after.disc ≡ before.disc
  pub first : after.kept ≡ (k, block) ∷ without_block k before.kept

-- Block k was read into `into`: from the cache if it was there, otherwise from the disc below. A block that was read from the disc
-- is now cached in front of the 63 most recently used ones; or the cache is unchanged, because memory ran out, because the block was
-- written since its last read, or because the read failed.
pub record CachedReads {D T E : Type 0} (state : D → DiscState) (k : ℕ) (into : List ℕ) (before after : Cached D) (result : Result T E) : Type 0 where
  pub disc : Reads k into (state before.disc) (state after.disc) result
  pub recalled : ForSome (kept_block k before.kept) (λ block. IsRecalled k block into before after result)
  pub asked : kept_block k before.kept ≡ None → OnOk result ((after.kept ≡ (k, into) ∷ take 63 before.kept) ⊎ (after.kept ≡ before.kept))
  pub failed : OnErr result (after.kept ≡ before.kept)

-- Block k was written to the disc below. Whether or not that failed, it isn't cached, and all other cached blocks stay.
pub record CachedWrites {D T E : Type 0} (state : D → DiscState) (k : ℕ) (from : List ℕ) (before after : Cached D) (result : Result T E) : Type 0 where
  pub disc : Writes k from (state before.disc) (state after.disc) result
  pub gone : kept_block k after.kept ≡ None
  pub others : after.kept ≡ without_block k before.kept
