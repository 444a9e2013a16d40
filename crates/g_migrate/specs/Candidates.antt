-- Candidates in a list, and the first ones that are taken.
use Rattle.std.specs.Prelude.{◌≡◌, ◌⊎◌, ℕ, ◌+◌, ◌<◌, ◌≤◌, List, map, filter, length, take, sum_by, Option, Some, None, if◌then◌else◌}
use Rattle.g_base.specs.Block.{blocks_for}
use Rattle.g_disc_contents.specs.Contents.{File}
use Rattle.g_migrate.specs.declared.candidates.Candidate.{Candidate}
use Rattle.g_laws_store.specs.UnjamPlan.{is_candidate}

-- What is noted of a file.
abbrev pub candidate_of : File → Candidate
candidate_of f = record { stamp = f.rec.stamp; number = f.rec.number; blocks = blocks_for f.rec.len }

-- The file as a candidate, if it is one.
abbrev pub candidate_in : File → Option Candidate
candidate_in f = if is_candidate f then Some (candidate_of f) else None

-- The candidates among these files.
abbrev pub candidates_in : List File → List Candidate
candidates_in files = map candidate_of (filter is_candidate files)

-- The number of blocks of these candidates.
abbrev pub blocks_in : List Candidate → ℕ
blocks_in candidates = sum_by (λ c. c.blocks) candidates

-- The first candidates, exactly as many as raise the room to the need, or all of them.
pub record TakesFirst (candidates : List Candidate) (start need : ℕ) (taken : List ℕ) (room : ℕ) : Type 0 where
  pub count : ℕ
  pub within : count ≤ length candidates
  pub numbers : taken ≡ map (λ c. c.number) (take count candidates)
  pub room_is : room ≡ start + blocks_in (take count candidates)
  pub enough : (need ≤ room) ⊎ (count ≡ length candidates)
  pub least : (fewer : ℕ) → fewer < count → start + blocks_in (take fewer candidates) < need
