-- The waiting versions ahead of each file of a plan, as its writer stores them.
use Rattle.std.specs.Prelude.{◌≡◌, ℕ, ◌*◌, ◌<◌, ◌≤◌, List, length, take, slice_index_or}
use Rattle.g_entry.specs.declared.file_rec.FileRec.{FileRec}
use Rattle.g_incr.specs.declared.waiting.Ahead.{Ahead}
use Rattle.g_incr.specs.Plan.{blocks_of, waiting}

-- The first i files have that many waiting versions, which occupy that many blocks.
pub record IsAhead (files : List FileRec) (i : ℕ) (a : Ahead) : Type 0 where
  pub versions : a.versions ≡ length (waiting (take i files))
  pub few : a.versions ≤ i
  pub blocks : a.blocks ≡ blocks_of (waiting (take i files))
  pub most : a.blocks ≤ 128 * i

-- Each of the n items describes the waiting versions ahead of the file at its position.
pub record AreAhead (files : List FileRec) (n : ℕ) (all : List Ahead) : Type 0 where
  pub long : length all ≡ n
  pub each : (i : ℕ) (d : Ahead) → i < n → IsAhead files i (slice_index_or all i d)
