-- What a power loss may leave of a reel in a file.
use Rattle.std.specs.Prelude.{◌≡◌, ◌⊎◌, ◌==◌, ◌&&◌, ℕ, ◌+◌, ◌≤◌, Bool, true, false, List, [], ◌∷◌, ◌++◌, length, map, take, None, Option, Some, OnErr, OnOk, Result}
use Rattle.std.specs.Option.{ForSome}
use Rattle.g_tape.specs.Risk.{IsSynced, Leaves, Remnant, Risk}
use Rattle.g_tape.specs.Reel.{Reel}
use Rattle.g_files.specs.FileReel.{reel_of}
use Rattle.g_files.specs.Risks.{durability_of, durable_of}
use Rattle.g_files.specs.declared.file_reel.FileReel.{FileReel}
use Rattle.g_files.specs.declared.raw.RawFile.{Ghosts}

-- whether these are the same bytes
unfoldable pub same_bytes : List ℕ → List ℕ → Bool
same_bytes [] [] = true
same_bytes [] (y ∷ ys) = false
same_bytes (x ∷ xs) [] = false
same_bytes (x ∷ xs) (y ∷ ys) = (x == y) && same_bytes xs ys

-- whether these are the same blocks
unfoldable pub same_blocks : List (List ℕ) → List (List ℕ) → Bool
same_blocks [] [] = true
same_blocks [] (y ∷ ys) = false
same_blocks (x ∷ xs) [] = false
same_blocks (x ∷ xs) (y ∷ ys) = same_bytes x y && same_blocks xs ys

-- whether all remnants begin with the first n of these blocks
unfoldable pub all_begin : ℕ → List (List ℕ) → List Remnant → Bool
all_begin n blocks [] = true
all_begin n blocks (m ∷ ms) = same_blocks (take n m.front) (take n blocks) && all_begin n blocks ms

-- the remnant, cut at block n
abbrev pub cut_remnant : ℕ → Remnant → Remnant
cut_remnant n m = record { front = take n m.front; longest = n }

-- the remnants, and each of them cut at block n
abbrev pub with_cuts : ℕ → List Remnant → List Remnant
with_cuts n ms = ms ++ map (cut_remnant n) ms

-- whether all remnants begin with the first n blocks, if these are observable
abbrev pub can_sync : ℕ → Option (List (List ℕ)) → List Remnant → Bool
can_sync n None ms = true
can_sync n (Some blocks) ms = all_begin n blocks ms

-- What a power loss may leave of the reel: the remnants of its file, and each of them cut where the reel ends, since the next `secure` may cut
-- the file there. The reel is syncable if those blocks are durable that `secure` needn't rewrite.
abbrev pub risk_of : {F : Type 0} {g : Ghosts F} → FileReel F g → Risk
risk_of r = record {
  serial = r.state.serial;
  remnants = with_cuts (reel_of r).len (durability_of r.blocks).remnants;
  syncable = can_sync (durable_of r.blocks) (reel_of r).blocks (durability_of r.blocks).remnants;
}

-- the first n blocks of a reel survive a power loss
abbrev pub ReelKeeps : ℕ → Reel → Risk → Type 0
ReelKeeps n r risk = ForSome r.blocks (λ blocks. (left : List (List ℕ)) → Leaves (Some risk) blocks left → take n left ≡ take n blocks)

-- the whole reel survives, and nothing else is on it then
abbrev pub ReelIsDurable : Reel → Risk → Type 0
ReelIsDurable r risk = ForSome r.blocks (λ blocks. (left : List (List ℕ)) → Leaves (Some risk) blocks left → left ≡ blocks)

-- What a power loss may leave of a reel after a write of block k was begun: nothing after that block. If the write is synced and the device
-- still had the blocks before it, these are left.
pub record ReelIsBegun (k : ℕ) (block : List ℕ) (r : Reel) (risk : Risk) (left : List (List ℕ)) : Type 0 where
  pub short : length left ≤ k + 1
  pub front : IsSynced k block → (risk.syncable ≡ true) ⊎ ReelKeeps k r risk → ForSome r.blocks (λ blocks. take k left ≡ take k blocks)

-- What a write of block k does to what a power loss may leave of its reel. `WritesDurably` of `g_tape` says the same of a rack.
pub record WritesReel {T E : Type 0} (k : ℕ) (block : List ℕ) (old new : Reel) (was is : Risk) (result : Result T E) : Type 0 where
  pub front : (n : ℕ) → n ≤ k → ReelKeeps n old was → ReelKeeps n new is
  pub syncable : was.syncable ≡ true → is.syncable ≡ true
  pub fresh : ReelKeeps k old was → is.syncable ≡ true
  pub short : OnOk result (ForSome new.blocks (λ blocks. (left : List (List ℕ)) → Leaves (Some is) blocks left → length left ≤ k + 1))
  pub synced : IsSynced k block → (was.syncable ≡ true) ⊎ ReelKeeps k old was → OnOk result (ReelIsDurable new is)
  pub failed : OnErr result (ForSome new.blocks (λ seen. (left : List (List ℕ)) → Leaves (Some is) seen left
      → ForSome old.blocks (λ blocks. Leaves (Some was) blocks left) ⊎ ReelIsBegun k block old was left))

-- A power loss may leave nothing of the reel that it couldn't have left before, and the reel is still syncable if it was. `LeavesNoMore` of
-- `g_tape` says the same of a rack.
pub record ReelLeavesNoMore (old new : Reel) (was is : Risk) : Type 0 where
  pub leaves : (left : List (List ℕ)) → ForSome new.blocks (λ blocks. Leaves (Some is) blocks left) → ForSome old.blocks (λ blocks. Leaves (Some was) blocks left)
  pub syncable : was.syncable ≡ true → is.syncable ≡ true

-- What `secure` does to what a power loss may leave of its reel. `SecuresDurably` of `g_tape` says the same of a rack.
pub record SecuresReel {T E : Type 0} (old new : Reel) (was is : Risk) (result : Result T E) : Type 0 where
  pub no_more : ReelLeavesNoMore old new was is
  pub durable : OnOk result (was.syncable ≡ true → ReelIsDurable new is)
