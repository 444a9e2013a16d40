-- Which reels are released: those that had a completed dump, except the one that was written. Afterwards each has one block
-- of zeros.
use Rattle.std.specs.Prelude.{◌≡◌, ℕ, ◌==◌, Bool, true, false, not, ◌&&◌, nat_lt, List, filter, length, map, replicate, take, Some, None, Err, slice_get, if◌then◌else◌}
use Rattle.g_base.specs.Counts.{Rose}
use Rattle.g_tape.specs.declared.fault.TapeFault.TheVariants.{WriteFailed}
use Rattle.g_tape.specs.Durable.{IsDurable, WritesDurably}
use Rattle.g_tape.specs.Rack.{Rack, changed, reel, refuses_write}
use Rattle.g_tape.specs.Reel.{Reel, Remains, ending, left_by}
use Rattle.g_disc_contents.specs.Contents.{has}
use Rattle.g_shelf.specs.declared.rack.Listed.{Listed}
use Rattle.g_process.specs.Progress.{LeavesNoMoreOf}

-- A block of zeros.
abbrev pub zeros : List ℕ
zeros = replicate 512 0

-- The list is that of another reel than this one, and has a completed dump.
abbrev pub is_taken : ℕ → Listed → Bool
is_taken serial l = not (l.serial == serial) && nat_lt 0 (length l.notes)

-- The serials of the other reels that have a completed dump.
abbrev pub taken : ℕ → List Listed → List ℕ
taken serial lists = map (λ l. l.serial) (filter (is_taken serial) lists)

-- The reels with these serials are released.
abbrev pub released : List ℕ → Reel → Reel
released serials r = if has serials r.serial then ending 0 zeros r else r

-- All reels with these serials are released, and nothing else has changed except the fuse.
abbrev pub AreReleased : List ℕ → Rack → Rack → Type 0
AreReleased serials old new = new ≡ record old { reels = map (released serials) old.reels; fuse = new.fuse; risks = new.risks }

-- The released reels are durable. Nothing more may be left of the others by a power loss.
pub record AreReleasedDurably (serials : List ℕ) (old new : Rack) : Type 0 where
  pub gone : (t : ℕ) → has serials t ≡ true → IsDurable t new
  pub others : (t : ℕ) → has serials t ≡ false → LeavesNoMoreOf t old new

-- The release of one of them failed, after the previous ones were released.
pub record IsCutAt (serial : ℕ) (lists : List Listed) (old new : Rack) : Type 0 where
  pub place : ℕ
  pub list : Listed
  pub at : slice_get lists place ≡ Some list
  pub taken_is : is_taken serial list ≡ true
  pub mid : Rack
  pub before : AreReleased (taken serial (take place lists)) old mid
  pub durably : AreReleasedDurably (taken serial (take place lists)) old mid
  pub rose : Rose mid.write_faults new.write_faults
  pub how : Remains
  pub rack : new ≡ record (changed list.serial (left_by how 0) mid) { write_faults = new.write_faults; fuse = new.fuse; risks = new.risks }
  pub free : refuses_write 0 (reel list.serial mid.reels) ≡ None
  pub failed : WritesDurably list.serial 0 zeros mid (Err WriteFailed) new
