-- What PROCESS writes: a dump at block 0 that holds every directory and the bytes of every version.
use Rattle.std.specs.Prelude.{◌≡◌, ◌⊎◌, ℕ, ◌+◌, ◌<◌, Bool, false, List, [], ◌∷◌, filter, nat_lt, Contains, Some}
use Rattle.std.specs.Option.{ForSome}
use Rattle.g_base.specs.Block.{blocks_for}
use Rattle.g_entry.specs.declared.file_rec.FileRec.{FileRec}
use Rattle.g_entry.specs.declared.file_rec.TapeCopy.{TapeCopy}
use Rattle.g_tape.specs.Rack.{Rack}
use Rattle.g_tape.specs.Reads.{blocks_of}
use Rattle.g_disc_contents.specs.Contents.{Contents, File, recs_in}
use Rattle.g_disc_contents.specs.Facts.{OnlineFacts}
use Rattle.g_incr.specs.Plan.{Plan}
use Rattle.g_incr.specs.Layout.{Dump}
use Rattle.g_shelf.specs.CompletedDumps.{AreCompleted}
use Rattle.g_shelf.specs.HeldBlocks.{AreHeld}
use Rattle.g_dumper.specs.Beginning.{held_of, plan_of}
use Rattle.g_laws_store.specs.ForgottenCopies.{bare, every_user}

-- The filestore as if no version had a copy and every directory had changed.
abbrev pub forgotten_online : OnlineFacts → OnlineFacts
forgotten_online o = record o { contents = bare o.contents; changed = every_user o.contents }

-- The plan is that of a dump which that filestore opens at block 0.
abbrev pub process_plan : ℕ → OnlineFacts → Plan
process_plan serial o = plan_of serial 0 (forgotten_online o)

-- The versions: the files of all users that aren't empty, by owner, then by number, with their current records.
abbrev pub living : Contents → List FileRec
living c = held_of (every_user c) (recs_in c)

-- Whether the file isn't empty.
abbrev pub is_filled : FileRec → Bool
is_filled r = nat_lt 0 r.len

-- The files of all users that aren't empty, in the order of a dump.
abbrev pub versions : Contents → List FileRec
versions c = filter is_filled (living c)

-- The copies that they get, by stamp, end to end.
abbrev pub copies_from : ℕ → ℕ → List FileRec → List (ℕ × TapeCopy)
copies_from serial at [] = []
copies_from serial at (r ∷ rs) = (r.stamp, record { serial = serial; first = at }) ∷ copies_from serial (at + blocks_for r.len) rs

-- Whether a reel is free: if it exposes its contents, it has no completed dump (`IsFree`), or it has one (`IsTaken`).
pub record IsFree (serial : ℕ) (rack : Rack) : Type 0 where
  pub none : ForSome (blocks_of serial rack) (λ blocks. (dumps : List Dump) → AreCompleted serial blocks dumps → dumps ≡ [])

-- If the reel exposes its contents, it has a completed dump.
pub record IsTaken (serial : ℕ) (rack : Rack) : Type 0 where
  pub some : ForSome (blocks_of serial rack) (λ blocks. (dumps : List Dump) → AreCompleted serial blocks dumps → dumps ≡ [] → ⊥)

-- The bytes of an offline file lie in the completed dumps of its reel, if the reel exposes its contents.
pub record IsHeld (rack : Rack) (f : File) : Type 0 where
  pub held : (copy : TapeCopy) → f.rec.tape ≡ Some copy → ForSome (blocks_of copy.serial rack) (λ blocks. (dumps : List Dump) → AreCompleted copy.serial blocks dumps
      → AreHeld dumps copy (blocks_for f.rec.len))

-- The order of files: by owner, then by number.
abbrev pub ComesBefore : File → File → Type 0
ComesBefore f g = (f.rec.owner < g.rec.owner) ⊎ ((f.rec.owner ≡ g.rec.owner) × (f.rec.number < g.rec.number))

-- The first lost file: it is offline and its bytes aren't on tape, but those of each offline file before it are.
pub record IsFirstLost (o : OnlineFacts) (rack : Rack) (f : File) (copy : TapeCopy) : Type 0 where
  pub there : Contains o.contents.files f
  pub offline : f.online ≡ false
  pub tape : f.rec.tape ≡ Some copy
  pub lost : ForSome (blocks_of copy.serial rack) (λ blocks. (dumps : List Dump) → AreCompleted copy.serial blocks dumps → AreHeld dumps copy (blocks_for f.rec.len) → ⊥)
  pub before : (g : File) → Contains o.contents.files g → g.online ≡ false → ComesBefore g f → IsHeld rack g
