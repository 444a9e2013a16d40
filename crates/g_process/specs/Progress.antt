-- How far the dump is written: which blocks are on the reel, and where those of versions were read.
use Rattle.std.specs.Prelude.{◌≡◌, ◌≢◌, ◌⊎◌, ℕ, ◌+◌, ◌<◌, ◌≤◌, true, false, List, [], ◌∷◌, length, map, All, Contains, Some, None, Result, Ok, Err, option_map, slice_get}
use Rattle.std.specs.Option.{ForSome}
use Rattle.g_base.specs.Block.{blocks_for}
use Rattle.g_base.specs.Counts.{Rose}
use Rattle.g_entry.specs.declared.file_rec.FileRec.{FileRec}
use Rattle.g_entry.specs.declared.file_rec.TapeCopy.{TapeCopy}
use Rattle.g_tape.specs.declared.fault.TapeFault.TheVariants.{WriteFailed}
use Rattle.g_tape.specs.Durable.{IsDurable, WritesDurably}
use Rattle.g_tape.specs.Rack.{Rack, changed, reel, refuses_write}
use Rattle.g_tape.specs.Reads.{HasRead, MayLeave, OnlyReads, blocks_of, is_syncable}
use Rattle.g_tape.specs.Risk.{IsSynced}
use Rattle.g_shelf.specs.Surviving.{IsBegunDurably}
use Rattle.g_tape.specs.Reel.{Reel, Remains, ending, left_by}
use Rattle.g_plain.specs.declared.faults.StoreFault.{StoreFault}
use Rattle.g_plain.specs.declared.faults.StoreFault.TheVariants.{DiscReadFault, Stopped, TapeReadFault}
use Rattle.g_disc_contents.specs.Contents.{File}
use Rattle.g_disc_contents.specs.Facts.{OnlineFacts}
use Rattle.g_disc_contents.specs.Parts.{IsPart}
use Rattle.g_incr.specs.Plan.{IsContentAt, IsReadyAt, Plan, needs, waiting}
use Rattle.g_laws_store.specs.ForgottenCopies.{bare_rec}

-- The reel with these blocks from block 0 on, if there is at least one; otherwise unchanged.
abbrev pub filled : List (List ℕ) → Reel → Reel
filled [] r = r
filled (b ∷ bs) r = record r { len = length (b ∷ bs); blocks = option_map (λ _. b ∷ bs) r.blocks }

-- The rack had nothing but reads, apart from its fuse.
abbrev pub IsBeside : Rack → Rack → Type 0
IsBeside old new = OnlyReads (record old { fuse = new.fuse; risks = new.risks }) new

-- Nothing more may be left of this reel by a power loss, and if it was syncable, it still is.
abbrev pub LeavesNoMoreOf : ℕ → Rack → Rack → Type 0
LeavesNoMoreOf t old new = ((left : List (List ℕ)) → MayLeave t new left → MayLeave t old left) × (is_syncable t old ≡ true → is_syncable t new ≡ true)

-- What a power loss may leave once these blocks were written: of the other reels what it could have left before, and of this one too if
-- nothing was written. A dump that begins with them is begun durably; and if the last one was synced, the reel is durable.
pub record IsWrittenDurably (serial : ℕ) (written : List (List ℕ)) (old new : Rack) : Type 0 where
  pub others : (t : ℕ) → (t ≡ serial → ⊥) → LeavesNoMoreOf t old new
  pub none : length written ≡ 0 → LeavesNoMoreOf serial old new
  pub some : 0 < length written → IsBegunDurably serial 0 (length written) new
  pub last : (j : ℕ) (block : List ℕ) → slice_get written j ≡ Some block → j + 1 ≡ length written → IsSynced j block → IsDurable serial new

-- A version's block is read from the disc if the file is there, otherwise from its copy on tape.
pub record IsSource (o : OnlineFacts) (old new : Rack) (r : FileRec) (part : ℕ) (block : List ℕ) : Type 0 where
  pub online : (f : File) → Contains o.contents.files f → f.rec.number ≡ r.number → f.online ≡ true → ForSome f.bytes (λ text. IsPart text part block)
  pub offline : (f : File) → Contains o.contents.files f → f.rec.number ≡ r.number → f.online ≡ false → (copy : TapeCopy) → r.tape ≡ Some copy
      → ForSome (blocks_of copy.serial old) (λ blocks. slice_get blocks (copy.first + part) ≡ Some block) × HasRead copy.serial (copy.first + part) old new

-- Block k of the dump.
abbrev pub IsBlockOf : Plan → List FileRec → OnlineFacts → Rack → Rack → ℕ → List ℕ → Type 0
IsBlockOf p rs o old new k block =
    IsReadyAt p k block ⊎ ((i : ℕ) × (part : ℕ) × (r : FileRec) × (slice_get rs i ≡ Some r) × IsContentAt p k i part × IsSource o old new r part block)

-- The first k blocks are on the reel, and nothing else happened except reads, none of which failed.
pub record HasWritten (serial : ℕ) (p : Plan) (rs : List FileRec) (o : OnlineFacts) (k : ℕ) (old new : Rack) : Type 0 where
  pub written : List (List ℕ)
  pub long : length written ≡ k
  pub each : (j : ℕ) (block : List ℕ) → slice_get written j ≡ Some block → IsBlockOf p rs o old new j block
  pub rack : IsBeside (changed serial (filled written) old) new
  pub kept : new.read_faults ≡ old.read_faults
  pub durably : IsWrittenDurably serial written old new

-- The version can be read. If it isn't on the disc, its copy is on a mounted reel other than the one that is written.
pub record IsReadable (serial : ℕ) (o : OnlineFacts) (rack : Rack) (r : FileRec) : Type 0 where
  pub file : (f : File) × Contains o.contents.files f × (f.rec ≡ r)
  pub offline : (f : File) → Contains o.contents.files f → f.rec.number ≡ r.number → f.online ≡ false
      → (copy : TapeCopy) × (r.tape ≡ Some copy) × (copy.serial ≢ serial)
      × (q : Reel) × (reel copy.serial rack.reels ≡ Some q) × (q.mounted ≡ true) × (copy.first + blocks_for r.len ≤ q.len)

-- The versions of the plan are these, and each can be read.
pub record AreReadable (serial : ℕ) (p : Plan) (rs : List FileRec) (o : OnlineFacts) (rack : Rack) : Type 0 where
  pub waiting_are : waiting p.files ≡ map bare_rec rs
  pub each : All (IsReadable serial o rack) rs

-- The versions can be read, and the reel has room for the dump.
pub record MayWrite (serial : ℕ) (p : Plan) (rs : List FileRec) (o : OnlineFacts) (rack : Rack) : Type 0 where
  pub readable : AreReadable serial p rs o rack
  pub on : Reel
  pub reel_is : reel serial rack.reels ≡ Some on
  pub mounted : on.mounted ≡ true
  pub room : needs p ≤ on.capacity

-- A read failed, of the disc or of a reel.
abbrev pub FailsReading : StoreFault → OnlineFacts → OnlineFacts → Rack → Rack → Type 0
FailsReading DiscReadFault o o' old new =
    Rose o.disc.read_faults o'.disc.read_faults × (o' ≡ record o { disc = record o.disc { read_faults = o'.disc.read_faults } }) × (new ≡ old)
FailsReading TapeReadFault o o' old new = Rose old.read_faults new.read_faults × (new ≡ record old { read_faults = new.read_faults }) × (o' ≡ o)
FailsReading fault o o' old new = ⊥

-- The block was read, or a read failed.
abbrev pub ReadsSource : FileRec → ℕ → OnlineFacts → Rack → Result (Unit {0}) StoreFault → List ℕ → OnlineFacts → Rack → Type 0
ReadsSource r part o old (Ok _) block o' new = (o' ≡ o) × IsSource o old new r part block × OnlyReads old new × (new.read_faults ≡ old.read_faults)
ReadsSource r part o old (Err fault) block o' new = FailsReading fault o o' old new

-- Block k of the dump was built, or a read failed.
abbrev pub Fills : Plan → List FileRec → ℕ → OnlineFacts → Rack → Result (Unit {0}) StoreFault → List ℕ → OnlineFacts → Rack → Type 0
Fills p rs k o old (Ok _) block o' new = (o' ≡ o) × IsBlockOf p rs o old new k block × OnlyReads old new × (new.read_faults ≡ old.read_faults)
Fills p rs k o old (Err fault) block o' new = FailsReading fault o o' old new

-- A write failed after reads.
pub record FailedAt (serial : ℕ) (p : Plan) (rs : List FileRec) (o : OnlineFacts) (k : ℕ) (old new : Rack) : Type 0 where
  pub mid : Rack
  pub reads : OnlyReads old mid
  pub kept : mid.read_faults ≡ old.read_faults
  pub rose : Rose mid.write_faults new.write_faults
  pub how : Remains
  pub rack : new ≡ record (changed serial (left_by how k) mid) { write_faults = new.write_faults; fuse = new.fuse; risks = new.risks }
  pub free : refuses_write k (reel serial mid.reels) ≡ None
  pub block : List ℕ
  pub block_is : IsBlockOf p rs o old mid k block
  pub durably : WritesDurably serial k block mid (Err WriteFailed) new

-- The block was written.
pub record WroteAt (serial : ℕ) (p : Plan) (rs : List FileRec) (o : OnlineFacts) (k : ℕ) (old new : Rack) : Type 0 where
  pub mid : Rack
  pub reads : OnlyReads old mid
  pub kept : mid.read_faults ≡ old.read_faults
  pub block : List ℕ
  pub block_is : IsBlockOf p rs o old mid k block
  pub rack : new ≡ record (changed serial (ending k block) mid) { fuse = new.fuse; risks = new.risks }
  pub free : refuses_write k (reel serial mid.reels) ≡ None
  pub durably : WritesDurably serial k block mid (Ok tt) new

-- Block k of the dump was written, or its write failed, or a read failed.
abbrev pub WritesBlock : ℕ → Plan → List FileRec → ℕ → OnlineFacts → Rack → Result (Unit {0}) StoreFault → OnlineFacts → Rack → Type 0
WritesBlock serial p rs k o old (Ok _) o' new = (o' ≡ o) × WroteAt serial p rs o k old new
WritesBlock serial p rs k o old (Err Stopped) o' new = (o' ≡ o) × FailedAt serial p rs o k old new
WritesBlock serial p rs k o old (Err fault) o' new = FailsReading fault o o' old new

-- How the writing ended: at the mark, at a block whose version couldn't be read, or at a failed write.
abbrev pub WritesBlocks : ℕ → Plan → List FileRec → OnlineFacts → Rack → Result (Unit {0}) StoreFault → OnlineFacts → Rack → Type 0
WritesBlocks serial p rs o old (Ok _) o' new = (o' ≡ o) × HasWritten serial p rs o (needs p) old new
WritesBlocks serial p rs o old (Err Stopped) o' new =
    (o' ≡ o) × (k : ℕ) × (k < needs p) × (mid : Rack) × HasWritten serial p rs o k old mid × FailedAt serial p rs o k mid new
WritesBlocks serial p rs o old (Err fault) o' new =
    (k : ℕ) × (k < needs p) × (mid : Rack) × HasWritten serial p rs o k old mid × FailsReading fault o o' mid new
