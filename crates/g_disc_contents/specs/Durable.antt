-- What a disc holds after a power loss.
use Rattle.std.specs.Prelude.{◌≡◌, ◌⊎◌, ℕ, List, Some, length}
use Rattle.g_disc.specs.Disc.{DiscState}
use Rattle.g_disc.specs.Durable.{AreDurable, MayLeave, PowerLossLeaves}
use Rattle.g_slots.specs.declared.side.Side.{Side}
use Rattle.g_slots.specs.Layout.{gate_side}
use Rattle.g_dirs.specs.Directory.{Directory}
use Rattle.g_dirs.specs.Durable.{IsDiscSafe, IsLive, LeavesOldOrNew}
use Rattle.g_dirs.specs.Image.{StandsFor}
use Rattle.g_disc_contents.specs.Contents.{Contents, Holds, contents_of}
use Rattle.g_disc_contents.specs.Facts.{OnlineFacts}

-- all live blocks of a filestore are durable
abbrev pub IsDurable : OnlineFacts → Type 0
IsDurable o = AreDurable (IsLive o.layout.side o.layout.directory) o.disc

-- A call was stopped by a failed write. If the filestore was durable before it, the disc is safe, and P holds for whatever a power loss leaves.
abbrev pub StopsSafely : (List (List ℕ) → Type 0) → OnlineFacts → OnlineFacts → Type 0
StopsSafely P old new = IsDurable old → IsDiscSafe new.disc × PowerLossLeaves (λ _ left. P left) old.disc new.disc

-- a disc whose live blocks are durable holds the same after a power loss
abbrev pub ContentsSurvive : Type 0
ContentsSurvive = (side : Side) (d : Directory) (x : DiscState) (blocks left : List (List ℕ)) → length blocks ≡ x.size → x.held ≡ Some blocks → gate_side blocks ≡ side
    → AreDurable (IsLive side d) x → StandsFor blocks d → MayLeave x left → Holds left (contents_of (Some blocks) d)

-- after a failed commit a power loss leaves what the disc held, or the new directory with the bytes of its files
abbrev pub CommitSurvives : Type 0
CommitSurvives = (before left : List (List ℕ)) (d : Directory) → LeavesOldOrNew d before left
    → (((c : Contents) → Holds before c → Holds left c) × ((c : Contents) → Holds left c → Holds before c)) ⊎ Holds left (contents_of (Some before) d)
