-- How a call gets the bytes of a file: they are read from the disc, or brought back to it from tape, by a plan of the files
-- to take off the disc for them.
use Rattle.std.specs.Prelude.{◌≡◌, ◌⊎◌, ◌↔◌, ℕ, ◌<◌, false, List, length, Result, Ok, Err, IfOk, IfErr}
use Rattle.std.specs.Option.{ForSome}
use Rattle.g_base.specs.Block.{blocks_for}
use Rattle.g_name.specs.declared.full.Full.{Full}
use Rattle.g_disc.specs.Disc.{ReadsByCause}
use Rattle.g_entry.specs.declared.file_rec.TapeCopy.{TapeCopy}
use Rattle.g_tape.specs.Rack.{Rack, is_mounted, reel}
use Rattle.g_plain.specs.declared.calls.StoreReply.{StoreReply}
use Rattle.g_plain.specs.declared.faults.StoreFault.{StoreFault}
use Rattle.g_plain.specs.declared.faults.StoreFault.TheVariants.{DiscFull, DiscReadFault, NoCopy, NoMemory, Stopped, TapeReadFault, WaitTape}
use Rattle.g_disc_contents.specs.Contents.{File}
use Rattle.g_disc_contents.specs.Facts.{IsTied, OnlineFacts}
use Rattle.g_online.specs.declared.unjam.Unjam.{Unjam}
use Rattle.g_laws_store.specs.UnjamPlan.{IsUnjamPlan}
use Rattle.g_retrieve.specs.Retrieval.{HasBroughtBack, IsOnTape}
use Rattle.g_retrieve.specs.Invariant.{HasLostCopy}

-- The bytes of a file that is on the disc.
pub record HasReadDisc (f : File) (old new : OnlineFacts) (result : Result (List ℕ) StoreFault) : Type 0 where
  pub text : IfOk result (λ text. ForSome f.bytes (λ bytes. text ≡ bytes) × (length text ≡ f.rec.len))
  pub same : new ≡ record old { disc = new.disc }
  pub reads : ReadsByCause (result ≡ Err DiscReadFault) old.disc new.disc
  pub filled : result ≡ Err DiscReadFault → 0 < f.rec.len
  pub tied : IsTied new
  pub only : IfErr result (λ e. (e ≡ DiscReadFault) ⊎ (e ≡ NoMemory))

-- The faults of bringing a file back, in their order, the last being out of memory.
abbrev pub IsBackFault : TapeCopy → ℕ → ℕ → StoreFault → Type 0
IsBackFault c need room e =
    (e ≡ WaitTape c.serial) ⊎ ((e ≡ TapeReadFault) ⊎ (((name : Full) × (e ≡ NoCopy name c.serial)) ⊎ ((e ≡ DiscFull need room) ⊎ ((e ≡ Stopped) ⊎ (e ≡ NoMemory)))))

-- A file that is only on tape is brought back by a plan, or the call is refused.
pub record ComesBack (number : ℕ) (f : File) (c : TapeCopy) (old new : OnlineFacts) (before after : Rack) (result : Result (List ℕ) StoreFault) : Type 0 where
  pub plan : Unjam
  pub planned : IsUnjamPlan (blocks_for f.rec.len) old plan.take plan.room
  pub waits : (result ≡ Err (WaitTape c.serial)) ↔ (is_mounted (reel c.serial before.reels) ≡ false)
  pub lost : (name : Full) (serial : ℕ) → result ≡ Err (NoCopy name serial) → HasLostCopy f c name serial old before
  pub full : (need room : ℕ) → result ≡ Err (DiscFull need room) → (need ≡ blocks_for f.rec.len) × (room ≡ plan.room) × (room < need)
  pub brought : HasBroughtBack number plan f c old new before after result
  pub only : IfErr result (IsBackFault c (blocks_for f.rec.len) plan.room)

-- There was no memory for a plan, and neither disc nor tapes were used.
pub record IsStarved (old new : OnlineFacts) (before after : Rack) (result : Result (List ℕ) StoreFault) : Type 0 where
  pub starved : result ≡ Err NoMemory
  pub online : new ≡ old
  pub rack : after ≡ before

-- How bringing back the file of this number is answered, if it is only on tape.
abbrev pub HasComeBack : ℕ → OnlineFacts → OnlineFacts → Rack → Rack → Result (List ℕ) StoreFault → Type 0
HasComeBack number old new before after result =
    (f : File) (c : TapeCopy) → IsOnTape number old f c → IsStarved old new before after result ⊎ ComesBack number f c old new before after result

-- The reply with these bytes, or the fault.
abbrev pub answer_by : (List ℕ → StoreReply) → Result (List ℕ) StoreFault → Result StoreReply StoreFault
answer_by reply (Ok text) = Ok (reply text)
answer_by reply (Err fault) = Err fault
