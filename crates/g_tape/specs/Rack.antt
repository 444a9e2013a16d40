-- A rack of reels, when it refuses calls, and the effects of its calls.
use Rattle.std.specs.Prelude.{◌≡◌, ◌≢◌, ℕ, ◌≤◌, List, [], ◌∷◌, Bool, true, false, not, ◌||◌, Option, Some, None, is_some, Result, Ok, Err, length, map, All, slice_get, nat_lt, ◌==◌, if◌then◌else◌}
use Rattle.std.specs.Option.{ForSome}
use Rattle.std.specs.List.Sorted.{IsStrictlyIncreasing}
use Rattle.g_base.specs.Counts.{Rose}
use Rattle.g_base.specs.Fuse.{Arms, BurnsByFailures, burnt}
use Rattle.g_tape.specs.declared.fault.TapeFault.{TapeFault}
use Rattle.g_tape.specs.declared.fault.TapeFault.TheVariants.{NoTape, NotMounted, End, ReadFailed, WriteFailed}
use Rattle.g_tape.specs.Reel.{Reel, IsReel, with_mounted, ending, read_at, Remains, left_by}
use Rattle.g_tape.specs.Risk.{Risk}

-- A rack: the reels by increasing serial, the counts of failed reads and of failed writes, the fuse, what the rack
-- was armed with, and what a power loss may leave of the reels that aren't durable.
pub record Rack : Type 0 where
  pub reels : List Reel
  pub read_faults : ℕ
  pub write_faults : ℕ
  pub fuse : Option ℕ
  pub arms : Arms
  pub risks : List Risk

-- The rack's fuse agrees with what the rack was armed with and with the failed writes since.
abbrev pub IsFused : Rack → Type 0
IsFused r = BurnsByFailures r.write_faults r.arms r.fuse

-- The reels are those of a rack: at most 16 reels within the limits, by strictly increasing serial.
pub record AreReels (reels : List Reel) : Type 0 where
  pub few : length reels ≤ 16
  pub rising : IsStrictlyIncreasing (map (λ r. r.serial) reels)
  pub each : All IsReel reels

-- The reel with this serial, if there is one.
abbrev pub reel : ℕ → List Reel → Option Reel
reel s [] = None
reel s (r ∷ rs) = if s == r.serial then Some r else reel s rs

-- The reels, with f applied to the one with this serial.
abbrev pub with_reel : ℕ → (Reel → Reel) → List Reel → List Reel
with_reel s f [] = []
with_reel s f (r ∷ rs) = if s == r.serial then f r ∷ rs else r ∷ with_reel s f rs

-- The rack, with f applied to the reel with this serial.
abbrev pub changed : ℕ → (Reel → Reel) → Rack → Rack
changed s f r = record r { reels = with_reel s f r.reels }

-- The rack has the reel, and the reel is mounted.
abbrev pub is_mounted : Option Reel → Bool
is_mounted None = false
is_mounted (Some r) = r.mounted

-- A number of a reel that can be read without mounting it; NoTape if the rack has no such reel.
abbrev pub told_of : (Reel → ℕ) → Option Reel → Result ℕ TapeFault
told_of number None = Err NoTape
told_of number (Some r) = Ok (number r)

-- Why a mount is refused, if it is. Refusals are in the order of their checks.
abbrev pub refuses_mount : Option Reel → Option TapeFault
refuses_mount None = Some NoTape
refuses_mount (Some r) = None

-- Why an unmount is refused, if it is.
abbrev pub refuses_unmount : Option Reel → Option TapeFault
refuses_unmount None = Some NoTape
refuses_unmount (Some r) = if r.mounted then None else Some NotMounted

-- Why a read of block k is refused, if it is.
abbrev pub refuses_read : ℕ → Option Reel → Option TapeFault
refuses_read k None = Some NoTape
refuses_read k (Some r) = if r.mounted then (if nat_lt k r.len then None else Some End) else Some NotMounted

-- Why a write of block k is refused, if it is.
abbrev pub refuses_write : ℕ → Option Reel → Option TapeFault
refuses_write k None = Some NoTape
refuses_write k (Some r) = if r.mounted then (if nat_lt r.len k || not (nat_lt k r.capacity) then Some End else None) else Some NotMounted

-- The reel was mounted (or unmounted), or the call was refused and nothing changed.
abbrev pub Mounting : (Option Reel → Option TapeFault) → Bool → ℕ → Rack → Result (Unit {0}) TapeFault → Rack → Type 0
Mounting refuses is s old (Ok _) new = (refuses (reel s old.reels) ≡ None) × (new ≡ changed s (with_mounted is) old)
Mounting refuses is s old (Err fault) new = (refuses (reel s old.reels) ≡ Some fault) × (new ≡ old)

-- Block k of the reel was read into `into`; or the read failed and only the count of failed reads changed; or the call
-- was refused.
abbrev pub Reading : ℕ → ℕ → Rack → Result (Unit {0}) TapeFault → List ℕ → Rack → Type 0
Reading s k old (Ok _) into new =
    (refuses_read k (reel s old.reels) ≡ None)
    × ForSome (reel s old.reels) (λ r. ForSome r.blocks (λ bs. slice_get bs k ≡ Some into))
    × (new ≡ changed s (read_at k) old)
Reading s k old (Err ReadFailed) into new =
    (refuses_read k (reel s old.reels) ≡ None) × Rose old.read_faults new.read_faults × (new ≡ record old { read_faults = new.read_faults })
Reading s k old (Err WriteFailed) into new = ⊥
Reading s k old (Err fault) into new = (refuses_read k (reel s old.reels) ≡ Some fault) × (new ≡ old)

-- The reel keeps its blocks below k and ends with this one; or the write failed, and left some remains; or the call was
-- refused. A write that isn't refused burns the fuse. It fails if the fuse is 1, and may fail otherwise.
abbrev pub Writing : ℕ → ℕ → List ℕ → Rack → Result (Unit {0}) TapeFault → Rack → Type 0
Writing s k block old (Ok _) new =
    (refuses_write k (reel s old.reels) ≡ None) × (old.fuse ≢ Some 1)
    × (new ≡ record (changed s (ending k block) old) { fuse = burnt old.fuse; risks = new.risks })
Writing s k block old (Err WriteFailed) new =
    (refuses_write k (reel s old.reels) ≡ None) × Rose old.write_faults new.write_faults
    × ((how : Remains) × (new ≡ record (changed s (left_by how k) old) { write_faults = new.write_faults; fuse = burnt old.fuse; risks = new.risks }))
Writing s k block old (Err ReadFailed) new = ⊥
Writing s k block old (Err fault) new = (refuses_write k (reel s old.reels) ≡ Some fault) × (new ≡ old)

-- `secure` was called: nothing that reads see changed (`SecuresDurably` says what is durable); or the device failed, which counts as a failed
-- read; or the rack has no such reel.
abbrev pub Securing : ℕ → Rack → Result (Unit {0}) TapeFault → Rack → Type 0
Securing s old (Ok _) new = (is_some (reel s old.reels) ≡ true) × (new ≡ record old { risks = new.risks })
Securing s old (Err ReadFailed) new =
    (is_some (reel s old.reels) ≡ true) × Rose old.read_faults new.read_faults × (new ≡ record old { read_faults = new.read_faults; risks = new.risks })
Securing s old (Err NoTape) new = (is_some (reel s old.reels) ≡ false) × (new ≡ old)
Securing s old (Err fault) new = ⊥

-- The same for every reel of the rack.
abbrev pub SecuringAll : Rack → Result (Unit {0}) TapeFault → Rack → Type 0
SecuringAll old (Ok _) new = new ≡ record old { risks = new.risks }
SecuringAll old (Err ReadFailed) new = Rose old.read_faults new.read_faults × (new ≡ record old { read_faults = new.read_faults; risks = new.risks })
SecuringAll old (Err fault) new = ⊥
