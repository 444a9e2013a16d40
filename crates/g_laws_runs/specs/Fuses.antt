-- The fuse of a device after the STOP lines that armed it, and after the writes since then.
use Rattle.std.specs.Prelude.{◌≡◌, ◌⊎◌, ◌<◌, ◌≤◌, ◌+◌, ◌-◌, ◌^◌, ℕ, List, [], ◌∷◌, ◌++◌, Option, Some, None}
use Rattle.g_base.specs.Counts.{Rose}
use Rattle.g_base.specs.Fuse.{Arms, IsArmedBy, burnt_by}
use Rattle.g_disc.specs.Disc.{DiscState, IsFused as IsDisc}
use Rattle.g_tape.specs.Rack.{IsFused as IsRack, Rack}
use Rattle.g_run_model.specs.Top.{IsArmedIn}

-- The last of these numbers, or the old one if there is none.
abbrev pub last_of : List ℕ → Option ℕ → Option ℕ
last_of [] old = old
last_of (k ∷ numbers) old = last_of numbers (Some k)

-- What was armed in two parts was armed with the numbers of both.
abbrev pub ArmingsGo : Type 0
ArmingsGo = (first later : List ℕ) (old mid new : Arms) → IsArmedBy first old mid → IsArmedBy later mid new → IsArmedBy (first ++ later) old new

-- A device's number is the last with which it was armed, or the old one.
abbrev pub NumberIsLast : Type 0
NumberIsLast = (numbers : List ℕ) (old new : Arms) → IsArmedBy numbers old new → new.number ≡ last_of numbers old.number

-- The fuse of a disc for which no STOP DISC was done: the old one, minus all writes since, unless the write counter is
-- saturated.
abbrev pub UnarmedBurns : Type 0
UnarmedBurns = (old new : DiscState) → IsDisc old → IsDisc new → IsArmedBy [] old.arms new.arms → old.writes ≤ new.writes → new.writes < 2 ^ 64 - 1
    → new.fuse ≡ burnt_by (new.writes - old.writes) old.fuse

-- After STOP DISC, with k the last number: k minus the writes since, or none if there were k or more; unless the write
-- counter is saturated.
abbrev pub ArmedBurns : Type 0
ArmedBurns = (numbers : List ℕ) (k : ℕ) (old new : DiscState) → IsDisc new → IsArmedBy (numbers ++ k ∷ []) old.arms new.arms → new.writes < 2 ^ 64 - 1
    → new.fuse ≡ burnt_by (new.writes - new.arms.since) (Some k)

-- The fuse of the tapes, if k is the last number of STOP TAPE: it is between 1 and k, or a write failed since.
abbrev pub RacksBurn : Type 0
RacksBurn = (numbers : List ℕ) (k : ℕ) (old new : Rack) → IsRack new → IsArmedBy (numbers ++ k ∷ []) old.arms new.arms
    → Rose new.arms.since new.write_faults ⊎ ((j : ℕ) × (new.fuse ≡ Some j) × (1 ≤ j) × (j ≤ k))

-- For a device that was armed in this call, as long as these counts don't saturate: a disc's fuse is spent only if the call
-- made at least k writes, the tapes' only if one of their writes failed in it.
abbrev pub DiscSpends : Type 0
DiscSpends = (numbers : List ℕ) (k : ℕ) (old new : DiscState) → IsDisc new → IsArmedBy (numbers ++ k ∷ []) old.arms new.arms → IsArmedIn old.writes new.writes old.arms new.arms
    → old.arms.times < 2 ^ 64 - 1 → new.writes < 2 ^ 64 - 1 → new.fuse ≡ None → old.writes + k ≤ new.writes

-- The fuse of the tapes, if it was armed in this call, is spent only if a write of theirs failed in it.
abbrev pub RackSpends : Type 0
RackSpends = (numbers : List ℕ) (k : ℕ) (old new : Rack) → IsRack new → IsArmedBy (numbers ++ k ∷ []) old.arms new.arms → IsArmedIn old.write_faults new.write_faults old.arms new.arms
    → old.arms.times < 2 ^ 64 - 1 → new.fuse ≡ None → Rose old.write_faults new.write_faults
