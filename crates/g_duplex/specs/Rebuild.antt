-- The calls on both twins of a reel: comparing them, and rebuilding one from the other.
use Rattle.std.specs.Prelude.{◌≡◌, ◌≢◌, ◌⊎◌, ◌↔◌, ℕ, Bool, true, false, not, ◌&&◌, ◌==◌, IsTrue, Option, Some, None, Result, Ok, Err, option_map, if◌then◌else◌}
use Rattle.std.specs.Option.{ForSome}
use Rattle.g_base.specs.Counts.{Rose}
use Rattle.g_tape.specs.Reel.{Reel}
use Rattle.g_tape.specs.Rack.{Rack, reel}
use Rattle.g_tape.specs.Reads.{OnlyReads}
use Rattle.g_duplex.specs.Copying.{BothReels, HoldSame}
use Rattle.g_duplex.specs.Twins.{beside_twin, is_lost, of_twin}
use Rattle.g_duplex.specs.Pair.{Pair, standing_in, stands}
use Rattle.g_duplex.specs.declared.fault.DuplexFault.{DuplexFault}
use Rattle.g_duplex.specs.declared.fault.DuplexFault.TheVariants as fault
use Rattle.g_duplex.specs.declared.twin.Twin.{Twin}
use Rattle.g_duplex.specs.declared.twin.Standing.{Standing}
use Rattle.g_duplex.specs.declared.twin.Standing.TheVariants.{Level, Lost}

-- The rack of a twin.
abbrev pub rack_at : Twin → Pair → Rack
rack_at twin p = of_twin twin p.first p.second

-- The rack of the other twin.
abbrev pub rack_beside : Twin → Pair → Rack
rack_beside twin p = beside_twin twin p.first p.second

-- The standing of the twins after this one was rebuilt, or after that failed.
abbrev pub stands_rebuilt : Twin → Result (Unit {0}) DuplexFault → Standing
stands_rebuilt twin (Ok u) = Level
stands_rebuilt twin (Err why) = Lost twin

-- Why a call on both twins is refused, in the order of the checks.
abbrev pub refuses_both : Option Reel → Option Reel → Option DuplexFault
refuses_both None b = Some fault.NoTape
refuses_both (Some a) None = Some fault.NoTape
refuses_both (Some a) (Some b) = if a.mounted && b.mounted then None else Some fault.NotMounted

-- Why rebuilding the first reel from the second is refused, in the order of the checks.
abbrev pub refuses_rebuild : Option Reel → Option Reel → Option DuplexFault
refuses_rebuild None b = Some fault.NoTape
refuses_rebuild (Some a) None = Some fault.NoTape
refuses_rebuild (Some a) (Some b) =
    if a.mounted && b.mounted then (if (b.len == 0) && not (a.len == 0) then Some fault.NotEmptied else None) else Some fault.NotMounted

-- The call leaves the pair's own counts, fuse and armings unchanged.
abbrev pub IsKept : Pair → Pair → Type 0
IsKept old new = new ≡ record old { first = new.first; second = new.second; standings = new.standings }

-- The answer says whether the twins agree: neither is lost, and both hold the same blocks. If a rack doesn't expose its
-- blocks, it says only that they are equally long.
pub record Agrees (s : ℕ) (old : Pair) (same : Bool) : Type 0 where
  pub long : same ≡ true → BothReels s old.first old.second (λ a b. a.len ≡ b.len)
  pub well : same ≡ true → ForSome (standing_in s old) (λ t. is_lost t ≡ false)
  pub told : ForSome (standing_in s old) (λ t. BothReels s old.first old.second (λ a b. ForSome a.blocks (λ p. ForSome b.blocks (λ q.
      IsTrue same ↔ ((is_lost t ≡ false) × (p ≡ q))))))

-- The answer of comparing the twins, with its cause.
abbrev pub Comparing : ℕ → Pair → Result Bool DuplexFault → Pair → Type 0
Comparing s old (Ok same) new = (refuses_both (reel s old.first.reels) (reel s old.second.reels) ≡ None) × Agrees s old same
Comparing s old (Err fault.ReadFailed) new =
    (refuses_both (reel s old.first.reels) (reel s old.second.reels) ≡ None)
    × (Rose old.first.read_faults new.first.read_faults ⊎ Rose old.second.read_faults new.second.read_faults)
Comparing s old (Err fault.WriteFailed) new = ⊥
Comparing s old (Err why) new = (refuses_both (reel s old.first.reels) (reel s old.second.reels) ≡ Some why) × (new ≡ old)

-- A comparison of the twins: both racks are only read, and nothing else changes.
pub record PairCompares (s : ℕ) (old : Pair) (result : Result Bool DuplexFault) (new : Pair) : Type 0 where
  pub answer : Comparing s old result new
  pub first : OnlyReads old.first new.first
  pub second : OnlyReads old.second new.second
  pub kept : IsKept old new
  pub standings : new.standings ≡ old.standings

-- The rack whose twin is rebuilt: no other reel is changed, and nothing is mounted or armed.
pub record IsRewritten (s : ℕ) (old new : Rack) : Type 0 where
  pub others : (u : ℕ) → u ≢ s → reel u new.reels ≡ reel u old.reels
  pub mounted : option_map (λ r. r.mounted) (reel s new.reels) ≡ option_map (λ r. r.mounted) (reel s old.reels)
  pub read_faults : new.read_faults ≡ old.read_faults
  pub arms : new.arms ≡ old.arms

-- A rebuild: if it succeeds, neither twin is lost and both hold the same; after a failure this twin is lost; a refusal
-- changes nothing.
abbrev pub Rebuilding : ℕ → Twin → Pair → Result (Unit {0}) DuplexFault → Pair → Type 0
Rebuilding s twin old (Ok u) new =
    (refuses_rebuild (reel s (rack_at twin old).reels) (reel s (rack_beside twin old).reels) ≡ None)
    × (new.standings ≡ stands s (λ t. Level) old) × BothReels s new.first new.second HoldSame
Rebuilding s twin old (Err fault.ReadFailed) new =
    (refuses_rebuild (reel s (rack_at twin old).reels) (reel s (rack_beside twin old).reels) ≡ None)
    × (new.standings ≡ stands s (λ t. Lost twin) old) × Rose (rack_beside twin old).read_faults (rack_beside twin new).read_faults
Rebuilding s twin old (Err fault.WriteFailed) new =
    (refuses_rebuild (reel s (rack_at twin old).reels) (reel s (rack_beside twin old).reels) ≡ None)
    × (new.standings ≡ stands s (λ t. Lost twin) old) × Rose (rack_at twin old).write_faults (rack_at twin new).write_faults
Rebuilding s twin old (Err why) new =
    (refuses_rebuild (reel s (rack_at twin old).reels) (reel s (rack_beside twin old).reels) ≡ Some why) × (new ≡ old)

-- A rebuild of a twin: the other rack is only read, and in this twin's rack no other reel is changed.
pub record PairRebuilds (s : ℕ) (twin : Twin) (old : Pair) (result : Result (Unit {0}) DuplexFault) (new : Pair) : Type 0 where
  pub answer : Rebuilding s twin old result new
  pub source : OnlyReads (rack_beside twin old) (rack_beside twin new)
  pub written : IsRewritten s (rack_at twin old) (rack_at twin new)
  pub kept : IsKept old new
