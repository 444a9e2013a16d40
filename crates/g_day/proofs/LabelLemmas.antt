-- The same devices after an event: reads, writes, mounts and arming preserve the identity of disc and reels.
-- serves: CauseLemmas, JobLemmas, LineLemmas, UpLemmas, crates above
use Rattle.std.proofs.Common.{◌≡◌, ◌==◌, ◌≤◌, ℕ, List, [], ◌∷◌, map, refl, sym, ◌∙◌, ap, if◌then◌else◌, arith}
use Rattle.g_base.proofs.KeyLemmas.{map-change_same}
use Rattle.g_script.specs.declared.operator.Operator.{Operator}
use Rattle.g_script.specs.declared.operator.Operator.TheVariants as line
use Rattle.g_tape.specs.Rack.{with_reel}
use Rattle.g_tape.specs.Reads.{unread}
use Rattle.g_tape.specs.Reel.{Reel}
use Rattle.g_run_model.specs.Devices.{Devices}
use Rattle.g_day.specs.Parts.{FusesBy, disc_arms, tape_arms}
use Rattle.g_day.specs.System.{SameDevices, labels}

-- what one changed reel preserves, all preserve
pub parts_with : {X : Type 0} (part : Reel → X) (s : ℕ) (f : Reel → Reel) → ((r : Reel) → part (f r) ≡ part r) → (reels : List Reel) → map part (with_reel s f reels) ≡ map part reels
parts_with part s f keeps reels = map-change_same (λ (r : Reel). s == r.serial) f part keeps reels

-- a reel that is changed in neither
pub labels_with : (s : ℕ) (f : Reel → Reel) → ((r : Reel) → (f r).serial ≡ r.serial) → ((r : Reel) → (f r).capacity ≡ r.capacity) → (reels : List Reel) → labels (with_reel s f reels) ≡ labels reels
labels_with s f named held reels = parts_with (λ (r : Reel). (r.serial, r.capacity)) s f (λ r. ap (λ (n : ℕ). (n, (f r).capacity)) (named r) ∙ ap (λ (n : ℕ). (r.serial, n)) (held r)) reels

labels_unread : (reels : List Reel) → labels (map unread reels) ≡ labels reels
labels_unread [] = refl
labels_unread (r ∷ reels) = ap (λ (ls : List (ℕ × ℕ)). (r.serial, r.capacity) ∷ ls) (labels_unread reels)

-- nothing but reads
pub labels_read : (old new : List Reel) → map unread new ≡ map unread old → labels new ≡ labels old
labels_read old new is = sym (labels_unread new) ∙ ap labels is ∙ labels_unread old

-- a counter that doesn't move, and one that doesn't fall in two steps
pub stands_still : (a b : ℕ) → b ≡ a → a ≤ b
stands_still a b same = omega (arith, same)

twice_later : (a b c : ℕ) → a ≤ b → b ≤ c → a ≤ c
twice_later a b c first later = omega (arith, first, later)

-- if no failure of the disc was counted
pub same_still : (a b : Devices) → b.disc.size ≡ a.disc.size → b.disc.read_faults ≡ a.disc.read_faults → b.disc.write_faults ≡ a.disc.write_faults → a.disc.writes ≤ b.disc.writes
    → a.rack.read_faults ≤ b.rack.read_faults → a.rack.write_faults ≤ b.rack.write_faults → labels b.rack.reels ≡ labels a.rack.reels → SameDevices a b
same_still a b size reads faults writes tape_reads tape_writes reels = record {
  size = size;
  read_faults = stands_still a.disc.read_faults b.disc.read_faults reads;
  write_faults = stands_still a.disc.write_faults b.disc.write_faults faults;
  writes = writes;
  tape_read_faults = tape_reads;
  tape_write_faults = tape_writes;
  reels = reels;
}

-- or anything else
pub same_counts : (a b : Devices) → b.disc.size ≡ a.disc.size → b.disc.read_faults ≡ a.disc.read_faults → b.disc.write_faults ≡ a.disc.write_faults → b.disc.writes ≡ a.disc.writes
    → b.rack.read_faults ≡ a.rack.read_faults → b.rack.write_faults ≡ a.rack.write_faults → labels b.rack.reels ≡ labels a.rack.reels → SameDevices a b
same_counts a b size reads faults writes tape_reads tape_writes reels =
    same_still a b size reads faults (stands_still a.disc.writes b.disc.writes writes) (stands_still a.rack.read_faults b.rack.read_faults tape_reads)
    (stands_still a.rack.write_faults b.rack.write_faults tape_writes) reels

pub same_itself : (d : Devices) → SameDevices d d
same_itself d = same_counts d d refl refl refl refl refl refl refl

pub same_then : (a b c : Devices) → SameDevices a b → SameDevices b c → SameDevices a c
same_then a b c first later = record {
  size = later.size ∙ first.size;
  read_faults = twice_later a.disc.read_faults b.disc.read_faults c.disc.read_faults first.read_faults later.read_faults;
  write_faults = twice_later a.disc.write_faults b.disc.write_faults c.disc.write_faults first.write_faults later.write_faults;
  writes = twice_later a.disc.writes b.disc.writes c.disc.writes first.writes later.writes;
  tape_read_faults = twice_later a.rack.read_faults b.rack.read_faults c.rack.read_faults first.tape_read_faults later.tape_read_faults;
  tape_write_faults = twice_later a.rack.write_faults b.rack.write_faults c.rack.write_faults first.tape_write_faults later.tape_write_faults;
  reels = later.reels ∙ first.reels;
}

-- a line that arms nothing sets no fuse
pub no_fuse : (what : Operator) → disc_arms what ≡ [] → tape_arms what ≡ [] → (d : Devices) → FusesBy what d
no_fuse (line.StopDisc k) no_disc no_tape d = absurd (let no : ⊥ = cc in no)
no_fuse (line.StopTape k) no_disc no_tape d = absurd (let no : ⊥ = cc in no)
no_fuse what no_disc no_tape d = tt
