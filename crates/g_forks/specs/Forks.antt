-- The completed dumps of a rack by where they lie, and numbers that two racks have given to two dumps.
use Rattle.std.specs.Prelude.{◌≡◌, ◌⊎◌, ℕ, ◌==◌, List, All, Contains, Option, Some, find}
use Rattle.std.specs.Option.{ForSome}
use Rattle.g_base.specs.Counts.{Rose}
use Rattle.g_tape.specs.Rack.{Rack}
use Rattle.g_tape.specs.Reads.{blocks_of}
use Rattle.g_tape.specs.Reel.{Reel}
use Rattle.g_incr.specs.Layout.{Dump, count_of}
use Rattle.g_shelf.specs.CompletedDumps.{AreCompleted}
use Rattle.g_shelf.specs.Walk.{HasMore}
use Rattle.g_forks.specs.declared.held.Held.{Held}
use Rattle.g_forks.specs.declared.fork.Fork.{Fork}

-- What is kept of a dump.
abbrev pub held_of : Dump → Held
held_of d = record { number = d.number; serial = d.serial; place = d.place; count = count_of d }

-- It is a completed dump of its reel, if that exposes its blocks.
pub record IsWithin (rack : Rack) (held : Held) : Type 0 where
  pub dump : Dump
  pub is : held ≡ held_of dump
  pub completed : ForSome (blocks_of held.serial rack) (λ blocks. (dumps : List Dump) × AreCompleted held.serial blocks dumps × Contains dumps dump)

abbrev pub AreWithin : Rack → List Held → Type 0
AreWithin rack held = All (IsWithin rack) held

-- No read of the rack failed in between.
abbrev pub IsRead : Rack → Rack → Type 0
IsRead old new = Rose old.read_faults new.read_faults → ⊥

-- All completed dumps of these reels are in the list, as far as the reels expose their blocks.
abbrev pub HasAll : List Reel → List Held → Type 0
HasAll reels held = All (λ r. ForSome r.blocks (λ blocks. (dumps : List Dump) × AreCompleted r.serial blocks dumps × All (λ d. Contains held (held_of d)) dumps)) reels

-- What one reel adds to the list: its completed dumps, or none if a read failed.
abbrev pub Adds : ℕ → List Held → List Held → Rack → Rack → Type 0
Adds serial before after old new = HasMore (λ held d. held ≡ held_of d) serial before after old new ⊎ ((after ≡ before) × Rose old.read_faults new.read_faults)

-- The first dump of this number.
abbrev pub first_of : ℕ → List Held → Option Held
first_of number dumps = find (λ d. d.number == number) dumps

-- Twins: on reels of one serial, at one block, of one length.
abbrev pub LieAlike : Held → Held → Type 0
LieAlike one other = (one.serial ≡ other.serial) × (one.place ≡ other.place) × (one.count ≡ other.count)

-- A dump of the second rack, and the dump that has its number in the first one, which isn't its twin.
pub record IsFork (first second : List Held) (fork : Fork) : Type 0 where
  pub there : Contains second fork.second
  pub number : first_of fork.second.number first ≡ Some fork.first
  pub apart : LieAlike fork.first fork.second → ⊥

-- Each dump of the second rack whose number the first one has is its twin there.
abbrev pub HasNoFork : List Held → List Held → Type 0
HasNoFork first second = All (λ d. ForSome (first_of d.number first) (λ twin. LieAlike twin d)) second
