-- Refusals that are exact for every disc and rack, including real ones. They depend on the labels, lengths and mounts of
-- the reels, which are always known, and on what the store has in memory.
use Rattle.std.specs.Prelude.{◌≡◌, ℕ, ◌+◌, ◌-◌, ◌^◌, ◌==◌, Bool, false, not, nat_lt, List, [], ◌∷◌, filter, find, length, option_map, Option, Some, None, IfSome, IfErr, is_some, is_none, Result, Ok, Err}
use Rattle.g_tape.specs.Reel.{Reel}
use Rattle.g_tape.specs.Rack.{is_mounted, reel}
use Rattle.g_tape.specs.declared.fault.TapeFault.{TapeFault}
use Rattle.g_tape.specs.declared.fault.TapeFault.TheVariants as tape
use Rattle.g_plain.specs.declared.faults.StoreFault.{StoreFault}
use Rattle.g_plain.specs.declared.faults.StoreFault.TheVariants.{CountersSpent, DumpOpen, NoTape, NotMounted, TapeBusy}
use Rattle.g_plain.specs.PlainStep.{first_fault}
use Rattle.g_disc_contents.specs.Contents.{recs_in}
use Rattle.g_disc_contents.specs.Facts.{OnlineFacts}
use Rattle.g_incr.specs.Layout.{holds}
use Rattle.g_incr.specs.Plan.{blocks_of, waiting}
use Rattle.g_store_meaning.specs.StoreInvariant.{DumpFacts, StoreFacts}

-- An event that doesn't depend on what a device holds: it is refused for this reason, and nothing has changed, or it is
-- done.
abbrev pub DoneOr : {A : Type 0} → Option StoreFault → StoreFacts → StoreFacts → Result A StoreFault → StoreFacts → Type 0
DoneOr refusal after old (Ok reply) new = (refusal ≡ None) × (new ≡ after)
DoneOr refusal after old (Err fault) new = (refusal ≡ Some fault) × (new ≡ old)

-- An event that depends on it: it is refused for this reason, and nothing has changed; or, if there is no such reason, it
-- has no other fault than these.
pub record IsExact {A : Type 0} (refusal : Option StoreFault) (others : StoreFault → Type 0) (old : StoreFacts) (answer : Result A StoreFault) (new : StoreFacts) : Type 0 where
  pub refused : IfSome refusal (λ fault. (answer ≡ Err fault) × (new ≡ old))
  pub granted : refusal ≡ None → IfErr answer others

-- The open dump: its number, and whether it is on this reel.
abbrev pub number_in : Option DumpFacts → ℕ
number_in None = 0
number_in (Some d) = d.plan.number

-- Whether the open dump is on this reel.
abbrev pub is_on : ℕ → Option DumpFacts → Bool
is_on serial None = false
is_on serial (Some d) = d.plan.serial == serial

-- The refusal of a mount, if any: the reel isn't in the rack.
abbrev pub mount_refuses : ℕ → StoreFacts → Option StoreFault
mount_refuses serial s = first_fault ((is_none (reel serial s.rack.reels), NoTape) ∷ [])

-- The first refusal of an unmount that applies, in their order.
abbrev pub unmount_refuses : ℕ → StoreFacts → Option StoreFault
unmount_refuses serial s = first_fault (
    (is_none (reel serial s.rack.reels), NoTape)
    ∷ (not (is_mounted (reel serial s.rack.reels)), NotMounted)
    ∷ (is_on serial s.dump, TapeBusy)
    ∷ [])

-- The store's answer to a mount or an unmount, from the answer of its rack.
abbrev pub rack_answer : Result (Unit {0}) TapeFault → Result (Unit {0}) StoreFault
rack_answer (Ok u) = Ok u
rack_answer (Err tape.NoTape) = Err NoTape
rack_answer (Err fault) = Err NotMounted

-- The refusals of an opening that occur before the reel is read.
abbrev pub open_refuses : ℕ → StoreFacts → Option StoreFault
open_refuses serial s = first_fault (
    (is_none (reel serial s.rack.reels), NoTape)
    ∷ (not (is_mounted (reel serial s.rack.reels)), NotMounted)
    ∷ (is_some s.dump, DumpOpen (number_in s.dump))
    ∷ (s.online.contents.head.last_dump == 2 ^ 62 - 1, CountersSpent)
    ∷ [])

-- The number of tape blocks that a dump would take now: its header, all users, the files of the changed users, the blocks
-- of the versions without a copy, and its mark.
abbrev pub needs_now : OnlineFacts → ℕ
needs_now o =
    let files = filter (λ r. holds o.changed r.owner) (recs_in o.contents) in
    2 + length o.contents.users + length files + blocks_of (waiting files)

-- The capacity of the reel in blocks, or 0 if it doesn't exist.
abbrev pub capacity_of : Option Reel → ℕ
capacity_of None = 0
capacity_of (Some r) = r.capacity

-- The reel exists and has a block.
abbrev pub is_used : Option Reel → Bool
is_used None = false
is_used (Some r) = nat_lt 0 r.len

-- the serial of the first reel that has a block
abbrev pub first_used : List Reel → Option ℕ
first_used reels = option_map (λ r. r.serial) (find (λ r. nat_lt 0 r.len) reels)
