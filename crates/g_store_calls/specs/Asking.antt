-- What a call reads from disc and tapes before anything is written.
use Rattle.std.specs.Prelude.{◌≡◌, ℕ, ◌<◌, ◌≤◌, List, Result, Ok, Err}
use Rattle.g_base.specs.Counts.{Rose}
use Rattle.g_disc.specs.Disc.{ReadsByCause}
use Rattle.g_tape.specs.Rack.{Rack}
use Rattle.g_tape.specs.Reads.{OnlyReads}
use Rattle.g_plain.specs.declared.faults.StoreFault.{StoreFault}
use Rattle.g_plain.specs.declared.faults.StoreFault.TheVariants.{DiscFull, NoMemory}
use Rattle.g_disc_contents.specs.Facts.{IsTied, OnlineFacts}
use Rattle.g_online.specs.declared.unjam.Unjam.{Unjam}
use Rattle.g_laws_store.specs.UnjamPlan.{IsUnjamPlan}

-- Disc and tapes were only read. The counts of failed reads rose if and only if the call failed for that reason.
pub record HasAsked (disc_fault tape_fault : Type 0) (old new : OnlineFacts) (before after : Rack) : Type 0 where
  pub disc : ReadsByCause disc_fault old.disc new.disc
  pub same : new ≡ record old { disc = new.disc }
  pub tied : IsTied new
  pub only : OnlyReads before after
  pub kept : (tape_fault → ⊥) → after.read_faults ≡ before.read_faults
  pub rose : tape_fault → Rose before.read_faults after.read_faults

-- Some plan reaches this room.
abbrev pub IsReached : ℕ → OnlineFacts → ℕ → Type 0
IsReached need o room = (take : List ℕ) × IsUnjamPlan need o take room

-- Room for new bytes: a plan that reaches the need, or `DiscFull` if and only if none does, or memory ran out.
abbrev pub HasPlanned : ℕ → OnlineFacts → Result Unjam StoreFault → Type 0
HasPlanned need o (Ok plan) = IsUnjamPlan need o plan.take plan.room × (need ≤ plan.room)
HasPlanned need o (Err (DiscFull wants room)) = (wants ≡ need) × (room < need) × IsReached need o room
HasPlanned need o (Err NoMemory) = Unit {0}
HasPlanned need o (Err fault) = ⊥
