-- The system after a tick, from a store that was stopped or wasn't.
-- serves: dump_step (did), something_steps (no), step (did), stops (ends), take_turn (did), tick (did), tick_on, turn_of (turn), until_up, and 2 more
use Rattle.std.proofs.Common.{◌≡◌, ◌↔◌, ℕ, Bool, true, false, Err, Result, refl, sym, ◌∙◌, ap, inl, inr}
use Rattle.g_plain.specs.declared.faults.StoreFault.{StoreFault}
use Rattle.g_plain.specs.declared.faults.StoreFault.TheVariants.{Stopped}
use Rattle.g_store_meaning.specs.StoreInvariant.{StoreFacts}
use Rattle.g_store_model.specs.DumpSteps.{Stepped}
use Rattle.g_job_table.specs.Crew.{CrewState}
use Rattle.g_day.specs.Parts.{Seen, seen}
use Rattle.g_day.specs.System.{Down, SystemFacts, Up}
use Rattle.g_day.specs.Telling.{system_behind}
use Rattle.g_ticks.specs.Turning.{LeftBy, left_by, left_of}

pub left_up : (s : StoreFacts) → s.spent ≡ false → left_of s ≡ Up s
left_up s running = ap (λ (b : Bool). left_by b s) running

pub left_down : (s : StoreFacts) → s.spent ≡ true → left_of s ≡ Down (record { disc = s.online.disc; rack = s.rack })
left_down s stopped = ap (λ (b : Bool). left_by b s) stopped

pub left_so : (s : StoreFacts) → LeftBy s (left_of s)
left_so s = by s.spent refl
  where
    by : (b : Bool) → s.spent ≡ b → LeftBy s (left_of s)
    by false is = inl (is, left_up s is)
    by true is = inr (is, left_down s is)

-- what is at hand then
pub seen_up : (s : StoreFacts) (c : CrewState) (count : ℕ) → s.spent ≡ false → seen (left_of s) c count ≡ seen (Up s) c count
seen_up s c count running = ap (λ (f : SystemFacts). seen f c count) (left_up s running)

-- after a fault
pub left_fault : (s : StoreFacts) (fault : StoreFault) → fault ≡ Stopped → s.spent ≡ true → left_of s ≡ system_behind fault (Up s)
left_fault s fault is stopped = left_down s stopped ∙ sym (ap (λ (f : StoreFault). system_behind f (Up s)) is)

-- after a dump step that stopped nothing
pub unstopped : (b : Bool) (answer : Result Stepped StoreFault) → (b ≡ true) ↔ (answer ≡ Err Stopped) → (answer ≡ Err Stopped → ⊥) → b ≡ false
unstopped false answer is isnt = refl
unstopped true answer is isnt = absurd (isnt (is.0 refl))
