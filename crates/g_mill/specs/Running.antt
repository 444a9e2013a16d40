-- Orders of a program whose event is Ran.
use Rattle.std.specs.Prelude.{◌≡◌, ◌≢◌, ◌<◌, ◌^◌, ℕ, zero, suc}
use Rattle.g_mill.specs.declared.event.Event.TheVariants.{Ran}
use Rattle.g_mill.specs.declared.step.PlainOutcome.{PlainOutcome}
use Rattle.g_mill.specs.declared.step.PlainOutcome.TheVariants as quick
use Rattle.g_mill.specs.Machine.{Machine, following, going_to}
use Rattle.g_mill.specs.Effect.{order}

-- This many consecutive orders lead from one program to the other, and the event of each is Ran.
abbrev pub RunsTo : ℕ → Machine → Machine → Type 0
RunsTo zero old new = new ≡ old
RunsTo (suc count) old new = ((order old).1 ≡ Ran) × RunsTo count (order old).0 new

-- The result of a call that executes the order at an address if its event is Ran, and otherwise nothing. It returns where the program continues; the
-- program's own next address isn't set yet.
abbrev pub RunsOne : PlainOutcome → ℕ → Machine → Machine → Type 0
RunsOne quick.Ran at old new = order (going_to old at) ≡ (going_to new (following at), Ran)
RunsOne (quick.Jumped next) at old new = (order (going_to old at) ≡ (going_to new next, Ran)) × (next < 2 ^ 15)
RunsOne (quick.Passed to) at old new = order (going_to old at) ≡ (going_to new (following at), Ran)
RunsOne quick.Illegal at old new = (new ≡ old) × ((order (going_to old at)).1 ≢ Ran)
RunsOne quick.NeedsStep at old new = (new ≡ old) × ((order (going_to old at)).1 ≢ Ran)
