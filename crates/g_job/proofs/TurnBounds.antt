-- The programs of turns are honest, and stay within the limits.
-- serves: turns_keep_their_limits, turns_say_why_they_are_over, CauseLemmas, WellLemmas, crates above
use Rattle.std.proofs.Common.{ℕ, ◌+◌, ◌-◌, ◌≤◌, List, length, Option, Some, None, IfSome, lit≤, arith}
use Rattle.g_turn.specs.Bounds.{AlwaysGives, IsWithin}
use Rattle.g_turn.specs.Causes.{IsHonest}
use Rattle.g_turn.specs.State.{AgainCommand, AgainLine, Pending}
use Rattle.g_turn.specs.Turns.{begins, with_kept}
use Rattle.g_turn.proofs.BoundLemmas.{gives_more, within_of}
use Rattle.g_turn.proofs.CommandBounds.{does_fired_gives, line_gives, runs_or_takes_gives}
use Rattle.g_turn.proofs.CommandLemmas.{begins_honest}
use Rattle.g_turn.proofs.VerbBounds.{In}
use Rattle.g_job.specs.Beginning.{begin, room_of}
use Rattle.g_job.specs.Rules.{IsJob, IsPending}
use Rattle.g_job.specs.State.{JobState}
use Rattle.g_job.specs.Turns.{turn_work}

-- THE PROGRAM OF A TURN IS HONEST
pub turn_honest : (j : JobState) → IsHonest (turn_work j)
turn_honest j = begins_honest (room_of j) j.user j.pending (begin j) tt

-- what was stored is within its limits
kept_fits : (monitor : List ℕ) (orders blocks : ℕ) (text : List ℕ) → length monitor + length text ≤ 1048576 → length text ≤ 1048576 - length monitor
kept_fits monitor orders blocks text fits = omega (arith, fits)

begins_gives : (j : JobState) (pending : Option Pending) → IfSome pending (IsPending j.monitor) → length j.desk.units.writers ≤ 16 → AlwaysGives (In (room_of j) 4096) (begins (room_of j) j.user pending (begin j))
begins_gives j None rule few = runs_or_takes_gives (room_of j) j.user j.desk.running (begin j) (omega arith, lit≤ tt, lit≤ tt, few, tt, tt)
begins_gives j (Some (AgainLine text)) rule few = line_gives (room_of j) j.user text (begin j) (omega arith, lit≤ tt, lit≤ tt, few, tt, tt)
begins_gives j (Some (AgainCommand text orders blocks command)) rule few =
    does_fired_gives (room_of j) j.user command (with_kept text orders blocks (begin j))
    (kept_fits j.monitor orders blocks text rule.room, rule.orders_few, rule.blocks_few, few, tt, tt)

-- EVERY TURN stays within its limits
pub turn_within : (j : JobState) → IsJob j → length j.desk.units.writers ≤ 16 → AlwaysGives (IsWithin (room_of j)) (turn_work j)
turn_within j rules few =
    gives_more (In (room_of j) 4096) (IsWithin (room_of j)) (λ w g. within_of (room_of j) w g) (turn_work j) (begins_gives j j.pending rules.goes_on few)
