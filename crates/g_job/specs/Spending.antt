-- What a turn takes from the allowance, whether the job continues, and why it ends.
use Rattle.std.specs.Prelude.{None, Option, Some, false, true, ◌+◌, ◌<◌, ◌≡◌, ◌≤◌, ◌⊎◌}
use Rattle.g_rules.specs.declared.tariff.Charge.{Charge}
use Rattle.g_job.specs.Beginning.{standing_of}
use Rattle.g_job.specs.TurnEnd.{money_left, units_left}
use Rattle.g_turn.specs.State.{Broken, Done, Full, Stop, Waits, Work}
use Rattle.g_job.specs.State.{JobState}
use Rattle.g_rules.specs.declared.turn.Turn.{Turn}
use Rattle.g_rules.specs.declared.turn.Turn.TheVariants as turn

-- A charged turn takes at least one unit, or ends the job; a turn that waits takes none.
abbrev pub SpendsBy : JobState → Turn → JobState → Type 0
SpendsBy old (turn.Ran units money) new =
    (1 ≤ units) × (new.used ≡ old.used + units) × (new.used < new.allowance) × (new.wants ≡ None) × (new.over ≡ false)
SpendsBy old (turn.Wants serial) new = (new.used ≡ old.used) × (new.wants ≡ Some serial) × (new.over ≡ false)
SpendsBy old (turn.Ended units money) new = new.over ≡ true
SpendsBy old turn.Broken new = new.over ≡ true

-- A turn preserves the job's number and allowance, and takes this of the allowance.
abbrev pub Spends : JobState → Turn → JobState → Type 0
Spends old given new = (new.number ≡ old.number) × (new.allowance ≡ old.allowance) × SpendsBy old given new

-- Everything observable of a job except the reel that it wants is unchanged: its standing, its monitoring file, and its charged MONEY.
pub record ToldAsBefore (old new : JobState) : Type 0 where
  pub standing : standing_of new ≡ standing_of old
  pub monitor : new.monitor ≡ old.monitor
  pub money : new.used_money ≡ old.used_money
  pub over : new.over ≡ old.over

-- WHY A JOB ENDS: it is done, or its file is full; otherwise its TIME is used up, or the turn's MONEY is more than it had left.
abbrev pub EndsFor : JobState → Option Charge → Option Stop → Type 0
EndsFor old charge (Some Done) = Unit {0}
EndsFor old charge (Some Full) = Unit {0}
EndsFor old charge (Some stop) = ⊥
EndsFor old None None = ⊥
EndsFor old (Some charge) None = (units_left old ≤ charge.units) ⊎ (money_left old < charge.money)

-- A job that continues has TIME left, and had enough MONEY for the turn.
abbrev pub HasLeft : JobState → Option Charge → Type 0
HasLeft old None = ⊥
HasLeft old (Some charge) = (charge.units < units_left old) × (charge.money ≤ money_left old)

-- THE RESULT OF A TURN, by the reason why its work is over and by its charge.
abbrev pub ComesTo : JobState → Work → Option Charge → Turn → JobState → Type 0
ComesTo old w charge (turn.Ran units money) new = (w.stop ≡ None) × HasLeft old charge
ComesTo old w charge (turn.Wants serial) new = (w.stop ≡ Some (Waits serial)) × (new.pending ≡ w.again) × ToldAsBefore old new
ComesTo old w charge (turn.Ended units money) new = EndsFor old charge w.stop
ComesTo old w charge turn.Broken new = w.stop ≡ Some Broken

-- A turn doesn't change the job's terminal, nor whether its document is held open.
abbrev pub KeepsSeat : JobState → JobState → Type 0
KeepsSeat old new = (new.terminal ≡ old.terminal) × (new.desk.levels.held ≡ old.desk.levels.held)
