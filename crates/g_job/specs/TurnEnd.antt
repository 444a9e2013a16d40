-- THE END OF A TURN: its result, its charge, and the job afterwards.
use Rattle.std.specs.Prelude.{Bool, List, None, Option, Some, false, min, nat_le, nat_lt, true, ℕ, ◌++◌, ◌+◌, ◌-◌, ◌≡◌}
use Rattle.std.specs.Fn.{FnReturnsAt, Shared}
use denote.Ref.{Bor}
use Rattle.g_rules.specs.declared.tariff.Charge.{Charge}
use Rattle.g_rules.specs.declared.tariff.Usage.{Usage}
use Rattle.g_turn.specs.State.{Broken, Full, Stop, Waits, Work}
use Rattle.g_job.specs.State.{JobState}
use Rattle.g_rules.specs.declared.turn.Turn.{Turn}
use Rattle.g_rules.specs.declared.turn.Turn.TheVariants as turn
use Rattle.g_lines.specs.Lines.{ended}
use Rattle.g_monitor.specs.JobLines.{job_line}
use Rattle.g_monitor.specs.declared.job_lines.JobLine.TheVariants as line

-- The units of TIME that are left.
abbrev pub units_left : JobState → ℕ
units_left j = j.allowance - j.used

-- The MONEY that is left.
abbrev pub money_left : JobState → ℕ
money_left j = j.money - j.used_money

-- The units of TIME that are charged: those of the tariff, limited to what is left.
abbrev pub units_of : JobState → Charge → ℕ
units_of j charge = min charge.units (units_left j)

-- The MONEY that is charged: that of the tariff, limited to what is left.
abbrev pub money_of : JobState → Charge → ℕ
money_of j charge = min charge.money (money_left j)

-- The job after a turn that is charged, without a last line.
abbrev pub charged : JobState → Work → Charge → JobState
charged j w charge = record j {
  used = j.used + units_of j charge;
  used_money = j.used_money + money_of j charge;
  turns = j.turns + 1;
  desk = w.desk;
  pending = None;
  wants = None;
  monitor = j.monitor ++ w.text;
}

-- The charge uses up the TIME.
abbrev pub is_time_up : JobState → Charge → Bool
is_time_up j charge = nat_le (units_left j) charge.units

-- The turn's MONEY is more than the job has left.
abbrev pub is_money_up : JobState → Charge → Bool
is_money_up j charge = nat_lt (money_left j) charge.money

-- The last line of a job whose TIME or MONEY is used up; TIME comes first.
abbrev pub up_line : Bool → Bool → JobState → Option (List ℕ)
up_line true money_up new = Some (job_line (line.TimeUp new.used))
up_line false true new = Some (job_line (line.MoneyUp new.used_money))
up_line false false new = None

-- THE LAST LINE of a job that ends after this turn: its file is full, it is done, its TIME is used up, or its MONEY is.
abbrev pub last_line : Option Stop → JobState → Charge → JobState → Option (List ℕ)
last_line (Some Full) old charge new = Some (job_line line.Full)
last_line (Some stop) old charge new = Some (job_line (line.End new.used))
last_line None old charge new = up_line (is_time_up old charge) (is_money_up old charge) new

-- The job after a turn: a last line is appended to its file, and ends it.
abbrev pub behind_turn : JobState → Option (List ℕ) → JobState
behind_turn j None = j
behind_turn j (Some text) = record j { monitor = j.monitor ++ ended text; over = true }

-- The result of a turn that is charged: a last line ends the job.
abbrev pub turn_of : ℕ → ℕ → Option (List ℕ) → Turn
turn_of units money None = turn.Ran units money
turn_of units money (Some text) = turn.Ended units money

-- The end of a turn that is charged; a last line ends the job.
abbrev pub ended_by : JobState → Work → Charge → Option (List ℕ) → Turn × JobState
ended_by old w charge last = (turn_of (units_of old charge) (money_of old charge) last, behind_turn (charged old w charge) last)

-- The end of a turn that is charged, by the reason why its work is over.
abbrev pub charged_end : Option Stop → JobState → Work → Charge → Turn × JobState
charged_end stop old w charge = ended_by old w charge (last_line stop old charge (charged old w charge))

-- A turn that waits: everything observable of the job is unchanged, except the reel that it wants.
abbrev pub waited : JobState → Work → ℕ → JobState
waited j w serial = record j { desk = w.desk; pending = w.again; wants = Some serial }

-- A turn that was stopped: its text so far is appended, and the job takes no more turns.
abbrev pub broken : JobState → Work → JobState
broken j w = record j { desk = w.desk; pending = None; wants = None; monitor = j.monitor ++ w.text; over = true }

-- A turn that waits or was stopped is charged nothing.
abbrev pub is_free : Option Stop → Bool
is_free (Some (Waits serial)) = true
is_free (Some Broken) = true
is_free stop = false

-- A turn that waits or was stopped ends without a charge, and every other turn with one; no other combination has an end.
abbrev pub end_by : Option Stop → JobState → Work → Option Charge → Option (Turn × JobState)
end_by (Some (Waits serial)) old w None = Some (turn.Wants serial, waited old w serial)
end_by (Some (Waits serial)) old w (Some charge) = None
end_by (Some Broken) old w None = Some (turn.Broken, broken old w)
end_by (Some Broken) old w (Some charge) = None
end_by stop old w None = None
end_by stop old w (Some charge) = Some (charged_end stop old w charge)

-- THE END OF A TURN, by its work and its charge.
abbrev pub turn_end : JobState → Work → Option Charge → Option (Turn × JobState)
turn_end old w charge = end_by w.stop old w charge

module _ {F : Type 0} (calls : Shared F (Bor Usage × Unit {0}) Charge) (rule : F) where
  -- The charge, if there is one, is an answer of the tariff for the turn's usage.
  abbrev pub IsPriced : Work → Option Charge → Type 0
  IsPriced w None = Unit {0}
  IsPriced w (Some charge) = FnReturnsAt calls rule (record { orders = w.orders; blocks = w.blocks }) charge

  -- This is the end of a turn of the job, for some charge by the tariff.
  abbrev pub IsTurn : JobState → Work → Turn → JobState → Type 0
  IsTurn old w given new = (charge : Option Charge) × IsPriced w charge × (turn_end old w charge ≡ Some (given, new))
