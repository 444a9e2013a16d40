-- Invocations of the program with the word `run`, one after another on the same devices.
use Rattle.std.specs.Prelude.{◌≡◌, ◌⊎◌, ◌<◌, ℕ, Bool, true, false, List, [], ◌∷◌, Option, None}
use Rattle.std.specs.Fn.{Shared}
use denote.Ref.{Bor}
use Rattle.g_rules.specs.declared.tariff.Charge.{Charge}
use Rattle.g_rules.specs.declared.tariff.Usage.{Usage}
use Rattle.g_rules.specs.declared.rule.Standing.{Standing}
use Rattle.g_io.specs.Streams.{HasPutPart, with_more}
use Rattle.g_lines.specs.Lines.{lines_of}
use Rattle.g_script.specs.Script.{IsParsed}
use Rattle.g_script.specs.declared.operator.Timed.{Timed}
use Rattle.g_store_model.specs.CallStep.{down}
use Rattle.g_store_model.specs.State.{State}
use Rattle.g_run_model.specs.Devices.{Devices}
use Rattle.g_run_model.specs.Moves.{Counted, Move, Run}
use Rattle.g_run_model.specs.Top.{EndsWhole, IsCut}
use Rattle.g_run_model.specs.World.{World, start}
use Rattle.g_laws_runs.specs.NewDevices.{AreNew}

-- One invocation: its script, whether its status said that the run is over, the devices before and after it, and what had been printed before
-- and after it.
pub record Invocation : Type 0 where
  pub script : List ℕ
  pub whole : Bool
  pub old : Devices
  pub new : Devices
  pub before : Option (List ℕ)
  pub after : Option (List ℕ)

module _ {F U : Type 0} (tariffs : Shared F (Bor Usage × Unit {0}) Charge) (tariff : F) (rules : Shared U (Bor Standing × Unit {0}) ℕ) (rule : U) where
  -- What the clause `ends` of the contract says of an invocation.
  abbrev pub EndsBy : Bool → Invocation → Type 0
  EndsBy true c = (lines : List Timed) × (bad : Option ℕ) × IsParsed (lines_of c.script) lines bad × EndsWhole tariffs tariff rules rule lines bad c.old c.new c.before c.after
  EndsBy false c = IsCut tariffs tariff rules rule c.script c.old c.new c.before c.after

  -- Each invocation is on the devices that the one before has left.
  abbrev pub AreInOrder : Devices → List Invocation → Type 0
  AreInOrder d [] = Unit {0}
  AreInOrder d (c ∷ later) = (c.old ≡ d) × EndsBy c.whole c × AreInOrder c.new later

  -- What was printed of a run's text: all of it, if the run is over; otherwise a prefix of it.
  abbrev pub Prints : Bool → World → Option (List ℕ) → Option (List ℕ) → Type 0
  Prints true last before after = (last.over ≡ true) × (after ≡ with_more before last.text)
  Prints false last before after = HasPutPart before last.text after

  -- AN INVOCATION RUNS from this state of the store to that one: these are moves of its script, with as many failures as the devices counted.
  pub record RunsFrom (s : State) (c : Invocation) (after : State) : Type 0 where
    pub lines : List Timed
    pub bad : Option ℕ
    pub parsed : IsParsed (lines_of c.script) lines bad
    pub moves : List Move
    pub last : World
    pub run : Run tariffs tariff rules rule (start lines bad s) moves last
    pub counted : Counted moves last c.old c.new
    pub prints : Prints c.whole last c.before c.after
    pub leaves : after ≡ down last.store

  -- Or it did nothing and printed nothing, which its status says.
  abbrev pub LeadsTo : State → Invocation → State → Type 0
  LeadsTo s c after = RunsFrom s c after ⊎ ((after ≡ s) × (c.whole ≡ false) × (c.new ≡ c.old) × (c.after ≡ c.before))

  -- They lead from state to state.
  abbrev pub Lead : State → List Invocation → Type 0
  Lead s [] = Unit {0}
  Lead s (c ∷ later) = (after : State) × LeadsTo s c after × Lead after later

  -- THE LAW: from new devices on, invocations lead from state to state of one store, which begins without a filestore. What lies on the devices
  -- need not be known.
  abbrev pub InvocationsLead : Type 0
  InvocationsLead = (n : ℕ) (labels : List (ℕ × ℕ)) (d : Devices) (all : List Invocation) → 2177 < n → AreNew n labels d → AreInOrder d all
      → (s : State) × (s.holding ≡ None) × Lead s all
