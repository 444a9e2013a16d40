-- How a line brings the system up: which line, what the store is then and what is printed, and what a refusal leaves.
use Rattle.std.specs.Prelude.{◌≡◌, ◌⊎◌, ◌++◌, ℕ, List, Option, Result, IfOk, codes}
use Rattle.std.specs.Fmt.{decimal}
use Rattle.g_disc.specs.Disc.{DiscState}
use Rattle.g_tape.specs.Rack.{Rack}
use Rattle.g_plain.specs.declared.faults.StoreFault.{StoreFault}
use Rattle.g_plain.specs.declared.faults.StoreFault.TheVariants as faults
use Rattle.g_store_meaning.specs.StoreInvariant.{StoreFacts}
use Rattle.g_store_meaning.specs.Surviving.{DumpsMadeSafe}
use Rattle.g_store.specs.Making.{Begun, Formats, RefusesFormat, RefusesRestore, RefusesStart, Restored}
use Rattle.g_script.specs.declared.operator.Operator.{Operator}
use Rattle.g_script.specs.declared.operator.Operator.TheVariants as line
use Rattle.g_run_model.specs.Texts.{started_text}
use Rattle.g_operator.specs.declared.rising.Rise.{Rise}
use Rattle.g_operator.specs.declared.rising.Rise.TheVariants as rise

-- The operator's line for each way of bringing the system up.
abbrev pub line_of : Rise → Operator
line_of rise.Format = line.Format
line_of rise.Start = line.Start
line_of rise.Restore = line.Restore

-- This store resulted, and, if there was memory for a text, this text reports it. START and RESTORE made the rack durable.
abbrev pub Raises : {E : Type 0} → Rise → DiscState → Rack → StoreFacts → Result (List ℕ) E → Type 0
Raises rise.Format disc rack store made = Formats disc rack store × IfOk made (λ text. text ≡ codes "FORMATTED")
Raises rise.Start disc rack store made = (adopted : Option ℕ) × Begun disc rack adopted store × DumpsMadeSafe rack store.rack × IfOk made (λ text. text ≡ started_text adopted)
Raises rise.Restore disc rack store made = (number : ℕ) × Restored disc rack number store × DumpsMadeSafe rack store.rack × IfOk made (λ text. text ≡ codes "RESTORED FROM DUMP " ++ decimal number)

-- No store resulted. START and RESTORE made the rack durable before they wrote the disc.
abbrev pub RefusesRise : Rise → DiscState → Rack → StoreFault → DiscState → Rack → Type 0
RefusesRise rise.Format disc rack fault disc' rack' = RefusesFormat disc rack fault disc' rack'
RefusesRise rise.Start disc rack fault disc' rack' = RefusesStart disc rack fault disc' rack' × (fault ≡ faults.Stopped → DumpsMadeSafe rack rack')
RefusesRise rise.Restore disc rack fault disc' rack' = RefusesRestore disc rack fault disc' rack' × (fault ≡ faults.Stopped → DumpsMadeSafe rack rack')

-- No store resulted, perhaps because memory ran out before the attempt.
abbrev pub MakesNone : Rise → DiscState → Rack → StoreFault → DiscState → Rack → Type 0
MakesNone how disc rack fault disc' rack' =
    ((fault ≡ faults.NoMemory) × (disc' ≡ disc) × (rack' ≡ rack)) ⊎ RefusesRise how disc rack fault disc' rack'
