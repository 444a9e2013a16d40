-- How a run ends.
use Rattle.std.specs.Prelude.{◌≡◌, ◌⊎◌, ◌≤◌, ℕ, true, List, [], ◌∷◌, ◌++◌, codes, Option}
use Rattle.g_base.specs.Fuse.{Arms, IsArmedBy, IsArmedWithin}
use Rattle.g_disc.specs.Disc.{IsFused as IsDisc}
use Rattle.g_tape.specs.Rack.{IsFused as IsRack}
use Rattle.g_lines.specs.Lines.{lines_of, ended}
use Rattle.g_script.specs.Script.{IsParsed}
use Rattle.g_script.specs.declared.operator.Operator.{Operator}
use Rattle.std.specs.Fn.{Shared}
use denote.Ref.{Bor}
use Rattle.g_rules.specs.declared.tariff.Usage.{Usage}
use Rattle.g_rules.specs.declared.tariff.Charge.{Charge}
use Rattle.g_rules.specs.declared.rule.Standing.{Standing}
use Rattle.g_io.specs.Streams.{with_more, HasPutPart}
use Rattle.g_store_model.specs.State.{State}
use Rattle.g_run_model.specs.Devices.{Devices}
use Rattle.g_run_model.specs.Devices.{StandFor}
use Rattle.g_run_model.specs.Losses.{SurvivesLoss}
use Rattle.g_store_model.specs.CallStep.{down}
use Rattle.g_script.specs.declared.operator.Timed.{Timed}
use Rattle.g_run_model.specs.World.{World, start}
use Rattle.g_run_model.specs.Lines.{disc_arms, tape_arms}
use Rattle.g_run_model.specs.Moves.{Move, Run, Counted}

module _ {F U : Type 0} (tariffs : Shared F (Bor Usage × Unit {0}) Charge) (tariff : F) (rules : Shared U (Bor Standing × Unit {0}) ℕ) (rule : U) where
  -- Moves of a run, with the failures that the devices counted. Afterwards the devices represent the state of the last
  -- world; if that is up, they represent it as after a shutdown.
  pub record RunOf (lines : List Timed) (bad : Option ℕ) (s : State) (old new : Devices) (moves : List Move) (last : World) : Type 0 where
    pub run : Run tariffs tariff rules rule (start lines bad s) moves last
    pub counted : Counted moves last old new
    pub stands : StandFor new (down last.store)

  -- The run is over, and its text was written completely.
  pub record Ended (lines : List Timed) (bad : Option ℕ) (s : State) (old new : Devices) (before after : Option (List ℕ)) : Type 0 where
    pub moves : List Move
    pub last : World
    pub run_of : RunOf lines bad s old new moves last
    pub over : last.over ≡ true
    pub text : after ≡ with_more before last.text

  -- Some of its first events were done, and a prefix of their text was written.
  pub record CutShort (lines : List Timed) (bad : Option ℕ) (s : State) (old new : Devices) (before after : Option (List ℕ)) : Type 0 where
    pub moves : List Move
    pub last : World
    pub run_of : RunOf lines bad s old new moves last
    pub text : HasPutPart before last.text after

  -- For every state that the devices represent at the beginning. (If they expose their contents and belong together there
  -- is exactly one, which is down: `devices_have_one_state` of `g_laws_runs`.)
  abbrev pub EndsWhole : List Timed → Option ℕ → Devices → Devices → Option (List ℕ) → Option (List ℕ) → Type 0
  EndsWhole lines bad old new before after = (s : State) → StandFor old s → Ended lines bad s old new before after

  -- The same for a run that was cut short.
  abbrev pub EndsShort : List Timed → Option ℕ → Devices → Devices → Option (List ℕ) → Option (List ℕ) → Type 0
  EndsShort lines bad old new before after = (s : State) → StandFor old s → CutShort lines bad s old new before after

  -- The run was cut short with the word `run`: nothing was done and nothing written; or some of its events were done, and a
  -- prefix of their text was written.
  abbrev pub IsCut : List ℕ → Devices → Devices → Option (List ℕ) → Option (List ℕ) → Type 0
  IsCut left old new before after = ((new ≡ old) × (after ≡ before))
      ⊎ ((lines : List Timed) × (bad : Option ℕ) × IsParsed (lines_of left) lines bad × EndsShort lines bad old new before after)

module _ {F U : Type 0} (tariffs : Shared F (Bor Usage × Unit {0}) Charge) (tariff : F) (rules : Shared U (Bor Standing × Unit {0}) ℕ) (rule : U) where
  -- Some events of a run were done, and a prefix of their text was written. Whatever a power loss leaves then is a state that it may leave
  -- after these events.
  pub record SurvivesSoFar (lines : List Timed) (bad : Option ℕ) (s : State) (old new : Devices) (before after : Option (List ℕ)) : Type 0 where
    pub moves : List Move
    pub last : World
    pub run_of : RunOf tariffs tariff rules rule lines bad s old new moves last
    pub text : HasPutPart before last.text after
    pub left : SurvivesLoss tariffs tariff rules rule (start lines bad s) moves last old new

  -- WHAT A POWER LOSS LEAVES after the word `run`, with every status: nothing was done and nothing written; or, for every state that the devices
  -- represented, the text is that of events of a run, all of them or the first ones, and whatever is left is a state that may be left after them.
  abbrev pub Survives : List ℕ → Devices → Devices → Option (List ℕ) → Option (List ℕ) → Type 0
  Survives left old new before after = ((new ≡ old) × (after ≡ before))
      ⊎ ((lines : List Timed) × (bad : Option ℕ) × IsParsed (lines_of left) lines bad
      × ((s : State) → StandFor old s → SurvivesSoFar lines bad s old new before after))

-- The line that is printed if the words of the command line aren't known.
abbrev pub words_line : List ℕ
words_line = ended (codes "WORDS NOT KNOWN")

-- The run was cut short with other words, for any status: nothing was done, and a prefix of the one line was written.
abbrev pub IsCutWords : Devices → Devices → Option (List ℕ) → Option (List ℕ) → Type 0
IsCutWords old new before after = (new ≡ old) × HasPutPart before words_line after

-- The numbers with which some lines arm a device, in order.
abbrev pub numbers_of : (Operator → List ℕ) → List Timed → List ℕ
numbers_of arms [] = []
numbers_of arms (next ∷ lines) = arms next.what ++ numbers_of arms lines

-- If a device was armed, it was last armed at a count between these two.
abbrev pub IsArmedIn : ℕ → ℕ → Arms → Arms → Type 0
IsArmedIn from until old new = (new ≡ old) ⊎ ((from ≤ new.since) × (new.since ≤ until))

-- How the devices were armed, whether or not they expose their contents: each with the numbers of its STOP lines, in order
-- and up to some line, and with nothing else; in a complete run with each of them. Each was armed during this run, by its
-- own count: a disc's writes, the tapes' failed writes.
pub record AreArmings (lines : List Timed) (through : Type 0) (old new : Devices) : Type 0 where
  pub disc : IsArmedWithin (numbers_of disc_arms lines) old.disc.arms new.disc.arms
  pub tape : IsArmedWithin (numbers_of tape_arms lines) old.rack.arms new.rack.arms
  pub all_disc : through → IsArmedBy (numbers_of disc_arms lines) old.disc.arms new.disc.arms
  pub all_tape : through → IsArmedBy (numbers_of tape_arms lines) old.rack.arms new.rack.arms
  pub disc_since : IsArmedIn old.disc.writes new.disc.writes old.disc.arms new.disc.arms
  pub tape_since : IsArmedIn old.rack.write_faults new.rack.write_faults old.rack.arms new.rack.arms

-- The fuses, whether or not the devices expose their contents. The disc's is the last number that it was armed with, minus
-- all writes since, unless the write counter is saturated. That of the tapes is between 1 and that number, or it is gone,
-- and then a write has failed since.
abbrev pub AreFused : Devices → Type 0
AreFused d = IsDisc d.disc × IsRack d.rack
