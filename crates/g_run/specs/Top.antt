-- THE TOP CALL: the cause of each status, and what holds with it.
use Rattle.std.specs.Prelude.{◌≡◌, ◌⊎◌, ◌<◌, ℕ, Bool, true, false, List, Option, Some, None, length}
use Rattle.std.specs.Fn.{Shared}
use denote.Ref.{Bor}
use Rattle.g_base.specs.Counts.{Rose}
use Rattle.g_rules.specs.declared.tariff.Charge.{Charge}
use Rattle.g_rules.specs.declared.tariff.Usage.{Usage}
use Rattle.g_rules.specs.declared.rule.Standing.{Standing}
use Rattle.g_demo.specs.declared.demonstration.Demonstration.{Demonstration}
use Rattle.g_io.specs.Streams.{with_more}
use Rattle.g_lines.specs.Lines.{lines_of}
use Rattle.g_script.specs.Script.{IsParsed}
use Rattle.g_script.specs.declared.operator.Timed.{Timed}
use Rattle.g_store_model.specs.State.{State}
use Rattle.g_run_model.specs.Devices.{Devices, StandFor}
use Rattle.g_run_model.specs.Moves.{Move}
use Rattle.g_run_model.specs.Top.{EndsShort, EndsWhole, IsCut, RunOf, words_line}
use Rattle.g_run_model.specs.World.{World}
use Rattle.g_laws_runs.specs.BeginningAnew.{AreBlank, BeginAnew, NoDiscFault, with_new_disc}
use Rattle.g_day.specs.declared.progress.Failure.{Failure}
use Rattle.g_day.specs.declared.progress.Failure.TheVariants as failures
use Rattle.g_day.specs.Puts.{HasGrown}
use Rattle.g_day.specs.System.{BelongTogether, SameDevices}
use Rattle.g_run.specs.Demo.{PutsDemo}
use Rattle.g_ticks.specs.Parts.{IsOther}
use Rattle.g_run.specs.declared.status.Status.{Status}
use Rattle.g_run.specs.declared.status.Status.TheVariants.{Done, Words, BadScript, ScriptFault, OutputFault, NoMemory, TooLong}

-- WHAT A STATUS SAYS of a call
pub record Meaning : Type 0 where
  -- its number, the exit status of the program
  pub code : ℕ
  -- whether this status occurs for words that request nothing, for the word `run`, and for a script that is too long
  pub of_words : Bool
  pub of_run : Bool
  pub of_long : Bool
  -- whether it occurs with known words, a script that isn't too long, and no fault of source or sink
  pub complete : Bool
  -- the script was read whole and done to its end, or to its first bad line
  pub through : Bool
  -- the count of faults of the source rose; that of the sink
  pub source_rose : Bool
  pub sink_rose : Bool

abbrev pub meaning : Status → Meaning
meaning Done = record { code = 0; of_words = false; of_run = true; of_long = false; complete = true; through = true; source_rose = false; sink_rose = false }
meaning Words = record { code = 1; of_words = true; of_run = false; of_long = false; complete = false; through = false; source_rose = false; sink_rose = false }
meaning (BadScript line) = record { code = 2; of_words = false; of_run = true; of_long = false; complete = true; through = true; source_rose = false; sink_rose = false }
meaning ScriptFault = record { code = 3; of_words = false; of_run = true; of_long = true; complete = false; through = false; source_rose = true; sink_rose = false }
meaning OutputFault = record { code = 4; of_words = true; of_run = true; of_long = false; complete = false; through = false; source_rose = false; sink_rose = true }
meaning NoMemory = record { code = 5; of_words = true; of_run = true; of_long = true; complete = true; through = false; source_rose = false; sink_rose = false }
meaning TooLong = record { code = 6; of_words = false; of_run = true; of_long = true; complete = false; through = false; source_rose = false; sink_rose = false }

abbrev pub code_of : Status → ℕ
code_of status = (meaning status).code

abbrev pub Holds : Bool → Type 0
Holds true = Unit {0}
Holds false = ⊥

-- a count rose, or is unchanged
abbrev pub RisesIf : Bool → ℕ → ℕ → Type 0
RisesIf true old new = Rose old new
RisesIf false old new = new ≡ old

-- the fault counters of source and sink rise only with their own statuses
abbrev pub SourceCause : Status → ℕ → ℕ → Type 0
SourceCause status old new = RisesIf (meaning status).source_rose old new

abbrev pub SinkCause : Status → ℕ → ℕ → Type 0
SinkCause status old new = RisesIf (meaning status).sink_rose old new

abbrev pub IsThrough : Status → Type 0
IsThrough status = Holds (meaning status).through

abbrev pub IsOfWords : Status → Type 0
IsOfWords status = Holds (meaning status).of_words

abbrev pub IsOfRun : Status → Type 0
IsOfRun status = Holds (meaning status).of_run

abbrev pub IsNotDone : Status → Type 0
IsNotDone status = Holds (meaning status).of_long

abbrev pub IsComplete : Status → Type 0
IsComplete status = Holds (meaning status).complete

-- memory ran out, which never happens with words that request nothing
abbrev pub IsForMemory : Status → Type 0
IsForMemory status = status ≡ NoMemory

-- if the status says that nothing was done, both devices are unchanged, and at most the line of unknown words was printed
abbrev pub IsQuiet : Status → Devices → Devices → Option (List ℕ) → Option (List ℕ) → Type 0
IsQuiet Words old new before after = (new ≡ old) × (after ≡ with_more before words_line)
IsQuiet ScriptFault old new before after = (new ≡ old) × (after ≡ before)
IsQuiet TooLong old new before after = (new ≡ old) × (after ≡ before)
IsQuiet status old new before after = Unit {0}

module _ {F U : Type 0} (tariffs : Shared F (Bor Usage × Unit {0}) Charge) (tariff : F) (rules : Shared U (Bor Standing × Unit {0}) ℕ) (rule : U) where
  -- WHAT HOLDS WITH EACH STATUS of a run, if the source exposed that it had these bytes left
  abbrev pub EndsAs : Status → List ℕ → Devices → Devices → Option (List ℕ) → Option (List ℕ) → Type 0
  EndsAs Done left old new before after = (lines : List Timed) × IsParsed (lines_of left) lines None × EndsWhole tariffs tariff rules rule lines None old new before after
  EndsAs (BadScript line) left old new before after =
      (lines : List Timed) × IsParsed (lines_of left) lines (Some line) × EndsWhole tariffs tariff rules rule lines (Some line) old new before after
  EndsAs OutputFault left old new before after = IsCut tariffs tariff rules rule left old new before after
  EndsAs NoMemory left old new before after = IsCut tariffs tariff rules rule left old new before after
  EndsAs TooLong left old new before after = 16777216 < length left
  EndsAs status left old new before after = Unit {0}

  -- A script that was read, done to its end or as far as a failure lets it
  abbrev pub EndsBy : Option Failure → List Timed → Option ℕ → Devices → Devices → Option (List ℕ) → Option (List ℕ) → Type 0
  EndsBy None lines bad old new before after = EndsWhole tariffs tariff rules rule lines bad old new before after
  EndsBy (Some failure) lines bad old new before after = EndsShort tariffs tariff rules rule lines bad old new before after

  -- WHAT HOLDS WITH EACH STATUS of a demonstration; no other status occurs
  abbrev pub EndsDemo : Status → Demonstration → Option (List ℕ) → Option (List ℕ) → Type 0
  EndsDemo Done demo before after = PutsDemo tariffs tariff rules rule None demo before after
  EndsDemo OutputFault demo before after = PutsDemo tariffs tariff rules rule (Some failures.Output) demo before after
  EndsDemo NoMemory demo before after = PutsDemo tariffs tariff rules rule (Some failures.Memory) demo before after
  EndsDemo status demo before after = ⊥

-- STARTING OVER: apart from MOUNT, UNMOUNT and STOP, the first line of the script is a FORMAT; the devices expose their contents, and no reel holds
-- anything. The disc may hold anything.
pub record BeginsAnew (left : List ℕ) (old : Devices) : Type 0 where
  pub lines : List Timed
  pub bad : Option ℕ
  pub parsed : IsParsed (lines_of left) lines bad
  pub begin : BeginAnew lines
  pub blank : AreBlank old

module _ {F U : Type 0} (tariffs : Shared F (Bor Usage × Unit {0}) Charge) (tariff : F) (rules : Shared U (Bor Standing × Unit {0}) ℕ) (rule : U) where
  -- A FORMAT TOOK EFFECT: the run is one from the state of a new disc with the same reels, and disc and rack belong together at its end.
  pub record Took (status : Status) (left : List ℕ) (old new : Devices) (before after : Option (List ℕ)) : Type 0 where
    pub ends : EndsAs tariffs tariff rules rule status left (with_new_disc old) new before after
    pub together : BelongTogether new

  -- NONE DID, and only MOUNT, UNMOUNT and STOP were done: from its first state to its last the run is one with a new disc, and the devices are still
  -- blank. If the script was done to its end, its FORMAT failed at the disc, which counted the failure.
  pub record NoneDid (status : Status) (left : List ℕ) (old new : Devices) (before after : Option (List ℕ)) : Type 0 where
    pub ends : EndsAs tariffs tariff rules rule status left (with_new_disc old) (with_new_disc new) before after
    pub blank : AreBlank new
    pub unwell : IsThrough status → NoDiscFault old new → ⊥

  -- NONE DID, and the run reached a line of another kind, on what the disc held or an interrupted FORMAT left. Up to that line the run is one with a
  -- new disc, in which each FORMAT failed at the disc, which counted it; the text begins with that run's. Nothing is known of what was done after that.
  pub record Missed (lines : List Timed) (bad : Option ℕ) (s : State) (old new : Devices) (before after : Option (List ℕ)) : Type 0 where
    pub moves : List Move
    pub last : World
    pub mid : Devices
    pub run_of : RunOf tariffs tariff rules rule lines bad s (with_new_disc old) (with_new_disc mid) moves last
    pub down : last.store.up ≡ false
    pub other : IsOther last.lines
    pub blank : AreBlank mid
    pub unwell : NoDiscFault old mid → ⊥
    pub same : SameDevices mid new
    pub text : HasGrown (with_more before last.text) after

  abbrev pub HasMissed : List Timed → Option ℕ → Devices → Devices → Option (List ℕ) → Option (List ℕ) → Type 0
  HasMissed lines bad old new before after = (s : State) → StandFor (with_new_disc old) s → Missed lines bad s old new before after

  -- HOW A RUN TO BEGIN ANEW ENDS, with each status
  abbrev pub EndsAnew : Status → List ℕ → Devices → Devices → Option (List ℕ) → Option (List ℕ) → Type 0
  EndsAnew status left old new before after = Took status left old new before after
      ⊎ (NoneDid status left old new before after ⊎ ((lines : List Timed) × (bad : Option ℕ) × IsParsed (lines_of left) lines bad × HasMissed lines bad old new before after))

-- the status of a run, from its first bad line and its failure
abbrev pub status_of : Option ℕ → Option Failure → Status
status_of bad (Some failures.Output) = OutputFault
status_of bad (Some failures.Memory) = NoMemory
status_of (Some line) None = BadScript line
status_of None None = Done

abbrev pub words_status : Option Failure → Status
words_status None = Words
words_status (Some failures.Output) = OutputFault
words_status (Some failures.Memory) = NoMemory

abbrev pub demo_status : Option Failure → Status
demo_status None = Done
demo_status (Some failures.Output) = OutputFault
demo_status (Some failures.Memory) = NoMemory
