-- PARTS OF A SESSION ON BLANK DEVICES: no FORMAT took effect, one did, or an item of another kind was typed before one did. Internal: public contracts cite
-- `Session` only.
use Rattle.std.specs.Prelude.{◌≡◌, ◌⊎◌, ◌+◌, ℕ, false, List, [], ◌∷◌, ◌++◌, Option, Some, None}
use Rattle.std.specs.Fn.{Shared}
use denote.Ref.{Bor}
use Rattle.g_rules.specs.declared.tariff.Charge.{Charge}
use Rattle.g_rules.specs.declared.tariff.Usage.{Usage}
use Rattle.g_console.specs.Transcript.{Transcript, blank, lines_typed}
use Rattle.g_rules.specs.declared.rule.Standing.{Standing}
use Rattle.g_io.specs.Streams.{with_more}
use Rattle.g_script.specs.Script.{WrittenItem, timed_said}
use Rattle.g_script.specs.declared.operator.Timed.{Timed}
use Rattle.g_store_model.specs.State.{State}
use Rattle.g_run_model.specs.Devices.{Devices}
use Rattle.g_run_model.specs.Top.{RunOf}
use Rattle.g_typing.specs.Typed.{IsTyped, When}
use Rattle.g_typing.specs.declared.item.ItemReader.{ItemReader}
use Rattle.g_laws_runs.specs.BeginningAnew.{AreBlank, BeginAnew, NoDiscFault, is_first, with_new_disc}
use Rattle.g_laws_sessions.specs.Session.{Comes, Exchanges, Moment, script_of, taken}
use Rattle.g_day.specs.BeginningAnew.{IsBlank, beside, beside_new}
use Rattle.g_day.specs.Parts.{Seen}
use Rattle.g_day.specs.Puts.{HasGrown}
use Rattle.g_day.specs.System.{SameDevices, SystemFacts, devices_in}
use Rattle.g_ticks.specs.Parts.{AreFirst}
use Rattle.g_session.specs.Ending.{AfterLines, AtEnd, RestsAtEnd}
use Rattle.g_session.specs.Exchanging.{AfterExchange, HasEnded}
use Rattle.g_session.specs.Parts.{Broken, Stands}
use Rattle.g_session.specs.declared.exchange.Course.{Course}
use Rattle.g_session.specs.declared.exchange.Course.TheVariants as course

-- NO FORMAT TOOK EFFECT among these lines
pub record NoneYet (old : Devices) (done : List Timed) (seen : Seen) : Type 0 where
  pub blank : IsBlank seen.system
  pub firsts : AreFirst done
  pub unwell : BeginAnew done → NoDiscFault old (devices_in seen.system) → ⊥
  pub same : SameDevices old (devices_in seen.system)

module _ {F U : Type 0} (tariffs : Shared F (Bor Usage × Unit {0}) Charge) (tariff : F) (rules : Shared U (Bor Standing × Unit {0}) ℕ) (rule : U) where
  -- AN ITEM OF ANOTHER KIND was typed while none had taken effect
  pub record Elsewhere (s : State) (old : Devices) (system : SystemFacts) (from transcript : Option Transcript) (log0 log : Option (List ℕ)) : Type 0 where
    pub said : Exchanges
    pub now : Moment
    pub comes : Comes tariffs tariff rules rule s said now
    pub mid : Devices
    pub run_of : RunOf tariffs tariff rules rule (taken said) None s (with_new_disc old) (with_new_disc mid) now.moves now.world
    pub was_blank : AreBlank mid
    pub unwell : BeginAnew (taken said) → NoDiscFault old mid → ⊥
    pub same : SameDevices mid (devices_in system)
    pub next : WrittenItem
    pub other : is_first (timed_said next).what ≡ false
    pub when : When
    pub typed : List (List ℕ)
    pub is_typed : IsTyped now.world.count next when typed
    pub lines : from ≡ Some blank → (t : Transcript) → transcript ≡ Some t → (later : List (List ℕ)) × (lines_typed t.requests ≡ now.lines ++ (typed ++ later))
    pub text : from ≡ Some blank → (t : Transcript) → transcript ≡ Some t → (more : List ℕ) × (t.text ≡ now.text ++ more)
    pub log_grows : HasGrown (with_more log0 (script_of said)) log

  -- BETWEEN TWO LINES, if no FORMAT took effect
  abbrev pub StandsAside : State → Devices → Option ℕ → Seen → ItemReader → ℕ → Option Transcript → Option Transcript → Option (List ℕ) → Option (List ℕ) → Type 0
  StandsAside s old bad seen reader number from transcript log0 log =
      (done : List Timed) × NoneYet old done seen × Stands tariffs tariff rules rule s false (with_new_disc old) done bad (beside seen) reader number [] from transcript log0 log

  -- and in each case
  abbrev pub StandsAnew : State → Devices → Option ℕ → Seen → ItemReader → ℕ → Option Transcript → Option Transcript → Option (List ℕ) → Option (List ℕ) → Type 0
  StandsAnew s old bad seen reader number from transcript log0 log = StandsAside s old bad seen reader number from transcript log0 log
      ⊎ (((done : List Timed) × Stands tariffs tariff rules rule s false (with_new_disc old) done bad seen reader number [] from transcript log0 log)
      ⊎ Elsewhere s old seen.system from transcript log0 log)

  -- CUT SHORT, if no FORMAT took effect
  abbrev pub BrokenAside : State → Devices → SystemFacts → Option Transcript → Option Transcript → Option (List ℕ) → Option (List ℕ) → Type 0
  BrokenAside s old system from transcript log0 log = IsBlank system × Broken tariffs tariff rules rule s false (with_new_disc old) (beside_new system) from transcript log0 log

  -- WHAT IS KNOWN AFTER AN EXCHANGE, if the line had this number and no FORMAT took effect
  abbrev pub AfterExchangeAside : State → Devices → Option Transcript → Option (List ℕ) → Course → Option ℕ → Seen → ItemReader → ℕ → Option Transcript → Option (List ℕ) → Type 0
  AfterExchangeAside s old from log0 course.Goes bad seen reader number transcript log = StandsAside s old bad seen reader (number + 1) from transcript log0 log
  AfterExchangeAside s old from log0 (course.Breaks failure) bad seen reader number transcript log = BrokenAside s old seen.system from transcript log0 log
  AfterExchangeAside s old from log0 other bad seen reader number transcript log = HasEnded other transcript × StandsAside s old bad seen reader number from transcript log0 log

  abbrev pub AfterExchangeAnew : State → Devices → Option Transcript → Option (List ℕ) → Course → Option ℕ → Seen → ItemReader → ℕ → Option Transcript → Option (List ℕ) → Type 0
  AfterExchangeAnew s old from log0 c bad seen reader number transcript log = AfterExchangeAside s old from log0 c bad seen reader number transcript log
      ⊎ (AfterExchange tariffs tariff rules rule s false (with_new_disc old) from log0 c bad seen reader number transcript log
      ⊎ Elsewhere s old seen.system from transcript log0 log)

  -- ALL LINES THAT CAME are answered
  abbrev pub AfterLinesAside : State → Devices → Option Transcript → Option (List ℕ) → Course → Option ℕ → Seen → ItemReader → ℕ → Option Transcript → Option (List ℕ) → Type 0
  AfterLinesAside s old from log0 (course.Breaks failure) bad seen reader number transcript log = BrokenAside s old seen.system from transcript log0 log
  AfterLinesAside s old from log0 other bad seen reader number transcript log = HasEnded other transcript × StandsAside s old bad seen reader number from transcript log0 log

  abbrev pub AfterLinesAnew : State → Devices → Option Transcript → Option (List ℕ) → Course → Option ℕ → Seen → ItemReader → ℕ → Option Transcript → Option (List ℕ) → Type 0
  AfterLinesAnew s old from log0 c bad seen reader number transcript log = AfterLinesAside s old from log0 c bad seen reader number transcript log
      ⊎ (AfterLines tariffs tariff rules rule s false (with_new_disc old) from log0 c bad seen reader number transcript log
      ⊎ Elsewhere s old seen.system from transcript log0 log)

  -- an open document was refused, and the system ran until nothing could step
  abbrev pub RestsAside : State → Devices → Option Transcript → Option (List ℕ) → Course → Option ℕ → Seen → Option Transcript → Option (List ℕ) → Type 0
  RestsAside s old from log0 (course.Breaks failure) bad seen transcript log = BrokenAside s old seen.system from transcript log0 log
  RestsAside s old from log0 other bad seen transcript log =
      HasEnded other transcript × ((end : AtEnd tariffs tariff rules rule s false (with_new_disc old) from log0 bad (beside seen) transcript log) × NoneYet old end.done seen)

  abbrev pub RestsAnew : State → Devices → Option Transcript → Option (List ℕ) → Course → Option ℕ → Seen → Option Transcript → Option (List ℕ) → Type 0
  RestsAnew s old from log0 c bad seen transcript log = RestsAside s old from log0 c bad seen transcript log
      ⊎ (RestsAtEnd tariffs tariff rules rule s false (with_new_disc old) from log0 c bad seen transcript log
      ⊎ Elsewhere s old seen.system from transcript log0 log)
