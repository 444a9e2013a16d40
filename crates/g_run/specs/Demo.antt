-- A DEMONSTRATION: the script that is made for it is run over devices in memory, and the summary of its text is put.
use Rattle.std.specs.Prelude.{◌≡◌, ◌⊎◌, ℕ, List, [], ◌∷◌, Option, Some, None}
use Rattle.std.specs.Fn.{Shared}
use denote.Ref.{Bor}
use Rattle.g_rules.specs.declared.tariff.Charge.{Charge}
use Rattle.g_rules.specs.declared.tariff.Usage.{Usage}
use Rattle.g_demo.specs.Script.{script_text}
use Rattle.g_demo.specs.Summary.{summary_of, summary_text}
use Rattle.g_demo.specs.declared.demonstration.Demonstration.{Demonstration}
use Rattle.g_disc.specs.Memory.{blank}
use Rattle.g_io.specs.Streams.{HasPutPart, with_more}
use Rattle.g_lines.specs.Lines.{lines_of}
use Rattle.g_rules.specs.declared.rule.Standing.{Standing}
use Rattle.g_script.specs.Script.{IsParsed}
use Rattle.g_script.specs.declared.operator.Timed.{Timed}
use Rattle.g_tape.specs.Memory.{IsEmptyRack, Memory}
use Rattle.g_run_model.specs.Devices.{Devices}
use Rattle.g_run_model.specs.Top.{EndsWhole}
use Rattle.g_day.specs.declared.progress.Failure.{Failure}

-- a new disc of 4,096 blocks of zeros, and a rack of one reel, empty and not mounted, of serial 1 and capacity 8,192
pub record AreFresh (d : Devices) : Type 0 where
  pub memory : Memory
  pub disc : d.disc ≡ (blank 4096).disc
  pub rack : d.rack ≡ memory.rack
  pub empty : IsEmptyRack ((1, 8192) ∷ []) memory

module _ {F U : Type 0} (tariffs : Shared F (Bor Usage × Unit {0}) Charge) (tariff : F) (rules : Shared U (Bor Standing × Unit {0}) ℕ) (rule : U) where
  -- THE TEXT of a demonstration: that of a run of its script over fresh devices, to its end
  pub record IsDemoText (demo : Demonstration) (text : List ℕ) : Type 0 where
    pub old : Devices
    pub new : Devices
    pub fresh : AreFresh old
    pub lines : List Timed
    pub bad : Option ℕ
    pub parsed : IsParsed (lines_of (script_text demo.number demo.rounds)) lines bad
    pub ends : EndsWhole tariffs tariff rules rule lines bad old new (Some []) (Some text)

  -- its summary was put; or a front of it, or nothing
  abbrev pub PutsDemo : Option Failure → Demonstration → Option (List ℕ) → Option (List ℕ) → Type 0
  PutsDemo None demo before after = (text : List ℕ) × IsDemoText demo text × (after ≡ with_more before (summary_text demo (summary_of text)))
  PutsDemo (Some failure) demo before after =
      (after ≡ before) ⊎ ((text : List ℕ) × IsDemoText demo text × HasPutPart before (summary_text demo (summary_of text)) after)
