-- The text of a demonstration, and its summary put.
-- serves: demo_run, run_demo (put)
use Rattle.std.proofs.Common.{◌≡◌, ℕ, List, [], ◌∷◌, Option, Some, None, refl, ap, subst, inr}
use Rattle.std.specs.Fn.{Shared}
use denote.Ref.{Bor}
use Rattle.g_rules.specs.declared.tariff.Charge.{Charge}
use Rattle.g_rules.specs.declared.tariff.Usage.{Usage}
use Rattle.g_rules.specs.declared.rule.Standing.{Standing}
use Rattle.g_demo.specs.Summary.{summary_of, summary_text}
use Rattle.g_demo.specs.declared.demonstration.Demonstration.{Demonstration}
use Rattle.g_demo.specs.Script.{script_text}
use Rattle.g_disc.specs.Memory as disc
use Rattle.g_disc.specs.Memory.{blank}
use Rattle.g_lines.specs.Lines.{lines_of}
use Rattle.g_script.specs.Script.{IsParsed}
use Rattle.g_script.specs.declared.operator.Timed.{Timed}
use Rattle.g_tape.specs.Memory.{IsEmptyRack, Memory}
use Rattle.g_run_model.specs.Devices.{Devices}
use Rattle.g_run_model.specs.Top.{EndsWhole}
use Rattle.g_day.specs.declared.progress.Failure.{Failure}
use Rattle.g_day.specs.Puts.{PutsBy}
use Rattle.g_run.specs.Demo.{IsDemoText, PutsDemo}
use Rattle.g_run.specs.ScriptEnd.{both}

module _ {F U : Type 0} (tariffs : Shared F (Bor Usage × Unit {0}) Charge) (tariff : F) (rules : Shared U (Bor Standing × Unit {0}) ℕ) (rule : U) where
  pub puts_demo : (demo : Demonstration) (text : List ℕ) → IsDemoText tariffs tariff rules rule demo text → (failure : Option Failure) (before after : Option (List ℕ))
      → PutsBy failure (summary_text demo (summary_of text)) before after → PutsDemo tariffs tariff rules rule failure demo before after
  puts_demo demo text is None before after put = (text, is, put)
  puts_demo demo text is (Some failure) before after put = inr (text, is, put)

  -- what was run, over what, and to where
  pub demo_text_is : (demo : Demonstration) (text : List ℕ) (lines : List Timed) (bad : Option ℕ) (d : disc.Memory) (tapes : Memory) (new : Devices) (before : List ℕ)
      → IsParsed (lines_of (script_text demo.number demo.rounds)) lines bad → d ≡ blank 4096 → IsEmptyRack ((1, 8192) ∷ []) tapes → before ≡ []
      → EndsWhole tariffs tariff rules rule lines bad (both d.disc tapes.rack) new (Some before) (Some text) → IsDemoText tariffs tariff rules rule demo text
  demo_text_is demo text lines bad d tapes new before parsed blank_is empty none ends = record {
    old = both d.disc tapes.rack;
    new = new;
    fresh = record { memory = tapes; disc = ap (λ (m : disc.Memory). m.disc) blank_is; rack = refl; empty = empty };
    lines = lines;
    bad = bad;
    parsed = parsed;
    ends = subst (λ (t : List ℕ). EndsWhole tariffs tariff rules rule lines bad (both d.disc tapes.rack) new (Some t) (Some text)) none ends;
  }
