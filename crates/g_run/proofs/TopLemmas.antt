-- The end of a run, complete or cut short, by its status.
-- serves: george (anew, arms, demo, ends, enough, quiet, survives, words), top, OverLemmas
use Rattle.std.proofs.Common.{◌≡◌, ◌⊎◌, ◌<◌, ◌∙◌, ℕ, List, Option, Some, None, length, refl, sym, ap, subst, inl, inr, arith}
use Rattle.std.specs.Fn.{Shared}
use denote.Ref.{Bor}
use Rattle.std.proofs.lemmas.List.{take_all}
use Rattle.g_rules.specs.declared.tariff.Charge.{Charge}
use Rattle.g_rules.specs.declared.tariff.Usage.{Usage}
use Rattle.g_rules.specs.declared.rule.Standing.{Standing}
use Rattle.g_io.specs.Streams.{HasPutPart, with_more}
use Rattle.g_lines.specs.Lines.{lines_of}
use Rattle.g_script.specs.Script.{IsParsed}
use Rattle.g_script.specs.declared.operator.Timed.{Timed}
use Rattle.g_script.proofs.OneReading.{reading_unique}
use Rattle.g_laws_store.proofs.StateLemmas.{have_states}
use Rattle.g_store_model.specs.CallStep.{down}
use Rattle.g_store_model.specs.State.{State}
use Rattle.g_run_model.proofs.StandLemmas.{read_as}
use Rattle.g_run_model.specs.Devices.{Devices, StandFor}
use Rattle.g_run_model.specs.Top.{AreArmings, IsCutWords, Survives, SurvivesSoFar, words_line}
use Rattle.g_laws_runs.specs.BeginningAnew.{AreBlank, BeginAnew, with_new_disc}
use Rattle.g_laws_runs.proofs.FreshLemmas.{emptied_stand}
use Rattle.g_day.specs.declared.progress.Failure.{Failure}
use Rattle.g_day.specs.declared.progress.Failure.TheVariants as failures
use Rattle.g_demo.specs.Words.{IsDemonstration, demo_words}
use Rattle.g_demo.specs.declared.demonstration.Demonstration.{Demonstration}
use Rattle.g_demo.specs.declared.words.Asked.TheVariants as asked
use Rattle.g_demo.proofs.WordLemmas.{one_reading}
use Rattle.g_day.specs.Puts.{PutsBy}
use Rattle.g_day.specs.System.{BelongTogether}
use Rattle.g_run.specs.declared.status.Status.{Status}
use Rattle.g_run.specs.declared.status.Status.TheVariants.{NoMemory, ScriptFault, TooLong}
use Rattle.g_run.specs.Demo.{PutsDemo}
use Rattle.g_run.specs.ScriptEnd.{EndsBeside}
use Rattle.g_run.specs.Top.{BeginsAnew, EndsAnew, EndsAs, EndsBy, EndsDemo, HasMissed, IsForMemory, IsQuiet, IsThrough, demo_status, status_of, words_status}

module _ {F U : Type 0} (tariffs : Shared F (Bor Usage × Unit {0}) Charge) (tariff : F) (rules : Shared U (Bor Standing × Unit {0}) ℕ) (rule : U) where
  pub ends_as : (bad : Option ℕ) (failure : Option Failure) (left : List ℕ) (lines : List Timed) (old new : Devices) (before after : Option (List ℕ)) →
      IsParsed (lines_of left) lines bad → EndsBy tariffs tariff rules rule failure lines bad old new before after → EndsAs tariffs tariff rules rule (status_of bad failure) left old new before after
  ends_as bad (Some failures.Output) left lines old new before after parsed ends = inr (lines, bad, parsed, ends)
  ends_as bad (Some failures.Memory) left lines old new before after parsed ends = inr (lines, bad, parsed, ends)
  ends_as (Some line) None left lines old new before after parsed ends = (lines, parsed, ends)
  ends_as None None left lines old new before after parsed ends = (lines, parsed, ends)

went_through : (bad : Option ℕ) (failure : Option Failure) → IsThrough (status_of bad failure) → failure ≡ None
went_through bad None went = refl
went_through bad (Some failures.Output) went = absurd went
went_through bad (Some failures.Memory) went = absurd went

-- TO BEGIN ANEW
module _ {F U : Type 0} (tariffs : Shared F (Bor Usage × Unit {0}) Charge) (tariff : F) (rules : Shared U (Bor Standing × Unit {0}) ℕ) (rule : U) where
  -- the devices belong together at the end, since a new disc with emptied reels represents a state
  belongs_anew : (failure : Option Failure) (lines : List Timed) (bad : Option ℕ) (old new : Devices) (before after : Option (List ℕ)) → 2177 < old.disc.size → AreBlank old
      → EndsBy tariffs tariff rules rule failure lines bad (with_new_disc old) new before after → BelongTogether new
  belongs_anew None lines bad old new before after more blank ends =
      let there = emptied_stand have_states old more blank.emptied in
      let behind = ends there.state there.stands in
      let stands = read_as new (down behind.last.store) behind.run_of.stands in record { told = stands.told; belong = stands.belong }
  belongs_anew (Some failure) lines bad old new before after more blank ends =
      let there = emptied_stand have_states old more blank.emptied in
      let behind = ends there.state there.stands in
      let stands = read_as new (down behind.last.store) behind.run_of.stands in record { told = stands.told; belong = stands.belong }

  pub anew_as : (bad : Option ℕ) (failure : Option Failure) (left : List ℕ) (lines : List Timed) (old new : Devices) (before after : Option (List ℕ)) → IsParsed (lines_of left) lines bad → 2177 < old.disc.size
      → (BeginAnew lines → AreBlank old → EndsBeside tariffs tariff rules rule failure lines bad old new before after
      ⊎ (EndsBy tariffs tariff rules rule failure lines bad (with_new_disc old) new before after ⊎ HasMissed tariffs tariff rules rule lines bad old new before after))
      → BeginsAnew left old → EndsAnew tariffs tariff rules rule (status_of bad failure) left old new before after
  anew_as bad failure left lines old new before after parsed more ends begins =
      by (ends (subst BeginAnew (reading_unique 1 (lines_of left) begins.lines lines begins.bad bad begins.parsed parsed).0 begins.begin) begins.blank)
    where
      by : EndsBeside tariffs tariff rules rule failure lines bad old new before after
          ⊎ (EndsBy tariffs tariff rules rule failure lines bad (with_new_disc old) new before after ⊎ HasMissed tariffs tariff rules rule lines bad old new before after)
          → EndsAnew tariffs tariff rules rule (status_of bad failure) left old new before after
      by (inl none) = inr (inl (record {
        ends = ends_as tariffs tariff rules rule bad failure left lines (with_new_disc old) (with_new_disc new) before after parsed none.ends;
        blank = none.blank;
        unwell = λ through well. none.unwell (went_through bad failure through) well;
      }))
      by (inr (inl took)) = inl (record {
        ends = ends_as tariffs tariff rules rule bad failure left lines (with_new_disc old) new before after parsed took;
        together = belongs_anew failure lines bad old new before after more begins.blank took;
      })
      by (inr (inr missed)) = inr (inr (lines, bad, parsed, missed))

  -- where nothing was done
  anew_quiet : (status : Status) (left : List ℕ) (old : Devices) (before : Option (List ℕ)) → (IsThrough status → ⊥) → EndsAs tariffs tariff rules rule status left (with_new_disc old) (with_new_disc old) before before
      → BeginsAnew left old → EndsAnew tariffs tariff rules rule status left old old before before
  anew_quiet status left old before cut ends begins = inr (inl (record { ends = ends; blank = begins.blank; unwell = λ through well. cut through }))

  pub anew_unread : (left : List ℕ) (old : Devices) (before : Option (List ℕ)) → BeginsAnew left old → EndsAnew tariffs tariff rules rule ScriptFault left old old before before
  anew_unread left old before begins = anew_quiet ScriptFault left old before (λ e. e) tt begins

  pub anew_long : (left : List ℕ) (old : Devices) (before : Option (List ℕ)) → 16777216 < length left → BeginsAnew left old → EndsAnew tariffs tariff rules rule TooLong left old old before before
  anew_long left old before more begins = anew_quiet TooLong left old before (λ e. e) more begins

  pub anew_none : (left : List ℕ) (old : Devices) (before : Option (List ℕ)) → BeginsAnew left old → EndsAnew tariffs tariff rules rule NoMemory left old old before before
  anew_none left old before begins = anew_quiet NoMemory left old before (λ e. e) (inl (refl, refl)) begins

-- A POWER LOSS leaves a state that may be left after a run of the script; or nothing was done
module _ {F U : Type 0} (tariffs : Shared F (Bor Usage × Unit {0}) Charge) (tariff : F) (rules : Shared U (Bor Standing × Unit {0}) ℕ) (rule : U) where
  pub survives_as : (left : List ℕ) (lines : List Timed) (bad : Option ℕ) (old new : Devices) (before after : Option (List ℕ)) → IsParsed (lines_of left) lines bad
      → ((s : State) → StandFor old s → SurvivesSoFar tariffs tariff rules rule lines bad s old new before after) → Survives tariffs tariff rules rule left old new before after
  survives_as left lines bad old new before after parsed cut = inr (lines, bad, parsed, cut)

  pub survives_quiet : (left : List ℕ) (old : Devices) (before : Option (List ℕ)) → Survives tariffs tariff rules rule left old old before before
  survives_quiet left old before = inl (refl, refl)

-- the lines that were read are those of the script
pub arms_as : (left : List ℕ) (lines said : List Timed) (bad said_bad : Option ℕ) (failure : Option Failure) (old new : Devices) → IsParsed (lines_of left) said said_bad → IsParsed (lines_of left) lines bad
    → AreArmings said (failure ≡ None) old new → AreArmings lines (IsThrough (status_of said_bad failure)) old new
arms_as left lines said bad said_bad failure old new was is arms =
    subst (λ (ls : List Timed). AreArmings ls (IsThrough (status_of said_bad failure)) old new) (reading_unique 1 (lines_of left) said lines said_bad bad was is).0
    (record {
      disc = arms.disc;
      tape = arms.tape;
      all_disc = λ went. arms.all_disc (went_through said_bad failure went);
      all_tape = λ went. arms.all_tape (went_through said_bad failure went);
      disc_since = arms.disc_since;
      tape_since = arms.tape_since;
    })

-- all of a text is a part of it
pub whole_part : (before after : Option (List ℕ)) (text : List ℕ) → after ≡ with_more before text → HasPutPart before text after
whole_part before after text is = (length text, omega arith, is ∙ ap (λ (t : List ℕ). with_more before t) (sym (take_all (length text) text (omega arith))))

-- the line of unknown words is printed, whole or in part
pub cut_words : (failure : Option Failure) (d : Devices) (before after : Option (List ℕ)) → PutsBy failure words_line before after → IsCutWords d d before after
cut_words None d before after put = (refl, whole_part before after words_line put)
cut_words (Some failure) d before after put = (refl, put)

pub quiet_words : (failure : Option Failure) (d : Devices) (before after : Option (List ℕ)) → PutsBy failure words_line before after → IsQuiet (words_status failure) d d before after
quiet_words None d before after put = (refl, put)
quiet_words (Some failures.Output) d before after put = tt
quiet_words (Some failures.Memory) d before after put = tt

-- unknown words never lead to the status of exhausted memory
pub of_words : (failure : Option Failure) → (failure ≡ Some failures.Memory → ⊥) → IsForMemory (words_status failure) → ⊥
of_words None isnt is = let no : ⊥ = cc in no
of_words (Some failures.Output) isnt is = let no : ⊥ = cc in no
of_words (Some failures.Memory) isnt is = isnt refl

-- A DEMONSTRATION: which one the words name, and how it ended
pub one_demo : (one other : Demonstration) → IsDemonstration one → IsDemonstration other → demo_words one ≡ demo_words other → one ≡ other
one_demo one other is is_other same = by (one_reading (asked.Demo one) (asked.Demo other) is is_other same)
  where
    by : asked.Demo one ≡ asked.Demo other → one ≡ other
    by e = cc

module _ {F U : Type 0} (tariffs : Shared F (Bor Usage × Unit {0}) Charge) (tariff : F) (rules : Shared U (Bor Standing × Unit {0}) ℕ) (rule : U) where
  pub demo_ends : (failure : Option Failure) (demo : Demonstration) (before after : Option (List ℕ)) → PutsDemo tariffs tariff rules rule failure demo before after
      → EndsDemo tariffs tariff rules rule (demo_status failure) demo before after
  demo_ends None demo before after puts = puts
  demo_ends (Some failures.Output) demo before after puts = puts
  demo_ends (Some failures.Memory) demo before after puts = puts

  -- of the demonstration that was found, and so of the one that the words name
  pub demo_found : (words : List (List ℕ)) (found named : Demonstration) → IsDemonstration found → IsDemonstration named → words ≡ demo_words found → words ≡ demo_words named
      → (failure : Option Failure) (d : Devices) (before after : Option (List ℕ)) → PutsDemo tariffs tariff rules rule failure found before after
      → (d ≡ d) × EndsDemo tariffs tariff rules rule (demo_status failure) named before after
  demo_found words found named is is_named are name failure d before after puts =
      (refl, subst (λ (it : Demonstration). EndsDemo tariffs tariff rules rule (demo_status failure) it before after) (one_demo found named is is_named (sym are ∙ name)) (demo_ends failure found before after puts))
