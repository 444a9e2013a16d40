-- A line that is a GOTO.
-- serves: run_document_line (err, ok)
use Rattle.std.proofs.Common.{Bool, Err, List, Ok, Option, Result, Some, ap, false, refl, subst, sym, ℕ, ◌∙◌, ◌≡◌}
use Rattle.g_lang.specs.LineReader.{reading}
use Rattle.g_lang.specs.Lines.{Reading, Said}
use Rattle.g_lang.specs.declared.fault.LangFault.{LangFault}
use Rattle.g_lang.specs.declared.line.Line.{Line}
use Rattle.g_macro.specs.Levels.{current, line_of_label}
use Rattle.g_plain.specs.Programs.{Answer, Asks, Gives, RanInPart, and_then}
use Rattle.g_plain.specs.declared.calls.StoreCall.{StoreCall}
use Rattle.g_turn.specs.Commands.{done_if, gone}
use Rattle.g_turn.specs.LineMeaning.{SaysGoto, read_as}
use Rattle.g_turn.specs.Lines.{behind_echo, does_line, line, may_fire, says_line}
use Rattle.g_turn.specs.Outcomes.{is_over}
use Rattle.g_turn.specs.State.{Work}
use Rattle.g_turn.specs.Steps.{RanWell}
use Rattle.g_turn.proofs.WellThen.{part_then, well_then}

module _ (room : ℕ) (who : List ℕ) where
  -- the work of the line, and of the WHENEVER after it
  abbrev pub Goes : List ℕ → Work → Asks Work
  Goes label w = and_then is_over (Gives (gone room (line_of_label label (current w.desk.levels).lines) w)) (may_fire room who)

  does : (read : Result Line LangFault) (label : List ℕ) (w : Work) → SaysGoto read label
      → does_line room who (read_as read) w ≡ Gives (gone room (line_of_label label (current w.desk.levels).lines) w)
  does (Ok l) label w is = ap (λ (said : Option Said). done_if room who false said w) is
  does (Err fault) label w is = absurd is

  echoed : (text label : List ℕ) (read : Result Line LangFault) (w : Work) → reading text ≡ read_as read → SaysGoto read label → behind_echo room who text w ≡ Goes label w
  echoed text label read w same is =
      ap (λ (r : Reading). and_then is_over (does_line room who r w) (may_fire room who)) same
      ∙ ap (λ (p : Asks Work). and_then is_over p (may_fire room who)) (does read label w is)

  module _ {S : Type 0} (answers : S → List ℕ → StoreCall → Answer → S → Type 0) (is_spent : S → Bool) (can_wait : S → ℕ → Bool) where
    -- the line was executed
    pub goes : (text label : List ℕ) (read : Result Line LangFault) (w v given : Work) (old new : S) → v ≡ says_line room text w → is_over v ≡ false
        → reading text ≡ read_as read → SaysGoto read label → RanWell answers is_spent can_wait who old (Goes label v) given new
        → RanWell answers is_spent can_wait who old (line room who text w) given new
    goes text label read w v given old new said over same is did =
        well_then answers is_spent can_wait who (Gives (says_line room text w)) (behind_echo room who text) old old new v given (said, refl) over
        (subst (λ (p : Asks Work). RanWell answers is_spent can_wait who old p given new) (sym (echoed text label read v same is)) did)

    -- the line ran out of memory on its way
    pub goes_part : (text label : List ℕ) (read : Result Line LangFault) (w v : Work) (old new : S) → v ≡ says_line room text w → is_over v ≡ false
        → reading text ≡ read_as read → SaysGoto read label → RanInPart answers who old (Goes label v) new → RanInPart answers who old (line room who text w) new
    goes_part text label read w v old new said over same is did =
        part_then answers is_spent can_wait who (Gives (says_line room text w)) (behind_echo room who text) old old new v (said, refl) over
        (subst (λ (p : Asks Work). RanInPart answers who old p new) (sym (echoed text label read v same is)) did)
