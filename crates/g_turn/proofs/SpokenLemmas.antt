-- What the lines read say, and the effect of a command after conditions.
-- serves: +behind_conditions (met), any_verb, read_line (reading, well)
use Rattle.std.proofs.Common.{◌≡◌, ◌∙◌, ℕ, Bool, true, false, List, [], ◌∷◌, Option, Some, None, Result, Ok, Err, IfSome, option_map, if◌then◌else◌, refl, sym, ap, subst}
use Rattle.std.proofs.lemmas.Bool.{false≢true}
use Rattle.g_turn.specs.Commands.{command, done_if}
use Rattle.g_turn.specs.LineMeaning.{IsReadWell, IsSpoken, Met, is_wanting, read_as}
use Rattle.g_turn.specs.State.{Work}
use Rattle.g_lang.specs.Lines.{IsReading, IsWritten, LineSaid, Said, SaidIf, WrittenGoto, WrittenIf, WrittenVerb, WrittenWhenever, Written, said_by}
use Rattle.g_lang.specs.LineReader.{reading}
use Rattle.g_lang.specs.Meaning.{IsReadAs, Reads, command_said, line_said, said_inside}
use Rattle.g_lang.specs.declared.fault.LangFault.{LangFault}
use Rattle.g_lang.specs.declared.fault.LangFault.TheVariants as lang
use Rattle.g_lang.specs.declared.line.Command.{Command}
use Rattle.g_lang.specs.declared.line.Command.TheVariants.{Blank, Goto, If', Verb, Whenever}
use Rattle.g_lang.specs.declared.line.Cond.{Cond}
use Rattle.g_lang.specs.declared.line.Line.{Line}
use Rattle.g_macro.specs.Levels.{holds}
use Rattle.g_plain.specs.Programs.{Gives}
use Rattle.g_verbs.specs.Verbs.{IsActionRead}
use Rattle.g_verbs.specs.declared.action.Action.{Action}
use Rattle.g_verbs.specs.declared.fault.VerbFault.{VerbFault}
use Rattle.g_verbs.specs.declared.fault.VerbFault.TheVariants.{BadParameter}

spoken_of : (w : Written) → IsWritten w → IsSpoken (said_by w)
spoken_of (WrittenGoto label) is = tt
spoken_of (WrittenIf cond inner) is = spoken_of inner is.1
spoken_of (WrittenWhenever cond inner) is = (inner, is.1, refl)
spoken_of (WrittenVerb [] gap parts) is = absurd (false≢true is.0)
spoken_of (WrittenVerb (letter ∷ name) gap parts) is = tt

option_spoken : (w : Option Written) → IfSome w IsWritten → IfSome (option_map said_by w) IsSpoken
option_spoken None is = tt
option_spoken (Some w) is = spoken_of w is

-- what a line that was read says
pub spoken_read : (text : List ℕ) (said : LineSaid) → IsReading text (Ok said) → IfSome said.command IsSpoken
spoken_read text said (l, is, same_text, same) = subst (λ (s : LineSaid). IfSome s.command IsSpoken) (sym same) (option_spoken l.command is.command)

pub read_said : (text : List ℕ) (r : Result Line LangFault) → IsReadAs (reading text) r → is_wanting r ≡ false → reading text ≡ read_as r
read_said text (Ok line) is some = is
read_said text (Err (lang.BadLine place)) is some = is
read_said text (Err lang.NoMemory) is some = absurd (false≢true (sym some))

pub read_well : (text : List ℕ) (r : Result Line LangFault) → Reads text r → IsReadWell r
read_well text (Ok line) is = spoken_read text (line_said line) is
read_well text (Err fault) is = tt

-- a command after a condition isn't blank
not_blank : (inner : Command) → IsSpoken (said_inside inner) → (room : ℕ) (who : List ℕ) (by : Bool) (w : Work)
    → command room who by (said_inside inner) w ≡ done_if room who by (command_said inner) w
not_blank Blank is room who by w = absurd is
not_blank (If' cond p inner) is room who by w = refl
not_blank (Goto label) is room who by w = refl
not_blank (Whenever cond text) is room who by w = refl
not_blank (Verb name rest) is room who by w = refl

-- the condition holds
pub met_holds : (whole : Command) (inner : Command) (cond : Cond) (w : Work) (r : Option Command) → command_said whole ≡ Some (SaidIf cond (said_inside inner))
    → IsSpoken (said_inside inner) → holds w.desk.levels cond w.desk.outcome ≡ true → Met inner w r → Met whole w r
met_holds whole inner cond w None is spoken on met = λ room who by.
    ap (λ (s : Option Said). done_if room who by s w) is
    ∙ ap (λ (b : Bool). if b then command room who by (said_inside inner) w else Gives w) on ∙ not_blank inner spoken room who by w ∙ met room who by
met_holds whole inner cond w (Some other) is spoken on met = (
  met.0,
  (λ room who by.
      ap (λ (s : Option Said). done_if room who by s w) is
      ∙ ap (λ (b : Bool). if b then command room who by (said_inside inner) w else Gives w) on ∙ not_blank inner spoken room who by w ∙ met.1 room who by),
)

-- the index in the refusal of a verb, for any way to extract it
pub index_read : (index : VerbFault → ℕ) → ((n : ℕ) → index (BadParameter n) ≡ n) → (asked : Result Action ℕ) (fault : VerbFault) → IsActionRead asked (Err fault) → asked ≡ Err (index fault)
index_read index is asked (BadParameter n) read = read ∙ ap (λ (m : ℕ). let r : Result Action ℕ = Err m in r) (sym (is n))
