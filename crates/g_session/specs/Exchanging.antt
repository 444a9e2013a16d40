-- ONE EXCHANGE of a session: what is done for a reply, and what is known after it. Internal: public contracts cite `Session` only.
use Rattle.std.specs.Prelude.{◌≡◌, ◌⊎◌, ◌+◌, ◌≤◌, ℕ, Bool, List, [], ◌∷◌, Option, Some, None, length}
use Rattle.std.specs.Fn.{Shared}
use denote.Ref.{Bor}
use Rattle.g_base.specs.Counts.{Rose}
use Rattle.g_rules.specs.declared.tariff.Charge.{Charge}
use Rattle.g_rules.specs.declared.tariff.Usage.{Usage}
use Rattle.g_console.specs.Transcript.{End, Failed, Transcript}
use Rattle.g_rules.specs.declared.rule.Standing.{Standing}
use Rattle.g_script.specs.declared.operator.Timed.{Timed}
use Rattle.g_store_model.specs.State.{State}
use Rattle.g_run_model.specs.Devices.{Devices}
use Rattle.g_run_model.specs.World.{World}
use Rattle.g_day.specs.declared.progress.Failure.{Failure}
use Rattle.g_day.specs.declared.progress.Failure.TheVariants as failures
use Rattle.g_day.specs.BeginningAnew.{IsBlank, beside}
use Rattle.g_day.specs.Parts.{Matches, Seen}
use Rattle.g_day.specs.Puts.{Puts, PutsBy}
use Rattle.g_day.specs.System.{SystemFacts}
use Rattle.g_ticks.specs.Parts.{IsTimedWithin, Keeps}
use Rattle.g_typing.specs.declared.item.ItemReader.{ItemReader}
use Rattle.g_typing.specs.declared.item.Reply.{Reply}
use Rattle.g_typing.specs.declared.item.Reply.TheVariants as reply
use Rattle.g_typing.specs.declared.query.Query.{Query}
use Rattle.g_laws_sessions.specs.Session.{IsAnswer, or_else, refusal_line}
use Rattle.g_session.specs.Parts.{Broken, Stands}
use Rattle.g_session.specs.Session.{LastWas}
use Rattle.g_session.specs.Taking.{DidRestAndTell, DidTake, RestsAndTells, TakesItem}
use Rattle.g_session.specs.declared.exchange.Course.{Course}
use Rattle.g_session.specs.declared.exchange.Course.TheVariants as course

abbrev pub failure_of : Course → Option Failure
failure_of (course.Breaks failure) = Some failure
failure_of other = None

-- the answer to a question, in any world that matches what is at hand
abbrev pub AnswersIn : Query → Seen → List ℕ → Type 0
AnswersIn q old text = (w : World) → Matches w old → IsAnswer q w text

-- and in any world that matches it with a new disc in place of a blank one
pub record AnswersBoth (q : Query) (old : Seen) (text : List ℕ) : Type 0 where
  pub here : AnswersIn q old text
  pub aside : IsBlank old.system → AnswersIn q (beside old) text

abbrev pub course_after : Option Failure → Course
course_after None = course.Goes
course_after (Some failure) = course.Breaks failure

-- what an item asks for is within its limits
abbrev pub IsReplyWithin : Reply → Type 0
IsReplyWithin (reply.Item next timed) = IsTimedWithin next
IsReplyWithin other = Unit {0}

-- an item is written to the log
abbrev pub LogsReply : Reply → List ℕ → Option Failure → Option (List ℕ) → Option (List ℕ) → ℕ → ℕ → Type 0
LogsReply (reply.Item next timed) text failure before after old new = Puts failure text before after old new
LogsReply other text failure before after old new = (failure ≡ None) × (after ≡ before) × (new ≡ old)

-- the first line that was refused, after this reply
abbrev pub bad_after : Reply → ℕ → Option ℕ → Option ℕ
bad_after reply.Refused number bad = or_else bad (Some number)
bad_after other number bad = bad

-- the counts of faults of console and log rise only with a failure of their own
abbrev pub CourseCause : Course → ℕ → ℕ → ℕ → ℕ → Type 0
CourseCause course.Fails old new log log' = Rose old new × (log' ≡ log)
CourseCause (course.Breaks failures.Output) old new log log' = (Rose old new × (log' ≡ log)) ⊎ ((new ≡ old) × Rose log log')
CourseCause other old new log log' = (new ≡ old) × (log' ≡ log)

-- no more lines come, or a request failed: that was the last request
abbrev pub HasEnded : Course → Option Transcript → Type 0
HasEnded course.Ends transcript = (t : Transcript) → transcript ≡ Some t → LastWas End t
HasEnded course.Fails transcript = (t : Transcript) → transcript ≡ Some t → LastWas Failed t
HasEnded course.Goes transcript = ⊥
HasEnded (course.Breaks failure) transcript = Unit {0}

-- what holds of all devices after at most one line
pub record KeepsOne (old : Seen) (c : Course) (new : Seen) : Type 0 where
  pub done : List Timed
  pub few : length done ≤ 1
  pub from : ℕ
  pub to : ℕ
  pub keeps : Keeps done old (failure_of c) new from to

module _ {F U : Type 0} (tariffs : Shared F (Bor Usage × Unit {0}) Charge) (tariff : F) (rules : Shared U (Bor Standing × Unit {0}) ℕ) (rule : U) where
  -- WHAT IS DONE for a reply to the line of this number
  abbrev pub DidReply : Reply → ℕ → Seen → Option Failure → Seen → Option (List ℕ) → Option (List ℕ) → ℕ → ℕ → Type 0
  DidReply (reply.Item next timed) number old failure new before after faults faults' = DidTake tariffs tariff rules rule timed next old failure new before after faults faults'
  DidReply reply.Rest number old failure new before after faults faults' = DidRestAndTell tariffs tariff rules rule old failure new before after faults faults'
  DidReply (reply.Asked q) number old failure new before after faults faults' = (new ≡ old) × ((text : List ℕ) × AnswersBoth q old text × Puts failure text before after faults faults')
  DidReply reply.Refused number old failure new before after faults faults' = (new ≡ old) × Puts failure (refusal_line number) before after faults faults'
  DidReply other number old failure new before after faults faults' = (failure ≡ None) × (new ≡ old) × (after ≡ before) × (faults' ≡ faults)

  -- the moves and the text of that
  abbrev pub ReplyGoes : (SystemFacts → Type 0) → Reply → ℕ → Seen → Option Failure → Seen → Option (List ℕ) → Option (List ℕ) → Type 0
  ReplyGoes Safe (reply.Item next timed) number old failure new before after = TakesItem tariffs tariff rules rule Safe timed next old failure new before after
  ReplyGoes Safe reply.Rest number old failure new before after = RestsAndTells tariffs tariff rules rule Safe old failure new before after
  ReplyGoes Safe (reply.Asked q) number old failure new before after = (new ≡ old) × ((text : List ℕ) × AnswersIn q old text × PutsBy failure text before after)
  ReplyGoes Safe reply.Refused number old failure new before after = (new ≡ old) × PutsBy failure (refusal_line number) before after
  ReplyGoes Safe other number old failure new before after = (failure ≡ None) × (new ≡ old) × (after ≡ before)

  pub record DidAnswer (reply : Reply) (number : ℕ) (old : Seen) (c : Course) (new : Seen) (before after : Option (List ℕ)) (faults faults' : ℕ) : Type 0 where
    pub failure : Option Failure
    pub goes_on : c ≡ course_after failure
    pub did : DidReply reply number old failure new before after faults faults'

  -- WHAT IS KNOWN AFTER AN EXCHANGE, if the line had this number
  abbrev pub AfterExchange : State → Bool → Devices → Option Transcript → Option (List ℕ) → Course → Option ℕ → Seen → ItemReader → ℕ → Option Transcript → Option (List ℕ) → Type 0
  AfterExchange s real old from log0 course.Goes bad seen reader number transcript log = (done : List Timed) × Stands tariffs tariff rules rule s real old done bad seen reader (number + 1) [] from transcript log0 log
  AfterExchange s real old from log0 (course.Breaks failure) bad seen reader number transcript log = Broken tariffs tariff rules rule s real old seen.system from transcript log0 log
  AfterExchange s real old from log0 other bad seen reader number transcript log =
      HasEnded other transcript × ((done : List Timed) × Stands tariffs tariff rules rule s real old done bad seen reader number [] from transcript log0 log)
