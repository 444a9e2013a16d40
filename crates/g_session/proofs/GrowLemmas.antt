-- A transcript that grows: more lines were typed, and more text was printed.
-- serves: AnewLemmas, OverallLemmas
use Rattle.std.proofs.Common.{◌≡◌, ◌⊎◌, ◌++◌, ℕ, List, [], ◌∷◌, Option, Some, None, option_map, length, append_assoc, append-nil, refl, sym, ◌∙◌, ap, inl, inr}
use Rattle.std.specs.Fn.{Shared}
use Rattle.std.proofs.lemmas.List.Concat.{flat_map-append}
use denote.Ref.{Bor}
use Rattle.g_rules.specs.declared.tariff.Charge.{Charge}
use Rattle.g_rules.specs.declared.tariff.Usage.{Usage}
use Rattle.g_rules.specs.declared.rule.Standing.{Standing}
use Rattle.g_console.specs.Transcript.{Continues, Line, Request, Transcript, Typed, line_in, lines_typed, written_of}
use Rattle.g_store_model.specs.State.{State}
use Rattle.g_day.specs.declared.progress.Failure.{Failure}
use Rattle.g_day.specs.Parts.{Seen}
use Rattle.g_day.specs.Puts.{HasGrown}
use Rattle.g_day.proofs.PutLemmas.{puts_grown, same_grown}
use Rattle.g_run.specs.ScriptEnd.{ClosesBy}
use Rattle.g_typing.specs.declared.item.Reply.{Reply}
use Rattle.g_typing.specs.declared.item.Reply.TheVariants as reply
use Rattle.g_session.specs.Ending.{DidOpen}
use Rattle.g_session.specs.Exchanging.{DidReply, LogsReply}
use Rattle.g_session.specs.declared.exchange.Course.{Course}
use Rattle.g_session.specs.declared.exchange.Course.TheVariants as course
use Rattle.g_typing.specs.declared.item.Place.{Place}
use Rattle.g_typing.specs.declared.item.Place.TheVariants as place
use Rattle.g_session.proofs.AnswerLemmas.{asked_by}
use Rattle.g_session.proofs.StandsLemmas.{printed_by}

-- what a transcript was before
pub record Was (before : Option Transcript) (t : Transcript) : Type 0 where
  pub was : Transcript
  pub is : before ≡ Some was
  pub later : List (List ℕ)
  pub lines : lines_typed t.requests ≡ lines_typed was.requests ++ later
  pub more : List ℕ
  pub text : t.text ≡ was.text ++ more

abbrev pub Grows : Option Transcript → Option Transcript → Type 0
Grows before after = (t : Transcript) → after ≡ Some t → Was before t

pub grows_same : (before after : Option Transcript) → after ≡ before → Grows before after
grows_same before after same t is = record { was = t; is = sym same ∙ is; later = []; lines = sym (append-nil (lines_typed t.requests)); more = []; text = sym (append-nil t.text) }

-- only text was printed
pub grows_print : (before after : Option Transcript) → HasGrown (option_map written_of before) (option_map written_of after) → Grows before after
grows_print before after grown t is =
    let p = printed_by before grown.more t (ap (λ (a : Option Transcript). option_map written_of a) (sym is) ∙ grown.put) in record {
      was = p.was;
      is = p.is;
      later = [];
      lines = ap (λ (x : Transcript). lines_typed x.requests) p.only ∙ sym (append-nil (lines_typed p.was.requests));
      more = grown.more;
      text = ap (λ (x : Transcript). x.text) p.only;
    }

pub grows_then : (before middle after : Option Transcript) → Grows before middle → Grows middle after → Grows before after
grows_then before middle after first later t is =
    let b = later t is in
    let a = first b.was b.is in record {
      was = a.was;
      is = a.is;
      later = a.later ++ b.later;
      lines = b.lines ∙ ap (λ (ls : List (List ℕ)). ls ++ b.later) a.lines ∙ append_assoc (lines_typed a.was.requests) a.later b.later;
      more = a.more ++ b.more;
      text = b.text ∙ ap (λ (x : List ℕ). x ++ b.more) a.text ∙ append_assoc a.was.text a.more b.more;
    }

module _ {F U : Type 0} (tariffs : Shared F (Bor Usage × Unit {0}) Charge) (tariff : F) (rules : Shared U (Bor Standing × Unit {0}) ℕ) (rule : U) where
  -- a line was requested
  pub grows_ask : (s : State) (before : Option Transcript) (typed : Typed) (after : Option Transcript) → Continues before typed after → Grows before after
  grows_ask s before typed after continues t is =
      let a = asked_by tariffs tariff rules rule s before typed after t continues is in record {
        was = a.was;
        is = a.is;
        later = line_in typed ++ [];
        lines = ap (λ (x : Transcript). lines_typed x.requests) a.only
            ∙ flat_map-append (λ (q : Request). line_in q.typed) a.was.requests (record { printed = length a.was.text; typed = typed } ∷ []);
        more = [];
        text = ap (λ (x : Transcript). x.text) a.only ∙ sym (append-nil a.was.text);
      }

  pub grows_heard : (s : State) (before after : Option Transcript) → (after ≡ before) ⊎ ((line : List ℕ) × Continues before (Line line) after) → Grows before after
  grows_heard s before after (inl same) = grows_same before after same
  grows_heard s before after (inr (line, continues)) = grows_ask s before (Line line) after continues

  -- what a reply prints
  pub reply_grows : (answer : Reply) (number : ℕ) (old : Seen) (failure : Option Failure) (new : Seen) (before after : Option (List ℕ)) (faults faults' : ℕ)
      → DidReply tariffs tariff rules rule answer number old failure new before after faults faults' → HasGrown before after
  reply_grows (reply.Item next timed) number old failure new before after faults faults' did = did.grows
  reply_grows reply.Rest number old failure new before after faults faults' did = did.grows
  reply_grows (reply.Asked q) number old failure new before after faults faults' (same, (text, both, puts)) = puts_grown puts
  reply_grows reply.Refused number old failure new before after faults faults' (same, puts) = puts_grown puts
  reply_grows reply.More number old failure new before after faults faults' (none, same, quiet, still) = same_grown before after quiet
  reply_grows reply.SkippedAll number old failure new before after faults faults' (none, same, quiet, still) = same_grown before after quiet

-- what the log got
pub log_grows : (answer : Reply) (text : List ℕ) (failure : Option Failure) (before after : Option (List ℕ)) (faults faults' : ℕ) → LogsReply answer text failure before after faults faults' → HasGrown before after
log_grows (reply.Item next timed) text failure before after faults faults' puts = puts_grown puts
log_grows reply.Rest text failure before after faults faults' (none, same, still) = same_grown before after same
log_grows (reply.Asked q) text failure before after faults faults' (none, same, still) = same_grown before after same
log_grows reply.Refused text failure before after faults faults' (none, same, still) = same_grown before after same
log_grows reply.More text failure before after faults faults' (none, same, still) = same_grown before after same
log_grows reply.SkippedAll text failure before after faults faults' (none, same, still) = same_grown before after same

-- what the end prints
pub closes_grows : (came : Option Failure) (text : List ℕ) (failure : Option Failure) (before after : Option (List ℕ)) (faults faults' : ℕ) → ClosesBy came text failure before after faults faults' → HasGrown before after
closes_grows None text failure before after faults faults' puts = puts_grown puts
closes_grows (Some came) text failure before after faults faults' (is, same, still) = same_grown before after same

pub open_grows : (c : Course) (p : Place) (bad : Option ℕ) (c' : Course) (bad' : Option ℕ) (before after : Option (List ℕ)) (faults faults' : ℕ) → DidOpen c p bad c' bad' before after faults faults' → HasGrown before after
open_grows (course.Breaks failure) p bad c' bad' before after faults faults' did = same_grown before after did.quiet
open_grows course.Goes place.Start bad c' bad' before after faults faults' did = same_grown before after did.quiet
open_grows course.Goes place.Skipped bad c' bad' before after faults faults' did = same_grown before after did.quiet
open_grows course.Goes (place.Document k) bad c' bad' before after faults faults' did = puts_grown did.puts
open_grows course.Ends place.Start bad c' bad' before after faults faults' did = same_grown before after did.quiet
open_grows course.Ends place.Skipped bad c' bad' before after faults faults' did = same_grown before after did.quiet
open_grows course.Ends (place.Document k) bad c' bad' before after faults faults' did = puts_grown did.puts
open_grows course.Fails place.Start bad c' bad' before after faults faults' did = same_grown before after did.quiet
open_grows course.Fails place.Skipped bad c' bad' before after faults faults' did = same_grown before after did.quiet
open_grows course.Fails (place.Document k) bad c' bad' before after faults faults' did = puts_grown did.puts
