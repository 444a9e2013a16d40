-- Between two lines of a session: one exchange more, with nothing left to reply to.
-- serves: BrokenLemmas, EndLemmas, EndingLemmas, GrowLemmas, ReplyLemmas
use Rattle.std.proofs.Common.{◌≡◌, ◌⊎◌, ◌+◌, ◌≤◌, ◌++◌, ℕ, Bool, List, [], ◌∷◌, All, Option, Some, None, option_map, length, append_assoc, append-nil, refl, sym, ◌∙◌, ap, subst, inl, inr, arith}
use Rattle.std.specs.Fn.{Shared}
use Rattle.std.proofs.lemmas.List.{length-append}
use denote.Ref.{Bor}
use Rattle.g_rules.specs.declared.tariff.Charge.{Charge}
use Rattle.g_rules.specs.declared.tariff.Usage.{Usage}
use Rattle.g_rules.specs.declared.rule.Standing.{Standing}
use Rattle.g_console.specs.Transcript.{Transcript, blank, lines_typed, printing, written_of}
use Rattle.g_console.proofs.TranscriptLemmas.{only_printed}
use Rattle.g_io.specs.Streams.{with_more}
use Rattle.g_script.specs.declared.operator.Timed.{Timed}
use Rattle.g_store_model.specs.State.{State}
use Rattle.g_run_model.specs.Devices.{Devices}
use Rattle.g_day.specs.Parts.{Seen}
use Rattle.g_typing.specs.Reader.{Holds, HoldsAt, StaysIn, is_skipped}
use Rattle.g_typing.specs.declared.item.ItemReader.{ItemReader}
use Rattle.g_typing.specs.declared.item.Place.{Place}
use Rattle.g_typing.specs.declared.item.Place.TheVariants as place
use Rattle.g_laws_sessions.specs.Session.{AlwaysAnswers}
use Rattle.g_session.specs.Parts.{Stands}
use Rattle.g_session.proofs.AnswerLemmas.{ArePrinted, answers_print, printed_print}
use Rattle.g_session.proofs.SoFarLemmas.{Next}

-- A CONSOLE that exposes its transcript after some text exposed it before, and only that was printed
pub record Printed (before : Option Transcript) (more : List ℕ) (now : Transcript) : Type 0 where
  pub was : Transcript
  pub is : before ≡ Some was
  pub only : now ≡ printing more was

pub printed_by : (before : Option Transcript) (more : List ℕ) (now : Transcript) → (let after : Option Transcript = Some now in option_map written_of after ≡ with_more (option_map written_of before) more) → Printed before more now
printed_by None more now e = absurd (let no : ⊥ = cc in no)
printed_by (Some was) more now e =
    let same : written_of now ≡ written_of was ++ more = cc in record { was = was; is = refl; only = only_printed was now more same }

module _ {F U : Type 0} (tariffs : Shared F (Bor Usage × Unit {0}) Charge) (tariff : F) (rules : Shared U (Bor Standing × Unit {0}) ℕ) (rule : U) where
  pub stands_next : (s : State) (real : Bool) (old : Devices) (done done' : List Timed) (bad bad' : Option ℕ) (seen new : Seen) (r r' : ItemReader) (number : ℕ) (line : List ℕ) (skips : Bool) (from before after : Option Transcript)
      (log0 log log' : Option (List ℕ)) (st : Stands tariffs tariff rules rule s real old done bad seen r number (line ∷ []) from before log0 log)
      → Next tariffs tariff rules rule s real old done' bad' new log0 log' st.so_far.now (st.pending ++ line ∷ []) skips (option_map written_of before) (option_map written_of after)
      → Holds new.count [] r' → skips ≡ is_skipped r'.place → ((k : ℕ) → r'.place ≡ place.Document k → ⊥)
      → Stands tariffs tariff rules rule s real old done' bad' new r' (number + 1) [] from after log0 log'
  stands_next s real old done done' bad bad' seen new r r' number line skips from before after log0 log log' st n holds skipped no_job = record {
    so_far = n.so_far;
    going = n.going;
    pending = [];
    holds = holds;
    skipping = n.skipping ∙ skipped;
    job = λ k is. absurd (no_job k is);
    number_is =
        let is : number ≡ length st.so_far.now.lines + length st.pending + 1 = st.number_is in
        let all : length n.so_far.now.lines ≡ length (st.so_far.now.lines ++ (st.pending ++ line ∷ [])) = ap length n.lines_are in
        let one : length (st.so_far.now.lines ++ (st.pending ++ line ∷ [])) ≡ length st.so_far.now.lines + length (st.pending ++ line ∷ []) = length-append st.so_far.now.lines (st.pending ++ line ∷ []) in
        let two : length (st.pending ++ line ∷ []) ≡ length st.pending + 1 = length-append st.pending (line ∷ []) in omega (arith, is, all, one, two);
    lines = λ fresh t is.
        let p = by t is in
        ap (λ (x : Transcript). lines_typed x.requests) p.only ∙ st.lines fresh p.was p.is ∙ sym n.lines_are ∙ sym (append-nil n.so_far.now.lines);
    text = λ fresh t is.
        let p = by t is in
        ap (λ (x : Transcript). x.text) p.only ∙ ap (λ (x : List ℕ). x ++ n.added) (st.text fresh p.was p.is) ∙ sym n.text;
    answers = λ fresh t is.
        let p = by t is in
        subst (λ (x : Transcript). AlwaysAnswers tariffs tariff rules rule s x) (sym p.only) (answers_print tariffs tariff rules rule s p.was n.added (st.printed fresh p.was p.is) (st.answers fresh p.was p.is));
    printed = λ fresh t is.
        let p = by t is in
        subst (λ (x : Transcript). ArePrinted x) (sym p.only) (printed_print p.was n.added (st.printed fresh p.was p.is));
  }
    where
      by : (t : Transcript) → after ≡ Some t → Printed before n.added t
      by t is = printed_by before n.added t (ap (λ (a : Option Transcript). option_map written_of a) (sym is) ∙ n.put)

  -- a line of a document, and nothing is printed
  pub stands_more : (s : State) (real : Bool) (old : Devices) (done : List Timed) (bad : Option ℕ) (seen : Seen) (r r' : ItemReader) (number : ℕ) (line : List ℕ) (from transcript : Option Transcript) (log0 log : Option (List ℕ))
      → (st : Stands tariffs tariff rules rule s real old done bad seen r number (line ∷ []) from transcript log0 log)
      → Holds seen.count (st.pending ++ line ∷ []) r' → StaysIn r.place number st.pending r'.place
      → Stands tariffs tariff rules rule s real old done bad seen r' (number + 1) [] from transcript log0 log
  stands_more s real old done bad seen r r' number line from transcript log0 log st holds stays = record {
    so_far = st.so_far;
    going = st.going;
    pending = st.pending ++ line ∷ [];
    holds = holds;
    skipping = st.skipping ∙ skips_as stays;
    job = job_by stays;
    number_is =
        let is : number ≡ length st.so_far.now.lines + length st.pending + 1 = st.number_is in
        let two : length (st.pending ++ line ∷ []) ≡ length st.pending + 1 = length-append st.pending (line ∷ []) in omega (arith, is, two);
    lines = λ fresh t is. st.lines fresh t is ∙ ap (λ (ls : List (List ℕ)). st.so_far.now.lines ++ ls) (sym (append-nil (st.pending ++ line ∷ [])));
    text = st.text;
    answers = st.answers;
    printed = st.printed;
  }
    where
      skips_as : StaysIn r.place number st.pending r'.place → is_skipped r.place ≡ is_skipped r'.place
      skips_as (inl same) = ap is_skipped (sym same)
      skips_as (inr (begins, now)) = ap is_skipped begins ∙ ap is_skipped (sym now)

      same_number : (k : ℕ) → place.Document number ≡ place.Document k → number ≡ k
      same_number k e = cc

      none_held : (p : Place) → p ≡ place.Start → HoldsAt p seen.count st.pending r → st.pending ≡ []
      none_held place.Start is held = held
      none_held (place.Document k) is held = absurd (let no : ⊥ = cc in no)
      none_held place.Skipped is held = absurd (let no : ⊥ = cc in no)

      job_by : StaysIn r.place number st.pending r'.place → (k : ℕ) → r'.place ≡ place.Document k → k ≡ length st.so_far.now.lines + 1
      job_by (inl same) k is = st.job k (sym same ∙ is)
      job_by (inr (begins, now)) k is =
          let same : number ≡ k = same_number k (sym now ∙ is) in
          let at : number ≡ length st.so_far.now.lines + length st.pending + 1 = st.number_is in
          let none : length st.pending ≡ 0 = ap length (none_held r.place begins st.holds) in omega (arith, same, at, none)
