-- A session on blank devices: what is known after each exchange and at the end, while no FORMAT took effect, after one did, and after an item of another kind.
-- serves: answer_lines (anew), end_session (anew), exchange (anew), session_on, OverallLemmas
use Rattle.std.proofs.Common.{◌≡◌, ◌≢◌, ◌⊎◌, ◌+◌, ◌≤◌, ◌++◌, ℕ, Bool, true, false, List, [], ◌∷◌, All, Option, Some, None, Result, Ok, option_map, append_assoc, append-nil, refl, sym, ◌∙◌, ap, subst, inl, inr, arith}
use Rattle.std.specs.Fn.{Shared}
use Rattle.std.proofs.lemmas.List.Elements.{All-append, All-nil}
use denote.Ref.{Bor}
use Rattle.g_rules.specs.declared.tariff.Charge.{Charge}
use Rattle.g_rules.specs.declared.tariff.Usage.{Usage}
use Rattle.g_rules.specs.declared.rule.Standing.{Standing}
use Rattle.g_console.specs.Transcript.{Continues, End, Failed, Line, Transcript, written_of}
use Rattle.g_io.specs.Streams.{HasPutPart, with_more}
use Rattle.g_script.specs.Script.{timed_said}
use Rattle.g_script.specs.declared.operator.Timed.{Timed}
use Rattle.g_store_model.specs.State.{State}
use Rattle.g_run_model.specs.Devices.{Devices, StandFor}
use Rattle.g_laws_runs.specs.BeginningAnew.{AreBlank, BeginAnew, NoDiscFault, is_first, with_new_disc}
use Rattle.g_day.specs.declared.progress.Failure.{Failure}
use Rattle.g_day.specs.BeginningAnew.{IsBlank, beside, beside_new}
use Rattle.g_day.specs.Losses.{Never}
use Rattle.g_day.specs.Parts.{Seen}
use Rattle.g_day.specs.Puts.{HasGrown}
use Rattle.g_day.specs.System.{Down, SameDevices, SystemFacts, Up, devices_in}
use Rattle.g_day.proofs.LabelLemmas.{same_itself, same_then}
use Rattle.g_day.proofs.PutLemmas.{grown_then, same_grown}
use Rattle.g_ticks.specs.Parts.{AreAside, BeginsBy, NoneTook}
use Rattle.g_typing.specs.Reader.{Holds, IsComplete, Replies, when_of}
use Rattle.g_typing.specs.Typed.{IsTyped}
use Rattle.g_typing.specs.declared.item.ItemReader.{ItemReader}
use Rattle.g_typing.specs.declared.item.Place.TheVariants as place
use Rattle.g_typing.specs.declared.item.Reply.{Reply}
use Rattle.g_typing.specs.declared.item.Reply.TheVariants as reply
use Rattle.g_typing.proofs.AddLemmas.{end_follows}
use Rattle.g_laws_sessions.specs.Session.{script_of, taken}
use Rattle.g_laws_sessions.proofs.SessionLemmas.{reaches, run_here}
use Rattle.g_run.specs.ScriptEnd.{TakenDown}
use Rattle.g_run.proofs.AnewLemmas.{blank_devices, first_one, first_well, later_well, none_begin, one_more_line}
use Rattle.g_run.proofs.OverLemmas.{down_taken_down}
use Rattle.g_session.specs.Anew.{AfterExchangeAnew, AfterExchangeAside, AfterLinesAnew, AfterLinesAside, Elsewhere, NoneYet, RestsAnew, RestsAside, StandsAnew, StandsAside}
use Rattle.g_session.specs.Ending.{DidOpen, course_at_end, first_seen}
use Rattle.g_session.specs.Exchanging.{AfterExchange, DidReply, LogsReply, ReplyGoes, bad_after, course_after}
use Rattle.g_session.specs.Parts.{Stands}
use Rattle.g_session.specs.Taking.{DidRest, TakesItem}
use Rattle.g_session.specs.declared.exchange.Course.{Course}
use Rattle.g_session.specs.declared.exchange.Course.TheVariants as course
use Rattle.g_session.proofs.AnswerLemmas.{last_asked, stands_ask}
use Rattle.g_session.proofs.BrokenLemmas.{broken_short}
use Rattle.g_session.proofs.ClaimLemmas.{part_claimed}
use Rattle.g_session.proofs.EndLemmas.{down_run}
use Rattle.g_session.proofs.EndingLemmas.{AfterLinesOf, AfterOpenOf, Any, RestsOf, any_lines, open_done, rest_at_end, rests_any}
use Rattle.g_session.proofs.GrowLemmas.{Grows, grows_ask, grows_heard, grows_print, grows_then, log_grows, open_grows, reply_grows}
use Rattle.g_session.proofs.LinesLemmas.{lines_stop, rests_broken, stands_start}
use Rattle.g_session.proofs.ReplyLemmas.{HasLog, after_reply, done_after, has_log, replied_on, unheard, unlogged_by}

-- NO FORMAT TOOK EFFECT yet: before the first line
pub none_first : (old : Devices) → AreBlank old → NoneYet old [] (first_seen old)
none_first old blank = record {
  blank = blank;
  firsts = All-nil (λ (t : Timed). is_first t.what ≡ true);
  unwell = λ begin well. none_begin begin;
  same = same_itself old;
}

-- nothing more was taken
pub none_same : (old : Devices) (done : List Timed) (seen new : Seen) → NoneYet old done seen → IsBlank new.system → SameDevices (devices_in seen.system) (devices_in new.system) → NoneYet old done new
none_same old done seen new n blank same = record {
  blank = blank;
  firsts = n.firsts;
  unwell = λ begin well. n.unwell begin (first_well old (devices_in seen.system) (devices_in new.system) same well);
  same = same_then old (devices_in seen.system) (devices_in new.system) n.same same;
}

-- one more item was, and didn't take effect
pub none_more : (Goes : Seen → Type 0) (old : Devices) (done : List Timed) (next : Timed) (seen new : Seen) → NoneYet old done seen → is_first next.what ≡ true
    → NoneTook Goes (next ∷ []) seen None new → SameDevices (devices_in seen.system) (devices_in new.system) → NoneYet old (done ++ next ∷ []) new
none_more Goes old done next seen new n is u same = record {
  blank = u.blank;
  firsts = All-append (λ (t : Timed). is_first t.what ≡ true) done (next ∷ []) n.firsts (first_one next is);
  unwell = λ begin well. by well (one_more_line done next begin);
  same = same_then old (devices_in seen.system) (devices_in new.system) n.same same;
}
  where
    by : NoDiscFault old (devices_in new.system) → (AreAside done × BeginAnew (next ∷ [])) ⊎ BeginAnew done → ⊥
    by well (inl (aside, one)) = u.unwell refl one (later_well old (devices_in seen.system) (devices_in new.system) n.same well)
    by well (inr had) = n.unwell had (first_well old (devices_in seen.system) (devices_in new.system) same well)

-- a blank system, taken down with a new disc
down_beside : (f : SystemFacts) → IsBlank f → TakenDown (beside_new f) (with_new_disc (devices_in f))
down_beside (Up s) blank = absurd blank
down_beside (Down d) blank = down_taken_down (with_new_disc d)

module _ {F U : Type 0} (tariffs : Shared F (Bor Usage × Unit {0}) Charge) (tariff : F) (rules : Shared U (Bor Standing × Unit {0}) ℕ) (rule : U) (s : State) (old : Devices) (from : Option Transcript) (log0 : Option (List ℕ)) where
  -- AN ITEM OF ANOTHER KIND was typed, and then anything
  pub elsewhere_on : (f g : SystemFacts) (before after : Option Transcript) (log log' : Option (List ℕ)) → Elsewhere tariffs tariff rules rule s old f from before log0 log
      → Grows before after → HasGrown log log' → SameDevices (devices_in f) (devices_in g) → Elsewhere tariffs tariff rules rule s old g from after log0 log'
  elsewhere_on f g before after log log' e grows grown same = record {
    said = e.said;
    now = e.now;
    comes = e.comes;
    mid = e.mid;
    run_of = e.run_of;
    was_blank = e.was_blank;
    unwell = e.unwell;
    same = same_then e.mid (devices_in f) (devices_in g) e.same same;
    next = e.next;
    other = e.other;
    when = e.when;
    typed = e.typed;
    is_typed = e.is_typed;
    lines = λ fresh t is.
        let w = grows t is in
        let (later, all) = e.lines fresh w.was w.is in (
          later ++ w.later,
          w.lines ∙ ap (λ (ls : List (List ℕ)). ls ++ w.later) all ∙ append_assoc e.now.lines (e.typed ++ later) w.later
              ∙ ap (λ (ls : List (List ℕ)). e.now.lines ++ ls) (append_assoc e.typed later w.later),
        );
    text = λ fresh t is.
        let w = grows t is in
        let (more, all) = e.text fresh w.was w.is in (more ++ w.more, w.text ∙ ap (λ (x : List ℕ). x ++ w.more) all ∙ append_assoc e.now.text more w.more);
    log_grows = grown_then (with_more log0 (script_of e.said)) log log' e.log_grows grown;
  }

  pub elsewhere_here : (done : List Timed) (bad : Option ℕ) (seen : Seen) (g : SystemFacts) (r r' : ItemReader) (number : ℕ) (line : List ℕ) (before after : Option Transcript) (log log' : Option (List ℕ)) (next : Timed) (timed : Bool)
      → NoneYet old done seen → (st : Stands tariffs tariff rules rule s false (with_new_disc old) done bad (beside seen) r number (line ∷ []) from before log0 log)
      → IsComplete seen.count (st.pending ++ line ∷ []) next timed r' → is_first next.what ≡ false
      → Grows before after → HasGrown log log' → SameDevices (devices_in seen.system) (devices_in g) → Elsewhere tariffs tariff rules rule s old g from after log0 log'
  elsewhere_here done bad seen g r r' number line before after log log' next timed n st whole isnt grows grown same = record {
    said = st.so_far.said;
    now = st.so_far.now;
    comes = st.so_far.comes;
    mid = devices_in seen.system;
    run_of = down_run tariffs tariff rules rule (taken st.so_far.said) s (with_new_disc old) (beside_new seen.system) (with_new_disc (devices_in seen.system)) st.so_far.now.moves st.so_far.now.world
        (run_here tariffs tariff rules rule s st.so_far.said st.so_far.now (reaches tariffs tariff rules rule s st.so_far.said st.so_far.now st.so_far.comes))
        st.so_far.counted st.so_far.matches.stands (down_beside seen.system n.blank);
    was_blank = blank_devices seen.system n.blank;
    unwell = λ begin well. n.unwell (subst BeginAnew st.so_far.taken_is begin) well;
    same = same;
    next = whole.item;
    other = ap (λ (t : Timed). is_first t.what) (sym whole.said) ∙ isnt;
    when = when_of timed;
    typed = st.pending ++ line ∷ [];
    is_typed = subst (λ (k : ℕ). IsTyped k whole.item (when_of timed) (st.pending ++ line ∷ [])) (sym st.so_far.matches.count) whole.typed;
    lines = λ fresh t is.
        let w = grows t is in
        (w.later, w.lines ∙ ap (λ (ls : List (List ℕ)). ls ++ w.later) (st.lines fresh w.was w.is) ∙ append_assoc st.so_far.now.lines (st.pending ++ line ∷ []) w.later);
    text = λ fresh t is.
        let w = grows t is in (w.more, w.text ∙ ap (λ (x : List ℕ). x ++ w.more) (st.text fresh w.was w.is));
    log_grows = subst (λ (l : Option (List ℕ)). HasGrown l log') st.so_far.log_is grown;
  }

  module _ (done : List Timed) (bad : Option ℕ) (seen new : Seen) (r r' : ItemReader) (number : ℕ) (line : List ℕ) (before after : Option Transcript) (log log' : Option (List ℕ))
      (n : NoneYet old done seen) (st : Stands tariffs tariff rules rule s false (with_new_disc old) done bad (beside seen) r number (line ∷ []) from before log0 log)
      (grows : Grows before after) (grown : HasGrown log log') (same : SameDevices (devices_in seen.system) (devices_in new.system)) where
    -- none took effect
    aside : (answer : Reply) (failure : Option Failure) → (failure ≡ None → NoneYet old (done_after answer done) new) → IsBlank new.system
        → Replies r.place number seen.count st.pending line (Ok answer) r' → HasLog answer r'.text log log'
        → ReplyGoes tariffs tariff rules rule Never answer number (beside seen) failure (beside new) (option_map written_of before) (option_map written_of after)
        → AfterExchangeAnew tariffs tariff rules rule s old from log0 (course_after failure) (bad_after answer number bad) new r' number after log'
    aside answer None still blank_new replies logged goes = inl (
      done_after answer done,
      still refl,
      replied_on tariffs tariff rules rule s false (with_new_disc old) from log0 done bad (beside seen) (beside new) r r' number line before after log log' st answer None replies logged goes,
    )
    aside answer (Some failure) still blank_new replies logged goes = inl (
      blank_new,
      replied_on tariffs tariff rules rule s false (with_new_disc old) from log0 done bad (beside seen) (beside new) r r' number line before after log log' st answer (Some failure) replies logged goes,
    )

    -- one does
    took : (answer : Reply) (failure : Option Failure) → Replies r.place number seen.count st.pending line (Ok answer) r' → HasLog answer r'.text log log'
        → ReplyGoes tariffs tariff rules rule Never answer number (beside seen) failure new (option_map written_of before) (option_map written_of after)
        → AfterExchangeAnew tariffs tariff rules rule s old from log0 (course_after failure) (bad_after answer number bad) new r' number after log'
    took answer failure replies logged goes =
        inr (inl (after_reply tariffs tariff rules rule s false (with_new_disc old) from log0 done bad (beside seen) new r r' number line before after log log' st answer failure
        (replied_on tariffs tariff rules rule s false (with_new_disc old) from log0 done bad (beside seen) new r r' number line before after log log' st answer failure replies logged goes)))

    -- THE REPLY
    pub replied_aside : (answer : Reply) (failure : Option Failure) (faults faults' : ℕ) → Replies r.place number seen.count st.pending line (Ok answer) r' → HasLog answer r'.text log log'
        → DidReply tariffs tariff rules rule answer number seen failure new (option_map written_of before) (option_map written_of after) faults faults'
        → AfterExchangeAnew tariffs tariff rules rule s old from log0 (course_after failure) (bad_after answer number bad) new r' number after log'
    replied_aside (reply.Item next timed) failure faults faults' replies logged did = by (is_first next.what) refl
      where
        by : (b : Bool) → is_first next.what ≡ b → AfterExchangeAnew tariffs tariff rules rule s old from log0 (course_after failure) bad new r' number after log'
        by false isnt = inr (inr (elsewhere_here done bad seen new.system r r' number line before after log log' next timed n st replies.1 isnt grows grown same))
        by true is = first (did.first is n.blank)
          where
            first : BeginsBy (λ v. TakesItem tariffs tariff rules rule Never timed next (beside seen) failure v (option_map written_of before) (option_map written_of after)) (next ∷ []) seen failure new
                → AfterExchangeAnew tariffs tariff rules rule s old from log0 (course_after failure) bad new r' number after log'
            first (inl u) = aside (reply.Item next timed) failure (λ none. none_more (λ v. TakesItem tariffs tariff rules rule Never timed next (beside seen) failure v (option_map written_of before) (option_map written_of after)) old done next seen new n is
                (subst (λ (f : Option Failure). NoneTook (λ v. TakesItem tariffs tariff rules rule Never timed next (beside seen) failure v (option_map written_of before) (option_map written_of after)) (next ∷ []) seen f new) none u) same) u.blank replies logged u.goes
            first (inr goes) = took (reply.Item next timed) failure replies logged goes
    replied_aside reply.Rest failure faults faults' replies logged did =
        let (blank_new, goes) = did.aside n.blank in aside reply.Rest failure (λ none. none_same old done seen new n blank_new same) blank_new replies logged goes
    replied_aside (reply.Asked q) failure faults faults' replies logged (is, (text, both, puts)) =
        let blank_new = subst (λ (x : Seen). IsBlank x.system) (sym is) n.blank in
        aside (reply.Asked q) failure (λ none. none_same old done seen new n blank_new same) blank_new replies logged (ap beside is, (text, both.aside n.blank, puts.put))
    replied_aside reply.Refused failure faults faults' replies logged (is, puts) =
        let blank_new = subst (λ (x : Seen). IsBlank x.system) (sym is) n.blank in
        aside reply.Refused failure (λ none. none_same old done seen new n blank_new same) blank_new replies logged (ap beside is, puts.put)
    replied_aside reply.More failure faults faults' replies logged (none, is, quiet, still) =
        let blank_new = subst (λ (x : Seen). IsBlank x.system) (sym is) n.blank in
        aside reply.More failure (λ none. none_same old done seen new n blank_new same) blank_new replies logged (none, ap beside is, quiet)
    replied_aside reply.SkippedAll failure faults faults' replies logged (none, is, quiet, still) =
        let blank_new = subst (λ (x : Seen). IsBlank x.system) (sym is) n.blank in
        aside reply.SkippedAll failure (λ none. none_same old done seen new n blank_new same) blank_new replies logged (none, ap beside is, quiet)

  -- THE REPLY WAS DONE, in each case
  pub reply_anew : (c : Course) (bad bad' : Option ℕ) (seen new : Seen) (r r' r2 : ItemReader) (number : ℕ) (line : List ℕ) (start before after : Option Transcript) (log log' put put' : Option (List ℕ)) (answer : Reply) (failure : Option Failure)
      (faults faults' log_faults log_faults' : ℕ) → put ≡ option_map written_of before → put' ≡ option_map written_of after → Continues start (Line line) before
      → ((lines : List (List ℕ)) → Holds seen.count lines r → Replies r.place number seen.count lines line (Ok answer) r') → LogsReply answer r'.text None log log' log_faults log_faults'
      → DidReply tariffs tariff rules rule answer number seen failure new put put' faults faults' → SameDevices (devices_in seen.system) (devices_in new.system)
      → c ≡ course_after failure → bad' ≡ bad_after answer number bad → r2 ≡ r'
      → ((done : List Timed) → Stands tariffs tariff rules rule s false (with_new_disc old) done bad seen r number [] from start log0 log → AfterExchange tariffs tariff rules rule s false (with_new_disc old) from log0 c bad' new r2 number after log')
      → StandsAnew tariffs tariff rules rule s old bad seen r number from start log0 log → AfterExchangeAnew tariffs tariff rules rule s old from log0 c bad' new r2 number after log'
  reply_anew c bad bad' seen new r r' r2 number line start before after log log' put put' answer failure faults faults' log_faults log_faults' is is' continues replies logs did same c_is bad_is r_is on =
      by
    where
      did_here : DidReply tariffs tariff rules rule answer number seen failure new (option_map written_of before) (option_map written_of after) faults faults'
      did_here = subst (λ (a : Option (List ℕ)). DidReply tariffs tariff rules rule answer number seen failure new (option_map written_of before) a faults faults') is'
          (subst (λ (b : Option (List ℕ)). DidReply tariffs tariff rules rule answer number seen failure new b put' faults faults') is did)

      printed : Grows before after
      printed = grows_print before after (reply_grows tariffs tariff rules rule answer number seen failure new (option_map written_of before) (option_map written_of after) faults faults' did_here)

      logged : HasGrown log log'
      logged = log_grows answer r'.text None log log' log_faults log_faults' logs

      by : StandsAnew tariffs tariff rules rule s old bad seen r number from start log0 log → AfterExchangeAnew tariffs tariff rules rule s old from log0 c bad' new r2 number after log'
      by (inr (inl (done, st))) = inr (inl (on done st))
      by (inr (inr e)) = inr (inr (elsewhere_on seen.system new.system start after log log' e (grows_then start before after (grows_ask tariffs tariff rules rule s start (Line line) before continues) printed) logged same))
      by (inl (done, n, st)) =
          let st1 = stands_ask tariffs tariff rules rule s end_follows false (with_new_disc old) done bad (beside seen) r number (Line line) from start before log0 log st continues in
          subst (λ (k : Course). AfterExchangeAnew tariffs tariff rules rule s old from log0 k bad' new r2 number after log') (sym c_is)
          (subst (λ (b : Option ℕ). AfterExchangeAnew tariffs tariff rules rule s old from log0 (course_after failure) b new r2 number after log') (sym bad_is)
          (subst (λ (x : ItemReader). AfterExchangeAnew tariffs tariff rules rule s old from log0 (course_after failure) (bad_after answer number bad) new x number after log') (sym r_is)
          (replied_aside done bad seen new r r' number line before after log log' n st1 printed logged same answer failure faults faults' (replies st1.pending st1.holds)
          (has_log answer r'.text log log' log_faults log_faults' logs) did_here)))

  -- the log failed
  pub unlogged_anew : (bad : Option ℕ) (seen : Seen) (r r' : ItemReader) (number : ℕ) (line : List ℕ) (start before : Option Transcript) (log log' : Option (List ℕ)) (answer : Reply) (failure : Failure) (log_faults log_faults' : ℕ)
      → Continues start (Line line) before → ((lines : List (List ℕ)) → Holds seen.count lines r → Replies r.place number seen.count lines line (Ok answer) r') → LogsReply answer r'.text (Some failure) log log' log_faults log_faults'
      → ((done : List Timed) → Stands tariffs tariff rules rule s false (with_new_disc old) done bad seen r number [] from start log0 log
      → AfterExchange tariffs tariff rules rule s false (with_new_disc old) from log0 (course.Breaks failure) bad seen r' number before log')
      → StandsAnew tariffs tariff rules rule s old bad seen r number from start log0 log → AfterExchangeAnew tariffs tariff rules rule s old from log0 (course.Breaks failure) bad seen r' number before log'
  unlogged_anew bad seen r r' number line start before log log' answer failure log_faults log_faults' continues replies logs on (inr (inl (done, st))) = inr (inl (on done st))
  unlogged_anew bad seen r r' number line start before log log' answer failure log_faults log_faults' continues replies logs on (inr (inr e)) =
      inr (inr (elsewhere_on seen.system seen.system start before log log' e (grows_ask tariffs tariff rules rule s start (Line line) before continues)
      (log_grows answer r'.text (Some failure) log log' log_faults log_faults' logs) (same_itself (devices_in seen.system))))
  unlogged_anew bad seen r r' number line start before log log' answer failure log_faults log_faults' continues replies logs on (inl (done, n, st)) =
      let st1 = stands_ask tariffs tariff rules rule s end_follows false (with_new_disc old) done bad (beside seen) r number (Line line) from start before log0 log st continues in
      inl (
        n.blank,
        unlogged_by tariffs tariff rules rule s false (with_new_disc old) from log0 done bad (beside seen) (beside seen) r r' number line before before log log' st1 answer failure log_faults log_faults' refl
            (replies st1.pending st1.holds) logs,
      )

  -- no more lines came
  pub ends_anew : (bad : Option ℕ) (seen : Seen) (r r' : ItemReader) (number : ℕ) (start after : Option Transcript) (log : Option (List ℕ)) → Continues start End after → r' ≡ r
      → ((done : List Timed) → Stands tariffs tariff rules rule s false (with_new_disc old) done bad seen r number [] from start log0 log
      → AfterExchange tariffs tariff rules rule s false (with_new_disc old) from log0 course.Ends bad seen r' number after log)
      → StandsAnew tariffs tariff rules rule s old bad seen r number from start log0 log → AfterExchangeAnew tariffs tariff rules rule s old from log0 course.Ends bad seen r' number after log
  ends_anew bad seen r r' number start after log continues same on (inr (inl (done, st))) = inr (inl (on done st))
  ends_anew bad seen r r' number start after log continues same on (inr (inr e)) =
      inr (inr (elsewhere_on seen.system seen.system start after log log e (grows_ask tariffs tariff rules rule s start End after continues) (same_grown log log refl) (same_itself (devices_in seen.system))))
  ends_anew bad seen r r' number start after log continues same on (inl (done, n, st)) = inl (
    last_asked tariffs tariff rules rule s start End after continues,
    (
      done,
      n,
      subst (λ (x : ItemReader). Stands tariffs tariff rules rule s false (with_new_disc old) done bad (beside seen) x number [] from after log0 log) (sym same)
          (stands_ask tariffs tariff rules rule s end_follows false (with_new_disc old) done bad (beside seen) r number End from start after log0 log st continues),
    ),
  )

  -- the request failed
  pub fails_anew : (bad : Option ℕ) (seen : Seen) (r r' : ItemReader) (number : ℕ) (start after : Option Transcript) (log : Option (List ℕ)) → Continues start Failed after → r' ≡ r
      → ((done : List Timed) → Stands tariffs tariff rules rule s false (with_new_disc old) done bad seen r number [] from start log0 log
      → AfterExchange tariffs tariff rules rule s false (with_new_disc old) from log0 course.Fails bad seen r' number after log)
      → StandsAnew tariffs tariff rules rule s old bad seen r number from start log0 log → AfterExchangeAnew tariffs tariff rules rule s old from log0 course.Fails bad seen r' number after log
  fails_anew bad seen r r' number start after log continues same on (inr (inl (done, st))) = inr (inl (on done st))
  fails_anew bad seen r r' number start after log continues same on (inr (inr e)) =
      inr (inr (elsewhere_on seen.system seen.system start after log log e (grows_ask tariffs tariff rules rule s start Failed after continues) (same_grown log log refl) (same_itself (devices_in seen.system))))
  fails_anew bad seen r r' number start after log continues same on (inl (done, n, st)) = inl (
    last_asked tariffs tariff rules rule s start Failed after continues,
    (
      done,
      n,
      subst (λ (x : ItemReader). Stands tariffs tariff rules rule s false (with_new_disc old) done bad (beside seen) x number [] from after log0 log) (sym same)
          (stands_ask tariffs tariff rules rule s end_follows false (with_new_disc old) done bad (beside seen) r number Failed from start after log0 log st continues),
    ),
  )

  -- memory ran out before a reply
  pub unheard_anew : (bad : Option ℕ) (seen : Seen) (r r' : ItemReader) (number : ℕ) (start after : Option Transcript) (log : Option (List ℕ)) (failure : Failure) → (after ≡ start) ⊎ ((line : List ℕ) × Continues start (Line line) after)
      → ((done : List Timed) → Stands tariffs tariff rules rule s false (with_new_disc old) done bad seen r number [] from start log0 log
      → AfterExchange tariffs tariff rules rule s false (with_new_disc old) from log0 (course.Breaks failure) bad seen r' number after log)
      → StandsAnew tariffs tariff rules rule s old bad seen r number from start log0 log → AfterExchangeAnew tariffs tariff rules rule s old from log0 (course.Breaks failure) bad seen r' number after log
  unheard_anew bad seen r r' number start after log failure heard on (inr (inl (done, st))) = inr (inl (on done st))
  unheard_anew bad seen r r' number start after log failure heard on (inr (inr e)) =
      inr (inr (elsewhere_on seen.system seen.system start after log log e (grows_heard tariffs tariff rules rule s start after heard) (same_grown log log refl) (same_itself (devices_in seen.system))))
  unheard_anew bad seen r r' number start after log failure heard on (inl (done, n, st)) =
      inl (n.blank, unheard tariffs tariff rules rule s false (with_new_disc old) from log0 done bad (beside seen) r number start after log st heard)

  -- THE NEXT LINE is requested
  pub goes_on_anew : (bad : Option ℕ) (seen : Seen) (r : ItemReader) (number : ℕ) (transcript : Option Transcript) (log : Option (List ℕ))
      → AfterExchangeAnew tariffs tariff rules rule s old from log0 course.Goes bad seen r number transcript log → StandsAnew tariffs tariff rules rule s old bad seen r (number + 1) from transcript log0 log
  goes_on_anew bad seen r number transcript log (inl a) = inl a
  goes_on_anew bad seen r number transcript log (inr (inl st)) = inr (inl st)
  goes_on_anew bad seen r number transcript log (inr (inr e)) = inr (inr e)

  -- THE LINES STOP
  stop_aside : (c : Course) (bad : Option ℕ) (seen : Seen) (r : ItemReader) (number number' : ℕ) (transcript : Option Transcript) (log : Option (List ℕ)) → (c ≡ course.Goes → ⊥) → number' ≡ number
      → AfterExchangeAside tariffs tariff rules rule s old from log0 c bad seen r number transcript log → AfterLinesAside tariffs tariff rules rule s old from log0 c bad seen r number' transcript log
  stop_aside course.Goes bad seen r number number' transcript log stops same after = absurd (stops refl)
  stop_aside course.Ends bad seen r number number' transcript log stops same (ended, st) =
      (ended, subst (λ (k : ℕ). StandsAside tariffs tariff rules rule s old bad seen r k from transcript log0 log) (sym same) st)
  stop_aside course.Fails bad seen r number number' transcript log stops same (ended, st) =
      (ended, subst (λ (k : ℕ). StandsAside tariffs tariff rules rule s old bad seen r k from transcript log0 log) (sym same) st)
  stop_aside (course.Breaks failure) bad seen r number number' transcript log stops same b = b

  pub stop_anew : (c : Course) (bad : Option ℕ) (seen : Seen) (r : ItemReader) (number number' : ℕ) (transcript : Option Transcript) (log : Option (List ℕ)) → (c ≡ course.Goes → ⊥) → number' ≡ number
      → AfterExchangeAnew tariffs tariff rules rule s old from log0 c bad seen r number transcript log → AfterLinesAnew tariffs tariff rules rule s old from log0 c bad seen r number' transcript log
  stop_anew c bad seen r number number' transcript log stops same (inl a) = inl (stop_aside c bad seen r number number' transcript log stops same a)
  stop_anew c bad seen r number number' transcript log stops same (inr (inl after)) =
      inr (inl (lines_stop tariffs tariff rules rule s false (with_new_disc old) from log0 c bad seen r number number' transcript log stops same after))
  stop_anew c bad seen r number number' transcript log stops same (inr (inr e)) = inr (inr e)

  -- memory ran out
  pub short_anew : (bad : Option ℕ) (seen : Seen) (r : ItemReader) (number : ℕ) (transcript : Option Transcript) (log : Option (List ℕ)) → StandsAnew tariffs tariff rules rule s old bad seen r number from transcript log0 log
      → (failure : Failure) → AfterLinesAnew tariffs tariff rules rule s old from log0 (course.Breaks failure) bad seen r number transcript log
  short_anew bad seen r number transcript log (inl (done, n, st)) failure =
      inl (n.blank, broken_short tariffs tariff rules rule s false (with_new_disc old) done bad (beside seen) r number [] from transcript log0 log st)
  short_anew bad seen r number transcript log (inr (inl (done, st))) failure = inr (inl (broken_short tariffs tariff rules rule s false (with_new_disc old) done bad seen r number [] from transcript log0 log st))
  short_anew bad seen r number transcript log (inr (inr e)) failure = inr (inr e)

-- BEFORE THE FIRST LINE
module _ {F U : Type 0} (tariffs : Shared F (Bor Usage × Unit {0}) Charge) (tariff : F) (rules : Shared U (Bor Standing × Unit {0}) ℕ) (rule : U) where
  pub anew_start : (s : State) (old : Devices) (transcript : Option Transcript) (log : Option (List ℕ)) (bad : Option ℕ) (day : Seen) (r : ItemReader) (number : ℕ) → StandFor (with_new_disc old) s → AreBlank old
      → bad ≡ None → day ≡ first_seen old → r.place ≡ place.Start → number ≡ 1 → StandsAnew tariffs tariff rules rule s old bad day r number transcript transcript log log
  anew_start s old transcript log bad day r number stand blank bad_none day_is at one =
      subst (λ (d : Seen). StandsAnew tariffs tariff rules rule s old bad d r number transcript transcript log log) (sym day_is)
      (inl ([], none_first old blank, stands_start tariffs tariff rules rule s false (with_new_disc old) transcript log bad (first_seen (with_new_disc old)) r number stand bad_none refl at one))

  -- AT THE END an open document is refused
  module _ (s : State) (old : Devices) (from : Option Transcript) (log0 : Option (List ℕ)) where
    abbrev NoneTaken : Seen → List Timed → Type 0
    NoneTaken seen done = NoneYet old done seen

    aside_lines : (c : Course) (bad : Option ℕ) (seen : Seen) (r : ItemReader) (number : ℕ) (transcript : Option Transcript) (log : Option (List ℕ)) → AfterLinesAside tariffs tariff rules rule s old from log0 c bad seen r number transcript log
        → IsBlank seen.system × AfterLinesOf tariffs tariff rules rule s false (with_new_disc old) from log0 (NoneTaken seen) c bad (beside seen) r number transcript log
    aside_lines (course.Breaks failure) bad seen r number transcript log b = b
    aside_lines course.Goes bad seen r number transcript log (never, st) = absurd never
    aside_lines course.Ends bad seen r number transcript log (ended, (done, n, st)) = (n.blank, (ended, (done, n, st)))
    aside_lines course.Fails bad seen r number transcript log (ended, (done, n, st)) = (n.blank, (ended, (done, n, st)))

    aside_rests : (c : Course) (bad : Option ℕ) (seen new : Seen) (transcript : Option Transcript) (log : Option (List ℕ)) → IsBlank new.system → SameDevices (devices_in seen.system) (devices_in new.system)
        → RestsOf tariffs tariff rules rule s false (with_new_disc old) from log0 (NoneTaken seen) c bad (beside new) transcript log → RestsAside tariffs tariff rules rule s old from log0 c bad new transcript log
    aside_rests (course.Breaks failure) bad seen new transcript log blank same b = (blank, b)
    aside_rests course.Goes bad seen new transcript log blank same (never, end) = absurd never
    aside_rests course.Ends bad seen new transcript log blank same (ended, (end, n)) = (ended, (end, none_same old end.done seen new n blank same))
    aside_rests course.Fails bad seen new transcript log blank same (ended, (end, n)) = (ended, (end, none_same old end.done seen new n blank same))

    module _ (c : Course) (bad : Option ℕ) (seen : Seen) (r : ItemReader) (number : ℕ) (before middle : Option Transcript) (log put put' : Option (List ℕ)) (is : put ≡ option_map written_of before) (is' : put' ≡ option_map written_of middle)
        (course' : Course) (bad' : Option ℕ) (faults faults' : ℕ) (did : DidOpen c r.place bad course' bad' put put' faults faults') where
      opened : (P : List Timed → Type 0) (view : Seen) → AfterLinesOf tariffs tariff rules rule s false (with_new_disc old) from log0 P c bad view r number before log
          → AfterOpenOf tariffs tariff rules rule s false (with_new_disc old) from log0 P course' bad' view middle log
      opened P view after = open_done tariffs tariff rules rule s false (with_new_disc old) from log0 P view before middle log put put' is is' bad course' bad' faults faults' c r.place r number refl after did

      open_further : (g : SystemFacts) → Elsewhere tariffs tariff rules rule s old seen.system from before log0 log → SameDevices (devices_in seen.system) (devices_in g) → Elsewhere tariffs tariff rules rule s old g from middle log0 log
      open_further g e same =
          elsewhere_on tariffs tariff rules rule s old from log0 seen.system g before middle log log e
          (grows_print before middle (subst (λ (x : Option (List ℕ)). HasGrown x (option_map written_of middle)) is (subst (λ (x : Option (List ℕ)). HasGrown put x) is' (open_grows c r.place bad course' bad' put put' faults faults' did))))
          (same_grown log log refl) same

      -- that broke off
      pub open_broken : (failure : Failure) → course' ≡ course.Breaks failure → AfterLinesAnew tariffs tariff rules rule s old from log0 c bad seen r number before log
          → RestsAnew tariffs tariff rules rule s old from log0 course' bad' seen middle log
      open_broken failure broke (inl a) =
          let (blank, after) = aside_lines c bad seen r number before log a in
          inl (aside_rests course' bad' seen seen middle log blank (same_itself (devices_in seen.system))
          (rests_broken tariffs tariff rules rule (NoneTaken seen) s false (with_new_disc old) from log0 course' failure bad' (beside seen) middle log broke (opened (NoneTaken seen) (beside seen) after)))
      open_broken failure broke (inr (inl after)) =
          inr (inl (rests_any tariffs tariff rules rule s false (with_new_disc old) from log0 course' bad' seen middle log
          (rests_broken tariffs tariff rules rule Any s false (with_new_disc old) from log0 course' failure bad' seen middle log broke
          (opened Any seen (any_lines tariffs tariff rules rule s false (with_new_disc old) from log0 c bad seen r number before log after)))))
      open_broken failure broke (inr (inr e)) = inr (inr (open_further seen.system e (same_itself (devices_in seen.system))))

      -- and the system runs
      pub open_rests : (new : Seen) (after : Option Transcript) (failure : Option Failure) (put1 put2 : Option (List ℕ)) (faults1 faults2 : ℕ) → put1 ≡ option_map written_of middle → put2 ≡ option_map written_of after
          → ((g : Failure) → course' ≡ course.Breaks g → ⊥) → DidRest tariffs tariff rules rule seen failure new put1 put2 faults1 faults2
          → AfterLinesAnew tariffs tariff rules rule s old from log0 c bad seen r number before log → RestsAnew tariffs tariff rules rule s old from log0 (course_at_end course' failure) bad' new after log
      open_rests new after failure put1 put2 faults1 faults2 is1 is2 whole rest (inl a) =
          let (blank, lines) = aside_lines c bad seen r number before log a in
          let (blank_new, goes) = rest.aside blank in
          inl (aside_rests (course_at_end course' failure) bad' seen new after log blank_new rest.keeps.same
          (rest_at_end tariffs tariff rules rule s false (with_new_disc old) from log0 (NoneTaken seen) bad' (beside seen) (beside new) middle after log course' failure put1 put2 is1 is2 whole (opened (NoneTaken seen) (beside seen) lines) goes))
      open_rests new after failure put1 put2 faults1 faults2 is1 is2 whole rest (inr (inl lines)) =
          inr (inl (rests_any tariffs tariff rules rule s false (with_new_disc old) from log0 (course_at_end course' failure) bad' new after log
          (rest_at_end tariffs tariff rules rule s false (with_new_disc old) from log0 Any bad' seen new middle after log course' failure put1 put2 is1 is2 whole
          (opened Any seen (any_lines tariffs tariff rules rule s false (with_new_disc old) from log0 c bad seen r number before log lines))
          (part_claimed tariffs tariff rules rule false [] seen failure new put1 put2 rest.goes))))
      open_rests new after failure put1 put2 faults1 faults2 is1 is2 whole rest (inr (inr e)) =
          inr (inr (elsewhere_on tariffs tariff rules rule s old from log0 new.system new.system middle after log log (open_further new.system e rest.keeps.same)
          (grows_print middle after (subst (λ (x : Option (List ℕ)). HasGrown x (option_map written_of after)) is1 (subst (λ (x : Option (List ℕ)). HasGrown put1 x) is2 rest.grows)))
          (same_grown log log refl) (same_itself (devices_in new.system))))
