-- A reply is done: what is known when the next line is requested, or if something failed.
-- serves: exchange (anew, said, typed), AnewLemmas
use Rattle.std.proofs.Common.{◌≡◌, ◌≢◌, ◌⊎◌, ◌+◌, ◌≤◌, ◌++◌, ℕ, Bool, true, false, List, [], ◌∷◌, All, Option, Some, None, Result, Ok, option_map, codes, length, take, append-nil, refl, sym, ◌∙◌, ap, subst, inl, inr, arith}
use Rattle.std.specs.Fn.{Shared}
use Rattle.std.specs.List.{flat_map}
use Rattle.std.proofs.lemmas.List.Elements.{All-nil}
use denote.Ref.{Bor}
use Rattle.g_rules.specs.declared.tariff.Charge.{Charge}
use Rattle.g_rules.specs.declared.tariff.Usage.{Usage}
use Rattle.g_rules.specs.declared.rule.Standing.{Standing}
use Rattle.g_console.specs.Transcript.{Continues, Line, Transcript, blank, lines_typed, written_of}
use Rattle.g_io.specs.Streams.{HasPutPart, with_more}
use Rattle.g_lines.specs.Lines.{text_of}
use Rattle.g_script.specs.Script.{IsItem, WrittenItem, item_lines, timed_said}
use Rattle.g_script.specs.declared.operator.Timed.{Timed}
use Rattle.g_store_model.specs.State.{State}
use Rattle.g_run_model.specs.Devices.{Devices}
use Rattle.g_run_model.specs.World.{World}
use Rattle.g_run.proofs.ReadingLemmas.{within_what}
use Rattle.g_day.specs.declared.progress.Failure.{Failure}
use Rattle.g_day.specs.Parts.{Seen}
use Rattle.g_day.proofs.PutLemmas.{with_more-append, with_more-nil}
use Rattle.g_ticks.specs.Parts.{BreaksFrom, IsTimedWithin}
use Rattle.g_ticks.proofs.TickLemmas.{put_on}
use Rattle.g_typing.specs.Reader.{Holds, HoldsAt, IsComplete, IsRefused, Replies, StaysIn, is_skipped, when_of}
use Rattle.g_typing.specs.Typed.{BeginsDocument, CanFollow, IsUnfinished, first_of}
use Rattle.g_typing.specs.declared.item.ItemReader.{ItemReader}
use Rattle.g_typing.specs.declared.item.Place.{Place}
use Rattle.g_typing.specs.declared.item.Place.TheVariants as place
use Rattle.g_typing.specs.declared.item.Reply.{Reply}
use Rattle.g_typing.specs.declared.item.Reply.TheVariants as reply
use Rattle.g_typing.proofs.AddLemmas.{end_follows}
use Rattle.g_laws_sessions.specs.Early.{NotBefore, with_lines}
use Rattle.g_laws_sessions.specs.Session.{AlwaysAnswers, Exchanges, Moment, RefusesLine, or_else, refusal_line, script_of, tick_line}
use Rattle.g_laws_sessions.proofs.SessionLemmas.{not_before}
use Rattle.g_session.specs.Exchanging.{AfterExchange, DidReply, IsReplyWithin, LogsReply, ReplyGoes, bad_after, course_after}
use Rattle.g_session.specs.Parts.{Broken, Claimed, SoFar, Stands}
use Rattle.g_session.specs.Taking.{RestsAndTells, TakesItem}
use Rattle.g_session.proofs.AnswerLemmas.{ArePrinted, answers_print, printed_print, stands_ask}
use Rattle.g_session.proofs.BrokenLemmas.{HasLogged, Shows, broken_leads, broken_short, broken_still, logged_all, put_none, shows_of}
use Rattle.g_session.proofs.ClaimLemmas.{takes_claimed, tells_claimed}
use Rattle.g_session.proofs.SoFarLemmas.{Next, so_far_asked, so_far_refused, so_far_rested, so_far_skipped, so_far_took, with_left}
use Rattle.g_session.proofs.StandsLemmas.{printed_by, stands_more, stands_next}

start_not_document : (k : ℕ) → place.Start ≡ place.Document k → ⊥
start_not_document k e = cc

skipped_not_document : (k : ℕ) → place.Skipped ≡ place.Document k → ⊥
skipped_not_document k e = cc

some_none : (failure : Failure) → (let some : Option Failure = Some failure in some ≡ None) → ⊥
some_none failure e = cc

holds_start : (count : ℕ) (r : ItemReader) → r.place ≡ place.Start → Holds count [] r
holds_start count r at = subst (λ (p : Place). HoldsAt p count [] r) (sym at) refl

holds_skipped : (count : ℕ) (r : ItemReader) → r.place ≡ place.Skipped → Holds count [] r
holds_skipped count r at = subst (λ (p : Place). HoldsAt p count [] r) (sym at) (All-nil (λ (line : List ℕ). line ≢ codes "****"))

-- what an item asks for is within its limits
item_within : (item : WrittenItem) → IsItem item → IsTimedWithin (timed_said item)
item_within item is = (within_what item.turn item.what is.1 is.2, is.0)

pub reply_within : (was : Place) (number count : ℕ) (lines : List (List ℕ)) (line : List ℕ) (r : ItemReader) (answer : Reply) → Replies was number count lines line (Ok answer) r → IsReplyWithin answer
reply_within was number count lines line r (reply.Item next timed) (unskipped, whole) = subst (λ (t : Timed). IsTimedWithin t) (sym whole.said) (item_within whole.item whole.typed.is_item)
reply_within was number count lines line r reply.Rest replies = tt
reply_within was number count lines line r (reply.Asked q) replies = tt
reply_within was number count lines line r reply.Refused replies = tt
reply_within was number count lines line r reply.More replies = tt
reply_within was number count lines line r reply.SkippedAll replies = tt

-- what the reader holds after a reply
held_refused : (count new : ℕ) (lines : List (List ℕ)) (line : List ℕ) (r : ItemReader) → IsRefused count lines line r.place → Holds new [] r
held_refused count new lines line r refused = by refused.skips
  where
    by : (BeginsDocument (first_of lines line) × (r.place ≡ place.Skipped)) ⊎ ((BeginsDocument (first_of lines line) → ⊥) × (r.place ≡ place.Start)) → Holds new [] r
    by (inl (begins, at)) = holds_skipped new r at
    by (inr (begins, at)) = holds_start new r at

-- the count stays where a document continues
abbrev pub KeepsCount : Reply → ℕ → ℕ → Type 0
KeepsCount reply.More old new = new ≡ old
KeepsCount other old new = Unit {0}

pub reply_holds : (was : Place) (number count new : ℕ) (lines : List (List ℕ)) (line : List ℕ) (r : ItemReader) (answer : Reply) → Replies was number count lines line (Ok answer) r → KeepsCount answer count new
    → (held : List (List ℕ)) × Holds new held r
reply_holds was number count new lines line r (reply.Item next timed) (unskipped, whole) same = ([], holds_start new r whole.place)
reply_holds was number count new lines line r reply.Rest (unskipped, none, empty, at) same = ([], holds_start new r at)
reply_holds was number count new lines line r (reply.Asked q) (unskipped, none, asks, at) same = ([], holds_start new r at)
reply_holds was number count new lines line r reply.Refused (unskipped, refused) same = ([], held_refused count new lines line r refused)
reply_holds was number count new lines line r reply.More (holds, stays) same = (lines ++ line ∷ [], subst (λ (n : ℕ). Holds n (lines ++ line ∷ []) r) (sym same) holds)
reply_holds was number count new lines line r reply.SkippedAll (skipped, all, is, at) same = ([], holds_start new r at)

-- the replies at the same count
pub replies_at : (n m number : ℕ) → n ≡ m → (old : ItemReader) (line : List ℕ) (answer : Reply) (new : ItemReader) → ((lines : List (List ℕ)) → Holds n lines old → Replies old.place number n lines line (Ok answer) new)
    → (lines : List (List ℕ)) → Holds m lines old → Replies old.place number m lines line (Ok answer) new
replies_at n m number same old line answer new replies = subst (λ (k : ℕ). (lines : List (List ℕ)) → Holds k lines old → Replies old.place number k lines line (Ok answer) new) same replies

-- an item was written to the log
abbrev pub HasLog : Reply → List ℕ → Option (List ℕ) → Option (List ℕ) → Type 0
HasLog (reply.Item next timed) text before after = after ≡ with_more before text
HasLog other text before after = after ≡ before

pub has_log : (answer : Reply) (text : List ℕ) (before after : Option (List ℕ)) (faults faults' : ℕ) → LogsReply answer text None before after faults faults' → HasLog answer text before after
has_log (reply.Item next timed) text before after faults faults' puts = puts.put
has_log reply.Rest text before after faults faults' (none, same, still) = same
has_log (reply.Asked q) text before after faults faults' (none, same, still) = same
has_log reply.Refused text before after faults faults' (none, same, still) = same
has_log reply.More text before after faults faults' (none, same, still) = same
has_log reply.SkippedAll text before after faults faults' (none, same, still) = same

-- the items that were taken, after this reply
abbrev pub done_after : Reply → List Timed → List Timed
done_after (reply.Item next timed) done = done ++ next ∷ []
done_after other done = done

-- the count stays where a document continues
module _ {F U : Type 0} (tariffs : Shared F (Bor Usage × Unit {0}) Charge) (tariff : F) (rules : Shared U (Bor Standing × Unit {0}) ℕ) (rule : U) where
  pub keeps_count : (answer : Reply) (number : ℕ) (old : Seen) (failure : Option Failure) (new : Seen) (before after : Option (List ℕ)) (faults faults' : ℕ)
      → DidReply tariffs tariff rules rule answer number old failure new before after faults faults' → KeepsCount answer old.count new.count
  keeps_count (reply.Item next timed) number old failure new before after faults faults' did = tt
  keeps_count reply.Rest number old failure new before after faults faults' did = tt
  keeps_count (reply.Asked q) number old failure new before after faults faults' did = tt
  keeps_count reply.Refused number old failure new before after faults faults' did = tt
  keeps_count reply.More number old failure new before after faults faults' (none, same, quiet, still) = ap (λ (x : Seen). x.count) same
  keeps_count reply.SkippedAll number old failure new before after faults faults' did = tt

  -- the moves and the text of a reply
  pub reply_goes : (real : Bool) (answer : Reply) (number : ℕ) (old : Seen) (failure : Option Failure) (new : Seen) (before after : Option (List ℕ)) (faults faults' : ℕ)
      → DidReply tariffs tariff rules rule answer number old failure new before after faults faults' → ReplyGoes tariffs tariff rules rule (Claimed real) answer number old failure new before after
  reply_goes real (reply.Item next timed) number old failure new before after faults faults' did = takes_claimed tariffs tariff rules rule real timed next old failure new before after did.goes
  reply_goes real reply.Rest number old failure new before after faults faults' did = tells_claimed tariffs tariff rules rule real old failure new before after did.goes
  reply_goes real (reply.Asked q) number old failure new before after faults faults' (same, (text, both, puts)) = (same, (text, both.here, puts.put))
  reply_goes real reply.Refused number old failure new before after faults faults' (same, puts) = (same, puts.put)
  reply_goes real reply.More number old failure new before after faults faults' (none, same, quiet, still) = (none, same, quiet)
  reply_goes real reply.SkippedAll number old failure new before after faults faults' (none, same, quiet, still) = (none, same, quiet)

module _ {F U : Type 0} (tariffs : Shared F (Bor Usage × Unit {0}) Charge) (tariff : F) (rules : Shared U (Bor Standing × Unit {0}) ℕ) (rule : U) (s : State) (real : Bool) (old : Devices) (from : Option Transcript) (log0 : Option (List ℕ)) where
  -- nothing was printed
  stands_quiet : (done : List Timed) (bad : Option ℕ) (seen : Seen) (r : ItemReader) (number : ℕ) (before after : Option Transcript) (log : Option (List ℕ))
      → Stands tariffs tariff rules rule s real old done bad seen r number [] from before log0 log → option_map written_of after ≡ option_map written_of before
      → Stands tariffs tariff rules rule s real old done bad seen r number [] from after log0 log
  stands_quiet done bad seen r number before after log st quiet = record {
    so_far = st.so_far;
    going = st.going;
    pending = st.pending;
    holds = st.holds;
    skipping = st.skipping;
    job = st.job;
    number_is = st.number_is;
    lines = λ fresh t is. let p = by t is in ap (λ (x : Transcript). lines_typed x.requests) p.only ∙ st.lines fresh p.was p.is;
    text = λ fresh t is. let p = by t is in ap (λ (x : Transcript). x.text) p.only ∙ append-nil p.was.text ∙ st.text fresh p.was p.is;
    answers = λ fresh t is.
        let p = by t is in
        subst (λ (x : Transcript). AlwaysAnswers tariffs tariff rules rule s x) (sym p.only) (answers_print tariffs tariff rules rule s p.was [] (st.printed fresh p.was p.is) (st.answers fresh p.was p.is));
    printed = λ fresh t is. let p = by t is in subst (λ (x : Transcript). ArePrinted x) (sym p.only) (printed_print p.was [] (st.printed fresh p.was p.is));
  }
    where
      by : (t : Transcript) → after ≡ Some t → Rattle.g_session.proofs.StandsLemmas.Printed before [] t
      by t is = printed_by before [] t (ap (λ (a : Option Transcript). option_map written_of a) (sym is) ∙ quiet ∙ sym (with_more-nil (option_map written_of before)))

  -- memory ran out before a reply
  pub unheard : (done : List Timed) (bad : Option ℕ) (seen : Seen) (r : ItemReader) (number : ℕ) (before after : Option Transcript) (log : Option (List ℕ))
      → Stands tariffs tariff rules rule s real old done bad seen r number [] from before log0 log → (after ≡ before) ⊎ ((line : List ℕ) × Continues before (Line line) after)
      → Broken tariffs tariff rules rule s real old seen.system from after log0 log
  unheard done bad seen r number before after log st (inl same) =
      subst (λ (x : Option Transcript). Broken tariffs tariff rules rule s real old seen.system from x log0 log) (sym same) (broken_short tariffs tariff rules rule s real old done bad seen r number [] from before log0 log st)
  unheard done bad seen r number before after log st (inr (line, continues)) =
      broken_short tariffs tariff rules rule s real old done bad seen r number (line ∷ []) from after log0 log (stands_ask tariffs tariff rules rule s end_follows real old done bad seen r number (Line line) from before after log0 log st continues)

  -- the line that is refused
  refusal : (done : List Timed) (bad : Option ℕ) (seen : Seen) (log : Option (List ℕ)) (f : SoFar tariffs tariff rules rule s real old done bad seen log0 log) (number : ℕ) (front : List (List ℕ)) (line : List ℕ) (p : Place)
      → number ≡ length f.now.lines + length front + 1 → IsRefused seen.count front line p
      → RefusesLine number (is_skipped p) f.now (record f.now { lines = f.now.lines ++ (front ++ line ∷ []); text = f.now.text ++ refusal_line number })
  refusal done bad seen log f number front line p number_is refused = record {
    front = front;
    line = line;
    begun = subst (λ (n : ℕ). IsUnfinished n front) (sym f.matches.count) refused.begun;
    some = refused.some;
    unasked = refused.unasked;
    bad = λ follows. refused.bad (subst (λ (n : ℕ). CanFollow n front line) f.matches.count follows);
    document = by refused.skips;
    place = number_is;
    after_is = refl;
  }
    where
      by : (BeginsDocument (first_of front line) × (p ≡ place.Skipped)) ⊎ ((BeginsDocument (first_of front line) → ⊥) × (p ≡ place.Start))
          → (BeginsDocument (first_of front line) × (is_skipped p ≡ true)) ⊎ ((BeginsDocument (first_of front line) → ⊥) × (is_skipped p ≡ false))
      by (inl (begins, at)) = inl (begins, ap is_skipped at)
      by (inr (begins, at)) = inr (begins, ap is_skipped at)

  no_document : (count : ℕ) (front : List (List ℕ)) (line : List ℕ) (p : Place) → IsRefused count front line p → (k : ℕ) → p ≡ place.Document k → ⊥
  no_document count front line p refused k is = by refused.skips
    where
      by : (BeginsDocument (first_of front line) × (p ≡ place.Skipped)) ⊎ ((BeginsDocument (first_of front line) → ⊥) × (p ≡ place.Start)) → ⊥
      by (inl (begins, at)) = skipped_not_document k (sym at ∙ is)
      by (inr (begins, at)) = start_not_document k (sym at ∙ is)

  module _ (done : List Timed) (bad : Option ℕ) (seen new : Seen) (r r' : ItemReader) (number : ℕ) (line : List ℕ) (before after : Option Transcript) (log log' : Option (List ℕ))
      (st : Stands tariffs tariff rules rule s real old done bad seen r number (line ∷ []) from before log0 log) where
    abbrev shown : Shows tariffs tariff rules rule s from before st.so_far.now
    shown = shows_of tariffs tariff rules rule s real old done bad seen r number (line ∷ []) from before log0 log st

    -- an item that was taken in part
    item_breaks : (next : Timed) (timed : Bool) (failure : Failure) → TakesItem tariffs tariff rules rule (Claimed real) timed next seen (Some failure) new (option_map written_of before) (option_map written_of after)
        → (let v : World = record st.so_far.now.world { lines = next ∷ [] } in BreaksFrom tariffs tariff rules rule (Claimed real) v seen.system new.system (option_map written_of before) (option_map written_of after))
    item_breaks next true failure goes =
        let v : World = record st.so_far.now.world { lines = next ∷ [] } in
        goes v (with_left st.so_far.now.world (next ∷ []) seen st.so_far.matches) (record { phase = st.so_far.between.phase; turn = st.so_far.between.turn }) refl
    item_breaks next false failure goes =
        let v : World = record st.so_far.now.world { lines = next ∷ [] } in
        goes v (with_left st.so_far.now.world (next ∷ []) seen st.so_far.matches) (record { phase = st.so_far.between.phase; turn = st.so_far.between.turn }) refl

    logged_item : (item : WrittenItem) → r'.text ≡ text_of (item_lines item) → log' ≡ with_more log r'.text → HasLogged tariffs tariff rules rule st.so_far.said (item ∷ []) log0 log'
    logged_item item is put = inl
        (put ∙ ap (λ (l : Option (List ℕ)). with_more l r'.text) st.so_far.log_is ∙ with_more-append log0 (script_of st.so_far.said) r'.text
        ∙ ap (λ (x : List ℕ). with_more log0 (script_of st.so_far.said ++ x)) (is ∙ ap (λ (ls : List (List ℕ)). text_of ls) (sym (append-nil (item_lines item)))))

    item_broken : (next : Timed) (timed : Bool) (failure : Failure) → IsComplete seen.count (st.pending ++ line ∷ []) next timed r' → log' ≡ with_more log r'.text
        → TakesItem tariffs tariff rules rule (Claimed real) timed next seen (Some failure) new (option_map written_of before) (option_map written_of after)
        → Broken tariffs tariff rules rule s real old new.system from after log0 log'
    item_broken next timed failure whole put goes =
        let item = whole.item in
        let b = subst (λ (t : Timed). BreaksFrom tariffs tariff rules rule (Claimed real) (with_lines (t ∷ []) st.so_far.now.world) seen.system new.system (option_map written_of before) (option_map written_of after)) whole.said
        (item_breaks next timed failure goes) in
        let early : st.so_far.now.world.count ≤ item.turn =
        subst (λ (n : ℕ). n ≤ item.turn) (sym st.so_far.matches.count) (not_before seen.count item (when_of timed) whole.typed.first whole.typed.head) in
        broken_leads tariffs tariff rules rule s real old done bad seen from before after log0 log log' st.so_far shown new.system (item ∷ []) (omega arith) early b.moves b.next b.added b.leads b.added (inl refl) b.put
        (logged_item item whole.text put)

    -- THE REPLY WAS DONE
    abbrev pub RepliedAs : Reply → Option Failure → Type 0
    RepliedAs answer None = Stands tariffs tariff rules rule s real old (done_after answer done) (bad_after answer number bad) new r' (number + 1) [] from after log0 log'
    RepliedAs answer (Some failure) = Broken tariffs tariff rules rule s real old new.system from after log0 log'

    pub replied_on : (answer : Reply) (failure : Option Failure) → Replies r.place number seen.count st.pending line (Ok answer) r' → HasLog answer r'.text log log'
        → ReplyGoes tariffs tariff rules rule (Claimed real) answer number seen failure new (option_map written_of before) (option_map written_of after) → RepliedAs answer failure
    unfolding refusal
    replied_on (reply.Item next timed) None (unskipped, whole) put did =
        let n = so_far_took tariffs tariff rules rule s real old done bad seen new log0 log log' (option_map written_of before) (option_map written_of after) (st.pending ++ line ∷ []) next timed r' st.so_far
        (st.skipping ∙ unskipped) st.going whole put did in
        stands_next tariffs tariff rules rule s real old done (done ++ next ∷ []) bad bad seen new r r' number line false from before after log0 log log' st n
        (holds_start new.count r' whole.place) (sym (ap is_skipped whole.place)) (λ k is. start_not_document k (sym whole.place ∙ is))
    replied_on (reply.Item next timed) (Some failure) (unskipped, whole) put did = item_broken next timed failure whole put did
    replied_on reply.Rest None (unskipped, none, empty, at) put did =
        let (middle, goes, told) = did in
        let only : [] ∷ [] ≡ st.pending ++ line ∷ [] = ap (λ (l : List ℕ). l ∷ []) (sym empty) ∙ ap (λ (ls : List (List ℕ)). ls ++ line ∷ []) (sym none) in
        let n = subst (λ (ls : List (List ℕ)). Next tariffs tariff rules rule s real old done bad new log0 log st.so_far.now ls false (option_map written_of before) (option_map written_of after)) only
        (so_far_rested tariffs tariff rules rule s real old done bad seen new log0 log (option_map written_of before) middle (option_map written_of after) st.so_far (st.skipping ∙ unskipped) st.going goes told) in
        subst (λ (l : Option (List ℕ)). Stands tariffs tariff rules rule s real old done bad new r' (number + 1) [] from after log0 l) (sym put)
        (stands_next tariffs tariff rules rule s real old done done bad bad seen new r r' number line false from before after log0 log log st n
        (holds_start new.count r' at) (sym (ap is_skipped at)) (λ k is. start_not_document k (sym at ∙ is)))
    replied_on reply.Rest (Some failure) (unskipped, none, empty, at) put did =
        subst (λ (l : Option (List ℕ)). Broken tariffs tariff rules rule s real old new.system from after log0 l) (sym put) (by did)
      where
        v : World
        v = record st.so_far.now.world { lines = [] }

        by : RestsAndTells tariffs tariff rules rule (Claimed real) seen (Some failure) new (option_map written_of before) (option_map written_of after) → Broken tariffs tariff rules rule s real old new.system from after log0 log
        by (inl goes) =
            let b = goes v (with_left st.so_far.now.world [] seen st.so_far.matches) (record { phase = st.so_far.between.phase; turn = st.so_far.between.turn }) refl in
            broken_leads tariffs tariff rules rule s real old done bad seen from before after log0 log log st.so_far shown new.system [] (omega arith) tt b.moves b.next b.added b.leads b.added (inl refl) b.put
            (logged_all tariffs tariff rules rule s real old done bad seen log0 log st.so_far)
        by (inr (middle, goes, part)) =
            let a = goes v (with_left st.so_far.now.world [] seen st.so_far.matches) (record { phase = st.so_far.between.phase; turn = st.so_far.between.turn }) refl in
            broken_leads tariffs tariff rules rule s real old done bad seen from before after log0 log log st.so_far shown new.system [] (omega arith) tt a.moves a.next a.added a.leads (a.added ++ tick_line new.count)
            (inr (inl (new.count, inl refl))) (put_on (option_map written_of before) middle (option_map written_of after) a.added (tick_line new.count) a.put part)
            (logged_all tariffs tariff rules rule s real old done bad seen log0 log st.so_far)
    replied_on (reply.Asked q) None (unskipped, none, asks, at) put (same, (text, answers, puts)) =
        let only : line ∷ [] ≡ st.pending ++ line ∷ [] = ap (λ (ls : List (List ℕ)). ls ++ line ∷ []) (sym none) in
        let n = subst (λ (ls : List (List ℕ)). Next tariffs tariff rules rule s real old done bad seen log0 log st.so_far.now ls false (option_map written_of before) (option_map written_of after)) only
        (so_far_asked tariffs tariff rules rule s real old done bad seen log0 log (option_map written_of before) (option_map written_of after) q line text st.so_far (st.skipping ∙ unskipped) st.going asks
        (answers st.so_far.now.world st.so_far.matches) puts) in
        subst (λ (l : Option (List ℕ)). Stands tariffs tariff rules rule s real old done bad new r' (number + 1) [] from after log0 l) (sym put)
        (subst (λ (x : Seen). Stands tariffs tariff rules rule s real old done bad x r' (number + 1) [] from after log0 log) (sym same)
        (stands_next tariffs tariff rules rule s real old done done bad bad seen seen r r' number line false from before after log0 log log st n
        (holds_start seen.count r' at) (sym (ap is_skipped at)) (λ k is. start_not_document k (sym at ∙ is))))
    replied_on (reply.Asked q) (Some failure) (unskipped, none, asks, at) put (same, (text, answers, puts)) =
        subst (λ (l : Option (List ℕ)). Broken tariffs tariff rules rule s real old new.system from after log0 l) (sym put)
        (subst (λ (x : Seen). Broken tariffs tariff rules rule s real old x.system from after log0 log) (sym same)
        (broken_still tariffs tariff rules rule s real old done bad seen from before after log0 log log st.so_far shown text (inr (inr (refl, (q, answers st.so_far.now.world st.so_far.matches)))) puts
        (logged_all tariffs tariff rules rule s real old done bad seen log0 log st.so_far)))
    replied_on reply.Refused None (unskipped, refused) put (same, puts) =
        let n = so_far_refused tariffs tariff rules rule s real old done bad seen log0 log (option_map written_of before) (option_map written_of after) number (is_skipped r'.place)
        (record st.so_far.now { lines = st.so_far.now.lines ++ (st.pending ++ line ∷ []); text = st.so_far.now.text ++ refusal_line number })
        st.so_far (st.skipping ∙ unskipped) st.going (refusal done bad seen log st.so_far number st.pending line r'.place st.number_is refused) puts in
        subst (λ (l : Option (List ℕ)). Stands tariffs tariff rules rule s real old done (or_else bad (Some number)) new r' (number + 1) [] from after log0 l) (sym put)
        (subst (λ (x : Seen). Stands tariffs tariff rules rule s real old done (or_else bad (Some number)) x r' (number + 1) [] from after log0 log) (sym same)
        (stands_next tariffs tariff rules rule s real old done done bad (or_else bad (Some number)) seen seen r r' number line (is_skipped r'.place) from before after log0 log log st n
        (held_refused seen.count seen.count st.pending line r' refused) refl (no_document seen.count st.pending line r'.place refused)))
    replied_on reply.Refused (Some failure) (unskipped, refused) put (same, puts) =
        subst (λ (l : Option (List ℕ)). Broken tariffs tariff rules rule s real old new.system from after log0 l) (sym put)
        (subst (λ (x : Seen). Broken tariffs tariff rules rule s real old x.system from after log0 log) (sym same)
        (broken_still tariffs tariff rules rule s real old done bad seen from before after log0 log log st.so_far shown (refusal_line number) (inr (inl (number, inr (sym (append-nil (refusal_line number)))))) puts
        (logged_all tariffs tariff rules rule s real old done bad seen log0 log st.so_far)))
    replied_on reply.More None (holds, stays) put (none, same, quiet) =
        subst (λ (l : Option (List ℕ)). Stands tariffs tariff rules rule s real old done bad new r' (number + 1) [] from after log0 l) (sym put)
        (subst (λ (x : Seen). Stands tariffs tariff rules rule s real old done bad x r' (number + 1) [] from after log0 log) (sym same)
        (stands_quiet done bad seen r' (number + 1) before after log
        (stands_more tariffs tariff rules rule s real old done bad seen r r' number line from before log0 log st holds stays) quiet))
    replied_on reply.More (Some failure) replies put (none, same, quiet) = absurd (some_none failure none)
    replied_on reply.SkippedAll None (skipped, all, is, at) put (none, same, quiet) =
        let n = subst (λ (l : List ℕ). Next tariffs tariff rules rule s real old done bad seen log0 log st.so_far.now (st.pending ++ l ∷ []) false (option_map written_of before) (option_map written_of before)) (sym is)
        (so_far_skipped tariffs tariff rules rule s real old done bad seen log0 log (option_map written_of before) st.pending st.so_far (st.skipping ∙ skipped) all) in
        subst (λ (l : Option (List ℕ)). Stands tariffs tariff rules rule s real old done bad new r' (number + 1) [] from after log0 l) (sym put)
        (subst (λ (x : Seen). Stands tariffs tariff rules rule s real old done bad x r' (number + 1) [] from after log0 log) (sym same)
        (stands_quiet done bad seen r' (number + 1) before after log
        (stands_next tariffs tariff rules rule s real old done done bad bad seen seen r r' number line false from before before log0 log log st n
        (holds_start seen.count r' at) (sym (ap is_skipped at)) (λ k known. start_not_document k (sym at ∙ known))) quiet))
    replied_on reply.SkippedAll (Some failure) replies put (none, same, quiet) = absurd (some_none failure none)

    pub after_reply : (answer : Reply) (failure : Option Failure) → RepliedAs answer failure → AfterExchange tariffs tariff rules rule s real old from log0 (course_after failure) (bad_after answer number bad) new r' number after log'
    after_reply answer None st = (done_after answer done, st)
    after_reply answer (Some failure) b = b

    pub replied : (answer : Reply) (failure : Option Failure) (faults faults' : ℕ) (put put' : Option (List ℕ)) → put ≡ option_map written_of before → put' ≡ option_map written_of after
        → Replies r.place number seen.count st.pending line (Ok answer) r' → HasLog answer r'.text log log' → DidReply tariffs tariff rules rule answer number seen failure new put put' faults faults'
        → AfterExchange tariffs tariff rules rule s real old from log0 (course_after failure) (bad_after answer number bad) new r' number after log'
    replied answer failure faults faults' put put' is is' replies logged did =
        after_reply answer failure (replied_on answer failure replies logged
        (subst (λ (a : Option (List ℕ)). ReplyGoes tariffs tariff rules rule (Claimed real) answer number seen failure new (option_map written_of before) a) is'
        (subst (λ (b : Option (List ℕ)). ReplyGoes tariffs tariff rules rule (Claimed real) answer number seen failure new b put') is (reply_goes tariffs tariff rules rule real answer number seen failure new put put' faults faults' did))))

    -- THE LOG FAILED: nothing was done of the item, and the log has a front of it
    pub unlogged : (next : Timed) (timed : Bool) (after_is : option_map written_of after ≡ option_map written_of before) → Replies r.place number seen.count st.pending line (Ok (reply.Item next timed)) r'
        → HasPutPart log r'.text log' → Broken tariffs tariff rules rule s real old seen.system from after log0 log'
    unlogged next timed after_is (unskipped, whole) part =
        broken_still tariffs tariff rules rule s real old done bad seen from before after log0 log log' st.so_far shown [] (inl refl)
        (0, omega arith, after_is ∙ sym (with_more-nil (option_map written_of before)))
        (inr (
          refl,
          (
            whole.item,
            part.0,
            part.2 ∙ ap (λ (l : Option (List ℕ)). with_more l (take part.0 r'.text)) st.so_far.log_is
                ∙ with_more-append log0 (script_of st.so_far.said) (take part.0 r'.text)
                ∙ ap (λ (x : List ℕ). with_more log0 (script_of st.so_far.said ++ take part.0 x)) whole.text,
          ),
        ))

    pub unlogged_by : (answer : Reply) (failure : Failure) (faults faults' : ℕ) (after_is : option_map written_of after ≡ option_map written_of before) → Replies r.place number seen.count st.pending line (Ok answer) r'
        → LogsReply answer r'.text (Some failure) log log' faults faults' → Broken tariffs tariff rules rule s real old seen.system from after log0 log'
    unlogged_by (reply.Item next timed) failure faults faults' after_is replies puts = unlogged next timed after_is replies puts.put
    unlogged_by reply.Rest failure faults faults' after_is replies (none, same, still) = absurd (some_none failure none)
    unlogged_by (reply.Asked q) failure faults faults' after_is replies (none, same, still) = absurd (some_none failure none)
    unlogged_by reply.Refused failure faults faults' after_is replies (none, same, still) = absurd (some_none failure none)
    unlogged_by reply.More failure faults faults' after_is replies (none, same, still) = absurd (some_none failure none)
    unlogged_by reply.SkippedAll failure faults faults' after_is replies (none, same, still) = absurd (some_none failure none)
