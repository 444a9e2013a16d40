-- The end of a session: an open document is refused, the system runs until nothing can step, and what is known then.
-- serves: end_session (said), AnewLemmas, LinesLemmas, OverallLemmas
use Rattle.std.proofs.Common.{◌≡◌, ◌≢◌, ◌⊎◌, ◌+◌, ◌≤◌, ◌++◌, ℕ, Bool, true, false, List, [], ◌∷◌, All, Option, Some, None, option_map, codes, length, append-nil, refl, sym, ◌∙◌, ap, subst, inl, inr, arith}
use Rattle.std.specs.Fn.{Shared}
use Rattle.std.proofs.lemmas.List.Elements.{All-nil}
use denote.Ref.{Bor}
use Rattle.g_rules.specs.declared.tariff.Charge.{Charge}
use Rattle.g_rules.specs.declared.tariff.Usage.{Usage}
use Rattle.g_rules.specs.declared.rule.Standing.{Standing}
use Rattle.g_console.specs.Transcript.{End, Failed, Transcript, Typed, blank, lines_typed, written_of}
use Rattle.g_io.specs.Streams.{HasPutPart, with_more}
use Rattle.g_script.specs.declared.operator.Timed.{Timed}
use Rattle.g_store_model.specs.State.{State}
use Rattle.g_run_model.specs.Devices.{Devices}
use Rattle.g_run_model.specs.World.{World}
use Rattle.g_day.specs.declared.progress.Failure.{Failure}
use Rattle.g_day.specs.Parts.{Seen}
use Rattle.g_day.specs.Puts.{PutsBy}
use Rattle.g_day.proofs.PutLemmas.{with_more-nil}
use Rattle.g_ticks.specs.Parts.{IsAtRest, PartGoesFrom}
use Rattle.g_typing.specs.Reader.{HoldsAt, is_skipped}
use Rattle.g_typing.specs.declared.item.ItemReader.{ItemReader}
use Rattle.g_typing.specs.declared.item.Place.{Place}
use Rattle.g_typing.specs.declared.item.Place.TheVariants as place
use Rattle.g_typing.proofs.AddLemmas.{end_follows, some_lines}
use Rattle.g_laws_sessions.specs.Session.{AlwaysAnswers, or_else, refusal_line}
use Rattle.g_session.specs.Ending.{AfterLines, AtEnd, DidOpen, RefusesNone, RefusesOpen, RestsAtEnd, course_at_end}
use Rattle.g_session.specs.Exchanging.{HasEnded}
use Rattle.g_session.specs.Parts.{Broken, Claimed, Last, Stands}
use Rattle.g_session.specs.Session.{LastWas}
use Rattle.g_session.specs.Taking.{DidRest}
use Rattle.g_session.specs.declared.exchange.Course.{Course}
use Rattle.g_session.specs.declared.exchange.Course.TheVariants as course
use Rattle.g_session.proofs.AnswerLemmas.{ArePrinted, answers_print, printed_print}
use Rattle.g_session.proofs.BrokenLemmas.{broken_leads, broken_still, logged_all, put_none, shows_last, shows_of}
use Rattle.g_session.proofs.SoFarLemmas.{so_far_unclosed, with_left}
use Rattle.g_session.proofs.StandsLemmas.{Printed, printed_by}

-- what a console exposes after some text was printed
printed_of : (before after : Option Transcript) (more : List ℕ) → option_map written_of after ≡ with_more (option_map written_of before) more → (t : Transcript) → after ≡ Some t → Printed before more t
printed_of before after more put t is = printed_by before more t (ap (λ (a : Option Transcript). option_map written_of a) (sym is) ∙ put)

last_was : (before after : Option Transcript) (more : List ℕ) → option_map written_of after ≡ with_more (option_map written_of before) more → (typed : Typed)
    → ((t : Transcript) → before ≡ Some t → LastWas typed t) → (t : Transcript) → after ≡ Some t → LastWas typed t
last_was before after more put typed was t is =
    let p = printed_of before after more put t is in
    let (requests, count, all) = was p.was p.is in (requests, count, ap (λ (x : Transcript). x.requests) p.only ∙ all)

pub ended_print : (c : Course) (before after : Option Transcript) (more : List ℕ) → option_map written_of after ≡ with_more (option_map written_of before) more → HasEnded c before → HasEnded c after
ended_print course.Goes before after more put never = absurd never
ended_print course.Ends before after more put was = last_was before after more put End was
ended_print course.Fails before after more put was = last_was before after more put Failed was
ended_print (course.Breaks failure) before after more put was = tt

quiet_put : (before after : Option Transcript) → option_map written_of after ≡ option_map written_of before → option_map written_of after ≡ with_more (option_map written_of before) []
quiet_put before after quiet = quiet ∙ sym (with_more-nil (option_map written_of before))

true_false : true ≡ false → ⊥
true_false e = cc

-- any lines
abbrev pub Any : List Timed → Type 0
Any done = Unit {0}

module _ {F U : Type 0} (tariffs : Shared F (Bor Usage × Unit {0}) Charge) (tariff : F) (rules : Shared U (Bor Standing × Unit {0}) ℕ) (rule : U) (s : State) (real : Bool) (old : Devices) (from : Option Transcript) (log0 : Option (List ℕ)) where
  -- all lines that came are answered, and these were taken
  abbrev pub AfterLinesOf : (List Timed → Type 0) → Course → Option ℕ → Seen → ItemReader → ℕ → Option Transcript → Option (List ℕ) → Type 0
  AfterLinesOf P (course.Breaks failure) bad seen r number transcript log = Broken tariffs tariff rules rule s real old seen.system from transcript log0 log
  AfterLinesOf P other bad seen r number transcript log =
      HasEnded other transcript × ((done : List Timed) × P done × Stands tariffs tariff rules rule s real old done bad seen r number [] from transcript log0 log)

  abbrev pub AfterOpenOf : (List Timed → Type 0) → Course → Option ℕ → Seen → Option Transcript → Option (List ℕ) → Type 0
  AfterOpenOf P (course.Breaks failure) bad seen transcript log = Broken tariffs tariff rules rule s real old seen.system from transcript log0 log
  AfterOpenOf P other bad seen transcript log = HasEnded other transcript × ((done : List Timed) × P done × Last tariffs tariff rules rule s real old done bad seen from transcript log0 log)

  abbrev pub RestsOf : (List Timed → Type 0) → Course → Option ℕ → Seen → Option Transcript → Option (List ℕ) → Type 0
  RestsOf P (course.Breaks failure) bad seen transcript log = Broken tariffs tariff rules rule s real old seen.system from transcript log0 log
  RestsOf P other bad seen transcript log = HasEnded other transcript × ((end : AtEnd tariffs tariff rules rule s real old from log0 bad seen transcript log) × P end.done)

  -- whatever lines were taken
  pub any_lines : (c : Course) (bad : Option ℕ) (seen : Seen) (r : ItemReader) (number : ℕ) (transcript : Option Transcript) (log : Option (List ℕ))
      → AfterLines tariffs tariff rules rule s real old from log0 c bad seen r number transcript log → AfterLinesOf Any c bad seen r number transcript log
  any_lines (course.Breaks failure) bad seen r number transcript log b = b
  any_lines course.Goes bad seen r number transcript log (never, st) = absurd never
  any_lines course.Ends bad seen r number transcript log (ended, (done, st)) = (ended, (done, tt, st))
  any_lines course.Fails bad seen r number transcript log (ended, (done, st)) = (ended, (done, tt, st))

  pub rests_any : (c : Course) (bad : Option ℕ) (seen : Seen) (transcript : Option Transcript) (log : Option (List ℕ))
      → RestsOf Any c bad seen transcript log → RestsAtEnd tariffs tariff rules rule s real old from log0 c bad seen transcript log
  rests_any (course.Breaks failure) bad seen transcript log b = b
  rests_any course.Goes bad seen transcript log (never, rest) = absurd never
  rests_any course.Ends bad seen transcript log (ended, (end, any)) = (ended, end)
  rests_any course.Fails bad seen transcript log (ended, (end, any)) = (ended, end)

  -- some text more, or none
  last_print : (done : List Timed) (bad : Option ℕ) (seen : Seen) (before after : Option Transcript) (log : Option (List ℕ)) → Last tariffs tariff rules rule s real old done bad seen from before log0 log
      → option_map written_of after ≡ option_map written_of before → Last tariffs tariff rules rule s real old done bad seen from after log0 log
  last_print done bad seen before after log l quiet = record {
    so_far = l.so_far;
    skipped = l.skipped;
    rest_is = l.rest_is;
    lines = λ fresh t is. let p = by t is in ap (λ (x : Transcript). lines_typed x.requests) p.only ∙ l.lines fresh p.was p.is;
    text = λ fresh t is. let p = by t is in ap (λ (x : Transcript). x.text) p.only ∙ append-nil p.was.text ∙ l.text fresh p.was p.is;
    answers = λ fresh t is.
        let p = by t is in
        subst (λ (x : Transcript). AlwaysAnswers tariffs tariff rules rule s x) (sym p.only) (answers_print tariffs tariff rules rule s p.was [] (l.printed fresh p.was p.is) (l.answers fresh p.was p.is));
    printed = λ fresh t is. let p = by t is in subst (λ (x : Transcript). ArePrinted x) (sym p.only) (printed_print p.was [] (l.printed fresh p.was p.is));
  }
    where
      by : (t : Transcript) → after ≡ Some t → Printed before [] t
      by t is = printed_of before after [] (quiet_put before after quiet) t is

  pub broken_quiet : (seen : Seen) (before after : Option Transcript) (log : Option (List ℕ)) → Broken tariffs tariff rules rule s real old seen.system from before log0 log
      → option_map written_of after ≡ option_map written_of before → Broken tariffs tariff rules rule s real old seen.system from after log0 log
  broken_quiet seen before after log b quiet = record {
    said = b.said;
    now = b.now;
    comes = b.comes;
    more = b.more;
    one = b.one;
    moves = b.moves;
    last = b.last;
    run = b.run;
    counted = b.counted;
    stands = b.stands;
    rest = b.rest;
    told = b.told;
    owed = b.owed;
    own = b.own;
    lines = λ fresh t is. let p = by t is in let (later, all) = b.lines fresh p.was p.is in (later, ap (λ (x : Transcript). lines_typed x.requests) p.only ∙ all);
    put = λ fresh t is. let p = by t is in let (k, within, all) = b.put fresh p.was p.is in (k, within, ap (λ (x : Transcript). x.text) p.only ∙ append-nil p.was.text ∙ all);
    answers = λ fresh t is. let p = by t is in subst (λ (x : Transcript). AlwaysAnswers tariffs tariff rules rule s x) (same p.was t p.only) (b.answers fresh p.was p.is);
    log_is = b.log_is;
    safe = b.safe;
    left = b.left;
  }
    where
      by : (t : Transcript) → after ≡ Some t → Printed before [] t
      by t is = printed_of before after [] (quiet_put before after quiet) t is

      same : (was t : Transcript) → t ≡ Rattle.g_console.specs.Transcript.printing [] was → was ≡ t
      same was t only = ap (λ (x : List ℕ). let u : Transcript = record was { text = x } in u) (sym (append-nil was.text)) ∙ sym only

  -- no document is open
  last_start : (done : List Timed) (bad : Option ℕ) (seen : Seen) (r : ItemReader) (number : ℕ) (transcript : Option Transcript) (log : Option (List ℕ))
      → Stands tariffs tariff rules rule s real old done bad seen r number [] from transcript log0 log → r.place ≡ place.Start → Last tariffs tariff rules rule s real old done bad seen from transcript log0 log
  last_start done bad seen r number transcript log st at = record {
    so_far = st.so_far;
    skipped = [];
    rest_is = ((λ unskipped. refl), All-nil (λ (line : List ℕ). line ≢ codes "****"));
    lines = λ fresh t is. st.lines fresh t is ∙ ap (λ (ls : List (List ℕ)). st.so_far.now.lines ++ (ls ++ [])) none;
    text = st.text;
    answers = st.answers;
    printed = st.printed;
  }
    where
      none : st.pending ≡ []
      none = subst (λ (p : Place). HoldsAt p seen.count st.pending r) at st.holds

  -- a document is being skipped
  last_skipped : (done : List Timed) (bad : Option ℕ) (seen : Seen) (r : ItemReader) (number : ℕ) (transcript : Option Transcript) (log : Option (List ℕ))
      → Stands tariffs tariff rules rule s real old done bad seen r number [] from transcript log0 log → r.place ≡ place.Skipped → Last tariffs tariff rules rule s real old done bad seen from transcript log0 log
  last_skipped done bad seen r number transcript log st at = record {
    so_far = st.so_far;
    skipped = st.pending;
    rest_is = ((λ unskipped. absurd (true_false (sym (ap is_skipped at) ∙ sym st.skipping ∙ unskipped))), subst (λ (p : Place). HoldsAt p seen.count st.pending r) at st.holds);
    lines = λ fresh t is. st.lines fresh t is ∙ ap (λ (ls : List (List ℕ)). st.so_far.now.lines ++ ls) (append-nil st.pending);
    text = st.text;
    answers = st.answers;
    printed = st.printed;
  }

  -- an open one is refused
  last_open : (done : List Timed) (bad : Option ℕ) (seen : Seen) (r : ItemReader) (number k : ℕ) (before after : Option Transcript) (log : Option (List ℕ))
      → Stands tariffs tariff rules rule s real old done bad seen r number [] from before log0 log → r.place ≡ place.Document k → option_map written_of after ≡ with_more (option_map written_of before) (refusal_line k)
      → Last tariffs tariff rules rule s real old done (or_else bad (Some k)) seen from after log0 log
  last_open done bad seen r number k before after log st at put =
      let held = subst (λ (p : Place). HoldsAt p seen.count st.pending r) at st.holds in
      let c = so_far_unclosed tariffs tariff rules rule s real old done bad seen log0 log k st.pending st.so_far (st.skipping ∙ ap is_skipped at) st.going
      (some_lines seen.count st.pending r.timed r.text held) (inr (codes "****", end_follows seen.count st.pending r.timed r.text held)) (st.job k at) in record {
        so_far = c.so_far;
        skipped = [];
        rest_is = ((λ unskipped. refl), All-nil (λ (line : List ℕ). line ≢ codes "****"));
        lines = λ fresh t is.
            let p = printed_of before after (refusal_line k) put t is in
            ap (λ (x : Transcript). lines_typed x.requests) p.only ∙ st.lines fresh p.was p.is ∙ ap (λ (ls : List (List ℕ)). st.so_far.now.lines ++ ls) (append-nil st.pending)
            ∙ sym c.lines ∙ sym (append-nil c.so_far.now.lines);
        text = λ fresh t is.
            let p = printed_of before after (refusal_line k) put t is in
            ap (λ (x : Transcript). x.text) p.only ∙ ap (λ (x : List ℕ). x ++ refusal_line k) (st.text fresh p.was p.is) ∙ sym c.text;
        answers = λ fresh t is.
            let p = printed_of before after (refusal_line k) put t is in
            subst (λ (x : Transcript). AlwaysAnswers tariffs tariff rules rule s x) (sym p.only)
            (answers_print tariffs tariff rules rule s p.was (refusal_line k) (st.printed fresh p.was p.is) (st.answers fresh p.was p.is));
        printed = λ fresh t is.
            let p = printed_of before after (refusal_line k) put t is in
            subst (λ (x : Transcript). ArePrinted x) (sym p.only) (printed_print p.was (refusal_line k) (st.printed fresh p.was p.is));
      }

  module _ (P : List Timed → Type 0) (seen : Seen) (before after : Option Transcript) (log : Option (List ℕ)) (put put' : Option (List ℕ)) (is : put ≡ option_map written_of before) (is' : put' ≡ option_map written_of after)
      (bad : Option ℕ) (course' : Course) (bad' : Option ℕ) (faults faults' : ℕ) where
    -- nothing was refused
    open_none : (c : Course) → (HasEnded c after → ((done : List Timed) × P done × Last tariffs tariff rules rule s real old done bad seen from after log0 log) → AfterOpenOf P c bad seen after log) → HasEnded c before
        → ((done : List Timed) × P done × Last tariffs tariff rules rule s real old done bad seen from before log0 log) → RefusesNone c bad course' bad' put put' faults faults' → AfterOpenOf P course' bad' seen after log
    open_none c make ended (done, p, l) did =
        let quiet : option_map written_of after ≡ option_map written_of before = sym is' ∙ did.quiet ∙ is in
        subst (λ (d : Course). AfterOpenOf P d bad' seen after log) (sym did.course_is)
        (subst (λ (b : Option ℕ). AfterOpenOf P c b seen after log) (sym did.bad_is)
        (make (ended_print c before after [] (quiet_put before after quiet) ended) (done, p, last_print done bad seen before after log l quiet)))

    -- an open document was
    open_document : (c : Course) → (HasEnded c after → (b : Option ℕ) → ((done : List Timed) × P done × Last tariffs tariff rules rule s real old done b seen from after log0 log) → AfterOpenOf P c b seen after log) → HasEnded c before
        → (r : ItemReader) (number k : ℕ) (done : List Timed) → P done → Stands tariffs tariff rules rule s real old done bad seen r number [] from before log0 log → r.place ≡ place.Document k
        → RefusesOpen c k bad course' bad' put put' faults faults' → AfterOpenOf P course' bad' seen after log
    open_document c make ended r number k done p st at did =
        subst (λ (d : Course). AfterOpenOf P d bad' seen after log) (sym did.course_is)
        (subst (λ (b : Option ℕ). AfterOpenOf P (course_at_end c did.failure) b seen after log) (sym did.bad_is)
        (by did.failure (subst (λ (x : Option (List ℕ)). PutsBy did.failure (refusal_line k) x (option_map written_of after)) is
        (subst (λ (x : Option (List ℕ)). PutsBy did.failure (refusal_line k) put x) is' did.puts.put))))
      where
        by : (failure : Option Failure) → PutsBy failure (refusal_line k) (option_map written_of before) (option_map written_of after) → AfterOpenOf P (course_at_end c failure) (or_else bad (Some k)) seen after log
        by None whole =
            make (ended_print c before after (refusal_line k) whole ended) (or_else bad (Some k)) (done, p, last_open done bad seen r number k before after log st at whole)
        by (Some failure) part =
            broken_still tariffs tariff rules rule s real old done bad seen from before after log0 log log st.so_far (shows_of tariffs tariff rules rule s real old done bad seen r number [] from before log0 log st)
            (refusal_line k) (inr (inl (k, inr (sym (append-nil (refusal_line k)))))) part (logged_all tariffs tariff rules rule s real old done bad seen log0 log st.so_far)

    -- ALL LINES ARE OVER
    pub open_done : (c : Course) (q : Place) (r : ItemReader) (number : ℕ) → r.place ≡ q → AfterLinesOf P c bad seen r number before log
        → DidOpen c q bad course' bad' put put' faults faults' → AfterOpenOf P course' bad' seen after log
    open_done (course.Breaks failure) q r number at b did =
        subst (λ (d : Course). AfterOpenOf P d bad' seen after log) (sym did.course_is) (broken_quiet seen before after log b (sym is' ∙ did.quiet ∙ is))
    open_done course.Goes q r number at (never, stands) did = absurd never
    open_done course.Ends place.Start r number at (ended, (done, p, st)) did = open_none course.Ends (λ e l. (e, l)) ended (done, p, last_start done bad seen r number before log st at) did
    open_done course.Ends place.Skipped r number at (ended, (done, p, st)) did = open_none course.Ends (λ e l. (e, l)) ended (done, p, last_skipped done bad seen r number before log st at) did
    open_done course.Ends (place.Document k) r number at (ended, (done, p, st)) did = open_document course.Ends (λ e b l. (e, l)) ended r number k done p st at did
    open_done course.Fails place.Start r number at (ended, (done, p, st)) did = open_none course.Fails (λ e l. (e, l)) ended (done, p, last_start done bad seen r number before log st at) did
    open_done course.Fails place.Skipped r number at (ended, (done, p, st)) did = open_none course.Fails (λ e l. (e, l)) ended (done, p, last_skipped done bad seen r number before log st at) did
    open_done course.Fails (place.Document k) r number at (ended, (done, p, st)) did = open_document course.Fails (λ e b l. (e, l)) ended r number k done p st at did

  module _ (P : List Timed → Type 0) (bad : Option ℕ) (seen new : Seen) (before after : Option Transcript) (log : Option (List ℕ)) where
    rested : (c : Course) → ((HasEnded c after × ((end : AtEnd tariffs tariff rules rule s real old from log0 bad new after log) × P end.done)) → RestsOf P c bad new after log)
        → HasEnded c before → (done : List Timed) → P done → Last tariffs tariff rules rule s real old done bad seen from before log0 log → (failure : Option Failure)
        → PartGoesFrom tariffs tariff rules rule (Claimed real) IsAtRest [] [] seen failure new (option_map written_of before) (option_map written_of after)
        → RestsOf P (course_at_end c failure) bad new after log
    rested c make ended done p l None goes =
        let f = l.so_far in
        let a = goes (record f.now.world { lines = [] }) (with_left f.now.world [] seen f.matches) (record { phase = f.between.phase; turn = f.between.turn }) refl in
        make (ended_print c before after a.added a.put ended, (record { done = done; was = seen; middle = before; last = l; goes = goes }, p))
    rested c make ended done p l (Some failure) goes =
        let f = l.so_far in
        let b = goes (record f.now.world { lines = [] }) (with_left f.now.world [] seen f.matches) (record { phase = f.between.phase; turn = f.between.turn }) refl in
        broken_leads tariffs tariff rules rule s real old done bad seen from before after log0 log log f (shows_last tariffs tariff rules rule s real old done bad seen from before log0 log l) new.system [] (omega arith) tt
        b.moves b.next b.added b.leads b.added (inl refl) b.put (logged_all tariffs tariff rules rule s real old done bad seen log0 log f)

    -- NOTHING STEPS
    pub rest_at_end : (c : Course) (failure : Option Failure) (put put' : Option (List ℕ)) → put ≡ option_map written_of before → put' ≡ option_map written_of after → ((g : Failure) → c ≡ course.Breaks g → ⊥)
        → AfterOpenOf P c bad seen before log → PartGoesFrom tariffs tariff rules rule (Claimed real) IsAtRest [] [] seen failure new put put'
        → RestsOf P (course_at_end c failure) bad new after log
    rest_at_end c failure put put' is is' whole opened goes =
        by c whole opened
        (subst (λ (x : Option (List ℕ)). PartGoesFrom tariffs tariff rules rule (Claimed real) IsAtRest [] [] seen failure new x (option_map written_of after)) is
        (subst (λ (x : Option (List ℕ)). PartGoesFrom tariffs tariff rules rule (Claimed real) IsAtRest [] [] seen failure new put x) is' goes))
      where
        by : (c : Course) → ((g : Failure) → c ≡ course.Breaks g → ⊥) → AfterOpenOf P c bad seen before log → PartGoesFrom tariffs tariff rules rule (Claimed real) IsAtRest [] [] seen failure new (option_map written_of before) (option_map written_of after)
            → RestsOf P (course_at_end c failure) bad new after log
        by (course.Breaks g) whole opened goes = absurd (whole g refl)
        by course.Goes whole (never, l) goes = absurd never
        by course.Ends whole (ended, (done, p, l)) goes = rested course.Ends (λ x. x) ended done p l failure goes
        by course.Fails whole (ended, (done, p, l)) goes = rested course.Fails (λ x. x) ended done p l failure goes
