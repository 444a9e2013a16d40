-- The lines of a session: before the first one, after each, and when no more come.
-- serves: answer_lines (said), end_session (keeps, said), session (anew, answers, ends, survives), session_on, AnewLemmas
use Rattle.std.proofs.Common.{◌≡◌, ◌⊎◌, ◌+◌, ◌≤◌, ◌++◌, ℕ, Bool, true, false, List, [], ◌∷◌, All, Option, Some, None, option_map, length, append-nil, refl, sym, ◌∙◌, ap, subst, inl, inr, arith}
use Rattle.std.specs.Fn.{Shared}
use Rattle.std.proofs.lemmas.List.Elements.{All-nil}
use Rattle.std.proofs.lemmas.List.{length-append}
use denote.Ref.{Bor}
use Rattle.g_rules.specs.declared.tariff.Charge.{Charge}
use Rattle.g_rules.specs.declared.tariff.Usage.{Usage}
use Rattle.g_rules.specs.declared.rule.Standing.{Standing}
use Rattle.g_console.specs.Transcript.{Request, Requested, Transcript, blank, lines_typed}
use Rattle.g_io.specs.Streams.{with_more}
use Rattle.g_script.specs.declared.operator.Timed.{Timed}
use Rattle.g_store_meaning.specs.Safety.{AreSafe}
use Rattle.g_store_model.specs.State.{State}
use Rattle.g_run_model.specs.Devices.{Devices, StandFor}
use Rattle.g_run_model.specs.Moves.{Move}
use Rattle.g_run_model.specs.Top.{RunOf}
use Rattle.g_run_model.specs.World.{World}
use Rattle.g_run_model.proofs.StandLemmas.{read_as}
use Rattle.g_laws_runs.specs.BeginningAnew.{AreBlank, with_new_disc}
use Rattle.g_day.specs.declared.progress.Failure.{Failure}
use Rattle.g_day.specs.declared.progress.Failure.TheVariants as failures
use Rattle.g_day.specs.Parts.{Seen}
use Rattle.g_day.specs.Puts.{FaultCause}
use Rattle.g_day.proofs.PutLemmas.{with_more-nil}
use Rattle.g_typing.specs.Reader.{HoldsAt, is_skipped}
use Rattle.g_typing.specs.declared.item.ItemReader.{ItemReader}
use Rattle.g_typing.specs.declared.item.Place.{Place}
use Rattle.g_typing.specs.declared.item.Place.TheVariants as place
use Rattle.g_laws_sessions.specs.Session.{AlwaysAnswers, IsCutShort, Nothing, beginning, refusal_line}
use Rattle.g_run.specs.declared.status.Status.{Status}
use Rattle.g_run.specs.declared.status.Status.TheVariants.{NoMemory}
use Rattle.g_run.proofs.OverLemmas.{nothing_done}
use Rattle.g_session.specs.Ending.{AfterLines, DidOpen, EndCause, KeepsMany, RefusesNone, RefusesOpen, course_at_end, first_seen}
use Rattle.g_session.specs.Exchanging.{AfterExchange, failure_of}
use Rattle.g_session.specs.Parts.{Stands}
use Rattle.g_session.specs.Session.{EndsAnew, SessionSurvives}
use Rattle.g_session.specs.declared.exchange.Course.{Course}
use Rattle.g_session.specs.declared.exchange.Course.TheVariants as course
use Rattle.g_session.proofs.EndingLemmas.{AfterOpenOf, RestsOf}
use Rattle.g_session.proofs.KeepLemmas.{many_put}
use Rattle.g_session.proofs.SoFarLemmas.{so_far_start}

some_none : (failure : Failure) → (let some : Option Failure = Some failure in some ≡ None) → ⊥
some_none failure e = cc

goes_breaks : (failure : Failure) → course.Goes ≡ course.Breaks failure → ⊥
goes_breaks failure e = cc

ends_breaks : (failure : Failure) → course.Ends ≡ course.Breaks failure → ⊥
ends_breaks failure e = cc

fails_breaks : (failure : Failure) → course.Fails ≡ course.Breaks failure → ⊥
fails_breaks failure e = cc

start_document : (k : ℕ) → place.Start ≡ place.Document k → ⊥
start_document k e = cc

pub same_transcript : (t u : Transcript) → (let some : Option Transcript = Some t in some ≡ Some u) → t ≡ u
same_transcript t u e = cc

module _ {F U : Type 0} (tariffs : Shared F (Bor Usage × Unit {0}) Charge) (tariff : F) (rules : Shared U (Bor Standing × Unit {0}) ℕ) (rule : U) where
  -- nothing was requested
  pub blank_answers : (s : State) (t : Transcript) → t ≡ blank → AlwaysAnswers tariffs tariff rules rule s t
  blank_answers s t new lines text r =
      let none : List Request = [] in
      let parts : none ≡ r.before ++ r.request ∷ r.later = sym (ap (λ (x : Transcript). x.requests) new) ∙ r.requests in
      let long : 0 ≡ length (r.before ++ r.request ∷ r.later) = ap length parts in
      let sum : length (r.before ++ r.request ∷ r.later) ≡ length r.before + length (r.request ∷ r.later) = length-append r.before (r.request ∷ r.later) in absurd (let no : ⊥ = omega (arith, long, sum) in no)

  -- BEFORE THE FIRST LINE
  pub stands_start : (s : State) (real : Bool) (old : Devices) (transcript : Option Transcript) (log : Option (List ℕ)) (bad : Option ℕ) (day : Seen) (r : ItemReader) (number : ℕ) → StandFor old s
      → bad ≡ None → day ≡ first_seen old → r.place ≡ place.Start → number ≡ 1 → Stands tariffs tariff rules rule s real old [] bad day r number [] transcript transcript log log
  unfolding so_far_start
  stands_start s real old transcript log bad day r number stand bad_none day_is at one =
      subst (λ (b : Option ℕ). Stands tariffs tariff rules rule s real old [] b day r number [] transcript transcript log log) (sym bad_none)
      (subst (λ (d : Seen). Stands tariffs tariff rules rule s real old [] None d r number [] transcript transcript log log) (sym day_is) (record {
        so_far = so_far_start tariffs tariff rules rule s real old log (read_as old s stand);
        going = over;
        pending = [];
        holds = subst (λ (p : Place). HoldsAt p 0 [] r) (sym at) refl;
        skipping = skips ∙ sym (ap is_skipped at);
        job = λ k is. absurd (start_document k (sym at ∙ is));
        number_is = lines_number;
        lines = λ fresh t is. ap (λ (x : Transcript). lines_typed x.requests) (blank_is fresh t is) ∙ none_lines;
        text = λ fresh t is. ap (λ (x : Transcript). x.text) (blank_is fresh t is) ∙ none_text;
        answers = λ fresh t is. blank_answers s t (blank_is fresh t is);
        printed = λ fresh t is. subst (λ (x : Transcript). All (λ (q : Request). q.printed ≤ length x.text) x.requests) (sym (blank_is fresh t is)) (All-nil (λ (q : Request). q.printed ≤ 0));
      }))
    where
      blank_is : transcript ≡ Some blank → (t : Transcript) → transcript ≡ Some t → t ≡ blank
      blank_is fresh t is = same_transcript t blank (sym is ∙ fresh)

      over : Rattle.g_laws_sessions.specs.Session.is_over (so_far_start tariffs tariff rules rule s real old log (read_as old s stand)).said ≡ false
      over = refl

      skips : Rattle.g_laws_sessions.specs.Session.is_skipping (so_far_start tariffs tariff rules rule s real old log (read_as old s stand)).said ≡ false
      skips = refl

      lines_number : number ≡ length (so_far_start tariffs tariff rules rule s real old log (read_as old s stand)).now.lines + length (let none : List (List ℕ) = [] in none) + 1
      lines_number = one

      none_lines : lines_typed blank.requests ≡ (so_far_start tariffs tariff rules rule s real old log (read_as old s stand)).now.lines ++ ([] ++ [])
      none_lines = refl

      none_text : blank.text ≡ (so_far_start tariffs tariff rules rule s real old log (read_as old s stand)).now.text
      none_text = refl

  -- THE LINES STOP
  pub lines_stop : (s : State) (real : Bool) (old : Devices) (from : Option Transcript) (log0 : Option (List ℕ)) (c : Course) (bad : Option ℕ) (seen : Seen) (r : ItemReader) (number number' : ℕ) (transcript : Option Transcript) (log : Option (List ℕ))
      → (c ≡ course.Goes → ⊥) → number' ≡ number → AfterExchange tariffs tariff rules rule s real old from log0 c bad seen r number transcript log → AfterLines tariffs tariff rules rule s real old from log0 c bad seen r number' transcript log
  lines_stop s real old from log0 course.Goes bad seen r number number' transcript log stops same after = absurd (stops refl)
  lines_stop s real old from log0 course.Ends bad seen r number number' transcript log stops same (ended, (done, st)) =
      (ended, (done, subst (λ (n : ℕ). Stands tariffs tariff rules rule s real old done bad seen r n [] from transcript log0 log) (sym same) st))
  lines_stop s real old from log0 course.Fails bad seen r number number' transcript log stops same (ended, (done, st)) =
      (ended, (done, subst (λ (n : ℕ). Stands tariffs tariff rules rule s real old done bad seen r n [] from transcript log0 log) (sym same) st))
  lines_stop s real old from log0 (course.Breaks failure) bad seen r number number' transcript log stops same b = b

  -- the end broke off
  pub rests_broken : (P : List Timed → Type 0) (s : State) (real : Bool) (old : Devices) (from : Option Transcript) (log0 : Option (List ℕ)) (c : Course) (failure : Failure) (bad : Option ℕ) (seen : Seen) (transcript : Option Transcript) (log : Option (List ℕ))
      → c ≡ course.Breaks failure → AfterOpenOf tariffs tariff rules rule s real old from log0 P c bad seen transcript log → RestsOf tariffs tariff rules rule s real old from log0 P c bad seen transcript log
  rests_broken P s real old from log0 (course.Breaks came) failure bad seen transcript log is b = b
  rests_broken P s real old from log0 course.Goes failure bad seen transcript log is after = absurd (goes_breaks failure is)
  rests_broken P s real old from log0 course.Ends failure bad seen transcript log is after = absurd (ends_breaks failure is)
  rests_broken P s real old from log0 course.Fails failure bad seen transcript log is after = absurd (fails_breaks failure is)

  -- NOTHING WAS DONE, because memory ran out
  nothing_cut : (s : State) (old new : Devices) (t : Transcript) (log : Option (List ℕ)) → t ≡ blank → (moves : List Move) (last : World) → RunOf tariffs tariff rules rule [] None s old new moves last
      → IsCutShort tariffs tariff rules rule s old new t log log
  nothing_cut s old new t log new_is moves last run_of = record {
    said = Nothing;
    now = beginning s;
    comes = refl;
    later = [];
    lines = ap (λ (u : Transcript). lines_typed u.requests) new_is;
    more = [];
    one = omega arith;
    moves = moves;
    last = last;
    run_of = run_of;
    rest = last.text;
    told = refl;
    owed = last.text;
    own = inl refl;
    put = (0, omega arith, ap (λ (u : Transcript). u.text) new_is);
    log = inl (sym (with_more-nil log));
  }

  pub nothing_ends : (s : State) (old new : Devices) (t : Transcript) (log : Option (List ℕ)) → new ≡ old → StandFor old s → t ≡ blank → IsCutShort tariffs tariff rules rule s old new t log log
  nothing_ends s old new t log same stand new_is =
      let x = (nothing_done tariffs tariff rules rule [] None old new log 0 same).ends s stand in nothing_cut s old new t log new_is x.moves x.last x.run_of

  pub nothing_survives : (s : State) (old new : Devices) (t : Transcript) (log : Option (List ℕ)) → new ≡ old → AreSafe old.disc old.rack → StandFor old s → t ≡ blank → SessionSurvives tariffs tariff rules rule s old new t log log
  unfolding nothing_cut
  nothing_survives s old new t log same safe stand new_is =
      let x = (nothing_done tariffs tariff rules rule [] None old new log 0 same).survives safe s stand in (nothing_cut s old new t log new_is x.moves x.last x.run_of, x.left)

-- also on blank devices
module _ {F U : Type 0} (tariffs : Shared F (Bor Usage × Unit {0}) Charge) (tariff : F) (rules : Shared U (Bor Standing × Unit {0}) ℕ) (rule : U) where
  pub nothing_anew : (s : State) (old new : Devices) (t : Transcript) (log : Option (List ℕ)) → new ≡ old → AreBlank old → StandFor (with_new_disc old) s → t ≡ blank → EndsAnew tariffs tariff rules rule NoMemory s old new t log log
  nothing_anew s old new t log same are_blank stand new_is = inr (inl (record {
    answers = blank_answers tariffs tariff rules rule s t new_is;
    ends = nothing_ends tariffs tariff rules rule s (with_new_disc old) (with_new_disc new) t log (ap with_new_disc same) stand new_is;
    blank = subst AreBlank (sym same) are_blank;
    unwell = λ lines cut begin well. cut;
  }))

  -- the same devices
  pub anew_same : (status : Status) (s : State) (old old' new new' : Devices) (t : Transcript) (before after : Option (List ℕ)) → old' ≡ old → new ≡ new' → EndsAnew tariffs tariff rules rule status s old' new' t before after
      → EndsAnew tariffs tariff rules rule status s old new t before after
  anew_same status s old old' new new' t before after was now ends =
      subst (λ (d : Devices). EndsAnew tariffs tariff rules rule status s d new t before after) was
      (subst (λ (d : Devices). EndsAnew tariffs tariff rules rule status s old' d t before after) (sym now) ends)

  pub survives_carried : (s : State) (old old' new new' : Devices) (t : Transcript) (before after : Option (List ℕ)) → old' ≡ old → new ≡ new' → SessionSurvives tariffs tariff rules rule s old' new' t before after
      → SessionSurvives tariffs tariff rules rule s old new t before after
  survives_carried s old old' new new' t before after was now survives =
      subst (λ (d : Devices). SessionSurvives tariffs tariff rules rule s d new t before after) was
      (subst (λ (d : Devices). SessionSurvives tariffs tariff rules rule s old' d t before after) (sym now) survives)

pub no_failure : (c : Course) → ((g : Failure) → c ≡ course.Breaks g → ⊥) → failure_of c ≡ None
no_failure (course.Breaks g) whole = absurd (whole g refl)
no_failure course.Goes whole = refl
no_failure course.Ends whole = refl
no_failure course.Fails whole = refl

-- an open document is refused, of all devices
pub open_keeps : (start seen : Seen) (c : Course) (p : Place) (bad : Option ℕ) (course' : Course) (bad' : Option ℕ) (before after : Option (List ℕ)) (faults faults' : ℕ)
    → DidOpen c p bad course' bad' before after faults faults' → KeepsMany start c seen → KeepsMany start course' seen
open_keeps start seen (course.Breaks came) p bad course' bad' before after faults faults' did many = subst (λ (k : Course). KeepsMany start k seen) (sym did.course_is) many
open_keeps start seen course.Goes place.Start bad course' bad' before after faults faults' did many = subst (λ (k : Course). KeepsMany start k seen) (sym did.course_is) many
open_keeps start seen course.Goes place.Skipped bad course' bad' before after faults faults' did many = subst (λ (k : Course). KeepsMany start k seen) (sym did.course_is) many
open_keeps start seen course.Goes (place.Document k) bad course' bad' before after faults faults' did many =
    subst (λ (k : Course). KeepsMany start k seen) (sym did.course_is) (many_put start seen course.Goes did.failure (refusal_line k) before after faults faults' refl many did.puts)
open_keeps start seen course.Ends place.Start bad course' bad' before after faults faults' did many = subst (λ (k : Course). KeepsMany start k seen) (sym did.course_is) many
open_keeps start seen course.Ends place.Skipped bad course' bad' before after faults faults' did many = subst (λ (k : Course). KeepsMany start k seen) (sym did.course_is) many
open_keeps start seen course.Ends (place.Document k) bad course' bad' before after faults faults' did many =
    subst (λ (k : Course). KeepsMany start k seen) (sym did.course_is) (many_put start seen course.Ends did.failure (refusal_line k) before after faults faults' refl many did.puts)
open_keeps start seen course.Fails place.Start bad course' bad' before after faults faults' did many = subst (λ (k : Course). KeepsMany start k seen) (sym did.course_is) many
open_keeps start seen course.Fails place.Skipped bad course' bad' before after faults faults' did many = subst (λ (k : Course). KeepsMany start k seen) (sym did.course_is) many
open_keeps start seen course.Fails (place.Document k) bad course' bad' before after faults faults' did many =
    subst (λ (k : Course). KeepsMany start k seen) (sym did.course_is) (many_put start seen course.Fails did.failure (refusal_line k) before after faults faults' refl many did.puts)

-- the faults of the end: none before the system runs
module _ (bad : Option ℕ) (course' : Course) (bad' : Option ℕ) (before after : Option (List ℕ)) (a b d : ℕ) (whole : (g : Failure) → course' ≡ course.Breaks g → ⊥) (failure : Option Failure) (cause : FaultCause failure b d) where
  plain : (c : Course) → failure_of c ≡ None → course' ≡ c → b ≡ a → FaultCause (failure_of (course_at_end course' failure)) a d × (failure_of (course_at_end course' failure) ≡ None → course_at_end course' failure ≡ c)
  plain c none same still = by failure cause
    where
      by : (f : Option Failure) → FaultCause f b d → FaultCause (failure_of (course_at_end course' f)) a d × (failure_of (course_at_end course' f) ≡ None → course_at_end course' f ≡ c)
      by None rest = (subst (λ (f : Option Failure). FaultCause f a d) (sym (ap failure_of same ∙ none)) (rest ∙ still), λ isnt. same)
      by (Some g) rest = (subst (λ (n : ℕ). FaultCause (Some g) n d) still rest, λ isnt. absurd (some_none g isnt))

  opened : (c : Course) (k : ℕ) → failure_of c ≡ None → RefusesOpen c k bad course' bad' before after a b → (course' ≡ c) × (b ≡ a)
  opened c k none did = by did.failure did.course_is did.puts.cause
    where
      by : (f : Option Failure) → course' ≡ course_at_end c f → FaultCause f a b → (course' ≡ c) × (b ≡ a)
      by None is same = (is, same)
      by (Some g) is rose = absurd (whole g is)

  pub end_cause : (c : Course) (p : Place) → DidOpen c p bad course' bad' before after a b → EndCause c (course_at_end course' failure) a d
  end_cause (course.Breaks came) p did = absurd (whole came did.course_is)
  end_cause course.Goes place.Start did = plain course.Goes refl did.course_is did.still
  end_cause course.Goes place.Skipped did = plain course.Goes refl did.course_is did.still
  end_cause course.Goes (place.Document k) did = let (same, still) = opened course.Goes k refl did in plain course.Goes refl same still
  end_cause course.Ends place.Start did = plain course.Ends refl did.course_is did.still
  end_cause course.Ends place.Skipped did = plain course.Ends refl did.course_is did.still
  end_cause course.Ends (place.Document k) did = let (same, still) = opened course.Ends k refl did in plain course.Ends refl same still
  end_cause course.Fails place.Start did = plain course.Fails refl did.course_is did.still
  end_cause course.Fails place.Skipped did = plain course.Fails refl did.course_is did.still
  end_cause course.Fails (place.Document k) did = let (same, still) = opened course.Fails k refl did in plain course.Fails refl same still
