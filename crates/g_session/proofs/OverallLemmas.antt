-- A whole session: what its lines, its end and its last text give together.
-- serves: session_on
use Rattle.std.proofs.Common.{◌≡◌, ◌⊎◌, ◌+◌, ◌≤◌, ◌++◌, ℕ, Bool, true, false, List, [], ◌∷◌, Option, Some, None, option_map, length, map, take, append-nil, refl, sym, ◌∙◌, ap, subst, inl, inr, arith}
use Rattle.std.specs.Prelude.{max, min, ◌^◌, ◌-◌}
use Rattle.std.specs.Fn.{Shared}
use Rattle.std.proofs.lemmas.List.{take_all}
use denote.Ref.{Bor}
use Rattle.g_base.specs.Counts.{Rose, one_more}
use Rattle.g_rules.specs.declared.tariff.Charge.{Charge}
use Rattle.g_rules.specs.declared.tariff.Usage.{Usage}
use Rattle.g_rules.specs.declared.rule.Standing.{Standing}
use Rattle.g_console.specs.Transcript.{Transcript, blank, written_of}
use Rattle.g_io.specs.Streams.{HasPutPart, with_more}
use Rattle.g_script.specs.Script.{timed_said}
use Rattle.g_script.specs.declared.operator.Timed.{Timed}
use Rattle.g_store_meaning.specs.Safety.{AreSafe}
use Rattle.g_store_model.specs.State.{State}
use Rattle.g_run_model.specs.Devices.{Devices, StandFor}
use Rattle.g_run_model.specs.Texts.{closing, waiting_files}
use Rattle.g_laws_runs.specs.BeginningAnew.{AreBlank, BeginAnew, NoDiscFault, with_new_disc}
use Rattle.g_laws_runs.specs.Filestores.{HasFilestore}
use Rattle.g_laws_runs.proofs.FilestoreLemmas.{devices_keep}
use Rattle.g_day.specs.declared.progress.Failure.{Failure}
use Rattle.g_day.specs.declared.progress.Failure.TheVariants as failures
use Rattle.g_day.specs.BeginningAnew.{IsBlank, beside, beside_new}
use Rattle.g_day.specs.Parts.{Seen}
use Rattle.g_day.specs.Puts.{FaultCause, Puts, PutsBy}
use Rattle.g_day.specs.System.{BelongTogether, SameDevices, devices_in}
use Rattle.g_day.proofs.LabelLemmas.{same_itself}
use Rattle.g_day.proofs.PutLemmas.{same_grown}
use Rattle.g_ticks.specs.Parts.{DumpsKept}
use Rattle.g_laws_sessions.specs.Session.{AlwaysAnswers, IsOver, taken}
use Rattle.g_run.specs.ScriptEnd.{ClosesBy, TakenDown}
use Rattle.g_run.proofs.FilestoreLemmas.{state_there}
use Rattle.g_run.proofs.AnewLemmas.{blank_devices}
use Rattle.g_run.proofs.OverLemmas.{belongs_of, safe_of, taken_beside}
use Rattle.g_store_model.specs.CallStep.{down}
use Rattle.g_run_model.proofs.StandLemmas.{read_as}
use Rattle.g_session.specs.Anew.{Elsewhere, NoneYet, RestsAnew, RestsAside}
use Rattle.g_session.specs.Ending.{AtEnd, DidSession, EndCause, KeepsMany, RestsAtEnd, first_seen, session_status}
use Rattle.g_session.specs.Exchanging.{CourseCause, HasEnded, failure_of}
use Rattle.g_session.specs.Parts.{Broken}
use Rattle.g_session.specs.Session.{EndsAnew, EndsSession, IsOfSession, SessionCause, StaysBlank, TookFormat, WentElsewhere}
use Rattle.g_session.specs.declared.exchange.Course.{Course}
use Rattle.g_session.specs.declared.exchange.Course.TheVariants as course
use Rattle.g_session.proofs.AnewLemmas.{elsewhere_on}
use Rattle.g_session.proofs.GrowLemmas.{closes_grows, grows_print}
use Rattle.g_session.proofs.EndLemmas.{broken_survives, cut_short, down_run, end_broken, session_over}
use Rattle.g_session.proofs.EndingLemmas.{broken_quiet, ended_print}

-- a text that was printed whole was printed in part
put_by : (failure : Option Failure) (text : List ℕ) (before after : Option (List ℕ)) → PutsBy failure text before after → HasPutPart before text after
put_by None text before after whole =
    (length text, (let same : length text ≤ length text = omega arith in same), whole ∙ ap (λ (x : List ℕ). with_more before x) (sym (take_all (length text) text (omega arith))))
put_by (Some failure) text before after part = part

-- a count that rose twice rose
rose_then : (a b c : ℕ) → Rose a b → Rose b c → Rose a c
rose_then a b c first later = record {
  more =
      let one : one_more a ≤ b = first.more in
      let two : one_more b ≤ c = later.more in
      let three : b ≤ one_more b = omega arith in omega (arith, one, two, three);
}

none_some : (failure : Failure) → (let some : Option Failure = Some failure in some ≡ None) → ⊥
none_some failure e = cc

same_failure : (f g : Failure) → (let some : Option Failure = Some f in some ≡ Some g) → f ≡ g
same_failure f g e = cc

of_session : (failure : Option Failure) (c : Course) (bad : Option ℕ) → IsOfSession (session_status failure c bad)
of_session (Some failures.Output) c bad = tt
of_session (Some failures.Memory) c bad = tt
of_session None course.Goes None = tt
of_session None course.Goes (Some line) = tt
of_session None course.Ends None = tt
of_session None course.Ends (Some line) = tt
of_session None course.Fails bad = tt
of_session None (course.Breaks failure) None = tt
of_session None (course.Breaks failure) (Some line) = tt

-- the faults of the end and of the last text
closed_cause : (came failure : Option Failure) (text : List ℕ) (before after : Option (List ℕ)) (a b c : ℕ) → FaultCause came a b → ClosesBy came text failure before after b c → FaultCause failure a c
closed_cause None failure text before after a b c same puts = subst (λ (n : ℕ). FaultCause failure n c) same puts.cause
closed_cause (Some came) failure text before after a b c cause (is, quiet, still) =
    subst (λ (f : Option Failure). FaultCause f a c) (sym is) (subst (λ (n : ℕ). FaultCause (Some came) a n) (sym still) cause)

-- no failure came before the last text
came_none : (came failure : Option Failure) (text : List ℕ) (before after : Option (List ℕ)) (b c : ℕ) → ClosesBy came text failure before after b c → failure ≡ None → came ≡ None
came_none None failure text before after b c puts none = refl
came_none (Some came) failure text before after b c (is, quiet, still) none = absurd (none_some came (sym is ∙ none))

module _ (bad : Option ℕ) (a b d logged logged' : ℕ) where
  -- no request failed
  plain_cause : (c : Course) (failure : Option Failure) → (failure ≡ None → (c ≡ course.Ends) ⊎ (c ≡ course.Goes)) → b ≡ a → logged' ≡ logged → FaultCause failure b d → SessionCause (session_status failure c bad) a d logged logged'
  plain_cause c (Some failures.Output) ends still log rose = inl (subst (λ (n : ℕ). Rose n d) still rose, log)
  plain_cause c (Some failures.Memory) ends still log same = (inl (same ∙ still), log)
  plain_cause c None ends still log same = by (ends refl)
    where
      by : (c ≡ course.Ends) ⊎ (c ≡ course.Goes) → SessionCause (session_status None c bad) a d logged logged'
      by (inl is) = subst (λ (x : Course). SessionCause (session_status None x bad) a d logged logged') (sym is) (ended bad)
        where
          ended : (k : Option ℕ) → SessionCause (session_status None course.Ends k) a d logged logged'
          ended None = (same ∙ still, log)
          ended (Some line) = (same ∙ still, log)
      by (inr is) = subst (λ (x : Course). SessionCause (session_status None x bad) a d logged logged') (sym is) (goes bad)
        where
          goes : (k : Option ℕ) → SessionCause (session_status None course.Goes k) a d logged logged'
          goes None = (same ∙ still, log)
          goes (Some line) = (same ∙ still, log)

  -- one did
  failed_cause : (c : Course) (failure : Option Failure) → (failure ≡ None → c ≡ course.Fails) → Rose a b → logged' ≡ logged → FaultCause failure b d → SessionCause (session_status failure c bad) a d logged logged'
  failed_cause c (Some failures.Output) fails first log rose = inl (rose_then a b d first rose, log)
  failed_cause c (Some failures.Memory) fails first log same = (inr (subst (λ (n : ℕ). Rose a n) (sym same) first), log)
  failed_cause c None fails first log same =
      subst (λ (x : Course). SessionCause (session_status None x bad) a d logged logged') (sym (fails refl)) (subst (λ (n : ℕ). Rose a n) (sym same) first, log)

  -- the lines broke off
  broke_cause : (c : Course) (came failure : Failure) → failure ≡ came → CourseCause (course.Breaks came) a b logged logged' → d ≡ b → SessionCause (session_status (Some failure) c bad) a d logged logged'
  broke_cause c failures.Output failures.Output same cause still = subst (λ (n : ℕ). (Rose a n × (logged' ≡ logged)) ⊎ ((n ≡ a) × Rose logged logged')) (sym still) cause
  broke_cause c failures.Memory failures.Memory same cause still = (inl (still ∙ cause.0), cause.1)
  broke_cause c failures.Output failures.Memory same cause still = absurd (let no : ⊥ = cc in no)
  broke_cause c failures.Memory failures.Output same cause still = absurd (let no : ⊥ = cc in no)

-- ALL FAULTS of a session
session_cause : (first c : Course) (failure : Option Failure) (bad : Option ℕ) (text : List ℕ) (before after : Option (List ℕ)) (a b mid d logged logged' : ℕ) → CourseCause first a b logged logged' → EndCause first c b mid
    → ClosesBy (failure_of c) text failure before after mid d → SessionCause (session_status failure c bad) a d logged logged'
session_cause (course.Breaks came) c failure bad text before after a b mid d logged logged' cause (is, still) closes =
    let (failed, quiet, same) = subst (λ (x : Course). ClosesBy (failure_of x) text failure before after mid d) is closes in
    subst (λ (f : Option Failure). SessionCause (session_status f c bad) a d logged logged') (sym failed) (broke_cause bad a b d logged logged' c came came refl cause (same ∙ still))
session_cause course.Goes c failure bad text before after a b mid d logged logged' cause (end, is) closes =
    plain_cause bad a b d logged logged' c failure (λ none. inr (is (came_none (failure_of c) failure text before after mid d closes none))) cause.0 cause.1
    (closed_cause (failure_of c) failure text before after b mid d end closes)
session_cause course.Ends c failure bad text before after a b mid d logged logged' cause (end, is) closes =
    plain_cause bad a b d logged logged' c failure (λ none. inl (is (came_none (failure_of c) failure text before after mid d closes none))) cause.0 cause.1
    (closed_cause (failure_of c) failure text before after b mid d end closes)
session_cause course.Fails c failure bad text before after a b mid d logged logged' cause (end, is) closes =
    failed_cause bad a b d logged logged' c failure (λ none. is (came_none (failure_of c) failure text before after mid d closes none)) cause.0 cause.1
    (closed_cause (failure_of c) failure text before after b mid d end closes)

module _ {F U : Type 0} (tariffs : Shared F (Bor Usage × Unit {0}) Charge) (tariff : F) (rules : Shared U (Bor Standing × Unit {0}) ℕ) (rule : U) where
  module _ (s : State) (real : Bool) (old new : Devices) (from before after : Option Transcript) (log0 log : Option (List ℕ)) (bad : Option ℕ) (seen : Seen) (taken_down : TakenDown seen.system new) where
    -- whatever ended it, its moves are those of a run
    all_broken : (c : Course) (failure : Option Failure) (mid d : ℕ) → RestsAtEnd tariffs tariff rules rule s real old from log0 c bad seen before log
        → ClosesBy (failure_of c) (waiting_files seen.crew.jobs ++ closing None) failure (option_map written_of before) (option_map written_of after) mid d
        → Broken tariffs tariff rules rule s real old seen.system from after log0 log
    all_broken (course.Breaks came) failure mid d b (is, quiet, still) = broken_quiet tariffs tariff rules rule s real old from log0 seen before after log b quiet
    all_broken course.Goes failure mid d (never, at) puts = absurd never
    all_broken course.Ends failure mid d (ended, at) puts =
        end_broken tariffs tariff rules rule s real old bad seen from before after log0 log at (put_by failure (waiting_files seen.crew.jobs ++ closing None) (option_map written_of before) (option_map written_of after) puts.put)
    all_broken course.Fails failure mid d (ended, at) puts =
        end_broken tariffs tariff rules rule s real old bad seen from before after log0 log at (put_by failure (waiting_files seen.crew.jobs ++ closing None) (option_map written_of before) (option_map written_of after) puts.put)

    ends_by : (c : Course) (failure : Option Failure) (mid d : ℕ) → RestsAtEnd tariffs tariff rules rule s real old from log0 c bad seen before log
        → ClosesBy (failure_of c) (waiting_files seen.crew.jobs ++ closing None) failure (option_map written_of before) (option_map written_of after) mid d
        → from ≡ Some blank → (t : Transcript) → after ≡ Some t → EndsSession tariffs tariff rules rule (session_status failure c bad) s old new t log0 log
    ends_by c (Some failures.Output) mid d rests closes fresh t is =
        cut_short tariffs tariff rules rule s real old new seen.system from after log0 log t (all_broken c (Some failures.Output) mid d rests closes) taken_down fresh is
    ends_by c (Some failures.Memory) mid d rests closes fresh t is =
        cut_short tariffs tariff rules rule s real old new seen.system from after log0 log t (all_broken c (Some failures.Memory) mid d rests closes) taken_down fresh is
    ends_by (course.Breaks came) None mid d b (is_failure, quiet, still) fresh t is = absurd (none_some came (sym is_failure))
    ends_by course.Goes None mid d (never, at) puts fresh t is = absurd never
    ends_by course.Ends None mid d (ended, at) puts fresh t is =
        by bad (session_over tariffs tariff rules rule s real old new bad seen from before after log0 log t at puts.put taken_down fresh is)
      where
        by : (k : Option ℕ) → Rattle.g_laws_sessions.specs.Session.IsOver tariffs tariff rules rule s old new t log0 log k → EndsSession tariffs tariff rules rule (session_status None course.Ends k) s old new t log0 log
        by None over = (ended_print course.Ends before after (waiting_files seen.crew.jobs ++ closing None) puts.put ended t is, over)
        by (Some line) over = (ended_print course.Ends before after (waiting_files seen.crew.jobs ++ closing None) puts.put ended t is, over)
    ends_by course.Fails None mid d (ended, at) puts fresh t is = (
      ended_print course.Fails before after (waiting_files seen.crew.jobs ++ closing None) puts.put ended t is,
      (bad, session_over tariffs tariff rules rule s real old new bad seen from before after log0 log t at puts.put taken_down fresh is),
    )

  -- ON BLANK DEVICES
  module _ (s : State) (old new : Devices) (from before after : Option Transcript) (log0 log : Option (List ℕ)) (bad : Option ℕ) (seen : Seen) (taken_down : TakenDown seen.system new) (c : Course) (mid d : ℕ)
      (fresh : from ≡ Some blank) (t : Transcript) (is : after ≡ Some t) where
    abbrev Closed : Option Failure → Type 0
    Closed failure = ClosesBy (failure_of c) (waiting_files seen.crew.jobs ++ closing None) failure (option_map written_of before) (option_map written_of after) mid d

    -- a FORMAT took effect
    ends_took : (failure : Option Failure) → RestsAtEnd tariffs tariff rules rule s false (with_new_disc old) from log0 c bad seen before log → Closed failure → TookFormat tariffs tariff rules rule (session_status failure c bad) s old new t log0 log
    ends_took failure rests closes =
        let x = all_broken s false (with_new_disc old) new from before after log0 log bad seen taken_down c failure mid d rests closes in
        let r = down_run tariffs tariff rules rule (taken x.said ++ map timed_said x.more) s (with_new_disc old) seen.system new x.moves x.last x.run x.counted x.stands taken_down in
        let stands = read_as new (down x.last.store) r.stands in record {
          answers = x.answers fresh t is;
          ends = ends_by s false (with_new_disc old) new from before after log0 log bad seen taken_down c failure mid d rests closes fresh t is;
          together = record { told = stands.told; belong = stands.belong };
        }

    -- none did
    blank_end : IsBlank seen.system → AreBlank new
    blank_end empty = subst AreBlank (sym taken_down.devices) (blank_devices seen.system empty)

    aside_cut : (came : Failure) → IsBlank seen.system → RestsAtEnd tariffs tariff rules rule s false (with_new_disc old) from log0 c bad (beside seen) before log → Closed (Some came)
        → StaysBlank tariffs tariff rules rule (session_status (Some came) c bad) s old new t log0 log
    aside_cut came empty rests closes =
        let down_is = taken_beside seen.system new taken_down empty in
        let x = all_broken s false (with_new_disc old) (with_new_disc new) from before after log0 log bad (beside seen) down_is c (Some came) mid d rests closes in by came x
      where
        by : (f : Failure) → Broken tariffs tariff rules rule s false (with_new_disc old) (beside_new seen.system) from after log0 log → StaysBlank tariffs tariff rules rule (session_status (Some f) c bad) s old new t log0 log
        by failures.Output x = record {
          answers = x.answers fresh t is;
          ends = cut_short tariffs tariff rules rule s false (with_new_disc old) (with_new_disc new) (beside_new seen.system) from after log0 log t x (taken_beside seen.system new taken_down empty) fresh is;
          blank = blank_end empty;
          unwell = λ lines cut begin well. cut;
        }
        by failures.Memory x = record {
          answers = x.answers fresh t is;
          ends = cut_short tariffs tariff rules rule s false (with_new_disc old) (with_new_disc new) (beside_new seen.system) from after log0 log t x (taken_beside seen.system new taken_down empty) fresh is;
          blank = blank_end empty;
          unwell = λ lines cut begin well. cut;
        }

    module _ (end : AtEnd tariffs tariff rules rule s false (with_new_disc old) from log0 bad (beside seen) before log) (n : NoneYet old end.done seen)
        (put : option_map written_of after ≡ with_more (option_map written_of before) (waiting_files seen.crew.jobs ++ closing None)) where
      abbrev over : IsOver tariffs tariff rules rule s (with_new_disc old) (with_new_disc new) t log0 log bad
      over = session_over tariffs tariff rules rule s false (with_new_disc old) (with_new_disc new) bad (beside seen) from before after log0 log t end put (taken_beside seen.system new taken_down n.blank) fresh is

      answered : AlwaysAnswers tariffs tariff rules rule s t
      answered = (end_broken tariffs tariff rules rule s false (with_new_disc old) bad (beside seen) from before after log0 log end
          (put_by None (waiting_files seen.crew.jobs ++ closing None) (option_map written_of before) (option_map written_of after) put)).answers fresh t is

      unwell_over : (lines : List Timed) → lines ≡ taken over.said → BeginAnew lines → NoDiscFault old new → ⊥
      unfolding session_over
      unwell_over lines same begin well = n.unwell (subst BeginAnew (same ∙ end.last.so_far.taken_is) begin) (subst (λ (x : Devices). NoDiscFault old x) taken_down.devices well)

    -- an item of another kind was typed
    went : Elsewhere tariffs tariff rules rule s old seen.system from before log0 log → (failure : Option Failure) → Closed failure → WentElsewhere tariffs tariff rules rule s old new t log0 log
    went e failure closes =
        let x = elsewhere_on tariffs tariff rules rule s old from log0 seen.system seen.system before after log log e
        (grows_print before after (closes_grows (failure_of c) (waiting_files seen.crew.jobs ++ closing None) failure (option_map written_of before) (option_map written_of after) mid d closes))
        (same_grown log log refl) (same_itself (devices_in seen.system)) in record {
          said = x.said;
          now = x.now;
          comes = x.comes;
          mid = x.mid;
          run_of = x.run_of;
          blank = x.was_blank;
          unwell = x.unwell;
          same = subst (λ (y : Devices). SameDevices x.mid y) (sym taken_down.devices) x.same;
          next = x.next;
          other = x.other;
          when = x.when;
          typed = x.typed;
          is_typed = x.is_typed;
          lines = x.lines fresh t is;
          text = x.text fresh t is;
          log = x.log_grows;
        }

  module _ (s : State) (old new : Devices) (from before after : Option Transcript) (log0 log : Option (List ℕ)) (seen : Seen) (taken_down : TakenDown seen.system new) (mid d : ℕ)
      (fresh : from ≡ Some blank) (t : Transcript) (is : after ≡ Some t) where
    ends_aside : (bad : Option ℕ) (c : Course) (failure : Option Failure) → RestsAside tariffs tariff rules rule s old from log0 c bad seen before log
        → ClosesBy (failure_of c) (waiting_files seen.crew.jobs ++ closing None) failure (option_map written_of before) (option_map written_of after) mid d
        → StaysBlank tariffs tariff rules rule (session_status failure c bad) s old new t log0 log
    ends_aside bad (course.Breaks came) None (empty, b) (is_failure, quiet, still) = absurd (none_some came (sym is_failure))
    ends_aside bad (course.Breaks came) (Some failure) (empty, b) closes = aside_cut s old new from before after log0 log bad seen taken_down (course.Breaks came) mid d fresh t is failure empty b closes
    ends_aside bad course.Goes failure (never, end) closes = absurd never
    ends_aside bad course.Ends (Some failure) (ended, (end, n)) closes = aside_cut s old new from before after log0 log bad seen taken_down course.Ends mid d fresh t is failure n.blank (ended, end) closes
    ends_aside None course.Ends None (ended, (end, n)) closes = record {
      answers = answered s old new from before after log0 log None seen taken_down course.Ends mid d fresh t is end n closes.put;
      ends = (ended_print course.Ends before after (waiting_files seen.crew.jobs ++ closing None) closes.put ended t is, over s old new from before after log0 log None seen taken_down course.Ends mid d fresh t is end n closes.put);
      blank = subst AreBlank (sym taken_down.devices) (blank_devices seen.system n.blank);
      unwell = unwell_over s old new from before after log0 log None seen taken_down course.Ends mid d fresh t is end n closes.put;
    }
    ends_aside (Some line) course.Ends None (ended, (end, n)) closes = record {
      answers = answered s old new from before after log0 log (Some line) seen taken_down course.Ends mid d fresh t is end n closes.put;
      ends = (ended_print course.Ends before after (waiting_files seen.crew.jobs ++ closing None) closes.put ended t is, over s old new from before after log0 log (Some line) seen taken_down course.Ends mid d fresh t is end n closes.put);
      blank = subst AreBlank (sym taken_down.devices) (blank_devices seen.system n.blank);
      unwell = unwell_over s old new from before after log0 log (Some line) seen taken_down course.Ends mid d fresh t is end n closes.put;
    }
    ends_aside bad course.Fails (Some failure) (ended, (end, n)) closes = aside_cut s old new from before after log0 log bad seen taken_down course.Fails mid d fresh t is failure n.blank (ended, end) closes
    ends_aside bad course.Fails None (ended, (end, n)) closes = record {
      answers = answered s old new from before after log0 log bad seen taken_down course.Fails mid d fresh t is end n closes.put;
      ends = (ended_print course.Fails before after (waiting_files seen.crew.jobs ++ closing None) closes.put ended t is, (bad, over s old new from before after log0 log bad seen taken_down course.Fails mid d fresh t is end n closes.put));
      blank = subst AreBlank (sym taken_down.devices) (blank_devices seen.system n.blank);
      unwell = unwell_over s old new from before after log0 log bad seen taken_down course.Fails mid d fresh t is end n closes.put;
    }

    ends_anew : (bad : Option ℕ) (c : Course) (failure : Option Failure) → RestsAnew tariffs tariff rules rule s old from log0 c bad seen before log
        → ClosesBy (failure_of c) (waiting_files seen.crew.jobs ++ closing None) failure (option_map written_of before) (option_map written_of after) mid d
        → EndsAnew tariffs tariff rules rule (session_status failure c bad) s old new t log0 log
    ends_anew bad c failure (inl a) closes = inr (inl (ends_aside bad c failure a closes))
    ends_anew bad c failure (inr (inl rests)) closes = inl (ends_took s old new from before after log0 log bad seen taken_down c mid d fresh t is failure rests closes)
    ends_anew bad c failure (inr (inr e)) closes = inr (inr (went s old new from before after log0 log bad seen taken_down c mid d fresh t is e failure closes))

  -- THE SESSION
  pub did_session : (old new : Devices) (from before after : Option Transcript) (log0 log : Option (List ℕ)) (first c : Course) (bad : Option ℕ) (seen : Seen) (failure : Option Failure)
      (put put' : Option (List ℕ)) (a b mid d logged logged' : ℕ) → put ≡ option_map written_of before → put' ≡ option_map written_of after
      → ((s : State) → StandFor old s → RestsAtEnd tariffs tariff rules rule s true old from log0 c bad seen before log)
      → ((s : State) → StandFor (with_new_disc old) s → AreBlank old → RestsAnew tariffs tariff rules rule s old from log0 c bad seen before log)
      → KeepsMany (first_seen old) c seen → CourseCause first a b logged logged' → EndCause first c b mid
      → ClosesBy (failure_of c) (waiting_files seen.crew.jobs ++ closing None) failure put put' mid d → TakenDown seen.system new
      → DidSession tariffs tariff rules rule (session_status failure c bad) old new from after log0 log a d logged logged'
  did_session old new from before after log0 log first c bad seen failure put put' a b mid d logged logged' is is' said said_anew keeps cause end closes taken_down =
      let closed_by = subst (λ (x : Option (List ℕ)). ClosesBy (failure_of c) (waiting_files seen.crew.jobs ++ closing None) failure x (option_map written_of after) mid d) is
      (subst (λ (x : Option (List ℕ)). ClosesBy (failure_of c) (waiting_files seen.crew.jobs ++ closing None) failure put x mid d) is' closes) in record {
        of = of_session failure c bad;
        answers = λ fresh t known s stand. (all_broken s true old new from before after log0 log bad seen taken_down c failure mid d (said s stand) closed_by).answers fresh t known;
        ends = λ fresh t known s stand. ends_by s true old new from before after log0 log bad seen taken_down c failure mid d (said s stand) closed_by fresh t known;
        causes = session_cause first c failure bad (waiting_files seen.crew.jobs ++ closing None) put put' a b mid d logged logged' cause end closes;
        same = subst (λ (x : Devices). SameDevices old x) (sym taken_down.devices) keeps.keeps.same;
        belongs = λ was. subst (λ (x : Devices). BelongTogether x) (sym taken_down.devices) (belongs_of seen.system (keeps.keeps.belongs was));
        safe = λ was. subst (λ (x : Devices). AreSafe x.disc x.rack) (sym taken_down.devices) (safe_of seen.system (keeps.keeps.safe was));
        survives = λ was fresh t known s stand.
            broken_survives tariffs tariff rules rule s old new seen.system from after log0 log t (all_broken s true old new from before after log0 log bad seen taken_down c failure mid d (said s stand) closed_by) taken_down was fresh known;
        dumps = λ was. (subst (λ (x : Devices). DumpsKept keeps.done old.rack x.rack) (sym taken_down.devices) (keeps.keeps.dumps was)).move;
        stands = λ was has.
            let (s, stand) = state_there old was has in
            let x = all_broken s true old new from before after log0 log bad seen taken_down c failure mid d (said s stand) closed_by in
            devices_keep tariffs tariff rules rule (taken x.said ++ map timed_said x.more) None s old new x.moves x.last stand has
            (down_run tariffs tariff rules rule (taken x.said ++ map timed_said x.more) s old seen.system new x.moves x.last x.run x.counted x.stands taken_down);
        anew = λ fresh t known empty s stand. ends_anew s old new from before after log0 log seen taken_down mid d fresh t known bad c failure (said_anew s stand empty) closed_by;
      }
