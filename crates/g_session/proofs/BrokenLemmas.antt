-- A session that was cut short: the exchanges so far, and the part of the next one that was done.
-- serves: answer_lines (said), AnewLemmas, EndLemmas, EndingLemmas, ReplyLemmas
use Rattle.std.proofs.Common.{◌≡◌, ◌⊎◌, ◌+◌, ◌≤◌, ◌++◌, ℕ, Bool, List, [], ◌∷◌, Option, Some, None, option_map, length, map, take, append-nil, refl, sym, ◌∙◌, ap, subst, inl, inr, arith}
use Rattle.std.specs.Prelude.{All}
use Rattle.std.specs.Fn.{Shared}
use Rattle.std.specs.List.{flat_map}
use denote.Ref.{Bor}
use Rattle.g_rules.specs.declared.tariff.Charge.{Charge}
use Rattle.g_rules.specs.declared.tariff.Usage.{Usage}
use Rattle.g_rules.specs.declared.rule.Standing.{Standing}
use Rattle.g_console.specs.Transcript.{Request, Transcript, blank, lines_typed, written_of}
use Rattle.g_io.specs.Streams.{HasPutPart, with_more}
use Rattle.g_lines.specs.Lines.{text_of}
use Rattle.g_script.specs.Script.{WrittenItem, item_lines, timed_said}
use Rattle.g_script.specs.declared.operator.Timed.{Timed}
use Rattle.g_store_model.specs.State.{State}
use Rattle.g_run_model.specs.Devices.{Devices}
use Rattle.g_run_model.specs.Moves.{Move, MovesCounted, Run}
use Rattle.g_run_model.specs.World.{World, start}
use Rattle.g_run_model.proofs.TurnLemmas.{run_append}
use Rattle.g_day.specs.Losses.{LeftAfter}
use Rattle.g_day.specs.Parts.{Seen}
use Rattle.g_day.specs.System.{Down, StandsAs, SystemFacts, devices_in}
use Rattle.g_day.proofs.PutLemmas.{with_more-nil}
use Rattle.g_ticks.specs.Parts.{LeadsFrom}
use Rattle.g_ticks.proofs.SurvivingLemmas.{left_then}
use Rattle.g_typing.specs.declared.item.ItemReader.{ItemReader}
use Rattle.g_laws_sessions.specs.Early.{NotBefore, with_lines}
use Rattle.g_laws_sessions.specs.Session.{AlwaysAnswers, IsOwed, Moment, script_of, taken}
use Rattle.g_laws_sessions.proofs.SessionLemmas.{reaches, run_here}
use Rattle.g_session.specs.Parts.{Broken, Claimed, Last, SoFar, Stands}
use Rattle.g_session.proofs.AnswerLemmas.{answers_print}
use Rattle.g_session.proofs.ClaimLemmas.{claimed_runs, left_for, left_with}
use Rattle.g_session.proofs.SoFarLemmas.{counted_on}
use Rattle.g_session.proofs.StandsLemmas.{printed_by}

module _ {F U : Type 0} (tariffs : Shared F (Bor Usage × Unit {0}) Charge) (tariff : F) (rules : Shared U (Bor Standing × Unit {0}) ℕ) (rule : U) where
  -- what a console shows of a moment
  pub record Shows (s : State) (from transcript : Option Transcript) (now : Moment) : Type 0 where
    pub lines : from ≡ Some blank → (t : Transcript) → transcript ≡ Some t → (later : List (List ℕ)) × (lines_typed t.requests ≡ now.lines ++ later)
    pub text : from ≡ Some blank → (t : Transcript) → transcript ≡ Some t → t.text ≡ now.text
    pub answers : from ≡ Some blank → (t : Transcript) → transcript ≡ Some t → AlwaysAnswers tariffs tariff rules rule s t
    pub printed : from ≡ Some blank → (t : Transcript) → transcript ≡ Some t → All (λ (r : Request). r.printed ≤ length t.text) t.requests

  pub shows_of : (s : State) (real : Bool) (old : Devices) (done : List Timed) (bad : Option ℕ) (seen : Seen) (r : ItemReader) (number : ℕ) (unreplied : List (List ℕ)) (from transcript : Option Transcript) (log0 log : Option (List ℕ))
      → (st : Stands tariffs tariff rules rule s real old done bad seen r number unreplied from transcript log0 log) → Shows s from transcript st.so_far.now
  shows_of s real old done bad seen r number unreplied from transcript log0 log st = record {
    lines = λ fresh t is. (st.pending ++ unreplied, st.lines fresh t is);
    text = st.text;
    answers = st.answers;
    printed = st.printed;
  }

  pub shows_last : (s : State) (real : Bool) (old : Devices) (done : List Timed) (bad : Option ℕ) (seen : Seen) (from transcript : Option Transcript) (log0 log : Option (List ℕ))
      → (l : Last tariffs tariff rules rule s real old done bad seen from transcript log0 log) → Shows s from transcript l.so_far.now
  shows_last s real old done bad seen from transcript log0 log l = record {
    lines = λ fresh t is. (l.skipped, l.lines fresh t is);
    text = l.text;
    answers = l.answers;
    printed = l.printed;
  }

  -- WHAT THE LOG HAS, if these items follow
  abbrev pub HasLogged : Rattle.g_laws_sessions.specs.Session.Exchanges → List WrittenItem → Option (List ℕ) → Option (List ℕ) → Type 0
  HasLogged said more log0 log = (log ≡ with_more log0 (script_of said ++ text_of (flat_map item_lines more)))
      ⊎ ((more ≡ []) × ((next : WrittenItem) × (k : ℕ) × (log ≡ with_more log0 (script_of said ++ take k (text_of (item_lines next))))))

  -- SOME MOVES MORE were done, and a front of what is owed for them was printed
  pub broken : (s : State) (real : Bool) (old : Devices) (done : List Timed) (bad : Option ℕ) (seen : Seen) (from before after : Option Transcript) (log0 log log' : Option (List ℕ))
      → (f : SoFar tariffs tariff rules rule s real old done bad seen log0 log) → Shows s from before f.now
      → (system : SystemFacts) (more : List WrittenItem) → length more ≤ 1 → (moves : List Move) (last : World)
      → Run tariffs tariff rules rule (start (taken f.said ++ map timed_said more) None s) moves last
      → MovesCounted moves last.disc_stops last.tape_stops old (devices_in system) → StandsAs system last.store
      → (rest : List ℕ) → last.text ≡ f.now.world.text ++ rest → (owed : List ℕ) → IsOwed f.now.world owed rest
      → HasPutPart (option_map written_of before) owed (option_map written_of after) → HasLogged f.said more log0 log'
      → (Claimed real (Down old) → Claimed real system)
      → (Claimed real (Down old) → LeftAfter tariffs tariff rules rule (start (taken f.said ++ map timed_said more) None s) moves last (Down old) system)
      → Broken tariffs tariff rules rule s real old system from after log0 log'
  broken s real old done bad seen from before after log0 log log' f shows system more one moves last run counted stands rest told owed own put logged safe left = record {
    said = f.said;
    now = f.now;
    comes = f.comes;
    more = more;
    one = one;
    moves = moves;
    last = last;
    run = run;
    counted = counted;
    stands = stands;
    rest = rest;
    told = told;
    owed = owed;
    own = own;
    lines = λ fresh t is.
        let p = printed_by before (take put.0 owed) t (ap (λ (a : Option Transcript). option_map written_of a) (sym is) ∙ put.2) in
        let (later, all) = shows.lines fresh p.was p.is in (later, ap (λ (x : Transcript). lines_typed x.requests) p.only ∙ all);
    put = λ fresh t is.
        let p = printed_by before (take put.0 owed) t (ap (λ (a : Option Transcript). option_map written_of a) (sym is) ∙ put.2) in
        (put.0, put.1, ap (λ (x : Transcript). x.text) p.only ∙ ap (λ (x : List ℕ). x ++ take put.0 owed) (shows.text fresh p.was p.is));
    answers = λ fresh t is.
        let p = printed_by before (take put.0 owed) t (ap (λ (a : Option Transcript). option_map written_of a) (sym is) ∙ put.2) in
        subst (λ (x : Transcript). AlwaysAnswers tariffs tariff rules rule s x) (sym p.only)
        (answers_print tariffs tariff rules rule s p.was (take put.0 owed) (shows.printed fresh p.was p.is) (shows.answers fresh p.was p.is));
    log_is = logged;
    safe = safe;
    left = left;
  }

  -- a part of the run, after these exchanges
  pub broken_leads : (s : State) (real : Bool) (old : Devices) (done : List Timed) (bad : Option ℕ) (seen : Seen) (from before after : Option Transcript) (log0 log log' : Option (List ℕ))
      → (f : SoFar tariffs tariff rules rule s real old done bad seen log0 log) → Shows s from before f.now
      → (system : SystemFacts) (more : List WrittenItem) → length more ≤ 1 → NotBefore f.now.world.count (map timed_said more)
      → (moves : List Move) (last : World) (added : List ℕ) → LeadsFrom tariffs tariff rules rule (Claimed real) (with_lines (map timed_said more) f.now.world) seen.system system moves last added
      → (owed : List ℕ) → IsOwed f.now.world owed added → HasPutPart (option_map written_of before) owed (option_map written_of after) → HasLogged f.said more log0 log'
      → Broken tariffs tariff rules rule s real old system from after log0 log'
  broken_leads s real old done bad seen from before after log0 log log' f shows system more one early moves last added leads owed own put logged =
      let r = reaches tariffs tariff rules rule s f.said f.now f.comes in
      broken s real old done bad seen from before after log0 log log' f shows system more one (f.now.moves ++ moves) last
      (run_append tariffs tariff rules rule (start (taken f.said ++ map timed_said more) None s) f.now.moves moves (with_lines (map timed_said more) f.now.world) last (r.run (map timed_said more) early) leads.run)
      (counted_on tariffs tariff rules rule (Claimed real) f.now old seen.system system moves last added (map timed_said more) f.counted leads)
      leads.stands added leads.text owed own put logged (λ claimed. leads.safe (f.safe claimed))
      (λ claimed. left_then tariffs tariff rules rule (start (taken f.said ++ map timed_said more) None s) (with_lines (map timed_said more) f.now.world) last f.now.moves moves (Down old) seen.system system
      (r.run (map timed_said more) early) (claimed_runs real seen.system (f.safe claimed)) f.matches.stands leads.stands
      (left_with tariffs tariff rules rule s f.said f.now r (Down old) seen.system (map timed_said more) early (f.left claimed)) (leads.left (f.safe claimed)))

  -- nothing more of the run
  pub broken_still : (s : State) (real : Bool) (old : Devices) (done : List Timed) (bad : Option ℕ) (seen : Seen) (from before after : Option Transcript) (log0 log log' : Option (List ℕ))
      → (f : SoFar tariffs tariff rules rule s real old done bad seen log0 log) → Shows s from before f.now
      → (owed : List ℕ) → IsOwed f.now.world owed [] → HasPutPart (option_map written_of before) owed (option_map written_of after) → HasLogged f.said [] log0 log'
      → Broken tariffs tariff rules rule s real old seen.system from after log0 log'
  broken_still s real old done bad seen from before after log0 log log' f shows owed own put logged =
      let r = reaches tariffs tariff rules rule s f.said f.now f.comes in
      broken s real old done bad seen from before after log0 log log' f shows seen.system [] (omega arith) f.now.moves f.now.world
      (subst (λ (ls : List Timed). Run tariffs tariff rules rule (start ls None s) f.now.moves f.now.world) (sym (append-nil (taken f.said))) (run_here tariffs tariff rules rule s f.said f.now r))
      f.counted f.matches.stands [] (sym (append-nil f.now.world.text)) owed own put logged f.safe
      (λ claimed. left_for tariffs tariff rules rule s (Down old) seen.system (taken f.said ++ []) (taken f.said) f.now.moves f.now.world (append-nil (taken f.said)) (f.left claimed))

  -- the log has exactly the items so far
  pub logged_all : (s : State) (real : Bool) (old : Devices) (done : List Timed) (bad : Option ℕ) (seen : Seen) (log0 log : Option (List ℕ)) (f : SoFar tariffs tariff rules rule s real old done bad seen log0 log) → HasLogged f.said [] log0 log
  logged_all s real old done bad seen log0 log f = inl (f.log_is ∙ ap (λ (x : List ℕ). with_more log0 x) (sym (append-nil (script_of f.said))))

  -- nothing was printed
  pub put_none : (before : Option (List ℕ)) → HasPutPart before [] before
  put_none before = (0, omega arith, sym (with_more-nil before))

  -- MEMORY RAN OUT, and nothing was done
  pub broken_short : (s : State) (real : Bool) (old : Devices) (done : List Timed) (bad : Option ℕ) (seen : Seen) (r : ItemReader) (number : ℕ) (unreplied : List (List ℕ)) (from transcript : Option Transcript) (log0 log : Option (List ℕ))
      → Stands tariffs tariff rules rule s real old done bad seen r number unreplied from transcript log0 log → Broken tariffs tariff rules rule s real old seen.system from transcript log0 log
  broken_short s real old done bad seen r number unreplied from transcript log0 log st =
      broken_still s real old done bad seen from transcript transcript log0 log log st.so_far (shows_of s real old done bad seen r number unreplied from transcript log0 log st) [] (inl refl)
      (put_none (option_map written_of transcript)) (logged_all s real old done bad seen log0 log st.so_far)
