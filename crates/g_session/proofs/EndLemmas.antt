-- The end of a session: the system ran until nothing could step, the files of unfinished jobs were printed, and the system was taken down.
-- serves: AnewLemmas, OverallLemmas
use Rattle.std.proofs.Common.{◌≡◌, ◌≢◌, ◌⊎◌, ◌+◌, ◌≤◌, ◌++◌, ℕ, Bool, true, false, List, [], ◌∷◌, All, Option, Some, None, option_map, codes, length, map, append_assoc, append-nil, refl, sym, ◌∙◌, ap, subst, inl, inr, arith}
use Rattle.std.specs.Fn.{Shared}
use Rattle.std.specs.List.{flat_map}
use Rattle.std.proofs.lemmas.List.Elements.{All-append, All-cons, All-nil}
use denote.Ref.{Bor}
use Rattle.g_rules.specs.declared.tariff.Charge.{Charge}
use Rattle.g_rules.specs.declared.tariff.Usage.{Usage}
use Rattle.g_rules.specs.declared.rule.Standing.{Standing}
use Rattle.g_console.specs.Transcript.{Transcript, blank, lines_typed, written_of}
use Rattle.g_io.specs.Streams.{HasPutPart, with_more}
use Rattle.g_job.specs.State.{JobState}
use Rattle.g_lines.specs.Lines.{lines_of}
use Rattle.g_lines.proofs.LineLemmas.{text-lines}
use Rattle.g_script.specs.Script.{IsItem, IsParsed, WrittenItem, item_lines, timed_said}
use Rattle.g_script.specs.declared.operator.Timed.{Timed}
use Rattle.g_script.proofs.SaidLemmas.{items_say}
use Rattle.g_store_model.specs.CallStep.{down}
use Rattle.g_store_model.specs.State.{State}
use Rattle.g_run_model.specs.Devices.{Devices}
use Rattle.g_run_model.specs.Losses.{SurvivesLoss}
use Rattle.g_run_model.specs.Moves.{Move, MovesCounted, Over, Run}
use Rattle.g_run_model.specs.Texts.{closing, waiting_files}
use Rattle.g_run_model.specs.Top.{RunOf}
use Rattle.g_run_model.specs.World.{World, closed, start}
use Rattle.g_run_model.proofs.CountLemmas.{counted_of, event_none, move_counted, moves_then}
use Rattle.g_run_model.proofs.StandLemmas.{stands_as}
use Rattle.g_run_model.proofs.TickLemmas.{over_move}
use Rattle.g_run_model.proofs.TurnLemmas.{run_append}
use Rattle.g_day.specs.Losses.{LeftAfter}
use Rattle.g_day.specs.Parts.{Seen}
use Rattle.g_day.specs.System.{Down, StandsAs, SystemFacts, SystemSafe, devices_in}
use Rattle.g_day.proofs.PutLemmas.{with_more-append}
use Rattle.g_ticks.specs.Parts.{IsAtRest, PartGoesFrom}
use Rattle.g_ticks.proofs.SurvivingLemmas.{left_same, left_then}
use Rattle.g_ticks.proofs.TickLemmas.{put_on}
use Rattle.g_laws_sessions.specs.Session.{Asked, Comes, Exchange, Exchanges, IsCutShort, IsOver, Moment, Nothing, Refused, Rested, Skipped, Then, Took, Unclosed, is_skipping, items_of, script_of, taken}
use Rattle.g_laws_sessions.proofs.SessionLemmas.{reaches, run_here}
use Rattle.g_run.proofs.OverLemmas.{system_left}
use Rattle.g_run.specs.ScriptEnd.{TakenDown}
use Rattle.g_session.specs.Ending.{AtEnd}
use Rattle.g_session.specs.Parts.{Broken, Claimed, SoFar}
use Rattle.g_session.specs.Session.{SessionSurvives}
use Rattle.g_session.proofs.BrokenLemmas.{broken, logged_all, shows_last}
use Rattle.g_session.proofs.ClaimLemmas.{claimed_runs, left_for}
use Rattle.g_session.proofs.SoFarLemmas.{nothing_left}
use Rattle.g_session.proofs.StandsLemmas.{printed_by}

module _ {F U : Type 0} (tariffs : Shared F (Bor Usage × Unit {0}) Charge) (tariff : F) (rules : Shared U (Bor Standing × Unit {0}) ℕ) (rule : U) where
  items_are : (s : State) (said : Exchanges) (now : Moment) → Comes tariffs tariff rules rule s said now → All IsItem (items_of said)
  items_are s Nothing now is = All-nil IsItem
  items_are s (Then said (Took item when)) now (before, comes, follows, t) =
      All-append IsItem (items_of said) (item ∷ []) (items_are s said before comes) (All-cons IsItem item [] t.is_typed.is_item (All-nil IsItem))
  items_are s (Then said Rested) now (before, comes, follows, t) = subst (λ (is : List WrittenItem). All IsItem is) (sym (append-nil (items_of said))) (items_are s said before comes)
  items_are s (Then said (Asked q)) now (before, comes, follows, t) = subst (λ (is : List WrittenItem). All IsItem is) (sym (append-nil (items_of said))) (items_are s said before comes)
  items_are s (Then said (Refused k skips)) now (before, comes, follows, t) = subst (λ (is : List WrittenItem). All IsItem is) (sym (append-nil (items_of said))) (items_are s said before comes)
  items_are s (Then said Skipped) now (before, comes, follows, t) = subst (λ (is : List WrittenItem). All IsItem is) (sym (append-nil (items_of said))) (items_are s said before comes)
  items_are s (Then said (Unclosed k)) now (before, comes, follows, t) = subst (λ (is : List WrittenItem). All IsItem is) (sym (append-nil (items_of said))) (items_are s said before comes)

  -- THE SCRIPT of a session says what was taken
  pub script_parsed : (s : State) (real : Bool) (old : Devices) (done : List Timed) (bad : Option ℕ) (seen : Seen) (log0 log : Option (List ℕ)) (f : SoFar tariffs tariff rules rule s real old done bad seen log0 log)
      → IsParsed (lines_of (script_of f.said)) (taken f.said) None
  script_parsed s real old done bad seen log0 log f =
      items_say (lines_of (script_of f.said)) (items_of f.said) (items_are s f.said f.now f.comes)
      (text-lines (flat_map item_lines (items_of f.said)) f.one_lines)

  -- THE RUN TO ITS END: nothing steps, and the files of jobs that wait are printed
  pub record EndRun (s : State) (real : Bool) (old : Devices) (done : List Timed) (bad : Option ℕ) (seen mid : Seen) (log0 log before middle : Option (List ℕ)) (f : SoFar tariffs tariff rules rule s real old done bad seen log0 log) : Type 0 where
    pub moves : List Move
    pub last : World
    pub added : List ℕ
    pub run : Run tariffs tariff rules rule (start (taken f.said) None s) moves last
    pub counted : MovesCounted moves last.disc_stops last.tape_stops old (devices_in mid.system)
    pub stands : StandsAs mid.system last.store
    pub safe : Claimed real (Down old) → Claimed real mid.system
    pub left : Claimed real (Down old) → LeftAfter tariffs tariff rules rule (start (taken f.said) None s) moves last (Down old) mid.system
    pub over : last.over ≡ true
    pub told : last.text ≡ f.now.world.text ++ (added ++ (waiting_files mid.crew.jobs ++ closing None))
    pub put : middle ≡ with_more before added

  pub end_run : (s : State) (real : Bool) (old : Devices) (done : List Timed) (bad : Option ℕ) (seen mid : Seen) (log0 log before middle : Option (List ℕ)) (f : SoFar tariffs tariff rules rule s real old done bad seen log0 log)
      → PartGoesFrom tariffs tariff rules rule (Claimed real) IsAtRest [] [] seen None mid before middle → EndRun s real old done bad seen mid log0 log before middle f
  end_run s real old done bad seen mid log0 log before middle f goes =
      let r = reaches tariffs tariff rules rule s f.said f.now f.comes in
      let a = goes f.now.world f.matches f.between r.none in
      let bad_none : a.next.bad ≡ None = a.leads.bad ∙ f.none_bad in record {
        moves = f.now.moves ++ (a.moves ++ Over ∷ []);
        last = closed a.next;
        added = a.added;
        run = run_append tariffs tariff rules rule (start (taken f.said) None s) f.now.moves (a.moves ++ Over ∷ []) f.now.world (closed a.next) (run_here tariffs tariff rules rule s f.said f.now r)
            (run_append tariffs tariff rules rule f.now.world a.moves (Over ∷ []) a.next (closed a.next) a.leads.run
            (over_move tariffs tariff rules rule a.next a.between.phase a.between.turn a.lines (nothing_left a.next a.lines a.rests) (a.leads.over ∙ r.going)));
        counted = all_counted f.now.moves a.moves f.now.world.disc_stops f.now.world.tape_stops a.leads.disc_arms a.leads.tape_arms a.next a.leads.disc_stops a.leads.tape_stops f.counted a.leads.counted;
        stands = a.leads.stands;
        safe = λ claimed. a.leads.safe (f.safe claimed);
        left = λ claimed.
            left_then tariffs tariff rules rule (start (taken f.said) None s) f.now.world (closed a.next) f.now.moves (a.moves ++ Over ∷ []) (Down old) seen.system mid.system
            (run_here tariffs tariff rules rule s f.said f.now r) (claimed_runs real seen.system (f.safe claimed)) f.matches.stands a.leads.stands (f.left claimed)
            (left_same tariffs tariff rules rule f.now.world a.next (closed a.next) a.moves (Over ∷ []) seen.system mid.system a.leads.run a.leads.stands
            (λ down. (closed a.next, (a.between.phase, a.between.turn, a.lines, nothing_left a.next a.lines a.rests, a.leads.over ∙ r.going, refl), down, down, refl)) (a.leads.left (f.safe claimed)));
        over = refl;
        told = ap (λ (x : List ℕ). (x ++ waiting_files a.next.jobs) ++ closing a.next.bad) a.leads.text
            ∙ append_assoc (f.now.world.text ++ a.added) (waiting_files a.next.jobs) (closing a.next.bad)
            ∙ append_assoc f.now.world.text a.added (waiting_files a.next.jobs ++ closing a.next.bad)
            ∙ ap (λ (js : List JobState). f.now.world.text ++ (a.added ++ (waiting_files js ++ closing a.next.bad))) a.matches.crew.jobs
            ∙ ap (λ (b : Option ℕ). f.now.world.text ++ (a.added ++ (waiting_files mid.crew.jobs ++ closing b))) bad_none;
        put = a.put;
      }
    where
      all_counted : (moves more : List Move) (disc tape disc' tape' : List ℕ) (next : World) → next.disc_stops ≡ disc ++ disc' → next.tape_stops ≡ tape ++ tape'
          → MovesCounted moves disc tape old (devices_in seen.system) → MovesCounted more disc' tape' (devices_in seen.system) (devices_in mid.system)
          → MovesCounted (moves ++ (more ++ Over ∷ [])) next.disc_stops next.tape_stops old (devices_in mid.system)
      all_counted moves more disc tape disc' tape' next disc_is tape_is was then_counted =
          subst (λ (ks : List ℕ). MovesCounted (moves ++ (more ++ Over ∷ [])) ks next.tape_stops old (devices_in mid.system)) (sym disc_is)
          (subst (λ (ks : List ℕ). MovesCounted (moves ++ (more ++ Over ∷ [])) (disc ++ disc') ks old (devices_in mid.system)) (sym tape_is)
          (subst (λ (ks : List ℕ). MovesCounted (moves ++ (more ++ Over ∷ [])) (disc ++ ks) (tape ++ tape') old (devices_in mid.system)) (append-nil disc')
          (subst (λ (ks : List ℕ). MovesCounted (moves ++ (more ++ Over ∷ [])) (disc ++ (disc' ++ [])) (tape ++ ks) old (devices_in mid.system)) (append-nil tape')
          (moves_then moves (more ++ Over ∷ []) disc tape (disc' ++ []) (tape' ++ []) old (devices_in seen.system) (devices_in mid.system) was
          (moves_then more (Over ∷ []) disc' tape' [] [] (devices_in seen.system) (devices_in mid.system) (devices_in mid.system) then_counted
          (move_counted Over [] [] (devices_in mid.system) (devices_in mid.system) (event_none (devices_in mid.system))))))))

  -- what a run leaves, once its system is taken down
  pub down_run : (lines : List Timed) (s : State) (old : Devices) (system : SystemFacts) (new : Devices) (moves : List Move) (last : World) → Run tariffs tariff rules rule (start lines None s) moves last
      → MovesCounted moves last.disc_stops last.tape_stops old (devices_in system) → StandsAs system last.store → TakenDown system new → RunOf tariffs tariff rules rule lines None s old new moves last
  down_run lines s old system new moves last run counted stands taken_down = record {
    run = run;
    counted = counted_of moves last old new (subst (λ (d : Devices). MovesCounted moves last.disc_stops last.tape_stops old d) (sym taken_down.devices) counted);
    stands = stands_as new (down last.store) (taken_down.stands last.store stands);
  }

  -- THE SESSION IS OVER
  unfoldable pub session_over : (s : State) (real : Bool) (old new : Devices) (bad : Option ℕ) (mid : Seen) (from before after : Option Transcript) (log0 log : Option (List ℕ)) (t : Transcript)
      → AtEnd tariffs tariff rules rule s real old from log0 bad mid before log → option_map written_of after ≡ with_more (option_map written_of before) (waiting_files mid.crew.jobs ++ closing None)
      → TakenDown mid.system new → from ≡ Some blank → after ≡ Some t → IsOver tariffs tariff rules rule s old new t log0 log bad
  session_over s real old new bad mid from before after log0 log t at put taken_down fresh is =
      let l = at.last in
      let f = l.so_far in
      let e = end_run s real old at.done bad at.was mid log0 log (option_map written_of at.middle) (option_map written_of before) f at.goes in
      let rest : List ℕ = e.added ++ (waiting_files mid.crew.jobs ++ closing None) in
      let p = printed_by at.middle rest t (ap (λ (a : Option Transcript). option_map written_of a) (sym is) ∙ put ∙ ap (λ (x : Option (List ℕ)). with_more x (waiting_files mid.crew.jobs ++ closing None)) e.put
      ∙ with_more-append (option_map written_of at.middle) e.added (waiting_files mid.crew.jobs ++ closing None)) in record {
        said = f.said;
        now = f.now;
        comes = f.comes;
        skipped = l.skipped;
        lines = ap (λ (x : Transcript). lines_typed x.requests) p.only ∙ l.lines fresh p.was p.is;
        rest_is = l.rest_is;
        first = f.first;
        moves = e.moves;
        last = e.last;
        run_of = down_run (taken f.said) s old mid.system new e.moves e.last e.run e.counted e.stands taken_down;
        over = e.over;
        rest = rest;
        told = e.told;
        put = ap (λ (x : Transcript). x.text) p.only ∙ ap (λ (x : List ℕ). x ++ rest) (l.text fresh p.was p.is);
        log = f.log_is;
        parsed = script_parsed s real old at.done bad at.was log0 log f;
      }

  -- its last text was printed in part
  pub end_broken : (s : State) (real : Bool) (old : Devices) (bad : Option ℕ) (mid : Seen) (from before after : Option Transcript) (log0 log : Option (List ℕ))
      → AtEnd tariffs tariff rules rule s real old from log0 bad mid before log → HasPutPart (option_map written_of before) (waiting_files mid.crew.jobs ++ closing None) (option_map written_of after)
      → Broken tariffs tariff rules rule s real old mid.system from after log0 log
  end_broken s real old bad mid from before after log0 log at put =
      let l = at.last in
      let f = l.so_far in
      let e = end_run s real old at.done bad at.was mid log0 log (option_map written_of at.middle) (option_map written_of before) f at.goes in
      let rest : List ℕ = e.added ++ (waiting_files mid.crew.jobs ++ closing None) in
      broken tariffs tariff rules rule s real old at.done bad at.was from at.middle after log0 log log f (shows_last tariffs tariff rules rule s real old at.done bad at.was from at.middle log0 log l)
      mid.system [] (omega arith) e.moves e.last
      (subst (λ (ls : List Timed). Run tariffs tariff rules rule (start ls None s) e.moves e.last) (sym (append-nil (taken f.said))) e.run)
      e.counted e.stands rest e.told rest (inl refl)
      (put_on (option_map written_of at.middle) (option_map written_of before) (option_map written_of after) e.added (waiting_files mid.crew.jobs ++ closing None) e.put put)
      (logged_all tariffs tariff rules rule s real old at.done bad at.was log0 log f) e.safe
      (λ claimed. left_for tariffs tariff rules rule s (Down old) mid.system (taken f.said ++ []) (taken f.said) e.moves e.last (append-nil (taken f.said)) (e.left claimed))

  -- THE SESSION WAS CUT SHORT
  pub cut_short : (s : State) (real : Bool) (old new : Devices) (system : SystemFacts) (from after : Option Transcript) (log0 log : Option (List ℕ)) (t : Transcript)
      → Broken tariffs tariff rules rule s real old system from after log0 log → TakenDown system new → from ≡ Some blank → after ≡ Some t → IsCutShort tariffs tariff rules rule s old new t log0 log
  cut_short s real old new system from after log0 log t b taken_down fresh is =
      record {
        said = b.said;
        now = b.now;
        comes = b.comes;
        later = (b.lines fresh t is).0;
        lines = (b.lines fresh t is).1;
        more = b.more;
        one = b.one;
        moves = b.moves;
        last = b.last;
        run_of = down_run (taken b.said ++ map timed_said b.more) s old system new b.moves b.last b.run b.counted b.stands taken_down;
        rest = b.rest;
        told = b.told;
        owed = b.owed;
        own = b.own;
        put = b.put fresh t is;
        log = b.log_is;
      }

  -- WHAT A POWER LOSS LEAVES of its devices
  pub broken_survives : (s : State) (old new : Devices) (system : SystemFacts) (from after : Option Transcript) (log0 log : Option (List ℕ)) (t : Transcript)
      → Broken tariffs tariff rules rule s true old system from after log0 log → TakenDown system new → SystemSafe (Down old) → from ≡ Some blank → after ≡ Some t → SessionSurvives tariffs tariff rules rule s old new t log0 log
  unfolding cut_short
  broken_survives s old new system from after log0 log t b taken_down safe fresh is = (
    cut_short s true old new system from after log0 log t b taken_down fresh is,
    subst (λ (d : Devices). SurvivesLoss tariffs tariff rules rule (start (taken b.said ++ map timed_said b.more) None s) b.moves b.last old d) (sym taken_down.devices)
        (system_left tariffs tariff rules rule (start (taken b.said ++ map timed_said b.more) None s) b.moves b.last old system b.run (b.safe safe) b.stands (b.left safe)),
  )
