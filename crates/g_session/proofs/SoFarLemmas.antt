-- The exchanges of a session so far: none, an item more, an empty line more, and a line that was refused.
-- serves: BrokenLemmas, EndLemmas, EndingLemmas, LinesLemmas, ReplyLemmas, StandsLemmas
use Rattle.std.proofs.Common.{◌≡◌, ◌≢◌, ◌⊎◌, ◌+◌, ◌≤◌, ◌++◌, ℕ, Bool, true, false, List, [], ◌∷◌, All, Option, Some, None, codes, length, append_assoc, append-nil, refl, sym, ◌∙◌, ap, subst, inl, inr, arith}
use Rattle.std.specs.Fn.{Shared}
use Rattle.std.specs.List.{flat_map}
use Rattle.std.proofs.lemmas.List.Concat.{flat_map-append}
use Rattle.std.proofs.lemmas.List.Elements.{All-append, All-from_recursion, All-nil}
use denote.Ref.{Bor}
use Rattle.g_rules.specs.declared.tariff.Charge.{Charge}
use Rattle.g_rules.specs.declared.tariff.Usage.{Usage}
use Rattle.g_rules.specs.declared.rule.Standing.{Standing}
use Rattle.g_io.specs.Streams.{with_more}
use Rattle.g_lines.specs.Documents.{IsOneLine}
use Rattle.g_lines.specs.Lines.{ended, lines_of, text_of}
use Rattle.g_lines.proofs.DocumentLemmas.{lines_one}
use Rattle.g_script.specs.Script.{WrittenItem, item_lines, timed_said}
use Rattle.g_script.specs.declared.operator.Timed.{Timed}
use Rattle.g_store_model.specs.State.{State}
use Rattle.g_run_model.specs.Devices.{AreReadAs, Devices}
use Rattle.g_run_model.specs.Moves.{Move, MovesCounted}
use Rattle.g_run_model.specs.World.{World, is_due, nothing_steps, start}
use Rattle.g_run_model.proofs.CountLemmas.{event_none, moves_then}
use Rattle.g_job_table.specs.Crew.{CrewState}
use Rattle.g_day.specs.Losses.{LeftAfter}
use Rattle.g_day.specs.Parts.{Matches, Seen, seen}
use Rattle.g_day.specs.System.{Down, SystemFacts, devices_in}
use Rattle.g_day.proofs.PutLemmas.{with_more-append, with_more-nil}
use Rattle.g_ticks.specs.Tick.{IsBetween}
use Rattle.g_ticks.specs.Parts.{Anything, IsAtRest, LeadsFrom, PartGoesFrom}
use Rattle.g_ticks.proofs.SurvivingLemmas.{left_itself, left_then}
use Rattle.g_typing.specs.Reader.{IsComplete, when_of}
use Rattle.g_typing.specs.Typed.{AtOnce, AtTime, IsQuery, IsUnfinished}
use Rattle.g_typing.specs.declared.item.ItemReader.{ItemReader}
use Rattle.g_typing.specs.declared.query.Query.{Query}
use Rattle.g_laws_sessions.specs.Early.{with_lines}
use Rattle.g_laws_sessions.specs.Session.{Asked, EndsWithLine, Exchange, Exchanges, IsAnswer, Moment, Nothing, RefusesLine, Refused, Rested, Skipped, Then, Took, Unclosed, beginning, first_refused, is_over, is_skipping, item_in, items_of, or_else, refusal_line, script_of, taken, tick_line}
use Rattle.g_laws_sessions.proofs.SessionLemmas.{not_before, reaches, taken_more, taken_same}
use Rattle.g_session.specs.Parts.{Claimed, SoFar}
use Rattle.g_session.specs.Taking.{TakesItem}
use Rattle.g_session.proofs.ClaimLemmas.{claimed_runs, left_for, left_with}

abbrev nobody : CrewState
nobody = record { jobs = []; accounts = []; next_job = 1 }

-- the script, with one more item or none
script_more : (said : Exchanges) (exchange : Exchange) → script_of (Then said exchange) ≡ script_of said ++ text_of (flat_map item_lines (item_in exchange))
script_more said exchange =
    ap (λ (lines : List (List ℕ)). text_of lines) (flat_map-append item_lines (items_of said) (item_in exchange))
    ∙ flat_map-append ended (flat_map item_lines (items_of said)) (flat_map item_lines (item_in exchange))

first_same : (first : Option ℕ) → or_else first None ≡ first
first_same None = refl
first_same (Some k) = refl

false_true : false ≡ true → ⊥
false_true e = cc

once_time : AtOnce ≡ AtTime → ⊥
once_time e = cc

time_once : AtTime ≡ AtOnce → ⊥
time_once e = cc

-- nothing steps where no line is left and all is at rest
pub nothing_left : (w : World) → w.lines ≡ [] → IsAtRest w → nothing_steps w ≡ true
nothing_left w none (inr still) = still
nothing_left w none (inl due) =
    let not_due : is_due w ≡ false = ap (λ (ls : List Timed). let v : World = record w { lines = ls } in is_due v) none in absurd (false_true (sym not_due ∙ due))

-- a world that has these lines left
pub with_left : (w : World) (lines : List Timed) (s : Seen) → Matches w s → (let v : World = record w { lines = lines } in Matches v s)
with_left w lines s m = record {
  stands = m.stands;
  crew = record { jobs = m.crew.jobs; accounts = m.crew.accounts; next_job = m.crew.next_job };
  count = m.count;
}

module _ {F U : Type 0} (tariffs : Shared F (Bor Usage × Unit {0}) Charge) (tariff : F) (rules : Shared U (Bor Standing × Unit {0}) ℕ) (rule : U) where
  -- NONE YET
  unfoldable pub so_far_start : (s : State) (real : Bool) (old : Devices) (log : Option (List ℕ)) → AreReadAs old s → SoFar tariffs tariff rules rule s real old [] None (seen (Down old) nobody 0) log log
  so_far_start s real old log stands = record {
    said = Nothing;
    now = beginning s;
    comes = refl;
    matches = record {
      stands = (ap (λ (u : State). u.up) stands.reads.state_is, stands);
      crew = record { jobs = refl; accounts = λ user. refl; next_job = refl };
      count = refl;
    };
    between = record { phase = refl; turn = refl };
    none_bad = refl;
    counted = event_none old;
    taken_is = refl;
    first = refl;
    log_is = sym (with_more-nil log);
    one_lines = All-nil IsOneLine;
    safe = λ was. was;
    left = λ was. left_itself tariffs tariff rules rule (start [] None s) (Down old);
  }

  -- what was counted, with a part more
  pub counted_on : (Safe : SystemFacts → Type 0) (now : Moment) (old : Devices) (f g : SystemFacts) (moves : List Move) (next : World) (added : List ℕ) (lines : List Timed)
      → MovesCounted now.moves now.world.disc_stops now.world.tape_stops old (devices_in f)
      → (let v : World = record now.world { lines = lines } in LeadsFrom tariffs tariff rules rule Safe v f g moves next added)
      → MovesCounted (now.moves ++ moves) next.disc_stops next.tape_stops old (devices_in g)
  counted_on Safe now old f g moves next added lines was l =
      subst (λ (ks : List ℕ). MovesCounted (now.moves ++ moves) ks next.tape_stops old (devices_in g)) (sym l.disc_stops)
      (subst (λ (ks : List ℕ). MovesCounted (now.moves ++ moves) (now.world.disc_stops ++ l.disc_arms) ks old (devices_in g)) (sym l.tape_stops)
      (moves_then now.moves moves now.world.disc_stops now.world.tape_stops l.disc_arms l.tape_arms old (devices_in f) (devices_in g) was l.counted))

  -- ONE EXCHANGE MORE, for these lines, and what was printed for it
  pub record Next (s : State) (real : Bool) (old : Devices) (done : List Timed) (bad : Option ℕ) (new : Seen) (log0 log : Option (List ℕ)) (was : Moment) (lines : List (List ℕ)) (skips : Bool) (before after : Option (List ℕ)) : Type 0 where
    pub so_far : SoFar tariffs tariff rules rule s real old done bad new log0 log
    pub skipping : is_skipping so_far.said ≡ skips
    pub going : is_over so_far.said ≡ false
    pub lines_are : so_far.now.lines ≡ was.lines ++ lines
    pub added : List ℕ
    pub text : so_far.now.text ≡ was.text ++ added
    pub put : after ≡ with_more before added

  -- AN ITEM MORE
  record Taken (real timed : Bool) (w : World) (next : Timed) (old new : Seen) (before after : Option (List ℕ)) : Type 0 where
    moves : List Move
    last : World
    added : List ℕ
    leads : (let v : World = record w { lines = next ∷ [] } in LeadsFrom tariffs tariff rules rule (Claimed real) v old.system new.system moves last added)
    matches : Matches last new
    between : IsBetween last
    none : last.lines ≡ []
    put : after ≡ with_more before added
    rests : when_of timed ≡ AtOnce → nothing_steps last ≡ true
    holds : when_of timed ≡ AtTime → EndsWithLine moves

  taken_by : (real timed : Bool) (next : Timed) (old new : Seen) (before after : Option (List ℕ)) → TakesItem tariffs tariff rules rule (Claimed real) timed next old None new before after
      → (w : World) → Matches w old → IsBetween w → Taken real timed w next old new before after
  taken_by real true next old new before after goes w m between =
      let v : World = record w { lines = next ∷ [] } in
      let (a, last) = goes v (with_left w (next ∷ []) old m) (record { phase = between.phase; turn = between.turn }) refl in record {
        moves = a.moves;
        last = a.next;
        added = a.added;
        leads = a.leads;
        matches = a.matches;
        between = a.between;
        none = a.lines;
        put = a.put;
        rests = λ e. absurd (time_once e);
        holds = λ e. last;
      }
  taken_by real false next old new before after goes w m between =
      let v : World = record w { lines = next ∷ [] } in
      let a = goes v (with_left w (next ∷ []) old m) (record { phase = between.phase; turn = between.turn }) refl in record {
        moves = a.moves;
        last = a.next;
        added = a.added;
        leads = a.leads;
        matches = a.matches;
        between = a.between;
        none = a.lines;
        put = a.put;
        rests = λ e. nothing_left a.next a.lines a.rests;
        holds = λ e. absurd (once_time e);
      }

  pub so_far_took : (s : State) (real : Bool) (old : Devices) (done : List Timed) (bad : Option ℕ) (was new : Seen) (log0 log log1 before after : Option (List ℕ)) (lines : List (List ℕ)) (next : Timed) (timed : Bool) (r : ItemReader)
      → (f : SoFar tariffs tariff rules rule s real old done bad was log0 log) → is_skipping f.said ≡ false → is_over f.said ≡ false → IsComplete was.count lines next timed r → log1 ≡ with_more log r.text
      → TakesItem tariffs tariff rules rule (Claimed real) timed next was None new before after → Next s real old (done ++ next ∷ []) bad new log0 log1 f.now lines false before after
  so_far_took s real old done bad was new log0 log log1 before after lines next timed r f skips over whole put goes =
      let item = whole.item in
      let more = Then f.said (Took item (when_of timed)) in
      let t = taken_by real timed next was new before after goes f.now.world f.matches f.between in
      let reached = reaches tariffs tariff rules rule s f.said f.now f.comes in
      let going : f.now.world.over ≡ false = reached.going in
      let turn : next.turn ≡ item.turn = ap (λ (x : Timed). x.turn) whole.said in
      let typed = not_before was.count item (when_of timed) whole.typed.first whole.typed.head in
      let here : f.now.world.count ≡ was.count = f.matches.count in
      let early : f.now.world.count ≤ next.turn = omega (arith, turn, typed, here) in record {
        so_far = record {
          said = more;
          now = record { world = t.last; moves = f.now.moves ++ t.moves; lines = f.now.lines ++ lines; text = f.now.text ++ t.added };
          comes = (
            f.now,
            f.comes,
            (skips, over),
            record {
              typed = lines;
              moves = t.moves;
              told = t.added;
              is_typed = subst (λ (n : ℕ). Rattle.g_typing.specs.Typed.IsTyped n item (when_of timed) lines) (sym f.matches.count) whole.typed;
              goes = record {
                run = subst (λ (x : Timed). let v : World = record f.now.world { lines = x ∷ [] } in Rattle.g_run_model.specs.Moves.Run tariffs tariff rules rule v t.moves t.last) whole.said t.leads.run;
                none = t.none;
                phase = t.between.phase;
                turn = t.between.turn;
                going = t.leads.over ∙ going;
                text = t.leads.text;
              };
              rests = t.rests;
              holds = t.holds;
              moves_are = refl;
              lines = refl;
              text = refl;
            },
          );
          matches = t.matches;
          between = t.between;
          none_bad = t.leads.bad ∙ f.none_bad;
          counted = counted_on (Claimed real) f.now old was.system new.system t.moves t.last t.added (next ∷ []) f.counted t.leads;
          taken_is = taken_more f.said item (when_of timed) ∙ ap (λ (ls : List Timed). ls ++ timed_said item ∷ []) f.taken_is ∙ ap (λ (x : Timed). done ++ x ∷ []) (sym whole.said);
          first = f.first ∙ sym (first_same (first_refused f.said));
          log_is = put ∙ ap (λ (l : Option (List ℕ)). with_more l r.text) f.log_is ∙ with_more-append log0 (script_of f.said) r.text ∙ ap (λ (x : List ℕ). with_more log0 x) (text_is item whole.text ∙ sym (script_more f.said (Took item (when_of timed))));
          one_lines =
              subst (λ (ls : List (List ℕ)). All IsOneLine ls) (sym (flat_map-append item_lines (items_of f.said) (item ∷ [])))
              (All-append IsOneLine (flat_map item_lines (items_of f.said)) (flat_map item_lines (item ∷ [])) f.one_lines
              (subst (λ (ls : List (List ℕ)). All IsOneLine ls) (whole.lines_are ∙ sym (append-nil (item_lines item))) (All-from_recursion IsOneLine (lines_of r.text) (lines_one r.text))));
          safe = λ claimed. t.leads.safe (f.safe claimed);
          left = λ claimed.
              left_for tariffs tariff rules rule s (Down old) new.system (taken more) (taken f.said ++ next ∷ []) (f.now.moves ++ t.moves) t.last
              (taken_more f.said item (when_of timed) ∙ ap (λ (x : Timed). taken f.said ++ x ∷ []) (sym whole.said))
              (left_then tariffs tariff rules rule (start (taken f.said ++ next ∷ []) None s) (with_lines (next ∷ []) f.now.world) t.last f.now.moves t.moves (Down old) was.system new.system
              (reached.run (next ∷ []) early) (claimed_runs real was.system (f.safe claimed)) f.matches.stands t.leads.stands
              (left_with tariffs tariff rules rule s f.said f.now reached (Down old) was.system (next ∷ []) early (f.left claimed)) (t.leads.left (f.safe claimed)));
        };
        skipping = refl;
        going = refl;
        lines_are = refl;
        added = t.added;
        text = refl;
        put = t.put;
      }
    where
      text_is : (item : WrittenItem) → r.text ≡ text_of (item_lines item) → script_of f.said ++ r.text ≡ script_of f.said ++ text_of (flat_map item_lines (item ∷ []))
      text_is item is = ap (λ (x : List ℕ). script_of f.said ++ x) (is ∙ ap (λ (ls : List (List ℕ)). text_of ls) (sym (append-nil (item_lines item))))

  -- AN EMPTY LINE MORE
  pub so_far_rested : (s : State) (real : Bool) (old : Devices) (done : List Timed) (bad : Option ℕ) (was new : Seen) (log0 log before middle after : Option (List ℕ))
      → (f : SoFar tariffs tariff rules rule s real old done bad was log0 log) → is_skipping f.said ≡ false → is_over f.said ≡ false
      → PartGoesFrom tariffs tariff rules rule (Claimed real) IsAtRest [] [] was None new before middle → after ≡ with_more middle (tick_line new.count)
      → Next s real old done bad new log0 log f.now ([] ∷ []) false before after
  so_far_rested s real old done bad was new log0 log before middle after f skips over goes put =
      let r = reaches tariffs tariff rules rule s f.said f.now f.comes in
      let v : World = record f.now.world { lines = [] } in
      let a = goes v (with_left f.now.world [] was f.matches) (record { phase = f.between.phase; turn = f.between.turn }) refl in record {
        so_far = record {
          said = Then f.said Rested;
          now = record { world = a.next; moves = f.now.moves ++ a.moves; lines = f.now.lines ++ [] ∷ []; text = (f.now.text ++ a.added) ++ tick_line a.next.count };
          comes = (
            f.now,
            f.comes,
            (skips, over),
            record {
              moves = a.moves;
              told = a.added;
              goes = record {
                run = a.leads.run;
                none = a.lines;
                phase = a.between.phase;
                turn = a.between.turn;
                going = a.leads.over ∙ r.going;
                text = a.leads.text;
              };
              rests = nothing_left a.next a.lines a.rests;
              moves_are = refl;
              lines = refl;
              text = refl;
            },
          );
          matches = a.matches;
          between = a.between;
          none_bad = a.leads.bad ∙ f.none_bad;
          counted = counted_on (Claimed real) f.now old was.system new.system a.moves a.next a.added [] f.counted a.leads;
          taken_is = taken_same f.said Rested refl ∙ f.taken_is;
          first = f.first ∙ sym (first_same (first_refused f.said));
          log_is = f.log_is ∙ ap (λ (x : List ℕ). with_more log0 x) (sym (script_more f.said Rested ∙ append-nil (script_of f.said)));
          one_lines = subst (λ (ls : List WrittenItem). All IsOneLine (flat_map item_lines ls)) (sym (append-nil (items_of f.said))) f.one_lines;
          safe = λ claimed. a.leads.safe (f.safe claimed);
          left = λ claimed.
              left_for tariffs tariff rules rule s (Down old) new.system (taken (Then f.said Rested)) (taken f.said ++ []) (f.now.moves ++ a.moves) a.next
              (taken_same f.said Rested refl ∙ sym (append-nil (taken f.said)))
              (left_then tariffs tariff rules rule (start (taken f.said ++ []) None s) (with_lines [] f.now.world) a.next f.now.moves a.moves (Down old) was.system new.system
              (r.run [] tt) (claimed_runs real was.system (f.safe claimed)) f.matches.stands a.leads.stands
              (left_with tariffs tariff rules rule s f.said f.now r (Down old) was.system [] tt (f.left claimed)) (a.leads.left (f.safe claimed)));
        };
        skipping = refl;
        going = refl;
        lines_are = refl;
        added = a.added ++ tick_line a.next.count;
        text = append_assoc f.now.text a.added (tick_line a.next.count);
        put = put ∙ ap (λ (l : Option (List ℕ)). with_more l (tick_line new.count)) a.put ∙ with_more-append before a.added (tick_line new.count)
            ∙ ap (λ (n : ℕ). with_more before (a.added ++ tick_line n)) (sym a.matches.count);
      }

  -- A QUESTION WAS ANSWERED
  pub so_far_asked : (s : State) (real : Bool) (old : Devices) (done : List Timed) (bad : Option ℕ) (was : Seen) (log0 log before_put after_put : Option (List ℕ)) (q : Query) (line text : List ℕ)
      → (f : SoFar tariffs tariff rules rule s real old done bad was log0 log) → is_skipping f.said ≡ false → is_over f.said ≡ false
      → IsQuery line q → IsAnswer q f.now.world text → after_put ≡ with_more before_put text
      → Next s real old done bad was log0 log f.now (line ∷ []) false before_put after_put
  so_far_asked s real old done bad was log0 log before_put after_put q line text f skipping over asks answers put = record {
    so_far = record {
      said = Then f.said (Asked q);
      now = record f.now { lines = f.now.lines ++ line ∷ []; text = f.now.text ++ text };
      comes = (f.now, f.comes, (skipping, over), record { line = line; asks = asks; answer = text; answers = answers; after_is = refl });
      matches = f.matches;
      between = f.between;
      none_bad = f.none_bad;
      counted = f.counted;
      taken_is = taken_same f.said (Asked q) refl ∙ f.taken_is;
      first = f.first ∙ sym (first_same (first_refused f.said));
      log_is = f.log_is ∙ ap (λ (x : List ℕ). with_more log0 x) (sym (script_more f.said (Asked q) ∙ append-nil (script_of f.said)));
      one_lines = subst (λ (ls : List WrittenItem). All IsOneLine (flat_map item_lines ls)) (sym (append-nil (items_of f.said))) f.one_lines;
      safe = f.safe;
      left = λ claimed.
          left_for tariffs tariff rules rule s (Down old) was.system (taken (Then f.said (Asked q))) (taken f.said) f.now.moves f.now.world (taken_same f.said (Asked q) refl) (f.left claimed);
    };
    skipping = refl;
    going = refl;
    lines_are = refl;
    added = text;
    text = refl;
    put = put;
  }

  -- A LINE WAS REFUSED
  pub so_far_refused : (s : State) (real : Bool) (old : Devices) (done : List Timed) (bad : Option ℕ) (was : Seen) (log0 log before_put after_put : Option (List ℕ)) (k : ℕ) (skips : Bool) (after : Moment)
      → (f : SoFar tariffs tariff rules rule s real old done bad was log0 log) → is_skipping f.said ≡ false → is_over f.said ≡ false
      → (refused : RefusesLine k skips f.now after) → after_put ≡ with_more before_put (refusal_line k)
      → Next s real old done (or_else bad (Some k)) was log0 log f.now (refused.front ++ refused.line ∷ []) skips before_put after_put
  so_far_refused s real old done bad was log0 log before_put after_put k skips after f skipping over refused put =
      let world : after.world ≡ f.now.world = ap (λ (m : Moment). m.world) refused.after_is in
      let moves : after.moves ≡ f.now.moves = ap (λ (m : Moment). m.moves) refused.after_is in record {
        so_far = record {
          said = Then f.said (Refused k skips);
          now = after;
          comes = (f.now, f.comes, (skipping, over), refused);
          matches = subst (λ (w : World). Matches w was) (sym world) f.matches;
          between = subst (λ (w : World). IsBetween w) (sym world) f.between;
          none_bad = ap (λ (w : World). w.bad) world ∙ f.none_bad;
          counted =
              subst (λ (w : World). MovesCounted after.moves w.disc_stops w.tape_stops old (devices_in was.system)) (sym world)
              (subst (λ (ms : List Move). MovesCounted ms f.now.world.disc_stops f.now.world.tape_stops old (devices_in was.system)) (sym moves) f.counted);
          taken_is = taken_same f.said (Refused k skips) refl ∙ f.taken_is;
          first = ap (λ (b : Option ℕ). or_else b (Some k)) f.first;
          log_is = f.log_is ∙ ap (λ (x : List ℕ). with_more log0 x) (sym (script_more f.said (Refused k skips) ∙ append-nil (script_of f.said)));
          one_lines = subst (λ (ls : List WrittenItem). All IsOneLine (flat_map item_lines ls)) (sym (append-nil (items_of f.said))) f.one_lines;
          safe = f.safe;
          left = λ claimed.
              subst (λ (w : World). LeftAfter tariffs tariff rules rule (start (taken (Then f.said (Refused k skips))) None s) after.moves w (Down old) was.system) (sym world)
              (subst (λ (ms : List Move). LeftAfter tariffs tariff rules rule (start (taken (Then f.said (Refused k skips))) None s) ms f.now.world (Down old) was.system) (sym moves)
              (left_for tariffs tariff rules rule s (Down old) was.system (taken (Then f.said (Refused k skips))) (taken f.said) f.now.moves f.now.world
              (taken_same f.said (Refused k skips) refl) (f.left claimed)));
        };
        skipping = refl;
        going = refl;
        lines_are = ap (λ (m : Moment). m.lines) refused.after_is;
        added = refusal_line k;
        text = ap (λ (m : Moment). m.text) refused.after_is;
        put = put;
      }

  -- THE DOCUMENT of a refused line was skipped
  pub so_far_skipped : (s : State) (real : Bool) (old : Devices) (done : List Timed) (bad : Option ℕ) (was : Seen) (log0 log put : Option (List ℕ)) (document : List (List ℕ))
      → (f : SoFar tariffs tariff rules rule s real old done bad was log0 log) → is_skipping f.said ≡ true → All (λ line. line ≢ codes "****") document
      → Next s real old done bad was log0 log f.now (document ++ codes "****" ∷ []) false put put
  so_far_skipped s real old done bad was log0 log put document f skipping open_ones = record {
    so_far = record {
      said = Then f.said Skipped;
      now = record f.now { lines = f.now.lines ++ (document ++ codes "****" ∷ []) };
      comes = (f.now, f.comes, skipping, record { document = document; open_ones = open_ones; after_is = refl });
      matches = f.matches;
      between = f.between;
      none_bad = f.none_bad;
      counted = f.counted;
      taken_is = taken_same f.said Skipped refl ∙ f.taken_is;
      first = f.first ∙ sym (first_same (first_refused f.said));
      log_is = f.log_is ∙ ap (λ (x : List ℕ). with_more log0 x) (sym (script_more f.said Skipped ∙ append-nil (script_of f.said)));
      one_lines = subst (λ (ls : List WrittenItem). All IsOneLine (flat_map item_lines ls)) (sym (append-nil (items_of f.said))) f.one_lines;
      safe = f.safe;
      left = λ claimed.
          left_for tariffs tariff rules rule s (Down old) was.system (taken (Then f.said Skipped)) (taken f.said) f.now.moves f.now.world (taken_same f.said Skipped refl) (f.left claimed);
    };
    skipping = refl;
    going = refl;
    lines_are = refl;
    added = [];
    text = sym (append-nil f.now.text);
    put = sym (with_more-nil put);
  }

  -- NO MORE LINES CAME, and a document was open: its JOB line was refused
  pub record Closed (s : State) (real : Bool) (old : Devices) (done : List Timed) (bad : Option ℕ) (was : Seen) (log0 log : Option (List ℕ)) (before : Moment) (k : ℕ) (front : List (List ℕ)) : Type 0 where
    pub so_far : SoFar tariffs tariff rules rule s real old done (or_else bad (Some k)) was log0 log
    pub skipping : is_skipping so_far.said ≡ false
    pub lines : so_far.now.lines ≡ before.lines ++ front
    pub text : so_far.now.text ≡ before.text ++ refusal_line k

  pub so_far_unclosed : (s : State) (real : Bool) (old : Devices) (done : List Timed) (bad : Option ℕ) (was : Seen) (log0 log : Option (List ℕ)) (k : ℕ) (front : List (List ℕ))
      → (f : SoFar tariffs tariff rules rule s real old done bad was log0 log) → is_skipping f.said ≡ false → is_over f.said ≡ false
      → ((let none : List (List ℕ) = [] in front ≡ none) → ⊥) → IsUnfinished was.count front → k ≡ length f.now.lines + 1 → Closed s real old done bad was log0 log f.now k front
  so_far_unclosed s real old done bad was log0 log k front f skipping over some begun place = record {
    so_far = record {
      said = Then f.said (Unclosed k);
      now = record f.now { lines = f.now.lines ++ front; text = f.now.text ++ refusal_line k };
      comes = (
        f.now,
        f.comes,
        (skipping, over),
        record {
          front = front;
          some = some;
          begun = subst (λ (n : ℕ). IsUnfinished n front) (sym f.matches.count) begun;
          place = place;
          after_is = refl;
        },
      );
      matches = f.matches;
      between = f.between;
      none_bad = f.none_bad;
      counted = f.counted;
      taken_is = taken_same f.said (Unclosed k) refl ∙ f.taken_is;
      first = ap (λ (b : Option ℕ). or_else b (Some k)) f.first;
      log_is = f.log_is ∙ ap (λ (x : List ℕ). with_more log0 x) (sym (script_more f.said (Unclosed k) ∙ append-nil (script_of f.said)));
      one_lines = subst (λ (ls : List WrittenItem). All IsOneLine (flat_map item_lines ls)) (sym (append-nil (items_of f.said))) f.one_lines;
      safe = f.safe;
      left = λ claimed.
          left_for tariffs tariff rules rule s (Down old) was.system (taken (Then f.said (Unclosed k))) (taken f.said) f.now.moves f.now.world (taken_same f.said (Unclosed k) refl) (f.left claimed);
    };
    skipping = refl;
    lines = refl;
    text = refl;
  }
