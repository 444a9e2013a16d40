-- A session is a run of the items that were taken.
-- serves: lib, sessions_are_replayed
use Rattle.std.proofs.Common.{All, List, [], ◌∷◌, ◌++◌, ℕ, ◌+◌, ◌<◌, ◌≤◌, ◌≡◌, ◌⊎◌, Bool, true, false, Option, None, length, map, append_assoc, append-nil, refl, sym, ◌∙◌, ap, subst, inl, inr, arith}
use Rattle.std.specs.Fn.{Shared}
use denote.Ref.{Bor}
use Rattle.std.proofs.lemmas.List.{map-append}
use Rattle.std.proofs.lemmas.List.Elements.{All-append, All-cons, All-nil}
use Rattle.g_rules.specs.declared.tariff.Charge.{Charge}
use Rattle.g_rules.specs.declared.tariff.Usage.{Usage}
use Rattle.g_rules.specs.Rule.{IsWeighRule}
use Rattle.g_rules.specs.declared.rule.Standing.{Standing}
use Rattle.g_script.specs.Script.{Bare, IsItem, IsWrittenOperator, Job, WrittenItem, WrittenOperator, timed_said}
use Rattle.g_script.specs.declared.operator.Operator.TheVariants as line
use Rattle.g_script.specs.declared.operator.Timed.{Timed}
use Rattle.g_store_model.specs.State.{State}
use Rattle.g_run_model.specs.Laws.{AreTimed, HasDumped, IsPlain, IsTimed, OneText, charges_of}
use Rattle.g_run_model.specs.Moves.{Move, Run}
use Rattle.g_run_model.specs.World.{Between, World, start}
use Rattle.g_run_model.proofs.TurnLemmas.{run_append}
use Rattle.g_typing.specs.Typed.{AtOnce, AtTime, IsTypedHead, When}
use Rattle.g_laws_sessions.specs.Early.{NotBefore, with_lines}
use Rattle.g_laws_sessions.specs.Laws.{IsRunOf, SessionsAreReplayed, SessionsAreRuns}
use Rattle.g_laws_sessions.specs.Session.{Asked, Comes, Exchange, Exchanges, Goes, IsOwn, LeavesUnclosed, MayFollow, Moment, Nothing, Own, Piece, Refused, RefusesLine, Rested, Rests, Skipped, SkipsDocument, Takes, Then, Told, Took, Unclosed, beginning, item_in, items_of, refusal_line, taken, text_in, tick_line, told_in}
use Rattle.g_laws_sessions.proofs.EarlyLemmas.{owed}
use Rattle.g_laws_sessions.proofs.AfterLemmas.{Comes as Lifted, run_comes}

-- an item isn't taken before the count at which it is typed
pub not_before : (count : ℕ) (item : WrittenItem) (when : When) (first : List ℕ) → IsTypedHead count item when first → count ≤ item.turn
not_before count item AtOnce first (is, turn) = omega (arith, turn)
not_before count item AtTime first (t, most, is, turn) = omega (arith, turn)

-- lines that aren't due before a count aren't before an earlier one
earlier : (now later : ℕ) (lines : List Timed) → now ≤ later → NotBefore later lines → NotBefore now lines
earlier now later [] le early = tt
earlier now later (next ∷ lines) le early = omega (arith, le, early)

behind_none : (own lines : List Timed) (w : World) → own ≡ [] → with_lines (own ++ lines) w ≡ with_lines lines w
behind_none own lines w none = ap (λ (ls : List Timed). with_lines (ls ++ lines) w) none

-- a text in pieces, with one more
text_more : (pieces : List Piece) (p : Piece) → text_in (pieces ++ p ∷ []) ≡ text_in pieces ++ text_in (p ∷ [])
text_more [] p = refl
text_more (Told text ∷ pieces) p = ap (λ (t : List ℕ). text ++ t) (text_more pieces p) ∙ sym (append_assoc text (text_in pieces) (text_in (p ∷ [])))
text_more (Own text ∷ pieces) p = ap (λ (t : List ℕ). text ++ t) (text_more pieces p) ∙ sym (append_assoc text (text_in pieces) (text_in (p ∷ [])))

told_more : (pieces : List Piece) (p : Piece) → told_in (pieces ++ p ∷ []) ≡ told_in pieces ++ told_in (p ∷ [])
told_more [] p = refl
told_more (Told text ∷ pieces) p = ap (λ (t : List ℕ). text ++ t) (told_more pieces p) ∙ sym (append_assoc text (told_in pieces) (told_in (p ∷ [])))
told_more (Own text ∷ pieces) p = told_more pieces p

text_told : (pieces : List Piece) (text : List ℕ) → text_in (pieces ++ Told text ∷ []) ≡ text_in pieces ++ text
text_told pieces text = text_more pieces (Told text) ∙ ap (λ (t : List ℕ). text_in pieces ++ t) (append-nil text)

text_own : (pieces : List Piece) (text : List ℕ) → text_in (pieces ++ Own text ∷ []) ≡ text_in pieces ++ text
text_own pieces text = text_more pieces (Own text) ∙ ap (λ (t : List ℕ). text_in pieces ++ t) (append-nil text)

told_told : (pieces : List Piece) (text : List ℕ) → told_in (pieces ++ Told text ∷ []) ≡ told_in pieces ++ text
told_told pieces text = told_more pieces (Told text) ∙ ap (λ (t : List ℕ). told_in pieces ++ t) (append-nil text)

told_own : (pieces : List Piece) (text : List ℕ) → told_in (pieces ++ Own text ∷ []) ≡ told_in pieces
told_own pieces text = told_more pieces (Own text) ∙ append-nil (told_in pieces)

-- the script of a session, with one more item or none
pub taken_more : (said : Exchanges) (item : WrittenItem) (when : When) → taken (Then said (Took item when)) ≡ taken said ++ timed_said item ∷ []
taken_more said item when = map-append timed_said (items_of said) (item ∷ [])

pub taken_same : (said : Exchanges) (exchange : Exchange) → item_in exchange ≡ [] → taken (Then said exchange) ≡ taken said
taken_same said exchange none = ap (λ (items : List WrittenItem). map timed_said (items_of said ++ items)) none ∙ ap (λ (items : List WrittenItem). map timed_said items) (append-nil (items_of said))

module _ {F U : Type 0} (tariffs : Shared F (Bor Usage × Unit {0}) Charge) (tariff : F) (rules : Shared U (Bor Standing × Unit {0}) ℕ) (rule : U) where
  abbrev lifted : (lines : List Timed) (w : World) (moves : List Move) (next : World) (told : List ℕ) → w.over ≡ false → (g : Goes tariffs tariff rules rule lines w moves next told)
      → Lifted tariffs tariff rules rule (with_lines lines w) moves next
  lifted lines w moves next told going g = run_comes tariffs tariff rules rule (with_lines lines w) moves next (g.going ∙ sym going) g.run

  -- the count doesn't fall
  pub goes_up : (lines : List Timed) (w : World) (moves : List Move) (next : World) (told : List ℕ) → w.over ≡ false → Goes tariffs tariff rules rule lines w moves next told → w.count + owed w.phase ≤ next.count
  goes_up lines w moves next told going g =
      let c = lifted lines w moves next told going g in
      let counts = c.counts in
      let free : owed next.phase ≡ 0 = ap owed g.phase in omega (arith, counts, free)

  -- A PART of a session is one of a run, if the lines that are left aren't due before its end
  pub goes_on : (lines rest : List Timed) (w : World) (moves : List Move) (next : World) (told : List ℕ) → w.over ≡ false → Goes tariffs tariff rules rule lines w moves next told → NotBefore next.count rest
      → Run tariffs tariff rules rule (with_lines (lines ++ rest) w) moves (with_lines rest next)
  goes_on lines rest w moves next told going g early =
      let c = lifted lines w moves next told going g in
      let free : owed next.phase ≡ 0 = ap owed g.phase in
      subst (λ (v : World). Run tariffs tariff rules rule (with_lines (lines ++ rest) w) moves v) (behind_none next.lines rest next g.none) (c.lifts rest next.count (omega (arith, free)) early)

  -- A MOMENT of a session is one of the run of its script, whatever lines are left that aren't due by then
  pub record Reaches (s : State) (said : Exchanges) (now : Moment) : Type 0 where
    pub none : now.world.lines ≡ []
    pub going : now.world.over ≡ false
    pub phase : now.world.phase ≡ Between
    pub run : (rest : List Timed) → NotBefore now.world.count rest → Run tariffs tariff rules rule (start (taken said ++ rest) None s) now.moves (with_lines rest now.world)
    pub pieces : List Piece
    pub all : now.text ≡ text_in pieces
    pub told : now.world.text ≡ told_in pieces
    pub own : All IsOwn pieces

  reaches_start : (s : State) (now : Moment) → now ≡ beginning s → Reaches s Nothing now
  reaches_start s now is =
      subst (λ (m : Moment). Reaches s Nothing m) (sym is)
      (record { none = refl; going = refl; phase = refl; run = λ rest early. refl; pieces = []; all = refl; told = refl; own = All-nil IsOwn })

  -- a part more
  reaches_part : (s : State) (said more : Exchanges) (lines : List Timed) (before after : Moment) (moves : List Move) (told : List ℕ) (own : List Piece) → Reaches s said before
      → ((rest : List Timed) → taken more ++ rest ≡ taken said ++ (lines ++ rest)) → NotBefore before.world.count lines → Goes tariffs tariff rules rule lines before.world moves after.world told
      → after.moves ≡ before.moves ++ moves → after.text ≡ before.text ++ (told ++ text_in own) → told_in own ≡ [] → All IsOwn own → Reaches s more after
  reaches_part s said more lines before after moves told own r script early g moves_are text nothing owns = record {
    none = g.none;
    going = g.going;
    phase = g.phase;
    run = λ rest due.
        subst (λ (ms : List Move). Run tariffs tariff rules rule (start (taken more ++ rest) None s) ms (with_lines rest after.world)) (sym moves_are)
        (subst (λ (ls : List Timed). Run tariffs tariff rules rule (start ls None s) (before.moves ++ moves) (with_lines rest after.world)) (sym (script rest))
        (run_append tariffs tariff rules rule (start (taken said ++ (lines ++ rest)) None s) before.moves moves (with_lines (lines ++ rest) before.world) (with_lines rest after.world)
        (r.run (lines ++ rest) (both lines rest early due)) (goes_on lines rest before.world moves after.world told r.going g due)));
    pieces = (r.pieces ++ Told told ∷ []) ++ own;
    all = text ∙ ap (λ (t : List ℕ). t ++ (told ++ text_in own)) r.all ∙ sym (append_assoc (text_in r.pieces) told (text_in own))
        ∙ ap (λ (t : List ℕ). t ++ text_in own) (sym (text_told r.pieces told)) ∙ sym (text_parts (r.pieces ++ Told told ∷ []) own);
    told = g.text ∙ ap (λ (t : List ℕ). t ++ told) r.told ∙ sym (told_told r.pieces told) ∙ sym (append-nil (told_in (r.pieces ++ Told told ∷ [])))
        ∙ ap (λ (t : List ℕ). told_in (r.pieces ++ Told told ∷ []) ++ t) (sym nothing) ∙ sym (told_parts (r.pieces ++ Told told ∷ []) own);
    own = All-append IsOwn (r.pieces ++ Told told ∷ []) own (All-append IsOwn r.pieces (Told told ∷ []) r.own (All-cons IsOwn (Told told) [] tt (All-nil IsOwn))) owns;
  }
    where
      later : before.world.count ≤ after.world.count
      later = let up = goes_up lines before.world moves after.world told r.going g in omega (arith, up)

      both : (own_lines rest : List Timed) → NotBefore before.world.count own_lines → NotBefore after.world.count rest → NotBefore before.world.count (own_lines ++ rest)
      both [] rest due behind = earlier before.world.count after.world.count rest later behind
      both (next ∷ others) rest due behind = due

      text_parts : (xs ys : List Piece) → text_in (xs ++ ys) ≡ text_in xs ++ text_in ys
      text_parts [] ys = refl
      text_parts (Told text ∷ xs) ys = ap (λ (t : List ℕ). text ++ t) (text_parts xs ys) ∙ sym (append_assoc text (text_in xs) (text_in ys))
      text_parts (Own text ∷ xs) ys = ap (λ (t : List ℕ). text ++ t) (text_parts xs ys) ∙ sym (append_assoc text (text_in xs) (text_in ys))

      told_parts : (xs ys : List Piece) → told_in (xs ++ ys) ≡ told_in xs ++ told_in ys
      told_parts [] ys = refl
      told_parts (Told text ∷ xs) ys = ap (λ (t : List ℕ). text ++ t) (told_parts xs ys) ∙ sym (append_assoc text (told_in xs) (told_in ys))
      told_parts (Own text ∷ xs) ys = told_parts xs ys

  -- a line of the console's own, and nothing else
  reaches_aside : (s : State) (said more : Exchanges) (before after : Moment) (own : List ℕ) → Reaches s said before → taken more ≡ taken said → after.world ≡ before.world → after.moves ≡ before.moves
      → after.text ≡ before.text ++ own → IsOwn (Own own) → Reaches s more after
  reaches_aside s said more before after own r same world moves text is_own = record {
    none = ap (λ (w : World). w.lines) world ∙ r.none;
    going = ap (λ (w : World). w.over) world ∙ r.going;
    phase = ap (λ (w : World). w.phase) world ∙ r.phase;
    run = λ rest early. carried rest (r.run rest (subst (λ (w : World). NotBefore w.count rest) world early));
    pieces = r.pieces ++ Own own ∷ [];
    all = text ∙ ap (λ (t : List ℕ). t ++ own) r.all ∙ sym (text_own r.pieces own);
    told = ap (λ (w : World). w.text) world ∙ r.told ∙ sym (told_own r.pieces own);
    own = All-append IsOwn r.pieces (Own own ∷ []) r.own (All-cons IsOwn (Own own) [] is_own (All-nil IsOwn));
  }
    where
      carried : (rest : List Timed) → Run tariffs tariff rules rule (start (taken said ++ rest) None s) before.moves (with_lines rest before.world)
          → Run tariffs tariff rules rule (start (taken more ++ rest) None s) after.moves (with_lines rest after.world)
      carried rest run =
          subst (λ (w : World). Run tariffs tariff rules rule (start (taken more ++ rest) None s) after.moves (with_lines rest w)) (sym world)
          (subst (λ (ms : List Move). Run tariffs tariff rules rule (start (taken more ++ rest) None s) ms (with_lines rest before.world)) (sym moves)
          (subst (λ (ls : List Timed). Run tariffs tariff rules rule (start (ls ++ rest) None s) before.moves (with_lines rest before.world)) (sym same) run))

  reaches_skip : (s : State) (said more : Exchanges) (before after : Moment) → Reaches s said before → taken more ≡ taken said → after.world ≡ before.world → after.moves ≡ before.moves
      → after.text ≡ before.text → Reaches s more after
  reaches_skip s said more before after r same world moves text = record {
    none = ap (λ (w : World). w.lines) world ∙ r.none;
    going = ap (λ (w : World). w.over) world ∙ r.going;
    phase = ap (λ (w : World). w.phase) world ∙ r.phase;
    run = λ rest early. carried rest (r.run rest (subst (λ (w : World). NotBefore w.count rest) world early));
    pieces = r.pieces;
    all = text ∙ r.all;
    told = ap (λ (w : World). w.text) world ∙ r.told;
    own = r.own;
  }
    where
      carried : (rest : List Timed) → Run tariffs tariff rules rule (start (taken said ++ rest) None s) before.moves (with_lines rest before.world)
          → Run tariffs tariff rules rule (start (taken more ++ rest) None s) after.moves (with_lines rest after.world)
      carried rest run =
          subst (λ (w : World). Run tariffs tariff rules rule (start (taken more ++ rest) None s) after.moves (with_lines rest w)) (sym world)
          (subst (λ (ms : List Move). Run tariffs tariff rules rule (start (taken more ++ rest) None s) ms (with_lines rest before.world)) (sym moves)
          (subst (λ (ls : List Timed). Run tariffs tariff rules rule (start (ls ++ rest) None s) before.moves (with_lines rest before.world)) (sym same) run))

  reaches_by : (s : State) (said : Exchanges) (exchange : Exchange) (before after : Moment) → Reaches s said before → Rattle.g_laws_sessions.specs.Session.Exchanged tariffs tariff rules rule exchange before after → Reaches s (Then said exchange) after
  reaches_by s said (Took item when) before after r t =
      reaches_part s said (Then said (Took item when)) (timed_said item ∷ []) before after t.moves t.told [] r
      (λ rest. ap (λ (ls : List Timed). ls ++ rest) (taken_more said item when) ∙ append_assoc (taken said) (timed_said item ∷ []) rest) (not_before before.world.count item when t.is_typed.first t.is_typed.head) t.goes t.moves_are
      (t.text ∙ ap (λ (x : List ℕ). before.text ++ x) (sym (append-nil t.told))) refl (All-nil IsOwn)
  reaches_by s said Rested before after r t =
      reaches_part s said (Then said Rested) [] before after t.moves t.told (Own (tick_line after.world.count) ∷ []) r (λ rest. ap (λ (ls : List Timed). ls ++ rest) (taken_same said Rested refl)) tt t.goes t.moves_are
      (t.text ∙ append_assoc before.text t.told (tick_line after.world.count) ∙ ap (λ (x : List ℕ). before.text ++ (t.told ++ x)) (sym (append-nil (tick_line after.world.count)))) refl
      (All-cons IsOwn (Own (tick_line after.world.count)) [] (inl (after.world.count, inl refl)) (All-nil IsOwn))
  reaches_by s said (Asked q) before after r t =
      reaches_aside s said (Then said (Asked q)) before after t.answer r (taken_same said (Asked q) refl) (ap (λ (m : Moment). m.world) t.after_is) (ap (λ (m : Moment). m.moves) t.after_is) (ap (λ (m : Moment). m.text) t.after_is)
      (inr (q, (before.world, t.answers)))
  reaches_by s said (Refused k skips) before after r t =
      reaches_aside s said (Then said (Refused k skips)) before after (refusal_line k) r (taken_same said (Refused k skips) refl) (ap (λ (m : Moment). m.world) t.after_is) (ap (λ (m : Moment). m.moves) t.after_is) (ap (λ (m : Moment). m.text) t.after_is)
      (inl (k, inr refl))
  reaches_by s said Skipped before after r t =
      reaches_skip s said (Then said Skipped) before after r (taken_same said Skipped refl) (ap (λ (m : Moment). m.world) t.after_is) (ap (λ (m : Moment). m.moves) t.after_is) (ap (λ (m : Moment). m.text) t.after_is)
  reaches_by s said (Unclosed k) before after r t =
      reaches_aside s said (Then said (Unclosed k)) before after (refusal_line k) r (taken_same said (Unclosed k) refl) (ap (λ (m : Moment). m.world) t.after_is) (ap (λ (m : Moment). m.moves) t.after_is) (ap (λ (m : Moment). m.text) t.after_is)
      (inl (k, inr refl))

  pub reaches : (s : State) (said : Exchanges) (now : Moment) → Comes tariffs tariff rules rule s said now → Reaches s said now
  reaches s Nothing now is = reaches_start s now is
  reaches s (Then said exchange) now (before, comes, follows, exchanged) = reaches_by s said exchange before now (reaches s said before comes) exchanged

  -- the run to here, with no line left
  pub run_here : (s : State) (said : Exchanges) (now : Moment) → Reaches s said now → Run tariffs tariff rules rule (start (taken said) None s) now.moves now.world
  run_here s said now r =
      subst (λ (w : World). Run tariffs tariff rules rule (start (taken said) None s) now.moves w) (own_lines now.world r.none)
      (subst (λ (ls : List Timed). Run tariffs tariff rules rule (start ls None s) now.moves (with_lines [] now.world)) (append-nil (taken said)) (r.run [] tt))
    where
      own_lines : (w : World) → w.lines ≡ [] → with_lines [] w ≡ w
      own_lines w none = ap (λ (ls : List Timed). with_lines ls w) (sym none)

  pub sessions_are_runs : SessionsAreRuns tariffs tariff rules rule
  sessions_are_runs s said now comes =
      let r = reaches s said now comes in record { run = run_here s said now r; pieces = r.pieces; all = r.all; told = r.told; own = r.own }

  -- each item has its time within its limits
  item_timed : (item : WrittenItem) → IsItem item → IsTimed (timed_said item)
  item_timed item is = by item.turn item.what is.1
    where
      by : (turn : ℕ) (w : WrittenOperator) → IsWrittenOperator w → (let i : WrittenItem = record { turn = turn; what = w } in IsTimed (timed_said i))
      by turn (Job name user time money lines) it = it.time_within
      by turn (Bare line.Format) it = tt
      by turn (Bare line.Start) it = tt
      by turn (Bare line.Restore) it = tt
      by turn (Bare line.Shut) it = tt
      by turn (Bare (line.Job name user time money lines)) it = absurd it
      by turn (Bare (line.Mount k)) it = tt
      by turn (Bare (line.Unmount k)) it = tt
      by turn (Bare (line.Dump k)) it = tt
      by turn (Bare (line.Process k)) it = tt
      by turn (Bare (line.Migrate path)) it = tt
      by turn (Bare (line.StopDisc k)) it = tt
      by turn (Bare (line.StopTape k)) it = tt
      by turn (Bare (line.Login t user time)) it = it.2
      by turn (Bare (line.Typed t text)) it = tt
      by turn (Bare (line.Logout t)) it = tt

  all_timed : (s : State) (said : Exchanges) (now : Moment) → Comes tariffs tariff rules rule s said now → AreTimed (taken said)
  all_timed s Nothing now is = All-nil IsTimed
  all_timed s (Then said (Took item when)) now (before, comes, follows, t) =
      subst (λ (ls : List Timed). AreTimed ls) (sym (taken_more said item when))
      (All-append IsTimed (taken said) (timed_said item ∷ []) (all_timed s said before comes) (All-cons IsTimed (timed_said item) [] (item_timed item t.is_typed.is_item) (All-nil IsTimed)))
  all_timed s (Then said Rested) now (before, comes, follows, t) = subst (λ (ls : List Timed). AreTimed ls) (sym (taken_same said Rested refl)) (all_timed s said before comes)
  all_timed s (Then said (Asked q)) now (before, comes, follows, t) = subst (λ (ls : List Timed). AreTimed ls) (sym (taken_same said (Asked q) refl)) (all_timed s said before comes)
  all_timed s (Then said (Refused k skips)) now (before, comes, follows, t) = subst (λ (ls : List Timed). AreTimed ls) (sym (taken_same said (Refused k skips) refl)) (all_timed s said before comes)
  all_timed s (Then said Skipped) now (before, comes, follows, t) = subst (λ (ls : List Timed). AreTimed ls) (sym (taken_same said Skipped refl)) (all_timed s said before comes)
  all_timed s (Then said (Unclosed k)) now (before, comes, follows, t) = subst (λ (ls : List Timed). AreTimed ls) (sym (taken_same said (Unclosed k) refl)) (all_timed s said before comes)

  pub sessions_are_replayed : OneText tariffs tariff rules rule → SessionsAreReplayed tariffs tariff rules rule
  sessions_are_replayed one s said now rest others last other rule_is dumped comes later run over other_over plain others_plain charged =
      let r = reaches s said now comes in
      sym (one (taken said) None s (now.moves ++ rest) others last other rule_is (all_timed s said now comes) dumped
      (run_append tariffs tariff rules rule (start (taken said) None s) now.moves rest now.world last (run_here s said now r) later) run over other_over plain others_plain charged)
