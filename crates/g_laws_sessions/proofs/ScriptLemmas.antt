-- A script that is typed as a session is the run of that script.
-- serves: lib
use Rattle.std.proofs.Common.{All, List, [], ◌∷◌, ◌++◌, ℕ, ◌+◌, ◌<◌, ◌≤◌, ◌^◌, ◌≡◌, ◌⊎◌, max, Bool, true, false, Option, None, Result, nat_le, get_or, length, map, append_assoc, append-nil, refl, sym, ◌∙◌, ap, subst, inl, inr, arith}
use Rattle.std.specs.Fmt.{decimal}
use Rattle.std.specs.Fn.{Shared}
use Rattle.std.specs.List.{AllByRecursion, flat_map}
use denote.Ref.{Bor}
use Rattle.std.proofs.lemmas.Bool.{false≢true, le-leb, leb-false, leb-true}
use Rattle.std.proofs.lemmas.Fmt.{decimal_is_IsNumeral}
use Rattle.std.proofs.lemmas.Grind.{flat_map-append}
use Rattle.std.proofs.lemmas.List.{map-append}
use Rattle.std.proofs.lemmas.List.Elements.{All-append, All-cons, All-from_get_or, All-from_recursion, All-nil, recursion_from_All}
use Rattle.std.proofs.lemmas.Str.Parse.{digit_at}
use Rattle.g_rules.specs.declared.tariff.Charge.{Charge}
use Rattle.g_rules.specs.declared.tariff.Usage.{Usage}
use Rattle.g_rules.specs.declared.rule.Standing.{Standing}
use Rattle.g_script.proofs.ReadLemmas.{lines_in}
use Rattle.g_script.proofs.SaidLemmas.{items_say}
use Rattle.g_script.specs.Script.{Bare, IsItem, IsParsed, IsPrinted, IsTypedWithin, Job, WrittenItem, WrittenOperator, behind_head, head_line, item_lines, timed_said, written_text}
use Rattle.g_script.specs.declared.operator.Operator.{Operator}
use Rattle.g_script.specs.declared.operator.Operator.TheVariants as line
use Rattle.g_script.specs.declared.operator.Timed.{Timed}
use Rattle.g_store_model.specs.CallStep.{Outcome}
use Rattle.g_store_model.specs.State.{State}
use Rattle.g_run_model.specs.Lines.{LineGives, is_process}
use Rattle.g_run_model.specs.Moves.{Move, TakeLine, Dumped, Begin, Answered, TurnOver, Ticked, Over, Step, Run}
use Rattle.g_run_model.specs.World.{World, is_due, nothing_steps, start}
use Rattle.g_run_model.proofs.TurnLemmas.{run_append}
use Rattle.g_typing.specs.Typed.{AtOnce, AtTime, IsTyped, IsTypedHead}
use Rattle.g_laws_sessions.specs.Early.{with_lines}
use Rattle.g_laws_sessions.specs.Laws.{IsRunOfScript, IsScript, ScriptsAreSessions}
use Rattle.g_laws_sessions.specs.Session.{Asked, Comes, EndsWithLine, Exchanges, Goes, Moment, Nothing, Refused, Rested, Skipped, Then, Took, Unclosed, beginning}
use Rattle.g_laws_sessions.proofs.EarlyLemmas.{Ends, Goes as Passes, dump_leaves, dump_lines, leaves_as, nil_cons, step_goes, turn_leaves, turn_lines}
use Rattle.g_laws_sessions.proofs.LineLemmas.{line_lined}

-- a time in the past, and now, from now on
due_alike : (t now n : ℕ) → now ≤ n → nat_le (max t now) n ≡ nat_le t n
due_alike t now n past = by (nat_le t n) refl (nat_le (max t now) n) refl
  where
    by : (a : Bool) → nat_le t n ≡ a → (b : Bool) → nat_le (max t now) n ≡ b → nat_le (max t now) n ≡ nat_le t n
    by true early true late = late ∙ sym early
    by false early false late = late ∙ sym early
    by true early false late = let e = leb-true t n early in let l = leb-false (max t now) n late in absurd (let no : ⊥ = omega (arith, e, l, past) in no)
    by false early true late = let e = leb-false t n early in let l = leb-true (max t now) n late in absurd (let no : ⊥ = omega (arith, e, l) in no)

with_own : (w : World) (lines : List Timed) → w.lines ≡ lines → w ≡ with_lines lines w
with_own w lines is = ap (λ (ls : List Timed). with_lines ls w) is

module _ {F U : Type 0} (tariffs : Shared F (Bor Usage × Unit {0}) Charge) (tariff : F) (rules : Shared U (Bor Standing × Unit {0}) ℕ) (rule : U) where
  -- from where no line is left, none is taken
  none_left : (w : World) (front : List Move) (tape : Bool) (o : Outcome) (last : World) → w.lines ≡ [] → Run tariffs tariff rules rule w (front ++ TakeLine tape o ∷ []) last → ⊥
  none_left w [] tape o last none (mid, (next, rest, lines, phase, turn, due, is_tape, gives), run) = nil_cons next rest (sym none ∙ lines)
  none_left w (move ∷ front) tape o last none (mid, step, run) = by (λ empty. none_left mid front tape o last empty run) (step_goes tariffs tariff rules rule w move mid none step)
    where
      by : (mid.lines ≡ [] → ⊥) → Ends tariffs tariff rules rule w mid ⊎ Passes tariffs tariff rules rule w move mid → ⊥
      by more (inl ends) = more ends.none
      by more (inr g) = more g.none

-- ONE LINE IS LEFT: what happens up to it, with a line in its place that asks for the same and is due alike, and any lines after it
module _ {F U : Type 0} (tariffs : Shared F (Bor Usage × Unit {0}) Charge) (tariff : F) (rules : Shared U (Bor Standing × Unit {0}) ℕ) (rule : U)
    (own other : Timed) (rest : List Timed) (since : ℕ) (what_is : other.what ≡ own.what) (alike : (n : ℕ) → since ≤ n → nat_le own.turn n ≡ nat_le other.turn n) where
  record Steps (w mid : World) (move : Move) : Type 0 where
    left : mid.lines ≡ own ∷ []
    later : w.count ≤ mid.count
    step : Step tariffs tariff rules rule (with_lines (other ∷ rest) w) move (with_lines (other ∷ rest) mid)

  undue_by : (w : World) → since ≤ w.count → nat_le own.turn w.count ≡ false → nat_le other.turn w.count ≡ false
  undue_by w past undue = sym (alike w.count past) ∙ undue

  steps : (w mid : World) (move : Move) → since ≤ w.count → (let v : World = with_lines (own ∷ []) w in Step tariffs tariff rules rule v move mid) → (mid.lines ≡ []) ⊎ Steps w mid move
  steps w mid (TakeLine tape o) past (next, others, lines, between, idle, due, is_tape, gives) =
      let l = line_lined o next.what (record w { lines = others }) mid gives in
      let none : others ≡ [] = cc in inl (l.kept.lines ∙ none)
  steps w mid (Dumped o) past (between, idle, undue, dumping, (r, s, step, is)) =
      let v : World = with_lines (own ∷ []) w in
      let l = leaves_as v mid _ is (dump_leaves _ r s v) in
      let same = l.count in inr (record {
        left = l.lines;
        later = omega (arith, same);
        step = (between, idle, undue_by w past undue, dumping, (r, s, step, ap (λ (x : World). with_lines (other ∷ rest) x) is ∙ dump_lines _ r s v (other ∷ rest)));
      })
  steps w mid (Begin number) past (idle, undue, ready, (place, job, chosen, there, named, is)) =
      let same : mid.count ≡ w.count = ap (λ (x : World). x.count) is in inr (record {
        left = ap (λ (x : World). x.lines) is;
        later = omega (arith, same);
        step = (idle, undue_by w past undue, ready, (place, job, chosen, there, named, ap (λ (x : World). with_lines (other ∷ rest) x) is));
      })
  steps w mid (Answered o) past (number, call, more, job, answer, s, asks, here, step, real, is) =
      let same : mid.count ≡ w.count = ap (λ (x : World). x.count) is in inr (record {
        left = ap (λ (x : World). x.lines) is;
        later = omega (arith, same);
        step = (number, call, more, job, answer, s, asks, here, step, real, ap (λ (x : World). with_lines (other ∷ rest) x) is);
      })
  steps w mid (TurnOver number charge) past (work, job, turn, after, gives, here, priced, ends, is) =
      let v : World = with_lines (own ∷ []) w in
      let l = leaves_as v mid _ is (turn_leaves job after turn v) in
      let same = l.count in inr (record {
        left = l.lines;
        later = omega (arith, same);
        step = (work, job, turn, after, gives, here, priced, ends, ap (λ (x : World). with_lines (other ∷ rest) x) is ∙ turn_lines job after turn v (other ∷ rest));
      })
  steps w mid Ticked past (idle, through, is) =
      let more : mid.count ≡ w.count + 1 = ap (λ (x : World). x.count) is in inr (record {
        left = ap (λ (x : World). x.lines) is;
        later = omega (arith, more);
        step = (idle, through, ap (λ (x : World). with_lines (other ∷ rest) x) is);
      })
  steps w mid Over past (between, idle, lines, nothing, going, is) = absurd (let no : ⊥ = cc in no)

  -- the line itself
  takes : (w mid : World) (tape : Bool) (o : Outcome) → since ≤ w.count → (let v : World = with_lines (own ∷ []) w in Step tariffs tariff rules rule v (TakeLine tape o) mid)
      → (let v : World = with_lines (other ∷ rest) w in Step tariffs tariff rules rule v (TakeLine tape o) (with_lines rest mid))
  takes w mid tape o past (next, others, lines, between, idle, due, is_tape, gives) =
      let l = line_lined o next.what (record w { lines = others }) mid gives in
      let first : own ≡ next = cc in
      let what : next.what ≡ other.what = ap (λ (x : Timed). x.what) (sym first) ∙ sym what_is in (
        other,
        rest,
        refl,
        between,
        idle,
        still_due due,
        is_tape ∙ ap is_process what,
        subst (λ (x : Operator). LineGives o x (with_lines rest w) (with_lines rest mid)) what (l.gives rest),
      )
    where
      still_due : (nat_le own.turn w.count ≡ true) ⊎ (nothing_steps w ≡ true) → (nat_le other.turn w.count ≡ true) ⊎ (nothing_steps w ≡ true)
      still_due (inl due) = inl (sym (alike w.count past) ∙ due)
      still_due (inr still) = inr still

  up_to : (w : World) (front : List Move) (tape : Bool) (o : Outcome) (last : World) → since ≤ w.count → (let v : World = with_lines (own ∷ []) w in Run tariffs tariff rules rule v (front ++ TakeLine tape o ∷ []) last)
      → Run tariffs tariff rules rule (with_lines (other ∷ rest) w) (front ++ TakeLine tape o ∷ []) (with_lines rest last)
  up_to w [] tape o last past (mid, step, is) = (with_lines rest mid, takes w mid tape o past step, ap (λ (x : World). with_lines rest x) is)
  up_to w (move ∷ front) tape o last past (mid, step, run) = by (λ x at. up_to x front tape o last at) (steps w mid move past step)
    where
      by : ((x : World) → since ≤ x.count → (let v : World = with_lines (own ∷ []) x in Run tariffs tariff rules rule v (front ++ TakeLine tape o ∷ []) last)
          → Run tariffs tariff rules rule (with_lines (other ∷ rest) x) (front ++ TakeLine tape o ∷ []) (with_lines rest last))
          → (mid.lines ≡ []) ⊎ Steps w mid move → Run tariffs tariff rules rule (with_lines (other ∷ rest) w) (move ∷ (front ++ TakeLine tape o ∷ [])) (with_lines rest last)
      by more (inl none) = absurd (none_left tariffs tariff rules rule mid front tape o last none run)
      by more (inr s) =
          let here = s.later in (
            with_lines (other ∷ rest) mid,
            s.step,
            more mid (omega (arith, here, past)) (subst (λ (x : World). Run tariffs tariff rules rule x (front ++ TakeLine tape o ∷ []) last) (with_own mid (own ∷ []) s.left) run),
          )

-- the item as it was typed, with its own time
abbrev with_time : ℕ → WrittenItem → WrittenItem
with_time t item = record { turn = t; what = item.what }

after_of : (P : ℕ → Type 0) (xs ys : List ℕ) → AllByRecursion P (xs ++ ys) → AllByRecursion P ys
after_of P [] ys all = all
after_of P (x ∷ xs) ys all = after_of P xs ys all.1

abbrev Printing : ℕ → Type 0
Printing byte = (32 ≤ byte) × (byte ≤ 126)

digits_printed : (t : ℕ) → t < 2 ^ 64 → All Printing (decimal t)
digits_printed t fits =
    All-from_get_or Printing (decimal t) 0 (λ i inside. let digit = digit_at (decimal t) i (decimal_is_IsNumeral t fits).0.1 inside in (omega (arith, digit.0), omega (arith, digit.1)))

typed_within : (t turn : ℕ) (w : WrittenOperator) → t ≤ 1000000000 → length (decimal t ++ (32 ∷ written_text w)) ≤ 160 → IsTypedWithin turn w → IsTypedWithin t w
typed_within t turn (Bare (line.Typed n text)) few short within =
    let item : List ℕ = 32 ∷ written_text (Bare (line.Typed n text)) in
    let behind = after_of Printing (decimal turn) item (recursion_from_All Printing (decimal turn ++ item) within.bytes) in
    record { short = short; bytes = All-append Printing (decimal t) item (digits_printed t (omega (arith, few))) (All-from_recursion Printing item behind) }
typed_within t turn (Bare line.Format) few short within = tt
typed_within t turn (Bare line.Start) few short within = tt
typed_within t turn (Bare line.Restore) few short within = tt
typed_within t turn (Bare line.Shut) few short within = tt
typed_within t turn (Bare (line.Job name user time money lines)) few short within = tt
typed_within t turn (Bare (line.Mount k)) few short within = tt
typed_within t turn (Bare (line.Unmount k)) few short within = tt
typed_within t turn (Bare (line.Dump k)) few short within = tt
typed_within t turn (Bare (line.Process k)) few short within = tt
typed_within t turn (Bare (line.Migrate path)) few short within = tt
typed_within t turn (Bare (line.StopDisc k)) few short within = tt
typed_within t turn (Bare (line.StopTape k)) few short within = tt
typed_within t turn (Bare (line.Login n user time)) few short within = tt
typed_within t turn (Bare (line.Logout n)) few short within = tt
typed_within t turn (Job name user time money lines) few short within = tt

-- an item that is typed with a time is one of a script
record AsScript (count : ℕ) (item : WrittenItem) (typed : List (List ℕ)) : Type 0 where
  time : ℕ
  turn_is : item.turn ≡ max time count
  is_item : IsItem (with_time time item)
  lines : typed ≡ item_lines (with_time time item)

as_script : (count : ℕ) (item : WrittenItem) (typed : List (List ℕ)) → IsTyped count item AtTime typed → AsScript count item typed
as_script count item typed is = by is.head
  where
    by : IsTypedHead count item AtTime is.first → AsScript count item typed
    by (t, few, first, turn) = record {
      time = t;
      turn_is = turn;
      is_item = (few, is.is_item.1, typed_within t item.turn item.what few (subst (λ (l : List ℕ). length l ≤ 160) first is.short) is.is_item.2);
      lines = is.all ∙ ap (λ (l : List ℕ). l ∷ behind_head item.what) first;
    }

module _ {F U : Type 0} (tariffs : Shared F (Bor Usage × Unit {0}) Charge) (tariff : F) (rules : Shared U (Bor Standing × Unit {0}) ℕ) (rule : U) where
  record Scripted (s : State) (now : Moment) : Type 0 where
    items : List WrittenItem
    good : All IsItem items
    lines : now.lines ≡ lines_in items
    none : now.world.lines ≡ []
    run : (rest : List Timed) → Run tariffs tariff rules rule (start (map timed_said items ++ rest) None s) now.moves (with_lines rest now.world)

  scripted : (s : State) (said : Exchanges) (now : Moment) → Comes tariffs tariff rules rule s said now → IsScript said → Scripted s now
  scripted s Nothing now is all = subst (λ (m : Moment). Scripted s m) (sym is) (record { items = []; good = All-nil IsItem; lines = refl; none = refl; run = λ rest. refl })
  scripted s (Then said (Took item AtTime)) now (before, comes, follows, t) all = by (scripted s said before comes all) (as_script before.world.count item t.typed t.is_typed) (t.holds refl)
    where
      by : Scripted s before → AsScript before.world.count item t.typed → EndsWithLine t.moves → Scripted s now
      by r a (front, tape, o, ends) = record {
        items = r.items ++ it ∷ [];
        good = All-append IsItem r.items (it ∷ []) r.good (All-cons IsItem it [] a.is_item (All-nil IsItem));
        lines = t.lines ∙ ap (λ (ls : List (List ℕ)). ls ++ t.typed) r.lines ∙ ap (λ (ls : List (List ℕ)). lines_in r.items ++ ls) (a.lines ∙ sym (append-nil (item_lines it)))
            ∙ sym (flat_map-append item_lines r.items (it ∷ []));
        none = t.goes.none;
        run = λ rest.
            subst (λ (ms : List Move). Run tariffs tariff rules rule (start (map timed_said (r.items ++ it ∷ []) ++ rest) None s) ms (with_lines rest now.world)) (sym t.moves_are)
            (subst (λ (ls : List Timed). Run tariffs tariff rules rule (start ls None s) (before.moves ++ t.moves) (with_lines rest now.world)) (sym (script rest))
            (run_append tariffs tariff rules rule (start (map timed_said r.items ++ (timed_said it ∷ rest)) None s) before.moves t.moves (with_lines (timed_said it ∷ rest) before.world) (with_lines rest now.world)
            (r.run (timed_said it ∷ rest)) (part rest)));
      }
        where
          it : WrittenItem
          it = with_time a.time item

          script : (rest : List Timed) → map timed_said (r.items ++ with_time a.time item ∷ []) ++ rest ≡ map timed_said r.items ++ (timed_said (with_time a.time item) ∷ rest)
          script rest =
              ap (λ (ls : List Timed). ls ++ rest) (map-append timed_said r.items (with_time a.time item ∷ [])) ∙ append_assoc (map timed_said r.items) (timed_said (with_time a.time item) ∷ []) rest

          part : (rest : List Timed) → Run tariffs tariff rules rule (with_lines (timed_said (with_time a.time item) ∷ rest) before.world) t.moves (with_lines rest now.world)
          part rest =
              subst (λ (ms : List Move). Run tariffs tariff rules rule (with_lines (timed_said (with_time a.time item) ∷ rest) before.world) ms (with_lines rest now.world)) (sym ends)
              (up_to tariffs tariff rules rule (timed_said item) (timed_said (with_time a.time item)) rest before.world.count refl
              (λ n past. ap (λ (k : ℕ). nat_le k n) a.turn_is ∙ due_alike a.time before.world.count n past) before.world front tape o now.world (omega arith)
              (subst (λ (ms : List Move). let v : World = with_lines (timed_said item ∷ []) before.world in Run tariffs tariff rules rule v ms now.world) ends t.goes.run))
  scripted s (Then said (Took item AtOnce)) now comes all = absurd all
  scripted s (Then said Rested) now comes all = absurd all
  scripted s (Then said (Asked q)) now comes all = absurd all
  scripted s (Then said (Refused k skips)) now comes all = absurd all
  scripted s (Then said Skipped) now comes all = absurd all
  scripted s (Then said (Unclosed k)) now comes all = absurd all

  pub scripts_are_sessions : ScriptsAreSessions tariffs tariff rules rule
  scripts_are_sessions s said now comes all =
      let r = scripted s said now comes all in record {
        lines = map timed_said r.items;
        parsed = items_say now.lines r.items r.good r.lines;
        run = subst (λ (w : World). Run tariffs tariff rules rule (start (map timed_said r.items) None s) now.moves w) (sym (with_own now.world [] r.none))
            (subst (λ (ls : List Timed). Run tariffs tariff rules rule (start ls None s) now.moves (with_lines [] now.world)) (append-nil (map timed_said r.items)) (r.run []));
      }
