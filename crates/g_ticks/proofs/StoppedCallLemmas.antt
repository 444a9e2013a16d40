-- A turn as moves of a run, and what a power loss leaves if a failed write stopped one of its calls: a state that the stopped call may leave.
-- serves: TurningLemmas
use Rattle.std.proofs.Common.{◌≡◌, ◌⊎◌, ℕ, true, false, List, [], ◌∷◌, ◌++◌, map, Some, None, Err, slice_get, append-nil, refl, sym, ◌∙◌, ap, subst, inl, inr}
use Rattle.std.specs.Fn.{Shared}
use denote.Ref.{Bor}
use Rattle.std.proofs.lemmas.Bool.{false≢true}
use Rattle.g_turn.specs.Causes.{IsHonest, IsOther, StopsAt}
use Rattle.g_turn.specs.State.{Broken, Stop, Waits, Work}
use Rattle.g_rules.specs.declared.tariff.Charge.{Charge}
use Rattle.g_rules.specs.declared.tariff.Usage.{Usage}
use Rattle.g_rules.specs.declared.rule.Standing.{Standing}
use Rattle.g_rules.specs.Choice.{IsChosen}
use Rattle.g_job.specs.Beginning.{standing_of}
use Rattle.g_job.specs.State.{JobState}
use Rattle.g_job.specs.TurnEnd.{IsTurn}
use Rattle.g_job.specs.Turns.{turn_work}
use Rattle.g_rules.specs.declared.turn.Turn.{Turn}
use Rattle.g_rules.specs.declared.turn.Turn.TheVariants as turns
use Rattle.g_job.proofs.TurnBounds.{turn_honest}
use Rattle.g_plain.specs.Programs.{Answer, Asks, Call, Gives, IsAnswer, RanInPart}
use Rattle.g_plain.specs.Runs.{RanBy}
use Rattle.g_plain.specs.declared.calls.StoreCall.{StoreCall}
use Rattle.g_plain.specs.declared.faults.StoreFault.TheVariants.{NoMemory, Stopped}
use Rattle.g_store_meaning.specs.Answers.{Answers}
use Rattle.g_store_meaning.specs.Reading.{StandsForState}
use Rattle.g_store_meaning.specs.Safety.{IsLeft, IsSafe, StandLike}
use Rattle.g_store_meaning.specs.StoreInvariant.{StoreFacts}
use Rattle.g_store_model.specs.CallStep.{Cut, Outcome, Plain, down}
use Rattle.g_store_model.specs.State.{State}
use Rattle.g_store.proofs.ArmLemmas.{spent_stands}
use Rattle.g_laws_power.specs.Losses.{StopsLike}
use Rattle.g_laws_power.proofs.DownLemmas.{like_down}
use Rattle.g_laws_power.proofs.SurvivalLemmas.{calls_keep_safe, stopped_calls_survive}
use Rattle.g_tape.specs.Rack.{Rack}
use Rattle.g_run_model.specs.Events.{IsCall}
use Rattle.g_run_model.specs.Losses.{MayBeLeft, OtherEnd}
use Rattle.g_run_model.specs.Moves.{Answered, Begin, EventCounted, Move, MovesCounted, Run, Step, TurnOver, turn_told}
use Rattle.g_run_model.specs.World.{KeepsLines, World, able, is_due, job_of, shows}
use Rattle.g_run_model.proofs.CountLemmas.{event_none, move_counted, moves_then}
use Rattle.g_run_model.proofs.CountedTurnLemmas.{turn_keeps, turned_world}
use Rattle.g_run_model.proofs.EventToldLemmas.{call_told}
use Rattle.g_run_model.proofs.LossLemmas.{left_before, left_behind}
use Rattle.g_run_model.proofs.StoreTurnLemmas.{CausesCount, StoreIsNow, devices_of, store_forgets, store_leads}
use Rattle.g_run_model.proofs.TurnLemmas.{MayBegin, in_turn, run_append, with_turn}
use Rattle.g_ticks.proofs.RanLemmas.{KindOf, kind_of, no_stop}

-- A STOPPED CALL: a failed write is its outcome, and a power loss leaves a state to which it may lead
cut_of : (t : State) (who : List ℕ) (call : StoreCall) (o : Outcome) (u : State) → IsCall t who call o (Err Stopped) u → o ≡ Cut
cut_of t who call o u is =
    let by = call_told t is.0 who call o (Err Stopped) u is.2 in
    let cut : by.0 ≡ Cut = by.2.cut refl in
    elim by.3 [
      | inl same ↦ sym same ∙ cut
      | inr plain ↦ absurd (let no : Plain ≡ Cut = sym plain ∙ cut in let never : ⊥ = cc in never)
    ]

call_left : (old new : StoreFacts) (who : List ℕ) (call : StoreCall) (blocks : List (List ℕ)) (rack : Rack) → IsSafe old → Answers old who call (Err Stopped) new → IsLeft new.online.disc new.rack blocks rack
    → (t : State) → StandsForState old t → (after : State) × IsCall t who call Cut (Err Stopped) after × (after ≡ down after) × StandLike new.online.disc.size blocks rack after
call_left old new who call blocks rack safe is left t here =
    let stops : StopsLike t who call new.online.disc.size blocks rack = (stopped_calls_survive old new who call blocks rack safe is left).1 t here in
    let by = call_told t stops.held who call stops.outcome (Err Stopped) stops.after stops.step in (
      stops.after,
      subst (λ (o : Outcome). IsCall t who call o (Err Stopped) stops.after) (by.2.cut refl) (stops.held, stops.holds, by.1, by.2.told),
      like_down stops.after stops.stand,
      stops.stand,
    )

-- a prefix of a program was run, with these answers, and this is left of it
abbrev Path : List ℕ → List Answer → Asks Work → StoreFacts → StoreFacts → Asks Work → Type 0
Path who [] p old new rest = (new ≡ old) × (rest ≡ p)
Path who (a ∷ told) (Gives x) old new rest = ⊥
Path who (a ∷ told) (Call call more) old new rest = (mid : StoreFacts) × Answers old who call a mid × IsAnswer a × Path who told (more a) mid new rest

path_of : (who : List ℕ) (p : Asks Work) (told : List Answer) (old : StoreFacts) (given : Work) (new : StoreFacts) → RanBy Answers who old p told given new → Path who told p old new (Gives given)
path_of who (Gives x) [] old given new r = (r.1, ap (λ (y : Work). let p : Asks Work = Gives y in p) r.0)
path_of who (Gives x) (a ∷ told) old given new r = absurd r
path_of who (Call call more) [] old given new r = absurd r
path_of who (Call call more) (a ∷ told) old given new r = (r.0, r.1, r.2, path_of who (more a) told r.0 given new r.3)

-- after which memory may have run out
record PartOf (who : List ℕ) (p : Asks Work) (old new : StoreFacts) : Type 0 where
  told : List Answer
  last : StoreFacts
  rest : Asks Work
  path : Path who told p old last rest
  end : (new ≡ last) ⊎ ((call : StoreCall) × Answers last who call (Err NoMemory) new)

part_of : (who : List ℕ) (p : Asks Work) (old new : StoreFacts) → RanInPart Answers who old p new → PartOf who p old new
part_of who (Gives x) old new r = record { told = []; last = old; rest = Gives x; path = (refl, refl); end = inl r }
part_of who (Call call more) old new (inl r) = record { told = []; last = old; rest = Call call more; path = (refl, refl); end = inl r }
part_of who (Call call more) old new (inr (inl r)) = record { told = []; last = old; rest = Call call more; path = (refl, refl); end = inr (call, r) }
part_of who (Call call more) old new (inr (inr r)) =
    let q = part_of who (more r.0) r.1 new r.4 in record { told = r.0 ∷ q.told; last = q.last; rest = q.rest; path = (r.1, r.2, r.3, q.path); end = q.end }

-- a program that is over makes no call
path_end : (who : List ℕ) (stop : Stop) (p : Asks Work) → StopsAt stop p → (told : List Answer) (old new : StoreFacts) (rest : Asks Work) → Path who told p old new rest → (new ≡ old) × (rest ≡ p)
path_end who stop (Gives x) at [] old new rest r = r
path_end who stop (Gives x) at (a ∷ told) old new rest r = absurd r
path_end who stop (Call call more) at told old new rest r = absurd at

module _ (counts : CausesCount) {F U : Type 0} (tariffs : Shared F (Bor Usage × Unit {0}) Charge) (tariff : F) (rules : Shared U (Bor Standing × Unit {0}) ℕ) (rule : U) where
  -- whatever a power loss leaves of a spent store after these moves represents a state that they may leave
  abbrev pub Leaves : World → List Move → World → StoreFacts → StoreFacts → Type 0
  Leaves first moves last old new = IsSafe old → new.spent ≡ true → (blocks : List (List ℕ)) (rack : Rack) → IsLeft new.online.disc new.rack blocks rack
      → (u : State) × MayBeLeft tariffs tariff rules rule first moves last u × StandLike new.online.disc.size blocks rack u

  module _ (w : World) (number : ℕ) (job : JobState) (here : job_of w number ≡ Some job) where
    -- moves by which the program leads from one store to another
    record Moved (s : State) (p : Asks Work) (old new : StoreFacts) (rest : Asks Work) : Type 0 where
      moves : List Move
      state : State
      run : Run tariffs tariff rules rule (with_turn w s number p) moves (with_turn w state number rest)
      now : StoreIsNow new state
      counted : MovesCounted moves [] [] (devices_of old) (devices_of new)
      leaves : Leaves (with_turn w s number p) moves (with_turn w state number rest) old new

    abbrev nothing_moved : (s : State) (p : Asks Work) (old new : StoreFacts) (rest : Asks Work) → StoreIsNow old s → new ≡ old → rest ≡ p → Moved s p old new rest
    nothing_moved s p old new rest now same over = record {
      moves = [];
      state = s;
      run = ap (λ (q : Asks Work). with_turn w s number q) over;
      now = subst (λ (x : StoreFacts). StoreIsNow x s) (sym same) now;
      counted = subst (λ (x : StoreFacts). MovesCounted [] [] [] (devices_of old) (devices_of x)) (sym same) (event_none (devices_of old));
      leaves = λ safe spent. absurd (false≢true (sym safe.up ∙ sym (ap (λ (x : StoreFacts). x.spent) same) ∙ spent));
    }

    module _ (call : StoreCall) (more : Answer → Asks Work) (a : Answer) (s : State) (old mid new : StoreFacts) (rest : Asks Work) (now : StoreIsNow old s) (is : Answers old job.user call a mid) (real : IsAnswer a) where
      abbrev asked : World
      asked = with_turn w s number (Call call more)

      abbrev led : (o : Outcome) × (t : State) × IsCall s job.user call o a t × StoreIsNow mid t × EventCounted o [] [] (devices_of old) (devices_of mid)
      led = store_leads counts job.user old s call a mid now is real

      step_of : (o : Outcome) (t : State) → IsCall s job.user call o a t → Step tariffs tariff rules rule asked (Answered o) (with_turn w t number (more a))
      step_of o t event = (number, call, more, job, a, t, refl, here, event, real, refl)

      -- one call, and what follows it
      then_moved : (tail : Moved led.1 (more a) mid new rest) → Leaves asked (Answered led.0 ∷ tail.moves) (with_turn w tail.state number rest) old new → Moved s (Call call more) old new rest
      then_moved tail leaves = record {
        moves = Answered led.0 ∷ tail.moves;
        state = tail.state;
        run = (with_turn w led.1 number (more a), step_of led.0 led.1 led.2, tail.run);
        now = tail.now;
        counted = moves_then (Answered led.0 ∷ []) tail.moves [] [] [] [] (devices_of old) (devices_of mid) (devices_of new)
            (move_counted (Answered led.0) [] [] (devices_of old) (devices_of mid) led.4) tail.counted;
        leaves = leaves;
      }

      -- it was stopped
      stop_leaves : a ≡ Err Stopped → new ≡ mid → rest ≡ more a → Leaves asked (Answered led.0 ∷ []) (with_turn w led.1 number rest) old new
      stop_leaves stops same over safe spent blocks rack left =
          let is' : Answers old job.user call (Err Stopped) mid = subst (λ (x : Answer). Answers old job.user call x mid) stops is in
          let left' : IsLeft mid.online.disc mid.rack blocks rack = subst (λ (x : StoreFacts). IsLeft x.online.disc x.rack blocks rack) same left in
          let (after, other, is_down, stand) = call_left old mid job.user call blocks rack safe is' left' s now.stands in
          let cut : led.0 ≡ Cut = cut_of s job.user call led.0 led.1 (subst (λ (x : Answer). IsCall s job.user call led.0 x led.1) stops led.2) in
          let event : IsCall s job.user call led.0 a after = subst (λ (x : Answer). IsCall s job.user call led.0 x after) (sym stops) (subst (λ (o : Outcome). IsCall s job.user call o (Err Stopped) after) (sym cut) other) in
          let step = step_of led.0 led.1 led.2 in (
            after,
            OtherEnd [] [] (Answered led.0) asked (with_turn w led.1 number (more a)) (with_turn w after number (more a)) refl
                (record { split = refl; led = (with_turn w led.1 number (more a), step, refl); rest = ap (λ (q : Asks Work). with_turn w led.1 number q) over })
                cut step (step_of led.0 after event) is_down,
            subst (λ (x : StoreFacts). StandLike x.online.disc.size blocks rack after) (sym same) stand,
          )

      kind_moved : IsHonest (Call call more) → (told : List Answer) → Path job.user told (more a) mid new rest → (IsOther a → Moved led.1 (more a) mid new rest) → KindOf a → Moved s (Call call more) old new rest
      kind_moved honest told r later (inl (serial, waits)) =
          let end = path_end job.user (Waits serial) (more a) (subst (λ (x : Answer). StopsAt (Waits serial) (more x)) (sym waits) (honest.0 serial)) told mid new rest r in
          then_moved (nothing_moved led.1 (more a) mid new rest led.3 end.0 end.1)
          (λ safe spent. absurd (no_stop a serial waits (is.spent.0 (sym (ap (λ (x : StoreFacts). x.spent) end.0) ∙ spent))))
      kind_moved honest told r later (inr (inl stops)) =
          let end = path_end job.user Broken (more a) (subst (λ (x : Answer). StopsAt Broken (more x)) (sym stops) honest.1) told mid new rest r in
          then_moved (nothing_moved led.1 (more a) mid new rest led.3 end.0 end.1) (stop_leaves stops end.0 end.1)
      kind_moved honest told r later (inr (inr other)) =
          let tail = later other.0 in
          let between : World = with_turn w led.1 number (more a) in
          then_moved tail
          (λ safe spent blocks rack left.
          let (u, may, stand) = tail.leaves (calls_keep_safe old mid job.user call a safe is other.1) spent blocks rack left in
          (u, left_behind tariffs tariff rules rule asked between (with_turn w tail.state number rest) (Answered led.0 ∷ []) tail.moves u (between, step_of led.0 led.1 led.2, refl) may, stand))

    path_moved : (told : List Answer) (p : Asks Work) → IsHonest p → (s : State) (old new : StoreFacts) (rest : Asks Work) → StoreIsNow old s → Path job.user told p old new rest → Moved s p old new rest
    path_moved [] p honest s old new rest now r = nothing_moved s p old new rest now r.0 r.1
    path_moved (a ∷ told) (Gives x) honest s old new rest now r = absurd r
    path_moved (a ∷ told) (Call call more) honest s old new rest now r =
        kind_moved call more a s old r.0 new rest now r.1 r.2 honest told r.3
        (λ other. path_moved told (more a) (honest.2 a other) (store_leads counts job.user old s call a r.0 now r.1 r.2).1 r.0 new rest (store_leads counts job.user old s call a r.0 now r.1 r.2).3 r.3)
        (kind_of a)

turned_store : (w : World) (job : JobState) (t : State) (work : Work) (turn : Turn) (after : JobState) → (turned_world w job t work turn after).store ≡ t
turned_store w job t work turns.Broken after = refl
turned_store w job t work (turns.Wants serial) after = refl
turned_store w job t work (turns.Ran units money) after = refl
turned_store w job t work (turns.Ended units money) after = refl

module _ (counts : CausesCount) {F U : Type 0} (tariffs : Shared F (Bor Usage × Unit {0}) Charge) (tariff : F) (rules : Shared U (Bor Standing × Unit {0}) ℕ) (rule : U) (w : World) (job : JobState) (place : ℕ)
    (idle : w.turn ≡ None) (undue : is_due w ≡ false) (ready : MayBegin tariffs tariff rules rule w) (chosen : IsChosen rules rule (map standing_of (able w)) place) (there : slice_get (able w) place ≡ Some job)
    (here : job_of w job.number ≡ Some job) (old new : StoreFacts) (now : StoreIsNow old w.store) where
  abbrev turning : World
  turning = in_turn tariffs tariff rules rule w

  abbrev begun : World
  begun = with_turn turning w.store job.number (turn_work job)

  begins : Step tariffs tariff rules rule w (Begin job.number) begun
  begins = (idle, undue, ready, (place, job, chosen, there, refl, refl))

  begin_then : (moves : List Move) (s : StoreFacts) → MovesCounted moves [] [] (devices_of old) (devices_of s) → MovesCounted (Begin job.number ∷ moves) [] [] (devices_of old) (devices_of s)
  begin_then moves s rest =
      moves_then (Begin job.number ∷ []) moves [] [] [] [] (devices_of old) (devices_of old) (devices_of s) (move_counted (Begin job.number) [] [] (devices_of old) (devices_of old) (event_none (devices_of old))) rest

  -- A TURN, whole
  pub turn_moved : (told : List Answer) (work : Work) (turn : Turn) (after : JobState) → RanBy Answers job.user old (turn_work job) told work new → IsTurn tariffs tariff job work turn after
      → (moves : List Move) × (t : State) × StoreIsNow new t
      × Run tariffs tariff rules rule w moves (turned_world w job t work turn after)
      × MovesCounted moves [] [] (devices_of old) (devices_of new)
      × KeepsLines w (turned_world w job t work turn after)
      × Leaves counts tariffs tariff rules rule w moves (turned_world w job t work turn after) old new
  turn_moved told work turn after ran (charge, priced, ends) =
      let m = path_moved counts tariffs tariff rules rule turning job.number job here told (turn_work job) (turn_honest job) w.store old new (Gives work) now (path_of job.user (turn_work job) told old work new ran) in
      let asked : World = with_turn turning m.state job.number (Gives work) in
      let last : World = turned_world w job m.state work turn after in
      let over : List Move = TurnOver job.number charge ∷ [] in
      let ended : Step tariffs tariff rules rule asked (TurnOver job.number charge) last = (work, job, turn, after, refl, here, priced, ends, refl) in
      let kept : KeepsLines (shows job after asked) (turn_told after turn (shows job after asked)) = turn_keeps after turn (shows job after asked) in (
        Begin job.number ∷ (m.moves ++ over),
        m.state,
        m.now,
        (begun, begins, run_append tariffs tariff rules rule begun m.moves over asked last m.run (last, ended, refl)),
        begin_then (m.moves ++ over) new (moves_then m.moves over [] [] [] [] (devices_of old) (devices_of new) (devices_of new) m.counted (move_counted (TurnOver job.number charge) [] [] (devices_of new) (devices_of new) (event_none (devices_of new)))),
        record { lines = kept.lines; bad = kept.bad; over = kept.over; count = kept.count; disc_stops = kept.disc_stops; tape_stops = kept.tape_stops },
        λ safe spent blocks rack left.
            let (u, may, stand) = m.leaves safe spent blocks rack left in
            let is_down : m.state.up ≡ false = ap (λ (t : State). t.up) (spent_stands new spent m.state m.now.stands).state_is in
            let still : last.store.up ≡ false = ap (λ (t : State). t.up) (turned_store w job m.state work turn after) ∙ is_down in
            let all = left_before tariffs tariff rules rule begun asked last m.moves over u may (last, ended, is_down, still, refl) in
            (u, left_behind tariffs tariff rules rule w begun last (Begin job.number ∷ []) (m.moves ++ over) u (begun, begins, refl) all, stand),
      )

  -- or in part, where memory ran out
  pub part_moved : RanInPart Answers job.user old (turn_work job) new
      → (moves : List Move) × (t : State) × (rest : Asks Work) × StoreIsNow new t × Run tariffs tariff rules rule w moves (with_turn turning t job.number rest)
      × MovesCounted moves [] [] (devices_of old) (devices_of new) × KeepsLines w (with_turn turning t job.number rest)
      × Leaves counts tariffs tariff rules rule w moves (with_turn turning t job.number rest) old new
  part_moved ran =
      let q = part_of job.user (turn_work job) old new ran in
      let m = path_moved counts tariffs tariff rules rule turning job.number job here q.told (turn_work job) (turn_honest job) w.store old q.last q.rest now q.path in
      let last : World = with_turn turning m.state job.number q.rest in
      let end = memory_out q.last m.state m.moves last q.end m.now m.counted m.leaves in (
        Begin job.number ∷ m.moves,
        m.state,
        q.rest,
        end.0,
        (begun, begins, m.run),
        begin_then m.moves new end.1,
        record { lines = refl; bad = refl; over = refl; count = refl; disc_stops = refl; tape_stops = refl },
        λ safe spent blocks rack left.
            let (u, may, stand) = end.2 safe spent blocks rack left in
            (u, left_behind tariffs tariff rules rule w begun last (Begin job.number ∷ []) m.moves u (begun, begins, refl) may, stand),
      )
    where
      memory_out : (s : StoreFacts) (t : State) (moves : List Move) (last : World) → (new ≡ s) ⊎ ((call : StoreCall) × Answers s job.user call (Err NoMemory) new) → StoreIsNow s t
          → MovesCounted moves [] [] (devices_of old) (devices_of s) → Leaves counts tariffs tariff rules rule begun moves last old s
          → StoreIsNow new t × MovesCounted moves [] [] (devices_of old) (devices_of new) × Leaves counts tariffs tariff rules rule begun moves last old new
      memory_out s t moves last (inl same) is counted leaves = (
        subst (λ (x : StoreFacts). StoreIsNow x t) (sym same) is,
        subst (λ (x : StoreFacts). MovesCounted moves [] [] (devices_of old) (devices_of x)) (sym same) counted,
        subst (λ (x : StoreFacts). Leaves counts tariffs tariff rules rule begun moves last old x) (sym same) leaves,
      )
      memory_out s t moves last (inr (call, out)) is counted leaves =
          let still = store_forgets counts job.user s t call new is out in (
            still.0,
            subst (λ (ms : List Move). MovesCounted ms [] [] (devices_of old) (devices_of new)) (append-nil moves) (moves_then moves [] [] [] [] [] (devices_of old) (devices_of s) (devices_of new) counted still.1),
            λ safe spent. absurd (let no = out.spent.0 spent in let never : ⊥ = cc in never),
          )
