-- A turn, from its beginning to its end, on one tree.
-- serves: turns_print_plainly
use Rattle.std.proofs.Common.{◌≡◌, ℕ, List, [], ◌∷◌, Option, Some, None, refl, sym, ◌∙◌, ap, subst}
use Rattle.std.proofs.lemmas.Bool.{false≢true}
use Rattle.std.proofs.lemmas.List.Elements.{recursion_from_All}
use Rattle.std.proofs.lemmas.Option.{some_pair_parts}
use Rattle.std.specs.List.{AllByRecursion}
use Rattle.std.specs.Prelude.{false}
use Rattle.std.specs.Fn.{Shared}
use denote.Ref.{Bor}
use Rattle.g_turn.specs.State.{Work}
use Rattle.g_rules.specs.declared.tariff.Charge.{Charge}
use Rattle.g_rules.specs.declared.tariff.Usage.{Usage}
use Rattle.g_job.specs.TurnEnd.{IsPriced, turn_end}
use Rattle.g_job.specs.State.{JobState}
use Rattle.g_job.specs.Turns.{turn_work}
use Rattle.g_rules.specs.declared.turn.Turn.{Turn}
use Rattle.g_plain.specs.Programs.{Asks, Call, Gives}
use Rattle.g_plain.specs.PlainTree.{Tree}
use Rattle.g_plain.specs.PlainAnswers.{PlainOrDevice, RanPlainly}
use Rattle.g_rules.specs.declared.rule.Standing.{Standing}
use Rattle.g_store_model.specs.CallStep.{Outcome}
use Rattle.g_store_model.specs.Laws.{AnswersPlainly, RefusalsKeep, StopsLeave}
use Rattle.g_store_model.specs.State.{State}
use Rattle.g_run_model.specs.Accounts.{tree_of}
use Rattle.g_run_model.specs.Laws.{IsTimed}
use Rattle.g_run_model.specs.Moves.{Answered, Begin, Dumped, Move, Over, Run, Step, TakeLine, Ticked, TurnOver, turn_told}
use Rattle.g_run_model.specs.World.{Phase, Stepped, Turned, World, can_step, job_of, shows, start}
use Rattle.g_run_model.proofs.AnswerLemmas.{call_plain}
use Rattle.g_run_model.proofs.CrewLemmas.{listed, one_job}
use Rattle.g_run_model.proofs.EndsLemmas.{begun, run_goes}
use Rattle.g_run_model.proofs.StepLemmas.{tree_held}
use Rattle.g_run_model.proofs.TreeLemmas.{turn_store}
use Rattle.g_laws_runs.specs.Turns.{IsBehindCalls, IsWithin, TurnsPrintPlainly}

one_tree : (a b : Tree) → (let one : Option Tree = Some a in one ≡ Some b) → a ≡ b
one_tree a b e = cc

idle_turn : {P : Type 0} (turn : Option (ℕ × Asks Work)) (x : ℕ × Asks Work) → turn ≡ Some x → turn ≡ None → P
idle_turn turn x some none = let both : None ≡ Some x = sym none ∙ some in absurd (let no : ⊥ = cc in no)

-- what isn't the store's stays where a turn begins, and where a call is answered
behind_made : (w mid before : World) (s : State) (t : Option (ℕ × Asks Work)) (p : Phase) → mid ≡ record w { store = s; turn = t; phase = p } → IsBehindCalls mid before → IsBehindCalls w before
behind_made w mid before s t p made kept = record {
  lines = kept.lines ∙ ap (λ (x : World). x.lines) made;
  jobs = kept.jobs ∙ ap (λ (x : World). x.jobs) made;
  accounts = kept.accounts ∙ ap (λ (x : World). x.accounts) made;
  text = kept.text ∙ ap (λ (x : World). x.text) made;
  count = kept.count ∙ ap (λ (x : World). x.count) made;
}

module _ {F U : Type 0} (tariffs : Shared F (Bor Usage × Unit {0}) Charge) (tariff : F) (rules : Shared U (Bor Standing × Unit {0}) ℕ) (rule : U) where
  -- a turn is over
  record IsOver (job : JobState) (charge : Option Charge) (before new : World) : Type 0 where
    work : Work
    priced : IsPriced tariffs tariff work charge
    turn : Turn
    next : JobState
    ends : turn_end job work charge ≡ Some (turn, next)
    told : new ≡ record (turn_told next turn (shows job next before)) { turn = None; phase = Turned }
    after : Tree
    tree_is : tree_of new.store ≡ Some after

  -- what is left of a turn's program, from this world on
  record RestOf (job : JobState) (tree : Tree) (number : ℕ) (asks : Asks Work) (ended : ℕ) (charge : Option Charge) (w before new : World) : Type 0 where
    number_is : ended ≡ number
    end : IsOver job charge before new
    ran : RanPlainly job.user tree asks end.work end.after
    kept : IsBehindCalls w before

  -- the turn is over
  over : (job : JobState) (tree : Tree) (number : ℕ) (asks : Asks Work) (ended : ℕ) (charge : Option Charge) (w before new : World) → before ≡ w → w.turn ≡ Some (number, asks) → job_of w number ≡ Some job
      → tree_of w.store ≡ Some tree → Step tariffs tariff rules rule before (TurnOver ended charge) new → RestOf job tree number asks ended charge w before new
  over job tree number asks ended charge w before new same turn_is here there (work, job', turn, next, asked, found, priced, ends, told) =
      let parts = some_pair_parts number ended asks (Gives work) (sym (ap (λ (x : World). x.turn) same ∙ turn_is) ∙ asked) in
      let number_is : ended ≡ number = sym parts.0 in
      let asks_is : asks ≡ Gives work = parts.1 in
      let job_same : job' ≡ job = one_job job' job (sym found ∙ ap (λ (n : ℕ). job_of before n) number_is ∙ ap (λ (x : World). job_of x number) same ∙ here) in
      record {
        number_is = number_is;
        end = record {
          work = work;
          priced = priced;
          turn = turn;
          next = next;
          ends = subst (λ (j : JobState). turn_end j work charge ≡ Some (turn, next)) job_same ends;
          told = subst (λ (j : JobState). new ≡ record (turn_told next turn (shows j next before)) { turn = None; phase = Turned }) job_same told;
          after = tree;
          tree_is = ap (λ (x : World). tree_of x.store) told ∙ ap (λ (s : State). tree_of s) (turn_store next turn (shows job' next before)) ∙ ap (λ (x : World). tree_of x.store) same ∙ there;
        };
        ran = subst (λ (p : Asks Work). RanPlainly job.user tree p work tree) (sym asks_is) (refl, refl);
        kept = subst (λ (x : World). IsBehindCalls w x) (sym same) (record { lines = refl; jobs = refl; accounts = refl; text = refl; count = refl });
      }

  module _ (plainly : AnswersPlainly) (keep : RefusalsKeep) (stops : StopsLeave) where
    -- the rest of the moves, for any rest of the program
    abbrev Rest : ℕ → JobState → World → World → ℕ → Option Charge → World → Type 0
    Rest number job mid before ended charge new =
        (tree : Tree) (asks : Asks Work) → mid.turn ≡ Some (number, asks) → job_of mid number ≡ Some job → tree_of mid.store ≡ Some tree → RestOf job tree number asks ended charge mid before new

    -- a call is answered
    answered : (job : JobState) (tree : Tree) (number : ℕ) (asks : Asks Work) (ended : ℕ) (charge : Option Charge) (w mid before new : World) (o : Outcome) → w.turn ≡ Some (number, asks) → job_of w number ≡ Some job
        → tree_of w.store ≡ Some tree → Step tariffs tariff rules rule w (Answered o) mid → Rest number job mid before ended charge new → RestOf job tree number asks ended charge w before new
    answered job tree number asks ended charge w mid before new o turn_is here there (asker, call, more, job', answer, s, asked, found, (k, holds, step, so), real, made) rest =
        let parts = some_pair_parts number asker asks (Call call more) (sym turn_is ∙ asked) in
        let number_is : number ≡ asker = parts.0 in
        let asks_is : asks ≡ Call call more = parts.1 in
        let job_same : job' ≡ job = one_job job' job (sym found ∙ ap (λ (n : ℕ). job_of w n) (sym number_is) ∙ here) in
        let done = call_plain plainly keep stops w.store k job'.user call o answer s holds step in
        let same_tree : k.tree ≡ tree = one_tree k.tree tree (sym (tree_held w.store k holds) ∙ there) in
        let plain : PlainOrDevice tree job.user call answer done.0 =
        subst (λ (t : Tree). PlainOrDevice t job.user call answer done.0) same_tree (subst (λ (j : JobState). PlainOrDevice k.tree j.user call answer done.0) job_same done.1) in
        let r = rest done.0 (more answer) (ap (λ (x : World). x.turn) made ∙ ap (λ (n : ℕ). Some (n, more answer)) (sym number_is)) (ap (λ (x : World). job_of x number) made ∙ here) (ap (λ (x : World). tree_of x.store) made ∙ done.2) in
        record {
          number_is = r.number_is;
          end = r.end;
          ran = subst (λ (p : Asks Work). RanPlainly job.user tree p r.end.work r.end.after) (sym asks_is) (answer, done.0, plain, real, r.ran);
          kept = behind_made w mid before s (Some (asker, more answer)) w.phase made r.kept;
        }

    -- no other move occurs within a turn
    one_within : (job : JobState) (tree : Tree) (number : ℕ) (asks : Asks Work) (ended : ℕ) (charge : Option Charge) (move : Move) (w mid before new : World) → w.turn ≡ Some (number, asks) → job_of w number ≡ Some job
        → tree_of w.store ≡ Some tree → IsWithin move → Step tariffs tariff rules rule w move mid → Rest number job mid before ended charge new → RestOf job tree number asks ended charge w before new
    one_within job tree number asks ended charge (TakeLine tape o) w mid before new turn_is here there within (line, others, lines, between, idle, due, is_tape, gives) rest = idle_turn w.turn (number, asks) turn_is idle
    one_within job tree number asks ended charge (Dumped o) w mid before new turn_is here there within (between, idle, undue, dumping, step) rest = idle_turn w.turn (number, asks) turn_is idle
    one_within job tree number asks ended charge (Begin n) w mid before new turn_is here there within (idle, undue, ready, chosen) rest = idle_turn w.turn (number, asks) turn_is idle
    one_within job tree number asks ended charge (Answered o) w mid before new turn_is here there within step rest = answered job tree number asks ended charge w mid before new o turn_is here there step rest
    one_within job tree number asks ended charge (TurnOver n c) w mid before new turn_is here there within step rest = absurd within
    one_within job tree number asks ended charge Ticked w mid before new turn_is here there within (idle, phase, is) rest = idle_turn w.turn (number, asks) turn_is idle
    one_within job tree number asks ended charge Over w mid before new turn_is here there within (between, idle, lines, nothing, not_over, is) rest = idle_turn w.turn (number, asks) turn_is idle

    goes : (job : JobState) (number ended : ℕ) (charge : Option Charge) (moves : List Move) (w before new : World) → Run tariffs tariff rules rule w moves before → AllByRecursion IsWithin moves
        → Step tariffs tariff rules rule before (TurnOver ended charge) new → Rest number job w before ended charge new
    goes job number ended charge [] w before new run within step tree asks turn_is here there = over job tree number asks ended charge w before new run turn_is here there step
    goes job number ended charge (move ∷ moves) w before new (mid, first, run) within step tree asks turn_is here there =
        one_within job tree number asks ended charge move w mid before new turn_is here there within.0 first (λ t p e f g. goes job number ended charge moves mid before new run within.1 step t p e f g)

    pub turns_print : TurnsPrintPlainly tariffs tariff rules rule
    turns_print lines bad s front within w before new number ended charge tree timed first there (mid, (idle, undue, ready, (place, job, chosen, at, number_is, made)), run) all step =
        let known = run_goes number false false 0 tariffs tariff rules rule lines front 0 0 0 (start lines bad s) w [] (refl, refl) (recursion_from_All IsTimed lines timed) (λ on. absurd (false≢true on)) (begun tariffs tariff rules rule number false lines bad s) first in
        let found = listed (can_step w.store) 0 w.jobs w.next_job place job known.6.rising at in
        let here : job_of w number ≡ Some job = ap (λ (n : ℕ). job_of w n) (sym number_is) ∙ found.1 in
        let r = goes job number ended charge within mid before new run (recursion_from_All IsWithin within all) step tree (turn_work job)
        (ap (λ (x : World). x.turn) made ∙ ap (λ (n : ℕ). Some (n, turn_work job)) number_is) (ap (λ (x : World). job_of x number) made ∙ here) (ap (λ (x : World). tree_of x.store) made ∙ there) in (
          r.number_is,
          record {
            job = job;
            job_is = here;
            work = r.end.work;
            after = r.end.after;
            turn = r.end.turn;
            next = r.end.next;
            ran = r.ran;
            priced = r.end.priced;
            ends = r.end.ends;
            kept = behind_made w mid before w.store (Some (job.number, turn_work job)) Stepped made r.kept;
            told = r.end.told;
            tree_is = r.end.tree_is;
          },
        )
