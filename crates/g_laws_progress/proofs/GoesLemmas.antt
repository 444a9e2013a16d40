-- From a ready world there is a next one.
-- serves: runs_go_on
use Rattle.std.proofs.Common.{◌≡◌, ℕ, ◌+◌, ◌<◌, List, [], ◌∷◌, Option, Some, None, map, slice_get, refl, sym, ◌∙◌, ap, subst, inl, inr, arith}
use Rattle.std.specs.Prelude.{◌⊎◌, ◌≢◌, ◌&&◌, not, Bool, true, false, Ok, Result, is_some}
use Rattle.std.proofs.lemmas.Bool.{false≢true}
use Rattle.std.specs.Fn.{Shared}
use denote.Ref.{Bor}
use Rattle.g_turn.specs.State.{Broken, Done, Full, Stop, Waits, Work}
use Rattle.g_rules.specs.declared.tariff.Charge.{Charge}
use Rattle.g_rules.specs.declared.tariff.Usage.{Usage}
use Rattle.g_job.specs.Beginning.{standing_of}
use Rattle.g_job.specs.TurnEnd.{IsPriced, broken, end_by, waited}
use Rattle.g_job.specs.State.{JobState}
use Rattle.g_rules.specs.declared.turn.Turn.{Turn}
use Rattle.g_rules.specs.declared.turn.Turn.TheVariants as turns
use Rattle.g_plain.specs.Programs.{Answer, Asks, Call, Gives}
use Rattle.g_plain.specs.declared.calls.StoreCall.{StoreCall}
use Rattle.g_plain.specs.declared.faults.StoreFault.{StoreFault}
use Rattle.g_rules.specs.Choice.{IsChosen}
use Rattle.g_rules.specs.declared.rule.Standing.{Standing}
use Rattle.g_script.specs.declared.operator.Timed.{Timed}
use Rattle.g_store_model.specs.CallStep.{Cut, DiscRead, Plain}
use Rattle.g_store_model.specs.DumpSteps.{Completed, DumpStep, Going, Stepped as DumpStepped}
use Rattle.g_store_model.specs.State.{Holding, OpenDump, State}
use Rattle.g_run_model.specs.Lines.{is_process}
use Rattle.g_run_model.specs.Moves.{Answered, Begin, Dumped, Move, Over, Step, TakeLine, Ticked, TurnOver}
use Rattle.g_run_model.specs.World.{Between, Phase, Stepped, Turned, World, able, has_none, is_dumping, is_due, job_of, nothing_steps, start}
use Rattle.g_laws_runs.specs.Filestores.{HoldsOne}
use Rattle.g_laws_progress.specs.Progress.{AreAnswered, RunsGoOn}
use Rattle.g_laws_progress.proofs.CallLemmas.{call_some}
use Rattle.g_laws_progress.proofs.ChoiceLemmas.{job_chosen, order}
use Rattle.g_laws_progress.proofs.LineLemmas.{line_some}
use Rattle.g_laws_progress.proofs.ReadyLemmas.{IsReadyWorld, nobody, ready_run, ready_start}

holding_there : (h : Option Holding) → is_some h ≡ true → (k : Holding) × (h ≡ Some k)
holding_there None e = absurd (false≢true e)
holding_there (Some k) e = (k, refl)

dump_there : (d : Option OpenDump) → is_some d ≡ true → (x : OpenDump) × (d ≡ Some x)
dump_there None e = absurd (false≢true e)
dump_there (Some x) e = (x, refl)

-- a step of a dump in which no device fails
plain_cut : Plain ≢ Cut
plain_cut e = let no : ⊥ = cc in no

plain_read : {P : Type 0} → Plain ≡ DiscRead → P
plain_read e = absurd (let no : ⊥ = cc in no)

step_some : (s : State) (k : Holding) (d : OpenDump) → d.done < d.needs → (r : Result DumpStepped StoreFault) × (new : State) × DumpStep s k d Plain r new
step_some s k d less = by (order (d.done + 1) d.needs)
  where
    by : (d.done + 1 < d.needs) ⊎ ((d.done + 1 ≡ d.needs) ⊎ (d.needs < d.done + 1)) → (r : Result DumpStepped StoreFault) × (new : State) × DumpStep s k d Plain r new
    by (inl more) = (Ok Going, _, (more, plain_cut, (λ e. plain_read e), refl))
    by (inr (inl last)) = (Ok (Completed d.number), _, (last, plain_cut, refl, refl))
    by (inr (inr past)) = absurd (let no : ⊥ = omega (arith, less, past) in no)

module _ {F U : Type 0} (tariffs : Shared F (Bor Usage × Unit {0}) Charge) (tariff : F) (rules : Shared U (Bor Standing × Unit {0}) ℕ) (rule : U) (answered : AreAnswered tariffs tariff rules rule) where
  abbrev Goes : World → Type 0
  Goes w = (move : Move) × (new : World) × Step tariffs tariff rules rule w move new

  holds_by : (w : World) (n : ℕ) (job : JobState) → job_of w n ≡ Some job → HoldsOne w.store ⊎ (w.jobs ≡ []) → HoldsOne w.store
  holds_by w n job here (inl one) = one
  holds_by w n job here (inr none) = nobody n w.jobs job none here

  -- a turn continues
  call_goes : (w : World) (n : ℕ) (call : StoreCall) (more : Answer → Asks Work) → IsReadyWorld w → w.turn ≡ Some (n, Call call more) → Goes w
  call_goes w n call more ready is =
      let (job, here) = ready.turn n (Call call more) is in
      let (k, holds) = holding_there w.store.holding (holds_by w n job here ready.jobs) in
      let (answer, s, step, real) = call_some w.store k job.user call in
      (Answered Plain, record w { store = s; turn = Some (n, more answer) }, (n, call, more, job, answer, s, is, here, (k, holds, step, tt), real, refl))

  -- or ends
  ends_some : (j : JobState) (w : Work) (stop : Option Stop) → (charge : Option Charge) × IsPriced tariffs tariff w charge × (turn : Turn) × (next : JobState) × (end_by stop j w charge ≡ Some (turn, next))
  ends_some j w (Some (Waits serial)) = (None, tt, turns.Wants serial, waited j w serial, refl)
  ends_some j w (Some Broken) = (None, tt, turns.Broken, broken j w, refl)
  ends_some j w (Some Full) = let (charge, is) = answered.charges (record { orders = w.orders; blocks = w.blocks }) in (Some charge, is, _, _, refl)
  ends_some j w (Some Done) = let (charge, is) = answered.charges (record { orders = w.orders; blocks = w.blocks }) in (Some charge, is, _, _, refl)
  ends_some j w None = let (charge, is) = answered.charges (record { orders = w.orders; blocks = w.blocks }) in (Some charge, is, _, _, refl)

  turn_ends : (w : World) (n : ℕ) (work : Work) → IsReadyWorld w → w.turn ≡ Some (n, Gives work) → Goes w
  turn_ends w n work ready is =
      let (job, here) = ready.turn n (Gives work) is in
      let (charge, priced, turn, next, ends) = ends_some job work work.stop in
      (TurnOver n charge, _, (work, job, turn, next, is, here, priced, ends, refl))

  -- a turn begins
  begins_by : (w : World) (jobs : List JobState) → able w ≡ jobs → has_none jobs ≡ false → w.turn ≡ None → is_due w ≡ false → ((w.phase ≡ Between) × (is_dumping w ≡ false)) ⊎ (w.phase ≡ Stepped) → Goes w
  begins_by w [] are some idle undue before = absurd (false≢true (sym some))
  begins_by w (j ∷ jobs) are some idle undue before =
      let (place, job, chosen, there) = job_chosen rules rule answered.weights j jobs in
      let at : IsChosen rules rule (map standing_of (able w)) place = subst (λ (js : List JobState). IsChosen rules rule (map standing_of js) place) (sym are) chosen in
      let is : slice_get (able w) place ≡ Some job = ap (λ (js : List JobState). slice_get js place) are ∙ there in
      (Begin job.number, _, (idle, undue, before, (place, job, at, is, refl, refl)))

  -- a line is taken
  line_goes : (w : World) (next : Timed) (rest : List Timed) → IsReadyWorld w → w.lines ≡ next ∷ rest → w.phase ≡ Between → w.turn ≡ None → (is_due w ≡ true) ⊎ (nothing_steps w ≡ true) → Goes w
  line_goes w next rest ready lines between idle due =
      let (o, new, gives) = line_some next.what (record w { lines = rest }) (λ up. holding_there w.store.holding (ready.held up)) in
      (TakeLine (is_process next.what) o, new, (next, rest, lines, between, idle, due, refl, gives))

  dump_goes : (w : World) → IsReadyWorld w → w.phase ≡ Between → w.turn ≡ None → is_due w ≡ false → is_dumping w ≡ true → Goes w
  dump_goes w ready between idle undue dumping =
      let (d, there) = dump_there w.store.open_dump dumping in
      let sound = ready.sound d there in
      let (k, holds) = holding_there w.store.holding (ready.held sound.0) in
      let (r, s, step) = step_some w.store k d sound.1 in
      (Dumped Plain, _, (between, idle, undue, dumping, (r, s, (k, d, holds, there, step, tt), refl)))

  nothing : (w : World) → is_dumping w ≡ false → has_none (able w) ≡ true → nothing_steps w ≡ true
  nothing w closed none = ap (λ (b : Bool). not b && has_none (able w)) closed ∙ none

  by_lines : (w : World) (lines : List Timed) → w.lines ≡ lines → IsReadyWorld w → w.over ≡ false → w.phase ≡ Between → w.turn ≡ None → nothing_steps w ≡ true → Goes w
  by_lines w [] are ready over between idle none = (Over, _, (between, idle, are, none, over, refl))
  by_lines w (next ∷ rest) are ready over between idle none = line_goes w next rest ready are between idle (inr none)

  by_able : (w : World) (none : Bool) → has_none (able w) ≡ none → IsReadyWorld w → w.over ≡ false → w.phase ≡ Between → w.turn ≡ None → is_due w ≡ false → is_dumping w ≡ false → Goes w
  by_able w true none ready over between idle undue closed = by_lines w w.lines refl ready over between idle (nothing w closed none)
  by_able w false some ready over between idle undue closed = begins_by w (able w) refl some idle undue (inl (between, closed))

  by_dump : (w : World) (dumping : Bool) → is_dumping w ≡ dumping → IsReadyWorld w → w.over ≡ false → w.phase ≡ Between → w.turn ≡ None → is_due w ≡ false → Goes w
  by_dump w true dumping ready over between idle undue = dump_goes w ready between idle undue dumping
  by_dump w false closed ready over between idle undue = by_able w (has_none (able w)) refl ready over between idle undue closed

  none_due : (w : World) → w.lines ≡ [] → is_due w ≡ true → ⊥
  none_due w none due = false≢true (sym (ap (λ (ls : List Timed). is_due (record w { lines = ls })) none) ∙ due)

  due_by : (w : World) (lines : List Timed) → w.lines ≡ lines → IsReadyWorld w → w.phase ≡ Between → w.turn ≡ None → is_due w ≡ true → Goes w
  due_by w [] are ready between idle due = absurd (none_due w are due)
  due_by w (next ∷ rest) are ready between idle due = line_goes w next rest ready are between idle (inl due)

  by_due : (w : World) (due : Bool) → is_due w ≡ due → IsReadyWorld w → w.over ≡ false → w.phase ≡ Between → w.turn ≡ None → Goes w
  by_due w true due ready over between idle = due_by w w.lines refl ready between idle due
  by_due w false undue ready over between idle = by_dump w (is_dumping w) refl ready over between idle undue

  stepped_by : (w : World) (none : Bool) → has_none (able w) ≡ none → IsReadyWorld w → w.phase ≡ Stepped → w.turn ≡ None → Goes w
  stepped_by w true none ready stepped idle = (Ticked, _, (idle, inr (stepped, none), refl))
  stepped_by w false some ready stepped idle = begins_by w (able w) refl some idle (ready.undue stepped) (inr stepped)

  by_phase : (w : World) (phase : Phase) → w.phase ≡ phase → IsReadyWorld w → w.over ≡ false → w.turn ≡ None → Goes w
  by_phase w Between between ready over idle = by_due w (is_due w) refl ready over between idle
  by_phase w Stepped stepped ready over idle = stepped_by w (has_none (able w)) refl ready stepped idle
  by_phase w Turned turned ready over idle = (Ticked, _, (idle, inl turned, refl))

  by_turn : (w : World) (turn : Option (ℕ × Asks Work)) → w.turn ≡ turn → IsReadyWorld w → w.over ≡ false → Goes w
  by_turn w None idle ready over = by_phase w w.phase refl ready over idle
  by_turn w (Some (n, Call call more)) is ready over = call_goes w n call more ready is
  by_turn w (Some (n, Gives work)) is ready over = turn_ends w n work ready is

module _ {F U : Type 0} (tariffs : Shared F (Bor Usage × Unit {0}) Charge) (tariff : F) (rules : Shared U (Bor Standing × Unit {0}) ℕ) (rule : U) where
  pub runs_go_on : RunsGoOn tariffs tariff rules rule
  runs_go_on answered lines bad s moves w low none run over =
      by_turn tariffs tariff rules rule answered w w.turn refl (ready_run tariffs tariff rules rule (start lines bad s) w moves (ready_start lines bad s low none) run) over
