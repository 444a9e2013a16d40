-- A run by rules whose answers are also answers of other rules is a run by those: a run depends only on the answers.
-- serves: run_by_rules (anew, demo, ends, survives), SessionRuleLemmas
use Rattle.std.proofs.Common.{◌≡◌, ◌++◌, ℕ, List, [], ◌∷◌, Option, Some, None, inl, inr}
use Rattle.std.specs.Fn.{Shared, FnReturnsAt}
use denote.Ref.{Bor}
use Rattle.g_rules.specs.declared.tariff.Charge.{Charge}
use Rattle.g_rules.specs.declared.tariff.Usage.{Usage}
use Rattle.g_day.specs.declared.progress.Failure.{Failure}
use Rattle.g_day.specs.declared.progress.Failure.TheVariants as failures
use Rattle.g_demo.specs.declared.demonstration.Demonstration.{Demonstration}
use Rattle.g_job.specs.TurnEnd.{IsPriced}
use Rattle.g_run.specs.Demo.{IsDemoText, PutsDemo}
use Rattle.g_run.specs.Top.{EndsAnew, EndsAs, EndsDemo}
use Rattle.g_run.specs.declared.status.Status.{Status}
use Rattle.g_run.specs.declared.status.Status.TheVariants.{Done, Words, BadScript, ScriptFault, OutputFault, NoMemory, TooLong}
use Rattle.g_rules.specs.Choice.{IsChosen}
use Rattle.g_rules.specs.declared.rule.Standing.{Standing}
use Rattle.g_script.specs.declared.operator.Timed.{Timed}
use Rattle.g_turn.specs.State.{Work}
use Rattle.g_store_model.specs.State.{State}
use Rattle.g_run_model.specs.Devices.{Devices}
use Rattle.g_run_model.specs.Losses.{AsRead, DownSince, MayBeLeft, OtherEnd, StaysDown, SurvivesLoss}
use Rattle.g_run_model.specs.Moves.{Move, Run, Step, TakeLine, Dumped, Begin, Answered, TurnOver, Ticked, Over}
use Rattle.g_run_model.specs.Top.{EndsShort, EndsWhole, IsCut, RunOf, Survives}
use Rattle.g_run_model.specs.World.{World, start}
use Rattle.g_laws_runs.specs.BeginningAnew.{with_new_disc}

module _ {F G U V : Type 0}
    (tariffs : Shared F (Bor Usage × Unit {0}) Charge) (tariff : F) (others : Shared G (Bor Usage × Unit {0}) Charge) (other : G)
    (priced : (usage : Usage) (charge : Charge) → FnReturnsAt tariffs tariff usage charge → FnReturnsAt others other usage charge)
    (rules : Shared U (Bor Standing × Unit {0}) ℕ) (rule : U) (ways : Shared V (Bor Standing × Unit {0}) ℕ) (way : V)
    (weighed : (standing : Standing) (weight : ℕ) → FnReturnsAt rules rule standing weight → FnReturnsAt ways way standing weight) where
  chosen : (list : List Standing) (place : ℕ) → IsChosen rules rule list place → IsChosen ways way list place
  chosen list place is = record {
    standing = is.standing;
    weight = is.weight;
    there = is.there;
    weighed = weighed is.standing is.weight is.weighed;
    least = λ place' standing' there. let (weight', weighs, later) = is.least place' standing' there in
        (weight', weighed standing' weight' weighs, later);
  }

  price_of : (w : Work) (charge : Option Charge) → IsPriced tariffs tariff w charge → IsPriced others other w charge
  price_of w None is = is
  price_of w (Some charge) is = priced _ charge is

  step_by : (w : World) (move : Move) (new : World) → Step tariffs tariff rules rule w move new → Step others other ways way w move new
  step_by w (TakeLine process outcome) new it = it
  step_by w (Dumped outcome) new it = it
  step_by w (Begin number) new it =
      let (free, late, phase, begun) = it in
      let (place, job, is, there, named, next) = begun in (free, late, phase, (place, job, chosen _ _ is, there, named, next))
  step_by w (Answered outcome) new it = it
  step_by w (TurnOver number charge) new it =
      let (work, job, turn, after, gives, there, costs, ended, next) = it in
      (work, job, turn, after, gives, there, price_of work charge costs, ended, next)
  step_by w Ticked new it = it
  step_by w Over new it = it

  pub run_by : (w : World) (moves : List Move) (last : World) → Run tariffs tariff rules rule w moves last → Run others other ways way w moves last
  run_by w [] last it = it
  run_by w (move ∷ moves) last it = let (mid, goes, more) = it in (mid, step_by w move mid goes, run_by mid moves last more)

  pub run_of : (lines : List Timed) (bad : Option ℕ) (s : State) (old new : Devices) (moves : List Move) (last : World)
      → RunOf tariffs tariff rules rule lines bad s old new moves last → RunOf others other ways way lines bad s old new moves last
  run_of lines bad s old new moves last is = record { run = run_by _ moves last is.run; counted = is.counted; stands = is.stands }

  whole_by : (lines : List Timed) (bad : Option ℕ) (old new : Devices) (before after : Option (List ℕ))
      → EndsWhole tariffs tariff rules rule lines bad old new before after → EndsWhole others other ways way lines bad old new before after
  whole_by lines bad old new before after it = λ s stands.
      let e = it s stands in record { moves = e.moves; last = e.last; run_of = run_of lines bad s old new e.moves e.last e.run_of; over = e.over; text = e.text }

  short_by : (lines : List Timed) (bad : Option ℕ) (old new : Devices) (before after : Option (List ℕ))
      → EndsShort tariffs tariff rules rule lines bad old new before after → EndsShort others other ways way lines bad old new before after
  short_by lines bad old new before after it = λ s stands.
      let e = it s stands in record { moves = e.moves; last = e.last; run_of = run_of lines bad s old new e.moves e.last e.run_of; text = e.text }

  cut_by : (left : List ℕ) (old new : Devices) (before after : Option (List ℕ))
      → IsCut tariffs tariff rules rule left old new before after → IsCut others other ways way left old new before after
  cut_by left old new before after (inl same) = inl same
  cut_by left old new before after (inr it) =
      let (lines, bad, parsed, ends) = it in inr (lines, bad, parsed, short_by lines bad old new before after ends)

  ends_by : (status : Status) (left : List ℕ) (old new : Devices) (before after : Option (List ℕ))
      → EndsAs tariffs tariff rules rule status left old new before after → EndsAs others other ways way status left old new before after
  ends_by Done left old new before after it =
      let (lines, parsed, ends) = it in (lines, parsed, whole_by lines None old new before after ends)
  ends_by (BadScript line) left old new before after it =
      let (lines, parsed, ends) = it in (lines, parsed, whole_by lines (Some line) old new before after ends)
  ends_by OutputFault left old new before after it = cut_by left old new before after it
  ends_by NoMemory left old new before after it = cut_by left old new before after it
  ends_by TooLong left old new before after it = it
  ends_by Words left old new before after it = it
  ends_by ScriptFault left old new before after it = it

  -- starting over
  anew_by : (status : Status) (left : List ℕ) (old new : Devices) (before after : Option (List ℕ))
      → EndsAnew tariffs tariff rules rule status left old new before after → EndsAnew others other ways way status left old new before after
  anew_by status left old new before after (inl took) = inl (record { ends = ends_by status left (with_new_disc old) new before after took.ends; together = took.together })
  anew_by status left old new before after (inr (inl none)) =
      inr (inl (record { ends = ends_by status left (with_new_disc old) (with_new_disc new) before after none.ends; blank = none.blank; unwell = none.unwell }))
  anew_by status left old new before after (inr (inr it)) =
      let (lines, bad, parsed, missed) = it in inr (inr (
        lines,
        bad,
        parsed,
        λ s stands.
            let m = missed s stands in record {
              moves = m.moves;
              last = m.last;
              mid = m.mid;
              run_of = run_of lines bad s (with_new_disc old) (with_new_disc m.mid) m.moves m.last m.run_of;
              down = m.down;
              other = m.other;
              blank = m.blank;
              unwell = m.unwell;
              same = m.same;
              text = m.text;
            },
      ))

  -- what a power loss leaves
  down_by : (w : World) (moves : List Move) (last : World) → StaysDown tariffs tariff rules rule w moves last → StaysDown others other ways way w moves last
  down_by w [] last it = it
  down_by w (move ∷ moves) last it = let (mid, goes, was, is, more) = it in (mid, step_by w move mid goes, was, is, down_by mid moves last more)

  last_up_by : (first : World) (moves : List Move) (last : World) (before after : List Move) (mid : World)
      → DownSince tariffs tariff rules rule first moves last before after mid → DownSince others other ways way first moves last before after mid
  last_up_by first moves last before after mid is = record { split = is.split; led = run_by first before mid is.led; rest = down_by mid after last is.rest }

  left_by : (first : World) (moves : List Move) (last : World) (u : State) → MayBeLeft tariffs tariff rules rule first moves last u → MayBeLeft others other ways way first moves last u
  left_by first moves last u (AsRead before after mid is same) = AsRead before after mid (last_up_by first moves last before after mid is) same
  left_by first moves last u (OtherEnd before after stop was mid end ran is cut step ends same) =
      OtherEnd before after stop was mid end (run_by first before was ran) (last_up_by first moves last (before ++ stop ∷ []) after mid is) cut (step_by was stop mid step) (step_by was stop end ends) same

  pub loss_by : (first : World) (moves : List Move) (last : World) (old new : Devices)
      → SurvivesLoss tariffs tariff rules rule first moves last old new → SurvivesLoss others other ways way first moves last old new
  loss_by first moves last old new it = λ blocks rack lost. elim (it blocks rack lost) [
    | inl here ↦ inl (here.0, left_by first moves last here.0 here.1, here.2)
    | inr (down, before) ↦ inr (down_by first moves last down, before)
  ]

  survives_by : (left : List ℕ) (old new : Devices) (before after : Option (List ℕ))
      → Survives tariffs tariff rules rule left old new before after → Survives others other ways way left old new before after
  survives_by left old new before after (inl same) = inl same
  survives_by left old new before after (inr it) =
      let (lines, bad, parsed, cut) = it in inr (
        lines,
        bad,
        parsed,
        λ s stands.
            let e = cut s stands in record {
              moves = e.moves;
              last = e.last;
              run_of = run_of lines bad s old new e.moves e.last e.run_of;
              text = e.text;
              left = loss_by (start lines bad s) e.moves e.last old new e.left;
            },
      )

  demo_text_by : (demo : Demonstration) (text : List ℕ) → IsDemoText tariffs tariff rules rule demo text → IsDemoText others other ways way demo text
  demo_text_by demo text is = record {
    old = is.old;
    new = is.new;
    fresh = is.fresh;
    lines = is.lines;
    bad = is.bad;
    parsed = is.parsed;
    ends = whole_by is.lines is.bad is.old is.new (Some []) (Some text) is.ends;
  }

  puts_by : (failure : Option Failure) (demo : Demonstration) (before after : Option (List ℕ))
      → PutsDemo tariffs tariff rules rule failure demo before after → PutsDemo others other ways way failure demo before after
  puts_by None demo before after it = let (text, is, more) = it in (text, demo_text_by demo text is, more)
  puts_by (Some failure) demo before after (inl same) = inl same
  puts_by (Some failure) demo before after (inr it) = let (text, is, more) = it in inr (text, demo_text_by demo text is, more)

  demo_by : (status : Status) (demo : Demonstration) (before after : Option (List ℕ))
      → EndsDemo tariffs tariff rules rule status demo before after → EndsDemo others other ways way status demo before after
  demo_by Done demo before after it = puts_by None demo before after it
  demo_by OutputFault demo before after it = puts_by (Some failures.Output) demo before after it
  demo_by NoMemory demo before after it = puts_by (Some failures.Memory) demo before after it
  demo_by Words demo before after it = it
  demo_by (BadScript line) demo before after it = it
  demo_by ScriptFault demo before after it = it
  demo_by TooLong demo before after it = it

module _ {F G U V : Type 0} {tariffs : Shared F (Bor Usage × Unit {0}) Charge} {tariff : F} {rules : Shared U (Bor Standing × Unit {0}) ℕ} {rule : U}
    (others : Shared G (Bor Usage × Unit {0}) Charge) (other : G) (ways : Shared V (Bor Standing × Unit {0}) ℕ) (way : V) where
  pub ends_as : (status : Status) (left : List ℕ) (old new : Devices) (before after : Option (List ℕ))
      → EndsAs tariffs tariff rules rule status left old new before after
      → ((usage : Usage) (charge : Charge) → FnReturnsAt tariffs tariff usage charge → FnReturnsAt others other usage charge)
      → ((standing : Standing) (weight : ℕ) → FnReturnsAt rules rule standing weight → FnReturnsAt ways way standing weight)
      → EndsAs others other ways way status left old new before after
  ends_as status left old new before after it priced weighed =
      ends_by tariffs tariff others other priced rules rule ways way weighed status left old new before after it

  pub anew_as : (status : Status) (left : List ℕ) (old new : Devices) (before after : Option (List ℕ))
      → EndsAnew tariffs tariff rules rule status left old new before after
      → ((usage : Usage) (charge : Charge) → FnReturnsAt tariffs tariff usage charge → FnReturnsAt others other usage charge)
      → ((standing : Standing) (weight : ℕ) → FnReturnsAt rules rule standing weight → FnReturnsAt ways way standing weight)
      → EndsAnew others other ways way status left old new before after
  anew_as status left old new before after it priced weighed =
      anew_by tariffs tariff others other priced rules rule ways way weighed status left old new before after it

  pub survives_as : (left : List ℕ) (old new : Devices) (before after : Option (List ℕ))
      → Survives tariffs tariff rules rule left old new before after
      → ((usage : Usage) (charge : Charge) → FnReturnsAt tariffs tariff usage charge → FnReturnsAt others other usage charge)
      → ((standing : Standing) (weight : ℕ) → FnReturnsAt rules rule standing weight → FnReturnsAt ways way standing weight)
      → Survives others other ways way left old new before after
  survives_as left old new before after it priced weighed =
      survives_by tariffs tariff others other priced rules rule ways way weighed left old new before after it

  pub demo_as : (status : Status) (demo : Demonstration) (before after : Option (List ℕ))
      → EndsDemo tariffs tariff rules rule status demo before after
      → ((usage : Usage) (charge : Charge) → FnReturnsAt tariffs tariff usage charge → FnReturnsAt others other usage charge)
      → ((standing : Standing) (weight : ℕ) → FnReturnsAt rules rule standing weight → FnReturnsAt ways way standing weight)
      → EndsDemo others other ways way status demo before after
  demo_as status demo before after it priced weighed =
      demo_by tariffs tariff others other priced rules rule ways way weighed status demo before after it
