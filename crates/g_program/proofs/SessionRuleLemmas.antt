-- A session by rules whose answers are also answers of other rules is a session by those.
-- serves: session_by_rules (anew, answers, ends, survives)
use Rattle.std.proofs.Common.{◌≡◌, ◌⊎◌, ◌++◌, ℕ, List, [], ◌∷◌, Option, Some, None, map, inl, inr}
use Rattle.std.specs.Fn.{Shared, FnReturnsAt}
use denote.Ref.{Bor}
use Rattle.g_rules.specs.declared.tariff.Charge.{Charge}
use Rattle.g_rules.specs.declared.tariff.Usage.{Usage}
use Rattle.g_console.specs.Transcript.{Transcript}
use Rattle.g_rules.specs.declared.rule.Standing.{Standing}
use Rattle.g_script.specs.Script.{timed_said}
use Rattle.g_script.specs.declared.operator.Timed.{Timed}
use Rattle.g_store_model.specs.State.{State}
use Rattle.g_run.specs.declared.status.Status.{Status}
use Rattle.g_run.specs.declared.status.Status.TheVariants.{Done, Words, BadScript, ScriptFault, OutputFault, NoMemory, TooLong}
use Rattle.g_run_model.specs.Devices.{Devices}
use Rattle.g_run_model.specs.Moves.{Move}
use Rattle.g_run_model.specs.World.{World, start}
use Rattle.g_laws_runs.specs.BeginningAnew.{with_new_disc}
use Rattle.g_laws_sessions.specs.Session.{AlwaysAnswers, Asked, Comes, Exchange, Exchanged, Exchanges, Goes, IsAnswered, IsCutShort, IsOver, Moment, Nothing, Refused, Rested, Skipped, Then, Took, Unclosed, taken}
use Rattle.g_session.specs.Session.{EndsAnew, EndsSession, SessionSurvives, StaysBlank}
use Rattle.g_program.proofs.RuleLemmas.{loss_by, run_by, run_of}

module _ {F G U V : Type 0}
    (tariffs : Shared F (Bor Usage × Unit {0}) Charge) (tariff : F) (others : Shared G (Bor Usage × Unit {0}) Charge) (other : G)
    (priced : (usage : Usage) (charge : Charge) → FnReturnsAt tariffs tariff usage charge → FnReturnsAt others other usage charge)
    (rules : Shared U (Bor Standing × Unit {0}) ℕ) (rule : U) (ways : Shared V (Bor Standing × Unit {0}) ℕ) (way : V)
    (weighed : (standing : Standing) (weight : ℕ) → FnReturnsAt rules rule standing weight → FnReturnsAt ways way standing weight) where
  goes_by : (lines : List Timed) (w : World) (moves : List Move) (next : World) (told : List ℕ) → Goes tariffs tariff rules rule lines w moves next told → Goes others other ways way lines w moves next told
  goes_by lines w moves next told g = record {
    run = run_by tariffs tariff others other priced rules rule ways way weighed (record w { lines = lines }) moves next g.run;
    none = g.none;
    phase = g.phase;
    turn = g.turn;
    going = g.going;
    text = g.text;
  }

  exchanged_by : (exchange : Exchange) (before after : Moment) → Exchanged tariffs tariff rules rule exchange before after → Exchanged others other ways way exchange before after
  exchanged_by (Took item when) before after t = record {
    typed = t.typed;
    moves = t.moves;
    told = t.told;
    is_typed = t.is_typed;
    goes = goes_by _ before.world t.moves after.world t.told t.goes;
    rests = t.rests;
    holds = t.holds;
    moves_are = t.moves_are;
    lines = t.lines;
    text = t.text;
  }
  exchanged_by Rested before after t = record {
    moves = t.moves;
    told = t.told;
    goes = goes_by [] before.world t.moves after.world t.told t.goes;
    rests = t.rests;
    moves_are = t.moves_are;
    lines = t.lines;
    text = t.text;
  }
  exchanged_by (Asked q) before after t = t
  exchanged_by (Refused k skips) before after t = t
  exchanged_by Skipped before after t = t
  exchanged_by (Unclosed k) before after t = t

  comes_by : (s : State) (said : Exchanges) (now : Moment) → Comes tariffs tariff rules rule s said now → Comes others other ways way s said now
  comes_by s Nothing now is = is
  comes_by s (Then said exchange) now (before, comes, follows, exchanged) = (before, comes_by s said before comes, follows, exchanged_by exchange before now exchanged)

  answered_by : (s : State) (lines : List (List ℕ)) (text : List ℕ) → IsAnswered tariffs tariff rules rule s lines text → IsAnswered others other ways way s lines text
  answered_by s lines text a = record {
    said = a.said;
    now = a.now;
    comes = comes_by s a.said a.now a.comes;
    going = a.going;
    pending = a.pending;
    lines_are = a.lines_are;
    unfinished = a.unfinished;
    text_is = a.text_is;
  }

  always_by : (s : State) (t : Transcript) → AlwaysAnswers tariffs tariff rules rule s t → AlwaysAnswers others other ways way s t
  always_by s t answers lines text requested = answered_by s lines text (answers lines text requested)

  unfoldable over_by : (s : State) (old new : Devices) (t : Transcript) (before after : Option (List ℕ)) (bad : Option ℕ) → IsOver tariffs tariff rules rule s old new t before after bad → IsOver others other ways way s old new t before after bad
  over_by s old new t before after bad o = record {
    said = o.said;
    now = o.now;
    comes = comes_by s o.said o.now o.comes;
    skipped = o.skipped;
    lines = o.lines;
    rest_is = o.rest_is;
    first = o.first;
    moves = o.moves;
    last = o.last;
    run_of = run_of tariffs tariff others other priced rules rule ways way weighed _ None s old new o.moves o.last o.run_of;
    over = o.over;
    rest = o.rest;
    told = o.told;
    put = o.put;
    log = o.log;
    parsed = o.parsed;
  }

  short_by : (s : State) (old new : Devices) (t : Transcript) (before after : Option (List ℕ)) → IsCutShort tariffs tariff rules rule s old new t before after → IsCutShort others other ways way s old new t before after
  short_by s old new t before after c = record {
    said = c.said;
    now = c.now;
    comes = comes_by s c.said c.now c.comes;
    later = c.later;
    lines = c.lines;
    more = c.more;
    one = c.one;
    moves = c.moves;
    last = c.last;
    run_of = run_of tariffs tariff others other priced rules rule ways way weighed _ None s old new c.moves c.last c.run_of;
    rest = c.rest;
    told = c.told;
    owed = c.owed;
    own = c.own;
    put = c.put;
    log = c.log;
  }

  session_by : (status : Status) (s : State) (old new : Devices) (t : Transcript) (before after : Option (List ℕ)) → EndsSession tariffs tariff rules rule status s old new t before after
      → EndsSession others other ways way status s old new t before after
  session_by Done s old new t before after (last, over) = (last, over_by s old new t before after None over)
  session_by (BadScript k) s old new t before after (last, over) = (last, over_by s old new t before after (Some k) over)
  session_by ScriptFault s old new t before after (last, (bad, over)) = (last, (bad, over_by s old new t before after bad over))
  session_by OutputFault s old new t before after short = short_by s old new t before after short
  session_by NoMemory s old new t before after short = short_by s old new t before after short
  session_by Words s old new t before after it = absurd it
  session_by TooLong s old new t before after it = absurd it

  survives_by : (s : State) (old new : Devices) (t : Transcript) (before after : Option (List ℕ)) → SessionSurvives tariffs tariff rules rule s old new t before after → SessionSurvives others other ways way s old new t before after
  unfolding short_by
  survives_by s old new t before after (cut, left) = (
    short_by s old new t before after cut,
    loss_by tariffs tariff others other priced rules rule ways way weighed (start (taken cut.said ++ map timed_said cut.more) None s) cut.moves cut.last old new left,
  )

  -- on blank devices
  blank_by : (status : Status) (s : State) (old new : Devices) (t : Transcript) (before after : Option (List ℕ)) → StaysBlank tariffs tariff rules rule status s old new t before after
      → StaysBlank others other ways way status s old new t before after
  unfolding over_by
  blank_by Done s old new t before after b = record {
    answers = always_by s t b.answers;
    ends = (b.ends.0, over_by s (with_new_disc old) (with_new_disc new) t before after None b.ends.1);
    blank = b.blank;
    unwell = b.unwell;
  }
  blank_by (BadScript k) s old new t before after b = record {
    answers = always_by s t b.answers;
    ends = (b.ends.0, over_by s (with_new_disc old) (with_new_disc new) t before after (Some k) b.ends.1);
    blank = b.blank;
    unwell = b.unwell;
  }
  blank_by ScriptFault s old new t before after b = record {
    answers = always_by s t b.answers;
    ends = (b.ends.0, (b.ends.1.0, over_by s (with_new_disc old) (with_new_disc new) t before after b.ends.1.0 b.ends.1.1));
    blank = b.blank;
    unwell = b.unwell;
  }
  blank_by OutputFault s old new t before after b =
      record { answers = always_by s t b.answers; ends = short_by s (with_new_disc old) (with_new_disc new) t before after b.ends; blank = b.blank; unwell = λ lines cut begin well. cut }
  blank_by NoMemory s old new t before after b =
      record { answers = always_by s t b.answers; ends = short_by s (with_new_disc old) (with_new_disc new) t before after b.ends; blank = b.blank; unwell = λ lines cut begin well. cut }
  blank_by Words s old new t before after b = absurd b.ends
  blank_by TooLong s old new t before after b = absurd b.ends

  anew_by : (status : Status) (s : State) (old new : Devices) (t : Transcript) (before after : Option (List ℕ)) → EndsAnew tariffs tariff rules rule status s old new t before after → EndsAnew others other ways way status s old new t before after
  anew_by status s old new t before after (inl took) =
      inl (record { answers = always_by s t took.answers; ends = session_by status s (with_new_disc old) new t before after took.ends; together = took.together })
  anew_by status s old new t before after (inr (inl b)) = inr (inl (blank_by status s old new t before after b))
  anew_by status s old new t before after (inr (inr e)) = inr (inr (record {
    said = e.said;
    now = e.now;
    comes = comes_by s e.said e.now e.comes;
    mid = e.mid;
    run_of = run_of tariffs tariff others other priced rules rule ways way weighed _ None s (with_new_disc old) (with_new_disc e.mid) e.now.moves e.now.world e.run_of;
    blank = e.blank;
    unwell = e.unwell;
    same = e.same;
    next = e.next;
    other = e.other;
    when = e.when;
    typed = e.typed;
    is_typed = e.is_typed;
    lines = e.lines;
    text = e.text;
    log = e.log;
  }))

module _ {F G U V : Type 0} {tariffs : Shared F (Bor Usage × Unit {0}) Charge} {tariff : F} {rules : Shared U (Bor Standing × Unit {0}) ℕ} {rule : U}
    (others : Shared G (Bor Usage × Unit {0}) Charge) (other : G) (ways : Shared V (Bor Standing × Unit {0}) ℕ) (way : V) where
  pub answers_as : (s : State) (t : Transcript) → AlwaysAnswers tariffs tariff rules rule s t
      → ((usage : Usage) (charge : Charge) → FnReturnsAt tariffs tariff usage charge → FnReturnsAt others other usage charge)
      → ((standing : Standing) (weight : ℕ) → FnReturnsAt rules rule standing weight → FnReturnsAt ways way standing weight)
      → AlwaysAnswers others other ways way s t
  answers_as s t answers priced weighed = always_by tariffs tariff others other priced rules rule ways way weighed s t answers

  pub session_as : (status : Status) (s : State) (old new : Devices) (t : Transcript) (before after : Option (List ℕ)) → EndsSession tariffs tariff rules rule status s old new t before after
      → ((usage : Usage) (charge : Charge) → FnReturnsAt tariffs tariff usage charge → FnReturnsAt others other usage charge)
      → ((standing : Standing) (weight : ℕ) → FnReturnsAt rules rule standing weight → FnReturnsAt ways way standing weight)
      → EndsSession others other ways way status s old new t before after
  session_as status s old new t before after it priced weighed = session_by tariffs tariff others other priced rules rule ways way weighed status s old new t before after it

  pub survives_as : (s : State) (old new : Devices) (t : Transcript) (before after : Option (List ℕ)) → SessionSurvives tariffs tariff rules rule s old new t before after
      → ((usage : Usage) (charge : Charge) → FnReturnsAt tariffs tariff usage charge → FnReturnsAt others other usage charge)
      → ((standing : Standing) (weight : ℕ) → FnReturnsAt rules rule standing weight → FnReturnsAt ways way standing weight)
      → SessionSurvives others other ways way s old new t before after
  survives_as s old new t before after it priced weighed = survives_by tariffs tariff others other priced rules rule ways way weighed s old new t before after it

  pub anew_as : (status : Status) (s : State) (old new : Devices) (t : Transcript) (before after : Option (List ℕ)) → EndsAnew tariffs tariff rules rule status s old new t before after
      → ((usage : Usage) (charge : Charge) → FnReturnsAt tariffs tariff usage charge → FnReturnsAt others other usage charge)
      → ((standing : Standing) (weight : ℕ) → FnReturnsAt rules rule standing weight → FnReturnsAt ways way standing weight)
      → EndsAnew others other ways way status s old new t before after
  anew_as status s old new t before after it priced weighed = anew_by tariffs tariff others other priced rules rule ways way weighed status s old new t before after it
