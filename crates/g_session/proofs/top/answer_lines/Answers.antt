use Rattle.std.proofs.Common.{rules, ◌≡◌, ◌+◌, ◌≤◌, ◌++◌, ℕ, List, [], Option, Some, None, length, refl, sym, ◌∙◌, ap, subst, arith}
use Rattle.g_console.specs.Transcript.{Transcript}
use Rattle.g_day.specs.Parts.{Seen}
use Rattle.g_script.specs.declared.operator.Timed.{Timed}
use Rattle.g_day.specs.declared.progress.Failure.TheVariants as failures
use Rattle.g_session.specs.Anew.{AfterExchangeAnew, StandsAnew}
use Rattle.g_session.specs.Ending.{KeepsMany}
use Rattle.g_session.specs.Exchanging.{AfterExchange, CourseCause, failure_of}
use Rattle.g_session.specs.Parts.{Stands}
use Rattle.g_session.specs.declared.exchange.Course.{Course}
use Rattle.g_session.specs.declared.exchange.Course.TheVariants as course
use Rattle.g_session.proofs.AnewLemmas.{goes_on_anew, short_anew, stop_anew}
use Rattle.g_session.proofs.BrokenLemmas.{broken_short}
use Rattle.g_session.proofs.KeepLemmas.{many_more, many_none}
use Rattle.g_session.proofs.LinesLemmas.{lines_stop}
use Rattle.g_session.proofs.StandingLemmas.{serials_stay}
use Rattle.g_session.proofs.top.answer_lines.Goals as goal

pub lines-init : goal.lines-init
lines-init g c = record {
  goes = c.requires.goes;
  ready = c.requires.ready;
  open_ones = c.requires.open;
  serials = refl;
  numbers = c.requires.numbers;
  typed = c.requires.typed;
  keeps = many_none course.Goes c.args.talk.day refl c.requires.ready c.requires.open;
  faults = refl;
  log_faults = refl;
  said = λ s real old done from log0 st. (done, st);
  anew = λ s old from log0 st. st;
}

pub exchange-talk-requires-clause-reels : goal.exchange-talk-requires-clause-reels
exchange-talk-requires-clause-reels g c = c.lines.invariant.serials ∙ c.requires.reels ∙ serials_stay c.args.talk.day c.lines.talk.day c.lines.invariant.keeps.keeps.same

pub returns-in_default-clause-keeps : goal.returns-in_default-clause-keeps
returns-in_default-clause-keeps g c = many_more c.args.talk.day c.lines.talk.day course.Goes c.exchange-talk.result.course c.exchange-talk.result.day refl c.lines.invariant.keeps c.exchange-talk.ensures.keeps

pub returns-in_default-clause-said : goal.returns-in_default-clause-said
returns-in_default-clause-said g c = λ s real old done from log0 st.
    let (more, st1) = c.lines.invariant.said s real old done from log0 st in
    lines_stop g.F.Fn c.args.rules.now.tariff.now g.U.Fn c.args.rules.now.weigh.now s real old from log0 c.exchange-talk.result.course c.exchange-talk.result.bad c.exchange-talk.result.day c.exchange-talk.result.reader c.lines.talk.number c.exchange-talk.result.number
    (g.C.Console.transcript c.exchange-talk.new.console) (g.L.Sink.written c.exchange-talk.new.log) c.in_default.not-Goes c.exchange-talk.ensures.number (c.exchange-talk.ensures.said s real old more from log0 st1)

pub lines-preserved : goal.lines-preserved
lines-preserved g c =
    let goes : c.exchange-talk.result.course ≡ course.Goes = c.in-Goes.is in
    let one = c.exchange-talk.ensures.keeps in
    let none : failure_of c.exchange-talk.result.course ≡ None = ap failure_of goes in
    let cause = subst (λ (k : Course). CourseCause k (g.C.Sink.faults c.lines.console) (g.C.Sink.faults c.exchange-talk.new.console) (g.L.Sink.faults c.lines.log) (g.L.Sink.faults c.exchange-talk.new.log)) goes c.exchange-talk.ensures.cause in record {
      goes = goes;
      ready = (one.keeps.ready none).0;
      open_ones = (one.keeps.ready none).1;
      serials = c.exchange-talk.ensures.serials ∙ c.lines.invariant.serials;
      numbers =
          let most = one.keeps.numbers none in
          let few = one.few in
          let was = c.lines.invariant.numbers in
          let same = c.exchange-talk.ensures.number in omega (arith, most, few, was, same);
      typed = c.exchange-talk.ensures.typed goes;
      keeps = subst (λ (k : Course). KeepsMany c.args.talk.day k c.exchange-talk.result.day) goes
          (many_more c.args.talk.day c.lines.talk.day course.Goes c.exchange-talk.result.course c.exchange-talk.result.day refl c.lines.invariant.keeps one);
      faults = cause.0 ∙ c.lines.invariant.faults;
      log_faults = cause.1 ∙ c.lines.invariant.log_faults;
      said = λ s real old done from log0 st.
          let (more, st1) = c.lines.invariant.said s real old done from log0 st in
          let (all, st2) = subst (λ (k : Course). AfterExchange g.F.Fn c.args.rules.now.tariff.now g.U.Fn c.args.rules.now.weigh.now s real old from log0 k c.exchange-talk.result.bad c.exchange-talk.result.day c.exchange-talk.result.reader c.lines.talk.number
          (g.C.Console.transcript c.exchange-talk.new.console) (g.L.Sink.written c.exchange-talk.new.log)) goes (c.exchange-talk.ensures.said s real old more from log0 st1) in (
            all,
            subst (λ (n : ℕ). Stands g.F.Fn c.args.rules.now.tariff.now g.U.Fn c.args.rules.now.weigh.now s real old all c.exchange-talk.result.bad c.exchange-talk.result.day c.exchange-talk.result.reader (n + 1) [] from
                (g.C.Console.transcript c.exchange-talk.new.console) log0 (g.L.Sink.written c.exchange-talk.new.log)) (sym c.exchange-talk.ensures.number) st2,
          );
      anew = λ s old from log0 st.
          let after = subst (λ (k : Course). AfterExchangeAnew g.F.Fn c.args.rules.now.tariff.now g.U.Fn c.args.rules.now.weigh.now s old from log0 k c.exchange-talk.result.bad c.exchange-talk.result.day c.exchange-talk.result.reader c.lines.talk.number
          (g.C.Console.transcript c.exchange-talk.new.console) (g.L.Sink.written c.exchange-talk.new.log)) goes (c.exchange-talk.ensures.anew s old from log0 (c.lines.invariant.anew s old from log0 st)) in
          subst (λ (n : ℕ). StandsAnew g.F.Fn c.args.rules.now.tariff.now g.U.Fn c.args.rules.now.weigh.now s old c.exchange-talk.result.bad c.exchange-talk.result.day c.exchange-talk.result.reader (n + 1) from
          (g.C.Console.transcript c.exchange-talk.new.console) log0 (g.L.Sink.written c.exchange-talk.new.log)) (sym c.exchange-talk.ensures.number) (goes_on_anew g.F.Fn c.args.rules.now.tariff.now g.U.Fn c.args.rules.now.weigh.now s old from log0 c.exchange-talk.result.bad c.exchange-talk.result.day c.exchange-talk.result.reader c.lines.talk.number
          (g.C.Console.transcript c.exchange-talk.new.console) (g.L.Sink.written c.exchange-talk.new.log) after);
    }

pub returns-clause-said : goal.returns-clause-said
returns-clause-said g c = λ s real old done from log0 st.
    let (more, st1) = c.lines.invariant.said s real old done from log0 st in
    broken_short g.F.Fn c.args.rules.now.tariff.now g.U.Fn c.args.rules.now.weigh.now s real old more c.lines.talk.bad c.lines.talk.day c.lines.talk.reader c.lines.talk.number [] from (g.C.Console.transcript c.lines.console) log0 (g.L.Sink.written c.lines.log) st1

pub returns-clause-anew : goal.returns-clause-anew
returns-clause-anew g c = λ s old from log0 st.
    short_anew g.F.Fn c.args.rules.now.tariff.now g.U.Fn c.args.rules.now.weigh.now s old from log0 c.lines.talk.bad c.lines.talk.day c.lines.talk.reader c.lines.talk.number (g.C.Console.transcript c.lines.console) (g.L.Sink.written c.lines.log) (c.lines.invariant.anew s old from log0 st) failures.Memory

pub returns-in_default-clause-anew : goal.returns-in_default-clause-anew
returns-in_default-clause-anew g c = λ s old from log0 st.
    stop_anew g.F.Fn c.args.rules.now.tariff.now g.U.Fn c.args.rules.now.weigh.now s old from log0 c.exchange-talk.result.course c.exchange-talk.result.bad c.exchange-talk.result.day c.exchange-talk.result.reader c.lines.talk.number c.exchange-talk.result.number
    (g.C.Console.transcript c.exchange-talk.new.console) (g.L.Sink.written c.exchange-talk.new.log) c.in_default.not-Goes c.exchange-talk.ensures.number (c.exchange-talk.ensures.anew s old from log0 (c.lines.invariant.anew s old from log0 st))
