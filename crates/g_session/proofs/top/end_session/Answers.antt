use Rattle.std.proofs.Common.{◌≡◌, ℕ, List, [], Option, None, refl, sym, ap, subst}
use Rattle.g_day.specs.Parts.{Seen}
use Rattle.g_session.specs.Ending.{EndCause, KeepsMany, RestsAtEnd, course_at_end}
use Rattle.g_session.specs.Exchanging.{failure_of}
use Rattle.g_session.specs.Taking.{DidRest}
use Rattle.g_session.specs.declared.exchange.Course.{Course}
use Rattle.g_session.specs.declared.exchange.Course.TheVariants as course
use Rattle.g_session.specs.Anew.{RestsAnew}
use Rattle.g_session.proofs.AnewLemmas.{open_broken, open_rests}
use Rattle.g_session.proofs.ClaimLemmas.{part_claimed}
use Rattle.g_session.proofs.EndingLemmas.{AfterOpenOf, Any, any_lines, open_done, rest_at_end, rests_any}
use Rattle.g_session.proofs.KeepLemmas.{many_rest}
use Rattle.g_session.proofs.LinesLemmas.{end_cause, no_failure, open_keeps, rests_broken}
use Rattle.g_session.proofs.top.end_session.Goals as goal

pub returns-in-Breaks-clause-keeps : goal.returns-in-Breaks-clause-keeps
returns-in-Breaks-clause-keeps g c = λ start many.
    subst (λ (d : Seen). KeepsMany start c.refuse_open-talk.result.course d) (sym c.refuse_open-talk.ensures.day)
    (open_keeps start c.args.talk.day c.args.talk.course c.args.talk.reader.place c.args.talk.bad c.refuse_open-talk.result.course c.refuse_open-talk.result.bad _ _ _ _ c.refuse_open-talk.ensures.open many)

pub returns-in-Breaks-clause-said : goal.returns-in-Breaks-clause-said
returns-in-Breaks-clause-said g c = λ s real old from log0 log after.
    rests_any g.F.Fn c.args.rules.now.tariff.now g.U.Fn c.args.rules.now.weigh.now s real old from log0 c.refuse_open-talk.result.course c.refuse_open-talk.result.bad c.refuse_open-talk.result.day (g.C.Console.transcript c.refuse_open-talk.new.console) log
    (rests_broken g.F.Fn c.args.rules.now.tariff.now g.U.Fn c.args.rules.now.weigh.now Any s real old from log0 c.refuse_open-talk.result.course c.in-Breaks.field-0 c.refuse_open-talk.result.bad c.refuse_open-talk.result.day
    (g.C.Console.transcript c.refuse_open-talk.new.console) log c.in-Breaks.is
    (subst (λ (d : Seen). AfterOpenOf g.F.Fn c.args.rules.now.tariff.now g.U.Fn c.args.rules.now.weigh.now s real old from log0 Any c.refuse_open-talk.result.course c.refuse_open-talk.result.bad d (g.C.Console.transcript c.refuse_open-talk.new.console) log) (sym c.refuse_open-talk.ensures.day)
    (open_done g.F.Fn c.args.rules.now.tariff.now g.U.Fn c.args.rules.now.weigh.now s real old from log0 Any c.args.talk.day (g.C.Console.transcript c.args.console.now) (g.C.Console.transcript c.refuse_open-talk.new.console) log _ _
    (g.met.C.Console.exposed c.args.console.now) (g.met.C.Console.exposed c.refuse_open-talk.new.console) c.args.talk.bad c.refuse_open-talk.result.course c.refuse_open-talk.result.bad _ _
    c.args.talk.course c.args.talk.reader.place c.args.talk.reader c.args.talk.number refl
    (any_lines g.F.Fn c.args.rules.now.tariff.now g.U.Fn c.args.rules.now.weigh.now s real old from log0 c.args.talk.course c.args.talk.bad c.args.talk.day c.args.talk.reader c.args.talk.number (g.C.Console.transcript c.args.console.now) log after) c.refuse_open-talk.ensures.open)))

pub returns-in-Breaks-clause-anew : goal.returns-in-Breaks-clause-anew
returns-in-Breaks-clause-anew g c = λ s old from log0 log after.
    subst (λ (d : Seen). RestsAnew g.F.Fn c.args.rules.now.tariff.now g.U.Fn c.args.rules.now.weigh.now s old from log0 c.refuse_open-talk.result.course c.refuse_open-talk.result.bad d (g.C.Console.transcript c.refuse_open-talk.new.console) log) (sym c.refuse_open-talk.ensures.day)
    (open_broken g.F.Fn c.args.rules.now.tariff.now g.U.Fn c.args.rules.now.weigh.now s old from log0 c.args.talk.course c.args.talk.bad c.args.talk.day c.args.talk.reader c.args.talk.number (g.C.Console.transcript c.args.console.now) (g.C.Console.transcript c.refuse_open-talk.new.console) log _ _
    (g.met.C.Console.exposed c.args.console.now) (g.met.C.Console.exposed c.refuse_open-talk.new.console) c.refuse_open-talk.result.course c.refuse_open-talk.result.bad _ _ c.refuse_open-talk.ensures.open
    c.in-Breaks.field-0 c.in-Breaks.is after)

pub returns : goal.returns
returns g c =
    let none : failure_of c.refuse_open-talk.result.course ≡ None = no_failure c.refuse_open-talk.result.course c.in_default.not-Breaks in record {
      keeps = λ start many.
          subst (λ (k : Course). KeepsMany start k c.rest-day.result.day) (sym c.course_at_end.ensures)
          (many_rest start c.refuse_open-talk.result.day c.refuse_open-talk.result.course c.rest-day.result.failure c.rest-day.result.day _ _ none
          (subst (λ (d : Seen). KeepsMany start c.refuse_open-talk.result.course d) (sym c.refuse_open-talk.ensures.day)
          (open_keeps start c.args.talk.day c.args.talk.course c.args.talk.reader.place c.args.talk.bad c.refuse_open-talk.result.course c.refuse_open-talk.result.bad _ _ _ _ c.refuse_open-talk.ensures.open many))
          c.rest-day.ensures.keeps);
      cause =
          subst (λ (k : Course). EndCause c.args.talk.course k (g.C.Sink.faults c.args.console.now) (g.C.Sink.faults c.rest-day.new.out)) (sym c.course_at_end.ensures)
          (end_cause c.args.talk.bad c.refuse_open-talk.result.course c.refuse_open-talk.result.bad _ _ _ _ _ c.in_default.not-Breaks c.rest-day.result.failure c.rest-day.ensures.keeps.cause
          c.args.talk.course c.args.talk.reader.place c.refuse_open-talk.ensures.open);
      said = λ s real old from log0 log after.
          subst (λ (k : Course). RestsAtEnd g.F.Fn c.args.rules.now.tariff.now g.U.Fn c.args.rules.now.weigh.now s real old from log0 k c.refuse_open-talk.result.bad c.rest-day.result.day (g.C.Console.transcript c.rest-day.new.out) log) (sym c.course_at_end.ensures)
          (rests_any g.F.Fn c.args.rules.now.tariff.now g.U.Fn c.args.rules.now.weigh.now s real old from log0 (course_at_end c.refuse_open-talk.result.course c.rest-day.result.failure) c.refuse_open-talk.result.bad c.rest-day.result.day (g.C.Console.transcript c.rest-day.new.out) log
          (rest_at_end g.F.Fn c.args.rules.now.tariff.now g.U.Fn c.args.rules.now.weigh.now s real old from log0 Any c.refuse_open-talk.result.bad c.refuse_open-talk.result.day c.rest-day.result.day
          (g.C.Console.transcript c.refuse_open-talk.new.console) (g.C.Console.transcript c.rest-day.new.out) log c.refuse_open-talk.result.course c.rest-day.result.failure _ _
          (g.met.C.Console.exposed c.refuse_open-talk.new.console) (g.met.C.Console.exposed c.rest-day.new.out) c.in_default.not-Breaks
          (subst (λ (d : Seen). AfterOpenOf g.F.Fn c.args.rules.now.tariff.now g.U.Fn c.args.rules.now.weigh.now s real old from log0 Any c.refuse_open-talk.result.course c.refuse_open-talk.result.bad d (g.C.Console.transcript c.refuse_open-talk.new.console) log) (sym c.refuse_open-talk.ensures.day)
          (open_done g.F.Fn c.args.rules.now.tariff.now g.U.Fn c.args.rules.now.weigh.now s real old from log0 Any c.args.talk.day (g.C.Console.transcript c.args.console.now) (g.C.Console.transcript c.refuse_open-talk.new.console) log _ _
          (g.met.C.Console.exposed c.args.console.now) (g.met.C.Console.exposed c.refuse_open-talk.new.console) c.args.talk.bad c.refuse_open-talk.result.course c.refuse_open-talk.result.bad _ _
          c.args.talk.course c.args.talk.reader.place c.args.talk.reader c.args.talk.number refl
          (any_lines g.F.Fn c.args.rules.now.tariff.now g.U.Fn c.args.rules.now.weigh.now s real old from log0 c.args.talk.course c.args.talk.bad c.args.talk.day c.args.talk.reader c.args.talk.number (g.C.Console.transcript c.args.console.now) log after) c.refuse_open-talk.ensures.open))
          (part_claimed g.F.Fn c.args.rules.now.tariff.now g.U.Fn c.args.rules.now.weigh.now real [] c.refuse_open-talk.result.day c.rest-day.result.failure c.rest-day.result.day _ _ c.rest-day.ensures.goes)));
      anew = λ s old from log0 log after.
          subst (λ (k : Course). RestsAnew g.F.Fn c.args.rules.now.tariff.now g.U.Fn c.args.rules.now.weigh.now s old from log0 k c.refuse_open-talk.result.bad c.rest-day.result.day (g.C.Console.transcript c.rest-day.new.out) log) (sym c.course_at_end.ensures)
          (open_rests g.F.Fn c.args.rules.now.tariff.now g.U.Fn c.args.rules.now.weigh.now s old from log0 c.args.talk.course c.args.talk.bad c.args.talk.day c.args.talk.reader c.args.talk.number (g.C.Console.transcript c.args.console.now) (g.C.Console.transcript c.refuse_open-talk.new.console) log _ _
          (g.met.C.Console.exposed c.args.console.now) (g.met.C.Console.exposed c.refuse_open-talk.new.console) c.refuse_open-talk.result.course c.refuse_open-talk.result.bad _ _ c.refuse_open-talk.ensures.open
          c.rest-day.result.day (g.C.Console.transcript c.rest-day.new.out) c.rest-day.result.failure _ _ _ _ (g.met.C.Console.exposed c.refuse_open-talk.new.console) (g.met.C.Console.exposed c.rest-day.new.out) c.in_default.not-Breaks
          (subst (λ (d : Seen). DidRest g.F.Fn c.args.rules.now.tariff.now g.U.Fn c.args.rules.now.weigh.now d c.rest-day.result.failure c.rest-day.result.day (g.C.Sink.written c.refuse_open-talk.new.console) (g.C.Sink.written c.rest-day.new.out)
          (g.C.Sink.faults c.refuse_open-talk.new.console) (g.C.Sink.faults c.rest-day.new.out)) c.refuse_open-talk.ensures.day c.rest-day.ensures) after);
    }
