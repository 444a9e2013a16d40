use Rattle.std.proofs.Common.{refl}
use Rattle.g_day.specs.declared.progress.Failure.TheVariants as failures
use Rattle.g_session.proofs.TakeLemmas.{rest_done, rest_not}
use Rattle.g_session.proofs.taking.rest.Goals as goal

pub returns-then-day-gt-MOST_COUNT : goal.returns-then-day-gt-MOST_COUNT
returns-then-day-gt-MOST_COUNT g c = rest_not g.F.Fn c.args.rules.now.tariff.now g.U.Fn c.args.rules.now.weigh.now failures.Memory c.args.day (g.K.Sink.written c.args.out.now) _ _ refl

pub returns-else-day-gt-MOST_COUNT : goal.returns-else-day-gt-MOST_COUNT
returns-else-day-gt-MOST_COUNT g c = rest_done g.F.Fn c.args.rules.now.tariff.now g.U.Fn c.args.rules.now.weigh.now c.args.day c.tick_until_due.result.failure c.tick_until_due.result.day _ _ _ _ c.tick_until_due.ensures
