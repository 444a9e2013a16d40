use Rattle.std.proofs.Common.{arith, length, ◌<◌}
use Rattle.g_forks.proofs.ForkLemmas.{one_more}
use Rattle.g_forks.proofs.fork.by_number.Goals as goal

pub loop-dump-preserved : goal.loop-dump-preserved
loop-dump-preserved c = one_more c.loop-dump.numbers c.add.new.numbers c.loop-dump.dump-index c.args.dumps.now (record { number = 0; serial = 0; place = 0; count = 0 }) (omega arith) c.loop-dump.invariant c.in-Ok.ensures
