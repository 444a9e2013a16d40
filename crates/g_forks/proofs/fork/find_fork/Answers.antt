use Rattle.std.proofs.Common.{arith, length, ◌<◌, ◌≤◌}
use Rattle.g_forks.proofs.ForkLemmas.{no_fork_more, no_fork_all}
use Rattle.g_forks.proofs.fork.find_fork.Goals as goal

pub loop-held-preserved : goal.loop-held-preserved
loop-held-preserved c = no_fork_more c.args.first.now c.in_ok-numbers.numbers c.loop-held.held-index c.args.second.now (record { number = 0; serial = 0; place = 0; count = 0 }) (omega arith) c.in_ok-numbers.ensures c.loop-held.invariant c.in_default.ensures.none

pub returns-clause-none : goal.returns-clause-none
returns-clause-none c = no_fork_all c.args.first.now c.loop-held.held-index c.args.second.now (omega arith) c.loop-held.invariant
