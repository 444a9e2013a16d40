use Rattle.g_online.proofs.BegunLemmas.{numbers_more}
use Rattle.g_online.proofs.load.numbers_of.Goals as goal

pub loop-user-preserved : goal.loop-user-preserved
loop-user-preserved c =
    numbers_more c.args.users.now c.loop-user.user-index c.user-item.result c.loop-user.numbers c.put.new.self c.requires c.loop-user-test.true c.user-item.is c.loop-user.invariant c.put.ensures
