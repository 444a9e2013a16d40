use Rattle.g_store_calls.proofs.TellLemmas.{modes_are}
use Rattle.g_store_calls.proofs.telling.modes_of.Goals as goal

pub returns : goal.returns
returns c = λ who path full named called.
    modes_are c.args.tree.now.users c.args.tree.now.files c.args.number c.number_of_user.result full c.args.user.now who path c.modes_of.result
    named c.number_of_user.ensures.named called c.modes_of.ensures
