use Rattle.g_store_calls.proofs.BudgetLemmas.{budget_made, nobody_there}
use Rattle.g_store_calls.proofs.setting.budgeted_user.Goals as goal

pub unreachable-requires : goal.unreachable-requires
unreachable-requires c = nobody_there c.args.tree.now.users c.args.tree.now.files c.args.user.now c.user.result c.user.ensures.there c.requires.there c.in_default.is

pub returns : goal.returns
returns c =
    budget_made c.args.tree.now.users c.args.tree.now.files c.args.user.now c.args.kind c.args.amount c.in-Some.old c.with_budget.result c.in-Some.ensures.records c.requires.limits c.in-Some.ensures.value
    c.with_budget.ensures
