use Rattle.std.proofs.Common.{None, refl}
use Rattle.g_plain.specs.declared.calls.StoreCall.TheVariants.{Budget}
use Rattle.g_plain.specs.declared.calls.StoreReply.TheVariants.{Done}
use Rattle.g_online.specs.declared.change.Change.TheVariants.{SetUser}
use Rattle.g_store_calls.proofs.BudgetLemmas.{budget_user, budgeted_on, budgets, may_set_user}
use Rattle.g_store_calls.proofs.GrantedLemmas.{answered, settled}
use Rattle.g_store_calls.proofs.TellLemmas.{refuses_on}
use Rattle.g_store_calls.proofs.setting.budget.Goals as goal

pub budgeted_user-rec-requires-clause-there : goal.budgeted_user-rec-requires-clause-there
budgeted_user-rec-requires-clause-there g c =
    let (who, granted) = c.requires.granted in
    let o = c.args.online.now in
    budget_user c.tree.result.now.users c.tree.result.now.files o.contents.head.next_stamp who c.args.user.now c.args.kind c.args.amount
    (refuses_on o c.tree.result.now.users c.tree.result.now.files o.contents.head.next_stamp who (Budget c.args.user.now c.args.kind c.args.amount) None c.tree.ensures.users c.tree.ensures.files granted.allowed)

pub changed-requires : goal.changed-requires
changed-requires g c =
    let (who, granted) = c.requires.granted in
    record {
      allowed = may_set_user c.args.online.now who c.args.user.now c.args.kind c.args.amount c.budgeted_user-rec.result c.requires.live c.requires.tied
          (budgeted_on c.args.online.now c.tree.result.now.users c.tree.result.now.files c.args.user.now c.args.kind c.args.amount c.budgeted_user-rec.result c.tree.ensures.users c.tree.ensures.files
          c.budgeted_user-rec.ensures);
      bare = refl;
    }

pub returns-clause-answers : goal.returns-clause-answers
returns-clause-answers g c = λ who granted.
    answered c.args.online.now c.changed.new.online who (Budget c.args.user.now c.args.kind c.args.amount) (SetUser c.budgeted_user-rec.result) _ _ Done
    (budgets c.args.online.now who c.args.user.now c.args.kind c.args.amount c.budgeted_user-rec.result c.requires.live c.requires.tied
    (budgeted_on c.args.online.now c.tree.result.now.users c.tree.result.now.files c.args.user.now c.args.kind c.args.amount c.budgeted_user-rec.result c.tree.ensures.users c.tree.ensures.files
    c.budgeted_user-rec.ensures)
    granted.allowed)
    c.changed.result c.changed.ensures

pub returns-clause-kind : goal.returns-clause-kind
returns-clause-kind g c =
    settled (SetUser c.budgeted_user-rec.result) c.args.online.now c.changed.new.online (Budget c.args.user.now c.args.kind c.args.amount) Done tt c.changed.result c.changed.ensures
