use Rattle.std.proofs.Common.{subst, sym}
use Rattle.g_plain.specs.declared.calls.StoreCall.{StoreCall}
use Rattle.g_plain.specs.Rules.{IsWithinLimits}
use Rattle.g_tree.specs.declared.asked.Granted.TheVariants.{Nothing}
use Rattle.g_store_calls.specs.Answering.{AnswersIn}
use Rattle.g_store_calls.specs.GrantedCalls.{Grants}
use Rattle.g_store_calls.specs.Kinds.{IsSettled}
use Rattle.g_store_calls.proofs.answering.without_file.Goals as goal

pub new_user-requires-clause-limits : goal.new_user-requires-clause-limits
new_user-requires-clause-limits g c = subst IsWithinLimits c.in-NewUser.is c.requires.limits

pub budget-requires-clause-limits : goal.budget-requires-clause-limits
budget-requires-clause-limits g c = subst IsWithinLimits c.in-Budget.is c.requires.limits

pub new_user-requires-clause-granted : goal.new_user-requires-clause-granted
new_user-requires-clause-granted g c = subst (λ (k : StoreCall). Grants c.args.online.now c.args.who.now k Nothing) c.in-NewUser.is c.requires.granted

pub budget-requires-clause-granted : goal.budget-requires-clause-granted
budget-requires-clause-granted g c = (c.args.who.now, subst (λ (k : StoreCall). Grants c.args.online.now c.args.who.now k Nothing) c.in-Budget.is c.requires.granted)

pub list-requires-clause-granted : goal.list-requires-clause-granted
list-requires-clause-granted g c = (c.args.who.now, subst (λ (k : StoreCall). Grants c.args.online.now c.args.who.now k Nothing) c.in-List.is c.requires.granted)

pub returns-in-NewUser-clause-answers : goal.returns-in-NewUser-clause-answers
returns-in-NewUser-clause-answers g c = subst (λ (k : StoreCall). AnswersIn c.args.who.now k c.args.online.now c.new_user.result c.new_user.new.online) (sym c.in-NewUser.is) c.new_user.ensures.answers

pub returns-in-NewUser-clause-kind : goal.returns-in-NewUser-clause-kind
returns-in-NewUser-clause-kind g c = subst (λ (k : StoreCall). IsSettled k c.new_user.result) (sym c.in-NewUser.is) c.new_user.ensures.kind

pub returns-in-Budget-clause-answers : goal.returns-in-Budget-clause-answers
returns-in-Budget-clause-answers g c = subst (λ (k : StoreCall). AnswersIn c.args.who.now k c.args.online.now c.budget.result c.budget.new.online) (sym c.in-Budget.is) (c.budget.ensures.answers c.args.who.now (subst (λ (k : StoreCall). Grants c.args.online.now c.args.who.now k Nothing) c.in-Budget.is c.requires.granted))

pub returns-in-Budget-clause-kind : goal.returns-in-Budget-clause-kind
returns-in-Budget-clause-kind g c = subst (λ (k : StoreCall). IsSettled k c.budget.result) (sym c.in-Budget.is) c.budget.ensures.kind

pub returns-in-List-clause-answers : goal.returns-in-List-clause-answers
returns-in-List-clause-answers g c = subst (λ (k : StoreCall). AnswersIn c.args.who.now k c.args.online.now c.list.result c.args.online.now) (sym c.in-List.is) (c.list.ensures.answers c.args.who.now (subst (λ (k : StoreCall). Grants c.args.online.now c.args.who.now k Nothing) c.in-List.is c.requires.granted))

pub returns-in-List-clause-kind : goal.returns-in-List-clause-kind
returns-in-List-clause-kind g c = subst (λ (k : StoreCall). IsSettled k c.list.result) (sym c.in-List.is) c.list.ensures.kind
