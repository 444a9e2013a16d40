use Rattle.std.proofs.Common.{ap}
use Rattle.g_entry.specs.declared.head.Head.{Head}
use Rattle.g_store_calls.proofs.GrantedLemmas.{grants_on, refused_on}
use Rattle.g_store_calls.proofs.answering.granted_here.Goals as goal

pub returns-clause-refused : goal.returns-clause-refused
returns-clause-refused g c =
    refused_on c.args.online.now c.tree.result.now.users c.tree.result.now.files c.head.result.next_stamp c.args.who.now c.args.call.now c.refusal_of.result c.tree.ensures.users c.tree.ensures.files
    (ap (λ (h : Head). h.next_stamp) c.head.ensures) c.refusal_of.ensures.refused

pub returns-clause-granted : goal.returns-clause-granted
returns-clause-granted g c =
    grants_on c.args.online.now c.tree.result.now.users c.tree.result.now.files c.head.result.next_stamp c.args.who.now c.args.call.now c.refusal_of.result c.tree.ensures.users c.tree.ensures.files
    (ap (λ (h : Head). h.next_stamp) c.head.ensures) c.refusal_of.ensures.refused c.refusal_of.ensures.granted
