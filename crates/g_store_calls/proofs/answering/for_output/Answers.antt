use Rattle.std.proofs.Common.{subst, sym}
use Rattle.g_plain.specs.declared.calls.StoreCall.{StoreCall}
use Rattle.g_tree.specs.declared.asked.Granted.TheVariants.{Output}
use Rattle.g_store_calls.specs.GrantedCalls.{AnswersGrantedOver, GrantsOne}
use Rattle.g_store_calls.specs.Kinds.{IsSettled}
use Rattle.g_store_calls.proofs.answering.for_output.Goals as goal

pub put-requires-clause-granted : goal.put-requires-clause-granted
put-requires-clause-granted g c = (c.in-Put.path, subst (GrantsOne c.args.online.now (Output c.args.number c.args.full)) c.in-Put.is c.requires.granted)

pub returns-clause-answers : goal.returns-clause-answers
returns-clause-answers g c = λ rack.
    subst (AnswersGrantedOver c.args.online.now rack (Output c.args.number c.args.full) c.put.result c.put.new.online rack) (sym c.in-Put.is) (c.put.ensures.answers c.in-Put.path rack)

pub returns-clause-kind : goal.returns-clause-kind
returns-clause-kind g c =
    subst (λ (k : StoreCall). IsSettled k c.put.result) (sym c.in-Put.is) (c.put.ensures.kind c.in-Put.path (subst (GrantsOne c.args.online.now (Output c.args.number c.args.full)) c.in-Put.is c.requires.granted))
