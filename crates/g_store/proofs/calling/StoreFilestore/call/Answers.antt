use Rattle.g_store_calls.proofs.CallLemmas.{called, same_waits, waits}
use Rattle.g_store.proofs.calling.StoreFilestore.call.Goals as goal

pub invariant_of-self : goal.invariant_of-self
invariant_of-self g c =
    (called c.args.who.now c.args.call.now c.answer-reply.result c.args.self.now _ c.self.view_is c.requires.running c.self.invariant c.plan_kept.ensures c.answer-reply.new.online (g.T.Tapes.rack c.answer-reply.new.tapes) c.answer-reply.ensures.answers c.is_stopped-self-inside.result c.is_stopped-self-inside.ensures).keeps

pub returns-clause-answers : goal.returns-clause-answers
returns-clause-answers g c =
    called c.args.who.now c.args.call.now c.answer-reply.result c.args.self.now _ c.self.view_is c.requires.running c.self.invariant c.plan_kept.ensures c.answer-reply.new.online (g.T.Tapes.rack c.answer-reply.new.tapes) c.answer-reply.ensures.answers c.is_stopped-self-inside.result c.is_stopped-self-inside.ensures

pub returns-clause-waits : goal.returns-clause-waits
returns-clause-waits g c =
    waits c.args.who.now c.args.call.now c.answer-reply.result c.args.self.now _ c.self.view_is c.requires.running c.self.invariant c.plan_kept.ensures c.answer-reply.new.online (g.T.Tapes.rack c.answer-reply.new.tapes) c.answer-reply.ensures.answers c.is_stopped-self-inside.result c.is_stopped-self-inside.ensures c.answer-reply.ensures.kind

pub returns-clause-may_wait : goal.returns-clause-may_wait
returns-clause-may_wait g c = c.answer-reply.ensures.kind.may

pub returns-clause-same_waits : goal.returns-clause-same_waits
returns-clause-same_waits g c =
    same_waits c.args.who.now c.args.call.now c.answer-reply.result c.args.self.now _ c.self.view_is c.requires.running c.self.invariant c.plan_kept.ensures c.answer-reply.new.online (g.T.Tapes.rack c.answer-reply.new.tapes) c.answer-reply.ensures.answers c.is_stopped-self-inside.result c.is_stopped-self-inside.ensures

pub returns-clause-kind : goal.returns-clause-kind
returns-clause-kind g c = c.answer-reply.ensures.kind.reply

pub returns-clause-spent : goal.returns-clause-spent
returns-clause-spent g c =
    (called c.args.who.now c.args.call.now c.answer-reply.result c.args.self.now _ c.self.view_is c.requires.running c.self.invariant c.plan_kept.ensures c.answer-reply.new.online (g.T.Tapes.rack c.answer-reply.new.tapes) c.answer-reply.ensures.answers c.is_stopped-self-inside.result c.is_stopped-self-inside.ensures).spent
