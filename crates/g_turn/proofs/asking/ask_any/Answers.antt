use Rattle.g_turn.proofs.StepLemmas.{granted_step, refused_step}
use Rattle.g_turn.proofs.asking.ask_any.Goals as goal

pub returns-clause-granted : goal.returns-clause-granted
returns-clause-granted g c =
    granted_step g.S.Filestore.answers g.S.Filestore.is_spent g.S.Filestore.can_wait c.args.who.now c.args.store.now c.args.call.now c.call.new.self c.call.result (record {
      is = c.call.ensures.answers;
      waits = c.call.ensures.waits;
      may = c.call.ensures.may_wait;
      same = c.call.ensures.same_waits;
      kind = c.call.ensures.kind;
      spent = c.call.ensures.spent;
    })

pub returns-clause-refused : goal.returns-clause-refused
returns-clause-refused g c =
    refused_step g.S.Filestore.answers g.S.Filestore.is_spent g.S.Filestore.can_wait c.args.who.now c.args.store.now c.args.call.now c.call.new.self c.call.result (record {
      is = c.call.ensures.answers;
      waits = c.call.ensures.waits;
      may = c.call.ensures.may_wait;
      same = c.call.ensures.same_waits;
      kind = c.call.ensures.kind;
      spent = c.call.ensures.spent;
    })
