use Rattle.std.proofs.Common.{Err, ◌∙◌, ap}
use Rattle.std.specs.Prelude.{Result}
use Rattle.g_incr.specs.Plan.{Plan}
use Rattle.g_online.specs.declared.fault.OnlineFault.{OnlineFault}
use Rattle.g_dumper.specs.Beginning.{plan_of}
use Rattle.g_dumper.proofs.IntentLemmas.{intent_is, may_open, opened_by, pinned_for, stopped_by}
use Rattle.g_dumper.proofs.begin.open.Goals as goal

pub set_intent-requires : goal.set_intent-requires
set_intent-requires g c = record {
  allowed = may_open c.args.serial c.args.place c.args.online.now _ c.args.writer c.args.first c.head-number.result c.requires.plan c.requires.rules c.requires.live c.head-number.ensures c.in-Ok.ensures.ok c.in-Ok.ensures.tied;
}

pub returns-in-Ok-set_intent-clause-ok : goal.returns-in-Ok-set_intent-clause-ok
returns-in-Ok-set_intent-clause-ok g c = (
  ap (λ (p : Plan). record { plan = p; done = 0 }) c.requires.plan,
  opened_by (plan_of c.args.serial c.args.place c.args.online.now) _ _ _ _ (intent_is c.args.serial c.args.place c.args.online.now c.head-number.result c.head-number.ensures)
      (pinned_for c.args.serial c.args.place _ _ c.args.writer c.args.first c.requires.plan c.requires.first c.in-Ok.ensures.ok) c.in-Ok-set_intent.ensures.ok c.set_intent.ensures.told,
)

pub returns-in-Err-Stopped-clause-stopped : goal.returns-in-Err-Stopped-clause-stopped
returns-in-Err-Stopped-clause-stopped g c = λ _.
    stopped_by (plan_of c.args.serial c.args.place c.args.online.now) _ _ _ _ (intent_is c.args.serial c.args.place c.args.online.now c.head-number.result c.head-number.ensures)
    (pinned_for c.args.serial c.args.place _ _ c.args.writer c.args.first c.requires.plan c.requires.first c.in-Ok.ensures.ok) (c.set_intent.ensures.stopped (c.in-Err-Stopped.is ∙ ap (λ (e : OnlineFault). let r : Result (Unit {0}) OnlineFault = Err e in r) c.in-Err-Stopped.field-0-is)) c.set_intent.ensures.told
