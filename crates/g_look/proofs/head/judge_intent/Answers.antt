use Rattle.std.proofs.Common.{refl}
use Rattle.g_look.proofs.HeadLemmas.{intent_none, intent_some, is_reel, no_reel}
use Rattle.g_look.proofs.head.judge_intent.Goals as goal

pub returns-in-Err-clause-some : goal.returns-in-Err-clause-some
returns-in-Err-clause-some g c = λ low. (refl, no_reel (g.T.Tapes.rack c.args.tapes.now) _ _ c.in-Err.ensures)

pub returns-clause-some : goal.returns-clause-some
returns-clause-some g c = intent_some _ _ c.args.intent.now _ _ _ c.end_upto.ensures (is_reel (g.T.Tapes.rack c.args.tapes.now) _ _ c.in-Ok.ensures) c.misplaced.ensures.some

pub returns-clause-none : goal.returns-clause-none
returns-clause-none g c = intent_none _ _ c.args.intent.now _ _ _ c.end_upto.ensures (is_reel (g.T.Tapes.rack c.args.tapes.now) _ _ c.in-Ok.ensures) c.misplaced.ensures.none
