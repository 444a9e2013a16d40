use Rattle.std.proofs.Common.{◌∙◌, rules}
use Rattle.g_turn.proofs.SayLemmas.{refused_said}
use Rattle.g_turn.proofs.work.Work.refuse.Goals as goal

pub returns-in_ok-say_fault-in_default : goal.returns-in_ok-say_fault-in_default
returns-in_ok-say_fault-in_default c = record {
  ok = c.in_ok-say_fault-in_default.ensures.ok ∙ refused_said c.args.room c.args.self.now c.args.fault.now (search rules);
  blocks = c.in_ok-say_fault-in_default.ensures.blocks;
}
