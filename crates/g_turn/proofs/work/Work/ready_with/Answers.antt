use Rattle.std.proofs.Common.{◌∙◌}
use Rattle.g_turn.proofs.TypingLemmas.{goes_on_typed, waits_for_lines}
use Rattle.g_turn.proofs.work.Work.ready_with.Goals as goal

pub ready_with-requires : goal.ready_with-requires
ready_with-requires c = waits_for_lines _ c.args.self.now c.self.view_is c.requires

pub returns : goal.returns
returns c = c.ready_with.ensures ∙ goes_on_typed _ c.args.self.now c.args.line.now c.self.view_is c.requires
