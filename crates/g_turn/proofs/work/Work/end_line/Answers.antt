use Rattle.std.proofs.lemmas.Grind.{common_steps}
use Rattle.std.proofs.Common.{arith}
use Rattle.g_turn.proofs.SayLemmas.{line_ended}
use Rattle.g_turn.proofs.work.Work.end_line.Goals as goal

pub returns-else-room-as_slice-clause-ok : goal.returns-else-room-as_slice-clause-ok
returns-else-room-as_slice-clause-ok c =
    let said = line_ended c.args.room c.args.start c.args.self.now c.requires in
    grind (arith, common_steps, said)
