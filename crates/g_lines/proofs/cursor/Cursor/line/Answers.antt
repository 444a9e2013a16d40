use Rattle.std.proofs.Common.{ap, length, arith}
use Rattle.g_lines.proofs.CursorLemmas.{left_some}
use Rattle.g_lines.proofs.cursor.Cursor.line.Goals as goal

pub split_line-requires : goal.split_line-requires
split_line-requires c = omega (arith, left_some c.args.self.now.lines c.args.self.now.taken c.requires, ap length c.left.ensures.text)
