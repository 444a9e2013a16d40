use Rattle.std.proofs.Common.{ap, arith, length, length-take-le}
use Rattle.g_base.proofs.FieldLemmas.{one_more_byte}
use Rattle.g_base.proofs.writer.BlockWriter.put_u8.Goals as goal

pub invariant_of-self : goal.invariant_of-self
invariant_of-self c =
    let part = c.self.invariant in
    let long = length-take-le c.self.inside.at c.self.inside.block (omega arith) in
    let put = ap length c.self.view_is in one_more_byte _ _ c.args.x (omega arith) part
