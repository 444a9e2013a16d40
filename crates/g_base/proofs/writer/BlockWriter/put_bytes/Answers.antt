use Rattle.std.proofs.Common.{ap, arith, length, length-take-le}
use Rattle.g_base.proofs.FieldLemmas.{more_bytes}
use Rattle.g_base.proofs.writer.BlockWriter.put_bytes.Goals as goal

pub invariant_of-self : goal.invariant_of-self
invariant_of-self c =
    let part = c.self.invariant in
    let long = length-take-le c.self.inside.at c.self.inside.block (omega arith) in
    let put = ap length c.self.view_is in more_bytes _ _ _ _ c.copy_from_slice.ensures.after (omega arith) part
