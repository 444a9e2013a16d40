use Rattle.std.proofs.Common.{ap, arith, length}
use Rattle.g_name.specs.Short.{short_length}
use Rattle.g_name.proofs.ShortLemmas.{longer_short}
use Rattle.g_name.proofs.short.Short.push.Goals as goal

pub invariant_of-self : goal.invariant_of-self
invariant_of-self g c =
    let long = short_length _ _ _ c.self.invariant in
    let seen = ap length c.self.view_is in
    let room = c.requires.room in rw c.from.ensures (longer_short g.row.N c.self.inside.len c.self.inside.bytes c.args.byte (omega arith) c.self.invariant)
