use Rattle.std.proofs.Common.{◌∙◌, ap}
use Rattle.g_base.specs.Fields.{padded}
use Rattle.g_name.specs.Short.{short_bytes}
use Rattle.g_name.proofs.short.ShortHash.hash.Goals as goal

pub returns : goal.returns
returns g c =
    c.write.ensures ∙ ap (g.H.Hasher.write c.args.state.now) (short_bytes _ _ _ c.self.invariant ∙ ap (padded g.row.N) c.self.view_is)
