use Rattle.g_cache.proofs.KeptLemmas.{Agrees-Writes}
use Rattle.g_cache.proofs.cached_disc.CachedDiscDisc.write.Goals as goal

pub invariant_of-self : goal.invariant_of-self
invariant_of-self g c = (
  Agrees-Writes c.write.result c.args.k c.args.from.now _ (g.D.Disc.state c.write.new.self) c.self.inside.cache c.forget.new.cache c.write.ensures
      c.forget.ensures.others c.forget.ensures.gone c.self.invariant.0,
  c.forget.ensures.absent,
)
