-- A block that is noted as absent isn't cached.
use Rattle.std.proofs.Common.{sym, ◌∙◌}
use Rattle.g_cache.proofs.AbsentLemmas.{absent_forgotten, missing_stays}
use Rattle.g_cache.proofs.cached_disc.forget.Goals as goal

pub returns-then-has-clause-others : goal.returns-then-has-clause-others
returns-then-has-clause-others c = missing_stays c.args.k c.args.cache.now (c.requires c.args.k (sym c.has.ensures ∙ c.if-has.true))

pub returns-clause-absent : goal.returns-clause-absent
returns-clause-absent c = absent_forgotten c.args.k c.args.absent.now c.args.cache.now c.forget.new.self c.requires c.note.new.self c.note.ensures c.forget.ensures.gone c.forget.ensures.others
