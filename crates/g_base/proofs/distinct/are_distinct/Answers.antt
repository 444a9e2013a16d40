use Rattle.std.proofs.Common.{rules, tests}
use Rattle.std.specs.HashSet as bag
use Rattle.std.proofs.lemmas.Iterator.{YieldsList-from_map, YieldsList-from_slice}
use Rattle.std.proofs.lemmas.Iterator.Adapters.{fact_from_collect}
use Rattle.std.proofs.lemmas.Result.{IfOk-at_ok}
use Rattle.g_base.proofs.SetLemmas.{size_tells}
use Rattle.g_base.proofs.distinct.are_distinct.Goals as goal

pub returns : goal.returns
returns g c key_of computes same =
    let collected = IfOk-at_ok _ c.in_ok-keys.was (fact_from_collect (bag.IsFromIterResult g.K.PartialEq.eq) c.collect.result c.collect.ensures.ran
    (YieldsList-from_map _ key_of (YieldsList-from_slice c.args.items.now cc) c.map.ensures.closure (λ x r q k. (search (rules, tests), computes x r (search (rules, tests)))))) in
    size_tells key_of c.args.items.now c.in_ok-keys.keys c.len.result same collected c.len.ensures.len
