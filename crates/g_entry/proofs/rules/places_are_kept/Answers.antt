use Rattle.std.proofs.Common.{arith, refl}
use Rattle.g_entry.proofs.RuleLemmas.{places_all, places_more}
use Rattle.g_entry.proofs.rules.places_are_kept.Goals as goal

pub loop-i-preserved : goal.loop-i-preserved
loop-i-preserved c = places_more c.args.users.now c.loop-i.i c.index-users-i.result (omega arith) c.index-users-i.is (c.place_is_kept.ensures.0 c.if-not-place_is_kept.false) c.loop-i.invariant

pub returns : goal.returns
returns c =
    let all = places_all c.args.users.now c.loop-i.i (omega arith) c.loop-i.invariant in
    (λ yes_. all, λ kept. refl)
