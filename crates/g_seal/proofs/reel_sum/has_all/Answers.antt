use Rattle.std.proofs.Common.{arith}
use Rattle.std.proofs.lemmas.Bool.{le-leb, leb-true}
use Rattle.g_seal.proofs.ReelLemmas.{all_if, has_all_if, none_if}
use Rattle.g_seal.proofs.reel_sum.has_all.Goals as goal

pub returns-then-copy-there : goal.returns-then-copy-there
returns-then-copy-there g c =
    let rack = g.T.Tapes.rack c.args.tapes.now in
    let first = c.if-copy-there.true in
    let count = c.blocks_for.ensures in (
      λ is. (let le = leb-true _ _ is in has_all_if rack c.args.copy.now c.args.len c.in-Ok.there c.in-Ok.ensures (omega (arith, le, first, count))),
      λ has. (let le = all_if rack c.args.copy.now c.args.len c.in-Ok.there c.in-Ok.ensures has in le-leb _ _ (omega (arith, le, first, count))),
    )

pub returns-else-copy-there : goal.returns-else-copy-there
returns-else-copy-there g c =
    let rack = g.T.Tapes.rack c.args.tapes.now in
    let first = c.if-copy-there.false in (
      λ is. (let le = leb-true _ _ is in absurd (let no : ⊥ = omega (arith, le, first) in no)),
      λ has. (let le = all_if rack c.args.copy.now c.args.len c.in-Ok.there c.in-Ok.ensures has in le-leb _ _ (omega (arith, le))),
    )

pub returns-in-Err : goal.returns-in-Err
returns-in-Err g c = (λ is. absurd (let no : ⊥ = cc in no), λ has. absurd (none_if (g.T.Tapes.rack c.args.tapes.now) c.args.copy.now c.args.len _ c.in-Err.ensures has))
