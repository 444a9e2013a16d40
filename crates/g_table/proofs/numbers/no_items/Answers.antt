use Rattle.std.proofs.Common.{◌≡◌, None, replicate, ap, ◌∙◌, arith}
use Rattle.g_table.proofs.numbers.no_items.Goals as goal

pub returns : goal.returns
returns g c =
    let past = c.loop-test.false in
    let end = c.loop.auto.counter-end in
    let all : c.loop.counter ≡ 1024 = omega (arith, past, end) in
    c.loop.invariant.0 ∙ ap (λ n. replicate n None) all
