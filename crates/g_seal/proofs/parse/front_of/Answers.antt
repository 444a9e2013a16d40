use Rattle.std.proofs.Common.{refl}
use Rattle.g_seal.proofs.ParseLemmas.{due_is}
use Rattle.g_seal.proofs.parse.front_of.Goals as goal

pub returns-then-eq-clause-sum : goal.returns-then-eq-clause-sum
returns-then-eq-clause-sum c =
    let ends = c.if-not-is_ended.ensures.ended refl in
    let there = c.in-Some.ensures ends.0 ends.1 in
    due_is c.args.text.now c.in-Some.front.now c.in-Some.last.now _ there.0 there.1 there.2 (rw (c.digest.ensures, c.new-due.ensures) at c.in-Ok.ensures) (rw c.as_slice.ensures at (rw c.eq.ensures at c.if-eq.true))
