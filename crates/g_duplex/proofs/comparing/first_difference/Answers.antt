use Rattle.std.proofs.Common.{◌≡◌, ◌⊎◌, ◌∙◌, ◌<◌, ℕ, Bool, Ok, Result, ap, arith, inl, inr, subst}
use Rattle.std.proofs.lemmas.Bool.{cases_lt}
use Rattle.g_duplex.specs.declared.fault.DuplexFault.{DuplexFault}
use Rattle.g_duplex.specs.Copying.{SameBlock}
use Rattle.g_duplex.proofs.CompareLemmas.{SameSoFar, all_same, both_there, long_differ, may_read, one_differs, same_more, same_none}
use Rattle.g_duplex.proofs.PlaceLemmas.{suc_plus}
use Rattle.g_duplex.proofs.comparing.first_difference.Goals as goal

pub loop-k-init : goal.loop-k-init
loop-k-init g c = same_none c.args.serial (g.T.Tapes.rack c.args.one.now) (g.T.Tapes.rack c.args.other.now)

pub same_block-requires-clause-here : goal.same_block-requires-clause-here
same_block-requires-clause-here g c =
    let (a, b, there, there', up, up') = both_there _ _ c.requires in
    may_read c.args.serial c.loop-k.k c.length_of-len.result (g.T.Tapes.rack c.args.one.now) (g.T.Tapes.rack c.loop-k.one) a c.loop-k.invariant.one there up c.length_of-len.ensures
    (omega (arith, c.loop-k-test.true, c.min-k-end.ensures))

pub same_block-requires-clause-there : goal.same_block-requires-clause-there
same_block-requires-clause-there g c =
    let (a, b, there, there', up, up') = both_there _ _ c.requires in
    may_read c.args.serial c.loop-k.k c.length_of-beside.result (g.T.Tapes.rack c.args.other.now) (g.T.Tapes.rack c.loop-k.other) b c.loop-k.invariant.two there' up' c.length_of-beside.ensures
    (omega (arith, c.loop-k-test.true, c.min-k-end.ensures))

pub loop-k-preserved : goal.loop-k-preserved
loop-k-preserved g c =
    let same = subst (λ (x : Result Bool DuplexFault). SameBlock c.args.serial c.loop-k.k (g.T.Tapes.rack c.loop-k.one) (g.T.Tapes.rack c.loop-k.other) x (g.T.Tapes.rack c.same_block.new.one)
    (g.T.Tapes.rack c.same_block.new.other)) (c.in-Ok-true.is ∙ ap (λ (b : Bool). let x : Result Bool DuplexFault = Ok b in x) c.in-Ok-true.field-0-test) c.same_block.ensures.answer in
    subst (λ (j : ℕ). SameSoFar c.args.serial j (g.T.Tapes.rack c.args.one.now) (g.T.Tapes.rack c.args.other.now) (g.T.Tapes.rack c.same_block.new.one) (g.T.Tapes.rack c.same_block.new.other)) (suc_plus c.loop-k.k)
    (same_more c.args.serial c.loop-k.k (g.T.Tapes.rack c.args.one.now) (g.T.Tapes.rack c.args.other.now) (g.T.Tapes.rack c.loop-k.one) (g.T.Tapes.rack c.loop-k.other) (g.T.Tapes.rack c.same_block.new.one)
    (g.T.Tapes.rack c.same_block.new.other) c.loop-k.invariant c.same_block.ensures.one c.same_block.ensures.other same)

pub returns-in-Ok-false-clause-answer : goal.returns-in-Ok-false-clause-answer
returns-in-Ok-false-clause-answer g c =
    let same = subst (λ (x : Result Bool DuplexFault). SameBlock c.args.serial c.loop-k.k (g.T.Tapes.rack c.loop-k.one) (g.T.Tapes.rack c.loop-k.other) x (g.T.Tapes.rack c.same_block.new.one)
    (g.T.Tapes.rack c.same_block.new.other)) (c.in-Ok-false.is ∙ ap (λ (b : Bool). let x : Result Bool DuplexFault = Ok b in x) c.in-Ok-false.field-0-test) c.same_block.ensures.answer in
    one_differs c.args.serial c.loop-k.k (g.T.Tapes.rack c.args.one.now) (g.T.Tapes.rack c.args.other.now) (g.T.Tapes.rack c.loop-k.one) (g.T.Tapes.rack c.loop-k.other) (g.T.Tapes.rack c.same_block.new.one)
    (g.T.Tapes.rack c.same_block.new.other) c.loop-k.invariant same

pub returns-then-len-beside-clause-answer : goal.returns-then-len-beside-clause-answer
returns-then-len-beside-clause-answer g c =
    let e : c.loop-k.k ≡ c.length_of-len.result = omega (arith, c.loop-k-test.false, c.loop-k.auto.k-end, c.min-k-end.ensures, c.if-len-beside.true) in
    let so_far = subst (λ (j : ℕ). SameSoFar c.args.serial j (g.T.Tapes.rack c.args.one.now) (g.T.Tapes.rack c.args.other.now) (g.T.Tapes.rack c.loop-k.one) (g.T.Tapes.rack c.loop-k.other)) e c.loop-k.invariant in
    all_same c.args.serial c.length_of-len.result (g.T.Tapes.rack c.args.one.now) (g.T.Tapes.rack c.args.other.now) (g.T.Tapes.rack c.loop-k.one) (g.T.Tapes.rack c.loop-k.other)
    (g.met.T.Tapes.well_formed c.args.one.now) (g.met.T.Tapes.well_formed c.args.other.now) c.requires c.length_of-len.ensures (λ r at. c.if-len-beside.true ∙ c.length_of-beside.ensures r at) so_far

pub returns-else-len-beside-clause-answer : goal.returns-else-len-beside-clause-answer
returns-else-len-beside-clause-answer g c =
    let m = c.length_of-len.result in
    let n = c.length_of-beside.result in
    let i = c.min.result in
    let e : c.loop-k.k ≡ i = omega (arith, c.loop-k-test.false, c.loop-k.auto.k-end, c.min-k-end.ensures, c.min.ensures) in
    let so_far = subst (λ (j : ℕ). SameSoFar c.args.serial j (g.T.Tapes.rack c.args.one.now) (g.T.Tapes.rack c.args.other.now) (g.T.Tapes.rack c.loop-k.one) (g.T.Tapes.rack c.loop-k.other)) e c.loop-k.invariant in
    let which : ((i ≡ m) × (m < n)) ⊎ ((i ≡ n) × (n < m)) = elim (cases_lt m n) [
      | inl less ↦ inl (omega (arith, less, c.min.ensures), less)
      | inr not ↦ inr (omega (arith, not, c.min.ensures), omega (arith, not, c.if-len-beside.false))
    ] in
    long_differ c.args.serial m n i (g.T.Tapes.rack c.args.one.now) (g.T.Tapes.rack c.args.other.now) (g.T.Tapes.rack c.loop-k.one) (g.T.Tapes.rack c.loop-k.other)
    (g.met.T.Tapes.well_formed c.args.one.now) (g.met.T.Tapes.well_formed c.args.other.now) c.requires c.length_of-len.ensures c.length_of-beside.ensures which so_far
