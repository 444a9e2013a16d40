use Rattle.std.proofs.Common.{◌≡◌, ℕ, ◌+◌, arith, sym, subst}
use Rattle.std.proofs.lemmas.Bool.{eq-eqb, eqb-true, false≢true}
use Rattle.g_base.specs.Block.{blocks_for}
use Rattle.g_incr.specs.Records.{content_from, content_to}
use Rattle.g_incr.proofs.RuleLemmas.{HaveFollowed, all_followed, breaks, few_blocks, follows, moved}
use Rattle.g_incr.proofs.rules.follow_on.Goals as goal

pub returns-then-first-at : goal.returns-then-first-at
returns-then-first-at c =
    let n = c.args.n.now in
    let files = c.args.files.now in
    let from = c.from.result + 1 + c.from-2.result + c.from-3.result in
    let to = c.from-4.result + 1 + c.from-5.result in
    let from_is : from ≡ content_from n = omega arith in
    let to_is : to ≡ content_to n = omega arith in (
      λ tells. absurd (false≢true tells),
      λ on. absurd (breaks c.args.serial from to files c.loop-r.r-index c.loop-r.at c.r-item.result c.loop-r-test.true c.r-item.is c.loop-r.invariant c.in-Some.ensures.0
          (λ placed. c.if-first-at.true ((c.in-Some.ensures.1 c.loop-r.at).0 placed)) (moved c.args.serial files (content_from n) from (content_to n) to (sym from_is) (sym to_is) on)),
    )

pub returns : goal.returns
returns c =
    let n = c.args.n.now in
    let files = c.args.files.now in
    let from = c.from.result + 1 + c.from-2.result + c.from-3.result in
    let to = c.from-4.result + 1 + c.from-5.result in
    let from_is : from ≡ content_from n = omega arith in
    let to_is : to ≡ content_to n = omega arith in
    let ends = all_followed c.args.serial from to files c.loop-r.r-index c.loop-r.at (omega arith) c.loop-r.invariant in (
      λ tells. moved c.args.serial files from (content_from n) to (content_to n) from_is to_is (ends.0 (eqb-true c.loop-r.at to tells)),
      λ on. eq-eqb c.loop-r.at to (ends.1 (moved c.args.serial files (content_from n) from (content_to n) to (sym from_is) (sym to_is) on)),
    )

pub loop-r-preserved : goal.loop-r-preserved
loop-r-preserved c =
    let r = c.r-item.result in
    let i = c.loop-r.r-index in
    let at = c.loop-r.at in
    let files = c.args.files.now in
    let from = c.from.result + 1 + c.from-2.result + c.from-3.result in
    let to = c.from-4.result + 1 + c.from-5.result in
    let few = few_blocks files i r c.loop-r-test.true c.r-item.is c.requires.each in
    let placed = (c.in-Some.ensures.1 at).1 c.if-first-at.false in
    subst (λ (m : ℕ). HaveFollowed c.args.serial from to files (i + 1) m) (let sum : at + blocks_for r.len ≡ at + c.from-at.result = omega arith in sum)
    (follows c.args.serial from to files i at r c.loop-r-test.true c.r-item.is c.loop-r.invariant c.in-Some.ensures.0 placed few)
