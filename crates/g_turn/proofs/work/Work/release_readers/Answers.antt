use Rattle.std.proofs.Common.{◌≡◌, arith, length, sym, subst}
use Rattle.g_turn.specs.State.{Work}
use Rattle.g_turn.proofs.UnitsLemmas.{all_emptied, emptied_more}
use Rattle.g_turn.proofs.work.Work.release_readers.Goals as goal

pub loop-number-preserved : goal.loop-number-preserved
loop-number-preserved c =
    let more = emptied_more c.loop-number.number c.args.self.now c.loop-number.self c.release_reader.new.self c.loop-number-test.true c.loop-number.invariant.is
    c.release_reader.ensures.ok c.release_reader.ensures.sizes.0 c.release_reader.ensures.sizes.1 in
    record { is = more.0; places = λ _. (more.1, more.2) }

pub returns-clause-ok : goal.returns-clause-ok
returns-clause-ok c =
    all_emptied c.loop-number.number c.args.self.now c.loop-number.self (omega arith) c.loop-number.invariant.is (c.loop-number.invariant.places (omega arith)).0

pub returns-clause-sizes : goal.returns-clause-sizes
returns-clause-sizes c =
    subst (λ (y : Work). length y.desk.units.writers ≡ 16) (sym c.loop-number.invariant.is) (c.loop-number.invariant.places (omega arith)).1
