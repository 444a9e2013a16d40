use Rattle.std.proofs.Common.{ℕ, ◌<◌, ◌≤◌, ◌+◌, List, length, min, refl, sym, subst, arith}
use Rattle.g_entry.proofs.FieldLemmas.{PairsSo, set_there, pairs_none, pairs_more}
use Rattle.g_entry.proofs.take.pairs_of.Goals as goal

pub loop-pair-init : goal.loop-pair-init
loop-pair-init c =
    subst (λ (left : List ℕ). PairsSo c.args.count c.args.field.now 0 left c.new-pairs.result.items) (sym c.new-reader.ensures)
    (subst (λ (taken : List (ℕ × ℕ)). PairsSo c.args.count c.args.field.now 0 c.args.field.now taken) (sym c.new-pairs.ensures)
    (pairs_none c.args.count c.args.field.now c.requires))

pub returns-in_err-modes : goal.returns-in_err-modes
returns-in_err-modes c = λ pairs few sets count field.
    let inside : c.loop-pair._pair < length pairs = omega arith in
    let below : c.take_u8.result < 32 =
    set_there c.args.count c.args.field.now c.loop-pair._pair c.loop-pair.reader c.take_u8-user.new.self c.take_u8.new.self c.loop-pair.pairs.items c.take_u8-user.result c.take_u8.result
    c.loop-pair.invariant c.take_u8-user.ensures c.take_u8.ensures pairs (record { few = few; sets = sets; count_is = count; field_is = field }) inside in
    let above : 32 ≤ c.take_u8.result = c.in_err-modes.ensures.none.0 refl in
    absurd (omega (arith, below, above))

pub loop-pair-preserved : goal.loop-pair-preserved
loop-pair-preserved c =
    let inside : c.loop-pair._pair < min c.args.count 8 = omega arith in
    subst (λ (taken : List (ℕ × ℕ)). PairsSo c.args.count c.args.field.now (c.loop-pair._pair + 1) c.take_u8.new.self taken) (sym c.push.ensures.items)
    (pairs_more c.args.count c.args.field.now c.loop-pair._pair c.loop-pair.reader c.take_u8-user.new.self c.take_u8.new.self c.loop-pair.pairs.items c.take_u8-user.result c.take_u8.result c.in_ok-modes.modes
    c.loop-pair.invariant c.take_u8-user.ensures c.take_u8.ensures c.in_ok-modes.ensures.some inside)
