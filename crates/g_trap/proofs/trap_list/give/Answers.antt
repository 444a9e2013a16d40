-- A user with modes has a pair at the place; a user without modes has no pair, and the place is where it would fit.
use Rattle.std.proofs.Common.{◌≡◌, ◌≤◌, arith, ◌∙◌, sym, true≢false, refl, length, set, get_or, None}
use Rattle.std.specs.List.{length_refill}
use Rattle.std.specs.Ordering.{nat_cmp}
use Rattle.std.specs.FinMap.{find}
use Rattle.std.proofs.lemmas.Bool.Decides.{nat_tests}
use Rattle.g_trap.specs.TrapList.{with_other}
use Rattle.g_trap.specs.Places.{StandsAt, FitsAt}
use Rattle.g_trap.proofs.Places.{stands_in, fits_in, found, absent, dropped_there, stays_absent, placed_absent, written_there, with_other-IsOthers}
use Rattle.g_trap.proofs.trap_list.give.Goals as goal

pub returns-then-is_full-clause-full : goal.returns-then-is_full-clause-full
returns-then-is_full-clause-full c =
    let fits : FitsAt c.args.user c.args.others.now.items c.in-Err-false.place = fits_in _ _ _ _ c.deref.ensures.0 c.in-Err-false.ensures.absent in
    let none : find nat_cmp c.args.user c.args.others.now.items ≡ None = absent _ _ _ fits in
    let some = c.in-Err-false.ensures'.value in
    let full = c.is_full.ensures.value in
    (λ _. grind (arith, nat_tests), λ _. refl)

pub returns-in-Ok-true-clause-ok : goal.returns-in-Ok-true-clause-ok
returns-in-Ok-true-clause-ok c =
    let at : StandsAt c.args.user c.args.others.now.items c.in-Ok-true.place = stands_in _ _ _ _ c.deref.ensures.0 c.in-Ok-true.ensures.found in
    c.remove.ensures.items ∙ dropped_there _ _ _ _ c.requires.rising at c.in-Ok-true.ensures'.value

pub returns-in-Ok-true-clause-kept : goal.returns-in-Ok-true-clause-kept
returns-in-Ok-true-clause-kept c =
    let at : StandsAt c.args.user c.args.others.now.items c.in-Ok-true.place = stands_in _ _ _ _ c.deref.ensures.0 c.in-Ok-true.ensures.found in
    let is : c.remove.new.self.items ≡ with_other c.args.others.now.items c.args.user c.args.modes =
    c.remove.ensures.items ∙ dropped_there _ _ _ _ c.requires.rising at c.in-Ok-true.ensures'.value in
    with_other-IsOthers _ _ _ _ is c.requires c.is_empty.ensures.below (omega arith)

pub returns-in-Err-true-clause-ok : goal.returns-in-Err-true-clause-ok
returns-in-Err-true-clause-ok c =
    let fits : FitsAt c.args.user c.args.others.now.items c.in-Err-true.field-0-0 = fits_in _ _ _ _ c.deref.ensures.0 c.in-Err-true.ensures.absent in
    stays_absent _ _ _ _ fits c.in-Err-true.ensures'.value

pub returns-else-is_full-clause-ok : goal.returns-else-is_full-clause-ok
returns-else-is_full-clause-ok c =
    let fits : FitsAt c.args.user c.args.others.now.items c.in-Err-false.place = fits_in _ _ _ _ c.deref.ensures.0 c.in-Err-false.ensures.absent in
    c.insert.ensures.items ∙ placed_absent _ _ _ _ fits c.in-Err-false.ensures'.value

pub returns-else-is_full-clause-kept : goal.returns-else-is_full-clause-kept
returns-else-is_full-clause-kept c =
    let fits : FitsAt c.args.user c.args.others.now.items c.in-Err-false.place = fits_in _ _ _ _ c.deref.ensures.0 c.in-Err-false.ensures.absent in
    let is : c.insert.new.self.items ≡ with_other c.args.others.now.items c.args.user c.args.modes =
    c.insert.ensures.items ∙ placed_absent _ _ _ _ fits c.in-Err-false.ensures'.value in
    let room : length c.args.others.now.items ≤ 7 = grind (arith, nat_tests, c.is_full.ensures.value) in
    with_other-IsOthers _ _ _ _ is c.requires c.is_empty.ensures.below (omega arith)

pub returns-in-Ok-false-clause-full : goal.returns-in-Ok-false-clause-full
returns-in-Ok-false-clause-full c =
    let at : StandsAt c.args.user c.args.others.now.items c.in-Ok-false.place = stands_in _ _ _ _ c.deref.ensures.0 c.in-Ok-false.ensures.found in
    let there = found c.args.others.now.items c.args.user c.in-Ok-false.place (0, 0) c.requires.rising at in
    (λ e. absurd (true≢false (sym e)), λ e. grind (arith, nat_tests))

pub returns-in-Ok-false-clause-ok : goal.returns-in-Ok-false-clause-ok
returns-in-Ok-false-clause-ok c =
    let at : StandsAt c.args.user c.args.others.now.items c.in-Ok-false.place = stands_in _ _ _ _ c.deref.ensures.0 c.in-Ok-false.ensures.found in
    written_there _ _ _ _ _ _ c.requires.rising at c.deref_mut.ensures.value c.in-Ok-false.ensures'.value

pub returns-in-Ok-false-clause-kept : goal.returns-in-Ok-false-clause-kept
returns-in-Ok-false-clause-kept c =
    let at : StandsAt c.args.user c.args.others.now.items c.in-Ok-false.place = stands_in _ _ _ _ c.deref.ensures.0 c.in-Ok-false.ensures.found in
    with_other-IsOthers _ _ _ _ (written_there _ _ _ _ _ _ c.requires.rising at c.deref_mut.ensures.value c.in-Ok-false.ensures'.value) c.requires c.is_empty.ensures.below
    (omega (arith, length_refill (length c.args.others.now.items) c.args.others.now.items (set c.deref_mut.result.now c.in-Ok-false.place ((get_or c.deref_mut.result.now c.in-Ok-false.place c.index-deref_mut-place.result).0, c.args.modes)) refl))
