-- All lower numbers are taken: those of the groups before, and those of its own group.
use Rattle.std.proofs.Common.{◌≡◌, ◌≤◌, ◌<◌, ◌*◌, ℕ, Option, get_or, length, true, refl, subst, sym, ap, arith, ◌∙◌}
use Rattle.std.specs.Prelude.{is_some}
use Rattle.g_table.specs.Table.{AreTaken, item_at, standing_at}
use Rattle.g_table.proofs.TableLemmas.{Items, count_present, item_listed}
use Rattle.g_table.proofs.PlaceLemmas.{all_used, free_below, lower_taken}
use Rattle.g_table.proofs.number_table.NumberTable.free.Goals as goal

pub returns-then-group-clause-unused : goal.returns-then-group-clause-unused
returns-then-group-clause-unused g c =
    let places = c.self.inside.places.items in
    let group = c.open_group-group.result in
    let test = c.if-group.true in
    let groups = c.self.invariant.groups in
    let size = c.self.invariant.size in
    let lent = c.deref-then-group.ensures.value in
    let many = ap length lent in
    let within = c.first_gap.ensures.within in
    let used = ap length c.deref.ensures.value in
    let taken : AreTaken (32 * group) c.first_gap.result places = λ k low less. subst (λ l. is_some (standing_at l k) ≡ true) lent (c.first_gap.ensures.taken k (omega (arith, low)) less) in
    let below = free_below places c.self.inside.end c.self.inside.used.items c.self.inside.count c.self.invariant group (λ k less. subst (λ l. 32 ≤ get_or l k 0) c.deref.ensures.value (c.open_group-group.ensures.full k less))
    c.first_gap.result test (subst (λ l. get_or l group 0 < 32) c.deref.ensures.value (c.open_group-group.ensures.open (omega (arith, test, groups, used)))) (omega (arith, within, many, size)) taken in (
      below,
      ap (λ items. item_at items c.first_gap.result) (sym c.self.view_is) ∙ item_listed places c.first_gap.result
          ∙ ap (λ l. standing_at l c.first_gap.result) (sym lent) ∙ c.first_gap.ensures.gap (omega (arith, below, many, size)),
    )

pub returns-then-group-clause-least : goal.returns-then-group-clause-least
returns-then-group-clause-least g c = λ lower less.
    let places = c.self.inside.places.items in
    let group = c.open_group-group.result in
    let test = c.if-group.true in
    let lent = c.deref-then-group.ensures.value in
    let taken : AreTaken (32 * group) c.first_gap.result places = λ k low before. subst (λ l. is_some (standing_at l k) ≡ true) lent (c.first_gap.ensures.taken k (omega (arith, low)) before) in
    ap (λ items. is_some (item_at items lower)) (sym c.self.view_is) ∙ ap is_some (item_listed places lower)
    ∙ lower_taken places c.self.inside.end c.self.inside.used.items c.self.inside.count c.self.invariant group (λ k before. subst (λ l. 32 ≤ get_or l k 0) c.deref.ensures.value (c.open_group-group.ensures.full k before)) c.first_gap.result (omega (arith, test)) taken lower (omega arith) less

pub returns-else-group-clause-none : goal.returns-else-group-clause-none
returns-else-group-clause-none g c =
    let past = c.if-group.false in
    let within = c.open_group-group.ensures.within in
    let groups = c.self.invariant.groups in
    let used = ap length c.deref.ensures.value in
    ap length (sym c.self.view_is) ∙ count_present 0 c.self.inside.places.items
    ∙ all_used c.self.inside.places.items c.self.inside.end c.self.inside.used.items c.self.inside.count c.self.invariant c.open_group-group.result (λ k less. subst (λ l. 32 ≤ get_or l k 0) c.deref.ensures.value (c.open_group-group.ensures.full k less)) (omega (arith, past, within, used, groups))
