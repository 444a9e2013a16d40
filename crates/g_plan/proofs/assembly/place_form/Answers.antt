use Rattle.std.proofs.Common.{ap, refl, sym, ℕ, ◌∙◌}
use Rattle.std.specs.Prelude.{nat_lt}
use Rattle.g_plan.specs.declared.form.Form.TheVariants.{At, Chars, Order, Word}
use Rattle.g_plan.proofs.PlaceLemmas.{at-put, chars-put, form-moved, order-put, word-put}
use Rattle.g_plan.proofs.assembly.place_form.Goals as goal

pub returns-in-Word : goal.returns-in-Word
returns-in-Word c =
    let all = c.args.source.now in
    let old = c.args.image.now in
    form-moved all c.args.size c.args.place c.from-place.result c.args.form.now (Word c.in-Word.value) old c.put_one.new.self c.put_one.result c.from-place.ensures c.in-Word.is
    (word-put all c.args.size c.from-place.result c.in-Word.value old c.put_one.new.self c.put_one.result c.word_for.result c.word_for.ensures c.put_one.ensures)

pub returns-in-Order : goal.returns-in-Order
returns-in-Order c =
    let all = c.args.source.now in
    let old = c.args.image.now in
    form-moved all c.args.size c.args.place c.from-place.result c.args.form.now (Order c.in-Order.name c.in-Order.x c.in-Order.m c.in-Order.value) old c.put_one-in-Order.new.self c.put_one-in-Order.result
    c.from-place.ensures c.in-Order.is
    (order-put all c.args.size c.from-place.result c.in-Order.name c.in-Order.x c.in-Order.m c.in-Order.value old c.put_one-in-Order.new.self c.put_one-in-Order.result c.order_for.result c.order_for.ensures c.put_one-in-Order.ensures)

pub returns-in-Chars : goal.returns-in-Chars
returns-in-Chars c =
    let all = c.args.source.now in
    let old = c.args.image.now in
    form-moved all c.args.size c.args.place c.from-place.result c.args.form.now (Chars c.as_slice.result.now) old c.put_chars.new.self c.put_chars.result c.from-place.ensures
    (c.in-Chars.is ∙ ap Chars (sym c.as_slice.ensures.text))
    (chars-put all c.args.size c.from-place.result c.as_slice.result.now old c.put_chars.new.self c.put_chars.result c.put_chars.ensures)

pub returns-in-At : goal.returns-in-At
returns-in-At c =
    let all = c.args.source.now in
    form-moved all c.args.size c.args.place c.args.place c.args.form.now (At c.in-At.to) c.args.image.now c.args.image.now _ refl c.in-At.is
    (at-put all c.args.size c.args.place c.in-At.to c.args.image.now _ (ap (λ (k : ℕ). nat_lt k c.args.size) c.from.ensures))
