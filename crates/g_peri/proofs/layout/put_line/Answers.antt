use Rattle.std.proofs.Common.{◌≡◌, ◌+◌, ◌*◌, length-set, sym, ap, ◌∙◌, arith}
use Rattle.std.specs.Prelude.{slice_set}
use Rattle.g_mill.specs.Machine.{words_for, Machine}
use Rattle.g_peri.specs.Layout.{packed}
use Rattle.g_peri.proofs.LayoutLaws.{with_words_next}
use Rattle.g_peri.proofs.layout.put_line.Goals as goal

pub loop-j-preserved : goal.loop-j-preserved
loop-j-preserved c =
    let line = c.args.line.now in
    let count = c.args.count in
    let before = c.loop-j.program in
    let after = slice_set before.words (c.args.from + c.loop-j.j) (packed line count (4 * c.loop-j.j)) in
    let same : record before { words = after } ≡ record c.args.program.now { words = after } = ap (λ (p : Machine). record p { words = after }) c.loop-j.invariant.1 in
    let next = with_words_next before.words c.args.from c.loop-j.j (words_for count) (λ j. packed line count (4 * j)) (omega arith) in
    rw (c.set_word.ensures, c.packed.ensures, c.from-in-loop-j.ensures) (length-set before.words (c.args.from + c.loop-j.j) (packed line count (4 * c.loop-j.j)) ∙ c.loop-j.invariant.0, same, sym next ∙ c.loop-j.invariant.2)
