use Rattle.std.proofs.Common.{List, ℕ, ◌≡◌, ◌<◌, ◌-◌, ◌+◌, ◌∙◌, sym, arith, length, take, drop, length-drop}
use Rattle.std.proofs.lemmas.List.{take_all, drop_all}
use Rattle.std.proofs.lemmas.Bool.{eqb-false}
use Rattle.g_mill.proofs.LineLaws.{NoneBefore, first_line, only_line, suffix_of}
use Rattle.g_mill.proofs.lines.split_line.Goals as goal

-- the bytes after a place are the whole rest of the text
all_behind : (text : List ℕ) (end : ℕ) → take (length text - (end + 1)) (drop (end + 1) text) ≡ drop (end + 1) text
all_behind text end = take_all (length text - (end + 1)) (drop (end + 1) text) (omega (arith, length-drop (end + 1) text))

pub returns-then-byte-eq10-clause-lines : goal.returns-then-byte-eq10-clause-lines
returns-then-byte-eq10-clause-lines c =
    rw (all_behind c.args.text.now c.loop-i.i) (first_line c.args.text.now c.loop-i.i (omega arith) c.loop-i.invariant c.if-byte-eq10.true)

pub returns-else-is_empty-clause-lines : goal.returns-else-is_empty-clause-lines
returns-else-is_empty-clause-lines c =
    let text = c.args.text.now in
    let apart = eqb-false (length text) 0 (sym c.is_empty.ensures ∙ c.if-is_empty.false) in
    let some : 0 < length text = omega arith in
    let none : NoneBefore text (length text) = λ k below. c.loop-i.invariant k (omega arith) in
    let whole = take_all (length text) text (omega arith) in
    let nothing = drop_all (length text) text (omega arith) in
    rw (c.split_at.ensures.front, c.split_at.ensures.back, whole, nothing) (only_line text some none)

pub returns-then-byte-eq10-clause-suffix : goal.returns-then-byte-eq10-clause-suffix
returns-then-byte-eq10-clause-suffix c = rw (all_behind c.args.text.now c.loop-i.i) (suffix_of c.args.text.now (c.loop-i.i + 1) (omega arith))

pub returns-else-is_empty-clause-suffix : goal.returns-else-is_empty-clause-suffix
returns-else-is_empty-clause-suffix c =
    let text = c.args.text.now in
    rw c.split_at.ensures.back (suffix_of text (length text) (omega arith))
