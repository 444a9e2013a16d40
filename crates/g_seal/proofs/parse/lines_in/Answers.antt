use Rattle.std.proofs.Common.{◌∙◌, ap, List, ℕ, ◌++◌, arith}
use Rattle.g_lines.specs.Lines.{lines_of}
use Rattle.g_seal.specs.SealText.{sealed_lines}
use Rattle.g_seal.proofs.EntryLemmas.{counted_one, unknown_at}
use Rattle.g_seal.proofs.parse.lines_in.Goals as goal

pub returns-in-Ok-false-clause-refused : goal.returns-in-Ok-false-clause-refused
returns-in-Ok-false-clause-refused c = λ text ends.
    let front = c.args.front.now in
    let seal = c.loop-line.seal in
    let rest = c.next.new.self in
    let line = c.in-Some.line.now in
    let are = c.loop-line.invariant.lines_are ∙ ap (λ (ls : List (List ℕ)). sealed_lines seal.dumps.items seal.files.items ++ ls) c.in-Some.ensures.line in
    let counted = counted_one front rest line _ c.loop-line.count c.saturating_add-count.result are c.loop-line.invariant.counted (omega arith) c.saturating_add-count.ensures in
    let unknown = c.in-Ok-false.ensures.unknown c.in-Ok-false.field-0-test in
    (front, ends, unknown_at (lines_of front) rest line c.saturating_add-count.result seal.dumps.items seal.files.items are c.loop-line.invariant.entries counted unknown)
