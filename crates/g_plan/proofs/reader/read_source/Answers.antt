use Rattle.std.proofs.Common.{List, subst, sym, ℕ}
use Rattle.g_lines.specs.Lines.{lines_of}
use Rattle.g_plan.proofs.SourceLemmas.{ReadSoFar, read-all, read-next, read-none}
use Rattle.g_plan.proofs.reader.read_source.Goals as goal

pub loop-line-init : goal.loop-line-init
loop-line-init c =
    subst (λ (ls : List (List ℕ)). ReadSoFar (lines_of c.args.text.now) ls c.new-reader.result) (sym c.new-lines.ensures)
    (read-none (lines_of c.args.text.now) c.new-reader.result c.new-reader.ensures)

pub loop-line-preserved : goal.loop-line-preserved
loop-line-preserved c =
    read-next (lines_of c.args.text.now) c.loop-line.lines c.next.new.self c.in-Some.line.now c.loop-line.reader c.in_ok-reader.reader c.loop-line.invariant
    c.in-Some.ensures.line c.in_ok-reader.ensures

pub returns : goal.returns
returns c = read-all (lines_of c.args.text.now) c.loop-line.lines c.loop-line.reader c.loop-line.invariant c.in_default.ensures.line
