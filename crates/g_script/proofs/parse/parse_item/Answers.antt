use Rattle.std.proofs.Common.{List, Option, None, Some, [], ap, arith, length, subst, sym, ℕ, ◌∙◌}
use Rattle.std.proofs.lemmas.Bool.{false≢true}
use Rattle.g_lines.proofs.DocumentLemmas.{lines_few}
use Rattle.g_lines.specs.Lines.{lines_of}
use Rattle.g_script.proofs.OnlyLemmas.{bad_alone, none_alone, taken_alone, taken_more}
use Rattle.g_script.specs.Reading.{IsTaken}
use Rattle.g_script.specs.Script.{IsOneItem, Say}
use Rattle.g_script.proofs.parse.parse_item.Goals as goal

pub returns-in_default : goal.returns-in_default
returns-in_default c = none_alone _ (sym c.new-lines.ensures ∙ c.in_default.ensures.line)

pub read_item-requires : goal.read_item-requires
read_item-requires c =
    let few = lines_few c.args.bytes.now in
    let long = ap length (sym c.new-lines.ensures ∙ c.in-Some.ensures.line) in
    omega (arith, few, long, c.type_inv.bytes)

pub returns-then-is_empty : goal.returns-then-is_empty
returns-then-is_empty c =
    let all = sym c.new-lines.ensures ∙ c.in-Some.ensures.line in
    let taken = subst (λ (ls : List (List ℕ)). IsTaken ls c.read_item.new.lines c.in-Taken.next c.in-Taken._count) (sym all) (rw c.in-Taken.is at c.in_ok-next.ensures) in
    taken_alone _ _ _ _ taken (c.is_empty.ensures.0 c.if-is_empty.true)

pub returns-else-is_empty : goal.returns-else-is_empty
returns-else-is_empty c =
    let all = sym c.new-lines.ensures ∙ c.in-Some.ensures.line in
    let taken = subst (λ (ls : List (List ℕ)). IsTaken ls c.read_item.new.lines c.in-Taken.next c.in-Taken._count) (sym all) (rw c.in-Taken.is at c.in_ok-next.ensures) in
    taken_more _ _ _ _ taken (λ none. false≢true (sym c.if-is_empty.false ∙ c.is_empty.ensures.1 none))

pub returns-in-BadAt : goal.returns-in-BadAt
returns-in-BadAt c =
    let all = sym c.new-lines.ensures ∙ c.in-Some.ensures.line in
    bad_alone _ c.in-BadAt._place (subst (λ (ls : List (List ℕ)). Say 1 ls [] (Some c.in-BadAt._place)) (sym all) (rw c.in-BadAt.is at c.in_ok-next.ensures))
