use Rattle.std.proofs.lemmas.Bool.{both_ways}
use Rattle.g_lines.proofs.NumberLemmas.{number-found, number-parse, number-plain, number-utf8}
use Rattle.g_lines.proofs.numbers.number.Goals as goal

pub returns-then-not-begins_plainly : goal.returns-then-not-begins_plainly
returns-then-not-begins_plainly c =
    number-plain c.args.most c.ranges.most.fits c.args.digits.now (λ plain. both_ways _ c.if-not-begins_plainly.true (c.begins_plainly.ensures.1 plain))

pub returns-in_default : goal.returns-in_default
returns-in_default c = number-utf8 c.args.most c.ranges.most.fits c.args.digits.now c.in_default.ensures.cases.0

pub returns-in_default-parse : goal.returns-in_default-parse
returns-in_default-parse c =
    number-parse c.args.most c.ranges.most.fits c.args.digits.now _ _ _ c.in-Ok.ensures.cases.0 c.parse.ensures.value.0 c.in_default-parse.is

pub returns-then-number-most : goal.returns-then-number-most
returns-then-number-most c =
    number-found c.args.most c.ranges.most.fits c.args.digits.now _ _ _ c.in-Ok.ensures.cases.0 c.parse.ensures.value.0 c.in-Ok-parse.is
    (c.begins_plainly.ensures.0 c.if-not-begins_plainly.false) c.if-number-most.true
