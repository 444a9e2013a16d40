use Rattle.std.proofs.Common.{◌≡◌, ◌∙◌, ◌<◌, ◌^◌, ap, arith, rules}
use Rattle.g_order.specs.Order.{decoded, word_of}
use Rattle.g_order.specs.Coding.{fields}
use Rattle.g_order.proofs.CodingLaws.{word_fits, decoded-word_of}
use Rattle.g_order.proofs.coding.encode.Goals as goal

pub unreachable-requires : goal.unreachable-requires
unreachable-requires c =
    let o = fields c.args.order.now in
    let small : word_of o < 2 ^ 24 = word_fits o c.args.order.now.in_table in
    grind (arith, small)

pub returns-clause-read : goal.returns-clause-read
returns-clause-read c =
    let o = fields c.args.order.now in
    let value : c.in-Some.word ≡ word_of o = search rules in
    ap decoded value ∙ decoded-word_of o c.args.order.now.in_table
