use Rattle.std.proofs.Common.{arith, get_or, length, rules, ◌≡◌, ◌≤◌}
use Rattle.g_verbs.proofs.ParamLemmas.{digit_unit-is}
use Rattle.g_verbs.proofs.parameter.digit_unit.Goals as goal

pub returns-in-len1 : goal.returns-in-len1
returns-in-len1 c =
    let one : length c.args.text.now ≡ 1 = omega (arith, c.in-len1.len_at_least, c.in-len1.len_below) in
    let low : 48 ≤ get_or c.args.text.now 0 0 = search rules in
    let high : get_or c.args.text.now 0 0 ≤ 55 = search rules in
    digit_unit-is c.args.kind c.args.text.now _ one low high
