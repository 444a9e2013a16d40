use Rattle.std.proofs.Common.{◌≤◌, ◌^◌, arith}
use Rattle.std.proofs.Math.Nat.{pow-le-pow_right}
use Rattle.g_mill.proofs.loading.word_of_line.Goals as goal

pub overflow_mul-bits : goal.overflow_mul-bits
overflow_mul-bits c =
    let most : 8 ^ c.loop-digit.digit-index ≤ 8 ^ 7 = (let index : c.loop-digit.digit-index ≤ 7 = omega arith in pow-le-pow_right (omega arith) index) in
    omega arith

pub overflow_add-bits : goal.overflow_add-bits
overflow_add-bits c =
    let most : 8 ^ c.loop-digit.digit-index ≤ 8 ^ 7 = (let index : c.loop-digit.digit-index ≤ 7 = omega arith in pow-le-pow_right (omega arith) index) in
    omega arith
