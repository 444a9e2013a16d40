use Rattle.std.proofs.Common.{arith}
use Rattle.g_word.proofs.Places.{with_character_fits}
use Rattle.g_word.proofs.words.Word.with_char.Goals as goal

pub overflow_add-result : goal.overflow_add-result
overflow_add-result c =
    let bits = c.self.inside.bits in
    let fits = with_character_fits bits c.args.position c.args.code c.self.invariant c.requires.in_word c.requires.is_code in
    rw (c.from-2.ensures, c.from-3.ensures, c.from.ensures, c.char_at.ensures.value, ← c.self.view_is) (omega (arith, fits))

pub invariant_of-result : goal.invariant_of-result
invariant_of-result c =
    rw (c.from-2.ensures, c.from-3.ensures, c.from.ensures, c.char_at.ensures.value, ← c.self.view_is) (with_character_fits c.self.inside.bits c.args.position c.args.code c.self.invariant c.requires.in_word c.requires.is_code)
