use Rattle.std.proofs.Common.{◌++◌, Some, None, sym, ◌∙◌, arith, append_assoc}
use Rattle.std.specs.Fmt.{decimal}
use Rattle.std.proofs.lemmas.Bool.Decides.{Decides-eqb}
use Rattle.std.proofs.lemmas.Option.{same_Some}
use Rattle.std.proofs.lemmas.Slice.Eq.{strip_prefix_is}
use Rattle.g_seal.proofs.FieldLemmas.{after_words, not_none, number_there, plain_number}
use Rattle.g_seal.proofs.line_reader.field.Goals as goal

pub returns-in_err-strip_prefix-clause-read : goal.returns-in_err-strip_prefix-clause-read
returns-in_err-strip_prefix-clause-read c = λ n rest fits after is.
    let other = strip_prefix_is Decides-eqb c.args.text.now c.args.words.now None c.in_err-strip_prefix.ensures.cases in
    absurd (other (decimal n ++ rest) (is ∙ append_assoc c.args.words.now (decimal n) rest))

pub returns-in_err-number-clause-read : goal.returns-in_err-number-clause-read
returns-in_err-number-clause-read c = λ n rest fits after is.
    let begins = strip_prefix_is Decides-eqb c.args.text.now c.args.words.now (Some c.in_ok-strip_prefix.field-0) c.in_ok-strip_prefix.ensures.cases in
    let parts = c.word.ensures (decimal n) rest (plain_number n fits) after (after_words c.args.text.now c.args.words.now n rest _ begins is) in
    absurd (not_none _ n c.in_err-number.was (number_there 18446744073709551615 n _ c.number.result (omega arith) (omega (arith, fits)) parts.0 c.number.ensures))

pub returns-clause-read : goal.returns-clause-read
returns-clause-read c = λ n rest fits after is.
    let begins = strip_prefix_is Decides-eqb c.args.text.now c.args.words.now (Some c.in_ok-strip_prefix.field-0) c.in_ok-strip_prefix.ensures.cases in
    let parts = c.word.ensures (decimal n) rest (plain_number n fits) after (after_words c.args.text.now c.args.words.now n rest _ begins is) in
    let there = number_there 18446744073709551615 n _ c.number.result (omega arith) (omega (arith, fits)) parts.0 c.number.ensures in
    (same_Some c.in_ok-number.field-0 n (sym c.in_ok-number.was ∙ there), parts.1)

pub returns-clause-begins : goal.returns-clause-begins
returns-clause-begins c = (c.in_ok-strip_prefix.field-0.now, strip_prefix_is Decides-eqb c.args.text.now c.args.words.now (Some c.in_ok-strip_prefix.field-0) c.in_ok-strip_prefix.ensures.cases)
