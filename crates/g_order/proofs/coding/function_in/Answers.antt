use Rattle.std.proofs.Common.{◌≡◌, ◌/◌, ◌%◌, ◌^◌, ◌∙◌, ap, ℕ}
use Rattle.g_order.specs.Order.{fields_of, function_number}
use Rattle.g_order.specs.Table.{function_of}
use Rattle.g_order.proofs.CodingLaws.{number_of_word, x_of_word}
use Rattle.g_order.proofs.coding.function_in.Goals as goal

pub returns : goal.returns
returns c =
    c.function_at.ensures
    ∙ ap (λ (w : ℕ). function_of (function_number (w / 2 ^ 14 % 2 ^ 7)) (w / 2 ^ 21)) c.value-bits.ensures.value
    ∙ ap (λ (f : ℕ). function_of f (c.args.word / 2 ^ 21)) (number_of_word c.args.word)
    ∙ ap (function_of (fields_of c.args.word).f) (x_of_word c.args.word)
