use Rattle.std.proofs.Common.{◌++◌, Some, sym, ◌∙◌}
use Rattle.std.specs.Prelude.{codes}
use Rattle.std.proofs.lemmas.Bool.Decides.{Decides-eqb}
use Rattle.std.proofs.lemmas.List.{append_cancel_left}
use Rattle.std.proofs.lemmas.Slice.Eq.{strip_prefix_is}
use Rattle.hex.specs.Hex.{encode_lower}
use Rattle.g_seal.proofs.FieldLemmas.{not_ok, plain_hex, sum_read, sum_there}
use Rattle.g_seal.proofs.line_reader.sum_field.Goals as goal

pub returns-in-Ok-clause-sum : goal.returns-in-Ok-clause-sum
returns-in-Ok-clause-sum c = sum_there c.word.result.0.now c.decode_to_slice.new.out c.decode_to_slice.result c.decode_to_slice.ensures.value c.in-Ok.is

pub returns-in-Ok-clause-read : goal.returns-in-Ok-clause-read
returns-in-Ok-clause-read c = λ sum rest is_sum after is.
    let begins = strip_prefix_is Decides-eqb c.args.text.now (codes "SHA256 ") (Some c.in_ok-strip_prefix.field-0) c.in_ok-strip_prefix.ensures.cases in
    let parts = c.word.ensures (encode_lower sum) rest (plain_hex sum is_sum) after (append_cancel_left (codes "SHA256 ") _ (encode_lower sum ++ rest) (sym begins ∙ is)) in
    ((sum_read c.word.result.0.now sum c.decode_to_slice.new.out c.decode_to_slice.result is_sum parts.0 c.decode_to_slice.ensures.value).1, parts.1)

pub returns-in-Err-clause-read : goal.returns-in-Err-clause-read
returns-in-Err-clause-read c = λ sum rest is_sum after is.
    let begins = strip_prefix_is Decides-eqb c.args.text.now (codes "SHA256 ") (Some c.in_ok-strip_prefix.field-0) c.in_ok-strip_prefix.ensures.cases in
    let parts = c.word.ensures (encode_lower sum) rest (plain_hex sum is_sum) after (append_cancel_left (codes "SHA256 ") _ (encode_lower sum ++ rest) (sym begins ∙ is)) in
    not_ok c.decode_to_slice.result c.in-Err.field-0 (sum_read c.word.result.0.now sum c.decode_to_slice.new.out c.decode_to_slice.result is_sum parts.0 c.decode_to_slice.ensures.value).0 c.in-Err.is
