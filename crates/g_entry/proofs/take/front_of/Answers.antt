use Rattle.std.proofs.Common.{◌≡◌, ℕ, length, take, ap, ◌∙◌, arith}
use Rattle.g_entry.proofs.FieldLemmas.{front_again}
use Rattle.g_entry.proofs.take.front_of.Goals as goal

pub returns : goal.returns
returns c = λ bytes within len is.
    let count : c.min.result ≡ length bytes = omega arith in
    ap (λ (n : ℕ). take n c.args.field.now) count ∙ front_again bytes c.args.field.now is
