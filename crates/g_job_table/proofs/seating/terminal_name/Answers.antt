-- A terminal's number is one digit.
use Rattle.std.proofs.Common.{List, ap, arith, sym, ◌∙◌, ◌∷◌, ℕ}
use Rattle.std.proofs.lemmas.Fmt.{decimal_digit}
use Rattle.g_job_table.proofs.seating.terminal_name.Goals as goal

pub returns : goal.returns
returns c = c.in-Some.ensures.value ∙ ap (λ (digits : List ℕ). 77 ∷ 79 ∷ 80 ∷ digits) (sym (decimal_digit c.args.terminal (omega (arith, c.requires.1))))
