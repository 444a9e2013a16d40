use Rattle.std.proofs.Common.{◌∙◌}
use Rattle.g_look_program.proofs.WordLemmas.{shows_nothing}
use Rattle.g_look_program.proofs.words.asked_of.Goals as goal

pub returns-in-Err-parse_path : goal.returns-in-Err-parse_path
returns-in-Err-parse_path c =
    shows_nothing c.args.word.now c.args.of.now c.eq-2.result c.eq-2.ensures c.if-eq-2.true (λ n good is. c.in-Err-parse_path.ensures.read n good (c.as_bytes-then-eq-2.ensures.value ∙ is))
