use Rattle.std.specs.Prelude.{codes}
use Rattle.std.proofs.lemmas.Bool.Decides.{Decides-eqb}
use Rattle.std.proofs.lemmas.Slice.Eq.{starts_is}
use Rattle.g_look.specs.FileLines.{taped_text}
use Rattle.g_seal.proofs.FieldLemmas.{disc_there, plain_disc, rest_taped}
use Rattle.g_seal.proofs.line_reader.online_in.Goals as goal

pub returns-then-starts_with : goal.returns-then-starts_with
returns-then-starts_with c = λ online tape is.
    let begins = (starts_is Decides-eqb c.args.text.now (codes "DISC") c.starts_with.result c.starts_with.ensures.value).0 c.if-starts_with.true in
    let there = disc_there c.args.text.now online tape _ begins is in
    let parts = c.word.ensures (codes "DISC") (taped_text tape) plain_disc (rest_taped tape) there.1 in
    (there.0, parts.1)
