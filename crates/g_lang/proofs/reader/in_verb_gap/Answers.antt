use Rattle.std.proofs.lemmas.Bool.{ne_eqb}
use Rattle.g_lang.proofs.reader.in_verb_gap.Goals as goal

pub returns : goal.returns
returns c text = rw (ne_eqb c.args.byte 32 c.if-byte-eq32.false) (c.in_params.ensures text)
