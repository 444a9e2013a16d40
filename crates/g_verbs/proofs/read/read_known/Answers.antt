use Rattle.g_lang.specs.LineReader.{params_read}
use Rattle.g_verbs.proofs.AloneLemmas.{read_reads, read_sound}
use Rattle.g_verbs.proofs.read.read_known.Goals as goal

pub returns-clause-grammar : goal.returns-clause-grammar
returns-clause-grammar c = read_reads c.args.name.now (params_read c.args.rest) c.args.rest c.read_by.result c.as_slice-word.ensures.word c.read_by.ensures

pub returns-clause-sound : goal.returns-clause-sound
returns-clause-sound c = read_sound c.args.name.now (params_read c.args.rest) c.args.rest c.read_by.result c.as_slice-word.ensures.word c.read_by.ensures
