use Rattle.g_lang.specs.LineReader.{params_read}
use Rattle.g_verbs.proofs.AloneLemmas.{not-alone, only-file}
use Rattle.g_verbs.proofs.read.only_file.Goals as goal

pub returns-in-Some : goal.returns-in-Some
returns-in-Some c = only-file (params_read c.args.rest.now) c.in-Some.param.now c.file.result c.in-Some.ensures c.file.ensures

pub returns-in-None : goal.returns-in-None
returns-in-None c = not-alone (params_read c.args.rest.now) c.in-None.ensures
