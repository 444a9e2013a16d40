use Rattle.std.proofs.Common.{sym}
use Rattle.g_verbs.proofs.ParamLemmas.{file-answers, file-complete}
use Rattle.g_verbs.proofs.parameter.file.Goals as goal

pub returns-in-Some : goal.returns-in-Some
returns-in-Some c = sym (file-complete c.in-Some.path c.args.text.now c.in-Some.ensures)

pub returns-in-None : goal.returns-in-None
returns-in-None c = file-answers c.args.text.now c.parse_path.result c.ok.result c.ok.ensures.value c.parse_path.ensures.ok c.parse_path.ensures.read
