use Rattle.g_verbs.proofs.ParamLemmas.{file-answers}
use Rattle.g_script.proofs.head.file.Goals as goal

pub returns : goal.returns
returns c = file-answers c.args.text.now c.parse_path.result c.ok.result c.ok.ensures.value c.parse_path.ensures.ok c.parse_path.ensures.read
