use Rattle.g_laws_demo.proofs.GoodLemmas.{is_good}
use Rattle.g_laws_demo.proofs.law.the_script_is_good.Goals as goal

pub returns : goal.returns
returns c = is_good
