use Rattle.g_name.proofs.SameLemmas.{same_path}
use Rattle.g_name.proofs.path.Path.copy.Goals as goal

pub returns : goal.returns
returns c = same_path c.args.self.now _ _ _ _ c.copy_of_user.ensures c.copy.ensures c.copy_of_lang.ensures
