use Rattle.std.proofs.Common.{◌∷◌, refl}
use Rattle.g_typing.proofs.item.ItemReader.ask_or_begin.Goals as goal

pub returns-in-Some : goal.returns-in-Some
returns-in-Some c one = (refl, refl, c.in-Some.ensures, c.requires)

pub returns-in-None : goal.returns-in-None
returns-in-None c one = c.begin.ensures one c.in-None.ensures
