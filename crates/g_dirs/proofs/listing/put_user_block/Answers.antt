use Rattle.std.proofs.Common.{◌∙◌, sym, ap}
use Rattle.std.proofs.lemmas.Option.{slice_get_past}
use Rattle.g_base.specs.Fields.{padded}
use Rattle.g_entry.specs.declared.format.Format.TheVariants.{Two}
use Rattle.g_dirs.specs.Image.{user_or_empty}
use Rattle.g_dirs.proofs.listing.put_user_block.Goals as goal

pub returns-in-None : goal.returns-in-None
unfolding user_or_empty padded
returns-in-None c = ap (padded 512) c.requires.empty ∙ sym (ap (user_or_empty Two) (slice_get_past c.args.users.now c.args.number c.in-None.ensures.lookup.3))
