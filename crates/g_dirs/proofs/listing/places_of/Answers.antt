use Rattle.std.proofs.Common.{ap, option_map}
use Rattle.g_copy.specs.declared.copy.DiscCopy.{DiscCopy}
use Rattle.g_dirs.proofs.listing.places_of.Goals as goal

pub returns-in-Some : goal.returns-in-Some
returns-in-Some c = ap (option_map (λ (copy : DiscCopy). copy.blocks)) c.in-Some.ensures

pub returns-in-None : goal.returns-in-None
returns-in-None c = ap (option_map (λ (copy : DiscCopy). copy.blocks)) c.in-None.ensures
