use Rattle.std.proofs.Common.{◌≡◌, ◌∙◌}
use Rattle.g_dirs.specs.declared.fault.DirsFault.TheVariants as dirs
use Rattle.g_online.specs.declared.fault.OnlineFault.TheVariants.{NoFilestore}
use Rattle.g_online.specs.Beginning.{refusal_of}
use Rattle.g_online.proofs.BegunLemmas.{none_found}
use Rattle.g_online.proofs.load.find.Goals as goal

pub returns-in-Err-read_dirs-clause-none : goal.returns-in-Err-read_dirs-clause-none
returns-in-Err-read_dirs-clause-none g c = λ is blocks told.
    let why : refusal_of c.in-Err-read_dirs.fault ≡ NoFilestore = cc in
    let fault : c.in-Err-read_dirs.fault ≡ dirs.NoFilestore = none_found c.in-Err-read_dirs.fault why in
    c.in-Err-read_dirs.ensures.none (cc) blocks (c.in-Ok.ensures.counts.held ∙ told)
