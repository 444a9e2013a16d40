use Rattle.g_seal.proofs.TwinLemmas.{none_looked}
use Rattle.g_seal.proofs.twins.find_files.Goals as goal

pub loop-file-init : goal.loop-file-init
loop-file-init g c = none_looked c.args.files.now c.args.twins.now (g.T.Tapes.rack c.args.second.now)
