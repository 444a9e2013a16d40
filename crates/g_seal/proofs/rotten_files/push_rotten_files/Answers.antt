use Rattle.g_seal.proofs.VersionLemmas.{no_versions}
use Rattle.g_seal.proofs.rotten_files.push_rotten_files.Goals as goal

pub loop-sealed-init : goal.loop-sealed-init
loop-sealed-init g c = no_versions (record { rotten = c.args.sought.now.rotten.now; twins = c.args.sought.now.twins.now }) c.args.dirs.now c.args.sought.now.files.now c.args.text.now (g.D.Disc.state c.args.disc.now) (g.T.Tapes.rack c.args.tapes.now)
