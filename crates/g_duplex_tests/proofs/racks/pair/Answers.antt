use Rattle.g_duplex_tests.proofs.OneReel.{paired_one}
use Rattle.g_duplex_tests.proofs.racks.pair.Goals as goal

pub new-pair-requires : goal.new-pair-requires
new-pair-requires c = paired_one c.args.lost.now _ _ c.requires.first c.requires.second
