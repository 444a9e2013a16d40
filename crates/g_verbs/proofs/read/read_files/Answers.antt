use Rattle.g_verbs.proofs.AloneLemmas.{files-read}
use Rattle.g_verbs.proofs.read.read_files.Goals as goal

pub returns-in-Some : goal.returns-in-Some
returns-in-Some c =
    files-read c.args.name.now c.args.rest c.as_slice.result.now c.args.verb c.in-Some.both c.of_two_files.result c.requires.verb c.as_slice-word.ensures.word c.requires.kind
    c.as_slice.ensures c.in-Some.ensures (c.of_two_files.ensures c.args.name.now c.args.rest)
