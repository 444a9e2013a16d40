use Rattle.g_verbs.proofs.AloneLemmas.{file-read}
use Rattle.g_verbs.proofs.read.read_file.Goals as goal

pub returns-in-Some : goal.returns-in-Some
returns-in-Some c =
    file-read c.args.name.now c.args.rest c.as_slice.result.now c.args.verb c.in-Some.file c.of_file.result c.requires.verb c.as_slice-word.ensures.word c.requires.kind
    c.as_slice.ensures c.in-Some.ensures (c.of_file.ensures c.args.name.now c.args.rest)
