use Rattle.g_verbs.proofs.AloneLemmas.{rename-read}
use Rattle.g_verbs.proofs.read.read_rename.Goals as goal

pub returns-in-Some : goal.returns-in-Some
returns-in-Some c =
    rename-read c.args.name.now c.args.rest c.as_slice.result.now c.args.verb c.in-Some.both c.rename.result c.requires.verb c.as_slice-word.ensures.word c.requires.kind
    c.as_slice.ensures c.in-Some.ensures c.rename.ensures
