-- An existing file has a number, and the number gives its name.
use Rattle.std.proofs.Common.{sym, ap, is_some, ◌∙◌, true≢false}
use Rattle.g_tree.specs.AskedRecords.{zeros}
use Rattle.g_tree.proofs.NamedLemmas.{name_found}
use Rattle.g_tree.proofs.RecordLemmas.{file_there}
use Rattle.g_tree.proofs.asked.Records.number.Goals as goal

pub unreachable-requires : goal.unreachable-requires
unreachable-requires c =
    let s = c.args.self.now in
    true≢false (sym c.requires.there ∙ sym (ap is_some c.requires.numbered ∙ file_there s.tree.now.users s.tree.now.files zeros s.next c.args.file.now.full) ∙ ap is_some c.in-None.is)

pub returns : goal.returns
returns c =
    let s = c.args.self.now in
    name_found s.tree.now.users s.tree.now.files c.args.file.now.full c.in-Some.number c.users-users.ensures.records (sym c.requires.numbered ∙ c.in-Some.is)
