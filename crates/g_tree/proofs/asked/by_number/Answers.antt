-- An existing file has a number.
use Rattle.std.proofs.Common.{is_some, sym, ap, ◌∙◌, true≢false}
use Rattle.g_plain.specs.Grants.{number_in}
use Rattle.g_tree.specs.AskedRecords.{zeros}
use Rattle.g_tree.specs.Records.{number_of}
use Rattle.g_tree.proofs.RecordLemmas.{file_there}
use Rattle.g_tree.proofs.asked.by_number.Goals as goal

pub unreachable-requires : goal.unreachable-requires
unreachable-requires c =
    let t = c.args.tree.now in
    let full = c.in-Input.full in
    true≢false (sym (c.requires.there full c.in-Input.is zeros 0) ∙ sym (file_there t.users t.files zeros 0 full)
    ∙ ap is_some (sym (c.requires.numbered ∙ ap (number_in (number_of t.users t.files)) c.in-Input.is) ∙ c.in-None.is))
