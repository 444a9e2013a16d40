-- A ninth other user by number is that by name.
use Rattle.std.proofs.Common.{◌≡◌, ◌==◌, ◌&&◌, not, nat_le, is_none, sym, ap, ◌∙◌}
use Rattle.std.specs.FinMap.{get, len}
use Rattle.g_trap.specs.TrapList.{is_ninth}
use Rattle.g_tree.specs.Records.{name_of}
use Rattle.g_tree.proofs.ResultLemmas.{same_tests}
use Rattle.g_tree.proofs.RightLemmas.{numbered_there, for_file}
use Rattle.g_tree.proofs.TrapLemmas.{are_trapped, ninth_by_number}
use Rattle.g_tree.proofs.tree.Tree.is_ninth.Goals as goal

pub returns : goal.returns
returns c = λ bytes next.
    let users = c.args.self.now.users in
    let files = c.args.self.now.files in
    let is = c.in-Some.ensures.records in
    let r = c.in-Some.file.now in
    let found = sym c.in-Some.ensures.value in
    let trapped = are_trapped users files r is (numbered_there users files is c.args.file r found).0 in
    for_file users files is bytes next
    (λ row full. c.is_err.result ≡ (not (c.args.modes == 0) && is_none (get row.traps (name_of users c.args.user)) && nat_le 9 (len row.traps))) c.args.file r found
    (c.is_err.ensures.value ∙ same_tests _ _ c.go.ensures.full
    ∙ ap (λ t. not (c.args.user == r.owner) && is_ninth t.others c.args.user c.args.modes) c.copy.ensures
    ∙ sym (ninth_by_number users r.owner r.traps trapped c.args.user c.args.modes))
