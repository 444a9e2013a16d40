-- The length of a record is that of its zeros.
use Rattle.std.proofs.Common.{◌≡◌, IfSome, length, sym, ap, subst, ◌∙◌}
use Rattle.std.specs.Option.{option_map}
use Rattle.g_plain.specs.PlainTree.{file_row}
use Rattle.g_plain.proofs.TreeLemmas.{length-no_row}
use Rattle.g_tree.specs.Records.{file_row_of, tree_of}
use Rattle.g_tree.specs.AskedRecords.{zeros}
use Rattle.g_tree.proofs.RecordLemmas.{get_file}
use Rattle.g_tree.proofs.NamedLemmas.{name_found, none_mapped, number_there, zeros_fit}
use Rattle.g_tree.proofs.asked.Records.len.Goals as goal

pub len_of-requires : goal.len_of-requires
len_of-requires c =
    let s = c.args.self.now.tree.now in
    let full = c.args.file.now.full in
    number_there s.users s.files full c.in-Some.number (name_found s.users s.files full c.in-Some.number c.users-users.ensures.records (sym c.requires ∙ c.in-Some.is))

pub returns-in-Some-clause-len : goal.returns-in-Some-clause-len
returns-in-Some-clause-len c =
    let s = c.args.self.now.tree.now in
    let full = c.args.file.now.full in
    let t = tree_of s.users s.files zeros c.args.self.now.next in
    subst (λ o. IfSome o (λ name. c.len_of.result ≡ length (file_row t name).bytes)) (name_found s.users s.files full c.in-Some.number c.users-users.ensures.records (sym c.requires ∙ c.in-Some.is))
    (c.len_of.ensures.len zeros c.args.self.now.next (zeros_fit s.files))

pub returns-in-None-clause-len : goal.returns-in-None-clause-len
returns-in-None-clause-len c =
    let s = c.args.self.now.tree.now in
    let row = file_row_of s.users zeros in
    let none = none_mapped (λ r. r.number) _ (sym c.requires ∙ c.in-None.is) in
    length-no_row _ (sym (get_file s.users s.files row c.args.file.now.full ∙ ap (option_map row) none))
