-- The length is that of the record.
use Rattle.std.proofs.Common.{◌≡◌, length, sym}
use Rattle.std.proofs.lemmas.List.Elements.{All-contains}
use Rattle.g_entry.specs.FileFields.{IsFile}
use Rattle.g_tree.proofs.RightLemmas.{numbered_there, for_file}
use Rattle.g_tree.proofs.tree.Tree.len_of.Goals as goal

pub returns-clause-len : goal.returns-clause-len
returns-clause-len c = λ bytes next lengths.
    let users = c.args.self.now.users in
    let files = c.args.self.now.files in
    let is = c.in-Some.ensures.records in
    let r = c.in-Some.file.now in
    let found = sym c.in-Some.ensures.value in
    for_file users files is bytes next (λ row full. r.len ≡ length row.bytes) c.args.file r found (sym (lengths r (numbered_there users files is c.args.file r found).0))

pub returns-clause-few : goal.returns-clause-few
returns-clause-few c =
    let files = c.args.self.now.files in
    let is = c.in-Some.ensures.records in
    let r = c.in-Some.file.now in
    (All-contains IsFile files r is.each_file (numbered_there c.args.self.now.users files is c.args.file r (sym c.in-Some.ensures.value)).0).len
