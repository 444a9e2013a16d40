use Rattle.std.proofs.Common.{◌≡◌}
use Rattle.g_entry.specs.declared.file_rec.FileRec.{FileRec}
use Rattle.g_name.specs.declared.full.Full.{Full}
use Rattle.g_store_calls.proofs.GrantedLemmas.{named_of, there_at}
use Rattle.g_store_calls.proofs.RenameLemmas.{renamed_made}
use Rattle.g_store_calls.proofs.setting.renamed_file.Goals as goal

pub file_of-rec-requires : goal.file_of-rec-requires
file_of-rec-requires c =
    let (who, path, it) = c.requires.granted in
    there_at c.args.tree.now.users c.args.tree.now.files who path c.args.number c.args.full.now it.file

pub returns : goal.returns
returns c = λ who path it.
    let rec_is : ◌≡◌ {A = FileRec} (record c.file_of-rec.result { local = c.copy-rec.result }) (record c.file_of-rec.result { local = c.args.to.now }) = λ i. record c.file_of-rec.result { local = c.copy-rec.ensures i } in
    let full_is : ◌≡◌ {A = Full} (record c.args.full.now { local = c.copy-full.result }) (record c.args.full.now { local = c.args.to.now }) = λ i. record c.args.full.now { local = c.copy-full.ensures i } in
    renamed_made c.args.tree.now.users c.args.tree.now.files it.next who path c.args.to.now c.file_of-rec.ensures.records it.allowed
    c.file_of-rec.result _ c.args.full.now _ c.as_slice-word.ensures.word
    (named_of c.args.tree.now.users c.args.tree.now.files who path c.args.number c.args.full.now c.file_of-rec.result it.file c.file_of-rec.ensures.value) rec_is full_is
