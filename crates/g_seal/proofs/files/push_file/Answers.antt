use Rattle.std.proofs.Common.{◌<◌, length, refl}
use Rattle.std.proofs.lemmas.List.Elements.{All-contains}
use Rattle.g_entry.specs.declared.file_rec.FileRec.{FileRec}
use Rattle.g_look.proofs.DiscLemmas.{any_copy_in, owners_there}
use Rattle.g_seal.proofs.files.push_file.Goals as goal

pub file_sum-requires-clause-copy : goal.file_sum-requires-clause-copy
file_sum-requires-clause-copy g c = rw c.copy_at-copy.ensures (any_copy_in _ _ c.args.dirs.now c.requires.sound _ _ refl c.as_slice.ensures.value refl _)

pub full_of-requires : goal.full_of-requires
full_of-requires g c =
    rw c.as_slice-2.ensures.value (All-contains (λ (r : FileRec). r.owner < length c.args.dirs.now.users.items) c.args.dirs.now.files.items c.args.file.now (owners_there _ c.args.dirs.now c.requires.sound) c.requires.there)
