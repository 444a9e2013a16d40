use Rattle.std.proofs.Common.{◌<◌, length, refl}
use Rattle.std.proofs.lemmas.List.Elements.{All-contains}
use Rattle.g_entry.specs.declared.file_rec.FileRec.{FileRec}
use Rattle.g_look.proofs.DiscLemmas.{any_copy_in, owners_there}
use Rattle.g_seal.proofs.rotten_files.found_version.Goals as goal

pub disc_state-requires-clause-copy : goal.disc_state-requires-clause-copy
disc_state-requires-clause-copy g c = rw c.copy_at-copy.ensures (any_copy_in _ _ c.args.dirs.now c.requires.sound _ _ refl c.as_slice-2.ensures.value refl _)

pub full_of-requires : goal.full_of-requires
full_of-requires g c =
    rw c.as_slice-3.ensures.value (All-contains (λ (r : FileRec). r.owner < length c.args.dirs.now.users.items) c.args.dirs.now.files.items c.in-Some.file.now (owners_there _ c.args.dirs.now c.requires.sound)
    (rw c.as_slice.ensures.value at c.in-Some.ensures.there))
