use Rattle.std.proofs.Common.{Err, ap, ◌∙◌}
use Rattle.g_look.proofs.DiscLemmas.{any_copy_in, records_sound}
use Rattle.g_look.proofs.ShowLemmas.{lost, no_file, number_used, same_fault, shown}
use Rattle.g_look.proofs.showing.show.Goals as goal

pub returns-in-Err-clause-no_filestore : goal.returns-in-Err-clause-no_filestore
returns-in-Err-clause-no_filestore g c = λ is. c.in-Err.ensures.none (ap Err (same_fault _ _ is))

pub tree_of-requires : goal.tree_of-requires
tree_of-requires g c = record { records = records_sound _ _ c.in-Ok.ensures.sound }

pub returns-in-None-clause-no_file : goal.returns-in-None-clause-no_file
returns-in-None-clause-no_file g c = λ is.
    no_file _ _ c.in-Ok.ensures.sound _ _ _ c.in-Ok-tree_of.ensures.users c.in-Ok-tree_of.ensures.files c.in-None.ensures.there _ c.in-Ok.ensures.stands

pub file_bytes-requires-clause-copy : goal.file_bytes-requires-clause-copy
file_bytes-requires-clause-copy g c =
    any_copy_in _ _ _ c.in-Ok.ensures.sound _ _ c.in-Ok.ensures.reads.size c.as_slice.ensures.value c.in-Ok-tree_of.ensures.online _

pub unreachable-requires : goal.unreachable-requires
unreachable-requires g c = number_used _ _ c.file_at.ensures.records c.args.path.now _ c.in-Some.ensures.number c.in-None-file_at.ensures.value

pub returns-clause-bytes : goal.returns-clause-bytes
returns-clause-bytes g c =
    shown _ _ c.in-Ok.ensures.sound _ _ _ _ _ _ c.in-Ok-tree_of.ensures.users c.in-Ok-tree_of.ensures.files (c.as_slice.ensures.value ∙ c.in-Ok-tree_of.ensures.online) c.in-Some.ensures.number
    c.in-Some-file_at.ensures.value _ _ (g.T.Tapes.rack c.args.tapes.now) c.in-Ok.ensures.reads.held c.in-Ok.ensures.stands _ c.file_bytes.ensures.bytes

pub returns-clause-no_copy : goal.returns-clause-no_copy
returns-clause-no_copy g c =
    lost _ _ c.in-Ok.ensures.sound _ _ _ _ _ _ c.in-Ok-tree_of.ensures.users c.in-Ok-tree_of.ensures.files (c.as_slice.ensures.value ∙ c.in-Ok-tree_of.ensures.online) c.in-Some.ensures.number
    c.in-Some-file_at.ensures.value _ _ (g.T.Tapes.rack c.args.tapes.now) c.in-Ok.ensures.reads.held c.in-Ok.ensures.stands _ c.file_bytes.ensures.offline c.file_bytes.ensures.lost
