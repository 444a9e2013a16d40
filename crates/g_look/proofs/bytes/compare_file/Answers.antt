use Rattle.g_look.proofs.CompareLemmas.{agrees_ok, differs_ok}
use Rattle.g_look.proofs.DiscLemmas.{any_copy}
use Rattle.g_look.proofs.ReadLemmas.{file_read}
use Rattle.g_look.proofs.bytes.compare_file.Goals as goal

pub file_text-requires-clause-copy : goal.file_text-requires-clause-copy
file_text-requires-clause-copy g c = rw c.as_slice.ensures.value (any_copy _ _ c.requires.sound _)

pub returns-clause-some : goal.returns-clause-some
returns-clause-some g c =
    differs_ok _ _ _ c.requires.sound _ _ c.requires.there _ _ _ _ _ c.as_slice.ensures.value c.in-Ok.ensures.text c.in-Ok.ensures.long c.dumped_place-place.ensures c.second_place-second.ensures _
    c.compare_texts.ensures.some

pub returns-clause-none : goal.returns-clause-none
returns-clause-none g c =
    agrees_ok _ _ _ c.requires.sound _ _ c.requires.there _ _ _ _ _ c.as_slice.ensures.value c.in-Ok.ensures.text c.in-Ok.ensures.long c.dumped_place-place.ensures c.second_place-second.ensures _
    c.compare_texts.ensures.none

pub returns-clause-read : goal.returns-clause-read
returns-clause-read g c = file_read _ _ _ _ _ _ c.dumped_place-place.ensures c.second_place-second.ensures _ c.compare_texts.ensures.first c.compare_texts.ensures.second
