use Rattle.g_seal.proofs.SealLemmas.{held_nowhere, held_text}
use Rattle.g_seal.proofs.files.push_held.Goals as goal

pub returns-in-Some-clause-text : goal.returns-in-Some-clause-text
returns-in-Some-clause-text g c = λ told blocks is. held_text blocks _ _ _ _ c.push_files.result _ _ c.in-Some.is (c.push_files.ensures.text told blocks is)

pub returns-in-Some-clause-no_copy : goal.returns-in-Some-clause-no_copy
returns-in-Some-clause-no_copy g c = λ is. held_nowhere _ _ _ _ c.in-Some.is (c.push_files.ensures.no_copy is)
