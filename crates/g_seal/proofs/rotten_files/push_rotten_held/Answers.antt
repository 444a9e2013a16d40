use Rattle.g_seal.proofs.VersionLemmas.{held_report}
use Rattle.g_seal.proofs.rotten_files.push_rotten_held.Goals as goal

pub returns-in-Some-clause-text : goal.returns-in-Some-clause-text
returns-in-Some-clause-text g c = λ told blocks is. held_report blocks _ (record { rotten = c.args.sought.now.rotten.now; twins = c.args.sought.now.twins.now }) _ _ _ _ c.push_rotten_files.result _ _ c.in-Some.is (c.push_rotten_files.ensures.text told blocks is)
