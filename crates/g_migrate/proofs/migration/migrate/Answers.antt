use Rattle.g_migrate.proofs.MigrationLemmas.{granted_file, keeps_all, may_unload, refused_file, refused_only, refused_whole}
use Rattle.g_migrate.proofs.migration.migrate.Goals as goal

pub take_off-requires-clause-allowed : goal.take_off-requires-clause-allowed
take_off-requires-clause-allowed g c = may_unload c.args.online.now c.args.number c.requires.live c.requires.tied c.requires.used c.in-None.ensures

pub returns-in-Some-clause-offline : goal.returns-in-Some-clause-offline
returns-in-Some-clause-offline g c = λ f there at. (refused_file f c.in-Some.fault (c.in-Some.ensures f there at)).offline

pub returns-in-Some-clause-not_dumped : goal.returns-in-Some-clause-not_dumped
returns-in-Some-clause-not_dumped g c = λ f there at. (refused_file f c.in-Some.fault (c.in-Some.ensures f there at)).not_dumped

pub returns-in-Some-clause-migrated : goal.returns-in-Some-clause-migrated
returns-in-Some-clause-migrated g c = refused_whole c.args.online.now c.args.number c.in-Some.fault c.requires.used c.in-Some.ensures c.requires.tied

pub returns-in-Some-clause-only : goal.returns-in-Some-clause-only
returns-in-Some-clause-only g c = refused_only c.args.online.now c.args.number c.in-Some.fault c.requires.used c.in-Some.ensures

pub returns-in-None-clause-offline : goal.returns-in-None-clause-offline
returns-in-None-clause-offline g c = λ f there at. (granted_file f c.take_off.result (c.in-None.ensures f there at) c.take_off.ensures.only).offline

pub returns-in-None-clause-not_dumped : goal.returns-in-None-clause-not_dumped
returns-in-None-clause-not_dumped g c = λ f there at. (granted_file f c.take_off.result (c.in-None.ensures f there at) c.take_off.ensures.only).not_dumped

pub returns-in-None-clause-keeps : goal.returns-in-None-clause-keeps
returns-in-None-clause-keeps g c = keeps_all c.args.online.now c.take_off.new.online c.args.number c.take_off.result c.requires.live c.take_off.ensures.migrated c.take_off.ensures.only
