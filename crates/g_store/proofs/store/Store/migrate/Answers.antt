use Rattle.std.proofs.Common.{◌≡◌, subst}
use Rattle.g_disc_contents.specs.Contents.{recs_in}
use Rattle.g_store_meaning.specs.Answers.{IsStore}
use Rattle.g_store.proofs.MigratedLemmas.{migrates, number_used, path_unnamed}
use Rattle.g_store.proofs.store.Store.migrate.Goals as goal

pub returns-in-Err : goal.returns-in-Err
returns-in-Err g c =
    path_unnamed c.args.path.now c.args.self.now c.requires.running (subst IsStore c.self.view_is c.self.invariant) c.tree.result.now.users c.tree.result.now.files c.in-Err.fault
    (subst (λ s. c.tree.result.now.users ≡ s.online.contents.users) c.self.view_is c.tree.ensures.users)
    (subst (λ s. c.tree.result.now.files ≡ recs_in s.online.contents) c.self.view_is c.tree.ensures.files) c.in-Err.ensures.err

pub migrate-answer-requires-clause-used : goal.migrate-answer-requires-clause-used
migrate-answer-requires-clause-used g c =
    number_used c.tree.result.now.users c.tree.result.now.files c.self.inside.online.contents c.args.path.now c.in-Ok.found.0 c.in-Ok.found.1 c.tree.ensures.users c.tree.ensures.files c.in-Ok.ensures.ok

pub invariant_of-self : goal.invariant_of-self
invariant_of-self g c =
    (migrates c.args.path.now c.args.self.now _ c.self.view_is c.requires.running c.self.invariant c.tree.result.now.users c.tree.result.now.files c.tree.ensures.users c.tree.ensures.files
    c.in-Ok.found.0 c.in-Ok.found.1 c.in-Ok.ensures.ok c.migrate-answer.new.online c.migrate-answer.result
    (record {
      offline = c.migrate-answer.ensures.offline;
      not_dumped = c.migrate-answer.ensures.not_dumped;
      migrated = c.migrate-answer.ensures.migrated;
      keeps = c.migrate-answer.ensures.keeps;
      only = c.migrate-answer.ensures.only;
    }) c.under_name.result c.under_name.ensures c.is_stop-self-inside.result c.is_stop-self-inside.ensures).event.keeps

pub returns : goal.returns
returns g c =
    migrates c.args.path.now c.args.self.now _ c.self.view_is c.requires.running c.self.invariant c.tree.result.now.users c.tree.result.now.files c.tree.ensures.users c.tree.ensures.files
    c.in-Ok.found.0 c.in-Ok.found.1 c.in-Ok.ensures.ok c.migrate-answer.new.online c.migrate-answer.result
    (record {
      offline = c.migrate-answer.ensures.offline;
      not_dumped = c.migrate-answer.ensures.not_dumped;
      migrated = c.migrate-answer.ensures.migrated;
      keeps = c.migrate-answer.ensures.keeps;
      only = c.migrate-answer.ensures.only;
    }) c.under_name.result c.under_name.ensures c.is_stop-self-inside.result c.is_stop-self-inside.ensures
