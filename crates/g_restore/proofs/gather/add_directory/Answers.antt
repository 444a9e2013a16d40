use Rattle.std.proofs.Common.{◌∙◌, ap, sym}
use Rattle.g_restore.specs.declared.dumps.Found.{Found}
use Rattle.g_restore.specs.Gathering.{behind}
use Rattle.g_restore.proofs.GatherLemmas.{held_nowhere, is_added}
use Rattle.g_restore.proofs.gather.add_directory.Goals as goal

pub returns-in_ok-add_files-in-Some-clause-some : goal.returns-in_ok-add_files-in-Some-clause-some
returns-in_ok-add_files-in-Some-clause-some c = λ is.
    is_added _ _ _ _ _ _ c.in-Some.ensures c.index-found-at.is
    (c.in_ok-add_files-in-Some.ensures ∙ ap (behind c.args.files.now.items c.args.user) c.as_slice.ensures.value
    ∙ ap (λ (f : Found). behind c.args.files.now.items c.args.user f.dir.files.items) (sym c.index-found-at.is))

pub returns-in-None-clause-none : goal.returns-in-None-clause-none
returns-in-None-clause-none c = λ is. held_nowhere _ _ c.in-None.ensures
