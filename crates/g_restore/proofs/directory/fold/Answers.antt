use Rattle.std.proofs.Common.{◌∙◌, Err, ap, get_or, refl}
use Rattle.g_restore.specs.declared.dumps.Found.{Found}
use Rattle.g_restore.specs.declared.directory.Dumped.{Dumped}
use Rattle.g_restore.proofs.FoldLemmas.{folds, names_copy, names_directory, names_held}
use Rattle.g_restore.proofs.KnownLemmas.{none_there}
use Rattle.g_restore.proofs.directory.fold.Goals as goal

pub returns-in-None-clause-none : goal.returns-in-None-clause-none
returns-in-None-clause-none c = λ is. none_there _ c.in-None.ensures

pub returns-in-Err-clause-lost : goal.returns-in-Err-clause-lost
returns-in-Err-clause-lost c =
    names_directory _ _ _ c.in-Some.ensures (ap (λ (f : Found). get_or c.args.found.now c.in-Some.at f) c.index-found-at.is) Dumped _ c.in-Err.ensures.only
    (λ name is. rw c.as_slice-users.ensures.value at (c.in-Err.ensures.bad name (ap Err is)))

pub returns-in-Some-first_lost-clause-lost : goal.returns-in-Some-first_lost-clause-lost
returns-in-Some-first_lost-clause-lost c = λ dumps are apart.
    names_copy _ _ _ c.in-Some.ensures (ap (λ (f : Found). get_or c.args.found.now c.in-Some.at f) c.index-found-at.is) _ (rw c.as_slice-users.ensures.value at c.in-Ok.ensures.ok)
    _ _ c.index.result.now (rw c.as_slice.ensures.value at c.in-Some-first_lost.ensures.some) c.index.ensures _ (rw c.as_slice-users.ensures.value at c.full_of.ensures) dumps are

pub returns-in-Ok-copied_users-clause-lost : goal.returns-in-Ok-copied_users-clause-lost
returns-in-Ok-copied_users-clause-lost c = λ dumps are apart.
    names_held _ _ _ c.in-Some.ensures (ap (λ (f : Found). get_or c.args.found.now c.in-Some.at f) c.index-found-at.is) _ (rw c.as_slice-users.ensures.value at c.in-Ok.ensures.ok)
    (rw c.as_slice.ensures.value at c.in-None-first_lost.ensures.none) dumps are

pub returns-in-Ok-copied_users-clause-ok : goal.returns-in-Ok-copied_users-clause-ok
returns-in-Ok-copied_users-clause-ok c =
    folds _ _ _ c.in-Some.ensures (ap (λ (f : Found). get_or c.args.found.now c.in-Some.at f) c.index-found-at.is) _ (rw c.as_slice-users.ensures.value at c.in-Ok.ensures.ok)
    (rw c.as_slice.ensures.value at c.in-None-first_lost.ensures.none) _ refl refl (c.in-Ok-copied_users.ensures ∙ c.as_slice-users.ensures.value) refl
