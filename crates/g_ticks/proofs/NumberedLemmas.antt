-- Lists of jobs after a turn: the job of a number continues as another, or is removed.
-- serves: EndedLemmas, FallLemmas, TurningLemmas, WeighedLemmas
use Rattle.std.proofs.Common.{◌≡◌, ℕ, ◌==◌, Bool, true, false, cond, not, List, [], ◌∷◌, Some, refl, sym, ◌∙◌, ap, if◌then◌else◌, eqb-true, eq-eqb}
use Rattle.std.proofs.lemmas.List.Elements.{All-cons, All-filter, All-head, All-tail}
use Rattle.g_base.proofs.KeyLemmas.{find-found}
use Rattle.g_job_table.specs.Numbers.{AreOpen, job_in}
use Rattle.g_job.specs.State.{JobState}
use Rattle.g_run_model.specs.World.{with_job, without_job}

-- the job that replaces another is removed with it
pub without_with : (j : JobState) (jobs : List JobState) → without_job j.number (with_job j jobs) ≡ without_job j.number jobs
without_with j [] = refl
without_with j (k ∷ jobs) = by (k.number == j.number) refl (without_with j jobs)
  where
    by : (b : Bool) → (k.number == j.number) ≡ b → without_job j.number (with_job j jobs) ≡ without_job j.number jobs → without_job j.number ((if b then j else k) ∷ with_job j jobs) ≡ without_job j.number (k ∷ jobs)
    by true e rest =
        ap (λ (c : Bool). cond (not c) (j ∷ without_job j.number (with_job j jobs)) (without_job j.number (with_job j jobs))) (eq-eqb j.number j.number refl) ∙ rest
        ∙ sym (ap (λ (c : Bool). cond (not c) (k ∷ without_job j.number jobs) (without_job j.number jobs)) e)
    by false e rest =
        ap (λ (c : Bool). cond (not c) (k ∷ without_job j.number (with_job j jobs)) (without_job j.number (with_job j jobs))) e ∙ ap (λ (js : List JobState). k ∷ js) rest
        ∙ sym (ap (λ (c : Bool). cond (not c) (k ∷ without_job j.number jobs) (without_job j.number jobs)) e)

pub open_with : (j : JobState) → j.over ≡ false → (jobs : List JobState) → AreOpen jobs → AreOpen (with_job j jobs)
open_with j still [] all = all
open_with j still (k ∷ jobs) all =
    All-cons (λ x. x.over ≡ false) (if k.number == j.number then j else k) (with_job j jobs) (by (k.number == j.number)) (open_with j still jobs (All-tail (λ x. x.over ≡ false) k jobs all))
  where
    by : (b : Bool) → (if b then j else k).over ≡ false
    by true = still
    by false = All-head (λ x. x.over ≡ false) k jobs all

pub open_without : (number : ℕ) (jobs : List JobState) → AreOpen jobs → AreOpen (without_job number jobs)
open_without number jobs all = All-filter (λ j. not (j.number == number)) (λ x. x.over ≡ false) jobs all

-- the job of a number has it
pub numbered_is : (number : ℕ) (jobs : List JobState) (job : JobState) → job_in number jobs ≡ Some job → job.number ≡ number
numbered_is number jobs job found = eqb-true job.number number (find-found (λ (k : JobState). k.number == number) jobs job found).1
