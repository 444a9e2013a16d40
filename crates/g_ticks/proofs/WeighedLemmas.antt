-- The weights of jobs after a turn of one of them.
-- serves: take_turn
use Rattle.std.proofs.Common.{◌≡◌, ◌==◌, ◌<◌, ◌≤◌, ◌∙◌, ◌∷◌, [], ℕ, Bool, List, Option, Some, None, ap, arith, cond, false, inl, inr, length, map, not, refl, slice_get, sym, true, if◌then◌else◌}
use Rattle.std.specs.Fn.{FnReturnsAt, Shared}
use Rattle.std.specs.Option.{option_map}
use denote.Ref.{Bor}
use Rattle.std.proofs.lemmas.List.{length-map}
use Rattle.std.proofs.lemmas.Option.{none-some, same_Some, slice_get-map}
use Rattle.g_rules.specs.declared.tariff.Charge.{Charge}
use Rattle.g_rules.specs.declared.tariff.Usage.{Usage}
use Rattle.g_rules.specs.declared.rule.Standing.{Standing}
use Rattle.g_job.specs.State.{JobState}
use Rattle.g_rules.specs.declared.turn.Turn.{Turn}
use Rattle.g_rules.specs.declared.turn.Turn.TheVariants as turns
use Rattle.g_store_meaning.specs.StoreInvariant.{StoreFacts}
use Rattle.g_run_model.specs.Texts.{shown}
use Rattle.g_run_model.specs.World.{with_job, without_job}
use Rattle.g_job_table.specs.Crew.{CrewState}
use Rattle.g_job_table.specs.Numbers.{job_in}
use Rattle.g_job_table.specs.Weights.{AreOthers, AreWeights}
use Rattle.g_day.specs.System.{SystemFacts}
use Rattle.g_ticks.specs.Turning.{EndsTurn, Takes, TookTurn}
use Rattle.g_ticks.proofs.NumberedLemmas.{numbered_is}

put_or : (b : Bool) (new k j : JobState) (number : ℕ) → new.number ≡ number → (j.number ≡ number → ⊥) → (if b then new else k) ≡ j → k ≡ j
put_or true new k j number named other is = absurd (other (ap (λ (x : JobState). x.number) (sym is) ∙ named))
put_or false new k j number named other is = is

-- a job of another number stays at its place
other_stays : (new : JobState) (jobs : List JobState) (number p : ℕ) (j : JobState) → new.number ≡ number → slice_get (with_job new jobs) p ≡ Some j → (j.number ≡ number → ⊥) → slice_get jobs p ≡ Some j
other_stays new jobs number p j named at other = by (slice_get jobs p) (sym (slice_get-map (λ (k : JobState). if k.number == new.number then new else k) jobs p) ∙ at)
  where
    by : (o : Option JobState) → option_map (λ (k : JobState). if k.number == new.number then new else k) o ≡ Some j → o ≡ Some j
    by None is = absurd (none-some j is)
    by (Some k) is = ap (λ (x : JobState). let o : Option JobState = Some x in o) (put_or (k.number == new.number) new k j number named other (same_Some (if k.number == new.number then new else k) j is))

no_more : (n : ℕ) (jobs : List JobState) → length (without_job n jobs) ≤ length jobs
no_more n [] = omega arith
no_more n (k ∷ jobs) = by (k.number == n) (no_more n jobs)
  where
    by : (b : Bool) → length (without_job n jobs) ≤ length jobs → length (cond (not b) (k ∷ without_job n jobs) (without_job n jobs)) ≤ length (k ∷ jobs)
    by true most = omega (arith, most)
    by false most = omega (arith, most)

-- without a job that was there they are fewer
fewer : (n : ℕ) (jobs : List JobState) (j : JobState) → job_in n jobs ≡ Some j → length (without_job n jobs) < length jobs
fewer n [] j there = absurd (none-some j there)
fewer n (k ∷ jobs) j there = by (k.number == n) there (λ e. fewer n jobs j e)
  where
    by : (b : Bool) → cond b (Some k) (job_in n jobs) ≡ Some j → (job_in n jobs ≡ Some j → length (without_job n jobs) < length jobs)
        → length (cond (not b) (k ∷ without_job n jobs) (without_job n jobs)) < length (k ∷ jobs)
    by true at less = let most = no_more n jobs in omega (arith, most)
    by false at less = let it = less at in omega (arith, it)

module _ {F U : Type 0} (tariffs : Shared F (Bor Usage × Unit {0}) Charge) (tariff : F) (rules : Shared U (Bor Standing × Unit {0}) ℕ) (rule : U) where
  changed : (new : JobState) (jobs now : List JobState) (number : ℕ) (weights : List ℕ) → new.number ≡ number → now ≡ with_job new jobs → AreWeights rules rule jobs weights → AreOthers rules rule number now weights
  changed new jobs now number weights named is are = λ p j at other. are.1 p j (other_stays new jobs number p j named (sym (ap (λ (js : List JobState). slice_get js p) is) ∙ at) other)

  whole : (old : StoreFacts) (c : CrewState) (count number : ℕ) (system : SystemFacts) (c' : CrewState) (before after : Option (List ℕ)) (faults faults' : ℕ) (weights : List ℕ)
      → TookTurn tariffs tariff old c count number None system c' before after faults faults' → AreWeights rules rule c.jobs weights → length c'.jobs ≡ length weights → AreOthers rules rule number c'.jobs weights
  whole old c count number system c' before after faults faults' weights took are long = by took.turn took.ends
    where
      named : took.behind.number ≡ number
      named = took.takes.spends.0 ∙ numbered_is number c.jobs took.job took.there

      by : (t : Turn) → EndsTurn count number took.new (record c { jobs = with_job took.behind c.jobs }) (shown took.job took.behind) t None system c' before after faults faults' → AreOthers rules rule number c'.jobs weights
      by turns.Broken down = λ p j at other. absurd (none-some j (sym (ap (λ (k : CrewState). slice_get k.jobs p) down.crew) ∙ at))
      by (turns.Wants serial) on = changed took.behind c.jobs c'.jobs number weights named (ap (λ (k : CrewState). k.jobs) (on.opens refl).others) are
      by (turns.Ran units money) on = changed took.behind c.jobs c'.jobs number weights named (ap (λ (k : CrewState). k.jobs) (on.opens refl).others) are
      by (turns.Ended units money) (job, mid, out, on) = λ p j at other.
          let is : length c'.jobs ≡ length (without_job number (with_job took.behind c.jobs)) = ap (λ (k : CrewState). length k.jobs) (on.opens refl).others ∙ ap length out.jobs in
          let less = fewer number (with_job took.behind c.jobs) job out.there in
          let same = length-map c.jobs (λ (k : JobState). if k.number == took.behind.number then took.behind else k) in
          let whole : length weights ≡ length c.jobs = are.0 in
          absurd (omega (arith, is, less, same, whole, long))

  -- THE OTHERS weigh what they did
  pub others_behind : (old : StoreFacts) (c : CrewState) (count number : ℕ) (system : SystemFacts) (c' : CrewState) (before after : Option (List ℕ)) (faults faults' : ℕ) (weights : List ℕ)
      → Takes tariffs tariff old c count number None system c' before after faults faults' → AreWeights rules rule c.jobs weights → length c'.jobs ≡ length weights → AreOthers rules rule number c'.jobs weights
  others_behind old c count number system c' before after faults faults' weights (inl took) are long = whole old c count number system c' before after faults faults' weights took are long
  others_behind old c count number system c' before after faults faults' weights (inr part) are long = let is = part.failed in absurd (let no : ⊥ = cc in no)
