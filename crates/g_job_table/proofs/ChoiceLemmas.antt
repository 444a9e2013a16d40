-- The jobs that can step, in order.
-- serves: choose, first_of, one_can_step
use Rattle.std.proofs.Common.{◌≡◌, ◌+◌, ◌<◌, ◌≤◌, ◌∙◌, ◌++◌, ◌∷◌, ◌⊎◌, [], Bool, IfSome, List, None, Option, Some, ap, arith, cond, false, get_or, inl, inr, length, map, not, refl, slice_get, subst, sym, suc, take, true, zero, ℕ}
use Rattle.std.specs.Fn.{FnReturnsAt, Shared}
use Rattle.std.specs.Option.{option_map}
use denote.Ref.{Bor}
use Rattle.std.proofs.lemmas.Bool.{cond_both}
use Rattle.std.proofs.lemmas.List.{length-map, length_push, take_all}
use Rattle.std.proofs.lemmas.List.Elements.{filter_more}
use Rattle.std.proofs.lemmas.Option.{none-some, same_Some, slice_get-map, slice_get_read}
use Rattle.g_rules.specs.declared.choice.Candidate.{Candidate}
use Rattle.g_rules.specs.declared.rule.Standing.{Standing}
use Rattle.g_rules.specs.Choice.{IsNoLater}
use Rattle.g_rules.proofs.Least.{IsBestOf, IsChosen-from_least, IsLeast-more}
use Rattle.g_job.specs.Beginning.{standing_of}
use Rattle.g_job.specs.State.{JobState}
use Rattle.g_store_model.specs.State.{State}
use Rattle.g_run_model.specs.World.{can_step, has_none}
use Rattle.g_job_table.specs.Choice.{Chooses, IsFirst, able_in}
use Rattle.g_job_table.specs.Numbers.{Rise, job_in}
use Rattle.g_job_table.proofs.NumberLemmas.{Rise-two, found-able}

-- the next job can step
pub able-more : (s : State) (jobs : List JobState) (i : ℕ) (j : JobState) → i < length jobs → j ≡ get_or jobs i j → can_step s j ≡ true
    → able_in s (take (i + 1) jobs) ≡ able_in s (take i jobs) ++ j ∷ []
able-more s jobs i j within is able =
    filter_more (can_step s) jobs i j within
    ∙ ap (λ (x : JobState). able_in s (take i jobs) ++ cond (can_step s x) (x ∷ []) []) (sym is)
    ∙ ap (λ (b : Bool). able_in s (take i jobs) ++ cond b (j ∷ []) []) able

append_nil : (xs : List JobState) → xs ++ [] ≡ xs
append_nil [] = refl
append_nil (x ∷ xs) = ap (λ ys. x ∷ ys) (append_nil xs)

-- it can't
pub able-same : (s : State) (jobs : List JobState) (i : ℕ) (j : JobState) → i < length jobs → j ≡ get_or jobs i j → can_step s j ≡ false
    → able_in s (take (i + 1) jobs) ≡ able_in s (take i jobs)
able-same s jobs i j within is not_able =
    filter_more (can_step s) jobs i j within
    ∙ ap (λ (x : JobState). able_in s (take i jobs) ++ cond (can_step s x) (x ∷ []) []) (sym is)
    ∙ ap (λ (b : Bool). able_in s (take i jobs) ++ cond b (j ∷ []) []) not_able ∙ append_nil (able_in s (take i jobs))

-- one that can step is among those that can
pub able-one : (s : State) (jobs : List JobState) (place : ℕ) (j : JobState) → slice_get jobs place ≡ Some j → can_step s j ≡ true → true ≡ not (has_none (able_in s jobs))
able-one s [] place j there can = absurd (none-some j there)
able-one s (m ∷ jobs) zero j there can =
    let can' : can_step s m ≡ true = ap (can_step s) (same_Some m j there) ∙ can in
    sym (ap (λ (b : Bool). not (has_none (cond b (m ∷ able_in s jobs) (able_in s jobs)))) can')
able-one s (m ∷ jobs) (suc place) j there can =
    cond_both (can_step s m) (m ∷ able_in s jobs) (able_in s jobs) (λ ks. true ≡ not (has_none ks)) (λ able. refl) (λ not_able. able-one s jobs place j there can)

-- it follows those before it that can step
able-at : (s : State) (jobs : List JobState) (i : ℕ) (j : JobState) → slice_get jobs i ≡ Some j → can_step s j ≡ true
    → slice_get (able_in s jobs) (length (able_in s (take i jobs))) ≡ Some j
able-at s [] i j there can = absurd (none-some j there)
able-at s (m ∷ jobs) zero j there can =
    let can' : can_step s m ≡ true = ap (can_step s) (same_Some m j there) ∙ can in
    ap (λ (b : Bool). slice_get (cond b (m ∷ able_in s jobs) (able_in s jobs)) 0) can' ∙ there
able-at s (m ∷ jobs) (suc i) j there can =
    behind (can_step s m) (able_in s jobs) (able_in s (take i jobs)) m j (able-at s jobs i j there can)
  where
    behind : (b : Bool) (ks before : List JobState) (m j : JobState) → slice_get ks (length before) ≡ Some j
        → slice_get (cond b (m ∷ ks) ks) (length (cond b (m ∷ before) before)) ≡ Some j
    behind true ks before m j there = there
    behind false ks before m j there = there

-- no job from a place on has a number below that of the best before
abbrev pub NoLess : List JobState → ℕ → Option Candidate → Type 0
NoLess jobs i first = IfSome first (λ b. (k : ℕ) (j : JobState) → i ≤ k → slice_get jobs k ≡ Some j → b.number ≤ j.number)

pub less-more : (jobs : List JobState) (i : ℕ) (first : Option Candidate) → NoLess jobs i first → NoLess jobs (i + 1) first
less-more jobs i None before = tt
less-more jobs i (Some b) before = λ k j from there. before k j (omega (arith, from)) there

pub less-here : (jobs : List JobState) (i : ℕ) (first : Option Candidate) (j : JobState) → NoLess jobs i first → slice_get jobs i ≡ Some j → IfSome first (λ b. b.number ≤ j.number)
less-here jobs i None j before there = tt
less-here jobs i (Some b) j before there = before i j (omega arith) there

pub less-kept : (jobs : List JobState) (next i able weight : ℕ) (first : Option Candidate) (j : JobState) (kept : Candidate) → Rise 1 jobs next → slice_get jobs i ≡ Some j
    → (kept ≡ record { place = able; weight = weight; number = j.number }) ⊎ (first ≡ Some kept) → NoLess jobs i first → NoLess jobs (i + 1) (Some kept)
less-kept jobs next i able weight first j kept rise there (inl is) before = λ k b from later.
    subst (λ (n : ℕ). n ≤ b.number) (sym (ap (λ (c : Candidate). c.number) is)) (Rise-two 1 jobs next i k j b rise (omega (arith, from)) there later)
less-kept jobs next i able weight first j kept rise there (inr is) before = less-more jobs i (Some kept) (subst (λ (o : Option Candidate). NoLess jobs i o) is before)

has_none-empty : (jobs : List JobState) → length jobs ≡ 0 → has_none jobs ≡ true
has_none-empty [] e = refl
has_none-empty (j ∷ jobs) e = absurd (omega (arith, e))

map_some : (o : Option JobState) (x : Standing) → option_map standing_of o ≡ Some x → (j : JobState) × (o ≡ Some j) × (standing_of j ≡ x)
map_some None x e = absurd (none-some x e)
map_some (Some j) x e = (j, refl, same_Some (standing_of j) x e)

module _ {U : Type 0} (rules : Shared U (Bor Standing × Unit {0}) ℕ) (rule : U) where
  -- of the first i jobs, `able` can step, and this is the best of them
  abbrev pub IsSeen : State → List JobState → ℕ → ℕ → Option Candidate → Type 0
  IsSeen s jobs i able first =
      (able ≡ length (able_in s (take i jobs))) × IsBestOf rules rule (map standing_of (able_in s jobs)) able first

  -- one more that can step, and the earlier of it and the best before
  pub seen-more : (s : State) (jobs : List JobState) (i able : ℕ) (j : JobState) (first : Option Candidate) (weight : ℕ) (kept : Candidate)
      → i < length jobs → j ≡ get_or jobs i j → can_step s j ≡ true → FnReturnsAt rules rule (standing_of j) weight
      → (kept ≡ record { place = able; weight = weight; number = j.number }) ⊎ (first ≡ Some kept)
      → IsNoLater kept.weight kept.number weight j.number → IfSome first (λ b. IsNoLater kept.weight kept.number b.weight b.number)
      → IsSeen s jobs i able first → IsSeen s jobs (i + 1) (able + 1) (Some kept)
  seen-more s jobs i able j first weight kept within is can weighs one before before_best (count, best) =
      let there : slice_get jobs i ≡ Some j = slice_get_read jobs _ i j refl within is in
      let at : slice_get (map standing_of (able_in s jobs)) able ≡ Some (standing_of j) =
      slice_get-map standing_of (able_in s jobs) able ∙ ap (option_map standing_of)
      (ap (λ (n : ℕ). slice_get (able_in s jobs) n) count ∙ able-at s jobs i j there can) in (
        ap (λ (n : ℕ). n + 1) count ∙ sym (length_push (able_in s (take i jobs)) j) ∙ ap length (sym (able-more s jobs i j within is can)),
        IsLeast-more rules rule (map standing_of (able_in s jobs)) able first (standing_of j) weight kept best at weighs one before before_best,
      )

  -- one that can't step
  pub seen-same : (s : State) (jobs : List JobState) (i able : ℕ) (j : JobState) (first : Option Candidate)
      → i < length jobs → j ≡ get_or jobs i j → can_step s j ≡ false → IsSeen s jobs i able first → IsSeen s jobs (i + 1) able first
  seen-same s jobs i able j first within is not_able (count, best) = (count ∙ ap length (sym (able-same s jobs i j within is not_able)), best)

  -- all jobs were seen
  pub seen-whole : (s : State) (jobs : List JobState) (i able : ℕ) (first : Option Candidate) → length jobs ≤ i
      → IsSeen s jobs i able first → IsFirst rules rule (able_in s jobs) first
  seen-whole s jobs i able None whole (count, none) =
      has_none-empty (able_in s jobs) (sym (ap (λ (ks : List JobState). length (able_in s ks)) (take_all i jobs whole)) ∙ sym count ∙ none)
  seen-whole s jobs i able (Some c) whole (count, best) =
      let counted : length (able_in s jobs) ≡ able = sym (ap (λ (ks : List JobState). length (able_in s ks)) (take_all i jobs whole)) ∙ sym count in
      let long : length (map standing_of (able_in s jobs)) ≤ able = omega (arith, length-map (able_in s jobs) standing_of, counted) in
      let read : option_map standing_of (slice_get (able_in s jobs) c.place) ≡ Some best.standing =
      sym (slice_get-map standing_of (able_in s jobs) c.place) ∙ best.there in
      let (job, at, stands) = map_some (slice_get (able_in s jobs) c.place) best.standing read in (
        IsChosen-from_least rules rule (map standing_of (able_in s jobs)) able c best long,
        (job, at, ap (λ (x : Standing). x.number) stands ∙ best.number),
      )

  -- the first of those that can step is chosen
  pub Chooses-first : (s : State) (low : ℕ) (jobs : List JobState) (next : ℕ) (c : Candidate) → Rise low jobs next
      → IsFirst rules rule (able_in s jobs) (Some c) → Chooses rules rule jobs (able_in s jobs) (Some c.number)
  Chooses-first s low jobs next c rise (chosen, first) =
      let (job, at, numbers) = first in (
        c.place,
        job,
        chosen,
        at,
        numbers,
        ap (λ (n : ℕ). job_in n jobs) (sym numbers) ∙ found-able (can_step s) low jobs next c.place job rise at,
      )
