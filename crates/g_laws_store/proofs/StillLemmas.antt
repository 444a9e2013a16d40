-- A call that needs no block takes nothing off the disc.
-- serves: AddLemmas, CallLemmas, SetLemmas
use Rattle.std.proofs.Common.{◌≡◌, ℕ, ◌<◌, ◌≤◌, Bool, false, Option, Some, None, ◌∙◌, ap, arith, refl, inl, inr}
use Rattle.std.specs.Prelude.{◌⊎◌, ◌&&◌, List, nat_lt, if◌then◌else◌}
use Rattle.std.specs.Option.{option_map}
use Rattle.std.specs.FinMap.{get, nat_cmp-IsAntisymmetric, same_map}
use Rattle.std.proofs.lemmas.Bool.{cases_eq, cond-false, le-ltb}
use Rattle.std.proofs.lemmas.Cmp.{nat_cmp_total}
use Rattle.g_plain.specs.declared.calls.StoreCall.{StoreCall}
use Rattle.g_store_model.specs.State.{Holding, Place, State, is_candidate, taken_offline}
use Rattle.g_store_model.specs.CallStep.{IsUnjam, need, room_until}
use Rattle.g_laws_store.proofs.PlaceLemmas.{get_by}

same_place : (q : ℕ) (x : Option Place) → option_map (λ (p : Place). if nat_lt q 0 && is_candidate p then record p { online = false } else p) x ≡ x
same_place q None = refl
same_place q (Some p) =
    ap (λ (y : Place). let z : Option Place = Some y in z)
    (cond-false (nat_lt q 0 && is_candidate p) (record p { online = false }) p
    (ap (λ (b : Bool). b && is_candidate p) (le-ltb q 0 (let le : 0 ≤ q = omega arith in le))))

none_taken : (k : Holding) → (taken_offline 0 k).places ≡ k.places
none_taken k =
    same_map nat_cmp_total nat_cmp-IsAntisymmetric (taken_offline 0 k).places k.places
    (λ q.
    let by : ℕ → Place → Place = λ n p. if nat_lt n 0 && is_candidate p then record p { online = false } else p in
    get_by by k.places q ∙ same_place q (get k.places q))

no_until : (s : State) (k : Holding) (who : List ℕ) (call : StoreCall) (until : ℕ) → need s k who call ≡ 0 → IsUnjam s k who call until → until ≡ 0
no_until s k who call until none unjam = by_case (cases_eq until 0)
  where
    never : (room wanted : ℕ) → room < wanted → wanted ≡ 0 → ⊥
    never room wanted less is = omega (arith, less, is)

    by_case : (until ≡ 0) ⊎ (until ≡ 0 → ⊥) → until ≡ 0
    by_case (inl is) = is
    by_case (inr some) = absurd (never (room_until s k who call 0) (need s k who call) (unjam.least 0 (omega (arith, some))) none)

pub still : (s : State) (k : Holding) (who : List ℕ) (call : StoreCall) (until : ℕ) → need s k who call ≡ 0 → IsUnjam s k who call until → (taken_offline until k).places ≡ k.places
still s k who call until none unjam = ap (λ (n : ℕ). (taken_offline n k).places) (no_until s k who call until none unjam) ∙ none_taken k
