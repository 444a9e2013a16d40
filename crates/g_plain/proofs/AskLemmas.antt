-- How runs of programs are composed, and how they carry over from a store to the store that it represents.
-- serves: runs_go_along, crates above
use Rattle.std.proofs.Common.{◌≡◌, ℕ, Bool, true, false, List, Err, refl, sym, ap, subst, ◌∙◌, inl, inr, if◌then◌else◌}
use Rattle.g_plain.specs.declared.calls.StoreCall.{StoreCall}
use Rattle.g_plain.specs.declared.faults.StoreFault.TheVariants.{NoMemory}
use Rattle.g_plain.specs.Programs.{Answer, Asks, Gives, Call, Ran, RanInPart, and_then}

module _ {S A : Type 0} (answers : S → List ℕ → StoreCall → Answer → S → Type 0) (who : List ℕ) where
  -- No call was made yet.
  pub RanInPart-none : (p : Asks A) (old : S) → RanInPart answers who old p old
  RanInPart-none (Gives x) old = refl
  RanInPart-none (Call call more) old = inl refl

module _ {S W : Type 0} (answers : S → List ℕ → StoreCall → Answer → S → Type 0) (who : List ℕ) (is_over : W → Bool) where
  -- The first program ran out of memory, before the one that follows it.
  pub RanInPart-first : (p : Asks W) (next : W → Asks W) (old new : S) → RanInPart answers who old p new → RanInPart answers who old (and_then is_over p next) new
  RanInPart-first (Gives x) next old new r =
      elim (is_over x) as (λ b. RanInPart answers who old (if b then Gives x else next x) new) [
        | true ↦ r
        | false ↦ subst (λ s. RanInPart answers who old (next x) s) (sym r) (RanInPart-none answers who (next x) old)
      ]
  RanInPart-first (Call call more) next old new r =
      elim r as (λ _. RanInPart answers who old (and_then is_over (Call call more) next) new) [
        | inl same ↦ inl same
        | inr later ↦ elim later as (λ _. RanInPart answers who old (and_then is_over (Call call more) next) new) [
          | inl memory ↦ inr (inl memory)
          | inr on ↦ inr (inr (on.0, on.1, on.2, on.3, RanInPart-first (more on.0) next on.1 new on.4))
        ]
      ]

  -- The first program has run and isn't over, and the one that follows it ran out of memory.
  pub RanInPart-then : (p : Asks W) (next : W → Asks W) (old mid new : S) (w : W) → Ran answers who old p w mid → is_over w ≡ false → RanInPart answers who mid (next w) new → RanInPart answers who old (and_then is_over p next) new
  RanInPart-then (Gives x) next old mid new w r go later =
      let e : is_over x ≡ false = ap is_over (sym r.0) ∙ go in
      subst (λ b. RanInPart answers who old (if b then Gives x else next x) new) (sym e)
      (subst (λ s. RanInPart answers who s (next x) new) r.1 (subst (λ y. RanInPart answers who mid (next y) new) r.0 later))
  RanInPart-then (Call call more) next old mid new w r go later = inr (inr (r.0, r.1, r.2, r.3, RanInPart-then (more r.0) next r.1 mid new w r.4 go later))

-- A run on stores is a run on the states that they represent.
pub Ran-along : {S T A : Type 0} (answers : S → List ℕ → StoreCall → Answer → S → Type 0) (others : T → List ℕ → StoreCall → Answer → T → Type 0) (stands : S → T)
    → ((s : S) (who : List ℕ) (call : StoreCall) (answer : Answer) (t : S) → answers s who call answer t → others (stands s) who call answer (stands t))
    → (who : List ℕ) (old : S) (p : Asks A) (given : A) (new : S) → Ran answers who old p given new → Ran others who (stands old) p given (stands new)
Ran-along answers others stands along who old (Gives x) given new r = (r.0, ap stands r.1)
Ran-along answers others stands along who old (Call call more) given new r =
    (r.0, stands r.1, along old who call r.0 r.1 r.2, r.3, Ran-along answers others stands along who r.1 (more r.0) given new r.4)

-- the same of a run that found no memory on its way
pub RanInPart-along : {S T A : Type 0} (answers : S → List ℕ → StoreCall → Answer → S → Type 0) (others : T → List ℕ → StoreCall → Answer → T → Type 0) (stands : S → T)
    → ((s : S) (who : List ℕ) (call : StoreCall) (answer : Answer) (t : S) → answers s who call answer t → others (stands s) who call answer (stands t))
    → (who : List ℕ) (old : S) (p : Asks A) (new : S) → RanInPart answers who old p new → RanInPart others who (stands old) p (stands new)
RanInPart-along answers others stands along who old (Gives x) new r = ap stands r
RanInPart-along answers others stands along who old (Call call more) new r =
    elim r as (λ _. RanInPart others who (stands old) (Call call more) (stands new)) [
      | inl same ↦ inl (ap stands same)
      | inr later ↦ elim later as (λ _. RanInPart others who (stands old) (Call call more) (stands new)) [
        | inl memory ↦ inr (inl (along old who call (Err NoMemory) new memory))
        | inr on ↦ inr (inr (on.0, stands on.1, along old who call on.0 on.1 on.2, on.3, RanInPart-along answers others stands along who on.1 (more on.0) new on.4))
      ]
    ]
