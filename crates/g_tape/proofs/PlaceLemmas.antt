-- The first reel of a serial, found by place.
-- serves: place_of, ReadLemmas, crates above
use Rattle.std.proofs.Common.{◌≡◌, ℕ, zero, suc, ◌<◌, List, [], ◌∷◌, Some, None, Bool, true, false, ◌==◌, if◌then◌else◌, Contains, length, get_or, sym, ap, ◌∙◌, arith, eq-eqb}
use Rattle.std.proofs.lemmas.Bool.{ne_eqb}
use Rattle.g_base.proofs.KeyLemmas.{at_key-found, at_key-none}
use Rattle.g_tape.specs.Reel.{Reel}
use Rattle.g_tape.specs.Rack.{reel, with_reel}
use Rattle.g_tape.specs.Place.{IsPlaceOf}

-- the serial is on no reel
pub reel-none : (s : ℕ) (reels : List Reel) → ((k : ℕ) (d : Reel) → k < length reels → (get_or reels k d).serial ≡ s → ⊥) → reel s reels ≡ None
reel-none s reels other = at_key-none (λ (r : Reel). r.serial) s reels other

-- the reel at place i is the first of the serial
pub reel-first : (s : ℕ) (reels : List Reel) (i : ℕ) → i < length reels → ((d : Reel) → (get_or reels i d).serial ≡ s) → ((k : ℕ) (d : Reel) → k < i → (get_or reels k d).serial ≡ s → ⊥) → IsPlaceOf s reels i
reel-first s [] i within here before = elim within [ ]
reel-first s (r ∷ rs) zero within here before =
    let same : (s == r.serial) ≡ true = eq-eqb s r.serial (sym (here r)) in
    record {
      within = within;
      there = λ d. ap (λ (b : Bool). if b then Some r else reel s rs) same;
      change = λ f d. ap (λ (b : Bool). if b then f r ∷ rs else r ∷ with_reel s f rs) same;
    }
reel-first s (r ∷ rs) (suc i) within here before =
    let differs : (s == r.serial) ≡ false = ne_eqb s r.serial (λ e. before 0 r (omega arith) (sym e)) in
    let rest = reel-first s rs i (omega (arith, within)) here (λ k d h. before (suc k) d (omega (arith, h))) in
    record {
      within = within;
      there = λ d. ap (λ (b : Bool). if b then Some r else reel s rs) differs ∙ rest.there d;
      change = λ f d. ap (λ (b : Bool). if b then f r ∷ rs else r ∷ with_reel s f rs) differs ∙ ap (λ (xs : List Reel). r ∷ xs) (rest.change f d);
    }

-- the reel of a serial is among the reels, and has it
pub reel-found : (s : ℕ) (reels : List Reel) (r : Reel) → reel s reels ≡ Some r → Contains reels r × (r.serial ≡ s)
reel-found s reels r is = at_key-found (λ (r : Reel). r.serial) s reels r is
