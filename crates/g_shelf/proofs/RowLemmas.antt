-- Consecutive dumps: where they lie, one more after them, and the last of them.
-- serves: HeldLemmas, LastLemmas, ReadLemmas, WalkLemmas, crates above
use Rattle.std.proofs.Common.{◌≡◌, ◌⊎◌, ℕ, zero, suc, ◌+◌, ◌-◌, ◌≤◌, List, [], ◌∷◌, ◌++◌, length, Some, None, refl, sym, ◌∙◌, ap, arith, slice_get, subst, inl, inr, All}
use Rattle.std.specs.Prelude.{Contains}
use Rattle.std.proofs.lemmas.List.Elements.{All-cons, All-nil}
use Rattle.std.proofs.lemmas.Option.{same_Some}
use Rattle.g_incr.specs.Layout.{Dump, IsDump, ends}
use Rattle.g_shelf.specs.CompletedDumps.{AreNext, end_behind, number_behind}
use Rattle.g_shelf.specs.FoundDumps.{AreInRow, Follows}

pub row_of : (serial : ℕ) (reel : List (List ℕ)) (at from : ℕ) (ds : List Dump) → AreNext serial reel at from ds → AreInRow serial at from ds
row_of serial reel at from [] are = tt
row_of serial reel at from (d ∷ ds) are = (
  record { on = are.0.on; place = are.0.place; number = are.0.number; rules = are.0.stands.rules },
  row_of serial reel (ends d) (d.number + 1) ds are.1,
)

-- one more
pub end_then : (at : ℕ) (ds : List Dump) (d : Dump) → end_behind at (ds ++ d ∷ []) ≡ ends d
end_then at [] d = refl
end_then at (c ∷ cs) d = end_then (ends c) cs d

pub number_then : (from : ℕ) (ds : List Dump) (d : Dump) → number_behind from (ds ++ d ∷ []) ≡ d.number + 1
number_then from [] d = refl
number_then from (c ∷ cs) d = number_then (c.number + 1) cs d

pub row_then : (serial at from : ℕ) (ds : List Dump) (d : Dump) → AreInRow serial at from ds → Follows serial (end_behind at ds) (number_behind from ds) d → AreInRow serial at from (ds ++ d ∷ [])
row_then serial at from [] d row next = (next, tt)
row_then serial at from (c ∷ cs) d row next = (row.0, row_then serial (ends c) (c.number + 1) cs d row.1 next)

-- The places of the dumps.
pub row_end : (serial at from : ℕ) (ds : List Dump) → AreInRow serial at from ds → at ≤ end_behind at ds
row_end serial at from [] row = omega arith
row_end serial at from (d ∷ ds) row =
    let rest = row_end serial (ends d) (d.number + 1) ds row.1 in
    let place = row.0.place in omega arith

pub record IsInRow (serial at end : ℕ) (d : Dump) : Type 0 where
  pub on : d.serial ≡ serial
  pub least : at ≤ d.place
  pub most : ends d ≤ end
  pub rules : IsDump d

pub in_row : (serial at from : ℕ) (ds : List Dump) → AreInRow serial at from ds → (d : Dump) → Contains ds d → IsInRow serial at (end_behind at ds) d
in_row serial at from [] row d (i, within, is) = let no : ⊥ = omega (arith, within) in absurd no
in_row serial at from (e ∷ es) row d (zero, within, is) =
    let place = row.0.place in
    let end = row_end serial (ends e) (e.number + 1) es row.1 in
    subst (IsInRow serial at (end_behind (ends e) es)) is (record { on = row.0.on; least = omega arith; most = end; rules = row.0.rules })
in_row serial at from (e ∷ es) row d (suc i, within, is) =
    let place = row.0.place in
    let rest = in_row serial (ends e) (e.number + 1) es row.1 d (i, omega (arith, within), is) in
    let least = rest.least in
    record { on = rest.on; least = omega arith; most = rest.most; rules = rest.rules }

pub apart_in_row : (serial at from : ℕ) (ds : List Dump) → AreInRow serial at from ds → (d e : Dump) → Contains ds d → Contains ds e → (d ≡ e) ⊎ ((ends d ≤ e.place) ⊎ (ends e ≤ d.place))
apart_in_row serial at from [] row d e (i, within, is) there = let no : ⊥ = omega (arith, within) in absurd no
apart_in_row serial at from (c ∷ cs) row d e (zero, in_d, is_d) (zero, in_e, is_e) = inl (sym is_d ∙ is_e)
apart_in_row serial at from (c ∷ cs) row d e (zero, in_d, is_d) (suc j, in_e, is_e) =
    let rest = in_row serial (ends c) (c.number + 1) cs row.1 e (j, omega (arith, in_e), is_e) in
    inr (inl (subst (λ (x : Dump). ends x ≤ e.place) is_d rest.least))
apart_in_row serial at from (c ∷ cs) row d e (suc i, in_d, is_d) (zero, in_e, is_e) =
    let rest = in_row serial (ends c) (c.number + 1) cs row.1 d (i, omega (arith, in_d), is_d) in
    inr (inr (subst (λ (x : Dump). ends x ≤ d.place) is_e rest.least))
apart_in_row serial at from (c ∷ cs) row d e (suc i, in_d, is_d) (suc j, in_e, is_e) =
    apart_in_row serial (ends c) (c.number + 1) cs row.1 d e (i, omega (arith, in_d), is_d) (j, omega (arith, in_e), is_e)

-- the last of them, which has the greatest number
pub record IsTop (at from : ℕ) (ds : List Dump) (d : Dump) : Type 0 where
  pub there : Contains ds d
  pub end : end_behind at ds ≡ ends d
  pub least : from ≤ d.number
  pub most : All (λ e. e.number ≤ d.number) ds

pub top : (serial at from : ℕ) (ds : List Dump) → AreInRow serial at from ds → (d : Dump) → slice_get ds (length ds - 1) ≡ Some d → IsTop at from ds d
top serial at from [] row d is = let no : ⊥ = cc in absurd no
top serial at from (e ∷ []) row d is =
    let here : Some e ≡ Some d = is in
    let same : e ≡ d = same_Some e d here in
    let is_top : IsTop at from (e ∷ []) e =
    record { there = (0, omega arith, refl); end = refl; least = row.0.number; most = All-cons (λ (x : Dump). x.number ≤ e.number) e [] (omega arith) (All-nil (λ (x : Dump). x.number ≤ e.number)) } in
    subst (IsTop at from (e ∷ [])) same is_top
top serial at from (e ∷ f ∷ fs) row d is =
    let next : length (e ∷ f ∷ fs) - 1 ≡ suc (length (f ∷ fs) - 1) = omega arith in
    let rest = top serial (ends e) (e.number + 1) (f ∷ fs) row.1 d (ap (λ (i : ℕ). slice_get (e ∷ f ∷ fs) i) (sym next) ∙ is) in
    let least = rest.least in
    let number = row.0.number in
    record {
      there = let (i, within, at_i) = rest.there in (suc i, omega (arith, within), at_i);
      end = rest.end;
      least = omega arith;
      most = All-cons (λ (x : Dump). x.number ≤ d.number) e (f ∷ fs) (omega arith) rest.most;
    }

pub none_last : (ds : List Dump) → slice_get ds (length ds - 1) ≡ None → ds ≡ []
none_last [] is = refl
none_last (e ∷ []) is = let no : ⊥ = cc in absurd no
none_last (e ∷ f ∷ fs) is =
    let next : length (e ∷ f ∷ fs) - 1 ≡ suc (length (f ∷ fs) - 1) = omega arith in
    let none : f ∷ fs ≡ [] = none_last (f ∷ fs) (ap (λ (i : ℕ). slice_get (e ∷ f ∷ fs) i) (sym next) ∙ is) in
    let no : ⊥ = cc in absurd no
