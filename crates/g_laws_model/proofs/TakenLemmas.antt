-- The candidates below some stamp are what is taken offline below it.
-- serves: CallLemmas
use Rattle.std.proofs.Common.{◌≡◌, ℕ, suc, ◌+◌, ◌<◌, ◌≤◌, List, [], ◌∷◌, Option, Some, None, refl, sym, ◌∙◌, ap, subst, inl, inr, arith}
use Rattle.std.specs.Prelude.{◌⊎◌, Bool, true, false, T, cond, filter, map, nat_lt, ◌==◌, ◌&&◌, ◌||◌, sum_by, unwrap_or, if◌then◌else◌}
use Rattle.std.specs.Cmp.{unsigned_tied}
use Rattle.std.specs.FinMap.{entries, entries_sorted, from_sorted, get-entries}
use Rattle.std.specs.FinMap.Entries.{below_all, find, is_sorted}
use Rattle.std.specs.Ordering.{eq_by_cmp, is_lt, nat_cmp}
use Rattle.std.specs.declared.cmp.Ordering.TheVariants.{Less, Equal, Greater}
use Rattle.std.proofs.lemmas.Bool.{and_right, cases_Bool, eq-eqb, eqb-true, lt-ltb, ltb-true, ne_eqb}
use Rattle.g_name.specs.declared.full.Full.{Full}
use Rattle.g_plain.specs.PlainTree.{FileRow}
use Rattle.g_store_model.specs.State.{Holding, Place, State, blocks_of, is_candidate, is_taken, offline_before, only_if, place_at, room, taken_blocks, taken_offline}
use Rattle.g_laws_model.specs.Calls.{candidates, is_among, offline, room_with}
use Rattle.g_laws_model.proofs.FrontLemmas.{Above, Under, below, under_all}

-- keys that rise
abbrev From : ℕ → List (ℕ × Place) → Type 0
From low [] = Unit {0}
From low (e ∷ es) = (low ≤ e.0) × From low es

from_nothing : (es : List (ℕ × Place)) → From 0 es
from_nothing [] = tt
from_nothing (e ∷ es) = (omega arith, from_nothing es)

is_less : (a b : Bool) → T (is_lt (cond a Less (cond b Equal Greater))) → a ≡ true
is_less true b t = refl
is_less false true t = absurd t
is_less false false t = absurd t

both_true : (a b : Bool) → T (a && b) → T a × T b
both_true true b t = (tt, t)
both_true false b t = absurd t

above_key : (n : ℕ) (es : List (ℕ × Place)) → T (below_all nat_cmp n es) → From (suc n) es
above_key n [] t = tt
above_key n (e ∷ es) t =
    let less = ltb-true n e.0 (is_less (nat_lt n e.0) (n == e.0) (both_true (is_lt (nat_cmp n e.0)) (below_all nat_cmp n es) t).0) in
    (omega (arith, less), above_key n es (both_true (is_lt (nat_cmp n e.0)) (below_all nat_cmp n es) t).1)

abbrev which_may : List (ℕ × Place) → List (ℕ × Place)
which_may es = filter (λ e. is_candidate e.1) es

abbrev keys_of : List (ℕ × Place) → List ℕ
keys_of es = map (λ e. e.0) es

abbrev stamps_in : List (ℕ × Place) → List ℕ
stamps_in es = keys_of (which_may es)

rising : (low : ℕ) (es : List (ℕ × Place)) → From low es → T (is_sorted nat_cmp es) → Above low (stamps_in es)
rising low [] from sorted = tt
rising low (e ∷ es) from sorted =
    let rest = (both_true (below_all nat_cmp e.0 es) (is_sorted nat_cmp es) sorted).1 in
    elim (is_candidate e.1) as (λ b. Above low (keys_of (cond b (e ∷ which_may es) (which_may es))))
    [ true ↦ (from.0, rising (suc e.0) es (above_key e.0 es (both_true (below_all nat_cmp e.0 es) (is_sorted nat_cmp es) sorted).0) rest) | false ↦ rising low es from.1 rest ]

pub candidates_rise : (k : Holding) → Above 0 (candidates k)
candidates_rise k = rising 0 (entries k.places) (from_nothing (entries k.places)) (entries_sorted k.places)

-- AMONG THEM, by what is found
abbrev nowhere : Place
nowhere = record { online = true; copy = None }

abbrev is_taken_of : ℕ → ℕ → Option Place → Bool
is_taken_of until stamp place = nat_lt stamp until && is_candidate (unwrap_or place nowhere)

not_among : (until stamp : ℕ) (es : List (ℕ × Place)) → From (suc stamp) es → is_among stamp (below until (stamps_in es)) ≡ false
not_among until stamp [] from = refl
not_among until stamp (e ∷ es) from =
    let rest = not_among until stamp es from.1 in
    let other : (stamp == e.0) ≡ false = ne_eqb stamp e.0 (λ same. let no : ⊥ = omega (arith, from.0, same) in no) in
    let with_it : is_among stamp (e.0 ∷ below until (stamps_in es)) ≡ false = ap (λ (b : Bool). b || is_among stamp (below until (stamps_in es))) other ∙ rest in
    elim (is_candidate e.1) as (λ b. is_among stamp (below until (keys_of (cond b (e ∷ which_may es) (which_may es)))) ≡ false) [
      | true ↦ elim (nat_lt e.0 until) as (λ b. is_among stamp (cond b (e.0 ∷ below until (stamps_in es)) (below until (stamps_in es))) ≡ false) [ true ↦ with_it | false ↦ rest ]
      | false ↦ rest
    ]

among_found : (until stamp : ℕ) (es : List (ℕ × Place)) → T (is_sorted nat_cmp es) → is_among stamp (below until (stamps_in es)) ≡ is_taken_of until stamp (find nat_cmp stamp es)
among_found until stamp [] sorted = sym (and_right (nat_lt stamp until) false refl)
among_found until stamp (e ∷ es) sorted = by (cases_Bool (stamp == e.0)) (among_found until stamp es rest_sorted)
  where
    rest_sorted : T (is_sorted nat_cmp es)
    rest_sorted = (both_true (below_all nat_cmp e.0 es) (is_sorted nat_cmp es) sorted).1

    tied : (b : Bool) → (stamp == e.0) ≡ b → find nat_cmp stamp (e ∷ es) ≡ cond b (Some e.1) (find nat_cmp stamp es)
    tied b is = ap (λ (t : Bool). cond t (Some e.1) (find nat_cmp stamp es)) (unsigned_tied stamp e.0 ∙ is)

    by : ((stamp == e.0) ≡ true) ⊎ ((stamp == e.0) ≡ false) → is_among stamp (below until (stamps_in es)) ≡ is_taken_of until stamp (find nat_cmp stamp es)
        → is_among stamp (below until (stamps_in (e ∷ es))) ≡ is_taken_of until stamp (find nat_cmp stamp (e ∷ es))
    by (inl here) rest =
        let same = eqb-true stamp e.0 here in
        let none : is_among stamp (below until (stamps_in es)) ≡ false =
        not_among until stamp es (subst (λ (n : ℕ). From (suc n) es) (sym same) (above_key e.0 es (both_true (below_all nat_cmp e.0 es) (is_sorted nat_cmp es) sorted).0)) in
        let first : is_among stamp (e.0 ∷ below until (stamps_in es)) ≡ true = ap (λ (b : Bool). b || is_among stamp (below until (stamps_in es))) here in
        let is : (c : Bool) → is_among stamp (below until (keys_of (cond c (e ∷ which_may es) (which_may es)))) ≡ (nat_lt e.0 until && c) =
        λ c. elim c as (λ c. is_among stamp (below until (keys_of (cond c (e ∷ which_may es) (which_may es)))) ≡ (nat_lt e.0 until && c)) [
          | true ↦ elim (nat_lt e.0 until) as (λ b. is_among stamp (cond b (e.0 ∷ below until (stamps_in es)) (below until (stamps_in es))) ≡ (b && true)) [ true ↦ first | false ↦ none ]
          | false ↦ none ∙ sym (and_right (nat_lt e.0 until) false refl)
        ] in
        is (is_candidate e.1) ∙ ap (λ (n : ℕ). nat_lt n until && is_candidate e.1) (sym same) ∙ sym (ap (is_taken_of until stamp) (tied true here))
    by (inr other) rest =
        let first : is_among stamp (e.0 ∷ below until (stamps_in es)) ≡ is_among stamp (below until (stamps_in es)) = ap (λ (b : Bool). b || is_among stamp (below until (stamps_in es))) other in
        let is : (c : Bool) → is_among stamp (below until (keys_of (cond c (e ∷ which_may es) (which_may es)))) ≡ is_among stamp (below until (stamps_in es)) =
        λ c. elim c as (λ c. is_among stamp (below until (keys_of (cond c (e ∷ which_may es) (which_may es)))) ≡ is_among stamp (below until (stamps_in es))) [
          | true ↦ elim (nat_lt e.0 until) as (λ b. is_among stamp (cond b (e.0 ∷ below until (stamps_in es)) (below until (stamps_in es))) ≡ is_among stamp (below until (stamps_in es))) [ true ↦ first | false ↦ refl ]
          | false ↦ refl
        ] in
        is (is_candidate e.1) ∙ rest ∙ sym (ap (is_taken_of until stamp) (tied false other))

pub among_taken : (k : Holding) (until stamp : ℕ) → is_among stamp (below until (candidates k)) ≡ is_taken k until stamp
among_taken k until stamp = among_found until stamp (entries k.places) (entries_sorted k.places) ∙ sym (ap (is_taken_of until stamp) (get-entries k.places stamp))

-- The consequences: the room, and what the store holds.
funext : {A B : Type 0} (f g : A → B) → ((x : A) → f x ≡ g x) → f ≡ g
funext f g same = λ i x. same x i

pub same_room : (s : State) (k : Holding) (until : ℕ) → room_with s k (below until (candidates k)) ≡ room s k + taken_blocks k until
same_room s k until =
    ap (λ (is : ℕ → Bool). room s k + sum_by (λ (e : Full × FileRow). only_if (is e.1.stamp) (blocks_of e.1)) (entries k.tree.files))
    (funext (λ (stamp : ℕ). is_among stamp (below until (candidates k))) (λ (stamp : ℕ). is_taken k until stamp) (among_taken k until))

-- each entry is what is found at its key
abbrev AllOwn : List (ℕ × Place) → List (ℕ × Place) → Type 0
AllOwn all [] = Unit {0}
AllOwn all (e ∷ es) = (find nat_cmp e.0 all ≡ Some e.1) × AllOwn all es

more_own : (e : ℕ × Place) (all es : List (ℕ × Place)) → From (suc e.0) es → AllOwn all es → AllOwn (e ∷ all) es
more_own e all [] from own = tt
more_own e all (f ∷ fs) from own =
    let other : eq_by_cmp nat_cmp f.0 e.0 ≡ false = unsigned_tied f.0 e.0 ∙ ne_eqb f.0 e.0 (λ same. let no : ⊥ = omega (arith, from.0, same) in no) in
    (ap (λ (t : Bool). cond t (Some e.1) (find nat_cmp f.0 all)) other ∙ own.0, more_own e all fs from.1 own.1)

own_all : (es : List (ℕ × Place)) → T (is_sorted nat_cmp es) → AllOwn es es
own_all [] sorted = tt
own_all (e ∷ es) sorted =
    let alike : eq_by_cmp nat_cmp e.0 e.0 ≡ true = unsigned_tied e.0 e.0 ∙ eq-eqb e.0 e.0 refl in (
      ap (λ (t : Bool). cond t (Some e.1) (find nat_cmp e.0 es)) alike,
      more_own e es es (above_key e.0 es (both_true (below_all nat_cmp e.0 es) (is_sorted nat_cmp es) sorted).0) (own_all es (both_true (below_all nat_cmp e.0 es) (is_sorted nat_cmp es) sorted).1),
    )

own_entries : (k : Holding) → AllOwn (entries k.places) (entries k.places)
own_entries k = own_all (entries k.places) (entries_sorted k.places)

place_there : (k : Holding) (e : ℕ × Place) → find nat_cmp e.0 (entries k.places) ≡ Some e.1 → place_at k.places e.0 ≡ e.1
place_there k e own = ap (λ (p : Option Place). unwrap_or p nowhere) (get-entries k.places e.0 ∙ own)

offline_each : (k : Holding) (until : ℕ) (es : List (ℕ × Place)) → AllOwn (entries k.places) es
    → map (λ e. (e.0, if is_among e.0 (below until (candidates k)) then record e.1 { online = false } else e.1)) es ≡ map (offline_before until) es
offline_each k until [] own = refl
offline_each k until (e ∷ es) own =
    let test : is_among e.0 (below until (candidates k)) ≡ (nat_lt e.0 until && is_candidate e.1) =
    among_taken k until e.0 ∙ ap (λ (p : Place). nat_lt e.0 until && is_candidate p) (place_there k e own.0) in
    ap (λ (b : Bool). (e.0, if b then record e.1 { online = false } else e.1) ∷ map (λ (x : ℕ × Place). (x.0, if is_among x.0 (below until (candidates k)) then record x.1 { online = false } else x.1)) es) test
    ∙ ap (λ (ps : List (ℕ × Place)). offline_before until e ∷ ps) (offline_each k until es own.1)

pub same_offline : (k : Holding) (until : ℕ) → offline (below until (candidates k)) k ≡ taken_offline until k
same_offline k until = ap (λ (es : List (ℕ × Place)). let h : Holding = record k { places = from_sorted es } in h) (offline_each k until (entries k.places) (own_entries k))

-- All entries are handled if all candidates are below the stamp.
under_each : (k : Holding) (until : ℕ) → ((stamp : ℕ) → is_candidate (place_at k.places stamp) ≡ true → stamp < until) → (es : List (ℕ × Place)) → AllOwn (entries k.places) es → Under until (stamps_in es)
under_each k until all [] own = tt
under_each k until all (e ∷ es) own = by (cases_Bool (is_candidate e.1)) (under_each k until all es own.1)
  where
    by : (is_candidate e.1 ≡ true) ⊎ (is_candidate e.1 ≡ false) → Under until (stamps_in es) → Under until (stamps_in (e ∷ es))
    by (inl is) under =
        subst (λ (b : Bool). Under until (keys_of (cond b (e ∷ which_may es) (which_may es)))) (sym is)
        (all e.0 (ap is_candidate (place_there k e own.0) ∙ is), under)
    by (inr is) under = subst (λ (b : Bool). Under until (keys_of (cond b (e ∷ which_may es) (which_may es)))) (sym is) under

pub all_under : (k : Holding) (until : ℕ) → ((stamp : ℕ) → is_candidate (place_at k.places stamp) ≡ true → stamp < until) → Under until (candidates k)
all_under k until all = under_each k until all (entries k.places) (own_entries k)

pub under_is_all : (k : Holding) (until : ℕ) → Under until (candidates k) → (stamp : ℕ) → is_candidate (place_at k.places stamp) ≡ true → stamp < until
under_is_all k until under stamp is =
    under_all until (suc stamp) stamp (candidates k) under
    (among_taken k (suc stamp) stamp ∙ ap (λ (b : Bool). b && is_candidate (place_at k.places stamp)) (lt-ltb stamp (suc stamp) (let less : stamp < suc stamp = omega arith in less)) ∙ is)
