-- The first dump of each number, and dumps that are no forks, one dump further.
-- serves: by_number, find_fork (none)
use Rattle.std.proofs.Common.{◌≡◌, ◌⊎◌, ℕ, ◌+◌, ◌<◌, ◌≤◌, ◌==◌, Bool, true, false, List, [], ◌∷◌, ◌++◌, get_or, length, take, Option, Some, None, refl, sym, ◌∙◌, ap, arith, subst, inl, inr, cond, find, is_some}
use Rattle.std.specs.Prelude.{nat_lt}
use Rattle.std.specs.Option.{ForSome, option_or}
use Rattle.std.specs.Ordering.{is_eq, nat_cmp}
use Rattle.std.specs.declared.cmp.Ordering.TheVariants.{Less, Equal, Greater}
use Rattle.std.specs.BTreeMap.{BTreeMap, Updates, get}
use Rattle.std.proofs.lemmas.Bool.{cases_Bool, eqb-false, eqb-true, ltb-true, ne_eqb}
use Rattle.std.proofs.lemmas.List.{take_all, take_more}
use Rattle.std.proofs.lemmas.List.Folds.{find-append}
use Rattle.std.proofs.lemmas.List.Elements.{All-push}
use Rattle.g_forks.specs.Forks.{HasNoFork, LieAlike, first_of}
use Rattle.g_forks.specs.declared.held.Held.{Held}

same_key : (a b : ℕ) → is_eq (nat_cmp a b) ≡ (a == b)
same_key a b = by (cases_Bool (nat_lt a b))
  where
    equal : (t : Bool) → is_eq (cond t Equal Greater) ≡ t
    equal true = refl
    equal false = refl

    by : (nat_lt a b ≡ true) ⊎ (nat_lt a b ≡ false) → is_eq (nat_cmp a b) ≡ (a == b)
    by (inl less) =
        let below : a < b = ltb-true a b less in
        ap (λ t. is_eq (cond t Less (cond (a == b) Equal Greater))) less ∙ sym (ne_eqb a b (λ same. let no : ⊥ = omega (arith, same) in no))
    by (inr more) = ap (λ t. is_eq (cond t Less (cond (a == b) Equal Greater))) more ∙ equal (a == b)

or_none : (o : Option Held) → option_or o None ≡ o
or_none None = refl
or_none (Some d) = refl

-- It is new: no dump before it has its number.
pub new_number : (m m' : BTreeMap ℕ Held) (d : Held) → is_some (get nat_cmp m d.number) ≡ false → Updates nat_cmp m m' d.number (Some d)
    → (n : ℕ) → get nat_cmp m' n ≡ option_or (get nat_cmp m n) (cond (d.number == n) (Some d) None)
new_number m m' d new updates n = updates.0 n ∙ ap (λ t. cond t (Some d) (get nat_cmp m n)) (same_key d.number n) ∙ by (cases_Bool (d.number == n))
  where
    none_here : (o : Option Held) → is_some o ≡ false → o ≡ None
    none_here None is = refl
    none_here (Some e) is = let no : ⊥ = cc in absurd no

    by : ((d.number == n) ≡ true) ⊎ ((d.number == n) ≡ false) → cond (d.number == n) (Some d) (get nat_cmp m n) ≡ option_or (get nat_cmp m n) (cond (d.number == n) (Some d) None)
    by (inl same) =
        let none : get nat_cmp m n ≡ None = subst (λ (k : ℕ). get nat_cmp m k ≡ None) (eqb-true d.number n same) (none_here (get nat_cmp m d.number) new) in
        ap (λ t. cond t (Some d) (get nat_cmp m n)) same ∙ sym (ap (λ t. option_or (get nat_cmp m n) (cond t (Some d) None)) same ∙ ap (λ o. option_or o (Some d)) none)
    by (inr other) = ap (λ t. cond t (Some d) (get nat_cmp m n)) other ∙ sym (ap (λ t. option_or (get nat_cmp m n) (cond t (Some d) None)) other ∙ or_none (get nat_cmp m n))

-- It isn't: an earlier dump has its number.
pub known_number : (m : BTreeMap ℕ Held) (d : Held) → is_some (get nat_cmp m d.number) ≡ true → (n : ℕ) → get nat_cmp m n ≡ option_or (get nat_cmp m n) (cond (d.number == n) (Some d) None)
known_number m d known n = by (cases_Bool (d.number == n))
  where
    stays : (o p : Option Held) → is_some o ≡ true → o ≡ option_or o p
    stays None p is = let no : ⊥ = cc in absurd no
    stays (Some e) p is = refl

    by : ((d.number == n) ≡ true) ⊎ ((d.number == n) ≡ false) → get nat_cmp m n ≡ option_or (get nat_cmp m n) (cond (d.number == n) (Some d) None)
    by (inl same) = stays (get nat_cmp m n) (cond (d.number == n) (Some d) None) (subst (λ (k : ℕ). is_some (get nat_cmp m k) ≡ true) (eqb-true d.number n same) known)
    by (inr other) = sym (ap (λ t. option_or (get nat_cmp m n) (cond t (Some d) None)) other ∙ or_none (get nat_cmp m n))

-- The map of some dumps, and of these and one more.
pub one_more : (m m' : BTreeMap ℕ Held) (i : ℕ) (ds : List Held) (e : Held) → i < length ds → ((n : ℕ) → get nat_cmp m n ≡ first_of n (take i ds))
    → ((n : ℕ) → get nat_cmp m' n ≡ option_or (get nat_cmp m n) (cond ((get_or ds i e).number == n) (Some (get_or ds i e)) None)) → (n : ℕ) → get nat_cmp m' n ≡ first_of n (take (i + 1) ds)
one_more m m' i ds e within has adds n =
    let d : Held = get_or ds i e in
    adds n ∙ ap (λ o. option_or o (cond (d.number == n) (Some d) None)) (has n) ∙ sym (find-append (λ (f : Held). f.number == n) (take i ds) (d ∷ []))
    ∙ ap (first_of n) (sym (take_more ds i e within))

-- THE SECOND RACK: no fork among some of its dumps, and among these and one more.
pub no_fork_more : (first : List Held) (m : BTreeMap ℕ Held) (i : ℕ) (second : List Held) (e : Held) → i < length second → ((n : ℕ) → get nat_cmp m n ≡ first_of n first)
    → HasNoFork first (take i second) → ForSome (get nat_cmp m (get_or second i e).number) (λ twin. LieAlike twin (get_or second i e)) → HasNoFork first (take (i + 1) second)
no_fork_more first m i second e within has none one =
    subst (HasNoFork first) (sym (take_more second i e within))
    (All-push (λ (d : Held). ForSome (first_of d.number first) (λ twin. LieAlike twin d)) (take i second) (get_or second i e) none (λ x is. one x (has (get_or second i e).number ∙ is)))

pub no_fork_all : (first : List Held) (i : ℕ) (second : List Held) → length second ≤ i → HasNoFork first (take i second) → HasNoFork first second
no_fork_all first i second over = subst (HasNoFork first) (take_all i second over)
