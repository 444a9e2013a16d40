-- If no device fails, the answer of a call and the state after it are determined.
-- serves: lib, StartLemmas
use Rattle.std.proofs.Common.{◌≡◌, ℕ, ◌+◌, ◌<◌, ◌≤◌, List, [], ◌∷◌, Option, Some, None, refl, sym, ◌∙◌, ap, subst, inl, inr, arith}
use Rattle.std.specs.Prelude.{◌⊎◌, Bool, true, false, T, cond, map, nat_lt, ◌==◌, sum_by, Result, Ok, Err, MatchOption, option_map, unwrap_or, ◌||◌, ◌&&◌, if◌then◌else◌}
use Rattle.std.specs.Ordering.{nat_cmp, eq_by_cmp, is_lt}
use Rattle.std.specs.declared.cmp.Ordering.TheVariants.{Less, Equal, Greater}
use Rattle.std.specs.Cmp.{unsigned_tied}
use Rattle.std.specs.FinMap.{entries, entries_sorted, from_sorted, get-entries}
use Rattle.std.specs.FinMap.Entries.{find, is_sorted, below_all}
use Rattle.std.proofs.lemmas.Bool.{eq-eqb, lt-ltb, ltb-true, ne_eqb}
use Rattle.g_name.specs.declared.full.Full.{Full}
use Rattle.g_plain.specs.declared.calls.StoreCall.{StoreCall}
use Rattle.g_plain.specs.declared.calls.StoreReply.{StoreReply}
use Rattle.g_plain.specs.declared.faults.StoreFault.{StoreFault}
use Rattle.g_plain.specs.declared.faults.StoreFault.TheVariants.{DiscFull, DiscReadFault, Stopped}
use Rattle.g_plain.specs.PlainTree.{FileRow}
use Rattle.g_plain.specs.PlainStep.{first_fault, plain_tree, reply_to}
use Rattle.g_store_model.specs.State.{State, Holding, Place, blocks_of, is_candidate, is_taken, offline_before, only_if, place_at, room, taken_blocks, taken_offline, without_all}
use Rattle.g_store_model.specs.CallStep.{IsUnjam, LeftByRefusal, Plain, Planned, after_call, brings_now, changes, commits, early, need, places_after, room_until, touched_by, writes}
use Rattle.g_store_model.specs.Laws.{StepIsOne}

compare : (u v : ℕ) → (u < v) ⊎ ((u ≡ v) ⊎ (v < u))
compare u v = from (nat_lt u v) (nat_lt v u) refl refl
  where
    from : (a b : Bool) → nat_lt u v ≡ a → nat_lt v u ≡ b → (u < v) ⊎ ((u ≡ v) ⊎ (v < u))
    from true b e f = inl (ltb-true u v e)
    from false true e f = inr (inr (ltb-true v u f))
    from false false e f =
        let above : (u < v) → ⊥ = λ l. let t = lt-ltb u v l in cc in
        let below : (v < u) → ⊥ = λ l. let t = lt-ltb v u l in cc in
        inr (inl (omega (arith, above, below)))

and_same : (a b c : Bool) → (c ≡ true → a ≡ b) → (a && c) ≡ (b && c)
and_same a b true same = ap (λ (x : Bool). x && true) (same refl)
and_same true true false same = refl
and_same true false false same = refl
and_same false true false same = refl
and_same false false false same = refl

funext : {A B : Type 0} (f g : A → B) → ((x : A) → f x ≡ g x) → f ≡ g
funext f g same = λ i x. same x i

module _ (s : State) (k : Holding) (who : List ℕ) (call : StoreCall) where
  below : (u v : ℕ) → IsUnjam s k who call u → IsUnjam s k who call v → u < v → (stamp : ℕ) → is_candidate (place_at k.places stamp) ≡ true → nat_lt stamp u ≡ nat_lt stamp v
  below u v one other less stamp is = by_case one.enough
    where
      by_case : ((need s k who call ≤ room_until s k who call u) ⊎ ((stamp : ℕ) → is_candidate (place_at k.places stamp) ≡ true → stamp < u)) → nat_lt stamp u ≡ nat_lt stamp v
      by_case (inl le) = absurd (let short = other.least u less in (let no : ⊥ = omega arith in no))
      by_case (inr all) = let under = all stamp is in lt-ltb stamp u under ∙ sym (lt-ltb stamp v (let more : stamp < v = omega arith in more))

  agree : (u v : ℕ) → IsUnjam s k who call u → IsUnjam s k who call v → (stamp : ℕ) → is_candidate (place_at k.places stamp) ≡ true → nat_lt stamp u ≡ nat_lt stamp v
  agree u v one other stamp is = by_case (compare u v)
    where
      by_case : ((u < v) ⊎ ((u ≡ v) ⊎ (v < u))) → nat_lt stamp u ≡ nat_lt stamp v
      by_case (inl less) = below u v one other less stamp is
      by_case (inr (inl same)) = ap (nat_lt stamp) same
      by_case (inr (inr more)) = sym (below v u other one more stamp is)

same_blocks : (k : Holding) (u v : ℕ) → ((stamp : ℕ) → is_candidate (place_at k.places stamp) ≡ true → nat_lt stamp u ≡ nat_lt stamp v) → taken_blocks k u ≡ taken_blocks k v
same_blocks k u v same =
    ap (λ (f : Full × FileRow → ℕ). sum_by f (entries k.tree.files))
    (funext (λ e. only_if (is_taken k u e.1.stamp) (blocks_of e.1)) (λ e. only_if (is_taken k v e.1.stamp) (blocks_of e.1))
    (λ e. ap (λ (b : Bool). only_if b (blocks_of e.1)) (and_same (nat_lt e.1.stamp u) (nat_lt e.1.stamp v) (is_candidate (place_at k.places e.1.stamp)) (same e.1.stamp))))

-- each entry is what is found at its key
abbrev pub AllOwn : List (ℕ × Place) → List (ℕ × Place) → Type 0
AllOwn all [] = Unit {0}
AllOwn all (e ∷ es) = (find nat_cmp e.0 all ≡ Some e.1) × AllOwn all es

is_less : (a b : Bool) → T (is_lt (cond a Less (cond b Equal Greater))) → a ≡ true
is_less true b t = refl
is_less false true t = absurd t
is_less false false t = absurd t

itself : (n : ℕ) → (n == n) ≡ true
itself n = eq-eqb n n refl

first_true : (a b : Bool) → T (a && b) → T a
first_true true b t = tt
first_true false b t = t

second_true : (a b : Bool) → T (a && b) → T b
second_true true b t = t
second_true false b t = absurd t

more_own : (e : ℕ × Place) (all es : List (ℕ × Place)) → T (below_all nat_cmp e.0 es) → AllOwn all es → AllOwn (e ∷ all) es
more_own e all [] b own = tt
more_own e all (f ∷ fs) b own =
    let less = ltb-true e.0 f.0 (is_less (nat_lt e.0 f.0) (e.0 == f.0) (first_true (is_lt (nat_cmp e.0 f.0)) (below_all nat_cmp e.0 fs) b)) in
    let other : eq_by_cmp nat_cmp f.0 e.0 ≡ false = unsigned_tied f.0 e.0 ∙ ne_eqb f.0 e.0 (λ same. omega (arith, less, same)) in
    (ap (λ (t : Bool). cond t (Some e.1) (find nat_cmp f.0 all)) other ∙ own.0, more_own e all fs (second_true (is_lt (nat_cmp e.0 f.0)) (below_all nat_cmp e.0 fs) b) own.1)

pub own_all : (es : List (ℕ × Place)) → T (is_sorted nat_cmp es) → AllOwn es es
own_all [] sorted = tt
own_all (e ∷ es) sorted =
    let alike : eq_by_cmp nat_cmp e.0 e.0 ≡ true = unsigned_tied e.0 e.0 ∙ itself e.0 in (
      ap (λ (t : Bool). cond t (Some e.1) (find nat_cmp e.0 es)) alike,
      more_own e es es (first_true (below_all nat_cmp e.0 es) (is_sorted nat_cmp es) sorted) (own_all es (second_true (below_all nat_cmp e.0 es) (is_sorted nat_cmp es) sorted)),
    )

same_places : (k : Holding) (u v : ℕ) → ((stamp : ℕ) → is_candidate (place_at k.places stamp) ≡ true → nat_lt stamp u ≡ nat_lt stamp v) → (es : List (ℕ × Place)) → AllOwn (entries k.places) es
    → map (offline_before u) es ≡ map (offline_before v) es
same_places k u v same [] own = refl
same_places k u v same (e ∷ es) own =
    let found : place_at k.places e.0 ≡ e.1 = ap (λ (p : Option Place). unwrap_or p (record { online = true; copy = None })) (get-entries k.places e.0 ∙ own.0) in
    let test = and_same (nat_lt e.0 u) (nat_lt e.0 v) (is_candidate e.1) (λ is. same e.0 (ap is_candidate found ∙ is)) in
    ap (λ (b : Bool). (e.0, if b then record e.1 { online = false } else e.1) ∷ map (offline_before u) es) test
    ∙ ap (λ (ps : List (ℕ × Place)). offline_before v e ∷ ps) (same_places k u v same es own.1)

same_offline : (k : Holding) (u v : ℕ) → ((stamp : ℕ) → is_candidate (place_at k.places stamp) ≡ true → nat_lt stamp u ≡ nat_lt stamp v) → taken_offline u k ≡ taken_offline v k
same_offline k u v same = ap (λ (es : List (ℕ × Place)). let h : Holding = record k { places = from_sorted es } in h) (same_places k u v same (entries k.places) (own_all (entries k.places) (entries_sorted k.places)))

module _ (s : State) (k : Holding) (who : List ℕ) (call : StoreCall) where
  abbrev behind : Holding → State
  behind h = if writes call || brings_now s k who call then record (commits s (record h {
    tree = plain_tree k.tree who call;
    places = places_after k.tree who call h.places;
    kept = without_all (changes k.tree who call) k.kept;
  })) { open_dump = option_map (touched_by s k who call) s.open_dump } else s

  same_after : (u v : ℕ) → taken_offline u k ≡ taken_offline v k → after_call s k who call u ≡ after_call s k who call v
  same_after u v same = ap behind same

  finished : (b : Bool) (n r : ℕ) (u v : ℕ) (p q : Result StoreReply StoreFault) (x y : State) → after_call s k who call u ≡ after_call s k who call v
      → MatchOption (first_fault ((b, DiscFull n r) ∷ (false, DiscReadFault) ∷ (false, Stopped) ∷ [])) ((p ≡ Ok (reply_to k.tree who call)) × (x ≡ after_call s k who call u)) (λ fault. (p ≡ Err fault) × LeftByRefusal s k who call Plain u fault x)
      → MatchOption (first_fault ((b, DiscFull n r) ∷ (false, DiscReadFault) ∷ (false, Stopped) ∷ [])) ((q ≡ Ok (reply_to k.tree who call)) × (y ≡ after_call s k who call v)) (λ fault. (q ≡ Err fault) × LeftByRefusal s k who call Plain v fault y)
      → (p ≡ q) × (x ≡ y)
  finished true n r u v p q x y same one other = (one.0 ∙ sym other.0, one.1 ∙ sym other.1)
  finished false n r u v p q x y same one other = (one.0 ∙ sym other.0, one.1 ∙ same ∙ sym other.1)

  planned : (p q : Result StoreReply StoreFault) (x y : State) → Planned s k who call Plain p x → Planned s k who call Plain q y → (p ≡ q) × (x ≡ y)
  planned p q x y one other =
      let same = agree s k who call one.until other.until one.unjam other.unjam in
      let left : room_until s k who call one.until ≡ room_until s k who call other.until = ap (λ (n : ℕ). room s k + n) (same_blocks k one.until other.until same) in
      finished (nat_lt (room_until s k who call one.until) (need s k who call)) (need s k who call) (room_until s k who call one.until) one.until other.until p q x y
      (same_after one.until other.until (same_offline k one.until other.until same)) one.step
      (subst (λ (r : ℕ). MatchOption (first_fault ((nat_lt r (need s k who call), DiscFull (need s k who call) r) ∷ (false, DiscReadFault) ∷ (false, Stopped) ∷ [])) ((q ≡ Ok (reply_to k.tree who call)) × (y ≡ after_call s k who call other.until)) (λ fault. (q ≡ Err fault) × LeftByRefusal s k who call Plain other.until fault y))
      (sym left) other.step)

  either : (f : Option StoreFault) (p q : Result StoreReply StoreFault) (x y : State)
      → MatchOption f (Planned s k who call Plain p x) (λ fault. (p ≡ Err fault) × (x ≡ s)) → MatchOption f (Planned s k who call Plain q y) (λ fault. (q ≡ Err fault) × (y ≡ s)) → (p ≡ q) × (x ≡ y)
  either None p q x y one other = planned p q x y one other
  either (Some fault) p q x y one other = (one.0 ∙ sym other.0, one.1 ∙ sym other.1)

pub step_is_one : StepIsOne
step_is_one s k who call p q x y one other = either s k who call (early s k who call Plain) p q x y one other
