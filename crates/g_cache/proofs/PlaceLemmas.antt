-- Cached blocks at places: finding, adding and removing one, and which places stay free.
-- serves: forget (gone, others), keep, recall (block, first, found, missed)
use Rattle.std.proofs.Common.{◌≡◌, ◌≢◌, ◌∙◌, ℕ, zero, suc, ◌+◌, ◌-◌, ◌<◌, ◌≤◌, Bool, true, false, cond, List, [], ◌∷◌, ◌++◌, take, length, get_or, Option, Some, None, is_some, Result, Ok, Err, is_ok, is_err, refl, sym, ap, subst, arith, nat_eq, eqb-true, true≢false, slice_get}
use Rattle.std.proofs.Math.ListN.{set}
use Rattle.std.proofs.lemmas.Map.{lookup-remove_entry}
use Rattle.std.specs.Cmp.{nat_eq_equiv}
use Rattle.std.specs.Prelude.{OnOk}
use Rattle.std.specs.List.{All, AllPairs, IsDistinct}
use Rattle.std.specs.Map.{keys_of, lookup, lookup_entry, remove_entry}
use Rattle.std.specs.Option.{option_map, option_map_or}
use Rattle.std.proofs.lemmas.List.{length-set, get_or-set_same, get_or-set_other, length-take-le, get_or-take, length-append, get_or_append_left, get_or_push, take_all}
use Rattle.std.proofs.lemmas.List.Elements.{All-head, All-tail, All-cons, All-nil, All-take, All-append, All-weaker}
use Rattle.std.proofs.lemmas.List.Kept.{AllPairs-cons}
use Rattle.std.proofs.lemmas.List.Quantifiers.{all_pairs_push}
use Rattle.std.proofs.lemmas.Option.{get_or_from_slice_get, slice_get-get_or}
use Rattle.lru.specs.LruCache.{LruCache, lru_cache, promoted, put_entries}
use Rattle.g_cache.specs.CachedDisc.{kept_block, without_block}
use Rattle.g_cache.specs.Places.{kept_at, ArePlaces}

module _ (blocks : List (List ℕ)) (k : ℕ) where
  abbrev block_at : ℕ → List ℕ
  block_at p = get_or blocks p []

  pub found_at : (es : List (ℕ × ℕ)) → kept_block k (kept_at blocks es) ≡ option_map block_at (lookup (nat_eq k) es)
  found_at [] = refl
  found_at (e ∷ es) = elim (nat_eq k e.0) as (λ t. cond t (Some (block_at e.1)) (kept_block k (kept_at blocks es)) ≡ option_map block_at (cond t (Some e.1) (lookup (nat_eq k) es))) [ true ↦ refl | false ↦ found_at es ]

  pub without_at : (es : List (ℕ × ℕ)) → without_block k (kept_at blocks es) ≡ kept_at blocks (remove_entry (nat_eq k) es)
  without_at [] = refl
  without_at (e ∷ es) =
      elim (nat_eq k e.0) as (λ t. cond t (kept_at blocks es) ((e.0, block_at e.1) ∷ without_block k (kept_at blocks es)) ≡ kept_at blocks (cond t es (e ∷ remove_entry (nat_eq k) es))) [
        | true ↦ refl
        | false ↦ ap (λ fs. (e.0, block_at e.1) ∷ fs) (without_at es)
      ]

  pub none_at : (es : List (ℕ × ℕ)) → kept_block k (kept_at blocks es) ≡ None → lookup (nat_eq k) es ≡ None
  none_at es none = none_of (lookup (nat_eq k) es) (sym (found_at es) ∙ none)
    where
      none_of : (o : Option ℕ) → option_map block_at o ≡ None → o ≡ None
      none_of None e = refl
      none_of (Some p) e = absurd (true≢false (ap is_some e))

pub take_at : (blocks : List (List ℕ)) (n : ℕ) (es : List (ℕ × ℕ)) → kept_at blocks (take n es) ≡ take n (kept_at blocks es)
take_at blocks zero es = refl
take_at blocks (suc n) [] = refl
take_at blocks (suc n) (e ∷ es) = ap (λ fs. (e.0, get_or blocks e.1 []) ∷ fs) (take_at blocks n es)

pub set_at : (blocks : List (List ℕ)) (p : ℕ) (block : List ℕ) (es : List (ℕ × ℕ)) → All (λ e. e.1 ≢ p) es → kept_at (set blocks p block) es ≡ kept_at blocks es
set_at blocks p block [] other = refl
set_at blocks p block (e ∷ es) other =
    λ i. (e.0, get_or-set_other blocks p e.1 block [] (All-head (λ f. f.1 ≢ p) e es other) i) ∷ set_at blocks p block es (All-tail (λ f. f.1 ≢ p) e es other) i

-- a block is stored at a place that holds no other
pub put_at : (blocks : List (List ℕ)) (k p : ℕ) (block : List ℕ) (es : List (ℕ × ℕ)) → p < length blocks → All (λ e. e.1 ≢ p) (take 63 es)
    → kept_at (set blocks p block) ((k, p) ∷ take 63 es) ≡ (k, block) ∷ take 63 (kept_at blocks es)
put_at blocks k p block es within other =
    λ i. (k, get_or-set_same blocks p block [] within i) ∷ (set_at blocks p block (take 63 es) other ∙ take_at blocks 63 es) i

-- the places

abbrev Apart : List (ℕ × ℕ) → Type 0
Apart es = AllPairs (λ (d e : ℕ × ℕ). d.1 ≢ e.1) es

abbrev Lacks : ℕ → List (ℕ × ℕ) → Type 0
Lacks p es = All (λ (e : ℕ × ℕ). e.1 ≢ p) es

rest_apart : (e : ℕ × ℕ) (es : List (ℕ × ℕ)) → Apart (e ∷ es) → Apart es
rest_apart e es apart = λ i j d lower within. apart (suc i) (suc j) d (omega arith) (omega arith)

first_apart : (e : ℕ × ℕ) (es : List (ℕ × ℕ)) → Apart (e ∷ es) → Lacks e.1 es
first_apart e es apart = λ k d within same. apart 0 (suc k) d (omega arith) (omega arith) (sym same)

module _ (P : ℕ × ℕ → Type 0) (test : ℕ → Bool) where
  pub all_left : (es : List (ℕ × ℕ)) → All P es → All P (remove_entry test es)
  all_left [] all = all
  all_left (e ∷ es) all =
      elim (test e.0) as (λ t. All P (cond t es (e ∷ remove_entry test es))) [
        | true ↦ All-tail P e es all
        | false ↦ All-cons P e (remove_entry test es) (All-head P e es all) (all_left es (All-tail P e es all))
      ]

module _ (test : ℕ → Bool) where
  pub apart_left : (es : List (ℕ × ℕ)) → Apart es → Apart (remove_entry test es)
  apart_left [] apart = apart
  apart_left (e ∷ es) apart =
      elim (test e.0) as (λ t. Apart (cond t es (e ∷ remove_entry test es))) [
        | true ↦ rest_apart e es apart
        | false ↦
            AllPairs-cons (λ (d f : ℕ × ℕ). d.1 ≢ f.1) e (remove_entry test es)
            (All-weaker (λ f. f.1 ≢ e.1) (λ f. e.1 ≢ f.1) (λ f h same. h (sym same)) (remove_entry test es) (all_left (λ f. f.1 ≢ e.1) test es (first_apart e es apart)))
            (apart_left es (rest_apart e es apart))
      ]

  pub place_lacks : (es : List (ℕ × ℕ)) (p : ℕ) → Apart es → lookup test es ≡ Some p → Lacks p (remove_entry test es)
  place_lacks [] p apart found = All-nil (λ e. e.1 ≢ p)
  place_lacks (e ∷ es) p apart found =
      elim (test e.0) as (λ t. cond t (Some e.1) (lookup test es) ≡ Some p → Lacks p (cond t es (e ∷ remove_entry test es))) [
        | true ↦ λ is. let same : e.1 ≡ p = cc in subst (λ q. Lacks q es) same (first_apart e es apart)
        | false ↦ λ is. All-cons (λ f. f.1 ≢ p) e (remove_entry test es) (found_apart es e.1 p is (first_apart e es apart)) (place_lacks es p (rest_apart e es apart) is)
      ] found
    where
      found_apart : (fs : List (ℕ × ℕ)) (q r : ℕ) → lookup test fs ≡ Some r → Lacks q fs → q ≢ r
      found_apart [] q r is lacks = λ _. true≢false (ap is_some (sym is))
      found_apart (f ∷ fs) q r is lacks =
          elim (test f.0) as (λ t. cond t (Some f.1) (lookup test fs) ≡ Some r → q ≢ r) [
            | true ↦ λ e same. let here : f.1 ≡ r = cc in All-head (λ g. g.1 ≢ q) f fs lacks (here ∙ sym same)
            | false ↦ λ e. found_apart fs q r e (All-tail (λ g. g.1 ≢ q) f fs lacks)
          ] is

  pub fewer : (es : List (ℕ × ℕ)) (p : ℕ) → lookup test es ≡ Some p → length (remove_entry test es) + 1 ≡ length es
  fewer [] p found = absurd (true≢false (sym (ap is_some found)))
  fewer (e ∷ es) p found =
      elim (test e.0) as (λ t. cond t (Some e.1) (lookup test es) ≡ Some p → length (cond t es (e ∷ remove_entry test es)) + 1 ≡ suc (length es)) [
        | true ↦ λ _. omega arith
        | false ↦ λ is. let rest = fewer es p is in omega (arith, rest)
      ] found

  pub place_holds : (P : ℕ → Type 0) (es : List (ℕ × ℕ)) (p : ℕ) → lookup test es ≡ Some p → All (λ e. P e.1) es → P p
  place_holds P [] p found all = absurd (true≢false (sym (ap is_some found)))
  place_holds P (e ∷ es) p found all =
      elim (test e.0) as (λ t. cond t (Some e.1) (lookup test es) ≡ Some p → P p) [
        | true ↦ λ is. let same : e.1 ≡ p = cc in subst P same (All-head (λ f. P f.1) e es all)
        | false ↦ λ is. place_holds P es p is (All-tail (λ f. P f.1) e es all)
      ] found

-- an unused place moves to the front
apart_first : (k p : ℕ) (es : List (ℕ × ℕ)) → Lacks p es → Apart es → Apart ((k, p) ∷ es)
apart_first k p es lacks apart = AllPairs-cons (λ (d e : ℕ × ℕ). d.1 ≢ e.1) (k, p) es (All-weaker (λ e. e.1 ≢ p) (λ e. p ≢ e.1) (λ e h same. h (sym same)) es lacks) apart

apart_taken : (n : ℕ) (es : List (ℕ × ℕ)) → n ≤ length es → Apart es → Apart (take n es)
apart_taken n es within apart = λ i j d lower inside same.
    let len = length-take-le n es within in
    apart i j d lower (omega (arith, inside, len)) (ap (λ (e : ℕ × ℕ). e.1) (sym (get_or-take n es i d (omega (arith, lower, inside, len)))) ∙ same ∙ ap (λ (e : ℕ × ℕ). e.1) (get_or-take n es j d (omega (arith, inside, len))))

module _ (cap : ℕ) (es : List (ℕ × ℕ)) (free : List ℕ) (blocks : List (List ℕ)) (are : ArePlaces cap es free blocks) where
  -- a block that is used moves to the front
  pub recalled_places : (k p : ℕ) → lookup (nat_eq k) es ≡ Some p → ArePlaces cap ((k, p) ∷ remove_entry (nat_eq k) es) free blocks
  recalled_places k p found =
      let left = remove_entry (nat_eq k) es in
      let lacks = place_lacks (nat_eq k) es p are.apart found in record {
        room = are.room;
        size = are.size;
        counted = (let less = fewer (nat_eq k) es p found in let counted = are.counted in omega (arith, less, counted));
        apart = apart_first k p left lacks (apart_left (nat_eq k) es are.apart);
        within =
            All-cons (λ e. e.1 < 64) (k, p) left (place_holds (nat_eq k) (λ q. q < 64) es p found are.within) (all_left (λ e. e.1 < 64) (nat_eq k) es are.within);
        distinct = are.distinct;
        below = are.below;
        unused =
            All-weaker (λ q. Lacks q es) (λ q. Lacks q ((k, p) ∷ left)) (λ q lack. All-cons (λ e. e.1 ≢ q) (k, p) left (place_holds (nat_eq k) (λ r. r ≢ q) es p found lack) (all_left (λ e. e.1 ≢ q) (nat_eq k) es lack))
            free are.unused;
      }

  -- the place of a dropped block is free
  pub forgotten_places : (k p : ℕ) → lookup (nat_eq k) es ≡ Some p → ArePlaces cap (remove_entry (nat_eq k) es) (free ++ p ∷ []) blocks
  forgotten_places k p found =
      let left = remove_entry (nat_eq k) es in
      let one : All (λ (q : ℕ). q < 64) (p ∷ []) = All-cons (λ q. q < 64) p [] (place_holds (nat_eq k) (λ q. q < 64) es p found are.within) (All-nil (λ q. q < 64)) in record {
        room = are.room;
        size = are.size;
        counted = (let less = fewer (nat_eq k) es p found in let counted = are.counted in let len = length-append free (p ∷ []) in omega (arith, less, counted, len));
        apart = apart_left (nat_eq k) es are.apart;
        within = all_left (λ e. e.1 < 64) (nat_eq k) es are.within;
        distinct =
            all_pairs_push (λ (q r : ℕ). q ≢ r) free p are.distinct
            (λ i d within same. place_holds (nat_eq k) (λ r. r ≢ get_or free i d) es p found (are.unused i d within) (sym same));
        below = All-append (λ q. q < 64) free (p ∷ []) are.below one;
        unused =
            All-append (λ q. Lacks q left) free (p ∷ []) (All-weaker (λ q. Lacks q es) (λ q. Lacks q left) (λ q lack. all_left (λ e. e.1 ≢ q) (nat_eq k) es lack) free are.unused)
            (All-cons (λ q. Lacks q left) p [] (place_lacks (nat_eq k) es p are.apart found) (All-nil (λ q. Lacks q left)));
      }

  -- a block is stored at a free place
  module _ (rest : List ℕ) (p : ℕ) (is : free ≡ rest ++ p ∷ []) where
    few : length es + length rest ≡ 63
    few = let counted = are.counted in let len = ap length is ∙ length-append rest (p ∷ []) in omega (arith, counted, len)

    at_rest : (i d : ℕ) → i < length rest → get_or free i d ≡ get_or rest i d
    at_rest i d within = ap (λ l. get_or l i d) is ∙ get_or_append_left rest (p ∷ []) d i within

    last_is : (d : ℕ) → get_or free (length rest) d ≡ p
    last_is d = ap (λ l. get_or l (length rest) d) is ∙ get_or_push rest p d (length rest) refl

    last_within : length rest < length free
    last_within = let len = ap length is ∙ length-append rest (p ∷ []) in omega (arith, len)

    pub place_below : p < 64
    place_below = subst (λ q. q < 64) (last_is 0) (are.below (length rest) 0 last_within)

    pub place_unused : Lacks p es
    place_unused = subst (λ q. Lacks q es) (last_is 0) (are.unused (length rest) 0 last_within)

    pub filled_places : (k : ℕ) (block : List ℕ) → ArePlaces cap ((k, p) ∷ take 63 es) rest (set blocks p block)
    filled_places k block =
        let whole : take 63 es ≡ es = take_all 63 es (let n = few in omega (arith, n)) in
        let counted = few in record {
          room = are.room;
          size = length-set blocks p block ∙ are.size;
          counted = (let len = ap length whole in omega (arith, counted, len));
          apart = subst (λ fs. Apart ((k, p) ∷ fs)) (sym whole) (apart_first k p es place_unused are.apart);
          within = subst (λ fs. All (λ (e : ℕ × ℕ). e.1 < 64) ((k, p) ∷ fs)) (sym whole) (All-cons (λ e. e.1 < 64) (k, p) es place_below are.within);
          distinct = λ i j d lower within same.
              let i_within : i < length rest = omega (arith, lower, within) in
              are.distinct i j d lower (let all = last_within in omega (arith, within, all)) (at_rest i d i_within ∙ same ∙ sym (at_rest j d within));
          below = λ i d within. subst (λ q. q < 64) (at_rest i d within) (are.below i d (let all = last_within in omega (arith, within, all)));
          unused = λ i d within.
              let all = last_within in
              let lack : Lacks (get_or rest i d) es = subst (λ q. Lacks q es) (at_rest i d within) (are.unused i d (omega (arith, within, all))) in
              subst (λ fs. Lacks (get_or rest i d) ((k, p) ∷ fs)) (sym whole)
              (All-cons (λ e. e.1 ≢ get_or rest i d) (k, p) es
              (λ same. are.distinct i (length rest) d within all (at_rest i d within ∙ sym same ∙ sym (last_is d))) lack);
        }

  -- a block is stored at the place of the one that it evicts
  module _ (none : free ≡ []) (last : ℕ × ℕ) (is : slice_get es (length es - 1) ≡ Some last) where
    all_kept : length es ≡ 64
    all_kept = let counted = are.counted in let len = ap length none in omega (arith, counted, len)

    last_at : (d : ℕ × ℕ) → get_or es 63 d ≡ last
    last_at d =
        let n = all_kept in
        let on : length es - 1 ≡ 63 = omega (arith, n) in
        get_or_from_slice_get es 63 last d (ap (slice_get es) (sym on) ∙ is)

    pub last_below : last.1 < 64
    last_below = let n = all_kept in subst (λ (e : ℕ × ℕ). e.1 < 64) (last_at last) (are.within 63 last (omega (arith, n)))

    pub last_lacks : Lacks last.1 (take 63 es)
    last_lacks = λ i d within same.
        let n = all_kept in
        let len = length-take-le 63 es (omega (arith, n)) in
        are.apart i 63 d (omega (arith, within, len)) (omega (arith, n))
        (ap (λ (e : ℕ × ℕ). e.1) (sym (get_or-take 63 es i d (omega (arith, within, len)))) ∙ same ∙ ap (λ (e : ℕ × ℕ). e.1) (sym (last_at d)))

    pub pushed_places : (k : ℕ) (block : List ℕ) → ArePlaces cap ((k, last.1) ∷ take 63 es) free (set blocks last.1 block)
    pushed_places k block =
        let n = all_kept in
        let len = length-take-le 63 es (omega (arith, n)) in record {
          room = are.room;
          size = length-set blocks last.1 block ∙ are.size;
          counted = (let counted = are.counted in omega (arith, counted, len, n));
          apart = apart_first k last.1 (take 63 es) last_lacks (apart_taken 63 es (omega (arith, n)) are.apart);
          within = All-cons (λ e. e.1 < 64) (k, last.1) (take 63 es) last_below (All-take (λ e. e.1 < 64) 63 es are.within);
          distinct = are.distinct;
          below = are.below;
          unused = λ i d within. let e = ap length none in absurd (omega (arith, e, within));
        }

-- the calls

entry_found : (k p : ℕ) (es : List (ℕ × ℕ)) → lookup (nat_eq k) es ≡ Some p → lookup_entry (nat_eq k) es ≡ Some (k, p)
entry_found k p [] is = absurd (true≢false (sym (ap is_some is)))
entry_found k p (e ∷ es) is =
    elim (nat_eq k e.0) as (λ t. nat_eq k e.0 ≡ t → cond t (Some e.1) (lookup (nat_eq k) es) ≡ Some p → cond t (Some e) (lookup_entry (nat_eq k) es) ≡ Some (k, p)) [
      | true ↦ λ t found. let value : e.1 ≡ p = cc in let key : e.0 ≡ k = sym (eqb-true k e.0 t) in λ i. Some (key i, value i)
      | false ↦ λ t found. entry_found k p es found
    ] refl is

entry_missed : (k : ℕ) (es : List (ℕ × ℕ)) → lookup (nat_eq k) es ≡ None → lookup_entry (nat_eq k) es ≡ None
entry_missed k [] none = refl
entry_missed k (e ∷ es) none =
    elim (nat_eq k e.0) as (λ t. cond t (Some e.1) (lookup (nat_eq k) es) ≡ None → cond t (Some e) (lookup_entry (nat_eq k) es) ≡ None) [
      | true ↦ λ found. absurd (true≢false (ap is_some found))
      | false ↦ λ found. entry_missed k es found
    ] none

pub promoted_found : (k p : ℕ) (es : List (ℕ × ℕ)) → lookup (nat_eq k) es ≡ Some p → promoted (nat_eq k) es ≡ (k, p) ∷ remove_entry (nat_eq k) es
promoted_found k p es is = ap (λ o. option_map_or (λ e. e ∷ remove_entry (nat_eq k) es) o es) (entry_found k p es is)

pub promoted_missed : (k : ℕ) (es : List (ℕ × ℕ)) → lookup (nat_eq k) es ≡ None → promoted (nat_eq k) es ≡ es
promoted_missed k es none = ap (λ o. option_map_or (λ e. e ∷ remove_entry (nat_eq k) es) o es) (entry_missed k es none)

pub put_missed : (c : LruCache ℕ ℕ) (k p : ℕ) → c.cap ≡ 64 → lookup (nat_eq k) c.entries ≡ None → put_entries nat_eq c k p ≡ (k, p) ∷ take 63 c.entries
put_missed c k p room none =
    ap (λ o. option_map_or (λ e. (e.0, p) ∷ remove_entry (nat_eq k) c.entries) o ((k, p) ∷ take (c.cap - 1) c.entries)) (entry_missed k c.entries none) ∙ ap (λ n. (k, p) ∷ take (n - 1) c.entries) room

module _ (c after : LruCache ℕ ℕ) (free : List ℕ) (blocks : List (List ℕ)) (are : ArePlaces c.cap c.entries free blocks) (kept : List (ℕ × List ℕ)) (view : kept_at blocks c.entries ≡ kept) (k p : ℕ) (block : List ℕ)
    (none : kept_block k kept ≡ None) (done : after ≡ lru_cache (put_entries nat_eq c k p) c.cap) where
  not_there : lookup (nat_eq k) c.entries ≡ None
  not_there = none_at blocks k c.entries (ap (kept_block k) view ∙ none)

  pub put_entries_are : after.entries ≡ (k, p) ∷ take 63 c.entries
  put_entries_are = ap (λ (d : LruCache ℕ ℕ). d.entries) done ∙ put_missed c k p are.room not_there

  pub put_kept : p < 64 → Lacks p (take 63 c.entries) → kept_at (set blocks p block) after.entries ≡ (k, block) ∷ take 63 kept
  put_kept below lacks =
      let size = are.size in
      ap (kept_at (set blocks p block)) put_entries_are ∙ put_at blocks k p block c.entries (omega (arith, below, size)) lacks ∙ ap (λ l. (k, block) ∷ take 63 l) view

  pub put_places : (rest : List ℕ) → ArePlaces c.cap ((k, p) ∷ take 63 c.entries) rest (set blocks p block) → ArePlaces after.cap after.entries rest (set blocks p block)
  put_places rest so =
      subst (λ es. ArePlaces after.cap es rest (set blocks p block)) (sym put_entries_are)
      (subst (λ n. ArePlaces n ((k, p) ∷ take 63 c.entries) rest (set blocks p block)) (sym (ap (λ (d : LruCache ℕ ℕ). d.cap) done)) so)

-- finding a block

module _ (c after : LruCache ℕ ℕ) (free : List ℕ) (blocks : List (List ℕ)) (are : ArePlaces c.cap c.entries free blocks) (kept : List (ℕ × List ℕ)) (view : kept_at blocks c.entries ≡ kept) (k : ℕ)
    (done : after ≡ lru_cache (promoted (nat_eq k) c.entries) c.cap) where
  entries_are : after.entries ≡ promoted (nat_eq k) c.entries
  entries_are = ap (λ (d : LruCache ℕ ℕ). d.entries) done

  pub recall_places : (o : Option ℕ) → o ≡ lookup (nat_eq k) c.entries → ArePlaces after.cap after.entries free blocks
  recall_places None found =
      subst (λ (d : LruCache ℕ ℕ). ArePlaces d.cap d.entries free blocks) (sym done) (subst (λ es. ArePlaces c.cap es free blocks) (sym (promoted_missed k c.entries (sym found))) are)
  recall_places (Some p) found =
      subst (λ (d : LruCache ℕ ℕ). ArePlaces d.cap d.entries free blocks) (sym done)
      (subst (λ es. ArePlaces c.cap es free blocks) (sym (promoted_found k p c.entries (sym found))) (recalled_places c.cap c.entries free blocks are k p (sym found)))

  pub recall_found : (p : ℕ) → lookup (nat_eq k) c.entries ≡ Some p → kept_block k kept ≡ Some (get_or blocks p [])
  recall_found p found = ap (kept_block k) (sym view) ∙ found_at blocks k c.entries ∙ ap (option_map (block_at blocks k)) found

  pub recall_first : (p : ℕ) → lookup (nat_eq k) c.entries ≡ Some p → kept_at blocks after.entries ≡ (k, get_or blocks p []) ∷ without_block k kept
  recall_first p found =
      ap (kept_at blocks) (entries_are ∙ promoted_found k p c.entries found)
      ∙ ap (λ l. (k, get_or blocks p []) ∷ l) (sym (without_at blocks k c.entries) ∙ ap (without_block k) view)

  pub recall_none : lookup (nat_eq k) c.entries ≡ None → kept_block k kept ≡ None
  recall_none none = ap (kept_block k) (sym view) ∙ found_at blocks k c.entries ∙ ap (option_map (block_at blocks k)) none

  pub recall_same : lookup (nat_eq k) c.entries ≡ None → kept_at blocks after.entries ≡ kept
  recall_same none = ap (kept_at blocks) (entries_are ∙ promoted_missed k c.entries none) ∙ view

  pub place_within : (p : ℕ) → lookup (nat_eq k) c.entries ≡ Some p → p < length blocks
  place_within p found =
      let below = place_holds (nat_eq k) (λ q. q < 64) c.entries p found are.within in
      let size = are.size in
      omega (arith, below, size)

-- dropping a block

remove_none : (test : ℕ → Bool) (es : List (ℕ × ℕ)) → lookup test es ≡ None → remove_entry test es ≡ es
remove_none test [] none = refl
remove_none test (e ∷ es) none =
    elim (test e.0) as (λ t. cond t (Some e.1) (lookup test es) ≡ None → cond t es (e ∷ remove_entry test es) ≡ e ∷ es) [
      | true ↦ λ is. absurd (true≢false (ap is_some is))
      | false ↦ λ is. ap (λ l. e ∷ l) (remove_none test es is)
    ] none

module _ (c after : LruCache ℕ ℕ) (free : List ℕ) (blocks : List (List ℕ)) (are : ArePlaces c.cap c.entries free blocks) (kept : List (ℕ × List ℕ)) (view : kept_at blocks c.entries ≡ kept) (k : ℕ)
    (done : after ≡ lru_cache (remove_entry (nat_eq k) c.entries) c.cap) where
  pub forget_some : (p : ℕ) (now : List ℕ) → lookup (nat_eq k) c.entries ≡ Some p → now ≡ free ++ p ∷ [] → ArePlaces after.cap after.entries now blocks
  forget_some p now found is =
      subst (λ (d : LruCache ℕ ℕ). ArePlaces d.cap d.entries now blocks) (sym done)
      (subst (λ l. ArePlaces c.cap (remove_entry (nat_eq k) c.entries) l blocks) (sym is) (forgotten_places c.cap c.entries free blocks are k p found))

  pub forget_none : lookup (nat_eq k) c.entries ≡ None → ArePlaces after.cap after.entries free blocks
  forget_none none =
      subst (λ (d : LruCache ℕ ℕ). ArePlaces d.cap d.entries free blocks) (sym done)
      (subst (λ es. ArePlaces c.cap es free blocks) (sym (remove_none (nat_eq k) c.entries none)) are)

  pub forget_gone : IsDistinct nat_eq (keys_of c.entries) → kept_block k (kept_at blocks after.entries) ≡ None
  forget_gone distinct =
      ap (λ (d : LruCache ℕ ℕ). kept_block k (kept_at blocks d.entries)) done ∙ found_at blocks k (remove_entry (nat_eq k) c.entries)
      ∙ ap (option_map (block_at blocks k))
      (lookup-remove_entry nat_eq_equiv (nat_eq k) (λ x y t. nat_eq_equiv.congr k x y t) k c.entries distinct
      ∙ ap (λ (b : Bool). cond b None (lookup (nat_eq k) c.entries)) (nat_eq_equiv.refl k))

  pub forget_others : kept_at blocks after.entries ≡ without_block k kept
  forget_others = ap (λ (d : LruCache ℕ ℕ). kept_at blocks d.entries) done ∙ sym (without_at blocks k c.entries) ∙ ap (without_block k) view

-- what a result means

pub on_ok : {A E P : Type 0} (r : Result A E) → is_err r ≡ false → OnOk r P → P
on_ok (Ok a) e p = p
on_ok (Err x) e p = absurd (true≢false e)

pub on_done : {A E P : Type 0} (r : Result A E) → is_ok r ≡ true → OnOk r P → P
on_done (Ok a) e p = p
on_done (Err x) e p = absurd (true≢false (sym e))

pub none_last : {A : Type 0} (xs : List A) → None ≡ slice_get xs (length xs - 1) → xs ≡ []
none_last [] none = refl
none_last (x ∷ xs) none = absurd (true≢false (sym (ap is_some (none ∙ slice_get-get_or (x ∷ xs) (length (x ∷ xs) - 1) x (omega arith)))))

pub none_full : (cap : ℕ) (es : List (ℕ × ℕ)) (free : List ℕ) (blocks : List (List ℕ)) → ArePlaces cap es free blocks → free ≡ [] → es ≡ [] → ⊥
none_full cap es free blocks are no_free no_place =
    let counted = are.counted in
    let a = ap length no_free in
    let b = ap length no_place in
    omega (arith, counted, a, b)
