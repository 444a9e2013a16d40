-- How far the releases came: which reels are below it, and what became of each.
-- serves: ExitLemmas, LossLemmas, crates above
use Rattle.std.proofs.Common.{◌≡◌, ◌≢◌, ℕ, zero, suc, ◌+◌, ◌<◌, ◌≤◌, ◌==◌, Bool, true, false, List, [], ◌∷◌, length, map, take, Option, Some, None, sym, ◌∙◌, ap, arith, subst, inl, inr, slice_get}
use Rattle.std.specs.Prelude.{◌⊎◌, ◌||◌, All, AllPairs, Contains, filter}
use Rattle.std.specs.List.{AllZip}
use Rattle.std.proofs.lemmas.Bool.{cases_Bool, cases_order, cond-false, cond-true}
use Rattle.std.proofs.lemmas.Bool.Decides.{eqb_tells}
use Rattle.std.proofs.lemmas.List.Elements.{All-contains, All-head, All-tail}
use Rattle.std.proofs.lemmas.List.Kept.{AllPairs-from_increasing}
use Rattle.std.proofs.lemmas.Option.{same_Some}
use Rattle.g_tape.specs.Rack.{AreReels, Rack}
use Rattle.g_tape.specs.Reads.{unread}
use Rattle.g_tape.specs.Reel.{Reel, Remains, Shortened, Torn, Unchanged, ending, left_by}
use Rattle.g_disc_contents.specs.Contents.{has}
use Rattle.g_shelf.specs.declared.rack.Listed.{Listed}
use Rattle.g_known.specs.ReelNotes.{AreListed, IsListed}
use Rattle.g_laws_store.proofs.RecordLemmas.{pairs_head, pairs_tail}
use Rattle.g_laws_store.proofs.WaitingLemmas.{mapped_there}
use Rattle.g_process.specs.Exits.{IsBesideDump, IsClearedBy}
use Rattle.g_process.specs.ProcessPlan.{IsFree, IsTaken}
use Rattle.g_process.specs.Releases.{is_taken, released, taken, zeros}
use Rattle.g_process.specs.Progress.{filled}
use Rattle.g_process.proofs.BecomeLemmas.{Becomes, at_serial, zip_becomes}
use Rattle.g_process.proofs.DoneLemmas.{at_other, at_this, has_free, has_taken, held_left, held_part, one_taken}
use Rattle.g_process.proofs.ReelLemmas.{filled_long}

-- A NUMBER ABOVE all of these
abbrev pub top_of : List ℕ → ℕ
top_of [] = 0
top_of (n ∷ ns) = n + 1 + top_of ns

pub below_top : (ns : List ℕ) (n : ℕ) → Contains ns n → n < top_of ns
below_top [] n (i, inside, is) = absurd (let no : ⊥ = omega (arith, inside) in no)
below_top (m ∷ ms) n (zero, inside, is) = omega (arith, is)
below_top (m ∷ ms) n (suc i, inside, is) =
    let rest = below_top ms n (i, omega (arith, inside), is) in
    omega (arith, rest)

abbrev pub names : List Listed → List ℕ
names ls = map (λ l. l.serial) ls

abbrev Below : ℕ → ℕ → Type 0
Below m n = m < n

later : (l : Listed) (ls : List Listed) (n : ℕ) → Contains (names ls) n → Contains (names (l ∷ ls)) n
later l ls n (i, inside, is) = (suc i, omega (arith, inside), is)

named_at : (ls : List Listed) (i : ℕ) (l : Listed) → slice_get ls i ≡ Some l → Contains (names ls) l.serial
named_at [] i l at = absurd (let no : ⊥ = cc in no)
named_at (x ∷ xs) zero l at = (0, omega arith, ap (λ (y : Listed). y.serial) (same_Some x l at))
named_at (x ∷ xs) (suc i) l at = later x xs l.serial (named_at xs i l at)

-- before a list there are those of the lower serials
before_less : (ls : List Listed) → AllPairs Below (names ls) → (i : ℕ) (l : Listed) → slice_get ls i ≡ Some l → (n : ℕ) → Contains (names (take i ls)) n → n < l.serial
before_less [] rising i l at n there = absurd (let no : ⊥ = cc in no)
before_less (x ∷ xs) rising zero l at n (k, inside, is) = absurd (let no : ⊥ = omega (arith, inside) in no)
before_less (x ∷ xs) rising (suc i) l at n (zero, inside, is) =
    let above = All-contains (λ (m : ℕ). x.serial < m) (names xs) l.serial (pairs_head Below x.serial (names xs) rising) (named_at xs i l at) in
    omega (arith, is, above)
before_less (x ∷ xs) rising (suc i) l at n (suc k, inside, is) = before_less xs (pairs_tail Below x.serial (names xs) rising) i l at n (k, omega (arith, inside), is)

less_before : (ls : List Listed) → AllPairs Below (names ls) → (i : ℕ) (l : Listed) → slice_get ls i ≡ Some l → (n : ℕ) → Contains (names ls) n → n < l.serial → Contains (names (take i ls)) n
less_before [] rising i l at n there less = absurd (let no : ⊥ = cc in no)
less_before (x ∷ xs) rising zero l at n (zero, inside, is) less =
    let same = ap (λ (y : Listed). y.serial) (same_Some x l at) in
    absurd (let no : ⊥ = omega (arith, is, same, less) in no)
less_before (x ∷ xs) rising zero l at n (suc k, inside, is) less =
    let same = ap (λ (y : Listed). y.serial) (same_Some x l at) in
    let above = All-contains (λ (m : ℕ). x.serial < m) (names xs) n (pairs_head Below x.serial (names xs) rising) (k, omega (arith, inside), is) in
    absurd (let no : ⊥ = omega (arith, same, less, above) in no)
less_before (x ∷ xs) rising (suc i) l at n (zero, inside, is) less = (0, omega arith, is)
less_before (x ∷ xs) rising (suc i) l at n (suc k, inside, is) less =
    later x (take i xs) n (less_before xs (pairs_tail Below x.serial (names xs) rising) i l at n (k, omega (arith, inside), is) less)

-- what is taken is listed
in_taken : (serial n : ℕ) (ls : List Listed) → has (taken serial ls) n ≡ true → Contains (names ls) n
in_taken serial n [] is = absurd (let no : ⊥ = cc in no)
in_taken serial n (l ∷ ls) is = by_test (cases_Bool (is_taken serial l)) (λ it. later l ls n (in_taken serial n ls it))
  where
    by_test : (is_taken serial l ≡ true) ⊎ (is_taken serial l ≡ false) → (has (taken serial ls) n ≡ true → Contains (names (l ∷ ls)) n) → Contains (names (l ∷ ls)) n
    by_test (inl yes_is) rest =
        by_or (eqb_tells l.serial n) (sym (ap (λ (xs : List Listed). has (map (λ (x : Listed). x.serial) xs) n) (cond-true (is_taken serial l) (l ∷ filter (is_taken serial) ls) (filter (is_taken serial) ls) yes_is)) ∙ is)
      where
        by_or : (((l.serial == n) ≡ true) × (l.serial ≡ n)) ⊎ (((l.serial == n) ≡ false) × (l.serial ≡ n → ⊥)) → ((l.serial == n) || has (taken serial ls) n) ≡ true → Contains (names (l ∷ ls)) n
        by_or (inl h) it = (0, omega arith, h.1)
        by_or (inr h) it = rest (ap (λ (b : Bool). b || has (taken serial ls) n) (sym h.0) ∙ it)
    by_test (inr no_is) rest =
        rest (sym (ap (λ (xs : List Listed). has (map (λ (x : Listed). x.serial) xs) n) (cond-false (is_taken serial l) (l ∷ filter (is_taken serial) ls) (filter (is_taken serial) ls) no_is)) ∙ is)

each_front : (old mid : Rack) (i : ℕ) (ls : List Listed) → All (IsListed old) ls → All (IsListed old) (take i ls)
each_front old mid zero ls all = λ k d inside. absurd (let no : ⊥ = omega (arith, inside) in no)
each_front old mid (suc i) [] all = λ k d inside. absurd (let no : ⊥ = omega (arith, inside) in no)
each_front old mid (suc i) (l ∷ ls) all = one (each_front old mid i ls (All-tail (IsListed old) l ls all))
  where
    one : All (IsListed old) (take i ls) → All (IsListed old) (l ∷ take i ls)
    one rest zero d inside = All-head (IsListed old) l ls all
    one rest (suc k) d inside = rest k d (omega (arith, inside))

-- the reel that is written, and the others
pub beside_zip : (serial : ℕ) (f : Reel → Reel) (old new : Rack) → Becomes (at_serial serial f) old new → ((r : Reel) → 0 < (f r).len) → AllZip (IsBesideDump serial) old.reels new.reels
beside_zip serial f old new is long = zip_becomes (at_serial serial f) old new (IsBesideDump serial) is (λ r q there same.
    elim (eqb_tells serial r.serial) [
      | inl h ↦ inl (sym h.1, subst (λ (n : ℕ). 0 < n) (sym (ap (λ (x : Reel). x.len) (same ∙ at_this serial f (unread r) h.1))) (long (unread r)))
      | inr h ↦ inr ((λ e. h.1 (sym e)), same ∙ at_other serial f (unread r) h.1)
    ])

-- a failed write at a later block than the first leaves one
pub left_long : (how : Remains) (k : ℕ) (r : Reel) → 0 < k → 0 < r.len → 0 < (left_by how k r).len
left_long Unchanged k r more long = long
left_long Shortened k r more long = more
left_long (Torn block) k r more long = omega arith

-- WHAT HAPPENED to a reel other than that one, by how far the releases got
abbrev Outcome : ℕ → Option ℕ → Rack → Reel → Reel → Type 0
Outcome until cut old r x =
    ((until ≤ r.serial) × (x ≡ unread r)) ⊎ ((r.serial < until) × ((IsFree r.serial old × (x ≡ unread r)) ⊎ (IsTaken r.serial old × ((0 < x.len) ⊎ (cut ≡ Some r.serial)))))

cleared_zip : (serial until : ℕ) (cut : Option ℕ) (F : Reel → Reel) (old new : Rack) → Becomes F old new → ((r : Reel) → serial ≡ r.serial → 0 < (F r).len)
    → ((r : Reel) → Contains old.reels r → (serial ≡ r.serial → ⊥) → Outcome until cut old r (F (unread r))) → AllZip (IsClearedBy serial until cut old) old.reels new.reels
cleared_zip serial until cut F old new is long others = zip_becomes F old new (IsClearedBy serial until cut old) is (λ r q there same. by_serial r q there same (eqb_tells serial r.serial))
  where
    by_serial : (r q : Reel) → Contains old.reels r → unread q ≡ F (unread r) → (((serial == r.serial) ≡ true) × (serial ≡ r.serial)) ⊎ (((serial == r.serial) ≡ false) × (serial ≡ r.serial → ⊥))
        → IsClearedBy serial until cut old r q
    by_serial r q there same (inl h) = inl (sym h.1, subst (λ (n : ℕ). 0 < n) (sym (ap (λ (x : Reel). x.len) same)) (long (unread r) h.1))
    by_serial r q there same (inr h) = inr ((λ e. h.1 (sym e)), subst (Outcome until cut old r) (sym same) (others r there h.1))

module _ (serial : ℕ) (old mid : Rack) (lists : List Listed) (listed : AreListed old lists) (are : AreReels old.reels) where
  rising : AllPairs Below (names lists)
  rising = subst (AllPairs Below) (sym listed.serials) (AllPairs-from_increasing (map (λ (r : Reel). r.serial) old.reels) are.rising)

  listed_there : (r : Reel) → Contains old.reels r → Contains (names lists) r.serial
  listed_there r there = subst (λ (ns : List ℕ). Contains ns r.serial) (sym listed.serials) (mapped_there (λ (x : Reel). x.serial) old.reels r there)

  -- ALL ARE RELEASED
  pub all_below : (n : ℕ) → has (taken serial lists) n ≡ true → (n < top_of (names lists)) × (n ≢ serial)
  all_below n is = (below_top (names lists) n (in_taken serial n lists is), (has_taken serial n old mid lists listed.each is).1)

  pub all_free : (r : Reel) → Contains old.reels r → r.serial ≢ serial → has (taken serial lists) r.serial ≡ false → IsFree r.serial old
  all_free r there apart isnt = has_free serial r.serial old mid lists listed.each (listed_there r there) apart isnt

  pub all_above : (r : Reel) → Contains old.reels r → r.serial < top_of (names lists)
  all_above r there = below_top (names lists) r.serial (listed_there r there)

  pub all_zip : (w : List (List ℕ)) (new : Rack) → 0 < length w → Becomes (λ r. released (taken serial lists) (at_serial serial (filled w) r)) old new
      → AllZip (IsClearedBy serial (top_of (names lists)) None old) old.reels new.reels
  all_zip w new some is =
      cleared_zip serial (top_of (names lists)) None (λ r. released (taken serial lists) (at_serial serial (filled w) r)) old new is
      (λ r named. let long = filled_long w r some in
      let same = ap (λ (x : Reel). x.len) (held_left serial old mid lists listed w r named) in omega (arith, same, long, some))
      (λ r there apart. by_has r there apart (ap (released (taken serial lists)) (at_other serial (filled w) (unread r) apart)) (cases_Bool (has (taken serial lists) r.serial)))
    where
      by_has : (r : Reel) → Contains old.reels r → (serial ≡ r.serial → ⊥) → released (taken serial lists) (at_serial serial (filled w) (unread r)) ≡ released (taken serial lists) (unread r)
          → (has (taken serial lists) r.serial ≡ true) ⊎ (has (taken serial lists) r.serial ≡ false)
          → Outcome (top_of (names lists)) None old r (released (taken serial lists) (at_serial serial (filled w) (unread r)))
      by_has r there apart same (inl yes_is) =
          let one : released (taken serial lists) (at_serial serial (filled w) (unread r)) ≡ ending 0 zeros (unread r) =
          same ∙ cond-true (has (taken serial lists) r.serial) (ending 0 zeros (unread r)) (unread r) yes_is in
          let long = ap (λ (x : Reel). x.len) one in
          inr (all_above r there, inr ((has_taken serial r.serial old mid lists listed.each yes_is).0, inl (omega (arith, long))))
      by_has r there apart same (inr no_is) =
          inr (
            all_above r there,
            inl (
              all_free r there (λ e. apart (sym e)) no_is,
              same ∙ cond-false (has (taken serial lists) r.serial) (ending 0 zeros (unread r)) (unread r) no_is,
            ),
          )

  -- ONE RELEASE FAILED
  module _ (i : ℕ) (l : Listed) (at : slice_get lists i ≡ Some l) (taken_l : is_taken serial l ≡ true) where
    abbrev becomes : List (List ℕ) → Remains → Reel → Reel
    becomes w how r = at_serial l.serial (left_by how 0) (released (taken serial (take i lists)) (at_serial serial (filled w) r))

    pub l_taken : IsTaken l.serial old × (l.serial ≢ serial)
    l_taken = has_taken serial l.serial old mid lists listed.each (one_taken serial lists i l at taken_l)

    pub l_there : Contains (map (λ (r : Reel). r.serial) old.reels) l.serial
    l_there = subst (λ (ns : List ℕ). Contains ns l.serial) listed.serials (named_at lists i l at)

    pub part_below : (n : ℕ) → has (taken serial (take i lists)) n ≡ true → (n < l.serial) × (n ≢ serial)
    part_below n is =
        (before_less lists rising i l at n (in_taken serial n (take i lists) is), (has_taken serial n old mid (take i lists) (each_front old mid i lists listed.each) is).1)

    pub part_free : (r : Reel) → Contains old.reels r → r.serial < l.serial → r.serial ≢ serial → has (taken serial (take i lists)) r.serial ≡ false → IsFree r.serial old
    part_free r there less apart isnt =
        has_free serial r.serial old mid (take i lists) (each_front old mid i lists listed.each) (less_before lists rising i l at r.serial (listed_there r there) less) apart isnt

    pub part_zip : (until : ℕ) (cut : Option ℕ) (w : List (List ℕ)) (how : Remains) (new : Rack) → l.serial ≤ until → until ≤ l.serial + 1 → 0 < length w
        → ((r : Reel) → r.serial ≡ l.serial → Outcome until cut old r (left_by how 0 (unread r)))
        → Becomes (λ r. at_serial l.serial (left_by how 0) (released (taken serial (take i lists)) (at_serial serial (filled w) r))) old new
        → AllZip (IsClearedBy serial until cut old) old.reels new.reels
    part_zip until cut w how new low high some its is =
        cleared_zip serial until cut (λ r. at_serial l.serial (left_by how 0) (released (taken serial (take i lists)) (at_serial serial (filled w) r))) old new is
        (λ r named. let long = filled_long w r some in
        let same = ap (λ (x : Reel). x.len) (held_part serial old mid lists listed w i l how at taken_l r named) in omega (arith, same, long, some))
        (λ r there apart.
        by_l r there apart (ap (λ (x : Reel). at_serial l.serial (left_by how 0) (released (taken serial (take i lists)) x)) (at_other serial (filled w) (unread r) apart))
        (cases_Bool (has (taken serial (take i lists)) r.serial)) (eqb_tells l.serial r.serial))
      where
        by_l : (r : Reel) → Contains old.reels r → (serial ≡ r.serial → ⊥) → becomes w how (unread r) ≡ at_serial l.serial (left_by how 0) (released (taken serial (take i lists)) (unread r))
            → (has (taken serial (take i lists)) r.serial ≡ true) ⊎ (has (taken serial (take i lists)) r.serial ≡ false)
            → (((l.serial == r.serial) ≡ true) × (l.serial ≡ r.serial)) ⊎ (((l.serial == r.serial) ≡ false) × (l.serial ≡ r.serial → ⊥)) → Outcome until cut old r (becomes w how (unread r))
        by_l r there apart same (inl yes_is) (inl h) =
            let less = (part_below r.serial yes_is).0 in
            let e = h.1 in
            absurd (let no : ⊥ = omega (arith, less, e) in no)
        by_l r there apart same (inr no_is) (inl h) =
            subst (Outcome until cut old r)
            (sym (same ∙ ap (at_serial l.serial (left_by how 0)) (cond-false (has (taken serial (take i lists)) r.serial) (ending 0 zeros (unread r)) (unread r) no_is) ∙ at_this l.serial (left_by how 0) (unread r) h.1))
            (its r (sym h.1))
        by_l r there apart same (inl yes_is) (inr h) =
            let less = (part_below r.serial yes_is).0 in
            let one : becomes w how (unread r) ≡ ending 0 zeros (unread r) =
            same ∙ ap (at_serial l.serial (left_by how 0)) (cond-true (has (taken serial (take i lists)) r.serial) (ending 0 zeros (unread r)) (unread r) yes_is)
            ∙ at_other l.serial (left_by how 0) (ending 0 zeros (unread r)) h.1 in
            let long = ap (λ (x : Reel). x.len) one in
            inr (omega (arith, less, low), inr ((has_taken serial r.serial old mid (take i lists) (each_front old mid i lists listed.each) yes_is).0, inl (omega (arith, long))))
        by_l r there apart same (inr no_is) (inr h) =
            by_place (cases_order r.serial l.serial)
            (same ∙ ap (at_serial l.serial (left_by how 0)) (cond-false (has (taken serial (take i lists)) r.serial) (ending 0 zeros (unread r)) (unread r) no_is) ∙ at_other l.serial (left_by how 0) (unread r) h.1)
          where
            by_place : (r.serial ≡ l.serial) ⊎ ((r.serial < l.serial) ⊎ (l.serial < r.serial)) → becomes w how (unread r) ≡ unread r → Outcome until cut old r (becomes w how (unread r))
            by_place (inl e) kept = absurd (h.1 (sym e))
            by_place (inr (inl less)) kept = inr (omega (arith, less, low), inl (part_free r there less (λ e. apart (sym e)) no_is, kept))
            by_place (inr (inr more)) kept = inl (omega (arith, more, high), kept)
