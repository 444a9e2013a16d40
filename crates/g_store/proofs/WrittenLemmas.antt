-- The rows of the state after a write of the next block of the open dump.
-- serves: SteppedLemmas
use Rattle.std.proofs.Common.{◌≡◌, ℕ, ◌<◌, ◌==◌, Bool, true, false, List, [], ◌∷◌, ◌++◌, map, Some, refl, sym, ◌∙◌, ap, arith, inl, inr, true≢false}
use Rattle.std.specs.Prelude.{◌⊎◌, All, AllPairs, nat_lt}
use Rattle.std.proofs.lemmas.Bool.{cases_Bool, cond-false, cond-true, eq-eqb, eqb-true, ne_eqb}
use Rattle.std.proofs.lemmas.List.{map-append}
use Rattle.std.proofs.lemmas.List.Elements.{All-head, All-tail}
use Rattle.std.proofs.lemmas.List.Kept.{AllPairs-from_increasing}
use Rattle.std.proofs.lemmas.Option.{same_Some}
use Rattle.g_base.proofs.KeyLemmas.{change-twice}
use Rattle.g_tape.specs.Rack.{AreReels, reel, with_reel}
use Rattle.g_tape.specs.Reads.{unread}
use Rattle.g_tape.specs.Reel.{Reel, Remains, Shortened, Torn, Unchanged, left_by}
use Rattle.g_incr.specs.Layout.{Dump}
use Rattle.g_store_model.specs.State as state
use Rattle.g_store_model.specs.DumpSteps.{with_shelved, with_used}
use Rattle.g_store_meaning.specs.Reading.{row_of, shelved_of}
use Rattle.g_store_meaning.specs.StoreInvariant.{with_dump}
use Rattle.g_laws_store.proofs.RecordLemmas.{pairs_head, pairs_tail}
use Rattle.g_dumper.proofs.BeginLemmas.{reel_named}

abbrev serials : List Reel → List ℕ
serials reels = map (λ (r : Reel). r.serial) reels

abbrev Below : ℕ → ℕ → Type 0
Below m n = m < n

abbrev rows : (ℕ → List Dump) → List Reel → List state.ReelRow
rows shelf reels = map (row_of shelf) (map unread reels)

-- a row depends on its reel and on the dumps there
row_by : Reel → List Dump → state.ReelRow
row_by r dumps = record { serial = r.serial; capacity = r.capacity; mounted = r.mounted; used = nat_lt 0 r.len; dumps = map shelved_of dumps }

row_same : (shelf next : ℕ → List Dump) (r : Reel) → next r.serial ≡ shelf r.serial → row_of next (unread r) ≡ row_of shelf (unread r)
unfolding row_by
row_same shelf next r same = ap (row_by r) same

left_row : (how : Remains) (k : ℕ) (next : ℕ → List Dump) (r : Reel)
    → row_of next (unread (left_by how k r)) ≡ record { serial = r.serial; capacity = r.capacity; mounted = r.mounted; used = nat_lt 0 (left_by how k r).len; dumps = map shelved_of (next r.serial) }
left_row Unchanged k next r = refl
left_row Shortened k next r = refl
left_row (Torn block) k next r = refl

-- what holds for one reel holds for the reel that was written
abbrev IsRow : ℕ → (Reel → Reel) → (state.ReelRow → state.ReelRow) → (ℕ → List Dump) → (ℕ → List Dump) → List Reel → Type 0
IsRow serial f g shelf next reels = (r : Reel) → reel serial reels ≡ Some r → row_of next (unread (f r)) ≡ g (row_of shelf (unread r))

module _ (serial : ℕ) (f : Reel → Reel) (g : state.ReelRow → state.ReelRow) (shelf next : ℕ → List Dump) (others : (n : ℕ) → (n ≡ serial → ⊥) → next n ≡ shelf n) where
  rows_beyond : (reels : List Reel) → All (λ (n : ℕ). serial < n) (serials reels) → rows next reels ≡ rows shelf reels
  rows_beyond [] all = refl
  rows_beyond (q ∷ qs) all =
      let above = All-head (λ (n : ℕ). serial < n) q.serial (serials qs) all in
      let here = row_same shelf next q (others q.serial (λ e. let no : ⊥ = omega (arith, above, e) in no)) in
      ap (λ (row : state.ReelRow). row ∷ rows next qs) here
      ∙ ap (λ (rs : List state.ReelRow). row_of shelf (unread q) ∷ rs) (rows_beyond qs (All-tail (λ (n : ℕ). serial < n) q.serial (serials qs) all))

  -- the reel that was written has the row that g makes, and the others have theirs
  rows_written : (reels : List Reel) → AllPairs Below (serials reels) → IsRow serial f g shelf next reels → rows next (with_reel serial f reels) ≡ state.with_reel serial g (rows shelf reels)
  rows_written [] rising there = refl
  rows_written (q ∷ qs) rising there = by_serial (cases_Bool (serial == q.serial)) (λ is. rows_written qs (pairs_tail Below q.serial (serials qs) rising) is)
    where
      by_serial : ((serial == q.serial) ≡ true) ⊎ ((serial == q.serial) ≡ false) → (IsRow serial f g shelf next qs → rows next (with_reel serial f qs) ≡ state.with_reel serial g (rows shelf qs))
          → rows next (with_reel serial f (q ∷ qs)) ≡ state.with_reel serial g (rows shelf (q ∷ qs))
      by_serial (inl same) rest =
          let at : serial ≡ q.serial = eqb-true serial q.serial same in
          let above : All (λ (n : ℕ). serial < n) (serials qs) =
          λ i d within. let less = pairs_head Below q.serial (serials qs) rising i d within in omega (arith, less, at) in
          ap (rows next) (cond-true (serial == q.serial) (f q ∷ qs) (q ∷ with_reel serial f qs) same)
          ∙ ap (λ (row : state.ReelRow). row ∷ rows next qs) (there q (cond-true (serial == q.serial) (Some q) (reel serial qs) same))
          ∙ ap (λ (rs : List state.ReelRow). g (row_of shelf (unread q)) ∷ rs) (rows_beyond qs above)
          ∙ sym (cond-true (serial == q.serial) (g (row_of shelf (unread q)) ∷ rows shelf qs) (row_of shelf (unread q) ∷ state.with_reel serial g (rows shelf qs)) same)
      by_serial (inr other) rest =
          let off : q.serial ≡ serial → ⊥ = λ e. true≢false (sym (eq-eqb serial q.serial (sym e)) ∙ other) in
          ap (rows next) (cond-false (serial == q.serial) (f q ∷ qs) (q ∷ with_reel serial f qs) other)
          ∙ ap (λ (row : state.ReelRow). row ∷ rows next (with_reel serial f qs)) (row_same shelf next q (others q.serial off))
          ∙ ap (λ (rs : List state.ReelRow). row_of shelf (unread q) ∷ rs) (rest (λ r at. there r (cond-false (serial == q.serial) (Some q) (reel serial qs) other ∙ at)))
          ∙ sym (cond-false (serial == q.serial) (g (row_of shelf (unread q)) ∷ rows shelf qs) (row_of shelf (unread q) ∷ state.with_reel serial g (rows shelf qs)) other)

-- TWO CHANGES of one row
with_both : (serial : ℕ) (b : Bool) (x : state.Shelved) (rs : List state.ReelRow)
    → state.with_reel serial (λ r. with_used b (with_shelved x r)) rs ≡ state.with_reel serial (with_used b) (state.with_reel serial (with_shelved x) rs)
with_both serial b x rs =
    sym (change-twice (λ (r : state.ReelRow). serial == r.serial) (with_shelved x) (with_used b) (λ (r : state.ReelRow). with_used b (with_shelved x r)) (λ r. refl) (λ r. refl) rs)

used_by : state.ReelRow → Bool → state.ReelRow
used_by r b = record r { used = b }

-- and one that changes nothing
pub used_same : (serial : ℕ) (b : Bool) (rs : List state.ReelRow) → ((r : state.ReelRow) → state.reel_at serial rs ≡ Some r → b ≡ r.used) → state.with_reel serial (with_used b) rs ≡ rs
unfolding used_by
used_same serial b [] there = refl
used_same serial b (r ∷ rs) there = by_serial (cases_Bool (serial == r.serial)) (used_same serial b rs)
  where
    by_serial : ((serial == r.serial) ≡ true) ⊎ ((serial == r.serial) ≡ false) → (((q : state.ReelRow) → state.reel_at serial rs ≡ Some q → b ≡ q.used) → state.with_reel serial (with_used b) rs ≡ rs)
        → state.with_reel serial (with_used b) (r ∷ rs) ≡ r ∷ rs
    by_serial (inl same) rest =
        cond-true (serial == r.serial) (with_used b r ∷ rs) (r ∷ state.with_reel serial (with_used b) rs) same
        ∙ ap (λ (c : Bool). used_by r c ∷ rs) (there r (cond-true (serial == r.serial) (Some r) (state.reel_at serial rs) same))
    by_serial (inr other) rest =
        cond-false (serial == r.serial) (with_used b r ∷ rs) (r ∷ state.with_reel serial (with_used b) rs) other
        ∙ ap (λ (qs : List state.ReelRow). r ∷ qs) (rest (λ q at. there q (cond-false (serial == r.serial) (Some r) (state.reel_at serial rs) other ∙ at)))

-- THE ROWS where the next block of a dump was written, or its write failed
module _ (serial : ℕ) (reels : List Reel) (right : AreReels reels) (on : Reel) (on_is : reel serial reels ≡ Some on) (how : Remains) (k : ℕ) (b : Bool)
    (used : nat_lt 0 (left_by how k on).len ≡ b) (shelf : ℕ → List Dump) where
  rising : AllPairs Below (serials reels)
  rising = AllPairs-from_increasing (serials reels) right.rising

  -- no dump is completed by it
  pub rows_used : rows shelf (with_reel serial (left_by how k) reels) ≡ state.with_reel serial (with_used b) (rows shelf reels)
  unfolding used_by
  rows_used =
      rows_written serial (left_by how k) (with_used b) shelf shelf (λ n other. refl) reels rising
      (λ r at.
      let same : on ≡ r = same_Some on r (sym on_is ∙ at) in
      left_row how k shelf r ∙ ap (used_by (row_of shelf (unread r))) (ap (λ (q : Reel). nat_lt 0 (left_by how k q).len) (sym same) ∙ used))

  -- the dump is there, after the others
  module _ (made : Dump) (named : made.serial ≡ serial) (x : state.Shelved) (shelved : shelved_of made ≡ x) where
    row_with : Reel → Bool → List state.Shelved → state.ReelRow
    row_with r c dumps = record { serial = r.serial; capacity = r.capacity; mounted = r.mounted; used = c; dumps = dumps }

    dumps_with : map shelved_of (with_dump made shelf serial) ≡ map shelved_of (shelf serial) ++ x ∷ []
    dumps_with =
        ap (map shelved_of) (cond-true (serial == made.serial) (shelf serial ++ made ∷ []) (shelf serial) (eq-eqb serial made.serial (sym named)))
        ∙ map-append shelved_of (shelf serial) (made ∷ []) ∙ ap (λ (s : state.Shelved). map shelved_of (shelf serial) ++ s ∷ []) shelved

    others_same : (n : ℕ) → (n ≡ serial → ⊥) → with_dump made shelf n ≡ shelf n
    others_same n other = cond-false (n == made.serial) (shelf n ++ made ∷ []) (shelf n) (ne_eqb n made.serial (λ e. other (e ∙ named)))

    pub rows_marked : rows (with_dump made shelf) (with_reel serial (left_by how k) reels) ≡ state.with_reel serial (with_used b) (state.with_reel serial (with_shelved x) (rows shelf reels))
    unfolding row_with
    rows_marked =
        rows_written serial (left_by how k) (λ r. with_used b (with_shelved x r)) shelf (with_dump made shelf) others_same reels rising
        (λ r at.
        let same : on ≡ r = same_Some on r (sym on_is ∙ at) in
        let here : r.serial ≡ serial = reel_named serial reels r at in
        left_row how k (with_dump made shelf) r
        ∙ ap (λ (c : Bool). row_with r c (map shelved_of (with_dump made shelf r.serial))) (ap (λ (q : Reel). nat_lt 0 (left_by how k q).len) (sym same) ∙ used)
        ∙ ap (row_with r b)
        (ap (λ (n : ℕ). map shelved_of (with_dump made shelf n)) here ∙ dumps_with ∙ ap (λ (n : ℕ). map shelved_of (shelf n) ++ x ∷ []) (sym here)))
        ∙ with_both serial b x (rows shelf reels)
