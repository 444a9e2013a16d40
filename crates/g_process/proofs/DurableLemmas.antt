-- What a power loss may leave while PROCESS writes its dump and releases the other reels.
-- serves: AnswerLemmas, LossLemmas, ReleaseLemmas, SafeLemmas, WriteLemmas
use Rattle.std.proofs.Common.{◌≡◌, ℕ, zero, suc, ◌+◌, ◌<◌, Bool, true, false, List, [], ◌∷◌, ◌++◌, length, take, Option, Some, None, Ok, refl, sym, ◌∙◌, ap, arith, subst, inl, inr, slice_get, true≢false}
use Rattle.std.specs.Prelude.{◌⊎◌, ◌||◌, ◌==◌}
use Rattle.std.proofs.lemmas.Bool.{cases_Bool, cases_eq, eq-eqb, ne_eqb}
use Rattle.std.proofs.lemmas.List.{length-append}
use Rattle.std.proofs.lemmas.Option.{same_Some}
use Rattle.g_tape.specs.Durable.{IsDurable, IsDurableTo, WritesDurably}
use Rattle.g_tape.specs.Rack.{Rack, changed, reel, refuses_write}
use Rattle.g_tape.specs.Reads.{LeavesNoMore, MayLeave, OnlyReads, blocks_in, blocks_of, is_syncable}
use Rattle.g_tape.specs.Reel.{Reel, ending}
use Rattle.g_tape.specs.Risk.{IsSynced, Leaves, Risk, risk, syncs}
use Rattle.g_tape.proofs.ReadLemmas.{blocks_after_reads, reel-with_reel_other}
use Rattle.g_disc_contents.specs.Contents.{has}
use Rattle.g_incr.proofs.ListLemmas.{get_push}
use Rattle.g_shelf.specs.Surviving.{DumpsSurvive, IsBegunDurably}
use Rattle.g_shelf.proofs.SurvivingLemmas.{begun_reads}
use Rattle.g_process.specs.Progress.{IsWrittenDurably, LeavesNoMoreOf}
use Rattle.g_process.specs.Releases.{AreReleasedDurably, zeros}

-- WHAT ONE REEL LEAVES
less_twice : (t : ℕ) (first mid last : Rack) → LeavesNoMoreOf t first mid → LeavesNoMoreOf t mid last → LeavesNoMoreOf t first last
less_twice t first mid last (leaves, able) (leaves', able') = (λ left may. leaves left (leaves' left may), λ is. able' (able is))

less_of : (t : ℕ) (old new : Rack) → LeavesNoMore old new → LeavesNoMoreOf t old new
less_of t old new more = (more.leaves t, more.syncable t)

pub nothing_more : (t : ℕ) (rack : Rack) → LeavesNoMoreOf t rack rack
nothing_more t rack = (λ left may. may, λ is. is)

-- a reel of which neither blocks nor risk changed
same_left : (t : ℕ) (old new : Rack) → risk t new.risks ≡ risk t old.risks → blocks_of t new ≡ blocks_of t old → LeavesNoMoreOf t old new
same_left t old new risks same = (
  λ left may blocks at. subst (λ (o : Option Risk). Leaves o blocks left) risks (may blocks (same ∙ at)),
  λ is. ap syncs risks ∙ is,
)

may_be : (t : ℕ) (rack : Rack) (blocks left : List (List ℕ)) → blocks_of t rack ≡ Some blocks → Leaves (risk t rack.risks) blocks left → MayLeave t rack left
may_be t rack blocks left at leaves bs there = subst (λ (x : List (List ℕ)). Leaves (risk t rack.risks) x left) (same_Some blocks bs (sym at ∙ there)) leaves

pub less_survive : (t : ℕ) (old new : Rack) → LeavesNoMoreOf t old new → blocks_of t new ≡ blocks_of t old → DumpsSurvive t old → DumpsSurvive t new
less_survive t old new (leaves, able) same survive blocks at ds all bs here left now =
    survive blocks (sym same ∙ at) ds all bs (sym same ∙ here) left (leaves left (may_be t new bs left here now) bs (sym same ∙ here))

pub less_durable : (t : ℕ) (old new : Rack) → LeavesNoMoreOf t old new → blocks_of t new ≡ blocks_of t old → IsDurable t old → IsDurable t new
less_durable t old new (leaves, able) same durable blocks at left now =
    durable blocks (sym same ∙ at) left (leaves left (may_be t new blocks left at now) blocks (sym same ∙ at))

-- no block is durable, or all are
pub none_durable : (t : ℕ) (rack : Rack) → IsDurableTo 0 t rack
none_durable t rack blocks at left leaves bs is = refl

durable_first : (t : ℕ) (rack : Rack) → IsDurable t rack → IsDurableTo 1 t rack
durable_first t rack durable blocks at left leaves bs is = ap (take 1) (durable blocks at left leaves ∙ same_Some blocks bs (sym at ∙ is))

-- the blocks of the other reels
pub other_blocks : (t serial : ℕ) (f : Reel → Reel) → ((r : Reel) → (f r).serial ≡ r.serial) → (t ≡ serial → ⊥) → (old new : Rack) → new.reels ≡ (changed serial f old).reels → blocks_of t new ≡ blocks_of t old
other_blocks t serial f keeps apart old new is = ap (λ (rs : List Reel). blocks_in (reel t rs)) is ∙ ap blocks_in (reel-with_reel_other serial t f keeps (λ e. apart (sym e)) old.reels)

-- AT THE BEGINNING, and after reads
pub none_durably : (serial : ℕ) (rack : Rack) → IsWrittenDurably serial [] rack rack
none_durably serial rack = record {
  others = λ t apart. nothing_more t rack;
  none = λ is. nothing_more serial rack;
  some = λ is. absurd (let no : ⊥ = omega (arith, is) in no);
  last = λ j block is. absurd (let no : ⊥ = cc in no);
}

pub durably_more : (serial : ℕ) (w : List (List ℕ)) (old mid new : Rack) → IsWrittenDurably serial w old mid → OnlyReads mid new → IsWrittenDurably serial w old new
durably_more serial w old mid new so only = record {
  others = λ t apart. less_twice t old mid new (so.others t apart) (less_of t mid new only.durable);
  none = λ is. less_twice serial old mid new (so.none is) (less_of serial mid new only.durable);
  some = λ is. begun_reads serial 0 (length w) mid new only.durable (blocks_after_reads serial mid new only) (so.some is);
  last = λ j block is ends synced. less_durable serial mid new (less_of serial mid new only.durable) (blocks_after_reads serial mid new only) (so.last j block is ends synced);
}

-- ONE MORE BLOCK
pub durably_one : (serial k : ℕ) (w : List (List ℕ)) (block : List ℕ) (old mid new : Rack) → length w ≡ k → IsWrittenDurably serial w old mid → refuses_write k (reel serial mid.reels) ≡ None
    → new.reels ≡ (changed serial (ending k block) mid).reels → WritesDurably serial k block mid (Ok tt) new → IsWrittenDurably serial (w ++ block ∷ []) old new
durably_one serial k w block old mid new long so free reels_are wrote = record {
  others = λ t apart. less_twice t old mid new (so.others t apart) (same_left t mid new (wrote.others t apart) (other_blocks t serial (ending k block) (λ r. refl) apart mid new reels_are));
  none = λ is. absurd (let no : ⊥ = omega (arith, is, longer) in no);
  some = λ is. record {
    header = by_header (cases_zero k);
    short = λ blocks at left leaves. (let short = wrote.short blocks at left leaves in omega (arith, short, long, longer));
    syncable = by_able (cases_zero k);
  };
  last = λ j b is ends synced.
      let (at, same) = it_is_last (get_push w block j b is) ends in
      by_last (subst (λ (n : ℕ). IsSynced n block) at (subst (IsSynced j) same synced)) (cases_zero k);
}
  where
    below : (xs : List (List ℕ)) (i : ℕ) (x : List ℕ) → slice_get xs i ≡ Some x → i < length xs
    below [] i x is = absurd (let no : ⊥ = cc in no)
    below (y ∷ ys) zero x is = omega arith
    below (y ∷ ys) (suc i) x is = (let rest = below ys i x is in omega (arith, rest))

    longer : length (w ++ block ∷ []) ≡ length w + 1
    longer = length-append w (block ∷ [])

    cases_zero : (i : ℕ) → (i ≡ 0) ⊎ (0 < i)
    cases_zero zero = inl refl
    cases_zero (suc i) = inr (omega arith)

    begun : 0 < k → IsBegunDurably serial 0 (length w) mid
    begun some = so.some (omega (arith, some, long))

    at_start : k ≡ 0 → IsDurable serial new
    at_start none = wrote.synced (inl none) (inr (subst (λ (n : ℕ). IsDurableTo n serial mid) (sym none) (none_durable serial mid)))

    by_header : (k ≡ 0) ⊎ (0 < k) → IsDurableTo 1 serial new
    by_header (inl none) = durable_first serial new (at_start none)
    by_header (inr some) = wrote.front 1 (omega (arith, some)) (begun some).header

    by_able : (k ≡ 0) ⊎ (0 < k) → is_syncable serial new ≡ true
    by_able (inl none) = wrote.fresh free (subst (λ (n : ℕ). IsDurableTo n serial mid) (sym none) (none_durable serial mid))
    by_able (inr some) = wrote.syncable (begun some).syncable

    by_last : IsSynced k block → (k ≡ 0) ⊎ (0 < k) → IsDurable serial new
    by_last synced (inl none) = at_start none
    by_last synced (inr some) = wrote.synced synced (inl (begun some).syncable)

    it_is_last : {j : ℕ} {b : List ℕ} → (slice_get w j ≡ Some b) ⊎ ((j ≡ length w) × (b ≡ block)) → j + 1 ≡ length (w ++ block ∷ []) → (j ≡ k) × (b ≡ block)
    it_is_last {j} {b} (inl before) ends = absurd (let inside = below w j b before in let no : ⊥ = omega (arith, inside, ends, longer) in no)
    it_is_last (inr (at, is)) ends = (at ∙ long, is)

-- RELEASES
pub none_released_durably : (rack : Rack) → AreReleasedDurably [] rack rack
none_released_durably rack = record { gone = λ t is. absurd (let no : ⊥ = cc in no); others = λ t is. nothing_more t rack }

among : (ss : List ℕ) (s t : ℕ) → has (ss ++ s ∷ []) t ≡ true → (has ss t ≡ true) ⊎ (t ≡ s)
among [] s t is = by (cases_eq t s)
  where
    by : (t ≡ s) ⊎ (t ≡ s → ⊥) → (has [] t ≡ true) ⊎ (t ≡ s)
    by (inl same) = inr same
    by (inr apart) = absurd (true≢false (sym is ∙ ap (λ (b : Bool). b || false) (ne_eqb s t (λ e. apart (sym e)))))
among (x ∷ xs) s t is = by_first (cases_Bool (x == t)) (among xs s t)
  where
    by_first : ((x == t) ≡ true) ⊎ ((x == t) ≡ false) → (has (xs ++ s ∷ []) t ≡ true → (has xs t ≡ true) ⊎ (t ≡ s)) → (has (x ∷ xs) t ≡ true) ⊎ (t ≡ s)
    by_first (inl same) rest = inl (ap (λ (b : Bool). b || has xs t) same)
    by_first (inr other) rest = by_rest (rest (sym (ap (λ (b : Bool). b || has (xs ++ s ∷ []) t) other) ∙ is))
      where
        by_rest : (has xs t ≡ true) ⊎ (t ≡ s) → (has (x ∷ xs) t ≡ true) ⊎ (t ≡ s)
        by_rest (inl there) = inl (ap (λ (b : Bool). b || has xs t) other ∙ there)
        by_rest (inr is) = inr is

not_among : (ss : List ℕ) (s t : ℕ) → has (ss ++ s ∷ []) t ≡ false → (has ss t ≡ false) × (t ≡ s → ⊥)
not_among [] s t is = (refl, λ same. true≢false (sym (ap (λ (b : Bool). b || false) (eq-eqb s t (sym same))) ∙ is))
not_among (x ∷ xs) s t is = by_first (cases_Bool (x == t)) (not_among xs s t)
  where
    by_first : ((x == t) ≡ true) ⊎ ((x == t) ≡ false) → (has (xs ++ s ∷ []) t ≡ false → (has xs t ≡ false) × (t ≡ s → ⊥)) → (has (x ∷ xs) t ≡ false) × (t ≡ s → ⊥)
    by_first (inl same) rest = absurd (true≢false (sym (ap (λ (b : Bool). b || has (xs ++ s ∷ []) t) same) ∙ is))
    by_first (inr other) rest =
        let (none, apart) = rest (sym (ap (λ (b : Bool). b || has (xs ++ s ∷ []) t) other) ∙ is) in
        (ap (λ (b : Bool). b || has xs t) other ∙ none, apart)

pub one_released_durably : (ss : List ℕ) (s : ℕ) (old mid new : Rack) → AreReleasedDurably ss old mid → new.reels ≡ (changed s (ending 0 zeros) mid).reels → WritesDurably s 0 zeros mid (Ok tt) new
    → AreReleasedDurably (ss ++ s ∷ []) old new
one_released_durably ss s old mid new so reels_are wrote = record {
  gone = λ t is. by_place t (cases_eq t s) (among ss s t is);
  others = λ t is.
      let (none, apart) = not_among ss s t is in
      less_twice t old mid new (so.others t none) (beside t apart);
}
  where
    beside : (t : ℕ) → (t ≡ s → ⊥) → LeavesNoMoreOf t mid new
    beside t apart = same_left t mid new (wrote.others t apart) (other_blocks t s (ending 0 zeros) (λ r. refl) apart mid new reels_are)

    here : IsDurable s new
    here = wrote.synced (inl refl) (inr (none_durable s mid))

    by_place : (t : ℕ) → (t ≡ s) ⊎ (t ≡ s → ⊥) → (has ss t ≡ true) ⊎ (t ≡ s) → IsDurable t new
    by_place t (inl same) either = subst (λ (n : ℕ). IsDurable n new) (sym same) here
    by_place t (inr apart) (inl there) = less_durable t mid new (beside t apart) (other_blocks t s (ending 0 zeros) (λ r. refl) apart mid new reels_are) (so.gone t there)
    by_place t (inr apart) (inr same) = absurd (apart same)
