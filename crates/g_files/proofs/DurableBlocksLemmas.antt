-- Which blocks of a disc on a file are durable, from the durable bytes of the file.
-- serves: blocks_are_their_bytes, finish (durable, syncable, synced), open (opened), read, secure, size (syncable), write
use Rattle.std.proofs.Common.{◌≡◌, ℕ, zero, suc, ◌+◌, ◌*◌, ◌<◌, ◌≤◌, Bool, true, false, List, None, length, eqb, leb, ltb, Result, Ok, Err, OnErr, OnOk, refl, sym, ap, ◌∙◌, inl, inr, arith}
use Rattle.std.specs.Prelude.{◌≢◌, ◌⊎◌, Option, not, ◌&&◌, ◌||◌, option_map}
use Rattle.std.specs.List.{list_any}
use Rattle.std.proofs.lemmas.Bool.{and_from, and_parts, and_right, cases_Bool, cases_eq, cases_lt, eq-eqb, le-ltb, ne_eqb, not-true, not_from_false, not_from_true, or_from, or_left}
use Rattle.std.proofs.Math.Bool.{and-true}
use Rattle.g_base.specs.Fuse.{Arms, never}
use Rattle.g_files.specs.Bytes.{blocks_of}
use Rattle.g_files.specs.Durability.{Durability, AreSynced, DurableAreSyncable, HasDurable, HasSyncable, HasSynced, KeepsDurability, StaySyncable, WritesBlock, is_within, overlaid}
use Rattle.g_files.specs.FileDisc.{BlocksAreTheirBytes, all_from, dropped_of, failing, opened, volatile_of}
use Rattle.g_files.proofs.DiscLemmas.{same_blocks}

-- A TEST AND THE NUMBERS THAT FAIL IT

pub all_from_at : (test : ℕ → Bool) (at n i : ℕ) → all_from test at n ≡ true → i < n → test (at + i) ≡ true
unfolding all_from
all_from_at test at zero i is below = absurd (omega (arith, below))
all_from_at test at (suc n) i is below =
    let p = and_parts (test (at + n)) (all_from test at n) is in
    elim (cases_eq i n) [
      | inl same ↦ rw same p.0
      | inr other ↦ all_from_at test at n i p.1 (omega (arith, below, other))
    ]

pub all_from_is : (test : ℕ → Bool) (at n : ℕ) → ((i : ℕ) → i < n → test (at + i) ≡ true) → all_from test at n ≡ true
unfolding all_from
all_from_is test at zero each = refl
all_from_is test at (suc n) each =
    and_from (test (at + n)) (all_from test at n) (each n (omega arith)) (all_from_is test at n (λ i below. each i (omega (arith, below))))

failing_more : (test : ℕ → Bool) (n : ℕ) → test n ≡ true → failing test (suc n) ≡ failing test n
unfolding failing
failing_more test n is = rw is refl

failing_also : (test : ℕ → Bool) (n k : ℕ) → test n ≡ false → list_any (eqb k) (failing test (suc n)) ≡ (eqb k n || list_any (eqb k) (failing test n))
unfolding failing
failing_also test n k is = rw is refl

failing_past : (test : ℕ → Bool) (n k : ℕ) → n ≤ k → list_any (eqb k) (failing test n) ≡ false
unfolding failing
failing_past test zero k past = refl
failing_past test (suc n) k past =
    let rest = failing_past test n k (omega (arith, past)) in
    elim (cases_Bool (test n)) [
      | inl passes ↦ ap (λ (xs : List ℕ). list_any (eqb k) xs) (failing_more test n passes) ∙ rest
      | inr fails ↦ failing_also test n k fails ∙ or_from (eqb k n) (list_any (eqb k) (failing test n)) (ne_eqb k n (λ same. omega (arith, same, past))) rest
    ]

failing_is : (test : ℕ → Bool) (n k : ℕ) → k < n → list_any (eqb k) (failing test n) ≡ not (test k)
failing_is test zero k below = absurd (omega (arith, below))
failing_is test (suc n) k below = elim (cases_eq k n) [
  | inl same ↦ elim (cases_Bool (test n)) [
    | inl passes ↦ ap (λ (xs : List ℕ). list_any (eqb k) xs) (failing_more test n passes) ∙ failing_past test n k (omega (arith, same))
        ∙ sym (ap (λ (m : ℕ). not (test m)) same ∙ not_from_true (test n) passes)
    | inr fails ↦ failing_also test n k fails ∙ or_left (eqb k n) (list_any (eqb k) (failing test n)) (eq-eqb k n same)
        ∙ sym (ap (λ (m : ℕ). not (test m)) same ∙ not_from_false (test n) fails)
  ]
  | inr other ↦
      let rest = failing_is test n k (omega (arith, below, other)) in
      elim (cases_Bool (test n)) [
        | inl passes ↦ ap (λ (xs : List ℕ). list_any (eqb k) xs) (failing_more test n passes) ∙ rest
        | inr fails ↦ failing_also test n k fails ∙ ap (λ (b : Bool). b || list_any (eqb k) (failing test n)) (ne_eqb k n other) ∙ rest
      ]
]

-- k doesn't fail the test, or isn't below n
abbrev Passes : (ℕ → Bool) → ℕ → ℕ → Type 0
Passes test n k = not (list_any (eqb k) (failing test n)) ≡ true

passes_at : (test : ℕ → Bool) (n k : ℕ) → k < n → Passes test n k → test k ≡ true
passes_at test n k below is = elim (cases_Bool (test k)) [
  | inl passes ↦ passes
  | inr fails ↦ absurd (let no = not-true (list_any (eqb k) (failing test n)) is in let yes = failing_is test n k below ∙ not_from_false (test k) fails in cc)
]

passes_is : (test : ℕ → Bool) (n k : ℕ) → (k < n → test k ≡ true) → Passes test n k
passes_is test n k is = not_from_false (list_any (eqb k) (failing test n)) (elim (cases_lt k n) [
  | inl below ↦ failing_is test n k below ∙ not_from_true (test k) (is below)
  | inr past ↦ failing_past test n k past
])

-- DURABLE AND SYNCABLE BLOCKS

-- block k of n is durable, or there is no such block
abbrev DurableIn : ℕ → Durability → ℕ → Type 0
DurableIn n d k = not (list_any (eqb k) (volatile_of n d)) ≡ true

abbrev SyncableIn : ℕ → Durability → ℕ → Type 0
SyncableIn n d k = not (list_any (eqb k) (dropped_of n d)) ≡ true

pub durable_at : (n k : ℕ) (d : Durability) → k < n → DurableIn n d k → HasDurable (512 * k) 512 d
durable_at n k d below is i inside = all_from_at d.durable (512 * k) 512 i (passes_at (λ j. all_from d.durable (512 * j) 512) n k below is) inside

pub durable_is : (n k : ℕ) (d : Durability) → (k < n → HasDurable (512 * k) 512 d) → DurableIn n d k
durable_is n k d each = passes_is (λ j. all_from d.durable (512 * j) 512) n k (λ below. all_from_is d.durable (512 * k) 512 (each below))

pub syncable_at : (n k : ℕ) (d : Durability) → k < n → SyncableIn n d k → HasSyncable (512 * k) 512 d
syncable_at n k d below is i inside = all_from_at d.syncable (512 * k) 512 i (passes_at (λ j. all_from d.syncable (512 * j) 512) n k below is) inside

pub syncable_is : (n k : ℕ) (d : Durability) → (k < n → HasSyncable (512 * k) 512 d) → SyncableIn n d k
syncable_is n k d each = passes_is (λ j. all_from d.syncable (512 * j) 512) n k (λ below. all_from_is d.syncable (512 * k) 512 (each below))

-- a durable block is syncable
pub blocks_sound : (n k : ℕ) (d : Durability) → DurableAreSyncable d → DurableIn n d k → SyncableIn n d k
blocks_sound n k d sound is = syncable_is n k d (λ below i inside. sound (512 * k + i) (durable_at n k d below is i inside))

-- after a sync a syncable block is durable
pub blocks_synced : (n k : ℕ) (d : Durability) → AreSynced d → SyncableIn n d k → DurableIn n d k
blocks_synced n k d synced is = durable_is n k d (λ below i inside. synced (512 * k + i) (syncable_at n k d below is i inside))

-- CALLS

pub keeps_durable : {T E : Type 0} (n m : ℕ) (d d' : Durability) (r : Result T E) → m ≡ n → KeepsDurability d d' r
    → (k : ℕ) → DurableIn n d k → DurableIn m d' k
keeps_durable n m d d' r same keeps k was = durable_is m k d' (λ below. keeps.durable k (durable_at n k d (omega (arith, below, same)) was))

pub keeps_syncable : {T E : Type 0} (n m : ℕ) (d d' : Durability) (r : Result T E) → m ≡ n → OnOk r (StaySyncable d d')
    → OnOk r ((k : ℕ) → SyncableIn n d k → SyncableIn m d' k)
keeps_syncable n m d d' (Err e) same kept = tt
keeps_syncable n m d d' (Ok x) same kept =
    λ k was. syncable_is m k d' (λ below i inside. kept (512 * k + i) (syncable_at n k d (omega (arith, below, same)) was i inside))

pub gate_durable : {T E : Type 0} (n : ℕ) (d : Durability) (r : Result T E) → OnOk r (HasDurable 0 512 d) → OnOk r (DurableIn n d 0)
gate_durable n d (Ok x) gate = durable_is n 0 d (λ some i inside. gate i inside)
gate_durable n d (Err e) gate = tt

pub write_durable : {T E : Type 0} (n m k : ℕ) (from : List ℕ) (x y : Option (List ℕ)) (d d' : Durability) (r : Result T E) → m ≡ n
    → WritesBlock k from x y d d' r → (j : ℕ) → j ≢ k → DurableIn n d j → DurableIn m d' j
write_durable n m k from x y d d' r same w j other was = durable_is m j d' (λ below. w.durable j other (durable_at n j d (omega (arith, below, same)) was))

pub write_here : {T E : Type 0} (n k : ℕ) (from : List ℕ) (x y : Option (List ℕ)) (d d' : Durability) (r : Result T E) → length from ≡ 512
    → WritesBlock k from x y d d' r → OnOk r (SyncableIn n d' k)
write_here n k from x y d d' (Ok t) size w = syncable_is n k d' (λ below i inside. w.here i (omega (arith, inside, size)))
write_here n k from x y d d' (Err e) size w = tt

has_synced : (n m : ℕ) (d d' : Durability) → m ≡ n → HasSynced d d' → (j : ℕ) → j ≢ 0 → SyncableIn n d j → DurableIn m d' j
has_synced n m d d' same synced j other was = durable_is m j d' (λ below. synced j other (syncable_at n j d (omega (arith, below, same)) was))

pub write_gate : {T E : Type 0} (n m k : ℕ) (from : List ℕ) (x y : Option (List ℕ)) (d d' : Durability) (r : Result T E) → m ≡ n
    → WritesBlock k from x y d d' r → k ≡ 0 → OnOk r (((j : ℕ) → j ≢ 0 → SyncableIn n d j → DurableIn m d' j) × DurableIn m d' 0)
write_gate n m k from x y d d' (Ok t) same w is =
    (has_synced n m d d' same (w.gate is).0, durable_is m 0 d' (λ some i inside. (w.gate is).1 i inside))
write_gate n m k from x y d d' (Err e) same w is = tt

pub write_gate_failed : {T E : Type 0} (n m k : ℕ) (from : List ℕ) (x y : Option (List ℕ)) (d d' : Durability) (r : Result T E) → 0 < n → m ≡ n
    → WritesBlock k from x y d d' r → k ≡ 0
    → OnErr r (((option_map (blocks_of m) y ≡ option_map (blocks_of n) x) × (DurableIn n d 0 → DurableIn m d' 0))
    ⊎ ((j : ℕ) → j ≢ 0 → SyncableIn n d j → DurableIn m d' j))
write_gate_failed n m k from x y d d' (Ok t) some same w is = tt
write_gate_failed n m k from x y d d' (Err e) some same w is = elim (w.gate_failed is) [
  | inl unchanged ↦ inl (
    same_blocks m n y x same unchanged.0,
    λ was. durable_is m 0 d' (λ below i inside. unchanged.1 (λ j low. durable_at n 0 d some was j low) i inside),
  )
  | inr synced ↦ inr (has_synced n m d d' same synced)
]

-- THE SAME BLOCKS

pub same_volatile : (n m : ℕ) (d d' : Durability) → n ≡ m → d ≡ d' → volatile_of n d ≡ volatile_of m d'
same_volatile n m d d' same is = rw (same, is) refl

pub same_dropped : (n m : ℕ) (d d' : Durability) → n ≡ m → d ≡ d' → dropped_of n d ≡ dropped_of m d'
same_dropped n m d d' same is = rw (same, is) refl

same_all : (p q : ℕ → Bool) (at n : ℕ) → ((j : ℕ) → p j ≡ q j) → all_from p at n ≡ all_from q at n
unfolding all_from
same_all p q at zero each = refl
same_all p q at (suc n) each = rw (each (at + n), same_all p q at n each) refl

same_failing : (p q : ℕ → Bool) (n : ℕ) → ((j : ℕ) → p j ≡ q j) → failing p n ≡ failing q n
unfolding failing
same_failing p q zero each = refl
same_failing p q (suc n) each = rw (each n, same_failing p q n each) refl

-- no byte is buffered
none_within : (j : ℕ) → is_within 0 0 j ≡ false
none_within j = and_right (leb 0 j) (ltb j (0 + 0)) (le-ltb j (0 + 0) (omega arith))

none_durable : (d : Durability) (j : ℕ) → (overlaid 0 0 d).durable j ≡ d.durable j
none_durable d j = ap (λ (b : Bool). d.durable j && not b) (none_within j) ∙ and-true (d.durable j)

none_syncable : (d : Durability) (j : ℕ) → (overlaid 0 0 d).syncable j ≡ d.syncable j
none_syncable d j = ap (λ (b : Bool). b || d.syncable j) (none_within j)

opened_volatile : (n : ℕ) (d : Durability) → volatile_of n (overlaid 0 0 d) ≡ volatile_of n d
opened_volatile n d = same_failing (λ k. all_from (overlaid 0 0 d).durable (512 * k) 512) (λ k. all_from d.durable (512 * k) 512) n
    (λ k. same_all (overlaid 0 0 d).durable d.durable (512 * k) 512 (none_durable d))

opened_dropped : (n : ℕ) (d : Durability) → dropped_of n (overlaid 0 0 d) ≡ dropped_of n d
opened_dropped n d = same_failing (λ k. all_from (overlaid 0 0 d).syncable (512 * k) 512) (λ k. all_from d.syncable (512 * k) 512) n
    (λ k. same_all (overlaid 0 0 d).syncable d.syncable (512 * k) 512 (none_syncable d))

-- a disc that was just opened
pub opened_is : (n : ℕ) (x y : Option (List ℕ)) (d d' : Durability) (f : Option ℕ) (a : Arms) → x ≡ y → d ≡ overlaid 0 0 d' → f ≡ None → a ≡ never
    → record {
      held = option_map (blocks_of n) x;
      size = n;
      read_faults = 0;
      write_faults = 0;
      writes = 0;
      fuse = f;
      arms = a;
      volatile = volatile_of n d;
      dropped = dropped_of n d;
    } ≡ opened n y d'
opened_is n x y d d' f a same is fuse arms = rw (same, is, fuse, arms, opened_volatile n d', opened_dropped n d') refl

-- as a law
pub blocks_bytes : BlocksAreTheirBytes
blocks_bytes s d volatile dropped k below = rw (volatile, dropped) (
  (durable_at s.size k d below, λ each. durable_is s.size k d (λ _. each)),
  (syncable_at s.size k d below, λ each. syncable_is s.size k d (λ _. each)),
)
