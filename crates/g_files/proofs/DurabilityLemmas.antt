-- What flushes, writes and syncs do to durable and syncable bytes and blocks.
-- serves: flush (durability, gate), size (syncable), write (durability), write_at (gate), write_block (durability), write_through (durability)
use Rattle.std.proofs.Common.{◌≡◌, ◌⊎◌, ℕ, ◌+◌, ◌-◌, ◌*◌, ◌<◌, ◌≤◌, true, false, List, length, Result, Ok, Err, is_err, OnOk, ltb, leb, sym, ap, subst, ◌∙◌, inl, inr, arith}
use Rattle.std.specs.Prelude.{◌≢◌, ◌/◌, Option, not}
use Rattle.std.proofs.lemmas.Bool.{and_from, and_left, and_parts, and_right, cases_lt, leb-true, lt-leb, le-ltb, ltb-true, ltb-false, leb-false, not-true, not_from_false, or_cases, or_right, and_cases}
use Rattle.std.proofs.lemmas.Nat.{div-mul-add}
use Rattle.g_files.specs.Durability.{Durability, DurableAreSyncable, HasDurable, HasSyncable, IsApart, KeepsDurability, StaySyncable, WritesBlock, WritesDurability, is_within, overlaid}

-- WITHIN A RANGE OR OUTSIDE

abbrev IsOutside : ℕ → ℕ → ℕ → Type 0
IsOutside at n j = (j < at) ⊎ (at + n ≤ j)

outside : (at n j : ℕ) → not (is_within at n j) ≡ true → IsOutside at n j
outside at n j is = elim (and_cases (leb at j) (ltb j (at + n)) (not-true (is_within at n j) is)) [
  | inl below ↦ inl (leb-false at j below)
  | inr past ↦ inr (ltb-false j (at + n) past)
]

outside_is : (at n j : ℕ) → IsOutside at n j → not (is_within at n j) ≡ true
outside_is at n j (inl below) = not_from_false (is_within at n j) (and_left (leb at j) (ltb j (at + n)) (lt-leb at j below))
outside_is at n j (inr past) = not_from_false (is_within at n j) (and_right (leb at j) (ltb j (at + n)) (le-ltb j (at + n) past))

durable_parts : (at n j : ℕ) (d : Durability) → (overlaid at n d).durable j ≡ true → (d.durable j ≡ true) × IsOutside at n j
durable_parts at n j d is = let p = and_parts (d.durable j) (not (is_within at n j)) is in (p.0, outside at n j p.1)

durable_from : (at n j : ℕ) (d : Durability) → d.durable j ≡ true → IsOutside at n j → (overlaid at n d).durable j ≡ true
durable_from at n j d is out = and_from (d.durable j) (not (is_within at n j)) is (outside_is at n j out)

syncable_file : (at n j : ℕ) (d : Durability) → d.syncable j ≡ true → (overlaid at n d).syncable j ≡ true
syncable_file at n j d is = or_right (is_within at n j) (d.syncable j) is

syncable_cases : (at n j : ℕ) (d : Durability) → (overlaid at n d).syncable j ≡ true → ((at ≤ j) × (j < at + n)) ⊎ (d.syncable j ≡ true)
syncable_cases at n j d is = elim (or_cases (is_within at n j) (d.syncable j) is) [
  | inl inside ↦ let p = and_parts (leb at j) (ltb j (at + n)) inside in inl (leb-true at j p.0, ltb-true j (at + n) p.1)
  | inr file ↦ inr file
]

-- nothing is buffered
pub empty_durable : (at n j : ℕ) (d : Durability) → n ≡ 0 → d.durable j ≡ true → (overlaid at n d).durable j ≡ true
empty_durable at n j d none is = durable_from at n j d is (elim (cases_lt j at) [
  | inl below ↦ inl below
  | inr from ↦ inr (omega (arith, from, none))
])

pub file_durable : (at n j : ℕ) (d : Durability) → (overlaid at n d).durable j ≡ true → d.durable j ≡ true
file_durable at n j d is = (durable_parts at n j d is).0

pub empty_syncable : (at n j : ℕ) (d : Durability) → n ≡ 0 → (overlaid at n d).syncable j ≡ true → d.syncable j ≡ true
empty_syncable at n j d none is = elim (syncable_cases at n j d is) [
  | inl inside ↦ let low = inside.0 in let high = inside.1 in absurd (omega (arith, low, high, none))
  | inr file ↦ file
]

-- SECTORS

sector : (k i : ℕ) → i < 512 → (512 * k + i) / 512 ≡ k
sector k i below = ap (λ (x : ℕ). x / 512) (omega arith) ∙ div-mul-add k 512 i below

-- a write within block k affects no other block
pub other_block : (k n j i : ℕ) → n ≤ 512 → j ≢ k → i < 512 → IsApart (512 * k) n (512 * j + i)
other_block k n j i few other below m inside same =
    other (sym (sector j i below) ∙ same ∙ sector k m (omega (arith, inside, few)))

-- nor does one outside a block
beside_block : (at n k i : ℕ) → ((i : ℕ) → i < 512 → IsOutside at n (512 * k + i)) → i < 512 → IsApart at n (512 * k + i)
beside_block at n k i out below m inside same =
    let in_block : (at + m) / 512 ≡ k = sym same ∙ sector k i below in
    let low : 512 * k ≤ at + m = omega (arith, in_block) in
    let high : at + m < 512 * k + 512 = omega (arith, in_block) in
    elim (out (at + m - 512 * k) (omega (arith, low, high))) [
      | inl before ↦ omega (arith, before, low)
      | inr past ↦ omega (arith, past, low, inside)
    ]

-- FLUSHES

-- the buffered bytes were written to the file, or a part of them
flush_durable : {E : Type 0} (at : ℕ) (p : List ℕ) (x : Option (List ℕ)) (d d' : Durability) (r : Result (Unit {0}) E)
    → WritesDurability at p x d d' r
    → (k : ℕ) → HasDurable (512 * k) 512 (overlaid at (length p) d) → HasDurable (512 * k) 512 (overlaid at (length p) d')
flush_durable at p x d d' r w k was i below =
    let out : (i : ℕ) → i < 512 → IsOutside at (length p) (512 * k + i) = λ m low. (durable_parts at (length p) (512 * k + m) d (was m low)).1 in
    let file : d.durable (512 * k + i) ≡ true = (durable_parts at (length p) (512 * k + i) d (was i below)).0 in
    durable_from at (length p) (512 * k + i) d' (w.apart (512 * k + i) (beside_block at (length p) k i out below) file) (out i below)

pub flush_fails : {E E' : Type 0} (at : ℕ) (p : List ℕ) (x : Option (List ℕ)) (d d' : Durability) (r : Result (Unit {0}) E) (e : E')
    → WritesDurability at p x d d' r → KeepsDurability {T = Unit {0}} (overlaid at (length p) d) (overlaid at (length p) d') (Err e)
flush_fails at p x d d' r e w = record { durable = flush_durable at p x d d' r w; kept = tt }

-- all of them were written
pub flushed : {E E' : Type 0} (at to n : ℕ) (p : List ℕ) (x : Option (List ℕ)) (d d' : Durability) (r : Result (Unit {0}) E) → is_err r ≡ false → n ≡ 0
    → WritesDurability at p x d d' r → OnOk r (HasSyncable at (length p) d')
    → KeepsDurability {T = Unit {0}} {E = E'} (overlaid at (length p) d) (overlaid to n d') (Ok tt)
flushed at to n p x d d' (Err e) ok none w here = absurd (cc)
flushed at to n p x d d' (Ok done) ok none w here = record {
  durable = λ k was i below. empty_durable to n (512 * k + i) d' none (file_durable at (length p) (512 * k + i) d'
      (flush_durable at p x d d' (Ok done) w k was i below));
  kept = λ j was. syncable_file to n j d' (elim (syncable_cases at (length p) j d was) [
    | inl inside ↦
        let low = inside.0 in
        let high = inside.1 in
        let same : at + (j - at) ≡ j = omega (arith, low) in
        subst (λ (m : ℕ). d'.syncable m ≡ true) same (here (j - at) (omega (arith, low, high)))
    | inr file ↦ w.kept j file
  ]);
}

-- no buffered byte is one of the gate, so a flush leaves it durable
pub gate_stays : {E : Type 0} (at : ℕ) (p : List ℕ) (x : Option (List ℕ)) (d d' : Durability) (r : Result (Unit {0}) E) → (0 < length p → 512 ≤ at)
    → WritesDurability at p x d d' r → HasDurable 0 512 d → HasDurable 0 512 d'
gate_stays at p x d d' r behind w was i below =
    w.apart (0 + i) (beside_block at (length p) 0 i (λ m low. elim (cases_lt 0 (length p)) [
      | inl some ↦ let far = behind some in inl (omega (arith, low, far))
      | inr none ↦ elim (cases_lt m at) [
        | inl before ↦ inl (omega (arith, before))
        | inr from ↦ inr (omega (arith, from, none))
      ]
    ]) below) (was i below)

-- nor does a write of another block affect it
pub gate_beside : {E : Type 0} (k : ℕ) (p : List ℕ) (x : Option (List ℕ)) (d d' : Durability) (r : Result (Unit {0}) E) → 0 < k → length p ≤ 512
    → WritesDurability (512 * k) p x d d' r → HasDurable 0 512 d → HasDurable 0 512 d'
gate_beside k p x d d' r other few w was i below =
    w.apart (0 + i) (other_block k (length p) 0 i few (λ same. omega (arith, same, other)) below) (was i below)

-- a buffered byte is syncable, and the others as in the file
pub seen_sound : (at n : ℕ) (d : Durability) → DurableAreSyncable d → DurableAreSyncable (overlaid at n d)
seen_sound at n d sound j is = syncable_file at n j d (sound j (file_durable at n j d is))

-- CALLS THAT CHANGE NO BYTE

ok_kept : {T E : Type 0} {a b : Durability} (r : Result T E) → is_err r ≡ false → KeepsDurability a b r → StaySyncable a b
ok_kept (Ok x) ok keeps = keeps.kept
ok_kept (Err e) ok keeps = absurd (cc)

pub keeps_then : {T E T' E' : Type 0} {a b c : Durability} (r : Result T E) (r' : Result T' E') → is_err r ≡ false → KeepsDurability a b r
    → KeepsDurability b c r' → KeepsDurability a c r'
keeps_then r (Ok x) ok first second = record {
  durable = λ k was. second.durable k (first.durable k was);
  kept = λ j was. second.kept j (ok_kept r ok first j was);
}
keeps_then r (Err e) ok first second = record { durable = λ k was. second.durable k (first.durable k was); kept = tt }

-- WRITES OF BLOCKS

pub failed_keeps : {T E T' E' : Type 0} {a b : Durability} {r : Result T E} (k : ℕ) (from : List ℕ) (x y : Option (List ℕ)) (e : E') → y ≡ x
    → KeepsDurability a b r → WritesBlock {T = T'} k from x y a b (Err e)
failed_keeps k from x y e same keeps = record {
  durable = λ j other was. keeps.durable j was;
  kept = tt;
  here = tt;
  gate = λ is. tt;
  gate_failed = λ is. inl (same, λ was. keeps.durable 0 was);
}

pub after_keeps : {T E T' E' : Type 0} {a b c : Durability} (r : Result T E) (r' : Result T' E') (k : ℕ) (from : List ℕ) (x y z : Option (List ℕ))
    → is_err r ≡ false → KeepsDurability a b r → y ≡ x → WritesBlock k from y z b c r' → WritesBlock k from x z a c r'
after_keeps r (Ok t) k from x y z ok keeps same w = record {
  durable = λ j other was. w.durable j other (keeps.durable j was);
  kept = λ j was. w.kept j (ok_kept r ok keeps j was);
  here = w.here;
  gate = λ is. (λ j other was. (w.gate is).0 j other (λ i below. ok_kept r ok keeps (512 * j + i) (was i below)), (w.gate is).1);
  gate_failed = λ is. tt;
}
after_keeps r (Err e) k from x y z ok keeps same w = record {
  durable = λ j other was. w.durable j other (keeps.durable j was);
  kept = tt;
  here = tt;
  gate = λ is. tt;
  gate_failed = λ is. elim (w.gate_failed is) [
    | inl unchanged ↦ inl (unchanged.0 ∙ same, λ was. unchanged.1 (keeps.durable 0 was))
    | inr synced ↦ inr (λ j other was. synced j other (λ i below. ok_kept r ok keeps (512 * j + i) (was i below)))
  ];
}

-- a write of a part of the block that is reported as failed, whether or not it was
pub torn_write : {E E' : Type 0} (k : ℕ) (from piece : List ℕ) (x y : Option (List ℕ)) (d d' : Durability) (r : Result (Unit {0}) E) (e : E')
    → WritesBlock k piece x y d d' r → WritesBlock {T = Unit {0}} k from x y d d' (Err e)
torn_write k from piece x y d d' (Ok t) e w = record {
  durable = w.durable;
  kept = tt;
  here = tt;
  gate = λ is. tt;
  gate_failed = λ is. inr (w.gate is).0;
}
torn_write k from piece x y d d' (Err f) e w = record { durable = w.durable; kept = tt; here = tt; gate = λ is. tt; gate_failed = w.gate_failed }

-- a write of another block than the gate
pub written_block : {E : Type 0} (at n to m k : ℕ) (from : List ℕ) (o x y : Option (List ℕ)) (d d' : Durability) (r : Result (Unit {0}) E)
    → n ≡ 0 → m ≡ 0 → length from ≤ 512 → 0 < k → WritesDurability (512 * k) from o d d' r → OnOk r (HasSyncable (512 * k) (length from) d')
    → WritesBlock k from x y (overlaid at n d) (overlaid to m d') r
written_block at n to m k from o x y d d' (Ok t) none none' few some w here = record {
  durable = λ j other was i below. empty_durable to m (512 * j + i) d' none' (w.apart (512 * j + i) (other_block k (length from) j i few other below)
      (file_durable at n (512 * j + i) d (was i below)));
  kept = λ j was. syncable_file to m j d' (w.kept j (empty_syncable at n j d none was));
  here = λ i below. syncable_file to m (512 * k + i) d' (here i below);
  gate = λ is. absurd (omega (arith, is, some));
  gate_failed = λ is. tt;
}
written_block at n to m k from o x y d d' (Err e) none none' few some w here = record {
  durable = λ j other was i below. empty_durable to m (512 * j + i) d' none' (w.apart (512 * j + i) (other_block k (length from) j i few other below)
      (file_durable at n (512 * j + i) d (was i below)));
  kept = tt;
  here = tt;
  gate = λ is. tt;
  gate_failed = λ is. absurd (omega (arith, is, some));
}
