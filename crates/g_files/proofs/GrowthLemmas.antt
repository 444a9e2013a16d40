-- What writes of single blocks do to what a power loss may leave.
-- serves: fill (durability), make_room (orderly), put_last (durability), put_once (durability), rewrite_block (durability), write_again
use Rattle.std.proofs.Common.{◌≡◌, ℕ, ◌+◌, ◌-◌, ◌*◌, ◌<◌, ◌≤◌, ◌==◌, List, length, Result, Ok, Err, OnOk, is_ok, true, false, sym, ap, subst, ◌∙◌, inl, inr, arith}
use Rattle.std.specs.Prelude.{Option}
use Rattle.std.specs.Option.{ForSome}
use Rattle.std.proofs.lemmas.Bool.{cases_eq, cases_lt, ne_eqb}
use Rattle.g_files.specs.Bytes.{part}
use Rattle.g_files.specs.Durability.{Durability, HasSyncable, IsApart, WritesDurability}
use Rattle.g_files.specs.Growth.{Appends, Grows, Rewrites}
use Rattle.g_files.specs.Sectors.{LeavesNoOther}
use Rattle.g_files.proofs.SectorLemmas.{grows_then, grows_write}

apart_before : (k j n : ℕ) → n ≤ 512 → j < 512 * k → IsApart (512 * k) n j
apart_before k j n few before i below same = omega (arith, few, before, below, same)

pub false_true : false ≡ true → ⊥
false_true is = cc

-- an error that is passed on
pub err_not_ok : {T E : Type 0} (r : Result T E) (fault : E) → r ≡ Err fault → is_ok r ≡ true → ⊥
err_not_ok r fault same ok = false_true (sym (ap is_ok same) ∙ ok)

-- APPENDS

pub appends_ok : (k : ℕ) (old new : Durability) (p q : Type 0) → (q → p) → Appends k old new p → Appends k old new q
appends_ok k old new p q weaker a = record { grows = a.grows; front = a.front; last = λ ok. a.last (weaker ok); sized = λ ok was. a.sized (weaker ok) was }

pub appends_not : {T E : Type 0} (k : ℕ) (from : List ℕ) (x : Option (List ℕ)) (old new : Durability) (r : Result T E) (ok : Type 0) → (ok → ⊥) → length from ≡ 512
    → WritesDurability (512 * k) from x old new r → Appends k old new ok
appends_not k from x old new r ok never size writes = record {
  grows = grows_write k from x old new r (omega (arith, size)) writes;
  front = λ j before was. writes.syncable_apart j (apart_before k j (length from) (omega (arith, size)) before) was;
  last = λ is. absurd (never is);
  sized = λ is. absurd (never is);
}

pub appends_once : {E : Type 0} (k n : ℕ) (from : List ℕ) (x : Option (List ℕ)) (old new : Durability) → length from ≡ 512
    → WritesDurability {T = ℕ} {E = E} (512 * k) from x old new (Ok n) → HasSyncable (512 * k) n new → Appends k old new ((n == 512) ≡ true)
appends_once {E = E} k n from x old new size writes here = record {
  grows = grows_write {T = ℕ} {E = E} k from x old new (Ok n) (omega (arith, size)) writes;
  front = λ j before was. writes.syncable_apart j (apart_before k j (length from) (omega (arith, size)) before) was;
  last = λ is i below. here i (omega (arith, below, all is));
  sized = λ is was. writes.sized was;
}
  where
    all : (n == 512) ≡ true → n ≡ 512
    all is = elim (cases_eq n 512) [
      | inl same ↦ same
      | inr other ↦ absurd (let no = ne_eqb n 512 other in cc)
    ]

pub appends_whole : {E : Type 0} (k : ℕ) (from : List ℕ) (x : Option (List ℕ)) (old new : Durability) (r : Result (Unit {0}) E) → length from ≡ 512
    → WritesDurability (512 * k) from x old new r → OnOk r (HasSyncable (512 * k) (length from) new) → Appends k old new (is_ok r ≡ true)
appends_whole {E = E} k from x old new (Ok u) size writes here = record {
  grows = grows_write {T = Unit {0}} {E = E} k from x old new (Ok u) (omega (arith, size)) writes;
  front = λ j before was. writes.syncable_apart j (apart_before k j (length from) (omega (arith, size)) before) was;
  last = λ is i below. here i (omega (arith, below, size));
  sized = λ is was. writes.sized was;
}
appends_whole {E = E} k from x old new (Err e) size writes here = appends_not {T = Unit {0}} {E = E} k from x old new (Err e) (false ≡ true) false_true size writes

-- after another call that was undone
pub appends_after : (k : ℕ) (old mid new : Durability) (ok : Type 0) → Grows k old.remnants mid.remnants
    → ((j : ℕ) → j < 512 * k → old.syncable j ≡ true → mid.syncable j ≡ true) → mid.sized ≡ true → Appends k mid new ok → Appends k old new ok
appends_after k old mid new ok grows front sized a = record {
  grows = grows_then k old.remnants mid.remnants new.remnants grows a.grows;
  front = λ j before was. a.front j before (front j before was);
  last = a.last;
  sized = λ is was. a.sized is sized;
}

-- only that, and it failed
pub appends_failed : (k : ℕ) (old new : Durability) (ok : Type 0) → (ok → ⊥) → Grows k old.remnants new.remnants
    → ((j : ℕ) → j < 512 * k → old.syncable j ≡ true → new.syncable j ≡ true) → Appends k old new ok
appends_failed k old new ok never grows front = record { grows = grows; front = front; last = λ is. absurd (never is); sized = λ is. absurd (never is) }

-- REWRITES

pub rewrites_none : (from to : ℕ) (old new : Durability) (ok : Type 0) → (ok → ⊥) → new ≡ old → Rewrites from to old new ok
rewrites_none from to old new ok never same = record {
  no_other = subst (λ (d : Durability). LeavesNoOther old.remnants d.remnants) (sym same) (λ left leaves. leaves);
  written = λ is. absurd (never is);
  kept = λ is. absurd (never is);
  sized = λ is. absurd (never is);
}

pub rewrites_first : (from : ℕ) (d : Durability) (ok : Type 0) → Rewrites from from d d ok
rewrites_first from d ok = record {
  no_other = λ left leaves. leaves;
  written = λ is j least most. absurd (omega (arith, least, most));
  kept = λ is j was. was;
  sized = λ is was. was;
}

pub rewrites_again : {E : Type 0} (k : ℕ) (block : List ℕ) (x : Option (List ℕ)) (old new : Durability) (r : Result (Unit {0}) E) → length block ≡ 512
    → ForSome x (λ b. block ≡ part (512 * k) 512 b) → WritesDurability (512 * k) block x old new r
    → OnOk r (HasSyncable (512 * k) (length block) new) → Rewrites k (k + 1) old new (is_ok r ≡ true)
rewrites_again k block x old new (Ok u) size there writes here = record {
  no_other = writes.no_other (λ b at. there b at ∙ ap (λ (n : ℕ). part (512 * k) n b) (sym size));
  written = λ is j least most. subst (λ (m : ℕ). new.syncable m ≡ true) (omega (arith, least)) (here (j - 512 * k) (omega (arith, least, most, size)));
  kept = λ is j was. writes.kept j was;
  sized = λ is was. writes.sized was;
}
rewrites_again k block x old new (Err e) size there writes here = record {
  no_other = writes.no_other (λ b at. there b at ∙ ap (λ (n : ℕ). part (512 * k) n b) (sym size));
  written = λ is. absurd (false_true is);
  kept = λ is. absurd (false_true is);
  sized = λ is. absurd (false_true is);
}

-- one block more
pub rewrites_more : (from i : ℕ) (old mid new : Durability) (p q r : Type 0) → (r → p) → (r → q) → Rewrites from i old mid p → Rewrites i (i + 1) mid new q → Rewrites from (i + 1) old new r
rewrites_more from i old mid new p q r one two first second = record {
  no_other = λ left leaves. first.no_other left (second.no_other left leaves);
  written = λ is j least most. elim (cases_lt j (512 * i)) [
    | inl early ↦ second.kept (two is) j (first.written (one is) j least early)
    | inr late ↦ second.written (two is) j late most
  ];
  kept = λ is j was. second.kept (two is) j (first.kept (one is) j was);
  sized = λ is was. second.sized (two is) (first.sized (one is) was);
}

-- no more blocks than these
pub rewrites_less : (from i to : ℕ) (old new : Durability) (p q : Type 0) → (q → p) → to ≤ i → Rewrites from i old new p → Rewrites from to old new q
rewrites_less from i to old new p q weaker few a = record {
  no_other = a.no_other;
  written = λ is j least most. a.written (weaker is) j least (omega (arith, most, few));
  kept = λ is. a.kept (weaker is);
  sized = λ is. a.sized (weaker is);
}

-- a rewrite that failed after these
pub rewrites_failed : (from i to : ℕ) (old mid new : Durability) (p q r : Type 0) → (r → ⊥) → Rewrites from i old mid p → Rewrites i (i + 1) mid new q → Rewrites from to old new r
rewrites_failed from i to old mid new p q r never first second = record {
  no_other = λ left leaves. first.no_other left (second.no_other left leaves);
  written = λ is. absurd (never is);
  kept = λ is. absurd (never is);
  sized = λ is. absurd (never is);
}
