-- Durable and syncable bytes over the calls of one whole write.
-- serves: write_at (durability), write_whole (durability)
use Rattle.std.proofs.Common.{◌≡◌, ℕ, ◌+◌, ◌-◌, ◌≤◌, true, List, length, take, drop, false, Result, Ok, Err, is_err, sym, ap, subst, ◌∙◌, inl, inr, arith, length-drop, length-take}
use Rattle.std.specs.Prelude.{◌/◌, Option}
use Rattle.std.specs.Option.{ForSome}
use Rattle.std.proofs.lemmas.Bool.{cases_lt}
use Rattle.std.proofs.lemmas.List.{take-take, take_rest}
use Rattle.g_base.specs.ToldContent.{Changes}
use Rattle.g_base.proofs.ToldLemmas.{Changes-back}
use Rattle.g_files.specs.Bytes.{part, put}
use Rattle.g_files.specs.Durability.{Durability, HasSyncable, IsApart, WritesDurability}
use Rattle.g_files.proofs.BytesLemmas.{part-part, put-part}
use Rattle.g_files.proofs.SectorLemmas.{leaves_more}

apart_rest : (at done j : ℕ) (from piece : List ℕ) → done ≤ length from → piece ≡ drop done from → IsApart at (length from) j
    → IsApart (at + done) (length piece) j
apart_rest at done j from piece few same apart i below is =
    let long : length piece ≡ length from - done = ap length same ∙ length-drop done from in
    apart (done + i) (omega (arith, below, long, few)) (is ∙ ap (λ (m : ℕ). m / 512) (omega arith))

rest_within : (done : ℕ) (from piece : List ℕ) → done ≤ length from → piece ≡ drop done from → done + length piece ≤ length from
rest_within done from piece few same = omega (arith, few, ap (λ (p : List ℕ). length p) same, length-drop done from)

-- the bytes were there already, so the first calls changed none
rest_there : (at done : ℕ) (from piece : List ℕ) (x y : Option (List ℕ)) → ForSome x (λ b. at ≤ length b) → done ≤ length from → piece ≡ drop done from
    → Changes (λ old new. new ≡ put at (take done from) old) x y → ForSome x (λ b. from ≡ part at (length from) b)
    → ForSome y (λ b. piece ≡ part (at + done) (length piece) b)
rest_there at done from piece x y start few same told there b is =
    let f = Changes-back (λ old new. new ≡ put at (take done from) old) x y told b is in
    let n = length from in
    let all : from ≡ part at n f.0 = there f.0 f.1 in
    let room : at + n ≤ length f.0 = omega (arith, ap length all, length-take n (drop at f.0), length-drop at f.0, start f.0 f.1) in
    let first : take done from ≡ part at done f.0 = ap (take done) all ∙ take-take done n (drop at f.0) few in
    let kept : b ≡ f.0 = f.2 ∙ ap (λ (p : List ℕ). put at p f.0) first ∙ put-part at done f.0 (omega (arith, room, few)) in
    let long : length piece ≡ n - done = ap length same ∙ length-drop done from in
    same ∙ sym (take_rest from done) ∙ ap (part done (n - done)) all ∙ part-part done (n - done) at n f.0 (omega (arith, few)) room
    ∙ ap (λ (m : ℕ). part (at + done) m f.0) (sym long) ∙ ap (part (at + done) (length piece)) (sym kept)

-- one more call wrote a part of the rest
pub more_ok : {E E' : Type 0} (at done n : ℕ) (from piece : List ℕ) (x y : Option (List ℕ)) (a b c : Durability) → ForSome x (λ b. at ≤ length b)
    → done ≤ length from → piece ≡ drop done from → Changes (λ old new. new ≡ put at (take done from) old) x y
    → WritesDurability {T = Unit {0}} {E = E} at from x a b (Ok tt) → WritesDurability {T = ℕ} {E = E'} (at + done) piece y b c (Ok n)
    → WritesDurability {T = Unit {0}} {E = E} at from x a c (Ok tt)
more_ok at done n from piece x y a b c start few same told first second = record {
  apart = λ j apart was. second.apart j (apart_rest at done j from piece few same apart) (first.apart j apart was);
  syncable_apart = λ j apart was. second.syncable_apart j (apart_rest at done j from piece few same apart) (first.syncable_apart j apart was);
  unchanged = λ there j was. second.unchanged (rest_there at done from piece x y start few same told there) j (first.unchanged there j was);
  kept = λ j was. second.kept j (first.kept j was);
  sound = λ was. second.sound (first.sound was);
  sectors = λ left. leaves_more at done (length from) (length piece) a.remnants b.remnants c.remnants (rest_within done from piece few same) first.sectors second.sectors left;
  no_other = λ there left leaves. first.no_other there left (second.no_other (rest_there at done from piece x y start few same told there) left leaves);
  sized = λ was. second.sized (first.sized was);
}

pub more_syncable : {E : Type 0} (at done n : ℕ) (piece : List ℕ) (y : Option (List ℕ)) (b c : Durability)
    → HasSyncable at done b → WritesDurability {T = ℕ} {E = E} (at + done) piece y b c (Ok n) → HasSyncable (at + done) n c → HasSyncable at (done + n) c
more_syncable at done n piece y b c first second more i below = elim (cases_lt i done) [
  | inl early ↦ second.kept (at + i) (first i early)
  | inr late ↦
      let same : at + done + (i - done) ≡ at + i = omega (arith, late) in
      subst (λ (m : ℕ). c.syncable m ≡ true) same (more (i - done) (omega (arith, below, late)))
]

-- one more call, after which the write is reported as failed
pub more_err : {E E' E'' : Type 0} (at done : ℕ) (from piece : List ℕ) (r : Result ℕ E') (e : E'') (x y : Option (List ℕ)) (a b c : Durability)
    → ForSome x (λ b. at ≤ length b)
    → done ≤ length from → piece ≡ drop done from → Changes (λ old new. new ≡ put at (take done from) old) x y
    → WritesDurability {T = Unit {0}} {E = E} at from x a b (Ok tt) → WritesDurability (at + done) piece y b c r
    → WritesDurability {T = Unit {0}} at from x a c (Err e)
more_err at done from piece r e x y a b c start few same told first second = record {
  apart = λ j apart was. second.apart j (apart_rest at done j from piece few same apart) (first.apart j apart was);
  syncable_apart = λ j apart was. second.syncable_apart j (apart_rest at done j from piece few same apart) (first.syncable_apart j apart was);
  unchanged = λ there j was. second.unchanged (rest_there at done from piece x y start few same told there) j (first.unchanged there j was);
  kept = tt;
  sound = λ was. second.sound (first.sound was);
  sectors = λ left. leaves_more at done (length from) (length piece) a.remnants b.remnants c.remnants (rest_within done from piece few same) first.sectors second.sectors left;
  no_other = λ there left leaves. first.no_other there left (second.no_other (rest_there at done from piece x y start few same told there) left leaves);
  sized = tt;
}

-- the same, if the caller reports a failure
pub writes_err : {T E T' E' : Type 0} {at : ℕ} {from : List ℕ} {x : Option (List ℕ)} {a b : Durability} (r : Result T E) (e : E')
    → WritesDurability at from x a b r → WritesDurability {T = T'} at from x a b (Err e)
writes_err r e w = record { apart = w.apart; syncable_apart = w.syncable_apart; unchanged = w.unchanged; kept = tt; sound = w.sound; sectors = w.sectors; no_other = w.no_other; sized = tt }

-- the same, if the caller reports success
pub writes_ok : {E E' : Type 0} {at : ℕ} {from : List ℕ} {x : Option (List ℕ)} {a b : Durability} (r : Result (Unit {0}) E) → is_err r ≡ false
    → WritesDurability at from x a b r → WritesDurability {T = Unit {0}} {E = E'} at from x a b (Ok tt)
writes_ok (Ok t) ok w = record { apart = w.apart; syncable_apart = w.syncable_apart; unchanged = w.unchanged; kept = w.kept; sound = w.sound; sectors = w.sectors; no_other = w.no_other; sized = w.sized }
writes_ok (Err e) ok w = absurd (cc)
