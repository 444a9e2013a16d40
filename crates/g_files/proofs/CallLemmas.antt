-- What several reads or writes do one after another, and what a mixture of old and new bytes is.
-- serves: buffer (written), cut (begun, front, kept, secured, stored), end_with (done, front, kept, left, orderly, stored), read, read_whole, and 13 more
use Rattle.std.proofs.Common.{◌≡◌, ℕ, ◌+◌, ◌-◌, ◌<◌, ◌≤◌, List, [], ◌++◌, length, take, drop, get_or, Result, Ok, Err, is_err, false, true, OnErr, OnOk, Some, None, refl, sym, ap, subst, ◌∙◌, inl, inr, arith, length-append, length-drop}
use Rattle.std.specs.Prelude.{Option, option_map}
use Rattle.std.specs.Option.{ForSome}
use Rattle.std.proofs.lemmas.Bool.{cases_lt}
use Rattle.std.proofs.lemmas.List.{get_or_past, get_or_append_left, get_or-append_right, get_or-take, get_or-drop, length-take-le, ext_get_or, take-append-le, drop-drop, take_at}
use Rattle.std.proofs.Math.Seq.{take-add, take-append-add}
use borrow.Rule.Slice.PartMut.{put_mid, post_of}
use Rattle.g_base.specs.ToldContent.{Changes}
use Rattle.g_base.proofs.ToldLemmas.{Changes-none, Changes-weaken}
use Rattle.g_files.specs.Bytes.{AreBytes, part, put}
use Rattle.g_files.specs.Calls.{Mixed, IsMixed, HasWritten, HasWrittenAll}
use Rattle.g_files.proofs.BytesLemmas.{AreBytes-put, put-nil, put-part, put-put_over, put-put_next, length-part, get-part, get-put_behind, length-put_any, length-put_least}

-- STEPS OF A READ AND A WRITE BY SEVERAL CALLS

pub read_step : (at done n k : ℕ) (into new bytes : List ℕ) → done ≤ length into → n ≤ length new → take done into ≡ part at done bytes
    → take n new ≡ part (at + done) n bytes
    → take (done + n) (put_mid done k into new) ≡ part at (done + n) bytes
read_step at done n k into new bytes within few first second =
    let long : length (take done into) ≡ done = length-take-le done into within in
    let rest : List ℕ = new ++ post_of done k into in
    ap (λ (d : ℕ). take (d + n) (take done into ++ rest)) (sym long)
    ∙ take-append-add (take done into) rest n
    ∙ ap (λ (xs : List ℕ). take done into ++ xs) (take-append-le n new (post_of done k into) few ∙ second)
    ∙ ap (λ (xs : List ℕ). xs ++ part (at + done) n bytes) first
    ∙ sym (take-add done n (drop at bytes) ∙ ap (λ (xs : List ℕ). take done (drop at bytes) ++ take n xs) (drop-drop done at bytes))

pub read_none : (done k : ℕ) (into new : List ℕ) → done ≤ length into → take done (put_mid done k into new) ≡ take done into
read_none done k into new within = take_at (take done into) (new ++ post_of done k into) done (length-take-le done into within)

put_more : (at done n : ℕ) (from b : List ℕ) → at ≤ length b → done ≤ length from
    → put (at + done) (take n (drop done from)) (put at (take done from) b) ≡ put at (take (done + n) from) b
put_more at done n from b start within =
    let long : length (take done from) ≡ done = length-take-le done from within in
    ap (λ (d : ℕ). put (at + d) (take n (drop done from)) (put at (take done from) b)) (sym long)
    ∙ put-put_next at (take done from) (take n (drop done from)) b start
    ∙ ap (λ (xs : List ℕ). put at xs b) (sym (take-add done n from))

mixed_more : (at done : ℕ) (from b new : List ℕ) → at ≤ length b → done ≤ length from
    → IsMixed (at + done) (drop done from) (put at (take done from) b) new → IsMixed at from b new
mixed_more at done from b new start within (left, mixed, is) =
    let long : length (take done from) ≡ done = length-take-le done from within in
    let both : length (take done from ++ left) ≡ done + length left = omega (arith, length-append (take done from) left, long) in
    let rest : length (drop done from) ≡ length from - done = length-drop done from in (
      take done from ++ left,
      record {
        few = omega (arith, both, mixed.few, rest, within);
        each = λ i below here. elim (cases_lt i done) [
          | inl early ↦ inr (get_or_append_left (take done from) left 0 i (omega (arith, early, long)) ∙ get_or-take done from i 0 early)
          | inr late ↦
              let shown : get_or (take done from ++ left) i 0 ≡ get_or left (i - done) 0 = get_or-append_right (take done from) left done i 0 long late in
              let same : at + done + (i - done) ≡ at + i = omega (arith, late) in
              let least = length-put_least at (take done from) b start in
              let room : at + i < length (put at (take done from) b) = omega (arith, here, length-put_any at (take done from) b start) in
              elim (mixed.each (i - done) (omega (arith, below, both, late)) (omega (arith, room, same))) [
                | inl was ↦ inl (shown ∙ was ∙ ap (λ (j : ℕ). get_or (put at (take done from) b) j 0) same
                    ∙ get-put_behind at (at + i) 0 (take done from) b start (omega (arith, long, late)))
                | inr given ↦ inr (shown ∙ given ∙ get_or-drop done from (i - done) 0 ∙ ap (λ (j : ℕ). get_or from j 0) (omega (arith, late)))
              ]
        ];
      },
      is ∙ ap (λ (d : ℕ). put (at + d) left (put at (take done from) b)) (sym long) ∙ put-put_next at (take done from) left b start,
    )

-- one more call wrote a part of the rest
pub write_step : (E : Type 0) (at done n : ℕ) (from piece : List ℕ) (x y z : Option (List ℕ)) → ForSome x (λ b. at ≤ length b) → done ≤ length from
    → piece ≡ drop done from
    → Changes (λ old new. new ≡ put at (take done from) old) x y → Changes (HasWritten {E = E} (at + done) piece (Ok n)) y z
    → Changes (λ old new. new ≡ put at (take (done + n) from) old) x z
write_step E at done n from piece x y z start within same first second = record {
  told = λ b is.
      let one = first.told b is in
      let two = second.told one.0 one.1 in (
        two.0,
        two.1,
        two.2 ∙ ap (λ (p : List ℕ). put (at + done) (take n p) one.0) same ∙ ap (put (at + done) (take n (drop done from))) one.2
            ∙ put_more at done n from b (start b is) within,
      );
  untold = λ is. second.untold (first.untold is);
}

-- one more call failed
pub write_fails : {E E' : Type 0} (at done : ℕ) (from piece : List ℕ) (e : E) (e' : E') (x y z : Option (List ℕ)) → ForSome x (λ b. at ≤ length b)
    → done ≤ length from → piece ≡ drop done from
    → Changes (λ old new. new ≡ put at (take done from) old) x y → Changes (HasWritten (at + done) piece (Err e)) y z
    → Changes (HasWrittenAll at from (Err e')) x z
write_fails at done from piece e e' x y z start within same first second = record {
  told = λ b is.
      let one = first.told b is in
      let two = second.told one.0 one.1 in (
        two.0,
        two.1,
        mixed_more at done from b two.0 (start b is) within
            (subst (λ p. IsMixed (at + done) p (put at (take done from) b) two.0) same
            (subst (λ old. IsMixed (at + done) piece old two.0) one.2 two.2)),
      );
  untold = λ is. second.untold (first.untold is);
}

-- CHANGES

-- a call that changed nothing, before or after a call that did
pub changes_behind : {X : Type 0} {R : X → X → Type 0} {x y z : Option X} → y ≡ x → Changes R y z → Changes R x z
changes_behind {R = R} {z = z} same c = subst (λ o. Changes R o z) same c

pub changes_before : {X : Type 0} {R : X → X → Type 0} {x y z : Option X} → z ≡ y → Changes R x y → Changes R x z
changes_before {R = R} {x = x} same c = subst (λ o. Changes R x o) (sym same) c

-- what follows for a function of the content
pub changes_seen : {X : Type 0} {R S : X → X → Type 0} (f g : X → X) (x y : Option X) → ((b a : X) → x ≡ Some b → R b a → S (f b) (g a))
    → Changes R x y → Changes S (option_map f x) (option_map g y)
changes_seen {S = S} f g None y step c = record {
  told = λ b is. absurd (cc);
  untold = λ is. rw (c.untold refl) refl;
}
changes_seen {S = S} f g (Some x) y step c = let t = c.told x refl in record {
  told = λ b is. (g t.0, rw t.1 refl, subst (λ b. S b (g t.0)) (cc) (step x t.0 refl t.2));
  untold = λ is. absurd (cc);
}

-- a change that the function doesn't show
pub same_seen : {X : Type 0} {R : X → X → Type 0} (f g : X → X) (x y : Option X) → ((b a : X) → x ≡ Some b → R b a → g a ≡ f b) → Changes R x y
    → option_map g y ≡ option_map f x
same_seen f g None y step c = rw (c.untold refl) refl
same_seen f g (Some x) y step c = let t = c.told x refl in rw t.1 (ap (λ z. Some z) (step x t.0 refl t.2))

-- MIXTURES

-- nothing was written
pub mixed_none : (at : ℕ) (from old : List ℕ) → IsMixed at from old old
mixed_none at from old = ([], record { few = omega arith; each = λ i below. absurd (omega arith) }, sym (put-nil at old))

-- everything was written
pub mixed_all : (at : ℕ) (from old : List ℕ) → IsMixed at from old (put at from old)
mixed_all at from old = (from, record { few = omega arith; each = λ i below here. inr refl }, refl)

same_left : (at n : ℕ) (old left : List ℕ) → length left ≤ n → at + n ≤ length old → Mixed at (part at n old) left old → left ≡ part at (length left) old
same_left at n old left few within mixed =
    let long : length (part at (length left) old) ≡ length left = length-part at (length left) old (omega (arith, few, within)) in
    ext_get_or 0 left (part at (length left) old) (sym long) (λ i below.
    let there : get_or (part at (length left) old) i 0 ≡ get_or old (at + i) 0 = get-part at (length left) i 0 old below in
    elim (mixed.each i below (omega (arith, below, few, within))) [
      | inl was ↦ was ∙ sym there
      | inr given ↦ given ∙ get-part at n i 0 old (omega (arith, below, few)) ∙ sym there
    ])

-- Writing the bytes that are there already changes nothing, even if it fails.
pub mixed_same : (at n : ℕ) (old new : List ℕ) → at + n ≤ length old → IsMixed at (part at n old) old new → new ≡ old
mixed_same at n old new within (left, mixed, is) =
    let long = length-part at n old within in
    let few : length left ≤ n = omega (arith, mixed.few, long) in
    let all : left ≡ part at (length left) old =
    same_left at n old left few within mixed in
    is ∙ ap (λ l. put at l old) all ∙ put-part at (length left) old (omega (arith, few, within))

-- bytes written over a mixture of them replace it
pub over_mixed : (at : ℕ) (from old new : List ℕ) → at + length from ≤ length old → IsMixed at from old new → put at from new ≡ put at from old
over_mixed at from old new within (left, mixed, is) = ap (put at from) is ∙ put-put_over at from left old mixed.few within

-- a mixture of bytes within the file leaves bytes
pub mixed_bytes : (at : ℕ) (from old new : List ℕ) → at + length from ≤ length old → AreBytes from → AreBytes old → IsMixed at from old new → AreBytes new
mixed_bytes at from old new within given was (left, mixed, is) =
    let each : AreBytes left = λ i. elim (cases_lt i (length left)) [
      | inl below ↦ elim (mixed.each i below (omega (arith, below, mixed.few, within))) [
        | inl same ↦ let small = was (at + i) in omega (arith, same, small)
        | inr same ↦ let small = given i in omega (arith, same, small)
      ]
      | inr past ↦ let none : get_or left i 0 ≡ 0 = get_or_past left i 0 past in omega (arith, none)
    ] in
    subst AreBytes (sym is) (AreBytes-put at left old (omega (arith, within, mixed.few)) each was)

-- Ok or not, the result is a mixture
pub any_mixed : {E : Type 0} (at : ℕ) (from old new : List ℕ) (r : Result (Unit {0}) E) → HasWrittenAll at from r old new → IsMixed at from old new
any_mixed at from old new (Ok done) is = subst (IsMixed at from old) (sym is) (mixed_all at from old)
any_mixed at from old new (Err e) is = is

-- a failed call that changed nothing
pub fails_same : {E : Type 0} (at : ℕ) (from : List ℕ) (e : E) (x y : Option (List ℕ)) → y ≡ x → Changes (HasWrittenAll at from (Err e)) x y
fails_same at from e x y same = Changes-none (HasWrittenAll at from (Err e)) x y same (λ b is. mixed_none at from b)

-- a failed call that wrote the range, or a part of it
pub fails_mixed : {E E' : Type 0} (at : ℕ) (from : List ℕ) (r : Result (Unit {0}) E) (e : E') (x y : Option (List ℕ))
    → Changes (HasWrittenAll at from r) x y → Changes (HasWrittenAll at from (Err e)) x y
fails_mixed at from r e x y c = Changes-weaken c (λ b a was is. any_mixed at from b a r is)

-- an answer that is no error
pub on_ok_at : {T E P : Type 0} (r : Result T E) → is_err r ≡ false → OnOk r P → P
on_ok_at (Ok x) ok p = p
on_ok_at (Err e) ok p = absurd (cc)

-- an answer that is one
pub on_err_at : {T E P : Type 0} (r : Result T E) → is_err r ≡ true → OnErr r P → P
on_err_at (Ok x) err p = absurd (cc)
on_err_at (Err e) err p = p
