-- What single calls do to a file in memory.
-- serves: len (bytes), write_at (written)
use Rattle.std.proofs.Common.{◌≡◌, ℕ, ◌+◌, ◌-◌, ◌<◌, ◌≤◌, List, ◌++◌, length, take, drop, get_or, replicate, Result, Ok, Err, IfOk, OnErr, OnOk, Some, refl, sym, ap, subst, ◌∙◌, inl, inr, arith, length-take}
use Rattle.std.proofs.lemmas.Bool.{cases_lt}
use Rattle.std.proofs.lemmas.List.{get_or-replicate, get_or-take, get_or_past, length-replicate, take-take}
use Rattle.std.proofs.lemmas.Option.{same_Some}
use Rattle.g_base.specs.ToldContent.{Changes}
use Rattle.g_files.specs.Bytes.{AreBytes, padded, put}
use Rattle.g_files.specs.Calls.{HasWritten, IsMixed}
use Rattle.g_files.proofs.BytesLemmas.{AreBytes-append, AreBytes-drop, AreBytes-take}
use Rattle.g_files.proofs.CallLemmas.{mixed_none}

pub AreBytes-zeros : (n : ℕ) → AreBytes (replicate n 0)
AreBytes-zeros n i = elim (cases_lt i n) [
  | inl below ↦ let zero : get_or (replicate {A = ℕ} n 0) i 0 ≡ 0 = get_or-replicate n i 0 0 below in omega (arith, zero)
  | inr past ↦
      let zero : get_or (replicate {A = ℕ} n 0) i 0 ≡ 0 = get_or_past (replicate n 0) i 0 (omega (arith, past, length-replicate {A = ℕ} n 0)) in
      omega (arith, zero)
]

-- content that is observable before and after
pub changes_some : {X : Type 0} {R : X → X → Type 0} (old new : X) → R old new → Changes R (Some old) (Some new)
changes_some {X = X} {R = R} old new changed = record {
  told = λ b is. (new, refl, subst (λ (x : X). R x new) (same_Some old b is) changed);
  untold = λ is. absurd (cc);
}

pub some_bytes : (old x : List ℕ) → AreBytes old → Some old ≡ Some x → AreBytes x
some_bytes old x each is = subst AreBytes (same_Some old x is) each

-- a call that writes the first bytes of a part
pub written_part : {E : Type 0} (at few : ℕ) (from old new : List ℕ) (r : Result ℕ E) → IfOk r (λ n. n ≤ length (take few from))
    → IfOk r (λ n. new ≡ put at (take n (take few from)) old) → OnErr r (new ≡ old) → HasWritten at from r old new
written_part at few from old new (Ok n) count written kept =
    written ∙ ap (λ (p : List ℕ). put at p old) (take-take n few from (omega (arith, count, length-take few from)))
written_part at few from old new (Err e) count written kept = subst (IsMixed at from old) (sym kept) (mixed_none at from old)

-- the same, if the call reports a failure all the same
pub torn_part : {E : Type 0} (at few : ℕ) (from old new : List ℕ) (r : Result ℕ E) → IfOk r (λ n. new ≡ put at (take n (take few from)) old)
    → OnErr r (new ≡ old) → IsMixed at from old new
torn_part at few from old new (Ok n) written kept = (
  take n (take few from),
  record {
    few = omega (arith, length-take n (take few from), length-take few from);
    each = λ i below here.
        let first : i < n = omega (arith, below, length-take n (take few from)) in
        let second : i < few = omega (arith, below, length-take n (take few from), length-take few from) in
        inr (get_or-take n (take few from) i 0 first ∙ get_or-take few from i 0 second);
  },
  written,
)
torn_part at few from old new (Err e) written kept = subst (IsMixed at from old) (sym kept) (mixed_none at from old)

-- what was written, cut or extended are bytes
pub written_bytes : {E : Type 0} (at : ℕ) (piece old new : List ℕ) (r : Result ℕ E) → IfOk r (λ n. new ≡ put at (take n piece) old)
    → OnErr r (new ≡ old) → AreBytes piece → AreBytes old → AreBytes new
written_bytes at piece old new (Ok n) written kept given was =
    subst AreBytes (sym written) (AreBytes-append (take at old ++ take n piece) (drop (at + length (take n piece)) old)
    (AreBytes-append (take at old) (take n piece) (AreBytes-take at old was) (AreBytes-take n piece given))
    (AreBytes-drop (at + length (take n piece)) old was))
written_bytes at piece old new (Err e) written kept given was = subst AreBytes (sym kept) was

pub cut_bytes : {E : Type 0} (n : ℕ) (old new : List ℕ) (r : Result (Unit {0}) E) → OnOk r (new ≡ padded n old) → OnErr r (new ≡ old)
    → AreBytes old → AreBytes new
cut_bytes n old new (Ok done) cut kept was =
    let zeros = replicate {A = ℕ} (n - length old) 0 in
    subst AreBytes (sym cut) (AreBytes-take n (old ++ zeros) (AreBytes-append old zeros was (AreBytes-zeros (n - length old))))
cut_bytes n old new (Err e) cut kept was = subst AreBytes (sym kept) was
