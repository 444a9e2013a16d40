-- A line that a console moved, byte by byte.
-- serves: move_bytes, take_line (taken)
use Rattle.std.proofs.Common.{◌≡◌, ◌≢◌, ◌≤◌, ◌<◌, ◌+◌, ℕ, false, List, [], ◌∷◌, All, Option, Some, None, IfSome, length, take, refl, sym, subst, arith, slice_set}
use Rattle.std.proofs.lemmas.Bool.{eqb-false}
use Rattle.std.proofs.lemmas.List.{length-set, length-take-le, take_all, take_more_set}
use Rattle.std.proofs.lemmas.List.Elements.{All-append, All-cons, All-nil}
use Rattle.std.proofs.Math.Dec.{eqb}
use Rattle.g_console.specs.Transcript.{IsTaken}

pub one_more : (into : List ℕ) (count byte : ℕ) → count < length into → eqb byte 10 ≡ false → All (λ b. b ≢ 10) (take count into)
    → (count + 1 ≤ length (slice_set into count byte)) × All (λ b. b ≢ 10) (take (count + 1) (slice_set into count byte))
one_more into count byte room other line = (
  (let long : length (slice_set into count byte) ≡ length into = length-set into count byte in omega (arith, long, room)),
  subst (λ (bytes : List ℕ). All (λ b. b ≢ 10) bytes) (sym (take_more_set into count byte room))
      (All-append (λ (b : ℕ). b ≢ 10) (take count into) (byte ∷ []) line (All-cons (λ (b : ℕ). b ≢ 10) byte [] (eqb-false byte 10 other) (All-nil (λ (b : ℕ). b ≢ 10)))),
)

pub moved_line : (n : Option ℕ) (into : List ℕ) → IfSome n (λ count. (count ≤ length into) × All (λ b. b ≢ 10) (take count into)) → IsTaken None n into None
moved_line None into is = refl
moved_line (Some count) into is =
    let long : length (take count into) ≡ count = length-take-le count into is.0 in record {
      line = take count into;
      one_line = is.1;
      bytes = sym (take_all (length into) (take count into) (let few = is.0 in omega (arith, long, few)));
      continues = refl;
    }
