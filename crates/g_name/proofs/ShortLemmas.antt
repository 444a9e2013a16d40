-- Short texts: how they are built, and that texts are equal if and only if their zero-padded bytes are.
-- serves: eq, of, push
use Rattle.std.proofs.Common.{◌≡◌, ℕ, ◌+◌, ◌-◌, ◌<◌, ◌≤◌, Bool, List, ◌++◌, length, take, drop, replicate, sym, ap, ◌∙◌, arith, length-append, length-set}
use Rattle.std.proofs.Math.ListN.{set}
use Rattle.std.proofs.Math.Seq.{drop-append_seam}
use Rattle.std.proofs.lemmas.List.{length-replicate, drop-set-lt, drop-drop, drop-replicate}
use Rattle.std.proofs.lemmas.Bool.Decides.{Decides-and, Decides-eqb, Decides-like}
use Rattle.std.specs.Bool.{one_answer}
use Rattle.std.specs.Cmp.Lexicographic.{pointwise, bytes_decides}
use Rattle.std.specs.Prelude.{◌&&◌, nat_eq}
use Rattle.g_base.specs.Fields.{padded}
use Rattle.g_name.specs.Short.{IsShort, short_bytes, short_length}

-- a text in the place of as many zeros
pub copied_short : (room : ℕ) (text : List ℕ) → length text ≤ room → IsShort room (length text) (text ++ drop (length text) (replicate room 0))
copied_short room text fits =
    let zeros = drop-replicate (length text) room 0 in
    let count = length-replicate {A = ℕ} (room - length text) 0 in
    let rest = ap (λ (z : List ℕ). length z) zeros in
    record {
      within = fits;
      size = omega (arith, length-append text (drop (length text) (replicate room 0)), rest, count);
      zeros = drop-append_seam text (drop (length text) (replicate room 0)) ∙ zeros;
    }

-- one byte more
pub longer_short : (room len : ℕ) (bytes : List ℕ) (x : ℕ) → len < room → IsShort room len bytes → IsShort room (len + 1) (set bytes len x)
longer_short room len bytes x below was = record {
  within = omega arith;
  size = length-set bytes len x ∙ was.size;
  zeros = drop-set-lt (len + 1) bytes len x (omega arith) ∙ sym (drop-drop 1 len bytes) ∙ ap (drop 1) was.zeros ∙ drop-replicate 1 (room - len) 0 ∙ ap (λ (n : ℕ). replicate {A = ℕ} n 0) (let e : room - len - 1 ≡ room - (len + 1) = omega arith in e);
}

-- Texts are equal if their padded bytes and their lengths are.
pub same_short : (room m n : ℕ) (a b : List ℕ) → IsShort room m a → IsShort room n b → (pointwise nat_eq a b && nat_eq m n) ≡ pointwise nat_eq (take m a) (take n b)
same_short room m n a b one other =
    let whole : take m a ≡ take n b → (a ≡ b) × (m ≡ n) =
    λ e. (
      short_bytes room m a one ∙ ap (padded room) e ∙ sym (short_bytes room n b other),
      sym (short_length room m a one) ∙ ap (λ (z : List ℕ). length z) e ∙ short_length room n b other,
    ) in
    one_answer (pointwise nat_eq a b && nat_eq m n) (pointwise nat_eq (take m a) (take n b))
    (Decides-like (pointwise nat_eq a b && nat_eq m n) (λ (e : (a ≡ b) × (m ≡ n)). ap (λ (k : ℕ). take k a) e.1 ∙ ap (take n) e.0) whole
    (Decides-and (pointwise nat_eq a b) (nat_eq m n) (bytes_decides a b) (Decides-eqb m n)))
    (bytes_decides (take m a) (take n b))

-- The same for the texts that contracts see.
pub same_texts : (room m n : ℕ) (a b x y : List ℕ) (same : Bool) → IsShort room m a → IsShort room n b → take m a ≡ x → take n b ≡ y → same ≡ pointwise nat_eq a b → (same && nat_eq m n) ≡ pointwise nat_eq x y
same_texts room m n a b x y same one other is_x is_y tested =
    ap (λ (t : Bool). t && nat_eq m n) tested ∙ same_short room m n a b one other
    ∙ ap (λ (t : List ℕ). pointwise nat_eq t (take n b)) is_x ∙ ap (pointwise nat_eq x) is_y
