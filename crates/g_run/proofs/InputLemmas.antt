-- A source read piece by piece.
-- serves: read_script (all, taken)
use Rattle.std.proofs.Common.{zero, suc, ◌≡◌, ◌+◌, ◌-◌, ◌<◌, ◌≤◌, ◌++◌, ℕ, List, [], Option, Some, refl, sym, ◌∙◌, ap, subst, length, take, drop, arith}
use Rattle.std.proofs.lemmas.List.{drop-drop, length-append, length-drop, length-take-le, take_all, take_at}
use Rattle.std.proofs.Math.ListN.{drop_of_length-le}
use Rattle.std.proofs.Math.Seq.{take-add}
use Rattle.g_io.specs.Streams.{Takes, IsTaken}
use Rattle.g_run.specs.Input.{HasRead}

taken_of : (left text old new : List ℕ) (n : ℕ) (before rest : Option (List ℕ)) → HasRead left text before → Takes before n old new rest →
    IsTaken (drop (length text) left) n old new rest
taken_of left text old new n before rest read takes = subst (λ b. Takes b n old new rest) read.rest_is takes

-- the piece is what was taken
piece_of : (left old new : List ℕ) (n : ℕ) (rest : Option (List ℕ)) → IsTaken left n old new rest → take n new ≡ take n left
piece_of left old new n rest taken = ap (λ l. take n l) taken.into ∙ take_at (take n left) (drop n old) n (length-take-le n left taken.within)

-- one piece more
pub read_more : (left text old new : List ℕ) (n : ℕ) (before rest : Option (List ℕ)) → HasRead left text before → Takes before n old new rest →
    HasRead left (text ++ take n new) rest
read_more left text old new n before rest read takes =
    let taken = taken_of left text old new n before rest read takes in
    let piece : take n new ≡ take n (drop (length text) left) = piece_of (drop (length text) left) old new n rest taken in
    let within : n ≤ length left - length text = subst (λ m. n ≤ m) (length-drop (length text) left) taken.within in
    let piece_length : length (take n new) ≡ n = ap length piece ∙ length-take-le n (drop (length text) left) taken.within in
    let whole_length : length (text ++ take n new) ≡ length text + n = length-append text (take n new) ∙ ap (λ m. length text + m) piece_length in
    let room : length text ≤ length left = read.within in
    let fits : length text + n ≤ length left = omega arith in
    let whole : text ++ take n new ≡ take (length text + n) left =
    ap (λ t. t ++ take n new) read.front ∙ ap (λ p. take (length text) left ++ p) piece ∙ sym (take-add (length text) n left) in
    record {
      within = subst (λ m. m ≤ length left) (sym whole_length) fits;
      front = whole ∙ ap (λ m. take m left) (sym whole_length);
      rest_is = taken.rest_is ∙ ap (λ l. Some l) (drop-drop n (length text) left) ∙ ap (λ m. Some (drop m left)) (sym whole_length);
    }

zero_if : (m n : ℕ) → (0 < m → 0 < n) → n ≡ 0 → m ≡ 0
zero_if zero n some none = refl
zero_if (suc m) n some none = let more : 0 < n = some (omega arith) in let no : ⊥ = omega arith in absurd no

-- nothing more came, so all was read
pub read_all : (left text old new : List ℕ) (n : ℕ) (before rest : Option (List ℕ)) → HasRead left text before → Takes before n old new rest → n ≡ 0 →
    (text ≡ left) × (rest ≡ Some [])
read_all left text old new n before rest read takes none =
    let taken = taken_of left text old new n before rest read takes in
    let dropped : length (drop (length text) left) ≡ length left - length text = length-drop (length text) left in
    let some : 0 < length (drop (length text) left) → 0 < n = taken.some in
    let room : length text ≤ length left = read.within in
    let nothing : length (drop (length text) left) ≡ 0 = zero_if (length (drop (length text) left)) n some none in
    let all : length left ≤ length text = omega arith in (
      read.front ∙ take_all (length text) left all,
      taken.rest_is ∙ ap (λ m. Some (drop m (drop (length text) left))) none ∙ ap (λ l. Some l) (drop_of_length-le left all),
    )

-- how much was taken so far
pub taken_so_far : (left text : List ℕ) (most : ℕ) (rest : Option (List ℕ)) → HasRead left text rest → length text ≤ most → (n : ℕ) × (n ≤ most) × (rest ≡ Some (drop n left))
taken_so_far left text most rest read few = (length text, few, read.rest_is)
