-- A text and the first byte of some value in it.
-- serves: parts_at, HeadLemmas
use Rattle.std.proofs.Common.{All, Bor, List, MatchOption, None, Option, Some, [], ap, arith, eq-eqb, eqb-true, false, get_or, length, ne_eqb, refl, subst, suc, sym, true, ℕ, ◌++◌, ◌<◌, ◌==◌, ◌^◌, ◌∙◌, ◌∷◌, ◌≡◌, ◌≢◌}
use Rattle.std.specs.Fmt.{decimal}
use Rattle.std.specs.List.{AllByRecursion, list_all}
use Rattle.std.specs.Option.{option_map}
use Rattle.std.specs.Prelude.{nat_le, ◌&&◌}
use Rattle.std.proofs.lemmas.Bool.{and_parts, cond_both, false≢true}
use Rattle.std.proofs.lemmas.Fmt.{decimal_is_IsNumeral}
use Rattle.std.proofs.lemmas.List.Elements.{recursion_from_All}
use Rattle.std.proofs.lemmas.Option.{some_pair_parts}
use Rattle.std.proofs.lemmas.Str.Parse.{digit_at}
use Rattle.g_name.specs.Grammar.{is_letter, is_name_char, is_word}
use Rattle.g_script.specs.HeadReader.{onto_before, split_at}

-- the text has no such byte
abbrev pub Without : ℕ → List ℕ → Type 0
Without byte text = AllByRecursion (λ b. b ≢ byte) text

at_byte : (byte c : ℕ) (cs : List ℕ) (o : Option (List ℕ × List ℕ)) → c ≢ byte → split_at byte cs ≡ o → split_at byte (c ∷ cs) ≡ option_map (onto_before c) o
at_byte byte c cs o other is = rw (ne_eqb c byte other, is) refl

pub split-none : (byte : ℕ) (text : List ℕ) → Without byte text → split_at byte text ≡ None
split-none byte [] without = refl
split-none byte (c ∷ cs) without = at_byte byte c cs None without.0 (split-none byte cs without.1)

pub split-some : (byte : ℕ) (front rest : List ℕ) → Without byte front → split_at byte (front ++ byte ∷ rest) ≡ Some (front, rest)
split-some byte [] rest without = rw (eq-eqb byte byte refl) refl
split-some byte (c ∷ cs) rest without = at_byte byte c (cs ++ byte ∷ rest) (Some (cs, rest)) without.0 (split-some byte cs rest without.1)

-- the parts at the first such byte
pub split-from : (byte : ℕ) (text : List ℕ) (r : Option (Bor (List ℕ) × Bor (List ℕ)))
    → MatchOption r (All (λ b. b ≢ byte) text) (λ parts. (text ≡ parts.0.now ++ byte ∷ parts.1.now) × All (λ b. b ≢ byte) parts.0.now)
    → MatchOption r (split_at byte text ≡ None) (λ parts. split_at byte text ≡ Some (parts.0.now, parts.1.now))
split-from byte text None is = split-none byte text (recursion_from_All _ text is)
split-from byte text (Some parts) is =
    ap (split_at byte) is.0 ∙ split-some byte parts.0.now parts.1.now (recursion_from_All _ parts.0.now is.1)

-- the parts are those of the text
split_on : (byte c : ℕ) (cs : List ℕ) (o : Option (List ℕ × List ℕ)) (parts : List ℕ × List ℕ) → split_at byte cs ≡ o
    → ((p : List ℕ × List ℕ) → split_at byte cs ≡ Some p → cs ≡ p.0 ++ byte ∷ p.1) → option_map (onto_before c) o ≡ Some parts → c ∷ cs ≡ parts.0 ++ byte ∷ parts.1
split_on byte c cs None parts is all e = absurd cc
split_on byte c cs (Some p) parts is all e =
    let both = some_pair_parts (c ∷ p.0) parts.0 p.1 parts.1 e in
    ap (λ (l : List ℕ). c ∷ l) (all p is) ∙ ap (λ (l : List ℕ). l ++ byte ∷ p.1) both.0 ∙ ap (λ (l : List ℕ). parts.0 ++ byte ∷ l) both.1

pub split-is : (byte : ℕ) (text : List ℕ) (parts : List ℕ × List ℕ) → split_at byte text ≡ Some parts → text ≡ parts.0 ++ byte ∷ parts.1
split-is byte [] parts e = absurd cc
split-is byte (c ∷ cs) parts e =
    cond_both (c == byte) (Some ([], cs)) (option_map (onto_before c) (split_at byte cs)) (λ (o : Option (List ℕ × List ℕ)). o ≡ Some parts → c ∷ cs ≡ parts.0 ++ byte ∷ parts.1)
    (λ is found.
    let both = some_pair_parts [] parts.0 cs parts.1 found in
    ap (λ (b : ℕ). b ∷ cs) (eqb-true c byte is) ∙ ap (λ (l : List ℕ). l ++ byte ∷ cs) both.0 ∙ ap (λ (l : List ℕ). parts.0 ++ byte ∷ l) both.1)
    (λ other is. split_on byte c cs (split_at byte cs) parts refl (split-is byte cs) is) e

pub without-append : (byte : ℕ) (front rest : List ℕ) → Without byte front → Without byte rest → Without byte (front ++ rest)
without-append byte [] rest none all = all
without-append byte (c ∷ front) rest none all = (none.0, without-append byte front rest none.1 all)

-- a name has no byte but letters, digits and `-`
others_without : (byte : ℕ) (others : List ℕ) → is_name_char byte ≡ false → list_all is_name_char others ≡ true → Without byte others
others_without byte [] other all = tt
others_without byte (c ∷ others) other all =
    let parts = and_parts (is_name_char c) (list_all is_name_char others) all in
    ((λ e. false≢true (sym other ∙ subst (λ (d : ℕ). is_name_char d ≡ true) e parts.0)), others_without byte others other parts.1)

pub word-without : (byte : ℕ) (word : List ℕ) → is_letter byte ≡ false → is_name_char byte ≡ false → is_word word ≡ true → Without byte word
word-without byte [] no_letter other is = tt
word-without byte (first ∷ others) no_letter other is =
    let outer = and_parts (is_letter first && nat_le (length others) 11) (list_all is_name_char others) is in
    let inner = and_parts (is_letter first) (nat_le (length others) 11) outer.0 in
    ((λ e. false≢true (sym no_letter ∙ subst (λ (d : ℕ). is_letter d ≡ true) e inner.0)), others_without byte others other outer.1)

-- a number has only digits
without_from : (byte : ℕ) (text : List ℕ) → ((i : ℕ) → i < length text → get_or text i 0 ≡ byte → ⊥) → Without byte text
without_from byte [] none = tt
without_from byte (c ∷ cs) none = ((λ e. none 0 (omega arith) e), without_from byte cs (λ i inside e. none (suc i) (omega arith) e))

pub number-without : (byte n : ℕ) → byte < 48 → n < 2 ^ 64 → Without byte (decimal n)
number-without byte n low fits =
    without_from byte (decimal n) (λ i inside e. let digit = digit_at (decimal n) i (decimal_is_IsNumeral n fits).0.1 inside in omega (arith, digit.0, e, low))
