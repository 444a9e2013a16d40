-- The parts of a written line are what the line says.
-- serves: CutLemmas, ParseLemmas, PartLemmas, PieceLemmas, ReadLemmas, ReadingLemmas, RestLemmas, SameLemmas, TakeLemmas, VerbLemmas, crates above
use Rattle.std.proofs.Common.{Bool, List, None, Option, Some, [], ap, append_assoc, arith, codes, eq-eqb, eqb-true, false, le-leb, leb-true, nat_le, ne_eqb, not, pred, refl, suc, sym, true, ℕ, ◌&&◌, ◌++◌, ◌+◌, ◌==◌, ◌∙◌, ◌∷◌, ◌≡◌, ◌≤◌}
use Rattle.std.proofs.lemmas.Bool.{and_from, and_left, and_parts, and_right, cond_both, false≢true, not-true}
use Rattle.std.proofs.lemmas.Slice.Eq.{bytes_eq-Decides}
use Rattle.std.specs.Prelude.{if◌then◌else◌}
use Rattle.g_lang.proofs.SpaceLemmas.{at_space, no_space, word-front}
use Rattle.g_lang.specs.Conditions.{IsTest, is_param_letter, is_plain_text, test_text}
use Rattle.g_lang.specs.LineReader.{before_comma, behind, behind_comma, cond_read, depth_behind, parts_of, test_read, without_last}
use Rattle.g_lang.specs.Words.{is_part, is_printed, joined, word_of}
use Rattle.g_lang.specs.declared.line.Test.{Test}
use Rattle.g_lang.specs.declared.line.Test.TheVariants.{Absent, CommandError, Deleted, Equals, Failed, Halted, Present}
use Rattle.g_name.specs.Order.{same_text}

-- a given front
pub behind-append : (f t : List ℕ) → behind f (f ++ t) ≡ Some t
behind-append [] t = refl
behind-append (c ∷ f) t = rw (eq-eqb c c refl, behind-append f t) refl

behind-cons : (f c : ℕ) (front cs r : List ℕ) → (behind front cs ≡ Some r → cs ≡ front ++ r) → (if f == c then behind front cs else None) ≡ Some r → c ∷ cs ≡ f ∷ (front ++ r)
behind-cons f c front cs r again =
    cond_both (f == c) (behind front cs) None (λ (o : Option (List ℕ)). o ≡ Some r → c ∷ cs ≡ f ∷ (front ++ r))
    (λ same is. rw (eqb-true f c same, again is) refl) (λ other is. absurd cc)

pub behind-is : (f t r : List ℕ) → behind f t ≡ Some r → t ≡ f ++ r
behind-is [] t r is = cc
behind-is (f ∷ front) [] r is = absurd cc
behind-is (f ∷ front) (c ∷ cs) r is = behind-cons f c front cs r (behind-is front cs r) is

pub same_text-refl : (t : List ℕ) → same_text t t ≡ true
same_text-refl t = (bytes_eq-Decides t t).1 refl

pub same_text-eq : (a b : List ℕ) → same_text a b ≡ true → a ≡ b
same_text-eq a b is = (bytes_eq-Decides a b).0 is

no_keyword : (k name rest : List ℕ) (o : Option (List ℕ)) → no_space k ≡ true → no_space name ≡ true → at_space rest ≡ true → same_text name k ≡ false
    → behind (k ++ 32 ∷ []) (name ++ rest) ≡ o → o ≡ None
no_keyword k name rest None one none at other is = refl
no_keyword k name rest (Some r) one none at other is =
    let texts : name ++ rest ≡ k ++ (32 ∷ r) = behind-is (k ++ 32 ∷ []) (name ++ rest) r is ∙ append_assoc k (32 ∷ []) r in
    let words : name ≡ k = sym (word-front name rest none at) ∙ ap word_of texts ∙ word-front k (32 ∷ r) one refl in
    absurd (false≢true (sym other ∙ ap (λ (t : List ℕ). same_text t k) words ∙ same_text-refl k))

-- a word that isn't the keyword
pub not_keyword : (k name rest : List ℕ) → no_space k ≡ true → no_space name ≡ true → at_space rest ≡ true → same_text name k ≡ false
    → behind (k ++ 32 ∷ []) (name ++ rest) ≡ None
not_keyword k name rest one none at other = no_keyword k name rest _ one none at other refl

-- one byte of a part
pub part_byte : (d c : ℕ) (cs : List ℕ) → is_part d (c ∷ cs) ≡ true → ((c == 44 && d == 0) ≡ false) × (is_part (depth_behind c d) cs ≡ true)
part_byte d c cs =
    cond_both (c == 40) (is_part (d + 1) cs) (if c == 41 then not (d == 0) && is_part (pred d) cs else is_printed c && not (c == 44 && d == 0) && is_part d cs)
    (λ (b : Bool). b ≡ true → ((c == 44 && d == 0) ≡ false) × (is_part (depth_behind c d) cs ≡ true))
    (λ open_bracket is.
    let other : (c == 44) ≡ false = ne_eqb c 44 (λ e. let f = eqb-true c 40 open_bracket in absurd (omega (arith, e, f))) in
    (and_left _ _ other, rw open_bracket is))
    (λ no_open.
    cond_both (c == 41) (not (d == 0) && is_part (pred d) cs) (is_printed c && not (c == 44 && d == 0) && is_part d cs)
    (λ (b : Bool). b ≡ true → ((c == 44 && d == 0) ≡ false) × (is_part (depth_behind c d) cs ≡ true))
    (λ close_bracket is.
    let other : (c == 44) ≡ false = ne_eqb c 44 (λ e. let f = eqb-true c 41 close_bracket in absurd (omega (arith, e, f))) in
    (and_left _ _ other, rw (no_open, close_bracket) (and_parts _ _ is).1))
    (λ no_close is.
    let parts = and_parts (is_printed c && not (c == 44 && d == 0)) (is_part d cs) is in
    (not-true _ (and_parts (is_printed c) (not (c == 44 && d == 0)) parts.0).1, rw (no_open, no_close) parts.1)))

pub before-part : (d : ℕ) (xs t : List ℕ) → is_part d xs ≡ true → before_comma d (xs ++ 44 ∷ t) ≡ xs
before-part d [] t is = let zero_deep : (d == 0) ≡ true = is in rw zero_deep refl
before-part d (c ∷ xs) t is = let b = part_byte d c xs is in rw (b.0, before-part (depth_behind c d) xs t b.1) refl

pub behind-part : (d : ℕ) (xs t : List ℕ) → is_part d xs ≡ true → behind_comma d (xs ++ 44 ∷ t) ≡ t
behind-part d [] t is = let zero_deep : (d == 0) ≡ true = is in rw zero_deep refl
behind-part d (c ∷ xs) t is = let b = part_byte d c xs is in rw (b.0, behind-part (depth_behind c d) xs t b.1) refl

parts-last : (d : ℕ) (xs : List ℕ) → is_part d xs ≡ true → parts_of d xs ≡ xs ∷ []
parts-last d [] is = refl
parts-last d (c ∷ xs) is = let b = part_byte d c xs is in rw (b.0, parts-last (depth_behind c d) xs b.1) refl

parts-more : (d : ℕ) (xs t : List ℕ) → is_part d xs ≡ true → parts_of d (xs ++ 44 ∷ t) ≡ xs ∷ parts_of 0 t
parts-more d [] t is = let zero_deep : (d == 0) ≡ true = is in rw zero_deep refl
parts-more d (c ∷ xs) t is = let b = part_byte d c xs is in rw (b.0, parts-more (depth_behind c d) xs t b.1) refl

-- parts, one after another
abbrev pub are_parts : List (List ℕ) → Bool
are_parts [] = true
are_parts (part ∷ parts) = is_part 0 part && are_parts parts

pub parts-joined : (part : List ℕ) (parts : List (List ℕ)) → are_parts (part ∷ parts) ≡ true → parts_of 0 (joined (part ∷ parts)) ≡ part ∷ parts
parts-joined part [] are = parts-last 0 part (and_parts (is_part 0 part) true are).0
parts-joined part (more ∷ parts) are =
    let both = and_parts (is_part 0 part) (are_parts (more ∷ parts)) are in
    parts-more 0 part (joined (more ∷ parts)) both.0 ∙ ap (λ (ps : List (List ℕ)). part ∷ ps) (parts-joined more parts both.1)

-- plain text in brackets
pub plain-part : (d : ℕ) (text rest : List ℕ) → is_plain_text text ≡ true → is_part (suc d) (text ++ rest) ≡ is_part (suc d) rest
plain-part d [] rest plain = refl
plain-part d (c ∷ text) rest plain =
    let both = and_parts (is_printed c && not (c == 40) && not (c == 41)) (is_plain_text text) plain in
    let more = and_parts (is_printed c && not (c == 40)) (not (c == 41)) both.0 in
    let most = and_parts (is_printed c) (not (c == 40)) more.0 in
    let deep : (suc d == 0) ≡ false = ne_eqb (suc d) 0 (λ e. absurd (omega (arith, e))) in
    rw (not-true _ most.1, not-true _ more.1, most.0, deep, and_right (c == 44) false refl) (plain-part d text rest both.1)

letter_is : (letter : ℕ) → is_param_letter letter ≡ true → ((letter == 40) ≡ false) × ((letter == 41) ≡ false) × ((letter == 44) ≡ false) × (is_printed letter ≡ true)
letter_is letter is =
    let low : 65 ≤ letter = leb-true 65 letter (and_parts (nat_le 65 letter) (nat_le letter 88) is).0 in
    let high : letter ≤ 88 = leb-true letter 88 (and_parts (nat_le 65 letter) (nat_le letter 88) is).1 in (
      ne_eqb letter 40 (λ e. absurd (omega (arith, e))),
      ne_eqb letter 41 (λ e. absurd (omega (arith, e))),
      ne_eqb letter 44 (λ e. absurd (omega (arith, e))),
      and_from _ _ (le-leb 32 letter (omega arith)) (le-leb letter 126 (omega arith)),
    )

letter-part : (d letter : ℕ) (rest : List ℕ) → is_param_letter letter ≡ true → is_part d (letter ∷ rest) ≡ is_part d rest
letter-part d letter rest is =
    let l = letter_is letter is in
    rw (l.0, l.1, l.2, l.3) refl

-- a condition's brackets match, and it has no comma outside of them
pub test-part : (test : Test) → IsTest test → is_part 0 (test_text test) ≡ true
test-part CommandError is = refl
test-part Failed is = refl
test-part (Halted text) is = plain-part 0 text (codes ")") is
test-part (Deleted text) is = plain-part 0 text (codes ")") is
test-part (Present letter) is = letter-part 1 letter (codes ")") is
test-part (Absent letter) is = letter-part 1 letter (codes ")") is
test-part (Equals letter text) is = letter-part 1 letter (codes ")=(" ++ (text ++ codes ")")) is.0 ∙ plain-part 0 text (codes ")") is.1

pub cond-part : (negated : Bool) (test : Test) → IsTest test → is_part 0 ((if negated then codes "NOT " else []) ++ test_text test) ≡ true
cond-part true test is = test-part test is
cond-part false test is = test-part test is

last-less : (c : ℕ) (text : List ℕ) → without_last (text ++ c ∷ []) ≡ text
last-less c [] = refl
last-less c (x ∷ []) = refl
last-less c (x ∷ y ∷ text) = ap (λ (ts : List ℕ). x ∷ ts) (last-less c (y ∷ text))

test-read : (test : Test) → test_read (test_text test) ≡ test
test-read CommandError = refl
test-read Failed = refl
test-read (Halted text) = ap (λ (t : List ℕ). Halted t) (last-less 41 text)
test-read (Deleted text) = ap (λ (t : List ℕ). Deleted t) (last-less 41 text)
test-read (Present letter) = refl
test-read (Absent letter) = refl
test-read (Equals letter text) = ap (λ (t : List ℕ). Equals letter t) (last-less 41 text)

negated-none : (test : Test) → behind (codes "NOT ") (test_text test) ≡ None
negated-none CommandError = refl
negated-none Failed = refl
negated-none (Halted text) = refl
negated-none (Deleted text) = refl
negated-none (Present letter) = refl
negated-none (Absent letter) = refl
negated-none (Equals letter text) = refl

pub cond-read : (negated : Bool) (test : Test) → cond_read ((if negated then codes "NOT " else []) ++ test_text test) ≡ record { negated = negated; test = test }
cond-read true test = ap (λ (t : Test). record { negated = true; test = t }) (test-read test)
cond-read false test = rw (negated-none test, cond_read) (ap (λ (t : Test). record { negated = false; test = t }) (test-read test))
