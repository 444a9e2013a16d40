-- The fields of a line: what their text determines.
-- serves: copy_in (read), field (read), file_of (read), full_in (read), online_in, sum_field (read, sum), word, EntryLemmas
use Rattle.std.proofs.Common.{◌≡◌, ◌≢◌, inl, inr, ℕ, ◌+◌, ◌/◌, ◌%◌, ◌<◌, ◌≤◌, ◌^◌, Bool, true, false, ◌&&◌, ◌||◌, List, [], ◌∷◌, ◌++◌, length, drop, get_or, suc, Option, Some, None, Result, Ok, Err, refl, sym, ◌∙◌, ap, subst, arith, All, append_assoc, append-nil}
use Rattle.std.specs.Prelude.{codes, ◌==◌, nat_le, IfSome, MatchResult}
use Rattle.std.specs.Fmt.{decimal}
use Rattle.std.specs.List.{list_all}
use Rattle.std.proofs.lemmas.Bool.{and_parts, eqb-true, leb-true, or_cases}
use Rattle.std.proofs.lemmas.Fmt.{decimal_injective, decimal_is_IsNumeral}
use Rattle.std.proofs.lemmas.List.{append_cancel_left, get_or_default}
use Rattle.std.proofs.lemmas.List.Elements.{All-append, All-cons, All-head, All-nil, All-tail}
use Rattle.std.proofs.lemmas.Option.{same_Some}
use Rattle.std.proofs.lemmas.Str.Parse.{digit_at}
use Rattle.hex.specs.Hex.{IsBytes, decode_of, decode_sized, encode_lower, encode_with, lower_digits}
use Rattle.hex.specs.declared.error.FromHexError.{FromHexError}
use Rattle.hex.proofs.HexLemmas.{decode_of-encode_lower, decode_of-ok, decode_sized-encode_lower, decode_sized-ok, decode_sized-twice}
use Rattle.g_entry.specs.declared.file_rec.TapeCopy.{TapeCopy}
use Rattle.g_lines.specs.Numbers.{number_read}
use Rattle.g_lines.proofs.NumberLemmas.{number-complete}
use Rattle.g_look.specs.FileLines.{taped_text}
use Rattle.g_look.specs.Text.{told}
use Rattle.g_monitor.specs.Parts.{full_text}
use Rattle.g_name.specs.declared.full.Full.{Full}
use Rattle.g_name.specs.Grammar.{is_digit, is_letter, is_name_char, is_word}
use Rattle.g_name.specs.Machine.{run}
use Rattle.g_name.specs.Names.{IsName, Name, full_name, name_text}
use Rattle.g_name.specs.Reading.{name_read, start, step}
use Rattle.g_name.proofs.PathLemmas.{name_read_of, reader_of, reads_name}
use Rattle.g_seal.specs.Entries.{IsPlaced, IsRest, IsSum}
use Rattle.g_seal.specs.SealText.{online_text, sum_text}

-- BYTES from this one on
abbrev pub AreFrom : ℕ → List ℕ → Type 0
AreFrom k xs = All (λ b. k ≤ b) xs

pub from_test : (k : ℕ) (xs : List ℕ) → list_all (nat_le k) xs ≡ true → AreFrom k xs
from_test k [] is = All-nil (λ b. k ≤ b)
from_test k (x ∷ xs) is =
    let parts = and_parts (nat_le k x) (list_all (nat_le k) xs) is in
    All-cons (λ b. k ≤ b) x xs (leb-true k x parts.0) (from_test k xs parts.1)

pub from_less : (j k : ℕ) (xs : List ℕ) → j ≤ k → AreFrom k xs → AreFrom j xs
from_less j k xs less all i d within = let least = all i d within in omega (arith, least, less)

-- such a byte isn't an earlier one
pub none_of : (j k : ℕ) (xs : List ℕ) → j < k → AreFrom k xs → All (λ b. b ≢ j) xs
none_of j k xs less all i d within = let least = all i d within in λ is. absurd (omega (arith, least, less, is))

pub join : (k : ℕ) (xs ys : List ℕ) → AreFrom k xs → AreFrom k ys → AreFrom k (xs ++ ys)
join k xs ys = All-append (λ b. k ≤ b) xs ys

pub from_decimal : (n : ℕ) → n < 2 ^ 64 → AreFrom 48 (decimal n)
from_decimal n fits i d within =
    let digit = digit_at (decimal n) i (decimal_is_IsNumeral n fits).0.1 within in
    subst (λ (b : ℕ). 48 ≤ b) (get_or_default (decimal n) i 0 d within) digit.0

digits_from : (k : ℕ) → k < 16 → 48 ≤ get_or lower_digits k 0
digits_from k small = from_test 48 lower_digits refl k 0 small

pub from_hex : (xs : List ℕ) → IsBytes xs → AreFrom 48 (encode_lower xs)
unfolding encode_with
from_hex [] bytes = All-nil (λ b. 48 ≤ b)
from_hex (x ∷ xs) bytes =
    let fits : x < 256 = bytes 0 in
    All-cons (λ b. 48 ≤ b) (get_or lower_digits (x / 16) 0) (get_or lower_digits (x % 16) 0 ∷ encode_lower xs) (digits_from (x / 16) (omega (arith, fits))) (All-cons (λ b. 48 ≤ b) (get_or lower_digits (x % 16) 0) (encode_lower xs) (digits_from (x % 16) (omega (arith, fits))) (from_hex xs (λ i. bytes (suc i))))

char_from : (c : ℕ) → is_name_char c ≡ true → 40 ≤ c
char_from c is = elim (or_cases (is_letter c || is_digit c) (c == 45) is) [
  | inl other ↦ elim (or_cases (is_letter c) (is_digit c) other) [
    | inl letter ↦ let least = leb-true 65 c (and_parts (nat_le 65 c) (nat_le c 90) letter).0 in omega (arith, least)
    | inr digit ↦ let least = leb-true 48 c (and_parts (nat_le 48 c) (nat_le c 57) digit).0 in omega (arith, least)
  ]
  | inr dash ↦ let is_dash : c ≡ 45 = eqb-true c 45 dash in omega (arith, is_dash)
]

from_chars : (xs : List ℕ) → list_all is_name_char xs ≡ true → AreFrom 40 xs
from_chars [] is = All-nil (λ b. 40 ≤ b)
from_chars (x ∷ xs) is =
    let parts = and_parts (is_name_char x) (list_all is_name_char xs) is in
    All-cons (λ b. 40 ≤ b) x xs (char_from x parts.0) (from_chars xs parts.1)

from_word : (w : List ℕ) → is_word w ≡ true → AreFrom 40 w
from_word [] is = All-nil (λ b. 40 ≤ b)
from_word (x ∷ xs) is =
    let parts = and_parts (is_letter x && nat_le (length xs) 11) (list_all is_name_char xs) is in
    let first = and_parts (is_letter x) (nat_le (length xs) 11) parts.0 in
    let least = leb-true 65 x (and_parts (nat_le 65 x) (nat_le x 90) first.0).0 in
    All-cons (λ b. 40 ≤ b) x xs (omega (arith, least)) (from_chars xs parts.1)

pub from_full : (full : Full) → IsName (full_name full) → AreFrom 40 (full_text full)
from_full full is =
    let most : full.generation < 2 ^ 64 = let few = is.generation.1 in omega (arith, few) in
    let user : List ℕ = codes ":" ++ full.user ++ codes "." in
    let opened : List ℕ = codes "(" ++ decimal full.generation in
    let lang : List ℕ = opened ++ codes "/" ++ full.lang in
    let user_from : AreFrom 40 user = join 40 (codes ":" ++ full.user) (codes ".") (join 40 (codes ":") full.user (from_test 40 (codes ":") refl) (from_word full.user is.user)) (from_test 40 (codes ".") refl) in
    let opened_from : AreFrom 40 opened = join 40 (codes "(") (decimal full.generation) (from_test 40 (codes "(") refl) (from_less 40 48 (decimal full.generation) (omega arith) (from_decimal full.generation most)) in
    let lang_from : AreFrom 40 lang = join 40 (opened ++ codes "/") full.lang (join 40 opened (codes "/") opened_from (from_test 40 (codes "/") refl)) (from_chars full.lang (and_parts (nat_le (length full.lang) 4) (list_all is_name_char full.lang) is.lang).1) in
    join 40 (user ++ full.local) (lang ++ codes ")") (join 40 user full.local user_from (from_word full.local is.local)) (join 40 lang (codes ")") lang_from (from_test 40 (codes ")") refl))

-- A FIELD ends at the first space
pub field_is : (xs ys rest more : List ℕ) → All (λ b. b ≢ 32) xs → All (λ b. b ≢ 32) ys → IsRest rest → IsRest more → xs ++ rest ≡ ys ++ more → (xs ≡ ys) × (rest ≡ more)
field_is [] [] rest more p q r s is = (refl, is)
field_is [] (y ∷ ys) [] more p q r s is = absurd (let not : [] ≡ y ∷ (ys ++ more) = is in let no : ⊥ = cc in no)
field_is [] (y ∷ ys) (b ∷ rest) more p q r s is = absurd (All-head (λ c. c ≢ 32) y ys q (sym (ap (λ (l : List ℕ). get_or l 0 0) is) ∙ r))
field_is (x ∷ xs) [] rest [] p q r s is = absurd (let not : x ∷ (xs ++ rest) ≡ [] = is in let no : ⊥ = cc in no)
field_is (x ∷ xs) [] rest (b ∷ more) p q r s is = absurd (All-head (λ c. c ≢ 32) x xs p (ap (λ (l : List ℕ). get_or l 0 0) is ∙ s))
field_is (x ∷ xs) (y ∷ ys) rest more p q r s is =
    let others = field_is xs ys rest more (All-tail (λ b. b ≢ 32) x xs p) (All-tail (λ b. b ≢ 32) y ys q) r s (ap (λ (l : List ℕ). drop 1 l) is) in
    let first : x ≡ y = ap (λ (l : List ℕ). get_or l 0 0) is in
    ((λ i. first i ∷ others.0 i), others.1)

pub plain_number : (n : ℕ) → n < 2 ^ 64 → All (λ b. b ≢ 32) (decimal n)
plain_number n fits = none_of 32 48 (decimal n) (omega arith) (from_decimal n fits)

-- a number after these words
pub number_is : (words : List ℕ) (m n : ℕ) (rest more : List ℕ) → m < 2 ^ 64 → n < 2 ^ 64 → IsRest rest → IsRest more → told words m ++ rest ≡ told words n ++ more → (m ≡ n) × (rest ≡ more)
number_is words m n rest more p q r s is =
    let same : decimal m ++ rest ≡ decimal n ++ more = append_cancel_left words _ _ (sym (append_assoc words (decimal m) rest) ∙ is ∙ append_assoc words (decimal n) more) in
    let parts = field_is (decimal m) (decimal n) rest more (plain_number m p) (plain_number n q) r s same in
    (decimal_injective m n p q parts.0, parts.1)

pub plain_hex : (xs : List ℕ) → IsSum xs → All (λ b. b ≢ 32) (encode_lower xs)
plain_hex xs is = none_of 32 48 (encode_lower xs) (omega arith) (from_hex xs is.bytes)

ok_is : {E : Type 0} (a b : List ℕ) → (let r : Result (List ℕ) E = Ok a in let s : Result (List ℕ) E = Ok b in r ≡ s) → a ≡ b
ok_is a b is = cc

pub hex_is : (xs ys : List ℕ) → IsBytes xs → IsBytes ys → encode_lower xs ≡ encode_lower ys → xs ≡ ys
hex_is xs ys p q is = ok_is xs ys (sym (decode_of-encode_lower xs p) ∙ ap (λ (t : List ℕ). decode_of t) is ∙ decode_of-encode_lower ys q)

-- a sum
pub sum_is : (xs ys rest more : List ℕ) → IsSum xs → IsSum ys → IsRest rest → IsRest more → sum_text xs ++ rest ≡ sum_text ys ++ more → (xs ≡ ys) × (rest ≡ more)
sum_is xs ys rest more p q r s is =
    let words : List ℕ = codes " SHA256 " in
    let same : encode_lower xs ++ rest ≡ encode_lower ys ++ more = append_cancel_left words _ _ (sym (append_assoc words (encode_lower xs) rest) ∙ is ∙ append_assoc words (encode_lower ys) more) in
    let parts = field_is (encode_lower xs) (encode_lower ys) rest more (plain_hex xs p) (plain_hex ys q) r s same in
    (hex_is xs ys p.bytes q.bytes parts.0, parts.1)

-- a name
pub plain_full : (full : Full) → IsName (full_name full) → All (λ b. b ≢ 32) (full_text full)
plain_full full is = none_of 32 40 (full_text full) (omega arith) (from_full full is)

name_is : (n m : Name) → IsName n → IsName m → name_text n ≡ name_text m → n ≡ m
name_is n m p q is =
    let same : reader_of n ≡ reader_of m = same_Some (reader_of n) (reader_of m) (sym (reads_name n p) ∙ ap (λ (t : List ℕ). run step (Some start) t) is ∙ reads_name m q) in
    sym (name_read_of n p) ∙ ap name_read same ∙ name_read_of m q

pub full_is : (f g : Full) → IsName (full_name f) → IsName (full_name g) → full_text f ≡ full_text g → f ≡ g
full_is f g p q is =
    let same : full_name f ≡ full_name g = name_is (full_name f) (full_name g) p q is in
    let user : f.user ≡ g.user = same_Some f.user g.user (ap (λ (n : Name). n.user) same) in
    let generation : f.generation ≡ g.generation = same_Some f.generation g.generation (ap (λ (n : Name). n.generation) same) in
    let lang : f.lang ≡ g.lang = same_Some f.lang g.lang (ap (λ (n : Name). n.lang) same) in
    λ i. record { user = user i; local = (same i).local; generation = generation i; lang = lang i }

-- a place on tape, at the end of a line
pub rest_taped : (tape : Option TapeCopy) → IsRest (taped_text tape)
rest_taped None = tt
rest_taped (Some copy) = refl

pub rest_online : (online : Bool) (tape : Option TapeCopy) → IsRest (online_text online ++ taped_text tape)
rest_online true tape = refl
rest_online false tape = rest_taped tape

pub wide : (n : ℕ) → n < 2 ^ 32 → n < 2 ^ 64
wide n few = omega (arith, few)

pub taped_is : (a b : Option TapeCopy) → IfSome a IsPlaced → IfSome b IsPlaced → taped_text a ≡ taped_text b → a ≡ b
taped_is None None p q is = refl
taped_is None (Some b) p q is = absurd (let same = ap (λ (t : List ℕ). length t) is in omega (arith, same))
taped_is (Some a) None p q is = absurd (let same = ap (λ (t : List ℕ). length t) is in omega (arith, same))
taped_is (Some a) (Some b) p q is =
    let one = number_is (codes " TAPE ") a.serial b.serial (told (codes " AT ") a.first) (told (codes " AT ") b.first) (wide a.serial p.serial) (wide b.serial q.serial) refl refl is in
    let two = number_is (codes " AT ") a.first b.first [] [] (wide a.first p.first) (wide b.first q.first) tt tt (append-nil _ ∙ one.1 ∙ sym (append-nil _)) in
    λ i. Some (record { serial = one.0 i; first = two.0 i })

pub online_is : (a b : Bool) (s t : Option TapeCopy) → IfSome s IsPlaced → IfSome t IsPlaced → online_text a ++ taped_text s ≡ online_text b ++ taped_text t → (a ≡ b) × (s ≡ t)
online_is true true s t p q is = (refl, taped_is s t p q (append_cancel_left (codes " DISC") (taped_text s) (taped_text t) is))
online_is false false s t p q is = (refl, taped_is s t p q is)
online_is true false s t p q is = absurd (not_disc s t is)
  where
    not_disc : (s t : Option TapeCopy) → codes " DISC" ++ taped_text s ≡ taped_text t → ⊥
    not_disc s None is = let same = ap (λ (l : List ℕ). length l) is in omega (arith, same)
    not_disc s (Some c) is = let same : 68 ≡ 84 = ap (λ (l : List ℕ). get_or l 1 0) is in omega (arith, same)
online_is false true s t p q is = absurd (not_disc t s (sym is))
  where
    not_disc : (s t : Option TapeCopy) → codes " DISC" ++ taped_text s ≡ taped_text t → ⊥
    not_disc s None is = let same = ap (λ (l : List ℕ). length l) is in omega (arith, same)
    not_disc s (Some c) is = let same : 68 ≡ 84 = ap (λ (l : List ℕ). get_or l 1 0) is in omega (arith, same)

-- A FIELD THAT WAS READ
pub after_words : (text words : List ℕ) (n : ℕ) (rest more : List ℕ) → text ≡ words ++ more → text ≡ told words n ++ rest → more ≡ decimal n ++ rest
after_words text words n rest more one two = append_cancel_left words _ _ (sym one ∙ two ∙ append_assoc words (decimal n) rest)

pub number_there : (most n : ℕ) (digits : List ℕ) (r : Option ℕ) → most < 2 ^ 64 → n ≤ most → digits ≡ decimal n → r ≡ number_read most digits → r ≡ Some n
number_there most n digits r fits few is read = read ∙ number-complete most n digits fits (few, is)

none_is : {X : Type 0} (x : X) → (let none : Option X = None in none ≡ Some x) → ⊥
none_is x is = cc

pub not_none : {X : Type 0} (o : Option X) (x : X) → o ≡ None → o ≡ Some x → ⊥
not_none o x none some = none_is x (sym none ∙ some)

-- the digits decode to these bytes
abbrev pub Decodes : List ℕ → Result (Unit {0}) FromHexError → List ℕ → Type 0
Decodes digits r out = MatchResult (decode_sized digits 32) (λ bytes. (r ≡ Ok tt) × (out ≡ bytes)) (λ e. r ≡ Err e)

pub not_ok : (r : Result (Unit {0}) FromHexError) (e : FromHexError) → r ≡ Ok tt → r ≡ Err e → ⊥
not_ok r e one two = cc

sum_by : (d : Result (List ℕ) FromHexError) (digits out : List ℕ) (r : Result (Unit {0}) FromHexError) → d ≡ decode_sized digits 32 → MatchResult d (λ bytes. (r ≡ Ok tt) × (out ≡ bytes)) (λ e. r ≡ Err e) → r ≡ Ok tt → IsSum out
sum_by (Ok bytes) digits out r from gives ok =
    let long = decode_sized-ok digits 32 bytes (sym from) in
    let of = decode_of-ok digits bytes (sym (decode_sized-twice digits 32 long) ∙ sym from) in
    let twice = of.2 in
    subst IsSum (sym gives.1) (record { long = omega (arith, long, twice); bytes = of.3 })
sum_by (Err e) digits out r from gives ok = absurd (not_ok r e ok gives)

pub sum_there : (digits out : List ℕ) (r : Result (Unit {0}) FromHexError) → Decodes digits r out → r ≡ Ok tt → IsSum out
sum_there digits out r gives ok = sum_by (decode_sized digits 32) digits out r refl gives ok

pub sum_read : (digits sum out : List ℕ) (r : Result (Unit {0}) FromHexError) → IsSum sum → digits ≡ encode_lower sum → Decodes digits r out → (r ≡ Ok tt) × (out ≡ sum)
sum_read digits sum out r p is gives =
    subst (λ (d : Result (List ℕ) FromHexError). MatchResult d (λ bytes. (r ≡ Ok tt) × (out ≡ bytes)) (λ e. r ≡ Err e))
    (ap (λ (t : List ℕ). decode_sized t 32) is ∙ decode_sized-encode_lower sum 32 p.long p.bytes) gives

-- a text after the word DISC
pub disc_there : (text : List ℕ) (online : Bool) (tape : Option TapeCopy) (more : List ℕ) → text ≡ codes "DISC" ++ more → text ≡ drop 1 (online_text online ++ taped_text tape) → (true ≡ online) × (text ≡ codes "DISC" ++ taped_text tape)
disc_there text true tape more begins is = (refl, is)
disc_there text false None more begins is = absurd (let same = ap (λ (l : List ℕ). length l) (sym begins ∙ is) in omega (arith, same))
disc_there text false (Some c) more begins is = absurd (let same : 68 ≡ 84 = ap (λ (l : List ℕ). get_or l 0 0) (sym begins ∙ is) in omega (arith, same))

pub plain_disc : All (λ b. b ≢ 32) (codes "DISC")
plain_disc = none_of 32 40 (codes "DISC") (omega arith) (from_test 40 (codes "DISC") refl)

pub no_words : (first : ℕ) (words more : List ℕ) → [] ≡ (first ∷ words) ++ more → ⊥
no_words first words more is = let same = ap (λ (l : List ℕ). length l) is in omega (arith, same)
