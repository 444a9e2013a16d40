-- The text of a seal, its last line, and the lines before it.
-- serves: front_of (sum), is_whole, parse_seal (accepted), split_last_line
use Rattle.std.proofs.Common.{◌≡◌, ◌≢◌, ℕ, ◌+◌, ◌-◌, ◌<◌, List, [], ◌∷◌, ◌++◌, length, map, drop, get_or, true, false, Bool, Result, Ok, Err, IfOk, refl, sym, ◌∙◌, ap, subst, arith}
use Rattle.std.specs.Prelude.{codes, nat_eq}
use Rattle.std.specs.Cmp.Lexicographic.{bytes_decides, pointwise}
use Rattle.std.proofs.lemmas.Grind.{flat_map-append}
use Rattle.std.proofs.lemmas.List.{append_cancel_left, length-append}
use Rattle.hex.specs.Hex.{encode_lower}
use Rattle.sha2.specs.Sha256.{sha256}
use Rattle.g_lines.specs.Documents.{IsWhole}
use Rattle.g_lines.specs.Lines.{ended, lines_of, text_of}
use Rattle.g_lines.proofs.LineLemmas.{lines-last, lines-text}
use Rattle.g_seal.specs.declared.entries.SealedDump.{SealedDump}
use Rattle.g_seal.specs.declared.entries.SealedFile.{SealedFile}
use Rattle.g_seal.specs.declared.parse.Seal.{Seal}
use Rattle.g_seal.specs.declared.parse.SealFault.{SealFault}
use Rattle.g_seal.specs.Entries.{EndsWithSum}
use Rattle.g_seal.specs.SealText.{dump_line, file_line, seal_line, sealed_lines, sealed_text}
use Rattle.g_seal.proofs.EntryLemmas.{front_same, last_long}

read_back : (text front : List ℕ) (dumps : List SealedDump) (files : List SealedFile) → EndsWithSum text front (encode_lower (sha256 front)) → lines_of front ≡ sealed_lines dumps files → text ≡ sealed_text dumps files
read_back text front dumps files ends lines =
    ends.text_is ∙ ap (λ (xs : List ℕ). xs ++ ended (seal_line xs)) (sym ends.whole ∙ ap text_of lines ∙ flat_map-append ended (map dump_line dumps) (map file_line files))

pub read_seal : (text front : List ℕ) (result : Result Seal SealFault) → EndsWithSum text front (encode_lower (sha256 front)) → IfOk result (λ s. lines_of front ≡ sealed_lines s.dumps.items s.files.items)
    → IfOk result (λ s. text ≡ sealed_text s.dumps.items s.files.items)
read_seal text front (Err e) ends lines = tt
read_seal text front (Ok s) ends lines = read_back text front s.dumps.items s.files.items ends lines

-- A TEXT THAT ENDS with a byte 10

last_byte : (xs ys : List ℕ) (x y : ℕ) → xs ++ x ∷ [] ≡ ys ++ y ∷ [] → x ≡ y
last_byte xs ys x y is =
    let same = front_same xs ys (x ∷ []) (y ∷ []) refl is in
    ap (λ (l : List ℕ). get_or l 0 0) (append_cancel_left ys (x ∷ []) (y ∷ []) (ap (λ (l : List ℕ). l ++ x ∷ []) (sym same) ∙ is))

pub ends_so : (text front : List ℕ) (last : ℕ) → text ≡ front ++ last ∷ [] → last ≡ 10 → text ≡ ended front
ends_so text front last is ends = is ∙ ap (λ (b : ℕ). front ++ b ∷ []) ends

pub ends_other : (text front other : List ℕ) (last : ℕ) → text ≡ front ++ last ∷ [] → last ≢ 10 → text ≢ ended other
ends_other text front other last is never so = never (last_byte front other last 10 (sym is ∙ so))

pub empty_text : (text : List ℕ) → length text ≡ 0 → text ≡ []
empty_text [] none = refl
empty_text (b ∷ text) none = absurd (omega (arith, none))

pub ended_long : (front : List ℕ) → length (ended front) ≡ length front + 1
ended_long front = length-append front (10 ∷ [])

pub not_empty : (front : List ℕ) → [] ≢ ended front
not_empty front is = let long = ended_long front in let same = ap (λ (l : List ℕ). length l) is in omega (arith, long, same)

pub ended_whole : (text front : List ℕ) → text ≡ ended front → IsWhole text
ended_whole text front is = subst IsWhole (sym is) (lines-text front)

-- a text whose last byte is another isn't whole
other_whole : (front : List ℕ) (last : ℕ) → last ≢ 10 → IsWhole (front ++ last ∷ []) → ⊥
other_whole front last never whole =
    let text : List ℕ = front ++ last ∷ [] in
    let same : ended text ≡ text = sym (lines-text text) ∙ ap text_of (lines-last front last never) ∙ whole in
    let long = ended_long text in
    let all = ap (λ (l : List ℕ). length l) same in
    omega (arith, long, all)

snoc : (b : ℕ) (text : List ℕ) → (front : List ℕ) × (last : ℕ) × (b ∷ text ≡ front ++ last ∷ [])
snoc b [] = ([], b, refl)
snoc b (c ∷ text) = let more = snoc c text in (b ∷ more.0, more.1, ap (λ (l : List ℕ). b ∷ l) more.2)

pub not_whole : (text : List ℕ) → (length text ≡ 0 → ⊥) → ((front : List ℕ) → text ≢ ended front) → IsWhole text → ⊥
not_whole [] some never whole = some refl
not_whole (b ∷ text) some never whole =
    let parts = snoc b text in
    other_whole parts.0 parts.1 (λ is. never parts.0 (ends_so (b ∷ text) parts.0 parts.1 parts.2 is)) (subst IsWhole parts.2 whole)

pub whole_ended : (ends : Bool) (text : List ℕ) → (ends ≡ false → (front : List ℕ) → text ≢ ended front) → 0 < length text → IsWhole text → ends ≡ true
whole_ended true text never some whole = refl
whole_ended false text never some whole = absurd (not_whole text (λ none. omega (arith, some, none)) (never refl) whole)

-- THE LAST LINE
pub ended_rest : (front last f : List ℕ) → 0 < length last → front ++ last ≡ ended f → (more : List ℕ) × (last ≡ ended more)
ended_rest [] last f some is = (f, is)
ended_rest (x ∷ front) last [] some is =
    let all = ap (λ (l : List ℕ). length l) is in
    let long = length-append front last in
    absurd (omega (arith, all, long, some))
ended_rest (x ∷ front) last (y ∷ f) some is = ended_rest front last f some (ap (λ (l : List ℕ). drop 1 l) is)

pub last_there : (text front last rest f : List ℕ) → text ≡ front ++ last → length last ≡ 70 → last ≡ codes "SEAL " ++ rest → IsWhole front → text ≡ ended f
    → (digits : List ℕ) × EndsWithSum text front digits × (last ≡ ended (codes "SEAL " ++ digits))
last_there text front last rest f is long begins whole ends =
    let lasts = ended_rest front last f (omega (arith, long)) (sym is ∙ ends) in
    let five = length-append (codes "SEAL ") rest in
    let all = ap (λ (l : List ℕ). length l) begins in
    let rests = ended_rest (codes "SEAL ") rest lasts.0 (omega (arith, long, all, five)) (sym begins ∙ lasts.1) in
    let one = ended_long rests.0 in
    let same = ap (λ (l : List ℕ). length l) rests.1 in
    let last_is : last ≡ ended (codes "SEAL " ++ rests.0) = begins ∙ ap (λ (l : List ℕ). codes "SEAL " ++ l) rests.1 in
    (rests.0, record { whole = whole; long = omega (arith, long, all, five, one, same); text_is = is ∙ ap (λ (l : List ℕ). front ++ l) last_is }, last_is)

-- no sum at the end
pub too_short : (text : List ℕ) → length text < 70 → (front digits : List ℕ) → EndsWithSum text front digits → ⊥
too_short text short front digits ends =
    let all = ap (λ (l : List ℕ). length l) ends.text_is in
    let parts = length-append front (ended (codes "SEAL " ++ digits)) in
    let last = last_long digits ends.long in
    omega (arith, all, parts, last, short)

one_split : (text front last f digits : List ℕ) → text ≡ front ++ last → length last ≡ 70 → EndsWithSum text f digits → (front ≡ f) × (last ≡ ended (codes "SEAL " ++ digits))
one_split text front last f digits is long ends =
    let same = front_same front f last (ended (codes "SEAL " ++ digits)) (long ∙ sym (last_long digits ends.long)) (sym is ∙ ends.text_is) in
    (same, append_cancel_left f last (ended (codes "SEAL " ++ digits)) (ap (λ (l : List ℕ). l ++ last) (sym same) ∙ sym is ∙ ends.text_is))

pub no_front : (text front last : List ℕ) → text ≡ front ++ last → length last ≡ 70 → (IsWhole front → ⊥) → (f digits : List ℕ) → EndsWithSum text f digits → ⊥
no_front text front last is long never f digits ends =
    let split = one_split text front last f digits is long ends in
    never (subst IsWhole (sym split.0) ends.whole)

pub no_word : (text front last : List ℕ) → text ≡ front ++ last → length last ≡ 70 → ((rest : List ℕ) → last ≢ codes "SEAL " ++ rest) → (f digits : List ℕ) → EndsWithSum text f digits → ⊥
no_word text front last is long never f digits ends = never (ended digits) (one_split text front last f digits is long ends).1

-- the sum is the one that is due, or another
pub due_is : (text front last due digits : List ℕ) → EndsWithSum text front digits → last ≡ ended (codes "SEAL " ++ digits) → due ≡ ended (seal_line front) → pointwise nat_eq due last ≡ true → EndsWithSum text front (encode_lower (sha256 front))
due_is text front last due digits ends last_is due_so same =
    let all : ended (codes "SEAL " ++ digits) ≡ ended (seal_line front) = sym last_is ∙ sym ((bytes_decides due last).0 same) ∙ due_so in
    let sum : digits ≡ encode_lower (sha256 front) = append_cancel_left (codes "SEAL ") digits (encode_lower (sha256 front)) (front_same (codes "SEAL " ++ digits) (seal_line front) (10 ∷ []) (10 ∷ []) refl all) in
    subst (EndsWithSum text front) sum ends

pub due_other : (front last due digits : List ℕ) → last ≡ ended (codes "SEAL " ++ digits) → due ≡ ended (seal_line front) → pointwise nat_eq due last ≡ false → digits ≢ encode_lower (sha256 front)
due_other front last due digits last_is due_so other is =
    let same : due ≡ last = due_so ∙ ap (λ (ds : List ℕ). ended (codes "SEAL " ++ ds)) (sym is) ∙ sym last_is in
    let yes = (bytes_decides due last).1 same in
    absurd (let wrong : true ≡ false = sym yes ∙ other in let no : ⊥ = cc in no)

pub same_line : (line again : List ℕ) → pointwise nat_eq again line ≡ true → line ≡ again
same_line line again same = sym ((bytes_decides again line).0 same)
