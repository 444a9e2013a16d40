-- The lines of a demonstration's script are those of its items, and each is allowed in a script.
-- serves: the_script_is_good
use Rattle.std.proofs.Common.{All, Bool, List, [], ap, append_assoc, arith, codes, false, get_or, length, map, refl, replicate, subst, suc, sym, true, zero, if◌then◌else◌, ℕ, ◌%◌, ◌&&◌, ◌*◌, ◌+◌, ◌++◌, ◌<◌, ◌==◌, ◌^◌, ◌||◌, ◌∙◌, ◌∷◌, ◌≡◌, ◌≢◌, ◌≤◌}
use Rattle.std.specs.Prelude.{nat_le}
use Rattle.std.specs.Fmt.{decimal}
use Rattle.std.specs.List.{AllByRecursion, list_all}
use Rattle.std.proofs.lemmas.Bool.{and_from, and_parts, false≢true, le-leb, leb-true}
use Rattle.std.proofs.lemmas.Fmt.{decimal_by_steps, decimal_digit, decimal_step, length-decimal-le}
use Rattle.std.proofs.lemmas.List.{length-append, length-replicate}
use Rattle.std.proofs.lemmas.List.Concat.{flat_map-append}
use Rattle.std.proofs.lemmas.List.Elements.{All-append, All-cons, All-from_recursion, All-nil, All-replicate, All-weaker}
use Rattle.std.proofs.lemmas.List.Folds.{list_all-append}
use Rattle.g_name.specs.Grammar.{is_letter, is_name_char, is_word}
use Rattle.g_lines.proofs.LineLemmas.{text-lines}
use Rattle.g_lines.specs.Lines.{lines_of}
use Rattle.g_script.proofs.ReadLemmas.{lines_in}
use Rattle.g_script.proofs.SaidLemmas.{items_say}
use Rattle.g_script.specs.Script.{IsDocumentLine, IsItem, WrittenItem, item_lines, timed_said}
use Rattle.g_demo.specs.Script.{at_turn, behind_job, behind_rounds, behind_three, closing, drawn, drawn_job, file_name, filled_line, next, opening, round_lines, rounds_lines, script_lines, script_text}
use Rattle.g_laws_demo.specs.GoodScript.{IsGood}
use Rattle.g_laws_demo.proofs.Items.{bare, behind_items, closing_items, document, dump, last_job, migration, opening_items, round_items, round_job, rounds_items, script_items}
use Rattle.g_script.specs.declared.operator.Operator.TheVariants as operator

-- bytes that can be printed
abbrev is_plain : ℕ → Bool
is_plain byte = nat_le 32 byte && nat_le byte 126

abbrev IsPlain : List ℕ → Type 0
IsPlain text = list_all is_plain text ≡ true

plain_append : (a b : List ℕ) → IsPlain a → IsPlain b → IsPlain (a ++ b)
plain_append a b one other = list_all-append is_plain a b ∙ and_from (list_all is_plain a) (list_all is_plain b) one other

plain_byte : (byte : ℕ) → is_plain byte ≡ true → (32 ≤ byte) × (byte ≤ 126)
plain_byte byte e = let parts = and_parts (nat_le 32 byte) (nat_le byte 126) e in (leb-true 32 byte parts.0, leb-true byte 126 parts.1)

byte_plain : (byte : ℕ) → 32 ≤ byte → byte ≤ 126 → is_plain byte ≡ true
byte_plain byte least most = and_from (nat_le 32 byte) (nat_le byte 126) (le-leb 32 byte least) (le-leb byte 126 most)

each_plain : (text : List ℕ) → IsPlain text → AllByRecursion (λ byte. (32 ≤ byte) × (byte ≤ 126)) text
each_plain [] e = tt
each_plain (byte ∷ text) e =
    let parts = and_parts (is_plain byte) (list_all is_plain text) e in
    (plain_byte byte parts.0, each_plain text parts.1)

printed : (text : List ℕ) → IsPlain text → All (λ byte. (32 ≤ byte) × (byte ≤ 126)) text
printed text e = All-from_recursion (λ byte. (32 ≤ byte) × (byte ≤ 126)) text (each_plain text e)

no_line_end : (text : List ℕ) → IsPlain text → All (λ byte. byte ≢ 10) text
no_line_end text e =
    All-weaker (λ byte. (32 ≤ byte) × (byte ≤ 126)) (λ byte. byte ≢ 10) (λ byte within is. omega (arith, within.0, is)) text (printed text e)

plain_replicate : (n byte : ℕ) → is_plain byte ≡ true → IsPlain (replicate n byte)
plain_replicate zero byte e = refl
plain_replicate (suc n) byte e = and_from (is_plain byte) (list_all is_plain (replicate n byte)) e (plain_replicate n byte e)

-- the digits of a number pass a test that each digit passes
digits_pass : (test : ℕ → Bool) → ((d : ℕ) → d < 10 → test (48 + d) ≡ true) → (n : ℕ) → n < 2 ^ 64 → list_all test (decimal n) ≡ true
digits_pass test each n fits =
    decimal_by_steps (λ (m : ℕ) (ds : List ℕ). list_all test ds ≡ true)
    (λ m small. and_from (test (48 + m)) true (each m small) refl)
    (λ m ds least is.
    list_all-append test ds ((48 + m % 10) ∷ [])
    ∙ and_from (list_all test ds) (test (48 + m % 10) && true) is (and_from (test (48 + m % 10)) true (each (m % 10) (omega arith)) refl))
    n fits

plain_decimal : (n : ℕ) → n < 2 ^ 64 → IsPlain (decimal n)
plain_decimal n fits = digits_pass is_plain (λ d small. byte_plain (48 + d) (omega arith) (omega arith)) n fits

or_middle : (a b c : Bool) → b ≡ true → (a || b || c) ≡ true
or_middle true b c e = refl
or_middle false true c e = refl
or_middle false false c e = absurd (false≢true e)

name_digit : (d : ℕ) → d < 10 → is_name_char (48 + d) ≡ true
name_digit d small =
    or_middle (is_letter (48 + d)) (nat_le 48 (48 + d) && nat_le (48 + d) 57) (48 + d == 45)
    (and_from (nat_le 48 (48 + d)) (nat_le (48 + d) 57) (le-leb 48 (48 + d) (omega arith)) (le-leb (48 + d) 57 (omega arith)))

-- a letter and a number below 10,000 are a word
word_of : (letter n : ℕ) → is_letter letter ≡ true → n < 10000 → is_word (letter ∷ decimal n) ≡ true
word_of letter n is small =
    let short : length (decimal n) ≤ 4 = length-decimal-le 4 n (omega arith) (omega arith) (omega arith) in
    and_from (is_letter letter && nat_le (length (decimal n)) 11) (list_all is_name_char (decimal n))
    (and_from (is_letter letter) (nat_le (length (decimal n)) 11) is (le-leb (length (decimal n)) 11 (omega (arith, short))))
    (digits_pass is_name_char name_digit n (omega arith))

-- the lines of a document
first_differs : (a b : ℕ) (xs ys : List ℕ) → a ≢ b → a ∷ xs ≢ b ∷ ys
first_differs a b xs ys other e = other (ap (λ (t : List ℕ). get_or t 0 0) e)

document_line : (line : List ℕ) → length line ≤ 160 → IsPlain line → line ≢ codes "****" → IsDocumentLine line
document_line line short plain other = (record { short = short; bytes = printed line plain }, other)

-- words, a number below 100, and the end of a file's name
plain_file : (n : ℕ) → n < 100 → IsPlain (decimal n ++ codes "(1)")
plain_file n small = plain_append (decimal n) (codes "(1)") (plain_decimal n (omega arith)) refl

short_file : (n : ℕ) → n < 100 → length (decimal n ++ codes "(1)") ≤ 5
short_file n small =
    let short : length (decimal n) ≤ 2 = length-decimal-le 2 n (omega arith) (omega arith) (omega arith) in
    omega (arith, short, length-append (decimal n) (codes "(1)"))

input_line : (n : ℕ) → n < 100 → IsDocumentLine (codes "INPUT " ++ file_name n)
input_line n small =
    document_line (codes "INPUT " ++ file_name n) (omega (arith, short_file n small)) (plain_file n small)
    (first_differs 73 42 _ _ (λ e. omega (arith, e)))

list_line : (n : ℕ) → n < 100 → IsDocumentLine (codes "LISTFILE " ++ file_name n)
list_line n small =
    document_line (codes "LISTFILE " ++ file_name n) (omega (arith, short_file n small)) (plain_file n small)
    (first_differs 76 42 _ _ (λ e. omega (arith, e)))

plain_filled : (i : ℕ) → IsPlain (filled_line i)
unfolding filled_line
plain_filled i = plain_replicate 60 (65 + i % 26) (byte_plain (65 + i % 26) (omega arith) (omega arith))

sixty_filled : (i : ℕ) → length (filled_line i) ≡ 60
unfolding filled_line
sixty_filled i = length-replicate 60 (65 + i % 26)

filled : (i : ℕ) → IsDocumentLine (filled_line i)
filled i =
    let sixty = sixty_filled i in
    document_line (filled_line i) (omega (arith, sixty)) (plain_filled i) (λ e. let four : length (filled_line i) ≡ 4 = ap length e in omega (arith, sixty, four))

known_line : (a : ℕ) (line : List ℕ) → length (a ∷ line) ≤ 160 → IsPlain (a ∷ line) → a ≢ 42 → IsDocumentLine (a ∷ line)
known_line a line short plain other = document_line (a ∷ line) short plain (first_differs a 42 line (codes "***") other)

end_job : IsDocumentLine (codes "ENDJOB")
end_job = known_line 69 (codes "NDJOB") (omega arith) refl (λ e. omega (arith, e))

end_input : IsDocumentLine (codes "////")
end_input = known_line 47 (codes "///") (omega arith) refl (λ e. omega (arith, e))

list_dir : IsDocumentLine (codes "LISTDIR")
list_dir = known_line 76 (codes "ISTDIR") (omega arith) refl (λ e. omega (arith, e))

good_document : (i k lines j : ℕ) → k < 100 → j < 100 → All IsDocumentLine (document i k lines j)
good_document i k lines j small too =
    let last : List (List ℕ) = codes "ENDJOB" ∷ [] in
    let listed : List (List ℕ) = (codes "LISTFILE " ++ file_name j) ∷ last in
    let ended : List (List ℕ) = codes "////" ∷ listed in
    All-cons IsDocumentLine (codes "INPUT " ++ file_name k) (replicate lines (filled_line i) ++ ended) (input_line k small)
    (All-append IsDocumentLine (replicate lines (filled_line i)) ended (All-replicate IsDocumentLine lines (filled_line i) (filled i))
    (All-cons IsDocumentLine (codes "////") listed end_input
    (All-cons IsDocumentLine (codes "LISTFILE " ++ file_name j) last (list_line j too)
    (All-cons IsDocumentLine (codes "ENDJOB") [] end_job (All-nil IsDocumentLine)))))

-- the items
below_20 : (state : ℕ) → drawn 20 state < 100
below_20 state = omega arith

money_few : 1000 ≤ 1000000
money_few = omega arith

good_job : (i state : ℕ) → i ≤ 1000 → IsItem (round_job i state)
good_job i state few = (
  omega (arith, few),
  record {
    is_name = word_of 74 i refl (omega (arith, few));
    is_user = refl;
    time_within = (omega arith, omega arith);
    money_within = money_few;
    document = good_document i (drawn 20 (next state)) (drawn 40 (next (next state)) + 1) (drawn 20 (behind_three state)) (below_20 (next state)) (below_20 (behind_three state));
  },
  tt,
)

good_dump : (turn : ℕ) → turn ≤ 1000000000 → IsItem (dump turn)
good_dump turn few = (few, (omega arith, omega arith), tt)

good_migration : (turn q : ℕ) → turn ≤ 1000000000 → q < 100 → IsItem (migration turn q)
good_migration turn q few small = (few, record { user = refl; local = word_of 70 q refl (omega (arith, small)); generation = (omega arith, omega arith); lang = tt }, tt)

good_behind : (m d : WrittenItem) (b c : Bool) → IsItem m → IsItem d → All IsItem (if b then m ∷ [] else if c then d ∷ [] else [])
good_behind m d true c one other = All-cons IsItem m [] one (All-nil IsItem)
good_behind m d false true one other = All-cons IsItem d [] other (All-nil IsItem)
good_behind m d false false one other = All-nil IsItem

good_round : (i state : ℕ) → i ≤ 1000 → All IsItem (round_items i state)
good_round i state few =
    All-cons IsItem (round_job i state) (behind_items i state) (good_job i state few)
    (good_behind (migration (4 * i) (drawn 20 (next (behind_three state)))) (dump (4 * i)) (i % 50 == 49) (i % 50 == 0)
    (good_migration (4 * i) (drawn 20 (next (behind_three state))) (omega (arith, few)) (below_20 (next (behind_three state)))) (good_dump (4 * i) (omega (arith, few))))

-- a property of each of 1,000 rounds holds for all of them
all_rounds : {X : Type 0} (P : X → Type 0) (rounds round : ℕ → List X) → rounds 0 ≡ [] → ((i : ℕ) → rounds (suc i) ≡ rounds i ++ round i) → ((i : ℕ) → suc i ≤ 1000 → All P (round i))
    → (i : ℕ) → i ≤ 1000 → All P (rounds i)
all_rounds P rounds round none more each zero few = subst (All P) (sym none) (All-nil P)
all_rounds P rounds round none more each (suc i) few =
    subst (All P) (sym (more i)) (All-append P (rounds i) (round i) (all_rounds P rounds round none more each i (omega (arith, few))) (each i few))

good_rounds : (number i : ℕ) → i ≤ 1000 → All IsItem (rounds_items number i)
unfolding rounds_items
good_rounds number i few =
    all_rounds IsItem (rounds_items number) (λ k. round_items (suc k) (behind_rounds number k)) refl (λ k. refl) (λ k less. good_round (suc k) (behind_rounds number k) less) i few

good_last : IsItem last_job
good_last = (
  omega arith,
  record {
    is_name = refl;
    is_user = refl;
    time_within = (omega arith, omega arith);
    money_within = money_few;
    document = All-cons IsDocumentLine (codes "LISTDIR") (codes "ENDJOB" ∷ []) list_dir (All-cons IsDocumentLine (codes "ENDJOB") [] end_job (All-nil IsDocumentLine));
  },
  tt,
)

good_shut : IsItem (bare 1000000000 operator.Shut)
good_shut = (omega arith, tt, tt)

good_restore : IsItem (bare 1000000000 operator.Restore)
good_restore = (omega arith, tt, tt)

good_closing : All IsItem closing_items
good_closing =
    All-cons IsItem (dump 1000000000) (bare 1000000000 operator.Shut ∷ bare 1000000000 operator.Restore ∷ last_job ∷ []) (good_dump 1000000000 (omega arith))
    (All-cons IsItem (bare 1000000000 operator.Shut) (bare 1000000000 operator.Restore ∷ last_job ∷ []) good_shut
    (All-cons IsItem (bare 1000000000 operator.Restore) (last_job ∷ []) good_restore (All-cons IsItem last_job [] good_last (All-nil IsItem))))

good_format : IsItem (bare 0 operator.Format)
good_format = (omega arith, tt, tt)

good_mount : IsItem (bare 0 (operator.Mount 1))
good_mount = (omega arith, (omega arith, omega arith), tt)

good_opening : All IsItem opening_items
good_opening =
    All-cons IsItem (bare 0 operator.Format) (bare 0 (operator.Mount 1) ∷ []) good_format (All-cons IsItem (bare 0 (operator.Mount 1)) [] good_mount (All-nil IsItem))

good_items : (number rounds : ℕ) → rounds ≤ 1000 → All IsItem (script_items number rounds)
good_items number rounds few =
    All-append IsItem opening_items (rounds_items number rounds ++ closing_items) good_opening
    (All-append IsItem (rounds_items number rounds) closing_items (good_rounds number rounds few) good_closing)

-- their lines
regrouped : (d a b c e : List ℕ) → (((d ++ a) ++ b) ++ c) ++ e ≡ d ++ (a ++ (b ++ (c ++ e)))
regrouped d a b c e = append_assoc ((d ++ a) ++ b) c e ∙ append_assoc (d ++ a) b (c ++ e) ∙ append_assoc d a (b ++ (c ++ e))

decimal_1 : decimal 1 ≡ codes "1"
decimal_1 = decimal_digit 1 (omega arith)

decimal_20 : decimal 20 ≡ codes "20"
decimal_20 = decimal_step 20 (omega arith) (omega arith) ∙ ap (λ (ds : List ℕ). ds ++ 48 ∷ []) (decimal_digit 2 (omega arith))

job_tail : (i : ℕ) → (((decimal i ++ codes ",:") ++ codes "MASTER") ++ codes ",TIME ") ++ (decimal 20 ++ []) ≡ decimal i ++ codes ",:MASTER,TIME 20"
job_tail i =
    ap (λ (e : List ℕ). (((decimal i ++ codes ",:") ++ codes "MASTER") ++ codes ",TIME ") ++ (e ++ [])) decimal_20
    ∙ regrouped (decimal i) (codes ",:") (codes "MASTER") (codes ",TIME ") (codes "20")

at_turn_is : (turn : ℕ) (what : List ℕ) → decimal turn ++ (32 ∷ what) ≡ at_turn turn what
at_turn_is turn what = sym (append_assoc (decimal turn) (codes " ") what)

abbrev job_what : ℕ → List ℕ
job_what i = codes "JOB J" ++ decimal i ++ codes ",:MASTER,TIME 20"

lines_of_job : (i state : ℕ) → item_lines (round_job i state) ≡ drawn_job i state
lines_of_job i state =
    let k : ℕ = drawn 20 (next state) in
    let lines : ℕ = drawn 40 (next (next state)) + 1 in
    let j : ℕ = drawn 20 (behind_three state) in
    ap (λ (t : List ℕ). (decimal (4 * i) ++ (32 ∷ (codes "JOB J" ++ t))) ∷ (document i k lines j ++ codes "****" ∷ [])) (job_tail i)
    ∙ ap (λ (t : List ℕ). t ∷ (document i k lines j ++ codes "****" ∷ [])) (at_turn_is (4 * i) (job_what i))
    ∙ ap (λ (ls : List (List ℕ)). at_turn (4 * i) (job_what i) ∷ (codes "INPUT " ++ file_name k) ∷ ls)
    (append_assoc (replicate lines (filled_line i)) (codes "////" ∷ (codes "LISTFILE " ++ file_name j) ∷ codes "ENDJOB" ∷ []) (codes "****" ∷ []))

lines_of_dump : (turn : ℕ) → item_lines (dump turn) ≡ at_turn turn (codes "DUMP 1") ∷ []
lines_of_dump turn =
    ap (λ (d : List ℕ). (decimal turn ++ (32 ∷ (codes "DUMP " ++ d))) ∷ []) decimal_1
    ∙ ap (λ (t : List ℕ). t ∷ []) (at_turn_is turn (codes "DUMP 1"))

lines_of_migration : (turn q : ℕ) → item_lines (migration turn q) ≡ at_turn turn (codes "MIGRATE :MASTER." ++ file_name q) ∷ []
lines_of_migration turn q =
    ap (λ (d : List ℕ). (decimal turn ++ (32 ∷ (codes "MIGRATE :MASTER.F" ++ (decimal q ++ ((codes "(" ++ d) ++ codes ")"))))) ∷ []) decimal_1
    ∙ ap (λ (t : List ℕ). t ∷ []) (at_turn_is turn (codes "MIGRATE :MASTER." ++ file_name q))

lines_by_tests : (m d : WrittenItem) (first other : List ℕ) (b c : Bool) → item_lines m ≡ first ∷ [] → item_lines d ≡ other ∷ []
    → lines_in (if b then m ∷ [] else if c then d ∷ [] else []) ≡ (if b then first ∷ [] else if c then other ∷ [] else [])
lines_by_tests m d first other true c one two = ap (λ (ls : List (List ℕ)). ls ++ []) one
lines_by_tests m d first other false true one two = ap (λ (ls : List (List ℕ)). ls ++ []) two
lines_by_tests m d first other false false one two = refl

lines_of_behind : (i state : ℕ) → lines_in (behind_items i state) ≡ behind_job i state
lines_of_behind i state =
    let q : ℕ = drawn 20 (next (behind_three state)) in
    lines_by_tests (migration (4 * i) q) (dump (4 * i)) (at_turn (4 * i) (codes "MIGRATE :MASTER." ++ file_name q)) (at_turn (4 * i) (codes "DUMP 1"))
    (i % 50 == 49) (i % 50 == 0) (lines_of_migration (4 * i) q) (lines_of_dump (4 * i))

lines_of_round : (i state : ℕ) → lines_in (round_items i state) ≡ round_lines i state
lines_of_round i state =
    ap (λ (ls : List (List ℕ)). ls ++ lines_in (behind_items i state)) (lines_of_job i state)
    ∙ ap (λ (ls : List (List ℕ)). drawn_job i state ++ ls) (lines_of_behind i state)

lines_of_rounds : (number i : ℕ) → lines_in (rounds_items number i) ≡ rounds_lines number i
unfolding rounds_items rounds_lines
lines_of_rounds number zero = refl
lines_of_rounds number (suc i) =
    let state : ℕ = behind_rounds number i in
    flat_map-append item_lines (rounds_items number i) (round_items (suc i) state)
    ∙ ap (λ (ls : List (List ℕ)). ls ++ lines_in (round_items (suc i) state)) (lines_of_rounds number i)
    ∙ ap (λ (ls : List (List ℕ)). rounds_lines number i ++ ls) (lines_of_round (suc i) state)

decimal_0 : decimal 0 ≡ codes "0"
decimal_0 = decimal_digit 0 (omega arith)

-- a number that is ten times another one, by the digits of that
tenfold : (n q : ℕ) (ds : List ℕ) → decimal n ≡ decimal q ++ 48 ∷ [] → decimal q ≡ ds → decimal n ≡ ds ++ 48 ∷ []
tenfold n q ds step is = step ∙ ap (λ (xs : List ℕ). xs ++ 48 ∷ []) is

decimal_100 : decimal 100 ≡ codes "100"
decimal_100 = tenfold 100 10 (codes "10") (decimal_step 100 (omega arith) (omega arith)) (tenfold 10 1 (codes "1") (decimal_step 10 (omega arith) (omega arith)) decimal_1)

decimal_1000000000 : decimal 1000000000 ≡ codes "1000000000"
decimal_1000000000 =
    let four : decimal 1000 ≡ codes "1000" = tenfold 1000 100 (codes "100") (decimal_step 1000 (omega arith) (omega arith)) decimal_100 in
    let five : decimal 10000 ≡ codes "10000" = tenfold 10000 1000 (codes "1000") (decimal_step 10000 (omega arith) (omega arith)) four in
    let six : decimal 100000 ≡ codes "100000" = tenfold 100000 10000 (codes "10000") (decimal_step 100000 (omega arith) (omega arith)) five in
    let seven : decimal 1000000 ≡ codes "1000000" = tenfold 1000000 100000 (codes "100000") (decimal_step 1000000 (omega arith) (omega arith)) six in
    let eight : decimal 10000000 ≡ codes "10000000" = tenfold 10000000 1000000 (codes "1000000") (decimal_step 10000000 (omega arith) (omega arith)) seven in
    let nine : decimal 100000000 ≡ codes "100000000" = tenfold 100000000 10000000 (codes "10000000") (decimal_step 100000000 (omega arith) (omega arith)) eight in
    tenfold 1000000000 100000000 (codes "100000000") (decimal_step 1000000000 (omega arith) (omega arith)) nine

lines_of_opening : lines_in opening_items ≡ opening
lines_of_opening =
    ap (λ (d : List ℕ). (d ++ (32 ∷ codes "FORMAT")) ∷ (d ++ (32 ∷ (codes "MOUNT " ++ decimal 1))) ∷ []) decimal_0
    ∙ ap (λ (d : List ℕ). codes "0 FORMAT" ∷ (codes "0 MOUNT " ++ d) ∷ []) decimal_1

-- the last lines, by the digits of their numbers
abbrev closing_by : List ℕ → List ℕ → List ℕ → List (List ℕ)
closing_by turn one hundred =
    (turn ++ (32 ∷ (codes "DUMP " ++ one)))
    ∷ (turn ++ (32 ∷ codes "SHUT"))
    ∷ (turn ++ (32 ∷ codes "RESTORE"))
    ∷ (turn ++ (32 ∷ (codes "JOB END,:MASTER,TIME " ++ (hundred ++ []))))
    ∷ codes "LISTDIR" ∷ codes "ENDJOB" ∷ codes "****" ∷ []

lines_of_closing : lines_in closing_items ≡ closing
lines_of_closing =
    ap (λ (d : List ℕ). closing_by d (decimal 1) (decimal 100)) decimal_1000000000
    ∙ ap (λ (d : List ℕ). closing_by (codes "1000000000") d (decimal 100)) decimal_1
    ∙ ap (λ (d : List ℕ). closing_by (codes "1000000000") (codes "1") d) decimal_100

lines_of_script : (number rounds : ℕ) → lines_in (script_items number rounds) ≡ script_lines number rounds
lines_of_script number rounds =
    flat_map-append item_lines opening_items (rounds_items number rounds ++ closing_items)
    ∙ ap (λ (ls : List (List ℕ)). ls ++ lines_in (rounds_items number rounds ++ closing_items)) lines_of_opening
    ∙ ap (λ (ls : List (List ℕ)). opening ++ ls)
    (flat_map-append item_lines (rounds_items number rounds) closing_items
    ∙ ap (λ (ls : List (List ℕ)). ls ++ lines_in closing_items) (lines_of_rounds number rounds)
    ∙ ap (λ (ls : List (List ℕ)). rounds_lines number rounds ++ ls) lines_of_closing)

-- no line has a byte 10
abbrev IsOneLine : List ℕ → Type 0
IsOneLine line = All (λ byte. byte ≢ 10) line

of_document : (line : List ℕ) → IsDocumentLine line → IsOneLine line
of_document line is = All-weaker (λ byte. (32 ≤ byte) × (byte ≤ 126)) (λ byte. byte ≢ 10) (λ byte within e. omega (arith, within.0, e)) line is.0.bytes

one_line : (turn : ℕ) (what : List ℕ) → turn < 2 ^ 64 → IsPlain what → IsOneLine (at_turn turn what)
one_line turn what fits plain =
    no_line_end (at_turn turn what) (plain_append (decimal turn ++ codes " ") what (plain_append (decimal turn) (codes " ") (plain_decimal turn fits) refl) plain)

apart_job : (i state : ℕ) → i ≤ 1000 → All IsOneLine (item_lines (round_job i state))
apart_job i state few =
    let k : ℕ = drawn 20 (next state) in
    let lines : ℕ = drawn 40 (next (next state)) + 1 in
    let j : ℕ = drawn 20 (behind_three state) in
    let what : IsPlain (job_what i) = plain_append (decimal i) (codes ",:MASTER,TIME 20") (plain_decimal i (omega (arith, few))) refl in
    let line : List ℕ = decimal (4 * i) ++ (32 ∷ (codes "JOB J" ++ ((((decimal i ++ codes ",:") ++ codes "MASTER") ++ codes ",TIME ") ++ (decimal 20 ++ [])))) in
    let same : line ≡ at_turn (4 * i) (job_what i) = ap (λ (t : List ℕ). decimal (4 * i) ++ (32 ∷ (codes "JOB J" ++ t))) (job_tail i) ∙ at_turn_is (4 * i) (job_what i) in
    let head : IsOneLine line = subst IsOneLine (sym same) (one_line (4 * i) (job_what i) (omega (arith, few)) what) in
    All-cons IsOneLine line (document i k lines j ++ codes "****" ∷ []) head
    (All-append IsOneLine (document i k lines j) (codes "****" ∷ [])
    (All-weaker IsDocumentLine IsOneLine of_document (document i k lines j) (good_document i k lines j (below_20 (next state)) (below_20 (behind_three state))))
    (All-cons IsOneLine (codes "****") [] (no_line_end (codes "****") refl) (All-nil IsOneLine)))

apart_by_tests : (first other : List ℕ) (b c : Bool) → IsOneLine first → IsOneLine other → All IsOneLine (if b then first ∷ [] else if c then other ∷ [] else [])
apart_by_tests first other true c one two = All-cons IsOneLine first [] one (All-nil IsOneLine)
apart_by_tests first other false true one two = All-cons IsOneLine other [] two (All-nil IsOneLine)
apart_by_tests first other false false one two = All-nil IsOneLine

apart_round : (i state : ℕ) → i ≤ 1000 → All IsOneLine (round_lines i state)
apart_round i state few =
    let q : ℕ = drawn 20 (next (behind_three state)) in
    All-append IsOneLine (drawn_job i state) (behind_job i state)
    (subst (All IsOneLine) (lines_of_job i state) (apart_job i state few))
    (apart_by_tests (at_turn (4 * i) (codes "MIGRATE :MASTER." ++ file_name q)) (at_turn (4 * i) (codes "DUMP 1")) (i % 50 == 49) (i % 50 == 0)
    (one_line (4 * i) (codes "MIGRATE :MASTER." ++ file_name q) (omega (arith, few)) (plain_file q (below_20 (next (behind_three state)))))
    (one_line (4 * i) (codes "DUMP 1") (omega (arith, few)) refl))

apart_rounds : (number i : ℕ) → i ≤ 1000 → All IsOneLine (rounds_lines number i)
unfolding rounds_lines
apart_rounds number i few =
    all_rounds IsOneLine (rounds_lines number) (λ k. round_lines (suc k) (behind_rounds number k)) refl (λ k. refl) (λ k less. apart_round (suc k) (behind_rounds number k) less) i few

abbrev ArePlain : List (List ℕ) → Type 0
ArePlain lines = list_all (list_all is_plain) lines ≡ true

apart_known : (lines : List (List ℕ)) → ArePlain lines → All IsOneLine lines
apart_known [] e = All-nil IsOneLine
apart_known (line ∷ lines) e =
    let parts = and_parts (list_all is_plain line) (list_all (list_all is_plain) lines) e in
    All-cons IsOneLine line lines (no_line_end line parts.0) (apart_known lines parts.1)

apart_script : (number rounds : ℕ) → rounds ≤ 1000 → All IsOneLine (script_lines number rounds)
apart_script number rounds few =
    All-append IsOneLine opening (rounds_lines number rounds ++ closing) (apart_known opening refl)
    (All-append IsOneLine (rounds_lines number rounds) closing (apart_rounds number rounds few) (apart_known closing refl))

pub is_good : IsGood
is_good number rounds few = (
  map timed_said (script_items number rounds),
  items_say (lines_of (script_text number rounds)) (script_items number rounds) (good_items number rounds few) (text-lines (script_lines number rounds) (apart_script number rounds few) ∙ sym (lines_of_script number rounds)),
)
