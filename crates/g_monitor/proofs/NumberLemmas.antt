-- Each text begins with its number.
-- serves: parts, refusals_begin_with_their_numbers, text_of_full
use Rattle.std.proofs.Common.{◌≡◌, List, [], length, ℕ, true, ◌+◌, ◌/◌, ◌%◌, ◌<◌, ◌≤◌, ◌^◌, ◌∷◌, ◌++◌, refl, sym, ap, ◌∙◌, arith}
use Rattle.std.proofs.Math.Dec.{leb, ltb}
use Rattle.std.proofs.lemmas.Bool.{and_parts, leb-true, ltb-true}
use Rattle.std.proofs.lemmas.Fmt.{decimal_digit, decimal_step}
use Rattle.std.specs.List.{list_all}
use Rattle.std.specs.Prelude.{codes, nat_le, ◌&&◌}
use Rattle.std.specs.Fmt.{decimal}
use Rattle.g_name.specs.Grammar.{is_lang, is_letter, is_name_char, is_word}
use Rattle.g_plain.specs.declared.faults.StoreFault.{StoreFault}
use Rattle.g_plain.specs.declared.faults.StoreFault.TheVariants as fault
use Rattle.g_plain.specs.Faults.{fault_number}
use Rattle.g_monitor.specs.declared.errors.CommandError.{CommandError}
use Rattle.g_monitor.specs.declared.errors.CommandError.TheVariants as error
use Rattle.g_monitor.specs.Parts.{mode_word, with_number, with_numbers, with_copy}
use Rattle.g_monitor.specs.Refusals.{IsPrinted, fault_line, error_line, error_number}

pub only_digit : (n digit : ℕ) → n < 10 → digit ≡ 48 + n → decimal n ≡ digit ∷ []
only_digit n digit small is = decimal_digit n small ∙ ap (λ (d : ℕ). d ∷ []) (sym is)

-- how long the parts of a name may be
pub word_short : (word : List ℕ) → is_word word ≡ true → length word ≤ 12
word_short [] is = omega arith
word_short (first ∷ others) is =
    let few : nat_le (length others) 11 ≡ true = (and_parts (is_letter first) (nat_le (length others) 11) (and_parts (is_letter first && nat_le (length others) 11) (list_all is_name_char others) is).0).1 in
    omega (arith, leb-true (length others) 11 few)

pub lang_short : (lang : List ℕ) → is_lang lang ≡ true → length lang ≤ 4
lang_short lang is = leb-true (length lang) 4 (and_parts (nat_le (length lang) 4) (list_all is_name_char lang) is).0

-- the text is the number, a space and a rest
abbrev Numbered : ℕ → List ℕ → Type 0
Numbered number text = (rest : List ℕ) × (text ≡ decimal number ++ 32 ∷ rest)

one_digit : (n : ℕ) (rest : List ℕ) → ltb n 10 ≡ true → Numbered n ((48 + n) ∷ 32 ∷ rest)
one_digit n rest small = (rest, ap (λ (ds : List ℕ). ds ++ 32 ∷ rest) (sym (decimal_digit n (ltb-true n 10 small))))

two_digits : (n : ℕ) (rest : List ℕ) → leb 10 n ≡ true → ltb n 100 ≡ true → Numbered n ((48 + n / 10) ∷ (48 + n % 10) ∷ 32 ∷ rest)
two_digits n rest large small =
    let least : 10 ≤ n = leb-true 10 n large in
    let most : n < 100 = ltb-true n 100 small in
    let fits : n < 2 ^ 64 = omega arith in
    let tens : n / 10 < 10 = omega arith in
    let digits : decimal n ≡ (48 + n / 10) ∷ (48 + n % 10) ∷ [] = decimal_step n least fits ∙ ap (λ (ds : List ℕ). ds ++ (48 + n % 10) ∷ []) (decimal_digit (n / 10) tens) in
    (rest, ap (λ (ds : List ℕ). ds ++ 32 ∷ rest) (sym digits))

pub fault_begins : (f : StoreFault) → IsPrinted f → Numbered (fault_number f) (fault_line f)
fault_begins fault.NoUser printed = one_digit 1 (codes "NO USER") refl
fault_begins fault.NoFile printed = one_digit 2 (codes "NO FILE") refl
fault_begins fault.Exists printed = one_digit 3 (codes "EXISTS") refl
fault_begins (fault.Trapped mode) printed = one_digit 4 (codes "TRAPPED " ++ mode_word mode) refl
fault_begins fault.NoGeneration printed = one_digit 5 (codes "NO GENERATION") refl
fault_begins (fault.OverSpace need left) printed = one_digit 6 (with_numbers (codes "OVER SPACE ") need left) refl
fault_begins (fault.TooLong len) printed = one_digit 7 (with_number (codes "TOO LONG ") len) refl
fault_begins fault.DirectoryFull printed = one_digit 8 (codes "DIRECTORY FULL") refl
fault_begins fault.UsersFull printed = one_digit 9 (codes "USERS FULL") refl
fault_begins fault.TrapsFull printed = two_digits 10 (codes "TRAPS FULL") refl refl
fault_begins (fault.WaitTape serial) printed = absurd printed
fault_begins (fault.NoCopy full serial) printed = two_digits 12 (with_copy (codes "NO COPY ") full serial) refl refl
fault_begins (fault.DiscFull need room) printed = two_digits 13 (with_numbers (codes "DISC FULL ") need room) refl refl
fault_begins fault.DiscReadFault printed = two_digits 14 (codes "DISC READ") refl refl
fault_begins fault.TapeReadFault printed = two_digits 15 (codes "TAPE READ") refl refl
fault_begins fault.Stopped printed = absurd printed
fault_begins fault.NoMemory printed = absurd printed
fault_begins fault.NotOwner printed = two_digits 18 (codes "NOT OWNER") refl refl
fault_begins fault.CountersSpent printed = two_digits 19 (codes "COUNTERS SPENT") refl refl
fault_begins fault.NotStarted printed = two_digits 20 (codes "NOT STARTED") refl refl
fault_begins fault.NotMounted printed = two_digits 21 (codes "NOT MOUNTED") refl refl
fault_begins (fault.TapeFull need room) printed = two_digits 22 (with_numbers (codes "TAPE FULL ") need room) refl refl
fault_begins (fault.DumpOpen number) printed = two_digits 23 (with_number (codes "DUMP OPEN ") number) refl refl
fault_begins fault.NoTape printed = two_digits 24 (codes "NO TAPE") refl refl
fault_begins fault.NoFilestore printed = two_digits 25 (codes "NO FILESTORE") refl refl
fault_begins fault.NoDump printed = two_digits 26 (codes "NO DUMP") refl refl
fault_begins (fault.RackNotMounted serial) printed = two_digits 27 (with_number (codes "RACK NOT MOUNTED ") serial) refl refl
fault_begins (fault.MountFirst serial) printed = two_digits 28 (with_number (codes "MOUNT FIRST ") serial) refl refl
fault_begins fault.TapeBusy printed = two_digits 29 (codes "TAPE BUSY") refl refl
fault_begins (fault.LostCopy full serial) printed = two_digits 30 (with_copy (codes "LOST COPY ") full serial) refl refl
fault_begins fault.NotDumped printed = two_digits 31 (codes "NOT DUMPED") refl refl
fault_begins fault.Offline printed = two_digits 32 (codes "OFFLINE") refl refl
fault_begins fault.Running printed = two_digits 33 (codes "RUNNING") refl refl
fault_begins (fault.RackNotEmpty serial) printed = two_digits 34 (with_number (codes "RACK NOT EMPTY ") serial) refl refl
fault_begins (fault.LostDirectory user) printed = two_digits 35 (codes "LOST DIRECTORY :" ++ user) refl refl
fault_begins (fault.ReelNotFree serial) printed = two_digits 36 (with_number (codes "REEL NOT FREE ") serial) refl refl

pub error_begins : (e : CommandError) → Numbered (error_number e) (error_line e)
error_begins (error.BadLine place) = two_digits 50 (with_number (codes "BAD LINE ") place) refl refl
error_begins error.UnknownVerb = two_digits 51 (codes "UNKNOWN VERB") refl refl
error_begins error.TooDeep = two_digits 52 (codes "TOO DEEP") refl refl
error_begins error.NoLabel = two_digits 53 (codes "NO LABEL") refl refl
error_begins error.NoProgram = two_digits 54 (codes "NO PROGRAM") refl refl
error_begins error.NotHalted = two_digits 55 (codes "NOT HALTED") refl refl
error_begins (error.BadProgram line) = two_digits 56 (with_number (codes "BAD PROGRAM ") line) refl refl
error_begins error.NotAssigned = two_digits 57 (codes "NOT ASSIGNED") refl refl
error_begins error.InUse = two_digits 58 (codes "IN USE") refl refl
error_begins (error.BadParameter index) = two_digits 59 (with_number (codes "BAD PARAMETER ") index) refl refl
error_begins error.WheneversFull = two_digits 60 (codes "WHENEVERS FULL") refl refl
error_begins (error.BadPlan line) = two_digits 61 (with_number (codes "BAD PLAN ") line) refl refl
