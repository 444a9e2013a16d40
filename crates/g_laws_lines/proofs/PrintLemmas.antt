-- The lines of monitoring files: each may be printed, if the names in it have no byte 10.
-- serves: EventLemmas, SaidLemmas, ScriptLemmas, StateLemmas, TurnLemmas, UnitLemmas, WorkLemmas, WorldLemmas
use Rattle.std.proofs.Common.{◌≡◌, ◌≢◌, ◌==◌, ◌&&◌, ◌++◌, ℕ, Bool, true, false, not, nat_le, if◌then◌else◌, List, [], ◌∷◌, map, codes, length, Option, Some, None, IfSome, unwrap_or, refl, ◌∙◌, subst, arith}
use Rattle.std.specs.Fmt.{decimal}
use Rattle.std.specs.List.{AllByRecursion, list_all}
use Rattle.std.proofs.lemmas.Bool.{and_from, false≢true}
use Rattle.std.proofs.lemmas.List.Folds.{list_all-append}
use Rattle.g_lines.specs.Lines.{lines_of}
use Rattle.g_monitor.specs.JobLines.{header, job_line, marked}
use Rattle.g_monitor.specs.Listing.{listed_lines, row_line, shown, shown_line}
use Rattle.g_monitor.specs.Parts.{full_text, mode_word, modes_text}
use Rattle.g_monitor.specs.Refusals.{error_line, fault_line}
use Rattle.g_monitor.specs.Replies.{done_line, last_line, listed_user, reply_lines}
use Rattle.g_monitor.specs.declared.errors.CommandError.{CommandError}
use Rattle.g_monitor.specs.declared.errors.CommandError.TheVariants as error
use Rattle.g_monitor.specs.declared.job_lines.JobLine.{JobLine}
use Rattle.g_monitor.specs.declared.job_lines.JobLine.TheVariants as line
use Rattle.g_monitor.specs.declared.job_lines.Mark.{Mark}
use Rattle.g_monitor.specs.declared.job_lines.Mark.TheVariants as mark
use Rattle.g_name.specs.declared.full.Full.{Full}
use Rattle.g_name.specs.declared.path.Path.{Path}
use Rattle.g_name.specs.Grammar.{is_lang, is_word}
use Rattle.g_name.specs.Names.{IsName, last_part, path_name}
use Rattle.g_plain.specs.declared.calls.StoreCall.{StoreCall}
use Rattle.g_plain.specs.declared.calls.StoreCall.TheVariants as call
use Rattle.g_plain.specs.declared.calls.StoreReply.{StoreReply}
use Rattle.g_plain.specs.declared.calls.StoreReply.TheVariants as reply
use Rattle.g_plain.specs.declared.faults.StoreFault.{StoreFault}
use Rattle.g_plain.specs.declared.faults.StoreFault.TheVariants as fault
use Rattle.g_trap.specs.ModeSet.{allows}
use Rattle.g_trap.specs.declared.mode_set.Mode.{Mode}
use Rattle.g_trap.specs.declared.mode_set.Mode.TheVariants as mode
use Rattle.g_word.specs.Octal.{octal_digits}
use Rattle.g_laws_lines.proofs.TextLemmas.{both_line, decimal_line, is_line, lang_line, map_line, may_print, octal_line, word_line}

-- REFUSALS, except those that name a file or a user
abbrev pub IsNameless : StoreFault → Type 0
IsNameless (fault.NoCopy full serial) = ⊥
IsNameless (fault.LostCopy full serial) = ⊥
IsNameless (fault.LostDirectory user) = ⊥
IsNameless other = Unit {0}

mode_line : (m : Mode) → is_line (mode_word m) ≡ true
mode_line mode.Read = refl
mode_line mode.Write = refl
mode_line mode.Append = refl
mode_line mode.Execute = refl
mode_line mode.Erase = refl

pub numbers_line : (m n : ℕ) → is_line ((decimal m ++ codes " ") ++ decimal n) ≡ true
numbers_line m n = both_line (decimal m ++ codes " ") (decimal n) (both_line (decimal m) (codes " ") (decimal_line m) refl) (decimal_line n)

pub fault_is_line : (f : StoreFault) → IsNameless f → is_line (fault_line f) ≡ true
fault_is_line (fault.Trapped m) may = mode_line m
fault_is_line (fault.OverSpace need left) may = numbers_line need left
fault_is_line (fault.TooLong len) may = decimal_line len
fault_is_line (fault.DiscFull need room) may = numbers_line need room
fault_is_line (fault.TapeFull need room) may = numbers_line need room
fault_is_line (fault.DumpOpen number) may = decimal_line number
fault_is_line (fault.RackNotMounted serial) may = decimal_line serial
fault_is_line (fault.MountFirst serial) may = decimal_line serial
fault_is_line (fault.RackNotEmpty serial) may = decimal_line serial
fault_is_line (fault.ReelNotFree serial) may = decimal_line serial
fault_is_line (fault.NoCopy full serial) may = absurd may
fault_is_line (fault.LostCopy full serial) may = absurd may
fault_is_line (fault.LostDirectory user) may = absurd may
fault_is_line other may = refl

pub error_is_line : (e : CommandError) → is_line (error_line e) ≡ true
error_is_line (error.BadLine place) = decimal_line place
error_is_line (error.BadProgram bad) = decimal_line bad
error_is_line (error.BadParameter index) = decimal_line index
error_is_line (error.BadPlan bad) = decimal_line bad
error_is_line other = refl

-- LINES OF A JOB
pub marked_may : (m : Mark) (text : List ℕ) → is_line text ≡ true → may_print (marked m text) ≡ true
marked_may mark.Taken text is = is
marked_may mark.Fired text is = is
marked_may mark.Error text is = is
marked_may mark.Halted text is = is
marked_may mark.Deleted text is = is
marked_may mark.Displayed text is = is

pub job_may : (l : JobLine) → may_print (job_line l) ≡ true
job_may (line.Loaded size) = both_line (decimal size) (codes " WORDS") (decimal_line size) refl
job_may (line.Illegal word at) = both_line (octal_digits 8 word ++ codes " AT ") (decimal at) (both_line (octal_digits 8 word) (codes " AT ") (octal_line 8 word) refl) (decimal_line at)
job_may line.Assigned = refl
job_may line.Released = refl
job_may line.Deleted = refl
job_may (line.End units) = both_line (decimal units) (codes " UNITS") (decimal_line units) refl
job_may (line.TimeUp units) = both_line (decimal units) (codes " UNITS") (decimal_line units) refl
job_may (line.MoneyUp money) = both_line (decimal money) (codes " MONEY") (decimal_line money) refl
job_may line.Full = refl
job_may line.Break = refl
job_may (line.WaitingTape serial) = decimal_line serial

pub header_may : (number : ℕ) (name user : List ℕ) → is_line name ≡ true → is_line user ≡ true → may_print (header number name user) ≡ true
header_may number name user one two =
    both_line (((decimal number ++ codes " ") ++ name) ++ codes " :") user
    (both_line ((decimal number ++ codes " ") ++ name) (codes " :") (both_line (decimal number ++ codes " ") name (both_line (decimal number) (codes " ") (decimal_line number) refl) one) refl) two

-- NAMES
abbrev pub IsFineFull : Full → Type 0
IsFineFull full = (is_line full.user ≡ true) × (is_line full.local ≡ true) × (is_line full.lang ≡ true)

abbrev pub IsFinePath : Path → Type 0
IsFinePath path = (is_line (unwrap_or path.user []) ≡ true) × (is_line path.local ≡ true) × (is_line (unwrap_or path.lang []) ≡ true)

pub path_fine : (path : Path) → IsName (path_name path) → IsFinePath path
path_fine path is = (by_user path.user is.user, word_line path.local is.local, by_lang path.lang is.lang)
  where
    by_user : (o : Option (List ℕ)) → IfSome o (λ u. is_word u ≡ true) → is_line (unwrap_or o []) ≡ true
    by_user None word = refl
    by_user (Some user) word = word_line user word

    by_lang : (o : Option (List ℕ)) → IfSome o (λ l. is_lang l ≡ true) → is_line (unwrap_or o []) ≡ true
    by_lang None word = refl
    by_lang (Some lang) word = lang_line lang word

pub full_line : (full : Full) → IsFineFull full → is_line (full_text full) ≡ true
full_line full (user, local, lang) =
    both_line ((full.user ++ codes ".") ++ full.local) (last_part (Some full.generation) (Some full.lang))
    (both_line (full.user ++ codes ".") full.local (both_line full.user (codes ".") user refl) local)
    (both_line ((decimal full.generation ++ codes "/") ++ full.lang) (codes ")")
    (both_line (decimal full.generation ++ codes "/") full.lang (both_line (decimal full.generation) (codes "/") (decimal_line full.generation) refl) lang) refl)

-- LISTINGS
shown_other : (byte : ℕ) → shown byte ≢ 10
shown_other byte = by (nat_le 32 byte && nat_le byte 126) refl
  where
    by : (b : Bool) → (nat_le 32 byte && nat_le byte 126) ≡ b → (if b then byte else 63) ≢ 10
    by true e is = false≢true (subst (λ (c : ℕ). (nat_le 32 c && nat_le c 126) ≡ true) is e)
    by false e is = let no : ⊥ = omega (arith, is) in no

shown_may : (lines : List (List ℕ)) → list_all may_print (map shown_line lines) ≡ true
shown_may [] = refl
shown_may (l ∷ lines) = and_from _ _ (map_line shown shown_other l) (shown_may lines)

-- a row of a listing
abbrev pub IsFineRow : Full × ℕ → Type 0
IsFineRow row = (is_line row.0.local ≡ true) × (is_line row.0.lang ≡ true)

row_may : (row : Full × ℕ) → IsFineRow row → may_print (row_line row) ≡ true
row_may row (local, lang) =
    let begin = row.0.local ++ codes "(" in
    let number = begin ++ decimal row.0.generation in
    let named = (number ++ codes "/") ++ row.0.lang in
    both_line (named ++ codes ") ") (decimal row.1)
    (both_line named (codes ") ")
    (both_line (number ++ codes "/") row.0.lang
    (both_line number (codes "/") (both_line begin (decimal row.0.generation) (both_line row.0.local (codes "(") local refl) (decimal_line row.0.generation)) refl) lang) refl)
    (decimal_line row.1)

rows_may : (rows : List (Full × ℕ)) → AllByRecursion IsFineRow rows → list_all may_print (map row_line rows) ≡ true
rows_may [] fine = refl
rows_may (row ∷ rows) fine = and_from _ _ (row_may row fine.0) (rows_may rows fine.1)

-- REPLIES
letter_shown : (b : Bool) (letter : ℕ) → not (letter == 10) ≡ true → not ((if b then letter else 46) == 10) ≡ true
letter_shown true letter other = other
letter_shown false letter other = refl

modes_line : (modes : ℕ) → is_line (modes_text modes) ≡ true
unfolding modes_text
modes_line modes =
    and_from _ _ (letter_shown (allows modes mode.Read) 82 refl) (and_from _ _ (letter_shown (allows modes mode.Write) 87 refl) (and_from _ _ (letter_shown (allows modes mode.Append) 65 refl) (and_from _ _ (letter_shown (allows modes mode.Execute) 88 refl) (and_from _ _ (letter_shown (allows modes mode.Erase) 69 refl) refl))))

-- the names in a call
abbrev pub IsFineCall : StoreCall → Type 0
IsFineCall (call.NewUser user space time money) = is_line user ≡ true
IsFineCall (call.Budget user kind amount) = Unit {0}
IsFineCall (call.Put path bytes) = IsFinePath path
IsFineCall (call.Append path bytes) = IsFinePath path
IsFineCall (call.Fetch path m) = IsFinePath path
IsFineCall (call.Erase path) = IsFinePath path
IsFineCall (call.Rename path to) = IsFinePath path × (is_line to ≡ true)
IsFineCall (call.List user) = is_line user ≡ true
IsFineCall (call.TrapGo path user modes) = IsFinePath path
IsFineCall (call.TrapStop path user modes) = IsFinePath path
IsFineCall (call.TrapCheck path user) = IsFinePath path
IsFineCall (call.Retrieve path) = IsFinePath path

-- the names in a reply
abbrev pub IsFineReply : StoreReply → Type 0
IsFineReply reply.Done = Unit {0}
IsFineReply (reply.Made full) = IsFineFull full
IsFineReply (reply.Appended full) = IsFineFull full
IsFineReply (reply.Bytes full bytes) = IsFineFull full
IsFineReply (reply.Erased full) = IsFineFull full
IsFineReply (reply.Renamed full) = IsFineFull full
IsFineReply (reply.Listing rows) = AllByRecursion IsFineRow rows
IsFineReply (reply.Modes modes) = Unit {0}
IsFineReply (reply.Retrieved full) = IsFineFull full

done_may : (asked : StoreCall) → IsFineCall asked → may_print (done_line asked) ≡ true
done_may (call.NewUser user space time money) fine = fine
done_may (call.Budget user kind amount) fine = refl
done_may (call.TrapGo path user modes) fine = refl
done_may (call.TrapStop path user modes) fine = refl
done_may other fine = refl

listed_line : (asked : StoreCall) → IsFineCall asked → is_line (listed_user asked) ≡ true
listed_line (call.List user) fine = fine
listed_line other fine = refl

lines_may : (above : List (List ℕ)) (last : List ℕ) → list_all may_print above ≡ true → may_print last ≡ true → list_all may_print (above ++ last ∷ []) ≡ true
lines_may above last one two = list_all-append may_print above (last ∷ []) ∙ and_from _ _ one (and_from _ _ two refl)

pub reply_may : (asked : StoreCall) (r : StoreReply) → IsFineCall asked → IsFineReply r → list_all may_print (reply_lines asked r) ≡ true
reply_may asked reply.Done asks fine = and_from _ _ (done_may asked asks) refl
reply_may asked (reply.Made full) asks fine = and_from _ _ (full_line full fine) refl
reply_may asked (reply.Appended full) asks fine = and_from _ _ (full_line full fine) refl
reply_may asked (reply.Bytes full bytes) asks fine = lines_may (listed_lines bytes) (codes "LISTED " ++ full_text full) (shown_may (lines_of bytes)) (full_line full fine)
reply_may asked (reply.Erased full) asks fine = and_from _ _ (full_line full fine) refl
reply_may asked (reply.Renamed full) asks fine = and_from _ _ (full_line full fine) refl
reply_may asked (reply.Listing rows) asks fine =
    lines_may (map row_line rows) (last_line asked (reply.Listing rows)) (rows_may rows fine)
    (both_line (listed_user asked ++ codes " ") (decimal (length rows)) (both_line (listed_user asked) (codes " ") (listed_line asked asks) refl) (decimal_line (length rows)))
reply_may asked (reply.Modes modes) asks fine = and_from _ _ (modes_line modes) refl
reply_may asked (reply.Retrieved full) asks fine = and_from _ _ (full_line full fine) refl
