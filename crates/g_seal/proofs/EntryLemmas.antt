-- The text of a seal determines its dumps and files, and no such text is refused.
-- serves: add_line (entries, unknown), dump_of (read), file_of (read), lib, lines_in (refused), parse_seal (accepted), OwnTextLemmas, ParseLemmas
use Rattle.std.proofs.Common.{◌≡◌, ◌≢◌, ◌⊎◌, inl, inr, ℕ, ◌+◌, ◌-◌, ◌<◌, ◌≤◌, ◌^◌, Bool, true, false, List, [], ◌∷◌, ◌++◌, zero, suc, length, map, min, take, drop, get_or, Option, Some, None, Result, Ok, Err, IfOk, IfErr, refl, sym, ◌∙◌, ap, subst, arith, All, append_assoc, append-nil}
use Rattle.std.specs.Prelude.{codes, ◌==◌, IfNone, IfSome, MatchResult}
use Rattle.std.specs.Fmt.{decimal}
use Rattle.std.specs.List.{take-map}
use Rattle.std.proofs.lemmas.Bool.{eqb-false}
use Rattle.std.proofs.lemmas.Grind.{flat_map-append}
use Rattle.std.proofs.lemmas.List.{append_cancel_left, append_cancel_right, length-append}
use Rattle.std.proofs.lemmas.List.Elements.{All-append, All-cons, All-head, All-map, All-nil, All-tail, All-take}
use Rattle.std.proofs.Math.Seq.{take-append_seam}
use Rattle.hex.specs.Hex.{encode_lower, lower_digits}
use Rattle.hex.proofs.HexLemmas.{length-encode_with}
use Rattle.sha2.specs.Sha256.{sha256}
use Rattle.sha2.proofs.Facts256.{length-sha256}
use Rattle.g_entry.specs.declared.file_rec.TapeCopy.{TapeCopy}
use Rattle.g_lines.specs.Documents.{IsWhole}
use Rattle.g_lines.specs.Lines.{ended, lines_of, text_of}
use Rattle.g_lines.proofs.DocumentLemmas.{lines_few}
use Rattle.g_lines.proofs.LineLemmas.{text-lines}
use Rattle.g_look.specs.FileLines.{taped_text}
use Rattle.g_look.specs.Text.{told}
use Rattle.g_monitor.specs.Parts.{full_text}
use Rattle.g_seal.specs.declared.entries.SealedDump.{SealedDump}
use Rattle.g_seal.specs.declared.entries.SealedFile.{SealedFile}
use Rattle.g_seal.specs.declared.parse.Seal.{Seal}
use Rattle.g_seal.specs.declared.parse.SealFault.{SealFault}
use Rattle.g_seal.specs.declared.parse.SealFault.TheVariants as refusal
use Rattle.g_seal.specs.Entries.{AreEntries, AreKnown, EndsWithSum, IsDumpEntry, IsFileEntry, IsFirstUnknown, IsPlaced, IsRefused, IsSum, TextIsOne}
use Rattle.g_seal.specs.SealText.{dump_line, file_line, front_text, online_text, seal_line, sealed_lines, sealed_text, sum_text}
use Rattle.g_seal.proofs.FieldLemmas.{AreFrom, field_is, from_decimal, from_full, from_hex, from_less, from_test, full_is, join, none_of, number_is, online_is, plain_full, rest_online, sum_is, wide}

-- A LINE from its first field on
right_five : (a b c d e : List ℕ) → a ++ b ++ c ++ d ++ e ≡ a ++ (b ++ (c ++ (d ++ e)))
right_five a b c d e = append_assoc (a ++ b ++ c) d e ∙ append_assoc (a ++ b) c (d ++ e) ∙ append_assoc a b (c ++ (d ++ e))

abbrev pub after_place : SealedDump → List ℕ
after_place d = told (codes " BLOCKS ") d.blocks ++ sum_text d.sum

abbrev pub after_serial : SealedDump → List ℕ
after_serial d = told (codes " AT ") d.place ++ after_place d

abbrev pub after_number : SealedDump → List ℕ
after_number d = told (codes " TAPE ") d.serial ++ after_serial d

pub dump_right : (d : SealedDump) → dump_line d ≡ told (codes "DUMP ") d.number ++ after_number d
dump_right d = right_five (told (codes "DUMP ") d.number) (told (codes " TAPE ") d.serial) (told (codes " AT ") d.place) (told (codes " BLOCKS ") d.blocks) (sum_text d.sum)

abbrev pub after_sum : SealedFile → List ℕ
after_sum f = online_text f.online ++ taped_text f.tape

abbrev pub after_stamp : SealedFile → List ℕ
after_stamp f = sum_text f.sum ++ after_sum f

abbrev pub after_len : SealedFile → List ℕ
after_len f = told (codes " STAMP ") f.stamp ++ after_stamp f

abbrev pub after_name : SealedFile → List ℕ
after_name f = told (codes " LENGTH ") f.len ++ after_len f

pub file_right : (f : SealedFile) → file_line f ≡ codes "FILE " ++ (full_text f.full ++ after_name f)
file_right f =
    let front : List ℕ = codes "FILE " ++ full_text f.full in
    right_five (front ++ told (codes " LENGTH ") f.len) (told (codes " STAMP ") f.stamp) (sum_text f.sum) (online_text f.online) (taped_text f.tape)
    ∙ append_assoc front (told (codes " LENGTH ") f.len) (after_len f) ∙ append_assoc (codes "FILE ") (full_text f.full) (after_name f)

-- A LINE determines its dump, or its file
pub dump_is : (d e : SealedDump) → IsDumpEntry d → IsDumpEntry e → dump_line d ≡ dump_line e → d ≡ e
dump_is d e p q is =
    let number = number_is (codes "DUMP ") d.number e.number (after_number d) (after_number e) p.number q.number refl refl (sym (dump_right d) ∙ is ∙ dump_right e) in
    let serial = number_is (codes " TAPE ") d.serial e.serial (after_serial d) (after_serial e) (wide d.serial p.serial) (wide e.serial q.serial) refl refl number.1 in
    let place = number_is (codes " AT ") d.place e.place (after_place d) (after_place e) (wide d.place p.place) (wide e.place q.place) refl refl serial.1 in
    let blocks = number_is (codes " BLOCKS ") d.blocks e.blocks (sum_text d.sum) (sum_text e.sum) (wide d.blocks p.blocks) (wide e.blocks q.blocks) refl refl place.1 in
    let sum = sum_is d.sum e.sum [] [] p.sum q.sum tt tt (append-nil (sum_text d.sum) ∙ blocks.1 ∙ sym (append-nil (sum_text e.sum))) in
    λ i. record { number = number.0 i; serial = serial.0 i; place = place.0 i; blocks = blocks.0 i; sum = sum.0 i }

pub file_is : (f g : SealedFile) → IsFileEntry f → IsFileEntry g → file_line f ≡ file_line g → f ≡ g
file_is f g p q is =
    let name =
    field_is (full_text f.full) (full_text g.full) (after_name f) (after_name g) (plain_full f.full p.full) (plain_full g.full q.full) refl refl
    (append_cancel_left (codes "FILE ") (full_text f.full ++ after_name f) (full_text g.full ++ after_name g) (sym (file_right f) ∙ is ∙ file_right g)) in
    let full = full_is f.full g.full p.full q.full name.0 in
    let len = number_is (codes " LENGTH ") f.len g.len (after_len f) (after_len g) (wide f.len p.len) (wide g.len q.len) refl refl name.1 in
    let stamp = number_is (codes " STAMP ") f.stamp g.stamp (after_stamp f) (after_stamp g) p.stamp q.stamp refl refl len.1 in
    let sum = sum_is f.sum g.sum (after_sum f) (after_sum g) p.sum q.sum (rest_online f.online f.tape) (rest_online g.online g.tape) stamp.1 in
    let places = online_is f.online g.online f.tape g.tape p.tape q.tape sum.1 in
    λ i. record { full = full i; len = len.0 i; stamp = stamp.0 i; sum = sum.0 i; online = places.0 i; tape = places.1 i }

-- no line has a byte 10
told_from : (words : List ℕ) (n : ℕ) → AreFrom 32 words → n < 2 ^ 64 → AreFrom 32 (told words n)
told_from words n from fits = join 32 words (decimal n) from (from_less 32 48 (decimal n) (omega arith) (from_decimal n fits))

sum_from : (sum : List ℕ) → IsSum sum → AreFrom 32 (sum_text sum)
sum_from sum is = join 32 (codes " SHA256 ") (encode_lower sum) (from_test 32 (codes " SHA256 ") refl) (from_less 32 48 (encode_lower sum) (omega arith) (from_hex sum is.bytes))

taped_from : (tape : Option TapeCopy) → IfSome tape IsPlaced → AreFrom 32 (taped_text tape)
taped_from None is = All-nil (λ b. 32 ≤ b)
taped_from (Some c) is =
    join 32 (told (codes " TAPE ") c.serial) (told (codes " AT ") c.first) (told_from (codes " TAPE ") c.serial (from_test 32 (codes " TAPE ") refl) (wide c.serial is.serial))
    (told_from (codes " AT ") c.first (from_test 32 (codes " AT ") refl) (wide c.first is.first))

online_from : (online : Bool) → AreFrom 32 (online_text online)
online_from true = from_test 32 (codes " DISC") refl
online_from false = All-nil (λ b. 32 ≤ b)

dump_one : (d : SealedDump) → IsDumpEntry d → All (λ b. b ≢ 10) (dump_line d)
dump_one d is =
    let place : AreFrom 32 (after_place d) = join 32 (told (codes " BLOCKS ") d.blocks) (sum_text d.sum) (told_from (codes " BLOCKS ") d.blocks (from_test 32 (codes " BLOCKS ") refl) (wide d.blocks is.blocks)) (sum_from d.sum is.sum) in
    let serial : AreFrom 32 (after_serial d) = join 32 (told (codes " AT ") d.place) (after_place d) (told_from (codes " AT ") d.place (from_test 32 (codes " AT ") refl) (wide d.place is.place)) place in
    let number : AreFrom 32 (after_number d) = join 32 (told (codes " TAPE ") d.serial) (after_serial d) (told_from (codes " TAPE ") d.serial (from_test 32 (codes " TAPE ") refl) (wide d.serial is.serial)) serial in
    none_of 10 32 (dump_line d) (omega arith)
    (subst (AreFrom 32) (sym (dump_right d)) (join 32 (told (codes "DUMP ") d.number) (after_number d) (told_from (codes "DUMP ") d.number (from_test 32 (codes "DUMP ") refl) is.number) number))

file_one : (f : SealedFile) → IsFileEntry f → All (λ b. b ≢ 10) (file_line f)
file_one f is =
    let sum : AreFrom 32 (after_sum f) = join 32 (online_text f.online) (taped_text f.tape) (online_from f.online) (taped_from f.tape is.tape) in
    let stamp : AreFrom 32 (after_stamp f) = join 32 (sum_text f.sum) (after_sum f) (sum_from f.sum is.sum) sum in
    let len : AreFrom 32 (after_len f) = join 32 (told (codes " STAMP ") f.stamp) (after_stamp f) (told_from (codes " STAMP ") f.stamp (from_test 32 (codes " STAMP ") refl) is.stamp) stamp in
    let name : AreFrom 32 (after_name f) = join 32 (told (codes " LENGTH ") f.len) (after_len f) (told_from (codes " LENGTH ") f.len (from_test 32 (codes " LENGTH ") refl) (wide f.len is.len)) len in
    none_of 10 32 (file_line f) (omega arith)
    (subst (AreFrom 32) (sym (file_right f)) (join 32 (codes "FILE ") (full_text f.full ++ after_name f) (from_test 32 (codes "FILE ") refl) (join 32 (full_text f.full) (after_name f) (from_less 32 40 (full_text f.full) (omega arith) (from_full f.full is.full)) name)))

all_map : {X : Type 0} (P : X → Type 0) (line : X → List ℕ) (xs : List X) → ((x : X) → P x → All (λ b. b ≢ 10) (line x)) → All P xs → All (λ l. All (λ b. b ≢ 10) l) (map line xs)
all_map P line xs one all = All-map (λ (l : List ℕ). All (λ b. b ≢ 10) l) line xs (λ k d within. one _ (all k d within))

pub front_lines : (dumps : List SealedDump) (files : List SealedFile) → text_of (sealed_lines dumps files) ≡ front_text dumps files
front_lines dumps files = flat_map-append ended (map dump_line dumps) (map file_line files)

-- THE LINES of a seal's text
pub lines_are : (dumps : List SealedDump) (files : List SealedFile) → AreEntries dumps files → lines_of (front_text dumps files) ≡ sealed_lines dumps files
lines_are dumps files is =
    ap lines_of (sym (front_lines dumps files))
    ∙ text-lines (sealed_lines dumps files) (All-append (λ (l : List ℕ). All (λ b. b ≢ 10) l) (map dump_line dumps) (map file_line files) (all_map IsDumpEntry dump_line dumps dump_one is.each_dump) (all_map IsFileEntry file_line files file_one is.each_file))

first_list : (xs ys : List ℕ) (more rest : List (List ℕ)) → xs ∷ more ≡ ys ∷ rest → xs ≡ ys
first_list xs ys more rest is = ap (λ (l : List (List ℕ)). get_or l 0 []) is

rest_list : (xs ys : List ℕ) (more rest : List (List ℕ)) → xs ∷ more ≡ ys ∷ rest → more ≡ rest
rest_list xs ys more rest is = ap (λ (l : List (List ℕ)). drop 1 l) is

no_list : (xs : List ℕ) (more : List (List ℕ)) → [] ≡ xs ∷ more → ⊥
no_list xs more is = let same = ap (λ (l : List (List ℕ)). length l) is in omega (arith, same)

not_both : (d : SealedDump) (f : SealedFile) → dump_line d ≡ file_line f → ⊥
not_both d f is = let same : 68 ≡ 70 = ap (λ (l : List ℕ). get_or l 0 0) is in omega (arith, same)

files_are : (fs gs : List SealedFile) → All IsFileEntry fs → All IsFileEntry gs → map file_line fs ≡ map file_line gs → fs ≡ gs
files_are [] [] p q is = refl
files_are [] (g ∷ gs) p q is = absurd (no_list _ _ is)
files_are (f ∷ fs) [] p q is = absurd (no_list _ _ (sym is))
files_are (f ∷ fs) (g ∷ gs) p q is =
    let one = file_is f g (All-head IsFileEntry f fs p) (All-head IsFileEntry g gs q) (first_list _ _ _ _ is) in
    let more = files_are fs gs (All-tail IsFileEntry f fs p) (All-tail IsFileEntry g gs q) (rest_list _ _ _ _ is) in
    λ i. one i ∷ more i

entries_are : (ds es : List SealedDump) (fs gs : List SealedFile) → AreEntries ds fs → AreEntries es gs → sealed_lines ds fs ≡ sealed_lines es gs → (ds ≡ es) × (fs ≡ gs)
entries_are [] [] fs gs p q is = (refl, files_are fs gs p.each_file q.each_file is)
entries_are [] (e ∷ es) [] gs p q is = absurd (no_list _ _ is)
entries_are [] (e ∷ es) (f ∷ fs) gs p q is = absurd (not_both e f (sym (first_list _ _ _ _ is)))
entries_are (d ∷ ds) [] fs [] p q is = absurd (no_list _ _ (sym is))
entries_are (d ∷ ds) [] fs (g ∷ gs) p q is = absurd (not_both d g (first_list _ _ _ _ is))
entries_are (d ∷ ds) (e ∷ es) fs gs p q is =
    let one = dump_is d e (All-head IsDumpEntry d ds p.each_dump) (All-head IsDumpEntry e es q.each_dump) (first_list _ _ _ _ is) in
    let more = entries_are ds es fs gs (record { each_dump = All-tail IsDumpEntry d ds p.each_dump; each_file = p.each_file }) (record { each_dump = All-tail IsDumpEntry e es q.each_dump; each_file = q.each_file }) (rest_list _ _ _ _ is) in
    ((λ i. one i ∷ more.0 i), more.1)

-- THE LAST LINE has 70 bytes
pub last_long : (digits : List ℕ) → length digits ≡ 64 → length (ended (codes "SEAL " ++ digits)) ≡ 70
last_long digits long =
    let all = length-append (codes "SEAL " ++ digits) (10 ∷ []) in
    let words = length-append (codes "SEAL ") digits in
    omega (arith, all, words, long)

sum_long : (text : List ℕ) → length (encode_lower (sha256 text)) ≡ 64
sum_long text = let twice = length-encode_with lower_digits (sha256 text) in let long = length-sha256 text in omega (arith, twice, long)

pub front_same : (xs ys s t : List ℕ) → length s ≡ length t → xs ++ s ≡ ys ++ t → xs ≡ ys
front_same xs ys s t long is =
    let all = ap (λ (l : List ℕ). length l) is in
    let one = length-append xs s in
    let two = length-append ys t in
    let same : length xs ≡ length ys = omega (arith, all, one, two, long) in
    sym (take-append_seam xs s) ∙ ap (λ (k : ℕ). take k (xs ++ s)) same ∙ ap (λ (l : List ℕ). take (length ys) l) is ∙ take-append_seam ys t

pub text_is_one : TextIsOne
text_is_one dumps others files more p q is =
    let long : length (ended (seal_line (front_text dumps files))) ≡ length (ended (seal_line (front_text others more))) = last_long _ (sum_long (front_text dumps files)) ∙ sym (last_long _ (sum_long (front_text others more))) in
    let front = front_same (front_text dumps files) (front_text others more) _ _ long is in
    entries_are dumps others files more p q (sym (lines_are dumps files p) ∙ ap lines_of front ∙ lines_are others more q)

-- THE FIRST LINES of a seal are known too
one_more : (d : SealedDump) (ds : List SealedDump) (fs : List SealedFile) → IsDumpEntry d → AreEntries ds fs → AreEntries (d ∷ ds) fs
one_more d ds fs one is = record { each_dump = All-cons IsDumpEntry d ds one is.each_dump; each_file = is.each_file }

pub known_take : (k : ℕ) (dumps : List SealedDump) (files : List SealedFile) → AreEntries dumps files → AreKnown (take k (sealed_lines dumps files))
known_take k [] files is = ([], take k files, record { each_dump = is.each_dump; each_file = All-take IsFileEntry k files is.each_file }, take-map file_line k files)
known_take zero (d ∷ dumps) files is = ([], [], record { each_dump = All-nil IsDumpEntry; each_file = All-nil IsFileEntry }, refl)
known_take (suc k) (d ∷ dumps) files is =
    let rest : AreEntries dumps files = record { each_dump = All-tail IsDumpEntry d dumps is.each_dump; each_file = is.each_file } in
    let more = known_take k dumps files rest in
    (d ∷ more.0, more.1, one_more d more.0 more.1 (All-head IsDumpEntry d dumps is.each_dump) more.2, ap (λ (ls : List (List ℕ)). dump_line d ∷ ls) more.3)

-- A SEAL'S TEXT ISN'T REFUSED
module _ (dumps : List SealedDump) (files : List SealedFile) (is : AreEntries dumps files) where
  abbrev front : List ℕ
  front = front_text dumps files

  whole : IsWhole front
  whole = ap text_of (lines_are dumps files is) ∙ front_lines dumps files

  ends : EndsWithSum (sealed_text dumps files) front (encode_lower (sha256 front))
  ends = record { whole = whole; long = sum_long front; text_is = refl }

  only_front : (f digits : List ℕ) → EndsWithSum (sealed_text dumps files) f digits → front ≡ f
  only_front f digits other = front_same front f _ _ (last_long _ (sum_long front) ∙ sym (last_long digits other.long)) other.text_is

  only_sum : (f digits : List ℕ) → EndsWithSum (sealed_text dumps files) f digits → digits ≡ encode_lower (sha256 f)
  only_sum f digits other =
      let same : front ≡ f = only_front f digits other in
      let last : f ++ ended (seal_line f) ≡ f ++ ended (codes "SEAL " ++ digits) = ap (λ (g : List ℕ). g ++ ended (seal_line g)) (sym same) ∙ other.text_is in
      sym (append_cancel_left (codes "SEAL ") _ _ (append_cancel_right _ _ (10 ∷ []) (append_cancel_left f _ _ last)))

  not_refused : (e : SealFault) → IsRefused e (sealed_text dumps files) → e ≡ refusal.NoMemory
  not_refused refusal.NotEnded why = absurd (why (front ++ seal_line front) (sym (append_assoc front (seal_line front) (10 ∷ []))))
  not_refused refusal.WithoutSum why = absurd (why.1 front (encode_lower (sha256 front)) ends)
  not_refused refusal.OtherSum why = absurd (why.3 (only_sum why.0 why.1 why.2))
  not_refused (refusal.Line k) why =
      let same : lines_of why.0 ≡ sealed_lines dumps files = ap lines_of (sym (only_front why.0 _ why.1)) ∙ lines_are dumps files is in
      absurd (why.2.unknown (subst (λ (ls : List (List ℕ)). AreKnown (take k ls)) (sym same) (known_take k dumps files is)))
  not_refused refusal.NoMemory why = refl

pub accepted : (result : Result Seal SealFault) (text : List ℕ) (dumps : List SealedDump) (files : List SealedFile) → IfOk result (λ s. text ≡ sealed_text s.dumps.items s.files.items) → IfOk result (λ s. AreEntries s.dumps.items s.files.items)
    → IfErr result (λ e. IsRefused e text) → AreEntries dumps files → text ≡ sealed_text dumps files → MatchResult result (λ s. (s.dumps.items ≡ dumps) × (s.files.items ≡ files)) (λ e. e ≡ refusal.NoMemory)
accepted (Ok s) text dumps files read entries refused is text_is = text_is_one s.dumps.items dumps s.files.items files entries is (sym read ∙ text_is)
accepted (Err e) text dumps files read entries refused is text_is = not_refused dumps files is e (subst (IsRefused e) text_is refused)

-- THE LAST of some lines
all_last : {X : Type 0} (P : X → Type 0) (xs : List X) (x : X) → All P (xs ++ x ∷ []) → P x
all_last P [] x all = All-head P x [] all
all_last P (y ∷ ys) x all = all_last P ys x (All-tail P y (ys ++ x ∷ []) all)

abbrev IsFileLine : List ℕ → Type 0
IsFileLine line = (f : SealedFile) × IsFileEntry f × (line ≡ file_line f)

abbrev IsDumpLine : List ℕ → Type 0
IsDumpLine line = (d : SealedDump) × IsDumpEntry d × (line ≡ dump_line d)

file_lines_all : (files : List SealedFile) → All IsFileEntry files → All IsFileLine (map file_line files)
file_lines_all files all = All-map IsFileLine file_line files (λ k d within. (_, all k d within, refl))

either_all : (dumps : List SealedDump) (files : List SealedFile) → AreEntries dumps files → All (λ l. IsDumpLine l ⊎ IsFileLine l) (sealed_lines dumps files)
either_all dumps files is =
    All-append (λ l. IsDumpLine l ⊎ IsFileLine l) (map dump_line dumps) (map file_line files)
    (All-map (λ l. IsDumpLine l ⊎ IsFileLine l) dump_line dumps (λ k d within. inl (_, is.each_dump k d within, refl)))
    (All-map (λ l. IsDumpLine l ⊎ IsFileLine l) file_line files (λ k d within. inr (_, is.each_file k d within, refl)))

-- a line that is neither a dump's nor a file's
pub neither : (done : List (List ℕ)) (line : List ℕ) → ((d : SealedDump) → IsDumpEntry d → line ≢ dump_line d) → ((f : SealedFile) → IsFileEntry f → line ≢ file_line f) → AreKnown (done ++ line ∷ []) → ⊥
neither done line no_dump no_file known =
    elim (all_last (λ l. IsDumpLine l ⊎ IsFileLine l) done line (subst (λ ls. All (λ l. IsDumpLine l ⊎ IsFileLine l) ls) (sym known.3) (either_all known.0 known.1 known.2))) [
      | inl d ↦ no_dump d.0 d.1 d.2
      | inr f ↦ no_file f.0 f.1 f.2
    ]

-- a line that follows a file's, and isn't a file's
not_file : (dumps others : List SealedDump) (file : SealedFile) (files more : List SealedFile) (line : List ℕ) → AreEntries others more → ((f : SealedFile) → IsFileEntry f → line ≢ file_line f)
    → sealed_lines dumps (file ∷ files) ++ line ∷ [] ≡ sealed_lines others more → ⊥
not_file [] [] file files more line is no_file same =
    let last = all_last IsFileLine (map file_line (file ∷ files)) line (subst (λ ls. All IsFileLine ls) (sym same) (file_lines_all more is.each_file)) in
    no_file last.0 last.1 last.2
not_file [] (e ∷ others) file files more line is no_file same = not_both e file (sym (first_list _ _ _ _ same))
not_file (d ∷ dumps) [] file files [] line is no_file same = no_list _ _ (sym same)
not_file (d ∷ dumps) [] file files (g ∷ more) line is no_file same = not_both d g (first_list _ _ _ _ same)
not_file (d ∷ dumps) (e ∷ others) file files more line is no_file same =
    not_file dumps others file files more line (record { each_dump = All-tail IsDumpEntry e others is.each_dump; each_file = is.each_file }) no_file (rest_list _ _ _ _ same)

pub behind_file : (dumps : List SealedDump) (files : List SealedFile) (line : List ℕ) → 0 < length files → ((f : SealedFile) → IsFileEntry f → line ≢ file_line f) → AreKnown (sealed_lines dumps files ++ line ∷ []) → ⊥
behind_file dumps [] line some no_file known = omega (arith, some)
behind_file dumps (file ∷ files) line some no_file known = not_file dumps known.0 file files known.1 line known.2 no_file known.3

-- THE FIRST UNKNOWN LINE
pub unknown_at : (lines rest : List (List ℕ)) (line : List ℕ) (k : ℕ) (dumps : List SealedDump) (files : List SealedFile) → lines ≡ sealed_lines dumps files ++ line ∷ rest → AreEntries dumps files
    → k ≡ length (sealed_lines dumps files) + 1 → (AreKnown (sealed_lines dumps files ++ line ∷ []) → ⊥) → IsFirstUnknown lines k
unknown_at lines rest line k dumps files are is k_is unknown =
    let done : List (List ℕ) = sealed_lines dumps files in
    let long = length-append done (line ∷ rest) in
    let all = ap (λ (ls : List (List ℕ)). length ls) are in
    let before : k - 1 ≡ length done = omega (arith, k_is) in
    let first : take (k - 1) lines ≡ done = ap (λ (n : ℕ). take n lines) before ∙ ap (λ (ls : List (List ℕ)). take (length done) ls) are ∙ take-append_seam done (line ∷ rest) in
    let to : k ≡ length (done ++ line ∷ []) = let n = length-append done (line ∷ []) in omega (arith, k_is, n) in
    let upto : take k lines ≡ done ++ line ∷ [] =
    ap (λ (n : ℕ). take n lines) to ∙ ap (λ (ls : List (List ℕ)). take (length (done ++ line ∷ [])) ls) (are ∙ sym (append_assoc done (line ∷ []) rest)) ∙ take-append_seam (done ++ line ∷ []) rest in
    record {
      from = omega (arith, k_is);
      to = omega (arith, k_is, long, all);
      known = (dumps, files, is, first);
      unknown = λ known. unknown (subst AreKnown upto known);
    }

-- the lines that were parsed, and those that are left
pub record HasParsed (lines rest : List (List ℕ)) (dumps : List SealedDump) (files : List SealedFile) (count : ℕ) : Type 0 where
  pub lines_are : lines ≡ sealed_lines dumps files ++ rest
  pub entries : AreEntries dumps files
  pub counted : count ≡ length (sealed_lines dumps files)

-- A LINE MORE
pub added_file : (dumps : List SealedDump) (files : List SealedFile) (file : SealedFile) (new : List SealedFile) (found : Option SealedFile) → AreEntries dumps files → found ≡ Some file → IfSome found IsFileEntry → new ≡ files ++ file ∷ [] → AreEntries dumps new
added_file dumps files file new found is some entry added =
    let one : IsFileEntry file = subst (λ (o : Option SealedFile). IfSome o IsFileEntry) some entry in
    record { each_dump = is.each_dump; each_file = subst (λ (fs : List SealedFile). All IsFileEntry fs) (sym added) (All-append IsFileEntry files (file ∷ []) is.each_file (All-cons IsFileEntry file [] one (All-nil IsFileEntry))) }

pub when_none : {X : Type 0} (found : Option X) (P : Type 0) → found ≡ None → IfNone found P → P
when_none {X} found P none is = subst (λ (o : Option X). IfNone o P) none is

pub some_of : (empty : Bool) (n : ℕ) → empty ≡ (n == 0) → empty ≡ false → 0 < n
some_of empty n is some = let other = eqb-false n 0 (sym is ∙ some) in omega (arith, other)

pub counted_one : (front : List ℕ) (rest : List (List ℕ)) (line : List ℕ) (done : List (List ℕ)) (count next : ℕ) → lines_of front ≡ done ++ line ∷ rest → count ≡ length done → length front < 2 ^ 64 → next ≡ min (count + 1) 18446744073709551615
    → next ≡ length done + 1
counted_one front rest line done count next are counted short next_is =
    let few = lines_few front in
    let all = ap (λ (ls : List (List ℕ)). length ls) are in
    let long = length-append done (line ∷ rest) in
    omega (arith, few, all, long, counted, short, next_is)
