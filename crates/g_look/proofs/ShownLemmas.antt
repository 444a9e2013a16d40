-- The lines printed for the dumps and the directory in memory are those of the dumps and of the disc.
-- serves: check_text, count_on, file_text, push_dirs, push_disc, push_named, push_rack, push_reel, used_blocks
use Rattle.std.proofs.Common.{◌≡◌, ℕ, zero, suc, ◌+◌, ◌-◌, ◌*◌, ◌<◌, ◌≤◌, Bool, true, false, cond, ◌&&◌, ◌||◌, List, [], ◌∷◌, ◌++◌, length, map, filter, take, Option, Some, None, Result, Ok, Err, refl, sym, ◌∙◌, ap, arith, subst, All}
use Rattle.std.specs.Prelude.{◌==◌, Contains, codes, get_or, nat_le, slice_get, OnOk}
use Rattle.std.specs.List.{flat_map, list_any}
use Rattle.std.proofs.lemmas.Bool.{cond-true, le-leb}
use Rattle.std.proofs.lemmas.List.{append-nil, append_assoc, length-append, length-map, map-append, take_more}
use Rattle.std.proofs.lemmas.Grind.{flat_map-append}
use Rattle.std.proofs.lemmas.List.Elements.{filter-append}
use Rattle.g_base.specs.declared.memory.NoMemory.{NoMemory}
use Rattle.g_copy.specs.declared.copy.DiscCopy.{DiscCopy}
use Rattle.g_entry.specs.declared.file_rec.FileRec.{FileRec}
use Rattle.g_entry.specs.declared.format.Format.{Format}
use Rattle.g_entry.specs.declared.head.Intent.{Intent}
use Rattle.g_entry.specs.Formats.{format_number}
use Rattle.g_slots.specs.declared.side.Side.{Side}
use Rattle.g_dirs.specs.declared.dirs.Dirs.{Dirs}
use Rattle.g_dirs.specs.Directory.{FileEntry, copy_at, places_of}
use Rattle.g_tape.specs.Rack.{Rack}
use Rattle.g_tape.specs.Reads.{unread}
use Rattle.g_tape.specs.Reel.{Reel}
use Rattle.g_tree.proofs.ListLemmas.{contains_first, contains_more}
use Rattle.g_incr.specs.Layout.{Dump, count_of}
use Rattle.g_lines.specs.Lines.{ended, text_of}
use Rattle.g_monitor.specs.Parts.{modes_text, shown_mode}
use Rattle.g_trap.specs.declared.mode_set.Mode.TheVariants.{Read, Write, Append, Execute, Erase}
use Rattle.g_shelf.specs.CompletedDumps.{all_dumps, end_of}
use Rattle.g_store_meaning.specs.Meaning.{told_reels}
use Rattle.g_store_meaning.proofs.OneLemmas.{is_shelved}
use Rattle.g_restore.specs.declared.dumps.Found.{Found}
use Rattle.g_restore.specs.KnownDumps.{AreKnown, Known, known, known_of}
use Rattle.g_look.specs.Heads.{EndsLow, end_upto}
use Rattle.g_look.specs.SeenDumps.{IsSeen}
use Rattle.g_look.specs.MemoryLines.{copy_blocks, count_on, counts_text, dirs_text, known_line, lines_on, names_found, on_reel, state_text, tape_text, used_by}
use Rattle.g_look.specs.Standing.{directory_in, found_in}
use Rattle.g_look.specs.Text.{disc_front, disc_lines, dump_line, holder_text, intent_lines, is_there, rack_lines, reel_lines, tape_line, told}
use Rattle.g_look.proofs.PushLemmas.{then_more}
use Rattle.g_look.proofs.HeadLemmas.{end_is, is_on, low_ends, seen_on, up_to}

-- A DUMP
line_is : (d : Dump) → known_line (known_of d) ≡ dump_line d
line_is d =
    let same : count_of d - (length d.users + length d.files) ≡ length d.content = omega arith in
    ap (λ (n : ℕ).
    told (codes "DUMP ") d.number ++ told (codes " TAPE ") d.serial ++ told (codes " AT ") d.place ++ told (codes " BLOCKS ") (count_of d + 2)
    ++ told (codes " USERS ") (length d.users) ++ told (codes " FILES ") (length d.files) ++ told (codes " CONTENT ") n
    ++ told (codes " NEXT ") d.next ++ codes " HOLDS" ++ flat_map (holder_text d.users) d.held) same

lines_are : (ds : List Dump) → map known_line (map known_of ds) ≡ map dump_line ds
lines_are [] = refl
lines_are (d ∷ ds) = ap (λ (l : List ℕ). l ∷ map known_line (map known_of ds)) (line_is d) ∙ ap (λ (ls : List (List ℕ)). dump_line d ∷ ls) (lines_are ds)

kept_known : (serial : ℕ) (ds : List Dump) → on_reel serial (map known_of ds) ≡ map known_of (filter (is_on serial) ds)
kept_known serial [] = refl
kept_known serial (d ∷ ds) = by_test (d.serial == serial) (on_reel serial (map known_of ds)) (filter (is_on serial) ds) (kept_known serial ds)
  where
    by_test : (b : Bool) (ks : List Known) (es : List Dump) → ks ≡ map known_of es → cond b (known_of d ∷ ks) ks ≡ map known_of (cond b (d ∷ es) es)
    by_test true ks es is = ap (λ (xs : List Known). known_of d ∷ xs) is
    by_test false ks es is = is

module _ (reels : List Reel) (shelf : ℕ → List Dump) (found : List Found) (seen : IsSeen reels shelf found) (r : Reel) (there : Contains reels r) where
  known_there : on_reel r.serial (map known found) ≡ map known_of (shelf r.serial)
  known_there = ap (on_reel r.serial) seen.known.same ∙ kept_known r.serial (all_dumps shelf reels) ∙ ap (map known_of) (seen_on reels shelf found seen r there)

  lines_there : lines_on r.serial found ≡ map dump_line (shelf r.serial)
  lines_there = ap (map known_line) known_there ∙ lines_are (shelf r.serial)

  count_there : count_on r.serial found ≡ length (shelf r.serial)
  count_there = ap length known_there ∙ length-map (shelf r.serial) known_of

  all_upto : (ds : List Dump) → ((d : Dump) → Contains ds d → d.number ≤ 18446744073709551615) → filter (up_to 18446744073709551615) ds ≡ ds
  all_upto [] low = refl
  all_upto (d ∷ ds) low =
      cond-true (nat_le d.number 18446744073709551615) (d ∷ filter (up_to 18446744073709551615) ds) (filter (up_to 18446744073709551615) ds)
      (le-leb d.number 18446744073709551615 (low d (contains_first d ds)))
      ∙ ap (λ (es : List Dump). d ∷ es) (all_upto ds (λ e in_ds. low e (contains_more d e ds in_ds)))

  low_number : (d : Dump) → Contains (shelf r.serial) d → d.number ≤ 18446744073709551615
  low_number d on =
      let is = (is_shelved shelf reels seen.told seen.shelved d r there on).1 in
      let low = is.number in
      omega (arith, low)

  end_there : end_upto r.serial 18446744073709551615 0 found ≡ end_of (shelf r.serial)
  end_there = end_is reels shelf found seen r there 18446744073709551615 ∙ ap end_of (all_upto (shelf r.serial) low_number)

  -- A REEL AND ITS DUMPS
  pub reel_shown : (old mid new : List ℕ) (capacity len count end : ℕ) → capacity ≡ r.capacity → len ≡ r.len → count ≡ count_on r.serial found
      → (All EndsLow found → end ≡ end_upto r.serial 18446744073709551615 0 found)
      → mid ≡ old ++ ended (tape_text r.serial capacity len count end) → new ≡ mid ++ text_of (lines_on r.serial found) → new ≡ old ++ text_of (reel_lines shelf r)
  reel_shown old mid new capacity len count end is_capacity is_len is_count is_end first rest =
      rest ∙ ap (λ (xs : List ℕ). xs ++ text_of (lines_on r.serial found)) first
      ∙ append_assoc old (ended (tape_text r.serial capacity len count end)) (text_of (lines_on r.serial found))
      ∙ ap (λ (xs : List ℕ). old ++ (xs ++ text_of (lines_on r.serial found))) line
      ∙ ap (λ (ls : List (List ℕ)). old ++ (ended (tape_line r (shelf r.serial)) ++ text_of ls)) lines_there
    where
      line : ended (tape_text r.serial capacity len count end) ≡ ended (tape_line r (shelf r.serial))
      line =
          ap (λ (n : ℕ). ended (tape_text r.serial n len count end)) is_capacity
          ∙ ap (λ (n : ℕ). ended (tape_text r.serial r.capacity n count end)) is_len
          ∙ ap (λ (n : ℕ). ended (tape_text r.serial r.capacity r.len n end)) (is_count ∙ count_there)
          ∙ ap (λ (n : ℕ). ended (tape_text r.serial r.capacity r.len (length (shelf r.serial)) n)) (is_end (low_ends reels shelf found seen) ∙ end_there)

pub reel_shown_at : (reels : List Reel) (found : List Found) (serial : ℕ) (result : Result (Unit {0}) NoMemory) (old mid new : List ℕ) (capacity len count end : ℕ)
    → ((r : Reel) → Contains reels r → r.serial ≡ serial → capacity ≡ r.capacity) → ((r : Reel) → Contains reels r → r.serial ≡ serial → len ≡ r.len) → count ≡ count_on serial found
    → (All EndsLow found → end ≡ end_upto serial 18446744073709551615 0 found) → mid ≡ old ++ ended (tape_text serial capacity len count end) → OnOk result (new ≡ mid ++ text_of (lines_on serial found))
    → OnOk result ((shelf : ℕ → List Dump) → IsSeen reels shelf found → (r : Reel) → Contains reels r → r.serial ≡ serial → new ≡ old ++ text_of (reel_lines shelf r))
reel_shown_at reels found serial (Err e) old mid new capacity len count end is_capacity is_len is_count is_end first rest = tt
reel_shown_at reels found serial (Ok u) old mid new capacity len count end is_capacity is_len is_count is_end first rest = λ shelf seen r there on.
    reel_shown reels shelf found seen r there old mid new capacity len count end (is_capacity r there on) (is_len r there on)
    (subst (λ (n : ℕ). count ≡ count_on n found) (sym on) is_count)
    (subst (λ (n : ℕ). All EndsLow found → end ≡ end_upto n 18446744073709551615 0 found) (sym on) is_end)
    (subst (λ (n : ℕ). mid ≡ old ++ ended (tape_text n capacity len count end)) (sym on) first)
    (subst (λ (n : ℕ). new ≡ mid ++ text_of (lines_on n found)) (sym on) rest)

-- the serial of a place
nth_reel : (rs : List Reel) (i serial : ℕ) → slice_get (map (λ r. r.serial) rs) i ≡ Some serial → (r : Reel) × (i < length (map unread rs)) × (get_or (map unread rs) i r ≡ r) × (r.serial ≡ serial)
nth_reel [] i serial is = absurd (none_there i is)
  where
    none_there : (j : ℕ) → slice_get [] j ≡ Some serial → ⊥
    none_there j is = let no : ⊥ = cc in no
nth_reel (q ∷ qs) zero serial is = (unread q, omega arith, refl, same)
  where
    same : q.serial ≡ serial
    same = let both : Some q.serial ≡ Some serial = is in cc
nth_reel (q ∷ qs) (suc i) serial is =
    let (r, within, at, on) = nth_reel qs i serial is in
    (r, omega (arith, within), at, on)

-- THE REELS SO FAR
pub rack_step : (shelf : ℕ → List Dump) (rack : Rack) (i serial : ℕ) (old text new : List ℕ) → slice_get (map (λ r. r.serial) rack.reels) i ≡ Some serial
    → text ≡ old ++ text_of (rack_lines shelf (take i (told_reels rack)))
    → ((r : Reel) → Contains (told_reels rack) r → r.serial ≡ serial → new ≡ text ++ text_of (reel_lines shelf r))
    → new ≡ old ++ text_of (rack_lines shelf (take (i + 1) (told_reels rack)))
rack_step shelf rack i serial old text new named so is =
    let (r, within, at, on) = nth_reel rack.reels i serial named in
    let before : List Reel = take i (told_reels rack) in
    is r (i, within, at) on ∙ ap (λ (xs : List ℕ). xs ++ text_of (reel_lines shelf r)) so
    ∙ append_assoc old (text_of (rack_lines shelf before)) (text_of (reel_lines shelf r))
    ∙ ap (λ (xs : List ℕ). old ++ xs)
    (sym (flat_map-append ended (rack_lines shelf before) (reel_lines shelf r))
    ∙ ap text_of (ap (λ (ls : List (List ℕ)). rack_lines shelf before ++ ls) (sym (append-nil (reel_lines shelf r)))
    ∙ sym (flat_map-append (reel_lines shelf) before (r ∷ []))
    ∙ ap (rack_lines shelf) (ap (λ (x : Reel). before ++ x ∷ []) (sym at) ∙ sym (take_more (told_reels rack) i r within))))

-- THE INTENT
names_known : Intent → Known → Bool
names_known i k = (k.note.number == i.number) && ((k.serial == i.serial) && (k.note.place == i.place))

any_found : (i : Intent) (found : List Found) → list_any (names_found i) found ≡ list_any (names_known i) (map known found)
unfolding names_known
any_found i [] = refl
any_found i (f ∷ fs) = ap (λ (b : Bool). names_found i f || b) (any_found i fs)

any_dump : (i : Intent) (ds : List Dump) → list_any (names_known i) (map known_of ds) ≡ is_there ds i
unfolding names_known
any_dump i [] = refl
any_dump i (d ∷ ds) = ap (λ (b : Bool). names_known i (known_of d) || b) (any_dump i ds)

pub intent_there : (i : Intent) (found : List Found) (dumps : List Dump) → AreKnown found dumps → list_any (names_found i) found ≡ is_there dumps i
intent_there i found dumps are = any_found i found ∙ ap (list_any (names_known i)) are.same ∙ any_dump i dumps

-- THE BLOCKS OF FILES
pub used_step : (files : List FileRec) (online : List (ℕ × DiscCopy)) (i : ℕ) (r : FileRec) → i < length files → r ≡ get_or files i r
    → used_by (take (i + 1) files) online ≡ used_by (take i files) online + length (copy_blocks (copy_at online r.number))
used_step files online i r inside at =
    ap (λ (fs : List FileRec). used_by fs online) (take_more files i r inside ∙ ap (λ (x : FileRec). take i files ++ x ∷ []) (sym at))
    ∙ used_two (take i files) r
  where
    blocks_of : (q : FileRec) (o : Option DiscCopy) → places_of (q, o) ≡ copy_blocks o
    blocks_of q None = refl
    blocks_of q (Some copy) = refl

    used_two : (fs : List FileRec) (s : FileRec) → used_by (fs ++ s ∷ []) online ≡ used_by fs online + length (copy_blocks (copy_at online s.number))
    used_two fs s =
        let g : FileRec → FileEntry = λ (q : FileRec). (q, copy_at online q.number) in
        ap length (ap (flat_map places_of) (map-append g fs (s ∷ [])) ∙ flat_map-append places_of (map g fs) (g s ∷ []))
        ∙ length-append (flat_map places_of (map g fs)) (places_of (g s) ++ [])
        ∙ ap (λ (n : ℕ). used_by fs online + n) (ap length (append-nil (places_of (g s)) ∙ blocks_of s (copy_at online s.number)))

-- THE INTENT'S LINE
pub intent_shown : (dumps : List Dump) (i : Intent) (there : Bool) (old one two three four : List ℕ) → one ≡ old ++ told (codes "INTENT DUMP ") i.number → two ≡ one ++ told (codes " TAPE ") i.serial
    → three ≡ two ++ told (codes " AT ") i.place → there ≡ is_there dumps i → four ≡ three ++ ended (state_text there) → four ≡ old ++ text_of (intent_lines dumps (Some i))
intent_shown dumps i there old one two three four is_one is_two is_three is_there_is is_four =
    let front : List ℕ = told (codes "INTENT DUMP ") i.number ++ told (codes " TAPE ") i.serial ++ told (codes " AT ") i.place in
    let so : three ≡ old ++ front =
    then_more old (told (codes "INTENT DUMP ") i.number ++ told (codes " TAPE ") i.serial) (told (codes " AT ") i.place) two three
    (then_more old (told (codes "INTENT DUMP ") i.number) (told (codes " TAPE ") i.serial) one two is_one is_two) is_three in
    then_more old front (ended (state_text there)) three four so is_four
    ∙ ap (λ (b : Bool). old ++ (front ++ ended (state_text b))) is_there_is
    ∙ ap (λ (xs : List ℕ). old ++ xs) (sym (append_assoc front (state_text (is_there dumps i)) (10 ∷ [])) ∙ sym (append-nil (ended (front ++ state_text (is_there dumps i)))))

-- THE DIRECTORY after the beginning of the first line
pub dirs_shown : (size : ℕ) (format : Format) (dumps : List Dump) (dirs : Dirs) (old one two three four : List ℕ) → one ≡ old ++ ended (told (codes " FORMAT ") (format_number format))
    → two ≡ one ++ counts_text size dirs → three ≡ two ++ ended (told (codes "LAST DUMP ") dirs.head.last_dump) → four ≡ three ++ text_of (intent_lines dumps dirs.head.intent)
    → four ≡ old ++ dirs_text size format dumps dirs
dirs_shown size format dumps dirs old one two three four is_one is_two is_three is_four =
    then_more old (ended (told (codes " FORMAT ") (format_number format)) ++ counts_text size dirs ++ ended (told (codes "LAST DUMP ") dirs.head.last_dump)) (text_of (intent_lines dumps dirs.head.intent)) three four
    (then_more old (ended (told (codes " FORMAT ") (format_number format)) ++ counts_text size dirs) (ended (told (codes "LAST DUMP ") dirs.head.last_dump)) two three
    (then_more old (ended (told (codes " FORMAT ") (format_number format))) (counts_text size dirs) one two is_one is_two) is_three) is_four

-- THE DISC
shuffled : (front words counts last intent : List ℕ) → front ++ (((ended words ++ counts) ++ last) ++ intent) ≡ ended (front ++ words) ++ (counts ++ (last ++ intent))
shuffled front words counts last intent =
    ap (λ (xs : List ℕ). front ++ xs) (append_assoc (ended words ++ counts) last intent ∙ append_assoc (ended words) counts (last ++ intent))
    ∙ sym (append_assoc front (ended words) (counts ++ (last ++ intent)))
    ∙ ap (λ (xs : List ℕ). xs ++ (counts ++ (last ++ intent))) (sym (append_assoc front words (10 ∷ [])))

disc_shown : (size : ℕ) (side : Side) (format : Format) (dumps : List Dump) (dirs : Dirs)
    → disc_front size side ++ dirs_text size format dumps dirs ≡ text_of (disc_lines size side dumps (Some (format, directory_in dirs)))
disc_shown size side format dumps dirs =
    let front : List ℕ = disc_front size side in
    let words : List ℕ = told (codes " FORMAT ") (format_number format) in
    let last : List ℕ = ended (told (codes "LAST DUMP ") dirs.head.last_dump) in
    let intent : List ℕ = text_of (intent_lines dumps dirs.head.intent) in
    shuffled front words (counts_text size dirs) last intent
    ∙ ap
    (λ (n : ℕ). ended (front ++ words)
    ++ (ended (told (codes "USERS ") (length dirs.users.items) ++ told (codes " FILES ") n ++ told (codes " BLOCKS ") (used_by dirs.files.items dirs.online.items)
    ++ told (codes " FREE ") (size - 2177 - used_by dirs.files.items dirs.online.items) ++ told (codes " NEXT ") dirs.head.next_stamp) ++ (last ++ intent)))
    (sym (length-map dirs.files.items (λ (r : FileRec). (r, copy_at dirs.online.items r.number))))

pub disc_some : (size : ℕ) (side : Side) (format : Format) (dumps : List Dump) (dirs : Dirs) (found : Option (Format × Dirs)) (old mid new : List ℕ) → found ≡ Some (format, dirs)
    → mid ≡ old ++ disc_front size side → new ≡ mid ++ dirs_text size format dumps dirs → new ≡ old ++ text_of (disc_lines size side dumps (found_in found))
disc_some size side format dumps dirs found old mid new some first is =
    then_more old (disc_front size side) (dirs_text size format dumps dirs) mid new first is
    ∙ ap (λ (xs : List ℕ). old ++ xs) (disc_shown size side format dumps dirs)
    ∙ ap (λ (o : Option (Format × Dirs)). old ++ text_of (disc_lines size side dumps (found_in o))) (sym some)

pub disc_none : (size : ℕ) (side : Side) (dumps : List Dump) (found : Option (Format × Dirs)) (old mid new : List ℕ) → found ≡ None → mid ≡ old ++ disc_front size side
    → new ≡ mid ++ codes " NO FILESTORE\n" → new ≡ old ++ text_of (disc_lines size side dumps (found_in found))
disc_none size side dumps found old mid new none first is =
    then_more old (disc_front size side) (codes " NO FILESTORE\n") mid new first is
    ∙ ap (λ (xs : List ℕ). old ++ xs) (sym (append_assoc (disc_front size side) (codes " NO FILESTORE") (10 ∷ [])) ∙ sym (append-nil (ended (disc_front size side ++ codes " NO FILESTORE"))))
    ∙ ap (λ (o : Option (Format × Dirs)). old ++ text_of (disc_lines size side dumps (found_in o))) (sym none)

-- ALL OF IT
pub all_shown : (disc rack : List (List ℕ)) (verdict : List ℕ) (one two three four : List ℕ) → one ≡ text_of disc → two ≡ one ++ text_of rack → three ≡ two ++ verdict → four ≡ three ++ 10 ∷ []
    → four ≡ text_of (disc ++ rack ++ verdict ∷ [])
all_shown disc rack verdict one two three four is_one is_two is_three is_four =
    is_four ∙ ap (λ (xs : List ℕ). xs ++ 10 ∷ []) (is_three ∙ ap (λ (xs : List ℕ). xs ++ verdict) (is_two ∙ ap (λ (xs : List ℕ). xs ++ text_of rack) is_one))
    ∙ append_assoc (text_of disc ++ text_of rack) verdict (10 ∷ [])
    ∙ ap (λ (xs : List ℕ). (text_of disc ++ text_of rack) ++ xs) (sym (append-nil (ended verdict)))
    ∙ ap (λ (xs : List ℕ). xs ++ (ended verdict ++ [])) (sym (flat_map-append ended disc rack))
    ∙ sym (flat_map-append ended (disc ++ rack) (verdict ∷ []))

-- the letters of modes
pub modes_are : (modes : ℕ) → shown_mode modes Read 82 ∷ shown_mode modes Write 87 ∷ shown_mode modes Append 65 ∷ shown_mode modes Execute 88 ∷ shown_mode modes Erase 69 ∷ [] ≡ modes_text modes
unfolding modes_text
modes_are modes = refl

-- the loop over files
pub used_so_far : (files : List FileRec) (online : List (ℕ × DiscCopy)) (i used more now : ℕ) (r : FileRec) → i < length files → r ≡ get_or files i r
    → (used ≡ used_by (take i files) online) × (used ≤ 4294967296 * i) → more ≡ length (copy_blocks (copy_at online r.number)) → more < 4294967296 → now ≡ used + more
    → (now ≡ used_by (take (i + 1) files) online) × (now ≤ 4294967296 * (i + 1))
used_so_far files online i used more now r inside at (is, most) is_more low is_now =
    (is_now ∙ ap (λ (n : ℕ). n + more) is ∙ ap (λ (n : ℕ). used_by (take i files) online + n) is_more ∙ sym (used_step files online i r inside at), omega (arith, most, low, is_now))

-- the loop over dumps
pub count_more : (serial : ℕ) (found : List Found) (i : ℕ) (f : Found) → i < length found → f ≡ get_or found i f → count_on serial (take (i + 1) found) ≡ count_on serial (take i found) + count_on serial (f ∷ [])
count_more serial found i f inside at =
    ap (count_on serial) (take_more found i f inside ∙ ap (λ (x : Found). take i found ++ x ∷ []) (sym at))
    ∙ ap (λ (ks : List Known). length (on_reel serial ks)) (map-append known (take i found) (f ∷ []))
    ∙ ap length (filter-append (λ k. k.serial == serial) (map known (take i found)) (map known (f ∷ [])))
    ∙ length-append (on_reel serial (map known (take i found))) (on_reel serial (map known (f ∷ [])))

pub count_so_far : (serial : ℕ) (found : List Found) (i count more : ℕ) (f : Found) → i < length found → f ≡ get_or found i f → (count ≡ count_on serial (take i found)) × (count ≤ i)
    → more ≡ count_on serial (f ∷ []) → more ≤ 1 → (count + more ≡ count_on serial (take (i + 1) found)) × (count + more ≤ i + 1)
count_so_far serial found i count more f inside at (is, most) is_more low =
    (ap (λ (n : ℕ). n + more) is ∙ ap (λ (n : ℕ). count_on serial (take i found) + n) is_more ∙ sym (count_more serial found i f inside at), omega (arith, most, low))

-- results
pub intent_ok : (found : List Found) (i : Intent) (there : Bool) (result : Result (Unit {0}) NoMemory) (old one two three four : List ℕ) → one ≡ old ++ told (codes "INTENT DUMP ") i.number
    → two ≡ one ++ told (codes " TAPE ") i.serial → three ≡ two ++ told (codes " AT ") i.place → there ≡ list_any (names_found i) found → OnOk result (four ≡ three ++ ended (state_text there))
    → OnOk result ((dumps : List Dump) → AreKnown found dumps → four ≡ old ++ text_of (intent_lines dumps (Some i)))
intent_ok found i there (Err e) old one two three four is_one is_two is_three is is_four = tt
intent_ok found i there (Ok u) old one two three four is_one is_two is_three is is_four = λ dumps are.
    intent_shown dumps i there old one two three four is_one is_two is_three (is ∙ intent_there i found dumps are) is_four

pub dirs_ok : (size : ℕ) (format : Format) (dirs : Dirs) (found : List Found) (result : Result (Unit {0}) NoMemory) (old one two three four : List ℕ)
    → one ≡ old ++ ended (told (codes " FORMAT ") (format_number format)) → two ≡ one ++ counts_text size dirs → three ≡ two ++ ended (told (codes "LAST DUMP ") dirs.head.last_dump)
    → OnOk result ((dumps : List Dump) → AreKnown found dumps → four ≡ three ++ text_of (intent_lines dumps dirs.head.intent))
    → OnOk result ((dumps : List Dump) → AreKnown found dumps → four ≡ old ++ dirs_text size format dumps dirs)
dirs_ok size format dirs found (Err e) old one two three four is_one is_two is_three is_four = tt
dirs_ok size format dirs found (Ok u) old one two three four is_one is_two is_three is_four = λ dumps are. dirs_shown size format dumps dirs old one two three four is_one is_two is_three (is_four dumps are)

pub disc_some_ok : (size : ℕ) (side : Side) (format : Format) (dirs : Dirs) (here : Option (Format × Dirs)) (found : List Found) (result : Result (Unit {0}) NoMemory) (old mid new : List ℕ)
    → here ≡ Some (format, dirs) → mid ≡ old ++ disc_front size side → OnOk result ((dumps : List Dump) → AreKnown found dumps → new ≡ mid ++ dirs_text size format dumps dirs)
    → OnOk result ((dumps : List Dump) → AreKnown found dumps → new ≡ old ++ text_of (disc_lines size side dumps (found_in here)))
disc_some_ok size side format dirs here found (Err e) old mid new some first is = tt
disc_some_ok size side format dirs here found (Ok u) old mid new some first is = λ dumps are. disc_some size side format dumps dirs here old mid new some first (is dumps are)

pub disc_none_ok : (size : ℕ) (side : Side) (here : Option (Format × Dirs)) (found : List Found) (result : Result (Unit {0}) NoMemory) (old mid new : List ℕ)
    → here ≡ None → mid ≡ old ++ disc_front size side → OnOk result (new ≡ mid ++ codes " NO FILESTORE\n")
    → OnOk result ((dumps : List Dump) → AreKnown found dumps → new ≡ old ++ text_of (disc_lines size side dumps (found_in here)))
disc_none_ok size side here found (Err e) old mid new none first is = tt
disc_none_ok size side here found (Ok u) old mid new none first is = λ dumps are. disc_none size side dumps here old mid new none first is
