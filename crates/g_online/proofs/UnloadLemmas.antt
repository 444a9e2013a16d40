-- Files that were taken off the disc are ready to be written.
-- serves: unload, CloseLemmas, NeedLemmas, UnjamLemmas
use Rattle.std.proofs.Common.{◌≡◌, ◌≢◌, ◌⊎◌, ℕ, zero, suc, ◌+◌, ◌-◌, ◌<◌, ◌==◌, ◌||◌, Bool, true, false, not, List, [], ◌∷◌, ◌++◌, length, get_or, map, filter, Option, Some, None, All, AllPairs, refl, sym, ◌∙◌, ap, subst, arith, inl, inr, slice_get, if◌then◌else◌}
use Rattle.std.specs.Prelude.{Contains, is_some, sum_by}
use Rattle.std.specs.List.{flat_map}
use Rattle.std.proofs.lemmas.Bool.{cases_Bool, cases_eq, cond-false, cond-true, eq-eqb, ne_eqb}
use Rattle.std.proofs.lemmas.List.Elements.{All-cons, All-contains, All-filter, All-head, All-map, All-tail, All-weaker}
use Rattle.std.proofs.lemmas.List.Kept.{AllPairs-filter}
use Rattle.std.proofs.lemmas.List.Sums.{sum_by-append}
use Rattle.g_blocks.specs.Pool.{HasGiven, IsTaken}
use Rattle.g_copy.specs.declared.copy.DiscCopy.{DiscCopy}
use Rattle.g_disc.specs.Disc.{DiscState}
use Rattle.g_entry.specs.declared.file_rec.FileRec.{FileRec}
use Rattle.g_entry.specs.declared.head.Head.{Head}
use Rattle.g_entry.specs.declared.format.Format.TheVariants.{Two}
use Rattle.g_slots.specs.declared.side.Side.{Side}
use Rattle.g_dirs.specs.Directory.{AreCopies, Directory, FileEntry, all_places, copy_at, directory_of, entries_of, places_of}
use Rattle.g_dirs.specs.Image.{block_of, entry_at}
use Rattle.g_dirs.specs.Pages.{Covers, KeepsPages, Remembered, Remembers, marked}
use Rattle.g_dirs.proofs.CopyLemmas.{recs-entries}
use Rattle.g_dirs.proofs.PageLemmas.{same_pages_of}
use Rattle.g_disc_contents.specs.Contents.{File, contents_of, file_of, has}
use Rattle.g_disc_contents.specs.Facts.{OnlineFacts}
use Rattle.g_online.specs.declared.change.Change.TheVariants.{Unload}
use Rattle.g_online.specs.declared.pinned.Pinned.{Pinned}
use Rattle.g_online.specs.AllowedChanges.{AreUnjammable, IsAllowed, IsUnjammable}
use Rattle.g_online.specs.Copies.{without_copies}
use Rattle.g_online.specs.Invariant.{AreNoted, IsAgreed, IsFileOf, IsKept, IsPinned, IsPooled, Memory, PinsAre, WaitsFor, WaitsPinned, copy_places, directory_in, facts_of, head_after, is_current, orphans, used_places}
use Rattle.g_online.specs.Unloading.{MarksFiles, places_off}
use Rattle.g_online.proofs.CopiedPlaces.{places_filter}
use Rattle.g_online.proofs.ChangeLemmas.{unload_contents}
use Rattle.g_online.proofs.CopyLemmas.{Copies, copy_at-failing, copy_at-passing}
use Rattle.g_online.proofs.KeepLemmas.{CopyFits}
use Rattle.g_online.proofs.FileLemmas.{number_there}
use Rattle.g_online.proofs.MarkLemmas.{but_head, same_block}
use Rattle.g_online.proofs.OffLemmas.{no_filter}
use Rattle.g_online.proofs.ReadyLemmas.{CoversBut, StillRemembers, allowed_here, allowed_live, make_ready}
use Rattle.g_online.proofs.RecordLemmas.{fits_still, keeps_marked, keeps_then, next_kept, touched_stays}
use Rattle.g_online.proofs.StepLemmas.{IsReady}
use Rattle.g_online.proofs.TieLemmas.{rec_of}
use Rattle.g_online.proofs.UseLemmas.{IsUsed, SameUse, may_give, used_given, used_same}

-- a file whose copy is gone, if it is one of these
abbrev pub off_entry : List ℕ → FileEntry → FileEntry
off_entry numbers e = (e.0, if has numbers e.0.number then None else e.1)

off_copy : (numbers : List ℕ) (online : Copies) (n : ℕ) → copy_at (without_copies numbers online) n ≡ (if has numbers n then None else copy_at online n)
off_copy numbers online n = by_case (cases_Bool (has numbers n))
  where
    by_case : (has numbers n ≡ true) ⊎ (has numbers n ≡ false) → copy_at (without_copies numbers online) n ≡ (if has numbers n then None else copy_at online n)
    by_case (inl is) = copy_at-failing (λ m. not (has numbers m)) online n (ap not is) ∙ sym (cond-true (has numbers n) None (copy_at online n) is)
    by_case (inr is) = copy_at-passing (λ m. not (has numbers m)) online n (ap not is) ∙ sym (cond-false (has numbers n) None (copy_at online n) is)

pub entries_off : (numbers : List ℕ) (files : List FileRec) (online : Copies) → entries_of files (without_copies numbers online) ≡ map (off_entry numbers) (entries_of files online)
entries_off numbers [] online = refl
entries_off numbers (r ∷ files) online = λ i. (let e : FileEntry = (r, off_copy numbers online r.number i) in e) ∷ entries_off numbers files online i

-- MARKS COVER what has changed
pub covers_off : (numbers : List ℕ) (side : Side) (d e : Directory) (old new : Remembered) → MarksFiles numbers old new → Covers d side old → ((k : ℕ) → All (λ n. k ≢ 64 + n) numbers → block_of Two e k ≡ block_of Two d k) → Covers e side new
covers_off numbers side d e old new marks was same = record {
  block = λ k less free.
      let before = marks.free side k free in
      ap (λ (ps : List (Option (List ℕ))). slice_get ps k) (same_pages_of side old new marks.pages) ∙ was.block k less before.0
      ∙ ap (λ (b : List ℕ). Some (Some b)) (sym (same k before.1));
}

pub remembers_pages : (old new : Remembered) → KeepsPages old new → (blocks : List (List ℕ)) → Remembers old blocks → Remembers new blocks
remembers_pages old new kept blocks was = record {
  block = λ side k page there. was.block side k page (ap (λ (ps : List (Option (List ℕ))). slice_get ps k) (sym (same_pages_of side old new kept)) ∙ there);
}

pub not_among : (numbers : List ℕ) (i k : ℕ) → k ≡ 64 + i → All (λ n. k ≢ 64 + n) numbers → has numbers i ≡ false
not_among [] i k at away = refl
not_among (n ∷ ns) i k at away =
    let first : k ≢ 64 + n = All-head (λ m. k ≢ 64 + m) n ns away in
    ap (λ (b : Bool). b || has ns i) (ne_eqb n i (λ same. first (at ∙ ap (λ (m : ℕ). 64 + m) (sym same)))) ∙ not_among ns i k at (All-tail (λ m. k ≢ 64 + m) n ns away)

found_off : (numbers : List ℕ) (i : ℕ) (e : FileEntry) (rest other : Option FileEntry) → has numbers i ≡ false → other ≡ rest → (if e.0.number == i then Some (off_entry numbers e) else other) ≡ (if e.0.number == i then Some e else rest)
found_off numbers i e rest other away same = by_case (cases_eq e.0.number i)
  where
    by_case : (e.0.number ≡ i) ⊎ (e.0.number ≡ i → ⊥) → (if e.0.number == i then Some (off_entry numbers e) else other) ≡ (if e.0.number == i then Some e else rest)
    by_case (inl here) =
        let kept : has numbers e.0.number ≡ false = ap (has numbers) here ∙ away in
        cond-true (e.0.number == i) (Some (off_entry numbers e)) other (eq-eqb e.0.number i here)
        ∙ ap (λ (c : Option DiscCopy). let f : FileEntry = (e.0, c) in Some f) (cond-false (has numbers e.0.number) None e.1 kept)
        ∙ sym (cond-true (e.0.number == i) (Some e) rest (eq-eqb e.0.number i here))
    by_case (inr differs) =
        cond-false (e.0.number == i) (Some (off_entry numbers e)) other (ne_eqb e.0.number i differs) ∙ same ∙ sym (cond-false (e.0.number == i) (Some e) rest (ne_eqb e.0.number i differs))

pub others_off : (numbers : List ℕ) (i : ℕ) (es : List FileEntry) → has numbers i ≡ false → entry_at (map (off_entry numbers) es) i ≡ entry_at es i
others_off numbers i [] away = refl
others_off numbers i (e ∷ es) away = found_off numbers i e (entry_at es i) (entry_at (map (off_entry numbers) es) i) away (others_off numbers i es away)

-- WHICH VERSIONS ARE CURRENT doesn't change
current_off : (numbers : List ℕ) (es : List FileEntry) (s : ℕ) → is_current (map (off_entry numbers) es) s ≡ is_current es s
current_off numbers [] s = refl
current_off numbers (e ∷ es) s = ap (λ (b : Bool). (e.0.stamp == s) || b) (current_off numbers es s)

orphans_off : (numbers : List ℕ) (es : List FileEntry) (pins : Option (List Pinned)) → orphans pins (map (off_entry numbers) es) ≡ orphans pins es
orphans_off numbers es None = refl
orphans_off numbers es (Some pins) = λ i. flat_map (λ (p : Pinned). p.blocks) (filter (λ (p : Pinned). not (current_off numbers es p.stamp i)) pins)

-- FITS
fits_off_one : (numbers : List ℕ) (e : FileEntry) → CopyFits e → CopyFits (off_entry numbers e)
fits_off_one numbers e fits = by_case (cases_Bool (has numbers e.0.number))
  where
    by_case : (has numbers e.0.number ≡ true) ⊎ (has numbers e.0.number ≡ false) → CopyFits (off_entry numbers e)
    by_case (inl is) = subst (λ (c : Option DiscCopy). CopyFits (let f : FileEntry = (e.0, c) in f)) (sym (cond-true (has numbers e.0.number) None e.1 is)) tt
    by_case (inr is) = subst (λ (c : Option DiscCopy). CopyFits (let f : FileEntry = (e.0, c) in f)) (sym (cond-false (has numbers e.0.number) None e.1 is)) fits

pub fits_off : (numbers : List ℕ) (es : List FileEntry) → All CopyFits es → All CopyFits (map (off_entry numbers) es)
fits_off numbers es all = All-map CopyFits (off_entry numbers) es (All-weaker CopyFits (λ (e : FileEntry). CopyFits (off_entry numbers e)) (fits_off_one numbers) es all)

-- NOTED, PINNED
pub noted_off : (users : ℕ) (numbers : List ℕ) (es : List FileEntry) (changed touched : List ℕ) → AreNoted users es changed touched → AreNoted users (map (off_entry numbers) es) changed touched
noted_off users numbers es changed touched was = record {
  changed_are = was.changed_are;
  touched_are = was.touched_are;
  touched_changed = was.touched_changed;
  waits = All-map (λ (e : FileEntry). WaitsFor changed e.0) (off_entry numbers) es was.waits;
}

-- a file that is taken off has a copy on tape
abbrev pub IsCopied : List ℕ → FileEntry → Type 0
IsCopied numbers e = has numbers e.0.number ≡ true → is_some e.0.tape ≡ true

file_of_off : (numbers : List ℕ) (p : Pinned) (e : FileEntry) → IsCopied numbers e → IsFileOf p e → IsFileOf p (off_entry numbers e)
file_of_off numbers p e copied is = λ at. by_case (cases_Bool (has numbers e.0.number)) (is at)
  where
    by_case : (has numbers e.0.number ≡ true) ⊎ (has numbers e.0.number ≡ false) → (e.0.len ≡ p.len) × (e.0.tape ≡ None) × (places_of e ≡ p.blocks) × (e.0.number ≡ p.number)
        → (e.0.len ≡ p.len) × (e.0.tape ≡ None) × (places_of (off_entry numbers e) ≡ p.blocks) × (e.0.number ≡ p.number)
    by_case (inl off) was = (let wrong = sym (copied off) ∙ ap is_some was.1 in let no : ⊥ = cc in absurd no)
    by_case (inr kept) was = (was.0, was.1, ap (λ (c : Option DiscCopy). places_of (let f : FileEntry = (e.0, c) in f)) (cond-false (has numbers e.0.number) None e.1 kept) ∙ was.2, was.3)

all_both : (P Q R : FileEntry → Type 0) → ((e : FileEntry) → P e → Q e → R e) → (es : List FileEntry) → All P es → All Q es → All R es
all_both P Q R both es ps qs = λ k d within. both (get_or es k d) (ps k d within) (qs k d within)

pinned_off : (size next : ℕ) (numbers : List ℕ) (es : List FileEntry) → All (IsCopied numbers) es → (p : Pinned) → IsPinned size next es p → IsPinned size next (map (off_entry numbers) es) p
pinned_off size next numbers es copied p is = record {
  older = is.older;
  filled = is.filled;
  count = is.count;
  area = is.area;
  current = All-map (IsFileOf p) (off_entry numbers) es (all_both (IsCopied numbers) (IsFileOf p) (λ (e : FileEntry). IsFileOf p (off_entry numbers e)) (file_of_off numbers p) es copied is.current);
}

pub pins_off : (size next : ℕ) (numbers : List ℕ) (es : List FileEntry) (touched : List ℕ) (pins : Option (List Pinned)) → All (IsCopied numbers) es → PinsAre pins size next es touched → PinsAre pins size next (map (off_entry numbers) es) touched
pins_off size next numbers es touched None copied are = are
pins_off size next numbers es touched (Some pins) copied are = record {
  each = All-weaker (IsPinned size next es) (IsPinned size next (map (off_entry numbers) es)) (pinned_off size next numbers es copied) pins are.each;
  apart = are.apart;
  waits = All-map (WaitsPinned pins touched) (off_entry numbers) es are.waits;
}

-- COPIES
pub copies_off : (numbers : List ℕ) (files : List FileRec) (online : Copies) → AreCopies files online → AreCopies files (without_copies numbers online)
copies_off numbers files online are = record {
  rising = AllPairs-filter (λ c d. c.0 < d.0) (λ c. not (has numbers c.0)) online are.rising;
  files_are = All-filter (λ (c : ℕ × DiscCopy). not (has numbers c.0)) (λ (c : ℕ × DiscCopy). Contains (map (λ (r : FileRec). r.number) files) c.0) online are.files_are;
}

-- THE BLOCKS of the files that are taken off are no longer used
place_copy : (r : FileRec) (c : Option DiscCopy) → places_of (r, c) ≡ copy_places c
place_copy r None = refl
place_copy r (Some c) = refl

other_copy : (n m : ℕ) (online : Copies) → m ≢ n → copy_at (without_copies (n ∷ []) online) m ≡ copy_at online m
other_copy n m online other = off_copy (n ∷ []) online m ∙ cond-false (has (n ∷ []) m) None (copy_at online m) (ap (λ (b : Bool). b || false) (ne_eqb n m (λ same. other (sym same))))

this_copy : (n : ℕ) (online : Copies) → copy_at (without_copies (n ∷ []) online) n ≡ None
this_copy n online = off_copy (n ∷ []) online n ∙ cond-true (has (n ∷ []) n) None (copy_at online n) (ap (λ (b : Bool). b || false) (eq-eqb n n refl))

first_below : (r : FileRec) (files : List FileRec) → AllPairs (λ r s. r.number < s.number) (r ∷ files) → All (λ s. r.number < s.number) files
first_below r files rising k d inside = rising 0 (suc k) d (omega arith) (omega arith)

rest_rises : (r : FileRec) (files : List FileRec) → AllPairs (λ r s. r.number < s.number) (r ∷ files) → AllPairs (λ r s. r.number < s.number) files
rest_rises r files rising i j d before inside = rising (suc i) (suc j) d (omega arith) (omega arith)

abbrev sum_of : (ℕ → ℕ) → List FileRec → Copies → ℕ
sum_of f files online = sum_by f (all_places (entries_of files online))

rest_same : (f : ℕ → ℕ) (n : ℕ) (files : List FileRec) (online : Copies) → All (λ (s : FileRec). n < s.number) files → sum_of f files (without_copies (n ∷ []) online) ≡ sum_of f files online
rest_same f n [] online above = refl
rest_same f n (r ∷ files) online above =
    let P : FileRec → Type 0 = λ s. n < s.number in
    let less : n < r.number = All-head P r files above in
    let copy : copy_at (without_copies (n ∷ []) online) r.number ≡ copy_at online r.number = other_copy n r.number online (λ same. (let no : ⊥ = omega (arith, less, same) in no)) in
    let one = ap (λ (c : Option DiscCopy). sum_by f (places_of (let e : FileEntry = (r, c) in e))) copy in
    let rest = rest_same f n files online (All-tail P r files above) in
    omega (
      arith,
      one,
      rest,
      sum_by-append f (places_of (let e : FileEntry = (r, copy_at online r.number) in e)) (all_places (entries_of files online)),
      sum_by-append f (places_of (let e : FileEntry = (r, copy_at (without_copies (n ∷ []) online) r.number) in e)) (all_places (entries_of files (without_copies (n ∷ []) online))),
    )

above_there : (m n : ℕ) (files : List FileRec) → All (λ (s : FileRec). m < s.number) files → Contains (map (λ (s : FileRec). s.number) files) n → m < n
above_there m n [] above (k, inside, is) = (let no : ⊥ = omega (arith, inside) in absurd no)
above_there m n (r ∷ files) above (zero, inside, is) = let first : m < r.number = All-head (λ (s : FileRec). m < s.number) r files above in omega (arith, first, is)
above_there m n (r ∷ files) above (suc k, inside, is) = above_there m n files (All-tail (λ (s : FileRec). m < s.number) r files above) (k, omega (arith, inside), is)

one_off : (f : ℕ → ℕ) (n : ℕ) (files : List FileRec) (online : Copies) → AllPairs (λ r s. r.number < s.number) files → Contains (map (λ (r : FileRec). r.number) files) n
    → sum_of f files online ≡ sum_by f (copy_places (copy_at online n)) + sum_of f files (without_copies (n ∷ []) online)
one_off f n [] online rising (k, inside, is) = (let no : ⊥ = omega (arith, inside) in absurd no)
one_off f n (r ∷ files) online rising (zero, inside, is) =
    let above : All (λ (s : FileRec). n < s.number) files = All-weaker (λ (s : FileRec). r.number < s.number) (λ (s : FileRec). n < s.number) (λ s less. omega (arith, less, is)) files (first_below r files rising) in
    let here : places_of (let e : FileEntry = (r, copy_at online r.number) in e) ≡ copy_places (copy_at online n) = place_copy r (copy_at online r.number) ∙ ap (λ (m : ℕ). copy_places (copy_at online m)) is in
    let gone : places_of (let e : FileEntry = (r, copy_at (without_copies (n ∷ []) online) r.number) in e) ≡ [] =
    place_copy r (copy_at (without_copies (n ∷ []) online) r.number) ∙ ap (λ (m : ℕ). copy_places (copy_at (without_copies (n ∷ []) online) m)) is ∙ ap copy_places (this_copy n online) in
    omega (
      arith,
      ap (sum_by f) here,
      ap (sum_by f) gone,
      rest_same f n files online above,
      sum_by-append f (places_of (let e : FileEntry = (r, copy_at online r.number) in e)) (all_places (entries_of files online)),
      sum_by-append f (places_of (let e : FileEntry = (r, copy_at (without_copies (n ∷ []) online) r.number) in e)) (all_places (entries_of files (without_copies (n ∷ []) online))),
    )
one_off f n (r ∷ files) online rising (suc k, inside, is) =
    let there : Contains (map (λ (s : FileRec). s.number) files) n = (k, omega (arith, inside), is) in
    let less : r.number < n = above_there r.number n files (first_below r files rising) there in
    let copy : copy_at (without_copies (n ∷ []) online) r.number ≡ copy_at online r.number = other_copy n r.number online (λ same. (let no : ⊥ = omega (arith, less, same) in no)) in
    omega (
      arith,
      ap (λ (c : Option DiscCopy). sum_by f (places_of (let e : FileEntry = (r, c) in e))) copy,
      one_off f n files online (rest_rises r files rising) there,
      sum_by-append f (places_of (let e : FileEntry = (r, copy_at online r.number) in e)) (all_places (entries_of files online)),
      sum_by-append f (places_of (let e : FileEntry = (r, copy_at (without_copies (n ∷ []) online) r.number) in e)) (all_places (entries_of files (without_copies (n ∷ []) online))),
    )

places_after : (n : ℕ) (ns : List ℕ) (online : Copies) → All (λ m. n ≢ m) ns → places_off ns (without_copies (n ∷ []) online) ≡ places_off ns online
places_after n [] online away = refl
places_after n (m ∷ ns) online away = λ i.
    copy_places (other_copy n m online (λ same. All-head (λ k. n ≢ k) m ns away (sym same)) i) ++ places_after n ns online (All-tail (λ k. n ≢ k) m ns away) i

without_more : (n : ℕ) (ns : List ℕ) (cs : Copies) → without_copies ns (without_copies (n ∷ []) cs) ≡ without_copies (n ∷ ns) cs
without_more n ns [] = refl
without_more n ns (c ∷ cs) = one (n == c.0) (without_copies (n ∷ []) cs) ∙ ap (λ (rest : Copies). if not ((n == c.0) || has ns c.0) then c ∷ rest else rest) (without_more n ns cs)
  where
    one : (x : Bool) (rest : Copies) → without_copies ns (if not (x || false) then c ∷ rest else rest) ≡ (if not (x || has ns c.0) then c ∷ without_copies ns rest else without_copies ns rest)
    one true rest = refl
    one false rest = refl

pub use_off : (f : ℕ → ℕ) (numbers : List ℕ) (files : List FileRec) (online : Copies) → AllPairs (λ r s. r.number < s.number) files → All (Contains (map (λ (r : FileRec). r.number) files)) numbers → AllPairs (λ m n. m ≢ n) numbers
    → sum_of f files online ≡ sum_by f (places_off numbers online) + sum_of f files (without_copies numbers online)
use_off f [] files online rising there apart = omega (arith, ap (sum_of f files) (no_filter online))
use_off f (n ∷ ns) files online rising there apart =
    let next : Copies = without_copies (n ∷ []) online in
    let away : All (λ m. n ≢ m) ns = λ k d within. apart 0 (suc k) d (omega arith) (omega arith) in
    let rest : AllPairs (λ m k. m ≢ k) ns = λ i j d less within. apart (suc i) (suc j) d (omega arith) (omega arith) in
    omega (
      arith,
      one_off f n files online rising (All-head (Contains (map (λ (r : FileRec). r.number) files)) n ns there),
      use_off f ns files next rising (All-tail (Contains (map (λ (r : FileRec). r.number) files)) n ns there) rest,
      ap (sum_by f) (places_after n ns online away),
      ap (sum_of f files) (without_more n ns online),
      sum_by-append f (copy_places (copy_at online n)) (places_off ns online),
    )

-- WHAT A CHANGE that takes files off may require
copied_one : (held : Option (List (List ℕ))) (files : List FileRec) (online : Copies) (f : File) → AllPairs (λ r s. r.number < s.number) files → Contains (map (file_of held) (entries_of files online)) f → is_some f.rec.tape ≡ true
    → All (λ (r : FileRec). r.number ≡ f.rec.number → is_some r.tape ≡ true) files
copied_one held [] online f rising (k, inside, is) copied = (let no : ⊥ = omega (arith, inside) in absurd no)
copied_one held (r ∷ files) online f rising (zero, inside, is) copied =
    let it : f.rec ≡ r = ap (λ (g : File). g.rec) (sym is) ∙ rec_of held _ in
    let at : f.rec.number ≡ r.number = ap (λ (s : FileRec). s.number) it in
    All-cons (λ (s : FileRec). s.number ≡ f.rec.number → is_some s.tape ≡ true) r files
    (λ here. ap (λ (s : FileRec). is_some s.tape) (sym it) ∙ copied)
    (All-weaker (λ (s : FileRec). r.number < s.number) (λ (s : FileRec). s.number ≡ f.rec.number → is_some s.tape ≡ true)
    (λ s less. λ here. (let no : ⊥ = omega (arith, less, here, at) in absurd no)) files (first_below r files rising))
copied_one held (r ∷ files) online f rising (suc k, inside, is) copied =
    let there : Contains (map (file_of held) (entries_of files online)) f = (k, omega (arith, inside), is) in
    let less : r.number < f.rec.number = above_there r.number f.rec.number files (first_below r files rising) (number_there held files online f there) in
    All-cons (λ (s : FileRec). s.number ≡ f.rec.number → is_some s.tape ≡ true) r files
    (λ here. (let no : ⊥ = omega (arith, less, here) in absurd no))
    (copied_one held files online f (rest_rises r files rising) there copied)

copied_each : (numbers : List ℕ) (r : FileRec) → All (λ (n : ℕ). r.number ≡ n → is_some r.tape ≡ true) numbers → has numbers r.number ≡ true → is_some r.tape ≡ true
copied_each [] r each is = (let no : ⊥ = cc in absurd no)
copied_each (n ∷ ns) r each is = by_first (cases_eq n r.number) (copied_each ns r (All-tail (λ (m : ℕ). r.number ≡ m → is_some r.tape ≡ true) n ns each))
  where
    by_first : (n ≡ r.number) ⊎ (n ≡ r.number → ⊥) → (has ns r.number ≡ true → is_some r.tape ≡ true) → is_some r.tape ≡ true
    by_first (inl here) rest = All-head (λ (m : ℕ). r.number ≡ m → is_some r.tape ≡ true) n ns each (sym here)
    by_first (inr other) rest = rest (ap (λ (b : Bool). b || has ns r.number) (sym (ne_eqb n r.number other)) ∙ is)

copied_entries : (files : List FileRec) (online : Copies) (numbers : List ℕ) → All (λ (r : FileRec). has numbers r.number ≡ true → is_some r.tape ≡ true) files → All (IsCopied numbers) (entries_of files online)
copied_entries [] online numbers all = λ k d within. absurd (omega arith)
copied_entries (r ∷ files) online numbers all =
    let P : FileRec → Type 0 = λ s. has numbers s.number ≡ true → is_some s.tape ≡ true in
    All-cons (IsCopied numbers) (let e : FileEntry = (r, copy_at online r.number) in e) (entries_of files online) (All-head P r files all) (copied_entries files online numbers (All-tail P r files all))

pub record IsUnloadable (numbers : List ℕ) (before : DiscState) (m : Memory) : Type 0 where
  pub was : IsAgreed before m
  pub once : AllPairs (λ j k. j ≢ k) numbers
  pub there : All (Contains (map (λ (r : FileRec). r.number) m.files)) numbers
  pub below : All (λ n. n < 1024) numbers
  pub copied : All (IsCopied numbers) (entries_of m.files m.online)
  pub blocks : SameUse (used_places m.pins (entries_of m.files m.online)) (places_off numbers m.online ++ used_places m.pins (entries_of m.files (without_copies numbers m.online)))

pub unloadable : (numbers : List ℕ) (before : DiscState) (m : Memory) → IsAgreed before m → AreUnjammable (contents_of before.held (directory_in m)).files numbers → IsUnloadable numbers before m
unloadable numbers before m was fits =
    let files : List File = map (file_of before.held) (entries_of m.files m.online) in
    let recs = recs-entries m.files m.online in
    let rising : AllPairs (λ r s. r.number < s.number) m.files = subst (λ (rs : List FileRec). AllPairs (λ (r : FileRec) (s : FileRec). r.number < s.number) rs) recs was.stored.rules.numbered.rising in
    let below : All (λ (r : FileRec). r.number < 1024) m.files = subst (λ (rs : List FileRec). All (λ (r : FileRec). r.number < 1024) rs) recs was.stored.rules.numbered.below in
    let there : All (Contains (map (λ (r : FileRec). r.number) m.files)) numbers =
    All-weaker (IsUnjammable files) (Contains (map (λ (r : FileRec). r.number) m.files))
    (λ n u. subst (Contains (map (λ (r : FileRec). r.number) m.files)) u.number_is (number_there before.held m.files m.online u.file u.there)) numbers fits.each in
    let each : All (λ (n : ℕ). All (λ (r : FileRec). r.number ≡ n → is_some r.tape ≡ true) m.files) numbers =
    All-weaker (IsUnjammable files) (λ (n : ℕ). All (λ (r : FileRec). r.number ≡ n → is_some r.tape ≡ true) m.files)
    (λ n u. subst (λ (k : ℕ). All (λ (r : FileRec). r.number ≡ k → is_some r.tape ≡ true) m.files) u.number_is (copied_one before.held m.files m.online u.file rising u.there u.copied)) numbers fits.each in
    record {
      was = was;
      once = fits.once;
      there = there;
      below = All-weaker (Contains (map (λ (r : FileRec). r.number) m.files)) (λ n. n < 1024)
          (λ n in_it. All-contains (λ k. k < 1024) (map (λ (r : FileRec). r.number) m.files) n (All-map (λ k. k < 1024) (λ (r : FileRec). r.number) m.files below) in_it) numbers there;
      copied = copied_entries m.files m.online numbers
          (λ k d within. copied_each numbers (get_or m.files k d) (λ j e inside. each j e inside k d within));
      blocks = λ f. omega (
        arith,
        use_off f numbers m.files m.online rising there fits.once,
        ap (sum_by f) (ap (orphans m.pins) (entries_off numbers m.files m.online) ∙ orphans_off numbers (entries_of m.files m.online) m.pins),
        sum_by-append f (all_places (entries_of m.files m.online)) (orphans m.pins (entries_of m.files m.online)),
        sum_by-append f (places_off numbers m.online) (used_places m.pins (entries_of m.files (without_copies numbers m.online))),
        sum_by-append f (all_places (entries_of m.files (without_copies numbers m.online))) (orphans m.pins (entries_of m.files (without_copies numbers m.online))),
      );
    }

pub is_unloadable : (numbers : List ℕ) (before : DiscState) (m : Memory) (o : OnlineFacts) → facts_of before m ≡ o → IsKept before m → IsAllowed (Unload numbers) o → IsUnloadable numbers before m
is_unloadable numbers before m o is kept allowed =
    unloadable numbers before m (kept.agreed (allowed_live (Unload numbers) before m o is allowed)) (allowed_here (Unload numbers) before m o is allowed).fits

used_before : (numbers : List ℕ) (before : DiscState) (m : Memory) → IsUnloadable numbers before m
    → IsUsed before.size (places_off numbers m.online ++ used_places m.pins (entries_of m.files (without_copies numbers m.online))) m.pool
used_before numbers before m un =
    used_same before.size (used_places m.pins (entries_of m.files m.online)) (places_off numbers m.online ++ used_places m.pins (entries_of m.files (without_copies numbers m.online))) m.pool un.blocks
    (record { fresh = un.was.pool.fresh; area = un.was.pool.area; apart = un.was.pool.apart })

-- what taking them off requires
pub off_blocks : (numbers : List ℕ) (before : DiscState) (m : Memory) → IsUnloadable numbers before m → AllPairs (λ j k. j ≢ k) (places_off numbers m.online) × All (IsTaken m.pool) (places_off numbers m.online)
off_blocks numbers before m un = may_give before.size (places_off numbers m.online) (used_places m.pins (entries_of m.files (without_copies numbers m.online))) m.pool (used_before numbers before m un)

pub pool_then : (numbers : List ℕ) (before : DiscState) (m : Memory) (pool : List Bool) → IsUnloadable numbers before m → HasGiven (places_off numbers m.online) m.pool pool
    → IsPooled before.size m.pins (entries_of m.files (without_copies numbers m.online)) pool
pool_then numbers before m pool un given =
    let less = used_given before.size (places_off numbers m.online) (used_places m.pins (entries_of m.files (without_copies numbers m.online))) m.pool pool (used_before numbers before m un) given in
    record { fresh = less.fresh; area = less.area; apart = less.apart }

-- READY
unload_set_ready : (numbers : List ℕ) (before : DiscState) (m : Memory) (pool : List Bool) (first pages : Remembered) (o : OnlineFacts) → facts_of before m ≡ o → IsKept before m → IsAllowed (Unload numbers) o → IsUnloadable numbers before m
    → first ≡ marked 0 m.pages → StillRemembers m.pages first → CoversBut 0 m.pages first → HasGiven (places_off numbers m.online) m.pool pool → MarksFiles numbers first pages
    → IsReady (Unload numbers) before m (record m { head = head_after (is_some m.pins) m.head; online = without_copies numbers m.online; pool = pool; pages = pages })
unload_set_ready numbers before m pool first pages o is kept allowed un marks remembers covers given off =
    let h : Head = head_after (is_some m.pins) m.head in
    let n : Memory = record m { head = h; online = without_copies numbers m.online; pool = pool; pages = pages } in
    let mid : Directory = directory_of h m.users m.files m.online in
    let old : List FileEntry = entries_of m.files m.online in
    let new : List FileEntry = entries_of m.files (without_copies numbers m.online) in
    let all : map (off_entry numbers) old ≡ new = sym (entries_off numbers m.files m.online) in
    let was = un.was in
    make_ready (Unload numbers) before m n o is kept allowed refl refl refl refl refl
    (keeps_then m.pages first pages (keeps_marked 0 m.pages first marks) off.pages)
    (λ b r. remembers_pages first pages off.pages b (remembers b r))
    (λ s covered. covers_off numbers s mid (directory_in n) first pages off (covers s (directory_in m) mid covered (but_head (directory_in m) mid refl refl))
    (λ k away. same_block mid (directory_in n) k (λ zero_is. refl) (λ low less. refl)
    (λ past. ap (λ (fs : List FileEntry). entry_at fs (k - 64)) (sym all) ∙ others_off numbers (k - 64) old (not_among numbers (k - 64) k (omega (arith, past)) away))))
    refl (touched_stays before.held before.size m.head.next_stamp old m.touched m.pins was.pins)
    (unload_contents before.held (is_some m.pins) m.head m.users m.files m.online numbers)
    (copies_off numbers m.files m.online was.copies)
    (places_filter (λ c. not (has numbers c.0)) m.online)
    (subst (All CopyFits) all (fits_off numbers old (fits_still old was.stored.rules.lies)))
    (pool_then numbers before m pool un given)
    (subst (λ (fs : List FileEntry). AreNoted (length m.users) fs m.changed m.touched) all (noted_off (length m.users) numbers old m.changed m.touched was.noted))
    (subst (λ (fs : List FileEntry). PinsAre m.pins before.size h.next_stamp fs m.touched) all
    (pins_off before.size h.next_stamp numbers old m.touched m.pins un.copied
    (subst (λ (k : ℕ). PinsAre m.pins before.size k old m.touched) (sym (next_kept (is_some m.pins) m.head)) was.pins)))

pub unload_ready : (numbers : List ℕ) (before : DiscState) (m : Memory) (pinned : Bool) (head : Head) (online : Copies) (pool : List Bool) (first pages : Remembered) (listed : List ℕ) (start : Copies) (o : OnlineFacts)
    → pinned ≡ is_some m.pins → head ≡ head_after pinned m.head → listed ≡ numbers → start ≡ m.online → online ≡ without_copies listed start → HasGiven (places_off listed start) m.pool pool → MarksFiles listed first pages
    → facts_of before m ≡ o → IsKept before m → IsAllowed (Unload numbers) o → first ≡ marked 0 m.pages → StillRemembers m.pages first → CoversBut 0 m.pages first
    → IsReady (Unload numbers) before m (record m { head = head; online = online; pool = pool; pages = pages })
unload_ready numbers before m pinned head online pool first pages listed start o pinned_is heads listed_is start_is online_is given off is kept allowed marks remembers covers =
    let top : head ≡ head_after (is_some m.pins) m.head = heads ∙ ap (λ (b : Bool). head_after b m.head) pinned_is in
    let them : online ≡ without_copies numbers m.online = online_is ∙ (λ i. without_copies (listed_is i) (start_is i)) in
    subst (IsReady (Unload numbers) before m) (λ i. record m { head = (sym top) i; online = (sym them) i; pool = pool; pages = pages })
    (unload_set_ready numbers before m pool first pages o is kept allowed (is_unloadable numbers before m o is kept allowed) marks remembers covers
    (subst (λ (cs : Copies). HasGiven (places_off numbers cs) m.pool pool) start_is (subst (λ (ns : List ℕ). HasGiven (places_off ns start) m.pool pool) listed_is given))
    (subst (λ (ns : List ℕ). MarksFiles ns first pages) listed_is off))
