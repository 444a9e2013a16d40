-- Files in order of number, and their copies in order of number.
-- serves: files_lie, put_all, ListingLemmas, ReadLemmas, RuleLemmas, TableLemmas, crates above
use Rattle.std.proofs.Common.{◌≡◌, ◌≢◌, ⊎_elim, ℕ, zero, suc, ◌+◌, ◌<◌, ◌≤◌, ◌==◌, Bool, List, [], ◌∷◌, ◌++◌, length, get_or, map, find, drop, take, Option, Some, None, All, AllPairs, refl, sym, ◌∙◌, ap, arith, if◌then◌else◌, option_map, subst, Bor}
use Rattle.std.specs.Prelude.{⊤, Contains, IfNone, IfSome, option_copied}
use Rattle.std.specs.List.{AllByRecursion}
use Rattle.std.proofs.lemmas.Bool.{ne_eqb, eq-eqb, cases_eq}
use Rattle.std.proofs.Math.Seq.{drop-cons}
use Rattle.std.proofs.lemmas.List.{drop-drop, get_or-drop, length-map, take_all}
use Rattle.std.proofs.lemmas.List.Elements.{All-more, recursion_from_All}
use Rattle.g_copy.specs.declared.copy.DiscCopy.{DiscCopy}
use Rattle.g_entry.specs.declared.file_rec.FileRec.{FileRec}
use Rattle.g_entry.specs.Rules.{AreNumbered}
use Rattle.g_dirs.specs.Directory.{AreCopies, FileEntry, LiesSomewhere, all_places, copy_at, entries_of, recs}
use Rattle.g_dirs.specs.Rules.{HasNoCopy, numbers_of}

abbrev pub Copies : Type 0
Copies = List (ℕ × DiscCopy)

abbrev numbers : List FileRec → List ℕ
numbers files = map (λ r. r.number) files

-- the records of files with their copies
pub recs-entries : (files : List FileRec) (online : Copies) → recs (entries_of files online) ≡ files
recs-entries [] online = refl
recs-entries (r ∷ files) online = ap (λ (rest : List FileRec). r ∷ rest) (recs-entries files online)

-- numbers after a number
abbrev pub FilesAbove : ℕ → List FileRec → Type 0
FilesAbove n files = AllByRecursion (λ r. n < r.number) files

abbrev pub CopiesAbove : ℕ → Copies → Type 0
CopiesAbove n online = AllByRecursion (λ c. n < c.0) online

abbrev pub RisingFiles : List FileRec → Type 0
RisingFiles [] = ⊤
RisingFiles (r ∷ files) = FilesAbove r.number files × RisingFiles files

abbrev pub RisingCopies : Copies → Type 0
RisingCopies [] = ⊤
RisingCopies (c ∷ online) = CopiesAbove c.0 online × RisingCopies online

-- both are in order of number, and each copy is a file's
pub record Match (files : List FileRec) (online : Copies) : Type 0 where
  pub files_rise : RisingFiles files
  pub copies_rise : RisingCopies online
  pub among : AllByRecursion (λ c. Contains (numbers files) c.0) online

files_from : (files : List FileRec) → AllPairs (λ r s. r.number < s.number) files → RisingFiles files
files_from [] all = tt
files_from (r ∷ files) all =
    let first : All (λ (s : FileRec). r.number < s.number) files = λ k d inside. all 0 (suc k) d (omega arith) (omega arith) in
    let rest : AllPairs (λ (s : FileRec) t. s.number < t.number) files = λ i j d before inside. all (suc i) (suc j) d (omega arith) (omega arith) in
    (recursion_from_All (λ (s : FileRec). r.number < s.number) files first, files_from files rest)

pub copies_from : (online : Copies) → AllPairs (λ c d. c.0 < d.0) online → RisingCopies online
copies_from [] all = tt
copies_from (c ∷ online) all =
    let first : All (λ (d : ℕ × DiscCopy). c.0 < d.0) online = λ k d inside. all 0 (suc k) d (omega arith) (omega arith) in
    let rest : AllPairs (λ (d : ℕ × DiscCopy) e. d.0 < e.0) online = λ i j d before inside. all (suc i) (suc j) d (omega arith) (omega arith) in
    (recursion_from_All (λ (d : ℕ × DiscCopy). c.0 < d.0) online first, copies_from online rest)

pub match_from : (files : List FileRec) (online : Copies) → AreNumbered files → AreCopies files online → Match files online
match_from files online numbered copies = record {
  files_rise = files_from files numbered.rising;
  copies_rise = copies_from online copies.rising;
  among = recursion_from_All (λ (c : ℕ × DiscCopy). Contains (numbers files) c.0) online copies.files_are;
}

contains_behind : (n m : ℕ) (ns : List ℕ) → Contains (n ∷ ns) m → m ≢ n → Contains ns m
contains_behind n m ns (zero, inside, is) other = absurd (other (sym is))
contains_behind n m ns (suc k, inside, is) other = (k, omega arith, is)

above_contained : (n m : ℕ) (files : List FileRec) → FilesAbove n files → Contains (numbers files) m → n < m
above_contained n m [] above (k, inside, is) = let no : ⊥ = omega (arith, inside) in absurd no
above_contained n m (r ∷ files) above (zero, inside, is) = let first = above.0 in omega (arith, is)
above_contained n m (r ∷ files) above (suc k, inside, is) = above_contained n m files above.1 (k, omega arith, is)

-- copies above the first file are those of the files after it
among_behind : (r : FileRec) (files : List FileRec) (online : Copies) → AllByRecursion (λ c. Contains (numbers (r ∷ files)) c.0) online → CopiesAbove r.number online
    → AllByRecursion (λ c. Contains (numbers files) c.0) online
among_behind r files [] among above = tt
among_behind r files (c ∷ online) among above =
    let first = above.0 in
    (contains_behind r.number c.0 (numbers files) among.0 (λ same. omega (arith, same)), among_behind r files online among.1 above.1)

copies_above_less : (m n : ℕ) (online : Copies) → m < n → CopiesAbove n online → CopiesAbove m online
copies_above_less m n [] less above = tt
copies_above_less m n (c ∷ online) less above = let first = above.0 in (omega arith, copies_above_less m n online less above.1)

pub copy_here : (c : ℕ × DiscCopy) (online : Copies) (n : ℕ) → c.0 ≡ n → copy_at (c ∷ online) n ≡ Some c.1
copy_here c online n same = ap (λ (b : Bool). option_map (λ (d : ℕ × DiscCopy). d.1) (if b then Some c else find (λ d. d.0 == n) online)) (eq-eqb c.0 n same)

pub copy_behind : (c : ℕ × DiscCopy) (online : Copies) (n : ℕ) → c.0 ≢ n → copy_at (c ∷ online) n ≡ copy_at online n
copy_behind c online n other = ap (λ (b : Bool). option_map (λ (d : ℕ × DiscCopy). d.1) (if b then Some c else find (λ d. d.0 == n) online)) (ne_eqb c.0 n other)

pub copy_none : (n : ℕ) (online : Copies) → CopiesAbove n online → copy_at online n ≡ None
copy_none n [] above = refl
copy_none n (c ∷ online) above = let first = above.0 in copy_behind c online n (λ same. omega (arith, same)) ∙ copy_none n online above.1

-- files above a copy don't own it
entries_above : (c : ℕ × DiscCopy) (online : Copies) (files : List FileRec) → FilesAbove c.0 files → entries_of files (c ∷ online) ≡ entries_of files online
entries_above c online [] above = refl
entries_above c online (r ∷ files) above =
    let first = above.0 in
    ap (λ (o : Option DiscCopy). let e : FileEntry = (r, o) in e ∷ entries_of files (c ∷ online)) (copy_behind c online r.number (λ same. omega (arith, same)))
    ∙ ap (λ (l : List FileEntry). let e : FileEntry = (r, copy_at online r.number) in e ∷ l) (entries_above c online files above.1)

-- THE NEXT FILE: its copy is the next one, or it has none
pub record Further (r : FileRec) (files : List FileRec) (online : Copies) (copy : Option DiscCopy) (rest : Copies) : Type 0 where
  pub match : Match files rest
  pub entries : entries_of (r ∷ files) online ≡ (let e : FileEntry = (r, copy) in e ∷ entries_of files rest)

pub further_with : (r : FileRec) (files : List FileRec) (c : ℕ × DiscCopy) (online : Copies) → Match (r ∷ files) (c ∷ online) → c.0 ≡ r.number → Further r files (c ∷ online) (Some c.1) online
further_with r files c online was same = record {
  match = record {
    files_rise = was.files_rise.1;
    copies_rise = was.copies_rise.1;
    among = among_behind r files online was.among.1 (subst (λ (n : ℕ). CopiesAbove n online) same was.copies_rise.0);
  };
  entries = ap (λ (o : Option DiscCopy). let e : FileEntry = (r, o) in e ∷ entries_of files (c ∷ online)) (copy_here c online r.number same)
      ∙ ap (λ (l : List FileEntry). let e : FileEntry = (r, Some c.1) in e ∷ l) (entries_above c online files (subst (λ (n : ℕ). FilesAbove n files) (sym same) was.files_rise.0));
}

all_above : (r : FileRec) (files : List FileRec) (c : ℕ × DiscCopy) (online : Copies) → Match (r ∷ files) (c ∷ online) → c.0 ≢ r.number → CopiesAbove r.number (c ∷ online)
all_above r files c online was other =
    let behind : r.number < c.0 = above_contained r.number c.0 files was.files_rise.0 (contains_behind r.number c.0 (numbers files) was.among.0 other) in
    (behind, copies_above_less r.number c.0 online behind was.copies_rise.0)

further_above : (r : FileRec) (files : List FileRec) (online : Copies) → Match (r ∷ files) online → CopiesAbove r.number online → Further r files online None online
further_above r files online was above = record {
  match = record { files_rise = was.files_rise.1; copies_rise = was.copies_rise; among = among_behind r files online was.among above };
  entries = ap (λ (o : Option DiscCopy). let e : FileEntry = (r, o) in e ∷ entries_of files online) (copy_none r.number online above);
}

pub further_without : (r : FileRec) (files : List FileRec) (online : Copies) → Match (r ∷ files) online → ((c : ℕ × DiscCopy) (rest : Copies) → online ≡ c ∷ rest → c.0 ≢ r.number) → Further r files online None online
further_without r files [] was other = further_above r files [] was tt
further_without r files (c ∷ online) was other = further_above r files (c ∷ online) was (all_above r files c online was (other c online refl))

-- THE BLOCK NUMBERS of the files are those of the copies
pub places_are : (files : List FileRec) (online : Copies) → Match files online → all_places (entries_of files online) ≡ numbers_of online
places_are [] [] was = refl
places_are [] (c ∷ online) was = let inside = was.among.0.1 in let no : ⊥ = omega (arith, inside) in absurd no
places_are (r ∷ files) [] was =
    let step = further_without r files [] was (λ c rest is. let no : ⊥ = cc in absurd no) in
    ap all_places step.entries ∙ places_are files [] step.match
places_are (r ∷ files) (c ∷ online) was = ⊎_elim
    (λ (same : c.0 ≡ r.number). let step = further_with r files c online was same in
    ap all_places step.entries ∙ ap (λ (l : List ℕ). c.1.blocks ++ l) (places_are files online step.match))
    (λ (other : c.0 ≢ r.number). let step = further_above r files (c ∷ online) was (all_above r files c online was other) in
    ap all_places step.entries ∙ places_are files (c ∷ online) step.match)
    (cases_eq c.0 r.number)

-- what comparing the next copy shows
pub further_by : (r : FileRec) (files : List FileRec) (online : Copies) (o : Option (Bor DiscCopy)) (rest : Copies) → Match (r ∷ files) online
    → IfSome o (λ copy. online ≡ (r.number, copy.now) ∷ rest) → IfNone o (HasNoCopy r.number online × (rest ≡ online)) → Further r files online (option_copied o) rest
further_by r files online None rest was found none =
    subst (λ (l : Copies). Further r files online None l) (sym none.1) (further_without r files online was none.0.first)
further_by r files online (Some copy) rest was found none =
    let c : ℕ × DiscCopy = (r.number, copy.now) in
    subst (λ (l : Copies). Further r files l (Some copy.now) rest) (sym found) (further_with r files c rest (subst (λ (l : Copies). Match (r ∷ files) l) found was) refl)

-- the first i files lie somewhere
pub record Lying (files : List FileRec) (online : Copies) (i : ℕ) (rest : Copies) : Type 0 where
  pub match : Match (drop i files) rest
  pub same : drop i (entries_of files online) ≡ entries_of (drop i files) rest
  pub before : All LiesSomewhere (take i (entries_of files online))

pub lying_none : (files : List FileRec) (online : Copies) → AreNumbered files → AreCopies files online → Lying files online 0 online
lying_none files online numbered copies = record { match = match_from files online numbered copies; same = refl; before = λ k d inside. let no : ⊥ = omega (arith, inside) in absurd no }

module _ (files : List FileRec) (online rest : Copies) (i : ℕ) (r : FileRec) (inside : i < length files) (at : r ≡ get_or files i r) (was : Lying files online i rest) where
  split : drop i files ≡ r ∷ drop (i + 1) files
  split =
      let next : suc i ≡ i + 1 = omega arith in
      drop-cons files i r inside ∙ ap (λ (s : FileRec). s ∷ drop (suc i) files) (sym at) ∙ ap (λ (n : ℕ). r ∷ drop n files) next

  pub next_match : Match (r ∷ drop (i + 1) files) rest
  next_match = subst (λ (l : List FileRec). Match l rest) split was.match

  pub next_entries : (copy : Option DiscCopy) (others : Copies) → Further r (drop (i + 1) files) rest copy others → drop i (entries_of files online) ≡ (let e : FileEntry = (r, copy) in e ∷ entries_of (drop (i + 1) files) others)
  next_entries copy others step = was.same ∙ ap (λ (l : List FileRec). entries_of l rest) split ∙ step.entries

  within : i < length (entries_of files online)
  within = omega (arith, inside, length-map files (λ (s : FileRec). let e : FileEntry = (s, copy_at online s.number) in e))

  pub next_is : (copy : Option DiscCopy) (others : Copies) → Further r (drop (i + 1) files) rest copy others → (d : FileEntry) → get_or (entries_of files online) i d ≡ (let e : FileEntry = (r, copy) in e)
  next_is copy others step d =
      let none : i + 0 ≡ i = omega arith in
      ap (λ (n : ℕ). get_or (entries_of files online) n d) (sym none) ∙ sym (get_or-drop i (entries_of files online) 0 d) ∙ ap (λ (l : List FileEntry). get_or l 0 d) (next_entries copy others step)

  pub lying_more : (copy : Option DiscCopy) (others : Copies) → Further r (drop (i + 1) files) rest copy others → (let e : FileEntry = (r, copy) in LiesSomewhere e) → Lying files online (i + 1) others
  lying_more copy others step lies = record {
    match = step.match;
    same = sym (drop-drop 1 i (entries_of files online)) ∙ ap (drop 1) (next_entries copy others step);
    before = let e : FileEntry = (r, copy) in All-more LiesSomewhere (entries_of files online) i e within was.before (subst LiesSomewhere (sym (next_is copy others step e)) lies);
  }

  pub lying_no : (copy : Option DiscCopy) (others : Copies) → Further r (drop (i + 1) files) rest copy others → ((let e : FileEntry = (r, copy) in LiesSomewhere e) → ⊥) → All LiesSomewhere (entries_of files online) → ⊥
  lying_no copy others step not all = let e : FileEntry = (r, copy) in not (subst LiesSomewhere (next_is copy others step e) (all i e within))

pub lying_all : (files : List FileRec) (online rest : Copies) (i : ℕ) → length files ≤ i → Lying files online i rest → All LiesSomewhere (entries_of files online)
lying_all files online rest i past was =
    let whole : length (entries_of files online) ≤ i = omega (arith, past, length-map files (λ (s : FileRec). let e : FileEntry = (s, copy_at online s.number) in e)) in
    subst (All LiesSomewhere) (take_all i (entries_of files online) whole) was.before
