-- The versions that wait are pinned.
-- serves: pin (ok, tied)
use Rattle.std.proofs.Common.{◌≡◌, ◌≢◌, ◌⊎◌, ℕ, zero, suc, ◌+◌, ◌<◌, ◌==◌, ◌||◌, Bool, true, false, not, List, [], ◌∷◌, ◌++◌, length, get_or, filter, map, take, Option, Some, None, All, AllPairs, refl, sym, ◌∙◌, ap, subst, arith, inl, inr, cond}
use Rattle.std.specs.Prelude.{Contains, IfSome, is_some, slice_index_or}
use Rattle.std.specs.List.{flat_map}
use Rattle.std.proofs.lemmas.Bool.{eq-eqb}
use Rattle.std.proofs.lemmas.List.{get_or-map, length-map}
use Rattle.std.proofs.lemmas.List.Elements.{All-cons, All-contains, All-head, All-map, All-tail, All-weaker, Contains-get_or}
use Rattle.std.proofs.lemmas.List.Kept.{AllPairs-cons}
use Rattle.g_base.specs.Block.{blocks_for}
use Rattle.g_blocks.specs.Pool.{IsFresh, IsInArea}
use Rattle.g_copy.specs.declared.copy.DiscCopy.{DiscCopy}
use Rattle.g_copy.specs.Copy.{blocks_at, bytes_at}
use Rattle.g_disc.specs.Disc.{DiscState}
use Rattle.g_entry.specs.declared.file_rec.FileRec.{FileRec}
use Rattle.g_entry.specs.declared.file_rec.TapeCopy.{TapeCopy}
use Rattle.g_dirs.specs.Directory.{FileEntry, IsCopyOf, LiesSomewhere, all_places, copy_at, entries_of, places_of}
use Rattle.g_dirs.proofs.CopyLemmas.{recs-entries}
use Rattle.g_tree.proofs.ListLemmas.{pairs_first, pairs_rest}
use Rattle.g_tree.proofs.RuleLemmas.{one_of_key}
use Rattle.g_disc_contents.specs.Contents.{File, file_of}
use Rattle.g_disc_contents.specs.Facts.{OnlineFacts}
use Rattle.g_online.specs.declared.pinned.Pinned.{Pinned}
use Rattle.g_online.specs.DumpedVersions.{pinned_of, pins_from, waiting_below}
use Rattle.g_online.specs.Invariant.{ArePinned, IsAgreed, IsFileOf, IsKept, IsPinned, IsPooled, Memory, PinsAre, WaitsPinned, copy_places, directory_in, facts_of, has_stamp, is_current, orphans, pin_of, pins_of}
use Rattle.g_online.specs.Pins.{AreWaiting, ArePinnedFrom, ComesBefore, HasPinned, IsPinnedAt, IsWaiting}
use Rattle.g_online.proofs.CloseNoteLemmas.{pairs_map}
use Rattle.g_online.proofs.PinWaitLemmas.{Before, Waits, all_below, every_below, from_below, order_below, stamps_below, waits_below}
use Rattle.g_online.proofs.SameLemmas.{left_part, right_part}
use Rattle.g_online.proofs.TieLemmas.{rec_of}
use Rattle.g_online.proofs.MemoryLemmas.{kept_anew}

abbrev Told : Type 0
Told = Option (List (List ℕ))

abbrev Copies : Type 0
Copies = List (ℕ × DiscCopy)

-- THE FILE of a record
abbrev file_at : Told → Copies → FileRec → File
file_at held online r = file_of held (r, copy_at online r.number)

files_made : (held : Told) (online : Copies) (files : List FileRec) → map (file_of held) (entries_of files online) ≡ map (file_at held online) files
files_made held online [] = refl
files_made held online (r ∷ files) = ap (λ (l : List File). file_at held online r ∷ l) (files_made held online files)

contains_map : {A B : Type 0} (f : A → B) (xs : List A) (x : A) → Contains xs x → Contains (map f xs) (f x)
contains_map f xs x (k, within, is) = (k, (let long = length-map xs f in omega (arith, within, long)), get_or-map f xs k x (f x) within ∙ ap f is)

found_rec : {B : Type 0} (f : FileRec → B) (files : List FileRec) (y : B) → Contains (map f files) y → (r : FileRec) × Contains files r × (f r ≡ y)
found_rec f [] y (k, within, is) = (let no : ⊥ = omega (arith, within) in absurd no)
found_rec f (r ∷ files) y (zero, within, is) = (r, (0, omega arith, refl), is)
found_rec f (r ∷ files) y (suc k, within, is) =
    let rest = found_rec f files y (k, omega (arith, within), is) in
    let inside = rest.1.1 in
    (rest.0, (suc rest.1.0, omega (arith, inside), rest.1.2), rest.2)

-- WHICH VERSIONS WAIT, as contracts see them
module _ (held : Told) (online : Copies) (files : List FileRec) (rising : AllPairs (λ r s. r.number < s.number) files) (owners : All (λ (r : FileRec). r.owner < 63) files) where
  abbrev F : FileRec → File
  F = file_at held online

  rec_here : (r : FileRec) → (F r).rec ≡ r
  rec_here r = rec_of held (r, copy_at online r.number)

  waits_file : (r : FileRec) → Waits r → IsWaiting (F r)
  waits_file r waits = record {
    filled = subst (λ (s : FileRec). 0 < s.len) (sym (rec_here r)) waits.filled;
    none = ap (λ (s : FileRec). s.tape) (rec_here r) ∙ waits.none;
  }

  comes_file : (r s : FileRec) → Before r s → ComesBefore (F r) (F s)
  comes_file r s before = subst (λ (x : FileRec). Before x (F s).rec) (sym (rec_here r)) (subst (Before r) (sym (rec_here s)) before)

  every_file : (f : File) → Contains (map F files) f → IsWaiting f → Contains (map F (waiting_below 63 files)) f
  every_file f there waits =
      let it = found_rec F files f there in
      let r : FileRec = it.0 in
      let same : f.rec ≡ r = ap (λ (g : File). g.rec) (sym it.2) ∙ rec_here r in
      let rec_waits : Waits r = record { filled = subst (λ (s : FileRec). 0 < s.len) same waits.filled; none = ap (λ (s : FileRec). s.tape) (sym same) ∙ waits.none } in
      subst (Contains (map F (waiting_below 63 files))) it.2
      (contains_map F (waiting_below 63 files) r (every_below files 63 r it.1 (All-contains (λ (s : FileRec). s.owner < 63) files r owners it.1) rec_waits))

  pub are_waiting : AreWaiting (map F files) (map F (waiting_below 63 files))
  are_waiting = record {
    from = All-map (Contains (map F files)) F (waiting_below 63 files)
        (All-weaker (Contains files) (λ (r : FileRec). Contains (map F files) (F r)) (contains_map F files) (waiting_below 63 files) (from_below files 63));
    each = All-map IsWaiting F (waiting_below 63 files)
        (All-weaker (λ (r : FileRec). (r.owner < 63) × Waits r) (λ (r : FileRec). IsWaiting (F r)) (λ r both. waits_file r both.1) (waiting_below 63 files) (waits_below files 63));
    every = every_file;
    in_order = pairs_map ComesBefore F (waiting_below 63 files)
        (λ i j d less within. comes_file (get_or (waiting_below 63 files) i d) (get_or (waiting_below 63 files) j d) (order_below files 63 rising i j d less within));
  }

-- THE BLOCKS of a version, and its bytes
joined : (f : ℕ → List ℕ) (places : List ℕ) → flat_map (λ (b : List ℕ). b) (map f places) ≡ flat_map f places
joined f [] = refl
joined f (k ∷ places) = ap (λ (l : List ℕ). f k ++ l) (joined f places)

bytes_here : (b : List (List ℕ)) (places : List ℕ) (len : ℕ) → bytes_at places len b ≡ take len (flat_map (λ (block : List ℕ). block) (map (λ k. slice_index_or b k []) places))
unfolding blocks_at
bytes_here b places len = ap (λ (l : List ℕ). take len l) (sym (joined (λ k. slice_index_or b k []) places))

told_bytes : (held : Told) (r : FileRec) (copy : DiscCopy) (blocks : List (List ℕ)) → copy.len ≡ r.len
    → (let q : Pinned = record { stamp = r.stamp; number = r.number; len = r.len; copy = record { serial = 0; first = 0 }; blocks = copy.blocks } in (pin_of held q).blocks) ≡ Some blocks
    → (file_of held (r, Some copy)).bytes ≡ Some (take r.len (flat_map (λ (block : List ℕ). block) blocks))
told_bytes None r copy blocks len told = absurd (none_told told)
  where
    none_told : (let none : Told = None in none ≡ Some blocks) → ⊥
    none_told e = cc
told_bytes (Some b) r copy blocks len told =
    ap (λ (l : List ℕ). Some l)
    (bytes_here b copy.blocks copy.len ∙ ap (λ (n : ℕ). take n (flat_map (λ (block : List ℕ). block) (map (λ k. slice_index_or b k []) copy.blocks))) len
    ∙ ap (λ (bs : List (List ℕ)). take r.len (flat_map (λ (block : List ℕ). block) bs)) (same_told (map (λ k. slice_index_or b k []) copy.blocks) blocks told))
  where
    same_told : (x y : List (List ℕ)) → (let one : Told = Some x in one ≡ Some y) → x ≡ y
    same_told x y e = cc

one_pinned : (held : Told) (serial at : ℕ) (r : FileRec) (found : Option DiscCopy) → is_some found ≡ true → IfSome found (IsCopyOf r)
    → IsPinnedAt serial at (file_of held (r, found)) (pin_of held (record { stamp = r.stamp; number = r.number; len = r.len; copy = record { serial = serial; first = at }; blocks = copy_places found }))
one_pinned held serial at r None some fits = (let no : ⊥ = cc in absurd no)
one_pinned held serial at r (Some copy) some fits = record {
  online = refl;
  stamp = refl;
  len = refl;
  copy = refl;
  bytes = λ blocks told. told_bytes held r copy blocks fits.len told;
}

-- WHAT IS KNOWN of the records
pub record IsLaid (size next : ℕ) (online : Copies) (r : FileRec) : Type 0 where
  pub older : r.stamp < next
  pub lies : LiesSomewhere (r, copy_at online r.number)
  pub area : All (IsInArea size) (copy_places (copy_at online r.number))

place_copy : (r : FileRec) (c : Option DiscCopy) → places_of (r, c) ≡ copy_places c
place_copy r None = refl
place_copy r (Some c) = refl

all_laid : (size next : ℕ) (online : Copies) (files : List FileRec) → All (λ (r : FileRec). r.stamp < next) files → All LiesSomewhere (entries_of files online) → All (IsInArea size) (all_places (entries_of files online))
    → All (IsLaid size next online) files
all_laid size next online [] dated lies area = λ k d within. (let no : ⊥ = omega (arith, within) in absurd no)
all_laid size next online (r ∷ files) dated lies area =
    let e : FileEntry = (r, copy_at online r.number) in
    let rest : List FileEntry = entries_of files online in
    All-cons (IsLaid size next online) r files
    (record {
      older = All-head (λ (s : FileRec). s.stamp < next) r files dated;
      lies = All-head LiesSomewhere e rest lies;
      area = subst (All (IsInArea size)) (place_copy r (copy_at online r.number)) (left_part (IsInArea size) (places_of e) (all_places rest) area);
    })
    (all_laid size next online files (All-tail (λ (s : FileRec). s.stamp < next) r files dated) (All-tail LiesSomewhere e rest lies) (right_part (IsInArea size) (places_of e) (all_places rest) area))

on_disc : (r : FileRec) (found : Option DiscCopy) → LiesSomewhere (r, found) → r.tape ≡ None → is_some found ≡ true
on_disc r found lies none = by_place lies.lies
  where
    by_place : (is_some found ≡ true) ⊎ (is_some r.tape ≡ true) → is_some found ≡ true
    by_place (inl is) = is
    by_place (inr copied) = (let wrong = sym copied ∙ ap (λ (t : Option TapeCopy). is_some t) none in let no : ⊥ = cc in absurd no)

count_of : (r : FileRec) (found : Option DiscCopy) → is_some found ≡ true → IfSome found (IsCopyOf r) → length (copy_places found) ≡ blocks_for r.len
count_of r None some fits = (let no : ⊥ = cc in absurd no)
count_of r (Some copy) some fits = fits.count

-- each version has its pin
module _ (held : Told) (serial size next : ℕ) (online : Copies) where
  pins_made : (at : ℕ) (rs : List FileRec) → All (IsLaid size next online) rs → All Waits rs → ArePinnedFrom serial at (map (file_at held online) rs) (map (pin_of held) (pins_from serial at online rs))
  pins_made at [] laid waits = refl
  pins_made at (r ∷ rs) laid waits =
      let it = All-head (IsLaid size next online) r rs laid in
      let waiting = All-head Waits r rs waits in (
        pin_of held (pinned_of serial at online r),
        map (pin_of held) (pins_from serial (at + blocks_for r.len) online rs),
        refl,
        one_pinned held serial at r (copy_at online r.number) (on_disc r (copy_at online r.number) it.lies waiting.none) it.lies.copy,
        subst (λ (s : FileRec). ArePinnedFrom serial (at + blocks_for s.len) (map (file_at held online) rs) (map (pin_of held) (pins_from serial (at + blocks_for r.len) online rs)))
            (sym (rec_of held (r, copy_at online r.number)))
            (pins_made (at + blocks_for r.len) rs (All-tail (IsLaid size next online) r rs laid) (All-tail Waits r rs waits)),
      )

-- what holds of each pin
pins_all : (P : Pinned → Type 0) (serial at : ℕ) (online : Copies) (rs : List FileRec) → All (λ (r : FileRec). (k : ℕ) → P (pinned_of serial k online r)) rs → All P (pins_from serial at online rs)
pins_all P serial at online [] all = λ k d within. (let no : ⊥ = omega (arith, within) in absurd no)
pins_all P serial at online (r ∷ rs) all =
    let Q : FileRec → Type 0 = λ s. (k : ℕ) → P (pinned_of serial k online s) in
    All-cons P (pinned_of serial at online r) (pins_from serial (at + blocks_for r.len) online rs) (All-head Q r rs all at) (pins_all P serial (at + blocks_for r.len) online rs (All-tail Q r rs all))

pins_apart : (serial at : ℕ) (online : Copies) (rs : List FileRec) → AllPairs (λ r s. r.stamp ≢ s.stamp) rs → AllPairs (λ p q. p.stamp ≢ q.stamp) (pins_from serial at online rs)
pins_apart serial at online [] apart = λ i j d less within. (let no : ⊥ = omega (arith, within) in absurd no)
pins_apart serial at online (r ∷ rs) apart =
    let R : FileRec → FileRec → Type 0 = λ x y. x.stamp ≢ y.stamp in
    AllPairs-cons (λ (p : Pinned) (q : Pinned). p.stamp ≢ q.stamp) (pinned_of serial at online r) (pins_from serial (at + blocks_for r.len) online rs)
    (pins_all (λ (q : Pinned). r.stamp ≢ q.stamp) serial (at + blocks_for r.len) online rs (All-weaker (λ (s : FileRec). r.stamp ≢ s.stamp) (λ (s : FileRec). (k : ℕ) → r.stamp ≢ s.stamp) (λ s other k. other) rs (pairs_first R r rs apart)))
    (pins_apart serial (at + blocks_for r.len) online rs (pairs_rest R r rs apart))

has_pin : (serial at : ℕ) (online : Copies) (rs : List FileRec) (s : FileRec) → Contains rs s → has_stamp (pins_from serial at online rs) s.stamp ≡ true
has_pin serial at online [] s (k, within, is) = (let no : ⊥ = omega (arith, within) in absurd no)
has_pin serial at online (r ∷ rs) s (zero, within, is) =
    ap (λ (b : Bool). b || has_stamp (pins_from serial (at + blocks_for r.len) online rs) s.stamp) (eq-eqb r.stamp s.stamp (ap (λ (x : FileRec). x.stamp) is))
has_pin serial at online (r ∷ rs) s (suc k, within, is) = or_right (r.stamp == s.stamp) (has_stamp (pins_from serial (at + blocks_for r.len) online rs) s.stamp) (has_pin serial (at + blocks_for r.len) online rs s (k, omega (arith, within), is))
  where
    or_right : (a b : Bool) → b ≡ true → (a || b) ≡ true
    or_right true b is = refl
    or_right false b is = is

-- THEY ARE PINNED as memory has them
module _ (size next serial first : ℕ) (online : Copies) (files : List FileRec) (rising : AllPairs (λ r s. r.number < s.number) files) (stamps : AllPairs (λ r s. r.stamp ≢ s.stamp) files) (owners : All (λ (r : FileRec). r.owner < 63) files)
    (laid : All (IsLaid size next online) files) where
  abbrev rs : List FileRec
  rs = waiting_below 63 files

  abbrev pins : List Pinned
  pins = pins_from serial first online rs

  abbrev entries : List FileEntry
  entries = entries_of files online

  version_of : (r s : FileRec) (k : ℕ) → Contains files r → Contains files s → Waits r → IsFileOf (pinned_of serial k online r) (let f : FileEntry = (s, copy_at online s.number) in f)
  version_of r s k r_in s_in waits = λ same.
      let it : s ≡ r = one_of_key (λ (x : FileRec). x.stamp) files s r stamps s_in r_in same in (
        ap (λ (x : FileRec). x.len) it,
        ap (λ (x : FileRec). x.tape) it ∙ waits.none,
        place_copy s (copy_at online s.number) ∙ ap (λ (x : FileRec). copy_places (copy_at online x.number)) it,
        ap (λ (x : FileRec). x.number) it,
      )

  pin_is : (r : FileRec) (k : ℕ) → Contains files r → Waits r → IsPinned size next entries (pinned_of serial k online r)
  pin_is r k there waits =
      let it = All-contains (IsLaid size next online) files r laid there in
      record {
        older = it.older;
        filled = waits.filled;
        count = count_of r (copy_at online r.number) (on_disc r (copy_at online r.number) it.lies waits.none) it.lies.copy;
        area = it.area;
        current = All-map (IsFileOf (pinned_of serial k online r)) (λ (s : FileRec). let f : FileEntry = (s, copy_at online s.number) in f) files
            (λ j d within. version_of r (get_or files j d) k there (Contains-get_or files j d within) waits);
      }

  pin_each : All (IsPinned size next entries) pins
  pin_each =
      pins_all (IsPinned size next entries) serial first online rs
      (λ j d within k. pin_is (get_or rs j d) k (from_below files 63 j d within) (waits_below files 63 j d within).1)

  file_waits : (touched : List ℕ) (r : FileRec) → Contains files r → WaitsPinned pins touched (let f : FileEntry = (r, copy_at online r.number) in f)
  file_waits touched r there = λ filled none.
      inl (has_pin serial first online rs r (every_below files 63 r there (All-contains (λ (s : FileRec). s.owner < 63) files r owners there) (record { filled = filled; none = none })))

  pub are_pinned : (touched : List ℕ) → ArePinned size next entries touched pins
  are_pinned touched = record {
    each = pin_each;
    apart = pins_apart serial first online rs (stamps_below files 63 rising stamps);
    waits = All-map (WaitsPinned pins touched) (λ (s : FileRec). let f : FileEntry = (s, copy_at online s.number) in f) files
        (λ j d within. file_waits touched (get_or files j d) (Contains-get_or files j d within));
  }

  -- each is a file's version, so that no block is lost
  current_in : (fs : List FileRec) (r : FileRec) → Contains fs r → is_current (entries_of fs online) r.stamp ≡ true
  current_in [] r (k, within, is) = (let no : ⊥ = omega (arith, within) in absurd no)
  current_in (s ∷ fs) r (zero, within, is) = ap (λ (b : Bool). b || is_current (entries_of fs online) r.stamp) (eq-eqb s.stamp r.stamp (ap (λ (x : FileRec). x.stamp) is))
  current_in (s ∷ fs) r (suc k, within, is) = or_true (s.stamp == r.stamp) (is_current (entries_of fs online) r.stamp) (current_in fs r (k, omega (arith, within), is))
    where
      or_true : (a b : Bool) → b ≡ true → (a || b) ≡ true
      or_true true b is = refl
      or_true false b is = is

  none_lost : (ps : List Pinned) → All (λ (p : Pinned). is_current entries p.stamp ≡ true) ps → orphans (Some ps) entries ≡ []
  none_lost [] all = refl
  none_lost (p ∷ ps) all =
      let P : Pinned → Type 0 = λ q. is_current entries q.stamp ≡ true in
      let rest : List Pinned = filter (λ (q : Pinned). not (is_current entries q.stamp)) ps in
      ap (λ (b : Bool). flat_map (λ (q : Pinned). q.blocks) (cond (not b) (p ∷ rest) rest)) (All-head P p ps all) ∙ none_lost ps (All-tail P p ps all)

  pub pool_pinned : (pool : List Bool) → IsPooled size None entries pool → IsPooled size (Some pins) entries pool
  pool_pinned pool was =
      let lost : orphans (Some pins) entries ≡ [] =
      none_lost pins (pins_all (λ (p : Pinned). is_current entries p.stamp ≡ true) serial first online rs (λ j d within k. current_in files (get_or rs j d) (from_below files 63 j d within))) in
      let used : all_places entries ++ [] ≡ all_places entries ++ orphans (Some pins) entries = ap (λ (l : List ℕ). all_places entries ++ l) (sym lost) in
      record {
        fresh = subst (λ (u : List ℕ). IsFresh size u pool) used was.fresh;
        area = subst (λ (u : List ℕ). All (IsInArea size) u) used was.area;
        apart = subst (λ (u : List ℕ). AllPairs (λ j k. j ≢ k) u) used was.apart;
      }

-- PINNED
no_pins : (held : Told) (pins : Option (List Pinned)) → pins_of held pins ≡ None → pins ≡ None
no_pins held None none = refl
no_pins held (Some pins) none = (let no : ⊥ = cc in absurd no)

module _ (disc : DiscState) (m : Memory) (o : OnlineFacts) (is : facts_of disc m ≡ o) (kept : IsKept disc m) (live' : o.live ≡ true) (none' : o.pins ≡ None) where
  live : m.live ≡ true
  live = ap (λ (p : OnlineFacts). p.live) is ∙ live'

  none : m.pins ≡ None
  none = no_pins disc.held m.pins (ap (λ (p : OnlineFacts). p.pins) is ∙ none')

  was : IsAgreed disc m
  was = kept.agreed live

  nobody : m.touched ≡ []
  nobody = subst (λ (ps : Option (List Pinned)). PinsAre ps disc.size m.head.next_stamp (directory_in m).files m.touched) none was.pins

  recs : map (λ (e : FileEntry). e.0) (entries_of m.files m.online) ≡ m.files
  recs = recs-entries m.files m.online

  rising : AllPairs (λ r s. r.number < s.number) m.files
  rising = subst (λ (rs : List FileRec). AllPairs (λ (r : FileRec) (s : FileRec). r.number < s.number) rs) recs was.stored.rules.numbered.rising

  stamps : AllPairs (λ r s. r.stamp ≢ s.stamp) m.files
  stamps = subst (λ (rs : List FileRec). AllPairs (λ (r : FileRec) (s : FileRec). r.stamp ≢ s.stamp) rs) recs was.stored.rules.files.stamps

  owners : All (λ (r : FileRec). r.owner < 63) m.files
  owners =
      let few = was.stored.rules.users.few in
      All-weaker (λ (r : FileRec). r.owner < length m.users) (λ (r : FileRec). r.owner < 63) (λ r less. omega (arith, less, few)) m.files
      (subst (λ (rs : List FileRec). All (λ (r : FileRec). r.owner < length m.users) rs) recs was.stored.rules.files.owners)

  laid : All (IsLaid disc.size m.head.next_stamp m.online) m.files
  laid =
      all_laid disc.size m.head.next_stamp m.online m.files (subst (λ (rs : List FileRec). All (λ (r : FileRec). r.stamp < m.head.next_stamp) rs) recs was.stored.rules.dated) was.stored.rules.lies was.stored.rules.area

  -- the memory afterwards
  pub pinned_kept : (serial first : ℕ) (listed : List Pinned) → listed ≡ pins_from serial first m.online (waiting_below 63 m.files) → IsKept disc (record m { pins = Some listed })
  pinned_kept serial first listed pins_are = subst (λ (ps : List Pinned). IsKept disc (record m { pins = Some ps })) (sym pins_are)
      (kept_anew disc m m.pool (Some (pins_from serial first m.online (waiting_below 63 m.files))) m.changed m.touched kept
      (λ still. pool_pinned disc.size m.head.next_stamp serial first m.online m.files rising stamps owners laid m.pool
      (subst (λ (ps : Option (List Pinned)). IsPooled disc.size ps (directory_in m).files m.pool) none was.pool))
      (λ still. was.noted) (λ still. are_pinned disc.size m.head.next_stamp serial first m.online m.files rising stamps owners laid m.touched))

  has_pinned : (serial first : ℕ) → HasPinned serial first (facts_of disc m) (facts_of disc (record m { pins = Some (pins_from serial first m.online (waiting_below 63 m.files)) }))
  has_pinned serial first = record {
    waiting = map (file_at disc.held m.online) (waiting_below 63 m.files);
    are = subst (λ (fs : List File). AreWaiting fs (map (file_at disc.held m.online) (waiting_below 63 m.files))) (sym (files_made disc.held m.online m.files)) (are_waiting disc.held m.online m.files rising owners);
    pins = map (pin_of disc.held) (pins_from serial first m.online (waiting_below 63 m.files));
    pinned = pins_made disc.held serial disc.size m.head.next_stamp m.online first (waiting_below 63 m.files) (all_below m.files (IsLaid disc.size m.head.next_stamp m.online) 63 laid)
        (All-weaker (λ (r : FileRec). (r.owner < 63) × Waits r) Waits (λ r both. both.1) (waiting_below 63 m.files) (waits_below m.files 63));
    rest = λ i.
        let before : OnlineFacts = facts_of disc m in
        record before { pins = Some (map (pin_of disc.held) (pins_from serial first m.online (waiting_below 63 m.files))); touched = nobody i };
  }

  pub pinned_facts : (serial first : ℕ) (listed : List Pinned) → listed ≡ pins_from serial first m.online (waiting_below 63 m.files) → HasPinned serial first o (facts_of disc (record m { pins = Some listed }))
  pinned_facts serial first listed pins_are =
      subst (λ (old : OnlineFacts). HasPinned serial first old (facts_of disc (record m { pins = Some listed }))) is
      (subst (λ (ps : List Pinned). HasPinned serial first (facts_of disc m) (facts_of disc (record m { pins = Some ps }))) (sym pins_are) (has_pinned serial first))
