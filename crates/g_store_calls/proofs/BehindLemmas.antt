-- A view of a disc stays right where files are taken off, and where a new version is inserted, whose text is the one of its
-- stamp from then on.
-- serves: VersionLemmas, crates above
use Rattle.std.proofs.Common.{◌≡◌, ℕ, ◌<◌, ◌≤◌, Bool, true, false, List, ◌∷◌, get_or, length, Option, Some, None, is_some, refl, sym, ◌∙◌, arith, inl, inr, subst, true≢false, All}
use Rattle.std.specs.Prelude.{◌⊎◌, ◌==◌, Contains, IfSome, filter, nat_lt, if◌then◌else◌}
use Rattle.std.specs.Option.{ForSome}
use Rattle.std.proofs.lemmas.Bool.{cond-false, cond-true, eq-eqb, false≢true, ne_eqb}
use Rattle.std.proofs.lemmas.Option.{none-some, same_Some}
use Rattle.std.proofs.lemmas.List.Elements.{All-append, All-cons, All-contains, All-filter, All-map, Contains-get_or}
use Rattle.g_entry.specs.declared.file_rec.FileRec.{FileRec}
use Rattle.g_tape.specs.Reel.{Reel}
use Rattle.g_dirs.specs.Directory.{Directory, FileEntry}
use Rattle.g_disc_contents.specs.Contents.{Contents, File, contents_of, file_of, has, offline_in, taken_off, with_file}
use Rattle.g_disc_contents.specs.Facts.{OnlineFacts, Pin}
use Rattle.g_incr.specs.Layout.{Dump}
use Rattle.g_shelf.specs.CompletedDumps.{all_dumps}
use Rattle.g_store_meaning.specs.Answers.{Belongs, IsStore, Told}
use Rattle.g_store_meaning.specs.Belonging.{KeepsFile, KeepsRecord}
use Rattle.g_store_meaning.specs.Laws.{with_text}
use Rattle.g_store_meaning.specs.Meaning.{DumpedDirectory, IsContent, files_in, told_reels}
use Rattle.g_store_meaning.specs.Reading.{AllTold, HasText, IsOpenView, IsRackView, IsView, Opened, OpensTo, View}
use Rattle.g_store_meaning.specs.StoreInvariant.{DumpFacts, StoreFacts, content_in}
use Rattle.g_store_meaning.proofs.OneLemmas.{same_dumps, shelves_agree}
use Rattle.g_laws_store.proofs.FileLemmas.{offline_rec}

pub told_then : (held now : Option (List (List ℕ))) (reels : List Reel) → is_some now ≡ is_some held → AllTold now reels → AllTold held reels
told_then held now reels same told = record { disc = sym same ∙ told.disc; each = told.each }

-- the same view of another disc that exposes its contents if and only if the first does
pub rack_seen : (held now : Option (List (List ℕ))) (reels : List Reel) (v : View) → is_some now ≡ is_some held → IsRackView held reels v → IsRackView now reels v
rack_seen held now reels v same right = record {
  shelved = right.shelved;
  all = right.all;
  dumped = λ told. right.dumped (told_then held now reels same told);
  none = λ told. right.none (told_then held now reels same told);
}

pub files_seen : (held now : Option (List (List ℕ))) (reels : List Reel) (v : View) (c : Contents) → is_some now ≡ is_some held → IsView held reels c v → IsView now reels c v
files_seen held now reels v c same right = record {
  rack = rack_seen held now reels v same right.rack;
  files = λ i d within.
      let is = right.files i d within in record { len = is.len; bytes = is.bytes; tape = λ told. is.tape (told_then held now reels same told) };
}

-- files that are taken off have their texts on tape, if the devices expose their contents and belong together
unfoldable pub off : Bool → File → File
off b g = if b then record g { online = false; bytes = None } else g

some_of : {A : Type 0} (o : Option A) → is_some o ≡ true → (x : A) × (o ≡ Some x)
some_of None is = absurd (false≢true is)
some_of (Some x) is = (x, refl)

abbrev TellsOnline : File → Type 0
TellsOnline g = g.online ≡ true → is_some g.bytes ≡ true

tells_one : (held : Option (List (List ℕ))) (e : FileEntry) → is_some held ≡ true → TellsOnline (file_of held e)
tells_one None e told online = absurd (false≢true told)
tells_one (Some blocks) (rec, None) told online = absurd (false≢true online)
tells_one (Some blocks) (rec, Some copy) told online = refl

tells_online : (held : Option (List (List ℕ))) (d : Directory) → is_some held ≡ true → All TellsOnline (contents_of held d).files
tells_online held d told = All-map TellsOnline (file_of held) d.files (λ i e within. tells_one held (get_or d.files i e) told)

abbrev pub CopyHolds : Type 0 → (ℕ → List ℕ) → List Dump → File → Type 0
CopyHolds all text dumps g = all → g.online ≡ true → IfSome g.rec.tape (λ place. IsContent dumps place (text g.rec.stamp))

pub off_text : (all now : Type 0) (text : ℕ → List ℕ) (dumps : List Dump) (b : Bool) (g : File) → (now → all) → CopyHolds all text dumps g → HasText all (text g.rec.stamp) dumps g
    → (let h = off b g in HasText now (text h.rec.stamp) dumps h)
unfolding off
off_text all now text dumps false g back copy is = record { len = is.len; bytes = is.bytes; tape = λ told. is.tape (back told) }
off_text all now text dumps true g back copy is = record {
  len = is.len;
  bytes = λ x none. absurd (none-some x none);
  tape = λ told offline. by_online g.online refl (back told);
}
  where
    by_online : (on : Bool) → g.online ≡ on → all → IfSome g.rec.tape (λ place. IsContent dumps place (text g.rec.stamp))
    by_online true on told = copy told on
    by_online false on told = is.tape told on

-- A NEW TEXT, of the next stamp
module _ (next : ℕ) (bytes : List ℕ) (old : ℕ → List ℕ) where
  abbrev text : ℕ → List ℕ
  text = with_text next bytes old

  pub text_older : (n : ℕ) → n < next → with_text next bytes old n ≡ old n
  text_older n less = cond-false (n == next) bytes (old n) (ne_eqb n next (λ e. let no : ⊥ = omega (arith, less, e) in no))

  pub text_newest : (n : ℕ) → n ≡ next → with_text next bytes old n ≡ bytes
  text_newest n is = cond-true (n == next) bytes (old n) (eq-eqb n next is)

  -- of a dumped tree no text is another
  pub dumped_keep : {dumps : List Dump} (t : DumpedDirectory dumps) → t.last.next ≤ next → All (λ r. KeepsRecord (old r.stamp) dumps r) (files_in t)
      → All (λ r. KeepsRecord (with_text next bytes old r.stamp) dumps r) (files_in t)
  dumped_keep {dumps} t le keep i d within =
      let r : FileRec = get_or (files_in t) i d in
      let below = t.dated i d within in
      subst (λ (x : List ℕ). KeepsRecord x dumps r) (sym (text_older r.stamp (omega (arith, below, le)))) (keep i d within)

  dumped_stay : {dumps : List Dump} (x : Option (DumpedDirectory dumps)) → IfSome x (λ t. t.last.next ≤ next) → IfSome x (λ t. All (λ r. KeepsRecord (old r.stamp) dumps r) (files_in t))
      → IfSome x (λ t. All (λ r. KeepsRecord (with_text next bytes old r.stamp) dumps r) (files_in t))
  dumped_stay None le keep = tt
  dumped_stay (Some t) le keep = dumped_keep t le keep

module _ (s : StoreFacts) (unspent : s.spent ≡ false) (keeps : IsStore s) (belongs : Told s → Belongs s) (v : View) (right : IsView s.online.disc.held (told_reels s.rack) s.online.contents v)
    (now : Option (List (List ℕ))) (same : is_some now ≡ is_some s.online.disc.held) where
  abbrev reels : List Reel
  reels = told_reels s.rack

  abbrev held : Option (List (List ℕ))
  held = s.online.disc.held

  abbrev files : List File
  files = s.online.contents.files

  abbrev next : ℕ
  next = s.online.contents.head.next_stamp

  copy_holds : (g : File) → Contains files g → CopyHolds (AllTold held reels) v.text v.dumps g
  copy_holds g there told on =
      let (text, shelf, shelved, up) = (belongs told).up unspent in
      let is = All-contains (λ (h : File). HasText (AllTold held reels) (v.text h.rec.stamp) v.dumps h) files g right.files there in
      let keeps_file = All-contains (λ (h : File). KeepsFile (text h.rec.stamp) (all_dumps shelf reels) h) files g up.disc.files there in
      let tells : All TellsOnline files =
      subst (λ (x : Contents). All TellsOnline x.files) (sym (keeps.tied.contents (keeps.live unspent))) (tells_online held s.online.layout.directory told.disc) in
      let (bytes, are) = some_of g.bytes (All-contains TellsOnline files g tells there on) in
      let texts : text g.rec.stamp ≡ v.text g.rec.stamp = sym (keeps_file.bytes bytes are) ∙ is.bytes bytes are in
      let dumps : all_dumps shelf reels ≡ v.dumps = same_dumps shelf v.shelf reels (shelves_agree shelf v.shelf reels told.each shelved right.rack.shelved) ∙ sym right.rack.all in
      subst (λ (x : List ℕ). IfSome g.rec.tape (λ place. IsContent v.dumps place x)) texts
      (subst (λ (ds : List Dump). IfSome g.rec.tape (λ place. IsContent ds place (text g.rec.stamp))) dumps keeps_file.rec.copy)

  -- where files are taken off
  off_all : (numbers : List ℕ) → All (λ g. HasText (AllTold now reels) (v.text g.rec.stamp) v.dumps g) (taken_off numbers files)
  unfolding off
  off_all numbers =
      All-map (λ (g : File). HasText (AllTold now reels) (v.text g.rec.stamp) v.dumps g) (offline_in numbers) files
      (λ i d within.
      let g = get_or files i d in
      off_text (AllTold held reels) (AllTold now reels) v.text v.dumps (has numbers g.rec.number) g (told_then held now reels same) (copy_holds g (Contains-get_or files i d within)) (right.files i d within))

  pub view_off : (numbers : List ℕ) (c : Contents) → c.files ≡ taken_off numbers files → IsView now reels c v
  view_off numbers c are = record {
    rack = rack_seen held now reels v same right.rack;
    files = subst (λ (fs : List File). All (λ (g : File). HasText (AllTold now reels) (v.text g.rec.stamp) v.dumps g) fs) (sym are) (off_all numbers);
  }

  -- and a new version is inserted
  module _ (bytes : List ℕ) (f : File) (stamp : f.rec.stamp ≡ next) (len : length bytes ≡ f.rec.len) (told_is : (f.bytes ≡ Some bytes) ⊎ (f.bytes ≡ None)) (online : f.online ≡ true)
      (dated : All (λ g. g.rec.stamp < next) files) (dumped : IfSome v.dumped (λ t. t.last.next ≤ next)) where
    abbrev texts : ℕ → List ℕ
    texts = with_text next bytes v.text

    abbrev Has : File → Type 0
    Has g = HasText (AllTold now reels) (with_text next bytes v.text g.rec.stamp) v.dumps g

    below : (numbers : List ℕ) → All (λ g. g.rec.stamp < next) (taken_off numbers files)
    below numbers =
        All-map (λ (g : File). g.rec.stamp < next) (offline_in numbers) files
        (λ i d within. let g = get_or files i d in subst (λ (r : FileRec). r.stamp < next) (sym (offline_rec (has numbers g.rec.number) g)) (dated i d within))

    others : (numbers : List ℕ) → All Has (taken_off numbers files)
    others numbers i d within =
        let g = get_or (taken_off numbers files) i d in
        subst (λ (x : List ℕ). HasText (AllTold now reels) x v.dumps g) (sym (text_older next bytes v.text g.rec.stamp (below numbers i d within))) (off_all numbers i d within)

    by_told : (f.bytes ≡ Some bytes) ⊎ (f.bytes ≡ None) → ForSome f.bytes (λ b. b ≡ bytes)
    by_told (inl e) b is = same_Some b bytes (sym is ∙ e)
    by_told (inr e) b is = absurd (none-some b (sym e ∙ is))

    newest : Has f
    newest =
        subst (λ (x : List ℕ). HasText (AllTold now reels) x v.dumps f) (sym (text_newest next bytes v.text f.rec.stamp stamp))
        (record { len = len; bytes = by_told told_is; tape = λ told offline. absurd (true≢false (sym online ∙ offline)) })

    pub view_behind : (numbers : List ℕ) (c : Contents) → c.files ≡ with_file f (taken_off numbers files) → IsView now reels c (record v { text = with_text next bytes v.text })
    view_behind numbers c are = record {
      rack = record {
        shelved = right.rack.shelved;
        all = right.rack.all;
        dumped = λ told. dumped_stay next bytes v.text v.dumped dumped (right.rack.dumped (told_then held now reels same told));
        none = λ told. right.rack.none (told_then held now reels same told);
      };
      files = subst (λ (fs : List File). All Has fs) (sym are)
          (All-append Has (filter (λ (g : File). nat_lt g.rec.number f.rec.number) (taken_off numbers files)) (f ∷ filter (λ (g : File). nat_lt f.rec.number g.rec.number) (taken_off numbers files))
          (All-filter (λ (g : File). nat_lt g.rec.number f.rec.number) Has (taken_off numbers files) (others numbers))
          (All-cons Has f (filter (λ (g : File). nat_lt f.rec.number g.rec.number) (taken_off numbers files)) newest
          (All-filter (λ (g : File). nat_lt f.rec.number g.rec.number) Has (taken_off numbers files) (others numbers))));
    }

-- AN OPEN DUMP leaves what it was to leave
abbrev OpensIn : List Reel → View → List Pin → DumpFacts → Type 0
OpensIn reels v pins d = (content : List (List ℕ)) × (content_in pins ≡ Some content) × (opened : Opened) × OpensTo reels v d.plan content opened

opens_stay : (reels : List Reel) (v : View) (next : ℕ) (bytes : List ℕ) (pins : List Pin) (dump : Option DumpFacts) → IfSome v.opened (λ p. p.directory.last.next ≤ next)
    → IfSome dump (OpensIn reels v pins) → IfSome dump (OpensIn reels (record v { text = with_text next bytes v.text }) pins)
opens_stay rs v n bytes pins None le is = tt
opens_stay rs v n bytes pins (Some d) le (content, is_content, p, to) =
    let below : p.directory.last.next ≤ n = subst (λ (x : Option Opened). IfSome x (λ q. q.directory.last.next ≤ n)) to.is le in
    (content, is_content, p, record { is = to.is; dump = to.dump; all = to.all; records = dumped_keep n bytes v.text p.directory below to.records })

pub opens_behind : (reels : List Reel) (v : View) (bytes : List ℕ) (o new : OnlineFacts) (dump : Option DumpFacts) → is_some new.disc.held ≡ is_some o.disc.held → new.pins ≡ o.pins
    → IfSome v.opened (λ p. p.directory.last.next ≤ o.contents.head.next_stamp) → IsOpenView reels v o dump
    → IsOpenView reels (record v { text = with_text o.contents.head.next_stamp bytes v.text }) new dump
opens_behind reels v bytes o new dump same pins_are le opens = record {
  is = λ told pins pinned.
      opens_stay reels v o.contents.head.next_stamp bytes pins dump le (opens.is (told_then o.disc.held new.disc.held reels same told) pins (sym pins_are ∙ pinned));
}
