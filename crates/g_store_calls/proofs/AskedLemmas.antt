-- What is known of a store when a call that adds or brings bytes arrives, whether or not its devices expose their contents.
-- If they do, disc and rack belong together, and the state is that of the store's own view. Otherwise any bytes of a
-- version's length will do.
-- serves: AppendLemmas, AppendedLemmas, BroughtLemmas, HereLemmas, TapeLemmas
use Rattle.std.proofs.Common.{◌≡◌, ◌≢◌, ℕ, Bool, true, false, List, [], ◌∷◌, get_or, length, Option, Some, None, refl, sym, ◌∙◌, ap, inl, inr, subst}
use Rattle.std.specs.Prelude.{◌⊎◌, ◌==◌, ◌≤◌, All, AllPairs, Contains, IfSome, is_some, if◌then◌else◌}
use Rattle.std.specs.Option.{ForSome}
use Rattle.std.proofs.lemmas.Bool.{cases_Bool, cases_eq, cond-false, cond-true, eq-eqb, false≢true, ne_eqb, true≢false}
use Rattle.std.proofs.lemmas.List.Elements.{All-cons, All-contains, All-head, All-map, All-nil, All-tail, All-weaker, Contains-get_or}
use Rattle.std.proofs.lemmas.List.Kept.{AllPairs-filter}
use Rattle.std.proofs.lemmas.Option.{none-some}
use Rattle.g_entry.specs.Rules.{StampsBelow}
use Rattle.g_tape.specs.Rack.{Rack}
use Rattle.g_tape.specs.Reel.{Reel}
use Rattle.g_tree.specs.Records.{IsRecords}
use Rattle.g_tree.proofs.RuleLemmas.{one_of_key}
use Rattle.g_dirs.specs.Directory.{Directory, FileEntry}
use Rattle.g_disc_contents.specs.Contents.{Contents, File, contents_of, file_of, has, offline_in, recs_in, taken_off}
use Rattle.g_disc_contents.specs.Facts.{OnlineFacts, Pin}
use Rattle.g_incr.specs.Layout.{Dump}
use Rattle.g_incr.specs.Plan.{dump_of, first_content, waiting, waits}
use Rattle.g_shelf.specs.CompletedDumps.{all_dumps}
use Rattle.g_store_model.specs.State.{State}
use Rattle.g_store_meaning.specs.Answers.{Belongs, IsStore, Told}
use Rattle.g_store_meaning.specs.Belonging.{KeepsFile}
use Rattle.g_store_meaning.specs.Laws.{with_text}
use Rattle.g_store_meaning.specs.Meaning.{DumpedDirectory, IsContent, told_reels}
use Rattle.g_store_meaning.specs.Reading.{AllTold, HasText, IsOpenView, IsView, Opened, OpensTo, StandsForState, View, state_up}
use Rattle.g_store_meaning.specs.StoreInvariant.{DumpFacts, IsOpen, IsReady, StoreFacts, content_in, with_dump}
use Rattle.g_store_meaning.proofs.OneLemmas.{same_dumps, shelves_agree}
use Rattle.g_laws_store.specs.Calls.{IsAsked}
use Rattle.g_laws_store.proofs.PinLemmas.{OtherStamp}
use Rattle.g_laws_store.specs.Places.{AreDistinct}
use Rattle.g_laws_store.specs.Rooms.{ArePins, HasLength}
use Rattle.g_laws_store.specs.UnjamPlan.{ArePlanned}
use Rattle.g_laws_store.proofs.NeedsLemmas.{pins_differ}
use Rattle.g_laws_store.proofs.RoomLemmas.{files_apart}
use Rattle.g_migrate.proofs.MigrationLemmas.{rules_here}
use Rattle.g_store_calls.specs.Answering.{KeepsPlan}
use Rattle.g_store_calls.proofs.SeenLemmas.{Seen, seen}
use Rattle.g_store_calls.proofs.AheadLemmas.{agree_with}

-- whether everything is exposed
abbrev Tells : Reel → Type 0
Tells r = is_some r.blocks ≡ true

each_or : (reels : List Reel) → All Tells reels ⊎ (All Tells reels → ⊥)
each_or [] = inl (All-nil Tells)
each_or (r ∷ rs) = by_first (cases_Bool (is_some r.blocks)) (each_or rs)
  where
    by_first : (is_some r.blocks ≡ true) ⊎ (is_some r.blocks ≡ false) → All Tells rs ⊎ (All Tells rs → ⊥) → All Tells (r ∷ rs) ⊎ (All Tells (r ∷ rs) → ⊥)
    by_first (inl is) (inl all) = inl (All-cons Tells r rs is all)
    by_first (inl is) (inr some) = inr (λ all. some (All-tail Tells r rs all))
    by_first (inr isnt) rest = inr (λ all. false≢true (sym isnt ∙ All-head Tells r rs all))

pub told_or : (held : Option (List (List ℕ))) (reels : List Reel) → AllTold held reels ⊎ (AllTold held reels → ⊥)
told_or held reels = by_disc (cases_Bool (is_some held)) (each_or reels)
  where
    by_disc : (is_some held ≡ true) ⊎ (is_some held ≡ false) → All Tells reels ⊎ (All Tells reels → ⊥) → AllTold held reels ⊎ (AllTold held reels → ⊥)
    by_disc (inl is) (inl all) = inl (record { disc = is; each = record { each = all } })
    by_disc (inl is) (inr some) = inr (λ told. some told.each.each)
    by_disc (inr isnt) rest = inr (λ told. false≢true (sym isnt ∙ told.disc))

-- what is known in both cases
pub record IsPrepared (o : OnlineFacts) (dump : Option DumpFacts) : Type 0 where
  pub records : IsRecords o.contents.users (recs_in o.contents)
  pub dated : StampsBelow o.contents.head.next_stamp (recs_in o.contents)
  pub pins : ArePins dump o.pins
  pub pinned : is_some o.pins ≡ is_some dump

abbrev ApartPins : Option (List Pin) → Type 0
ApartPins pins = IfSome pins (AllPairs (λ (p q : Pin). p.stamp ≢ q.stamp))

pins_apart : (o : OnlineFacts) (rack : Rack) (dump : Option DumpFacts) → KeepsPlan dump → IfSome dump (λ d. IsOpen d o rack) → (dump ≡ None → o.pins ≡ None) → ApartPins o.pins
pins_apart o rack None plan open_is none = subst ApartPins (sym (none refl)) tt
pins_apart o rack (Some d) plan open_is none =
    subst ApartPins (sym open_is.pinned)
    (pins_differ d.plan.serial (first_content d.plan) (waiting d.plan.files) open_is.pins open_is.are (AllPairs-filter OtherStamp waits d.plan.files plan.files.stamps))

pins_open : (o : OnlineFacts) (rack : Rack) (dump : Option DumpFacts) → IfSome dump (λ d. IsOpen d o rack) → (dump ≡ None → o.pins ≡ None) → is_some o.pins ≡ is_some dump
pins_open o rack None open_is none = ap is_some (none refl)
pins_open o rack (Some d) open_is none = ap is_some open_is.pinned

pub prepared : (s : StoreFacts) → s.spent ≡ false → IsStore s → KeepsPlan s.dump → IsPrepared s.online s.dump
prepared s unspent store plan =
    let rules = rules_here s.online (store.live unspent) store.tied in
    record {
      records = rules.records;
      dated = rules.dated;
      pins = record { none = store.pins unspent; apart = pins_apart s.online s.rack s.dump plan (store.open_dump unspent) (store.pins unspent) };
      pinned = pins_open s.online s.rack s.dump (store.open_dump unspent) (store.pins unspent);
    }

-- texts of a view have the lengths of the records
pub long_texts : (told : Type 0) (text : ℕ → List ℕ) (dumps : List Dump) (files : List File) → All (λ f. HasText told (text f.rec.stamp) dumps f) files → All (HasLength text) files
long_texts told text dumps files are = All-weaker (λ (f : File). HasText told (text f.rec.stamp) dumps f) (HasLength text) (λ f has. has.len) files are

pub planned : (v : View) (o : OnlineFacts) (dump : Option DumpFacts) (reels : List Reel) → IsPrepared o dump → IsView o.disc.held reels o.contents v → ArePlanned v o dump
planned v o dump reels is right =
    record { records = is.records; long = long_texts (AllTold o.disc.held reels) v.text v.dumps o.contents.files right.files; pins = is.pins }

-- a view to which the laws of calls apply; if everything is exposed its state is the one that was met
pub record Asked (o : OnlineFacts) (reels : List Reel) (dump : Option DumpFacts) (u : State) : Type 0 where
  pub view : View
  pub is : IsView o.disc.held reels o.contents view
  pub opens : IsOpenView reels view o dump
  pub known : IsAsked view o dump
  pub told : AllTold o.disc.held reels → state_up view reels o dump ≡ u

asked_by : (o : OnlineFacts) (dump : Option DumpFacts) (reels : List Reel) (v : View) → IsPrepared o dump → IsView o.disc.held reels o.contents v
    → IfSome v.dumped (λ t. t.last.next ≤ o.contents.head.next_stamp) → IfSome v.opened (λ p. p.directory.last.next ≤ o.contents.head.next_stamp) → IsAsked v o dump
asked_by o dump reels v is right dumped opened = record {
  records = is.records;
  dated = is.dated;
  long = long_texts (AllTold o.disc.held reels) v.text v.dumps o.contents.files right.files;
  pins = is.pins;
  pinned = is.pinned;
  dumped = dumped;
  opened = opened;
}

-- everything is exposed
dumped_below : (dumps : List Dump) (next : ℕ) → ((d : Dump) → Contains dumps d → d.next ≤ next) → (x : Option (DumpedDirectory dumps)) → IfSome x (λ t. t.last.next ≤ next)
dumped_below dumps next below None = tt
dumped_below dumps next below (Some t) = below t.last t.greatest.there

no_dump : (v : View) (reels : List Reel) (o : OnlineFacts) (dump : Option DumpFacts) → dump ≡ None → state_up (record v { opened = None }) reels o dump ≡ state_up v reels o dump
no_dump v reels o None none = refl
no_dump v reels o (Some d) none = absurd (none-some d (sym none))

module _ (s : StoreFacts) (unspent : s.spent ≡ false) (store : IsStore s) (plan : KeepsPlan s.dump) where
  abbrev o : OnlineFacts
  o = s.online

  abbrev reels : List Reel
  reels = told_reels s.rack

  abbrev AskedHere : State → Type 0
  AskedHere u = Asked o reels s.dump u

  module _ (v : View) (right : IsView o.disc.held reels o.contents v) (opens : IsOpenView reels v o s.dump) (told : Told s) (belongs : Belongs s) where
    abbrev next : ℕ
    next = o.contents.head.next_stamp

    next_below : (d : Dump) → Contains v.dumps d → d.next ≤ next
    next_below d there =
        let (text, shelf, shelved, up) = belongs.up unspent in
        let same : v.dumps ≡ all_dumps shelf reels = right.rack.all ∙ same_dumps v.shelf shelf reels (shelves_agree v.shelf shelf reels told.each right.rack.shelved shelved) in
        up.disc.stamps d (subst (λ (ds : List Dump). Contains ds d) same there)

    opened_below : (d : DumpFacts) → s.dump ≡ Some d → IfSome v.opened (λ p. p.directory.last.next ≤ next)
    opened_below d is =
        let (text, shelf, shelved, up) = belongs.up unspent in
        let open_is : IsOpen d o s.rack = subst (λ (x : Option DumpFacts). IfSome x (λ e. IsOpen e o s.rack)) is (store.open_dump unspent) in
        let kept : (content : List (List ℕ)) × (content_in open_is.pins ≡ Some content) × (opened : Opened) × OpensTo reels v d.plan content opened =
        subst (λ (x : Option DumpFacts). IfSome x (λ e. (content : List (List ℕ)) × (content_in open_is.pins ≡ Some content) × (opened : Opened) × OpensTo reels v e.plan content opened)) is
        (opens.is told open_is.pins open_is.pinned) in
        let (content, content_is, opened, to) = kept in
        let ready : IsReady text shelf reels o (dump_of d.plan content) =
        subst (λ (x : Option DumpFacts). IfSome x (λ e. (pins : List Pin) → o.pins ≡ Some pins → ForSome (content_in pins) (λ c. IsReady text shelf reels o (dump_of e.plan c)))) is up.open_dump
        open_is.pins open_is.pinned content content_is in
        let made : Dump = dump_of d.plan content in
        let same : opened.dumps ≡ all_dumps (with_dump made shelf) reels =
        to.all ∙ same_dumps (with_dump made v.shelf) (with_dump made shelf) reels
        (agree_with made v.shelf shelf reels (shelves_agree v.shelf shelf reels told.each right.rack.shelved shelved)) in
        subst (λ (x : Option Opened). IfSome x (λ p. p.directory.last.next ≤ next)) (sym to.is)
        (ready.disc.stamps opened.directory.last (subst (λ (ds : List Dump). Contains ds opened.directory.last) same opened.directory.greatest.there))

    abbrev closed : View
    closed = record v { opened = None }

    right_closed : IsView o.disc.held reels o.contents closed
    right_closed = record {
      rack = record { shelved = right.rack.shelved; all = right.rack.all; dumped = right.rack.dumped; none = right.rack.none };
      files = right.files;
    }

    told_by : (dump : Option DumpFacts) → s.dump ≡ dump → AskedHere (state_up v reels o s.dump)
    told_by None none = record {
      view = closed;
      is = right_closed;
      opens = record { is = λ all pins pinned. absurd (none-some pins (sym (store.pins unspent none) ∙ pinned)) };
      known = asked_by o s.dump reels closed (prepared s unspent store plan) right_closed (dumped_below v.dumps next next_below v.dumped) tt;
      told = λ all. no_dump v reels o s.dump none;
    }
    told_by (Some d) some = record {
      view = v;
      is = right;
      opens = opens;
      known = asked_by o s.dump reels v (prepared s unspent store plan) right (dumped_below v.dumps next next_below v.dumped) (opened_below d some);
      told = λ all. refl;
    }

  -- not everything is exposed: other texts will do
  module _ (v : View) (right : IsView o.disc.held reels o.contents v) (untold : Told s → ⊥) (text : ℕ → List ℕ)
      (are : All (λ (f : File). HasText (AllTold o.disc.held reels) (text f.rec.stamp) v.dumps f) o.contents.files) where
    abbrev loose : View
    loose = record v { text = text; dumped = None; opened = None }

    right_loose : IsView o.disc.held reels o.contents loose
    right_loose = record {
      rack = record { shelved = right.rack.shelved; all = right.rack.all; dumped = λ told. absurd (untold told); none = λ told. absurd (untold told) };
      files = are;
    }

    untold_by : (u : State) → AskedHere u
    untold_by u = record {
      view = loose;
      is = right_loose;
      opens = record { is = λ told. absurd (untold told) };
      known = asked_by o s.dump reels loose (prepared s unspent store plan) right_loose tt tt;
      told = λ told. absurd (untold told);
    }

  -- with these bytes as the text of a file, which it has anyway if everything is exposed
  module _ (f : File) (bytes : List ℕ) (there : Contains o.contents.files f) (long : length bytes ≡ f.rec.len) (held : ForSome f.bytes (λ b. b ≡ bytes)) where
    pub record Met (u : State) : Type 0 where
      pub asks : AskedHere u
      pub text_is : asks.view.text f.rec.stamp ≡ bytes

    abbrev all : Type 0
    all = AllTold o.disc.held reels

    distinct : AreDistinct o.contents.files
    distinct = files_apart o.contents.files (prepared s unspent store plan).records.among_files.stamps

    texts_with : (v : View) → IsView o.disc.held reels o.contents v → (Told s → ⊥) → All (λ (g : File). HasText all (with_text f.rec.stamp bytes v.text g.rec.stamp) v.dumps g) o.contents.files
    texts_with v right untold i d within =
        by_stamp (get_or o.contents.files i d) (Contains-get_or o.contents.files i d within) (right.files i d within)
        (cases_eq (get_or o.contents.files i d).rec.stamp f.rec.stamp)
      where
        by_stamp : (g : File) → Contains o.contents.files g → HasText all (v.text g.rec.stamp) v.dumps g → (g.rec.stamp ≡ f.rec.stamp) ⊎ (g.rec.stamp ≡ f.rec.stamp → ⊥)
            → HasText all (with_text f.rec.stamp bytes v.text g.rec.stamp) v.dumps g
        by_stamp g in_files was (inl same) =
            let one : g ≡ f = one_of_key (λ (h : File). h.rec.stamp) o.contents.files g f distinct in_files there same in
            let has : HasText all bytes v.dumps f = record { len = long; bytes = λ b is. held b is; tape = λ told. absurd (untold told) } in
            subst (λ (x : List ℕ). HasText all x v.dumps g) (sym (cond-true (g.rec.stamp == f.rec.stamp) bytes (v.text g.rec.stamp) (eq-eqb g.rec.stamp f.rec.stamp same)))
            (subst (λ (h : File). HasText all bytes v.dumps h) (sym one) has)
        by_stamp g in_files was (inr other) =
            subst (λ (x : List ℕ). HasText all x v.dumps g) (sym (cond-false (g.rec.stamp == f.rec.stamp) bytes (v.text g.rec.stamp) (ne_eqb g.rec.stamp f.rec.stamp other))) was

    pub met : (Told s → Belongs s) → (Told s → (v : View) → IsView o.disc.held reels o.contents v → v.text f.rec.stamp ≡ bytes) → (u : State) → StandsForState s u → Met u
    unfolding untold_by
    met belongs text_is u here = by_told (seen s u unspent here) (told_or o.disc.held reels)
      where
        by_told : Seen s u → Told s ⊎ (Told s → ⊥) → Met u
        by_told sn (inl told) =
            let asks : AskedHere u = subst AskedHere (sym sn.state_is) (told_by sn.view sn.is sn.opens told (belongs told) s.dump refl) in
            record { asks = asks; text_is = text_is told asks.view asks.is }
        by_told sn (inr untold) = record {
          asks = untold_by sn.view sn.is untold (with_text f.rec.stamp bytes sn.view.text) (texts_with sn.view sn.is untold) u;
          text_is = cond-true (f.rec.stamp == f.rec.stamp) bytes (sn.view.text f.rec.stamp) (eq-eqb f.rec.stamp f.rec.stamp refl);
        }

-- bytes on the disc are exposed if and only if the disc exposes its contents
abbrev pub TellsOnline : File → Type 0
TellsOnline f = f.online ≡ true → is_some f.bytes ≡ true

abbrev pub HasNone : File → Type 0
HasNone f = f.online ≡ false → f.bytes ≡ None

tells_entry : (held : Option (List (List ℕ))) (e : FileEntry) → is_some held ≡ true → TellsOnline (file_of held e)
tells_entry held (rec, None) told on = absurd (false≢true on)
tells_entry None (rec, Some copy) told on = absurd (false≢true told)
tells_entry (Some blocks) (rec, Some copy) told on = refl

none_entry : (held : Option (List (List ℕ))) (e : FileEntry) → HasNone (file_of held e)
none_entry held (rec, None) off = refl
none_entry held (rec, Some copy) off = absurd (true≢false off)

tells_online : (held : Option (List (List ℕ))) (d : Directory) → is_some held ≡ true → All TellsOnline (contents_of held d).files
tells_online held d told = All-map TellsOnline (file_of held) d.files (λ i e within. tells_entry held (get_or d.files i e) told)

none_offline : (held : Option (List (List ℕ))) (d : Directory) → All HasNone (contents_of held d).files
none_offline held d = All-map HasNone (file_of held) d.files (λ i e within. none_entry held (get_or d.files i e))

some_of : {A : Type 0} (x : Option A) → is_some x ≡ true → (y : A) × (x ≡ Some y)
some_of None is = absurd (false≢true is)
some_of (Some y) is = (y, refl)

-- WHERE FILES ARE TAKEN OFF the disc a view stays right: a copy holds the text of its version
off : Bool → File → File
off b g = if b then record g { online = false; bytes = None } else g

abbrev CopyHolds : Type 0 → (ℕ → List ℕ) → List Dump → File → Type 0
CopyHolds whole text dumps g = whole → g.online ≡ true → IfSome g.rec.tape (λ place. IsContent dumps place (text g.rec.stamp))

off_text : (whole : Type 0) (text : ℕ → List ℕ) (dumps : List Dump) (b : Bool) (g : File) → CopyHolds whole text dumps g → HasText whole (text g.rec.stamp) dumps g
    → (let h = off b g in HasText whole (text h.rec.stamp) dumps h)
unfolding off
off_text whole text dumps false g copy has = has
off_text whole text dumps true g copy has = record {
  len = has.len;
  bytes = λ x none. absurd (none-some x none);
  tape = λ told offline. by_online g.online refl told;
}
  where
    by_online : (on : Bool) → g.online ≡ on → whole → IfSome g.rec.tape (λ place. IsContent dumps place (text g.rec.stamp))
    by_online true is told = copy told is
    by_online false is told = has.tape told is

-- the file that isn't on the disc has no bytes there
pub no_bytes : (s : StoreFacts) → s.spent ≡ false → IsStore s → (f : File) → Contains s.online.contents.files f → f.online ≡ false → f.bytes ≡ None
no_bytes s unspent store f there =
    All-contains HasNone s.online.contents.files f
    (subst (λ (x : Contents). All HasNone x.files) (sym (store.tied.contents (store.live unspent))) (none_offline s.online.disc.held s.online.layout.directory)) there

-- and the existing one has them, if everything is exposed
pub has_bytes : (s : StoreFacts) → s.spent ≡ false → IsStore s → Told s → (f : File) → Contains s.online.contents.files f → f.online ≡ true → (b : List ℕ) × (f.bytes ≡ Some b)
has_bytes s unspent store told f there on =
    let tells : All TellsOnline s.online.contents.files =
    subst (λ (x : Contents). All TellsOnline x.files) (sym (store.tied.contents (store.live unspent))) (tells_online s.online.disc.held s.online.layout.directory told.disc) in
    some_of f.bytes (All-contains TellsOnline s.online.contents.files f tells there on)

module _ (s : StoreFacts) (unspent : s.spent ≡ false) (store : IsStore s) (v : View) (right : IsView s.online.disc.held (told_reels s.rack) s.online.contents v) where
  abbrev here : List Reel
  here = told_reels s.rack

  module _ (belongs : Told s → Belongs s) where
    copy_holds : (g : File) → Contains s.online.contents.files g → CopyHolds (Told s) v.text v.dumps g
    copy_holds g there told on =
        let (text, shelf, shelved, up) = (belongs told).up unspent in
        let has = All-contains (λ (h : File). HasText (Told s) (v.text h.rec.stamp) v.dumps h) s.online.contents.files g right.files there in
        let keeps_file = All-contains (λ (h : File). KeepsFile (text h.rec.stamp) (all_dumps shelf here) h) s.online.contents.files g up.disc.files there in
        let (bytes, are) = has_bytes s unspent store told g there on in
        let texts : text g.rec.stamp ≡ v.text g.rec.stamp = sym (keeps_file.bytes bytes are) ∙ has.bytes bytes are in
        let dumps : all_dumps shelf here ≡ v.dumps = same_dumps shelf v.shelf here (shelves_agree shelf v.shelf here told.each shelved right.rack.shelved) ∙ sym right.rack.all in
        subst (λ (x : List ℕ). IfSome g.rec.tape (λ place. IsContent v.dumps place x)) texts
        (subst (λ (ds : List Dump). IfSome g.rec.tape (λ place. IsContent ds place (text g.rec.stamp))) dumps keeps_file.rec.copy)

    pub texts_off : (numbers : List ℕ) → All (λ (g : File). HasText (Told s) (v.text g.rec.stamp) v.dumps g) (taken_off numbers s.online.contents.files)
    unfolding off
    texts_off numbers =
        All-map (λ (g : File). HasText (Told s) (v.text g.rec.stamp) v.dumps g) (offline_in numbers) s.online.contents.files
        (λ i d within.
        let g = get_or s.online.contents.files i d in
        off_text (Told s) v.text v.dumps (has numbers g.rec.number) g (copy_holds g (Contains-get_or s.online.contents.files i d within)) (right.files i d within))
