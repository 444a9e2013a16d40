-- A store that has forgotten its copies preserves its invariant.
-- serves: lib, crates above
use Rattle.std.proofs.Common.{◌≡◌, ◌≢◌, ℕ, zero, suc, ◌<◌, ◌≤◌, true, false, List, [], ◌∷◌, get_or, length, Option, Some, None, refl, sym, ◌∙◌, ap, arith, subst}
use Rattle.std.specs.Prelude.{Bool, ◌==◌, ◌||◌, All, AllPairs, Contains, IfSome, map}
use Rattle.std.specs.Option.{ForSome}
use Rattle.std.proofs.lemmas.Bool.{both_ways, eq-eqb}
use Rattle.std.proofs.lemmas.List.{length-map}
use Rattle.std.proofs.lemmas.Option.{slice_get-get_or}
use Rattle.std.proofs.lemmas.List.Elements.{All-map, All-weaker, Contains-get_or}
use Rattle.g_entry.specs.declared.file_rec.FileRec.{FileRec}
use Rattle.g_entry.specs.declared.head.Intent.{Intent}
use Rattle.g_entry.specs.declared.user_rec.UserRec.{UserRec}
use Rattle.g_entry.specs.FileFields.{IsFile}
use Rattle.g_entry.specs.Rules.{AreUsers, SameName}
use Rattle.g_entry.proofs.RuleLemmas.{file_anew}
use Rattle.g_tape.specs.Reel.{Reel}
use Rattle.g_tree.specs.Records.{IsRecords}
use Rattle.g_disc_contents.specs.Contents.{Contents, File, recs_in, with_intent}
use Rattle.g_disc_contents.specs.Facts.{Pin, WaitsByUser}
use Rattle.g_incr.specs.Layout.{Dump, holds}
use Rattle.g_incr.specs.Plan.{dump_of}
use Rattle.g_shelf.specs.CompletedDumps.{all_dumps}
use Rattle.g_store_meaning.specs.Belonging.{DiscBelongs, KeepsFile}
use Rattle.g_store_meaning.specs.Meaning.{told_reels}
use Rattle.g_store_meaning.specs.StoreInvariant.{DumpFacts, IsReady, IsUp, StoreFacts, content_in, with_dump}
use Rattle.g_laws_store.specs.Dumping.{AreDumpable}
use Rattle.g_laws_store.proofs.RecordLemmas.{pairs_mapped}
use Rattle.g_laws_store.proofs.OpeningLemmas.{old_with, more_content}
use Rattle.g_laws_store.specs.ForgottenCopies.{ForgettingStaysUp, bare, bare_file, bare_rec, every_user, forgotten}

-- every user is among all
all_held : (us : List UserRec) (u : UserRec) → Contains us u → holds (map (λ (v : UserRec). v.number) us) u.number ≡ true
all_held [] u (i, within, is) = let no : ⊥ = omega (arith, within) in absurd no
all_held (v ∷ vs) u (zero, within, is) = ap (λ (b : Bool). b || holds (map (λ (w : UserRec). w.number) vs) u.number) (eq-eqb v.number u.number (ap (λ (w : UserRec). w.number) is))
all_held (v ∷ vs) u (suc i, within, is) = by_first (v.number == u.number) (all_held vs u (i, omega (arith, within), is))
  where
    by_first : (b : Bool) → holds (map (λ (w : UserRec). w.number) vs) u.number ≡ true → (b || holds (map (λ (w : UserRec). w.number) vs) u.number) ≡ true
    by_first true rest = refl
    by_first false rest = rest

-- THE DISC, which names no copy any more
bare_disc : (text : ℕ → List ℕ) (shelf : ℕ → List Dump) (reels : List Reel) (c : Contents) → DiscBelongs text shelf reels c → DiscBelongs text shelf reels (bare c)
bare_disc text shelf reels c was = record {
  files = All-map (λ (f : File). KeepsFile (text f.rec.stamp) (all_dumps shelf reels) f) bare_file c.files
      (All-weaker (λ (f : File). KeepsFile (text f.rec.stamp) (all_dumps shelf reels) f) (λ (f : File). KeepsFile (text f.rec.stamp) (all_dumps shelf reels) (bare_file f))
      (λ f keeps. record { rec = record { len = keeps.rec.len; copy = tt }; bytes = keeps.bytes }) c.files was.files);
  numbers = was.numbers;
  has_last = was.has_last;
  stamps = was.stamps;
  intent = was.intent;
}

forgotten_up : (text : ℕ → List ℕ) (shelf : ℕ → List Dump) (s : StoreFacts) → s.dump ≡ None → IsUp text shelf s → IsUp text shelf (forgotten s)
forgotten_up text shelf s idle was = record {
  rack = was.rack;
  disc = bare_disc text shelf (told_reels s.rack) s.online.contents was.disc;
  quiet = was.quiet;
  directories = record {
    each = λ some u in_users isnt. absurd (both_ways (holds (every_user s.online.contents) u.number) isnt (all_held s.online.contents.users u in_users));
    none = λ none u in_users. all_held s.online.contents.users u in_users;
  };
  open_dump = subst (λ (dump : Option DumpFacts). IfSome dump (λ x. (pins : List Pin) → s.online.pins ≡ Some pins
      → ForSome (content_in pins) (λ content. IsReady text shelf (told_reels s.rack) (forgotten s).online (dump_of x.plan content)))) (sym idle) tt;
}

-- THE RECORDS without their copies
bare_recs : (files : List File) → map (λ (f : File). f.rec) (map bare_file files) ≡ map bare_rec (map (λ (f : File). f.rec) files)
bare_recs [] = refl
bare_recs (f ∷ fs) = ap (λ (rs : List FileRec). bare_rec f.rec ∷ rs) (bare_recs fs)

of_bare : (P : FileRec → Type 0) → ((r : FileRec) → P r → P (bare_rec r)) → (c : Contents) → All P (recs_in c) → All P (recs_in (bare c))
of_bare P to c all =
    subst (All P) (sym (bare_recs c.files)) (All-map P bare_rec (recs_in c) (All-weaker P (λ (r : FileRec). P (bare_rec r)) to (recs_in c) all))

pairs_bare : (R : FileRec → FileRec → Type 0) → ((r q : FileRec) → R r q → R (bare_rec r) (bare_rec q)) → (c : Contents) → AllPairs R (recs_in c) → AllPairs R (recs_in (bare c))
pairs_bare R to c all =
    subst (AllPairs R) (sym (bare_recs c.files)) (pairs_mapped R bare_rec (recs_in c) (λ i j d less within. to (get_or (recs_in c) i d) (get_or (recs_in c) j d) (all i j d less within)))

bare_records : (c : Contents) → IsRecords c.users (recs_in c) → IsRecords c.users (recs_in (bare c))
bare_records c is = record {
  each_user = is.each_user;
  among_users = is.among_users;
  each_file = of_bare IsFile
      (λ r file. file_anew r.number r.stamp r.len None r file file.stamp file.len tt) c is.each_file;
  numbers = record {
    rising = pairs_bare (λ (r q : FileRec). r.number < q.number) (λ r q less. less) c is.numbers.rising;
    below = of_bare (λ (r : FileRec). r.number < 1024) (λ r less. less) c is.numbers.below;
  };
  among_files =
      let old = is.among_files in
      let few = old.few in
      let long = ap (λ (rs : List FileRec). length rs) (bare_recs c.files) ∙ length-map (recs_in c) bare_rec in
      record {
        few = omega (arith, few, long);
        owners = of_bare (λ (r : FileRec). r.owner < length c.users) (λ r less. less) c old.owners;
        trapped = of_bare (λ (r : FileRec). All (λ (pair : ℕ × ℕ). pair.0 < length c.users) r.traps.others) (λ r each. each) c old.trapped;
        names = pairs_bare (λ (r q : FileRec). SameName r q → ⊥)
            (λ r q other same. other (record { owner = same.owner; local = same.local; generation = same.generation; lang = same.lang })) c old.names;
        stamps = pairs_bare (λ (r q : FileRec). r.stamp ≢ q.stamp) (λ r q other. other) c old.stamps;
        dated = of_bare (λ (r : FileRec). 1 ≤ r.stamp) (λ r least. least) c old.dated;
        empty = of_bare (λ (r : FileRec). r.len ≡ 0 → r.tape ≡ None) (λ r empty none. refl) c old.empty;
      };
}

first_user : (vs : List UserRec) (n : ℕ) → n < length vs → UserRec
first_user [] n within = let no : ⊥ = omega (arith, within) in absurd no
first_user (v ∷ vs) n within = v

-- an owner is a user
owner_held : (us : List UserRec) → AreUsers us → (n : ℕ) → n < length us → holds (map (λ (v : UserRec). v.number) us) n ≡ true
owner_held us are n less = by_user (first_user us n less)
  where
    numbered : (d : UserRec) → (get_or us n d).number ≡ n
    numbered d = are.numbered n (get_or us n d) (slice_get-get_or us n d less)

    by_user : UserRec → holds (map (λ (v : UserRec). v.number) us) n ≡ true
    by_user d = subst (λ (m : ℕ). holds (map (λ (v : UserRec). v.number) us) m ≡ true) (numbered d) (all_held us (get_or us n d) (Contains-get_or us n d less))

unmapped : (P : FileRec → Type 0) (fs : List File) → All P (map (λ (f : File). f.rec) fs) → All (λ (f : File). P f.rec) fs
unmapped P [] all i d within = let no : ⊥ = omega (arith, within) in absurd no
unmapped P (f ∷ fs) all zero d within = all 0 f.rec (omega arith)
unmapped P (f ∷ fs) all (suc i) d within = unmapped P fs (λ j e less. all (suc j) e (omega (arith, less))) i d (omega (arith, within))

waits_bare : (c : Contents) → IsRecords c.users (recs_in c) → All (WaitsByUser (every_user c)) (bare c).files
waits_bare c is =
    All-map (WaitsByUser (every_user c)) bare_file c.files
    (λ i d within filled none. owner_held c.users is.among_users (get_or c.files i d).rec.owner (owners i d within))
  where
    owners : All (λ (f : File). f.rec.owner < length c.users) c.files
    owners = unmapped (λ (r : FileRec). r.owner < length c.users) c.files is.among_files.owners

bare_dumpable : (changed : List ℕ) (c : Contents) → AreDumpable changed c → AreDumpable (every_user c) (bare c)
bare_dumpable changed c is = record {
  records = bare_records c is.records;
  dated = of_bare (λ (r : FileRec). r.stamp < c.head.next_stamp) (λ r less. less) c is.dated;
  waits = waits_bare c is.records;
}

-- THE RACK with the dump: the old copies are content still

marked_disc : (text : ℕ → List ℕ) (shelf : ℕ → List Dump) (reels : List Reel) (made : Dump) (c : Contents) (i : Intent)
    → DiscBelongs text shelf reels c → DiscBelongs text (with_dump made shelf) reels (with_intent (Some i) (bare c)) → DiscBelongs text (with_dump made shelf) reels (with_intent (Some i) c)
marked_disc text shelf reels made c i was bared = record {
  files = All-weaker (λ (f : File). KeepsFile (text f.rec.stamp) (all_dumps shelf reels) f) (λ (f : File). KeepsFile (text f.rec.stamp) (all_dumps (with_dump made shelf) reels) f)
      (λ f keeps. record {
        rec = record {
          len = keeps.rec.len;
          copy = more_content (all_dumps shelf reels) (all_dumps (with_dump made shelf) reels) (λ e there. old_with made shelf reels e there) f.rec.tape (text f.rec.stamp) keeps.rec.copy;
        };
        bytes = keeps.bytes;
      }) c.files was.files;
  numbers = bared.numbers;
  has_last = bared.has_last;
  stamps = bared.stamps;
  intent = bared.intent;
}

pub forgetting_stays : ForgettingStaysUp
forgetting_stays = record { up = forgotten_up; dumpable = bare_dumpable; marked = marked_disc }
