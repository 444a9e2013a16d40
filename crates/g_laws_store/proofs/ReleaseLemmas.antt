-- Reels are released where one dump has all: what is gathered is gathered of that dump.
-- serves: lib, releases_stay_up (none), crates above
use Rattle.std.proofs.Common.{◌≡◌, ℕ, zero, suc, ◌≤◌, true, false, List, [], ◌∷◌, get_or, Option, Some, None, refl, sym, arith, subst, inl, inr}
use Rattle.std.specs.Prelude.{◌⊎◌, ◌==◌, All, Contains, IfSome}
use Rattle.std.specs.Option.{ForSome}
use Rattle.std.proofs.lemmas.Bool.{cases_Bool, cond-false, cond-true, ne_eqb}
use Rattle.std.proofs.lemmas.List.Elements.{All-contains, All-weaker, Contains-append_right, Contains-get_or}
use Rattle.g_entry.specs.declared.file_rec.FileRec.{FileRec}
use Rattle.g_entry.specs.declared.file_rec.TapeCopy.{TapeCopy}
use Rattle.g_entry.specs.declared.head.Intent.{Intent}
use Rattle.g_entry.specs.declared.user_rec.UserRec.{UserRec}
use Rattle.g_entry.specs.Rules.{StampsBelow}
use Rattle.g_tape.specs.Reel.{Reel}
use Rattle.g_tree.specs.Records.{IsRecords}
use Rattle.g_disc_contents.specs.Contents.{Contents, File, recs_in}
use Rattle.g_disc_contents.specs.Facts.{Pin}
use Rattle.g_incr.specs.Layout.{Dump, holds}
use Rattle.g_incr.specs.Plan.{dump_of, numbered_from}
use Rattle.g_incr.proofs.NumberLemmas.{numbered_each}
use Rattle.g_shelf.specs.CompletedDumps.{all_dumps}
use Rattle.g_shelf.proofs.QuietLemmas.{within}
use Rattle.g_store_meaning.specs.Belonging.{DiscBelongs, IsPlaced, KeepsFile, KeepsRecord, RackBelongs}
use Rattle.g_store_meaning.specs.Meaning.{DumpedDirectory, Gathers, HasDirectory, IsContent, files_of, told_reels}
use Rattle.g_store_meaning.specs.StoreInvariant.{DumpFacts, IsKept, IsReady, IsUp, KeepsDirectories, StoreFacts, content_in, up_to}
use Rattle.g_store_meaning.proofs.DirectoryLemmas.{all_up_to}
use Rattle.g_store_meaning.proofs.OneLemmas.{IsApart, on_reel, same_gathered}
use Rattle.g_laws_store.proofs.RecordLemmas.{gathered_all_of, gathered_by}
use Rattle.g_laws_store.proofs.UpOneLemmas.{on_all}
use Rattle.g_laws_store.specs.Releasing.{HasAll, OneBlockIsNone, ReleasesStayUp, without_reel}

no_member : {A : Type 0} (x : A) → Contains [] x → ⊥
no_member x (i, less, is) = let no : ⊥ = omega (arith, less) in no

the_one : {A : Type 0} (x y : A) → Contains (x ∷ []) y → x ≡ y
the_one x y (zero, less, is) = is
the_one x y (suc i, less, is) = let no : ⊥ = omega (arith, less) in absurd no

-- what one dump of them has, they have
one_content : (d : Dump) (dumps : List Dump) → Contains dumps d → (tape : Option TapeCopy) (t : List ℕ) → IfSome tape (λ c. IsContent (d ∷ []) c t) → IfSome tape (λ c. IsContent dumps c t)
one_content d dumps there None t is = tt
one_content d dumps there (Some c) t is = record {
  dump = is.dump;
  there = subst (Contains dumps) (the_one d is.dump is.there) there;
  reel = is.reel;
  from = is.from;
  to = is.to;
  text_is = is.text_is;
}

one_record : (d : Dump) (dumps : List Dump) → Contains dumps d → (t : List ℕ) (r : FileRec) → KeepsRecord t (d ∷ []) r → KeepsRecord t dumps r
one_record d dumps there t r keeps = record { len = keeps.len; copy = one_content d dumps there r.tape t keeps.copy }

-- dumps of which one holds all directories, and none is newer
module _ (dumps : List Dump) (d : Dump) (there : Contains dumps d) (low : (e : Dump) → Contains dumps e → e.number ≤ d.number) (held : All (λ (u : UserRec). holds d.held u.number ≡ true) d.users) where
  holder : (u : UserRec) → Contains d.users u → HasDirectory dumps u.number d
  holder u in_users = record {
    there = there;
    held = All-contains (λ (v : UserRec). holds d.held v.number ≡ true) d.users u held in_users;
    newest = λ e in_dumps held_e. low e in_dumps;
  }

  gathers_of : (us : List UserRec) → ((u : UserRec) → Contains us u → Contains d.users u) → Gathers dumps us (gathered_by us d.files)
  gathers_of [] among = refl
  gathers_of (u ∷ us) among =
      (d, holder u (among u (0, omega arith, refl)), gathered_by us d.files, refl, gathers_of us (λ v in_us. among v (Contains-append_right (u ∷ []) us v in_us)))

  gathers : Gathers dumps d.users (gathered_by d.users d.files)
  gathers = gathers_of d.users (λ u in_users. in_users)

  -- what they give comes only from that dump
  module _ (apart : (e f : Dump) → Contains dumps e → Contains dumps f → e.number ≡ f.number → e ≡ f) where
    newest : (e : Dump) → Contains dumps e → d.number ≤ e.number → e ≡ d
    newest e in_dumps le = let most = low e in_dumps in apart e d in_dumps there (omega (arith, le, most))

    last_is : (t : DumpedDirectory dumps) → t.last ≡ d
    last_is t = newest t.last t.greatest.there (t.greatest.greatest d there)

    gathered_is : (t : DumpedDirectory dumps) → t.gathered ≡ gathered_by d.users d.files
    unfolding IsApart
    gathered_is t = same_gathered dumps apart d.users t.gathered (gathered_by d.users d.files) (subst (λ (x : Dump). Gathers dumps x.users t.gathered) (last_is t) t.gathers) gathers

module _ (text : ℕ → List ℕ) (shelf : ℕ → List Dump) (s : StoreFacts) (d : Dump) (serial : ℕ) (has : HasAll text shelf s d) (other : has.reel.serial ≡ serial → ⊥) where
  abbrev reels : List Reel
  reels = told_reels s.rack

  abbrev next : ℕ → List Dump
  next = without_reel serial shelf

  abbrev old : List Dump
  old = all_dumps shelf reels

  abbrev dumps : List Dump
  dumps = all_dumps next reels

  abbrev c : Contents
  c = s.online.contents

  -- what is left was there
  left : (e : Dump) → Contains dumps e → Contains old e
  left e in_dumps = let on = on_reel next reels e in_dumps in by_serial on.reel on.there (cases_Bool (on.reel.serial == serial)) on.on
    where
      by_serial : (r : Reel) → Contains reels r → ((r.serial == serial) ≡ true) ⊎ ((r.serial == serial) ≡ false) → Contains (next r.serial) e → Contains old e
      by_serial r here (inl is) on = absurd (no_member e (subst (λ (ds : List Dump). Contains ds e) (cond-true (r.serial == serial) [] (shelf r.serial) is) on))
      by_serial r here (inr isnt) on = on_all shelf reels r e here (subst (λ (ds : List Dump). Contains ds e) (cond-false (r.serial == serial) [] (shelf r.serial) isnt) on)

  on_still : Contains (next has.reel.serial) d
  on_still = subst (λ (ds : List Dump). Contains ds d) (sym (cond-false (has.reel.serial == serial) [] (shelf has.reel.serial) (ne_eqb has.reel.serial serial other))) has.on

  still : HasAll text next s d
  still = record {
    reel = has.reel;
    among = has.among;
    on = on_still;
    last = has.last;
    users = has.users;
    held = has.held;
    records = has.records;
    files = has.files;
  }

  there : Contains dumps d
  there = on_all next reels has.reel d has.among on_still

  there_before : Contains old d
  there_before = on_all shelf reels has.reel d has.among has.on

  module _ (idle : s.dump ≡ None) (no_intent : c.head.intent ≡ None) (was : IsUp text shelf s) where
    low : (e : Dump) → Contains old e → e.number ≤ d.number
    low e in_old = let le = was.quiet e in_old in let last = has.last in omega (arith, le, last)

    low_still : (e : Dump) → Contains dumps e → e.number ≤ d.number
    low_still e in_dumps = low e (left e in_dumps)

    apart : (e f : Dump) → Contains dumps e → Contains dumps f → e.number ≡ f.number → e ≡ f
    apart e f in_e in_f same = was.rack.apart e f (left e in_e) (left f in_f) same

    -- THE TREE that was dumped is dumped still
    t : DumpedDirectory old
    t = was.rack.tree d there_before

    rules : IsRecords d.users (numbered_from 0 (gathered_by d.users d.files))
    rules =
        subst (λ (fs : List FileRec). IsRecords d.users (numbered_from 0 fs)) (gathered_is old d there_before low has.held was.rack.apart t)
        (subst (λ (x : Dump). IsRecords x.users (numbered_from 0 t.gathered)) (last_is old d there_before low has.held was.rack.apart t) t.rules)

    dated : StampsBelow d.next (numbered_from 0 (gathered_by d.users d.files))
    dated =
        subst (λ (fs : List FileRec). StampsBelow d.next (numbered_from 0 fs)) (gathered_is old d there_before low has.held was.rack.apart t)
        (subst (λ (x : Dump). StampsBelow x.next (numbered_from 0 t.gathered)) (last_is old d there_before low has.held was.rack.apart t) t.dated)

    tree : DumpedDirectory dumps
    tree = record {
      last = d;
      greatest = record { there = there; greatest = low_still };
      gathered = gathered_by d.users d.files;
      gathers = gathers dumps d there low_still has.held;
      rules = rules;
      dated = dated;
    }

    kept : All (λ (r : FileRec). KeepsRecord (text r.stamp) dumps r) (numbered_from 0 (gathered_by d.users d.files))
    kept =
        numbered_each (λ (r : FileRec). KeepsRecord (text r.stamp) dumps r) (λ n r keeps. record { len = keeps.len; copy = keeps.copy }) 0 (gathered_by d.users d.files)
        (gathered_all_of (λ (r : FileRec). KeepsRecord (text r.stamp) dumps r) d.users d.files
        (All-weaker (λ (r : FileRec). KeepsRecord (text r.stamp) (d ∷ []) r) (λ (r : FileRec). KeepsRecord (text r.stamp) dumps r)
        (λ r keeps. one_record d dumps there (text r.stamp) r keeps) d.files has.records))

    rack : RackBelongs text dumps
    rack = record {
      apart = apart;
      rising = λ e f in_e in_f le. was.rack.rising e f (left e in_e) (left f in_f) le;
      tree = λ e in_e. tree;
      records = λ u.
          subst (λ (fs : List FileRec). All (λ (r : FileRec). KeepsRecord (text r.stamp) dumps r) (numbered_from 0 fs)) (sym (gathered_is dumps d there low_still has.held apart u)) kept;
    }

    disc : DiscBelongs text next reels c
    disc = record {
      files = All-weaker (λ (f : File). KeepsFile (text f.rec.stamp) (d ∷ []) f) (λ (f : File). KeepsFile (text f.rec.stamp) dumps f)
          (λ f keeps. record { rec = one_record d dumps there (text f.rec.stamp) f.rec keeps.rec; bytes = keeps.bytes }) c.files has.files;
      numbers = λ e in_e. inl (was.quiet e (left e in_e));
      has_last = λ some. (d, there, has.last);
      stamps = λ e in_e. was.disc.stamps e (left e in_e);
      intent = subst (λ (i : Option Intent). IfSome i (IsPlaced next reels c.head.last_dump)) (sym no_intent) tt;
    }

    -- THE DIRECTORIES of users who aren't changed
    all_old : up_to c.head.last_dump old ≡ old
    all_old = all_up_to c.head.last_dump old (λ i x less. was.quiet (get_or old i x) (Contains-get_or old i x less))

    all_left : up_to c.head.last_dump dumps ≡ dumps
    all_left = all_up_to c.head.last_dump dumps (λ i x less. was.quiet (get_or dumps i x) (left (get_or dumps i x) (Contains-get_or dumps i x less)))

    directories : KeepsDirectories s.online.changed c dumps
    directories = record {
      each = λ some u in_users isnt.
          let files = files_of u.number (recs_in c) in
          let in_d = subst (λ (us : List UserRec). Contains us u) (sym has.users) in_users in
          let before = subst (λ (ds : List Dump). IsKept ds u.number files) all_old (was.directories.each some u in_users isnt) in
          let source = newest old d there_before low has.held was.rack.apart before.source before.directory.there
          (before.directory.newest d there_before (holder old d there_before low has.held u in_d).held) in
          subst (λ (ds : List Dump). IsKept ds u.number files) (sym all_left)
          (record {
            source = before.source;
            directory = subst (HasDirectory dumps u.number) (sym source) (holder dumps d there low_still has.held u in_d);
            same = before.same;
          });
      none = was.directories.none;
    }

    up : IsUp text next s
    up = record {
      rack = rack;
      disc = disc;
      quiet = λ e in_e. was.quiet e (left e in_e);
      directories = directories;
      open_dump = subst (λ (dump : Option DumpFacts). IfSome dump (λ x. (pins : List Pin) → s.online.pins ≡ Some pins
          → ForSome (content_in pins) (λ content. IsReady text next reels s.online (dump_of x.plan content)))) (sym idle) tt;
    }

pub releases_stay : ReleasesStayUp
releases_stay = record {
  up = λ text shelf s d serial has other idle no_intent was. up text shelf s d serial has other idle no_intent was;
  still = λ text shelf s d serial has other. still text shelf s d serial has other;
}

pub one_block_is_none : OneBlockIsNone
one_block_is_none serial reel short = record {
  are = λ d next.
      let long = within reel d next.stands in
      let place = next.place in
      let no : ⊥ = omega (arith, long, place, short) in no;
}
