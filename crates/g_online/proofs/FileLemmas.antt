-- The record of a file, changed, is ready to be written.
-- serves: set_file, UnloadLemmas
use Rattle.std.proofs.Common.{◌≡◌, ℕ, zero, suc, ◌+◌, ◌<◌, ◌≤◌, Bool, true, false, List, [], ◌∷◌, length, map, Option, All, AllPairs, refl, sym, ◌∙◌, ap, subst, arith, if◌then◌else◌}
use Rattle.std.specs.Prelude.{Contains, is_some}
use Rattle.std.proofs.lemmas.List.Elements.{All-cons, All-contains, All-head, All-tail, All-weaker}
use Rattle.g_copy.specs.declared.copy.DiscCopy.{DiscCopy}
use Rattle.g_disc.specs.Disc.{DiscState}
use Rattle.g_entry.specs.declared.file_rec.FileRec.{FileRec}
use Rattle.g_entry.specs.declared.head.Head.{Head}
use Rattle.g_entry.specs.declared.user_rec.UserRec.{UserRec}
use Rattle.g_dirs.specs.Directory.{Directory, FileEntry, directory_of, entries_of}
use Rattle.g_dirs.specs.Pages.{KeepsPages, Remembered, marked}
use Rattle.g_tree.specs.Records.{IsRecords}
use Rattle.g_tree.specs.State.{with_file}
use Rattle.g_disc_contents.specs.Contents.{Contents, File, contents_of, file_of, set_rec, with_number}
use Rattle.g_disc_contents.specs.Facts.{OnlineFacts}
use Rattle.g_online.specs.declared.change.Change.TheVariants.{SetFile}
use Rattle.g_online.specs.AllowedChanges.{IsAllowed, IsSameVersion}
use Rattle.g_online.specs.Change.{changed}
use Rattle.g_online.specs.Invariant.{CoversHead, IsAgreed, IsKept, Memory, PinsAre, directory_in, facts_of, head_after}
use Rattle.g_online.proofs.ContentLemmas.{record_set}
use Rattle.g_online.proofs.EntryLemmas.{put-set}
use Rattle.g_online.proofs.MarkLemmas.{but_file}
use Rattle.g_online.proofs.NoteLemmas.{noted_then, pins_then, touched_then, touched_with}
use Rattle.g_online.proofs.ReadyLemmas.{CoversBut, StillRemembers, allowed_here, allowed_live, make_ready, rules_then}
use Rattle.g_online.proofs.RecordLemmas.{fits_still, keeps_marked, keeps_then, next_kept, recs_here}
use Rattle.g_online.proofs.StepLemmas.{IsReady}
use Rattle.g_online.proofs.TieLemmas.{rec_of}
use Rattle.g_online.proofs.VersionLemmas.{AllSame, IsVersion, entries_same, fits_same, noted_same, numbers_put, others_put, pins_same, pool_same, put_one}

abbrev contents_files : Option (List (List ℕ)) → List FileRec → List (ℕ × DiscCopy) → List File
contents_files held files online = map (file_of held) (entries_of files online)

first_below : (r : FileRec) (files : List FileRec) → AllPairs (λ r s. r.number < s.number) (r ∷ files) → All (λ s. r.number < s.number) files
first_below r files rising k d inside = rising 0 (suc k) d (omega arith) (omega arith)

rest_rises : (r : FileRec) (files : List FileRec) → AllPairs (λ r s. r.number < s.number) (r ∷ files) → AllPairs (λ r s. r.number < s.number) files
rest_rises r files rising i j d before inside = rising (suc i) (suc j) d (omega arith) (omega arith)

-- what holds of records holds of the files of the contents
all_contents : (P : FileRec → Type 0) (held : Option (List (List ℕ))) (files : List FileRec) (online : List (ℕ × DiscCopy)) → All P files → All (λ (f : File). P f.rec) (contents_files held files online)
all_contents P held [] online all = λ k d inside. absurd (omega arith)
all_contents P held (r ∷ files) online all =
    All-cons (λ (f : File). P f.rec) _ (contents_files held files online) (subst P (sym (rec_of held _)) (All-head P r files all)) (all_contents P held files online (All-tail P r files all))

-- the number of a file is one of the numbers
pub number_there : (held : Option (List (List ℕ))) (files : List FileRec) (online : List (ℕ × DiscCopy)) (f : File) → Contains (contents_files held files online) f
    → Contains (map (λ (r : FileRec). r.number) files) f.rec.number
number_there held [] online f (k, inside, is) = let no : ⊥ = omega (arith, inside) in absurd no
number_there held (r ∷ files) online f (zero, inside, is) = (0, omega arith, ap (λ (s : FileRec). s.number) (sym (rec_of held _)) ∙ ap (λ (g : File). g.rec.number) is)
number_there held (r ∷ files) online f (suc k, inside, is) =
    let there = number_there held files online f (k, omega (arith, inside), is) in
    let within = there.1 in
    (suc there.0, omega (arith, within), there.2)

-- the changed record is that of this version, and no other
versions : (held : Option (List (List ℕ))) (files : List FileRec) (online : List (ℕ × DiscCopy)) (rec : FileRec) (f : File) → AllPairs (λ r s. r.number < s.number) files
    → Contains (contents_files held files online) f → IsSameVersion rec f → All (λ (r : FileRec). r.number ≡ rec.number → IsVersion rec r) files
versions held [] online rec f rising (k, inside, is) same = let no : ⊥ = omega (arith, inside) in absurd no
versions held (r ∷ files) online rec f rising (zero, inside, is) same =
    let it : f.rec ≡ r = ap (λ (g : File). g.rec) (sym is) ∙ rec_of held _ in
    let at : rec.number ≡ r.number = sym same.number ∙ ap (λ (s : FileRec). s.number) it in
    All-cons (λ (s : FileRec). s.number ≡ rec.number → IsVersion rec s) r files
    (λ here. record {
      owner = sym same.owner ∙ ap (λ (s : FileRec). s.owner) it;
      stamp = sym same.stamp ∙ ap (λ (s : FileRec). s.stamp) it;
      len = sym same.len ∙ ap (λ (s : FileRec). s.len) it;
      tape = sym same.tape ∙ ap (λ (s : FileRec). s.tape) it;
    })
    (All-weaker (λ (s : FileRec). r.number < s.number) (λ (s : FileRec). s.number ≡ rec.number → IsVersion rec s)
    (λ s less. λ here. (let no : ⊥ = omega (arith, less, here, at) in absurd no)) files (first_below r files rising))
versions held (r ∷ files) online rec f rising (suc k, inside, is) same =
    let there : Contains (contents_files held files online) f = (k, omega (arith, inside), is) in
    let less : r.number < f.rec.number =
    All-contains (λ (g : File). r.number < g.rec.number) (contents_files held files online) f (all_contents (λ (s : FileRec). r.number < s.number) held files online (first_below r files rising)) there in
    All-cons (λ (s : FileRec). s.number ≡ rec.number → IsVersion rec s) r files
    (λ here. (let no : ⊥ = omega (arith, less, here, same.number) in absurd no))
    (versions held files online rec f (rest_rises r files rising) there same)

abbrev set_in : Bool → Memory → FileRec → List FileRec → Remembered → Memory
set_in pinned m rec files pages = record m {
  head = head_after pinned m.head;
  files = files;
  pages = pages;
  changed = with_number rec.owner m.changed;
  touched = touched_with m.pins rec.owner m.touched;
}

file_contents : (held : Option (List (List ℕ))) (pinned : Bool) (rec : FileRec) (m : Memory) (files : List FileRec) (pages : Remembered)
    → contents_files held files m.online ≡ set_rec rec (contents_files held m.files m.online)
    → contents_of held (directory_in (set_in pinned m rec files pages)) ≡ changed (is_some held) pinned (SetFile rec) (contents_of held (directory_in m))
unfolding changed
file_contents held true rec m files pages is = ap (λ (fs : List File). let c : Contents = record { head = m.head; users = m.users; files = fs } in c) is
file_contents held false rec m files pages is = ap (λ (fs : List File). let c : Contents = record { head = head_after false m.head; users = m.users; files = fs } in c) is

-- what is known of the file
pub record IsThere (rec : FileRec) (before : DiscState) (m : Memory) : Type 0 where
  pub was : IsAgreed before m
  pub put : with_file rec m.files ≡ map (put_one rec) m.files
  pub contents : contents_files before.held (with_file rec m.files) m.online ≡ set_rec rec (contents_files before.held m.files m.online)
  pub version : All (λ (r : FileRec). r.number ≡ rec.number → IsVersion rec r) m.files
  pub owner : rec.owner < length m.users
  pub few : length m.users ≤ 63
  pub number : rec.number < 1024
  pub rules : IsRecords m.users (with_file rec m.files)

pub is_there : (rec : FileRec) (before : DiscState) (m : Memory) (o : OnlineFacts) → facts_of before m ≡ o → IsKept before m → IsAllowed (SetFile rec) o → IsThere rec before m
is_there rec before m o is kept allowed =
    let was : IsAgreed before m = kept.agreed (allowed_live (SetFile rec) before m o is allowed) in
    let fits = (allowed_here (SetFile rec) before m o is allowed).fits in
    let f : File = fits.0 in
    let recs : map (λ (e : FileEntry). e.0) (entries_of m.files m.online) ≡ m.files = recs_entries m.files m.online in
    let rising : AllPairs (λ r s. r.number < s.number) m.files = subst (λ (rs : List FileRec). AllPairs (λ (r : FileRec) (s : FileRec). r.number < s.number) rs) recs was.stored.rules.numbered.rising in
    let below : All (λ (r : FileRec). r.number < 1024) m.files = subst (λ (rs : List FileRec). All (λ (r : FileRec). r.number < 1024) rs) recs was.stored.rules.numbered.below in
    let owners : All (λ (r : FileRec). r.owner < length m.users) m.files = subst (λ (rs : List FileRec). All (λ (r : FileRec). r.owner < length m.users) rs) recs was.stored.rules.files.owners in
    let there : Contains (map (λ (r : FileRec). r.number) m.files) rec.number =
    subst (Contains (map (λ (r : FileRec). r.number) m.files)) fits.2.number (number_there before.held m.files m.online f fits.1) in
    let same = record_set before.held rec m.files m.online rising there in
    let owner : f.rec.owner < length m.users =
    All-contains (λ (g : File). g.rec.owner < length m.users) (contents_files before.held m.files m.online) f (all_contents (λ (r : FileRec). r.owner < length m.users) before.held m.files m.online owners) fits.1 in
    let number : f.rec.number < 1024 =
    All-contains (λ (g : File). g.rec.number < 1024) (contents_files before.held m.files m.online) f (all_contents (λ (r : FileRec). r.number < 1024) before.held m.files m.online below) fits.1 in
    let rules = (rules_then (SetFile rec) before m (set_in (is_some m.pins) m rec (with_file rec m.files) m.pages) o is allowed (file_contents before.held (is_some m.pins) rec m (with_file rec m.files) m.pages same)).records in
    record {
      was = was;
      put = put-set rec m.files rising there;
      contents = same;
      version = versions before.held m.files m.online rec f rising fits.1 fits.2;
      owner = subst (λ (n : ℕ). n < length m.users) fits.2.owner owner;
      few = was.stored.rules.users.few;
      number = subst (λ (n : ℕ). n < 1024) fits.2.number number;
      rules = subst (IsRecords m.users) (recs_here before.held (with_file rec m.files) m.online) rules;
    }
  where
    recs_entries : (files : List FileRec) (online : List (ℕ × DiscCopy)) → map (λ (e : FileEntry). e.0) (entries_of files online) ≡ files
    recs_entries [] online = refl
    recs_entries (r ∷ files) online = ap (λ (rest : List FileRec). r ∷ rest) (recs_entries files online)

file_set_ready : (rec : FileRec) (before : DiscState) (m : Memory) (first pages : Remembered) (o : OnlineFacts) → facts_of before m ≡ o → IsKept before m → IsAllowed (SetFile rec) o → IsThere rec before m
    → KeepsPages m.pages first → StillRemembers m.pages first → CoversHead m.head (head_after (is_some m.pins) m.head) m.pages first
    → pages ≡ marked (64 + rec.number) first → StillRemembers first pages → CoversBut (64 + rec.number) first pages
    → IsReady (SetFile rec) before m (set_in (is_some m.pins) m rec (map (put_one rec) m.files) pages)
file_set_ready rec before m first pages o is kept allowed there keeps remembers covers marks' remembers' covers' =
    let h : Head = head_after (is_some m.pins) m.head in
    let files : List FileRec = map (put_one rec) m.files in
    let n : Memory = set_in (is_some m.pins) m rec files pages in
    let mid : Directory = directory_of h m.users m.files m.online in
    let was = there.was in
    let old : List FileEntry = entries_of m.files m.online in
    let new : List FileEntry = entries_of files m.online in
    let same : AllSame old new = entries_same rec m.files m.online there.version in
    let contents = subst (λ (fs : List FileRec). contents_files before.held fs m.online ≡ set_rec rec (contents_files before.held m.files m.online)) there.put there.contents in
    make_ready (SetFile rec) before m n o is kept allowed refl refl refl refl refl
    (keeps_then m.pages first pages keeps (keeps_marked (64 + rec.number) first pages marks'))
    (λ b r. remembers' b (remembers b r))
    (λ s covered. covers' s mid (directory_in n) (covers s (directory_in m) mid covered refl refl refl refl)
    (but_file rec.number mid (directory_in n) refl refl (λ i other. others_put rec m.files m.online i other)))
    refl (touched_then before.held before.size m.head.next_stamp rec.owner old m.touched m.pins was.pins)
    (file_contents before.held (is_some m.pins) rec m files pages contents)
    (record { rising = was.copies.rising; files_are = subst (λ (ns : List ℕ). All (λ (c : ℕ × DiscCopy). Contains ns c.0) m.online) (sym (numbers_put rec m.files)) was.copies.files_are })
    (λ k there. there)
    (fits_same old new same (fits_still old was.stored.rules.lies))
    (pool_same before.size m.pins old new m.pool same was.pool)
    (noted_then (length m.users) (length m.users) rec.owner new m.changed m.touched m.pins there.owner (omega arith) (noted_same (length m.users) old new m.changed m.touched same was.noted))
    (subst (λ (k : ℕ). PinsAre m.pins before.size k new (touched_with m.pins rec.owner m.touched)) (sym (next_kept (is_some m.pins) m.head))
    (pins_then before.size m.head.next_stamp rec.owner new m.touched m.pins (pins_same before.size m.head.next_stamp old new m.touched m.pins same was.pins)))

pub file_ready : (rec : FileRec) (before : DiscState) (m : Memory) (pinned : Bool) (head : Head) (users : List UserRec) (files : List FileRec) (k : ℕ) (first pages : Remembered) (all touched : List ℕ) (o : OnlineFacts)
    → pinned ≡ is_some m.pins → head ≡ head_after pinned m.head → users ≡ m.users → files ≡ with_file rec m.files → k ≡ 64 + rec.number
    → all ≡ with_number rec.owner m.changed → touched ≡ (if pinned then with_number rec.owner m.touched else m.touched)
    → facts_of before m ≡ o → IsKept before m → IsAllowed (SetFile rec) o
    → KeepsPages m.pages first → StillRemembers m.pages first → CoversHead m.head head m.pages first → pages ≡ marked k first → StillRemembers first pages → CoversBut k first pages
    → IsReady (SetFile rec) before m (record m { head = head; users = users; files = files; pages = pages; changed = all; touched = touched })
file_ready rec before m pinned head users files k first pages all touched o pinned_is heads users_are put_is at changed_is touched_is is kept allowed keeps remembers covers marks' remembers' covers' =
    let there : IsThere rec before m = is_there rec before m o is kept allowed in
    let them : files ≡ map (put_one rec) m.files = put_is ∙ there.put in
    let top : head ≡ head_after (is_some m.pins) m.head = heads ∙ ap (λ (b : Bool). head_after b m.head) pinned_is in
    let who : touched ≡ touched_with m.pins rec.owner m.touched = touched_is ∙ ap (λ (b : Bool). if b then with_number rec.owner m.touched else m.touched) pinned_is in
    subst (IsReady (SetFile rec) before m)
    (λ i. record m { head = (sym top) i; users = (sym users_are) i; files = (sym them) i; pages = pages; changed = (sym changed_is) i; touched = (sym who) i })
    (file_set_ready rec before m first pages o is kept allowed there keeps remembers (subst (λ (h : Head). CoversHead m.head h m.pages first) top covers)
    (subst (λ (j : ℕ). pages ≡ marked j first) at marks') remembers' (subst (λ (j : ℕ). CoversBut j first pages) at covers'))

-- what the tree requires
pub file_rules : (rec : FileRec) (before : DiscState) (m : Memory) (users : List UserRec) (files : List FileRec) (o : OnlineFacts) → users ≡ m.users → files ≡ m.files
    → facts_of before m ≡ o → IsKept before m → IsAllowed (SetFile rec) o → IsRecords users (with_file rec files)
file_rules rec before m users files o users_are files_are is kept allowed =
    subst (λ (us : List UserRec). IsRecords us (with_file rec files)) (sym users_are)
    (subst (λ (fs : List FileRec). IsRecords m.users (with_file rec fs)) (sym files_are) (is_there rec before m o is kept allowed).rules)

-- its numbers
pub block_fits : (rec : FileRec) (before : DiscState) (m : Memory) (k : ℕ) (o : OnlineFacts) → k ≡ rec.number → facts_of before m ≡ o → IsKept before m → IsAllowed (SetFile rec) o → 64 + k < 1088
block_fits rec before m k o at is kept allowed = let less = (is_there rec before m o is kept allowed).number in omega arith

pub owner_fits : (rec : FileRec) (before : DiscState) (m : Memory) (o : OnlineFacts) → facts_of before m ≡ o → IsKept before m → IsAllowed (SetFile rec) o → rec.owner < 63
owner_fits rec before m o is kept allowed = let there = is_there rec before m o is kept allowed in let less = there.owner in let few = there.few in omega arith
