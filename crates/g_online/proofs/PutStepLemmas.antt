-- A new version whose bytes are written is ready to be committed.
-- serves: NewBytesLemmas
use Rattle.std.proofs.Common.{◌≡◌, ◌≢◌, ℕ, zero, suc, ◌+◌, ◌<◌, Bool, true, false, List, [], ◌∷◌, ◌++◌, length, map, Some, None, Ok, All, AllPairs, inl, inr, refl, sym, ◌∙◌, ap, subst, arith, if◌then◌else◌, ⊎_elim}
use Rattle.std.specs.Prelude.{Contains, is_some}
use Rattle.std.specs.Option.{ForSome}
use Rattle.std.specs.FinMap as finmap
use Rattle.std.proofs.lemmas.List.{get_or_default}
use Rattle.std.proofs.lemmas.List.Elements.{All-cons, All-weaker}
use Rattle.g_base.specs.Block.{blocks_for}
use Rattle.g_base.specs.ToldContent.{Changes}
use Rattle.g_base.proofs.ToldLemmas.{Changes-weaken, told_after}
use Rattle.g_blocks.specs.Pool.{HasTaken, IsInArea, IsTaken}
use Rattle.g_copy.specs.declared.copy.DiscCopy.{DiscCopy}
use Rattle.g_copy.specs.Copy.{Holds as Copied, OnlyAt, bytes_at}
use Rattle.g_disc.specs.Disc.{DiscState, WritesOnly}
use Rattle.g_entry.specs.declared.file_rec.FileRec.{FileRec}
use Rattle.g_entry.specs.declared.head.Head.{Head}
use Rattle.g_entry.specs.declared.user_rec.UserRec.{UserRec}
use Rattle.g_entry.specs.Rules.{AreNumbered}
use Rattle.g_tree.specs.Places.{StandsAt}
use Rattle.g_tree.specs.Records.{IsRecords, by_number}
use Rattle.g_tree.specs.State.{with_file as tree_with_file}
use Rattle.g_tree.proofs.PlaceLemmas.{stands_found}
use Rattle.g_dirs.specs.Directory.{FileEntry, all_places, copy_at, entries_of, places_of}
use Rattle.g_dirs.specs.Pages.{KeepsPages, Remembered}
use Rattle.g_dirs.proofs.CopyLemmas.{recs-entries}
use Rattle.g_disc_contents.specs.Contents.{contents_of, with_number}
use Rattle.g_disc_contents.specs.Facts.{OnlineFacts}
use Rattle.g_online.specs.declared.change.Change.TheVariants.{PutFile}
use Rattle.g_online.specs.declared.fault.OnlineFault.{OnlineFault}
use Rattle.g_online.specs.AllowedChanges.{KeepsRules}
use Rattle.g_online.specs.Change.{changed as changed_to}
use Rattle.g_online.specs.Copies.{with_copy_at}
use Rattle.g_online.specs.Invariant.{AreWhole, GivesUnless, IsAgreed, IsKept, IsPooled, Memory, copy_places, directory_in, head_after, orphans, pins_of, used_places}
use Rattle.g_online.specs.NewBytes.{is_pinned_at}
use Rattle.g_online.specs.NewBytes.{WroteBytes}
use Rattle.g_online.proofs.CopiedPlaces.{places_with}
use Rattle.g_online.proofs.CopyLemmas.{Copies, copy_behind}
use Rattle.g_online.proofs.EraseLemmas.{entries_differ, entries_rise, places_are, pooled, use_gone, used}
use Rattle.g_online.proofs.KeepLemmas.{rules_kept}
use Rattle.g_online.proofs.NoteLemmas.{touched_then, touched_with}
use Rattle.g_online.proofs.PlaceLemmas.{NotPinned, with_entry, without_entry, without_none}
use Rattle.g_online.proofs.PutLemmas.{entries_put, is_put, made_put, not_pinned, put_in_memory, put_may_give, put_used}
use Rattle.g_online.proofs.ReadyLemmas.{CoversBut, StillRemembers, pairs_left}
use Rattle.g_online.proofs.RecordLemmas.{recs_here}
use Rattle.g_online.proofs.SameLemmas.{left_part}
use Rattle.g_online.proofs.StepLemmas.{IsBeside, IsReadyFrom, pins_told}
use Rattle.g_online.proofs.TwoLemmas.{IsNew}
use Rattle.g_online.proofs.UnjamLemmas.{IsUnjammed}
use Rattle.g_online.proofs.WrittenLemmas.{IsNewCopy, NeedsFor, written_beside, written_kept}
use Rattle.g_online.proofs.UseLemmas.{IsUsed, SameUse, contains_or_not}

-- THE VERSION THAT IS REPLACED, if there is one
record FoundRec (number : ℕ) (files : List FileRec) (online : Copies) : Type 0 where
  pub file : FileRec
  pub number_is : file.number ≡ number
  pub there : Contains files file
  pub entry : Contains (entries_of files online) (file, copy_at online file.number)

found_rec : (number : ℕ) (files : List FileRec) (online : Copies) → Contains (map (λ (r : FileRec). r.number) files) number → FoundRec number files online
found_rec number [] online (k, inside, is) = let no : ⊥ = omega (arith, inside) in absurd no
found_rec number (r ∷ files) online (zero, inside, is) = record { file = r; number_is = is; there = (0, omega arith, refl); entry = (0, omega arith, refl) }
found_rec number (r ∷ files) online (suc k, inside, is) =
    let rest = found_rec number files online (k, omega (arith, inside), is) in
    let a = rest.there.1 in
    let b = rest.entry.1 in
    record {
      file = rest.file;
      number_is = rest.number_is;
      there = (suc rest.there.0, omega (arith, a), rest.there.2);
      entry = (suc rest.entry.0, omega (arith, b), rest.entry.2);
    }

-- no copy, and no file, of a number that isn't there
no_copy : (n : ℕ) (online : Copies) → All (λ (c : ℕ × DiscCopy). c.0 ≢ n) online → copy_at online n ≡ None
no_copy n [] away = refl
no_copy n (c ∷ online) away = copy_behind c online n (away 0 c (omega arith)) ∙ no_copy n online (λ k d within. away (suc k) d (omega (arith, within)))

no_entry : (n : ℕ) (files : List FileRec) (online : Copies) → (Contains (map (λ (r : FileRec). r.number) files) n → ⊥) → All (λ (e : FileEntry). e.0.number ≢ n) (entries_of files online)
no_entry n [] online away = λ k d within. (let no : ⊥ = omega (arith, within) in absurd no)
no_entry n (r ∷ files) online away =
    All-cons (λ (e : FileEntry). e.0.number ≢ n) (let e : FileEntry = (r, copy_at online r.number) in e) (entries_of files online)
    (λ same. away (0, omega arith, same))
    (no_entry n files online (λ there. let within = there.1 in away (suc there.0, omega (arith, within), there.2)))

abbrev gone_places : Bool → List ℕ → List ℕ
gone_places gone places = if gone then [] else places

none_gone : (gone : Bool) (places : List ℕ) → gone_places gone [] ++ places ≡ places
none_gone true places = refl
none_gone false places = refl

module _ (disc : DiscState) (m : Memory) (was : IsAgreed disc m) (number : ℕ) where
  abbrev es : List FileEntry
  es = entries_of m.files m.online

  numbered : AreNumbered m.files
  numbered = subst AreNumbered (recs-entries m.files m.online) was.stored.rules.numbered

  found_is : (f : FoundRec number m.files m.online) → finmap.get (by_number m.files) number ≡ Some f.file
  found_is f =
      let k = f.there.0 in
      let within = f.there.1 in
      let at : StandsAt m.files number k = record {
        within = within;
        has = λ d. ap (λ (r : FileRec). r.number) (get_or_default m.files k d f.file within ∙ f.there.2) ∙ f.number_is;
      } in
      stands_found m.files numbered number k f.file at ∙ ap Some f.there.2

  use_found : (gone : Bool) → gone ≡ is_pinned_at m.pins (finmap.get (by_number m.files) number) → FoundRec number m.files m.online
      → SameUse (used_places m.pins es) (gone_places gone (copy_places (copy_at m.online number)) ++ used_places m.pins (without_entry number es))
  use_found gone is f =
      let e : FileEntry = (f.file, copy_at m.online f.file.number) in
      let here : places_of e ≡ copy_places (copy_at m.online number) = places_are f.file (copy_at m.online f.file.number) ∙ ap (λ (n : ℕ). copy_places (copy_at m.online n)) f.number_is in
      subst (λ (n : ℕ). SameUse (used_places m.pins es) (gone_places gone (copy_places (copy_at m.online number)) ++ used_places m.pins (without_entry n es))) f.number_is
      (subst (λ (places : List ℕ). SameUse (used_places m.pins es) (gone_places gone places ++ used_places m.pins (without_entry f.file.number es))) here
      (use_gone disc.size m.head.next_stamp e es (entries_rise m.files m.online was.stored.rules.numbered.rising) (entries_differ m.files m.online was.stored.rules.files.stamps) f.entry m.pins m.touched gone
      (sym (is ∙ ap (is_pinned_at m.pins) (found_is f))) was.pins))

  use_absent : (gone : Bool) → (Contains (map (λ (r : FileRec). r.number) m.files) number → ⊥)
      → SameUse (used_places m.pins es) (gone_places gone (copy_places (copy_at m.online number)) ++ used_places m.pins (without_entry number es))
  use_absent gone away =
      let none : copy_at m.online number ≡ None =
      no_copy number m.online
      (All-weaker (λ (c : ℕ × DiscCopy). Contains (map (λ (r : FileRec). r.number) m.files) c.0) (λ (c : ℕ × DiscCopy). c.0 ≢ number)
      (λ c there same. away (subst (Contains (map (λ (r : FileRec). r.number) m.files)) same there)) m.online was.copies.files_are) in
      let all : without_entry number es ≡ es = without_none number es (no_entry number m.files m.online away) in
      let step : gone_places gone (copy_places (copy_at m.online number)) ++ used_places m.pins (without_entry number es) ≡ gone_places gone [] ++ used_places m.pins es =
      λ i. gone_places gone (copy_places (none i)) ++ used_places m.pins (all i) in
      subst (λ (l : List ℕ). SameUse (used_places m.pins es) l) (sym (step ∙ none_gone gone (used_places m.pins es))) (λ f. refl)

  -- its blocks, unless they must stay, and those that stay used
  pub replaced_use : (gone : Bool) → gone ≡ is_pinned_at m.pins (finmap.get (by_number m.files) number)
      → SameUse (used_places m.pins es) (gone_places gone (copy_places (copy_at m.online number)) ++ used_places m.pins (without_entry number es))
  replaced_use gone is = ⊎_elim
      (λ (there : Contains (map (λ (r : FileRec). r.number) m.files) number). use_found gone is (found_rec number m.files m.online there))
      (λ (away : Contains (map (λ (r : FileRec). r.number) m.files) number → ⊥). use_absent gone away)
      (contains_or_not (map (λ (r : FileRec). r.number) m.files) number)

-- A NEW VERSION whose bytes are written
module _ (rec : FileRec) (bytes unjam : List ℕ) (copy : DiscCopy) (o : OnlineFacts) (origin before : DiscState) (m : Memory) (un : IsUnjammed (PutFile rec bytes []) unjam o origin m) (new : IsNewCopy rec.len m.pool copy)
    (whole : ForSome before.held (AreWhole before.size)) (counts : WritesOnly {T = Unit {0}} {E = OnlineFault} (length copy.blocks) origin before (Ok tt)) (written : WroteBytes copy.blocks bytes origin before) where
  only : Changes (OnlyAt copy.blocks) origin.held before.held
  only = Changes-weaken written.content (λ a b told holds. holds.only)

  needs : NeedsFor rec.len (PutFile rec bytes [])
  needs = record { need = ap blocks_for (sym un.allowed.fits.2); none = refl }

  here : IsKept before m
  here = written_kept (PutFile rec bytes []) unjam rec.len copy o origin before m needs un new counts.size whole only written.dirties.syncable

  beside : IsBeside (PutFile rec bytes []) origin before m
  beside = written_beside (PutFile rec bytes []) unjam rec.len copy o origin before m needs un new counts.size whole only counts written.dirties

  -- what the disc exposes of the copy
  bytes_told : ForSome before.held (λ blocks. bytes_at copy.blocks copy.len blocks ≡ bytes)
  bytes_told = told_after written.content (λ b a told holds. subst (λ (k : ℕ). bytes_at copy.blocks k a ≡ bytes) (sym (new.len ∙ un.allowed.fits.2)) holds.bytes_are)

  made_here : (pool : List Bool) (pages : Remembered) → contents_of before.held (directory_in (put_in_memory (is_some m.pins) m rec copy pool pages)) ≡ changed_to (is_some before.held) (is_some m.pins) (PutFile rec bytes []) (contents_of before.held (directory_in m))
  made_here pool pages = made_put rec bytes copy before m pool pages bytes_told

  made_there : changed_to (is_some before.held) (is_some m.pins) (PutFile rec bytes []) (contents_of before.held (directory_in m)) ≡ changed_to (is_some origin.held) (is_some (pins_of origin.held m.pins)) (PutFile rec bytes []) (contents_of origin.held (directory_in m))
  made_there = λ i. changed_to (beside.told i) (sym (pins_told origin.held m.pins) i) (PutFile rec bytes []) (beside.contents i)

  rules_here : (pool : List Bool) (pages : Remembered) → KeepsRules (contents_of before.held (directory_in (put_in_memory (is_some m.pins) m rec copy pool pages)))
  rules_here pool pages = subst KeepsRules (sym (made_here pool pages ∙ made_there)) un.allowed.rules

  -- what the tree requires
  pub put_records : IsRecords m.users (tree_with_file rec m.files)
  put_records = subst (IsRecords m.users) (recs_here before.held (tree_with_file rec m.files) (with_copy_at (rec.number, copy) m.online)) (rules_here m.pool m.pages).records

  was : IsAgreed before m
  was = here.agreed un.live

  away : NotPinned rec.stamp m.pins
  away = subst (λ (s : ℕ). NotPinned s m.pins) (sym un.allowed.fits.0) (not_pinned before.size m.head.next_stamp (directory_in m).files m.touched m.pins was.pins)

  uses : IsUsed before.size (used_places m.pins (entries_of m.files m.online)) m.pool
  uses = used before.size m.pins (entries_of m.files m.online) m.pool was.pool

  -- what giving the blocks of the replaced version back requires
  pub may_replace : (mid : List Bool) (keeps : Bool) → HasTaken copy.blocks m.pool mid → keeps ≡ is_pinned_at m.pins (finmap.get (by_number m.files) rec.number) → keeps ≡ false
      → AllPairs (λ j k. j ≢ k) (copy_places (copy_at m.online rec.number)) × All (IsTaken mid) (copy_places (copy_at m.online rec.number))
  may_replace mid keeps taken is free =
      put_may_give before.size m.pins (let e : FileEntry = (rec, Some copy) in e) (entries_of m.files m.online) (copy_places (copy_at m.online rec.number)) m.pool mid (replaced_use before m was rec.number false (sym free ∙ is)) uses new.apart new.free taken

  put_pooled : (mid pool : List Bool) (keeps : Bool) (pages : Remembered) → HasTaken copy.blocks m.pool mid → keeps ≡ is_pinned_at m.pins (finmap.get (by_number m.files) rec.number)
      → GivesUnless keeps (copy_places (copy_at m.online rec.number)) mid pool → IsPooled before.size m.pins (directory_in (put_in_memory (is_some m.pins) m rec copy pool pages)).files pool
  put_pooled mid pool keeps pages taken is gives =
      subst (λ (fs : List FileEntry). IsPooled before.size m.pins fs pool) (sym (entries_put rec copy m.files m.online))
      (pooled before.size m.pins (with_entry (let e : FileEntry = (rec, Some copy) in e) (entries_of m.files m.online)) pool
      (put_used before.size m.pins (let e : FileEntry = (rec, Some copy) in e) (entries_of m.files m.online) (copy_places (copy_at m.online rec.number)) keeps m.pool mid pool away (replaced_use before m was rec.number keeps is) uses new.apart new.free taken gives))

  -- READY
  put_set_ready : (mid pool : List Bool) (keeps : Bool) (first pages : Remembered) → HasTaken copy.blocks m.pool mid → keeps ≡ is_pinned_at m.pins (finmap.get (by_number m.files) rec.number)
      → GivesUnless keeps (copy_places (copy_at m.online rec.number)) mid pool → KeepsPages m.pages pages → StillRemembers m.pages pages → CoversBut 0 m.pages first → CoversBut (64 + rec.number) first pages
      → rec.owner < length m.users → IsReadyFrom (PutFile rec bytes []) origin before m (put_in_memory (is_some m.pins) m rec copy pool pages)
  put_set_ready mid pool keeps first pages taken is gives kept_pages remembers covers covers' owner =
      let n : Memory = put_in_memory (is_some m.pins) m rec copy pool pages in
      let all = put_pooled mid pool keeps pages taken is gives in
      let put = is_put rec bytes copy before m pool first pages was un.allowed.fits.0 owner (record { len = new.len; count = new.count }) bytes_told covers covers' in
      let both = rules_kept before.size before.held (directory_in n) here.most (rules_here pool pages) put.fits
      (left_part (IsInArea before.size) (all_places (directory_in n).files) (orphans m.pins (directory_in n).files) all.area)
      (pairs_left (all_places (directory_in n).files) (orphans m.pins (directory_in n).files) all.apart) in
      record {
        was = here;
        lived = un.live;
        commits = refl;
        beside = beside;
        live = un.live;
        side = refl;
        pages = kept_pages;
        same_pins = refl;
        changed = refl;
        touched = touched_then before.held before.size m.head.next_stamp rec.owner (entries_of m.files m.online) m.touched m.pins was.pins;
        contents = put.contents;
        copies = put.copies;
        copied = λ k there. elim (places_with (rec.number, copy) m.online k there) [ inl old ↦ inl old | inr new ↦ inr (written.dirties.here k new) ];
        marked = record {
          size = here.size;
          gate = was.stored.gate;
          remembers = λ b told. remembers b (was.stored.remembers b told);
          covers = λ s. put.covers s (was.stored.covers s);
          records = both.0;
          rules = both.1;
        };
        pool = all;
        noted = put.noted;
        pins = put.pins;
      }

  pub put_ready : (mid pool : List Bool) (keeps pinned : Bool) (first pages : Remembered) (head : Head) (users : List UserRec) (files : List FileRec) (online : Copies) (changed_users touched : List ℕ)
      → HasTaken copy.blocks m.pool mid → keeps ≡ is_pinned_at m.pins (finmap.get (by_number m.files) rec.number) → GivesUnless keeps (copy_places (copy_at m.online rec.number)) mid pool
      → KeepsPages m.pages pages → StillRemembers m.pages pages → CoversBut 0 m.pages first → CoversBut (64 + rec.number) first pages → rec.owner < length m.users
      → pinned ≡ is_some m.pins → head ≡ head_after pinned (record m.head { next_stamp = m.head.next_stamp + 1 }) → users ≡ m.users → files ≡ tree_with_file rec m.files
      → online ≡ with_copy_at (rec.number, copy) m.online → changed_users ≡ with_number rec.owner m.changed → touched ≡ (if pinned then with_number rec.owner m.touched else m.touched)
      → IsReadyFrom (PutFile rec bytes []) origin before m (record m { head = head; users = users; files = files; online = online; pool = pool; pages = pages; changed = changed_users; touched = touched })
  put_ready mid pool keeps pinned first pages head users files online changed_users touched taken is gives kept_pages remembers covers covers' owner pinned_is heads users_are files_are online_is changed_is touched_is =
      let top : head ≡ head_after (is_some m.pins) (record m.head { next_stamp = m.head.next_stamp + 1 }) = heads ∙ ap (λ (b : Bool). head_after b (record m.head { next_stamp = m.head.next_stamp + 1 })) pinned_is in
      let whom : touched ≡ touched_with m.pins rec.owner m.touched = touched_is ∙ ap (λ (b : Bool). if b then with_number rec.owner m.touched else m.touched) pinned_is in
      subst (IsReadyFrom (PutFile rec bytes []) origin before m)
      (λ i. record m {
        head = (sym top) i;
        users = (sym users_are) i;
        files = (sym files_are) i;
        online = (sym online_is) i;
        pool = pool;
        pages = pages;
        changed = (sym changed_is) i;
        touched = (sym whom) i;
      })
      (put_set_ready mid pool keeps first pages taken is gives kept_pages remembers covers covers' owner)

-- its numbers
pub owner_below : (rec : FileRec) (users : List UserRec) → IsNew rec users → rec.owner < 63
owner_below rec users new = let less = new.owner in let few = new.few in omega (arith, less, few)
