-- A dump is closed: its versions are unpinned, their places on tape are noted as those of a completed dump, and touched
-- users count as changed.
-- serves: close_dump
use Rattle.std.proofs.Common.{◌≡◌, ◌≢◌, ◌⊎◌, ℕ, ◌<◌, ◌==◌, ◌||◌, Bool, true, false, List, [], ◌∷◌, length, get_or, map, Option, Some, None, Result, Ok, Err, All, AllPairs, refl, sym, ◌∙◌, ap, subst, arith, inl, inr}
use Rattle.std.specs.Prelude.{is_some}
use Rattle.std.proofs.lemmas.Bool.{cases_Bool, cond-false, cond-true}
use Rattle.std.proofs.lemmas.List.Elements.{All-cons, All-head, All-map, All-tail, All-weaker}
use Rattle.g_blocks.specs.Pool.{HasGiven, IsTaken}
use Rattle.g_copy.specs.declared.copy.DiscCopy.{DiscCopy}
use Rattle.g_disc.specs.Disc.{DiscState}
use Rattle.g_entry.specs.declared.file_rec.FileRec.{FileRec}
use Rattle.g_entry.specs.declared.file_rec.TapeCopy.{TapeCopy}
use Rattle.g_entry.specs.declared.user_rec.UserRec.{UserRec}
use Rattle.g_dirs.specs.Directory.{FileEntry, copy_at, entries_of}
use Rattle.g_dirs.specs.Pages.{Remembered, marked}
use Rattle.g_tree.specs.Records.{IsRecords}
use Rattle.g_disc_contents.specs.Contents.{Contents, Holds, copied_rec, copy_of, has}
use Rattle.g_disc_contents.specs.Facts.{OnlineFacts, Pin, noted}
use Rattle.g_online.specs.declared.change.Change.TheVariants.{Adopt}
use Rattle.g_online.specs.declared.fault.OnlineFault.{OnlineFault}
use Rattle.g_online.specs.declared.pinned.Pinned.{Pinned}
use Rattle.g_online.specs.AllowedChanges.{IsAllowed, KeepsRules}
use Rattle.g_online.specs.Change.{closed}
use Rattle.g_online.specs.DumpedVersions.{MarksMade, lost_places, noted_in, pinned_in}
use Rattle.g_online.specs.Invariant.{AreNoted, IsFileOf, IsKept, IsPinned, Memory, PinsAre, WaitsFor, WaitsPinned, directory_in, facts_of, has_stamp, pin_of, pins_of}
use Rattle.g_online.specs.Pins.{IsClosing}
use Rattle.g_online.specs.ReadyCopies.{adopted}
use Rattle.g_online.proofs.AdoptLemmas.{adopt_rules, noted_ready}
use Rattle.g_online.proofs.CloseMarkLemmas.{covers_noted}
use Rattle.g_online.proofs.NotedLemmas.{IsNotedBy, MayNote, adopted_is}
use Rattle.g_online.proofs.PinLostLemmas.{gone_kept, let_go, lost_blocks, no_numbers}
use Rattle.g_online.proofs.ReadyLemmas.{CoversBut, StillRemembers}
use Rattle.g_online.proofs.RecordLemmas.{keeps_marked, keeps_then}
use Rattle.g_online.proofs.StepLemmas.{IsReady, pins_told}
use Rattle.g_online.proofs.TieLemmas.{all_files}
use Rattle.g_online.proofs.UnloadLemmas.{remembers_pages}

abbrev Tapes : Type 0
Tapes = List (ℕ × TapeCopy)

-- copies are noted for pinned versions only
no_copy : (pins : List Pinned) (stamp : ℕ) (old : Option TapeCopy) → copy_of (noted_in pins) stamp old ≡ None → (old ≡ None) × (has_stamp pins stamp ≡ false)
no_copy [] stamp old none = (none, refl)
no_copy (p ∷ pins) stamp old none = by_first (cases_Bool (p.stamp == stamp)) (no_copy pins stamp old)
  where
    by_first : ((p.stamp == stamp) ≡ true) ⊎ ((p.stamp == stamp) ≡ false) → (copy_of (noted_in pins) stamp old ≡ None → (old ≡ None) × (has_stamp pins stamp ≡ false))
        → (old ≡ None) × (has_stamp (p ∷ pins) stamp ≡ false)
    by_first (inl is) rest =
        let it : (let some : Option TapeCopy = Some p.copy in some ≡ None) = sym (cond-true (p.stamp == stamp) (Some p.copy) (copy_of (noted_in pins) stamp old) is) ∙ none in
        (let no : ⊥ = cc in absurd no)
    by_first (inr is) rest =
        let others = rest (sym (cond-false (p.stamp == stamp) (Some p.copy) (copy_of (noted_in pins) stamp old) is) ∙ none) in
        (others.0, ap (λ (b : Bool). b || has_stamp pins stamp) is ∙ others.1)

noted_list : (held : Option (List (List ℕ))) (pins : List Pinned) → map (λ (p : Pin). (p.stamp, p.copy)) (map (pin_of held) pins) ≡ noted_in pins
noted_list held [] = refl
noted_list held (p ∷ pins) = ap (λ (l : Tapes). (p.stamp, p.copy) ∷ l) (noted_list held pins)

pub noted_is : (held : Option (List (List ℕ))) (pins : Option (List Pinned)) → noted (pins_of held pins) ≡ noted_in (pinned_in pins)
noted_is held None = refl
noted_is held (Some pins) = noted_list held pins

-- no place is noted for an empty file
not_empty : (pins : List Pinned) (f : FileEntry) → All (λ (p : Pinned). (0 < p.len) × IsFileOf p f) pins → f.0.len ≡ 0 → All (λ (c : ℕ × TapeCopy). c.0 ≢ f.0.stamp) (noted_in pins)
not_empty pins f all empty =
    All-map (λ (c : ℕ × TapeCopy). c.0 ≢ f.0.stamp) (λ (p : Pinned). (p.stamp, p.copy)) pins
    (All-weaker (λ (p : Pinned). (0 < p.len) × IsFileOf p f) (λ (p : Pinned). p.stamp ≢ f.0.stamp)
    (λ p both. λ same. (let filled = both.0 in let len = (both.1 (sym same)).0 in let no : ⊥ = omega (arith, filled, len, empty) in no)) pins all)

empty_apart : (size next : ℕ) (files : List FileEntry) (touched : List ℕ) (pins : Option (List Pinned)) → PinsAre pins size next files touched
    → All (λ (f : FileEntry). f.0.len ≡ 0 → All (λ (c : ℕ × TapeCopy). c.0 ≢ f.0.stamp) (noted_in (pinned_in pins))) files
empty_apart size next files touched None are = λ k d within empty. λ j e inside. (let no : ⊥ = omega (arith, inside) in absurd no)
empty_apart size next files touched (Some pins) are = λ k d within.
    not_empty pins (get_or files k d)
    (All-weaker (IsPinned size next files) (λ (p : Pinned). (0 < p.len) × IsFileOf p (get_or files k d)) (λ p is. (is.filled, is.current k d within)) pins are.each)

-- the owner of a version that waits after the closing was touched
waits_closed : (pins : List Pinned) (touched : List ℕ) (files : List FileRec) (online : List (ℕ × DiscCopy)) → All (WaitsPinned pins touched) (entries_of files online)
    → All (λ (e : FileEntry). WaitsFor touched e.0) (entries_of (map (copied_rec (noted_in pins)) files) online)
waits_closed pins touched [] online all = λ k d within. (let no : ⊥ = omega (arith, within) in absurd no)
waits_closed pins touched (r ∷ files) online all =
    All-cons (λ (e : FileEntry). WaitsFor touched e.0) (let e : FileEntry = (copied_rec (noted_in pins) r, copy_at online r.number) in e) (entries_of (map (copied_rec (noted_in pins)) files) online)
    (λ filled none. touched_one filled (no_copy pins r.stamp r.tape none))
    (waits_closed pins touched files online (All-tail (WaitsPinned pins touched) (let e : FileEntry = (r, copy_at online r.number) in e) (entries_of files online) all))
  where
    either : (has_stamp pins r.stamp ≡ true) ⊎ (has touched r.owner ≡ true) → has_stamp pins r.stamp ≡ false → has touched r.owner ≡ true
    either (inl is) isnt = (let wrong = sym is ∙ isnt in let no : ⊥ = cc in absurd no)
    either (inr is) isnt = is

    touched_one : 0 < r.len → (r.tape ≡ None) × (has_stamp pins r.stamp ≡ false) → has touched r.owner ≡ true
    touched_one filled both = either (All-head (WaitsPinned pins touched) (let e : FileEntry = (r, copy_at online r.number) in e) (entries_of files online) all filled both.0) both.1

noted_closed : (users size next : ℕ) (files : List FileRec) (online : List (ℕ × DiscCopy)) (changed touched : List ℕ) (pins : Option (List Pinned)) → is_some pins ≡ true → AreNoted users (entries_of files online) changed touched
    → PinsAre pins size next (entries_of files online) touched → AreNoted users (entries_of (map (copied_rec (noted_in (pinned_in pins))) files) online) touched []
noted_closed users size next files online changed touched None some was are = (let no : ⊥ = cc in absurd no)
noted_closed users size next files online changed touched (Some pins) some was are = record {
  changed_are = was.touched_are;
  touched_are = no_numbers users;
  touched_changed = λ k d within. (let no : ⊥ = omega (arith, within) in absurd no);
  waits = waits_closed pins touched files online are.waits;
}

-- THE CLOSING, as the places of a completed dump are noted, after the versions were unpinned: what is known before it
pub record IsToClose (last : ℕ) (before : DiscState) (m : Memory) : Type 0 where
  pub kept : IsKept before m
  pub live : m.live ≡ true
  pub some : is_some m.pins ≡ true
  pub rules : KeepsRules (closed last (facts_of before m))

pub to_close : (last : ℕ) (before : DiscState) (m : Memory) (o : OnlineFacts) → facts_of before m ≡ o → IsKept before m → o.live ≡ true → is_some o.pins ≡ true → KeepsRules (closed last o) → IsToClose last before m
to_close last before m o is kept live some rules = record {
  kept = kept;
  live = ap (λ (p : OnlineFacts). p.live) is ∙ live;
  some = sym (pins_told before.held m.pins) ∙ ap (λ (p : OnlineFacts). is_some p.pins) is ∙ some;
  rules = subst (λ (p : OnlineFacts). KeepsRules (closed last p)) (sym is) rules;
}

module _ (last : ℕ) (before : DiscState) (m : Memory) (may : IsToClose last before m) (files : List FileRec) (pins : List Pinned) (files_are : files ≡ m.files) (pins_are : pins ≡ pinned_in m.pins) where
  -- what giving their blocks back requires
  pub lost_to_close : AllPairs (λ j k. j ≢ k) (lost_places files pins) × All (IsTaken m.pool) (lost_places files pins)
  lost_to_close = lost_blocks before m may.kept may.live files pins files_are pins_are

  copies_are : noted_in pins ≡ noted (facts_of before m).pins
  copies_are = ap noted_in pins_are ∙ sym (noted_is before.held m.pins)

  -- the contents of the closing
  closes : adopted last (noted_in pins) (facts_of before m).contents ≡ closed last (facts_of before m)
  closes = ap (λ (cs : Tapes). adopted last cs (facts_of before m).contents) copies_are

  module _ (pool : List Bool) (gives : HasGiven (lost_places files pins) m.pool pool) where
    abbrev gone : Memory
    gone = let_go pool [] m

    gone_is : IsKept before gone
    gone_is = gone_kept before m may.kept may.live files pins files_are pins_are pool [] gives refl

    allowed : IsAllowed (Adopt last (noted_in pins)) (facts_of before gone)
    allowed = record {
      live = may.live;
      fits = (
        refl,
        all_files (λ (r : FileRec). r.len ≡ 0 → All (λ (c : ℕ × TapeCopy). c.0 ≢ r.stamp) (noted_in pins)) before.held (directory_in m).files
            (subst (λ (ps : List Pinned). All (λ (f : FileEntry). f.0.len ≡ 0 → All (λ (c : ℕ × TapeCopy). c.0 ≢ f.0.stamp) (noted_in ps)) (directory_in m).files) (sym pins_are)
            (empty_apart before.size m.head.next_stamp (directory_in m).files m.touched m.pins (may.kept.agreed may.live).pins)),
      );
      rules = subst KeepsRules (sym (adopted_is (is_some before.held) last (noted_in pins) (facts_of before gone) refl ∙ closes)) may.rules;
    }

    -- what the tree requires
    pub close_rules : IsRecords m.users (map (copied_rec (noted_in pins)) m.files)
    close_rules = adopt_rules last (noted_in pins) (noted_in pins) before gone (facts_of before gone) refl refl gone_is allowed

    abbrev pub shut : List UserRec → List FileRec → Remembered → Memory
    shut users noted_files pages = record gone { head = record m.head { last_dump = last; intent = None }; users = users; files = noted_files; pages = pages }

    pub close_ready : (users : List UserRec) (noted_files : List FileRec) (first pages : Remembered) → users ≡ m.users → noted_files ≡ map (copied_rec (noted_in pins)) m.files
        → first ≡ marked 0 m.pages → StillRemembers m.pages first → CoversBut 0 m.pages first → MarksMade (copied_rec (noted_in pins)) m.files first pages
        → IsReady (Adopt last (noted_in pins)) before gone (shut users noted_files pages)
    close_ready users noted_files first pages users_are noted_are head_marked remembers covers marks =
        noted_ready last (noted_in pins) (noted_in pins) before gone false (record m.head { last_dump = last; intent = None }) users noted_files pages (facts_of before gone)
        refl refl refl users_are noted_are refl gone_is allowed
        (keeps_then m.pages first pages (keeps_marked 0 m.pages first head_marked) marks.pages)
        (λ b was. remembers_pages first pages marks.pages b (remembers b was))
        (λ s was. covers_noted (noted_in pins) s m.head (record m.head { last_dump = last; intent = None }) m.users m.files m.online m.pages first pages covers marks was)

    -- the users who count as changed after the closing
    close_noted : (users : List UserRec) (noted_files : List FileRec) (all touched : List ℕ) → users ≡ m.users → noted_files ≡ map (copied_rec (noted_in pins)) m.files → all ≡ m.touched → touched ≡ []
        → AreNoted (length users) (entries_of noted_files m.online) all touched
    close_noted users noted_files all touched users_are noted_are all_is none =
        let was = may.kept.agreed may.live in
        subst (λ (us : List UserRec). AreNoted (length us) (entries_of noted_files m.online) all touched) (sym users_are)
        (subst (λ (fs : List FileRec). AreNoted (length m.users) (entries_of fs m.online) all touched) (sym noted_are)
        (subst (λ (ps : List Pinned). AreNoted (length m.users) (entries_of (map (copied_rec (noted_in ps)) m.files) m.online) all touched) (sym pins_are)
        (subst (λ (ns : List ℕ). AreNoted (length m.users) (entries_of (map (copied_rec (noted_in (pinned_in m.pins))) m.files) m.online) ns touched) (sym all_is)
        (subst (λ (ns : List ℕ). AreNoted (length m.users) (entries_of (map (copied_rec (noted_in (pinned_in m.pins))) m.files) m.online) m.touched ns) (sym none)
        (noted_closed (length m.users) before.size m.head.next_stamp m.files m.online m.changed m.touched m.pins may.some was.noted was.pins)))))

    pub may_close : (users : List UserRec) (noted_files : List FileRec) (first marks : Remembered) (all touched : List ℕ) → users ≡ m.users → noted_files ≡ map (copied_rec (noted_in pins)) m.files
        → first ≡ marked 0 m.pages → StillRemembers m.pages first → CoversBut 0 m.pages first → MarksMade (copied_rec (noted_in pins)) m.files first marks → all ≡ m.touched → touched ≡ []
        → MayNote last (noted_in pins) all touched before gone (shut users noted_files marks)
    may_close users noted_files first marks all touched users_are noted_are head_marked remembers covers makes all_is none = record {
      ready = close_ready users noted_files first marks users_are noted_are head_marked remembers covers makes;
      none = refl;
      unpinned = refl;
      nobody = none;
      noted = close_noted users noted_files all touched users_are noted_are all_is none;
    }

    -- HOW IT IS ANSWERED
    pub closing_is : (all : List ℕ) (o new : OnlineFacts) (result : Result (Unit {0}) OnlineFault) → all ≡ m.touched → facts_of before m ≡ o → IsNotedBy last (noted_in pins) all (facts_of before gone) new result
        → IsClosing last o new result
    closing_is all o new (Ok u) all_is is it = subst (λ (p : OnlineFacts). IsClosing last p new (Ok u)) is (record {
      ok = record {
        live = it.ok.live;
        contents = it.ok.contents ∙ closes;
        pins = it.ok.pins;
        changed = it.ok.changed ∙ all_is;
        touched = it.ok.touched;
        blocks = it.ok.blocks;
        commits = it.ok.commits;
        writes = it.ok.writes;
        durable = it.ok.durable;
      };
      stopped = tt;
      causes = it.causes;
      tied = it.tied;
      told = it.told;
      only = tt;
    })
    closing_is all o new (Err e) all_is is it = subst (λ (p : OnlineFacts). IsClosing last p new (Err e)) is (record {
      ok = tt;
      stopped = record {
        live = it.stopped.live;
        holds = λ blocks told. subst (λ (c : Contents). Holds blocks (facts_of before m).contents ⊎ Holds blocks c) closes (it.stopped.holds blocks told);
        survives = λ durable.
            let both = it.stopped.survives durable in
            (both.0, λ a told left may. subst (λ (c : Contents). Holds left (facts_of before m).contents ⊎ Holds left c) closes (both.1 a told left may));
      };
      causes = it.causes;
      tied = it.tied;
      told = it.told;
      only = it.only;
    })
