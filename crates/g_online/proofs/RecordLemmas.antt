-- The changes of the head and of users are ready to be written.
-- serves: set_intent, set_user, tree (files), unjam_first (off), with_new_copy, AdoptLemmas, AdoptedLemmas, BringStepLemmas, CloseLemmas, and 8 more
use Rattle.std.proofs.Common.{◌≡◌, ℕ, ◌+◌, ◌<◌, Bool, true, false, List, [], ◌∷◌, length, map, Option, Some, None, refl, sym, ◌∙◌, ap, subst, if◌then◌else◌}
use Rattle.std.specs.Prelude.{All, is_some, slice_set}
use Rattle.std.proofs.Math.ListN.{set}
use Rattle.std.proofs.lemmas.List.{length-set}
use Rattle.std.proofs.lemmas.List.Elements.{All-weaker}
use Rattle.g_copy.specs.declared.copy.DiscCopy.{DiscCopy}
use Rattle.g_blocks.proofs.Marks.{slice_get-set_other}
use Rattle.g_disc.specs.Disc.{DiscState}
use Rattle.g_entry.specs.declared.file_rec.FileRec.{FileRec}
use Rattle.g_entry.specs.declared.head.Head.{Head}
use Rattle.g_entry.specs.declared.head.Intent.{Intent}
use Rattle.g_entry.specs.declared.user_rec.UserRec.{UserRec}
use Rattle.g_dirs.specs.Directory.{Directory, FileEntry, LiesSomewhere, directory_of, entries_of}
use Rattle.g_dirs.specs.Pages.{KeepsPages, Remembered, marked}
use Rattle.g_tree.specs.Records.{IsRecords, name_of}
use Rattle.g_disc_contents.specs.Contents.{File, contents_of, file_of}
use Rattle.g_disc_contents.specs.Facts.{OnlineFacts}
use Rattle.g_online.specs.declared.change.Change.TheVariants.{SetUser, SetIntent}
use Rattle.g_online.specs.declared.pinned.Pinned.{Pinned}
use Rattle.g_online.specs.AllowedChanges.{IsAllowed}
use Rattle.g_online.specs.Change.{changed}
use Rattle.g_online.specs.Invariant.{AreNoted, IsAgreed, IsKept, Memory, PinsAre, directory_in, facts_of, head_after, pins_of}
use Rattle.g_online.proofs.KeepLemmas.{CopyFits}
use Rattle.g_online.proofs.MarkLemmas.{but_head, but_user}
use Rattle.g_online.proofs.ReadyLemmas.{CoversBut, StillRemembers, allowed_here, allowed_live, make_ready, rules_then}
use Rattle.g_online.proofs.StepLemmas.{IsReady}
use Rattle.g_online.proofs.TieLemmas.{rec_of}

-- a mark leaves what is remembered
pub keeps_marked : (k : ℕ) (old new : Remembered) → new ≡ marked k old → KeepsPages old new
keeps_marked k old new is = record { a = ap (λ (p : Remembered). p.a) is; b = ap (λ (p : Remembered). p.b) is }

pub keeps_then : (x y z : Remembered) → KeepsPages x y → KeepsPages y z → KeepsPages x z
keeps_then x y z first second = record { a = second.a ∙ first.a; b = second.b ∙ first.b }

-- without pinned versions no user is touched
pub touched_stays : (held : Option (List (List ℕ))) (size next : ℕ) (files : List FileEntry) (touched : List ℕ) (pins : Option (List Pinned)) → PinsAre pins size next files touched
    → touched ≡ (if is_some (pins_of held pins) then touched else [])
touched_stays held size next files touched None are = are
touched_stays held size next files touched (Some pins) are = refl

pub fits_still : (files : List FileEntry) → All LiesSomewhere files → All CopyFits files
fits_still files lies = All-weaker LiesSomewhere CopyFits (λ f is. is.copy) files lies

-- the records in the contents are those of the directory
pub recs_here : (held : Option (List (List ℕ))) (files : List FileRec) (online : List (ℕ × DiscCopy)) → map (λ (f : File). f.rec) (map (file_of held) (entries_of files online)) ≡ files
recs_here held [] online = refl
recs_here held (r ∷ files) online =
    ap (λ (q : FileRec). q ∷ map (λ (f : File). f.rec) (map (file_of held) (entries_of files online))) (rec_of held _)
    ∙ ap (λ (rs : List FileRec). r ∷ rs) (recs_here held files online)

-- THE INTENT
intent_contents : (held : Option (List (List ℕ))) (pinned : Bool) (intent : Option Intent) (m : Memory) (pages : Remembered)
    → contents_of held (directory_in (record m { head = record m.head { intent = intent }; pages = pages })) ≡ changed (is_some held) pinned (SetIntent intent) (contents_of held (directory_in m))
unfolding changed
intent_contents held true intent m pages = refl
intent_contents held false intent m pages = refl

pub intent_ready : (intent : Option Intent) (before : DiscState) (m : Memory) (pages : Remembered) (o : OnlineFacts) → facts_of before m ≡ o → IsKept before m → IsAllowed (SetIntent intent) o
    → pages ≡ marked 0 m.pages → StillRemembers m.pages pages → CoversBut 0 m.pages pages
    → IsReady (SetIntent intent) before m (record m { head = record m.head { intent = intent }; pages = pages })
intent_ready intent before m pages o is kept allowed marks remembers covers =
    let n : Memory = record m { head = record m.head { intent = intent }; pages = pages } in
    let was : IsAgreed before m = kept.agreed (allowed_live (SetIntent intent) before m o is allowed) in
    make_ready (SetIntent intent) before m n o is kept allowed refl refl refl refl refl (keeps_marked 0 m.pages pages marks) remembers
    (λ s old. covers s (directory_in m) (directory_in n) old (but_head (directory_in m) (directory_in n) refl refl))
    refl (touched_stays before.held before.size m.head.next_stamp (directory_in m).files m.touched m.pins was.pins)
    (intent_contents before.held (is_some m.pins) intent m pages) was.copies (λ k there. there) (fits_still (directory_in m).files was.stored.rules.lies) was.pool was.noted was.pins

-- THE RECORD OF A USER
pub next_kept : (pinned : Bool) (head : Head) → (head_after pinned head).next_stamp ≡ head.next_stamp
next_kept true head = refl
next_kept false head = refl

user_contents : (held : Option (List (List ℕ))) (pinned : Bool) (user : UserRec) (m : Memory) (pages : Remembered)
    → contents_of held (directory_in (record m { head = head_after pinned m.head; users = slice_set m.users user.number user; pages = pages }))
    ≡ changed (is_some held) pinned (SetUser user) (contents_of held (directory_in m))
unfolding changed
user_contents held true user m pages = refl
user_contents held false user m pages = refl

user_set_ready : (user : UserRec) (before : DiscState) (m : Memory) (first pages : Remembered) (o : OnlineFacts) → facts_of before m ≡ o → IsKept before m → IsAllowed (SetUser user) o
    → first ≡ marked 0 m.pages → StillRemembers m.pages first → CoversBut 0 m.pages first → pages ≡ marked (1 + user.number) first → StillRemembers first pages → CoversBut (1 + user.number) first pages
    → IsReady (SetUser user) before m (record m { head = head_after (is_some m.pins) m.head; users = slice_set m.users user.number user; pages = pages })
user_set_ready user before m first pages o is kept allowed marks remembers covers marks' remembers' covers' =
    let h : Head = head_after (is_some m.pins) m.head in
    let n : Memory = record m { head = h; users = slice_set m.users user.number user; pages = pages } in
    let mid : Directory = directory_of h m.users m.files m.online in
    let was : IsAgreed before m = kept.agreed (allowed_live (SetUser user) before m o is allowed) in
    make_ready (SetUser user) before m n o is kept allowed refl refl refl refl refl
    (keeps_then m.pages first pages (keeps_marked 0 m.pages first marks) (keeps_marked (1 + user.number) first pages marks'))
    (λ b r. remembers' b (remembers b r))
    (λ s old. covers' s mid (directory_in n) (covers s (directory_in m) mid old (but_head (directory_in m) mid refl refl))
    (but_user user.number mid (directory_in n) refl (λ i other. slice_get-set_other m.users user.number i user other) refl))
    refl (touched_stays before.held before.size m.head.next_stamp (directory_in m).files m.touched m.pins was.pins)
    (user_contents before.held (is_some m.pins) user m pages) was.copies (λ k there. there) (fits_still (directory_in m).files was.stored.rules.lies) was.pool
    (subst (λ (k : ℕ). AreNoted k (directory_in m).files m.changed m.touched) (sym (length-set m.users user.number user)) was.noted)
    (subst (λ (k : ℕ). PinsAre m.pins before.size k (directory_in m).files m.touched) (sym (next_kept (is_some m.pins) m.head)) was.pins)

pub user_ready : (user copied : UserRec) (before : DiscState) (m : Memory) (pinned : Bool) (head : Head) (users : List UserRec) (files : List FileRec) (k : ℕ) (first pages : Remembered) (o : OnlineFacts)
    → copied ≡ user → pinned ≡ is_some m.pins → head ≡ head_after pinned m.head → users ≡ slice_set m.users copied.number copied → files ≡ m.files → k ≡ 1 + user.number
    → facts_of before m ≡ o → IsKept before m → IsAllowed (SetUser user) o
    → first ≡ marked 0 m.pages → StillRemembers m.pages first → CoversBut 0 m.pages first → pages ≡ marked k first → StillRemembers first pages → CoversBut k first pages
    → IsReady (SetUser user) before m (record m { head = head; users = users; files = files; pages = pages })
user_ready user copied before m pinned head users files k first pages o same pinned_is heads set_is files_are at is kept allowed marks remembers covers marks' remembers' covers' =
    let all : users ≡ slice_set m.users user.number user = set_is ∙ ap (λ (u : UserRec). slice_set m.users u.number u) same in
    let top : head ≡ head_after (is_some m.pins) m.head = heads ∙ ap (λ (b : Bool). head_after b m.head) pinned_is in
    subst (IsReady (SetUser user) before m) (λ i. record m { head = (sym top) i; users = (sym all) i; files = (sym files_are) i; pages = pages })
    (user_set_ready user before m first pages o is kept allowed marks remembers covers
    (subst (λ (j : ℕ). pages ≡ marked j first) at marks') remembers' (subst (λ (j : ℕ). CoversBut j first pages) at covers'))

-- what the tree requires
pub user_rules : (user copied : UserRec) (before : DiscState) (m : Memory) (o : OnlineFacts) → copied ≡ user → facts_of before m ≡ o → IsKept before m → IsAllowed (SetUser user) o
    → (copied.number < length m.users) × (name_of m.users copied.number ≡ copied.user) × IsRecords (slice_set m.users copied.number copied) m.files
user_rules user copied before m o same is kept allowed =
    let n : Memory = record m { head = head_after (is_some m.pins) m.head; users = slice_set m.users user.number user; pages = m.pages } in
    let fits = (allowed_here (SetUser user) before m o is allowed).fits in
    let rules = (rules_then (SetUser user) before m n o is allowed (user_contents before.held (is_some m.pins) user m m.pages)).records in
    subst (λ (u : UserRec). (u.number < length m.users) × (name_of m.users u.number ≡ u.user) × IsRecords (slice_set m.users u.number u) m.files) (sym same)
    (fits.0, fits.1, subst (IsRecords (slice_set m.users user.number user)) (recs_here before.held m.files m.online) rules)
