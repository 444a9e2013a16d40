-- A user more is ready to be written.
-- serves: add_user, crates above
use Rattle.std.proofs.Common.{◌≡◌, ◌≢◌, ℕ, zero, suc, ◌+◌, ◌<◌, ◌≤◌, Bool, true, false, List, [], ◌∷◌, ◌++◌, length, Option, Some, refl, sym, ◌∙◌, ap, subst, arith, slice_get, length-append, if◌then◌else◌}
use Rattle.std.specs.Prelude.{is_some}
use Rattle.g_disc.specs.Disc.{DiscState}
use Rattle.g_entry.specs.declared.file_rec.FileRec.{FileRec}
use Rattle.g_entry.specs.declared.head.Head.{Head}
use Rattle.g_entry.specs.declared.user_rec.UserRec.{UserRec}
use Rattle.g_dirs.specs.Directory.{Directory, directory_of}
use Rattle.g_dirs.specs.Pages.{Remembered, marked}
use Rattle.g_tree.specs.Records.{IsRecords}
use Rattle.g_disc_contents.specs.Contents.{contents_of, with_number}
use Rattle.g_disc_contents.specs.Facts.{OnlineFacts}
use Rattle.g_online.specs.declared.change.Change.TheVariants.{AddUser}
use Rattle.g_online.specs.AllowedChanges.{IsAllowed}
use Rattle.g_online.specs.Change.{changed}
use Rattle.g_online.specs.Invariant.{IsAgreed, IsKept, Memory, PinsAre, directory_in, facts_of, head_after}
use Rattle.g_online.proofs.MarkLemmas.{but_head, but_user}
use Rattle.g_online.proofs.NoteLemmas.{noted_then, pins_then, touched_then, touched_with}
use Rattle.g_online.proofs.ReadyLemmas.{CoversBut, StillRemembers, allowed_live, make_ready, rules_then}
use Rattle.g_online.proofs.RecordLemmas.{fits_still, keeps_marked, keeps_then, next_kept, recs_here}
use Rattle.g_online.proofs.StepLemmas.{IsReady}

-- the others stay at their places
pub slice_get-push : {X : Type 0} (xs : List X) (x : X) (i : ℕ) → i ≢ length xs → slice_get (xs ++ x ∷ []) i ≡ slice_get xs i
slice_get-push [] x zero other = absurd (other refl)
slice_get-push [] x (suc i) other = refl
slice_get-push (y ∷ xs) x zero other = refl
slice_get-push (y ∷ xs) x (suc i) other = slice_get-push xs x i (λ same. other (ap suc same))

slice_get-last : {X : Type 0} (xs : List X) (x : X) → slice_get (xs ++ x ∷ []) (length xs) ≡ Some x
slice_get-last [] x = refl
slice_get-last (y ∷ xs) x = slice_get-last xs x

abbrev added : Memory → UserRec → Remembered → Memory
added m user pages = record m {
  head = head_after (is_some m.pins) m.head;
  users = m.users ++ user ∷ [];
  pages = pages;
  changed = with_number user.number m.changed;
  touched = touched_with m.pins user.number m.touched;
}

abbrev added_by : Bool → Memory → UserRec → Remembered → Memory
added_by pinned m user pages = record m {
  head = head_after pinned m.head;
  users = m.users ++ user ∷ [];
  pages = pages;
  changed = with_number user.number m.changed;
  touched = touched_with m.pins user.number m.touched;
}

user_contents : (held : Option (List (List ℕ))) (pinned : Bool) (user : UserRec) (m : Memory) (pages : Remembered)
    → contents_of held (directory_in (added_by pinned m user pages)) ≡ changed (is_some held) pinned (AddUser user) (contents_of held (directory_in m))
unfolding changed
user_contents held true user m pages = refl
user_contents held false user m pages = refl

-- what the rules say of the new user
pub user_rules : (user : UserRec) (before : DiscState) (m : Memory) (o : OnlineFacts) → facts_of before m ≡ o → IsKept before m → IsAllowed (AddUser user) o
    → IsRecords (m.users ++ user ∷ []) m.files × (user.number ≡ length m.users) × (length m.users < 63)
user_rules user before m o is kept allowed =
    let rules = (rules_then (AddUser user) before m (added m user m.pages) o is allowed (user_contents before.held (is_some m.pins) user m m.pages)).records in
    let among = rules.among_users in
    let long : length (m.users ++ user ∷ []) ≡ length m.users + 1 = length-append m.users (user ∷ []) in
    let most : length (m.users ++ user ∷ []) ≤ 63 = among.few in
    (subst (IsRecords (m.users ++ user ∷ [])) (recs_here before.held m.files m.online) rules, among.numbered (length m.users) user (slice_get-last m.users user), omega arith)

user_added_ready : (user : UserRec) (before : DiscState) (m : Memory) (first pages : Remembered) (o : OnlineFacts) → facts_of before m ≡ o → IsKept before m → IsAllowed (AddUser user) o
    → first ≡ marked 0 m.pages → StillRemembers m.pages first → CoversBut 0 m.pages first → pages ≡ marked (1 + user.number) first → StillRemembers first pages → CoversBut (1 + user.number) first pages
    → IsReady (AddUser user) before m (added m user pages)
user_added_ready user before m first pages o is kept allowed marks remembers covers marks' remembers' covers' =
    let h : Head = head_after (is_some m.pins) m.head in
    let n : Memory = added m user pages in
    let mid : Directory = directory_of h m.users m.files m.online in
    let was : IsAgreed before m = kept.agreed (allowed_live (AddUser user) before m o is allowed) in
    let rules = user_rules user before m o is kept allowed in
    let number : user.number ≡ length m.users = rules.1 in
    let long : length (m.users ++ user ∷ []) ≡ length m.users + 1 = length-append m.users (user ∷ []) in
    make_ready (AddUser user) before m n o is kept allowed refl refl refl refl refl
    (keeps_then m.pages first pages (keeps_marked 0 m.pages first marks) (keeps_marked (1 + user.number) first pages marks'))
    (λ b r. remembers' b (remembers b r))
    (λ s old. covers' s mid (directory_in n) (covers s (directory_in m) mid old (but_head (directory_in m) mid refl refl))
    (but_user user.number mid (directory_in n) refl (λ i other. slice_get-push m.users user i (λ same. other (same ∙ sym number))) refl))
    refl (touched_then before.held before.size m.head.next_stamp user.number (directory_in m).files m.touched m.pins was.pins)
    (user_contents before.held (is_some m.pins) user m pages) was.copies (λ k there. there) (fits_still (directory_in m).files was.stored.rules.lies) was.pool
    (noted_then (length m.users) (length (m.users ++ user ∷ [])) user.number (directory_in m).files m.changed m.touched m.pins (omega arith) (omega arith) was.noted)
    (subst (λ (k : ℕ). PinsAre m.pins before.size k (directory_in m).files (touched_with m.pins user.number m.touched)) (sym (next_kept (is_some m.pins) m.head))
    (pins_then before.size m.head.next_stamp user.number (directory_in m).files m.touched m.pins was.pins))

pub added_ready : (user copied : UserRec) (before : DiscState) (m : Memory) (pinned : Bool) (head : Head) (users : List UserRec) (files : List FileRec) (k : ℕ) (first pages : Remembered) (all touched : List ℕ) (o : OnlineFacts)
    → copied ≡ user → pinned ≡ is_some m.pins → head ≡ head_after pinned m.head → users ≡ m.users ++ copied ∷ [] → files ≡ m.files → k ≡ 1 + user.number
    → all ≡ with_number user.number m.changed → touched ≡ (if pinned then with_number user.number m.touched else m.touched)
    → facts_of before m ≡ o → IsKept before m → IsAllowed (AddUser user) o
    → first ≡ marked 0 m.pages → StillRemembers m.pages first → CoversBut 0 m.pages first → pages ≡ marked k first → StillRemembers first pages → CoversBut k first pages
    → IsReady (AddUser user) before m (record m { head = head; users = users; files = files; pages = pages; changed = all; touched = touched })
added_ready user copied before m pinned head users files k first pages all touched o same pinned_is heads added_is files_are at changed_is touched_is is kept allowed marks remembers covers marks' remembers' covers' =
    let them : users ≡ m.users ++ user ∷ [] = added_is ∙ ap (λ (u : UserRec). m.users ++ u ∷ []) same in
    let top : head ≡ head_after (is_some m.pins) m.head = heads ∙ ap (λ (b : Bool). head_after b m.head) pinned_is in
    let who : touched ≡ touched_with m.pins user.number m.touched = touched_is ∙ ap (λ (b : Bool). if b then with_number user.number m.touched else m.touched) pinned_is in
    subst (IsReady (AddUser user) before m)
    (λ i. record m { head = (sym top) i; users = (sym them) i; files = (sym files_are) i; pages = pages; changed = (sym changed_is) i; touched = (sym who) i })
    (user_added_ready user before m first pages o is kept allowed marks remembers covers
    (subst (λ (j : ℕ). pages ≡ marked j first) at marks') remembers' (subst (λ (j : ℕ). CoversBut j first pages) at covers'))

-- what the tree requires
pub added_rules : (user copied : UserRec) (before : DiscState) (m : Memory) (users : List UserRec) (files : List FileRec) (o : OnlineFacts) → copied ≡ user → users ≡ m.users → files ≡ m.files
    → facts_of before m ≡ o → IsKept before m → IsAllowed (AddUser user) o → IsRecords (users ++ copied ∷ []) files
added_rules user copied before m users files o same users_are files_are is kept allowed =
    subst (λ (fs : List FileRec). IsRecords (users ++ copied ∷ []) fs) (sym files_are)
    (subst (λ (us : List UserRec). IsRecords (us ++ copied ∷ []) m.files) (sym users_are)
    (subst (λ (u : UserRec). IsRecords (m.users ++ u ∷ []) m.files) (sym same) (user_rules user before m o is kept allowed).0))

pub number_fits : (user : UserRec) (before : DiscState) (m : Memory) (o : OnlineFacts) → facts_of before m ≡ o → IsKept before m → IsAllowed (AddUser user) o → user.number < 63
number_fits user before m o is kept allowed = let rules = user_rules user before m o is kept allowed in let at = rules.1 in let few = rules.2 in omega arith
