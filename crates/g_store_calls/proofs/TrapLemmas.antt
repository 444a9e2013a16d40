-- A file's other traps.
-- serves: closed_file, opened_file, trap_go (answers), trap_stop (answers)
use Rattle.std.proofs.Common.{◌≡◌, ℕ, ◌<◌, ◌==◌, Bool, true, false, List, [], ◌∷◌, length, filter, None, is_none, nat_le, refl, sym, ◌∙◌, ap, arith, subst, All, Some}
use Rattle.std.specs.Prelude.{◌&&◌, Contains, if◌then◌else◌, not}
use Rattle.std.specs.Ordering.{nat_cmp}
use Rattle.std.specs.declared.cmp.Ordering.{Ordering}
use Rattle.std.specs.declared.cmp.Ordering.TheVariants.{Less, Equal, Greater}
use Rattle.std.specs.FinMap.{get, len}
use Rattle.std.specs.FinMap.Entries.{by_order, put}
use Rattle.std.proofs.lemmas.Bool.{false≢true}
use Rattle.std.proofs.lemmas.Bool.Decides.{nat_tests}
use Rattle.std.proofs.lemmas.List.Elements.{All-cons, All-contains, All-filter, All-head, All-nil, All-tail}
use Rattle.std.proofs.lemmas.Option.{same_Some}
use Rattle.g_entry.specs.declared.file_rec.FileRec.{FileRec}
use Rattle.g_entry.specs.declared.user_rec.UserRec.{UserRec}
use Rattle.g_entry.specs.FileFields.{IsFile, lacks}
use Rattle.g_entry.proofs.RuleLemmas.{file_made}
use Rattle.g_name.specs.declared.full.Full.{Full}
use Rattle.g_name.specs.declared.path.Path.{Path}
use Rattle.g_trap.specs.TrapList.{IsOthers, TrapList, is_ninth, modes_of, with_modes, with_other}
use Rattle.g_plain.specs.declared.calls.StoreCall.{StoreCall}
use Rattle.g_plain.specs.declared.calls.StoreCall.TheVariants.{TrapGo, TrapStop}
use Rattle.g_plain.specs.declared.calls.StoreReply.TheVariants.{Done}
use Rattle.g_plain.specs.PlainTree.{FileRow, Tree, file_row, has_user, input_name}
use Rattle.g_tree.specs.AskedRecords.{zeros}
use Rattle.g_tree.specs.Records.{ForTree, IsRecords, by_name, file_row_of, full_of, name_of, traps_named, tree_of}
use Rattle.g_tree.proofs.NamedLemmas.{zeros_fit}
use Rattle.g_tree.proofs.RightLemmas.{found_named, row_is}
use Rattle.g_tree.proofs.TrapLemmas.{are_trapped, ninth_by_number}
use Rattle.g_disc_contents.specs.Contents.{recs_in, set_rec}
use Rattle.g_disc_contents.specs.Facts.{IsTied, OnlineFacts}
use Rattle.g_store_meaning.specs.Reading.{View}
use Rattle.g_laws_store.specs.Calls.{modes_by, trapped}
use Rattle.g_laws_store.proofs.CallLemmas.{calls_go_by_step}
use Rattle.g_online.specs.declared.change.Change.TheVariants.{SetFile}
use Rattle.g_store_calls.specs.ReplacedRecords.{IsTrapped}
use Rattle.g_store_calls.specs.Replies.{RefusesAs}
use Rattle.g_store_calls.proofs.RecordLemmas.{IsRecorded, IsFileNamed}
use Rattle.g_store_calls.proofs.SetLemmas.{found, named_in, record_of, set_file, sets}
use Rattle.g_store_calls.proofs.TellLemmas.{granted_off, not_not, user_any}
use Rattle.g_store_model.specs.State.{Holding, State}
use Rattle.g_store_model.specs.CallStep.{is_offline, need, writes}
use Rattle.g_store_calls.proofs.KindLemmas.{RepliesAs}

-- which users are in the traps after a change: those who were there, and this user
abbrev Pairs : Type 0
Pairs = List (ℕ × ℕ)

all_put : (P : ℕ × ℕ → Type 0) (user modes : ℕ) (es : Pairs) → ((n m : ℕ) → P (n, m) → P (n, modes)) → P (user, modes) → All P es → All P (put nat_cmp user modes es)
all_put P user modes [] other mine all = All-cons P (user, modes) [] mine (All-nil P)
all_put P user modes (e ∷ es) other mine all = at (nat_cmp user e.0) (all_put P user modes es other mine (All-tail P e es all))
  where
    at : (o : Ordering) → All P (put nat_cmp user modes es) → All P (by_order o ((user, modes) ∷ e ∷ es) ((e.0, modes) ∷ es) (e ∷ put nat_cmp user modes es))
    at Less rest = All-cons P (user, modes) (e ∷ es) mine all
    at Equal rest = All-cons P (e.0, modes) es (other e.0 e.1 (All-head P e es all)) (All-tail P e es all)
    at Greater rest = All-cons P e (put nat_cmp user modes es) (All-head P e es all) rest

all_with : (P : ℕ × ℕ → Type 0) (t : TrapList) (owner user modes : ℕ) → ((n m : ℕ) → P (n, m) → P (n, modes)) → ((user == owner) ≡ false → P (user, modes)) → All P t.others
    → All P (with_modes t owner user modes).others
all_with P t owner user modes other mine all = by_owner (user == owner) mine
  where
    by_empty : (b : Bool) → P (user, modes) → All P (if b then filter (λ pair. not (pair.0 == user)) t.others else put nat_cmp user modes t.others)
    by_empty true has = All-filter (λ pair. not (pair.0 == user)) P t.others all
    by_empty false has = all_put P user modes t.others other has all

    by_owner : (b : Bool) → (b ≡ false → P (user, modes)) → All P (if b then record t { owner = modes } else record t { others = with_other t.others user modes }).others
    by_owner true has = all
    by_owner false has = by_empty (modes == 0) (has refl)

-- none of them is the owner, by a test and one by one
lacks_each : (owner : ℕ) (es : Pairs) → lacks owner es ≡ true → All (λ pair. not (pair.0 == owner) ≡ true) es
lacks_each owner [] is = All-nil (λ pair. not (pair.0 == owner) ≡ true)
lacks_each owner (e ∷ es) is = All-cons (λ pair. not (pair.0 == owner) ≡ true) e es (grind (arith, nat_tests)) (lacks_each owner es (grind (arith, nat_tests)))

lacks_all : (owner : ℕ) (es : Pairs) → All (λ pair. not (pair.0 == owner) ≡ true) es → lacks owner es ≡ true
lacks_all owner [] all = refl
lacks_all owner (e ∷ es) all =
    let rest = lacks_all owner es (All-tail (λ pair. not (pair.0 == owner) ≡ true) e es all) in
    let first = All-head (λ pair. not (pair.0 == owner) ≡ true) e es all in
    ap (λ (b : Bool). b && lacks owner es) first ∙ rest

-- THE RECORD with other traps
module _ (users : List UserRec) (files : List FileRec) (who : List ℕ) (path : Path) (user : List ℕ) (call : StoreCall) (old r : FileRec) (full : Full) (number : ℕ) (traps : TrapList)
    (is : IsRecords users files) (at : IsFileNamed users files who path old full) (within : number < length users) (user_is : name_of users number ≡ user)
    (traps_are : traps ≡ with_modes old.traps old.owner number (modes_by call (modes_of old.traps old.owner number))) (others : IsOthers traps.others) (sets_owner : traps.owner < 32)
    (made : r ≡ record old { traps = traps }) where
  abbrev modes : ℕ
  modes = modes_by call (modes_of old.traps old.owner number)

  fits : IsFile r
  fits =
      let o = All-contains IsFile files old is.each_file at.there in
      let no_owner : lacks old.owner traps.others ≡ true =
      subst (λ (t : TrapList). lacks old.owner t.others ≡ true) (sym traps_are)
      (lacks_all old.owner (with_modes old.traps old.owner number modes).others
      (all_with (λ pair. not (pair.0 == old.owner) ≡ true) old.traps old.owner number modes (λ n m has. has) (λ other. ap not other) (lacks_each old.owner old.traps.others o.no_owner))) in
      subst IsFile (sym made) (file_made old.number old.local old.stamp old.len traps old.tape old o o.local o.stamp o.len others (record { owner = sets_owner; others = others.sets }) no_owner o.tape)

  all_there : All (λ pair. pair.0 < length users) r.traps.others
  all_there =
      subst (λ (q : FileRec). All (λ pair. pair.0 < length users) q.traps.others) (sym made)
      (subst (λ (t : TrapList). All (λ pair. pair.0 < length users) t.others) (sym traps_are)
      (all_with (λ pair. pair.0 < length users) old.traps old.owner number modes (λ n m has. has) (λ other. within)
      (All-contains (λ (q : FileRec). All (λ pair. pair.0 < length users) q.traps.others) files old is.among_files.trapped at.there)))

  -- no other file has its name
  apart : (q : FileRec) → Contains files q → (q.number ≡ r.number → ⊥) → full_of users r ≡ full_of users q → ⊥
  apart q there other same =
      let one : q ≡ old =
      same_Some q old
      (sym (found_named users files is q there) ∙ ap (get (by_name users files)) (sym same ∙ ap (full_of users) made) ∙ found_named users files is old at.there) in
      other (ap (λ (s : FileRec). s.number) one ∙ sym (ap (λ (s : FileRec). s.number) made))

  pub trapped_made : IsTrapped users files who path user call r
  trapped_made = record {
    set = set_file users files who path old r full is at (ap (λ (q : FileRec). q.number) made) (ap (λ (q : FileRec). q.owner) made) (ap (λ (q : FileRec). q.stamp) made) (ap (λ (q : FileRec). q.len) made)
        (ap (λ (q : FileRec). q.tape) made) fits all_there apart;
    number = number;
    within = within;
    user_is = user_is;
    name_is = ap (full_of users) made;
    traps = ap (λ (q : FileRec). q.traps) made ∙ traps_are;
  }

-- if the traps were copied before
pub trapped_of : (users : List UserRec) (files : List FileRec) (who : List ℕ) (path : Path) (user : List ℕ) (call : StoreCall) (old r : FileRec) (full : Full) (number : ℕ) (was traps : TrapList)
    → IsRecords users files → IsFileNamed users files who path old full → number < length users → name_of users number ≡ user → was ≡ old.traps
    → traps ≡ with_modes was old.owner number (modes_by call (modes_of was old.owner number)) → IsOthers traps.others → traps.owner < 32 → r ≡ record old { traps = traps }
    → IsTrapped users files who path user call r
trapped_of users files who path user call old r full number was traps is at within user_is copied traps_are others owner made =
    trapped_made users files who path user call old r full number traps is at within user_is
    (subst (λ (w : TrapList). traps ≡ with_modes w old.owner number (modes_by call (modes_of w old.owner number))) copied traps_are) others owner made

-- IF THE CALL ISN'T REFUSED
module _ (users : List UserRec) (files : List FileRec) (next : ℕ) (who : List ℕ) (path : Path) (user : List ℕ) (modes : ℕ) (is : IsRecords users files) where
  abbrev t : Tree
  t = tree_of users files zeros next

  module _ (granted : RefusesAs users files next who (TrapGo path user modes) None) where
    pub go_user : ForTree users files (λ t. has_user t user ≡ true)
    go_user bytes then_ =
        user_any users files user bytes zeros then_ next ∙ not_not (has_user t user) (granted_off t who (TrapGo path user modes) (granted zeros (zeros_fit files))).1.1.1.0

    pub not_ninth : (old : FileRec) (full : Full) (number : ℕ) → IsFileNamed users files who path old full → name_of users number ≡ user
        → (not (number == old.owner) && is_ninth old.traps.others number modes) ≡ true → ⊥
    not_ninth old full number at user_is ninth =
        let row : file_row t (input_name t who path) ≡ file_row_of users zeros old =
        ap (file_row t) (sym (at.name_is ∙ at.named zeros next)) ∙ row_is users files is zeros next old at.there in
        let by_name : (not (modes == 0) && is_none (get (file_row t (input_name t who path)).traps user) && nat_le 9 (len (file_row t (input_name t who path)).traps)) ≡ true =
        ap (λ (w : FileRow). not (modes == 0) && is_none (get w.traps user) && nat_le 9 (len w.traps)) row
        ∙ ap (λ (n : List ℕ). not (modes == 0) && is_none (get (traps_named users old.owner old.traps) n) && nat_le 9 (len (traps_named users old.owner old.traps))) (sym user_is)
        ∙ ninth_by_number users old.owner old.traps (are_trapped users files old is at.there) number modes ∙ ninth in
        false≢true (sym (ap not by_name) ∙ (granted_off t who (TrapGo path user modes) (granted zeros (zeros_fit files))).1.1.1.1.1.0)

  module _ (granted : RefusesAs users files next who (TrapStop path user modes) None) where
    pub stop_user : ForTree users files (λ t. has_user t user ≡ true)
    stop_user bytes then_ =
        user_any users files user bytes zeros then_ next ∙ not_not (has_user t user) (granted_off t who (TrapStop path user modes) (granted zeros (zeros_fit files))).1.1.1.0

-- THE CALL is the step's
module _ (o : OnlineFacts) (who : List ℕ) (path : Path) (user : List ℕ) (r : FileRec) (live : o.live ≡ true) (tied : IsTied o) where
  name_in : (call : StoreCall) → (at : IsTrapped o.contents.users (recs_in o.contents) who path user call r) → (v : View)
      → full_of o.contents.users r ≡ input_name (tree_of o.contents.users (recs_in o.contents) (λ q. v.text q.stamp) o.contents.head.next_stamp) who path
  name_in call at v = at.name_is ∙ at.set.named (λ q. v.text q.stamp) o.contents.head.next_stamp

  traps_by : (call : StoreCall) → writes call ≡ true → ((u : State) (k : Holding) → is_offline u k who call ≡ false) → ((u : State) (k : Holding) → need u k who call ≡ 0) → trapped call ≡ Some (path, user)
      → RepliesAs o.contents.users (recs_in o.contents) o.contents.head.next_stamp who call Done → RefusesAs o.contents.users (recs_in o.contents) o.contents.head.next_stamp who call None
      → IsTrapped o.contents.users (recs_in o.contents) who path user call r → IsRecorded o who call (SetFile r) (record o.contents { files = set_rec r o.contents.files }) (r.owner ∷ []) Done
  traps_by call write off none is_call replied granted at =
      let (f, there, rec) = found o who path r live tied at.set in
      sets o who path r live tied at.set call Done write off none granted replied
      (λ v reels new dump known free unjam behind.
      calls_go_by_step.traps v reels o new dump who call path user at.number f r 0 known is_call there (named_in o who path r live tied at.set f rec v) at.user_is at.within
      (record_of o who path r live tied at.set f rec) (name_in call at v)
      (subst (λ (q : FileRec). r.traps ≡ with_modes q.traps q.owner at.number (modes_by call (modes_of q.traps q.owner at.number))) (sym rec) at.traps) free unjam behind)

  pub opens : (modes : ℕ) → RefusesAs o.contents.users (recs_in o.contents) o.contents.head.next_stamp who (TrapGo path user modes) None
      → IsTrapped o.contents.users (recs_in o.contents) who path user (TrapGo path user modes) r
      → IsRecorded o who (TrapGo path user modes) (SetFile r) (record o.contents { files = set_rec r o.contents.files }) (r.owner ∷ []) Done
  opens modes = traps_by (TrapGo path user modes) refl (λ u k. refl) (λ u k. refl) refl (λ bytes long. refl)

  pub closes : (modes : ℕ) → RefusesAs o.contents.users (recs_in o.contents) o.contents.head.next_stamp who (TrapStop path user modes) None
      → IsTrapped o.contents.users (recs_in o.contents) who path user (TrapStop path user modes) r
      → IsRecorded o who (TrapStop path user modes) (SetFile r) (record o.contents { files = set_rec r o.contents.files }) (r.owner ∷ []) Done
  closes modes = traps_by (TrapStop path user modes) refl (λ u k. refl) (λ u k. refl) refl (λ bytes long. refl)

-- of the records of the filestore
pub trapped_on : (o : OnlineFacts) (us : List UserRec) (fs : List FileRec) (who : List ℕ) (path : Path) (user : List ℕ) (call : StoreCall) (r : FileRec) → us ≡ o.contents.users → fs ≡ recs_in o.contents
    → IsTrapped us fs who path user call r → IsTrapped o.contents.users (recs_in o.contents) who path user call r
trapped_on o us fs who path user call r users files is =
    subst (λ (rs : List FileRec). IsTrapped o.contents.users rs who path user call r) files (subst (λ (x : List UserRec). IsTrapped x fs who path user call r) users is)
