-- What is reported of records.
-- serves: budget, list (answers), listing, made_user, modes_of, new_user, number_of_user, trap_check (answers), AddLemmas, AppendCallLemmas, and 5 more
use Rattle.std.proofs.Common.{◌≡◌, ℕ, Bool, true, false, List, [], ◌∷◌, length, map, filter, Option, Some, None, Result, Ok, Err, is_some, unwrap_or, refl, sym, ◌∙◌, ap, arith, inl, inr, subst, ◌<◌, ◌≤◌, All}
use Rattle.std.specs.Prelude.{◌||◌, Contains, IfOk, IfSome, if◌then◌else◌, not, ◌⊎◌, nat_le, nat_lt}
use Rattle.std.specs.FinMap.{entries, get, get-from_entries}
use Rattle.std.specs.List.{AllByRecursion}
use Rattle.std.specs.Option.{option_map}
use Rattle.std.proofs.lemmas.Bool.{cases_Bool, false≢true, ltb-false}
use Rattle.std.proofs.lemmas.Bool.Decides.{leb_tells}
use Rattle.std.proofs.lemmas.List.Elements.{All-cons, All-filter, All-map, All-nil}
use Rattle.g_base.specs.declared.memory.NoMemory.{NoMemory}
use Rattle.g_entry.specs.declared.file_rec.FileRec.{FileRec}
use Rattle.g_entry.specs.declared.user_rec.UserRec.{UserRec}
use Rattle.g_name.specs.declared.full.Full.{Full}
use Rattle.g_name.specs.declared.path.Path.{Path}
use Rattle.g_name.specs.Order.{full_cmp, same_text}
use Rattle.g_name.proofs.Order.{full_total}
use Rattle.g_plain.specs.declared.calls.StoreCall.{StoreCall}
use Rattle.g_plain.specs.declared.calls.StoreCall.TheVariants.{List as ListFiles, TrapCheck}
use Rattle.g_plain.specs.declared.calls.StoreReply.{StoreReply}
use Rattle.g_plain.specs.declared.faults.StoreFault.{StoreFault}
use Rattle.g_plain.specs.declared.faults.StoreFault.TheVariants.{NoUser}
use Rattle.g_plain.specs.PlainStep.{Checks, checks, fault_of, first_fault}
use Rattle.g_plain.specs.PlainTree.{Tree, file_row, has_user, input_name, lengths, modes_of}
use Rattle.g_plain.proofs.TextMaps.{full_exact}
use Rattle.g_plain.proofs.TreeLemmas.{all_map, entries_found}
use Rattle.g_tree.specs.Answers.{listed}
use Rattle.g_tree.specs.AskedRecords.{zeros}
use Rattle.g_tree.specs.Records.{ForFile, ForTree, HasLengths, IsRecords, by_name, by_number, file_row_of, full_of, name_of, name_of_file, number_of, tree_of}
use Rattle.g_tree.proofs.ListLemmas.{filter_of_map, kept_same_on, map_of_map}
use Rattle.g_tree.proofs.MapLemmas.{found_one, keyed, with_value}
use Rattle.g_tree.proofs.NamedLemmas.{zeros_fit}
use Rattle.g_tree.proofs.RecordLemmas.{file_entries, user_there}
use Rattle.g_tree.proofs.RuleLemmas.{numbered_is}
use Rattle.g_disc_contents.specs.Contents.{recs_in}
use Rattle.g_disc_contents.specs.Facts.{OnlineFacts}
use Rattle.g_store_model.specs.State.{Holding, State}
use Rattle.g_store_model.specs.CallStep.{brings_now, is_offline, need, writes}
use Rattle.g_store_meaning.specs.Answers.{Did, IsStore, Steps}
use Rattle.g_store_meaning.specs.Meaning.{told_reels}
use Rattle.g_store_meaning.specs.Reading.{AllTold, StandsForState, state_up}
use Rattle.g_store_meaning.specs.StoreInvariant.{StoreFacts}
use Rattle.g_laws_store.proofs.CallLemmas.{calls_go_by_step}
use Rattle.g_laws_store.specs.Refusals.{only_tells}
use Rattle.g_laws_store.specs.Rooms.{held_in}
use Rattle.g_store_calls.specs.Answering.{AnswersIn}
use Rattle.g_store_calls.specs.Replies.{AreLengths, IsThere, RefusesAs, row_by, row_of}
use Rattle.g_store_calls.proofs.CalmLemmas.{leads_same, step_done, still, texts_fit}
use Rattle.g_store_calls.proofs.KindLemmas.{RepliesAs}

-- A REPLY that changes nothing
module _ (o : OnlineFacts) (who : List ℕ) (call : StoreCall) (live : o.live ≡ true)
    (off : (u : State) (k : Holding) → is_offline u k who call ≡ false) (none : (u : State) (k : Holding) → need u k who call ≡ 0)
    (keeps : (u : State) (k : Holding) → (writes call || brings_now u k who call) ≡ false) where
  did : (s : StoreFacts) (u : State) (k : Holding) → Did u k who call s s
  did s u k =
      let nothing = none u k in record {
        wrote = record { count = 0; are = inl (refl, keeps u k); blocks = 0; commits = (refl, refl); writes = record { exactly = λ less. omega (arith, nothing) } };
        read = λ is. absurd (false≢true (sym (off u k) ∙ is));
      }

  pub told_by : (reply : StoreReply) → RefusesAs o.contents.users (recs_in o.contents) o.contents.head.next_stamp who call None
      → RepliesAs o.contents.users (recs_in o.contents) o.contents.head.next_stamp who call reply → AnswersIn who call o (Ok reply) o
  told_by reply granted replied = still o who call live (Ok reply) tt steps
    where
      steps : (s : StoreFacts) → s.online ≡ o → s.spent ≡ false → IsStore s → (u : State) → StandsForState s u → Steps u s who call (Ok reply) s
      steps s at unspent store u here =
          leads_same s who call unspent (Ok reply) u here
          (λ v view.
          let long = texts_fit (AllTold s.online.disc.held (told_reels s.rack)) v s.online.contents view.files in
          let up = state_up v (told_reels s.rack) s.online s.dump in
          step_done up (held_in v s.online) who call (off up (held_in v s.online)) (none up (held_in v s.online)) reply up
          (sym (subst (λ (x : OnlineFacts). RefusesAs x.contents.users (recs_in x.contents) x.contents.head.next_stamp who call None) (sym at) granted (λ r. v.text r.stamp) long))
          (subst (λ (x : OnlineFacts). RepliesAs x.contents.users (recs_in x.contents) x.contents.head.next_stamp who call reply) (sym at) replied (λ r. v.text r.stamp) long)
          (calls_go_by_step.tells v (told_reels s.rack) s.online s.dump who call 0 (keeps up (held_in v s.online))))
          (λ v. did s (state_up v (told_reels s.rack) s.online s.dump) (held_in v s.online))

pub told : (o : OnlineFacts) (who : List ℕ) (call : StoreCall) → o.live ≡ true → only_tells call ≡ true → (reply : StoreReply)
    → RefusesAs o.contents.users (recs_in o.contents) o.contents.head.next_stamp who call None
    → RepliesAs o.contents.users (recs_in o.contents) o.contents.head.next_stamp who call reply → AnswersIn who call o (Ok reply) o
told o who (ListFiles user) live tells reply granted replied = told_by o who (ListFiles user) live (λ u k. refl) (λ u k. refl) (λ u k. refl) reply granted replied
told o who (TrapCheck path user) live tells reply granted replied = told_by o who (TrapCheck path user) live (λ u k. refl) (λ u k. refl) (λ u k. refl) reply granted replied
told o who call live tells reply granted replied = absurd (false≢true tells)

-- WHICH USERS AND FILES EXIST if the plain step doesn't refuse
no_fault : (x : StoreFault) → ◌≡◌ {A = Option StoreFault} None (Some x) → ⊥
no_fault x is = cc

-- no check holds
abbrev pub AreOff : Checks → Type 0
AreOff [] = Unit {0}
AreOff (c ∷ cs) = (not c.0 ≡ true) × AreOff cs

off_first : (b : Bool) (x : StoreFault) (rest : Option StoreFault) → None ≡ (if b then Some x else rest) → (not b ≡ true) × (None ≡ rest)
off_first true x rest e = absurd (no_fault x e)
off_first false x rest e = (refl, e)

all_off : (cs : Checks) → None ≡ first_fault cs → AreOff cs
all_off [] is = tt
all_off (c ∷ cs) is = let (off, rest) = off_first c.0 c.1 (first_fault cs) is in (off, all_off cs rest)

pub granted_off : (t : Tree) (who : List ℕ) (call : StoreCall) → None ≡ fault_of t who call → AreOff ((not (has_user t who), NoUser) ∷ checks t who call)
granted_off t who call is = all_off ((not (has_user t who), NoUser) ∷ checks t who call) is

pub below_of : (a b : ℕ) → not (nat_le a b) ≡ true → b < a
below_of a b off = by_case (leb_tells a b)
  where
    by_case : ((nat_le a b ≡ true) × (a ≤ b)) ⊎ ((nat_le a b ≡ false) × (b < a)) → b < a
    by_case (inl (is, le)) = absurd (false≢true (sym (ap not is) ∙ off))
    by_case (inr (isnt, less)) = less

pub most_of : (a b : ℕ) → not (nat_lt a b) ≡ true → b ≤ a
most_of a b off = by_case (cases_Bool (nat_lt a b))
  where
    by_case : (nat_lt a b ≡ true) ⊎ (nat_lt a b ≡ false) → b ≤ a
    by_case (inl is) = absurd (false≢true (sym (ap not is) ∙ off))
    by_case (inr isnt) = ltb-false a b isnt

pub not_not : (b : Bool) → not (not b) ≡ true → b ≡ true
not_not true is = refl
not_not false is = is

module _ (users : List UserRec) (files : List FileRec) where
  pub user_any : (user : List ℕ) (bytes other : FileRec → List ℕ) (next then_ : ℕ) → has_user (tree_of users files bytes next) user ≡ has_user (tree_of users files other then_) user
  user_any user bytes other next then_ = sym (user_there users files bytes next user) ∙ user_there users files other then_ user

  pub listed_user : (next : ℕ) (who user : List ℕ) → RefusesAs users files next who (ListFiles user) None → ForTree users files (λ t. has_user t user ≡ true)
  listed_user next who user granted bytes then_ =
      let t = tree_of users files zeros next in
      let off = granted_off t who (ListFiles user) (granted zeros (zeros_fit files)) in
      user_any user bytes zeros then_ next ∙ not_not (has_user t user) off.1.0

  module _ (next : ℕ) (who : List ℕ) (path : Path) (user : List ℕ) (granted : RefusesAs users files next who (TrapCheck path user) None) where
    abbrev t : Tree
    t = tree_of users files zeros next

    pub checked_user : ForTree users files (λ t. has_user t user ≡ true)
    checked_user bytes then_ =
        let off = granted_off t who (TrapCheck path user) (granted zeros (zeros_fit files)) in
        user_any user bytes zeros then_ next ∙ not_not (has_user t user) off.1.1.1.0

  -- THE FILES OF A USER by number
  module _ (is : IsRecords users files) where
    abbrev Found : Full × FileRec → Type 0
    Found e = get (by_name users files) e.0 ≡ Some e.1

    abbrev number_in : Full × FileRec → ℕ
    number_in e = unwrap_or (number_of users files e.0) 0

    record_of : (e : Full × FileRec) → Found e → get (by_number files) (number_in e) ≡ Some e.1
    record_of e found =
        let number : number_of users files e.0 ≡ Some e.1.number = ap (option_map (λ (r : FileRec). r.number)) found in
        ap (λ (n : Option ℕ). get (by_number files) (unwrap_or n 0)) number ∙ numbered_is users files e.0 e.1.number is number ∙ found

    there_of : (e : Full × FileRec) → Found e → Contains files e.1 × (full_of users e.1 ≡ e.0)
    there_of e found =
        found_one full_total full_exact (full_of users) e.0 files e.1 (sym (get-from_entries full_total (keyed (full_of users) files) e.0) ∙ found)

    row_is : (bytes : FileRec → List ℕ) → HasLengths files bytes → (e : Full × FileRec) → Found e → row_of users files (number_in e) ≡ (e.0, length (bytes e.1))
    row_is bytes long e found =
        let (there, name) = there_of e found in
        ap (row_by users) (record_of e found) ∙ ap (λ (full : Full). (full, e.1.len)) name ∙ ap (λ (n : ℕ). (e.0, n)) (sym (long e.1 there))

    to_all : {A : Type 0} (P : A → Type 0) (xs : List A) → AllByRecursion P xs → All P xs
    to_all P [] all = All-nil P
    to_all P (x ∷ xs) all = All-cons P x xs all.0 (to_all P xs all.1)

    abbrev own : List ℕ → List (Full × FileRec)
    own user = filter (λ e. same_text e.0.user user) (entries (by_name users files))

    listed_own : (user : List ℕ) (bytes : FileRec → List ℕ) (next : ℕ) → listed users files user (tree_of users files bytes next) ≡ map number_in (own user)
    listed_own user bytes next =
        let row = file_row_of users bytes in
        ap (λ es. map (λ e. unwrap_or (number_of users files e.0) 0) (filter (λ e. same_text e.0.user user) es)) (file_entries users files row)
        ∙ ap (map (λ e. unwrap_or (number_of users files e.0) 0)) (filter_of_map (λ e. same_text e.0.user user) (with_value full_cmp row) (entries (by_name users files)))
        ∙ map_of_map (λ e. unwrap_or (number_of users files e.0) 0) (with_value full_cmp row) (own user)

    lengths_own : (user : List ℕ) (bytes : FileRec → List ℕ) (next : ℕ) → lengths user (entries (tree_of users files bytes next).files) ≡ map (λ e. (e.0, length (bytes e.1))) (own user)
    lengths_own user bytes next =
        let row = file_row_of users bytes in
        ap (λ es. map (λ e. (e.0, length e.1.bytes)) (filter (λ e. same_text e.0.user user) es)) (file_entries users files row)
        ∙ ap (map (λ e. (e.0, length e.1.bytes))) (filter_of_map (λ e. same_text e.0.user user) (with_value full_cmp row) (entries (by_name users files)))
        ∙ map_of_map (λ e. (e.0, length e.1.bytes)) (with_value full_cmp row) (own user)

    pub all_there : (user : List ℕ) (numbers : List ℕ) → ForTree users files (λ t. numbers ≡ listed users files user t) → All (IsThere files) numbers
    all_there user numbers are =
        subst (All (IsThere files)) (sym (are zeros 0 ∙ listed_own user zeros 0))
        (All-map (IsThere files) number_in (own user)
        (All-filter (λ e. same_text e.0.user user) (λ e. IsThere files (number_in e)) (entries (by_name users files))
        (to_all (λ e. IsThere files (number_in e)) (entries (by_name users files))
        (all_map Found (λ e. IsThere files (number_in e)) (λ e found. ap is_some (record_of e found)) (entries (by_name users files)) (entries_found full_total (by_name users files))))))

    pub are_lengths : (user : List ℕ) (numbers : List ℕ) (rows : List (Full × ℕ)) → ForTree users files (λ t. numbers ≡ listed users files user t) → rows ≡ map (row_of users files) numbers
        → AreLengths users files user rows
    are_lengths user numbers rows are made bytes next long =
        made ∙ ap (map (row_of users files)) (are bytes next ∙ listed_own user bytes next)
        ∙ map_of_map (row_of users files) number_in (own user)
        ∙ kept_same_on (λ e. same_text e.0.user user) (λ e. row_of users files (number_in e)) (λ e. (e.0, length (bytes e.1))) (entries (by_name users files))
        (all_map Found (λ e. row_of users files (number_in e) ≡ (e.0, length (bytes e.1))) (row_is bytes long) (entries (by_name users files)) (entries_found full_total (by_name users files)))
        ∙ sym (lengths_own user bytes next)

-- THE RECORDS of the filestore are those that the tree has
pub refuses_of : (o : OnlineFacts) (us : List UserRec) (fs : List FileRec) (next : ℕ) (who : List ℕ) (call : StoreCall) (x : Option StoreFault) → us ≡ o.contents.users → fs ≡ recs_in o.contents
    → next ≡ o.contents.head.next_stamp → RefusesAs us fs next who call x → RefusesAs o.contents.users (recs_in o.contents) o.contents.head.next_stamp who call x
refuses_of o us fs next who call x users files stamp is =
    subst (λ (n : ℕ). RefusesAs o.contents.users (recs_in o.contents) n who call x) stamp
    (subst (λ (rs : List FileRec). RefusesAs o.contents.users rs next who call x) files (subst (λ (u : List UserRec). RefusesAs u fs next who call x) users is))

-- and back
pub refuses_on : (o : OnlineFacts) (us : List UserRec) (fs : List FileRec) (next : ℕ) (who : List ℕ) (call : StoreCall) (x : Option StoreFault) → us ≡ o.contents.users → fs ≡ recs_in o.contents
    → RefusesAs o.contents.users (recs_in o.contents) next who call x → RefusesAs us fs next who call x
refuses_on o us fs next who call x users files is =
    subst (λ (u : List UserRec). RefusesAs u fs next who call x) (sym users) (subst (λ (rs : List FileRec). RefusesAs o.contents.users rs next who call x) (sym files) is)

pub replies_of : (o : OnlineFacts) (us : List UserRec) (fs : List FileRec) (next : ℕ) (who : List ℕ) (call : StoreCall) (reply : StoreReply) → us ≡ o.contents.users → fs ≡ recs_in o.contents
    → RepliesAs us fs next who call reply → RepliesAs o.contents.users (recs_in o.contents) next who call reply
replies_of o us fs next who call reply users files is =
    subst (λ (rs : List FileRec). RepliesAs o.contents.users rs next who call reply) files (subst (λ (u : List UserRec). RepliesAs u fs next who call reply) users is)

-- WHAT IS NAMED for input
module _ (users : List UserRec) (files : List FileRec) where
  pub user_missing : (found : Option ℕ) (user : List ℕ) → ForTree users files (λ t. is_some found ≡ has_user t user) → ForTree users files (λ t. has_user t user ≡ true) → found ≡ None → ⊥
  user_missing found user there has none = false≢true (sym (ap is_some none) ∙ there zeros 0 ∙ has zeros 0)

  pub modes_are : (number user : ℕ) (full : Full) (name who : List ℕ) (path : Path) (modes : ℕ) → name_of_file users files number ≡ Some full → name_of users user ≡ name
      → ForTree users files (λ t. full ≡ input_name t who path) → ForFile users files number (λ row f. modes ≡ modes_of row f (name_of users user))
      → ForTree users files (λ t. modes ≡ modes_of (file_row t (input_name t who path)) (input_name t who path) name)
  modes_are number user full name who path modes at user_is full_is are bytes next =
      let t = tree_of users files bytes next in
      let here : modes ≡ modes_of (file_row t full) full (name_of users user) =
      subst (λ (o : Option Full). IfSome o (λ f. modes ≡ modes_of (file_row t f) f (name_of users user))) at (are bytes next) in
      here ∙ ap (λ (n : List ℕ). modes_of (file_row t full) full n) user_is ∙ ap (λ (f : Full). modes_of (file_row t f) f name) (full_is bytes next)

  pub lengths_of : IsRecords users files → (result : Result (List (Full × ℕ)) NoMemory) (numbers user name : List ℕ) → IfOk result (λ rows. rows ≡ map (row_of users files) numbers)
      → ForTree users files (λ t. numbers ≡ listed users files user t) → user ≡ name → IfOk result (AreLengths users files name)
  lengths_of is (Ok rows) numbers user name made are same = subst (λ (n : List ℕ). AreLengths users files n rows) same (are_lengths users files is user numbers rows are made)
  lengths_of is (Err e) numbers user name made are same = tt
