-- A new user.
-- serves: made_user, new_user (answers), BroughtLemmas, BudgetLemmas, EraseLemmas, MakeLemmas, SetLemmas, VersionLemmas
use Rattle.std.proofs.Common.{◌≡◌, ◌≢◌, ℕ, ◌<◌, ◌≤◌, ◌+◌, Bool, true, false, List, [], ◌∷◌, ◌++◌, length, Option, Some, None, is_some, refl, sym, ◌∙◌, ap, arith, inl, inr, slice_get, subst, All}
use Rattle.std.specs.Prelude.{◌⊎◌, ◌||◌, Contains, IfSome, not}
use Rattle.std.specs.FinMap.{len}
use Rattle.std.proofs.lemmas.Bool.{cases_eq, false≢true}
use Rattle.std.proofs.lemmas.List.{length-append}
use Rattle.std.proofs.lemmas.List.Elements.{All-push, Contains-push_cases}
use Rattle.std.proofs.lemmas.List.Quantifiers.{all_pairs_push}
use Rattle.g_entry.specs.declared.file_rec.FileRec.{FileRec}
use Rattle.g_entry.specs.declared.format.Format.TheVariants.{Two}
use Rattle.g_entry.specs.declared.user_rec.UserRec.{UserRec}
use Rattle.g_entry.specs.Rules.{AreUsers}
use Rattle.g_entry.specs.UserFields.{IsUser}
use Rattle.g_name.specs.Grammar.{is_word}
use Rattle.g_plain.specs.declared.calls.StoreCall.TheVariants.{NewUser}
use Rattle.g_plain.specs.declared.calls.StoreReply.TheVariants.{Done}
use Rattle.g_plain.specs.declared.faults.StoreFault.TheVariants.{NoUser}
use Rattle.g_plain.specs.PlainStep.{checks}
use Rattle.g_plain.specs.PlainTree.{Tree, UserRow, has_user}
use Rattle.g_plain.specs.Rules.{IsWithinLimits}
use Rattle.g_tree.specs.AskedRecords.{zeros}
use Rattle.g_tree.specs.Records.{ForTree, IsRecords, name_of, tree_of}
use Rattle.g_tree.proofs.NamedLemmas.{zeros_fit}
use Rattle.g_tree.proofs.RecordLemmas.{name_at}
use Rattle.g_tree.proofs.RuleLemmas.{count_users, has_name}
use Rattle.g_disc_contents.specs.Contents.{Contents, committed, recs_in}
use Rattle.g_disc_contents.specs.Facts.{IsTied, OnlineFacts}
use Rattle.g_incr.specs.Layout.{holds}
use Rattle.g_store_meaning.specs.Staying.{behind}
use Rattle.g_store_meaning.specs.StoreInvariant.{DumpFacts, IsUp}
use Rattle.g_store_meaning.proofs.ChangeLemmas.{files_belong}
use Rattle.g_laws_store.specs.Calls.{marked}
use Rattle.g_laws_store.proofs.CallLemmas.{calls_go_by_step}
use Rattle.g_laws_store.specs.Dumping.{WereThere}
use Rattle.g_laws_store.proofs.DumpingLemmas.{events_stay_up}
use Rattle.g_online.specs.declared.change.Change.TheVariants.{AddUser}
use Rattle.g_online.specs.AllowedChanges.{IsAllowed, KeepsRules}
use Rattle.g_online.specs.Change.{changed}
use Rattle.g_migrate.proofs.MigrationLemmas.{rules_here}
use Rattle.g_store_calls.specs.NewRecords.{IsNewUser}
use Rattle.g_store_calls.specs.Replies.{RefusesAs}
use Rattle.g_store_calls.proofs.MarkLemmas.{has_first, only_grow}
use Rattle.g_store_calls.proofs.RecordLemmas.{IsRecorded}
use Rattle.g_store_calls.proofs.TellLemmas.{AreOff, granted_off, not_not, user_any, below_of}
use Rattle.g_online.proofs.UserLemmas.{slice_get-push}
use Rattle.g_online.proofs.OffRuleLemmas.{committed_rules}

slice_last : {X : Type 0} (xs : List X) (x : X) → slice_get (xs ++ x ∷ []) (length xs) ≡ Some x
slice_last [] x = refl
slice_last (y ∷ xs) x = slice_last xs x

-- WITH ONE MORE USER, whose name is new, the records satisfy their rules
module _ (users : List UserRec) (files : List FileRec) (u : UserRec) (is : IsRecords users files) (fits : IsUser Two u) (number : u.number ≡ length users) (few : length users < 63)
    (below : u.superior < length users) (apart : All (λ w. w.user ≢ u.user) users) where
  abbrev more : List UserRec
  more = users ++ u ∷ []

  long : length more ≡ length users + 1
  long = length-append users (u ∷ [])

  by_place : (P : ℕ → UserRec → Type 0) → ((i : ℕ) (w : UserRec) → slice_get users i ≡ Some w → P i w) → P (length users) u → (i : ℕ) (w : UserRec) → slice_get more i ≡ Some w → P i w
  by_place P old last i w at = by_case (cases_eq i (length users))
    where
      same_some : (x y : UserRec) → Some x ≡ Some y → x ≡ y
      same_some x y e = cc

      by_case : (i ≡ length users) ⊎ (i ≡ length users → ⊥) → P i w
      by_case (inr other) = old i w (sym (slice_get-push users u i other) ∙ at)
      by_case (inl same) =
          let one : u ≡ w = same_some u w (sym (slice_last users u) ∙ ap (slice_get more) (sym same) ∙ at) in
          subst (P i) one (subst (λ (n : ℕ). P n u) (sym same) last)

  among : AreUsers more
  among =
      let users_are = is.among_users in
      let both = users_are.both in
      let length_is = long in
      record {
        both = omega arith;
        few = omega arith;
        numbered = by_place (λ i w. w.number ≡ i) users_are.numbered number;
        master = λ w at. users_are.master w (sym (slice_get-push users u 0 (λ e. let no : ⊥ = omega (arith, both, e) in no)) ∙ at);
        macros = λ w at. users_are.macros w (sym (slice_get-push users u 1 (λ e. let no : ⊥ = omega (arith, both, e) in no)) ∙ at);
        superiors = λ i w le at. by_place (λ n x. 2 ≤ n → x.superior < n) (λ n x at_x two. users_are.superiors n x two at_x) (λ two. below) i w at le;
        names = all_pairs_push (λ (v w : UserRec). v.user ≢ w.user) users u users_are.names (λ k d within. apart k d within);
      }

  pub more_records : IsRecords more files
  more_records =
      let length_is = long in
      record {
        each_user = All-push (IsUser Two) users u is.each_user fits;
        among_users = among;
        each_file = is.each_file;
        numbers = is.numbers;
        among_files = record {
          few = is.among_files.few;
          owners = λ k d within. let less = is.among_files.owners k d within in omega (arith, less, length_is);
          trapped = λ k d within i e inside. let less = is.among_files.trapped k d within i e inside in omega (arith, less, length_is);
          names = is.among_files.names;
          stamps = is.among_files.stamps;
          dated = is.among_files.dated;
          empty = is.among_files.empty;
        };
      }

-- a user who may be created: there is room, and no user has the name
module _ (users : List UserRec) (files : List FileRec) (next : ℕ) (who user : List ℕ) (space time money : ℕ) (is : IsRecords users files)
    (granted : RefusesAs users files next who (NewUser user space time money) None) where
  abbrev tree : Tree
  tree = tree_of users files zeros next

  off : AreOff ((not (has_user tree who), NoUser) ∷ checks tree who (NewUser user space time money))
  off = granted_off tree who (NewUser user space time money) (granted zeros (zeros_fit files))

  pub maker_there : ForTree users files (λ t. has_user t who ≡ true)
  maker_there bytes then_ = user_any users files who bytes zeros then_ next ∙ not_not (has_user tree who) off.0

  pub room_there : length users < 63
  room_there = let count = count_users users files zeros next is in let few = below_of 63 (len tree.users) off.1.1.0 in omega (arith, count, few)

  pub name_new : All (λ w. w.user ≢ user) users
  name_new i d within same =
      let there : has_user tree user ≡ true =
      ap (has_user tree) (sym (name_at users i d within ∙ same)) ∙ has_name users files zeros next is i within in
      false≢true (sym (ap not there) ∙ off.1.0)

pub new_user_made : (users : List UserRec) (files : List FileRec) (next : ℕ) (who user : List ℕ) (space time money : ℕ) → IsRecords users files
    → RefusesAs users files next who (NewUser user space time money) None → IsWithinLimits (NewUser user space time money) → is_word user ≡ true
    → (u : UserRec) → u.number ≡ length users → u.user ≡ user → u.superior < length users → name_of users u.superior ≡ who → u.space ≡ space → u.time ≡ time → u.money ≡ money
    → IsNewUser users files who user space time money u
new_user_made users files next who user space time money is granted limits word u number named below superior space_is time_is money_is = record {
  number = number;
  named = named;
  row = λ i. let r : UserRow = record { superior = superior i; space = space_is i; time = time_is i; money = money_is i } in r;
  rules = more_records users files u is
      (let a = limits.0 in let b = limits.1 in let c = limits.2 in record { user = ap is_word named ∙ word; space = omega arith; time = omega arith; money = omega arith }) number
      (room_there users files next who user space time money is granted) below
      (subst (λ (n : List ℕ). All (λ w. w.user ≢ n) users) (sym named) (name_new users files next who user space time money is granted));
}

-- THE CHANGE may be made
pub or_false : (b : Bool) → (b || false) ≡ b
or_false true = refl
or_false false = refl

add_is : (told pinned : Bool) (u : UserRec) (c : Contents) → changed told pinned (AddUser u) c ≡ committed pinned (record c { users = c.users ++ u ∷ [] })
unfolding changed
add_is told pinned u c = ap (λ (b : Bool). committed b (record c { users = c.users ++ u ∷ [] })) (or_false pinned)

pub may_add : (o : OnlineFacts) (u : UserRec) → o.live ≡ true → IsTied o → IsRecords (o.contents.users ++ u ∷ []) (recs_in o.contents) → IsAllowed (AddUser u) o
may_add o u live tied rules =
    let was = rules_here o live tied in
    record {
      live = live;
      fits = tt;
      rules = subst KeepsRules (sym (add_is (is_some o.disc.held) (is_some o.pins) u o.contents))
          (committed_rules (is_some o.pins) (record o.contents { users = o.contents.users ++ u ∷ [] }) (record { head = was.head; records = rules; dated = was.dated; lie = was.lie }));
    }

-- THE CALL is the step's
were_there : (u : UserRec) (changed numbers : List ℕ) (c : Contents) → changed ≡ marked (u.number ∷ []) numbers → WereThere changed (c.users ++ u ∷ []) c
were_there u changed numbers c is w there none = by_place (Contains-push_cases c.users u w there)
  where
    by_place : Contains c.users w ⊎ (u ≡ w) → (v : UserRec) × Contains c.users v × (v.number ≡ w.number)
    by_place (inl old) = (w, old, refl)
    by_place (inr same) =
        absurd (false≢true (sym none ∙ ap (λ (l : List ℕ). holds l w.number) is ∙ ap (λ (x : UserRec). holds (marked (u.number ∷ []) numbers) x.number) (sym same) ∙ has_first u.number [] numbers))

were_there_open : (u : UserRec) (touched numbers : List ℕ) (c : Contents) (dump : Option DumpFacts) → IfSome dump (λ d. touched ≡ marked (u.number ∷ []) numbers)
    → IfSome dump (λ d. WereThere touched (c.users ++ u ∷ []) c)
were_there_open u touched numbers c None is = tt
were_there_open u touched numbers c (Some d) is = were_there u touched numbers c is

pub adds : (o : OnlineFacts) (who user : List ℕ) (space time money : ℕ) (u : UserRec) → o.live ≡ true → IsTied o
    → RefusesAs o.contents.users (recs_in o.contents) o.contents.head.next_stamp who (NewUser user space time money) None
    → IsNewUser o.contents.users (recs_in o.contents) who user space time money u
    → IsRecorded o who (NewUser user space time money) (AddUser u) (record o.contents { users = o.contents.users ++ u ∷ [] }) (u.number ∷ []) Done
adds o who user space time money u live tied granted new_user = record {
  live = live;
  records = (rules_here o live tied).records;
  changes = λ told pinned. add_is told pinned u o.contents;
  alone = refl;
  no_blocks = refl;
  touched = refl;
  write = refl;
  off = λ s k. refl;
  none = λ s k. refl;
  head = refl;
  granted = granted;
  replied = λ bytes long. refl;
  goes = λ v reels new dump known free unjam behind.
      calls_go_by_step.adds v reels o new dump who user space time money u 0 known new_user.rules new_user.named new_user.row free unjam behind;
  texts = λ held reels v are. are;
  up = λ text shelf s changed touched at changed_is touched_is was.
      let mine : changed ≡ marked (u.number ∷ []) s.online.changed = changed_is ∙ ap (λ (x : OnlineFacts). marked (u.number ∷ []) x.changed) (sym at) in
      let open_mine : IfSome s.dump (λ d. touched ≡ marked (u.number ∷ []) s.online.touched) =
      subst (λ (x : OnlineFacts). IfSome s.dump (λ d. touched ≡ marked (u.number ∷ []) x.touched)) (sym at) touched_is in
      subst (λ (x : OnlineFacts). IsUp text shelf (behind s (record x.contents { users = x.contents.users ++ u ∷ [] }) changed touched)) at
      (events_stay_up.users text shelf s (s.online.contents.users ++ u ∷ []) changed touched (only_grow s (u.number ∷ []) changed touched mine open_mine)
      (were_there u changed s.online.changed s.online.contents mine) (were_there_open u touched s.online.touched s.online.contents s.dump open_mine) was);
  belongs = λ text shelf reels was. files_belong.users text shelf reels o.contents (o.contents.users ++ u ∷ []) was;
}

-- of the records of the filestore
pub new_user_on : (o : OnlineFacts) (us : List UserRec) (fs : List FileRec) (who user : List ℕ) (space time money : ℕ) (u : UserRec) → us ≡ o.contents.users → fs ≡ recs_in o.contents
    → IsNewUser us fs who user space time money u → IsNewUser o.contents.users (recs_in o.contents) who user space time money u
new_user_on o us fs who user space time money u users files is =
    subst (λ (rs : List FileRec). IsNewUser o.contents.users rs who user space time money u) files (subst (λ (x : List UserRec). IsNewUser x fs who user space time money u) users is)
