-- The step of a call that creates a user, or sets a budget.
-- serves: CallLemmas
use Rattle.std.proofs.Common.{◌≡◌, ℕ, ◌<◌, Bool, true, false, cond, List, [], ◌∷◌, ◌++◌, get_or, length, set, Option, Some, None, is_some, refl, sym, ◌∙◌, ap, inl, inr}
use Rattle.std.specs.Prelude.{◌⊎◌, ◌||◌, filter, map, not, slice_get, slice_set}
use Rattle.std.specs.List.{list_any}
use Rattle.std.specs.Ordering.{eq_by_cmp}
use Rattle.std.specs.FinMap.{from_entries, get, insert, remove, same_map, get-insert, get-remove}
use Rattle.std.proofs.lemmas.Bool.{cases_Bool, cond-false, cond-true}
use Rattle.std.proofs.lemmas.List.{get_or-map, map-set, set-get_or}
use Rattle.std.proofs.lemmas.List.Elements.{Contains-push, filter-append}
use Rattle.std.proofs.lemmas.List.Folds.{list_any-append}
use Rattle.std.proofs.lemmas.Option.{slice_get-get_or}
use Rattle.g_name.specs.Order.{text_cmp}
use Rattle.g_entry.specs.declared.file_rec.FileRec.{FileRec}
use Rattle.g_entry.specs.declared.user_rec.UserRec.{UserRec}
use Rattle.g_tape.specs.Reel.{Reel}
use Rattle.g_plain.proofs.TextMaps.{text_exact, text_total}
use Rattle.g_plain.specs.declared.calls.BudgetKind.{BudgetKind}
use Rattle.g_plain.specs.declared.calls.StoreCall.TheVariants.{NewUser, Budget}
use Rattle.g_plain.specs.PlainStep.{fault_of, with_budget}
use Rattle.g_plain.specs.PlainTree.{Tree, user_row}
use Rattle.g_tree.specs.Records.{IsRecords, name_of, user_row_of}
use Rattle.g_tree.proofs.ListLemmas.{filter_of_map, map_of_map}
use Rattle.g_tree.proofs.RecordLemmas.{name_at}
use Rattle.g_tree.proofs.UserLemmas.{tree_more, tree_set}
use Rattle.g_disc_contents.specs.Contents.{has, recs_in}
use Rattle.g_disc_contents.specs.Facts.{OnlineFacts}
use Rattle.g_store_model.specs.State as state
use Rattle.g_store_model.specs.CallStep.{IsUnjam}
use Rattle.g_store_meaning.specs.Reading.{View, names_of, state_up, users_in}
use Rattle.g_store_meaning.specs.StoreInvariant.{DumpFacts}
use Rattle.g_laws_store.specs.Rooms.{held_in}
use Rattle.g_laws_store.proofs.NeedsLemmas.{users_named}
use Rattle.g_laws_store.proofs.UserLemmas.{called, named_any, users_go_by_change}
use Rattle.g_laws_store.specs.Calls.{IsKnown}
use Rattle.g_laws_store.proofs.PartLemmas.{GoesBy, granted_tree}
use Rattle.g_laws_store.proofs.StillLemmas.{still}

-- NAMES as sets
one_of : (a b : Option (Unit {0})) → is_some a ≡ is_some b → a ≡ b
one_of None None same = refl
one_of None (Some y) same = absurd (let no : ⊥ = cc in no)
one_of (Some x) None same = absurd (let no : ⊥ = cc in no)
one_of (Some x) (Some y) same = refl

same_names : (m n : state.Users) → ((q : List ℕ) → is_some (get m q) ≡ is_some (get n q)) → m ≡ n
same_names m n same = same_map text_total text_exact m n (λ q. one_of (get m q) (get n q) (same q))

or_false : (b : Bool) → (b || false) ≡ b
or_false true = refl
or_false false = refl

-- a name among those of a list and one more, if it isn't the last one's
any_more : (q : List ℕ) (test : UserRec → Bool) (users : List UserRec) (u : UserRec) → called q u ≡ false
    → list_any (called q) (filter test (users ++ u ∷ [])) ≡ list_any (called q) (filter test users)
any_more q test users u isnt =
    ap (list_any (called q)) (filter-append test users (u ∷ []))
    ∙ list_any-append (called q) (filter test users) (filter test (u ∷ []))
    ∙ ap (λ (b : Bool). list_any (called q) (filter test users) || b) (by_test (test u))
    ∙ or_false (list_any (called q) (filter test users))
  where
    by_test : (b : Bool) → list_any (called q) (cond b (u ∷ []) []) ≡ false
    by_test true = ap (λ (b : Bool). b || false) isnt
    by_test false = refl

-- without the new user, whether it was there or not
removed_more : (test : UserRec → Bool) (users : List UserRec) (u : UserRec) → remove (names_of (filter test (users ++ u ∷ []))) u.user ≡ remove (names_of (filter test users)) u.user
removed_more test users u =
    same_names (remove (names_of (filter test (users ++ u ∷ []))) u.user) (remove (names_of (filter test users)) u.user)
    (λ q.
    ap is_some (get-remove text_total (names_of (filter test (users ++ u ∷ []))) u.user q) ∙ at q (cases_Bool (called q u)) ∙ sym (ap is_some (get-remove text_total (names_of (filter test users)) u.user q)))
  where
    at : (q : List ℕ) → (called q u ≡ true) ⊎ (called q u ≡ false)
        → is_some (cond (eq_by_cmp text_cmp q u.user) None (get (names_of (filter test (users ++ u ∷ []))) q)) ≡ is_some (cond (eq_by_cmp text_cmp q u.user) None (get (names_of (filter test users)) q))
    at q (inl is) =
        ap is_some (cond-true (called q u) None (get (names_of (filter test (users ++ u ∷ []))) q) is) ∙ sym (ap is_some (cond-true (called q u) None (get (names_of (filter test users)) q) is))
    at q (inr isnt) =
        ap is_some (cond-false (called q u) None (get (names_of (filter test (users ++ u ∷ []))) q) isnt)
        ∙ named_any q (filter test (users ++ u ∷ [])) ∙ any_more q test users u isnt ∙ sym (named_any q (filter test users))
        ∙ sym (ap is_some (cond-false (called q u) None (get (names_of (filter test users)) q) isnt))

-- and with it
inserted_more : (test : UserRec → Bool) (users : List UserRec) (u : UserRec) → insert (names_of (filter test (users ++ u ∷ []))) u.user tt ≡ insert (names_of (filter test users)) u.user tt
inserted_more test users u =
    same_names (insert (names_of (filter test (users ++ u ∷ []))) u.user tt) (insert (names_of (filter test users)) u.user tt)
    (λ q.
    ap is_some (get-insert text_total (names_of (filter test (users ++ u ∷ []))) u.user tt q) ∙ at q (cases_Bool (called q u)) ∙ sym (ap is_some (get-insert text_total (names_of (filter test users)) u.user tt q)))
  where
    at : (q : List ℕ) → (called q u ≡ true) ⊎ (called q u ≡ false)
        → is_some (cond (eq_by_cmp text_cmp q u.user) (Some tt) (get (names_of (filter test (users ++ u ∷ []))) q)) ≡ is_some (cond (eq_by_cmp text_cmp q u.user) (Some tt) (get (names_of (filter test users)) q))
    at q (inl is) =
        ap is_some (cond-true (called q u) (Some tt) (get (names_of (filter test (users ++ u ∷ []))) q) is) ∙ sym (ap is_some (cond-true (called q u) (Some tt) (get (names_of (filter test users)) q) is))
    at q (inr isnt) =
        ap is_some (cond-false (called q u) (Some tt) (get (names_of (filter test (users ++ u ∷ []))) q) isnt)
        ∙ named_any q (filter test (users ++ u ∷ [])) ∙ any_more q test users u isnt ∙ sym (named_any q (filter test users))
        ∙ sym (ap is_some (cond-false (called q u) (Some tt) (get (names_of (filter test users)) q) isnt))

-- a user of the same number and name: as a set of names nothing changes
abbrev Key : Type 0
Key = ℕ × List ℕ

key_of : UserRec → Key
key_of u = (u.number, u.user)

-- the names of those whose number passes
abbrev names_from : (ℕ → Bool) → List Key → state.Users
names_from test keys = from_entries (map (λ p. (p.1, tt)) (filter (λ p. test p.0) keys))

names_by_keys : (test : ℕ → Bool) (users : List UserRec) → names_of (filter (λ (u : UserRec). test u.number) users) ≡ names_from test (map key_of users)
unfolding key_of
names_by_keys test users = ap (λ (es : List (List ℕ × Unit {0})). from_entries {R = text_cmp} es)
    (sym (map_of_map (λ (p : Key). (p.1, tt)) key_of (filter (λ (u : UserRec). test u.number) users))
    ∙ ap (map (λ (p : Key). (p.1, tt))) (sym (filter_of_map (λ (p : Key). test p.0) key_of users)))

keys_kept : (users : List UserRec) (n : ℕ) (u : UserRec) → n < length users → u.number ≡ n → name_of users n ≡ u.user
    → ((i : ℕ) (w : UserRec) → slice_get users i ≡ Some w → w.number ≡ i) → map key_of (slice_set users n u) ≡ map key_of users
unfolding key_of
keys_kept users n u within number name numbered =
    map-set key_of users n u
    ∙ ap (set (map key_of users) n) here
    ∙ set-get_or (map key_of users) n (0, [])
  where
    here : key_of u ≡ get_or (map key_of users) n (0, [])
    here =
        (λ i. ((number ∙ sym (numbered n (get_or users n u) (slice_get-get_or users n u within))) i, (sym name ∙ name_at users n u within) i))
        ∙ sym (get_or-map key_of users n u (0, []) within)

module _ (v : View) (reels : List Reel) (o : OnlineFacts) (dump : Option DumpFacts) (who : List ℕ) (asked : IsKnown o dump) (u : UserRec) where
  abbrev s : state.State
  s = state_up v reels o dump

  abbrev k : state.Holding
  k = held_in v o

  abbrev more : List UserRec
  more = o.contents.users ++ u ∷ []

  pub add_parts : (new : OnlineFacts) (user : List ℕ) (space time money until : ℕ) → IsRecords more (recs_in o.contents) → u.user ≡ user
      → user_row_of o.contents.users u ≡ record { superior = who; space = space; time = time; money = money }
      → fault_of k.tree who (NewUser user space time money) ≡ None → IsUnjam s k who (NewUser user space time money) until
      → GoesBy v reels o new dump who (NewUser user space time money) until v.text (record o.contents { users = more }) (u.number ∷ [])
  add_parts new user space time money until rules name row granted unjam = record {
    does = refl;
    tree = tree_more o.contents.users (recs_in o.contents) u asked.records (λ (r : FileRec). v.text r.stamp) o.contents.head.next_stamp rules
        ∙ (λ i. let t : Tree = record k.tree { users = insert k.tree.users (name i) (row i) } in t)
        ∙ sym (granted_tree k.tree who (NewUser user space time money) granted);
    places = sym (still s k who (NewUser user space time money) until refl unjam);
    last = refl;
    intent = refl;
    kept = users_go_by_change.kept more o.changed u (users_named more (recs_in o.contents) rules u (Contains-push o.contents.users u))
        ∙ removed_more (λ (w : UserRec). not (has o.changed w.number)) o.contents.users u ∙ ap (λ (n : List ℕ). remove k.kept n) name;
    touched = users_go_by_change.touched more o.touched u (Contains-push o.contents.users u) (users_named more (recs_in o.contents) rules u (Contains-push o.contents.users u))
        ∙ inserted_more (λ (w : UserRec). has o.touched w.number) o.contents.users u ∙ ap (λ (n : List ℕ). insert (names_of (users_in o.touched o.contents.users)) n tt) name;
    dumped = refl;
    opened = refl;
  }

  pub budget_parts : (new : OnlineFacts) (user : List ℕ) (kind : BudgetKind) (amount until : ℕ) → IsRecords (slice_set o.contents.users u.number u) (recs_in o.contents) → u.number < length o.contents.users
      → name_of o.contents.users u.number ≡ u.user → u.user ≡ user → user_row_of o.contents.users u ≡ with_budget (user_row k.tree user) kind amount
      → fault_of k.tree who (Budget user kind amount) ≡ None → IsUnjam s k who (Budget user kind amount) until
      → GoesBy v reels o new dump who (Budget user kind amount) until v.text (record o.contents { users = slice_set o.contents.users u.number u }) []
  budget_parts new user kind amount until rules within named name row granted unjam =
      let keys = keys_kept o.contents.users u.number u within refl named asked.records.among_users.numbered in record {
        does = refl;
        tree = tree_set o.contents.users (recs_in o.contents) u.number u named (λ (r : FileRec). v.text r.stamp) o.contents.head.next_stamp within rules
            ∙ (λ i. let t : Tree = record k.tree { users = insert k.tree.users (name i) (row i) } in t)
            ∙ sym (granted_tree k.tree who (Budget user kind amount) granted);
        places = sym (still s k who (Budget user kind amount) until refl unjam);
        last = refl;
        intent = refl;
        kept = names_by_keys (λ (n : ℕ). not (has o.changed n)) (slice_set o.contents.users u.number u) ∙ ap (names_from (λ (n : ℕ). not (has o.changed n))) keys
            ∙ sym (names_by_keys (λ (n : ℕ). not (has o.changed n)) o.contents.users);
        touched = names_by_keys (has o.touched) (slice_set o.contents.users u.number u) ∙ ap (names_from (has o.touched)) keys ∙ sym (names_by_keys (has o.touched) o.contents.users);
        dumped = refl;
        opened = refl;
      }
