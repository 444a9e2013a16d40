-- The number of blocks that a dump needs: by the plan and by the state.
-- serves: lib, AddLemmas, AdoptLemmas, OpenedLemmas, OwnLemmas, PartLemmas, crates above
use Rattle.std.proofs.Common.{◌≡◌, ◌≢◌, ℕ, zero, suc, ◌+◌, ◌<◌, Bool, true, false, cond, List, [], ◌∷◌, ◌++◌, get_or, length, refl, sym, ◌∙◌, ap, arith, subst, inl, inr}
use Rattle.std.specs.Prelude.{◌⊎◌, ◌==◌, All, AllPairs, Contains, filter, map, not, sum_by}
use Rattle.std.specs.List.{list_any}
use Rattle.std.specs.Ordering.{nat_cmp}
use Rattle.std.specs.Cmp.{eq_by_cmp_equiv}
use Rattle.std.specs.FinMap.{entries, from_entries}
use Rattle.std.proofs.lemmas.Bool.{both_ways, cases_Bool, cases_eq, cond-false, cond-true, eq-eqb, ne_eqb}
use Rattle.std.proofs.lemmas.Cmp.{nat_cmp_total}
use Rattle.std.proofs.lemmas.List.{length-append}
use Rattle.std.proofs.lemmas.List.Elements.{All-contains, All-filter, All-head, All-tail, All-weaker, Contains-append_right, Contains-get_or, filter_passes}
use Rattle.std.proofs.lemmas.List.Kept.{AllPairs-filter}
use Rattle.std.proofs.lemmas.List.Sorted.{sum_by-IsPermutation}
use Rattle.std.proofs.lemmas.List.Sums.{length-filter, sum_by-cons}
use Rattle.std.proofs.lemmas.Option.{slice_get-get_or}
use Rattle.g_base.specs.Block.{blocks_for}
use Rattle.g_name.specs.declared.full.Full.{Full}
use Rattle.g_entry.specs.declared.file_rec.FileRec.{FileRec}
use Rattle.g_entry.specs.declared.user_rec.UserRec.{UserRec}
use Rattle.g_plain.specs.PlainTree.{FileRow}
use Rattle.g_plain.proofs.TextMaps.{text_total}
use Rattle.g_tree.specs.Records.{IsRecords, name_of}
use Rattle.g_tree.proofs.ListLemmas.{sum_of_map, sum_same_on}
use Rattle.g_tree.proofs.MapLemmas.{entries_permute}
use Rattle.g_tree.proofs.RecordLemmas.{name_at, nobody}
use Rattle.g_tree.proofs.RuleLemmas.{count_users, one_of_key}
use Rattle.g_disc_contents.specs.Contents.{Contents, File, has, recs_in}
use Rattle.g_disc_contents.specs.Facts.{Pin}
use Rattle.g_incr.specs.Layout.{Dump, holds}
use Rattle.g_incr.specs.Plan.{Plan, blocks_of, first_content, needs, waiting as waiting_files, waits}
use Rattle.g_store_model.specs.State as state
use Rattle.g_store_model.specs.DumpSteps.{dump_needs, waiting, waiting_blocks}
use Rattle.g_store_meaning.specs.Meaning.{files_of}
use Rattle.g_store_meaning.specs.Reading.{holding_of, names_of, users_not_in}
use Rattle.g_store_meaning.specs.StoreInvariant.{ArePinned}
use Rattle.g_laws_store.proofs.ClosingLemmas.{contains_filter}
use Rattle.g_laws_store.proofs.PinLemmas.{OtherStamp}
use Rattle.g_laws_store.proofs.RecordLemmas.{OtherUser, apart_in, gathered_by, pairs_cons, pairs_head, pairs_tail, users_apart}
use Rattle.g_laws_store.specs.OpeningNeeds.{AreOpened, OpeningTakes}
use Rattle.g_laws_store.specs.Users.{IsNamed}
use Rattle.g_laws_store.proofs.RoomLemmas.{pins_apart, sum_is}
use Rattle.g_laws_store.proofs.UserLemmas.{any_none, any_there, called, is_called, named_any}
use Rattle.g_laws_store.proofs.WaitingLemmas.{IsPinned, are_of, mapped_there, waiting_is}

-- USERS by name and number
pub users_named : (users : List UserRec) (files : List FileRec) → IsRecords users files → (u : UserRec) → Contains users u → All (IsNamed u.number u.user) users
users_named users files rules u there i d within =
    let v = get_or users i d in
    let in_users = Contains-get_or users i d within in (
      λ same. ap (λ (x : UserRec). x.user) (one_of_key (λ (x : UserRec). x.number) users v u (users_apart users rules.among_users) in_users there same),
      λ same. by_number v in_users same (cases_eq v.number u.number),
    )
  where
    by_number : (v : UserRec) → Contains users v → v.user ≡ u.user → (v.number ≡ u.number) ⊎ (v.number ≡ u.number → ⊥) → v.number ≡ u.number
    by_number v in_users same (inl is) = is
    by_number v in_users same (inr isnt) =
        absurd (apart_in (λ (x y : UserRec). x.user ≢ y.user) (λ x y other e. other (sym e)) users rules.among_users.names v u in_users there (λ e. isnt (ap (λ (x : UserRec). x.number) e)) same)

-- a user who is kept, by name, isn't changed
any_kept : (users : List UserRec) (changed : List ℕ) (u : UserRec) → Contains users u → All (IsNamed u.number u.user) users → (has changed u.number ≡ true) ⊎ (has changed u.number ≡ false)
    → not (list_any (called u.user) (users_not_in changed users)) ≡ has changed u.number
any_kept users changed u there named (inl is) =
    ap not (any_none (called u.user) (λ (v : UserRec). not (has changed v.number)) users
    (All-weaker (IsNamed u.number u.user) (λ (v : UserRec). called u.user v ≡ true → not (has changed v.number) ≡ false)
    (λ v n e. ap (λ (m : ℕ). not (has changed m)) (n.1 (sym (is_called u.user v e))) ∙ ap not is) users named))
    ∙ sym is
any_kept users changed u there named (inr isnt) =
    ap not (any_there (called u.user) (users_not_in changed users) u
    (contains_filter (λ (v : UserRec). not (has changed v.number)) users u there (ap not isnt)) ((eq_by_cmp_equiv text_total).refl u.user))
    ∙ sym isnt

pub kept_is : (users : List UserRec) (files : List FileRec) (changed : List ℕ) (owner : ℕ) → IsRecords users files → owner < length users
    → not (state.is_in (names_of (users_not_in changed users)) (name_of users owner)) ≡ has changed owner
kept_is users files changed owner rules within =
    let u = get_or users owner nobody in
    let there = Contains-get_or users owner nobody within in
    let number : u.number ≡ owner = rules.among_users.numbered owner u (slice_get-get_or users owner nobody within) in
    ap (λ (q : List ℕ). not (state.is_in (names_of (users_not_in changed users)) q)) (name_at users owner nobody within)
    ∙ ap not (named_any u.user (users_not_in changed users))
    ∙ any_kept users changed u there (users_named users files rules u there) (cases_Bool (has changed u.number))
    ∙ ap (has changed) number

-- AS MANY as are gathered, if each has an owner
abbrev IsntOf : ℕ → UserRec → Type 0
IsntOf owner u = u.number ≡ owner → ⊥

passed : (r : FileRec) (files : List FileRec) (users : List UserRec) → All (IsntOf r.owner) users → length (gathered_by users (r ∷ files)) ≡ length (gathered_by users files)
passed r files [] all = refl
passed r files (u ∷ us) all =
    ap (λ (rs : List FileRec). length (rs ++ gathered_by us (r ∷ files)))
    (cond-false (r.owner == u.number) (r ∷ files_of u.number files) (files_of u.number files) (ne_eqb r.owner u.number (λ e. All-head (IsntOf r.owner) u us all (sym e))))
    ∙ length-append (files_of u.number files) (gathered_by us (r ∷ files))
    ∙ ap (λ (n : ℕ). length (files_of u.number files) + n) (passed r files us (All-tail (IsntOf r.owner) u us all))
    ∙ sym (length-append (files_of u.number files) (gathered_by us files))

one_more : (r : FileRec) (files : List FileRec) (users : List UserRec) → AllPairs OtherUser users → (u : UserRec) → Contains users u → u.number ≡ r.owner
    → length (gathered_by users (r ∷ files)) ≡ suc (length (gathered_by users files))
one_more r files [] others u (i, within, is) same = let no : ⊥ = omega (arith, within) in absurd no
one_more r files (v ∷ vs) others u there same =
    by_owner (cases_eq v.number r.owner) (λ other. one_more r files vs (pairs_tail OtherUser v vs others) u (later there other) same)
  where
    later : Contains (v ∷ vs) u → (v.number ≡ r.owner → ⊥) → Contains vs u
    later (zero, within, is) other = absurd (other (ap (λ (x : UserRec). x.number) is ∙ same))
    later (suc i, within, is) other = (i, omega (arith, within), is)

    old : length (gathered_by (v ∷ vs) files) ≡ length (files_of v.number files) + length (gathered_by vs files)
    old = length-append (files_of v.number files) (gathered_by vs files)

    by_owner : (v.number ≡ r.owner) ⊎ (v.number ≡ r.owner → ⊥) → ((v.number ≡ r.owner → ⊥) → length (gathered_by vs (r ∷ files)) ≡ suc (length (gathered_by vs files)))
        → length (gathered_by (v ∷ vs) (r ∷ files)) ≡ suc (length (gathered_by (v ∷ vs) files))
    by_owner (inl is) rest =
        ap (λ (rs : List FileRec). length (rs ++ gathered_by vs (r ∷ files))) (cond-true (r.owner == v.number) (r ∷ files_of v.number files) (files_of v.number files) (eq-eqb r.owner v.number (sym is)))
        ∙ length-append (r ∷ files_of v.number files) (gathered_by vs (r ∷ files))
        ∙ ap (λ (n : ℕ). suc (length (files_of v.number files)) + n)
        (passed r files vs (λ j d within e. others 0 (suc j) d (omega arith) (omega (arith, within)) (is ∙ sym e)))
        ∙ (let sum : suc (length (files_of v.number files)) + length (gathered_by vs files) ≡ suc (length (files_of v.number files) + length (gathered_by vs files)) = omega arith in sum)
        ∙ ap suc (sym old)
    by_owner (inr isnt) rest =
        ap (λ (rs : List FileRec). length (rs ++ gathered_by vs (r ∷ files)))
        (cond-false (r.owner == v.number) (r ∷ files_of v.number files) (files_of v.number files) (ne_eqb r.owner v.number (λ e. isnt (sym e))))
        ∙ length-append (files_of v.number files) (gathered_by vs (r ∷ files))
        ∙ ap (λ (n : ℕ). length (files_of v.number files) + n) (rest isnt)
        ∙ (let sum : length (files_of v.number files) + suc (length (gathered_by vs files)) ≡ suc (length (files_of v.number files) + length (gathered_by vs files)) = omega arith in sum)
        ∙ ap suc (sym old)

none_gathered : (users : List UserRec) → length (gathered_by users []) ≡ 0
none_gathered [] = refl
none_gathered (u ∷ us) = none_gathered us

abbrev HasUser : List UserRec → FileRec → Type 0
HasUser users r = (u : UserRec) × Contains users u × (u.number ≡ r.owner)

all_gathered : (users : List UserRec) (files : List FileRec) → AllPairs OtherUser users → All (HasUser users) files → length (gathered_by users files) ≡ length files
all_gathered users [] others all = none_gathered users
all_gathered users (r ∷ rs) others all =
    let (u, there, same) = All-head (HasUser users) r rs all in
    one_more r rs users others u there same ∙ ap suc (all_gathered users rs others (All-tail (HasUser users) r rs all))

-- with the same directories as many are gathered
same_gathered : (users : List UserRec) (a b : List FileRec) → ((u : UserRec) → Contains users u → files_of u.number a ≡ files_of u.number b) → gathered_by users a ≡ gathered_by users b
same_gathered [] a b same = refl
same_gathered (u ∷ us) a b same =
    ap (λ (rs : List FileRec). rs ++ gathered_by us a) (same u (0, omega arith, refl))
    ∙ ap (λ (rs : List FileRec). files_of u.number b ++ rs) (same_gathered us a b (λ v there. same v (Contains-append_right (u ∷ []) us v there)))

-- a directory among the files of some users
files_kept : (test : ℕ → Bool) (n : ℕ) (files : List FileRec) → test n ≡ true → files_of n (filter (λ (r : FileRec). test r.owner) files) ≡ files_of n files
files_kept test n [] is = refl
files_kept test n (r ∷ rs) is = by_test (cases_Bool (test r.owner)) (files_kept test n rs is)
  where
    by_test : (test r.owner ≡ true) ⊎ (test r.owner ≡ false) → files_of n (filter (λ (q : FileRec). test q.owner) rs) ≡ files_of n rs
        → files_of n (filter (λ (q : FileRec). test q.owner) (r ∷ rs)) ≡ files_of n (r ∷ rs)
    by_test (inl passes) rest =
        ap (files_of n) (cond-true (test r.owner) (r ∷ filter (λ (q : FileRec). test q.owner) rs) (filter (λ (q : FileRec). test q.owner) rs) passes)
        ∙ ap (λ (qs : List FileRec). cond (r.owner == n) (r ∷ qs) qs) rest
    by_test (inr fails) rest =
        ap (files_of n) (cond-false (test r.owner) (r ∷ filter (λ (q : FileRec). test q.owner) rs) (filter (λ (q : FileRec). test q.owner) rs) fails)
        ∙ rest ∙ sym (cond-false (r.owner == n) (r ∷ files_of n rs) (files_of n rs) (ne_eqb r.owner n (λ e. both_ways (test n) (ap test (sym e) ∙ fails) is)))

none_of : (test : ℕ → Bool) (n : ℕ) (files : List FileRec) → test n ≡ false → All (λ (r : FileRec). test r.owner ≡ true) files → files_of n files ≡ []
none_of test n [] isnt all = refl
none_of test n (r ∷ rs) isnt all =
    cond-false (r.owner == n) (r ∷ files_of n rs) (files_of n rs)
    (ne_eqb r.owner n (λ e. both_ways (test n) isnt (ap test (sym e) ∙ All-head (λ (q : FileRec). test q.owner ≡ true) r rs all)))
    ∙ none_of test n rs isnt (All-tail (λ (q : FileRec). test q.owner ≡ true) r rs all)

-- pins of versions that are apart are apart
pub pins_differ : (serial at : ℕ) (ws : List FileRec) (ps : List Pin) → ArePinned serial at ws ps → AllPairs OtherStamp ws → AllPairs (λ (p q : Pin). p.stamp ≢ q.stamp) ps
pins_differ serial at [] ps are apart = subst (AllPairs (λ (p q : Pin). p.stamp ≢ q.stamp)) (sym are) (λ i j d less within. let no : ⊥ = omega (arith, within) in absurd no)
pins_differ serial at (w ∷ ws) ps (pin, rest, same, stamp, len, copy, blocks, more) apart =
    subst (AllPairs (λ (p q : Pin). p.stamp ≢ q.stamp)) (sym same)
    (pairs_cons (λ (p q : Pin). p.stamp ≢ q.stamp) pin rest
    (All-weaker (IsPinned ws) (λ (q : Pin). pin.stamp ≢ q.stamp)
    (λ q it e. All-contains (OtherStamp w) ws it.rec (pairs_head OtherStamp w ws apart) it.there (sym stamp ∙ e ∙ it.stamp)) rest
    (are_of serial (at + blocks_for w.len) ws rest more))
    (pins_differ serial (at + blocks_for w.len) ws rest more (pairs_tail OtherStamp w ws apart)))

module _ (text : ℕ → List ℕ) (shelf : ℕ → List Dump) (changed : List ℕ) (c : Contents) (plan : Plan) (pins : List Pin) (opened : AreOpened text shelf changed c plan pins) where
  abbrev rules : IsRecords c.users (recs_in c)
  rules = opened.dumpable.records

  abbrev kept : List UserRec
  kept = users_not_in changed c.users

  abbrev held : state.Holding
  held = holding_of text kept c

  abbrev chosen : List FileRec
  chosen = filter (λ (r : FileRec). has changed r.owner) (recs_in c)

  has_user : (r : FileRec) → r.owner < length c.users → HasUser c.users r
  has_user r within =
      let u = get_or c.users r.owner nobody in
      (u, Contains-get_or c.users r.owner nobody within, rules.among_users.numbered r.owner u (slice_get-get_or c.users r.owner nobody within))

  plan_held : All (λ (r : FileRec). has changed r.owner ≡ true) plan.files
  plan_held i d within = subst (λ (ns : List ℕ). holds ns (get_or plan.files i d).owner ≡ true) opened.planned.held (opened.planned.rules.owners i d within)

  chosen_held : All (λ (r : FileRec). has changed r.owner ≡ true) chosen
  chosen_held = filter_passes (λ (r : FileRec). has changed r.owner) (recs_in c)

  same_directory : (n : ℕ) → (has changed n ≡ true) ⊎ (has changed n ≡ false) → files_of n plan.files ≡ files_of n chosen
  same_directory n (inl is) = opened.planned.files n is ∙ sym (files_kept (has changed) n (recs_in c) is)
  same_directory n (inr isnt) = none_of (has changed) n plan.files isnt plan_held ∙ sym (none_of (has changed) n chosen isnt chosen_held)

  count_files : length plan.files ≡ length chosen
  count_files =
      let apart = users_apart c.users rules.among_users in
      let users = opened.planned.users in
      sym (all_gathered c.users plan.files apart
      (λ i d within. has_user (get_or plan.files i d) (subst (λ (us : List UserRec). (get_or plan.files i d).owner < length us) users (opened.planned.rules.files.owners i d within))))
      ∙ ap (λ (rs : List FileRec). length rs) (same_gathered c.users plan.files chosen (λ u there. same_directory u.number (cases_Bool (has changed u.number))))
      ∙ all_gathered c.users chosen apart
      (λ i d within. has_user (get_or chosen i d) (All-filter (λ (r : FileRec). has changed r.owner) (λ (r : FileRec). r.owner < length c.users) (recs_in c) rules.among_files.owners i d within))

  -- the files of the tree whose owner isn't kept
  abbrev changed_file : Full × FileRow → Bool
  changed_file e = not (state.is_in held.kept e.0.user)

  count_entries : length (filter changed_file (entries held.tree.files)) ≡ length chosen
  count_entries =
      length-filter changed_file (entries held.tree.files)
      ∙ sum_is text c kept rules (λ (e : Full × FileRow). cond (changed_file e) 1 0)
      ∙ sum_same_on (λ (f : File). cond (not (state.is_in held.kept (name_of c.users f.rec.owner))) 1 0) (λ (f : File). cond (has changed f.rec.owner) 1 0) c.files
      (λ i d within.
      let f = get_or c.files i d in
      ap (λ (b : Bool). cond b 1 0) (kept_is c.users (recs_in c) changed f.rec.owner rules (owner_of f (Contains-get_or c.files i d within))))
      ∙ sym (sum_of_map (λ (r : FileRec). cond (has changed r.owner) 1 0) (λ (f : File). f.rec) c.files)
      ∙ sym (length-filter (λ (r : FileRec). has changed r.owner) (recs_in c))
    where
      owner_of : (f : File) → Contains c.files f → f.rec.owner < length c.users
      owner_of f there = All-contains (λ (r : FileRec). r.owner < length c.users) (recs_in c) f.rec rules.among_files.owners (mapped_there (λ (g : File). g.rec) c.files f there)

  -- the blocks of the pins
  sum_pins : (serial at : ℕ) (ws : List FileRec) (ps : List Pin) → ArePinned serial at ws ps → sum_by (λ (p : Pin). blocks_for p.len) ps ≡ blocks_of ws
  sum_pins serial at [] ps are = ap (sum_by (λ (p : Pin). blocks_for p.len)) are
  sum_pins serial at (w ∷ ws) ps (pin, rest, same, stamp, len, copy, blocks, more) =
      ap (sum_by (λ (p : Pin). blocks_for p.len)) same ∙ sum_by-cons (λ (p : Pin). blocks_for p.len) pin rest
      ∙ ap (λ (n : ℕ). blocks_for n + sum_by (λ (p : Pin). blocks_for p.len) rest) len
      ∙ ap (λ (n : ℕ). blocks_for w.len + n) (sum_pins serial (at + blocks_for w.len) ws rest more)
      ∙ sym (sum_by-cons (λ (r : FileRec). blocks_for r.len) w ws)

  pub content_is : waiting_blocks (waiting held) ≡ blocks_of (waiting_files plan.files)
  content_is =
      let ws = waiting_files plan.files in
      let es : List (ℕ × ℕ) = map (λ (p : Pin). (p.stamp, blocks_for p.len)) pins in
      let apart = pins_differ plan.serial (first_content plan) ws pins opened.pinned (AllPairs-filter OtherStamp waits plan.files opened.planned.rules.files.stamps) in
      ap waiting_blocks (sym (waiting_is text shelf changed c plan pins opened kept))
      ∙ sum_by-IsPermutation (λ (w : ℕ × ℕ). w.1) es (entries (from_entries {R = nat_cmp} es)) (entries_permute nat_cmp_total es (pins_apart pins apart))
      ∙ sum_of_map (λ (w : ℕ × ℕ). w.1) (λ (p : Pin). (p.stamp, blocks_for p.len)) pins
      ∙ sum_pins plan.serial (first_content plan) ws pins opened.pinned

  needs_is : dump_needs held ≡ needs plan
  needs_is =
      let users = count_users c.users (recs_in c) (λ r. text r.stamp) c.head.next_stamp rules ∙ sym (ap (λ (us : List UserRec). length us) opened.planned.users) in
      let files = count_entries ∙ sym count_files in
      let content = content_is in
      omega (arith, users, files, content)

pub opening_takes : OpeningTakes
opening_takes = record {
  waits = λ text shelf changed c plan pins kept opened. waiting_is text shelf changed c plan pins opened kept;
  needs = λ text shelf changed c plan pins opened. needs_is text shelf changed c plan pins opened;
}
