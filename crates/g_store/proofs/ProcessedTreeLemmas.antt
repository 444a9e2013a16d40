-- The dump of all versions, as a state has it: its number, its tree, where its versions lie, and the number of its blocks.
-- serves: MovedLemmas, ProcessedStepLemmas
use Rattle.std.proofs.Common.{◌≡◌, ℕ, zero, suc, ◌+◌, ◌-◌, ◌≤◌, ◌==◌, Bool, true, false, List, [], ◌∷◌, ◌++◌, length, map, Option, Some, None, refl, sym, ◌∙◌, ap, arith, subst, inl, inr, unwrap_or, option_map, get_or}
use Rattle.std.specs.Prelude.{◌⊎◌, ◌&&◌, ◌||◌, All, AllPairs, Contains, filter, is_none, is_some, nat_lt, not, sum_by}
use Rattle.std.specs.List.{flat_map, list_any}
use Rattle.std.specs.Ordering.{nat_cmp}
use Rattle.std.specs.FinMap.{FinMap, entries, find, from_entries, get, get-empty, get-from_entries, len, nat_cmp-IsAntisymmetric}
use Rattle.std.proofs.lemmas.Bool.{cases_Bool, false_from_ne_true, cases_eq, cond-false, cond-true, eq-eqb, eqb-true, ltb-false, lt-ltb, ne_eqb, true≢false}
use Rattle.std.proofs.lemmas.Cmp.{nat_cmp_total}
use Rattle.std.proofs.lemmas.List.Elements.{All-head, All-map, All-tail, All-weaker, Contains-get_or}
use Rattle.std.proofs.lemmas.List.Filters.{sum_by-filter_both}
use Rattle.std.proofs.lemmas.List.Sums.{sum_by-append, sum_by-cons}
use Rattle.std.proofs.lemmas.Option.{none-some, slice_get-get_or}
use Rattle.g_base.specs.Block.{blocks_for}
use Rattle.g_name.specs.declared.full.Full.{Full}
use Rattle.g_name.specs.Order.{text_cmp}
use Rattle.g_entry.specs.declared.file_rec.FileRec.{FileRec}
use Rattle.g_entry.specs.declared.file_rec.TapeCopy.{TapeCopy}
use Rattle.g_entry.specs.declared.user_rec.UserRec.{UserRec}
use Rattle.g_tape.specs.Rack.{Rack, reel}
use Rattle.g_tape.specs.Reads.{unread}
use Rattle.g_tape.specs.Reel.{Reel}
use Rattle.g_plain.specs.PlainTree.{FileRow, Tree}
use Rattle.g_tree.specs.Records.{IsRecords, file_row_of, full_of, user_row_of}
use Rattle.g_tree.proofs.ListLemmas.{map_of_map, sum_same_on}
use Rattle.g_tree.proofs.MapLemmas.{found_itself, found_one, keyed}
use Rattle.g_tree.proofs.RecordLemmas.{nobody}
use Rattle.g_tree.proofs.RuleLemmas.{count_files, count_users, file_found}
use Rattle.g_disc_contents.specs.Contents.{Contents, File, has, recs_in, with_copies, with_copy}
use Rattle.g_disc_contents.specs.Facts as facts
use Rattle.g_disc_contents.specs.Facts.{IsTied, OnlineFacts, Pin, noted}
use Rattle.g_incr.specs.Layout.{Dump, holds}
use Rattle.g_incr.specs.Plan.{IsPlan, Plan, blocks_of, content_blocks, first_content, needs}
use Rattle.g_shelf.specs.CompletedDumps.{AreShelved, all_dumps}
use Rattle.g_store_model.specs.State as state
use Rattle.g_store_model.specs.DumpSteps.{AreNoted, dump_needs, own_copies, own_copy, waiting_blocks}
use Rattle.g_store_model.specs.DumpSteps as steps
use Rattle.g_store_model.specs.Process.{AreCopied, AreMoved, HasCopiesOf, IsProcessed, process_content, process_needs}
use Rattle.g_store_meaning.specs.Belonging.{KeepsFile}
use Rattle.g_store_meaning.specs.Meaning.{DumpedDirectory, HasDirectory, Gathers, files_of, told_reels}
use Rattle.g_store_meaning.specs.Reading.{AllTold, Opened, View, dumped_of, holding_of, names_of, own_of, place_of, places_of, tree_by, users_not_in}
use Rattle.g_store_meaning.specs.StoreInvariant.{IsReady, IsUp, StoreFacts, content_in, with_dump}
use Rattle.g_laws_store.specs.Dumping.{opened_with}
use Rattle.g_laws_store.proofs.RecordLemmas.{OtherUser, gathered_by, pairs_tail, users_apart}
use Rattle.g_laws_store.proofs.StateLemmas.{view_by, with_there}
use Rattle.g_laws_store.proofs.UpOneLemmas.{in_with}
use Rattle.g_laws_store.specs.Places.{AreDistinct}
use Rattle.g_laws_store.specs.Rooms.{HasLength, held_in}
use Rattle.g_laws_store.proofs.PlaceLemmas.{find_mapped, get_place, stamp_of}
use Rattle.g_laws_store.proofs.NeedsLemmas.{content_is, opening_takes}
use Rattle.g_laws_store.proofs.RoomLemmas.{current_is, files_apart, sum_is}
use Rattle.g_laws_store.proofs.UnjamLemmas.{any_found}
use Rattle.g_laws_store.proofs.UserLemmas.{any_there}
use Rattle.g_laws_store.proofs.WaitingLemmas.{entries_all, entry_there, mapped_there}
use Rattle.g_laws_store.specs.Opening.{IsOpening}
use Rattle.g_laws_store.proofs.CopyLemmas.{copies_by, find_copy, no_copy_of, same_flat}
use Rattle.g_laws_store.proofs.OpenedLemmas.{are, are_noted, copy_before, long_of, place_of_rec, tree_is}
use Rattle.g_laws_store.proofs.OwnLemmas.{own_is}
use Rattle.g_laws_store.specs.ForgottenCopies.{bare, bare_file, bare_rec, every_user, forgotten}
use Rattle.g_laws_store.proofs.ForgetLemmas.{forgetting_stays}
use Rattle.g_dumper.specs.Invariant.{up_with}
use Rattle.g_dumper.proofs.BeginLemmas.{reel_named}
use Rattle.g_dumper.proofs.HeldLemmas.{holds_there}
use Rattle.g_dumper.proofs.IntentLemmas.{rules_here}
use Rattle.g_dumper.proofs.ShelfLemmas.{reel_there}
use Rattle.g_process.specs.Exits.{IsContentOf, new_dump}
use Rattle.g_process.specs.NamedCopies.{process_copies}
use Rattle.g_process.specs.ProcessPlan.{IsFree, is_filled, living, process_plan, versions}
use Rattle.g_process.proofs.BelongLemmas.{copy_moved, dumpable, pinned, planned, serial_there, stays}
use Rattle.g_process.proofs.PinsLemmas.{content_pins, pins_of, pins_texts}
use Rattle.g_process.proofs.PlanLemmas.{plan_content, plan_long}
use Rattle.g_store.proofs.NotedLemmas.{last_is}

-- A SUM over what is gathered by users is one over all files, if each has an owner
abbrev IsntOf : ℕ → UserRec → Type 0
IsntOf owner u = u.number ≡ owner → ⊥

module _ (f : FileRec → ℕ) where
  sum_passed : (r : FileRec) (files : List FileRec) (users : List UserRec) → All (IsntOf r.owner) users → sum_by f (gathered_by users (r ∷ files)) ≡ sum_by f (gathered_by users files)
  sum_passed r files [] all = refl
  sum_passed r files (u ∷ us) all =
      ap (λ (rs : List FileRec). sum_by f (rs ++ gathered_by us (r ∷ files)))
      (cond-false (r.owner == u.number) (r ∷ files_of u.number files) (files_of u.number files) (ne_eqb r.owner u.number (λ e. All-head (IsntOf r.owner) u us all (sym e))))
      ∙ sum_by-append f (files_of u.number files) (gathered_by us (r ∷ files))
      ∙ ap (λ (n : ℕ). sum_by f (files_of u.number files) + n) (sum_passed r files us (All-tail (IsntOf r.owner) u us all))
      ∙ sym (sum_by-append f (files_of u.number files) (gathered_by us files))

  sum_one : (r : FileRec) (files : List FileRec) (users : List UserRec) → AllPairs OtherUser users → (u : UserRec) → Contains users u → u.number ≡ r.owner
      → sum_by f (gathered_by users (r ∷ files)) ≡ f r + sum_by f (gathered_by users files)
  sum_one r files [] others u (i, within, is) same = let no : ⊥ = omega (arith, within) in absurd no
  sum_one r files (v ∷ vs) others u there same =
      by_owner (cases_eq v.number r.owner) (λ other. sum_one r files vs (pairs_tail OtherUser v vs others) u (later there other) same)
    where
      later : Contains (v ∷ vs) u → (v.number ≡ r.owner → ⊥) → Contains vs u
      later (zero, within, is) other = absurd (other (ap (λ (x : UserRec). x.number) is ∙ same))
      later (suc i, within, is) other = (i, omega (arith, within), is)

      old : sum_by f (gathered_by (v ∷ vs) files) ≡ sum_by f (files_of v.number files) + sum_by f (gathered_by vs files)
      old = sum_by-append f (files_of v.number files) (gathered_by vs files)

      by_owner : (v.number ≡ r.owner) ⊎ (v.number ≡ r.owner → ⊥) → ((v.number ≡ r.owner → ⊥) → sum_by f (gathered_by vs (r ∷ files)) ≡ f r + sum_by f (gathered_by vs files))
          → sum_by f (gathered_by (v ∷ vs) (r ∷ files)) ≡ f r + sum_by f (gathered_by (v ∷ vs) files)
      by_owner (inl is) rest =
          let new = ap (λ (rs : List FileRec). sum_by f (rs ++ gathered_by vs (r ∷ files))) (cond-true (r.owner == v.number) (r ∷ files_of v.number files) (files_of v.number files) (eq-eqb r.owner v.number (sym is)))
          ∙ sum_by-append f (r ∷ files_of v.number files) (gathered_by vs (r ∷ files)) in
          let front = sum_by-cons f r (files_of v.number files) in
          let behind = sum_passed r files vs (λ j d within e. others 0 (suc j) d (omega arith) (omega (arith, within)) (is ∙ sym e)) in
          let was = old in
          omega (arith, new, front, behind, was)
      by_owner (inr isnt) rest =
          let new = ap (λ (rs : List FileRec). sum_by f (rs ++ gathered_by vs (r ∷ files)))
          (cond-false (r.owner == v.number) (r ∷ files_of v.number files) (files_of v.number files) (ne_eqb r.owner v.number (λ e. isnt (sym e))))
          ∙ sum_by-append f (files_of v.number files) (gathered_by vs (r ∷ files)) in
          let behind = rest isnt in
          let was = old in
          omega (arith, new, behind, was)

  none_summed : (users : List UserRec) → sum_by f (gathered_by users []) ≡ 0
  none_summed [] = refl
  none_summed (u ∷ us) = none_summed us

  abbrev HasUser : List UserRec → FileRec → Type 0
  HasUser users r = (u : UserRec) × Contains users u × (u.number ≡ r.owner)

  sum_gathered : (users : List UserRec) (files : List FileRec) → AllPairs OtherUser users → All (HasUser users) files → sum_by f (gathered_by users files) ≡ sum_by f files
  sum_gathered users [] others all = none_summed users
  sum_gathered users (r ∷ rs) others all =
      let (u, there, same) = All-head (HasUser users) r rs all in
      sum_one r rs users others u there same ∙ ap (λ (n : ℕ). f r + n) (sum_gathered users rs others (All-tail (HasUser users) r rs all)) ∙ sym (sum_by-cons f r rs)

-- what is living is what is gathered
living_gathered : (us : List UserRec) (rs : List FileRec) → flat_map (λ (n : ℕ). files_of n rs) (map (λ (u : UserRec). u.number) us) ≡ gathered_by us rs
living_gathered [] rs = refl
living_gathered (u ∷ us) rs = ap (λ (xs : List FileRec). files_of u.number rs ++ xs) (living_gathered us rs)

no_blocks : (rs : List FileRec) → sum_by (λ (r : FileRec). blocks_for r.len) (filter (λ (r : FileRec). not (is_filled r)) rs) ≡ 0
no_blocks [] = refl
no_blocks (r ∷ rs) = by_len (cases_Bool (is_filled r)) (no_blocks rs)
  where
    by_len : (is_filled r ≡ true) ⊎ (is_filled r ≡ false) → sum_by (λ (x : FileRec). blocks_for x.len) (filter (λ (x : FileRec). not (is_filled x)) rs) ≡ 0
        → sum_by (λ (x : FileRec). blocks_for x.len) (filter (λ (x : FileRec). not (is_filled x)) (r ∷ rs)) ≡ 0
    by_len (inl is) rest =
        ap (sum_by (λ (x : FileRec). blocks_for x.len))
        (cond-false (not (is_filled r)) (r ∷ filter (λ (x : FileRec). not (is_filled x)) rs) (filter (λ (x : FileRec). not (is_filled x)) rs) (ap not is)) ∙ rest
    by_len (inr isnt) rest =
        let none : r.len ≡ 0 = (let least = ltb-false 0 r.len isnt in omega (arith, least)) in
        let blocks : blocks_for r.len ≡ 0 = ap blocks_for none in
        let sum = sum_by-cons (λ (x : FileRec). blocks_for x.len) r (filter (λ (x : FileRec). not (is_filled x)) rs) in
        ap (sum_by (λ (x : FileRec). blocks_for x.len))
        (cond-true (not (is_filled r)) (r ∷ filter (λ (x : FileRec). not (is_filled x)) rs) (filter (λ (x : FileRec). not (is_filled x)) rs) (ap not isnt)) ∙ omega (arith, blocks, sum, rest)

-- HOW MANY BLOCKS a dump of all takes
has_users : (c : Contents) → IsRecords c.users (recs_in c) → All (λ (r : FileRec). (u : UserRec) × Contains c.users u × (u.number ≡ r.owner)) (recs_in c)
has_users c rules = λ i d within.
    let r = get_or (recs_in c) i d in
    let owner = rules.among_files.owners i d within in
    let u = get_or c.users r.owner nobody in
    (u, Contains-get_or c.users r.owner nobody owner, rules.among_users.numbered r.owner u (slice_get-get_or c.users r.owner nobody owner))

sum_map : (f : FileRec → ℕ) (fs : List File) → sum_by f (map (λ (g : File). g.rec) fs) ≡ sum_by (λ (g : File). f g.rec) fs
sum_map f [] = refl
sum_map f (g ∷ gs) = sum_by-cons f g.rec (map (λ (x : File). x.rec) gs) ∙ ap (λ (n : ℕ). f g.rec + n) (sum_map f gs) ∙ sym (sum_by-cons (λ (x : File). f x.rec) g gs)

ones : (rs : List FileRec) → sum_by (λ (r : FileRec). 1) rs ≡ length rs
ones [] = refl
ones (r ∷ rs) = let sum = sum_by-cons (λ (x : FileRec). 1) r rs in (let rest = ones rs in omega (arith, sum, rest))

count_living : (c : Contents) → IsRecords c.users (recs_in c) → length (living c) ≡ length (recs_in c)
count_living c rules =
    sym (ones (living c)) ∙ ap (sum_by (λ (r : FileRec). 1)) (living_gathered c.users (recs_in c))
    ∙ sum_gathered (λ (r : FileRec). 1) c.users (recs_in c) (users_apart c.users rules.among_users) (has_users c rules) ∙ ones (recs_in c)

pub process_counts : (serial : ℕ) (o : OnlineFacts) (text : ℕ → List ℕ) (kept : List UserRec) → IsRecords o.contents.users (recs_in o.contents) → All (HasLength text) o.contents.files
    → needs (process_plan serial o) ≡ process_needs (holding_of text kept o.contents)
process_counts serial o text kept rules long =
    let c = o.contents in
    let k = holding_of text kept c in
    let users : len k.tree.users ≡ length c.users = count_users c.users (recs_in c) (λ r. text r.stamp) c.head.next_stamp rules in
    let files : len k.tree.files ≡ length (recs_in c) = count_files c.users (recs_in c) (λ r. text r.stamp) c.head.next_stamp rules in
    let apart = users_apart c.users rules.among_users in
    let sum : sum_by (λ (e : Full × FileRow). state.blocks_of e.1) (entries k.tree.files) ≡ sum_by (λ (r : FileRec). blocks_for r.len) (recs_in c) =
    sum_is text c kept rules (λ (e : Full × FileRow). state.blocks_of e.1)
    ∙ sum_same_on (λ (g : File). blocks_for (length (text g.rec.stamp))) (λ (g : File). blocks_for g.rec.len) c.files (λ i d within. ap blocks_for (long i d within))
    ∙ sym (sum_map (λ (r : FileRec). blocks_for r.len) c.files) in
    let all : sum_by (λ (r : FileRec). blocks_for r.len) (living c) ≡ sum_by (λ (r : FileRec). blocks_for r.len) (recs_in c) =
    ap (sum_by (λ (r : FileRec). blocks_for r.len)) (living_gathered c.users (recs_in c)) ∙ sum_gathered (λ (r : FileRec). blocks_for r.len) c.users (recs_in c) apart (has_users c rules) in
    let count = count_living c rules in
    let both = sum_by-filter_both is_filled (λ (r : FileRec). not (is_filled r)) (λ r. refl) (λ (r : FileRec). blocks_for r.len) (living c) in
    let none = no_blocks (living c) in
    let content = plan_content serial o in
    let plan_files = plan_long serial o in
    omega (arith, users, files, sum, all, count, both, none, content, plan_files)

-- the newest dump holds everything: the dumped tree is what it holds, for any other dumps
abbrev all_of : Dump → List FileRec
all_of d = gathered_by d.users d.files

module _ (dumps : List Dump) (t : DumpedDirectory dumps) (made : Dump) (there : Contains dumps made) (low : (e : Dump) → Contains dumps e → e.number ≤ made.number)
    (apart : (d e : Dump) → Contains dumps d → Contains dumps e → d.number ≡ e.number → d ≡ e) (held : All (λ (u : UserRec). holds made.held u.number ≡ true) made.users) where
  newest : (u : UserRec) → holds made.held u.number ≡ true → (d : Dump) → HasDirectory dumps u.number d → d ≡ made
  newest u is d has_it =
      let least = low d has_it.there in
      let most = has_it.newest made there is in
      apart d made has_it.there there (omega (arith, least, most))

  gathers_one : (us : List UserRec) (files : List FileRec) → All (λ (u : UserRec). holds made.held u.number ≡ true) us → Gathers dumps us files → files ≡ gathered_by us made.files
  gathers_one [] files all is = is
  gathers_one (u ∷ us) files all (d, has_it, rest, are, more) =
      let one : d ≡ made = newest u (All-head (λ (v : UserRec). holds made.held v.number ≡ true) u us all) d has_it in
      are ∙ ap (λ (x : Dump). files_of u.number x.files ++ rest) one
      ∙ ap (λ (rs : List FileRec). files_of u.number made.files ++ rs) (gathers_one us rest (All-tail (λ (v : UserRec). holds made.held v.number ≡ true) u us all) more)

  pub last_made : t.last ≡ made
  last_made = last_is dumps t made there low apart

  pub gathered_made : t.gathered ≡ all_of made
  gathered_made = gathers_one made.users t.gathered held (subst (λ (x : Dump). Gathers dumps x.users t.gathered) last_made t.gathers)

-- a stamp is that of a file, or of none
seek : (fs : List File) (q : ℕ) → ((f : File) × Contains fs f × (f.rec.stamp ≡ q)) ⊎ All (λ (f : File). f.rec.stamp ≡ q → ⊥) fs
seek [] q = inr (λ i d within. absurd (let no : ⊥ = omega (arith, within) in no))
seek (f ∷ fs) q = by_first (cases_eq f.rec.stamp q) (seek fs q)
  where
    by_first : (f.rec.stamp ≡ q) ⊎ (f.rec.stamp ≡ q → ⊥) → ((g : File) × Contains fs g × (g.rec.stamp ≡ q)) ⊎ All (λ (g : File). g.rec.stamp ≡ q → ⊥) fs
        → ((g : File) × Contains (f ∷ fs) g × (g.rec.stamp ≡ q)) ⊎ All (λ (g : File). g.rec.stamp ≡ q → ⊥) (f ∷ fs)
    by_first (inl is) rest = inl (f, (0, omega arith, refl), is)
    by_first (inr isnt) (inl (g, (i, within, at), is)) = inl (g, (suc i, omega (arith, within), at), is)
    by_first (inr isnt) (inr none) = inr (all_none none)
      where
        all_none : All (λ (g : File). g.rec.stamp ≡ q → ⊥) fs → All (λ (g : File). g.rec.stamp ≡ q → ⊥) (f ∷ fs)
        all_none rest zero d within = isnt
        all_none rest (suc i) d within = rest i d (omega (arith, within))

none_any : (es : List (Full × FileRow)) (q : ℕ) → All (λ (e : Full × FileRow). e.1.stamp ≡ q → ⊥) es → list_any (λ (e : Full × FileRow). e.1.stamp == q) es ≡ false
none_any [] q all = refl
none_any (e ∷ es) q all =
    ap (λ (b : Bool). b || list_any (λ (x : Full × FileRow). x.1.stamp == q) es) (ne_eqb e.1.stamp q (All-head (λ (x : Full × FileRow). x.1.stamp ≡ q → ⊥) e es all))
    ∙ none_any es q (All-tail (λ (x : Full × FileRow). x.1.stamp ≡ q → ⊥) e es all)

bare_recs : (fs : List File) → map (λ (f : File). f.rec) (map bare_file fs) ≡ map bare_rec (map (λ (f : File). f.rec) fs)
bare_recs [] = refl
bare_recs (f ∷ fs) = ap (λ (rs : List FileRec). bare_rec f.rec ∷ rs) (bare_recs fs)

no_tape : (rs : List FileRec) (r : FileRec) → Contains (map bare_rec rs) r → r.tape ≡ None
no_tape [] r (i, within, is) = absurd (let no : ⊥ = omega (arith, within) in no)
no_tape (x ∷ xs) r (zero, within, is) = ap (λ (y : FileRec). y.tape) (sym is)
no_tape (x ∷ xs) r (suc i, within, is) = no_tape xs r (i, omega (arith, within), is)

none_kept : (us : List UserRec) (ns : List ℕ) → ((u : UserRec) → Contains us u → has ns u.number ≡ true) → users_not_in ns us ≡ []
none_kept [] ns all = refl
none_kept (u ∷ us) ns all =
    cond-false (not (has ns u.number)) (u ∷ users_not_in ns us) (users_not_in ns us) (ap not (all u (0, omega arith, refl)))
    ∙ none_kept us ns (λ v there. all v (later v there))
  where
    later : (v : UserRec) → Contains us v → Contains (u ∷ us) v
    later v (i, within, is) = (suc i, omega (arith, within), is)

-- it holds every directory
pub held_all : (serial : ℕ) (o : OnlineFacts) (content : List (List ℕ)) → All (λ (u : UserRec). holds (new_dump serial o content).held u.number ≡ true) (new_dump serial o content).users
held_all serial o content = λ i e within.
    holds_there (every_user o.contents) (get_or o.contents.users i e).number (mapped_there (λ (x : UserRec). x.number) o.contents.users (get_or o.contents.users i e) (Contains-get_or o.contents.users i e within))

tree_of_rows : List UserRec → ℕ → List (Full × FileRow) → Tree
tree_of_rows users next rows = record { users = from_entries (map (λ u. (u.user, user_row_of users u)) users); files = from_entries rows; next = next }

-- THE DUMP as it would be opened of the filestore that has forgotten its copies
module _ (serial : ℕ) (o : OnlineFacts) (old : Rack) (live : o.live ≡ true) (tied : IsTied o) (rules : IsPlan (process_plan serial o)) (on : Reel) (on_is : reel serial old.reels ≡ Some on)
    (free : IsFree serial old) (told : AllTold o.disc.held (told_reels old)) (text : ℕ → List ℕ) (shelf : ℕ → List Dump) (shelved : AreShelved shelf (told_reels old))
    (up : IsUp text shelf (up_with o old None)) (content : List (List ℕ)) (its : IsContentOf text serial o content) where
  abbrev pub c : Contents
  c = o.contents

  abbrev pub rs : List Reel
  rs = told_reels old

  abbrev pub plan : Plan
  plan = process_plan serial o

  abbrev pub made : Dump
  made = new_dump serial o content

  abbrev pub with_made : ℕ → List Dump
  with_made = with_dump (new_dump serial o content) shelf

  abbrev pins : List Pin
  pins = pins_of serial (first_content (process_plan serial o)) (versions o.contents) content

  abbrev ghost : StoreFacts
  ghost = forgotten (up_with o old None)

  size_is : length content ≡ blocks_of (versions o.contents)
  size_is = its.long ∙ plan_content serial o

  the_content : content_in pins ≡ Some content
  the_content = content_pins serial (first_content plan) (versions c) content size_is

  pub is_ready : IsReady text shelf rs (opened_with plan pins ghost).online made
  is_ready = (stays serial o old live tied rules on on_is free told text shelf shelved up content its.long its.blocks its.lens its.parts).open_dump pins refl content the_content

  pub made_there : Contains (all_dumps with_made rs) made
  made_there = with_there made shelf rs (unread on) (reel_there serial old.reels on on_is) (reel_named serial old.reels on on_is)

  abbrev pub dumped_tree : DumpedDirectory (all_dumps (with_dump (new_dump serial o content) shelf) (told_reels old))
  dumped_tree = is_ready.rack.tree made made_there

  abbrev op : Opened
  op = record { dump = made; dumps = all_dumps with_made rs; directory = dumped_tree }

  abbrev v : View
  v = view_by text shelf rs up.rack (Some op)

  opening : IsOpening v ghost plan pins content op
  opening = record {
    none = refl;
    told = told.each;
    shelved = shelved;
    on = serial_there serial o old live tied rules on on_is free told text shelf shelved up;
    dumpable = dumpable serial o old live tied rules on on_is free told text shelf shelved up content its.long its.blocks its.lens its.parts;
    planned = planned serial o old live tied rules on on_is free told text shelf shelved up content its.long its.blocks its.lens its.parts;
    pinned = pinned serial o old live tied rules on on_is free told text shelf shelved up content its.long its.blocks its.lens its.parts;
    texts = pins_texts text serial (first_content plan) (versions c) content size_is its.blocks its.lens its.parts;
    up = forgetting_stays.up text shelf (up_with o old None) refl up;
    content_is = the_content;
    opens = record { is = refl; dump = refl; all = refl; records = is_ready.rack.records dumped_tree };
  }

  abbrev forgot : state.Holding
  forgot = held_in v ghost.online

  recs : IsRecords c.users (recs_in c)
  recs = (rules_here o live tied).records

  long_files : All (HasLength text) c.files
  long_files = All-weaker (λ (f : File). KeepsFile (text f.rec.stamp) (all_dumps shelf rs) f) (HasLength text) (λ f keeps. keeps.rec.len) c.files up.disc.files

  tree_bare : tree_by text c.users (recs_in (bare c)) c.head.next_stamp ≡ tree_by text c.users (recs_in c) c.head.next_stamp
  unfolding tree_of_rows
  tree_bare =
      ap (λ (xs : List FileRec). tree_by text c.users xs c.head.next_stamp) (bare_recs c.files)
      ∙ ap (tree_of_rows c.users c.head.next_stamp) (map_of_map (λ (r : FileRec). (full_of c.users r, file_row_of c.users (λ s. text s.stamp) r)) bare_rec (recs_in c))

  -- what is dumped then
  abbrev pub d : state.Dumped
  d = dumped_of text dumped_tree

  low : (e : Dump) → Contains (all_dumps with_made rs) e → e.number ≤ made.number
  low e in_dumps = by_case (in_with made shelf rs e in_dumps)
    where
      by_case : Contains (all_dumps shelf rs) e ⊎ (made ≡ e) → e.number ≤ made.number
      by_case (inl there) = let le = up.quiet e there in omega (arith, le)
      by_case (inr same) = subst (λ (x : Dump). x.number ≤ made.number) same (omega arith)

  noted_at : AreNoted serial (0 + dump_needs forgot - 1 - waiting_blocks (steps.waiting forgot)) (0 + dump_needs forgot - 1) forgot d.places
  noted_at = are_noted v ghost plan pins content op opening 0 refl

  module _ (kept : List UserRec) where
    abbrev pub k : state.Holding
    k = holding_of text kept o.contents

    pub counts : needs plan ≡ process_needs k
    counts = process_counts serial o text kept recs long_files

    first_is : 1 + length plan.users + length plan.files ≡ process_content k
    first_is =
        let users : len k.tree.users ≡ length c.users = count_users c.users (recs_in c) (λ r. text r.stamp) c.head.next_stamp recs in
        let files : len k.tree.files ≡ length (recs_in c) = count_files c.users (recs_in c) (λ r. text r.stamp) c.head.next_stamp recs in
        let living_is = count_living c recs in
        let plan_files = plan_long serial o in
        omega (arith, users, files, living_is, plan_files)

    to_bare : (full : Full) (row : FileRow) → get k.tree.files full ≡ Some row → get forgot.tree.files full ≡ Some row
    to_bare full row e = ap (λ (tr : Tree). get tr.files full) tree_bare ∙ e

    record HasIts (full : Full) (row : FileRow) : Type 0 where
      rec : FileRec
      there : Contains (recs_in (bare c)) rec
      tape : rec.tape ≡ None
      stamp : row.stamp ≡ rec.stamp
      bytes : row.bytes ≡ text rec.stamp

    find_its : (full : Full) (row : FileRow) → get k.tree.files full ≡ Some row → HasIts full row
    find_its full row e =
        let (r, there, named, row_is) = file_found c.users (recs_in (bare c)) (λ (q : FileRec). text q.stamp) c.head.next_stamp opening.dumpable.records full row (to_bare full row e) in
        record {
          rec = r;
          there = there;
          tape = no_tape (recs_in c) r (subst (λ (xs : List FileRec). Contains xs r) (bare_recs c.files) there);
          stamp = ap (λ (w : FileRow). w.stamp) (sym row_is);
          bytes = ap (λ (w : FileRow). w.bytes) (sym row_is);
        }

    copies : AreCopied serial k d.places
    copies = record {
      current = λ stamp. noted_at.current stamp ∙ ap (λ (tr : Tree). state.is_current tr stamp) tree_bare;
      empty = λ full row e none. ap (λ (p : state.Place). p.copy) (noted_at.empty full row (to_bare full row e) none);
      copied = λ full row e some.
          let it = find_its full row e in
          let none : (state.place_at forgot.places row.stamp).copy ≡ None =
          ap (λ (n : ℕ). (state.place_at forgot.places n).copy) it.stamp ∙ copy_before v ghost plan pins content op opening it.rec it.there ∙ it.tape in
          let filled : nat_lt 0 (length row.bytes) ≡ true = lt-ltb 0 (length row.bytes) some in
          let waits_it : (nat_lt 0 (length row.bytes) && is_none (state.place_at forgot.places row.stamp).copy) ≡ true = λ i. filled i && is_none (none i) in
          let (copy, place, on_it, least, most) = noted_at.new full row (to_bare full row e) waits_it in
          let need : dump_needs forgot ≡ needs plan = opening_takes.needs text shelf (every_user c) (bare c) plan pins (are v ghost plan pins content op opening) in
          let blocks : waiting_blocks (steps.waiting forgot) ≡ content_blocks plan = content_is text shelf (every_user c) (bare c) plan pins (are v ghost plan pins content op opening) in
          let all = counts in
          let first = first_is in (
            copy,
            ap (λ (p : state.Place). p.copy) place,
            on_it,
            least_by (dump_needs forgot) (waiting_blocks (steps.waiting forgot)) (length plan.users) (length plan.files) (content_blocks plan) (process_content k) copy.first need blocks first least,
            most_by (dump_needs forgot) (needs plan) (process_needs k) (copy.first + state.blocks_of row) need all most,
          );
    }
      where
        least_by : (need waits users files blocks from first : ℕ) → need ≡ 2 + users + files + blocks → waits ≡ blocks → 1 + users + files ≡ from → 0 + need - 1 - waits ≤ first → from ≤ first
        least_by need waits users files blocks from first sum same is least = omega (arith, sum, same, is, least)

        most_by : (need needed process last : ℕ) → need ≡ needed → needed ≡ process → last ≤ 0 + need - 1 → last ≤ process - 1
        most_by need needed process last a b most = omega (arith, a, b, most)

    -- it keeps no user
    none_in : (name : List ℕ) → state.is_in forgot.kept name ≡ false
    none_in name = ap (λ (us : List UserRec). state.is_in (names_of us) name) (none_kept c.users (every_user c) (λ u there. holds_there (every_user c) u.number (mapped_there (λ (x : UserRec). x.number) c.users u there)))
        ∙ ap is_some (get-empty text_cmp name)

    abbrev entry_stamp : Full × FileRow → ℕ
    entry_stamp e = e.1.stamp

    abbrev entry_copy : Full × FileRow → Option TapeCopy
    entry_copy e = (state.place_at d.places e.1.stamp).copy

    nowhere : (q : ℕ) → All (λ (f : File). f.rec.stamp ≡ q → ⊥) (bare c).files → (state.place_at d.places q).copy ≡ None
    nowhere q none = by_place (get d.places q) refl
      where
        isnt : state.is_current forgot.tree q ≡ false
        isnt = none_any (entries forgot.tree.files) q
            (entries_all text shelf (every_user c) (bare c) plan pins (are v ghost plan pins content op opening) (users_not_in (every_user c) c.users) (λ (e : Full × FileRow). e.1.stamp ≡ q → ⊥) none)

        by_place : (p : Option state.Place) → get d.places q ≡ p → (state.place_at d.places q).copy ≡ None
        by_place None is = ap (λ (p : Option state.Place). (unwrap_or p (record { online = true; copy = None })).copy) is
        by_place (Some p) is = absurd (true≢false (sym (ap is_some is) ∙ noted_at.current q ∙ isnt))

    owns : (stamp : ℕ) → get d.own stamp ≡ (state.place_at d.places stamp).copy
    owns q =
        ap (λ (x : Dump). get (own_of x) q) (last_made (all_dumps with_made rs) dumped_tree made made_there low is_ready.rack.apart (held_all serial o content))
        ∙ ap (λ (m : FinMap nat_cmp TapeCopy). get m q) (own_is v ghost plan pins content op opening)
        ∙ ap (λ (es : List (ℕ × TapeCopy)). get (from_entries {R = nat_cmp} es) q)
        (same_flat (own_copy forgot d.places) (λ (e : Full × FileRow). state.copy_entry (entry_stamp e) (entry_copy e))
        (λ e. cond-false (state.is_in forgot.kept e.0.user) [] (state.copy_entry e.1.stamp (state.place_at d.places e.1.stamp).copy) (none_in e.0.user)) (entries forgot.tree.files))
        ∙ get-from_entries nat_cmp_total (copies_by entry_stamp entry_copy (entries forgot.tree.files)) q
        ∙ by_file (seek (bare c).files q)
      where
        by_file : ((f : File) × Contains (bare c).files f × (f.rec.stamp ≡ q)) ⊎ All (λ (f : File). f.rec.stamp ≡ q → ⊥) (bare c).files
            → find nat_cmp q (copies_by entry_stamp entry_copy (entries forgot.tree.files)) ≡ (state.place_at d.places q).copy
        by_file (inl (f, there, same)) =
            find_copy entry_stamp entry_copy (entries forgot.tree.files) q (state.place_at d.places q).copy (full_of c.users f.rec, file_row_of c.users (λ s. text s.stamp) f.rec)
            (entry_there text shelf (every_user c) (bare c) plan pins (are v ghost plan pins content op opening) (users_not_in (every_user c) c.users) f there) same
            (λ i e within is. ap (λ (n : ℕ). (state.place_at d.places n).copy) is)
        by_file (inr none) =
            no_copy_of entry_stamp entry_copy (entries forgot.tree.files) q
            (entries_all text shelf (every_user c) (bare c) plan pins (are v ghost plan pins content op opening) (users_not_in (every_user c) c.users) (λ (e : Full × FileRow). e.1.stamp ≡ q → ⊥) none)
            ∙ sym (nowhere q none)

    pub is_processed : IsProcessed serial k d
    is_processed = record {
      tree = tree_is v ghost plan pins content op opening ∙ tree_bare;
      number = ap (λ (x : Dump). x.number) (last_made (all_dumps with_made rs) dumped_tree made made_there low is_ready.rack.apart (held_all serial o content));
      copied = copies;
      online = λ full row e.
          let it = find_its full row e in
          ap (λ (n : ℕ). (state.place_at d.places n).online) it.stamp
          ∙ ap (λ (p : state.Place). p.online) (place_of_rec v ghost plan pins content op opening it.rec it.there)
          ∙ ap (λ (n : ℕ). n == 0) (sym (ap (λ (bs : List ℕ). length bs) it.bytes ∙ long_of v ghost plan pins content op opening it.rec it.there));
      own = owns;
    }

    -- AND ON THE DISC, with the new copies noted
    abbrev pub places : FinMap nat_cmp state.Place
    places = places_of (with_copies (process_copies serial o) o.contents.files)

    abbrev copied_file : File → File
    copied_file f = with_copy (process_copies serial o) f

    distinct : AreDistinct c.files
    distinct = files_apart c.files recs.among_files.stamps

    get_new : (q : ℕ) → get places q ≡ option_map place_of (option_map copied_file (find nat_cmp q (keyed stamp_of c.files)))
    get_new q = get_place (with_copies (process_copies serial o) c.files) q ∙ ap (option_map place_of) (find_mapped copied_file q c.files (λ i f within. refl))

    same_online : (p : Option File) → (unwrap_or (option_map place_of (option_map copied_file p)) (record { online = true; copy = None })).online ≡ (unwrap_or (option_map place_of p) (record { online = true; copy = None })).online
    same_online None = refl
    same_online (Some f) = refl

    online_now : (q : ℕ) → (state.place_at places q).online ≡ (state.place_at k.places q).online
    online_now q =
        ap (λ (p : Option state.Place). (unwrap_or p (record { online = true; copy = None })).online) (get_new q) ∙ same_online (find nat_cmp q (keyed stamp_of c.files))
        ∙ sym (ap (λ (p : Option state.Place). (unwrap_or p (record { online = true; copy = None })).online) (get_place c.files q))

    not_found : (q : ℕ) → find nat_cmp q (keyed stamp_of c.files) ≡ None → (f : File) → Contains c.files f → f.rec.stamp ≡ q → ⊥
    not_found q none f there same =
        none-some f
        (sym none ∙ subst (λ (n : ℕ). find nat_cmp n (keyed stamp_of c.files) ≡ Some f) same (found_itself nat_cmp_total nat_cmp-IsAntisymmetric stamp_of c.files f distinct there))

    copies_same : (q : ℕ) → (state.place_at places q).copy ≡ (state.place_at d.places q).copy
    copies_same q = ap (λ (p : Option state.Place). (unwrap_or p (record { online = true; copy = None })).copy) (get_new q) ∙ by_found (find nat_cmp q (keyed stamp_of c.files)) refl
      where
        none_bare : (fs : List File) → ((f : File) → Contains fs f → f.rec.stamp ≡ q → ⊥) → All (λ (f : File). f.rec.stamp ≡ q → ⊥) (map bare_file fs)
        none_bare fs none = All-map (λ (f : File). f.rec.stamp ≡ q → ⊥) bare_file fs (λ i f within same. none (get_or fs i f) (Contains-get_or fs i f within) same)

        by_found : (p : Option File) → find nat_cmp q (keyed stamp_of c.files) ≡ p
            → (unwrap_or (option_map place_of (option_map copied_file p)) (record { online = true; copy = None })).copy ≡ (state.place_at d.places q).copy
        by_found None is = sym (nowhere q (none_bare c.files (not_found q is)))
        by_found (Some f) is =
            let one = found_one nat_cmp_total nat_cmp-IsAntisymmetric stamp_of q c.files f is in
            sym (copy_moved serial o old live tied rules on on_is free told text shelf shelved up content its.long its.blocks its.lens its.parts f one.0)
            ∙ sym (ap (λ (p : state.Place). p.copy)
            (place_of_rec v ghost plan pins content op opening (bare_rec f.rec) (mapped_there (λ (g : File). g.rec) (bare c).files (bare_file f) (mapped_there bare_file c.files f one.0))))
            ∙ ap (λ (n : ℕ). (state.place_at d.places n).copy) one.1

    current_now : (q : ℕ) → is_some (get places q) ≡ state.is_current k.tree q
    current_now q = ap is_some (get_new q) ∙ by_found (find nat_cmp q (keyed stamp_of c.files)) refl ∙ sym (current_is text c kept recs q)
      where
        by_found : (p : Option File) → find nat_cmp q (keyed stamp_of c.files) ≡ p → is_some (option_map place_of (option_map copied_file p)) ≡ facts.is_current c.files q
        by_found None is =
            sym (false_from_ne_true (facts.is_current c.files q)
            (λ yes.
            let (f, in_files, same) = any_found (λ (g : File). g.rec.stamp == q) c.files yes in
            not_found q is f in_files (eqb-true f.rec.stamp q same)))
        by_found (Some f) is =
            let one = found_one nat_cmp_total nat_cmp-IsAntisymmetric stamp_of q c.files f is in
            sym (any_there (λ (g : File). g.rec.stamp == q) c.files f one.0 (eq-eqb f.rec.stamp q one.1))

    pub are_moved : AreMoved serial k places
    are_moved = record {
      copied = record {
        current = current_now;
        empty = λ full row e none. copies_same row.stamp ∙ is_processed.copied.empty full row e none;
        copied = λ full row e some.
            let (copy, is, on_it, least, most) = is_processed.copied.copied full row e some in
            (copy, copies_same row.stamp ∙ is, on_it, least, most);
      };
      online = online_now;
    }

    pub same_copies : HasCopiesOf d places
    same_copies = record { same = copies_same }
