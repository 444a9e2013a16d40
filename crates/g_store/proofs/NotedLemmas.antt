-- What the completion of a dump changes in the state: the places that it noted, its tree, and the users who are kept then.
-- serves: ProcessedStepLemmas, ProcessedTreeLemmas, SteppedLemmas
use Rattle.std.proofs.Common.{◌≡◌, ◌≢◌, ℕ, zero, suc, ◌+◌, ◌≤◌, Bool, true, false, List, [], ◌∷◌, get_or, take, Option, Some, unwrap_or, None, refl, sym, ◌∙◌, ap, arith, subst, inl, inr}
use Rattle.std.specs.Prelude.{◌⊎◌, ◌==◌, All, AllPairs, Contains, filter, map, nat_le, nat_lt, not, slice_get, sum_by}
use Rattle.std.specs.Option.{option_map}
use Rattle.std.specs.Ordering.{nat_cmp}
use Rattle.std.specs.Cmp.{eq_by_cmp_equiv}
use Rattle.std.specs.FinMap.{FinMap, entries, from_entries, get, get-entries, get-from_entries, nat_cmp-IsAntisymmetric, same_map}
use Rattle.std.proofs.lemmas.Bool.{and_from, cases_Bool, cond-false, cond-true, eq-eqb, le-leb, lt-ltb}
use Rattle.std.proofs.lemmas.Cmp.{nat_cmp_total}
use Rattle.std.proofs.lemmas.List.{get_or-map, length-map}
use Rattle.std.proofs.lemmas.List.Elements.{All-contains, All-contains_itself, All-cons, All-head, All-nil, All-tail, All-weaker, Contains-get_or}
use Rattle.std.proofs.lemmas.List.Kept.{AllPairs-filter}
use Rattle.std.proofs.lemmas.List.Sorted.{sum_by-IsPermutation}
use Rattle.std.proofs.lemmas.List.Sums.{sum_by-cons}
use Rattle.std.proofs.lemmas.Option.{same_Some, slice_get-get_or}
use Rattle.g_base.specs.Block.{blocks_for}
use Rattle.g_name.specs.Order.{text_cmp}
use Rattle.g_entry.specs.declared.file_rec.FileRec.{FileRec}
use Rattle.g_entry.specs.declared.user_rec.UserRec.{UserRec}
use Rattle.g_plain.specs.PlainTree.{Tree, UserRow}
use Rattle.g_plain.proofs.TextMaps.{text_exact, text_total}
use Rattle.g_tree.specs.Records.{IsRecords, user_row_of}
use Rattle.g_tree.proofs.ListLemmas.{filter_of_map, filter_same_on, map_of_map, sum_of_map}
use Rattle.g_tree.proofs.RecordLemmas.{nobody}
use Rattle.g_tree.proofs.MapLemmas.{entries_kept, entries_permute, entries_valued, found_itself, get_valued, keyed, with_value}
use Rattle.g_disc_contents.specs.Contents.{has}
use Rattle.g_disc_contents.specs.Facts.{Pin}
use Rattle.g_incr.specs.Layout.{Dump, IsDump, holds}
use Rattle.g_incr.specs.Plan.{IsContentAt, Plan, blocks_of, dump_of, first_content, needs, noted_files, noted_rec, numbered_from, waiting, waits, with_number}
use Rattle.g_online.proofs.CloseNoteLemmas.{pairs_map}
use Rattle.g_store_model.specs.State as state
use Rattle.g_store_model.specs.DumpSteps.{kept_now, waiting_blocks, writes_content}
use Rattle.g_store_meaning.specs.Meaning.{DumpedDirectory, Gathers, HasDirectory, files_in, files_of}
use Rattle.g_store_meaning.specs.Reading.{dumped_place, dumped_places, names_of, users_in, users_not_in, waiting_of}
use Rattle.g_store_meaning.specs.StoreInvariant.{ArePinned}
use Rattle.g_laws_store.proofs.ClosingLemmas.{IsOf, all_left, all_right, contains_filter, pins_are}
use Rattle.g_laws_store.proofs.PinLemmas.{OtherStamp}
use Rattle.g_laws_store.specs.Places.{AreNotedIn}
use Rattle.g_laws_store.specs.Users.{IsNamed}
use Rattle.g_laws_store.proofs.NeedsLemmas.{pins_differ, users_named}
use Rattle.g_laws_store.proofs.RoomLemmas.{pins_apart}
use Rattle.g_laws_store.proofs.UserLemmas.{any_none, any_there, called, is_called, named_any}

-- THE USERS who weren't touched are kept
abbrev user_entry : List UserRec → UserRec → List ℕ × UserRow
user_entry users u = (u.user, user_row_of users u)

abbrev nothing : UserRow → Unit {0}
nothing row = tt

-- a map is made of its entries
made_again : (m : state.Users) → from_entries (entries m) ≡ m
made_again m =
    same_map text_total text_exact (from_entries (entries m)) m (λ q. get-from_entries text_total (entries m) q ∙ sym (get-entries m q))

-- which users are touched, by name as by number
touched_is : (users : List UserRec) (touched : List ℕ) (u : UserRec) → Contains users u → All (IsNamed u.number u.user) users → (has touched u.number ≡ true) ⊎ (has touched u.number ≡ false)
    → state.is_in (names_of (users_in touched users)) u.user ≡ has touched u.number
touched_is users touched u there called_so (inl is) =
    named_any u.user (users_in touched users)
    ∙ any_there (called u.user) (users_in touched users) u (contains_filter (λ (v : UserRec). has touched v.number) users u there is) ((eq_by_cmp_equiv text_total).refl u.user)
    ∙ sym is
touched_is users touched u there called_so (inr isnt) =
    named_any u.user (users_in touched users)
    ∙ any_none (called u.user) (λ (v : UserRec). has touched v.number) users
    (All-weaker (IsNamed u.number u.user) (λ (v : UserRec). called u.user v ≡ true → has touched v.number ≡ false)
    (λ v n e. ap (has touched) (n.1 (sym (is_called u.user v e))) ∙ isnt) users called_so)
    ∙ sym isnt

kept_entries : (users us : List UserRec) → map (λ (e : List ℕ × UserRow). (e.0, tt)) (entries (from_entries {R = text_cmp} (map (user_entry users) us))) ≡ entries (names_of us)
kept_entries users us =
    sym (entries_valued text_cmp nothing text_total (map (user_entry users) us))
    ∙ ap (λ (es : List (List ℕ × Unit {0})). entries (from_entries {R = text_cmp} es)) (map_of_map (with_value text_cmp nothing) (user_entry users) us)

-- all users are kept
pub kept_all : (users : List UserRec) (tree : Tree) → tree.users ≡ from_entries (map (user_entry users) users)
    → from_entries {R = text_cmp} (map (λ (e : List ℕ × UserRow). (e.0, tt)) (entries tree.users)) ≡ names_of users
kept_all users tree is =
    ap (λ (m : FinMap text_cmp UserRow). from_entries {R = text_cmp} (map (λ (e : List ℕ × UserRow). (e.0, tt)) (entries m))) is
    ∙ ap (λ (xs : List (List ℕ × Unit {0})). from_entries {R = text_cmp} xs) (kept_entries users users)
    ∙ made_again (names_of users)

module _ (d : state.OpenDump) (users : List UserRec) (files : List FileRec) (touched : List ℕ) (rules : IsRecords users files) (marked : d.touched ≡ names_of (users_in touched users)) where
  abbrev stays : List ℕ → Bool
  stays name = not (state.is_in d.touched name)

  same_test : All (λ (u : UserRec). stays u.user ≡ not (has touched u.number)) users
  same_test =
      All-weaker (Contains users) (λ (u : UserRec). stays u.user ≡ not (has touched u.number))
      (λ u there.
      ap (λ (m : state.Users). not (state.is_in m u.user)) marked
      ∙ ap not (touched_is users touched u there (users_named users files rules u there) (cases_Bool (has touched u.number)))) users (All-contains_itself users)

  pub kept_after : (tree : Tree) → tree.users ≡ from_entries (map (user_entry users) users) → kept_now d tree ≡ names_of (users_not_in touched users)
  kept_after tree is =
      let es = map (user_entry users) users in
      ap (λ (m : FinMap text_cmp UserRow). from_entries {R = text_cmp} (map (λ (e : List ℕ × UserRow). (e.0, tt)) (filter (λ (e : List ℕ × UserRow). stays e.0) (entries m)))) is
      ∙ ap (λ (xs : List (List ℕ × UserRow)). from_entries {R = text_cmp} (map (λ (e : List ℕ × UserRow). (e.0, tt)) xs)) (sym (entries_kept text_total text_exact stays es))
      ∙ ap (λ (xs : List (List ℕ × UserRow)). from_entries {R = text_cmp} (map (λ (e : List ℕ × UserRow). (e.0, tt)) (entries (from_entries {R = text_cmp} xs))))
      (filter_of_map (λ (e : List ℕ × UserRow). stays e.0) (user_entry users) users)
      ∙ ap (λ (xs : List (List ℕ × Unit {0})). from_entries {R = text_cmp} xs) (kept_entries users (filter (λ (u : UserRec). stays u.user) users))
      ∙ made_again (names_of (filter (λ (u : UserRec). stays u.user) users))
      ∙ ap names_of (filter_same_on (λ (u : UserRec). stays u.user) (λ (u : UserRec). not (has touched u.number)) users same_test)

-- WHAT IS SO of numbered records is so of the records
unnumbered_all : (P : FileRec → Type 0) → ((n : ℕ) (r : FileRec) → P (with_number n r) → P r) → (n : ℕ) (rs : List FileRec) → All P (numbered_from n rs) → All P rs
unnumbered_all P back n [] all = All-nil P
unnumbered_all P back n (r ∷ rs) all =
    All-cons P r rs (back n r (All-head P (with_number n r) (numbered_from (n + 1) rs) all)) (unnumbered_all P back (n + 1) rs (All-tail P (with_number n r) (numbered_from (n + 1) rs) all))

-- what is so of all that is gathered is so of each user's directory in the one dump that may have it
gathered_each : (P : FileRec → Type 0) (dumps : List Dump) (d : Dump) (users : List UserRec) (files : List FileRec) → Gathers dumps users files → All P files
    → (u : UserRec) → Contains users u → ((e : Dump) → HasDirectory dumps u.number e → e ≡ d) → All P (files_of u.number d.files)
gathered_each P dumps d [] files gathers all u (i, within, is) one = let no : ⊥ = omega (arith, within) in absurd no
gathered_each P dumps d (v ∷ vs) files (e, has_it, rest, are, more) all u (zero, within, is) one =
    let same : e ≡ d = one e (subst (λ (x : UserRec). HasDirectory dumps x.number e) is has_it) in
    let here : All P (files_of v.number e.files) = all_left P (files_of v.number e.files) rest (subst (All P) are all) in
    subst (λ (x : UserRec). All P (files_of x.number d.files)) is (subst (λ (x : Dump). All P (files_of v.number x.files)) same here)
gathered_each P dumps d (v ∷ vs) files (e, has_it, rest, are, more) all u (suc i, within, is) one =
    gathered_each P dumps d vs rest more (all_right P (files_of v.number e.files) rest (subst (All P) are all)) u (i, omega (arith, within), is) one

-- and so of a dump's records, which are those of the users whom it holds
held_each : (P : FileRec → Type 0) (d : Dump) → IsDump d → ((u : UserRec) → Contains d.users u → holds d.held u.number ≡ true → All P (files_of u.number d.files)) → All P d.files
held_each P d rules each i other within =
    let r = get_or d.files i other in
    let there = Contains-get_or d.files i other within in
    let owner = rules.files.owners i other within in
    let u = get_or d.users r.owner nobody in
    let number : u.number ≡ r.owner = rules.users.numbered r.owner u (slice_get-get_or d.users r.owner nobody owner) in
    All-contains P (files_of u.number d.files) r (each u (Contains-get_or d.users r.owner nobody owner) (ap (holds d.held) number ∙ rules.owners i other within))
    (contains_filter (λ (s : FileRec). s.owner == u.number) d.files r there (eq-eqb r.owner u.number (sym number)))

-- THE PLACES of a dumped directory are those of its records
module _ (dumps : List Dump) (t : DumpedDirectory dumps) where
  abbrev places : FinMap nat_cmp state.Place
  places = dumped_places (files_in t)

  abbrev stamp_of : FileRec → ℕ
  stamp_of r = r.stamp

  abbrev CopyAt : FileRec → Type 0
  CopyAt r = (state.place_at places r.stamp).copy ≡ r.tape

  place_of_rec : (r : FileRec) → Contains (files_in t) r → get places r.stamp ≡ Some (dumped_place r)
  place_of_rec r there =
      ap (λ (es : List (ℕ × state.Place)). get (from_entries {R = nat_cmp} es) r.stamp) (sym (map_of_map (with_value nat_cmp dumped_place) (λ (q : FileRec). (q.stamp, q)) (files_in t)))
      ∙ get_valued nat_cmp dumped_place nat_cmp_total (keyed stamp_of (files_in t)) r.stamp
      ∙ ap (option_map dumped_place) (get-from_entries nat_cmp_total (keyed stamp_of (files_in t)) r.stamp)
      ∙ ap (option_map dumped_place) (found_itself nat_cmp_total nat_cmp-IsAntisymmetric stamp_of (files_in t) r t.rules.among_files.stamps there)

  copies_at : All CopyAt (files_in t)
  copies_at =
      All-weaker (Contains (files_in t)) CopyAt
      (λ r there. ap (λ (o : Option state.Place). (unwrap_or o (record { online = true; copy = None })).copy) (place_of_rec r there)) (files_in t) (All-contains_itself (files_in t))

  gathered_at : All CopyAt t.gathered
  gathered_at = unnumbered_all CopyAt (λ n r is. is) 0 t.gathered copies_at

  -- THE DUMP of greatest number is the last one there
  module _ (made : Dump) (there : Contains dumps made) (low : (e : Dump) → Contains dumps e → e.number ≤ made.number)
      (apart : (d e : Dump) → Contains dumps d → Contains dumps e → d.number ≡ e.number → d ≡ e) where
    newest : (e : Dump) → Contains dumps e → made.number ≤ e.number → e ≡ made
    newest e in_dumps most = let least = low e in_dumps in apart e made in_dumps there (omega (arith, least, most))

    pub last_is : t.last ≡ made
    last_is = newest t.last t.greatest.there (t.greatest.greatest made there)

    -- and its records lie where they say
    made_at : IsDump made → All CopyAt made.files
    made_at rules =
        held_each CopyAt made rules
        (λ u in_users held.
        gathered_each CopyAt dumps made made.users t.gathered (subst (λ (x : Dump). Gathers dumps x.users t.gathered) last_is t.gathers) gathered_at u in_users
        (λ e has_it. newest e has_it.there (has_it.newest made there held)))

-- the blocks of the versions before one, and its own
take_fits : (ws : List FileRec) (i : ℕ) (version : FileRec) → slice_get ws i ≡ Some version → blocks_of (take i ws) + blocks_for version.len ≤ blocks_of ws
take_fits [] i version there = absurd (let no : ⊥ = cc in no)
take_fits (w ∷ ws) zero version there =
    let len : blocks_for w.len ≡ blocks_for version.len = ap (λ (r : FileRec). blocks_for r.len) (same_Some w version there) in
    let sum = sum_by-cons (λ (r : FileRec). blocks_for r.len) w ws in
    omega (arith, len, sum)
take_fits (w ∷ ws) (suc i) version there =
    let rest = take_fits ws i version there in
    let one = sum_by-cons (λ (r : FileRec). blocks_for r.len) w (take i ws) in
    let two = sum_by-cons (λ (r : FileRec). blocks_for r.len) w ws in
    omega (arith, rest, one, two)

-- THE STAMPS of a dump's files are those of its plan
noted_stamps : (n serial at : ℕ) (rs : List FileRec) → map (λ (r : FileRec). r.stamp) (numbered_from n (noted_files serial at rs)) ≡ map (λ (r : FileRec). r.stamp) rs
noted_stamps n serial at [] = refl
noted_stamps n serial at (r ∷ rs) = by_copy (cases_Bool (waits r)) (noted_stamps (n + 1) serial (at + blocks_for r.len) rs) (noted_stamps (n + 1) serial at rs)
  where
    by_copy : (waits r ≡ true) ⊎ (waits r ≡ false)
        → map (λ (q : FileRec). q.stamp) (numbered_from (n + 1) (noted_files serial (at + blocks_for r.len) rs)) ≡ map (λ (q : FileRec). q.stamp) rs
        → map (λ (q : FileRec). q.stamp) (numbered_from (n + 1) (noted_files serial at rs)) ≡ map (λ (q : FileRec). q.stamp) rs
        → map (λ (q : FileRec). q.stamp) (numbered_from n (noted_files serial at (r ∷ rs))) ≡ r.stamp ∷ map (λ (q : FileRec). q.stamp) rs
    by_copy (inl is) gets keeps =
        ap (λ (qs : List FileRec). map (λ (q : FileRec). q.stamp) (numbered_from n qs))
        (cond-true (waits r) (noted_rec serial at r ∷ noted_files serial (at + blocks_for r.len) rs) (r ∷ noted_files serial at rs) is)
        ∙ ap (λ (ns : List ℕ). r.stamp ∷ ns) gets
    by_copy (inr isnt) gets keeps =
        ap (λ (qs : List FileRec). map (λ (q : FileRec). q.stamp) (numbered_from n qs))
        (cond-false (waits r) (noted_rec serial at r ∷ noted_files serial (at + blocks_for r.len) rs) (r ∷ noted_files serial at rs) isnt)
        ∙ ap (λ (ns : List ℕ). r.stamp ∷ ns) keeps

pub plan_stamps : (plan : Plan) (content : List (List ℕ)) → IsDump (dump_of plan content) → AllPairs OtherStamp plan.files
plan_stamps plan content rules = back
  where
    there : AllPairs (λ (m n : ℕ). m ≢ n) (map (λ (r : FileRec). r.stamp) (dump_of plan content).files)
    there = pairs_map (λ (m n : ℕ). m ≢ n) (λ (r : FileRec). r.stamp) (dump_of plan content).files rules.files.stamps

    apart : AllPairs (λ (m n : ℕ). m ≢ n) (map (λ (r : FileRec). r.stamp) plan.files)
    apart = subst (λ (ns : List ℕ). AllPairs (λ (m n : ℕ). m ≢ n) ns) (noted_stamps 0 plan.serial (first_content plan) plan.files) there

    back : AllPairs OtherStamp plan.files
    back i j d less within same =
        let long = length-map plan.files (λ (r : FileRec). r.stamp) in
        let one = get_or-map (λ (r : FileRec). r.stamp) plan.files i d d.stamp (omega (arith, less, within)) in
        let two = get_or-map (λ (r : FileRec). r.stamp) plan.files j d d.stamp within in
        apart i j d.stamp less (omega (arith, within, long)) (one ∙ same ∙ sym two)

-- THE PINS of a plan have their copies there
module _ (plan : Plan) (content : List (List ℕ)) (pins : List Pin) (are : ArePinned plan.serial (first_content plan) (waiting plan.files) pins) where
  abbrev made : Dump
  made = dump_of plan content

  pins_two : AllPairs OtherStamp plan.files → AllPairs (λ (p q : Pin). p.stamp ≢ q.stamp) pins
  pins_two stamps = pins_differ plan.serial (first_content plan) (waiting plan.files) pins are (AllPairs-filter OtherStamp waits plan.files stamps)

  pub noted_in : AllPairs OtherStamp plan.files → (dumps : List Dump) (t : DumpedDirectory dumps) → Contains dumps made → ((e : Dump) → Contains dumps e → e.number ≤ plan.number)
      → ((d e : Dump) → Contains dumps d → Contains dumps e → d.number ≡ e.number → d ≡ e) → IsDump made → (d : state.OpenDump) → d.waiting ≡ waiting_of (Some pins)
      → d.places ≡ dumped_places (files_in t) → AreNotedIn d pins
  noted_in stamps dumps t there low apart rules d waits_is places_is = record {
    waiting = waits_is;
    copies = All-weaker (IsOf (CopyAt dumps t)) (λ (p : Pin). (state.place_at d.places p.stamp).copy ≡ Some p.copy)
        (λ p it.
        ap (λ (m : FinMap nat_cmp state.Place). (state.place_at m p.stamp).copy) places_is
        ∙ ap (λ (n : ℕ). (state.place_at (dumped_places (files_in t)) n).copy) (sym it.stamp) ∙ it.is ∙ it.tape) pins
        (pins_are (CopyAt dumps t) plan.serial (first_content plan) plan.files pins are
        (unnumbered_all (CopyAt dumps t) (λ n r is. is) 0 (noted_files plan.serial (first_content plan) plan.files) (made_at dumps t made there low apart rules)));
    apart = pins_two stamps;
  }

  -- THE BLOCKS of the versions that wait
  sum_pins : (at : ℕ) (ws : List FileRec) (ps : List Pin) → ArePinned plan.serial at ws ps → sum_by (λ (p : Pin). blocks_for p.len) ps ≡ blocks_of ws
  sum_pins at [] ps are_none = ap (sum_by (λ (p : Pin). blocks_for p.len)) are_none
  sum_pins at (w ∷ ws) ps (pin, rest, same, stamp, len, copy, blocks, more) =
      ap (sum_by (λ (p : Pin). blocks_for p.len)) same ∙ sum_by-cons (λ (p : Pin). blocks_for p.len) pin rest
      ∙ ap (λ (n : ℕ). blocks_for n + sum_by (λ (p : Pin). blocks_for p.len) rest) len
      ∙ ap (λ (n : ℕ). blocks_for w.len + n) (sum_pins (at + blocks_for w.len) ws rest more)
      ∙ sym (sum_by-cons (λ (r : FileRec). blocks_for r.len) w ws)

  waiting_are : AllPairs OtherStamp plan.files → waiting_blocks (waiting_of (Some pins)) ≡ blocks_of (waiting plan.files)
  waiting_are stamps =
      let es : List (ℕ × ℕ) = map (λ (p : Pin). (p.stamp, blocks_for p.len)) pins in
      sum_by-IsPermutation (λ (w : ℕ × ℕ). w.1) es (entries (from_entries {R = nat_cmp} es)) (entries_permute nat_cmp_total es (pins_apart pins (pins_two stamps)))
      ∙ sum_of_map (λ (w : ℕ × ℕ). w.1) (λ (p : Pin). (p.stamp, blocks_for p.len)) pins
      ∙ sum_pins (first_content plan) (waiting plan.files) pins are

  -- a block of a version is one by the state
  pub content_written : AllPairs OtherStamp plan.files → (done version part : ℕ) → IsContentAt plan done version part → (d : state.OpenDump) → d.done ≡ done → d.needs ≡ needs plan
      → d.waiting ≡ waiting_of (Some pins) → writes_content d ≡ true
  content_written stamps done version part stands d done_is needs_are waits_is =
      let all : waiting_blocks d.waiting ≡ blocks_of (waiting plan.files) = ap waiting_blocks waits_is ∙ waiting_are stamps in
      let at = stands.at in
      let within = stands.within in
      let fits = take_fits (waiting plan.files) version stands.version stands.there in
      and_from (nat_lt (d.done + 1) d.needs) (nat_le d.needs (d.done + 1 + waiting_blocks d.waiting))
      (lt-ltb (d.done + 1) d.needs (omega (arith, done_is, needs_are, at, within, fits)))
      (le-leb d.needs (d.done + 1 + waiting_blocks d.waiting) (omega (arith, done_is, needs_are, at, all)))
