-- PROCESS, in two states that differ only in first blocks of copies, in which no device failed: they have the same answer,
-- and leave two such states.
-- serves: WorldAlikeLemmas
use Rattle.std.proofs.Common.{◌≡◌, ◌⊎◌, ◌+◌, ◌-◌, ◌^◌, ◌&&◌, ◌==◌, ℕ, Bool, true, false, not, List, [], ◌∷◌, length, map, Option, Some, None, option_map, is_some, is_none, Result, Ok, Err, MatchOption, nat_lt, nat_le, if◌then◌else◌, refl, sym, ◌∙◌, ap, subst, inl, inr}
use Rattle.std.proofs.lemmas.Bool.{false≢true, lt-ltb, leb-false, ltb-true}
use Rattle.std.specs.Ordering.{nat_cmp}
use Rattle.std.specs.FinMap.{FinMap, entries, from_entries, get}
use Rattle.g_entry.specs.declared.file_rec.TapeCopy.{TapeCopy}
use Rattle.g_name.specs.declared.full.Full.{Full}
use Rattle.g_plain.specs.PlainStep.{first_fault}
use Rattle.g_plain.specs.PlainTree.{FileRow, Tree}
use Rattle.g_plain.specs.declared.faults.StoreFault.{StoreFault}
use Rattle.g_plain.specs.declared.faults.StoreFault.TheVariants.{CountersSpent, DumpOpen, NoTape, RackNotMounted, ReelNotFree, TapeFull, TapeReadFault}
use Rattle.g_store_model.specs.CallStep.{Plain, TapeRead}
use Rattle.g_store_model.specs.DumpSteps.{open_number, with_shelved, with_used}
use Rattle.g_store_model.specs.Process.{AreCopied, AreMoved, IsProcessed, Processes, moved, process_dump, process_needs, process_refuses, process_refuses_late, released_before}
use Rattle.g_store_model.specs.Rising.{fault_from, has_none}
use Rattle.g_store_model.specs.State.{Dumped as DumpedTree, Holding, Place, ReelRow, Shelved, State, capacity_in, end_in, first_reel, place_at, reel_at, with_reel}
use Rattle.g_run_model.specs.Events.{IsProcessing}
use Rattle.g_run_model.proofs.AlikeLemmas.{AreSame, held_alike}
use Rattle.g_run_model.proofs.BareLemmas.{bare_copies, bare_copy, bare_dumped, bare_holding, bare_open, bare_place, bare_places, bare_state, place_at_bare, some_bare}
use Rattle.g_run_model.proofs.MappedLemmas.{get-mapped, same_maps}
use Rattle.g_run_model.proofs.OpenAlikeLemmas.{no_bytes, number_bare, places_alike}

one_fault : (f g : StoreFault) → (let one : Option StoreFault = Some f in one ≡ Some g) → f ≡ g
one_fault f g e = cc

-- WHERE THE COPIES LIE, but for their first blocks
module _ (serial : ℕ) (k h : Holding) (trees : k.tree ≡ h.tree) (places others : FinMap nat_cmp Place) (one : AreCopied serial k places) (two : AreCopied serial h others)
    (online : (full : Full) (row : FileRow) → get k.tree.files full ≡ Some row → (place_at places row.stamp).online ≡ (place_at others row.stamp).online) where
  there_too : (full : Full) (row : FileRow) → get k.tree.files full ≡ Some row → get h.tree.files full ≡ Some row
  there_too full row there = subst (λ (t : Tree). get t.files full ≡ Some row) trees there

  copy_with : ℕ → Option TapeCopy
  copy_with n = Some (record { serial = n; first = 0 })

  copies : (full : Full) (row : FileRow) → get k.tree.files full ≡ Some row → option_map bare_copy (place_at places row.stamp).copy ≡ option_map bare_copy (place_at others row.stamp).copy
  unfolding copy_with
  copies full row there = by (nat_lt 0 (length row.bytes)) refl
    where
      by : (b : Bool) → nat_lt 0 (length row.bytes) ≡ b → option_map bare_copy (place_at places row.stamp).copy ≡ option_map bare_copy (place_at others row.stamp).copy
      by false e =
          ap (option_map bare_copy) (one.empty full row there (no_bytes row e)) ∙ sym (ap (option_map bare_copy) (two.empty full row (there_too full row there) (no_bytes row e)))
      by true e =
          let (a, is_a, on_a, from_a, to_a) = one.copied full row there (ltb-true 0 (length row.bytes) e) in
          let (b, is_b, on_b, from_b, to_b) = two.copied full row (there_too full row there) (ltb-true 0 (length row.bytes) e) in
          ap (option_map bare_copy) is_a ∙ ap copy_with (on_a ∙ sym on_b) ∙ sym (ap (option_map bare_copy) is_b)

  at_file : (q : ℕ) (full : Full) (row : FileRow) → get k.tree.files full ≡ Some row → row.stamp ≡ q → bare_place (place_at places q) ≡ bare_place (place_at others q)
  at_file q full row there is =
      subst (λ (x : ℕ). bare_place (place_at places x) ≡ bare_place (place_at others x)) is
      (λ i. let p : Place = record { online = online full row there i; copy = copies full row there i } in p)

  pub copied_alike : bare_places places ≡ bare_places others
  copied_alike = places_alike k.tree h.tree trees places others one.current two.current at_file

-- THE NEW DUMP
module _ (serial : ℕ) (k h : Holding) (trees : k.tree ≡ h.tree) (lasts : k.last ≡ h.last) (d e : DumpedTree) (one : IsProcessed serial k d) (two : IsProcessed serial h e) where
  at_places : bare_places d.places ≡ bare_places e.places
  at_places =
      copied_alike serial k h trees d.places e.places one.copied two.copied
      (λ full row there. one.online full row there ∙ sym (two.online full row (subst (λ (t : Tree). get t.files full ≡ Some row) trees there)))

  at_copy : (q : ℕ) → option_map bare_copy (place_at d.places q).copy ≡ option_map bare_copy (place_at e.places q).copy
  at_copy q = ap (λ (p : Place). p.copy) (sym (place_at_bare d.places q) ∙ ap (λ (m : FinMap nat_cmp Place). place_at m q) at_places ∙ place_at_bare e.places q)

  at_own : bare_copies d.own ≡ bare_copies e.own
  at_own = same_maps _ _ (λ q.
      get-mapped (λ n c. bare_copy c) d.own q ∙ ap (option_map bare_copy) (one.own q) ∙ at_copy q ∙ sym (ap (option_map bare_copy) (two.own q)) ∙ sym (get-mapped (λ n c. bare_copy c) e.own q))

  pub dump_alike : bare_dumped d ≡ bare_dumped e
  dump_alike = λ i.
      let x : DumpedTree = record {
        number = (one.number ∙ ap (λ (n : ℕ). n + 1) lasts ∙ sym two.number) i;
        tree = (one.tree ∙ trees ∙ sym two.tree) i;
        places = at_places i;
        own = at_own i;
      } in x

-- the reels: all others are released, for any bound above all serials
first_none : (p : ReelRow → Bool) (r : ReelRow) (rs : List ReelRow) → first_reel p (r ∷ rs) ≡ None → (p r ≡ false) × (first_reel p rs ≡ None)
first_none p r rs none = by (p r) refl none
  where
    by : (b : Bool) → p r ≡ b → (if b then Some r.serial else first_reel p rs) ≡ None → (p r ≡ false) × (first_reel p rs ≡ None)
    by true e some = absurd (let never : ⊥ = cc in never)
    by false e rest = (e, rest)

below : (until n : ℕ) → nat_le until n ≡ false → nat_lt n until ≡ true
below until n e = lt-ltb n until (leb-false until n e)

module _ (serial until other : ℕ) (f : ReelRow → ReelRow) (same : (r : ReelRow) → (f r).serial ≡ r.serial) where
  one_released : (r : ReelRow) → nat_le until r.serial ≡ false → nat_le other r.serial ≡ false → released_before serial until r ≡ released_before serial other r
  one_released r e1 e2 = by (nat_lt r.serial until) (nat_lt r.serial other) (below until r.serial e1) (below other r.serial e2)
    where
      by : (b c : Bool) → b ≡ true → c ≡ true → (if b && not (r.serial == serial) && not (has_none r) then record r { dumps = [] } else r) ≡ (if c && not (r.serial == serial) && not (has_none r) then record r { dumps = [] } else r)
      by true true e1 e2 = refl
      by true false e1 e2 = absurd (false≢true e2)
      by false c e1 e2 = absurd (false≢true e1)

  all_released : (rs : List ReelRow) → first_reel (λ r. nat_le until r.serial) rs ≡ None → first_reel (λ r. nat_le other r.serial) rs ≡ None
      → map (released_before serial until) (with_reel serial f rs) ≡ map (released_before serial other) (with_reel serial f rs)
  all_released [] none1 none2 = refl
  all_released (r ∷ rs) none1 none2 = by (serial == r.serial) (all_released rs first1.1 first2.1)
    where
      first1 : (nat_le until r.serial ≡ false) × (first_reel (λ r. nat_le until r.serial) rs ≡ None)
      first1 = first_none (λ x. nat_le until x.serial) r rs none1

      first2 : (nat_le other r.serial ≡ false) × (first_reel (λ r. nat_le other r.serial) rs ≡ None)
      first2 = first_none (λ x. nat_le other x.serial) r rs none2

      of_all : (qs : List ReelRow) → first_reel (λ r. nat_le until r.serial) qs ≡ None → first_reel (λ r. nat_le other r.serial) qs ≡ None
          → map (released_before serial until) qs ≡ map (released_before serial other) qs
      of_all [] n1 n2 = refl
      of_all (q ∷ qs) n1 n2 =
          let a = first_none (λ x. nat_le until x.serial) q qs n1 in
          let b = first_none (λ x. nat_le other x.serial) q qs n2 in
          ap (λ (x : ReelRow). x ∷ map (released_before serial until) qs) (one_released q a.0 b.0) ∙ ap (λ (xs : List ReelRow). released_before serial other q ∷ xs) (of_all qs a.1 b.1)

      by : (b : Bool) → map (released_before serial until) (with_reel serial f rs) ≡ map (released_before serial other) (with_reel serial f rs)
          → map (released_before serial until) (if b then f r ∷ rs else r ∷ with_reel serial f rs) ≡ map (released_before serial other) (if b then f r ∷ rs else r ∷ with_reel serial f rs)
      by true rest =
          ap (λ (x : ReelRow). x ∷ map (released_before serial until) rs)
          (one_released (f r) (ap (nat_le until) (same r) ∙ first1.0) (ap (nat_le other) (same r) ∙ first2.0))
          ∙ ap (λ (xs : List ReelRow). released_before serial other (f r) ∷ xs) (of_all rs first1.1 first2.1)
      by false rest =
          ap (λ (x : ReelRow). x ∷ map (released_before serial until) (with_reel serial f rs)) (one_released r first1.0 first2.0)
          ∙ ap (λ (xs : List ReelRow). released_before serial other r ∷ xs) rest

abbrev written : Shelved → ReelRow → ReelRow
written d r = with_used true (with_shelved d r)

-- ALL
module _ (s t : State) (serial : ℕ) (a b : Result ℕ StoreFault) (new other : State) (same : bare_state s ≡ bare_state t) (k h : Holding) (here : bare_holding k ≡ bare_holding h) where
  trees : k.tree ≡ h.tree
  trees = ap (λ (x : Holding). x.tree) here

  lasts : k.last ≡ h.last
  lasts = ap (λ (x : Holding). x.last) here

  reels : s.reels ≡ t.reels
  reels = ap (λ (x : State). x.reels) same

  needs : process_needs k ≡ process_needs h
  needs = ap (λ (x : Holding). process_needs x) here

  refusal : List ReelRow → Bool → ℕ → ℕ → Option StoreFault
  refusal rs opened n last = first_fault (
      (is_none (reel_at serial rs), NoTape)
      ∷ fault_from RackNotMounted (first_reel (λ r. not r.mounted) rs)
      ∷ (opened, DumpOpen n)
      ∷ (last == 2 ^ 62 - 1, CountersSpent)
      ∷ [])

  opens : is_some s.open_dump ≡ is_some t.open_dump
  opens = sym (some_bare bare_open s.open_dump) ∙ ap (λ (x : State). is_some x.open_dump) same ∙ some_bare bare_open t.open_dump

  numbers : open_number s.open_dump ≡ open_number t.open_dump
  numbers = sym (number_bare s.open_dump) ∙ ap (λ (x : State). open_number x.open_dump) same ∙ number_bare t.open_dump

  refusals : process_refuses s k serial ≡ process_refuses t h serial
  unfolding refusal
  refusals = λ i. refusal (reels i) (opens i) (numbers i) (lasts i)

  late_refusal : List ReelRow → ℕ → Option StoreFault
  late_refusal rs n = first_fault (
      (nat_lt 0 (end_in (reel_at serial rs)), ReelNotFree serial)
      ∷ (nat_lt (capacity_in (reel_at serial rs)) n, TapeFull n (capacity_in (reel_at serial rs)))
      ∷ [])

  lates : process_refuses_late s k serial ≡ process_refuses_late t h serial
  unfolding late_refusal
  lates = λ i. late_refusal (reels i) (needs i)

  moved_alike : (p q : FinMap nat_cmp Place) (d e : DumpedTree) (until bound : ℕ) → IsProcessed serial k d → IsProcessed serial h e → AreMoved serial k p → AreMoved serial h q
      → first_reel (λ r. nat_le until r.serial) s.reels ≡ None → first_reel (λ r. nat_le bound r.serial) t.reels ≡ None
      → bare_state (moved s k serial p d until) ≡ bare_state (moved t h serial q e bound)
  moved_alike p q d e until bound is_d is_e are_p are_q none1 none2 =
      let places = copied_alike serial k h trees p q are_p.copied are_q.copied (λ full row there. are_p.online row.stamp ∙ online_at row.stamp ∙ sym (are_q.online row.stamp)) in
      let dumps = dump_alike serial k h trees lasts d e is_d is_e in
      let rows = all_released serial until bound (written (process_dump k)) (λ r. refl) s.reels none1 (subst (λ (rs : List ReelRow). first_reel (λ r. nat_le bound r.serial) rs ≡ None) (sym reels) none2) in
      λ i.
      let x : State = record {
        up = (same i).up;
        size = (same i).size;
        holding = Some (record {
          tree = trees i;
          places = places i;
          last = lasts i + 1;
          intent = None;
          kept = from_entries (map (λ u. (u.0, tt)) (entries (trees i).users));
        });
        reels = (rows ∙ (λ j. map (released_before serial bound) (with_reel serial (written (record { place = 0; ends = needs j; number = lasts j + 1 })) (reels j)))) i;
        dumped = Some (dumps i);
        open_dump = (same i).open_dump;
      } in x
    where
      online_at : (n : ℕ) → (place_at k.places n).online ≡ (place_at h.places n).online
      online_at n = ap (λ (x : Place). x.online) (sym (place_at_bare k.places n) ∙ ap (λ (x : Holding). place_at x.places n) here ∙ place_at_bare h.places n)

  by_late : (f g : Option StoreFault) → f ≡ g
      → MatchOption f (Processes s k serial Plain a new) (λ fault. ((a ≡ Err fault) ⊎ ((Plain ≡ TapeRead) × (a ≡ Err TapeReadFault))) × (new ≡ s))
      → MatchOption g (Processes t h serial Plain b other) (λ fault. ((b ≡ Err fault) ⊎ ((Plain ≡ TapeRead) × (b ≡ Err TapeReadFault))) × (other ≡ t))
      → AreSame a b new other
  by_late None None e (ok, done) (ok2, done2) = (
    ok ∙ ap (λ (n : ℕ). let x : Result ℕ StoreFault = Ok (n + 1) in x) lasts ∙ sym ok2,
    ap bare_state done.is
        ∙ moved_alike done.places done2.places done.dumped done2.dumped done.until done2.until done.processed done2.processed done.are done2.are done.all done2.all
        ∙ sym (ap bare_state done2.is),
  )
  by_late None (Some g) e one two = absurd (let never : ⊥ = cc in never)
  by_late (Some f) None e one two = absurd (let never : ⊥ = cc in never)
  by_late (Some f) (Some g) e (inl err, is) (inl err2, is2) = (err ∙ ap Err (one_fault f g e) ∙ sym err2, ap bare_state is ∙ same ∙ sym (ap bare_state is2))
  by_late (Some f) (Some g) e (inr (tape, err), is) two = absurd (let never : ⊥ = cc in never)
  by_late (Some f) (Some g) e (inl err, is) (inr (tape, err2), is2) = absurd (let never : ⊥ = cc in never)

  by_early : (f g : Option StoreFault) → f ≡ g
      → MatchOption f (MatchOption (process_refuses_late s k serial) (Processes s k serial Plain a new) (λ fault. ((a ≡ Err fault) ⊎ ((Plain ≡ TapeRead) × (a ≡ Err TapeReadFault))) × (new ≡ s)))
      (λ fault. (a ≡ Err fault) × (new ≡ s))
      → MatchOption g (MatchOption (process_refuses_late t h serial) (Processes t h serial Plain b other) (λ fault. ((b ≡ Err fault) ⊎ ((Plain ≡ TapeRead) × (b ≡ Err TapeReadFault))) × (other ≡ t)))
      (λ fault. (b ≡ Err fault) × (other ≡ t))
      → AreSame a b new other
  by_early None None e one two = by_late (process_refuses_late s k serial) (process_refuses_late t h serial) lates one two
  by_early None (Some g) e one two = absurd (let never : ⊥ = cc in never)
  by_early (Some f) None e one two = absurd (let never : ⊥ = cc in never)
  by_early (Some f) (Some g) e (err, is) (err2, is2) = (err ∙ ap Err (one_fault f g e) ∙ sym err2, ap bare_state is ∙ same ∙ sym (ap bare_state is2))

pub processings_alike : (s t : State) (serial : ℕ) (a b : Result ℕ StoreFault) (new other : State) → bare_state s ≡ bare_state t → IsProcessing s serial Plain a new → IsProcessing t serial Plain b other → AreSame a b new other
processings_alike s t serial a b new other same (k, holds, one, so) (h, has, two, so2) =
    by_early s t serial a b new other same k h (held_alike s t k h same holds has) (process_refuses s k serial) (process_refuses t h serial)
    (refusals s t serial a b new other same k h (held_alike s t k h same holds has)) one two
