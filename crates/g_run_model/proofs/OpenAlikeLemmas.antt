-- The opening of a dump, in two states that differ only in first blocks of copies: the two dumps differ in nothing else.
-- serves: ProcessAlikeLemmas, WorldAlikeLemmas
use Rattle.std.proofs.Common.{◌≡◌, ◌+◌, ◌-◌, ◌^◌, ◌≤◌, ◌&&◌, ◌||◌, ◌==◌, ◌++◌, ℕ, Bool, true, false, T, cond, not, List, [], ◌∷◌, length, map, flat_map, filter, Option, Some, None, option_map, is_some, is_none, unwrap_or, Result, nat_lt, if◌then◌else◌, refl, sym, ◌∙◌, ap, subst, eqb-true, arith}
use Rattle.std.proofs.lemmas.List.{map-append}
use Rattle.std.proofs.lemmas.Bool.{false≢true, ltb-true, ltb-false, and_from}
use Rattle.std.specs.Cmp.{IsTotalOrder, tied_itself}
use Rattle.std.specs.List.{list_any}
use Rattle.std.specs.Ordering.{eq_by_cmp, is_eq, is_lt, nat_cmp, ordering_reverse}
use Rattle.std.specs.declared.cmp.Ordering.{Ordering}
use Rattle.std.specs.declared.cmp.Ordering.TheVariants.{Equal, Greater, Less}
use Rattle.std.specs.FinMap.{FinMap, empty, entries, entries_sorted, from_entries, get, get-entries, len}
use Rattle.std.specs.FinMap.Entries.{below_all, find, is_sorted}
use Rattle.g_entry.specs.declared.file_rec.TapeCopy.{TapeCopy}
use Rattle.g_name.proofs.Order.{full_total}
use Rattle.g_name.specs.Order.{full_cmp}
use Rattle.g_name.specs.declared.full.Full.{Full}
use Rattle.g_plain.specs.PlainStep.{first_fault}
use Rattle.g_plain.specs.PlainTree.{FileRow, Tree}
use Rattle.g_plain.specs.declared.faults.StoreFault.{StoreFault}
use Rattle.g_plain.specs.declared.faults.StoreFault.TheVariants.{CountersSpent, DumpOpen, NoTape, NotMounted, Stopped, TapeFull, TapeReadFault}
use Rattle.g_store_model.specs.CallStep.{Plain}
use Rattle.g_store_model.specs.DumpSteps.{AreNoted, Event, OpenStep, dump_needs, open_number, open_refuses, opening, own_copies, own_copy, tape_room, waiting, waiting_blocks, waits}
use Rattle.g_store_model.specs.State.{Holding, OpenDump, Place, State, blocks_of, copy_entry, end_of, is_current, is_in, is_mounted, lacks, place_at}
use Rattle.g_run_model.specs.Events.{IsOpening}
use Rattle.g_run_model.proofs.AlikeLemmas.{AreSame, event_alike, held_alike, plain_own}
use Rattle.g_run_model.proofs.BareLemmas.{bare_copies, bare_copy, bare_holding, bare_open, bare_place, bare_places, bare_state, funext, none_bare, place_at_bare, some_bare}
use Rattle.g_run_model.proofs.EventToldLemmas.{IsOwnOf, open_goes}
use Rattle.g_run_model.proofs.MappedLemmas.{changed, get-mapped, mapped-from_entries, same_maps}

is_below : (r : Ordering) → T (is_lt r) → r ≡ Less
is_below Less t = refl
is_below Equal t = absurd t
is_below Greater t = absurd t

both_true : (a b : Bool) → T (a && b) → T a × T b
both_true true b t = (tt, t)
both_true false b t = absurd t

-- EACH ENTRY of a map is what is found at its key
module _ {K X : Type 0} (R : K → K → Ordering) (o : IsTotalOrder R) where
  abbrev Own : List (K × X) → List (K × X) → Type 0
  Own all [] = Unit {0}
  Own all (e ∷ es) = (find R e.0 all ≡ Some e.1) × Own all es

  more_own : (e : K × X) (all es : List (K × X)) → T (below_all R e.0 es) → Own all es → Own (e ∷ all) es
  more_own e all [] b own = tt
  more_own e all (f ∷ fs) b own =
      let less : R e.0 f.0 ≡ Less = is_below (R e.0 f.0) (both_true (is_lt (R e.0 f.0)) (below_all R e.0 fs) b).0 in
      let other : eq_by_cmp R f.0 e.0 ≡ false = ap is_eq (o.antisymm f.0 e.0 ∙ ap ordering_reverse less) in
      (ap (λ (t : Bool). cond t (Some e.1) (find R f.0 all)) other ∙ own.0, more_own e all fs (both_true (is_lt (R e.0 f.0)) (below_all R e.0 fs) b).1 own.1)

  own_all : (es : List (K × X)) → T (is_sorted R es) → Own es es
  own_all [] sorted = tt
  own_all (e ∷ es) sorted =
      let alike : eq_by_cmp R e.0 e.0 ≡ true = ap is_eq (tied_itself o e.0) in (
        ap (λ (t : Bool). cond t (Some e.1) (find R e.0 es)) alike,
        more_own e es es (both_true (below_all R e.0 es) (is_sorted R es) sorted).0 (own_all es (both_true (below_all R e.0 es) (is_sorted R es) sorted).1),
      )

some_file : (q : ℕ) (all es : List (Full × FileRow)) → Own full_cmp full_total all es → list_any (λ e. e.1.stamp == q) es ≡ true
    → (full : Full) × (row : FileRow) × (find full_cmp full all ≡ Some row) × (row.stamp ≡ q)
some_file q all [] own e = absurd (false≢true e)
some_file q all (f ∷ fs) own e = by (f.1.stamp == q) refl e (λ any. some_file q all fs own.1 any)
  where
    by : (b : Bool) → (f.1.stamp == q) ≡ b → (b || list_any (λ (x : Full × FileRow). x.1.stamp == q) fs) ≡ true
        → (list_any (λ (x : Full × FileRow). x.1.stamp == q) fs ≡ true → (full : Full) × (row : FileRow) × (find full_cmp full all ≡ Some row) × (row.stamp ≡ q))
        → (full : Full) × (row : FileRow) × (find full_cmp full all ≡ Some row) × (row.stamp ≡ q)
    by true is any again = (f.0, f.1, own.0, eqb-true f.1.stamp q is)
    by false is any again = again any

pub current_file : (tree : Tree) (q : ℕ) → is_current tree q ≡ true → (full : Full) × (row : FileRow) × (get tree.files full ≡ Some row) × (row.stamp ≡ q)
current_file tree q is =
    let one = some_file q (entries tree.files) (entries tree.files) (own_all full_cmp full_total (entries tree.files) (entries_sorted tree.files)) is in
    (one.0, one.1, get-entries tree.files one.0 ∙ one.2, one.3)

-- what waits to be dumped, and what a dump needs
waits_bare : (k : Holding) (e : Full × FileRow) → waits (bare_holding k) e ≡ waits k e
waits_bare k e = ap (λ (p : Place). nat_lt 0 (length e.1.bytes) && is_none p.copy) (place_at_bare k.places e.1.stamp) ∙ ap (λ (b : Bool). nat_lt 0 (length e.1.bytes) && b) (none_bare bare_copy (place_at k.places e.1.stamp).copy)

waiting_bare : (k : Holding) → waiting (bare_holding k) ≡ waiting k
waiting_bare k = ap (λ (f : Full × FileRow → Bool). let m : FinMap nat_cmp ℕ = from_entries (map (λ e. (e.1.stamp, blocks_of e.1)) (filter f (entries k.tree.files))) in m) (funext (waits (bare_holding k)) (waits k) (λ e. waits_bare k e))

needs_bare : (k : Holding) → dump_needs (bare_holding k) ≡ dump_needs k
needs_bare k = ap (λ (w : FinMap nat_cmp ℕ). 2 + len k.tree.users + length (filter (λ e. not (is_in k.kept e.0.user)) (entries k.tree.files)) + waiting_blocks w) (waiting_bare k)

pub number_bare : (d : Option OpenDump) → open_number (option_map bare_open d) ≡ open_number d
number_bare None = refl
number_bare (Some d) = refl

refusal : State → Holding → ℕ → Bool → ℕ → ℕ → Option StoreFault
refusal s k serial b n m = first_fault (
    (lacks s serial, NoTape)
    ∷ (not (is_mounted s serial), NotMounted)
    ∷ (b, DumpOpen n)
    ∷ (k.last == 2 ^ 62 - 1, CountersSpent)
    ∷ (false, TapeReadFault)
    ∷ (nat_lt (tape_room s serial) m, TapeFull m (tape_room s serial))
    ∷ (false, Stopped)
    ∷ [])

refusal_bare : (s : State) (k : Holding) (serial : ℕ) → open_refuses (bare_state s) (bare_holding k) serial Plain ≡ open_refuses s k serial Plain
unfolding refusal
refusal_bare s k serial =
    ap (λ (b : Bool). refusal s k serial b (open_number (option_map bare_open s.open_dump)) (dump_needs (bare_holding k))) (some_bare bare_open s.open_dump)
    ∙ ap (λ (n : ℕ). refusal s k serial (is_some s.open_dump) n (dump_needs (bare_holding k))) (number_bare s.open_dump)
    ∙ ap (λ (m : ℕ). refusal s k serial (is_some s.open_dump) (open_number s.open_dump) m) (needs_bare k)

-- WHERE THE COPIES LIE, but for their first blocks
pub none_at : (o : Option Place) → is_some o ≡ false → o ≡ None
none_at None e = refl
none_at (Some p) e = absurd (false≢true (sym e))

pub some_at : (o : Option Place) → is_some o ≡ true → o ≡ Some (unwrap_or o (record { online = true; copy = None }))
some_at None e = absurd (false≢true e)
some_at (Some p) e = refl

pub no_bytes : (row : FileRow) → nat_lt 0 (length row.bytes) ≡ false → length row.bytes ≡ 0
no_bytes row e = let le : length row.bytes ≤ 0 = ltb-false 0 (length row.bytes) e in omega (arith, le)

-- places are alike, except for their first blocks, if those of the current files are
module _ (t u : Tree) (trees : t ≡ u) (places others : FinMap nat_cmp Place) (current : (q : ℕ) → is_some (get places q) ≡ is_current t q)
    (current_too : (q : ℕ) → is_some (get others q) ≡ is_current u q)
    (at_file : (q : ℕ) (full : Full) (row : FileRow) → get t.files full ≡ Some row → row.stamp ≡ q → bare_place (place_at places q) ≡ bare_place (place_at others q)) where
  at_stamp : (q : ℕ) (b : Bool) → is_current t q ≡ b → option_map bare_place (get places q) ≡ option_map bare_place (get others q)
  at_stamp q false e =
      ap (option_map bare_place) (none_at (get places q) (current q ∙ e))
      ∙ sym (ap (option_map bare_place) (none_at (get others q) (current_too q ∙ ap (λ (x : Tree). is_current x q) (sym trees) ∙ e)))
  at_stamp q true e =
      let file = current_file t q e in
      ap (option_map bare_place) (some_at (get places q) (current q ∙ e))
      ∙ ap (λ (p : Place). let o : Option Place = Some p in o) (at_file q file.0 file.1 file.2 file.3)
      ∙ sym (ap (option_map bare_place) (some_at (get others q) (current_too q ∙ ap (λ (x : Tree). is_current x q) (sym trees) ∙ e)))

  pub places_alike : bare_places places ≡ bare_places others
  places_alike = same_maps _ _ (λ q. get-mapped (λ n p. bare_place p) places q ∙ at_stamp q (is_current t q) refl ∙ sym (get-mapped (λ n p. bare_place p) others q))

-- the place of a version by a dump, but for its first block
abbrev noted_place : ℕ → Bool → Option TapeCopy → Place
noted_place serial false copy = record { online = true; copy = None }
noted_place serial true (Some copy) = record { online = false; copy = Some (bare_copy copy) }
noted_place serial true None = record { online = false; copy = Some (record { serial = serial; first = 0 }) }

module _ (serial from to : ℕ) (k : Holding) (places : FinMap nat_cmp Place) (noted : AreNoted serial from to k places) where
  noted_at : (full : Full) (row : FileRow) → get k.tree.files full ≡ Some row → bare_place (place_at places row.stamp) ≡ noted_place serial (nat_lt 0 (length row.bytes)) (place_at k.places row.stamp).copy
  noted_at full row there = by (nat_lt 0 (length row.bytes)) refl (place_at k.places row.stamp).copy refl
    where
      by : (b : Bool) → nat_lt 0 (length row.bytes) ≡ b → (c : Option TapeCopy) → (place_at k.places row.stamp).copy ≡ c → bare_place (place_at places row.stamp) ≡ noted_place serial b c
      by false e c is = ap bare_place (noted.empty full row there (no_bytes row e))
      by true e (Some copy) is = ap bare_place (noted.old full row copy there (ltb-true 0 (length row.bytes) e) is)
      by true e None is =
          let new = noted.new full row there (and_from (nat_lt 0 (length row.bytes)) (is_none (place_at k.places row.stamp).copy) e (ap is_none is)) in
          ap bare_place new.1 ∙ ap (λ (n : ℕ). let p : Place = record { online = false; copy = Some (record { serial = n; first = 0 }) } in p) new.2

bare_noted : (serial : ℕ) (b : Bool) (c : Option TapeCopy) → noted_place serial b (option_map bare_copy c) ≡ noted_place serial b c
bare_noted serial false c = refl
bare_noted serial true None = refl
bare_noted serial true (Some c) = refl

module _ (serial from to from2 to2 : ℕ) (k h : Holding) (same : bare_holding k ≡ bare_holding h) (places others : FinMap nat_cmp Place) (one : AreNoted serial from to k places) (two : AreNoted serial from2 to2 h others) where
  trees : k.tree ≡ h.tree
  trees = ap (λ (x : Holding). x.tree) same

  copies : (q : ℕ) → option_map bare_copy (place_at k.places q).copy ≡ option_map bare_copy (place_at h.places q).copy
  copies q = ap (λ (p : Place). p.copy) (sym (place_at_bare k.places q) ∙ ap (λ (x : Holding). place_at x.places q) same ∙ place_at_bare h.places q)

  at_file : (q : ℕ) (full : Full) (row : FileRow) → get k.tree.files full ≡ Some row → row.stamp ≡ q → bare_place (place_at places q) ≡ bare_place (place_at others q)
  at_file q full row there is = subst (λ (x : ℕ). bare_place (place_at places x) ≡ bare_place (place_at others x)) is (
      noted_at serial from to k places one full row there
      ∙ sym (bare_noted serial (nat_lt 0 (length row.bytes)) (place_at k.places row.stamp).copy)
      ∙ ap (noted_place serial (nat_lt 0 (length row.bytes))) (copies row.stamp)
      ∙ bare_noted serial (nat_lt 0 (length row.bytes)) (place_at h.places row.stamp).copy
      ∙ sym (noted_at serial from2 to2 h others two full row (subst (λ (t : Tree). get t.files full ≡ Some row) trees there)))

  pub noted_alike : bare_places places ≡ bare_places others
  noted_alike = places_alike k.tree h.tree trees places others one.current two.current at_file

-- the copies that its own records name
entry_bare : (stamp : ℕ) (c : Option TapeCopy) → changed (λ n x. bare_copy x) (copy_entry stamp c) ≡ copy_entry stamp (option_map bare_copy c)
entry_bare stamp None = refl
entry_bare stamp (Some c) = refl

own_by : (b : Bool) (stamp : ℕ) (c : Option TapeCopy) → changed (λ n x. bare_copy x) (if b then [] else copy_entry stamp c) ≡ (if b then [] else copy_entry stamp (option_map bare_copy c))
own_by true stamp c = refl
own_by false stamp c = entry_bare stamp c

own_bare : (k : Holding) (m : FinMap nat_cmp Place) (e : Full × FileRow) → changed (λ n x. bare_copy x) (own_copy k m e) ≡ own_copy (bare_holding k) (bare_places m) e
own_bare k m e = own_by (is_in k.kept e.0.user) e.1.stamp (place_at m e.1.stamp).copy
    ∙ ap (λ (p : Place). if is_in k.kept e.0.user then [] else copy_entry e.1.stamp p.copy) (sym (place_at_bare m e.1.stamp))

owns_bare : (k : Holding) (m : FinMap nat_cmp Place) (es : List (Full × FileRow)) → changed (λ n x. bare_copy x) (flat_map (own_copy k m) es) ≡ flat_map (own_copy (bare_holding k) (bare_places m)) es
owns_bare k m [] = refl
owns_bare k m (e ∷ es) =
    map-append (λ (x : ℕ × TapeCopy). let p : ℕ × TapeCopy = (x.0, bare_copy x.1) in p) (own_copy k m e) (flat_map (own_copy k m) es)
    ∙ ap (λ (xs : List (ℕ × TapeCopy)). xs ++ changed (λ n x. bare_copy x) (flat_map (own_copy k m) es)) (own_bare k m e)
    ∙ ap (λ (xs : List (ℕ × TapeCopy)). own_copy (bare_holding k) (bare_places m) e ++ xs) (owns_bare k m es)

own_copies_bare : (k : Holding) (m : FinMap nat_cmp Place) → bare_copies (own_copies k m) ≡ own_copies (bare_holding k) (bare_places m)
own_copies_bare k m = mapped-from_entries bare_copy (flat_map (own_copy k m) (entries k.tree.files)) ∙ ap (λ (es : List (ℕ × TapeCopy)). let x : FinMap nat_cmp TapeCopy = from_entries es in x) (owns_bare k m (entries k.tree.files))

-- the state after an opening
opened_with : State → Holding → ℕ → FinMap nat_cmp Place → ℕ → FinMap nat_cmp ℕ → FinMap nat_cmp TapeCopy → State
opened_with s k serial m needs waiting own = record s {
  holding = Some (record k { intent = Some (record { serial = serial; place = end_of s serial; number = k.last + 1 }) });
  open_dump = Some (record {
    number = k.last + 1;
    serial = serial;
    place = end_of s serial;
    needs = needs;
    done = 0;
    tree = k.tree;
    places = m;
    waiting = waiting;
    own = own;
    touched = empty;
  });
}

opening_bare : (s : State) (k : Holding) (serial : ℕ) (m : FinMap nat_cmp Place) → bare_state (opening s k serial m) ≡ opening (bare_state s) (bare_holding k) serial (bare_places m)
unfolding opened_with
opening_bare s k serial m =
    ap (λ (n : ℕ). opened_with (bare_state s) (bare_holding k) serial (bare_places m) n (waiting k) (bare_copies (own_copies k m))) (sym (needs_bare k))
    ∙ ap (λ (w : FinMap nat_cmp ℕ). opened_with (bare_state s) (bare_holding k) serial (bare_places m) (dump_needs (bare_holding k)) w (bare_copies (own_copies k m))) (sym (waiting_bare k))
    ∙ ap (λ (c : FinMap nat_cmp TapeCopy). opened_with (bare_state s) (bare_holding k) serial (bare_places m) (dump_needs (bare_holding k)) (waiting (bare_holding k)) c) (own_copies_bare k m)

module _ (s t : State) (serial : ℕ) (a b : Result ℕ StoreFault) (new other : State) (same : bare_state s ≡ bare_state t) (k h : Holding) (here : bare_holding k ≡ bare_holding h) where
  refusals : open_refuses s k serial Plain ≡ open_refuses t h serial Plain
  refusals = sym (refusal_bare s k serial) ∙ ap (λ (x : State). open_refuses x (bare_holding k) serial Plain) same ∙ ap (λ (x : Holding). open_refuses (bare_state t) x serial Plain) here ∙ refusal_bare t h serial

  behind : (m n : FinMap nat_cmp Place) → bare_places m ≡ bare_places n → bare_state (opening s k serial m) ≡ bare_state (opening t h serial n)
  behind m n places = opening_bare s k serial m ∙ ap (λ (x : State). opening x (bare_holding k) serial (bare_places m)) same
      ∙ ap (λ (x : Holding). opening (bare_state t) x serial (bare_places m)) here ∙ ap (λ (x : FinMap nat_cmp Place). opening (bare_state t) (bare_holding h) serial x) places ∙ sym (opening_bare t h serial n)

  -- if it isn't opened, it doesn't matter where the copies would lie
  open_by : (f : Option StoreFault) → open_refuses s k serial Plain ≡ f → OpenStep s k serial Plain a new → OpenStep t h serial Plain b other → AreSame a b new other
  open_by None e (m, noted, one) (n, noted2, two) =
      event_alike (k.last + 1) s t (opening s k serial m) (opening t h serial n) a b new other same
      (behind m n (noted_alike serial _ _ _ _ k h here m n (noted e) (noted2 (sym refusals ∙ e))))
      (open_refuses s k serial Plain) (open_refuses t h serial Plain) (h.last + 1) refusals (ap (λ (x : Holding). x.last + 1) here) (plain_own (open_refuses s k serial) (open_goes s k serial Plain)) one two
  open_by (Some Stopped) e (m, noted, one) (n, noted2, two) = absurd (subst (λ (x : Option StoreFault). IsOwnOf x) e (plain_own (open_refuses s k serial) (open_goes s k serial Plain)))
  open_by (Some f) e (m, noted, one) (n, noted2, two) =
      let left = subst (λ (x : Option StoreFault). Event x (k.last + 1) s (opening s k serial m) a new) e one in
      let right = subst (λ (x : Option StoreFault). Event x (h.last + 1) t (opening t h serial n) b other) (sym refusals ∙ e) two in
      (left.0 ∙ sym right.0, ap bare_state left.1 ∙ same ∙ sym (ap bare_state right.1))

pub openings_alike : (s t : State) (serial : ℕ) (a b : Result ℕ StoreFault) (new other : State) → bare_state s ≡ bare_state t → IsOpening s serial Plain a new → IsOpening t serial Plain b other → AreSame a b new other
openings_alike s t serial a b new other same (k, holds, one, so) (h, has, two, so2) =
    open_by s t serial a b new other same k h (held_alike s t k h same holds has) (open_refuses s k serial Plain) refl one two
