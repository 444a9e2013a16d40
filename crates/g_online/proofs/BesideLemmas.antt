-- A write into free copy blocks preserves the invariant of a filestore.
-- serves: PinWaitLemmas, WrittenLemmas
use Rattle.std.proofs.Common.{◌≡◌, ◌⊎◌, ℕ, zero, suc, ◌+◌, ◌-◌, ◌≤◌, ◌||◌, Bool, true, false, not, List, [], ◌∷◌, filter, Option, Some, None, All, refl, sym, ◌∙◌, ap, subst, arith, slice_get, inl, inr}
use Rattle.std.specs.List.{flat_map}
use Rattle.std.specs.Prelude.{Contains, unwrap_or}
use Rattle.std.specs.Option.{ForSome}
use Rattle.std.proofs.lemmas.Bool.{cases_Bool, cases_eq, cond-false, cond-true, ne_eqb}
use Rattle.std.proofs.lemmas.List.Elements.{All-contains, All-contains_itself, All-weaker, Contains-append_left, Contains-append_right}
use Rattle.std.proofs.lemmas.Option.{slice_get_within, unwrap_or-slice_get}
use Rattle.g_base.specs.ToldContent.{Changes}
use Rattle.g_base.proofs.ToldLemmas.{Changes-weaken, told_after}
use Rattle.g_blocks.specs.Pool.{IsFree, IsInArea, IsTaken}
use Rattle.g_copy.specs.Copy.{OnlyAt}
use Rattle.g_disc.specs.Disc.{DiscState, StaySyncable, is_durable}
use Rattle.g_disc.specs.Durable.{AreDurable}
use Rattle.g_slots.specs.Layout.{start_of}
use Rattle.g_slots.proofs.Surviving.{before_copies}
use Rattle.g_dirs.specs.Durable.{IsLive}
use Rattle.g_dirs.specs.Directory.{FileEntry, IsDirectory, all_places, places_of}
use Rattle.g_dirs.proofs.QuietLemmas.{gate_kept, remembers_kept, stands_beside}
use Rattle.g_disc_contents.specs.Contents.{Holds, contents_of}
use Rattle.g_disc_contents.specs.Facts.{Pin}
use Rattle.g_online.specs.declared.pinned.Pinned.{Pinned}
use Rattle.g_online.specs.Invariant.{AreWhole, IsAgreed, IsFileOf, IsKept, IsPinned, IsPooled, Memory, PinsAre, directory_in, is_current, orphans, pins_of, used_places}
use Rattle.g_online.proofs.SameLemmas.{AreSame, IsSame, same_contents, same_contents_told, same_pin_list}

-- a block that is used isn't free
used_away : (size : ℕ) (used places : List ℕ) (pool : List Bool) → All (IsTaken pool) used → All (IsFree pool) places → (k : ℕ) → Contains used k → Contains places k → ⊥
used_away size used places pool taken free k one other =
    let t = All-contains (IsTaken pool) used k taken one in
    let f = All-contains (IsFree pool) places k free other in
    (let a : slice_get pool (k - 2177) ≡ Some true = t.flag in let b : slice_get pool (k - 2177) ≡ Some false = f.flag in let no : ⊥ = cc in no)

only_same : (places : List ℕ) (before after : List (List ℕ)) (k : ℕ) → OnlyAt places before after → (Contains places k → ⊥) → IsSame before after k
only_same places before after k only away =
    sym (unwrap_or-slice_get after k []) ∙ ap (λ (o : Option (List ℕ)). unwrap_or o []) (only.others k away) ∙ unwrap_or-slice_get before k []

all_same : (places used : List ℕ) (before after : List (List ℕ)) → OnlyAt places before after → ((k : ℕ) → Contains used k → Contains places k → ⊥) → AreSame used before after
all_same places used before after only away =
    All-weaker (Contains used) (IsSame before after) (λ k there. only_same places before after k only (away k there)) used (All-contains_itself used)

-- THE BLOCKS OF A PINNED VERSION are used: it is a file's, or no file has it any more
contains_flat : {X : Type 0} (g : X → List ℕ) (xs : List X) (x : X) (k : ℕ) → Contains xs x → Contains (g x) k → Contains (flat_map g xs) k
contains_flat g [] x k (i, inside, is) there = let no : ⊥ = omega (arith, inside) in absurd no
contains_flat g (y ∷ xs) x k (zero, inside, is) there = Contains-append_left (g y) (flat_map g xs) k (subst (λ z. Contains (g z) k) (sym is) there)
contains_flat g (y ∷ xs) x k (suc i, inside, is) there = Contains-append_right (g y) (flat_map g xs) k (contains_flat g xs x k (i, omega (arith, inside), is) there)

pub contains_filter : {X : Type 0} (p : X → Bool) (xs : List X) (x : X) → p x ≡ true → Contains xs x → Contains (filter p xs) x
contains_filter p [] x passes (i, inside, is) = let no : ⊥ = omega (arith, inside) in absurd no
contains_filter p (y ∷ xs) x passes (zero, inside, is) =
    subst (λ l. Contains l x) (sym (cond-true (p y) (y ∷ filter p xs) (filter p xs) (ap p is ∙ passes))) (0, omega arith, is)
contains_filter p (y ∷ xs) x passes (suc i, inside, is) = by_kept (contains_filter p xs x passes (i, omega (arith, inside), is)) (cases_Bool (p y))
  where
    by_kept : Contains (filter p xs) x → (p y ≡ true) ⊎ (p y ≡ false) → Contains (filter p (y ∷ xs)) x
    by_kept rest (inl kept) =
        subst (λ l. Contains l x) (sym (cond-true (p y) (y ∷ filter p xs) (filter p xs) kept)) (suc rest.0, (let within = rest.1 in omega (arith, within)), rest.2)
    by_kept rest (inr gone) = subst (λ l. Contains l x) (sym (cond-false (p y) (y ∷ filter p xs) (filter p xs) gone)) rest

current_file : (files : List FileEntry) (s : ℕ) → is_current files s ≡ true → (f : FileEntry) × Contains files f × (f.0.stamp ≡ s)
current_file [] s is = (let no : ⊥ = cc in absurd no)
current_file (f ∷ files) s is = by_first (cases_eq f.0.stamp s) (λ other. current_file files s (ap (λ (b : Bool). b || is_current files s) (sym (ne_eqb f.0.stamp s other)) ∙ is))
  where
    by_first : (f.0.stamp ≡ s) ⊎ (f.0.stamp ≡ s → ⊥) → ((f.0.stamp ≡ s → ⊥) → (g : FileEntry) × Contains files g × (g.0.stamp ≡ s)) → (g : FileEntry) × Contains (f ∷ files) g × (g.0.stamp ≡ s)
    by_first (inl same) others = (f, (0, omega arith, refl), same)
    by_first (inr other) others =
        let rest = others other in
        let within = rest.1.1 in
        (rest.0, (suc rest.1.0, omega (arith, within), rest.1.2), rest.2)

pin_used : (size next : ℕ) (files : List FileEntry) (pins : List Pinned) (p : Pinned) → Contains pins p → IsPinned size next files p → (k : ℕ) → Contains p.blocks k → Contains (used_places (Some pins) files) k
pin_used size next files pins p among is k there = by_current (cases_Bool (is_current files p.stamp))
  where
    by_current : (is_current files p.stamp ≡ true) ⊎ (is_current files p.stamp ≡ false) → Contains (used_places (Some pins) files) k
    by_current (inl current) =
        let f = current_file files p.stamp current in
        let blocks = All-contains (IsFileOf p) files f.0 is.current f.1 f.2 in
        Contains-append_left (all_places files) (orphans (Some pins) files) k
        (contains_flat places_of files f.0 k f.1 (subst (λ (places : List ℕ). Contains places k) (sym blocks.2) there))
    by_current (inr lost) =
        Contains-append_right (all_places files) (orphans (Some pins) files) k
        (contains_flat (λ (q : Pinned). q.blocks) (filter (λ (q : Pinned). not (is_current files q.stamp)) pins) p k
        (contains_filter (λ (q : Pinned). not (is_current files q.stamp)) pins p (ap not lost) among) there)

module _ (before after : DiscState) (m : Memory) (places : List ℕ) (kept : IsKept before m) (live : m.live ≡ true) (free : All (IsFree m.pool) places)
    (changes : Changes (OnlyAt places) before.held after.held) (size : after.size ≡ before.size) where
  was : IsAgreed before m
  was = kept.agreed live

  pub places_area : All (IsInArea before.size) places
  places_area = All-weaker (IsFree m.pool) (IsInArea before.size)
      (λ k is. let within = slice_get_within m.pool (k - 2177) false is.flag in let low = is.low in let whole = was.pool.fresh.whole in record { low = low; high = omega (arith, within, low, whole) }) places free

  files_away : (k : ℕ) → Contains (all_places (directory_in m).files) k → Contains places k → ⊥
  files_away k there =
      used_away before.size (used_places m.pins (directory_in m).files) places m.pool was.pool.fresh.taken free k
      (Contains-append_left (all_places (directory_in m).files) (orphans m.pins (directory_in m).files) k there)

  -- the contents are unchanged
  pub beside_contents : contents_of after.held (directory_in m) ≡ contents_of before.held (directory_in m)
  beside_contents = same_contents before.held after.held (directory_in m)
      (Changes-weaken changes (λ b a told only. all_same places (all_places (directory_in m).files) b a only files_away))

  -- the pinned versions too
  pins_away : (size next : ℕ) (pins : List Pinned) → m.pins ≡ Some pins → All (IsPinned size next (directory_in m).files) pins → (b a : List (List ℕ)) → OnlyAt places b a → All (λ (p : Pinned). AreSame p.blocks b a) pins
  pins_away size next pins is each b a only =
      All-weaker (Contains pins) (λ (p : Pinned). AreSame p.blocks b a)
      (λ p among. all_same places p.blocks b a only
      (λ k there. used_away before.size (used_places (Some pins) (directory_in m).files) places m.pool
      (subst (λ (o : Option (List Pinned)). All (IsTaken m.pool) (used_places o (directory_in m).files)) is was.pool.fresh.taken) free k
      (pin_used size next (directory_in m).files pins p among (All-contains (IsPinned size next (directory_in m).files) pins p each among) k there)))
      pins (All-contains_itself pins)

  same_told : (pins : List Pinned) (held now : Option (List (List ℕ))) → Changes (OnlyAt places) held now → ((b a : List (List ℕ)) → OnlyAt places b a → All (λ (p : Pinned). AreSame p.blocks b a) pins)
      → pins_of now (Some pins) ≡ pins_of held (Some pins)
  same_told pins None now changed each = ap (λ (h : Option (List (List ℕ))). pins_of h (Some pins)) (changed.untold refl)
  same_told pins (Some b) now changed each =
      let end = changed.told b refl in
      ap (λ (h : Option (List (List ℕ))). pins_of h (Some pins)) end.1 ∙ ap (λ (ps : List Pin). Some ps) (same_pin_list b end.0 pins (each b end.0 end.2))

  pub beside_pins : pins_of after.held m.pins ≡ pins_of before.held m.pins
  beside_pins = by_pins m.pins refl was.pins
    where
      by_pins : (o : Option (List Pinned)) → m.pins ≡ o → PinsAre o before.size m.head.next_stamp (directory_in m).files m.touched → pins_of after.held o ≡ pins_of before.held o
      by_pins None is are = refl
      by_pins (Some pins) is are = same_told pins before.held after.held changes (pins_away before.size m.head.next_stamp pins is are.each)

  -- AND SO IS THE WHOLE INVARIANT
  pub beside_kept : ForSome after.held (AreWhole after.size) → StaySyncable before after → IsKept after m
  beside_kept whole syncable =
      let low = kept.size in
      let high = kept.most in
      record {
        size = omega (arith, low, size);
        most = omega (arith, high, size);
        whole = whole;
        agreed = λ is. record {
          stored = record {
            gate = told_after changes (λ b a told only. gate_kept places b a only before.size places_area ∙ was.stored.gate b told);
            remembers = told_after changes (λ b a told only. remembers_kept places b a only before.size places_area m.pages (was.stored.remembers b told));
            covers = was.stored.covers;
            stands = told_after changes (λ b a told only. stands_beside places b a only before.size places_area (directory_in m) (was.stored.stands b told));
            records = was.stored.records;
            rules = subst (λ (n : ℕ). IsDirectory n (directory_in m)) (sym size) was.stored.rules;
          };
          copies = was.copies;
          pool = subst (λ (n : ℕ). IsPooled n m.pins (directory_in m).files m.pool) (sym size) was.pool;
          noted = was.noted;
          pins = subst (λ (n : ℕ). PinsAre m.pins n m.head.next_stamp (directory_in m).files m.touched) (sym size) was.pins;
          remembered = λ side k page there. syncable (start_of side + k) (was.remembered side k page there);
        };
      }

  -- and all live blocks stay durable
  pub beside_durable : ((k : ℕ) → (Contains places k → ⊥) → is_durable before k ≡ true → is_durable after k ≡ true) → AreDurable (IsLive m.side (directory_in m)) before
      → AreDurable (IsLive m.side (directory_in m)) after
  beside_durable keeps live k is = keeps k (away is) (live k is)
    where
      low : Contains places k → 2177 ≤ k
      low there = (All-contains (IsInArea before.size) places k places_area there).low

      away : IsLive m.side (directory_in m) k → Contains places k → ⊥
      away (inl gate) there = let high = low there in (let no : ⊥ = omega (arith, gate, high) in no)
      away (inr (inl slot)) there = let high = low there in let below = before_copies m.side k slot in (let no : ⊥ = omega (arith, below, high) in no)
      away (inr (inr of)) there = files_away k of there

  -- STOPPED in such a write: the disc holds what it held
  pub beside_holds : ForSome after.held (λ blocks. Holds blocks (contents_of before.held (directory_in m)))
  beside_holds = told_after changes (λ b a told only. record {
    directory = directory_in m;
    stands = stands_beside places b a only before.size places_area (directory_in m) (was.stored.stands b told);
    are = ap (λ (h : Option (List (List ℕ))). contents_of h (directory_in m)) told
        ∙ sym (same_contents_told b a (directory_in m) (all_same places (all_places (directory_in m).files) b a only files_away));
  })
