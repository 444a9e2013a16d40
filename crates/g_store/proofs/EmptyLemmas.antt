-- Reels without a block: which is the first that has one, and that they have no dump.
-- serves: first_used, FormatLemmas
use Rattle.std.proofs.Common.{◌≡◌, ℕ, zero, suc, ◌+◌, ◌<◌, ◌≤◌, Bool, true, false, List, [], ◌∷◌, ◌++◌, get_or, length, slice_get, take, Option, Some, None, refl, sym, ◌∙◌, ap, arith, subst}
use Rattle.std.specs.Prelude.{All, find, is_some, map, nat_lt, option_map, if◌then◌else◌}
use Rattle.std.specs.Option.{ForSome}
use Rattle.std.proofs.lemmas.Bool.{false≢true, ltb-false}
use Rattle.std.proofs.lemmas.List.{get_or-map, take_all}
use Rattle.std.proofs.lemmas.List.Elements.{All-contains, All-cons, All-head, All-map, All-more, All-nil, All-tail, Contains-append_right}
use Rattle.std.proofs.lemmas.Option.{get_or_from_slice_get, none-some}
use Rattle.g_tape.specs.Rack.{AreReels, Rack, reel}
use Rattle.g_tape.specs.Reads.{unread}
use Rattle.g_tape.specs.Reel.{IsReel, Reel}
use Rattle.g_tape.proofs.PlaceLemmas.{reel-first}
use Rattle.g_incr.specs.Layout.{Dump}
use Rattle.g_shelf.specs.CompletedDumps.{AreCompleted, AreShelved, IsNext, all_dumps}
use Rattle.g_shelf.proofs.QuietLemmas.{within}
use Rattle.g_store_model.specs.State as state
use Rattle.g_store_meaning.specs.Reading.{ReelsTold, row_of}
use Rattle.g_store.specs.Refusing.{first_used, is_used}
use Rattle.g_shelf.proofs.RackLemmas.{rises}

abbrev pub used : Reel → Bool
used r = nat_lt 0 r.len

-- THE REELS BELOW i
pub AreEmpty : ℕ → Rack → Type 0
AreEmpty i rack = All (λ r. used r ≡ false) (take i rack.reels)

pub none_empty : (rack : Rack) → AreEmpty 0 rack
unfolding AreEmpty
none_empty rack = All-nil (λ (r : Reel). used r ≡ false)

serial_at : (reels : List Reel) (i serial : ℕ) (d : Reel) → i < length reels → slice_get (map (λ (r : Reel). r.serial) reels) i ≡ Some serial → (get_or reels i d).serial ≡ serial
serial_at reels i serial d inside is =
    sym (get_or-map (λ (r : Reel). r.serial) reels i d 0 inside) ∙ get_or_from_slice_get (map (λ (r : Reel). r.serial) reels) i serial 0 is

found_at : (reels : List Reel) (i serial : ℕ) → AreReels reels → i < length reels → slice_get (map (λ (r : Reel). r.serial) reels) i ≡ Some serial → (d : Reel) → reel serial reels ≡ Some (get_or reels i d)
found_at reels i serial are inside is d =
    (reel-first serial reels i inside (λ e. serial_at reels i serial e inside is)
    (λ j e below same.
    let less = rises reels are.rising j i e d below inside in
    let here = serial_at reels i serial d inside is in
    let no : ⊥ = omega (arith, less, here, same) in no)).there d

used_at : (reels : List Reel) (i serial : ℕ) (b : Bool) → AreReels reels → i < length reels → slice_get (map (λ (r : Reel). r.serial) reels) i ≡ Some serial → is_used (reel serial reels) ≡ b
    → (d : Reel) → used (get_or reels i d) ≡ b
used_at reels i serial b are inside is here d = sym (ap is_used (found_at reels i serial are inside is d)) ∙ here

pub one_empty : (rack : Rack) (i serial : ℕ) → AreReels rack.reels → AreEmpty i rack → i < length rack.reels → slice_get (map (λ (r : Reel). r.serial) rack.reels) i ≡ Some serial
    → is_used (reel serial rack.reels) ≡ false → AreEmpty (i + 1) rack
unfolding AreEmpty
one_empty rack i serial are empty inside is here = by_reel rack.reels are empty inside is here
  where
    by_reel : (reels : List Reel) → AreReels reels → All (λ (r : Reel). used r ≡ false) (take i reels) → i < length reels → slice_get (map (λ (r : Reel). r.serial) reels) i ≡ Some serial
        → is_used (reel serial reels) ≡ false → All (λ (r : Reel). used r ≡ false) (take (i + 1) reels)
    by_reel [] are empty inside is here = let no : ⊥ = omega (arith, inside) in absurd no
    by_reel (q ∷ qs) are empty inside is here =
        All-more (λ (r : Reel). used r ≡ false) (q ∷ qs) i q inside empty (used_at (q ∷ qs) i serial false are inside is here q)

first_at : (rs : List Reel) (i : ℕ) (d : Reel) → All (λ q. used q ≡ false) (take i rs) → i < length rs → used (get_or rs i d) ≡ true → find used rs ≡ Some (get_or rs i d)
first_at [] i d empty inside here = let no : ⊥ = omega (arith, inside) in absurd no
first_at (q ∷ qs) zero d empty inside here = ap (λ (b : Bool). if b then Some q else find used qs) here
first_at (q ∷ qs) (suc i) d empty inside here =
    ap (λ (b : Bool). if b then Some q else find used qs) (empty 0 q (omega arith))
    ∙ first_at qs i d (λ j e below. empty (suc j) e (omega (arith, below))) (omega (arith, inside)) here

pub one_used : (rack : Rack) (i serial : ℕ) → AreReels rack.reels → AreEmpty i rack → i < length rack.reels → slice_get (map (λ (r : Reel). r.serial) rack.reels) i ≡ Some serial
    → is_used (reel serial rack.reels) ≡ true → Some serial ≡ first_used rack.reels
unfolding AreEmpty
one_used rack i serial are empty inside is here = by_reel rack.reels are empty inside is here
  where
    by_reel : (reels : List Reel) → AreReels reels → All (λ (r : Reel). used r ≡ false) (take i reels) → i < length reels → slice_get (map (λ (r : Reel). r.serial) reels) i ≡ Some serial
        → is_used (reel serial reels) ≡ true → Some serial ≡ first_used reels
    by_reel [] are empty inside is here = let no : ⊥ = omega (arith, inside) in absurd no
    by_reel (q ∷ qs) are empty inside is here =
        ap (λ (n : ℕ). let o : Option ℕ = Some n in o) (sym (serial_at (q ∷ qs) i serial q inside is))
        ∙ sym (ap (option_map (λ (r : Reel). r.serial)) (first_at (q ∷ qs) i q empty inside (used_at (q ∷ qs) i serial true are inside is here q)))

none_found : (rs : List Reel) → All (λ q. used q ≡ false) rs → find used rs ≡ None
none_found [] empty = refl
none_found (q ∷ qs) empty =
    ap (λ (b : Bool). if b then Some q else find used qs) (All-head (λ (r : Reel). used r ≡ false) q qs empty) ∙ none_found qs (All-tail (λ (r : Reel). used r ≡ false) q qs empty)

pub none_is_used : (rack : Rack) (i : ℕ) → length rack.reels ≤ i → AreEmpty i rack → None ≡ first_used rack.reels
unfolding AreEmpty
none_is_used rack i le empty = sym (ap (option_map (λ (r : Reel). r.serial)) (none_found rack.reels (subst (All (λ (r : Reel). used r ≡ false)) (take_all i rack.reels le) empty)))

-- IF NONE HAS ONE
pub all_unused : (reels : List Reel) → first_used reels ≡ None → All (λ r. used r ≡ false) reels
all_unused [] none = All-nil (λ (r : Reel). used r ≡ false)
all_unused (r ∷ rs) none = pick (used r) refl none (all_unused rs)
  where
    pick : (b : Bool) → used r ≡ b → option_map (λ (q : Reel). q.serial) (if b then Some r else find used rs) ≡ None → (first_used rs ≡ None → All (λ (q : Reel). used q ≡ false) rs)
        → All (λ (q : Reel). used q ≡ false) (r ∷ rs)
    pick true is none rest = absurd (none-some r.serial (sym none))
    pick false is none rest = All-cons (λ (q : Reel). used q ≡ false) r rs is (rest none)

-- the state sees the same
pub first_row : (shelf : ℕ → List Dump) (reels : List Reel) → state.first_reel (λ row. row.used) (map (row_of shelf) (map unread reels)) ≡ first_used reels
first_row shelf [] = refl
first_row shelf (r ∷ rs) = pick (used r) (first_row shelf rs)
  where
    pick : (b : Bool) → state.first_reel (λ row. row.used) (map (row_of shelf) (map unread rs)) ≡ first_used rs
        → (if b then Some r.serial else state.first_reel (λ row. row.used) (map (row_of shelf) (map unread rs))) ≡ option_map (λ (q : Reel). q.serial) (if b then Some r else find used rs)
    pick true rest = refl
    pick false rest = rest

-- a reel without a block has no dump
abbrev pub IsBlank : Reel → Type 0
IsBlank r = ForSome r.blocks (λ blocks. length blocks ≡ 0)

blank_by : (r : Reel) → IsReel r → used r ≡ false → IsBlank (unread r)
blank_by r is empty = λ blocks told. let long = is.told blocks told in let none = ltb-false 0 r.len empty in omega (arith, long, none)

pub all_blank : (reels : List Reel) → AreReels reels → first_used reels ≡ None → All IsBlank (map unread reels)
all_blank reels are none =
    let empty = all_unused reels none in
    All-map IsBlank unread reels (λ i d inside. blank_by (get_or reels i d) (are.each i d inside) (empty i d inside))

nothing_stands : (serial : ℕ) (blocks : List (List ℕ)) (at from : ℕ) → length blocks ≡ 0 → (d : Dump) → IsNext serial blocks at from d → ⊥
nothing_stands serial blocks at from none d next = let fits = within blocks d next.stands in omega (arith, fits, none)

pub blank_shelf : (reels : List Reel) → All IsBlank reels → AreShelved (λ serial. []) reels
blank_shelf reels blank = record {
  each = λ r there blocks told. record { are = nothing_stands r.serial blocks 0 0 (All-contains IsBlank reels r blank there blocks told) };
}

no_dumps : (serial : ℕ) (blocks : List (List ℕ)) (dumps : List Dump) → length blocks ≡ 0 → AreCompleted serial blocks dumps → dumps ≡ []
no_dumps serial blocks [] none are = refl
no_dumps serial blocks (d ∷ ds) none are = absurd (nothing_stands serial blocks 0 0 none d are.are.0)

none_on : (r : Reel) (dumps : List Dump) → IsBlank r → is_some r.blocks ≡ true → ForSome r.blocks (λ blocks. AreCompleted r.serial blocks dumps) → dumps ≡ []
none_on r dumps blank told are = by_blocks r.blocks told blank are
  where
    by_blocks : (o : Option (List (List ℕ))) → is_some o ≡ true → ForSome o (λ blocks. length blocks ≡ 0) → ForSome o (λ blocks. AreCompleted r.serial blocks dumps) → dumps ≡ []
    by_blocks None told blank are = absurd (false≢true told)
    by_blocks (Some blocks) told blank are = no_dumps r.serial blocks dumps (blank blocks refl) (are blocks refl)

pub no_dump_at_all : (shelf : ℕ → List Dump) (reels : List Reel) → All IsBlank reels → ReelsTold reels → AreShelved shelf reels → all_dumps shelf reels ≡ []
no_dump_at_all shelf [] blank told shelved = refl
no_dump_at_all shelf (r ∷ rs) blank told shelved =
    let here : shelf r.serial ≡ [] =
    none_on r (shelf r.serial) (All-head IsBlank r rs blank) (All-head (λ (q : Reel). is_some q.blocks ≡ true) r rs told.each) (shelved.each r (0, omega arith, refl)) in
    let rest : all_dumps shelf rs ≡ [] =
    no_dump_at_all shelf rs (All-tail IsBlank r rs blank) (record { each = All-tail (λ (q : Reel). is_some q.blocks ≡ true) r rs told.each })
    (record { each = λ q there. shelved.each q (Contains-append_right (r ∷ []) rs q there) }) in
    λ i. here i ++ rest i
