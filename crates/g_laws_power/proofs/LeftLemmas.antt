-- Reels after a power loss have the dumps that survive it, and belong to the same states.
-- serves: DeviceLemmas, EventLemmas, ProcessLossLemmas, ProcessStateLemmas, RefusalLemmas, StepLemmas, StepStateLemmas, SurvivalLemmas
use Rattle.std.proofs.Common.{◌≡◌, ℕ, zero, suc, true, false, List, [], ◌∷◌, map, Option, Some, None, is_some, refl, sym, ◌∙◌, ap, arith, subst}
use Rattle.std.specs.Prelude.{◌==◌, All, Contains, IfSome}
use Rattle.std.specs.List.{AllZip}
use Rattle.std.specs.Option.{ForSome}
use Rattle.std.proofs.lemmas.Bool.{eq-eqb}
use Rattle.std.proofs.lemmas.List.Elements.{All-contains, All-weaker}
use Rattle.g_base.proofs.KeyLemmas.{find-some}
use Rattle.g_tape.specs.Durable.{AfterPowerLoss}
use Rattle.g_tape.specs.Rack.{Rack, reel}
use Rattle.g_tape.specs.Reads.{blocks_in, unread}
use Rattle.g_tape.specs.Reel.{Reel}
use Rattle.g_tape.proofs.PlaceLemmas.{reel-found}
use Rattle.g_disc_contents.specs.Contents.{Contents, File, Holds}
use Rattle.g_incr.specs.Layout.{Dump}
use Rattle.g_shelf.specs.CompletedDumps.{AreCompleted, AreShelved}
use Rattle.g_shelf.specs.Surviving.{DumpsSurvive}
use Rattle.g_store_model.specs.State.{State}
use Rattle.g_store_meaning.specs.Belonging.{BelongWith}
use Rattle.g_store_meaning.specs.Meaning.{told_reels}
use Rattle.g_store_meaning.specs.Reading.{AllTold, DevicesStandFor, HasText, IsRackView, IsView, ReelsTold, View, row_of, state_down}
use Rattle.g_laws_store.proofs.DumpingLemmas.{moved_disc, moved_dumps, moved_rack}
use Rattle.g_laws_store.proofs.WaitingLemmas.{mapped_there}
use Rattle.g_store_meaning.specs.Safety.{IsLike, IsRackLeft, IsReelLeft, IsRowLike, StandLike}

-- A REEL AMONG OTHERS is found by its serial, if all of them expose their blocks
found_told : (rs : List Reel) (r : Reel) → Contains rs r → All (λ x. is_some x.blocks ≡ true) (map unread rs) → (blocks : List (List ℕ)) × (blocks_in (reel r.serial rs) ≡ Some blocks)
found_told rs r there told = by (reel r.serial rs) refl (find-some (λ (x : Reel). r.serial == x.serial) rs r there (eq-eqb r.serial r.serial refl))
  where
    some_in : (o : Option (List (List ℕ))) → is_some o ≡ true → (blocks : List (List ℕ)) × (o ≡ Some blocks)
    some_in None is = absurd (let no : ⊥ = cc in no)
    some_in (Some blocks) is = (blocks, refl)

    by : (o : Option Reel) → reel r.serial rs ≡ o → is_some o ≡ true → (blocks : List (List ℕ)) × (blocks_in (reel r.serial rs) ≡ Some blocks)
    by None at some = absurd (let no : ⊥ = cc in no)
    by (Some x) at some =
        let among = mapped_there unread rs x (reel-found r.serial rs x at).0 in
        let (blocks, is) = some_in x.blocks (All-contains (λ (y : Reel). is_some y.blocks ≡ true) (map unread rs) (unread x) told among) in
        (blocks, ap blocks_in at ∙ is)

-- it is one of the exposed reels
there_told : (rs : List Reel) (n : ℕ) (blocks : List (List ℕ)) → blocks_in (reel n rs) ≡ Some blocks → (r : Reel) × Contains (map unread rs) r × (r.serial ≡ n) × (r.blocks ≡ Some blocks)
there_told rs n blocks is = by (reel n rs) refl is
  where
    by : (o : Option Reel) → reel n rs ≡ o → blocks_in o ≡ Some blocks → (r : Reel) × Contains (map unread rs) r × (r.serial ≡ n) × (r.blocks ≡ Some blocks)
    by None at is = absurd (let no : ⊥ = cc in no)
    by (Some x) at is = let (there, named) = reel-found n rs x at in (unread x, mapped_there unread rs x there, named, is)

-- THE REELS ARE THE SAME ONES, and exposed
pub serials_in : (old : Rack) (xs ys : List Reel) → AllZip (IsReelLeft old) xs ys → map (λ (r : Reel). r.serial) (map unread ys) ≡ map (λ (r : Reel). r.serial) (map unread xs)
serials_in old [] [] zip = refl
serials_in old [] (y ∷ ys) zip = absurd zip
serials_in old (x ∷ xs) [] zip = absurd zip
serials_in old (x ∷ xs) (y ∷ ys) (one, zip) =
    ap (λ (n : ℕ). n ∷ map (λ (r : Reel). r.serial) (map unread ys)) one.serial ∙ ap (λ (ns : List ℕ). x.serial ∷ ns) (serials_in old xs ys zip)

pub told_in : (old : Rack) (xs ys : List Reel) → AllZip (IsReelLeft old) xs ys → All (λ r. is_some r.blocks ≡ true) (map unread ys)
told_in old xs [] zip = λ k d inside. absurd (let no : ⊥ = omega (arith, inside) in no)
told_in old [] (y ∷ ys) zip = absurd zip
told_in old (x ∷ xs) (y ∷ ys) (one, zip) = by (told_in old xs ys zip)
  where
    by : All (λ r. is_some r.blocks ≡ true) (map unread ys) → All (λ r. is_some r.blocks ≡ true) (map unread (y ∷ ys))
    by rest zero d inside = one.told
    by rest (suc k) d inside = rest k d (omega (arith, inside))

-- their rows in a state
abbrev pub IsSeen : Reel → Reel → Type 0
IsSeen x y = (y.serial ≡ x.serial) × (y.capacity ≡ x.capacity) × (y.mounted ≡ false)

pub seen_left : (old : Rack) (xs ys : List Reel) → AllZip (IsReelLeft old) xs ys → AllZip IsSeen xs ys
seen_left old [] [] zip = tt
seen_left old [] (y ∷ ys) zip = absurd zip
seen_left old (x ∷ xs) [] zip = absurd zip
seen_left old (x ∷ xs) (y ∷ ys) (one, zip) = ((one.serial, one.capacity, one.mounted), seen_left old xs ys zip)

abbrev pub Same : Reel → Reel → Type 0
Same o n = (n.serial ≡ o.serial) × (n.capacity ≡ o.capacity) × (n.mounted ≡ o.mounted)

-- the same reels, by way of another rack
pub same_seen : (xs ys zs : List Reel) → AllZip Same xs ys → AllZip IsSeen ys zs → AllZip IsSeen xs zs
same_seen [] [] [] one other = tt
same_seen [] [] (z ∷ zs) one other = absurd other
same_seen [] (y ∷ ys) zs one other = absurd one
same_seen (x ∷ xs) [] zs one other = absurd one
same_seen (x ∷ xs) (y ∷ ys) [] one other = absurd other
same_seen (x ∷ xs) (y ∷ ys) (z ∷ zs) (a, one) (b, other) = ((b.0 ∙ a.0, b.1 ∙ a.1, b.2), same_seen xs ys zs one other)

pub rows_like : (shelf : ℕ → List Dump) (xs ys : List Reel) → AllZip IsSeen xs ys → AllZip IsRowLike (map (row_of shelf) (map unread xs)) (map (row_of shelf) (map unread ys))
rows_like shelf [] [] zip = tt
rows_like shelf [] (y ∷ ys) zip = absurd zip
rows_like shelf (x ∷ xs) [] zip = absurd zip
rows_like shelf (x ∷ xs) (y ∷ ys) (one, zip) = (
  record { serial = one.0; capacity = one.1; mounted = one.2; dumps = ap (λ (n : ℕ). (row_of shelf (record (unread x) { serial = n })).dumps) one.0 },
  rows_like shelf xs ys zip,
)

-- WHAT IS LEFT OF EACH REEL has what every loss leaves
module _ (old : Rack) (P : ℕ → List (List ℕ) → Type 0) (told : ReelsTold (told_reels old)) (every : (n : ℕ) → AfterPowerLoss n old (P n)) where
  pub left_each : (xs ys : List Reel) → AllZip (IsReelLeft old) xs ys → ((x : Reel) → Contains xs x → Contains old.reels x) → (r : Reel) → Contains (map unread ys) r → ForSome r.blocks (P r.serial)
  left_each xs [] zip among r (i, inside, at) = absurd (let no : ⊥ = omega (arith, inside) in no)
  left_each [] (y ∷ ys) zip among r there = absurd zip
  left_each (x ∷ xs) (y ∷ ys) (one, zip) among r (zero, inside, at) = subst (λ (q : Reel). ForSome q.blocks (P q.serial)) at here
    where
      here : ForSome y.blocks (P y.serial)
      here blocks is =
          let (had, found) = found_told old.reels x (among x (0, omega arith, refl)) told.each in
          subst (λ (n : ℕ). P n blocks) (sym one.serial) (every x.serial had found blocks (one.blocks blocks is had found))
  left_each (x ∷ xs) (y ∷ ys) (one, zip) among r (suc i, inside, at) =
      left_each xs ys zip (λ z there. among z (later z there)) r (i, omega (arith, inside), at)
    where
      later : (z : Reel) → Contains xs z → Contains (x ∷ xs) z
      later z (j, within, is) = (suc j, omega (arith, within), is)

module _ (old new : Rack) (left : IsRackLeft old new) (told : ReelsTold (told_reels old)) (survive : (n : ℕ) → DumpsSurvive n old) where
  pub shelved_left : (shelf : ℕ → List Dump) → AreShelved shelf (told_reels old) → AreShelved shelf (told_reels new)
  shelved_left shelf shelved = record { each = left_each old (λ n blocks. AreCompleted n blocks (shelf n)) told has old.reels new.reels left.reels (λ r there. there) }
    where
      has : (n : ℕ) → AfterPowerLoss n old (λ blocks. AreCompleted n blocks (shelf n))
      has n had found =
          let (r, on, named, at) = there_told old.reels n had found in
          survive n had found (shelf n) (subst (λ (m : ℕ). AreCompleted m had (shelf m)) named (shelved.each r on had at)) had found

  -- the same serials
  serials_left : map (λ (r : Reel). r.serial) (told_reels new) ≡ map (λ (r : Reel). r.serial) (told_reels old)
  serials_left = serials_in old old.reels new.reels left.reels

  pub told_left : ReelsTold (told_reels new)
  told_left = record { each = told_in old old.reels new.reels left.reels }

  -- DISC AND RACK BELONG TOGETHER as before
  pub belong_left : (held : Option (List (List ℕ))) → BelongWith held (told_reels old) → BelongWith held (told_reels new)
  belong_left held is = record {
    text = is.text;
    shelf = is.shelf;
    shelved = shelved_left is.shelf is.shelved;
    rack = moved_rack (told_reels old) (told_reels new) serials_left is.text is.shelf is.rack;
    disc = λ blocks c at holds. moved_disc (told_reels old) (told_reels new) serials_left is.text is.shelf c (is.disc blocks c at holds);
  }

  -- and represent a state like the one before
  rack_left : (held : Option (List (List ℕ))) (v : View) → is_some held ≡ true → IsRackView held (told_reels old) v → IsRackView held (told_reels new) v
  rack_left held v exposed is = record {
    shelved = shelved_left v.shelf is.shelved;
    all = is.all ∙ moved_dumps (told_reels old) (told_reels new) serials_left v.shelf;
    dumped = λ told_now. is.dumped (record { disc = exposed; each = told });
    none = λ told_now empty. is.none (record { disc = exposed; each = told }) empty;
  }

  view_left : (held : Option (List (List ℕ))) (c : Contents) (v : View) → is_some held ≡ true → IsView held (told_reels old) c v → IsView held (told_reels new) c v
  view_left held c v exposed is = record {
    rack = rack_left held v exposed is.rack;
    files = All-weaker (λ (f : File). HasText (AllTold held (told_reels old)) (v.text f.rec.stamp) v.dumps f) (λ (f : File). HasText (AllTold held (told_reels new)) (v.text f.rec.stamp) v.dumps f)
        (λ f has. record { len = has.len; bytes = has.bytes; tape = λ told_now. has.tape (record { disc = exposed; each = told }) }) c.files is.files;
  }

  contents_left : (held : Option (List (List ℕ))) (v : View) → is_some held ≡ true → (contents : Option Contents)
      → IfSome contents (λ c. (blocks : List (List ℕ)) × (held ≡ Some blocks) × Holds blocks c × IsView held (told_reels old) c v)
      → IfSome contents (λ c. (blocks : List (List ℕ)) × (held ≡ Some blocks) × Holds blocks c × IsView held (told_reels new) c v)
  contents_left held v exposed None is = tt
  contents_left held v exposed (Some c) (blocks, at, holds, view) = (blocks, at, holds, view_left held c v exposed view)

  pub stand_left : (size : ℕ) (blocks : List (List ℕ)) (u : State) → DevicesStandFor size (Some blocks) (told_reels old) u → StandLike size blocks new u
  stand_left size blocks u is = record {
    state = state_down is.view (told_reels new) size is.contents;
    stands = record {
      view = is.view;
      contents = is.contents;
      is = contents_left (Some blocks) is.view refl is.contents is.is;
      none = is.none;
      rack = rack_left (Some blocks) is.view refl is.rack;
      state_is = refl;
    };
    like = subst (λ (s : State). IsLike s (state_down is.view (told_reels new) size is.contents)) (sym is.state_is) (record { same = refl; reels = rows_like is.view.shelf old.reels new.reels (seen_left old old.reels new.reels left.reels) });
  }
