-- What a power loss leaves after a stopped PROCESS can be safe again.
-- serves: DeviceLemmas, EventLemmas, ProcessStateLemmas
use Rattle.std.proofs.Common.{◌≡◌, ◌≢◌, ℕ, zero, suc, ◌+◌, ◌<◌, ◌==◌, Bool, true, false, List, [], ◌∷◌, ◌++◌, map, Option, Some, None, Err, is_some, refl, sym, ◌∙◌, ap, arith, subst, inl, inr, if◌then◌else◌}
use Rattle.std.specs.Prelude.{◌⊎◌, ◌||◌, All, Contains, Result}
use Rattle.std.specs.List.{AllZip}
use Rattle.std.specs.List.Sorted.{IsStrictlyIncreasing}
use Rattle.std.specs.Option.{ForSome}
use Rattle.std.proofs.lemmas.Bool.Decides.{eqb_tells}
use Rattle.std.proofs.lemmas.List.Elements.{All-contains}
use Rattle.std.proofs.lemmas.Option.{same_Some}
use Rattle.g_tape.specs.Rack.{Rack}
use Rattle.g_tape.specs.Reads.{unread}
use Rattle.g_tape.specs.Reel.{Reel}
use Rattle.g_tape.proofs.PlaceLemmas.{reel-found}
use Rattle.g_plain.proofs.Found.{some_of}
use Rattle.g_plain.specs.declared.faults.StoreFault.{StoreFault}
use Rattle.g_plain.specs.declared.faults.StoreFault.TheVariants.{Stopped}
use Rattle.g_dirs.specs.Durable.{IsDiscSafe}
use Rattle.g_disc_contents.specs.Contents.{Contents, Holds, has}
use Rattle.g_disc_contents.specs.Facts.{OnlineFacts}
use Rattle.g_disc_contents.proofs.HoldLemmas.{holds_one}
use Rattle.g_incr.specs.Layout.{Dump}
use Rattle.g_shelf.specs.CompletedDumps.{AreCompleted, AreShelved, all_dumps}
use Rattle.g_shelf.specs.Surviving.{DumpsSurvive}
use Rattle.g_shelf.proofs.OneLemmas.{completed_are_one}
use Rattle.g_laws_store.proofs.DumpingLemmas.{moved_disc, moved_rack}
use Rattle.g_store_meaning.specs.Belonging.{BelongWith, DiscBelongs, RackBelongs}
use Rattle.g_store_meaning.specs.Meaning.{told_reels}
use Rattle.g_store_meaning.specs.Reading.{AllTold, ReelsTold}
use Rattle.g_store_meaning.specs.Safety.{AreSafe, CanBeSafe, IsLeft, IsRackLeft, IsSafe}
use Rattle.g_store_meaning.specs.StoreInvariant.{IsUp, StoreFacts, with_dump}
use Rattle.g_store_meaning.specs.Surviving.{PowerLossLeavesDumps, PowerLossLeavesEither, disc_left}
use Rattle.g_dumper.specs.Invariant.{up_with}
use Rattle.g_dumper.proofs.SafeLemmas.{shelved_at}
use Rattle.g_process.specs.Exits.{IsBesideDump, IsClearedBy, IsContentOf, MayFill, Stops, StopsBefore, StopsCopies, StopsIntent, StopsMark, StopsRelease, StopsUnmarked, cleared, new_dump}
use Rattle.g_process.specs.NamedCopies.{intended_by, moved_by}
use Rattle.g_process.specs.PowerLosses.{LeavesOnDisc, StaysDurable}
use Rattle.g_process.specs.Processing.{Processes}
use Rattle.g_process.proofs.BecomeLemmas.{apart_of}
use Rattle.g_process.proofs.BelongLemmas.{disc_intended, disc_marked, ready, up_released, without_all}
use Rattle.g_process.proofs.ExitLemmas.{cleared_same, shelved_same}
use Rattle.g_process.proofs.LossLemmas.{cleared_beside, live_leaves}
use Rattle.g_process.proofs.ReleaseLemmas.{AreApart}
use Rattle.g_laws_power.proofs.LeftLemmas.{left_each, serials_in, told_in}
use Rattle.g_laws_power.proofs.SurvivalLemmas.{left_is_durable}

-- A SHELF OF DUMPS that survive a power loss
survive_of : (shelf : ℕ → List Dump) (rack : Rack) → AreShelved shelf (told_reels rack) → ((n : ℕ) → PowerLossLeavesDumps n rack (shelf n)) → (n : ℕ) → DumpsSurvive n rack
survive_of shelf rack shelved leaves n blocks at ds completed =
    subst (λ (es : List Dump). PowerLossLeavesDumps n rack es) (completed_are_one n blocks (shelf n) ds (shelved_at n rack shelf blocks shelved at) completed) (leaves n)

-- A REEL WITH A BLOCK isn't blank
not_blank : (serial : ℕ) (R : Reel → Reel → Type 0) → ((r q : Reel) → R r q → r.serial ≡ serial → 0 < q.len) → (xs ys : List Reel) → AllZip R xs ys → (on : Reel) → Contains xs on → on.serial ≡ serial
    → All (λ (q : Reel). q.len ≡ 0) ys → ⊥
not_blank serial R some [] ys zip on (i, inside, at) named blank = let no : ⊥ = omega (arith, inside) in no
not_blank serial R some (x ∷ xs) [] zip on there named blank = absurd zip
not_blank serial R some (x ∷ xs) (y ∷ ys) (one, zip) on (zero, inside, at) named blank =
    let more = some x y one (ap (λ (r : Reel). r.serial) at ∙ named) in
    let none : y.len ≡ 0 = blank 0 y (omega arith) in
    let no : ⊥ = omega (arith, more, none) in no
not_blank serial R some (x ∷ xs) (y ∷ ys) (one, zip) on (suc i, inside, at) named blank =
    not_blank serial R some xs ys zip on (i, omega (arith, inside), at) named (λ k d within. blank (suc k) d (omega (arith, within)))

beside_some : (serial : ℕ) (r q : Reel) → IsBesideDump serial r q → r.serial ≡ serial → 0 < q.len
beside_some serial r q (inl (named, some)) same = some
beside_some serial r q (inr (apart, kept)) same = absurd (apart same)

cleared_some : (serial until : ℕ) (cut : Option ℕ) (old : Rack) (r q : Reel) → IsClearedBy serial until cut old r q → r.serial ≡ serial → 0 < q.len
cleared_some serial until cut old r q (inl (named, some)) same = some
cleared_some serial until cut old r q (inr (apart, kept)) same = absurd (apart same)

-- REELS OF WHICH EACH HAS THE DUMPS of one shelf or of another: if the two differ in one reel only, all have those of the one or of the other
abbrev Has : (ℕ → List Dump) → Reel → Type 0
Has shelf r = ForSome r.blocks (λ blocks. AreCompleted r.serial blocks (shelf r.serial))

abbrev HasEither : (ℕ → List Dump) → (ℕ → List Dump) → Reel → Type 0
HasEither one other r = ForSome r.blocks (λ blocks. AreCompleted r.serial blocks (one r.serial) ⊎ AreCompleted r.serial blocks (other r.serial))

abbrev Each : (Reel → Type 0) → List Reel → Type 0
Each P rs = (r : Reel) → Contains rs r → P r

each_first : (P : Reel → Type 0) (r : Reel) (rs : List Reel) → Each P (r ∷ rs) → P r
each_first P r rs all = all r (0, omega arith, refl)

each_later : (P : Reel → Type 0) (r : Reel) (rs : List Reel) → Each P (r ∷ rs) → Each P rs
each_later P r rs all q (i, inside, at) = all q (suc i, omega (arith, inside), at)

each_both : (P : Reel → Type 0) (r : Reel) (rs : List Reel) → P r → Each P rs → Each P (r ∷ rs)
each_both P r rs here all q (zero, inside, at) = subst P at here
each_both P r rs here all q (suc i, inside, at) = all q (i, omega (arith, inside), at)

module _ (special : ℕ) (one other : ℕ → List Dump) (beside : (n : ℕ) → n ≢ special → one n ≡ other n) where
  -- a reel in which they don't differ
  same_here : (r : Reel) → r.serial ≢ special → HasEither one other r → Has one r × Has other r
  same_here r apart either = (
    λ blocks at. by_one blocks (either blocks at),
    λ blocks at. subst (λ (ds : List Dump). AreCompleted r.serial blocks ds) (beside r.serial apart) (by_one blocks (either blocks at)),
  )
    where
      by_one : (blocks : List (List ℕ)) → AreCompleted r.serial blocks (one r.serial) ⊎ AreCompleted r.serial blocks (other r.serial) → AreCompleted r.serial blocks (one r.serial)
      by_one blocks (inl is) = is
      by_one blocks (inr is) = subst (λ (ds : List Dump). AreCompleted r.serial blocks ds) (sym (beside r.serial apart)) is

  all_here : (rs : List Reel) → ((r : Reel) → Contains rs r → r.serial ≢ special) → Each (HasEither one other) rs → Each (Has one) rs × Each (Has other) rs
  all_here rs apart each = (λ r there. (same_here r (apart r there) (each r there)).0, λ r there. (same_here r (apart r there) (each r there)).1)

  which : (rs : List Reel) → AreApart rs → Each (λ r. is_some r.blocks ≡ true) rs → Each (HasEither one other) rs → Each (Has one) rs ⊎ Each (Has other) rs
  which [] apart told each = inl (λ r there. let (i, inside, at) = there in absurd (let no : ⊥ = omega (arith, inside) in no))
  which (r ∷ rs) (here, apart) told each =
      by_serial (eqb_tells r.serial special) (which rs apart (each_later (λ q. is_some q.blocks ≡ true) r rs told) (each_later (HasEither one other) r rs each))
    where
      by_blocks : (Each (Has one) rs × Each (Has other) rs) → (blocks : List (List ℕ)) → r.blocks ≡ Some blocks → AreCompleted r.serial blocks (one r.serial) ⊎ AreCompleted r.serial blocks (other r.serial)
          → Each (Has one) (r ∷ rs) ⊎ Each (Has other) (r ∷ rs)
      by_blocks rest blocks at (inl is) = inl (each_both (Has one) r rs (λ x at_x. subst (λ (bs : List (List ℕ)). AreCompleted r.serial bs (one r.serial)) (same_Some blocks x (sym at ∙ at_x)) is) rest.0)
      by_blocks rest blocks at (inr is) = inr (each_both (Has other) r rs (λ x at_x. subst (λ (bs : List (List ℕ)). AreCompleted r.serial bs (other r.serial)) (same_Some blocks x (sym at ∙ at_x)) is) rest.1)

      by_rest : r.serial ≢ special → Each (Has one) rs ⊎ Each (Has other) rs → Each (Has one) (r ∷ rs) ⊎ Each (Has other) (r ∷ rs)
      by_rest apart_r (inl all) = inl (each_both (Has one) r rs (same_here r apart_r (each_first (HasEither one other) r rs each)).0 all)
      by_rest apart_r (inr all) = inr (each_both (Has other) r rs (same_here r apart_r (each_first (HasEither one other) r rs each)).1 all)

      by_serial : (((r.serial == special) ≡ true) × (r.serial ≡ special)) ⊎ (((r.serial == special) ≡ false) × (r.serial ≡ special → ⊥)) → Each (Has one) rs ⊎ Each (Has other) rs
          → Each (Has one) (r ∷ rs) ⊎ Each (Has other) (r ∷ rs)
      by_serial (inl h) rest =
          let (blocks, at) = some_of r.blocks (each_first (λ q. is_some q.blocks ≡ true) r rs told) in
          by_blocks (all_here rs (λ q there e. here q there (e ∙ sym h.1)) (each_later (HasEither one other) r rs each)) blocks at (each_first (HasEither one other) r rs each blocks at)
      by_serial (inr h) rest = by_rest h.1 rest

-- WHAT IS LEFT OF A RACK
abbrev names : List Reel → List ℕ
names reels = map (λ (r : Reel). r.serial) reels

unread_names : (rs : List Reel) → names (map unread rs) ≡ names rs
unread_names [] = refl
unread_names (r ∷ rs) = ap (λ (ns : List ℕ). r.serial ∷ ns) (unread_names rs)

module _ (rack after : Rack) (left : IsRackLeft rack after) (told : ReelsTold (told_reels rack)) where
  names_left : names (told_reels after) ≡ names (told_reels rack)
  names_left = serials_in rack rack.reels after.reels left.reels

  told_after : ReelsTold (told_reels after)
  told_after = record { each = told_in rack rack.reels after.reels left.reels }

  shelved_as : (shelf : ℕ → List Dump) → ((n : ℕ) → PowerLossLeavesDumps n rack (shelf n)) → AreShelved shelf (told_reels after)
  shelved_as shelf leaves = record { each = left_each rack (λ n blocks. AreCompleted n blocks (shelf n)) told leaves rack.reels after.reels left.reels (λ r there. there) }

  shelved_either : IsStrictlyIncreasing (names rack.reels) → (special : ℕ) (one other : ℕ → List Dump) → ((n : ℕ) → n ≢ special → one n ≡ other n)
      → ((n : ℕ) → PowerLossLeavesEither n rack (one n) (other n)) → AreShelved one (told_reels after) ⊎ AreShelved other (told_reels after)
  shelved_either rising special one other beside leaves =
      by (which special one other beside (told_reels after) (apart_of (told_reels after) (subst IsStrictlyIncreasing (sym (names_left ∙ unread_names rack.reels)) rising))
      (λ r there. All-contains (λ (q : Reel). is_some q.blocks ≡ true) (told_reels after) r told_after.each there)
      (left_each rack (λ n blocks. AreCompleted n blocks (one n) ⊎ AreCompleted n blocks (other n)) told leaves rack.reels after.reels left.reels (λ r there. there)))
    where
      by : Each (Has one) (told_reels after) ⊎ Each (Has other) (told_reels after) → AreShelved one (told_reels after) ⊎ AreShelved other (told_reels after)
      by (inl all) = inl (record { each = all })
      by (inr all) = inr (record { each = all })

-- ALL SERIALS BELOW a limit but one
abbrev below_but : ℕ → ℕ → List ℕ
below_but serial zero = []
below_but serial (suc m) = if m == serial then below_but serial m else (m ∷ below_but serial m)

has_below : (serial m n : ℕ) → has (below_but serial m) n ≡ true → (n < m) × (n ≢ serial)
has_below serial zero n is = absurd (let no : ⊥ = cc in no)
has_below serial (suc m) n is = by (eqb_tells m serial) (has_below serial m n)
  where
    by_first : m ≢ serial → (((m == n) ≡ true) × (m ≡ n)) ⊎ (((m == n) ≡ false) × (m ≡ n → ⊥)) → has (m ∷ below_but serial m) n ≡ true
        → (has (below_but serial m) n ≡ true → (n < m) × (n ≢ serial)) → (n < suc m) × (n ≢ serial)
    by_first apart (inl h) is_in rest = let e = h.1 in (omega (arith, e), λ same. apart (e ∙ same))
    by_first apart (inr h) is_in rest =
        let (less, other) = rest (sym (ap (λ (b : Bool). b || has (below_but serial m) n) h.0) ∙ is_in) in
        (omega (arith, less), other)

    by : (((m == serial) ≡ true) × (m ≡ serial)) ⊎ (((m == serial) ≡ false) × (m ≡ serial → ⊥)) → (has (below_but serial m) n ≡ true → (n < m) × (n ≢ serial)) → (n < suc m) × (n ≢ serial)
    by (inl h) rest =
        let (less, other) = rest (sym (ap (λ (b : Bool). has (if b then below_but serial m else (m ∷ below_but serial m)) n) h.0) ∙ is) in
        (omega (arith, less), other)
    by (inr h) rest = by_first h.1 (eqb_tells m n) (sym (ap (λ (b : Bool). has (if b then below_but serial m else (m ∷ below_but serial m)) n) h.0) ∙ is) rest

below_has : (serial m n : ℕ) → n < m → n ≢ serial → has (below_but serial m) n ≡ true
below_has serial zero n less apart = absurd (let no : ⊥ = omega (arith, less) in no)
below_has serial (suc m) n less apart = by (eqb_tells m serial) (eqb_tells m n) (below_has serial m n)
  where
    by : (((m == serial) ≡ true) × (m ≡ serial)) ⊎ (((m == serial) ≡ false) × (m ≡ serial → ⊥)) → (((m == n) ≡ true) × (m ≡ n)) ⊎ (((m == n) ≡ false) × (m ≡ n → ⊥))
        → (n < m → n ≢ serial → has (below_but serial m) n ≡ true) → has (below_but serial (suc m)) n ≡ true
    by (inl h) (inl e) rest = absurd (apart (sym e.1 ∙ h.1))
    by (inl h) (inr e) rest =
        ap (λ (b : Bool). has (if b then below_but serial m else (m ∷ below_but serial m)) n) h.0 ∙ rest (let isnt = e.1 in omega (arith, less, isnt)) apart
    by (inr h) (inl e) rest =
        ap (λ (b : Bool). has (if b then below_but serial m else (m ∷ below_but serial m)) n) h.0 ∙ ap (λ (b : Bool). b || has (below_but serial m) n) e.0
    by (inr h) (inr e) rest =
        ap (λ (b : Bool). has (if b then below_but serial m else (m ∷ below_but serial m)) n) h.0
        ∙ ap (λ (b : Bool). b || has (below_but serial m) n) e.0 ∙ rest (let isnt = e.1 in omega (arith, less, isnt)) apart

-- a shelf from which they were cleared
cleared_is : (serial m : ℕ) (shelf : ℕ → List Dump) (n : ℕ) → cleared serial m shelf n ≡ without_all (below_but serial m) shelf n
cleared_is serial m shelf n =
    sym (cleared_same (below_but serial m) serial m shelf n (has_below serial m n)
    (λ less apart isnt. let is = below_has serial m n less apart in absurd (let no : ⊥ = cc in no)))

-- WHAT IS LEFT after a stopped PROCESS: the dumps as they were with the old contents or the intent, the new dump too, or the new copies with
-- some reels released
pub data LeftBy (text : ℕ → List ℕ) (shelf : ℕ → List Dump) (serial : ℕ) (old : StoreFacts) (blocks : List (List ℕ)) (after : Rack) : Type 0 where
  LeftOld : AreShelved shelf (told_reels after) → Holds blocks old.online.contents → LeftBy text shelf serial old blocks after
  LeftIntended : AreShelved shelf (told_reels after) → Holds blocks (intended_by serial old.online) → LeftBy text shelf serial old blocks after
  LeftMarked : (content : List (List ℕ)) → IsContentOf text serial old.online content → AreShelved (with_dump (new_dump serial old.online content) shelf) (told_reels after)
      → Holds blocks (intended_by serial old.online) → LeftBy text shelf serial old blocks after
  LeftMoved : (content : List (List ℕ)) → IsContentOf text serial old.online content → (m : ℕ) → AreShelved (cleared serial m (with_dump (new_dump serial old.online content) shelf)) (told_reels after)
      → Holds blocks (moved_by serial old.online) → LeftBy text shelf serial old blocks after

-- A STOPPED PROCESS
module _ (serial : ℕ) (old new : StoreFacts) (safe : IsSafe old) (it : (let r : Result ℕ StoreFault = Err Stopped in Processes serial old r new)) (text : ℕ → List ℕ) (shelf : ℕ → List Dump)
    (shelved : AreShelved shelf (told_reels old.rack)) (up : IsUp text shelf old) where
  abbrev o : OnlineFacts
  o = old.online

  quiet : IsUp text shelf (up_with o old.rack None)
  quiet = record { rack = up.rack; disc = up.disc; quiet = up.quiet; directories = up.directories; open_dump = tt }

  told_new : AllTold new.online.disc.held (told_reels new.rack)
  told_new = it.told safe.told

  told_same : is_some new.online.disc.held ≡ is_some o.disc.held
  told_same = told_new.disc ∙ sym safe.told.disc

  -- the disc
  stays_on_disc : (c : Contents) → new.online.live ≡ true → new.online.contents ≡ c → StaysDurable old new → LeavesOnDisc (λ blocks. Holds blocks c) old new
  stays_on_disc c live are durable = live_leaves c old new it.keeps.tied live are told_same durable

  safe_on : (P : List (List ℕ) → Type 0) → LeavesOnDisc P old new → IsDiscSafe new.online.disc
  safe_on P disc = (disc.survives safe.disc).0

  disc_safe : Stops text shelf serial old new → IsDiscSafe new.online.disc
  disc_safe (StopsIntent may either same loss) = safe_on (λ blocks. Holds blocks o.contents ⊎ Holds blocks (intended_by serial o)) either
  disc_safe (StopsBefore is durable loss) = safe_on (λ blocks. Holds blocks (intended_by serial o)) (stays_on_disc (intended_by serial o) is.live is.contents durable)
  disc_safe (StopsUnmarked is beside durable content its loss) = safe_on (λ blocks. Holds blocks (intended_by serial o)) (stays_on_disc (intended_by serial o) is.live is.contents durable)
  disc_safe (StopsMark is live contents durable loss) = safe_on (λ blocks. Holds blocks (intended_by serial o)) (stays_on_disc (intended_by serial o) live contents durable)
  disc_safe (StopsCopies is either loss) = safe_on (λ blocks. Holds blocks (intended_by serial o) ⊎ Holds blocks (moved_by serial o)) either
  disc_safe (StopsRelease is durable last interrupted loss) = safe_on (λ blocks. Holds blocks (moved_by serial o)) (stays_on_disc (moved_by serial o) is.live is.contents durable)

  -- a rack without blocks
  on_there : (may : MayFill serial old) → Contains old.rack.reels may.on × (may.on.serial ≡ serial)
  on_there may = reel-found serial old.rack.reels may.on may.reel_is

  blank : Stops text shelf serial old new → All (λ (r : Reel). r.len ≡ 0) new.rack.reels → (n : ℕ) → DumpsSurvive n new.rack
  blank (StopsIntent may either same loss) all = survive_of shelf new.rack (subst (AreShelved shelf) (sym same) shelved) (loss safe.dumps)
  blank (StopsBefore is durable loss) all = survive_of shelf new.rack is.shelved (loss safe.dumps)
  blank (StopsUnmarked is beside durable content its loss) all =
      absurd (not_blank serial (IsBesideDump serial) (beside_some serial) old.rack.reels new.rack.reels beside is.may.on (on_there is.may).0 (on_there is.may).1 all)
  blank (StopsMark is live contents durable loss) all =
      absurd (not_blank serial (IsBesideDump serial) (beside_some serial) old.rack.reels new.rack.reels is.reels is.may.on (on_there is.may).0 (on_there is.may).1 all)
  blank (StopsCopies is either loss) all = survive_of (with_dump (new_dump serial o is.content) shelf) new.rack is.shelved (loss safe.dumps)
  blank (StopsRelease is durable last interrupted loss) all =
      absurd (not_blank serial (IsClearedBy serial is.until is.cut old.rack) (cleared_some serial is.until is.cut old.rack) old.rack.reels new.rack.reels is.reels is.may.on (on_there is.may).0 (on_there is.may).1 all)

  stops : Stops text shelf serial old new
  stops = it.exit safe.told text shelf shelved up safe.up

  now : CanBeSafe new.online.disc new.rack
  now = record {
    told = told_new;
    belong = (it.belongs safe.told safe.belongs).devices;
    disc_safe = disc_safe stops;
    dumps = (it.dumps safe.told safe.belongs safe.dumps).can;
    blank = blank stops;
  }

  -- THE SAME REELS
  names_new : names new.rack.reels ≡ names old.rack.reels
  names_new = by old.rack.reels new.rack.reels it.cause.reels
    where
      by : (xs ys : List Reel) → AllZip (λ (x y : Reel). (y.serial ≡ x.serial) × (y.capacity ≡ x.capacity) × (y.mounted ≡ x.mounted)) xs ys → names ys ≡ names xs
      by [] [] zip = refl
      by [] (y ∷ ys) zip = absurd zip
      by (x ∷ xs) [] zip = absurd zip
      by (x ∷ xs) (y ∷ ys) (one, zip) = ap (λ (n : ℕ). n ∷ names ys) one.0 ∙ ap (λ (ns : List ℕ). x.serial ∷ ns) (by xs ys zip)

  module _ (blocks : List (List ℕ)) (after : Rack) (left : IsLeft new.online.disc new.rack blocks after) where
    -- what the disc holds then
    on_disc : (P : List (List ℕ) → Type 0) → LeavesOnDisc P old new → P blocks
    on_disc P disc = let (before, at) = some_of o.disc.held safe.told.disc in (disc.survives safe.disc).1 before at blocks left.on_disc

    on_intended : new.online.live ≡ true → new.online.contents ≡ intended_by serial o → StaysDurable old new → Holds blocks (intended_by serial o)
    on_intended live are durable = on_disc (λ bs. Holds bs (intended_by serial o)) (stays_on_disc (intended_by serial o) live are durable)

    by_shelf : (next : ℕ → List Dump) → ((n : ℕ) → PowerLossLeavesDumps n new.rack (next n)) → AreShelved next (told_reels after)
    by_shelf next leaves = shelved_as new.rack after left.reels told_new.each next leaves

    -- what is left of both
    abbrev Left : Type 0
    Left = LeftBy text shelf serial old blocks after

    module _ (may : MayFill serial old) where
      rising : IsStrictlyIncreasing (names new.rack.reels)
      rising = subst IsStrictlyIncreasing (sym names_new) may.rising

      intent_left : AreShelved shelf (told_reels after) → Holds blocks o.contents ⊎ Holds blocks (intended_by serial o) → Left
      intent_left on_reels (inl holds) = LeftOld on_reels holds
      intent_left on_reels (inr holds) = LeftIntended on_reels holds

      module _ (content : List (List ℕ)) (its : IsContentOf text serial o content) where
        abbrev more : ℕ → List Dump
        more = with_dump (new_dump serial o content) shelf

        beside_serial : (n : ℕ) → n ≢ serial → shelf n ≡ more n
        beside_serial n apart = by (eqb_tells n serial)
          where
            by : (((n == serial) ≡ true) × (n ≡ serial)) ⊎ (((n == serial) ≡ false) × (n ≡ serial → ⊥)) → shelf n ≡ more n
            by (inl h) = absurd (apart h.1)
            by (inr h) = sym (ap (λ (b : Bool). if b then shelf n ++ new_dump serial o content ∷ [] else shelf n) h.0)

        mark_left : ((n : ℕ) → PowerLossLeavesEither n new.rack (shelf n) (more n)) → Holds blocks (intended_by serial o) → Left
        mark_left leaves holds = by (shelved_either new.rack after left.reels told_new.each rising serial shelf more beside_serial leaves)
          where
            by : AreShelved shelf (told_reels after) ⊎ AreShelved more (told_reels after) → Left
            by (inl on_reels) = LeftIntended on_reels holds
            by (inr on_reels) = LeftMarked content its on_reels holds

        copies_left : AreShelved more (told_reels after) → Holds blocks (intended_by serial o) ⊎ Holds blocks (moved_by serial o) → Left
        copies_left on_reels (inl holds) = LeftMarked content its on_reels holds
        copies_left on_reels (inr holds) =
            LeftMoved content its 0 (shelved_same after after more (cleared serial 0 more) refl (λ r there. sym (cleared_is serial 0 more r.serial)) on_reels) holds

        release_left : (last : ℕ) → ((n : ℕ) → PowerLossLeavesEither n new.rack (cleared serial last more n) (cleared serial (last + 1) more n)) → Holds blocks (moved_by serial o) → Left
        release_left last leaves holds =
            by (shelved_either new.rack after left.reels told_new.each rising last (cleared serial last more) (cleared serial (last + 1) more) (λ n apart. sym (cleared_beside serial last n more apart)) leaves)
          where
            by : AreShelved (cleared serial last more) (told_reels after) ⊎ AreShelved (cleared serial (last + 1) more) (told_reels after) → Left
            by (inl on_reels) = LeftMoved content its last on_reels holds
            by (inr on_reels) = LeftMoved content its (last + 1) on_reels holds

    leaves_by : Stops text shelf serial old new → Left
    leaves_by (StopsIntent may either same loss) = intent_left may (by_shelf shelf (loss safe.dumps)) (on_disc (λ bs. Holds bs o.contents ⊎ Holds bs (intended_by serial o)) either)
    leaves_by (StopsBefore is durable loss) = LeftIntended (by_shelf shelf (loss safe.dumps)) (on_intended is.live is.contents durable)
    leaves_by (StopsUnmarked is beside durable content its loss) = mark_left is.may content its (loss safe.dumps) (on_intended is.live is.contents durable)
    leaves_by (StopsMark is live contents durable loss) = mark_left is.may is.content is.has (loss safe.dumps) (on_intended live contents durable)
    leaves_by (StopsCopies is either loss) =
        copies_left is.may is.content is.has (by_shelf (with_dump (new_dump serial o is.content) shelf) (loss safe.dumps)) (on_disc (λ bs. Holds bs (intended_by serial o) ⊎ Holds bs (moved_by serial o)) either)
    leaves_by (StopsRelease is durable last interrupted loss) =
        release_left is.may is.content is.has last (loss safe.dumps) (on_disc (λ bs. Holds bs (moved_by serial o)) (stays_on_disc (moved_by serial o) is.live is.contents durable))

    may_of : Stops text shelf serial old new → MayFill serial old
    may_of (StopsIntent may either same loss) = may
    may_of (StopsBefore is durable loss) = is.may
    may_of (StopsUnmarked is beside durable content its loss) = is.may
    may_of (StopsMark is live contents durable loss) = is.may
    may_of (StopsCopies is either loss) = is.may
    may_of (StopsRelease is durable last interrupted loss) = is.may

    pub process_leaves : MayFill serial old × LeftBy text shelf serial old blocks after
    process_leaves = (may_of stops, leaves_by stops)

    pub same_names : names (told_reels after) ≡ names (told_reels old.rack)
    same_names = names_left new.rack after left.reels told_new.each ∙ unread_names new.rack.reels ∙ names_new ∙ sym (unread_names old.rack.reels)

    -- a shelf and contents that belong to the reels as they were
    belong_of : (c : Contents) (next : ℕ → List Dump) → Holds blocks c → AreShelved next (told_reels after) → RackBelongs text (all_dumps next (told_reels old.rack))
        → DiscBelongs text next (told_reels old.rack) c → BelongWith (Some blocks) (told_reels after)
    belong_of c next holds on_reels rack disc = record {
      text = text;
      shelf = next;
      shelved = on_reels;
      rack = moved_rack (told_reels old.rack) (told_reels after) same_names text next rack;
      disc = λ bs e at held.
          subst (DiscBelongs text next (told_reels after)) (holds_one blocks c e holds (subst (λ (x : List (List ℕ)). Holds x e) (sym (same_Some blocks bs at)) held))
          (moved_disc (told_reels old.rack) (told_reels after) same_names text next c disc);
    }

    belongs : (may : MayFill serial old) → LeftBy text shelf serial old blocks after → BelongWith (Some blocks) (told_reels after)
    belongs may (LeftOld on_reels holds) = belong_of o.contents shelf holds on_reels up.rack up.disc
    belongs may (LeftIntended on_reels holds) =
        belong_of (intended_by serial o) shelf holds on_reels up.rack
        (disc_intended serial o old.rack (safe.store.live safe.up) safe.store.tied may.rules may.on may.reel_is may.free safe.told text shelf shelved quiet old.rack refl)
    belongs may (LeftMarked content its on_reels holds) =
        belong_of (intended_by serial o) (with_dump (new_dump serial o content) shelf) holds on_reels
        (ready serial o old.rack (safe.store.live safe.up) safe.store.tied may.rules may.on may.reel_is may.free safe.told text shelf shelved quiet content its.long its.blocks its.lens its.parts old.rack refl may.room may.mounted).rack
        (disc_marked serial o old.rack (safe.store.live safe.up) safe.store.tied may.rules may.on may.reel_is may.free safe.told text shelf shelved quiet content its.long its.blocks its.lens its.parts old.rack refl may.room may.mounted)
    belongs may (LeftMoved content its m on_reels holds) =
        let made : ℕ → List Dump = with_dump (new_dump serial o content) shelf in
        let is = up_released serial o old.rack (safe.store.live safe.up) safe.store.tied may.rules may.on may.reel_is may.free safe.told text shelf shelved quiet content its.long its.blocks its.lens its.parts old.rack refl may.room may.mounted
        (below_but serial m) (λ there. (has_below serial m serial there).1 refl) in
        belong_of (moved_by serial o) (without_all (below_but serial m) made) holds
        (shelved_same after after (cleared serial m made) (without_all (below_but serial m) made) refl (λ r there. cleared_is serial m made r.serial) on_reels) is.rack is.disc

    pub left_belongs : BelongWith (Some blocks) (told_reels after)
    left_belongs = belongs process_leaves.0 process_leaves.1

    left_can : CanBeSafe (disc_left blocks new.online.disc) after
    left_can = let durable = left_is_durable new blocks after left in record {
      told = record { disc = refl; each = told_after new.rack after left.reels told_new.each };
      belong = left_belongs;
      disc_safe = durable.0;
      dumps = λ n. inl (durable.1 n);
      blank = λ none. durable.1;
    }

  safe_after : AreSafe new.online.disc new.rack
  safe_after = record { now = now; left = left_can }

pub process_stopped : (serial : ℕ) (old new : StoreFacts) → IsSafe old → (let r : Result ℕ StoreFault = Err Stopped in Processes serial old r new) → AreSafe new.online.disc new.rack
process_stopped serial old new safe it =
    let (text, shelf, shelved, up) = safe.belongs.up safe.up in
    safe_after serial old new safe it text shelf shelved up
