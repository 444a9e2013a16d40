-- The reels are released one after another, in rising serial.
-- serves: release (cut), AnswerLemmas, BecomeLemmas, ExitLemmas, JobLemmas, PlanLemmas, SafeLemmas, crates above
use Rattle.std.proofs.Common.{◌≡◌, ℕ, zero, suc, ◌+◌, ◌≤◌, ◌==◌, Bool, true, false, List, [], ◌∷◌, ◌++◌, map, take, Option, Some, None, Ok, Err, refl, sym, ◌∙◌, ap, arith, subst, inl, inr, option_map, if◌then◌else◌, slice_get, eq-eqb}
use Rattle.std.specs.Prelude.{◌⊎◌, ◌||◌, All, Contains, filter}
use Rattle.std.proofs.lemmas.Bool.{cases_Bool, cond-false, cond-true, ne_eqb}
use Rattle.std.proofs.lemmas.Option.{same_Some}
use Rattle.std.proofs.lemmas.List.Elements.{All-contains}
use Rattle.g_base.specs.Counts.{Rose}
use Rattle.g_base.proofs.KeyLemmas.{AreApart as AreApartBy, at_key-among, change_key-each, find-map}
use Rattle.g_tape.specs.declared.fault.TapeFault.TheVariants.{WriteFailed}
use Rattle.g_tape.specs.Durable.{WritesDurably}
use Rattle.g_tape.specs.Rack.{AreReels, Rack, changed, reel, refuses_write, with_reel}
use Rattle.g_tape.specs.Reads.{count_at, time_of, times_in}
use Rattle.g_tape.specs.Reel.{Reel, Remains, ending, left_by}
use Rattle.g_tape.proofs.ReadLemmas.{is_reel}
use Rattle.g_tape.proofs.PlaceLemmas.{reel-found}
use Rattle.g_disc_contents.specs.Contents.{has}
use Rattle.g_shelf.specs.declared.rack.Listed.{Listed}
use Rattle.g_laws_store.proofs.WaitingLemmas.{mapped_there}
use Rattle.g_process.specs.Releases.{AreReleased, AreReleasedDurably, IsCutAt, is_taken, released, taken, zeros}
use Rattle.g_process.proofs.DurableLemmas.{none_released_durably, one_released_durably}
use Rattle.g_process.proofs.WriteLemmas.{free_there, element}

-- the serials so far
pub taken_none : (serial : ℕ) (lists : List Listed) (l : Listed) → is_taken serial l ≡ false → taken serial (lists ++ l ∷ []) ≡ taken serial lists
taken_none serial [] l is = ap (map (λ (x : Listed). x.serial)) (cond-false (is_taken serial l) (l ∷ []) [] is)
taken_none serial (x ∷ xs) l is = by_first (cases_Bool (is_taken serial x)) (taken_none serial xs l is)
  where
    by_first : (is_taken serial x ≡ true) ⊎ (is_taken serial x ≡ false) → taken serial (xs ++ l ∷ []) ≡ taken serial xs → taken serial (x ∷ (xs ++ l ∷ [])) ≡ taken serial (x ∷ xs)
    by_first (inl yes_is) rest =
        ap (map (λ (y : Listed). y.serial)) (cond-true (is_taken serial x) (x ∷ filter (is_taken serial) (xs ++ l ∷ [])) (filter (is_taken serial) (xs ++ l ∷ [])) yes_is)
        ∙ ap (λ (ns : List ℕ). x.serial ∷ ns) rest
        ∙ sym (ap (map (λ (y : Listed). y.serial)) (cond-true (is_taken serial x) (x ∷ filter (is_taken serial) xs) (filter (is_taken serial) xs) yes_is))
    by_first (inr no_is) rest =
        ap (map (λ (y : Listed). y.serial)) (cond-false (is_taken serial x) (x ∷ filter (is_taken serial) (xs ++ l ∷ [])) (filter (is_taken serial) (xs ++ l ∷ [])) no_is)
        ∙ rest
        ∙ sym (ap (map (λ (y : Listed). y.serial)) (cond-false (is_taken serial x) (x ∷ filter (is_taken serial) xs) (filter (is_taken serial) xs) no_is))

pub taken_one : (serial : ℕ) (lists : List Listed) (l : Listed) → is_taken serial l ≡ true → taken serial (lists ++ l ∷ []) ≡ taken serial lists ++ l.serial ∷ []
taken_one serial [] l is = ap (map (λ (x : Listed). x.serial)) (cond-true (is_taken serial l) (l ∷ []) [] is)
taken_one serial (x ∷ xs) l is = by_first (cases_Bool (is_taken serial x)) (taken_one serial xs l is)
  where
    by_first : (is_taken serial x ≡ true) ⊎ (is_taken serial x ≡ false) → taken serial (xs ++ l ∷ []) ≡ taken serial xs ++ l.serial ∷ []
        → taken serial (x ∷ (xs ++ l ∷ [])) ≡ taken serial (x ∷ xs) ++ l.serial ∷ []
    by_first (inl yes_is) rest =
        ap (map (λ (y : Listed). y.serial)) (cond-true (is_taken serial x) (x ∷ filter (is_taken serial) (xs ++ l ∷ [])) (filter (is_taken serial) (xs ++ l ∷ [])) yes_is)
        ∙ ap (λ (ns : List ℕ). x.serial ∷ ns) rest
        ∙ sym (ap (λ (ys : List Listed). map (λ (y : Listed). y.serial) ys ++ l.serial ∷ []) (cond-true (is_taken serial x) (x ∷ filter (is_taken serial) xs) (filter (is_taken serial) xs) yes_is))
    by_first (inr no_is) rest =
        ap (map (λ (y : Listed). y.serial)) (cond-false (is_taken serial x) (x ∷ filter (is_taken serial) (xs ++ l ∷ [])) (filter (is_taken serial) (xs ++ l ∷ [])) no_is)
        ∙ rest
        ∙ sym (ap (λ (ys : List Listed). map (λ (y : Listed). y.serial) ys ++ l.serial ∷ []) (cond-false (is_taken serial x) (x ∷ filter (is_taken serial) xs) (filter (is_taken serial) xs) no_is))

-- the first of a list, and one more
take_more : {X : Type 0} (i : ℕ) (xs : List X) (x : X) → slice_get xs i ≡ Some x → take (suc i) xs ≡ take i xs ++ x ∷ []
take_more i [] x is = absurd (let no : ⊥ = cc in no)
take_more {X} zero (y ∷ ys) x is = ap (λ (z : X). z ∷ []) (same_Some y x is)
take_more {X} (suc i) (y ∷ ys) x is = ap (λ (zs : List X). y ∷ zs) (take_more i ys x is)

pub take_next : {X : Type 0} (i : ℕ) (xs : List X) (x : X) → slice_get xs i ≡ Some x → take (i + 1) xs ≡ take i xs ++ x ∷ []
take_next i xs x is = ap (λ (n : ℕ). take n xs) (let e : i + 1 ≡ suc i = omega arith in e) ∙ take_more i xs x is

-- whether a serial is among them
has_same : (ss : List ℕ) (s : ℕ) → has (ss ++ s ∷ []) s ≡ true
has_same [] s = ap (λ (b : Bool). b || false) (eq-eqb s s refl)
has_same (x ∷ xs) s = ap (λ (b : Bool). (x == s) || b) (has_same xs s) ∙ or_true (x == s)
  where
    or_true : (b : Bool) → (b || true) ≡ true
    or_true true = refl
    or_true false = refl

has_other : (ss : List ℕ) (s n : ℕ) → (s ≡ n → ⊥) → has (ss ++ s ∷ []) n ≡ has ss n
has_other [] s n apart = ap (λ (b : Bool). b || false) (ne_eqb s n apart)
has_other (x ∷ xs) s n apart = ap (λ (b : Bool). (x == n) || b) (has_other xs s n apart)

-- RELEASED once more is the same
released_keeps : {X : Type 0} (of : Reel → X) (ss : List ℕ) (r : Reel) → of (ending 0 zeros r) ≡ of r → of (released ss r) ≡ of r
released_keeps of ss r same = by_case (has ss r.serial)
  where
    by_case : (b : Bool) → of (if b then ending 0 zeros r else r) ≡ of r
    by_case true = same
    by_case false = refl

released_serial : (ss : List ℕ) (r : Reel) → (released ss r).serial ≡ r.serial
released_serial ss r = released_keeps (λ (x : Reel). x.serial) ss r refl

again : (o : Option (List (List ℕ))) → option_map (λ (bs : List (List ℕ)). take 0 bs ++ zeros ∷ []) (option_map (λ (bs : List (List ℕ)). take 0 bs ++ zeros ∷ []) o)
    ≡ option_map (λ (bs : List (List ℕ)). take 0 bs ++ zeros ∷ []) o
again None = refl
again (Some bs) = refl

released_now : (ss : List ℕ) (s : ℕ) (r : Reel) → s ≡ r.serial → ending 0 zeros (released ss r) ≡ released (ss ++ s ∷ []) r
released_now ss s r same = by_case (has ss r.serial) ∙ sym (cond-true (has (ss ++ s ∷ []) r.serial) (ending 0 zeros r) r (subst (λ (n : ℕ). has (ss ++ s ∷ []) n ≡ true) same (has_same ss s)))
  where
    by_case : (b : Bool) → ending 0 zeros (if b then ending 0 zeros r else r) ≡ ending 0 zeros r
    by_case true = ap (λ (o : Option (List (List ℕ))). let x : Reel = record r { len = 1; blocks = o } in x) (again r.blocks)
    by_case false = refl

released_still : (ss : List ℕ) (s : ℕ) (r : Reel) → (s ≡ r.serial → ⊥) → released ss r ≡ released (ss ++ s ∷ []) r
released_still ss s r apart = ap (λ (b : Bool). if b then ending 0 zeros r else r) (sym (has_other ss s r.serial apart))

-- serials rise, so none occurs twice
abbrev serials : List Reel → List ℕ
serials rs = map (λ (r : Reel). r.serial) rs

-- no later serial equals the first
abbrev pub AreApart : List Reel → Type 0
AreApart rs = AreApartBy (λ (r : Reel). r.serial) rs

released_apart : (ss : List ℕ) (rs : List Reel) → AreApart rs → AreApartBy (λ (r : Reel). (released ss r).serial) rs
released_apart ss [] apart = tt
released_apart ss (r ∷ rs) (here, apart) = ((λ q there same. here q there (sym (released_serial ss q) ∙ same ∙ released_serial ss r)), released_apart ss rs apart)

pub with_released : (s : ℕ) (ss : List ℕ) (rs : List Reel) → AreApart rs → with_reel s (ending 0 zeros) (map (released ss) rs) ≡ map (released (ss ++ s ∷ [])) rs
with_released s ss rs apart =
    change_key-each (λ (r : Reel). r.serial) s (ending 0 zeros) (released ss) (released (ss ++ s ∷ []))
    (λ r is. released_now ss s r (sym is ∙ released_serial ss r)) (λ r off. released_still ss s r (λ is. off (released_serial ss r ∙ sym is))) rs (released_apart ss rs apart)

-- THE REEL OF A SERIAL that is there
pub reel_among : (s : ℕ) (rs : List Reel) → Contains (serials rs) s → (r : Reel) × (reel s rs ≡ Some r)
reel_among s rs there = at_key-among (λ (r : Reel). r.serial) s rs there

pub reel_released : (s : ℕ) (ss : List ℕ) (rs : List Reel) → reel s (map (released ss) rs) ≡ option_map (released ss) (reel s rs)
reel_released s ss rs = find-map (λ (r : Reel). s == r.serial) (λ (r : Reel). s == r.serial) (released ss) (λ r. ap (λ (n : ℕ). s == n) (released_serial ss r)) rs

released_mounted : (ss : List ℕ) (r : Reel) → (released ss r).mounted ≡ r.mounted
released_mounted ss r = released_keeps (λ (x : Reel). x.mounted) ss r refl

released_capacity : (ss : List ℕ) (r : Reel) → (released ss r).capacity ≡ r.capacity
released_capacity ss r = released_keeps (λ (x : Reel). x.capacity) ss r refl

pub mounted_at : (n : ℕ) (rs : List Reel) → All (λ r. r.mounted ≡ true) rs → (r : Reel) → reel n rs ≡ Some r → r.mounted ≡ true
mounted_at n rs all r is = All-contains (λ (q : Reel). q.mounted ≡ true) rs r all (reel-found n rs r is).0

-- so its block 0 can be written
pub release_free : (s : ℕ) (ss : List ℕ) (old mid : Rack) → AreReels old.reels → All (λ r. r.mounted ≡ true) old.reels → Contains (serials old.reels) s → AreReleased ss old mid
    → refuses_write 0 (reel s mid.reels) ≡ None
release_free s ss old mid are mounted there so =
    let (r, at) = reel_among s old.reels there in
    let right = is_reel s old.reels r are.each at in
    let sized = right.sized in
    let capacity = released_capacity ss r in
    let is_mounted : r.mounted ≡ true = mounted_at s old.reels mounted r at in
    ap (λ (x : Rack). refuses_write 0 (reel s x.reels)) so ∙ ap (refuses_write 0) (reel_released s ss old.reels ∙ ap (option_map (released ss)) at)
    ∙ free_there 0 (released ss r) (released_mounted ss r ∙ is_mounted) (omega arith) (omega (arith, sized, capacity))

-- STEPS of the loop
pub none_released : (serial : ℕ) (rack : Rack) → AreReleased (taken serial []) rack rack
none_released serial rack = ap (λ (rs : List Reel). let x : Rack = record rack { reels = rs } in x) (sym (same rack.reels))
  where
    same : (rs : List Reel) → map (released []) rs ≡ rs
    same [] = refl
    same (r ∷ rs) = ap (λ (xs : List Reel). r ∷ xs) (same rs)

pub release_skips : (serial : ℕ) (lists : List Listed) (i : ℕ) (l : Listed) (old mid : Rack) → slice_get lists i ≡ Some l → is_taken serial l ≡ false
    → AreReleased (taken serial (take i lists)) old mid → AreReleased (taken serial (take (i + 1) lists)) old mid
release_skips serial lists i l old mid at is so =
    subst (λ (ss : List ℕ). AreReleased ss old mid) (sym (ap (taken serial) (take_next i lists l at) ∙ taken_none serial (take i lists) l is)) so

pub release_goes : (serial : ℕ) (lists : List Listed) (i : ℕ) (l : Listed) (old mid new : Rack) → AreApart old.reels → slice_get lists i ≡ Some l → is_taken serial l ≡ true
    → AreReleased (taken serial (take i lists)) old mid → new ≡ record (changed l.serial (ending 0 zeros) mid) { fuse = new.fuse; risks = new.risks }
    → AreReleased (taken serial (take (i + 1) lists)) old new
release_goes serial lists i l old mid new apart at is so wrote =
    let ss : List ℕ = taken serial (take i lists) in
    let reels : with_reel l.serial (ending 0 zeros) mid.reels ≡ map (released (ss ++ l.serial ∷ [])) old.reels =
    ap (λ (x : Rack). with_reel l.serial (ending 0 zeros) x.reels) so ∙ with_released l.serial ss old.reels apart in
    subst (λ (ns : List ℕ). AreReleased ns old new) (sym (ap (taken serial) (take_next i lists l at) ∙ taken_one serial (take i lists) l is))
    (wrote ∙ ap (λ (x : Rack). let y : Rack = record x { reels = with_reel l.serial (ending 0 zeros) mid.reels; fuse = new.fuse; risks = new.risks } in y) so
    ∙ ap (λ (rs : List Reel). let y : Rack = record old { reels = rs; fuse = new.fuse; risks = new.risks } in y) reels)

-- a reel of the lists can be written
pub listed_free : (serial : ℕ) (lists : List Listed) (i : ℕ) (l : Listed) (old mid : Rack) → AreReels old.reels → All (λ r. r.mounted ≡ true) old.reels → map (λ (x : Listed). x.serial) lists ≡ serials old.reels
    → slice_get lists i ≡ Some l → AreReleased (taken serial (take i lists)) old mid → refuses_write 0 (reel l.serial mid.reels) ≡ None
listed_free serial lists i l old mid are mounted listed at so =
    release_free l.serial (taken serial (take i lists)) old mid are mounted (subst (λ (ns : List ℕ). Contains ns l.serial) listed (mapped_there (λ (x : Listed). x.serial) lists l (element lists i l at))) so

pub release_cuts : (serial : ℕ) (lists : List Listed) (i : ℕ) (l : Listed) (old mid new : Rack) → slice_get lists i ≡ Some l → is_taken serial l ≡ true → AreReleased (taken serial (take i lists)) old mid
    → AreReleasedDurably (taken serial (take i lists)) old mid → refuses_write 0 (reel l.serial mid.reels) ≡ None → WritesDurably l.serial 0 zeros mid (Err WriteFailed) new
    → Rose mid.write_faults new.write_faults × ((how : Remains) × (new ≡ record (changed l.serial (left_by how 0) mid) { write_faults = new.write_faults; fuse = new.fuse; risks = new.risks }))
    → IsCutAt serial lists old new
release_cuts serial lists i l old mid new at is so durably free failed (rose, (how, rack)) =
    record { place = i; list = l; at = at; taken_is = is; mid = mid; before = so; durably = durably; rose = rose; how = how; rack = rack; free = free; failed = failed }

-- what a power loss may leave after each step
pub durably_none : (serial : ℕ) (rack : Rack) → AreReleasedDurably (taken serial []) rack rack
durably_none serial rack = none_released_durably rack

pub durably_skips : (serial : ℕ) (lists : List Listed) (i : ℕ) (l : Listed) (old mid : Rack) → slice_get lists i ≡ Some l → is_taken serial l ≡ false
    → AreReleasedDurably (taken serial (take i lists)) old mid → AreReleasedDurably (taken serial (take (i + 1) lists)) old mid
durably_skips serial lists i l old mid at is so =
    subst (λ (ss : List ℕ). AreReleasedDurably ss old mid) (sym (ap (taken serial) (take_next i lists l at) ∙ taken_none serial (take i lists) l is)) so

pub durably_goes : (serial : ℕ) (lists : List Listed) (i : ℕ) (l : Listed) (old mid new : Rack) → slice_get lists i ≡ Some l → is_taken serial l ≡ true
    → AreReleasedDurably (taken serial (take i lists)) old mid → new ≡ record (changed l.serial (ending 0 zeros) mid) { fuse = new.fuse; risks = new.risks } → WritesDurably l.serial 0 zeros mid (Ok tt) new
    → AreReleasedDurably (taken serial (take (i + 1) lists)) old new
durably_goes serial lists i l old mid new at is so wrote durably =
    subst (λ (ss : List ℕ). AreReleasedDurably ss old new) (sym (ap (taken serial) (take_next i lists l at) ∙ taken_one serial (take i lists) l is))
    (one_released_durably (taken serial (take i lists)) l.serial old mid new so (ap (λ (x : Rack). x.reels) wrote) durably)

-- reads are counted as before
times_kept : (ss : List ℕ) (o : Option Reel) → times_in (option_map (released ss) o) ≡ times_in o
times_kept ss None = refl
times_kept ss (Some r) = by_case (has ss r.serial)
  where
    by_case : (b : Bool) → (if b then ending 0 zeros r else r).times_read ≡ r.times_read
    by_case true = refl
    by_case false = refl

pub times_released : (ss : List ℕ) (old new : Rack) → AreReleased ss old new → (s k : ℕ) → time_of s k old ≤ time_of s k new
times_released ss old new is s k =
    let same : time_of s k new ≡ time_of s k old =
    ap (λ (x : Rack). count_at k (times_in (reel s x.reels))) is ∙ ap (λ (x : Option Reel). count_at k (times_in x)) (reel_released s ss old.reels) ∙ ap (count_at k) (times_kept ss (reel s old.reels)) in
    omega (arith, same)
