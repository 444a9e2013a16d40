-- The fuse of a device after the lines that armed it.
-- serves: lib
use Rattle.std.proofs.Common.{◌≡◌, ◌⊎◌, ◌+◌, ◌-◌, ◌^◌, ◌<◌, ◌≤◌, ℕ, Bool, if◌then◌else◌, List, [], ◌∷◌, ◌++◌, Option, Some, None, refl, sym, ◌∙◌, ap, subst, inl, inr, arith}
use Rattle.std.proofs.lemmas.Bool.{cases_lt, lt-ltb}
use Rattle.g_base.specs.Counts.{Rose}
use Rattle.g_base.specs.Fuse.{Arms, IsArmedBy, armed_with, burnt_by, most}
use Rattle.g_base.proofs.CountLemmas.{Rose-behind}
use Rattle.g_base.proofs.FuseLemmas.{armed_then, burnt_both}
use Rattle.g_tape.specs.Rack.{IsFused, Rack}
use Rattle.g_run_model.specs.Top.{IsArmedIn}
use Rattle.g_laws_runs.specs.Fuses.{ArmedBurns, ArmingsGo, DiscSpends, NumberIsLast, RackSpends, RacksBurn, UnarmedBurns, last_of}

pub armings_go : ArmingsGo
armings_go first later old mid new was is = armed_then first later old mid new was is

pub number_is_last : NumberIsLast
number_is_last [] old new is = ap (λ (a : Arms). a.number) is
number_is_last (k ∷ numbers) old new (since, is) = number_is_last numbers (armed_with k since old) new is

last_is : (numbers : List ℕ) (k : ℕ) (old : Option ℕ) → last_of (numbers ++ k ∷ []) old ≡ Some k
last_is [] k old = refl
last_is (j ∷ numbers) k old = last_is numbers k (Some j)

pub unarmed_burns : UnarmedBurns
unarmed_burns old new was is same later room =
    let before = was.left (omega (arith, later, room)) in
    let behind : new.fuse ≡ burnt_by (new.writes - old.arms.since) old.arms.number =
    is.left room ∙ ap (λ (a : Arms). burnt_by (new.writes - a.since) a.number) same in
    let whole : new.writes - old.arms.since ≡ (old.writes - old.arms.since) + (new.writes - old.writes) = let early : old.arms.since ≤ old.writes = was.later in omega (arith, early, later) in
    behind ∙ ap (λ (n : ℕ). burnt_by n old.arms.number) whole
    ∙ sym (burnt_both (old.writes - old.arms.since) (new.writes - old.writes) old.arms.number)
    ∙ ap (burnt_by (new.writes - old.writes)) (sym before)

pub armed_burns : ArmedBurns
armed_burns numbers k old new is armed room =
    is.left room ∙ ap (burnt_by (new.writes - new.arms.since)) (number_is_last (numbers ++ k ∷ []) old.arms new.arms armed ∙ last_is numbers k old.arms.number)

pub racks_burn : RacksBurn
racks_burn numbers k old new is armed = by new.fuse refl
  where
    number : new.arms.number ≡ Some k
    number = number_is_last (numbers ++ k ∷ []) old.arms new.arms armed ∙ last_is numbers k old.arms.number

    by : (fuse : Option ℕ) → new.fuse ≡ fuse → Rose new.arms.since new.write_faults ⊎ ((j : ℕ) × (new.fuse ≡ Some j) × (1 ≤ j) × (j ≤ k))
    by None none = inl (is.spent none k number)
    by (Some j) some =
        let (one, least) = is.left j some in
        inr (j, some, one, subst (λ (n : Option ℕ). j ≤ most n) number least)

-- WHAT WAS ARMED IN A CALL was so at a count of the call: how often it was armed rose
times_later : (numbers : List ℕ) (old new : Arms) → IsArmedBy numbers old new → old.times ≤ new.times
times_later [] old new is = let same : new.times ≡ old.times = ap (λ (a : Arms). a.times) is in omega (arith, same)
times_later (k ∷ numbers) old new (since, is) = let later = times_later numbers (armed_with k since old) new is in omega (arith, later)

times_more : (numbers : List ℕ) (k : ℕ) (old new : Arms) → IsArmedBy (numbers ++ k ∷ []) old new → old.times < 2 ^ 64 - 1 → old.times < new.times
times_more [] k old new (since, is) room = let later = times_later [] (armed_with k since old) new is in omega (arith, later, room)
times_more (j ∷ numbers) k old new (since, is) room = let later = times_later (numbers ++ k ∷ []) (armed_with j since old) new is in omega (arith, later, room)

in_call : (numbers : List ℕ) (k from until : ℕ) (old new : Arms) → IsArmedBy (numbers ++ k ∷ []) old new → old.times < 2 ^ 64 - 1 → IsArmedIn from until old new → (from ≤ new.since) × (new.since ≤ until)
in_call numbers k from until old new armed room (inl same) =
    let more = times_more numbers k old new armed room in
    let times : new.times ≡ old.times = ap (λ (a : Arms). a.times) same in
    absurd (let no : ⊥ = omega (arith, more, times) in no)
in_call numbers k from until old new armed room (inr is) = is

-- a fuse that some writes spent had no more left
spent_by : (n k : ℕ) → burnt_by n (Some k) ≡ None → k ≤ n
spent_by n k none = by (cases_lt n k)
  where
    by : (n < k) ⊎ (k ≤ n) → k ≤ n
    by (inl less) =
        let left : burnt_by n (Some k) ≡ Some (k - n) = ap (λ (b : Bool). let left : Option ℕ = if b then Some (k - n) else None in left) (lt-ltb n k less) in
        let wrong : ◌≡◌ {A = Option ℕ} (Some (k - n)) None = sym left ∙ none in
        absurd (let no : ⊥ = cc in no)
    by (inr enough) = enough

pub disc_spends : DiscSpends
disc_spends numbers k old new is armed within times room none =
    let (low, high) = in_call numbers k old.writes new.writes old.arms new.arms armed times within in
    let enough = spent_by (new.writes - new.arms.since) k (sym (armed_burns numbers k old new is armed room) ∙ none) in
    omega (arith, low, high, enough)

pub rack_spends : RackSpends
rack_spends numbers k old new is armed within times none =
    let number : new.arms.number ≡ Some k = number_is_last (numbers ++ k ∷ []) old.arms new.arms armed ∙ last_is numbers k old.arms.number in
    let (low, high) = in_call numbers k old.write_faults new.write_faults old.arms new.arms armed times within in
    Rose-behind low (is.spent none k number)
