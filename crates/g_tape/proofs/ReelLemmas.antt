-- What is done to a reel leaves it one.
-- serves: cut_at (keeps), end_with (keeps), DurableLemmas, RackLemmas, crates above
use Rattle.std.proofs.Common.{◌≡◌, ℕ, ◌+◌, ◌<◌, ◌≤◌, List, [], ◌∷◌, ◌++◌, Bool, true, false, not, ◌||◌, nat_lt, Option, Some, None, length, take, All, option_map, if◌then◌else◌, refl, subst, arith, length-append}
use Rattle.std.specs.Option.{ForSome}
use Rattle.std.proofs.lemmas.Bool.{ltb-true, ltb-false}
use Rattle.std.proofs.lemmas.List.{length-take-le}
use Rattle.std.proofs.lemmas.List.Elements.{All-take, All-push}
use Rattle.g_base.specs.Block.{IsBlock}
use Rattle.g_tape.specs.declared.fault.TapeFault.TheVariants.{NotMounted, End}
use Rattle.g_tape.specs.Reel.{Reel, IsReel, with_mounted, cut_at, ending}
use Rattle.g_tape.specs.Rack.{refuses_write}

-- A property of each exposed value, after a change of that value.
told-map : {X Y : Type 0} (f : X → Y) (P : X → Type 0) (Q : Y → Type 0) (o : Option X) → ForSome o P → ((x : X) → P x → Q (f x)) → ForSome (option_map f o) Q
told-map f P Q None all each y is = absurd (cc)
told-map f P Q (Some x) all each y is =
    let same : f x ≡ y = cc in subst Q same (each x (all x refl))

passes : (is past under : Bool) → (if is then (if past || not under then Some End else None) else Some NotMounted) ≡ None → (past ≡ false) × (under ≡ true)
passes false past under is = absurd (cc)
passes true true under is = absurd (cc)
passes true false true is = (refl, refl)
passes true false false is = absurd (cc)

-- A write that isn't refused is to a block of the reel or directly after the last one, and within the capacity.
pub allowed-write : (k : ℕ) (r : Reel) → refuses_write k (Some r) ≡ None → (k ≤ r.len) × (k < r.capacity)
allowed-write k r is =
    let tests = passes r.mounted (nat_lt r.len k) (nat_lt k r.capacity) is in
    (ltb-false r.len k tests.0, ltb-true k r.capacity tests.1)

-- A reel with another length, other blocks and other counts, if these agree.
reel_made : (len : ℕ) (mounted : Bool) (blocks : Option (List (List ℕ))) (times_read : Option (List ℕ)) (r : Reel) → IsReel r → len ≤ r.capacity
    → ForSome blocks (λ bs. length bs ≡ len) → ForSome blocks (λ bs. All IsBlock bs) → ForSome times_read (λ ts. length ts ≡ r.capacity)
    → IsReel (record r { len = len; mounted = mounted; blocks = blocks; times_read = times_read })
reel_made len mounted blocks times_read r kept within told whole counted =
    record { numbered = kept.numbered; numbered_most = kept.numbered_most; sized = kept.sized; sized_most = kept.sized_most; within = within; told = told; whole = whole; counted = counted }

pub IsReel-mounted : (is : Bool) (r : Reel) → IsReel r → IsReel (with_mounted is r)
IsReel-mounted is r kept = reel_made r.len is r.blocks r.times_read r kept kept.within kept.told kept.whole kept.counted

pub IsReel-cut_at : (k : ℕ) (r : Reel) → refuses_write k (Some r) ≡ None → IsReel r → IsReel (cut_at k r)
IsReel-cut_at k r allowed kept =
    let (on, under) = allowed-write k r allowed in
    reel_made k r.mounted (cut_at k r).blocks r.times_read r kept (omega arith)
    (told-map (take k) (λ bs. length bs ≡ r.len) (λ bs. length bs ≡ k) r.blocks kept.told (λ bs is. length-take-le k bs (omega (arith, is))))
    (told-map (take k) (All IsBlock) (All IsBlock) r.blocks kept.whole (All-take IsBlock k)) kept.counted

pub IsReel-ending : (k : ℕ) (block : List ℕ) (r : Reel) → refuses_write k (Some r) ≡ None → IsBlock block → IsReel r → IsReel (ending k block r)
IsReel-ending k block r allowed is_block kept =
    let (on, under) = allowed-write k r allowed in
    reel_made (k + 1) r.mounted (ending k block r).blocks r.times_read r kept (omega arith)
    (told-map (λ bs. take k bs ++ block ∷ []) (λ bs. length bs ≡ r.len) (λ bs. length bs ≡ k + 1) r.blocks kept.told
    (λ bs is. omega (arith, is, length-append (take k bs) (block ∷ []), length-take-le k bs (omega (arith, is)))))
    (told-map (λ bs. take k bs ++ block ∷ []) (All IsBlock) (All IsBlock) r.blocks kept.whole
    (λ bs all. All-push IsBlock (take k bs) block (All-take IsBlock k bs all) is_block))
    kept.counted
