-- The reels of a rack by their places, and what reads leave of them.
-- serves: last_dump (faults), LastLemmas, crates above
use Rattle.std.proofs.Common.{◌≡◌, ℕ, zero, suc, ◌+◌, ◌<◌, Bool, true, List, [], ◌∷◌, ◌++◌, length, get_or, take, Option, Some, None, refl, sym, ◌∙◌, ap, arith, slice_get, map, All}
use Rattle.std.specs.Prelude.{if◌then◌else◌}
use Rattle.std.specs.List.Sorted.{IsStrictlyIncreasing}
use Rattle.std.proofs.Math.Seq.{take-suc}
use Rattle.std.proofs.lemmas.List.{get_or-map, get_or-take, length-map, length-take-le}
use Rattle.std.proofs.lemmas.List.Kept.{AllPairs-from_increasing}
use Rattle.std.proofs.lemmas.Option.{get_or_from_slice_get}
use Rattle.g_tape.specs.declared.fault.TapeFault.TheVariants as tape
use Rattle.g_tape.specs.Rack.{AreReels, Rack, reel, refuses_unmount}
use Rattle.g_tape.specs.Reads.{OnlyReads, unread}
use Rattle.g_tape.specs.Reel.{Reel}
use Rattle.g_tape.proofs.PlaceLemmas.{reel-first}
use Rattle.g_shelf.proofs.ReadLemmas.{refuses_after_reads}

-- THE REELS of a rack, in rising serial
pub serials_kept : (rs : List Reel) → map (λ (r : Reel). r.serial) (map unread rs) ≡ map (λ (r : Reel). r.serial) rs
serials_kept [] = refl
serials_kept (r ∷ rs) = ap (λ (ns : List ℕ). r.serial ∷ ns) (serials_kept rs)

pub many_after_reads : (old new : Rack) → OnlyReads old new → length new.reels ≡ length old.reels
many_after_reads old new only = sym (length-map new.reels unread) ∙ ap length only.reels ∙ length-map old.reels unread

pub serial_at : (old new : Rack) (i serial : ℕ) (d : Reel) → OnlyReads old new → i < length old.reels → slice_get (map (λ (r : Reel). r.serial) new.reels) i ≡ Some serial → (get_or old.reels i d).serial ≡ serial
serial_at old new i serial d only within is =
    let same : map (λ (r : Reel). r.serial) new.reels ≡ map (λ (r : Reel). r.serial) old.reels =
    sym (serials_kept new.reels) ∙ ap (map (λ (r : Reel). r.serial)) only.reels ∙ serials_kept old.reels in
    sym (get_or-map (λ (r : Reel). r.serial) old.reels i d 0 within)
    ∙ get_or_from_slice_get (map (λ (r : Reel). r.serial) old.reels) i serial 0 (ap (λ (ns : List ℕ). slice_get ns i) (sym same) ∙ is)

pub rises : (rs : List Reel) → IsStrictlyIncreasing (map (λ (r : Reel). r.serial) rs) → (k i : ℕ) (d e : Reel) → k < i → i < length rs → (get_or rs k d).serial < (get_or rs i e).serial
rises rs rising k i d e below within =
    let long = length-map rs (λ (r : Reel). r.serial) in
    let at_k = get_or-map (λ (r : Reel). r.serial) rs k d 0 (omega arith) in
    let at_i = get_or-map (λ (r : Reel). r.serial) rs i e 0 within in
    let less = AllPairs-from_increasing (map (λ (r : Reel). r.serial) rs) rising k i 0 below (omega arith) in
    omega arith

-- the reel at a place
pub record IsAt (rs : List Reel) (i serial : ℕ) (r : Reel) : Type 0 where
  pub here : get_or rs i r ≡ r
  pub named : r.serial ≡ serial
  pub found : reel serial rs ≡ Some r
  pub before : All (λ q. q.serial < r.serial) (take i rs)
  pub next : take (i + 1) rs ≡ take i rs ++ r ∷ []

at_place : (rs : List Reel) (i : ℕ) → i < length rs → (r : Reel) × (get_or rs i r ≡ r)
at_place [] i within = let no : ⊥ = omega (arith, within) in absurd no
at_place (r ∷ rs) zero within = (r, refl)
at_place (r ∷ rs) (suc i) within = let (q, is) = at_place rs i (omega (arith, within)) in (q, is)

pub reel_at : (old new : Rack) (i serial : ℕ) → AreReels old.reels → OnlyReads old new → i < length old.reels → slice_get (map (λ (r : Reel). r.serial) new.reels) i ≡ Some serial → (r : Reel) × IsAt old.reels i serial r
reel_at old new i serial are only within is =
    let (r, here) = at_place old.reels i within in
    let named : r.serial ≡ serial = ap (λ (q : Reel). q.serial) (sym here) ∙ serial_at old new i serial r only within is in
    let at_r : (get_or old.reels i r).serial ≡ r.serial = ap (λ (q : Reel). q.serial) here in
    let place = reel-first serial old.reels i within (λ d. serial_at old new i serial d only within is)
    (λ k d below same. let less = rises old.reels are.rising k i d r below within in let no : ⊥ = omega (arith, same) in no) in (
      r,
      record {
        here = here;
        named = named;
        found = place.there r ∙ ap Some here;
        before = λ k d inside.
            let long = length-take-le i old.reels (omega arith) in
            let low : k < i = omega (arith, inside) in
            let less = rises old.reels are.rising k i d r low within in
            let at_k = ap (λ (q : Reel). q.serial) (get_or-take i old.reels k d low) in
            omega arith;
        next = ap (λ (n : ℕ). take n old.reels) (let n : i + 1 ≡ suc i = omega arith in n) ∙ take-suc old.reels i r within ∙ ap (λ (q : Reel). take i old.reels ++ q ∷ []) here;
      },
    )

-- If all reels are mounted, none is refused.
no_refusal : (o : Option Reel) (r : Reel) → o ≡ Some r → r.mounted ≡ true → refuses_unmount o ≡ None
no_refusal o r is mounted = ap refuses_unmount is ∙ ap (λ (b : Bool). if b then None else Some tape.NotMounted) mounted

pub none_refused : (i serial : ℕ) (old mid : Rack) → AreReels old.reels → All (λ r. r.mounted ≡ true) old.reels → OnlyReads old mid → i < length old.reels
    → slice_get (map (λ (r : Reel). r.serial) mid.reels) i ≡ Some serial → refuses_unmount (reel serial mid.reels) ≡ None
none_refused i serial old mid are mounted only within named =
    let (r, at_i) = reel_at old mid i serial are only within named in
    let up : r.mounted ≡ true = ap (λ (q : Reel). q.mounted) (sym at_i.here) ∙ mounted i r within in
    refuses_after_reads serial old mid only ∙ no_refusal (reel serial old.reels) r at_i.found up
