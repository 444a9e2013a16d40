-- Twins stay twins through writes.
-- serves: WriteLemmas
use Rattle.std.proofs.Common.{◌≡◌, ℕ, ◌<◌, ◌≤◌, List, [], ◌∷◌, ◌++◌, Bool, true, false, nat_le, Option, Some, None, if◌then◌else◌, length, min, option_map, take, refl, sym, ap, ◌∙◌, arith}
use Rattle.std.specs.Option.{ForSome}
use Rattle.std.proofs.lemmas.Bool.{leb-true, leb-false}
use Rattle.std.proofs.lemmas.List.{length-take-le, take-append-le, take-take}
use Rattle.g_tape.specs.Reel.{IsReel, Reel, Remains, Shortened, Torn, Unchanged, ending, left_by}
use Rattle.g_duplex.specs.Twins.{DoAgree, after_both, after_failure}
use Rattle.g_duplex.specs.declared.twin.Standing.{Standing}
use Rattle.g_duplex.specs.declared.twin.Standing.TheVariants.{Level, Apart, Lost}

abbrev Blocks : Type 0
Blocks = List (List ℕ)

-- A property of the blocks that both sides expose, through a change of both.
told_both : (f g : Blocks → Blocks) (R S : Blocks → Blocks → Type 0) (x y : Option Blocks) → ForSome x (λ p. ForSome y (λ q. R p q))
    → ((p q : Blocks) → x ≡ Some p → y ≡ Some q → R p q → S (f p) (g q)) → ForSome (option_map f x) (λ p. ForSome (option_map g y) (λ q. S p q))
told_both f g R S None None all each p is q is' = absurd (cc)
told_both f g R S None (Some y) all each p is q is' = absurd (cc)
told_both f g R S (Some x) None all each p is q is' = absurd (cc)
told_both f g R S (Some x) (Some y) all each p is q is' =
    let one : f x ≡ p = cc in
    let two : g y ≡ q = cc in
    let holds = each x y refl refl (all x refl y refl) in
    rw (← one, ← two) holds

option_map-same : (x : Option Blocks) → option_map (λ (bs : Blocks). bs) x ≡ x
option_map-same None = refl
option_map-same (Some x) = refl

-- blocks that are the same below j are the same below a lesser k
lesser : (k j : ℕ) (p q : Blocks) → k ≤ j → take j p ≡ take j q → take k p ≡ take k q
lesser k j p q less same = sym (take-take k j p less) ∙ ap (take k) same ∙ take-take k j q less

-- The blocks below j are unchanged by a write at k, which isn't below j.
still : (j k : ℕ) (p rest : Blocks) → j ≤ k → k ≤ length p → take j (take k p ++ rest) ≡ take j p
still j k p rest less long = take-append-le j (take k p) rest (omega (arith, less, length-take-le k p long)) ∙ take-take j k p less

pub agree_both : (k : ℕ) (block : List ℕ) (t : Standing) (a b : Reel) → IsReel a → IsReel b → k ≤ a.len → k ≤ b.len → DoAgree t a b
    → DoAgree (after_both k t) (ending k block a) (ending k block b)
agree_both k block Level a b is is' far far' agree = (
  refl,
  told_both (λ bs. take k bs ++ block ∷ []) (λ bs. take k bs ++ block ∷ []) (λ p q. p ≡ q) (λ p q. p ≡ q) a.blocks b.blocks agree.1
      (λ p q at at' same. ap (λ (bs : Blocks). take k bs ++ block ∷ []) same),
)
agree_both k block (Apart j) a b is is' far far' agree = by (nat_le k j) refl
  where
    by : (c : Bool) → nat_le k j ≡ c → DoAgree (if c then Level else Apart j) (ending k block a) (ending k block b)
    by true below =
        let less : k ≤ j = leb-true k j below in (
          refl,
          told_both (λ bs. take k bs ++ block ∷ []) (λ bs. take k bs ++ block ∷ []) (λ p q. take j p ≡ take j q) (λ p q. p ≡ q) a.blocks b.blocks agree.2
              (λ p q at at' same. ap (λ (bs : Blocks). bs ++ block ∷ []) (lesser k j p q less same)),
        )
    by false above =
        let less : j < k = leb-false k j above in (
          omega (arith, less),
          omega (arith, less),
          told_both (λ bs. take k bs ++ block ∷ []) (λ bs. take k bs ++ block ∷ []) (λ p q. take j p ≡ take j q) (λ p q. take j p ≡ take j q) a.blocks b.blocks agree.2
              (λ p q at at' same.
              still j k p (block ∷ []) (omega (arith, less)) (omega (arith, far, is.told p at)) ∙ same
              ∙ sym (still j k q (block ∷ []) (omega (arith, less)) (omega (arith, far', is'.told q at')))),
        )
agree_both k block (Lost twin) a b is is' far far' agree = tt

-- what a failed write of block k leaves: as long as k, and the same below k
left_long : (how : Remains) (k : ℕ) (a : Reel) → k ≤ a.len → k ≤ (left_by how k a).len
left_long Unchanged k a far = far
left_long Shortened k a far = omega arith
left_long (Torn block) k a far = omega arith

left_agrees : (how : Remains) (j k : ℕ) (a b : Reel) → IsReel a → j ≤ k → k ≤ a.len → ForSome a.blocks (λ p. ForSome b.blocks (λ q. take j p ≡ take j q))
    → ForSome (left_by how k a).blocks (λ p. ForSome b.blocks (λ q. take j p ≡ take j q))
left_agrees Unchanged j k a b is less far same = same
left_agrees Shortened j k a b is less far same =
    rw (← option_map-same b.blocks) (told_both (take k) (λ bs. bs) (λ p q. take j p ≡ take j q) (λ p q. take j p ≡ take j q) a.blocks b.blocks same
    (λ p q at at' e. take-take j k p less ∙ e))
left_agrees (Torn block) j k a b is less far same =
    rw (← option_map-same b.blocks) (told_both (λ bs. take k bs ++ block ∷ []) (λ bs. bs) (λ p q. take j p ≡ take j q) (λ p q. take j p ≡ take j q) a.blocks b.blocks same
    (λ p q at at' e. still j k p (block ∷ []) less (omega (arith, far, is.told p at)) ∙ e))

below_both : (k : ℕ) (x y : Option Blocks) → ForSome x (λ p. ForSome y (λ q. p ≡ q)) → ForSome x (λ p. ForSome y (λ q. take k p ≡ take k q))
below_both k x y same p at q at' = ap (take k) (same p at q at')

pub agree_failed : (k : ℕ) (how : Remains) (t : Standing) (a b : Reel) → IsReel a → k ≤ a.len → DoAgree t a b → DoAgree (after_failure k t) (left_by how k a) b
agree_failed k how Level a b is far agree =
    (left_long how k a far, omega (arith, far, agree.0), left_agrees how k k a b is (omega arith) far (below_both k a.blocks b.blocks agree.1))
agree_failed k how (Apart j) a b is far agree = (
  omega (arith, left_long how k a far),
  omega (arith, agree.1),
  left_agrees how (min j k) k a b is (omega arith) far (λ p at q at'. lesser (min j k) j p q (omega arith) (agree.2 p at q at')),
)
agree_failed k how (Lost twin) a b is far agree = tt
