-- If only what a power loss may leave of the two racks changes, and it may leave no more, then it leaves no more of what the pair shows.
-- serves: crates above
use Rattle.std.proofs.Common.{◌≡◌, ◌⊎◌, ℕ, List, true, false, Bool, Option, Some, None, is_some, refl, sym, subst, ap, ◌∙◌, inl, inr}
use Rattle.g_tape.specs.Rack.{Rack}
use Rattle.g_tape.specs.Reads.{LeavesNoMore, MayLeave, blocks_of, is_syncable}
use Rattle.g_tape.specs.Risk.{Leaves, Risk, risk, syncs}
use Rattle.g_duplex.specs.Calls.{leading}
use Rattle.g_duplex.specs.Pair.{ArePaired, Pair, shown, standing_in}
use Rattle.g_duplex.specs.declared.twin.Twin.TheVariants.{First, Second}
use Rattle.g_duplex.specs.declared.twin.Standing.{Standing}
use Rattle.g_duplex.specs.declared.twin.Standing.TheVariants.{Apart, Level, Lost}
use Rattle.g_duplex.proofs.DurableLemmas.{Blocks, Hidden, May, ShowsLeader, not_shown, seen}
use Rattle.g_duplex.proofs.RiskLemmas.{of_shown, shown_risk}

-- the racks with these risks
abbrev pub with_risks : List Risk → List Risk → Pair → Pair
with_risks ps qs p = record p { first = record p.first { risks = ps }; second = record p.second { risks = qs } }

module _ (p : Pair) (ps qs : List Risk) (paired : ArePaired p.standings p.first.reels p.second.reels) where
  abbrev q : Pair
  q = with_risks ps qs p

  leading_no_more : LeavesNoMore p.first q.first → LeavesNoMore p.second q.second → (t : Standing) → LeavesNoMore (leading t p) (leading t q)
  leading_no_more one two Level = one
  leading_no_more one two (Apart k) = one
  leading_no_more one two (Lost First) = two
  leading_no_more one two (Lost Second) = one

  -- a reel that neither rack has
  no_reel : (s : ℕ) → standing_in s p ≡ None → risk s (shown q).risks ≡ risk s (shown p).risks
  no_reel s none =
      shown_risk s q paired ∙ ap (λ (o : Option Standing). of_shown o (blocks_of s (shown p)) (risk s ps) (risk s qs)) none
      ∙ sym (shown_risk s p paired ∙ ap (λ (o : Option Standing). of_shown o (blocks_of s (shown p)) (risk s p.first.risks) (risk s p.second.risks)) none)

  module _ (s : ℕ) (t : Standing) (more : LeavesNoMore (leading t p) (leading t q)) where
    leaves_led : Hidden s p ⊎ ShowsLeader s p (leading t p) → Hidden s q ⊎ ShowsLeader s q (leading t q) → (left : Blocks) → MayLeave s (shown q) left → MayLeave s (shown p) left
    leaves_led (inl (none, risk_none)) seen_q left may =
        subst (λ (o : Option Blocks). May o (risk s (shown p).risks) left) (sym none) (not_shown (λ blocks. Leaves (risk s (shown p).risks) blocks left))
    leaves_led (inr (told, blocks, risks)) (inl (none, risk_none)) left may = absurd (let never : true ≡ false = sym told ∙ ap is_some none in cc)
    leaves_led (inr (told, blocks, risks)) (inr (told', blocks', risks')) left may =
        let there : MayLeave s (leading t q) left =
        subst (λ (o : Option Blocks). May o (risk s (leading t q).risks) left) blocks' (subst (λ (r : Option Risk). May (blocks_of s (shown q)) r left) risks' may) in
        subst (λ (o : Option Blocks). May o (risk s (shown p).risks) left) (sym blocks)
        (subst (λ (r : Option Risk). May (blocks_of s (leading t p)) r left) (sym risks) (more.leaves s left there))

    syncs_led : Hidden s p ⊎ ShowsLeader s p (leading t p) → Hidden s q ⊎ ShowsLeader s q (leading t q) → is_syncable s (shown p) ≡ true → is_syncable s (shown q) ≡ true
    syncs_led seen_p (inl (none, risk_none)) is = ap syncs risk_none
    syncs_led (inl (none, risk_none)) (inr (told', blocks', risks')) is = absurd (let never : true ≡ false = sym told' ∙ ap is_some none in cc)
    syncs_led (inr (told, blocks, risks)) (inr (told', blocks', risks')) is = ap syncs risks' ∙ more.syncable s (sym (ap syncs risks) ∙ is)

  module _ (one : LeavesNoMore p.first q.first) (two : LeavesNoMore p.second q.second) (s : ℕ) where
    leaves_by : (o : Option Standing) → standing_in s p ≡ o → (left : Blocks) → MayLeave s (shown q) left → MayLeave s (shown p) left
    leaves_by None none left may = subst (λ (r : Option Risk). May (blocks_of s (shown p)) r left) (no_reel s none) may
    leaves_by (Some t) stand left may = leaves_led s t (leading_no_more one two t) (seen s p t paired stand) (seen s q t paired stand) left may

    syncs_by : (o : Option Standing) → standing_in s p ≡ o → is_syncable s (shown p) ≡ true → is_syncable s (shown q) ≡ true
    syncs_by None none is = ap syncs (no_reel s none) ∙ is
    syncs_by (Some t) stand is = syncs_led s t (leading_no_more one two t) (seen s p t paired stand) (seen s q t paired stand) is

  pub pair_no_more : LeavesNoMore p.first q.first → LeavesNoMore p.second q.second → LeavesNoMore (shown p) (shown q)
  pair_no_more one two = record {
    leaves = λ s left may. leaves_by one two s (standing_in s p) refl left may;
    syncable = λ s is. syncs_by one two s (standing_in s p) refl is;
  }
