-- What has moved twice has moved.
-- serves: lib, crates above
use Rattle.std.proofs.Common.{◌⊎◌, ℕ, ◌<◌, List, ◌++◌, append_assoc, refl, sym, ◌∙◌, ap, arith, subst, inl, inr, zero, suc, [], ◌∷◌}
use Rattle.std.specs.Prelude.{All, Contains, map}
use Rattle.std.proofs.lemmas.List.Elements.{All-contains, All-weaker, Contains-append_left, Contains-append_right}
use Rattle.g_tape.specs.Reel.{Reel}
use Rattle.g_tape.specs.Rack.{Rack}
use Rattle.g_incr.specs.Layout.{Dump}
use Rattle.g_store_meaning.specs.Meaning.{told_reels}
use Rattle.g_store_meaning.proofs.OneLemmas.{on_reel}
use Rattle.g_laws_store.proofs.ClosingLemmas.{all_left}
use Rattle.g_laws_store.proofs.UpOneLemmas.{on_all, reel_named}
use Rattle.g_laws_store.specs.Moving.{AreKept, AreMoved, HasSameReels, IsReplaced, MovingGoesOn}

serial_among : (rs : List Reel) (r : Reel) → Contains rs r → Contains (map (λ (x : Reel). x.serial) rs) r.serial
serial_among [] r (i, within, is) = let no : ⊥ = omega (arith, within) in absurd no
serial_among (q ∷ qs) r (zero, within, is) = (0, omega arith, ap (λ (x : Reel). x.serial) is)
serial_among (q ∷ qs) r (suc i, within, is) = Contains-append_right (q.serial ∷ []) (map (λ (x : Reel). x.serial) qs) r.serial (serial_among qs r (i, omega (arith, within), is))

module _ (mid last : ℕ → List Dump) (b c : Rack) (same : HasSameReels b c) (later : AreMoved mid last (told_reels c)) where
  -- what replaced them is there, or is replaced itself
  replaced : (dumps : List Dump) → IsReplaced mid (told_reels b) dumps → IsReplaced last (told_reels c) dumps
  replaced dumps by = let on = on_reel mid (told_reels b) by.whole by.there in by_reel on.reel on.there on.on (later on.reel.serial)
    where
      by_reel : (r : Reel) → Contains (told_reels b) r → Contains (mid r.serial) by.whole → AreKept (mid r.serial) (last r.serial) ⊎ IsReplaced last (told_reels c) (mid r.serial) → IsReplaced last (told_reels c) dumps
      by_reel r in_b on (inl (more, is)) =
          let (q, in_c, named) = reel_named r.serial (told_reels c) (subst (λ (ns : List ℕ). Contains ns r.serial) (sym same) (serial_among (told_reels b) r in_b)) in
          let here = subst (λ (ds : List Dump). Contains ds by.whole) (sym is) (Contains-append_left (mid r.serial) more by.whole on) in
          record {
            whole = by.whole;
            there = on_all last (told_reels c) q by.whole in_c (subst (λ (n : ℕ). Contains (last n) by.whole) (sym named) here);
            held = by.held;
            newer = by.newer;
          }
      by_reel r in_b on (inr next) =
          let above = All-contains (λ (d : Dump). d.number < next.whole.number) (mid r.serial) by.whole next.newer on in
          record {
            whole = next.whole;
            there = next.there;
            held = next.held;
            newer = All-weaker (λ (d : Dump). d.number < by.whole.number) (λ (d : Dump). d.number < next.whole.number) (λ d less. omega (arith, less, above)) dumps by.newer;
          }

  both : (shelf : ℕ → List Dump) → AreMoved shelf mid (told_reels b) → AreMoved shelf last (told_reels c)
  both shelf first serial = by (first serial) (later serial)
    where
      by : AreKept (shelf serial) (mid serial) ⊎ IsReplaced mid (told_reels b) (shelf serial) → AreKept (mid serial) (last serial) ⊎ IsReplaced last (told_reels c) (mid serial)
          → AreKept (shelf serial) (last serial) ⊎ IsReplaced last (told_reels c) (shelf serial)
      by (inl (one, is)) (inl (two, are)) = inl (one ++ two, are ∙ ap (λ (ds : List Dump). ds ++ two) is ∙ append_assoc (shelf serial) one two)
      by (inl (one, is)) (inr next) = inr (record {
        whole = next.whole;
        there = next.there;
        held = next.held;
        newer = all_left (λ (d : Dump). d.number < next.whole.number) (shelf serial) one (subst (All (λ (d : Dump). d.number < next.whole.number)) is next.newer);
      })
      by (inr gone) other = inr (replaced (shelf serial) gone)

pub moving_goes_on : MovingGoesOn
moving_goes_on = record {
  grown = λ old new grows. record {
    move = λ shelf is.
        let (more, are) = grows shelf is in
        ((λ s. shelf s ++ more s), are, (λ serial. inl (more serial, refl)));
  };
  again = λ a b c same first later. record {
    move = λ shelf is.
        let (mid, are_mid, how) = first.move shelf is in
        let (last, are_last, next) = later.move mid are_mid in
        (last, are_last, both mid last b c same next shelf how);
  };
}
