-- What follows the release of all units.
-- serves: drop_program (err, ok), end_job (err, ok)
use Rattle.std.proofs.Common.{◌≡◌, ℕ, Bool, true, false, List, subst}
use Rattle.g_turn.specs.Releases.{release_all}
use Rattle.g_turn.specs.Outcomes.{is_over}
use Rattle.g_turn.specs.State.{Work}
use Rattle.g_turn.specs.Steps.{RanWell}
use Rattle.g_turn.proofs.WellThen.{part_first, part_then, well_over, well_then}
use Rattle.g_plain.specs.Programs.{Answer, Asks, RanInPart, and_then}
use Rattle.g_plain.specs.declared.calls.StoreCall.{StoreCall}

module _ {S : Type 0} (answers : S → List ℕ → StoreCall → Answer → S → Type 0) (is_spent : S → Bool) (can_wait : S → ℕ → Bool) (who : List ℕ) (room : ℕ) (next : Work → Asks Work) where
  abbrev Behind : Work → Asks Work
  Behind start = and_then is_over (release_all room start) next

  pub release_over : (start d v : Work) (old mid : S) → d ≡ start → RanWell answers is_spent can_wait who old (release_all room d) v mid → is_over v ≡ true
      → RanWell answers is_spent can_wait who old (Behind start) v mid
  release_over start d v old mid is r over =
      subst (λ (y : Work). RanWell answers is_spent can_wait who old (Behind y) v mid) is (well_over answers is_spent can_wait who (release_all room d) next old mid v r over)

  pub release_then : (start d v u : Work) (old mid new : S) → d ≡ start → RanWell answers is_spent can_wait who old (release_all room d) v mid → is_over v ≡ false
      → RanWell answers is_spent can_wait who mid (next v) u new → RanWell answers is_spent can_wait who old (Behind start) u new
  release_then start d v u old mid new is r goes later =
      subst (λ (y : Work). RanWell answers is_spent can_wait who old (Behind y) u new) is
      (well_then answers is_spent can_wait who (release_all room d) next old mid new v u r goes later)

  pub release_first : (start d : Work) (old new : S) → d ≡ start → RanInPart answers who old (release_all room d) new → RanInPart answers who old (Behind start) new
  release_first start d old new is r =
      subst (λ (y : Work). RanInPart answers who old (Behind y) new) is (part_first answers is_spent can_wait who (release_all room d) next old new r)

  pub release_part : (start d v : Work) (old mid new : S) → d ≡ start → RanWell answers is_spent can_wait who old (release_all room d) v mid → is_over v ≡ false
      → RanInPart answers who mid (next v) new → RanInPart answers who old (Behind start) new
  release_part start d v old mid new is r goes later =
      subst (λ (y : Work). RanInPart answers who old (Behind y) new) is
      (part_then answers is_spent can_wait who (release_all room d) next old mid new v r goes later)
