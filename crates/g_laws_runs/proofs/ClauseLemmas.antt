-- Whose a failed write is.
-- serves: tapes_cut_no_call
use Rattle.std.proofs.Common.{◌≡◌, ◌+◌, List, [], ◌∷◌, refl, sym, ◌∙◌, ap, arith}
use Rattle.std.specs.Prelude.{◌≢◌, Bool, true, false, cond, filter}
use Rattle.std.specs.List.{AllByRecursion}
use Rattle.std.proofs.lemmas.List.Elements.{All-from_recursion}
use Rattle.g_store_model.specs.CallStep.{Cut, Outcome}
use Rattle.g_run_model.specs.Moves.{Move, counted, cuts_in, cuts_of_calls, not_dump, outcome_of}
use Rattle.g_laws_runs.specs.Cuts.{TapesCutNoCall}
use Rattle.g_laws_runs.proofs.UnrisenLemmas.{first_none, rest_none, unrisen}

cut_is : (o : Outcome) → cuts_in o ≡ 0 → o ≢ Cut
cut_is o none cut = let one : cuts_in Cut ≡ 0 = sym (ap cuts_in cut) ∙ none in let no : ⊥ = omega (arith, one) in no

abbrev Uncut : Move → Type 0
Uncut move = not_dump move ≡ true → outcome_of move ≢ Cut

uncut : (moves : List Move) → counted cuts_in (filter not_dump moves) ≡ 0 → AllByRecursion Uncut moves
uncut [] none = tt
uncut (move ∷ moves) none = by (not_dump move) refl none (λ rest. uncut moves rest)
  where
    by : (b : Bool) → not_dump move ≡ b → counted cuts_in (cond b (move ∷ filter not_dump moves) (filter not_dump moves)) ≡ 0 → (counted cuts_in (filter not_dump moves) ≡ 0 → AllByRecursion Uncut moves)
        → AllByRecursion Uncut (move ∷ moves)
    by true is none again = (
      (λ dump. cut_is (outcome_of move) (first_none (cuts_in (outcome_of move)) (counted cuts_in (filter not_dump moves)) none)),
      again (rest_none (cuts_in (outcome_of move)) (counted cuts_in (filter not_dump moves)) none),
    )
    by false is none again = ((λ dump. absurd (let both : true ≡ false = sym dump ∙ is in let no : ⊥ = cc in no)), again none)

pub tapes_cut_no_call : TapesCutNoCall
tapes_cut_no_call moves last old new counts none =
    let cuts = counts.cuts in
    All-from_recursion Uncut moves (uncut moves (first_none (cuts_of_calls moves) cuts.of_disc (unrisen (cuts_of_calls moves + cuts.of_disc) old.disc.write_faults new.disc.write_faults cuts.disc.rose none)))
