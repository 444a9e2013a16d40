-- Runs of programs, with their answers.
use Rattle.std.specs.Prelude.{◌≡◌, ℕ, List, [], ◌∷◌}
use Rattle.g_plain.specs.declared.calls.StoreCall.{StoreCall}
use Rattle.g_plain.specs.Programs.{Answer, Asks, Gives, Call, IsAnswer}

module _ {S A : Type 0} (answers : S → List ℕ → StoreCall → Answer → S → Type 0) (who : List ℕ) where
  -- Exactly the program's calls were made in their order, and these were their answers.
  abbrev pub RanBy : S → Asks A → List Answer → A → S → Type 0
  RanBy old (Gives x) [] given new = (given ≡ x) × (new ≡ old)
  RanBy old (Gives x) (answer ∷ told) given new = ⊥
  RanBy old (Call call more) [] given new = ⊥
  RanBy old (Call call more) (answer ∷ told) given new = (mid : S) × answers old who call answer mid × IsAnswer answer × RanBy mid (more answer) told given new
