-- One text after another.
-- serves: push_dump, push_falls, push_lengths, push_line, push_too_far, push_too_new, push_twice, push_unbroken, ShownLemmas
use Rattle.std.proofs.Common.{◌≡◌, ℕ, List, ◌++◌, Result, Ok, Err, ◌∙◌, ap}
use Rattle.std.specs.Prelude.{OnOk}
use Rattle.std.proofs.lemmas.List.{append_assoc}
use Rattle.g_base.specs.declared.memory.NoMemory.{NoMemory}

pub then_more : (old a b first second : List ℕ) → first ≡ old ++ a → second ≡ first ++ b → second ≡ old ++ (a ++ b)
then_more old a b first second is more = more ∙ ap (λ (xs : List ℕ). xs ++ b) is ∙ append_assoc old a b

pub last_more : (result : Result (Unit {0}) NoMemory) (old a b first second : List ℕ) → first ≡ old ++ a → OnOk result (second ≡ first ++ b) → OnOk result (second ≡ old ++ (a ++ b))
last_more (Ok u) old a b first second is more = then_more old a b first second is more
last_more (Err e) old a b first second is more = tt

pub on_ok : (P Q : Type 0) (result : Result (Unit {0}) NoMemory) → (P → Q) → OnOk result P → OnOk result Q
on_ok P Q (Ok u) change is = change is
on_ok P Q (Err e) change is = tt
