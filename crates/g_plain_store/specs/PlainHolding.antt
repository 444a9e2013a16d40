-- The plain tree itself is a store that holds a tree.
use Rattle.std.proofs.Common.{◌≡◌, ℕ, List, Err, refl, ap, ◌∙◌, inl, true≢false}
use Rattle.g_plain.specs.declared.calls.StoreCall.{StoreCall}
use Rattle.g_plain.specs.declared.faults.StoreFault.TheVariants.{NoMemory}
use Rattle.g_plain.specs.PlainTree.{Tree}
use Rattle.g_plain.specs.Programs.{Answer, IsAnswer}
use Rattle.g_plain.specs.PlainStep.{plain_answer, plain_tree, IsPlainAnswer}
use Rattle.g_plain.specs.PlainAnswers.{PlainOrDevice}

-- The plain store's answers are those of the plain step on the tree that it holds.
pub plain_holds : (old t : Tree) (who : List ℕ) (call : StoreCall) (answer : Answer) (new : Tree) → old ≡ t
    → IsPlainAnswer old who call answer new → IsAnswer answer → (after : Tree) × PlainOrDevice t who call answer after × (new ≡ after)
plain_holds old t who call (Err NoMemory) new same is real = absurd (true≢false real)
plain_holds old t who call answer new same is real = (
  plain_tree t who call,
  inl (is.0 ∙ ap (λ u. plain_answer u who call) same, refl),
  is.1 ∙ ap (λ u. plain_tree u who call) same,
)
