use Rattle.std.proofs.Common.{◌∙◌, ℕ, List, [], ◌∷◌, ◌++◌, ap}
use Rattle.g_tape.specs.Memory.{Memory, memory_of}
use Rattle.g_duplex_tests.proofs.OneReel.{empty_one}
use Rattle.g_duplex_tests.proofs.racks.rack.Goals as goal

pub returns : goal.returns
returns c =
    ap (λ (m : Memory). m.rack.reels) c.fail_reads.ensures
    ∙ ap (λ (m : Memory). m.rack.reels) c.set_leave.ensures
    ∙ empty_one _ (memory_of c.in_ok-tapes.tapes) (c.in_ok-push.ensures.items ∙ ap (λ (xs : List (ℕ × ℕ)). xs ++ (1, 8) ∷ []) c.in_ok-labels.ensures.items) c.in_ok-tapes.ensures
