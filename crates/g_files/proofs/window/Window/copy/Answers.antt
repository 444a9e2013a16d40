use Rattle.std.proofs.Common.{◌≡◌, ℕ, ◌-◌, ◌*◌, List, ap, sym, ◌∙◌, arith}
use Rattle.g_files.specs.Bytes.{part}
use Rattle.g_files.proofs.BytesLemmas.{part_take}
use Rattle.g_files.proofs.window.Window.copy.Goals as goal

pub returns-clause-copied : goal.returns-clause-copied
returns-clause-copied c =
    let w = c.self.inside in
    let same : 512 * (c.args.k - w.first) ≡ 512 * c.args.k - 512 * w.first = omega arith in
    let long = c.self.invariant.0 in
    λ is. rw (← c.self.view_is) (c.copy_block.ensures ∙ ap (λ (xs : List ℕ). part (512 * (c.args.k - w.first)) 512 xs) c.deref.ensures.value
    ∙ ap (λ (i : ℕ). part i 512 w.bytes.items) same ∙ sym (part_take (512 * c.args.k - 512 * w.first) 512 (512 * w.count) w.bytes.items (omega arith)
    (omega arith)))
