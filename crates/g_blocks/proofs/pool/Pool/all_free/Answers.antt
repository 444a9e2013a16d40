-- No flag is set, and no group is noted as full.
use Rattle.std.proofs.Common.{rules, ◌≡◌, ◌+◌, ◌/◌, ◌≤◌, ℕ, ap, sym, ◌∙◌, false, length, replicate}
use Rattle.std.proofs.lemmas.List.{length-replicate}
use Rattle.g_blocks.proofs.Between.{between-none}
use Rattle.g_blocks.proofs.Full.{full-none}
use Rattle.g_blocks.proofs.Marks.{AreSetBefore-none, free_flags-none}
use Rattle.g_blocks.proofs.pool.Pool.all_free.Goals as goal

pub invariant_of-result : goal.invariant_of-result
invariant_of-result c =
    let flags = c.in_ok-vec.field-0.items in
    let is : flags ≡ replicate c.args.blocks false = search rules in
    let few : 2177 + length flags ≤ 1048576 = search rules in
    let notes : c.in_ok-vec-2.field-0.items ≡ replicate (c.args.blocks / 128 + 1) false = search rules in
    let long : length flags ≡ c.args.blocks = ap length is ∙ length-replicate c.args.blocks false in
    (free_flags-none flags c.args.blocks is, few, AreSetBefore-none flags, full-none c.in_ok-vec-2.field-0.items flags (c.args.blocks / 128 + 1) notes (ap (λ (n : ℕ). n / 128 + 1) (sym long)), between-none flags)
