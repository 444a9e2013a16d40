-- Zeros after the end make no difference, whether or not they are written.
use Rattle.std.proofs.Common.{◌+◌, ◌-◌, ◌≤◌, ℕ, List, length, replicate, slice_index_or, sym, ap, ◌∙◌, arith, get_or-set_other}
use Rattle.std.proofs.lemmas.List.{get_or_past}
use Rattle.std.proofs.lemmas.Slice.Eq.{bytes_eq-Decides}
use Rattle.g_base.specs.Fields.{padded}
use Rattle.g_dirs.proofs.KnownLemmas.{filled_at}
use Rattle.g_dirs.proofs.known.put.Goals as goal

pub returns-then-is_zeros-clause-here : goal.returns-then-is_zeros-clause-here
returns-then-is_zeros-clause-here c =
    let zeros = replicate {A = ℕ} 512 0 in
    let past : length c.args.blocks.now.items ≤ c.args.k = omega (arith, c.if-len-k.true, c.len.ensures) in
    get_or_past c.args.blocks.now.items c.args.k zeros past
    ∙ (bytes_eq-Decides zeros (padded 512 c.args.writer.now)).0 (sym c.is_zeros.ensures ∙ c.if-is_zeros.true)

pub returns-clause-rest : goal.returns-clause-rest
returns-clause-rest c = λ j other.
    let zeros = replicate {A = ℕ} 512 0 in
    let old = c.args.blocks.now.items in
    get_or-set_other c.reach.new.blocks.items c.args.k j c.keep.new.self zeros other
    ∙ ap (λ (bs : List (List ℕ)). slice_index_or bs j zeros) c.reach.ensures.items
    ∙ filled_at old (c.args.k + 1 - length old) j zeros
