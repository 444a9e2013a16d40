use Rattle.std.proofs.Common.{◌++◌, ◌∙◌, List, ap, arith, length, length-take-le, replicate, ℕ}
use Rattle.g_base.proofs.FieldLemmas.{more_zeros, zeros_put}
use Rattle.g_base.proofs.writer.BlockWriter.put_zeros.Goals as goal

pub invariant_of-self : goal.invariant_of-self
invariant_of-self c =
    let part = c.self.invariant in
    let long = length-take-le c.self.inside.at c.self.inside.block (omega arith) in
    let put = ap length c.self.view_is in more_zeros _ _ _ (omega arith) part

pub returns : goal.returns
returns c =
    let part = c.self.invariant in
    let long = length-take-le c.self.inside.at c.self.inside.block (omega arith) in
    let put = ap length c.self.view_is in
    zeros_put _ _ _ (omega arith) part ∙ ap (λ (front : List ℕ). front ++ replicate c.args.count 0) c.self.view_is
