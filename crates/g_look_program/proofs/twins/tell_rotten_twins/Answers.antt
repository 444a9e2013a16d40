use Rattle.std.proofs.Common.{inl, inr, refl}
use Rattle.g_look_program.proofs.BothLemmas.{some_twins, told_of}
use Rattle.g_look_program.proofs.twins.tell_rotten_twins.Goals as goal

pub returns-clause-rotten : goal.returns-clause-rotten
returns-clause-rotten g c =
    inl (told_of c.args.so_far c.in-Done.is, inr (some_twins c.args.twins.now c.in-Err.ensures.memory, inr (refl, record { same = refl; kept = refl })))
