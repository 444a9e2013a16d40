use Rattle.std.proofs.Common.{◌∙◌, ap}
use Rattle.g_tape.proofs.ReadLemmas.{nothing_read}
use Rattle.g_look.proofs.CheckedLemmas.{mounted_told}
use Rattle.g_seal.proofs.OwnLemmas.{own_rotten}
use Rattle.g_seal.proofs.twins.twins_of.Goals as goal

pub rotten_dumps-requires : goal.rotten_dumps-requires
rotten_dumps-requires g c = record { mounted = mounted_told (g.T.Tapes.rack c.args.second.now) (g.T.Tapes.rack c.args.second.now) (nothing_read (g.T.Tapes.rack c.args.second.now)) c.requires.mounted }

pub find_files-requires : goal.find_files-requires
find_files-requires g c = record { mounted = mounted_told (g.T.Tapes.rack c.args.second.now) _ c.in-Ok.ensures.tapes.only c.requires.mounted }

pub returns-in-Ok-find_files-clause-unchanged : goal.returns-in-Ok-find_files-clause-unchanged
returns-in-Ok-find_files-clause-unchanged g c = λ told dumps are.
    ap (λ v. v.items) c.in-Ok-find_files.ensures.rotten
    ∙ own_rotten _ _ _ dumps (c.in-Ok.ensures.rotten told) (c.as_slice.ensures.value ∙ are)
