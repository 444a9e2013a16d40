use Rattle.std.proofs.Common.{refl}
use Rattle.g_look.proofs.HeadLemmas.{no_number, number_there}
use Rattle.g_look.proofs.SeenLemmas.{told_apart}
use Rattle.g_look.proofs.rack_text.capacity_of.Goals as goal

pub returns-in-Ok : goal.returns-in-Ok
returns-in-Ok g c = number_there (λ q. q.capacity) (λ q. refl) (g.T.Tapes.rack c.args.tapes.now) _ _ (told_apart (g.T.Tapes.rack c.args.tapes.now) (g.met.T.Tapes.well_formed _)) c.in-Ok.ensures

pub returns-in-Err : goal.returns-in-Err
returns-in-Err g c = λ r there on. absurd (no_number (λ q. q.capacity) (g.T.Tapes.rack c.args.tapes.now) _ _ c.in-Err.ensures r there on)
