use Rattle.g_known.proofs.KnownLemmas.{fills_behind, fills_unkept, nothing_known}
use Rattle.g_known.proofs.remembered.Remembered.fill_anew.Goals as goal

pub read_on-read-requires : goal.read_on-read-requires
read_on-read-requires g c = record { known = nothing_known _ _ _ c.new.ensures.items }

pub returns : goal.returns
returns g c =
    fills_behind _ _ _ _ _ _ _ c.requires.none c.requires.known c.read_on-read.ensures.reads c.read_on-read.ensures.serial c.read_on-read.ensures.known c.read_on-read.ensures.noted c.in-Ok.ensures.items

pub returns-in-Err : goal.returns-in-Err
returns-in-Err g c = fills_unkept _ _ _ _ _ _ _ c.requires.known c.read_on-read.ensures.reads c.unkept.ensures.ok c.unkept.ensures.err c.in-Err.ensures.items
