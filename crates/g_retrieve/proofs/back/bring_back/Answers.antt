use Rattle.std.proofs.Common.{ℕ, Err, List, Result, length}
use Rattle.g_base.specs.Block.{blocks_for}
use Rattle.g_entry.specs.declared.file_rec.TapeCopy.{TapeCopy}
use Rattle.g_plain.specs.declared.faults.StoreFault.{StoreFault}
use Rattle.g_disc_contents.specs.Contents.{File}
use Rattle.g_online.specs.declared.change.Change.TheVariants.{Bring}
use Rattle.g_online.specs.AllowedChanges.{IsAllowed}
use Rattle.g_laws_store.specs.UnjamPlan.{IsUnjamPlan}
use Rattle.g_retrieve.specs.Retrieval.{IsOnTape}
use Rattle.g_retrieve.proofs.AllowLemmas.{away_is}
use Rattle.g_retrieve.proofs.BackLemmas.{IsAnswered, by_disc, by_tape, filled_here, may_here, not_here, read_here, used_here}
use Rattle.g_retrieve.proofs.back.bring_back.Given as given
use Rattle.g_retrieve.proofs.back.bring_back.Goals as goal

pub unreachable-requires : goal.unreachable-requires
unreachable-requires g c =
    not_here c.args.online.now c.args.number c.tree-tree.result.now.files c.file_of-file.result c.tree-tree.ensures.files c.file_of-file.ensures.value
    (away_is c.args.online.now c.args.number c.requires.live c.requires.tied c.requires.offline) c.in_default.is

pub read_copy-requires-clause-used : goal.read_copy-requires-clause-used
read_copy-requires-clause-used g c =
    used_here c.args.online.now c.args.number c.tree-tree.result.now.files c.tree-tree.ensures.files (away_is c.args.online.now c.args.number c.requires.live c.requires.tied c.requires.offline)

pub read_copy-requires-clause-filled : goal.read_copy-requires-clause-filled
read_copy-requires-clause-filled g c =
    filled_here c.args.online.now c.args.number c.tree-tree.result.now.files c.file_of-file.result c.requires.live c.requires.tied c.tree-tree.ensures.files c.file_of-file.ensures.value
    (away_is c.args.online.now c.args.number c.requires.live c.requires.tied c.requires.offline)

may_there : (g : given.Over) (c : goal.After-put_back-arg-1 g)
    → IsAllowed (Bring c.args.number c.in-Ok.text c.args.unjam.now.take) c.args.online.now × IsUnjamPlan (blocks_for (length c.in-Ok.text)) c.args.online.now c.args.unjam.now.take c.args.unjam.now.room
may_there g c =
    let (f, k, away) = away_is c.args.online.now c.args.number c.requires.live c.requires.tied c.requires.offline in
    may_here c.args.number c.args.unjam.now c.args.online.now _ _ f k c.requires.live c.requires.tied away c.in-Ok.text
    (read_here c.args.online.now c.args.number c.tree-tree.result.now.users c.tree-tree.result.now.files c.file_of-file.result c.in-Some.copy _ _ _ f k
    c.tree-tree.ensures.users c.tree-tree.ensures.files c.file_of-file.ensures.value c.in-Some.is away c.in-Ok.ensures)
    c.requires.plan

pub put_back-requires-clause-allowed : goal.put_back-requires-clause-allowed
put_back-requires-clause-allowed g c = (may_there g c).0

pub put_back-requires-clause-plan : goal.put_back-requires-clause-plan
put_back-requires-clause-plan g c = (may_there g c).1

put_there : (g : given.Over) (c : goal.After-put_back g) (f : File) (k : TapeCopy) → IsOnTape c.args.number c.args.online.now f k
    → IsAnswered c.args.number c.args.unjam.now c.args.online.now c.put_back.new.online (g.T.Tapes.rack c.args.tapes.now) (g.T.Tapes.rack c.read_copy.new.tapes) f k c.put_back.result
put_there g c f k away =
    by_disc c.args.number c.args.unjam.now c.args.online.now _ _ f k c.requires.live c.requires.tied away c.put_back.new.online c.in-Ok.text c.put_back.result
    (read_here c.args.online.now c.args.number c.tree-tree.result.now.users c.tree-tree.result.now.files c.file_of-file.result c.in-Some.copy _ _ _ f k
    c.tree-tree.ensures.users c.tree-tree.ensures.files c.file_of-file.ensures.value c.in-Some.is away c.in-Ok.ensures)
    c.put_back.ensures

pub returns-in-Ok : goal.returns-in-Ok
returns-in-Ok g c =
    let (f, k, away) = away_is c.args.online.now c.args.number c.requires.live c.requires.tied c.requires.offline in
    record {
      waits = λ f k away. (put_there g c f k away).waits;
      lost = λ f k away. (put_there g c f k away).lost;
      full = λ f k away. (put_there g c f k away).full;
      brought = λ f k away. (put_there g c f k away).brought;
      keeps = (put_there g c f k away).keeps;
      only = λ f k away. (put_there g c f k away).only;
    }

refused_there : (g : given.Over) (c : goal.In-Err g) (f : File) (k : TapeCopy) → IsOnTape c.args.number c.args.online.now f k
    → IsAnswered c.args.number c.args.unjam.now c.args.online.now c.args.online.now (g.T.Tapes.rack c.args.tapes.now) (g.T.Tapes.rack c.read_copy.new.tapes) f k (let r : Result (List ℕ) StoreFault = Err c.in-Err.fault in r)
refused_there g c f k away =
    by_tape c.args.number c.args.unjam.now c.args.online.now _ _ f k c.requires.live c.requires.tied away c.in-Err.fault
    (read_here c.args.online.now c.args.number c.tree-tree.result.now.users c.tree-tree.result.now.files c.file_of-file.result c.in-Some.copy _ _ _ f k
    c.tree-tree.ensures.users c.tree-tree.ensures.files c.file_of-file.ensures.value c.in-Some.is away c.in-Err.ensures)

pub returns-in-Err : goal.returns-in-Err
returns-in-Err g c =
    let (f, k, away) = away_is c.args.online.now c.args.number c.requires.live c.requires.tied c.requires.offline in
    record {
      waits = λ f k away. (refused_there g c f k away).waits;
      lost = λ f k away. (refused_there g c f k away).lost;
      full = λ f k away. (refused_there g c f k away).full;
      brought = λ f k away. (refused_there g c f k away).brought;
      keeps = (refused_there g c f k away).keeps;
      only = λ f k away. (refused_there g c f k away).only;
    }
