use Rattle.std.proofs.Common.{◌-◌, length, ◌∙◌, rules}
use Rattle.std.proofs.lemmas.List.{places}
use Rattle.g_files.proofs.CallLemmas.{read_step, read_none}
use Rattle.g_files.proofs.whole.read_whole.Goals as goal
use Rattle.g_files.proofs.whole.read_whole.Goals.{in-Ok, in-Err}

pub loop-call-preserved : goal.loop-call-preserved
loop-call-preserved g c =
    let done = c.loop-call.done in
    let into = c.loop-call.into in
    let inv = c.loop-call.invariant in
    let room = length into - done in
    let new = c.read_at.new.into in
    elim c.match-read_at.branch [
      | in-Ok w ↦ rw w.done-is record {
        within = search (rules, places);
        same = w.in-Ok.ensures.same ∙ inv.same;
        as_durable = w.in-Ok.ensures.as_durable ∙ inv.as_durable;
        told = λ x is. read_step c.args.at done w.in-Ok.count room into new x inv.within (w.in-Ok.ensures.count) (inv.told x is)
            ((w.in-Ok.ensures.given x (inv.same ∙ is)).given);
      }
      | in-Err w ↦ rw w.done-is record {
        within = search (rules, places);
        same = w.in-Err.ensures.same ∙ inv.same;
        as_durable = w.in-Err.ensures.as_durable ∙ inv.as_durable;
        told = λ x is. read_none done room into new inv.within ∙ inv.told x is;
      }
    ]
