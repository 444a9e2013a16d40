use Rattle.g_job.proofs.WellLemmas.{turn_keeps, turn_ran, turn_same, turn_spent, turn_waits}
use Rattle.g_job.proofs.laws.turns_leave_their_store.Goals as goal

pub returns : goal.returns
returns g c =
    let answers = g.S.Filestore.answers in
    let spent = g.S.Filestore.is_spent in
    let can_wait = g.S.Filestore.can_wait in
    record {
      ran = turn_ran answers spent can_wait;
      spent = turn_spent answers spent can_wait;
      waits = turn_waits answers spent can_wait;
      same_waits = turn_same answers spent can_wait;
      within = turn_keeps answers spent can_wait;
    }
