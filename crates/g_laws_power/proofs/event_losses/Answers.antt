use Rattle.g_laws_power.proofs.EventLemmas.{events_keep_safe, process_keeps_safe, stopped_can_be_safe, stopped_events_survive}
use Rattle.g_laws_power.proofs.event_losses.Goals as goal

pub returns-clause-stopped : goal.returns-clause-stopped
returns-clause-stopped c = stopped_events_survive

pub returns-clause-safe : goal.returns-clause-safe
returns-clause-safe c = events_keep_safe

pub returns-clause-can : goal.returns-clause-can
returns-clause-can c = stopped_can_be_safe

pub returns-clause-process : goal.returns-clause-process
returns-clause-process c = process_keeps_safe
