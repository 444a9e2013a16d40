use Rattle.g_laws_power.proofs.SurvivalLemmas.{calls_keep_safe, left_can_be_safe, left_is_durable, making_is_safe, stopped_calls_survive, store_survives}
use Rattle.g_laws_power.proofs.power_losses.Goals as goal

pub returns-clause-between : goal.returns-clause-between
returns-clause-between c = store_survives

pub returns-clause-stopped : goal.returns-clause-stopped
returns-clause-stopped c = stopped_calls_survive

pub returns-clause-safe : goal.returns-clause-safe
returns-clause-safe c = calls_keep_safe

pub returns-clause-left : goal.returns-clause-left
returns-clause-left c = left_is_durable

pub returns-clause-making : goal.returns-clause-making
returns-clause-making c = making_is_safe

pub returns-clause-can : goal.returns-clause-can
returns-clause-can c = left_can_be_safe
