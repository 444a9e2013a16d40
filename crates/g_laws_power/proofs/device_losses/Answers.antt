use Rattle.g_laws_power.proofs.DeviceLemmas.{durable_are_safe, format_is_safe, left_is_safe, refusals_keep_safe, stops_leave_safe}
use Rattle.g_laws_power.proofs.device_losses.Goals as goal

pub returns-clause-stops : goal.returns-clause-stops
returns-clause-stops c = stops_leave_safe

pub returns-clause-refusals : goal.returns-clause-refusals
returns-clause-refusals c = refusals_keep_safe

pub returns-clause-format : goal.returns-clause-format
returns-clause-format c = format_is_safe

pub returns-clause-left : goal.returns-clause-left
returns-clause-left c = left_is_safe

pub returns-clause-durable : goal.returns-clause-durable
returns-clause-durable c = durable_are_safe
