use Rattle.g_monitor.proofs.NumberLemmas.{fault_begins, error_begins}
use Rattle.g_monitor.proofs.laws.refusals_begin_with_their_numbers.Goals as goal

pub returns : goal.returns
returns c = record { faults = fault_begins; errors = error_begins }
