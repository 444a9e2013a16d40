use Rattle.g_script.proofs.OneReading.{reading_unique}
use Rattle.g_script.proofs.law.one_reading.Goals as goal

pub returns : goal.returns
returns c = reading_unique 1
