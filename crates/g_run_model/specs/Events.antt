-- The events of a run: the definitions of g_any_run.
pub use Rattle.g_any_run.specs.Events.{IsTold, IsCall, IsDumpStep, IsOpening, IsProcessing, IsMigration, IsFormat, IsStart, IsRestore, IsMounting, IsUnmounting}
