-- Causes of failures: calls of the system that failed.
use Rattle.std.specs.Prelude.{◌≤◌, ℕ, OnErr, Result}
use Rattle.g_base.specs.Counts.{Rose}

-- What is done by several calls of the system fails only if one of them did. The count of failed calls doesn't fall.
pub record FailsByFault {T E : Type 0} (result : Result T E) (before after : ℕ) : Type 0 where
  pub later : before ≤ after
  pub rose : OnErr result (Rose before after)
