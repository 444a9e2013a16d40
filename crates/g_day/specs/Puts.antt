-- What is written to a sink, completely or in part, and the sink's fault counter.
use Rattle.std.specs.Prelude.{◌≡◌, ℕ, List, Option, Some, None}
use Rattle.g_base.specs.Counts.{Rose}
use Rattle.g_io.specs.Streams.{with_more, HasPutPart}
use Rattle.g_day.specs.declared.progress.Failure.{Failure}
use Rattle.g_day.specs.declared.progress.Failure.TheVariants as failures

-- The sink's counter rises only with a failed write.
abbrev pub FaultCause : Option Failure → ℕ → ℕ → Type 0
FaultCause None old new = new ≡ old
FaultCause (Some failures.Output) old new = Rose old new
FaultCause (Some failures.Memory) old new = new ≡ old

-- A text was written completely, or, if there was a failure, in part.
abbrev pub PutsBy : Option Failure → List ℕ → Option (List ℕ) → Option (List ℕ) → Type 0
PutsBy None text before after = after ≡ with_more before text
PutsBy (Some failure) text before after = HasPutPart before text after

-- A text was written, completely or in part, and the sink's fault counter rose only with a failed write.
pub record Puts (failure : Option Failure) (text : List ℕ) (before after : Option (List ℕ)) (old new : ℕ) : Type 0 where
  pub put : PutsBy failure text before after
  pub cause : FaultCause failure old new

-- Some text was written, which isn't specified.
pub record HasGrown (before after : Option (List ℕ)) : Type 0 where
  pub more : List ℕ
  pub put : after ≡ with_more before more
