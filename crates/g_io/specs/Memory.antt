-- A source and a sink in memory: what they hold, and which of their calls fail.
use Rattle.std.specs.Prelude.{ℕ, List}

-- A source: the unread bytes, the numbers of the calls that fail, the number of calls, and the number of failed calls.
pub record SourceView : Type 0 where
  pub left : List ℕ
  pub fail : List ℕ
  pub calls : ℕ
  pub faults : ℕ

-- A sink: the bytes that were written, and the capacity in bytes; the other fields are those of a source.
pub record SinkView : Type 0 where
  pub text : List ℕ
  pub room : ℕ
  pub fail : List ℕ
  pub calls : ℕ
  pub faults : ℕ
