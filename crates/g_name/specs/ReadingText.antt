-- The text that a reader of paths has read, and the invariant of its parts.
use Rattle.std.specs.Prelude.{◌≡◌, ◌<◌, ◌≤◌, true, []}
use Rattle.g_name.specs.Grammar.{is_word, is_lang}
use Rattle.g_name.specs.Words.{may_be_word}
use Rattle.g_name.specs.declared.path_reader.Part.{Part}
use Rattle.g_name.specs.declared.path_reader.Part.TheVariants.{User, Local, Generation, Lang, Closed, LangClosed}
use Rattle.g_name.specs.declared.path_reader.PathReader.{PathReader}

-- The parts after the current one are empty, and a mandatory part before it is complete.
abbrev pub Reached : Part → PathReader → Type 0
Reached User r = (r.local ≡ []) × (r.generation ≡ 0) × (r.lang ≡ [])
Reached Local r = (r.generation ≡ 0) × (r.lang ≡ [])
Reached Generation r = (is_word r.local ≡ true) × (r.lang ≡ [])
Reached Lang r = is_word r.local ≡ true
Reached Closed r = (is_word r.local ≡ true) × (0 < r.generation) × (r.lang ≡ [])
Reached LangClosed r = is_word r.local ≡ true

-- The invariant of a reader: each part is a prefix of a valid one, and the parts fit the current one.
pub record IsReading (r : PathReader) : Type 0 where
  pub user : may_be_word r.user ≡ true
  pub local : may_be_word r.local ≡ true
  pub generation : r.generation ≤ 4095
  pub lang : is_lang r.lang ≡ true
  pub reached : Reached r.part r
