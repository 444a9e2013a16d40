-- The steps of a reader of paths, which consumes one byte at a time.
use Rattle.std.specs.Prelude.{ℕ, ◌+◌, ◌-◌, ◌*◌, Bool, true, false, not, ◌&&◌, ◌==◌, nat_le, List, [], ◌∷◌, ◌++◌, Option, Some, None, if◌then◌else◌}
use Rattle.g_name.specs.Grammar.{is_digit}
use Rattle.g_name.specs.Words.{is_empty, extends, extends_lang}
use Rattle.g_name.specs.Names.{Name}
use Rattle.g_name.specs.declared.path_reader.Part.{Part}
use Rattle.g_name.specs.declared.path_reader.Part.TheVariants.{User, Local, Generation, Lang, Closed, LangClosed}
use Rattle.g_name.specs.declared.path_reader.PathReader.{PathReader}

-- The generation with one more digit.
abbrev pub with_digit : ℕ → ℕ → ℕ
with_digit generation byte = 10 * generation + (byte - 48)

-- The number is a valid generation.
abbrev pub is_generation : ℕ → Bool
is_generation n = nat_le 1 n && nat_le n 4095

-- The reader, in another part of the path.
abbrev pub with_part : PathReader → Part → PathReader
with_part r part = record r { part = part }

-- The reader after a byte of the user; None if the byte isn't accepted there.
abbrev pub step_user : ℕ → PathReader → Option PathReader
step_user byte r =
    if extends r.user byte then Some (record r { user = r.user ++ byte ∷ [] })
    else if byte == 46 && not (is_empty r.user) then Some (with_part r Local)
    else None

-- The reader after a byte of the local name; a colon at the beginning starts the user.
abbrev pub step_local : ℕ → PathReader → Option PathReader
step_local byte r =
    if extends r.local byte then Some (record r { local = r.local ++ byte ∷ [] })
    else if byte == 58 && is_empty r.user && is_empty r.local then Some (with_part r User)
    else if byte == 40 && not (is_empty r.local) then Some (with_part r Generation)
    else None

-- The reader after a byte of the generation.
abbrev pub step_generation : ℕ → PathReader → Option PathReader
step_generation byte r =
    if is_digit byte && is_generation (with_digit r.generation byte) then Some (record r { generation = with_digit r.generation byte })
    else if byte == 47 then Some (with_part r Lang)
    else if byte == 41 && not (r.generation == 0) then Some (with_part r Closed)
    else None

-- The reader after a byte of the language.
abbrev pub step_lang : ℕ → PathReader → Option PathReader
step_lang byte r =
    if extends_lang r.lang byte then Some (record r { lang = r.lang ++ byte ∷ [] })
    else if byte == 41 then Some (with_part r LangClosed)
    else None

-- The reader after a byte in this part of the path; after the closing bracket no byte is accepted.
abbrev pub step_in : Part → ℕ → PathReader → Option PathReader
step_in User byte r = step_user byte r
step_in Local byte r = step_local byte r
step_in Generation byte r = step_generation byte r
step_in Lang byte r = step_lang byte r
step_in Closed byte r = None
step_in LangClosed byte r = None

-- The reader after a byte; None if no path continues with it.
abbrev pub step : ℕ → PathReader → Option PathReader
step byte r = step_in r.part byte r

-- The reader at the first byte.
abbrev pub start : PathReader
start = record { part = Local; user = []; local = []; generation = 0; lang = [] }

-- A path may end in this part.
abbrev pub may_end : Part → Bool → Bool
may_end Local has_local = has_local
may_end Closed has_local = true
may_end LangClosed has_local = true
may_end _ has_local = false

-- The reader has read a complete path.
abbrev pub is_whole : PathReader → Bool
is_whole r = may_end r.part (not (is_empty r.local))

-- The user that was read, if there was one.
abbrev pub user_read : List ℕ → Option (List ℕ)
user_read [] = None
user_read (first ∷ others) = Some (first ∷ others)

-- The generation that was read, if there was one.
abbrev pub generation_read : ℕ → Option ℕ
generation_read n = if n == 0 then None else Some n

-- The language that was read, if there was one.
abbrev pub lang_read : Part → List ℕ → Option (List ℕ)
lang_read LangClosed lang = Some lang
lang_read _ lang = None

-- The name that has been read.
abbrev pub name_read : PathReader → Name
name_read r = record {
  user = user_read r.user;
  local = r.local;
  generation = generation_read r.generation;
  lang = lang_read r.part r.lang;
}
