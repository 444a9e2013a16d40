-- The words of operator lines.
use Rattle.std.specs.Prelude.{ℕ, List, codes}
use Rattle.g_reasons.specs.declared.word.Word.{Word}
use Rattle.g_reasons.specs.declared.word.Word.TheVariants as word

-- the text of a word
abbrev pub word_text : Word → List ℕ
word_text word.Format = codes "FORMAT"
word_text word.Start = codes "START"
word_text word.Restore = codes "RESTORE"
word_text word.Shut = codes "SHUT"
word_text word.Mount = codes "MOUNT"
word_text word.Unmount = codes "UNMOUNT"
word_text word.Dump = codes "DUMP"
word_text word.Process = codes "PROCESS"
word_text word.Migrate = codes "MIGRATE"
word_text word.Stop = codes "STOP"
word_text word.Login = codes "LOGIN"
word_text word.Type = codes "TYPE"
word_text word.Logout = codes "LOGOUT"
word_text word.Job = codes "JOB"
