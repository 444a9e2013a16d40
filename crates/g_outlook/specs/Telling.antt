-- THE WARNING about a RESTORE that would be refused, or would lack a dump: its text, and what is printed of it.
use Rattle.std.specs.Prelude.{◌≡◌, ℕ, List, [], ◌++◌, Bool, true, false, Option, Some, None, Result, Ok, Err, codes, if◌then◌else◌}
use Rattle.g_base.specs.Counts.{Rose}
use Rattle.g_io.specs.Streams.{HasPutPart, with_more}
use Rattle.g_plain.specs.declared.faults.StoreFault.{StoreFault}
use Rattle.g_plain.specs.declared.faults.StoreFault.TheVariants.{NoDump}
use Rattle.g_incr.specs.Layout.{Dump}
use Rattle.g_monitor.specs.Refusals.{fault_line}
use Rattle.g_look.specs.declared.outlook.Outlook.{Outlook}
use Rattle.g_look.specs.Outlooks.{IsForeseenOn}
use Rattle.g_look.specs.Text.{told}
use Rattle.g_outlook.specs.declared.outlook.Untold.{Untold}
use Rattle.g_outlook.specs.declared.outlook.Untold.TheVariants.{Output}

-- The line about the refusal with which a restore would end.
abbrev pub refusal_line : Option StoreFault → List ℕ
refusal_line None = []
refusal_line (Some fault) = codes "george: a RESTORE would be refused: " ++ fault_line fault ++ codes "\n"

-- The line about a dump that the rack lacks.
abbrev pub missing_line : Option ℕ → List ℕ
missing_line None = []
missing_line (Some number) = told (codes "george: a RESTORE would lack dump ") number ++ codes ", which is on no reel of george.tapes\n"

-- The line that says what to do.
abbrev pub advice : List ℕ
advice = codes "george: put back the reel that was lost, moved away or replaced by an older copy; without it, START and PROCESS onto an empty reel; see docs/MANUAL.md\n"

-- There is nothing to warn about: a restore would end well and lack nothing, or neither the disc nor the rack knows of a dump.
abbrev pub is_calm : Option StoreFault → Option ℕ → Bool
is_calm None None = true
is_calm (Some NoDump) None = true
is_calm refusal missing = false

-- THE TEXT OF THE WARNING: the refusal, the dump that is lacking, and what to do.
abbrev pub warning : Option StoreFault → Option ℕ → List ℕ
warning refusal missing = if is_calm refusal missing then [] else (refusal_line refusal ++ missing_line missing) ++ advice

-- THE WARNING about a rack with these dumps, next to a disc with these blocks.
abbrev pub IsWarning : List (List ℕ) → List Dump → List ℕ → Type 0
IsWarning blocks dumps text = (o : Outlook) × IsForeseenOn blocks dumps o × (text ≡ warning o.refusal o.missing)

-- What is printed of a text: all of it, a prefix if the sink failed, or otherwise nothing.
abbrev pub Prints : List ℕ → Result (Unit {0}) Untold → Option (List ℕ) → Option (List ℕ) → Type 0
Prints text (Ok _) before after = after ≡ with_more before text
Prints text (Err Output) before after = HasPutPart before text after
Prints text (Err other) before after = after ≡ before

-- THE END OF A CALL THAT WARNS: what it prints of the warning.
abbrev pub Warns : List (List ℕ) → List Dump → Result (Unit {0}) Untold → Option (List ℕ) → Option (List ℕ) → Type 0
Warns blocks dumps (Ok _) before after = (text : List ℕ) × IsWarning blocks dumps text × (after ≡ with_more before text)
Warns blocks dumps (Err Output) before after = (text : List ℕ) × IsWarning blocks dumps text × HasPutPart before text after
Warns blocks dumps (Err other) before after = after ≡ before

-- The sink's faults rise if and only if the call says so.
pub record SinkCause (result : Result (Unit {0}) Untold) (before after : ℕ) : Type 0 where
  pub rose : result ≡ Err Output → Rose before after
  pub kept : (result ≡ Err Output → ⊥) → after ≡ before
