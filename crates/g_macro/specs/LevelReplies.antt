-- The results of calls on one level.
use Rattle.std.specs.Prelude.{Bool, Err, List, Ok, Result, false, length, nat_le, not, true, ℕ, ◌&&◌, ◌≡◌}
use Rattle.g_lang.specs.declared.line.Cond.{Cond}
use Rattle.g_macro.specs.Levels.{Level, entry_kept, has_cond}
use Rattle.g_macro.specs.declared.fault.MacroFault.{MacroFault}
use Rattle.g_macro.specs.declared.fault.MacroFault.TheVariants as fault

-- The level has no room for a command that waits for this condition.
abbrev pub is_full_in : Cond → Level → Bool
is_full_in cond level = not (has_cond cond level.entries) && nat_le 16 (length level.entries)

-- The result of storing a waiting command in a level: it is stored, or refused without a change if there are 16 or memory runs out.
abbrev pub KeepsIn : Cond → List ℕ → Level → Level → Result (Unit {0}) MacroFault → Type 0
KeepsIn cond command old new (Ok done) = (is_full_in cond old ≡ false) × (new ≡ entry_kept cond command old)
KeepsIn cond command old new (Err fault.WheneversFull) = (is_full_in cond old ≡ true) × (new ≡ old)
KeepsIn cond command old new (Err fault.NoMemory) = (is_full_in cond old ≡ false) × (new ≡ old)
KeepsIn cond command old new (Err refusal) = ⊥
