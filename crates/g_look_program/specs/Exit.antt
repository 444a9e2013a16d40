-- The exit status of a look.
use Rattle.std.specs.Prelude.{◌≡◌, ℕ}
use Rattle.g_look_program.specs.declared.status.Status.{Status}
use Rattle.g_look_program.specs.declared.status.Status.TheVariants.{Done, No, Words, Unread, OutputFault, NoMemory, Nothing, NoSeal}

-- The exit status of a status.
abbrev pub code_of : Status → ℕ
code_of Done = 0
code_of No = 1
code_of Words = 2
code_of Unread = 3
code_of OutputFault = 4
code_of NoMemory = 5
code_of Nothing = 6
code_of NoSeal = 8

-- The exit status of one of these ends.
pub record IsExit (IsSo : Status → Type 0) (code : ℕ) : Type 0 where
  pub status : Status
  pub so : IsSo status
  pub code_is : code ≡ code_of status

-- The words request nothing.
abbrev pub IsOfWords : Status → Type 0
IsOfWords Words = Unit {0}
IsOfWords OutputFault = Unit {0}
IsOfWords other = ⊥

-- The words request something.
abbrev pub IsOfLook : Status → Type 0
IsOfLook Words = ⊥
IsOfLook other = Unit {0}
