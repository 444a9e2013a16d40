-- WHY A LINE isn't one of a script: the first reason of a closed list that applies to it.
use Rattle.std.specs.Prelude.{◌≡◌, ◌≢◌, ◌⊎◌, ◌<◌, ◌≤◌, ◌==◌, ℕ, List, [], ◌∷◌, ◌++◌, length, All, Contains, if◌then◌else◌}
use Rattle.g_typing.specs.Reader.{HasNoTime}
use Rattle.g_reasons.specs.Words.{word_text}
use Rattle.g_reasons.specs.declared.reason.Reason.{Reason}
use Rattle.g_reasons.specs.declared.reason.Reason.TheVariants as reason
use Rattle.g_reasons.specs.declared.word.Word.{Word}
use Rattle.g_reasons.specs.declared.word.Word.TheVariants as word

-- the text after the first space of a line
abbrev pub asked : List ℕ → List ℕ
asked [] = []
asked (byte ∷ line) = if byte == 32 then line else asked line

-- a text begins with this word
abbrev pub Begins : Word → List ℕ → Type 0
Begins word text = (rest : List ℕ) × (text ≡ word_text word ++ rest)

-- a text begins with a small letter
abbrev pub BeginsSmall : List ℕ → Type 0
BeginsSmall [] = ⊥
BeginsSmall (first ∷ others) = (97 ≤ first) × (first ≤ 122)

-- WHAT IS WRONG with a line
abbrev pub IsWrong : Reason → List ℕ → Type 0
IsWrong reason.Blank line = line ≡ []
IsWrong reason.Return line = Contains line 13
IsWrong reason.Tab line = Contains line 9
IsWrong reason.Byte line = All (λ byte. (32 ≤ byte) × (byte ≤ 126)) line → ⊥
IsWrong reason.Long line = 160 < length line
IsWrong reason.NoTime line = HasNoTime line
IsWrong reason.NoColon line = All (λ byte. byte ≢ 58) line × (Begins word.Job (asked line) ⊎ Begins word.Login (asked line))
IsWrong (reason.BadForm word) line = Begins word (asked line)
IsWrong reason.SmallLetter line = BeginsSmall (asked line)
IsWrong reason.NoWord line = Unit {0}

-- the reasons, in the order in which they are tried
abbrev pub reasons : List Reason
reasons =
    reason.Blank ∷ reason.Return ∷ reason.Tab ∷ reason.Byte ∷ reason.Long ∷ reason.NoTime ∷ reason.NoColon ∷ reason.BadForm word.Format ∷ reason.BadForm word.Start
    ∷ reason.BadForm word.Restore ∷ reason.BadForm word.Shut ∷ reason.BadForm word.Mount ∷ reason.BadForm word.Unmount ∷ reason.BadForm word.Dump
    ∷ reason.BadForm word.Process ∷ reason.BadForm word.Migrate ∷ reason.BadForm word.Stop ∷ reason.BadForm word.Login ∷ reason.BadForm word.Type
    ∷ reason.BadForm word.Logout ∷ reason.BadForm word.Job ∷ reason.SmallLetter ∷ reason.NoWord ∷ []

-- THE FIRST of some reasons that applies to a line
pub record IsFirst (among : List Reason) (found : Reason) (line : List ℕ) : Type 0 where
  pub before : List Reason
  pub after : List Reason
  pub all : among ≡ before ++ found ∷ after
  pub applies : IsWrong found line
  pub first : All (λ other. IsWrong other line → ⊥) before
