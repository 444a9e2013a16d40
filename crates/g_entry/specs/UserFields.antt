-- The block of a user.
use Rattle.std.specs.Prelude.{◌≡◌, ℕ, ◌≤◌, Bool, true, List, [], ◌∷◌, ◌++◌, length, if◌then◌else◌}
use Rattle.g_base.specs.Fields.{number, padded}
use Rattle.g_name.specs.Grammar.{is_word}
use Rattle.g_entry.specs.Formats.{IsMoney}
use Rattle.g_entry.specs.declared.format.Format.{Format}
use Rattle.g_entry.specs.declared.format.Format.TheVariants.{One, Two}
use Rattle.g_entry.specs.declared.user_rec.UserRec.{UserRec}

-- The format can represent this user in a block.
pub record IsUser (format : Format) (r : UserRec) : Type 0 where
  pub user : is_word r.user ≡ true
  pub space : r.space ≤ 65535
  pub time : r.time ≤ 1000000000
  pub money : IsMoney format r.money

-- The field of MONEY, which the first format doesn't have.
abbrev pub money_fields : Format → ℕ → List ℕ
money_fields One money = []
money_fields Two money = number 8 money

-- Byte 27 of a user's block.
abbrev pub held_byte : Bool → ℕ
held_byte held = if held then 1 else 0

-- The fields of a user. `held` is 0 on disc; on tape it is 1 if the dump has the user's directory, otherwise 0.
unfoldable pub user_fields : Format → ℕ → UserRec → List ℕ
user_fields format held r =
    (1 ∷ length r.user ∷ []) ++ padded 12 r.user ++ (r.superior ∷ []) ++ number 4 r.space ++ number 8 r.time ++ (held ∷ []) ++ money_fields format r.money

-- The block of a user: its fields, padded with zeros.
abbrev pub user_block : Format → ℕ → UserRec → List ℕ
user_block format held r = padded 512 (user_fields format held r)
