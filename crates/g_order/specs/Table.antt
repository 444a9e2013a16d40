-- The table of function numbers: what an order with this F, and for two of them with this X, does.
use Rattle.std.specs.Prelude.{ℕ, Option, Some, None, List, [], ◌∷◌, ◌==◌, if◌then◌else◌}
use Rattle.g_order.specs.declared.functions.Operation.TheVariants.{Take, Add, Negate, Subtract, And, Or, Differ}
use Rattle.g_order.specs.declared.functions.Condition.TheVariants.{Zero, NotZero, NotNegative, Negative, Always, Overflow, OverflowReset, NoOverflow, NoOverflowReset}
use Rattle.g_order.specs.declared.functions.Function.{Function}
use Rattle.g_order.specs.declared.functions.Function.TheVariants.{Load, Store, LoadNumber, LoadCharacter, StoreZero, DepositCharacter, Multiply, Branch, Call, Exit, ShiftLeft, ShiftRight, Null, Move, Transfer, Halt, Display, Delete}

-- Each F that determines the order, for every X.
abbrev pub by_f : List (ℕ × Function)
by_f =
    (0o000, Load Take) ∷ (0o001, Load Add) ∷ (0o002, Load Negate) ∷ (0o003, Load Subtract)
    ∷ (0o010, Store Take) ∷ (0o011, Store Add) ∷ (0o012, Store Negate) ∷ (0o013, Store Subtract)
    ∷ (0o020, Load And) ∷ (0o021, Load Or) ∷ (0o022, Load Differ) ∷ (0o024, LoadCharacter)
    ∷ (0o030, Store And) ∷ (0o031, Store Or) ∷ (0o032, Store Differ) ∷ (0o033, StoreZero) ∷ (0o034, DepositCharacter)
    ∷ (0o040, Multiply)
    ∷ (0o050, Branch Zero) ∷ (0o052, Branch NotZero) ∷ (0o054, Branch NotNegative) ∷ (0o056, Branch Negative)
    ∷ (0o070, Call) ∷ (0o072, Exit)
    ∷ (0o100, LoadNumber Take) ∷ (0o101, LoadNumber Add) ∷ (0o102, LoadNumber Negate) ∷ (0o103, LoadNumber Subtract)
    ∷ (0o110, ShiftLeft) ∷ (0o112, ShiftRight)
    ∷ (0o120, LoadNumber And) ∷ (0o121, LoadNumber Or) ∷ (0o122, LoadNumber Differ) ∷ (0o123, Null) ∷ (0o126, Move)
    ∷ (0o157, Transfer) ∷ []

-- the orders of F 074 by their X: BRN, BVS, BVSR, BVC, BVCR
abbrev pub branches_by_x : List (ℕ × Function)
branches_by_x =
    (0, Branch Always) ∷ (1, Branch Overflow) ∷ (2, Branch OverflowReset) ∷ (3, Branch NoOverflow) ∷ (4, Branch NoOverflowReset) ∷ []

-- the orders of F 160 by their X: SUSTY, DISTY, DELTY
abbrev pub texts_by_x : List (ℕ × Function)
texts_by_x = (0, Halt) ∷ (1, Display) ∷ (2, Delete) ∷ []

-- The function that a list has for a key: that of the first row with this key.
abbrev pub row : List (ℕ × Function) → ℕ → Option Function
row [] key = None
row (r ∷ rs) key = if key == r.0 then Some r.1 else row rs key

-- The function of an order, or none if the table has no row for it.
unfoldable pub function_of : ℕ → ℕ → Option Function
function_of f x =
    if f == 0o074 then row branches_by_x x else (if f == 0o160 then row texts_by_x x else row by_f f)
