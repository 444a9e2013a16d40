use Rattle.std.proofs.Common.{◌≡◌, ◌∙◌, ap, sym, Option, Some}
use Rattle.g_order.proofs.TableLaws.{is_jump, kind_of_function}
use Rattle.g_order.specs.Order.{fields_of, is_branch}
use Rattle.g_order.specs.Table.{function_of}
use Rattle.g_order.specs.declared.functions.Function.{Function}
use Rattle.g_order.specs.declared.functions.Function.TheVariants.{Load, Store, LoadNumber, LoadCharacter, StoreZero, DepositCharacter, Multiply, Branch, Call, Exit, ShiftLeft, ShiftRight, Move}
use Rattle.g_word.specs.declared.words.Word.{Word}
use Rattle.g_mill.proofs.program.Program.quick.Goals as goal

-- whether a word's function is that of a branch
kind : (word : Word) (found : Option Function) (got function : Function) → found ≡ function_of (fields_of word).f (fields_of word).x → found ≡ Some got → got ≡ function → is_branch (fields_of word).f ≡ is_jump function
kind word found got function told is same =
    kind_of_function (fields_of word).f (fields_of word).x function (sym told ∙ is ∙ ap (λ (g : Function). let o : Option Function = Some g in o) same)

pub plain_operands-m-requires : goal.plain_operands-m-requires
plain_operands-m-requires c = kind c.args.word c.function_in.result c.in-Some-Load.field-0 (Load c.in-Some-Load.operation) c.function_in.ensures c.in-Some-Load.is c.in-Some-Load.field-0-is

pub plain_operands-m-requires-in-Some-Store : goal.plain_operands-m-requires-in-Some-Store
plain_operands-m-requires-in-Some-Store c = kind c.args.word c.function_in.result c.in-Some-Store.field-0 (Store c.in-Some-Store.operation) c.function_in.ensures c.in-Some-Store.is c.in-Some-Store.field-0-is

pub plain_operands-m-requires-in-Some-LoadNumber : goal.plain_operands-m-requires-in-Some-LoadNumber
plain_operands-m-requires-in-Some-LoadNumber c = kind c.args.word c.function_in.result c.in-Some-LoadNumber.field-0 (LoadNumber c.in-Some-LoadNumber.operation) c.function_in.ensures c.in-Some-LoadNumber.is c.in-Some-LoadNumber.field-0-is

pub plain_operands-m-requires-in-Some-StoreZero : goal.plain_operands-m-requires-in-Some-StoreZero
plain_operands-m-requires-in-Some-StoreZero c = kind c.args.word c.function_in.result c.in-Some-StoreZero.field-0 StoreZero c.function_in.ensures c.in-Some-StoreZero.is c.in-Some-StoreZero.field-0-is

pub plain_operands-m-requires-in-Some-LoadCharacter : goal.plain_operands-m-requires-in-Some-LoadCharacter
plain_operands-m-requires-in-Some-LoadCharacter c = kind c.args.word c.function_in.result c.in-Some-LoadCharacter.field-0 LoadCharacter c.function_in.ensures c.in-Some-LoadCharacter.is c.in-Some-LoadCharacter.field-0-is

pub plain_operands-m-requires-in-Some-DepositCharacter : goal.plain_operands-m-requires-in-Some-DepositCharacter
plain_operands-m-requires-in-Some-DepositCharacter c = kind c.args.word c.function_in.result c.in-Some-DepositCharacter.field-0 DepositCharacter c.function_in.ensures c.in-Some-DepositCharacter.is c.in-Some-DepositCharacter.field-0-is

pub plain_operands-m-requires-in-Some-Multiply : goal.plain_operands-m-requires-in-Some-Multiply
plain_operands-m-requires-in-Some-Multiply c = kind c.args.word c.function_in.result c.in-Some-Multiply.field-0 Multiply c.function_in.ensures c.in-Some-Multiply.is c.in-Some-Multiply.field-0-is

pub plain_operands-m-requires-in-Some-ShiftLeft : goal.plain_operands-m-requires-in-Some-ShiftLeft
plain_operands-m-requires-in-Some-ShiftLeft c = kind c.args.word c.function_in.result c.in-Some-ShiftLeft.field-0 ShiftLeft c.function_in.ensures c.in-Some-ShiftLeft.is c.in-Some-ShiftLeft.field-0-is

pub plain_operands-m-requires-in-Some-ShiftRight : goal.plain_operands-m-requires-in-Some-ShiftRight
plain_operands-m-requires-in-Some-ShiftRight c = kind c.args.word c.function_in.result c.in-Some-ShiftRight.field-0 ShiftRight c.function_in.ensures c.in-Some-ShiftRight.is c.in-Some-ShiftRight.field-0-is

pub plain_operands-m-requires-in-Some-Move : goal.plain_operands-m-requires-in-Some-Move
plain_operands-m-requires-in-Some-Move c = kind c.args.word c.function_in.result c.in-Some-Move.field-0 Move c.function_in.ensures c.in-Some-Move.is c.in-Some-Move.field-0-is

pub branch_operand-n-requires : goal.branch_operand-n-requires
branch_operand-n-requires c = kind c.args.word c.function_in.result c.in-Some-Branch.field-0 (Branch c.in-Some-Branch.condition) c.function_in.ensures c.in-Some-Branch.is c.in-Some-Branch.field-0-is

pub branch_operand-n-requires-in-Some-Call : goal.branch_operand-n-requires-in-Some-Call
branch_operand-n-requires-in-Some-Call c = kind c.args.word c.function_in.result c.in-Some-Call.field-0 Call c.function_in.ensures c.in-Some-Call.is c.in-Some-Call.field-0-is

pub branch_operand-n-requires-in-Some-Exit : goal.branch_operand-n-requires-in-Some-Exit
branch_operand-n-requires-in-Some-Exit c = kind c.args.word c.function_in.result c.in-Some-Exit.field-0 Exit c.function_in.ensures c.in-Some-Exit.is c.in-Some-Exit.field-0-is
