use Rattle.std.proofs.Common.{ℕ, Bool, List, Option, Some, ap, subst, nat_eq}
use Rattle.g_entry.specs.declared.user_rec.UserRec.{UserRec}
use Rattle.g_entry.proofs.RecordLemmas.{UserRead, user_read, same_user, not_there}
use Rattle.g_entry.proofs.user_block.fields_of.Goals as goal

pub returns-in_err-user-clause-again : goal.returns-in_err-user-clause-again
returns-in_err-user-clause-again c = λ r flag numbered is here.
    let read = user_read c.args.format r flag c.args.b.now c.new-reader.result c.take_u8-used.new.self c.take_user-user.new.reader c.take_u8-superior.new.self c.take_u32-space.new.self c.take_u64-time.new.self c.take_u8-held.new.self
    c.take_u8-used.result c.take_u8-superior.result c.take_u32-space.result c.take_u64-time.result c.take_u8-held.result c.take_money-money.result c.take_user-user.result
    is here c.new-reader.ensures c.take_u8-used.ensures c.take_user-user.ensures.again c.take_u8-superior.ensures c.take_u32-space.ensures.again c.take_u64-time.ensures.again c.take_u8-held.ensures c.take_money-money.ensures in
    absurd (not_there c.take_user-user.result r.user c.in_err-user.was read.name)

pub returns-clause-again : goal.returns-clause-again
returns-clause-again c = λ r flag numbered is here.
    let read = user_read c.args.format r flag c.args.b.now c.new-reader.result c.take_u8-used.new.self c.take_user-user.new.reader c.take_u8-superior.new.self c.take_u32-space.new.self c.take_u64-time.new.self c.take_u8-held.new.self
    c.take_u8-used.result c.take_u8-superior.result c.take_u32-space.result c.take_u64-time.result c.take_u8-held.result c.take_money-money.result c.take_user-user.result
    is here c.new-reader.ensures c.take_u8-used.ensures c.take_user-user.ensures.again c.take_u8-superior.ensures c.take_u32-space.ensures.again c.take_u64-time.ensures.again c.take_u8-held.ensures c.take_money-money.ensures in
    let there = subst (λ (user : Option (List ℕ)). UserRead r flag user c.take_u8-superior.result c.take_u32-space.result c.take_u64-time.result c.take_money-money.result (nat_eq c.take_u8-held.result 1)) c.in_ok-user.was read in
    let whole : UserRec × Bool → Option (UserRec × Bool) = λ found. Some found in
    ap whole (same_user r flag c.args.number c.in_ok-user.field-0 c.take_u8-superior.result c.take_u32-space.result c.take_u64-time.result c.take_money-money.result (nat_eq c.take_u8-held.result 1) numbered there)
