use Rattle.std.proofs.Common.{None, ap, refl}
use Rattle.g_plain.specs.declared.calls.StoreCall.TheVariants.{TrapCheck}
use Rattle.g_plain.specs.declared.calls.StoreReply.TheVariants.{Modes}
use Rattle.g_store_calls.proofs.GrantedLemmas.{granted_named, granted_on, granted_there}
use Rattle.g_store_calls.proofs.KindLemmas.{settled_told}
use Rattle.g_store_calls.proofs.TellLemmas.{checked_user, refuses_on, replies_of, told}
use Rattle.g_store_calls.proofs.telling.trap_check.Goals as goal

pub modes_of-requires-clause-file : goal.modes_of-requires-clause-file
modes_of-requires-clause-file g c =
    let (path, full, one) = c.requires.granted in
    let (who, granted) = one in
    granted_there c.args.online.now c.requires.live c.requires.tied who (TrapCheck path c.args.user.now) path c.args.number full (λ t. refl) granted c.tree.result.now.files c.tree.ensures.files

pub modes_of-requires-clause-there : goal.modes_of-requires-clause-there
modes_of-requires-clause-there g c =
    let (path, full, one) = c.requires.granted in
    let (who, granted) = one in
    let o = c.args.online.now in
    checked_user c.tree.result.now.users c.tree.result.now.files o.contents.head.next_stamp who path c.args.user.now
    (refuses_on o c.tree.result.now.users c.tree.result.now.files o.contents.head.next_stamp who (TrapCheck path c.args.user.now) None c.tree.ensures.users c.tree.ensures.files granted.allowed)

pub returns-clause-answers : goal.returns-clause-answers
returns-clause-answers g c = λ path full who granted.
    let o = c.args.online.now in
    let us = c.tree.result.now.users in
    let fs = c.tree.result.now.files in
    let call = TrapCheck path c.args.user.now in
    let on = granted_on o c.requires.live c.requires.tied who call path c.args.number full (λ t. refl) granted us fs c.tree.ensures.users c.tree.ensures.files in
    let name = granted_named o c.requires.live c.requires.tied who call path c.args.number full (λ t. refl) granted us fs c.tree.ensures.users c.tree.ensures.files in
    told o who call c.requires.live refl (Modes c.modes_of.result) granted.allowed
    (replies_of o us fs o.contents.head.next_stamp who call (Modes c.modes_of.result) c.tree.ensures.users c.tree.ensures.files
    (λ bytes long. ap Modes (c.modes_of.ensures who path full name on.file.named bytes o.contents.head.next_stamp)))

pub returns-clause-kind : goal.returns-clause-kind
returns-clause-kind g c = λ path full one.
    let (who, granted) = one in
    let o = c.args.online.now in
    let us = c.tree.result.now.users in
    let fs = c.tree.result.now.files in
    let call = TrapCheck path c.args.user.now in
    let on = granted_on o c.requires.live c.requires.tied who call path c.args.number full (λ t. refl) granted us fs c.tree.ensures.users c.tree.ensures.files in
    let name = granted_named o c.requires.live c.requires.tied who call path c.args.number full (λ t. refl) granted us fs c.tree.ensures.users c.tree.ensures.files in
    settled_told us fs 0 who call (Modes c.modes_of.result) refl (λ bytes long. ap Modes (c.modes_of.ensures who path full name on.file.named bytes 0))
