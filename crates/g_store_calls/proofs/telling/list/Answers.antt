use Rattle.std.proofs.Common.{None, ap, refl}
use Rattle.g_plain.specs.declared.calls.StoreCall.TheVariants.{List as ListFiles}
use Rattle.g_plain.specs.declared.calls.StoreReply.TheVariants.{Listing}
use Rattle.g_store_calls.proofs.CalmLemmas.{starved}
use Rattle.g_store_calls.proofs.KindLemmas.{settled_starved, settled_told}
use Rattle.g_store_calls.proofs.TellLemmas.{listed_user, refuses_on, replies_of, told}
use Rattle.g_store_calls.proofs.telling.list.Goals as goal

pub listing-requires : goal.listing-requires
listing-requires g c =
    let (who, granted) = c.requires.granted in
    let o = c.args.online.now in
    record {
      there = listed_user c.tree.result.now.users c.tree.result.now.files o.contents.head.next_stamp who c.args.user.now
          (refuses_on o c.tree.result.now.users c.tree.result.now.files o.contents.head.next_stamp who (ListFiles c.args.user.now) None c.tree.ensures.users c.tree.ensures.files granted.allowed);
    }

pub returns-in-Ok-clause-answers : goal.returns-in-Ok-clause-answers
returns-in-Ok-clause-answers g c = λ who granted.
    let o = c.args.online.now in
    told o who (ListFiles c.args.user.now) c.requires.live refl (Listing c.in-Ok.listing) granted.allowed
    (replies_of o c.tree.result.now.users c.tree.result.now.files o.contents.head.next_stamp who (ListFiles c.args.user.now) (Listing c.in-Ok.listing) c.tree.ensures.users c.tree.ensures.files
    (λ bytes long. ap Listing (c.in-Ok.ensures bytes o.contents.head.next_stamp long)))

pub returns-in-Err-clause-answers : goal.returns-in-Err-clause-answers
returns-in-Err-clause-answers g c = λ who granted. starved c.args.online.now who (ListFiles c.args.user.now) c.requires.live

pub returns-in-Ok-clause-kind : goal.returns-in-Ok-clause-kind
returns-in-Ok-clause-kind g c =
    settled_told c.tree.result.now.users c.tree.result.now.files 0 c.requires.granted.0 (ListFiles c.args.user.now) (Listing c.in-Ok.listing) refl (λ bytes long. ap Listing (c.in-Ok.ensures bytes 0 long))

pub returns-in-Err-clause-kind : goal.returns-in-Err-clause-kind
returns-in-Err-clause-kind g c = settled_starved (ListFiles c.args.user.now)
