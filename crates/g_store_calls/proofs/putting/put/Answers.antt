use Rattle.std.proofs.Common.{Err, Ok}
use Rattle.g_disc_contents.specs.Contents.{recs_in}
use Rattle.g_migrate.proofs.MigrationLemmas.{rules_here}
use Rattle.g_store_calls.proofs.GrantedLemmas.{output_called}
use Rattle.g_store_calls.proofs.PutLemmas.{put_answers, put_known, put_short, settled_made}
use Rattle.g_store_calls.proofs.putting.put.Goals as goal

pub returns-in-Ok-clause-answers : goal.returns-in-Ok-clause-answers
returns-in-Ok-clause-answers g c = λ path rack who granted.
    let o = c.args.online.now in
    put_answers o c.make_version.new.online who path c.args.bytes.now c.args.full c.version_of-rec.result
    (put_known o who path c.args.bytes.now c.args.full c.version_of-rec.result c.requires.live granted.allowed
    (output_called o c.requires.live c.requires.tied who path c.args.bytes.now c.args.number c.args.full granted) c.version_of-rec.ensures.version c.version_of-rec.ensures.next)
    (Ok c.in-Ok.field-0) c.in-Ok.ensures rack

pub returns-in-Ok-clause-kind : goal.returns-in-Ok-clause-kind
returns-in-Ok-clause-kind g c = λ path one.
    let (who, granted) = one in
    let o = c.args.online.now in
    settled_made path c.args.bytes.now c.args.full c.version_of-rec.result o c.make_version.new.online
    (put_short o.contents.users (recs_in o.contents) o.contents.head.next_stamp who path c.args.bytes.now (rules_here o c.requires.live c.requires.tied).records granted.allowed c.args.full
    (output_called o c.requires.live c.requires.tied who path c.args.bytes.now c.args.number c.args.full granted))
    (Ok c.in-Ok.field-0) c.in-Ok.ensures

pub returns-in-Err-clause-answers : goal.returns-in-Err-clause-answers
returns-in-Err-clause-answers g c = λ path rack who granted.
    let o = c.args.online.now in
    put_answers o c.make_version.new.online who path c.args.bytes.now c.args.full c.version_of-rec.result
    (put_known o who path c.args.bytes.now c.args.full c.version_of-rec.result c.requires.live granted.allowed
    (output_called o c.requires.live c.requires.tied who path c.args.bytes.now c.args.number c.args.full granted) c.version_of-rec.ensures.version c.version_of-rec.ensures.next)
    (Err c.in-Err.fault) c.in-Err.ensures rack

pub returns-in-Err-clause-kind : goal.returns-in-Err-clause-kind
returns-in-Err-clause-kind g c = λ path one.
    let (who, granted) = one in
    let o = c.args.online.now in
    settled_made path c.args.bytes.now c.args.full c.version_of-rec.result o c.make_version.new.online
    (put_short o.contents.users (recs_in o.contents) o.contents.head.next_stamp who path c.args.bytes.now (rules_here o c.requires.live c.requires.tied).records granted.allowed c.args.full
    (output_called o c.requires.live c.requires.tied who path c.args.bytes.now c.args.number c.args.full granted))
    (Err c.in-Err.fault) c.in-Err.ensures
