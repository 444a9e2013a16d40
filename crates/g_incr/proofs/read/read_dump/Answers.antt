use Rattle.std.proofs.Common.{Bool, None, Some, Option, subst}
use Rattle.std.specs.Prelude.{IfNone, IfSome}
use Rattle.std.proofs.lemmas.Result.{IfOk-weaker}
use Rattle.g_tape.proofs.ReadLemmas.{more_reads}
use Rattle.g_incr.specs.declared.note.DumpDir.{DumpDir}
use Rattle.g_incr.specs.declared.note.Header.{Header}
use Rattle.g_incr.specs.Finding.{FindsHeader, FindsMark, HasHeader, HasNoRecords, HoldsRecords}
use Rattle.g_incr.specs.Reading.{HasNone, HasReadDump, IsFound}
use Rattle.g_incr.proofs.DumpLemmas.{dump_found, dump_read, none_by_header, none_by_mark, none_by_records, none_found, some_found}
use Rattle.g_incr.proofs.ListLemmas.{at_some}
use Rattle.g_incr.proofs.TapeLemmas.{from_err, from_ok, reads_then, then_reel, to_err}
use Rattle.g_incr.proofs.read.read_dump.Goals as goal

pub returns-in-Ok-None-clause-none : goal.returns-in-Ok-None-clause-none
returns-in-Ok-None-clause-none g c =
    let old = g.T.Tapes.rack c.args.tapes.now in
    none_by_header c.args.serial c.args.place old (subst (λ (o : Option Header). FindsHeader c.args.serial c.args.place old o) c.in-Ok-None.field-0-is c.in-Ok-None.ensures.again)

pub returns-in-Ok-false-clause-none : goal.returns-in-Ok-false-clause-none
returns-in-Ok-false-clause-none g c =
    let s = c.args.serial in
    let old = g.T.Tapes.rack c.args.tapes.now in
    let mid = g.T.Tapes.rack c.read_header.new.tapes in
    let h = c.in-Ok-Some.header in
    none_by_mark s c.args.place old mid h c.in-Ok-Some.ensures.reads.only (subst (λ (o : Option Header). FindsHeader s c.args.place old o) c.in-Ok-Some.field-0-is c.in-Ok-Some.ensures.again)
    (subst (λ (b : Bool). FindsMark s h.note mid b) c.in-Ok-false.field-0-test c.in-Ok-false.ensures.again)

pub returns-in-Err-read_mark-clause-reads : goal.returns-in-Err-read_mark-clause-reads
returns-in-Err-read_mark-clause-reads g c =
    let s = c.args.serial in
    let old = g.T.Tapes.rack c.args.tapes.now in
    let mid = g.T.Tapes.rack c.read_header.new.tapes in
    let last = g.T.Tapes.rack c.read_mark.new.tapes in
    to_err s old last c.in-Err-read_mark.fault (reads_then s old mid last (Some c.in-Err-read_mark.fault) (from_ok s old mid _ c.in-Ok-Some.ensures.reads) (from_err s mid last c.in-Err-read_mark.fault c.in-Err-read_mark.ensures.reads))

pub returns-clause-reads : goal.returns-clause-reads
returns-clause-reads g c =
    let s = c.args.serial in
    let old = g.T.Tapes.rack c.args.tapes.now in
    let mid = g.T.Tapes.rack c.read_header.new.tapes in
    let last = g.T.Tapes.rack c.read_mark.new.tapes in
    let new = g.T.Tapes.rack c.read_records.new.tapes in
    then_reel s old last new c.read_records.result (reads_then s old mid last None (from_ok s old mid _ c.in-Ok-Some.ensures.reads) (from_ok s mid last _ c.in-Ok-true.ensures.reads)) c.read_records.ensures.reads

pub returns-clause-some : goal.returns-clause-some
returns-clause-some g c =
    let s = c.args.serial in
    let p = c.args.place in
    let old = g.T.Tapes.rack c.args.tapes.now in
    let mid = g.T.Tapes.rack c.read_header.new.tapes in
    let last = g.T.Tapes.rack c.read_mark.new.tapes in
    let new = g.T.Tapes.rack c.read_records.new.tapes in
    let h = c.in-Ok-Some.header in
    let one = c.in-Ok-Some.ensures.reads.only in
    let two = c.in-Ok-true.ensures.reads.only in
    IfOk-weaker c.read_records.result (λ (o : Option DumpDir). IfSome o (HoldsRecords s h last new)) (λ (o : Option DumpDir). IfSome o (IsFound s p old))
    (λ o is. some_found o (HoldsRecords s h last new) (IsFound s p old)
    (λ dir holds. dump_found s p old mid last new h dir (g.met.T.Tapes.well_formed c.args.tapes.now) one (more_reads old mid last one two)
    (at_some _ h (HasHeader s p old) c.in-Ok-Some.field-0-is c.in-Ok-Some.ensures.found) (c.in-Ok-true.ensures.found c.in-Ok-true.field-0-test) holds) is)
    c.read_records.ensures.found

pub returns-clause-none : goal.returns-clause-none
returns-clause-none g c =
    let s = c.args.serial in
    let p = c.args.place in
    let old = g.T.Tapes.rack c.args.tapes.now in
    let mid = g.T.Tapes.rack c.read_header.new.tapes in
    let last = g.T.Tapes.rack c.read_mark.new.tapes in
    let h = c.in-Ok-Some.header in
    let only = more_reads old mid last c.in-Ok-Some.ensures.reads.only c.in-Ok-true.ensures.reads.only in
    let finds = subst (λ (o : Option Header). FindsHeader s p old o) c.in-Ok-Some.field-0-is c.in-Ok-Some.ensures.again in
    IfOk-weaker c.read_records.result (λ (o : Option DumpDir). IfNone o (HasNoRecords s h last)) (λ (o : Option DumpDir). IfNone o (HasNone s p old))
    (λ o is. none_found o (HasNoRecords s h last) (HasNone s p old) (none_by_records s p old last h only finds) is)
    c.read_records.ensures.none

pub returns-clause-read : goal.returns-clause-read
returns-clause-read g c =
    let s = c.args.serial in
    let p = c.args.place in
    let old = g.T.Tapes.rack c.args.tapes.now in
    let mid = g.T.Tapes.rack c.read_header.new.tapes in
    let last = g.T.Tapes.rack c.read_mark.new.tapes in
    let new = g.T.Tapes.rack c.read_records.new.tapes in
    let h = c.in-Ok-Some.header in
    let header = at_some _ h (HasHeader s p old) c.in-Ok-Some.field-0-is c.in-Ok-Some.ensures.found in
    let mark = c.in-Ok-true.ensures.found c.in-Ok-true.field-0-test in
    IfOk-weaker c.read_records.result (λ (o : Option DumpDir). IfSome o (HoldsRecords s h last new)) (λ (o : Option DumpDir). IfSome o (λ dir. HasReadDump s dir.note old new))
    (λ o is. some_found o (HoldsRecords s h last new) (λ dir. HasReadDump s dir.note old new)
    (λ dir holds. dump_read s p old mid last new h dir header.at c.in-Ok-Some.ensures.reads.only c.in-Ok-true.ensures.reads.only c.read_records.ensures.reads.only
    (at_some _ _ _ c.in-Ok-Some.field-0-is c.in-Ok-Some.ensures.read) mark holds) is)
    c.read_records.ensures.found
