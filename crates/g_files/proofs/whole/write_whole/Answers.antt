use Rattle.std.proofs.Common.{◌-◌, Err, inr, length, take, drop, arith, length-take, length-drop}
use Rattle.std.proofs.lemmas.List.{take_rest}
use Rattle.g_files.proofs.BytesLemmas.{AreBytes-drop, AreBytes-take}
use Rattle.g_base.proofs.CountLemmas.{Rose-behind, Rose-later}
use Rattle.g_files.proofs.CallLemmas.{write_step, write_fails, changes_before}
use Rattle.g_files.proofs.FaultLemmas.{counted, fails_after, tried_more}
use Rattle.g_files.proofs.WholeLemmas.{more_err, more_ok, more_syncable}
use Rattle.std.specs.declared.io.Error.{Error}
use Rattle.g_files.proofs.whole.write_whole.Goals as goal
use Rattle.g_files.proofs.whole.write_whole.Goals.{in-Ok, in-Err}

pub write_at-requires-clause-bytes : goal.write_at-requires-clause-bytes
write_at-requires-clause-bytes g c =
    let done = c.loop-call.done in
    let from = c.args.from.now in
    AreBytes-take (length from - done) (drop done from) (AreBytes-drop done from c.requires.bytes)

pub returns-in-Err-2 : goal.returns-in-Err-2
returns-in-Err-2 g c =
    let done = c.loop-call.done in
    let bytes = g.F.RawFile.content in
    let from = c.args.from.now in record {
      written = write_fails c.args.at done from (take (length from - done) (drop done from)) c.in-Err.fault c.in-Err.fault (bytes c.args.file.now)
          (bytes c.loop-call.file) (bytes c.write_at.new.self)
          c.requires.within c.loop-call.invariant.within (take_rest from done) c.loop-call.invariant.told c.in-Err.ensures.written;
      durability = more_err c.args.at done from (take (length from - done) (drop done from)) c.write_at.result c.in-Err.fault (bytes c.args.file.now)
          (bytes c.loop-call.file) (g.F.RawFile.durability c.args.file.now) (g.F.RawFile.durability c.loop-call.file)
          (g.F.RawFile.durability c.write_at.new.self) c.requires.within c.loop-call.invariant.within (take_rest from done)
          c.loop-call.invariant.told c.loop-call.invariant.durability c.write_at.ensures.durability;
      syncable = tt;
      cause = fails_after (Err _) _ _ _ c.loop-call.invariant.later (counted (Err c.in-Err.fault) _ _ c.in-Err.ensures.cause);
    }

pub loop-call-preserved : goal.loop-call-preserved
loop-call-preserved g c =
    let done = c.loop-call.done in
    let bytes = g.F.RawFile.content in
    let from = c.args.from.now in
    elim c.match-write_at.branch [
      | in-Ok w ↦ rw w.done-is record {
        within = let few = w.in-Ok.ensures.count in omega (arith, few, length-take (length from - done) (drop done from), length-drop done from);
        told = write_step Error c.args.at done w.in-Ok.count from (take (length from - done) (drop done from)) (bytes c.args.file.now)
            (bytes c.loop-call.file) (bytes c.write_at.new.self)
            c.requires.within c.loop-call.invariant.within (take_rest from done) c.loop-call.invariant.told w.in-Ok.ensures.written;
        durability = more_ok c.args.at done w.in-Ok.count from (take (length from - done) (drop done from)) (bytes c.args.file.now)
            (bytes c.loop-call.file) (g.F.RawFile.durability c.args.file.now) (g.F.RawFile.durability c.loop-call.file)
            (g.F.RawFile.durability c.write_at.new.self) c.requires.within c.loop-call.invariant.within (take_rest from done)
            c.loop-call.invariant.told c.loop-call.invariant.durability w.in-Ok.ensures.durability;
        syncable = more_syncable c.args.at done w.in-Ok.count (take (length from - done) (drop done from)) (bytes c.loop-call.file)
            (g.F.RawFile.durability c.loop-call.file) (g.F.RawFile.durability c.write_at.new.self) c.loop-call.invariant.syncable
            w.in-Ok.ensures.durability w.in-Ok.ensures.syncable;
        later = let same = w.in-Ok.ensures.cause in let before = c.loop-call.invariant.later in omega (arith, same, before);
        tried =
            tried_more c.loop-call._call done w.in-Ok.count _ _ _ c.loop-call.invariant.tried
            (w.in-Ok.ensures.some (let room = c.if-done-from.false in omega (arith, room, length-take (length from - done) (drop done from), length-drop done from)))
            w.in-Ok.ensures.cause;
      }
      | in-Err w ↦ rw w.done-is record {
        within = c.loop-call.invariant.within;
        told = changes_before (w.in-Err.ensures.interrupted (w.is_interrupted.ensures.0 w.if-is_interrupted.true)) c.loop-call.invariant.told;
        durability = rw (w.in-Err.ensures.as_durable (w.is_interrupted.ensures.0 w.if-is_interrupted.true)) c.loop-call.invariant.durability;
        syncable = rw (w.in-Err.ensures.as_durable (w.is_interrupted.ensures.0 w.if-is_interrupted.true)) c.loop-call.invariant.syncable;
        later = let more = Rose-later w.in-Err.ensures.cause in let before = c.loop-call.invariant.later in omega (arith, more, before);
        tried = inr (Rose-behind c.loop-call.invariant.later w.in-Err.ensures.cause);
      }
    ]

pub returns-in-Ok-eq0-clause-durability : goal.returns-in-Ok-eq0-clause-durability
returns-in-Ok-eq0-clause-durability g c =
    let done = c.loop-call.done in
    let bytes = g.F.RawFile.content in
    let from = c.args.from.now in
    more_err c.args.at done from (take (length from - done) (drop done from)) c.write_at.result _ (bytes c.args.file.now)
    (bytes c.loop-call.file) (g.F.RawFile.durability c.args.file.now) (g.F.RawFile.durability c.loop-call.file)
    (g.F.RawFile.durability c.write_at.new.self) c.requires.within c.loop-call.invariant.within (take_rest from done)
    c.loop-call.invariant.told c.loop-call.invariant.durability c.write_at.ensures.durability
