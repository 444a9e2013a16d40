use Rattle.std.proofs.Common.{refl}
use Rattle.g_tape.proofs.ReadLemmas.{more_reads, nothing_read}
use Rattle.g_twins.proofs.TwinLemmas.{all_mounted_after}
use Rattle.g_look_program.proofs.BothLemmas.{all_ends, failed_first, second_starved, second_unread, told_of, untold_of}
use Rattle.g_look_program.proofs.both_racks.look_against_both.Goals as goal

pub returns-in-Err-TapeUnread-clause-report : goal.returns-in-Err-TapeUnread-clause-report
returns-in-Err-TapeUnread-clause-report g c = λ told told_too.
    second_unread (g.D.Disc.state c.args.disc.now).size (g.D.Disc.state c.args.disc.now).held (g.T.Tapes.rack c.args.racks.now.first) (g.T.Tapes.rack c.args.racks.now.second) c.args.seal.dumps.items c.args.seal.files.items
    (record { before = g.K.Sink.written c.args.out.now; after = g.K.Sink.written c.put.new.out; faults_before = g.K.Sink.faults c.args.out.now; faults_after = g.K.Sink.faults c.put.new.out })
    c.put.result c.put.ensures

pub returns-in-Err : goal.returns-in-Err
returns-in-Err g c = record {
  report = λ told told_too.
      second_starved (g.D.Disc.state c.args.disc.now).size (g.D.Disc.state c.args.disc.now).held (g.T.Tapes.rack c.args.racks.now.first) (g.T.Tapes.rack c.args.racks.now.second) c.args.seal.dumps.items c.args.seal.files.items
      (record { before = g.K.Sink.written c.args.out.now; after = g.K.Sink.written c.args.out.now; faults_before = g.K.Sink.faults c.args.out.now; faults_after = g.K.Sink.faults c.args.out.now })
      (record { same = refl; kept = refl });
  look = tt;
  disc = record { held = refl; size = refl; write_faults = refl; writes = refl; fuse = refl; arms = refl };
  first = nothing_read (g.T.Tapes.rack c.args.racks.now.first);
  second = c.in-Err.ensures.second.only;
}

pub returns-in_default : goal.returns-in_default
returns-in_default g c =
    let status = c.look_against-status in
    record {
      report = λ told told_too.
          failed_first (g.D.Disc.state c.args.disc.now).size (g.D.Disc.state c.args.disc.now).held (g.T.Tapes.rack c.args.racks.now.first) (g.T.Tapes.rack c.args.racks.now.second) c.args.seal.dumps.items c.args.seal.files.items
          c.in-Ok.twins (c.in-Ok.ensures.twins told_too) status.result
          (record { before = g.K.Sink.written c.args.out.now; after = g.K.Sink.written c.look_against-status.new.out; faults_before = g.K.Sink.faults c.args.out.now; faults_after = g.K.Sink.faults c.look_against-status.new.out })
          (status.ensures.report told) (untold_of status.result c.in_default.not-Done c.in_default.not-No c.in_default.not-Nothing);
      look = status.ensures.look;
      disc = status.ensures.devices.disc_left;
      first = status.ensures.devices.rack_left;
      second = c.in-Ok.ensures.second.only;
    }

pub tell_twins-status-requires-clause-mounted : goal.tell_twins-status-requires-clause-mounted
tell_twins-status-requires-clause-mounted g c = all_mounted_after _ _ c.look_against-status.ensures.devices.rack_left c.requires.mounted

pub tell_twins-status-requires-clause-mounted_too : goal.tell_twins-status-requires-clause-mounted_too
tell_twins-status-requires-clause-mounted_too g c = all_mounted_after _ _ c.in-Ok.ensures.second.only c.requires.mounted_too

pub returns-clause-report : goal.returns-clause-report
returns-clause-report g c = λ told told_too.
    all_ends (g.D.Disc.state c.args.disc.now).size (g.D.Disc.state c.args.disc.now).held (g.T.Tapes.rack c.args.racks.now.first) (g.T.Tapes.rack c.args.racks.now.second) c.args.seal.dumps.items c.args.seal.files.items
    c.in-Ok.twins (c.in-Ok.ensures.twins told_too)
    (record { before = g.K.Sink.written c.args.out.now; after = g.K.Sink.written c.look_against-status.new.out; faults_before = g.K.Sink.faults c.args.out.now; faults_after = g.K.Sink.faults c.look_against-status.new.out })
    (record { before = g.K.Sink.written c.look_against-status.new.out; after = g.K.Sink.written c.tell_twins-status.new.out; faults_before = g.K.Sink.faults c.look_against-status.new.out; faults_after = g.K.Sink.faults c.tell_twins-status.new.out })
    (record { before = g.K.Sink.written c.tell_twins-status.new.out; after = g.K.Sink.written c.tell_rotten_twins.new.out; faults_before = g.K.Sink.faults c.tell_twins-status.new.out; faults_after = g.K.Sink.faults c.tell_rotten_twins.new.out })
    refl refl refl refl (g.T.Tapes.rack c.look_against-status.new.tapes) (g.T.Tapes.rack c.twins_of.new.second)
    c.look_against-status.result c.tell_twins-status.result c.tell_rotten_twins.result told.each told_too
    c.look_against-status.ensures.devices.rack_left c.in-Ok.ensures.second.only (told_of c.look_against-status.result c.in-Done.is)
    (c.look_against-status.ensures.report told) c.tell_twins-status.ensures.twins c.tell_rotten_twins.ensures.rotten

pub returns-clause-first : goal.returns-clause-first
returns-clause-first g c = more_reads _ _ _ c.look_against-status.ensures.devices.rack_left c.tell_twins-status.ensures.first

pub returns-clause-second : goal.returns-clause-second
returns-clause-second g c = more_reads _ _ _ c.in-Ok.ensures.second.only c.tell_twins-status.ensures.second
