use Rattle.std.proofs.Common.{sym}
use Rattle.g_duplex.specs.Meaning.{pair_of}
use Rattle.g_files.specs.FileDisc.{disc_state}
use Rattle.g_files.specs.FileTapes.{rack_of}
use Rattle.g_program.proofs.SafeLemmas.{closed_pair_safe}
use Rattle.g_program.proofs.on_pairs.session_on_pair.Goals as goal

pub returns : goal.returns
returns g c =
    let of_session = c.session_by_rules-finish.ensures in
    record {
      session = record {
        left_disc = c.session_by_rules-finish.result.disc;
        left_first = c.into_parts-parts.result.first;
        left_second = c.into_parts-parts.result.second;
        pair = pair_of c.session_by_rules-finish.result.tapes;
        is_first = sym c.into_parts-parts.ensures.first;
        is_second = sym c.into_parts-parts.ensures.second;
        lost_are = c.into_parts-parts.ensures.lost;
        session = record {
          of = of_session.of;
          answers = of_session.answers;
          ends = of_session.ends;
          anew = of_session.anew;
          causes = of_session.causes;
          fuses = of_session.fuses;
          same = of_session.same;
          belongs = of_session.belongs;
          dumps = of_session.dumps;
          stands = of_session.stands;
          safe = of_session.safe;
          survives = of_session.survives;
        };
        closes = c.close_pair-closed.ensures.closes;
        safe = λ safe.
            closed_pair_safe (disc_state c.session_by_rules-finish.result.disc) _ (pair_of c.session_by_rules-finish.result.tapes) c.session_by_rules-finish.result.tapes.paired (rack_of c.into_parts-parts.result.first)
            (rack_of c.close_pair-closed.new.first) (rack_of c.into_parts-parts.result.second) (rack_of c.close_pair-closed.new.second)
            (sym c.into_parts-parts.ensures.first) (sym c.into_parts-parts.ensures.second) c.close_pair-closed.ensures.closes.disc
            c.close_pair-closed.ensures.closes.first c.close_pair-closed.ensures.closes.second (of_session.safe safe);
      };
    }
