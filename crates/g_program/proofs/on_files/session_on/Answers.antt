use Rattle.g_program.proofs.SafeLemmas.{closed_safe}
use Rattle.g_program.proofs.on_files.session_on.Goals as goal

pub returns : goal.returns
returns g c =
    let of_session = c.session_by_rules-finish.ensures in
    record {
      session = record {
        left_disc = c.session_by_rules-finish.result.disc;
        left_tapes = c.session_by_rules-finish.result.tapes;
        session = record {
          of = of_session.of;
          answers = of_session.answers;
          ends = of_session.ends;
          anew = of_session.anew;
          causes = of_session.causes;
          fuses = of_session.fuses;
          same = of_session.same;
          belongs = of_session.belongs;
          dumps = of_session.dumps;
          stands = of_session.stands;
          safe = of_session.safe;
          survives = of_session.survives;
        };
        closes = c.close-closed.ensures.closes;
        safe = λ safe. closed_safe _ _ _ _ c.close-closed.ensures.closes.disc c.close-closed.ensures.closes.rack (of_session.safe safe);
      };
    }
