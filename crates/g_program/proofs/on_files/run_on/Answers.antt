use Rattle.std.proofs.Common.{rules, ◌≡◌}
use Rattle.g_program.proofs.SafeLemmas.{closed_safe}
use Rattle.g_program.proofs.on_files.run_on.Goals as goal

pub returns : goal.returns
returns g c =
    let of_run = c.run_by_rules-finish.ensures in
    record {
      runs = record {
        left_disc = c.run_by_rules-finish.result.disc;
        left_tapes = c.run_by_rules-finish.result.tapes;
        runs = record {
          known = of_run.known (search rules);
          long = λ left told. of_run.long left told (search rules);
          complete = λ left told. of_run.complete left told (search rules);
          taken = of_run.taken;
          whole = of_run.whole (search rules);
          source = of_run.source;
          sink = of_run.sink;
          quiet = of_run.quiet;
          ends = of_run.ends (search rules);
          anew = of_run.anew (search rules);
          arms = of_run.arms (search rules);
          fuses = of_run.fuses;
          same = of_run.same;
          belongs = of_run.belongs;
          dumps = of_run.dumps;
          stay = of_run.stay;
          stands = of_run.stands;
          safe = of_run.safe;
          survives = of_run.survives (search rules);
        };
        closes = c.close-closed.ensures.closes;
        safe = λ safe. closed_safe _ _ _ _ c.close-closed.ensures.closes.disc c.close-closed.ensures.closes.rack (of_run.safe safe);
      };
    }
