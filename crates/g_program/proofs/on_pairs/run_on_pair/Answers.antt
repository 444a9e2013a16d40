use Rattle.std.proofs.Common.{rules, sym, ◌≡◌}
use Rattle.g_duplex.specs.Meaning.{pair_of}
use Rattle.g_files.specs.FileDisc.{disc_state}
use Rattle.g_files.specs.FileTapes.{rack_of}
use Rattle.g_program.proofs.SafeLemmas.{closed_pair_safe}
use Rattle.g_program.proofs.on_pairs.run_on_pair.Goals as goal

pub returns : goal.returns
returns g c =
    let of_run = c.run_by_rules-finish.ensures in
    record {
      runs = record {
        left_disc = c.run_by_rules-finish.result.disc;
        left_first = c.into_parts-parts.result.first;
        left_second = c.into_parts-parts.result.second;
        pair = pair_of c.run_by_rules-finish.result.tapes;
        is_first = sym c.into_parts-parts.ensures.first;
        is_second = sym c.into_parts-parts.ensures.second;
        lost_are = c.into_parts-parts.ensures.lost;
        runs = record {
          known = of_run.known (search rules);
          long = λ left told. of_run.long left told (search rules);
          complete = λ left told. of_run.complete left told (search rules);
          taken = of_run.taken;
          whole = of_run.whole (search rules);
          source = of_run.source;
          sink = of_run.sink;
          quiet = of_run.quiet;
          ends = of_run.ends (search rules);
          anew = of_run.anew (search rules);
          arms = of_run.arms (search rules);
          fuses = of_run.fuses;
          same = of_run.same;
          belongs = of_run.belongs;
          dumps = of_run.dumps;
          stay = of_run.stay;
          stands = of_run.stands;
          safe = of_run.safe;
          survives = of_run.survives (search rules);
        };
        closes = c.close_pair-closed.ensures.closes;
        safe = λ safe.
            closed_pair_safe (disc_state c.run_by_rules-finish.result.disc) _ (pair_of c.run_by_rules-finish.result.tapes) c.run_by_rules-finish.result.tapes.paired (rack_of c.into_parts-parts.result.first)
            (rack_of c.close_pair-closed.new.first) (rack_of c.into_parts-parts.result.second) (rack_of c.close_pair-closed.new.second)
            (sym c.into_parts-parts.ensures.first) (sym c.into_parts-parts.ensures.second) c.close_pair-closed.ensures.closes.disc
            c.close_pair-closed.ensures.closes.first c.close_pair-closed.ensures.closes.second (of_run.safe safe);
      };
    }
