use Rattle.std.proofs.Common.{◌≡◌, List, ap, map, subst, sym, ◌∙◌, true≢false}
use Rattle.std.specs.List.{AllZip}
use Rattle.g_files.specs.FileReel.{IsSaved, reel_file}
use Rattle.g_tape.specs.Rack.{Rack}
use Rattle.g_tape.specs.Reel.{Reel}
use Rattle.g_files.proofs.FaultLemmas.{rose_sum, sum_rose}
use Rattle.g_closing.proofs.HoldLemmas.{on_done, on_failed, saved_each}
use Rattle.g_closing.proofs.files.close_pair.Goals as goal

pub returns-then-saved : goal.returns-then-saved
returns-then-saved g c =
    let one = c.close-saved.ensures.closes in record {
      closes = record {
        holds = λ done. one.holds c.if-saved.true;
        holds_too = λ done.
            let finished = on_done c.finish.result (sym c.is_ok-finished.ensures.value ∙ done) c.finish.ensures.saved in
            let reels = c.finish.new.self.reels.items in record {
              image = (one.holds c.if-saved.true).image;
              reels = subst (λ (rs : List Reel). AllZip IsSaved rs (map reel_file reels)) (ap (λ (r : Rack). r.reels) c.finish.ensures.same) (saved_each reels finished);
            };
        failed = λ done. rose_sum _ _ _ _ one.later (on_failed c.finish.result (sym c.is_ok-finished.ensures.value ∙ done) c.finish.ensures.cause.rose);
        disc = one.disc;
        first = one.rack;
        second = record { same = c.finish.ensures.same; no_more = c.finish.ensures.no_more };
      };
    }

pub returns-else-saved : goal.returns-else-saved
returns-else-saved g c =
    let one = c.close-saved.ensures.closes in record {
      closes = record {
        holds = λ done. absurd (true≢false (sym done ∙ c.if-saved.false));
        holds_too = λ done. absurd (true≢false (sym done ∙ c.if-saved.false));
        failed = λ done. sum_rose _ _ _ _ (one.failed c.if-saved.false) c.finish.ensures.cause.later;
        disc = one.disc;
        first = one.rack;
        second = record { same = c.finish.ensures.same; no_more = c.finish.ensures.no_more };
      };
    }
