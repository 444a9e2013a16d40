use Rattle.std.proofs.Common.{◌≡◌, ◌*◌, List, ap, map, subst, sym, ◌∙◌, true≢false, arith}
use Rattle.std.specs.List.{AllZip}
use Rattle.g_disc.specs.Disc.{DiscState}
use Rattle.g_files.specs.FileReel.{IsSaved, reel_file}
use Rattle.g_tape.specs.Rack.{Rack}
use Rattle.g_tape.specs.Reel.{Reel}
use Rattle.g_files.proofs.FaultLemmas.{rose_sum, sum_rose}
use Rattle.g_closing.proofs.HoldLemmas.{on_done, on_failed, saved_each}
use Rattle.g_closing.proofs.files.close.Goals as goal

pub returns-then-saved : goal.returns-then-saved
returns-then-saved g c =
    let disc = c.finish.ensures.cause.later in
    let rack = c.finish-2.ensures.cause.later in record {
      closes = record {
        holds = λ done.
            let saved = on_done c.finish.result (sym c.is_ok-saved.ensures.value ∙ c.if-saved.true) c.finish.ensures.saved in
            let finished = on_done c.finish-2.result (sym c.is_ok-finished.ensures.value ∙ done) c.finish-2.ensures.saved in
            let reels = c.finish-2.new.self.reels.items in record {
              image = λ bytes at. record {
                size = c.finish.new.self.image.sized bytes at ∙ ap (λ (d : DiscState). 512 * d.size) c.finish.ensures.same;
                blocks = saved bytes at;
              };
              reels = subst (λ (rs : List Reel). AllZip IsSaved rs (map reel_file reels)) (ap (λ (r : Rack). r.reels) c.finish-2.ensures.same) (saved_each reels finished);
            };
        failed = λ done. rose_sum _ _ _ _ disc (on_failed c.finish-2.result (sym c.is_ok-finished.ensures.value ∙ done) c.finish-2.ensures.cause.rose);
        later = omega (arith, disc, rack);
        disc = record { same = c.finish.ensures.same; durable = c.finish.ensures.durable };
        rack = record { same = c.finish-2.ensures.same; no_more = c.finish-2.ensures.no_more };
      };
    }

pub returns-else-saved : goal.returns-else-saved
returns-else-saved g c =
    let disc = c.finish.ensures.cause.later in
    let rack = c.finish-2.ensures.cause.later in record {
      closes = record {
        holds = λ done. absurd (true≢false (sym done ∙ c.if-saved.false));
        failed = λ done. sum_rose _ _ _ _ (on_failed c.finish.result (sym c.is_ok-saved.ensures.value ∙ c.if-saved.false) c.finish.ensures.cause.rose) rack;
        later = omega (arith, disc, rack);
        disc = record { same = c.finish.ensures.same; durable = c.finish.ensures.durable };
        rack = record { same = c.finish-2.ensures.same; no_more = c.finish-2.ensures.no_more };
      };
    }
