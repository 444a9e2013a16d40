use Rattle.std.proofs.Common.{get_or, refl}
use Rattle.std.proofs.lemmas.List.Elements.{All-map}
use Rattle.g_tape.specs.Risk.{Risk}
use Rattle.std.specs.Prelude.{◌≤◌, All, length}
use Rattle.g_files.specs.FileReel.{reel_of}
use Rattle.g_files.specs.ReelRisk.{risk_of}
use Rattle.g_files.proofs.RackRiskLemmas.{cuts_fit, rack_left, reel_left}
use Rattle.g_files.proofs.laws.risks_list_what_is_read.Goals as goal

pub returns : goal.returns
returns g c =
    let items = c.args.rack.now.reels.items in record {
      read = λ s blocks at any here. rack_left reel_of risk_of (λ x. refl) (λ x. reel_left x.blocks (g.met.F.RawFile.read_left x.blocks.file)) s items blocks any at;
      fits = All-map (λ (r : Risk). All (λ m. length m.front ≤ m.longest) r.remnants) risk_of items
          (λ k d h. let r = get_or items k d in cuts_fit (reel_of r).len _ (g.met.F.RawFile.remnants r.blocks.file));
    }
