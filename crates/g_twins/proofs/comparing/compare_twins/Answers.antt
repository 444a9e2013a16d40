use Rattle.std.proofs.Common.{◌∙◌, ◌++◌, List, ℕ, ap}
use Rattle.std.specs.List.{flat_map}
use Rattle.g_lines.specs.Lines.{text_of}
use Rattle.g_tape.proofs.ReadLemmas.{blocks_after_reads}
use Rattle.g_twins.specs.Twins.{alone_lines, lines_of_first}
use Rattle.g_twins.proofs.TwinLemmas.{each_mounted, exposed_after, serials_after}
use Rattle.g_twins.proofs.comparing.compare_twins.Goals as goal

pub push_first-requires-clause-mounted : goal.push_first-requires-clause-mounted
push_first-requires-clause-mounted g c = each_mounted (g.T.Tapes.rack c.args.first.now) c.requires.mounted

pub push_first-requires-clause-mounted_too : goal.push_first-requires-clause-mounted_too
push_first-requires-clause-mounted_too g c = each_mounted (g.T.Tapes.rack c.args.second.now) c.requires.mounted_too

pub returns-clause-text : goal.returns-clause-text
returns-clause-text g c = λ exposed exposed'.
    let p = g.T.Tapes.rack c.args.first.now in
    let q = g.T.Tapes.rack c.args.second.now in
    let p' = g.T.Tapes.rack c.push_first.new.first in
    let q' = g.T.Tapes.rack c.push_first.new.second in
    let only = c.in_ok-push_first.ensures.first in
    let only' = c.in_ok-push_first.ensures.second in
    c.in_ok-push_alone.ensures (exposed_after p p' only exposed)
    ∙ (λ i. (c.in_ok-push_first.ensures.text exposed exposed' ∙ ap (λ (t : List ℕ). t ++ text_of (lines_of_first p q)) c.new-text.ensures) i
    ++ text_of (flat_map (λ s. alone_lines s (blocks_after_reads s p p' only i)) (serials_after q q' only' i)))
