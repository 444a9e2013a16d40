-- The first line is short because names are.
use Rattle.std.proofs.Common.{List, [], ap, length, subst, sym, ℕ, ◌++◌, ◌∙◌, ◌∷◌, ◌≡◌, ◌≤◌}
use Rattle.g_lines.specs.Lines.{ended}
use Rattle.g_monitor.specs.JobLines.{header}
use Rattle.g_job.proofs.HeaderLemmas.{header_short, word_short}
use Rattle.g_job.proofs.job.first_line.Goals as goal

pub returns-clause-short : goal.returns-clause-short
returns-clause-short c =
    let number = c.args.number in
    let name = c.args.name.now in
    let user = c.args.user.now in
    let line : c.push.new.self ≡ ended (header number name user) =
    c.in_ok-push.ensures.ok ∙ ap (λ (t : List ℕ). t ++ 10 ∷ []) (c.in_ok-push_header.ensures ∙ ap (λ (t : List ℕ). t ++ header number name user) c.requires) in
    subst (λ (t : List ℕ). length t ≤ 1048576) (sym line)
    (header_short number name user c.ranges.number.fits (word_short name c.as_slice-name.ensures.word) (word_short user c.as_slice-user.ensures.word))
