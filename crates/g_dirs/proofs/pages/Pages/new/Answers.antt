use Rattle.std.proofs.Common.{None, replicate, true}
use Rattle.g_dirs.proofs.PageLemmas.{remembers_nothing, same_pages}
use Rattle.g_dirs.proofs.pages.Pages.new.Goals as goal

pub returns-clause-nothing : goal.returns-clause-nothing
returns-clause-nothing c =
    same_pages c.in_ok-nothing.field-0 c.in_ok-nothing-2.field-0 (replicate 1088 None) (replicate 1088 None) c.in_ok-new.field-0 c.in_ok-new-2.field-0 (replicate 1088 true) (replicate 1088 true)
    c.in_ok-nothing.ensures c.in_ok-nothing-2.ensures c.in_ok-new.ensures c.in_ok-new-2.ensures

pub returns-clause-stands : goal.returns-clause-stands
returns-clause-stands c blocks =
    let is = same_pages c.in_ok-nothing.field-0 c.in_ok-nothing-2.field-0 (replicate 1088 None) (replicate 1088 None) c.in_ok-new.field-0 c.in_ok-new-2.field-0 (replicate 1088 true) (replicate 1088 true)
    c.in_ok-nothing.ensures c.in_ok-nothing-2.ensures c.in_ok-new.ensures c.in_ok-new-2.ensures in
    remembers_nothing _ blocks is
