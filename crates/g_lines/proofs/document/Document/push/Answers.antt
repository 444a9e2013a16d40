use Rattle.std.proofs.Common.{◌∙◌}
use Rattle.g_lines.proofs.DocumentLemmas.{pushed_lines, pushed_whole}
use Rattle.g_lines.proofs.document.Document.push.Goals as goal

pub invariant_of-self : goal.invariant_of-self
invariant_of-self c =
    pushed_whole c.extend.result c.self.inside.text c.args.line c.as_slice.result.now c.extend.new.self c.self.invariant c.requires (c.as_slice.ensures ∙ c.in_ok-push.ensures.ok) c.extend.ensures.ok c.extend.ensures.err

pub returns-clause-ok : goal.returns-clause-ok
returns-clause-ok c =
    pushed_lines c.extend.result c.self.inside.text c.args.line c.as_slice.result.now c.extend.new.self c.args.self.now c.self.invariant c.requires (c.as_slice.ensures ∙ c.in_ok-push.ensures.ok) c.self.view_is c.extend.ensures.ok
