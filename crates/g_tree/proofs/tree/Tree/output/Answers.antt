-- The generation is the given one, or the one after the newest.
use Rattle.std.proofs.Common.{sym, ap, ◌∙◌}
use Rattle.g_tree.proofs.AnswerLemmas.{nobodys_output, output_given, output_past, output_next, newest_there}
use Rattle.g_tree.proofs.tree.Tree.output.Goals as goal

pub newest_by-newest-requires : goal.newest_by-newest-requires
newest_by-newest-requires c = ap (λ f. f.generation) c.in-Some.ensures.some

pub returns-in_default : goal.returns-in_default
returns-in_default c = λ bytes next.
    nobodys_output c.args.self.now.users c.args.self.now.files bytes next _ c.args.path.now c.unwrap_or-generation.result c.in_default.ensures.records c.in_default.ensures.none c.unwrap_or-generation.ensures

pub returns-in-Some-generation : goal.returns-in-Some-generation
returns-in-Some-generation c = λ bytes next.
    output_given c.args.self.now.users c.args.self.now.files bytes next _ c.args.path.now c.in-Some.full c.in-Some-generation.generation _ c.in-Some.ensures.some c.in-Some-generation.is c.output_of.ensures

pub returns-then-newest-eq4095 : goal.returns-then-newest-eq4095
returns-then-newest-eq4095 c = λ bytes next.
    output_past c.args.self.now.users c.args.self.now.files bytes next _ c.args.path.now c.in-None.is
    (sym (newest_there c.args.self.now.users c.args.self.now.files bytes next _ c.args.path.now c.in-Some.full c.in-Some.ensures.records c.in-Some.ensures.some) ∙ sym c.newest_by-newest.ensures.newest ∙ c.if-newest-eq4095.true)

pub returns-else-newest-eq4095 : goal.returns-else-newest-eq4095
returns-else-newest-eq4095 c = λ bytes next.
    output_next c.args.self.now.users c.args.self.now.files bytes next _ c.args.path.now c.in-Some.full c.newest_by-newest.result _ c.in-Some.ensures.records c.in-Some.ensures.some c.in-None.is c.newest_by-newest.ensures.newest c.if-newest-eq4095.false
    c.output_of-in-None.ensures
