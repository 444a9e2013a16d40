-- The generation is the given one, or the newest.
use Rattle.std.proofs.Common.{ap}
use Rattle.g_tree.proofs.AnswerLemmas.{input_given, input_newest}
use Rattle.g_tree.proofs.tree.Tree.input_name.Goals as goal

pub newest_by-generation-requires : goal.newest_by-generation-requires
newest_by-generation-requires c = ap (λ f. f.generation) c.in-Some.ensures.some

pub returns-in-Some-generation-clause-some : goal.returns-in-Some-generation-clause-some
returns-in-Some-generation-clause-some c = λ bytes next. input_given c.args.self.now.users c.args.self.now.files bytes next _ c.args.path.now c.in-Some.full c.in-Some-generation.generation c.in-Some.ensures.some c.in-Some-generation.is

pub returns-in-None-clause-some : goal.returns-in-None-clause-some
returns-in-None-clause-some c = λ bytes next.
    input_newest c.args.self.now.users c.args.self.now.files bytes next _ c.args.path.now c.in-Some.full _ c.in-Some.ensures.records c.in-Some.ensures.some c.in-None.is c.newest_by-generation.ensures.newest
