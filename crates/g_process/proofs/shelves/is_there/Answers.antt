use Rattle.g_process.proofs.JobLemmas.{lost_held, lost_none, there_online}
use Rattle.g_process.proofs.shelves.is_there.Goals as goal

pub returns-then-is_online-clause-yes : goal.returns-then-is_online-clause-yes
returns-then-is_online-clause-yes g c = λ _. there_online c.args.online.now c.args.lists.now c.args.file.now c.is_online.result c.is_online.ensures c.if-is_online.true

pub returns-in-Some-clause-no : goal.returns-in-Some-clause-no
returns-in-Some-clause-no g c = λ no_is.
    lost_held c.args.online.now c.args.lists.now c.args.file.now c.is_online.result c.is_online.ensures c.if-is_online.false c.in-Some.copy c.is_held.result c.notes_of.result.now c.blocks_for.result
    c.in-Some.is c.notes_of.ensures c.blocks_for.ensures c.is_held.ensures no_is

pub returns-in-None-clause-no : goal.returns-in-None-clause-no
returns-in-None-clause-no g c = λ _. lost_none c.args.online.now c.args.lists.now c.args.file.now c.is_online.result c.is_online.ensures c.if-is_online.false c.in-None.is
