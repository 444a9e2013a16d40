-- Copies move from the end of the list to the front of the table.
use Rattle.std.proofs.Common.{◌++◌, ap, ◌∙◌}
use Rattle.std.proofs.lemmas.List.{append-nil}
use Rattle.g_dirs.proofs.CopyLemmas.{Copies}
use Rattle.g_dirs.proofs.TableLemmas.{moved_on, number_below}
use Rattle.g_dirs.proofs.copy_table.CopyTable.put_all.Goals as goal

pub loop-copy-init : goal.loop-copy-init
loop-copy-init c = ap (λ (table : Copies). c.args.copies.items ++ table) c.requires.empty ∙ append-nil c.args.copies.items

pub put-requires : goal.put-requires
put-requires c =
    number_below c.args.copies.items c.loop-copy.left.items c.pop.new.self.items c.loop-copy.self c.in-Some.copy c.loop-copy.invariant c.in-Some.ensures.items
    c.requires.below c.number-number.result c.number-number.ensures

pub loop-copy-preserved : goal.loop-copy-preserved
loop-copy-preserved c =
    moved_on c.args.copies.items c.loop-copy.left.items c.pop.new.self.items c.loop-copy.self c.in-Some.copy c.loop-copy.invariant c.in-Some.ensures.items
    c.requires.rising c.number-number.result c.into_copy.result c.number-number.ensures c.into_copy.ensures c.put.new.self c.put.ensures
