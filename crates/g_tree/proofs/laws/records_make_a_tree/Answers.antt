-- The rules of records give those of the tree.
use Rattle.g_tree.proofs.RuleLemmas.{tree_rules, count_users, count_files}
use Rattle.g_tree.proofs.laws.records_make_a_tree.Goals as goal

pub returns : goal.returns
returns c = record {
  rules = λ users files bytes next is below lengths first last. tree_rules users files bytes next is below lengths first last;
  users = λ users files bytes next is. count_users users files bytes next is;
  files = λ users files bytes next is. count_files users files bytes next is;
}
