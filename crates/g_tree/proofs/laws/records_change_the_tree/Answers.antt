-- One row of users or of files changes.
use Rattle.std.proofs.Common.{ap, ◌∙◌}
use Rattle.g_tree.specs.Records.{file_row_of, tree_of}
use Rattle.g_tree.proofs.UserLemmas.{tree_more, tree_set}
use Rattle.g_tree.proofs.LawLemmas.{tree_put, put_over, tree_erased}
use Rattle.g_tree.proofs.laws.records_change_the_tree.Goals as goal

pub returns : goal.returns
returns c = record {
  added_user = λ users files bytes next u is rules. tree_more users files u is bytes next rules;
  set_user = λ users files bytes next u within same rules. tree_set users files u.number u same bytes next within rules;
  put = λ users files bytes next r is rules. tree_put users files bytes next is r rules;
  put_same_name = λ users files bytes next r is rules named.
      tree_put users files bytes next is r rules
      ∙ ap (λ m. record (tree_of users files bytes next) { files = m })
      (put_over users files bytes next is r (tree_of users files bytes next).files (file_row_of users bytes r) named);
  erased = λ users files bytes next number is. tree_erased users files bytes next is number;
}
