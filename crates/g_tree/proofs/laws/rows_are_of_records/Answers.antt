-- Look-ups by name and by number find the same record.
use Rattle.std.proofs.Common.{◌∙◌, sym}
use Rattle.std.specs.FinMap.{get-from_entries}
use Rattle.g_name.proofs.Order.{full_total}
use Rattle.g_plain.proofs.TextMaps.{full_exact}
use Rattle.g_tree.specs.Records.{full_of, user_row_of, file_row_of}
use Rattle.g_tree.proofs.MapLemmas.{keyed, found_one}
use Rattle.g_tree.proofs.RecordLemmas.{get_user, get_file}
use Rattle.g_tree.proofs.RuleLemmas.{numbered_is}
use Rattle.g_tree.proofs.laws.rows_are_of_records.Goals as goal

pub returns : goal.returns
returns c = record {
  users = λ users files bytes next name. get_user (user_row_of users) users name;
  files = λ users files bytes next full. get_file users files (file_row_of users bytes) full;
  named = λ users files full r e. (found_one full_total full_exact (full_of users) full files r (sym (get-from_entries full_total (keyed (full_of users) files) full) ∙ e)).1;
  numbered = numbered_is;
}
