-- Names are equal if and only if the numbers are.
use Rattle.std.proofs.Common.{inr}
use Rattle.g_tree.proofs.RecordLemmas.{same_user}
use Rattle.g_tree.proofs.RightLemmas.{owner_used}
use Rattle.g_tree.proofs.LawLemmas.{number_named, superior_named}
use Rattle.g_tree.proofs.laws.users_go_by_name.Goals as goal

pub returns : goal.returns
returns c = record {
  same = λ users files i j is within. same_user users i j is.each_user is.among_users.names (inr within);
  number = λ users files user is within. number_named users files is user within;
  owner = λ users files r who is there. same_user users who r.owner is.each_user is.among_users.names (inr (owner_used users files is r there));
  superior = λ users files bytes next u who is there. superior_named users files is bytes next u who there;
}
