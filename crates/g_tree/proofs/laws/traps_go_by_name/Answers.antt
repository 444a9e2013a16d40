-- Each user's entry is that of the number.
use Rattle.std.proofs.Common.{refl}
use Rattle.g_tree.specs.Records.{full_of}
use Rattle.g_tree.proofs.TrapLemmas.{are_trapped, modes_found, trap_count, ninth_by_number, modes_changed}
use Rattle.g_tree.proofs.laws.traps_go_by_name.Goals as goal

pub returns : goal.returns
returns c = record {
  modes = λ users files r user is there. modes_found users r.owner r.traps (are_trapped users files r is there) user;
  count = λ users files r is there. trap_count users r.owner r.traps (are_trapped users files r is there);
  ninth = λ users files r user modes is there. ninth_by_number users r.owner r.traps (are_trapped users files r is there) user modes;
  changed = λ users files r user modes is there within. modes_changed users r.owner r.traps (are_trapped users files r is there) (full_of users r) user modes refl within;
}
