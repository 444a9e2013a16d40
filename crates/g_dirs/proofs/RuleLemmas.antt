-- The rules of a directory together.
-- serves: keeps_rules
use Rattle.std.proofs.Common.{◌≡◌, ◌≢◌, ℕ, length, All, AllPairs, sym, subst}
use Rattle.g_blocks.specs.Pool.{IsInArea}
use Rattle.g_entry.specs.Rules.{AreFiles, AreNumbered, StampsBelow}
use Rattle.g_dirs.specs.declared.dirs.Dirs.{Dirs}
use Rattle.g_dirs.specs.Directory.{IsDirectory, all_places, directory_of, entries_of, recs}
use Rattle.g_dirs.specs.Rules.{AreRead, KeepAll, numbers_of}
use Rattle.g_dirs.proofs.CopyLemmas.{match_from, places_are, recs-entries}

-- THE RULES TOGETHER
module _ (size : ℕ) (dirs : Dirs) (read : AreRead dirs) where
  same : recs (entries_of dirs.files.items dirs.online.items) ≡ dirs.files.items
  same = recs-entries dirs.files.items dirs.online.items

  places : all_places (entries_of dirs.files.items dirs.online.items) ≡ numbers_of dirs.online.items
  places = places_are dirs.files.items dirs.online.items (match_from dirs.files.items dirs.online.items read.numbered read.copies)

  pub rules_from : KeepAll size dirs.head.next_stamp dirs.users.items dirs.files.items dirs.online.items
      → IsDirectory size (directory_of dirs.head dirs.users.items dirs.files.items dirs.online.items)
  rules_from kept = record {
    users = kept.users_are;
    numbered = subst AreNumbered (sym same) read.numbered;
    files = subst (AreFiles (length dirs.users.items)) (sym same) kept.files_are;
    dated = subst (StampsBelow dirs.head.next_stamp) (sym same) kept.dated;
    lies = kept.lie;
    area = subst (All (IsInArea size)) (sym places) kept.places.area;
    apart = subst (AllPairs (λ j k. j ≢ k)) (sym places) kept.places.apart;
  }

  pub rules_to : IsDirectory size (directory_of dirs.head dirs.users.items dirs.files.items dirs.online.items)
      → KeepAll size dirs.head.next_stamp dirs.users.items dirs.files.items dirs.online.items
  rules_to is = record {
    users_are = is.users;
    files_are = subst (AreFiles (length dirs.users.items)) same is.files;
    dated = subst (StampsBelow dirs.head.next_stamp) same is.dated;
    lie = is.lies;
    places = record { area = subst (All (IsInArea size)) places is.area; apart = subst (AllPairs (λ j k. j ≢ k)) places is.apart };
  }
