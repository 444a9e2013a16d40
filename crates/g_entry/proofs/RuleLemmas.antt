-- The rules of users and of files, from the rules of each.
-- serves: files_keep, places_are_kept, users_keep, crates above
use Rattle.std.proofs.Common.{◌≡◌, ◌≢◌, ⊎_elim, ℕ, ◌+◌, ◌^◌, ◌<◌, ◌≤◌, true, List, length, get_or, Option, Some, All, AllPairs, refl, ◌∙◌, ap, subst, arith, slice_get}
use Rattle.std.specs.Prelude.{IfSome}
use Rattle.std.proofs.lemmas.Bool.{cases_lt}
use Rattle.std.proofs.lemmas.Option.{get_or_from_slice_get, slice_get_within}
use Rattle.g_entry.specs.declared.file_rec.FileRec.{FileRec}
use Rattle.g_entry.specs.declared.file_rec.TapeCopy.{TapeCopy}
use Rattle.g_entry.specs.declared.user_rec.UserRec.{UserRec}
use Rattle.g_entry.specs.FileFields.{AreSets, IsCopy, IsFile, lacks}
use Rattle.g_name.specs.Grammar.{is_word}
use Rattle.g_trap.specs.TrapList.{IsOthers, TrapList}
use Rattle.g_entry.specs.SingleRules.{KeepPlaces, KeepsAlone, KeepsPlace}
use Rattle.g_entry.specs.Rules.{AreFiles, AreUsers, SameName}

-- one user more keeps its place
pub places_more : (users : List UserRec) (i : ℕ) (u : UserRec) → i < length users → u ≡ get_or users i u → KeepsPlace i u
    → ((j : ℕ) (v : UserRec) → j < i → slice_get users j ≡ Some v → KeepsPlace j v) → (j : ℕ) (v : UserRec) → j < i + 1 → slice_get users j ≡ Some v → KeepsPlace j v
places_more users i u inside at keeps before j v below is = ⊎_elim
    (λ (less : j < i). before j v less is)
    (λ (past : i ≤ j). let same : i ≡ j = omega arith in
    let one : u ≡ v = at ∙ ap (λ (n : ℕ). get_or users n u) same ∙ get_or_from_slice_get users j v u is in
    subst (λ (n : ℕ). KeepsPlace n v) same (subst (KeepsPlace i) one keeps))
    (cases_lt j i)

pub places_all : (users : List UserRec) (i : ℕ) → length users ≤ i → ((j : ℕ) (v : UserRec) → j < i → slice_get users j ≡ Some v → KeepsPlace j v) → KeepPlaces users
places_all users i all before = record { each = λ j v is. let inside = slice_get_within users j v is in before j v (omega arith) is }

-- THE USERS
pub users_from : (users : List UserRec) → 2 ≤ length users → length users ≤ 63 → KeepPlaces users → AllPairs (λ u v. u.user ≢ v.user) users → AreUsers users
users_from users both few places names = record {
  both = both;
  few = few;
  numbered = λ i u is. (places.each i u is).number;
  master = λ u is. let at = (places.each 0 u is).stands.master refl in record { user = at.0; superior = at.1 };
  macros = λ u is. let at = (places.each 1 u is).stands.macros refl in record { user = at.0; superior = at.1 };
  superiors = λ i u behind is. (places.each i u is).stands.behind behind;
  names = names;
}

-- THE FILES
pub files_from : (users : ℕ) (files : List FileRec) → length files ≤ 1024 → All (KeepsAlone users) files → AllPairs (λ r s. SameName r s → ⊥) files → AllPairs (λ r s. r.stamp ≢ s.stamp) files → AreFiles users files
files_from users files few alone names stamps = record {
  few = few;
  owners = λ k d inside. (alone k d inside).owner;
  trapped = λ k d inside. (alone k d inside).trapped;
  names = names;
  stamps = stamps;
  dated = λ k d inside. (alone k d inside).dated;
  empty = λ k d inside. (alone k d inside).empty;
}

-- A record with another number, local name, version, traps or place on tape is that of a file if the new value is valid.
pub file_made : (number : ℕ) (local : List ℕ) (stamp len : ℕ) (traps : TrapList) (tape : Option TapeCopy) (r : FileRec) → IsFile r → is_word local ≡ true → stamp < 2 ^ 62 → len ≤ 65536
    → IsOthers traps.others → AreSets traps → lacks r.owner traps.others ≡ true → IfSome tape IsCopy
    → IsFile (record r { number = number; local = local; stamp = stamp; len = len; traps = traps; tape = tape })
file_made number local stamp len traps tape r is word early short others sets no_owner copy = record {
  local = word;
  least_generation = is.least_generation;
  most_generation = is.most_generation;
  lang = is.lang;
  stamp = early;
  len = short;
  others = others;
  sets = sets;
  no_owner = no_owner;
  tape = copy;
}

-- The same if name and traps are unchanged.
pub file_anew : (number stamp len : ℕ) (tape : Option TapeCopy) (r : FileRec) → IsFile r → stamp < 2 ^ 62 → len ≤ 65536 → IfSome tape IsCopy
    → IsFile (record r { number = number; stamp = stamp; len = len; tape = tape })
file_anew number stamp len tape r is early short copy =
    file_made number r.local stamp len r.traps tape r is is.local early short is.others is.sets is.no_owner copy
