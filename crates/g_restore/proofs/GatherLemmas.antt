-- The directories of users, gathered one after another.
-- serves: add_directory (none, some), gather_at_once (put), gather_by_user (bad, ok), take_user (bad), NeverLemmas, crates above
use Rattle.std.proofs.Common.{◌≡◌, ℕ, ◌+◌, ◌<◌, ◌≤◌, Bool, false, List, [], ◌∷◌, ◌++◌, length, get_or, take, Result, Some, Ok, Err, ◌↔◌, refl, sym, ◌∙◌, ap, arith, subst, below_more}
use Rattle.std.specs.Prelude.{IfOk, IsTrue}
use Rattle.std.proofs.lemmas.Bool.{false≢true}
use Rattle.std.proofs.lemmas.List.{append-nil, append_assoc, take_all, take_more}
use Rattle.std.proofs.lemmas.Option.{slice_get_read}
use Rattle.g_base.specs.declared.memory.NoMemory.{NoMemory}
use Rattle.g_entry.specs.declared.file_rec.FileRec.{FileRec}
use Rattle.g_entry.specs.declared.user_rec.UserRec.{UserRec}
use Rattle.g_incr.specs.Layout.{Dump}
use Rattle.g_incr.specs.Plan.{numbered_from}
use Rattle.g_store_meaning.specs.Meaning.{Gathers, HasDirectory, files_of}
use Rattle.g_store_meaning.proofs.OneLemmas.{IsApart, same_gathered}
use Rattle.g_restore.specs.declared.dumps.Found.{Found}
use Rattle.g_restore.specs.Gathering.{AreGathered, ArePut, GoWith, IsAdded, IsBadWith, IsBest, IsFirstBad, IsHeldNowhere, IsTaken, NonePasses, behind}
use Rattle.g_restore.specs.KnownDumps.{AreKnown, Known, known, known_of}
use Rattle.g_restore.specs.Losses.{AreApart}
use Rattle.g_restore.proofs.KnownLemmas.{holder, none_passed}
use Rattle.g_restore.proofs.NumberLemmas.{behind_is}

-- what was gathered of the first i users
pub record SoFar (found : List Found) (users : List UserRec) (next i : ℕ) (files : List FileRec) : Type 0 where
  pub go : GoWith (length users) next files
  pub all : (dumps : List Dump) → AreKnown found dumps → AreGathered dumps (length users) next (take i users) files
  pub lower : (dumps : List Dump) → AreKnown found dumps → (k : ℕ) → k < i → (fs : List FileRec) × AreGathered dumps (length users) next (take (k + 1) users) fs

-- ONE DIRECTORY
pub held_nowhere : (found : List Found) (user : ℕ) → NonePasses (Some user) found (length found) → IsHeldNowhere found user
held_nowhere found user none dumps are d has = none_passed found dumps are.same (Some user) none d has.there has.held

pub is_added : (found : List Found) (user : ℕ) (b : ℕ × ℕ) (f : Found) (old new : List FileRec) → IsBest (Some user) found (length found) b → f ≡ get_or found b.0 f
    → new ≡ behind old user f.dir.files.items → IsAdded found user old new
is_added found user b f old new best at is dumps are =
    let (d, has, known_d) = holder found dumps are.same user b best in
    let same : known f ≡ known_of d = ap known at ∙ known_d f in
    (d, has, is ∙ ap (λ (k : Known). behind old user k.files) same)

same_holder : (dumps : List Dump) → AreApart dumps → (user : ℕ) (d e : Dump) → HasDirectory dumps user d → HasDirectory dumps user e → d ≡ e
same_holder dumps apart user d e is_d is_e =
    let one = is_d.newest e is_e.there is_e.held in
    let two = is_e.newest d is_d.there is_d.held in
    apart d e is_d.there is_e.there (omega arith)

pub bad_with : (found : List Found) (users next user : ℕ) (old new : List FileRec) → IsAdded found user old new → (GoWith users next new → ⊥) → IsBadWith found users next user old
bad_with found users next user old new added bad dumps are apart d has go =
    let (e, has_e, is) = added dumps are in
    let same : d ≡ e = same_holder dumps apart user d e has has_e in
    bad (subst (GoWith users next) (ap (λ (x : Dump). behind old user x.files) same ∙ sym is) go)

pub bad_if : (found : List Found) (users next user : ℕ) (old new : List FileRec) (result : Result Bool NoMemory) → IfOk result (λ is. IsTrue is ↔ GoWith users next new)
    → IsAdded found user old new → IfOk result (λ is. is ≡ false → IsBadWith found users next user old)
bad_if found users next user old new (Ok b) is added = λ isnt. bad_with found users next user old new added (λ go. false≢true (sym isnt ∙ is.1 go))
bad_if found users next user old new (Err e) is added = tt

-- THOSE OF USERS, and of one user more
gathers_push : (dumps : List Dump) (us : List UserRec) (u : UserRec) (fs : List FileRec) (d : Dump) → Gathers dumps us fs → HasDirectory dumps u.number d
    → Gathers dumps (us ++ u ∷ []) (fs ++ files_of u.number d.files)
gathers_push dumps [] u fs d is has = (d, has, [], ap (λ (xs : List FileRec). xs ++ files_of u.number d.files) is ∙ sym (append-nil (files_of u.number d.files)), refl)
gathers_push dumps (v ∷ vs) u fs d (e, has_e, rest, are, more) has = (
  e,
  has_e,
  rest ++ files_of u.number d.files,
  ap (λ (xs : List FileRec). xs ++ files_of u.number d.files) are ∙ append_assoc (files_of v.number e.files) rest (files_of u.number d.files),
  gathers_push dumps vs u rest d more has,
)

record IsParted (dumps : List Dump) (us : List UserRec) (u : UserRec) (fs : List FileRec) : Type 0 where
  front : List FileRec
  dump : Dump
  gathers : Gathers dumps us front
  has : HasDirectory dumps u.number dump
  are : fs ≡ front ++ files_of u.number dump.files

gathers_part : (dumps : List Dump) (us : List UserRec) (u : UserRec) (fs : List FileRec) → Gathers dumps (us ++ u ∷ []) fs → IsParted dumps us u fs
gathers_part dumps [] u fs (d, has, rest, are, none) = record {
  front = [];
  dump = d;
  gathers = refl;
  has = has;
  are = are ∙ ap (λ (xs : List FileRec). files_of u.number d.files ++ xs) none ∙ append-nil (files_of u.number d.files);
}
gathers_part dumps (v ∷ vs) u fs (e, has_e, rest, are, more) =
    let parted = gathers_part dumps vs u rest more in
    record {
      front = files_of v.number e.files ++ parted.front;
      dump = parted.dump;
      gathers = (e, has_e, parted.front, refl, parted.gathers);
      has = parted.has;
      are =
          are ∙ ap (λ (xs : List FileRec). files_of v.number e.files ++ xs) parted.are
          ∙ sym (append_assoc (files_of v.number e.files) parted.front (files_of u.number parted.dump.files));
    }

-- no files go together
pub nothing_goes : (users next : ℕ) → GoWith users next []
nothing_goes users next = record {
  rules = record {
    few = omega arith;
    owners = λ k d within. let no : ⊥ = omega (arith, within) in absurd no;
    trapped = λ k d within. let no : ⊥ = omega (arith, within) in absurd no;
    names = λ i j d below within. let no : ⊥ = omega (arith, within) in absurd no;
    stamps = λ i j d below within. let no : ⊥ = omega (arith, within) in absurd no;
    dated = λ k d within. let no : ⊥ = omega (arith, within) in absurd no;
    empty = λ k d within. let no : ⊥ = omega (arith, within) in absurd no;
  };
  dated = λ k d within. let no : ⊥ = omega (arith, within) in absurd no;
}

pub nothing_gathered : (found : List Found) (users : List UserRec) (next : ℕ) → SoFar found users next 0 []
nothing_gathered found users next = record {
  go = nothing_goes (length users) next;
  all = λ dumps are. record { gathered = []; gathers = refl; numbered = refl; go = nothing_goes (length users) next };
  lower = λ dumps are k below. let no : ⊥ = omega (arith, below) in absurd no;
}

next_user : (users : List UserRec) (i : ℕ) (u : UserRec) → i < length users → u ≡ get_or users i u → take (i + 1) users ≡ take i users ++ u ∷ []
next_user users i u within at = take_more users i u within ∙ ap (λ (x : UserRec). take i users ++ x ∷ []) (sym at)

pub one_put : (found : List Found) (users : List UserRec) (i : ℕ) (files now : List FileRec) (u : UserRec) → i < length users → u ≡ get_or users i u
    → ArePut found (take i users) files → IsAdded found u.number files now → ArePut found (take (i + 1) users) now
one_put found users i files now u within at put added dumps are =
    let (gathered, gathers, numbered) = put dumps are in
    let (d, has, is) = added dumps are in
    subst (λ (us : List UserRec). (more : List FileRec) × Gathers dumps us more × (now ≡ numbered_from 0 more)) (sym (next_user users i u within at))
    (gathered ++ files_of u.number d.files, gathers_push dumps (take i users) u gathered d gathers has, is ∙ behind_is files gathered u.number d.files numbered)

-- Directories that were appended and satisfy the rules together were gathered.
pub put_gathered : (found : List Found) (users us : List UserRec) (next : ℕ) (files : List FileRec) → ArePut found us files → GoWith (length users) next files
    → (dumps : List Dump) → AreKnown found dumps → AreGathered dumps (length users) next us files
put_gathered found users us next files put go dumps are =
    let (gathered, gathers, numbered) = put dumps are in
    record { gathered = gathered; gathers = gathers; numbered = numbered; go = go }

pub all_put : (found : List Found) (users : List UserRec) (i : ℕ) (files : List FileRec) → length users ≤ i → ArePut found (take i users) files → ArePut found users files
all_put found users i files all put = subst (λ (us : List UserRec). ArePut found us files) (take_all i users all) put

pub one_taken : (found : List Found) (users : List UserRec) (next i : ℕ) (files now : List FileRec) (u : UserRec) → i < length users → u ≡ get_or users i u
    → SoFar found users next i files → IsTaken found (length users) next u.number files now → SoFar found users next (i + 1) now
one_taken found users next i files now u within at so taken = record {
  go = taken.go;
  all = more;
  lower = λ dumps are k below.
      below_more (λ j. (fs : List FileRec) × AreGathered dumps (length users) next (take (j + 1) users) fs) i (λ j lt. so.lower dumps are j lt) (now, more dumps are) k below;
}
  where
    put : ArePut found (take i users) files
    put dumps are = let all = so.all dumps are in (all.gathered, all.gathers, all.numbered)

    more : (dumps : List Dump) → AreKnown found dumps → AreGathered dumps (length users) next (take (i + 1) users) now
    more = put_gathered found users (take (i + 1) users) next now (one_put found users i files now u within at put taken.is) taken.go

-- Dumps with distinct numbers, in the form that the laws of the state use.
pub apart_is : (dumps : List Dump) → AreApart dumps → IsApart dumps
unfolding IsApart
apart_is dumps apart = apart

pub one_bad : (found : List Found) (users : List UserRec) (next i : ℕ) (files : List FileRec) (u : UserRec) → i < length users → u ≡ get_or users i u
    → SoFar found users next i files → IsBadWith found (length users) next u.number files
    → (dumps : List Dump) → AreKnown found dumps → AreApart dumps → IsFirstBad dumps users next u.user
one_bad found users next i files u within at so bad dumps are apart = record {
  number = i;
  user = u;
  there = slice_get_read users (length users) i u refl within at;
  bad = none;
  least = λ lower below. so.lower dumps are lower below;
  name_is = refl;
}
  where
    none : (fs : List FileRec) → AreGathered dumps (length users) next (take (i + 1) users) fs → ⊥
    none fs gathered =
        let all = so.all dumps are in
        let g = subst (λ (us : List UserRec). AreGathered dumps (length users) next us fs) (next_user users i u within at) gathered in
        let parted = gathers_part dumps (take i users) u g.gathered g.gathers in
        let same : parted.front ≡ all.gathered = same_gathered dumps (apart_is dumps apart) (take i users) parted.front all.gathered parted.gathers all.gathers in
        let fs_is : fs ≡ behind files u.number parted.dump.files =
        g.numbered ∙ ap (numbered_from 0) (parted.are ∙ ap (λ (xs : List FileRec). xs ++ files_of u.number parted.dump.files) same)
        ∙ sym (behind_is files all.gathered u.number parted.dump.files all.numbered) in
        bad dumps are apart parted.dump parted.has (subst (GoWith (length users) next) fs_is g.go)

pub all_gathered : (found : List Found) (users : List UserRec) (next i : ℕ) (files : List FileRec) → length users ≤ i → SoFar found users next i files
    → (dumps : List Dump) → AreKnown found dumps → AreGathered dumps (length users) next users files
all_gathered found users next i files le so dumps are =
    subst (λ (us : List UserRec). AreGathered dumps (length users) next us files) (take_all i users le) (so.all dumps are)
