-- The records that are gathered from dumps, for all users and for the first users only.
-- serves: crates above
use Rattle.std.proofs.Common.{◌≡◌, ◌≢◌, ℕ, ◌<◌, ◌≤◌, ◌==◌, List, [], ◌∷◌, ◌++◌, get_or, None, refl, sym, ◌∙◌, ap, arith, subst, All}
use Rattle.std.specs.Prelude.{AllPairs, Contains}
use Rattle.std.proofs.lemmas.List.{append_assoc, get_or_append_left, length-append}
use Rattle.std.proofs.lemmas.List.Elements.{All-append, All-filter, All-nil}
use Rattle.g_entry.specs.declared.file_rec.FileRec.{FileRec}
use Rattle.g_entry.specs.declared.user_rec.UserRec.{UserRec}
use Rattle.g_entry.specs.Rules.{AreFiles, SameName}
use Rattle.g_incr.specs.Layout.{Dump}
use Rattle.g_store_meaning.specs.Meaning.{Gathers, files_of}

-- RECORDS that are gathered are those of dumps
pub each_gathered : (P : FileRec → Type 0) (dumps : List Dump) → ((e : Dump) → Contains dumps e → All P e.files) → (users : List UserRec) (files : List FileRec) → Gathers dumps users files → All P files
each_gathered P dumps each [] files is = subst (All P) (sym is) (All-nil P)
each_gathered P dumps each (u ∷ us) files (e, has, rest, are, more) =
    subst (All P) (sym are)
    (All-append P (files_of u.number e.files) rest (All-filter (λ (r : FileRec). r.owner == u.number) P e.files (each e has.there)) (each_gathered P dumps each us rest more))

-- THE FRONT of files that keep the rules keeps them
pub all_front : (P : FileRec → Type 0) (xs ys : List FileRec) → All P (xs ++ ys) → All P xs
all_front P xs ys all k d within =
    let long = length-append xs ys in
    subst P (get_or_append_left xs ys d k within) (all k d (omega (arith, within, long)))

pairs_front : (R : FileRec → FileRec → Type 0) (xs ys : List FileRec) → AllPairs R (xs ++ ys) → AllPairs R xs
pairs_front R xs ys all i j d below within =
    let long = length-append xs ys in
    let at_i = get_or_append_left xs ys d i (omega (arith, below, within)) in
    let at_j = get_or_append_left xs ys d j within in
    subst (λ (r : FileRec). R r (get_or xs j d)) at_i
    (subst (λ (r : FileRec). R (get_or (xs ++ ys) i d) r) at_j (all i j d below (omega (arith, within, long))))

pub files_front : (users : ℕ) (xs ys : List FileRec) → AreFiles users (xs ++ ys) → AreFiles users xs
files_front users xs ys is =
    let long = length-append xs ys in
    let few = is.few in
    record {
      few = omega (arith, long, few);
      owners = all_front (λ r. r.owner < users) xs ys is.owners;
      trapped = all_front (λ r. All (λ pair. pair.0 < users) r.traps.others) xs ys is.trapped;
      names = pairs_front (λ r s. SameName r s → ⊥) xs ys is.names;
      stamps = pairs_front (λ r s. r.stamp ≢ s.stamp) xs ys is.stamps;
      dated = all_front (λ r. 1 ≤ r.stamp) xs ys is.dated;
      empty = all_front (λ r. r.len ≡ 0 → r.tape ≡ None) xs ys is.empty;
    }

-- the records of the first users
pub record HasFront (dumps : List Dump) (us : List UserRec) (fs : List FileRec) : Type 0 where
  pub front : List FileRec
  pub back : List FileRec
  pub gathers : Gathers dumps us front
  pub are : fs ≡ front ++ back

pub gathers_front : (dumps : List Dump) (us vs : List UserRec) (fs : List FileRec) → Gathers dumps (us ++ vs) fs → HasFront dumps us fs
gathers_front dumps [] vs fs all = record { front = []; back = fs; gathers = refl; are = refl }
gathers_front dumps (u ∷ us) vs fs (d, has, rest, are, more) =
    let behind = gathers_front dumps us vs rest more in
    record {
      front = files_of u.number d.files ++ behind.front;
      back = behind.back;
      gathers = (d, has, behind.front, refl, behind.gathers);
      are = are ∙ ap (λ (xs : List FileRec). files_of u.number d.files ++ xs) behind.are ∙ sym (append_assoc (files_of u.number d.files) behind.front behind.back);
    }
