-- The records of some of the files satisfy every rule that those of all files satisfy.
-- serves: crates above
use Rattle.std.proofs.Common.{◌≡◌, ◌≢◌, ◌<◌, ◌≤◌, Bool, List, length, get_or, map, filter, None, All, AllPairs, subst, arith}
use Rattle.std.proofs.lemmas.List.{get_or-map, length-map}
use Rattle.std.proofs.lemmas.List.Elements.{All-filter, All-map}
use Rattle.std.proofs.lemmas.List.Kept.{AllPairs-filter}
use Rattle.std.proofs.lemmas.List.Sums.{count_by-le-length, length-filter}
use Rattle.g_entry.specs.declared.file_rec.FileRec.{FileRec}
use Rattle.g_entry.specs.declared.user_rec.UserRec.{UserRec}
use Rattle.g_entry.specs.FileFields.{IsFile}
use Rattle.g_entry.specs.Rules.{SameName}
use Rattle.g_tree.specs.Records.{IsRecords}
use Rattle.g_disc_contents.specs.Contents.{File}
use Rattle.g_online.proofs.CloseNoteLemmas.{pairs_map}

all_back : {A B : Type 0} (P : B → Type 0) (f : A → B) (xs : List A) → All P (map f xs) → All (λ x. P (f x)) xs
all_back P f xs all = λ k d within. subst P (get_or-map f xs k d (f d) within) (all k (f d) (let long = length-map xs f in omega (arith, within, long)))

pairs_back : {A B : Type 0} (R : B → B → Type 0) (f : A → B) (xs : List A) → AllPairs R (map f xs) → AllPairs (λ x y. R (f x) (f y)) xs
pairs_back {A} {B} R f xs all = λ i j d less within.
    let long = length-map xs f in
    subst (λ (y : B). R (f (get_or xs i d)) y) (get_or-map f xs j d (f d) within)
    (subst (λ (x : B). R x (get_or (map f xs) j (f d))) (get_or-map f xs i d (f d) (omega (arith, less, within))) (all i j (f d) less (omega (arith, within, long))))

module _ (p : File → Bool) (files : List File) where
  abbrev rec : File → FileRec
  rec f = f.rec

  abbrev fewer : List FileRec
  fewer = map rec (filter p files)

  pub all_fewer : (P : FileRec → Type 0) → All P (map rec files) → All P fewer
  all_fewer P all = All-map P rec (filter p files) (All-filter p (λ (f : File). P f.rec) files (all_back P rec files all))

  pairs_fewer : (R : FileRec → FileRec → Type 0) → AllPairs R (map rec files) → AllPairs R fewer
  pairs_fewer R all = pairs_map R rec (filter p files) (AllPairs-filter (λ (f : File) (g : File). R f.rec g.rec) p files (pairs_back R rec files all))

  pub records_fewer : (users : List UserRec) → IsRecords users (map rec files) → IsRecords users fewer
  records_fewer users was =
      let few = was.among_files.few in
      let one = length-map files rec in
      let two = length-map (filter p files) rec in
      let three = length-filter p files in
      let four = count_by-le-length p files in
      record {
        each_user = was.each_user;
        among_users = was.among_users;
        each_file = all_fewer IsFile was.each_file;
        numbers = record { rising = pairs_fewer (λ r s. r.number < s.number) was.numbers.rising; below = all_fewer (λ r. r.number < 1024) was.numbers.below };
        among_files = record {
          few = omega (arith, few, one, two, three, four);
          owners = all_fewer (λ r. r.owner < length users) was.among_files.owners;
          trapped = all_fewer (λ r. All (λ pair. pair.0 < length users) r.traps.others) was.among_files.trapped;
          names = pairs_fewer (λ r s. SameName r s → ⊥) was.among_files.names;
          stamps = pairs_fewer (λ r s. r.stamp ≢ s.stamp) was.among_files.stamps;
          dated = all_fewer (λ r. 1 ≤ r.stamp) was.among_files.dated;
          empty = all_fewer (λ r. r.len ≡ 0 → r.tape ≡ None) was.among_files.empty;
        };
      }
