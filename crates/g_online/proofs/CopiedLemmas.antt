-- Records with other copies on tape, and otherwise the same, satisfy the rules of a directory.
-- serves: crates above
use Rattle.std.proofs.Common.{◌≡◌, ◌≢◌, ◌⊎◌, ℕ, ◌^◌, ◌<◌, ◌≤◌, ◌==◌, Bool, true, false, List, [], ◌∷◌, length, get_or, map, Option, Some, None, All, refl, ◌∙◌, subst, arith, inl, inr, if◌then◌else◌}
use Rattle.std.specs.Prelude.{IfSome, is_some}
use Rattle.std.proofs.lemmas.Bool.{cond-false, ne_eqb}
use Rattle.std.proofs.lemmas.List.{length-map}
use Rattle.std.proofs.lemmas.List.Elements.{All-head, All-map, All-tail}
use Rattle.g_entry.specs.declared.file_rec.FileRec.{FileRec}
use Rattle.g_entry.specs.declared.file_rec.TapeCopy.{TapeCopy}
use Rattle.g_entry.specs.declared.user_rec.UserRec.{UserRec}
use Rattle.g_entry.specs.FileFields.{IsCopy, IsFile}
use Rattle.g_entry.specs.Rules.{SameName, StampsBelow}
use Rattle.g_entry.proofs.RuleLemmas.{file_anew}
use Rattle.g_tree.specs.Records.{IsRecords}
use Rattle.g_disc_contents.specs.Contents.{Contents, File, copied_rec, copy_of, recs_in, with_copies, with_copy}
use Rattle.g_online.specs.AllowedChanges.{KeepsRules, Lies}
use Rattle.g_online.proofs.CloseNoteLemmas.{Tapes, pairs_map}

-- for any place on tape that each record gets
module _ (place : FileRec → Option TapeCopy) where
  abbrev replaced : FileRec → FileRec
  replaced r = record r { tape = place r }

  pub records_replaced : (users : List UserRec) (files : List FileRec) → All (λ r. IfSome (place r) IsCopy) files → All (λ r. r.len ≡ 0 → place r ≡ None) files → IsRecords users files → IsRecords users (map replaced files)
  records_replaced users files fits empty was =
      let long = length-map files replaced in
      let few = was.among_files.few in
      record {
        each_user = was.each_user;
        among_users = was.among_users;
        each_file = All-map IsFile replaced files
            (λ k d within.
            let r = get_or files k d in
            let is = was.each_file k d within in file_anew r.number r.stamp r.len (place r) r is is.stamp is.len (fits k d within));
        numbers = record {
          rising = pairs_map (λ r s. r.number < s.number) replaced files was.numbers.rising;
          below = All-map (λ r. r.number < 1024) replaced files was.numbers.below;
        };
        among_files = record {
          few = omega (arith, long, few);
          owners = All-map (λ r. r.owner < length users) replaced files was.among_files.owners;
          trapped = All-map (λ r. All (λ pair. pair.0 < length users) r.traps.others) replaced files was.among_files.trapped;
          names = pairs_map (λ r s. SameName r s → ⊥) replaced files
              (λ i j d less within same. was.among_files.names i j d less within (record { owner = same.owner; local = same.local; generation = same.generation; lang = same.lang }));
          stamps = pairs_map (λ r s. r.stamp ≢ s.stamp) replaced files was.among_files.stamps;
          dated = All-map (λ r. 1 ≤ r.stamp) replaced files was.among_files.dated;
          empty = All-map (λ r. r.len ≡ 0 → r.tape ≡ None) replaced files empty;
        };
      }

-- THE COPY of a stamp, if one may be noted
copied_fits : (cs : Tapes) (stamp : ℕ) (old : Option TapeCopy) → All (λ c. IsCopy c.1) cs → IfSome old IsCopy → IfSome (copy_of cs stamp old) IsCopy
copied_fits [] stamp old all was = was
copied_fits (c ∷ cs) stamp old all was = by_stamp (c.0 == stamp) (copied_fits cs stamp old (All-tail (λ (x : ℕ × TapeCopy). IsCopy x.1) c cs all) was)
  where
    by_stamp : (b : Bool) → IfSome (copy_of cs stamp old) IsCopy → IfSome (if b then Some c.1 else copy_of cs stamp old) IsCopy
    by_stamp true rest = All-head (λ (x : ℕ × TapeCopy). IsCopy x.1) c cs all
    by_stamp false rest = rest

-- none is taken away
still_copied : (cs : Tapes) (stamp : ℕ) (old : Option TapeCopy) → is_some old ≡ true → is_some (copy_of cs stamp old) ≡ true
still_copied [] stamp old was = was
still_copied (c ∷ cs) stamp old was = by_stamp (c.0 == stamp) (still_copied cs stamp old was)
  where
    by_stamp : (b : Bool) → is_some (copy_of cs stamp old) ≡ true → is_some (if b then Some c.1 else copy_of cs stamp old) ≡ true
    by_stamp true rest = refl
    by_stamp false rest = rest

-- and none is added if no copy has the stamp
pub none_copied : (cs : Tapes) (stamp : ℕ) (old : Option TapeCopy) → All (λ c. c.0 ≢ stamp) cs → copy_of cs stamp old ≡ old
none_copied [] stamp old all = refl
none_copied (c ∷ cs) stamp old all =
    cond-false (c.0 == stamp) (Some c.1) (copy_of cs stamp old) (ne_eqb c.0 stamp (All-head (λ (x : ℕ × TapeCopy). x.0 ≢ stamp) c cs all))
    ∙ none_copied cs stamp old (All-tail (λ (x : ℕ × TapeCopy). x.0 ≢ stamp) c cs all)

recs_copied : (copies : Tapes) (files : List File) → map (copied_rec copies) (map (λ (f : File). f.rec) files) ≡ map (λ (f : File). f.rec) (with_copies copies files)
recs_copied copies [] = refl
recs_copied copies (f ∷ files) = λ i. copied_rec copies f.rec ∷ recs_copied copies files i

-- an empty file gets none
abbrev pub KeepsEmpty : Tapes → FileRec → Type 0
KeepsEmpty copies r = r.len ≡ 0 → copy_of copies r.stamp r.tape ≡ r.tape

-- copies that records may have
module _ (copies : Tapes) (stand : All (λ c. IsCopy c.1) copies) where
  pub records_copied : (users : List UserRec) (files : List FileRec) → All (KeepsEmpty copies) files → IsRecords users files → IsRecords users (map (copied_rec copies) files)
  records_copied users files kept was =
      records_replaced (λ (r : FileRec). copy_of copies r.stamp r.tape) users files
      (λ k d within. let r = get_or files k d in copied_fits copies r.stamp r.tape stand (was.each_file k d within).tape)
      (λ k d within none. kept k d within none ∙ was.among_files.empty k d within none) was

  lies_still : (f : File) → Lies f → Lies (with_copy copies f)
  lies_still f lies = record { somewhere = by_case lies.somewhere; empty = lies.empty }
    where
      by_case : (f.online ≡ true) ⊎ (is_some f.rec.tape ≡ true) → (f.online ≡ true) ⊎ (is_some (copy_of copies f.rec.stamp f.rec.tape) ≡ true)
      by_case (inl on) = inl on
      by_case (inr copied) = inr (still_copied copies f.rec.stamp f.rec.tape copied)

  -- with them noted the contents satisfy the rules
  pub rules_copied : (c : Contents) (last : ℕ) → last < 2 ^ 62 → All (KeepsEmpty copies) (recs_in c) → KeepsRules c
      → KeepsRules (record c { head = record c.head { last_dump = last; intent = None }; files = with_copies copies c.files })
  rules_copied c last low kept rules =
      let same = recs_copied copies c.files in
      record {
        head = record { least_stamp = rules.head.least_stamp; most_stamp = rules.head.most_stamp; last_dump = low; intent = tt };
        records = subst (IsRecords c.users) same (records_copied c.users (recs_in c) kept rules.records);
        dated = subst (StampsBelow c.head.next_stamp) same (All-map (λ r. r.stamp < c.head.next_stamp) (copied_rec copies) (recs_in c) rules.dated);
        lie = All-map Lies (with_copy copies) c.files (λ k d within. lies_still (get_or c.files k d) (rules.lie k d within));
      }
