-- A store whose seal it is has nothing to report.
-- serves: rotten (unchanged), twins_of (unchanged), OwnTextLemmas
use Rattle.std.proofs.Common.{◌≡◌, ◌≢◌, ◌⊎◌, inl, inr, ℕ, ◌*◌, Bool, true, false, ◌&&◌, ◌||◌, List, [], ◌∷◌, ◌++◌, zero, suc, get_or, map, Option, Some, None, refl, sym, ◌∙◌, ap, subst, arith, All}
use Rattle.std.specs.Prelude.{◌==◌, AllPairs, cond, filter, not, option_map}
use Rattle.std.specs.List.{flat_map, list_any}
use Rattle.std.specs.Cmp.Lexicographic.{bytes_decides}
use Rattle.std.proofs.lemmas.Bool.{and_from, cases_Bool, cond-false, cond-true, eq-eqb, ne_eqb}
use Rattle.std.proofs.lemmas.List.{length-map}
use Rattle.std.proofs.lemmas.List.Elements.{All-cons, All-head, All-nil, All-tail}
use Rattle.std.proofs.lemmas.Option.{same_Some}
use Rattle.sha2.specs.Sha256.{sha256}
use Rattle.g_copy.specs.Copy.{bytes_at}
use Rattle.g_copy.specs.declared.copy.DiscCopy.{DiscCopy}
use Rattle.g_dirs.specs.Directory.{Directory, FileEntry, recs}
use Rattle.g_dirs.proofs.Parts.{stands_for_one}
use Rattle.g_entry.specs.declared.file_rec.FileRec.{FileRec}
use Rattle.g_entry.specs.declared.file_rec.TapeCopy.{TapeCopy}
use Rattle.g_entry.specs.declared.format.Format.{Format}
use Rattle.g_entry.specs.declared.user_rec.UserRec.{UserRec}
use Rattle.g_incr.specs.Layout.{Dump, size_of}
use Rattle.g_lines.specs.Lines.{text_of}
use Rattle.g_shelf.specs.CompletedDumps.{all_dumps}
use Rattle.g_name.specs.Order.{same_text}
use Rattle.g_tape.specs.Reel.{Reel}
use Rattle.g_tree.proofs.ListLemmas.{pairs_first, pairs_rest}
use Rattle.g_look.specs.Text.{IsFoundOn}
use Rattle.g_seal.specs.declared.entries.SealedDump.{SealedDump}
use Rattle.g_seal.specs.declared.entries.SealedFile.{SealedFile}
use Rattle.g_seal.specs.declared.rotten_dumps.RottenDump.{RottenDump}
use Rattle.g_seal.specs.declared.twins.Twins.{Twins}
use Rattle.g_seal.specs.declared.versions.CopyState.{CopyState}
use Rattle.g_seal.specs.declared.versions.CopyState.TheVariants as state
use Rattle.g_seal.specs.declared.versions.FoundVersion.{FoundVersion}
use Rattle.g_seal.specs.Rotten.{IsReport, IsSealing, Marks, disc_state, file_lines, found_version, has_copy, is_inside, is_left_out, is_other, is_rotten, is_same_place, is_sealed, reel_state, rotten_dump_line, rotten_dumps, rotten_file_line, rotten_files, rotten_if, sum_state, tape_state, version_lines, version_of, without_sum}
use Rattle.g_seal.specs.Sealing.{bytes_on, dump_place, sealed_dump, sealed_file, sealed_files, taped_bytes}

same : (xs : List ℕ) → same_text xs xs ≡ true
same xs = (bytes_decides xs xs).1 refl

own_sum : (xs : List ℕ) → sum_state xs xs ≡ state.Sealed
own_sum xs = cond-true (same_text xs xs) state.Sealed state.Other (same xs)

own_state : (reels : List Reel) (copy : TapeCopy) (len : ℕ) → is_other (reel_state reels copy len (sha256 (bytes_on reels copy len))) ≡ false
own_state reels copy len = by_copy (has_copy reels copy len)
  where
    by_copy : (b : Bool) → is_other (cond b (sum_state (sha256 (bytes_on reels copy len)) (sha256 (bytes_on reels copy len))) state.Absent) ≡ false
    by_copy true = ap is_other (own_sum (sha256 (bytes_on reels copy len)))
    by_copy false = refl

-- DUMPS
and_false : (a b c : Bool) → b ≡ false → (a && b && c) ≡ false
and_false true true c is = absurd (let no : ⊥ = cc in no)
and_false true false c is = refl
and_false false b c is = refl

own_dump : (reels : List Reel) (d : Dump) → is_rotten reels (sealed_dump reels d) ≡ false
own_dump reels d = and_false _ _ _ (own_state reels (dump_place d) (512 * size_of d))

pub own_dumps : (reels : List Reel) (dumps : List Dump) → rotten_dumps reels (map (sealed_dump reels) dumps) ≡ []
own_dumps reels [] = refl
own_dumps reels (d ∷ dumps) =
    let rest : List SealedDump = filter (is_rotten reels) (map (sealed_dump reels) dumps) in
    ap (λ (ds : List SealedDump). map without_sum ds) (cond-false (is_rotten reels (sealed_dump reels d)) (sealed_dump reels d ∷ rest) rest (own_dump reels d)) ∙ own_dumps reels dumps

-- FILES
own_place : (c : TapeCopy) → is_same_place c (Some c) ≡ true
own_place c = and_from (c.serial == c.serial) (c.first == c.first) (eq-eqb c.serial c.serial refl) (eq-eqb c.first c.first refl)

left_true : (a b c : Bool) → a ≡ true → b ≡ true → c ≡ true → (a && b && c && true) ≡ true
left_true a b c x y z = rw (x, y, z) refl

left_false : (a b c d : Bool) → a ≡ false → (a && b && c && d) ≡ false
left_false a b c d x = rw x refl

own_tape : (reels : List Reel) (s : SealedFile) (disc : CopyState) (len : ℕ) (tape : Option TapeCopy) → s.tape ≡ tape → (s.online ≡ true → disc ≡ state.Sealed)
    → (s.online ≡ false → (c : TapeCopy) → tape ≡ Some c → s.sum ≡ sha256 (bytes_on reels c len)) → is_other (tape_state reels [] s disc len tape) ≡ false
own_tape reels s disc len None at on off = refl
own_tape reels s disc len (Some c) at on off = by_online (cases_Bool s.online)
  where
    by_online : (s.online ≡ true) ⊎ (s.online ≡ false) → is_other (tape_state reels [] s disc len (Some c)) ≡ false
    by_online (inl is) =
        let left : is_left_out [] s disc c ≡ true = left_true s.online (is_sealed disc) (is_same_place c s.tape) is (ap is_sealed (on is)) (ap (is_same_place c) at ∙ own_place c) in
        ap is_other (cond-true (is_left_out [] s disc c) state.Absent (reel_state reels c len s.sum) left)
    by_online (inr is) =
        let left : is_left_out [] s disc c ≡ false = left_false s.online (is_sealed disc) (is_same_place c s.tape) (not (list_any (is_inside c) [])) is in
        ap is_other (cond-false (is_left_out [] s disc c) state.Absent (reel_state reels c len s.sum) left ∙ ap (reel_state reels c len) (off is c refl)) ∙ own_state reels c len

or_false : (a b : Bool) → a ≡ false → b ≡ false → (a || b) ≡ false
or_false a b x y = rw (x, y) refl

-- the marks of a store without rotten dumps
abbrev own : Twins → Marks
own twins = record { rotten = []; twins = twins }

no_rotten : (blocks : List (List ℕ)) (reels : List Reel) (twins : Twins) (users : List UserRec) (s : SealedFile) (f : FileEntry) → is_other (disc_state blocks s.sum f.1) ≡ false
    → is_other (tape_state reels [] s (disc_state blocks s.sum f.1) f.0.len f.0.tape) ≡ false → rotten_if (found_version blocks reels (own twins) users s f) ≡ []
no_rotten blocks reels twins users s f disc tape =
    let v : FoundVersion = found_version blocks reels (own twins) users s f in
    cond-false (is_other v.disc || is_other v.tape) (rotten_file_line v ∷ []) [] (or_false (is_other v.disc) (is_other v.tape) disc tape)

own_version : (blocks : List (List ℕ)) (reels : List Reel) (twins : Twins) (users : List UserRec) (r : FileRec) (copy : Option DiscCopy)
    → rotten_if (found_version blocks reels (own twins) users (sealed_file blocks reels users (r, copy)) (r, copy)) ≡ []
own_version blocks reels twins users r None =
    no_rotten blocks reels twins users (sealed_file blocks reels users (r, None)) (r, None) refl
    (own_tape reels (sealed_file blocks reels users (r, None)) state.Absent r.len r.tape refl (λ wrong. absurd (let not : false ≡ true = wrong in let no : ⊥ = cc in no))
    (λ off c is. ap (λ (t : Option TapeCopy). sha256 (taped_bytes reels t r.len)) is))
own_version blocks reels twins users r (Some copy) =
    let sealed : disc_state blocks (sha256 (bytes_at copy.blocks copy.len blocks)) (Some copy) ≡ state.Sealed = own_sum (sha256 (bytes_at copy.blocks copy.len blocks)) in
    no_rotten blocks reels twins users (sealed_file blocks reels users (r, Some copy)) (r, Some copy) (ap is_other sealed)
    (own_tape reels (sealed_file blocks reels users (r, Some copy)) (disc_state blocks (sha256 (bytes_at copy.blocks copy.len blocks)) (Some copy)) r.len r.tape refl (λ on. sealed) (λ wrong. absurd (let not : true ≡ false = wrong in let no : ⊥ = cc in no)))

-- each of the files is found by its stamp
find_first : (f : FileEntry) (files : List FileEntry) → version_of (f ∷ files) f.0.stamp ≡ Some f
find_first f files = cond-true (f.0.stamp == f.0.stamp) (Some f) (version_of files f.0.stamp) (eq-eqb f.0.stamp f.0.stamp refl)

find_rest : (e f : FileEntry) (files : List FileEntry) → e.0.stamp ≢ f.0.stamp → version_of (e ∷ files) f.0.stamp ≡ version_of files f.0.stamp
find_rest e f files other = cond-false (e.0.stamp == f.0.stamp) (Some e) (version_of files f.0.stamp) (ne_eqb e.0.stamp f.0.stamp other)

at_rec : (files : List FileEntry) (k : ℕ) (d : FileEntry) → get_or (recs files) k d.0 ≡ (get_or files k d).0
at_rec [] k d = refl
at_rec (f ∷ files) zero d = refl
at_rec (f ∷ files) (suc k) d = at_rec files k d

abbrev pub IsFirst : List FileEntry → FileEntry → Type 0
IsFirst files f = version_of files f.0.stamp ≡ Some f

find_each : (files : List FileEntry) → AllPairs (λ (r : FileRec) (s : FileRec). r.stamp ≢ s.stamp) (recs files) → All (IsFirst files) files
find_each [] apart = All-nil (IsFirst [])
find_each (e ∷ files) apart = All-cons (IsFirst (e ∷ files)) e files (find_first e files) (rest (find_each files (pairs_rest (λ (r : FileRec) (s : FileRec). r.stamp ≢ s.stamp) e.0 (recs files) apart)))
  where
    rest : All (IsFirst files) files → All (IsFirst (e ∷ files)) files
    rest own k d within =
        let others = pairs_first (λ (r : FileRec) (s : FileRec). r.stamp ≢ s.stamp) e.0 (recs files) apart in
        let long = length-map files (λ (g : FileEntry). g.0) in
        let other : e.0.stamp ≢ (get_or files k d).0.stamp = subst (λ (r : FileRec). e.0.stamp ≢ r.stamp) (at_rec files k d) (others k d.0 (omega (arith, within, long))) in
        find_rest e (get_or files k d) files other ∙ own k d within

own_files : (blocks : List (List ℕ)) (reels : List Reel) (twins : Twins) (d : Directory) (files : List FileEntry) → All (IsFirst d.files) files
    → flat_map (file_lines blocks reels (own twins) d) (map (sealed_file blocks reels d.users) files) ≡ []
own_files blocks reels twins d [] all = refl
own_files blocks reels twins d (f ∷ files) all =
    let s : SealedFile = sealed_file blocks reels d.users f in
    let one : file_lines blocks reels (own twins) d s ≡ [] =
    ap (λ (o : Option FileEntry). version_lines (option_map (found_version blocks reels (own twins) d.users s) o)) (All-head (IsFirst d.files) f files all) ∙ own_version blocks reels twins d.users f.0 f.1 in
    ap (λ (ls : List (List ℕ)). ls ++ flat_map (file_lines blocks reels (own twins) d) (map (sealed_file blocks reels d.users) files)) one ∙ own_files blocks reels twins d files (All-tail (IsFirst d.files) f files all)

own_held : (blocks : List (List ℕ)) (reels : List Reel) (twins : Twins) (found on : Option (Format × Directory)) → IsFoundOn blocks found → IsFoundOn blocks on → rotten_files blocks reels (own twins) found (sealed_files blocks reels on) ≡ []
own_held blocks reels twins None on is other = refl
own_held blocks reels twins (Some (format, d)) None is other = refl
own_held blocks reels twins (Some (format, d)) (Some (form, e)) is other =
    let one : e ≡ d = stands_for_one blocks e d other.0 is.0 in
    ap (λ (x : Directory). flat_map (file_lines blocks reels (own twins) d) (map (sealed_file blocks reels x.users) x.files)) one ∙ own_files blocks reels twins d d.files (find_each d.files is.0.rules.files.stamps)

-- NOTHING TO REPORT
pub own_report : (held : Option (List (List ℕ))) (reels : List Reel) (twins : Twins) (dumps : List SealedDump) (files : List SealedFile) (text : List ℕ) → IsReport held reels twins dumps files text → IsSealing held reels dumps files → text ≡ []
own_report held reels twins dumps files text report sealing =
    let same_blocks : sealing.blocks ≡ report.blocks = same_Some sealing.blocks report.blocks (sym sealing.is_told ∙ report.is_told) in
    let here : IsFoundOn report.blocks sealing.found = subst (λ (bs : List (List ℕ)). IsFoundOn bs sealing.found) same_blocks sealing.found_is in
    let none : rotten_dumps reels dumps ≡ [] = ap (rotten_dumps reels) sealing.dumps_are ∙ own_dumps reels (all_dumps sealing.shelf reels) in
    let files_are : files ≡ sealed_files report.blocks reels sealing.found = sealing.files_are ∙ ap (λ (bs : List (List ℕ)). sealed_files bs reels sealing.found) same_blocks in
    report.text_is
    ∙ ap (λ (ds : List RottenDump). text_of (map (rotten_dump_line []) ds ++ rotten_files report.blocks reels (record { rotten = ds; twins = twins }) report.found files)) none
    ∙ ap (λ (fs : List SealedFile). text_of (rotten_files report.blocks reels (own twins) report.found fs)) files_are
    ∙ ap text_of (own_held report.blocks reels twins report.found sealing.found report.found_is here)

pub own_rotten : (reels : List Reel) (sealed : List SealedDump) (rotten : List RottenDump) (dumps : List Dump) → rotten ≡ rotten_dumps reels sealed → sealed ≡ map (sealed_dump reels) dumps → rotten ≡ []
own_rotten reels sealed rotten dumps is are = is ∙ ap (rotten_dumps reels) are ∙ own_dumps reels dumps
