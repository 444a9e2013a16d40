-- The tree of records that are gathered user by user.
-- serves: dumped_tree_is, OpenedLemmas
use Rattle.std.proofs.Common.{◌≡◌, ◌≢◌, ℕ, zero, suc, ◌<◌, List, [], ◌∷◌, ◌++◌, get_or, length, Option, Some, None, refl, sym, ◌∙◌, ap, arith, subst}
use Rattle.std.specs.Prelude.{◌==◌, Contains, map}
use Rattle.std.specs.Option.{option_map}
use Rattle.std.specs.FinMap.{FinMap, find, from_entries, same_map, get-from_entries}
use Rattle.std.proofs.lemmas.Bool.{eq-eqb}
use Rattle.std.proofs.lemmas.List.{map-append}
use Rattle.std.proofs.lemmas.List.Elements.{All-contains, All-contains_itself, Contains-append_left, Contains-append_right, Contains-get_or}
use Rattle.std.proofs.lemmas.Option.{slice_get-get_or}
use Rattle.g_name.specs.declared.full.Full.{Full}
use Rattle.g_name.specs.Order.{full_cmp}
use Rattle.g_name.proofs.Order.{full_total}
use Rattle.g_entry.specs.declared.file_rec.FileRec.{FileRec}
use Rattle.g_entry.specs.declared.file_rec.TapeCopy.{TapeCopy}
use Rattle.g_entry.specs.declared.user_rec.UserRec.{UserRec}
use Rattle.g_plain.specs.PlainTree.{FileRow, Tree}
use Rattle.g_plain.proofs.TextMaps.{full_exact}
use Rattle.g_tree.specs.Records.{IsRecords, file_row_of, full_of, user_row_of}
use Rattle.g_tree.proofs.ListLemmas.{map_of_map}
use Rattle.g_tree.proofs.MapLemmas.{AreApart, found_itself, found_one, keyed}
use Rattle.g_tree.proofs.RecordLemmas.{get_file, names_apart, nobody}
use Rattle.g_disc_contents.specs.Contents.{copied_rec, recs_in}
use Rattle.g_incr.specs.Layout.{Dump}
use Rattle.g_store_meaning.specs.Meaning.{Gathers, files_in, files_of}
use Rattle.g_store_meaning.specs.Reading.{tree_by}
use Rattle.g_store_meaning.specs.StoreInvariant.{IsKept, unnumbered}
use Rattle.g_store_meaning.proofs.DirectoryLemmas.{copied_files, copied_recs}
use Rattle.g_laws_store.proofs.ClosingLemmas.{contains_filter}
use Rattle.g_laws_store.proofs.RecordLemmas.{gathered_all_of, gathered_by, gathered_pairs, numbers_none, users_apart}
use Rattle.g_laws_store.specs.Trees.{AreNumberedApart, DumpedTreeIs}

-- MAPS of two lists with the same elements
module _ {A : Type 0} (key : A → Full) (xs zs : List A) (apart_xs : AreApart key xs) (apart_zs : AreApart key zs)
    (to : (x : A) → Contains xs x → Contains zs x) (back : (x : A) → Contains zs x → Contains xs x) where
  found_in_both : (q : Full) (a b : Option A) → find full_cmp q (keyed key xs) ≡ a → find full_cmp q (keyed key zs) ≡ b → a ≡ b
  found_in_both q None None is_a is_b = refl
  found_in_both q (Some x) b is_a is_b =
      let one = found_one full_total full_exact key q xs x is_a in
      sym (subst (λ (k : Full). find full_cmp k (keyed key zs) ≡ Some x) one.1 (found_itself full_total full_exact key zs x apart_zs (to x one.0))) ∙ is_b
  found_in_both q None (Some z) is_a is_b =
      let one = found_one full_total full_exact key q zs z is_b in
      sym is_a ∙ subst (λ (k : Full). find full_cmp k (keyed key xs) ≡ Some z) one.1 (found_itself full_total full_exact key xs z apart_xs (back z one.0))

-- RECORDS OF ALL USERS are all records
gathered_there : (users : List UserRec) (files : List FileRec) (u : UserRec) (r : FileRec) → Contains users u → Contains (files_of u.number files) r → Contains (gathered_by users files) r
gathered_there [] files u r (i, within, is) there = let no : ⊥ = omega (arith, within) in absurd no
gathered_there (v ∷ vs) files u r (zero, within, is) there =
    Contains-append_left (files_of v.number files) (gathered_by vs files) r (subst (λ (x : UserRec). Contains (files_of x.number files) r) (sym is) there)
gathered_there (v ∷ vs) files u r (suc i, within, is) there =
    Contains-append_right (files_of v.number files) (gathered_by vs files) r (gathered_there vs files u r (i, omega (arith, within), is) there)

module _ (users : List UserRec) (files : List FileRec) (rules : IsRecords users files) where
  pub all_there : (r : FileRec) → Contains files r → Contains (gathered_by users files) r
  all_there r there =
      let owner : r.owner < length users = All-contains (λ (s : FileRec). s.owner < length users) files r rules.among_files.owners there in
      let u = get_or users r.owner nobody in
      let number : u.number ≡ r.owner = rules.among_users.numbered r.owner u (slice_get-get_or users r.owner nobody owner) in
      gathered_there users files u r (Contains-get_or users r.owner nobody owner)
      (contains_filter (λ (s : FileRec). s.owner == u.number) files r there (eq-eqb r.owner u.number (sym number)))

  pub none_more : (r : FileRec) → Contains (gathered_by users files) r → Contains files r
  none_more r there = All-contains (Contains files) (gathered_by users files) r (gathered_all_of (Contains files) users files (All-contains_itself files)) there

  gathered_apart : AreApart (full_of users) (gathered_by users files)
  gathered_apart =
      gathered_pairs (λ (r s : FileRec). full_of users r ≢ full_of users s) (λ r s other e. other (sym e)) users files (users_apart users rules.among_users) (names_apart users files rules)

  module _ (row : FileRec → FileRow) where
    abbrev named : FileRec → Full × FileRow
    named r = (full_of users r, row r)

    same_files_map : from_entries {R = full_cmp} (map named (gathered_by users files)) ≡ from_entries {R = full_cmp} (map named files)
    same_files_map =
        same_map full_total full_exact (from_entries (map named (gathered_by users files))) (from_entries (map named files))
        (λ q. get_file users (gathered_by users files) row q
        ∙ ap (option_map row) (get-from_entries full_total (keyed (full_of users) (gathered_by users files)) q
        ∙ found_in_both (full_of users) (gathered_by users files) files gathered_apart (names_apart users files rules) none_more all_there q
        (find full_cmp q (keyed (full_of users) (gathered_by users files))) (find full_cmp q (keyed (full_of users) files)) refl refl
        ∙ sym (get-from_entries full_total (keyed (full_of users) files) q)) ∙ sym (get_file users files row q))

-- WHAT THE DUMPS GATHER, but for numbers
pub gathered_same : (dumps : List Dump) → AreNumberedApart dumps → (ys : List FileRec) (users : List UserRec) (files : List FileRec)
    → ((u : UserRec) → Contains users u → IsKept dumps u.number (files_of u.number ys)) → Gathers dumps users files → map unnumbered files ≡ map unnumbered (gathered_by users ys)
gathered_same dumps apart ys [] files kept is = ap (map unnumbered) is
gathered_same dumps apart ys (u ∷ us) files kept (e, has, rest, are, more) =
    let k = kept u (0, omega arith, refl) in
    let one = k.directory.newest e has.there has.held in
    let two = has.newest k.source k.directory.there k.directory.held in
    let same : e ≡ k.source = apart e k.source has.there k.directory.there (omega (arith, one, two)) in
    ap (map unnumbered) are ∙ map-append unnumbered (files_of u.number e.files) rest
    ∙ ap (λ (rs : List FileRec). rs ++ map unnumbered rest) (ap (λ (x : Dump). map unnumbered (files_of u.number x.files)) same ∙ k.same)
    ∙ ap (λ (rs : List FileRec). map unnumbered (files_of u.number ys) ++ rs) (gathered_same dumps apart ys us rest (λ v in_us. kept v (Contains-append_right (u ∷ []) us v in_us)) more)
    ∙ sym (map-append unnumbered (files_of u.number ys) (gathered_by us ys))

pub gathered_copied : (copies : List (ℕ × TapeCopy)) (users : List UserRec) (files : List FileRec) → gathered_by users (map (copied_rec copies) files) ≡ map (copied_rec copies) (gathered_by users files)
gathered_copied copies [] files = refl
gathered_copied copies (u ∷ us) files =
    ap (λ (rs : List FileRec). rs ++ gathered_by us (map (copied_rec copies) files)) (copied_files u.number copies files)
    ∙ ap (λ (rs : List FileRec). map (copied_rec copies) (files_of u.number files) ++ rs) (gathered_copied copies us files)
    ∙ sym (map-append (copied_rec copies) (files_of u.number files) (gathered_by us files))

tree_parts : (ℕ → List ℕ) → List UserRec → ℕ → FinMap full_cmp FileRow → Tree
tree_parts text users next files = record { users = from_entries (map (λ (u : UserRec). (u.user, user_row_of users u)) users); files = files; next = next }

pub dumped_tree_is : DumpedTreeIs
unfolding tree_parts
dumped_tree_is text dumps t c copies apart rules users next kept =
    let xs = recs_in c in
    let ys = map (copied_rec copies) xs in
    let row : FileRec → FileRow = λ r. file_row_of c.users (λ s. text s.stamp) r in
    let entry : FileRec → Full × FileRow = λ r. (full_of c.users r, row r) in
    let kept_ys : (u : UserRec) → Contains c.users u → IsKept dumps u.number (files_of u.number ys) =
    λ u there. subst (λ (rs : List FileRec). IsKept dumps u.number (files_of u.number rs)) (copied_recs copies c.files) (kept u there) in
    let same : map unnumbered (files_in t) ≡ map unnumbered (gathered_by c.users ys) =
    numbers_none 0 t.gathered ∙ gathered_same dumps apart ys c.users t.gathered kept_ys (subst (λ (us : List UserRec). Gathers dumps us t.gathered) users t.gathers) in
    let entries : map entry (files_in t) ≡ map entry (gathered_by c.users xs) =
    sym (map_of_map entry unnumbered (files_in t)) ∙ ap (map entry) same ∙ map_of_map entry unnumbered (gathered_by c.users ys)
    ∙ ap (map entry) (gathered_copied copies c.users xs) ∙ map_of_map entry (copied_rec copies) (gathered_by c.users xs) in
    ap (λ (us : List UserRec). tree_by text us (files_in t) t.last.next) users
    ∙ ap (λ (n : ℕ). tree_by text c.users (files_in t) n) next
    ∙ ap (λ (es : List (Full × FileRow)). tree_parts text c.users c.head.next_stamp (from_entries {R = full_cmp} es)) entries
    ∙ ap (tree_parts text c.users c.head.next_stamp) (same_files_map c.users xs rules row)
