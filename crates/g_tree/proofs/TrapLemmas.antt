-- Traps by the numbers of users against traps by their names.
-- serves: is_ninth, traps_go_by_name, RightLemmas, RuleLemmas, crates above
use Rattle.std.proofs.Common.{◌≡◌, ◌≢◌, ℕ, suc, ◌+◌, ◌<◌, ◌==◌, Bool, true, false, cond, not, ◌&&◌, List, [], ◌∷◌, length, map, filter, Option, Some, None, unwrap_or, refl, sym, ap, ◌∙◌, is_none, nat_le, arith, inr, true≢false}
use Rattle.std.specs.List.{All, AllPairs, Contains}
use Rattle.std.specs.Ordering.{nat_cmp, eq_by_cmp, is_eq, is_lt}
use Rattle.std.specs.declared.cmp.Ordering.{Ordering}
use Rattle.std.specs.declared.cmp.Ordering.TheVariants.{Less, Equal, Greater}
use Rattle.std.specs.Cmp.{unsigned_ties}
use Rattle.std.specs.Cmp.Lexicographic.{texts_ties}
use Rattle.std.specs.FinMap.{FinMap, get, insert, remove, len, entries, from_entries, find, is_sorted, same_map, get-from_entries, get-insert, get-remove, len-entries, nat_cmp-IsAntisymmetric}
use Rattle.std.specs.FinMap.Entries.{put, by_order, below_all}
use Rattle.std.proofs.lemmas.Bool.Decides.{nat_tests}
use Rattle.std.proofs.lemmas.List.Elements.{All-head, All-tail, All-contains}
use Rattle.std.proofs.lemmas.List.Sorted.{length_permutation}
use Rattle.g_name.specs.declared.full.Full.{Full}
use Rattle.g_name.specs.Order.{text_cmp, same_text}
use Rattle.g_trap.specs.TrapList.{TrapList, IsOthers, modes_of, other_modes, is_ninth, with_other, with_modes as with_numbered}
use Rattle.g_entry.specs.declared.format.Format.TheVariants.{Two}
use Rattle.g_entry.specs.declared.user_rec.UserRec.{UserRec}
use Rattle.g_entry.specs.declared.file_rec.FileRec.{FileRec}
use Rattle.g_entry.specs.UserFields.{IsUser}
use Rattle.g_entry.specs.FileFields.{IsFile, lacks}
use Rattle.g_plain.specs.PlainTree.{with_modes}
use Rattle.g_plain.proofs.TextMaps.{text_total, text_exact}
use Rattle.g_plain.proofs.Found.{tied_are}
use Rattle.g_tree.specs.Records.{IsRecords, name_of, traps_named}
use Rattle.g_tree.proofs.ListLemmas.{both_true}
use Rattle.g_tree.proofs.MapLemmas.{Apart, entries_permute, shadowed}
use Rattle.g_tree.proofs.RecordLemmas.{same_user, name_apart}

swapped : {A : Type 0} (a b : Bool) (x y z : A) → (a ≡ true → b ≡ true → ⊥) → cond a x (cond b y z) ≡ cond b y (cond a x z)
swapped true true x y z apart = absurd (apart refl refl)
swapped true false x y z apart = refl
swapped false b x y z apart = refl

above_apart : (u p : ℕ) → nat_cmp u p ≡ Greater → p ≢ u
above_apart u p e s = grind (arith, nat_tests)

-- The users in a file's traps, by number: each exists, and the owner isn't among the others.
pub record AreTrapped (users : List UserRec) (owner : ℕ) (traps : TrapList) : Type 0 where
  pub each_user : All (IsUser Two) users
  pub names : AllPairs (λ u v. u.user ≢ v.user) users
  pub owner_there : owner < length users
  pub others_there : All (λ pair. pair.0 < length users) traps.others
  pub others : IsOthers traps.others
  pub no_owner : lacks owner traps.others ≡ true

abbrev pub by_names : List UserRec → List (ℕ × ℕ) → List (List ℕ × ℕ)
by_names users ps = map (λ p. (name_of users p.0, p.1)) ps

nothing : (b : Bool) → ◌≡◌ {A = Option ℕ} None (cond b None None)
nothing true = refl
nothing false = refl

neither : (b : Bool) → (b && false) ≡ false
neither true = refl
neither false = refl

module _ (users : List UserRec) (all : All (IsUser Two) users) (pairs : AllPairs (λ u v. u.user ≢ v.user) users) where
  -- A name compares equal to that of a user if and only if the numbers are equal.
  name_ties : (i j : ℕ) → j < length users → eq_by_cmp text_cmp (name_of users i) (name_of users j) ≡ eq_by_cmp nat_cmp i j
  name_ties i j within = sym (texts_ties (name_of users i) (name_of users j)) ∙ same_user users i j all pairs (inr within) ∙ unsigned_ties i j

  pub find_named : (u : ℕ) (ps : List (ℕ × ℕ)) → All (λ p. p.0 < length users) ps → find text_cmp (name_of users u) (by_names users ps) ≡ find nat_cmp u ps
  find_named u [] there = refl
  find_named u (p ∷ ps) there =
      ap (λ b. cond b (Some p.1) (find text_cmp (name_of users u) (by_names users ps))) (name_ties u p.0 (All-head (λ s. s.0 < length users) p ps there))
      ∙ ap (cond (eq_by_cmp nat_cmp u p.0) (Some p.1)) (find_named u ps (All-tail (λ s. s.0 < length users) p ps there))

  -- two users have two names
  names_differ : (q : List ℕ) (i j : ℕ) → i < length users → j < length users → i ≢ j → eq_by_cmp text_cmp q (name_of users i) ≡ true → eq_by_cmp text_cmp q (name_of users j) ≡ true → ⊥
  names_differ q i j first second apart a b =
      apart (name_apart users i j pairs first second (sym (tied_are text_total text_exact q (name_of users i) a) ∙ tied_are text_total text_exact q (name_of users j) b))

  find_kept : (q : List ℕ) (u : ℕ) (ps : List (ℕ × ℕ)) → u < length users → All (λ p. p.0 < length users) ps
      → find text_cmp q (by_names users (filter (λ p. not (p.0 == u)) ps)) ≡ cond (eq_by_cmp text_cmp q (name_of users u)) None (find text_cmp q (by_names users ps))
  find_kept q u [] within there = nothing (eq_by_cmp text_cmp q (name_of users u))
  find_kept q u (p ∷ ps) within there =
      let rest = find_kept q u ps within (All-tail (λ s. s.0 < length users) p ps there) in
      elim (p.0 == u) as (λ t. (p.0 == u) ≡ t → find text_cmp q (by_names users (cond (not t) (p ∷ filter (λ s. not (s.0 == u)) ps) (filter (λ s. not (s.0 == u)) ps)))
      ≡ cond (eq_by_cmp text_cmp q (name_of users u)) None (cond (eq_by_cmp text_cmp q (name_of users p.0)) (Some p.1) (find text_cmp q (by_names users ps)))) [
        | true ↦ λ t.
            let is : p.0 ≡ u = grind (arith, nat_tests) in
            rest ∙ shadowed (eq_by_cmp text_cmp q (name_of users u)) None (Some p.1) (find text_cmp q (by_names users ps))
            ∙ ap (λ n. cond (eq_by_cmp text_cmp q (name_of users u)) None (cond (eq_by_cmp text_cmp q (name_of users n)) (Some p.1) (find text_cmp q (by_names users ps)))) (sym is)
        | false ↦ λ t.
            let apart : p.0 ≢ u = grind (arith, nat_tests) in
            ap (cond (eq_by_cmp text_cmp q (name_of users p.0)) (Some p.1)) rest
            ∙ swapped (eq_by_cmp text_cmp q (name_of users p.0)) (eq_by_cmp text_cmp q (name_of users u)) (Some p.1) None (find text_cmp q (by_names users ps))
            (names_differ q p.0 u (All-head (λ s. s.0 < length users) p ps there) within apart)
      ] refl

  find_put : (q : List ℕ) (u m : ℕ) (ps : List (ℕ × ℕ)) → u < length users → All (λ p. p.0 < length users) ps
      → find text_cmp q (by_names users (put nat_cmp u m ps)) ≡ cond (eq_by_cmp text_cmp q (name_of users u)) (Some m) (find text_cmp q (by_names users ps))
  find_put q u m [] within there = refl
  find_put q u m (p ∷ ps) within there =
      let rest = find_put q u m ps within (All-tail (λ s. s.0 < length users) p ps there) in
      elim (nat_cmp u p.0) as (λ r. nat_cmp u p.0 ≡ r → find text_cmp q (by_names users (by_order r ((u, m) ∷ p ∷ ps) ((p.0, m) ∷ ps) (p ∷ put nat_cmp u m ps)))
      ≡ cond (eq_by_cmp text_cmp q (name_of users u)) (Some m) (cond (eq_by_cmp text_cmp q (name_of users p.0)) (Some p.1) (find text_cmp q (by_names users ps)))) [
        | Less ↦ λ _. refl
        | Equal ↦ λ e.
            let is : u ≡ p.0 = nat_cmp-IsAntisymmetric u p.0 e in
            shadowed (eq_by_cmp text_cmp q (name_of users p.0)) (Some m) (Some p.1) (find text_cmp q (by_names users ps))
            ∙ ap (λ n. cond (eq_by_cmp text_cmp q (name_of users n)) (Some m) (cond (eq_by_cmp text_cmp q (name_of users p.0)) (Some p.1) (find text_cmp q (by_names users ps)))) (sym is)
        | Greater ↦ λ e.
            let apart : p.0 ≢ u = above_apart u p.0 e in
            ap (cond (eq_by_cmp text_cmp q (name_of users p.0)) (Some p.1)) rest
            ∙ swapped (eq_by_cmp text_cmp q (name_of users p.0)) (eq_by_cmp text_cmp q (name_of users u)) (Some p.1) (Some m) (find text_cmp q (by_names users ps))
            (names_differ q p.0 u (All-head (λ s. s.0 < length users) p ps there) within apart)
      ] refl

module _ (users : List UserRec) (owner : ℕ) (traps : TrapList) (is : AreTrapped users owner traps) where
  -- a user's entry is that of the number
  pub trap_found : (u : ℕ) → get (traps_named users owner traps) (name_of users u) ≡ cond (u == owner) (Some traps.owner) (find nat_cmp u traps.others)
  trap_found u =
      get-from_entries text_total ((name_of users owner, traps.owner) ∷ by_names users traps.others) (name_of users u)
      ∙ ap (λ b. cond b (Some traps.owner) (find text_cmp (name_of users u) (by_names users traps.others)))
      (sym (texts_ties (name_of users u) (name_of users owner)) ∙ same_user users u owner is.each_user is.names (inr is.owner_there))
      ∙ ap (cond (u == owner) (Some traps.owner)) (find_named users is.each_user is.names u traps.others is.others_there)

  -- The same for the modes.
  pub modes_found : (u : ℕ) → unwrap_or (get (traps_named users owner traps) (name_of users u)) 0 ≡ modes_of traps owner u
  modes_found u =
      ap (λ o. unwrap_or o 0) (trap_found u)
      ∙ elim (u == owner) as (λ t. unwrap_or (cond t (Some traps.owner) (find nat_cmp u traps.others)) 0 ≡ cond t traps.owner (other_modes traps.others u)) [ true ↦ refl | false ↦ refl ]

  abbrev rows : FinMap text_cmp ℕ
  rows = traps_named users owner traps

  own : (u m : ℕ) → (u == owner) ≡ true → cond ((m == 0) && false) (remove rows (name_of users u)) (insert rows (name_of users u) m) ≡ traps_named users owner (record traps { owner = m })
  own u m t =
      let same : u ≡ owner = grind (arith, nat_tests) in
      ap (λ b. cond b (remove rows (name_of users u)) (insert rows (name_of users u) m)) (neither (m == 0))
      ∙ ap (λ n. insert rows (name_of users n) m) same
      ∙ same_map text_total text_exact _ _
      (λ q. get-insert text_total rows (name_of users owner) m q
      ∙ ap (cond (eq_by_cmp text_cmp q (name_of users owner)) (Some m)) (get-insert text_total (from_entries (by_names users traps.others)) (name_of users owner) traps.owner q)
      ∙ sym (shadowed (eq_by_cmp text_cmp q (name_of users owner)) (Some m) (Some traps.owner) (get (from_entries (by_names users traps.others)) q))
      ∙ sym (get-insert text_total (from_entries (by_names users traps.others)) (name_of users owner) m q))

  looked : (ps : List (ℕ × ℕ)) (q : List ℕ) → get (traps_named users owner (record traps { others = ps })) q ≡ cond (eq_by_cmp text_cmp q (name_of users owner)) (Some traps.owner) (find text_cmp q (by_names users ps))
  looked ps q = get-from_entries text_total ((name_of users owner, traps.owner) ∷ by_names users ps) q

  other : (u m : ℕ) → u < length users → (u == owner) ≡ false → cond ((m == 0) && true) (remove rows (name_of users u)) (insert rows (name_of users u) m) ≡ traps_named users owner (record traps { others = with_other traps.others u m })
  other u m within t =
      let apart : owner ≢ u = grind (arith, nat_tests) in
      let differ = λ (q : List ℕ). names_differ users is.each_user is.names q owner u is.owner_there within apart in
      elim (m == 0) as (λ z. cond (z && true) (remove rows (name_of users u)) (insert rows (name_of users u) m)
      ≡ traps_named users owner (record traps { others = cond z (filter (λ p. not (p.0 == u)) traps.others) (put nat_cmp u m traps.others) })) [
        | true ↦ same_map text_total text_exact _ _
            (λ q. get-remove text_total rows (name_of users u) q
            ∙ ap (cond (eq_by_cmp text_cmp q (name_of users u)) None) (looked traps.others q)
            ∙ sym (swapped (eq_by_cmp text_cmp q (name_of users owner)) (eq_by_cmp text_cmp q (name_of users u)) (Some traps.owner) None (find text_cmp q (by_names users traps.others)) (differ q))
            ∙ ap (cond (eq_by_cmp text_cmp q (name_of users owner)) (Some traps.owner)) (sym (find_kept users is.each_user is.names q u traps.others within is.others_there))
            ∙ sym (looked (filter (λ p. not (p.0 == u)) traps.others) q))
        | false ↦ same_map text_total text_exact _ _
            (λ q. get-insert text_total rows (name_of users u) m q
            ∙ ap (cond (eq_by_cmp text_cmp q (name_of users u)) (Some m)) (looked traps.others q)
            ∙ sym (swapped (eq_by_cmp text_cmp q (name_of users owner)) (eq_by_cmp text_cmp q (name_of users u)) (Some traps.owner) (Some m) (find text_cmp q (by_names users traps.others)) (differ q))
            ∙ ap (cond (eq_by_cmp text_cmp q (name_of users owner)) (Some traps.owner)) (sym (find_put users is.each_user is.names q u m traps.others within is.others_there))
            ∙ sym (looked (put nat_cmp u m traps.others) q))
      ]

  -- a user gets these modes by number and by name
  pub modes_changed : (full : Full) (u m : ℕ) → full.user ≡ name_of users owner → u < length users
      → with_modes full (name_of users u) m (traps_named users owner traps) ≡ traps_named users owner (with_numbered traps owner u m)
  modes_changed full u m owned within =
      ap (λ b. cond ((m == 0) && not b) (remove (traps_named users owner traps) (name_of users u)) (insert (traps_named users owner traps) (name_of users u) m))
      (ap (same_text (name_of users u)) owned ∙ same_user users u owner is.each_user is.names (inr is.owner_there))
      ∙ elim (u == owner) as (λ t. (u == owner) ≡ t → cond ((m == 0) && not t) (remove (traps_named users owner traps) (name_of users u)) (insert (traps_named users owner traps) (name_of users u) m)
      ≡ traps_named users owner (cond t (record traps { owner = m }) (record traps { others = with_other traps.others u m }))) [
        | true ↦ λ t. own u m t
        | false ↦ λ t. other u m within t
      ] refl

-- The number of users in the traps.

one_more : (n : ℕ) → nat_le 9 (n + 1) ≡ nat_le 8 n
one_more n = grind (arith, nat_tests)

ninth_cases : (owns given : Bool) (modes : ℕ) (found : Option ℕ) (full : Bool) → (given && is_none (cond owns (Some modes) found) && full) ≡ (not owns && (given && is_none found && full))
ninth_cases true true modes found full = refl
ninth_cases true false modes found full = refl
ninth_cases false given modes found full = refl

plus_one : (n : ℕ) → suc (n + 1) ≡ suc n + 1
plus_one n = omega arith

lower_none : (r : Ordering) → is_lt r ≡ true → is_eq r ≡ false
lower_none Less e = refl
lower_none Equal e = absurd (true≢false (sym e))
lower_none Greater e = refl

below_none : (x : ℕ) (ps : List (ℕ × ℕ)) → below_all nat_cmp x ps ≡ true → find nat_cmp x ps ≡ None
below_none x [] below = refl
below_none x (p ∷ ps) below =
    let parts = both_true (is_lt (nat_cmp x p.0)) (below_all nat_cmp x ps) below in
    ap (λ b. cond b (Some p.1) (find nat_cmp x ps)) (lower_none (nat_cmp x p.0) parts.0) ∙ below_none x ps parts.1

lacks_none : (owner : ℕ) (ps : List (ℕ × ℕ)) → lacks owner ps ≡ true → find nat_cmp owner ps ≡ None
lacks_none owner [] lacking = refl
lacks_none owner (p ∷ ps) lacking =
    let parts = both_true (not (p.0 == owner)) (lacks owner ps) lacking in
    let first : not (p.0 == owner) ≡ true = parts.0 in
    let apart : (owner == p.0) ≡ false = grind (arith, nat_tests) in
    ap (λ b. cond b (Some p.1) (find nat_cmp owner ps)) (sym (unsigned_ties owner p.0) ∙ apart) ∙ lacks_none owner ps parts.1

module _ (users : List UserRec) (owner : ℕ) (traps : TrapList) (is : AreTrapped users owner traps) where
  counted : (ps : List (ℕ × ℕ)) → suc (length (by_names users ps)) ≡ length ps + 1
  counted [] = refl
  counted (p ∷ ps) = ap suc (counted ps) ∙ plus_one (length ps)

  others_apart : (ps : List (ℕ × ℕ)) → is_sorted nat_cmp ps ≡ true → All (λ p. p.0 < length users) ps → Apart text_cmp (by_names users ps)
  others_apart [] rising there = tt
  others_apart (p ∷ ps) rising there =
      let parts = both_true (below_all nat_cmp p.0 ps) (is_sorted nat_cmp ps) rising in (
        find_named users is.each_user is.names p.0 ps (All-tail (λ s. s.0 < length users) p ps there) ∙ below_none p.0 ps parts.0,
        others_apart ps parts.1 (All-tail (λ s. s.0 < length users) p ps there),
      )

  pub trapped_apart : Apart text_cmp ((name_of users owner, traps.owner) ∷ by_names users traps.others)
  trapped_apart =
      (find_named users is.each_user is.names owner traps.others is.others_there ∙ lacks_none owner traps.others is.no_owner, others_apart traps.others is.others.rising is.others_there)

  -- the owner and the others
  pub trap_count : len (traps_named users owner traps) ≡ length traps.others + 1
  trap_count =
      let es = (name_of users owner, traps.owner) ∷ by_names users traps.others in
      len-entries (traps_named users owner traps) ∙ length_permutation es (entries (from_entries es)) (entries_permute text_total es trapped_apart) ∙ counted traps.others

  -- a ninth other user, by name and by number
  pub ninth_by_number : (u m : ℕ) → let rows = traps_named users owner traps in
      (not (m == 0) && is_none (get rows (name_of users u)) && nat_le 9 (len rows)) ≡ (not (u == owner) && is_ninth traps.others u m)
  ninth_by_number u m =
      (λ i. not (m == 0) && is_none (trap_found users owner traps is u i) && nat_le 9 (trap_count i))
      ∙ ap (λ b. not (m == 0) && is_none (cond (u == owner) (Some traps.owner) (find nat_cmp u traps.others)) && b) (one_more (length traps.others))
      ∙ ninth_cases (u == owner) (not (m == 0)) traps.owner (find nat_cmp u traps.others) (nat_le 8 (length traps.others))

pub are_trapped : (users : List UserRec) (files : List FileRec) (r : FileRec) → IsRecords users files → Contains files r → AreTrapped users r.owner r.traps
are_trapped users files r is there =
    let file = All-contains IsFile files r is.each_file there in record {
      each_user = is.each_user;
      names = is.among_users.names;
      owner_there = All-contains (λ s. s.owner < length users) files r is.among_files.owners there;
      others_there = All-contains (λ s. All (λ pair. pair.0 < length users) s.traps.others) files r is.among_files.trapped there;
      others = file.others;
      no_owner = file.no_owner;
    }
