-- Each call keeps the rules of a tree.
-- serves: StepKept
use Rattle.std.proofs.Common.{◌≡◌, ◌≢◌, ℕ, ◌<◌, ◌≤◌, ◌+◌, ◌^◌, ◌==◌, zero, suc, codes, unwrap_or, true, false, cond, not, ◌&&◌, List, Some, refl, sym, ap, subst, ◌∙◌, is_some, arith, ◌⊎◌, inl, inr, true≢false}
use Rattle.std.specs.Ordering.{eq_by_cmp}
use Rattle.std.specs.FinMap.{FinMap, get, insert, remove, len, get-insert}
use Rattle.std.specs.Cmp.Lexicographic.{texts_ties}
use Rattle.g_name.specs.declared.full.Full.{Full}
use Rattle.g_name.specs.Order.{text_cmp, full_cmp, same_text}
use Rattle.g_name.proofs.Order.{full_total}
use Rattle.g_plain.specs.PlainTree.{Tree, UserRow, FileRow, has_user, user_row, no_budgets, with_modes}
use Rattle.g_plain.specs.Rules.{IsUserRow, IsFileRow, IsFirst, IsTree, superior_of, LeadsUp}
use Rattle.g_plain.proofs.TextMaps.{text_total, text_exact, full_exact}
use Rattle.g_plain.proofs.Found.{some_of, inserted, removed, grows, stays, untied, tied_are, len_more, len_less}
use Rattle.std.proofs.lemmas.Bool.Decides.{nat_tests}

-- the users of one tree are in the other
abbrev pub HasUsersOf : Tree → Tree → Type 0
HasUsersOf t u = (q : List ℕ) → has_user t q ≡ true → has_user u q ≡ true

user_row_in : (t u : Tree) (user : List ℕ) (row : UserRow) → HasUsersOf t u → IsUserRow t user row → IsUserRow u user row
user_row_in t u user row users r = record { name = r.name; superior = users row.superior r.superior; space = r.space; time = r.time; money = r.money }

file_row_in : (t u : Tree) (full : Full) (row : FileRow) → HasUsersOf t u → t.next ≤ u.next → IsFileRow t full row → IsFileRow u full row
file_row_in t u full row users later r = record {
  owner = users full.user r.owner;
  local = r.local;
  generation = r.generation;
  lang = r.lang;
  bytes = r.bytes;
  owner_stands = r.owner_stands;
  modes = r.modes;
  others = λ user modes stands apart. (users user (r.others user modes stands apart).0, (r.others user modes stands apart).1);
  few = r.few;
  stamp = (r.stamp.0, let below = r.stamp.1 in omega arith);
}

abbrev pub with_user : Tree → List ℕ → UserRow → Tree
with_user t user row = record t { users = insert t.users user row }

-- The row of an existing user.
pub user_there : (t : Tree) (user : List ℕ) → IsTree t → has_user t user ≡ true → IsUserRow t user (user_row t user)
user_there t user is there =
    let row = some_of (get t.users user) there in
    subst (λ o. IsUserRow t user (unwrap_or o no_budgets)) (sym row.1) (is.users user row.0 row.1)

-- A user who is new, or whose superior is unchanged.
module _ (t : Tree) (user : List ℕ) (row : UserRow) (is : IsTree t) (r : IsUserRow t user row) (stays_below : has_user t user ≡ true → row.superior ≡ (user_row t user).superior) where
  more_users : HasUsersOf t (with_user t user row)
  more_users q h = grows text_total text_exact t.users user row q h

  superior_same : (q : List ℕ) → has_user t q ≡ true → (user_row (with_user t user row) q).superior ≡ (user_row t q).superior
  superior_same q there =
      ap (λ o. (unwrap_or o no_budgets).superior) (get-insert text_total t.users user row q)
      ∙ elim (eq_by_cmp text_cmp q user) as (λ b. eq_by_cmp text_cmp q user ≡ b → (unwrap_or (cond b (Some row) (get t.users q)) no_budgets).superior ≡ (user_row t q).superior) [
        | true ↦ λ e. let one = tied_are text_total text_exact q user e in stays_below (ap (has_user t) (sym one) ∙ there) ∙ ap (λ p. (user_row t p).superior) (sym one)
        | false ↦ λ e. refl
      ] refl

  climbs_same : (n : ℕ) (q : List ℕ) → has_user t q ≡ true → superior_of (with_user t user row) n q ≡ superior_of t n q
  climbs_same zero q there = refl
  climbs_same (suc n) q there =
      ap (superior_of (with_user t user row) n) (superior_same q there) ∙ climbs_same n (user_row t q).superior (user_there t q is there).superior

  first_still : (q : List ℕ) → IsFirst t q → IsFirst (with_user t user row) q
  first_still q f = record { there = more_users q f.there; superior = superior_same q f.there ∙ f.superior }

  leads_still : (q : List ℕ) → has_user t q ≡ true → LeadsUp (with_user t user row) q
  leads_still q there = let (n, e) = is.above q there in (n, climbs_same n q there ∙ e)

  leads_new : (q : List ℕ) → has_user t q ≡ false → has_user (with_user t user row) q ≡ true → LeadsUp (with_user t user row) q
  leads_new q absent there =
      let got = get-insert text_total t.users user row q in
      elim (eq_by_cmp text_cmp q user) as (λ b. get (insert t.users user row) q ≡ cond b (Some row) (get t.users q) → LeadsUp (with_user t user row) q) [
        | true ↦ λ e.
            let (n, up) = is.above row.superior r.superior in
            (suc n, ap (λ o. superior_of (with_user t user row) n (unwrap_or o no_budgets).superior) e ∙ climbs_same n row.superior r.superior ∙ up)
        | false ↦ λ e. absurd (true≢false (sym there ∙ ap is_some e ∙ absent))
      ] got

  leads : (q : List ℕ) → has_user (with_user t user row) q ≡ true → LeadsUp (with_user t user row) q
  leads q there =
      elim (has_user t q) as (λ b. has_user t q ≡ b → LeadsUp (with_user t user row) q) [ true ↦ λ e. leads_still q e | false ↦ λ e. leads_new q e there ] refl

  pub user_put : (is_some (get t.users user) ≡ false → len t.users + 1 ≤ 63) → IsTree (with_user t user row)
  user_put few = record {
    users = λ q x e. elim (inserted text_total text_exact t.users user row q x e) as (λ _. IsUserRow (with_user t user row) q x) [
      | inl (k, v) ↦ subst (λ p. IsUserRow (with_user t user row) p x) (sym k) (subst (IsUserRow (with_user t user row) user) (sym v) (user_row_in t (with_user t user row) user row more_users r))
      | inr (n, h) ↦ user_row_in t (with_user t user row) q x more_users (is.users q x h)
    ];
    few_users = len_more text_total text_exact t.users user row 63 few is.few_users;
    master = first_still (codes "MASTER") is.master;
    macros = first_still (codes "MACROS") is.macros;
    above = leads;
    files = λ full x e. file_row_in t (with_user t user row) full x more_users (omega arith) (is.files full x e);
    few_files = is.few_files;
    stamps = is.stamps;
    next = is.next;
  }

-- files are nothing to users
climbs_anyhow : (t : Tree) (files : FinMap full_cmp FileRow) (next n : ℕ) (q : List ℕ) → superior_of (record t { files = files; next = next }) n q ≡ superior_of t n q
climbs_anyhow t files next zero q = refl
climbs_anyhow t files next (suc n) q = climbs_anyhow t files next n (user_row t q).superior

leads_anyhow : (t : Tree) (files : FinMap full_cmp FileRow) (next : ℕ) (q : List ℕ) → LeadsUp t q → LeadsUp (record t { files = files; next = next }) q
leads_anyhow t files next q (n, e) = (n, climbs_anyhow t files next n q ∙ e)

abbrev pub with_file : Tree → Full → FileRow → ℕ → Tree
with_file t full row n = record t { files = insert t.files full row; next = n }

pub file_put : (t : Tree) (full : Full) (row : FileRow) (n : ℕ) → IsTree t → t.next ≤ n → n ≤ 2 ^ 62 → IsFileRow (with_file t full row n) full row
    → (is_some (get t.files full) ≡ false → len t.files + 1 ≤ 1024) → ((g : Full) (s : FileRow) → get t.files g ≡ Some s → s.stamp ≡ row.stamp → g ≡ full) → IsTree (with_file t full row n)
file_put t full row n is later below r few alone =
    record {
      users = λ q x e. user_row_in t (with_file t full row n) q x (λ _ h. h) (is.users q x e);
      few_users = is.few_users;
      master = record { there = is.master.there; superior = is.master.superior };
      macros = record { there = is.macros.there; superior = is.macros.superior };
      above = λ q there. leads_anyhow t (insert t.files full row) n q (is.above q there);
      files = λ g x e. elim (inserted full_total full_exact t.files full row g x e) as (λ _. IsFileRow (with_file t full row n) g x) [
        | inl (k, v) ↦ subst (λ h. IsFileRow (with_file t full row n) h x) (sym k) (subst (IsFileRow (with_file t full row n) full) (sym v) r)
        | inr (a, h) ↦ file_row_in t (with_file t full row n) g x (λ _ u. u) later (is.files g x h)
      ];
      few_files = len_more full_total full_exact t.files full row 1024 few is.few_files;
      stamps = λ f g x y e h s. elim (inserted full_total full_exact t.files full row f x e) as (λ _. f ≡ g) [
        | inl (k, v) ↦ elim (inserted full_total full_exact t.files full row g y h) as (λ _. f ≡ g) [
          | inl (l, w) ↦ k ∙ sym l
          | inr (a, old) ↦ k ∙ sym (alone g y old (sym s ∙ ap (λ z. z.stamp) v))
        ]
        | inr (a, old) ↦ elim (inserted full_total full_exact t.files full row g y h) as (λ _. f ≡ g) [
          | inl (l, w) ↦ alone f x old (s ∙ ap (λ z. z.stamp) w) ∙ sym l
          | inr (b, other) ↦ is.stamps f g x y old other s
        ]
      ];
      next = (let first = is.next.0 in omega arith, below);
    }

abbrev pub without_file : Tree → Full → Tree
without_file t full = record t { files = remove t.files full }

pub file_gone : (t : Tree) (full : Full) → IsTree t → IsTree (without_file t full)
file_gone t full is = record {
  users = λ q x e. user_row_in t (without_file t full) q x (λ _ h. h) (is.users q x e);
  few_users = is.few_users;
  master = record { there = is.master.there; superior = is.master.superior };
  macros = record { there = is.macros.there; superior = is.macros.superior };
  above = λ q there. leads_anyhow t (remove t.files full) t.next q (is.above q there);
  files = λ g x e. file_row_in t (without_file t full) g x (λ _ h. h) (omega arith) (is.files g x (removed full_total full_exact t.files full g x e).1);
  few_files = len_less full_total full_exact t.files full 1024 is.few_files;
  stamps = λ f g x y e h s. is.stamps f g x y (removed full_total full_exact t.files full f x e).1 (removed full_total full_exact t.files full g y h).1 s;
  next = is.next;
}

-- a user's modes in a file's traps are changed
text_apart : (a b : List ℕ) → same_text a b ≡ false → a ≢ b
text_apart a b f = untied text_total text_exact a b (sym (texts_ties a b) ∙ f)

text_same : (a b : List ℕ) → same_text a b ≡ true → a ≡ b
text_same a b t = tied_are text_total text_exact a b (sym (texts_ties a b) ∙ t)

pub owner_stays : (full : Full) (user : List ℕ) (m : ℕ) (traps : FinMap text_cmp ℕ) → is_some (get traps full.user) ≡ true → is_some (get (with_modes full user m traps) full.user) ≡ true
owner_stays full user m traps stands =
    elim (m == 0) as (λ z. is_some (get (cond (z && not (same_text user full.user)) (remove traps user) (insert traps user m)) full.user) ≡ true) [
      | true ↦ elim (same_text user full.user) as (λ s. same_text user full.user ≡ s → is_some (get (cond (not s) (remove traps user) (insert traps user m)) full.user) ≡ true) [
        | true ↦ λ s. grows text_total text_exact traps user m full.user stands
        | false ↦ λ s. ap is_some (stays text_total text_exact traps user full.user (λ e. text_apart user full.user s (sym e))) ∙ stands
      ] refl
      | false ↦ grows text_total text_exact traps user m full.user stands
    ]

is_zero : (m : ℕ) → (m == 0) ≡ false → 0 < m
is_zero m f = grind (arith, nat_tests)

pub others_stay : (full : Full) (user : List ℕ) (m : ℕ) (traps : FinMap text_cmp ℕ) (q : List ℕ) (k : ℕ) → get (with_modes full user m traps) q ≡ Some k → q ≢ full.user → ((q ≡ user) × (0 < k)) ⊎ (get traps q ≡ Some k)
others_stay full user m traps q k e apart =
    elim (m == 0) as (λ z. (m == 0) ≡ z → get (cond (z && not (same_text user full.user)) (remove traps user) (insert traps user m)) q ≡ Some k → ((q ≡ user) × (0 < k)) ⊎ (get traps q ≡ Some k)) [
      | true ↦ λ z. elim (same_text user full.user) as (λ s. same_text user full.user ≡ s → get (cond (not s) (remove traps user) (insert traps user m)) q ≡ Some k → ((q ≡ user) × (0 < k)) ⊎ (get traps q ≡ Some k)) [
        | true ↦ λ s h. elim (inserted text_total text_exact traps user m q k h) as (λ _. ((q ≡ user) × (0 < k)) ⊎ (get traps q ≡ Some k)) [
          | inl (l, v) ↦ absurd (apart (l ∙ text_same user full.user s))
          | inr (n, old) ↦ inr old
        ]
        | false ↦ λ s h. inr (removed text_total text_exact traps user q k h).1
      ] refl
      | false ↦ λ z h. elim (inserted text_total text_exact traps user m q k h) as (λ _. ((q ≡ user) × (0 < k)) ⊎ (get traps q ≡ Some k)) [
        | inl (l, v) ↦ inl (l, subst (λ j. 0 < j) (sym v) (is_zero m z))
        | inr (n, old) ↦ inr old
      ]
    ] refl e

pub modes_stay : (full : Full) (user : List ℕ) (m : ℕ) (traps : FinMap text_cmp ℕ) (q : List ℕ) (k : ℕ) → get (with_modes full user m traps) q ≡ Some k → (k ≡ m) ⊎ (get traps q ≡ Some k)
modes_stay full user m traps q k e =
    elim ((m == 0) && not (same_text user full.user)) as (λ b. get (cond b (remove traps user) (insert traps user m)) q ≡ Some k → (k ≡ m) ⊎ (get traps q ≡ Some k)) [
      | true ↦ λ h. inr (removed text_total text_exact traps user q k h).1
      | false ↦ λ h. elim (inserted text_total text_exact traps user m q k h) as (λ _. (k ≡ m) ⊎ (get traps q ≡ Some k)) [ inl (l, v) ↦ inl v | inr (n, old) ↦ inr old ]
    ] e

pub few_stay : (full : Full) (user : List ℕ) (m : ℕ) (traps : FinMap text_cmp ℕ) → len traps ≤ 9 → is_some (get traps full.user) ≡ true → (is_some (get traps user) ≡ false → (m == 0) ≡ false → len traps + 1 ≤ 9) → len (with_modes full user m traps) ≤ 9
few_stay full user m traps few stands room =
    elim (m == 0) as (λ z. (m == 0) ≡ z → len (cond (z && not (same_text user full.user)) (remove traps user) (insert traps user m)) ≤ 9) [
      | true ↦ λ z. elim (same_text user full.user) as (λ s. same_text user full.user ≡ s → len (cond (not s) (remove traps user) (insert traps user m)) ≤ 9) [
        | true ↦ λ s. len_more text_total text_exact traps user m 9 (λ f. absurd (true≢false (sym stands ∙ ap (λ u. is_some (get traps u)) (sym (text_same user full.user s)) ∙ f))) few
        | false ↦ λ s. len_less text_total text_exact traps user 9 few
      ] refl
      | false ↦ λ z. len_more text_total text_exact traps user m 9 (λ f. room f z) few
    ] refl
