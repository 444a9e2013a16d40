-- The plain step keeps the rules of a tree, its replies are of the call's kind, and its faults are its own.
-- serves: plain_step_keeps_rules, trap_go, Fronts, StepAnswers, crates above
use Rattle.std.proofs.Common.{◌≡◌, ◌≢◌, ℕ, ◌<◌, ◌≤◌, ◌+◌, ◌-◌, ◌^◌, ◌==◌, zero, suc, Bool, true, false, cond, not, ◌&&◌, nat_le, nat_lt, List, [], ◌∷◌, ◌++◌, length, length-append, codes, Option, Some, None, IfSome, refl, sym, ap, subst, ◌∙◌, is_some, is_none, unwrap_or, bit_or, bit_and, arith, inl, inr, true≢false, lit≤}
use Rattle.std.specs.List.{AllByRecursion}
use Rattle.std.specs.FinMap.{FinMap, get, insert, remove, len, empty, get-empty, len-empty, len-insert, len-remove}
use Rattle.std.specs.Int.Bits.{or_zero_l}
use Rattle.std.proofs.lemmas.Nat.{or_lt}
use Rattle.std.proofs.lemmas.Bool.Decides.{nat_tests}
use Rattle.g_name.specs.declared.full.Full.{Full}
use Rattle.g_name.specs.Grammar.{is_word, is_lang}
use Rattle.g_name.specs.Order.{text_cmp, full_cmp}
use Rattle.g_name.proofs.Order.{full_total}
use Rattle.g_plain.specs.declared.calls.BudgetKind.{BudgetKind}
use Rattle.g_plain.specs.declared.calls.BudgetKind.TheVariants.{Space, Time, Money}
use Rattle.g_plain.specs.declared.calls.StoreCall.{StoreCall}
use Rattle.g_plain.specs.declared.calls.StoreCall.TheVariants.{NewUser, Budget, Put, Append, Fetch, Erase, Rename, List as ListFiles, TrapGo, TrapStop, TrapCheck, Retrieve}
use Rattle.g_plain.specs.declared.faults.StoreFault.TheVariants.{NoUser}
use Rattle.g_plain.specs.PlainTree.{Tree, formatted, UserRow, FileRow, has_user, user_row, no_budgets, has_file, file_row, no_row, newest, input_name, output_name, with_modes}
use Rattle.g_plain.specs.PlainStep.{Checks, first_fault, checks, fault_of, tree_after, plain_tree, with_version, with_traps, with_budget}
use Rattle.g_plain.specs.Rules.{IsUserRow, IsFileRow, IsTree, IsWithinLimits, IsNamed, most_of}
use Rattle.g_plain.proofs.TextMaps.{text_total, text_exact, full_exact}
use Rattle.g_plain.proofs.Found.{some_of, inserted, removed, here, grows, len_more}
use Rattle.g_plain.proofs.TreeLemmas.{newest-few}
use Rattle.g_plain.proofs.TreeKept.{without_file, user_there, user_put, file_put, file_gone, owner_stays, others_stay, modes_stay, few_stay, HasUsersOf, with_file}

pub all_passed : (cs : Checks) → first_fault cs ≡ None → AllByRecursion (λ c. c.0 ≡ false) cs
all_passed [] e = tt
all_passed (c ∷ cs) e =
    elim c.0 as (λ b. c.0 ≡ b → cond b (Some c.1) (first_fault cs) ≡ None → AllByRecursion (λ d. d.0 ≡ false) (c ∷ cs)) [
      | true ↦ λ t h. absurd (true≢false (ap is_some h))
      | false ↦ λ t h. (t, all_passed cs h)
    ] refl e

pub not_false : (b : Bool) → not b ≡ false → b ≡ true
not_false true e = refl
not_false false e = absurd (true≢false e)

pub not_above : (a b : ℕ) → nat_lt a b ≡ false → b ≤ a
not_above a b f = grind (arith, nat_tests)

pub below_by : (a b : ℕ) → nat_le a b ≡ false → b + 1 ≤ a
below_by a b f = grind (arith, nat_tests)

budget_row : (t : Tree) (user : List ℕ) (row : UserRow) (kind : BudgetKind) (amount : ℕ) → IsUserRow t user row → amount ≤ most_of kind → IsUserRow t user (with_budget row kind amount)
budget_row t user row Space amount r few = record { name = r.name; superior = r.superior; space = few; time = r.time; money = r.money }
budget_row t user row Time amount r few = record { name = r.name; superior = r.superior; space = r.space; time = few; money = r.money }
budget_row t user row Money amount r few = record { name = r.name; superior = r.superior; space = r.space; time = r.time; money = few }

budget_superior : (row : UserRow) (kind : BudgetKind) (amount : ℕ) → (with_budget row kind amount).superior ≡ row.superior
budget_superior row Space amount = refl
budget_superior row Time amount = refl
budget_superior row Money amount = refl

-- The row of an existing file.
pub file_there : (t : Tree) (full : Full) → has_file t full ≡ true → get t.files full ≡ Some (file_row t full)
file_there t full there =
    let row = some_of (get t.files full) there in
    row.1 ∙ ap (λ o. Some (unwrap_or o no_row)) (sym row.1)

pub file_rules : (t : Tree) (full : Full) → IsTree t → has_file t full ≡ true → IsFileRow t full (file_row t full)
file_rules t full is there = is.files full (file_row t full) (file_there t full there)

out_generation : (o : Option ℕ) (n : ℕ) → IfSome o (λ g. (1 ≤ g) × (g ≤ 4095)) → n ≤ 4095 → (is_none o && (n == 4095)) ≡ false → (1 ≤ unwrap_or o (n + 1)) × (unwrap_or o (n + 1) ≤ 4095)
out_generation None n r few left = (omega arith, grind (arith, nat_tests))
out_generation (Some g) n r few left = r

-- the traps of a new version
pub record IsTraps (t : Tree) (full : Full) (traps : FinMap text_cmp ℕ) : Type 0 where
  pub owner_stands : is_some (get traps full.user) ≡ true
  pub others : (user : List ℕ) (modes : ℕ) → get traps user ≡ Some modes → user ≢ full.user → (has_user t user ≡ true) × (0 < modes)
  pub modes : (user : List ℕ) (modes : ℕ) → get traps user ≡ Some modes → modes < 32
  pub few : len traps ≤ 9

first_traps : (t : Tree) (full : Full) → IsTraps t full (insert empty full.user 31)
first_traps t full = record {
  owner_stands = ap is_some (here text_total text_exact empty full.user 31);
  others = λ user modes e apart. elim (inserted text_total text_exact empty full.user 31 user modes e) as (λ _. (has_user t user ≡ true) × (0 < modes)) [
    | inl (k, v) ↦ absurd (apart k)
    | inr (n, h) ↦ absurd (true≢false (sym (ap is_some (sym (get-empty text_cmp user) ∙ h))))
  ];
  modes = λ user modes e. elim (inserted text_total text_exact empty full.user 31 user modes e) as (λ _. modes < 32) [
    | inl (k, v) ↦ omega (arith, v)
    | inr (n, h) ↦ absurd (true≢false (sym (ap is_some (sym (get-empty text_cmp user) ∙ h))))
  ];
  few = rw (len-insert {X = ℕ} text_total empty full.user 31) (elim (is_some (get (empty {X = ℕ} {R = text_cmp}) full.user)) as (λ b. cond b (len (empty {X = ℕ} {R = text_cmp})) (len (empty {X = ℕ} {R = text_cmp}) + 1) ≤ 9) [
    | true ↦ omega (arith, len-empty text_cmp ℕ)
    | false ↦ omega (arith, len-empty text_cmp ℕ)
  ]);
}

version_traps : (t : Tree) (full : Full) → IsTree t → IsTraps t full (cond (has_file t full) (file_row t full).traps (insert empty full.user 31))
version_traps t full is =
    elim (has_file t full) as (λ b. has_file t full ≡ b → IsTraps t full (cond b (file_row t full).traps (insert empty full.user 31))) [
      | true ↦ λ there. let r = file_rules t full is there in record { owner_stands = r.owner_stands; others = r.others; modes = r.modes; few = r.few }
      | false ↦ λ _. first_traps t full
    ] refl

-- the row of a file, by what its name, its bytes and its traps keep, in a tree with the same users
row_by : (t u : Tree) (full : Full) (row : FileRow) → HasUsersOf t u → has_user t full.user ≡ true → is_word full.local ≡ true → (1 ≤ full.generation) × (full.generation ≤ 4095) → is_lang full.lang ≡ true
    → length row.bytes ≤ 65536 → IsTraps t full row.traps → (1 ≤ row.stamp) × (row.stamp < u.next) → IsFileRow u full row
row_by t u full row users owner local generation lang bytes traps stamp =
    let others : (q : List ℕ) (k : ℕ) → get row.traps q ≡ Some k → q ≢ full.user → (has_user u q ≡ true) × (0 < k) = λ q k e apart. (users q (traps.others q k e apart).0, (traps.others q k e apart).1) in
    record { owner = users full.user owner; local = local; generation = generation; lang = lang; bytes = bytes; owner_stands = traps.owner_stands; others = others; modes = traps.modes; few = traps.few; stamp = stamp }

pub version_kept : (t : Tree) (full : Full) (bytes : List ℕ) → IsTree t → has_user t full.user ≡ true → is_word full.local ≡ true → (1 ≤ full.generation) × (full.generation ≤ 4095) → is_lang full.lang ≡ true → length bytes ≤ 65536
    → nat_le (2 ^ 62) t.next ≡ false → (has_file t full ≡ false → len t.files + 1 ≤ 1024) → IsTree (with_version t full bytes)
version_kept t full bytes is owner local generation lang few left room =
    let row : FileRow = record { traps = cond (has_file t full) (file_row t full).traps (insert empty full.user 31); bytes = bytes; stamp = t.next } in
    let below : t.next + 1 ≤ 2 ^ 62 = below_by (2 ^ 62) t.next left in
    file_put t full row (t.next + 1) is (omega arith) below
    (row_by t (with_file t full row (t.next + 1)) full row (λ q h. h) owner local generation lang few (version_traps t full is) (is.next.0, omega arith))
    room (λ g s e same. absurd (let old = (is.files g s e).stamp.1 in omega (arith, same)))

pub traps_kept : (t : Tree) (full : Full) (user : List ℕ) (m : ℕ) → IsTree t → has_file t full ≡ true → has_user t user ≡ true → m < 32
    → (is_some (get (file_row t full).traps user) ≡ false → (m == 0) ≡ false → len (file_row t full).traps + 1 ≤ 9) → IsTree (with_traps t full user m)
traps_kept t full user m is there known set room =
    let r = file_rules t full is there in
    let row = file_row t full in
    let changed : FileRow = record row { traps = with_modes full user m row.traps } in
    file_put t full changed t.next is (omega arith) is.next.1
    (row_by t (with_file t full changed t.next) full changed (λ q h. h) r.owner r.local r.generation r.lang r.bytes
    (record {
      owner_stands = owner_stays full user m row.traps r.owner_stands;
      others = λ q k e apart. elim (others_stay full user m row.traps q k e apart) as (λ _. (has_user t q ≡ true) × (0 < k)) [
        | inl (l, p) ↦ (ap (has_user t) l ∙ known, p)
        | inr old ↦ r.others q k old apart
      ];
      modes = λ q k e. elim (modes_stay full user m row.traps q k e) as (λ _. k < 32) [ inl v ↦ subst (λ j. j < 32) (sym v) set | inr old ↦ r.modes q k old ];
      few = few_stay full user m row.traps r.few r.owner_stands room;
    })
    r.stamp)
    (λ f. absurd (true≢false (sym there ∙ f))) (λ g s e same. is.stamps g full s row e (file_there t full there) same)

one_less : (b : Bool) (n : ℕ) → n ≤ 1024 → b ≡ true → cond b (n - 1) n + 1 ≤ 1024
one_less true n few e = omega arith
one_less false n few e = absurd (true≢false (sym e))

pub rename_kept : (t : Tree) (full : Full) (to : List ℕ) → IsTree t → has_file t full ≡ true → is_word to ≡ true
    → IsTree (record t { files = insert (remove t.files full) (record full { local = to }) (file_row t full) })
rename_kept t full to is there word =
    let r = file_rules t full is there in
    let row = file_row t full in
    let name : Full = record full { local = to } in
    file_put (without_file t full) name row t.next (file_gone t full is) (omega arith) is.next.1
    (row_by (without_file t full) (with_file (without_file t full) name row t.next) name row (λ q h. h) r.owner word r.generation r.lang r.bytes
    (record { owner_stands = r.owner_stands; others = r.others; modes = r.modes; few = r.few }) r.stamp)
    (λ _. rw (len-remove full_total t.files full) (one_less (has_file t full) (len t.files) is.few_files there))
    (λ g s e same. let old = removed full_total full_exact t.files full g s e in absurd (old.0 (is.stamps g full s row old.1 (file_there t full there) same)))

new_room : (there room : Bool) → there ≡ false → (not there && room) ≡ false → room ≡ false
new_room there room new left = grind (arith, nat_tests)

go_room : (o : Option ℕ) (modes : ℕ) (full : Bool) → is_some o ≡ false → (bit_or (unwrap_or o 0) modes == 0) ≡ false → (not (modes == 0) && is_none o && full) ≡ false → full ≡ false
go_room None modes full absent some left = let some' = subst (λ n. (n == 0) ≡ false) (or_zero_l modes) some in grind (arith, nat_tests)
go_room (Some x) modes full absent some left = absurd (true≢false absent)

stop_none : (o : Option ℕ) (modes : ℕ) → is_some o ≡ false → (unwrap_or o 0 - bit_and (unwrap_or o 0) modes == 0) ≡ false → ⊥
stop_none None modes absent some =
    let gone : 0 - bit_and 0 modes ≡ 0 = omega arith in
    true≢false (subst (λ n. (n == 0) ≡ false) gone some)
stop_none (Some x) modes absent some = true≢false absent

-- the modes that a user has are the sum of five bits
set_of : (o : Option ℕ) → ((modes : ℕ) → o ≡ Some modes → modes < 32) → unwrap_or o 0 < 32
set_of None is = omega arith
set_of (Some modes) is = is modes refl

-- the language of a path, or that of four spaces
lang_of : (o : Option (List ℕ)) → IfSome o (λ l. is_lang l ≡ true) → is_lang (unwrap_or o []) ≡ true
lang_of None is = refl
lang_of (Some l) is = is

-- a call without a fault keeps the rules
after : (t : Tree) (who : List ℕ) (call : StoreCall) → IsTree t → IsWithinLimits call → IsNamed call → AllByRecursion (λ c. c.0 ≡ false) ((not (has_user t who), NoUser) ∷ checks t who call) → IsTree (tree_after t who call)
after t who (NewUser user space time money) is within name p =
    user_put t user (record { superior = who; space = space; time = time; money = money }) is
    (record { name = name; superior = not_false _ p.0; space = within.0; time = within.1; money = within.2 })
    (λ there. absurd (true≢false (sym there ∙ p.1.0))) (λ _. below_by 63 (len t.users) p.1.1.0)
after t who (Budget user kind amount) is within name p =
    let there : has_user t user ≡ true = not_false _ p.1.0 in
    user_put t user (with_budget (user_row t user) kind amount) is (budget_row t user (user_row t user) kind amount (user_there t user is there) within)
    (λ _. budget_superior (user_row t user) kind amount) (λ f. absurd (true≢false (sym there ∙ f)))
after t who (Put path bytes) is within name p =
    let full = output_name t who path in
    version_kept t full bytes is (not_false _ p.1.0) name.local (out_generation path.generation (newest t who path) path.in_range (newest-few t who path is) p.1.1.0)
    (lang_of path.lang name.lang) (not_above 65536 (length bytes) p.1.1.1.1.1.0) p.1.1.1.1.1.1.1.1.0
    (λ new. below_by 1024 (len t.files) (new_room (has_file t full) (nat_le 1024 (len t.files)) new p.1.1.1.1.1.1.1.0))
after t who (Append path bytes) is within name p =
    let full = input_name t who path in
    let there : has_file t full ≡ true = not_false _ p.1.1.0 in
    let r = file_rules t full is there in
    version_kept t full ((file_row t full).bytes ++ bytes) is (not_false _ p.1.0) r.local r.generation r.lang
    (rw (length-append (file_row t full).bytes bytes) (not_above 65536 (length (file_row t full).bytes + length bytes) p.1.1.1.1.0)) p.1.1.1.1.1.1.0
    (λ f. absurd (true≢false (sym there ∙ f)))
after t who (Fetch path mode) is within name p = is
after t who (Erase path) is within name p = file_gone t (input_name t who path) is
after t who (Rename path to) is within name p = rename_kept t (input_name t who path) to is (not_false _ p.1.1.0) name
after t who (ListFiles user) is within name p = is
after t who (TrapGo path user modes) is within name p =
    let full = input_name t who path in
    let traps = (file_row t full).traps in
    let there : has_file t full ≡ true = not_false _ p.1.1.0 in
    let had = set_of (get traps user) ((file_rules t full is there).modes user) in
    traps_kept t full user (bit_or (unwrap_or (get traps user) 0) modes) is there (not_false _ p.1.1.1.0) (or_lt 5 (unwrap_or (get traps user) 0) modes had name)
    (λ absent some. below_by 9 (len traps) (go_room (get traps user) modes (nat_le 9 (len traps)) absent some p.1.1.1.1.1.0))
after t who (TrapStop path user modes) is within name p =
    let full = input_name t who path in
    let traps = (file_row t full).traps in
    let had = unwrap_or (get traps user) 0 in
    let there : has_file t full ≡ true = not_false _ p.1.1.0 in
    let few : had < 32 = set_of (get traps user) ((file_rules t full is there).modes user) in
    traps_kept t full user (had - bit_and had modes) is there (not_false _ p.1.1.1.0) (omega arith)
    (λ absent some. absurd (stop_none (get traps user) modes absent some))
after t who (TrapCheck path user) is within name p = is
after t who (Retrieve path) is within name p = is

pub granted_kept : (t : Tree) (who : List ℕ) (call : StoreCall) → IsTree t → IsWithinLimits call → IsNamed call → None ≡ fault_of t who call → IsTree (tree_after t who call)
granted_kept t who call is within name none = after t who call is within name (all_passed ((not (has_user t who), NoUser) ∷ checks t who call) (sym none))

-- THE PLAIN STEP KEEPS THE RULES
pub step_kept : (t : Tree) (who : List ℕ) (call : StoreCall) → IsTree t → IsWithinLimits call → IsNamed call → IsTree (plain_tree t who call)
step_kept t who call is within name =
    elim (fault_of t who call) as (λ o. fault_of t who call ≡ o → IsTree (elim o [ Some fault ↦ t | None ↦ tree_after t who call ])) [
      | Some fault ↦ λ _. is
      | None ↦ λ none. granted_kept t who call is within name (sym none)
    ] refl

-- the tree of a new filestore keeps the rules
abbrev first_row : UserRow
first_row = record { superior = codes "MASTER"; space = 65535; time = 1000000; money = 1000000 }

abbrev one_user : FinMap text_cmp UserRow
one_user = insert empty (codes "MASTER") first_row

-- its users have names, and the row of the first ones
record IsFirstRow (q : List ℕ) (x : UserRow) : Type 0 where
  pub name : is_word q ≡ true
  pub row : x ≡ first_row

only_first : (q : List ℕ) (x : UserRow) → get formatted.users q ≡ Some x → IsFirstRow q x
only_first q x e = elim (inserted text_total text_exact one_user (codes "MACROS") first_row q x e) as (λ _. IsFirstRow q x) [
  | inl (k, v) ↦ record { name = ap is_word k; row = v }
  | inr (n, h) ↦ elim (inserted text_total text_exact empty (codes "MASTER") first_row q x h) as (λ _. IsFirstRow q x) [
    | inl (k, v) ↦ record { name = ap is_word k; row = v }
    | inr (m, none) ↦ absurd (true≢false (sym (ap is_some (sym (get-empty text_cmp q) ∙ none))))
  ]
]

below_master : (q : List ℕ) → has_user formatted q ≡ true → (user_row formatted q).superior ≡ codes "MASTER"
below_master q there =
    let (x, got) = some_of (get formatted.users q) there in
    ap (λ o. (unwrap_or o no_budgets).superior) got ∙ ap (λ row. row.superior) (only_first q x got).row

no_file : (f : Full) (x : FileRow) → get formatted.files f ≡ Some x → ⊥
no_file f x e = true≢false (sym (ap is_some (sym (get-empty full_cmp f) ∙ e)))

pub formatted_kept : IsTree formatted
formatted_kept =
    let first : has_user formatted (codes "MASTER") ≡ true =
    grows text_total text_exact one_user (codes "MACROS") first_row (codes "MASTER") (ap is_some (here text_total text_exact empty (codes "MASTER") first_row)) in
    let second : has_user formatted (codes "MACROS") ≡ true = ap is_some (here text_total text_exact one_user (codes "MACROS") first_row) in
    record {
      users = λ q x e. let one = only_first q x e in subst (IsUserRow formatted q) (sym one.row) (record { name = one.name; superior = first; space = lit≤ tt; time = lit≤ tt; money = lit≤ tt });
      master = record { there = first; superior = below_master (codes "MASTER") first };
      macros = record { there = second; superior = below_master (codes "MACROS") second };
      above = λ q there. (suc zero, below_master q there);
      few_users = len_more text_total text_exact one_user (codes "MACROS") first_row 63
          (λ _. let few : len one_user ≤ 62 = len_more text_total text_exact empty (codes "MASTER") first_row 62 (λ _. omega (arith, len-empty text_cmp UserRow)) (omega (arith, len-empty text_cmp UserRow)) in omega arith)
          (len_more text_total text_exact empty (codes "MASTER") first_row 63 (λ _. omega (arith, len-empty text_cmp UserRow)) (omega (arith, len-empty text_cmp UserRow)));
      files = λ f x e. absurd (no_file f x e);
      few_files = omega (arith, len-empty full_cmp FileRow);
      stamps = λ f g x y e h s. absurd (no_file f x e);
      next = (lit≤ tt, lit≤ tt);
    }
