-- Codes of the rows and maps of a tree, by which proofs tell values apart.
use Rattle.std.specs.Prelude.{ℕ, List, refl}
use Rattle.std.specs.Coded.{Coded, code_by, coded×, coded_ℕ, coded_list}
use Rattle.std.specs.FinMap as map
use Rattle.g_name.specs.declared.full.Full.{Full}
use Rattle.g_name.specs.Order.{text_cmp, full_cmp}
use Rattle.g_plain.specs.PlainTree.{UserRow, FileRow, Tree}

-- The code of texts.
abbrev pub text_code : Coded (List ℕ)
text_code = coded_list coded_ℕ

-- The code of full names.
abbrev pub full_code : Coded Full
full_code =
    code_by (List ℕ × (List ℕ × (ℕ × List ℕ))) (coded× text_code (coded× text_code (coded× coded_ℕ text_code)))
    (λ f. (f.user, (f.local, (f.generation, f.lang))))
    (λ p. record { user = p.0; local = p.1.0; generation = p.1.1.0; lang = p.1.1.1 }) (λ _. refl)

-- The code of users' rows.
abbrev pub user_row_code : Coded UserRow
user_row_code =
    code_by (List ℕ × (ℕ × (ℕ × ℕ))) (coded× text_code (coded× coded_ℕ (coded× coded_ℕ coded_ℕ)))
    (λ u. (u.superior, (u.space, (u.time, u.money))))
    (λ p. record { superior = p.0; space = p.1.0; time = p.1.1.0; money = p.1.1.1 }) (λ _. refl)

-- The code of traps.
abbrev pub traps_code : Coded (map.FinMap text_cmp ℕ)
traps_code = map.code text_code coded_ℕ

-- The code of files' rows.
abbrev pub file_row_code : Coded FileRow
file_row_code =
    code_by (map.FinMap text_cmp ℕ × (List ℕ × ℕ)) (coded× traps_code (coded× text_code coded_ℕ))
    (λ f. (f.traps, (f.bytes, f.stamp))) (λ p. record { traps = p.0; bytes = p.1.0; stamp = p.1.1 }) (λ _. refl)

-- The code of maps of users.
abbrev pub user_map_code : Coded (map.FinMap text_cmp UserRow)
user_map_code = map.code text_code user_row_code

-- The code of maps of files.
abbrev pub file_map_code : Coded (map.FinMap full_cmp FileRow)
file_map_code = map.code full_code file_row_code

-- The code of trees.
abbrev pub tree_code : Coded Tree
tree_code =
    code_by (map.FinMap text_cmp UserRow × (map.FinMap full_cmp FileRow × ℕ)) (coded× user_map_code (coded× file_map_code coded_ℕ))
    (λ t. (t.users, (t.files, t.next))) (λ p. record { users = p.0; files = p.1.0; next = p.1.1 }) (λ _. refl)
