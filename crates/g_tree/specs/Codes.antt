-- Codes of the states of this crate, by which proofs tell values apart.
use Rattle.std.specs.Prelude.{ℕ, Option, refl}
use Rattle.std.specs.Coded.{Coded, code_by, coded×, coded_ℕ, coded_option}
use Rattle.std.specs.FinMap as map
use Rattle.g_name.specs.Order.{full_cmp}
use Rattle.g_plain.specs.Codes.{full_code}
use Rattle.g_tree.specs.State.{IndexState}
use Rattle.g_tree.specs.declared.index.NameEntry.{NameEntry}

-- The code of the index's entries.
abbrev pub entry_code : Coded NameEntry
entry_code =
    code_by (Option ℕ × (ℕ × Option ℕ)) (coded× (coded_option coded_ℕ) (coded× coded_ℕ (coded_option coded_ℕ)))
    (λ e. (e.number, (e.newest, e.top))) (λ p. record { number = p.0; newest = p.1.0; top = p.1.1 }) (λ _. refl)

-- The code of maps of entries.
abbrev pub entries_code : Coded (map.FinMap full_cmp NameEntry)
entries_code = map.code full_code entry_code

-- The code of indexes.
abbrev pub index_code : Coded IndexState
index_code =
    code_by (map.FinMap full_cmp NameEntry × ℕ) (coded× entries_code coded_ℕ)
    (λ i. (i.entries, i.spare)) (λ p. record { entries = p.0; spare = p.1 }) (λ _. refl)
