-- Each name of the table is that of an order whose word has room for its address.
-- serves: LineLemmas, OrderLemmas
use Rattle.std.proofs.Common.{◌≡◌, ℕ, ◌+◌, List, [], ◌∷◌, Bool, true, not, Option, Some, None, refl}
use Rattle.std.specs.Prelude.{◌&&◌, ◌==◌, is_some, nat_lt, if◌then◌else◌}
use Rattle.std.specs.List.{list_all}
use Rattle.g_order.specs.Order.{is_branch}
use Rattle.g_order.specs.Table.{function_of}
use Rattle.g_plan.specs.LineReader.{named_read, order_read}
use Rattle.g_plan.specs.Table.{name_text, row_of}
use Rattle.g_plan.specs.declared.mnemonic.Mnemonic.{Mnemonic}
use Rattle.g_plan.specs.declared.mnemonic.Mnemonic.TheVariants as name
use Rattle.g_plan.specs.declared.mnemonic.Row.{Row}

-- the table has the function, with the row's accumulator or with every accumulator
abbrev pub has_function : ℕ → Option ℕ → Bool
has_function f (Some x) = nat_lt x 8 && is_some (function_of f x)
has_function f None = list_all (λ x. is_some (function_of f x)) (0 ∷ 1 ∷ 2 ∷ 3 ∷ 4 ∷ 5 ∷ 6 ∷ 7 ∷ [])

-- the address plus what is added fits into the word, and a branch has no modifier
abbrev pub has_room : Row → Option ℕ → Bool
has_room row None = (row.adds == 0) && not (is_branch row.f)
has_room row (Some most) = if is_branch row.f then nat_lt (most + row.adds) 32768 && not row.modified else nat_lt (most + row.adds) 4096

abbrev pub is_row : Row → Bool
is_row row = nat_lt row.f 128 && (has_function row.f row.x && has_room row row.most)

pub rows_are_orders : (o : Mnemonic) → is_row (row_of o) ≡ true
unfolding function_of
rows_are_orders name.Ldx = refl
rows_are_orders name.Adx = refl
rows_are_orders name.Ngx = refl
rows_are_orders name.Sbx = refl
rows_are_orders name.Sto = refl
rows_are_orders name.Ads = refl
rows_are_orders name.Ngs = refl
rows_are_orders name.Sbs = refl
rows_are_orders name.Andx = refl
rows_are_orders name.Orx = refl
rows_are_orders name.Erx = refl
rows_are_orders name.Ldch = refl
rows_are_orders name.Ands = refl
rows_are_orders name.Ors = refl
rows_are_orders name.Ers = refl
rows_are_orders name.Dch = refl
rows_are_orders name.Mpy = refl
rows_are_orders name.Ldn = refl
rows_are_orders name.Adn = refl
rows_are_orders name.Ngn = refl
rows_are_orders name.Sbn = refl
rows_are_orders name.Andn = refl
rows_are_orders name.Orn = refl
rows_are_orders name.Ern = refl
rows_are_orders name.Move = refl
rows_are_orders name.Stoz = refl
rows_are_orders name.Peri = refl
rows_are_orders name.Susty = refl
rows_are_orders name.Disty = refl
rows_are_orders name.Delty = refl
rows_are_orders name.Null = refl
rows_are_orders name.Bze = refl
rows_are_orders name.Bnz = refl
rows_are_orders name.Bpz = refl
rows_are_orders name.Bng = refl
rows_are_orders name.Call = refl
rows_are_orders name.Exit = refl
rows_are_orders name.Brn = refl
rows_are_orders name.Bvs = refl
rows_are_orders name.Bvsr = refl
rows_are_orders name.Bvc = refl
rows_are_orders name.Bvcr = refl
rows_are_orders name.Slc = refl
rows_are_orders name.Sll = refl
rows_are_orders name.Src = refl
rows_are_orders name.Srl = refl

-- a name is read as that of an order
pub named-order : (labelled : Bool) (o : Mnemonic) (ws : List (List ℕ)) (rest : List ℕ) → named_read labelled (name_text o) ws rest ≡ order_read o ws
named-order labelled name.Ldx ws rest = refl
named-order labelled name.Adx ws rest = refl
named-order labelled name.Ngx ws rest = refl
named-order labelled name.Sbx ws rest = refl
named-order labelled name.Sto ws rest = refl
named-order labelled name.Ads ws rest = refl
named-order labelled name.Ngs ws rest = refl
named-order labelled name.Sbs ws rest = refl
named-order labelled name.Andx ws rest = refl
named-order labelled name.Orx ws rest = refl
named-order labelled name.Erx ws rest = refl
named-order labelled name.Ldch ws rest = refl
named-order labelled name.Ands ws rest = refl
named-order labelled name.Ors ws rest = refl
named-order labelled name.Ers ws rest = refl
named-order labelled name.Dch ws rest = refl
named-order labelled name.Mpy ws rest = refl
named-order labelled name.Ldn ws rest = refl
named-order labelled name.Adn ws rest = refl
named-order labelled name.Ngn ws rest = refl
named-order labelled name.Sbn ws rest = refl
named-order labelled name.Andn ws rest = refl
named-order labelled name.Orn ws rest = refl
named-order labelled name.Ern ws rest = refl
named-order labelled name.Move ws rest = refl
named-order labelled name.Stoz ws rest = refl
named-order labelled name.Peri ws rest = refl
named-order labelled name.Susty ws rest = refl
named-order labelled name.Disty ws rest = refl
named-order labelled name.Delty ws rest = refl
named-order labelled name.Null ws rest = refl
named-order labelled name.Bze ws rest = refl
named-order labelled name.Bnz ws rest = refl
named-order labelled name.Bpz ws rest = refl
named-order labelled name.Bng ws rest = refl
named-order labelled name.Call ws rest = refl
named-order labelled name.Exit ws rest = refl
named-order labelled name.Brn ws rest = refl
named-order labelled name.Bvs ws rest = refl
named-order labelled name.Bvsr ws rest = refl
named-order labelled name.Bvc ws rest = refl
named-order labelled name.Bvcr ws rest = refl
named-order labelled name.Slc ws rest = refl
named-order labelled name.Sll ws rest = refl
named-order labelled name.Src ws rest = refl
named-order labelled name.Srl ws rest = refl
