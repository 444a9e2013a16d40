-- The names of orders, and what may follow each.
use Rattle.std.specs.Prelude.{ℕ, List, [], ◌∷◌, Bool, true, false, Option, Some, None, codes}
use Rattle.std.specs.List.{find}
use Rattle.g_name.specs.Order.{same_text}
use Rattle.g_plan.specs.declared.mnemonic.Mnemonic.{Mnemonic}
use Rattle.g_plan.specs.declared.mnemonic.Mnemonic.TheVariants as name
use Rattle.g_plan.specs.declared.mnemonic.Row.{Row}

-- The row of a name has the accumulator of its orders, if it isn't written; their function number; what is added to the address; the greatest
-- address, or none if there is no address; and whether a modifier may follow it.

-- `NAME x a`, `NAME x a(m)`
abbrev pub plain : ℕ → Row
plain f = record { x = None; f = f; adds = 0; most = Some 4095; modified = true }

-- `NAME a`, `NAME a(m)`
abbrev pub of_x : ℕ → ℕ → Row
of_x x f = record { x = Some x; f = f; adds = 0; most = Some 4095; modified = true }

-- `NAME`
abbrev pub alone : ℕ → Row
alone f = record { x = Some 0; f = f; adds = 0; most = None; modified = false }

-- branches: `NAME x a`, and `NAME a`
abbrev pub jump : ℕ → Row
jump f = record { x = None; f = f; adds = 0; most = Some 32767; modified = false }

-- Branches without an accumulator: `NAME a`.
abbrev pub jump_of_x : ℕ → Row
jump_of_x x = record { x = Some x; f = 0o074; adds = 0; most = Some 32767; modified = false }

-- Shifts by a number of places, circular or logical.
abbrev pub shift : ℕ → ℕ → Row
shift f adds = record { x = None; f = f; adds = adds; most = Some 1023; modified = true }

-- THE TABLE OF NAMES
abbrev pub row_of : Mnemonic → Row
row_of name.Ldx = plain 0o000
row_of name.Adx = plain 0o001
row_of name.Ngx = plain 0o002
row_of name.Sbx = plain 0o003
row_of name.Sto = plain 0o010
row_of name.Ads = plain 0o011
row_of name.Ngs = plain 0o012
row_of name.Sbs = plain 0o013
row_of name.Andx = plain 0o020
row_of name.Orx = plain 0o021
row_of name.Erx = plain 0o022
row_of name.Ldch = plain 0o024
row_of name.Ands = plain 0o030
row_of name.Ors = plain 0o031
row_of name.Ers = plain 0o032
row_of name.Dch = plain 0o034
row_of name.Mpy = plain 0o040
row_of name.Ldn = plain 0o100
row_of name.Adn = plain 0o101
row_of name.Ngn = plain 0o102
row_of name.Sbn = plain 0o103
row_of name.Andn = plain 0o120
row_of name.Orn = plain 0o121
row_of name.Ern = plain 0o122
row_of name.Move = plain 0o126
row_of name.Stoz = of_x 0 0o033
row_of name.Peri = of_x 0 0o157
row_of name.Susty = of_x 0 0o160
row_of name.Disty = of_x 1 0o160
row_of name.Delty = of_x 2 0o160
row_of name.Null = alone 0o123
row_of name.Bze = jump 0o050
row_of name.Bnz = jump 0o052
row_of name.Bpz = jump 0o054
row_of name.Bng = jump 0o056
row_of name.Call = jump 0o070
row_of name.Exit = jump 0o072
row_of name.Brn = jump_of_x 0
row_of name.Bvs = jump_of_x 1
row_of name.Bvsr = jump_of_x 2
row_of name.Bvc = jump_of_x 3
row_of name.Bvcr = jump_of_x 4
row_of name.Slc = shift 0o110 0
row_of name.Sll = shift 0o110 1024
row_of name.Src = shift 0o112 0
row_of name.Srl = shift 0o112 1024

-- The written names.
abbrev pub name_text : Mnemonic → List ℕ
name_text name.Ldx = codes "LDX"
name_text name.Adx = codes "ADX"
name_text name.Ngx = codes "NGX"
name_text name.Sbx = codes "SBX"
name_text name.Sto = codes "STO"
name_text name.Ads = codes "ADS"
name_text name.Ngs = codes "NGS"
name_text name.Sbs = codes "SBS"
name_text name.Andx = codes "ANDX"
name_text name.Orx = codes "ORX"
name_text name.Erx = codes "ERX"
name_text name.Ldch = codes "LDCH"
name_text name.Ands = codes "ANDS"
name_text name.Ors = codes "ORS"
name_text name.Ers = codes "ERS"
name_text name.Dch = codes "DCH"
name_text name.Mpy = codes "MPY"
name_text name.Ldn = codes "LDN"
name_text name.Adn = codes "ADN"
name_text name.Ngn = codes "NGN"
name_text name.Sbn = codes "SBN"
name_text name.Andn = codes "ANDN"
name_text name.Orn = codes "ORN"
name_text name.Ern = codes "ERN"
name_text name.Move = codes "MOVE"
name_text name.Stoz = codes "STOZ"
name_text name.Peri = codes "PERI"
name_text name.Susty = codes "SUSTY"
name_text name.Disty = codes "DISTY"
name_text name.Delty = codes "DELTY"
name_text name.Null = codes "NULL"
name_text name.Bze = codes "BZE"
name_text name.Bnz = codes "BNZ"
name_text name.Bpz = codes "BPZ"
name_text name.Bng = codes "BNG"
name_text name.Call = codes "CALL"
name_text name.Exit = codes "EXIT"
name_text name.Brn = codes "BRN"
name_text name.Bvs = codes "BVS"
name_text name.Bvsr = codes "BVSR"
name_text name.Bvc = codes "BVC"
name_text name.Bvcr = codes "BVCR"
name_text name.Slc = codes "SLC"
name_text name.Sll = codes "SLL"
name_text name.Src = codes "SRC"
name_text name.Srl = codes "SRL"

-- All names, in the order of the table.
abbrev pub mnemonics : List Mnemonic
mnemonics =
    name.Ldx ∷ name.Adx ∷ name.Ngx ∷ name.Sbx ∷ name.Sto ∷ name.Ads ∷ name.Ngs ∷ name.Sbs ∷ name.Andx
    ∷ name.Orx ∷ name.Erx ∷ name.Ldch ∷ name.Ands ∷ name.Ors ∷ name.Ers ∷ name.Dch ∷ name.Mpy ∷ name.Ldn
    ∷ name.Adn ∷ name.Ngn ∷ name.Sbn ∷ name.Andn ∷ name.Orn ∷ name.Ern ∷ name.Move ∷ name.Stoz ∷ name.Peri
    ∷ name.Susty ∷ name.Disty ∷ name.Delty ∷ name.Null ∷ name.Bze ∷ name.Bnz ∷ name.Bpz ∷ name.Bng ∷ name.Call
    ∷ name.Exit ∷ name.Brn ∷ name.Bvs ∷ name.Bvsr ∷ name.Bvc ∷ name.Bvcr ∷ name.Slc ∷ name.Sll ∷ name.Src
    ∷ name.Srl ∷ []

-- The name that a word is, if it is one.
abbrev pub mnemonic_of : List ℕ → Option Mnemonic
mnemonic_of word = find (λ name. same_text (name_text name) word) mnemonics
