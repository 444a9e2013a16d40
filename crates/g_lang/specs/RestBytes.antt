-- The bytes of a verb's parameters, stored in either form.
use Rattle.std.specs.Prelude.{List, ℕ}
use Rattle.g_lang.specs.declared.rest.Kept.{Kept}
use Rattle.g_lang.specs.declared.rest.Kept.TheVariants.{Few, Many}

-- The bytes of a verb's parameters, stored as a list or as a text.
abbrev pub kept_bytes : Kept → List ℕ
kept_bytes (Few few) = few.items
kept_bytes (Many text) = text
