-- Boxes for later files.
-- serves: make_room (ok), put_new
use Rattle.std.proofs.Common.{◌≡◌, ◌≤◌, Option, Some, None, is_some, true, subst, sym, arith, true≢false}
use Rattle.g_entry.specs.declared.file_rec.FileRec.{FileRec}
use Rattle.g_tree.specs.State.{room_of}

pub some_room : (room : Option FileRec) → is_some room ≡ true → 1 ≤ room_of room
some_room (Some file) some = omega arith
some_room None some = absurd (true≢false (sym some))

pub no_room : (room : Option FileRec) → 1 ≤ room_of room → room ≡ None → ⊥
no_room room some none = let no_box : 1 ≤ 0 = subst (λ (r : Option FileRec). 1 ≤ room_of r) none some in omega (arith, no_box)
