use Rattle.std.proofs.Common.{◌≡◌, ◌&&◌, ◌∙◌, false, le-ltb, nat_lt, sym}
use Rattle.std.proofs.lemmas.Bool.{and_left, and_right}
use Rattle.g_name.specs.Grammar.{is_name_char}
use Rattle.g_lang.proofs.reader.in_goto.Goals as goal
use Rattle.g_lang.proofs.reader.in_goto.Goals.{else-is_name_char-via-then-is_name_char+else-count-lt12, else-is_name_char-via-else-is_name_char}

pub returns : goal.returns
returns c text =
    let other : (is_name_char c.args.byte && nat_lt c.args.count 12) ≡ false =
    elim c.else-is_name_char.branch [
      | else-is_name_char-via-then-is_name_char+else-count-lt12 w ↦ and_right (is_name_char c.args.byte) (nat_lt c.args.count 12) (le-ltb c.args.count 12 w.if-count-lt12.false)
      | else-is_name_char-via-else-is_name_char w ↦ and_left (is_name_char c.args.byte) (nat_lt c.args.count 12) (sym c.is_name_char.ensures ∙ w.if-is_name_char.false)
    ] in
    rw other (c.in_back.ensures text)
