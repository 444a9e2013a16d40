use Rattle.std.proofs.Common.{◌≡◌, ◌<◌, ◌^◌, true, take}
use Rattle.std.specs.List.{list_all}
use Rattle.g_mill.specs.Loading.{octal, is_octal_digit}
use Rattle.g_mill.proofs.loading.word_of_line.Given as goal

abbrev pub invariant-loop-digit : goal.invariant-loop-digit
invariant-loop-digit l = (l.bits ≡ octal (take l.digit-index l.line)) × (list_all is_octal_digit (take l.digit-index l.line) ≡ true) × (l.bits < 8 ^ l.digit-index)
