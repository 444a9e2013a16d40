use Rattle.std.proofs.Common.{◌≡◌, ◌++◌, take, drop}
use Rattle.g_lang.specs.LineReader.{behind_word}
use Rattle.g_lang.specs.Words.{word_of}
use Rattle.g_lang.proofs.pieces.split_word.Given as goal

abbrev pub invariant-loop-i : goal.invariant-loop-i
invariant-loop-i l = record {
  word : word_of l.text ≡ take l.i l.text ++ word_of (drop l.i l.text);
  behind : behind_word l.text ≡ behind_word (drop l.i l.text);
}
