-- From the reader's state on, the rest of the text goes wrong where the whole text does.
use Rattle.std.proofs.Common.{◌≡◌, ◌≤◌, drop, take}
use Rattle.g_lang.specs.LineReader.{Front, wrong_from}
use Rattle.g_lang.specs.Places.{state_of, depth_of, word_start}
use Rattle.g_lang.proofs.reader.wrong_by_steps.Given as goal

abbrev pub invariant-loop-at : goal.invariant-loop-at
invariant-loop-at l = record {
  same : wrong_from Front 0 l.text ≡ wrong_from (state_of (take l.at l.text) l.place) l.at (drop l.at l.text);
  deep : depth_of (state_of (take l.at l.text) l.place) ≤ l.at;
  word : word_start l.place ≤ l.at;
}
