use Rattle.std.proofs.Common.{List, Option, [], ap, drop, false, length, subst, sym, ℕ, ◌==◌, ◌++◌, ◌∙◌, ◌∷◌, ◌≡◌}
use Rattle.std.proofs.lemmas.List.{take_rest}
use Rattle.g_lang.proofs.ReaderLemmas.{behind_in_word}
use Rattle.g_lang.specs.LineReader.{State, state_behind_word}
use Rattle.g_lang.specs.Places.{Steps}
use Rattle.g_name.specs.Words.{extends}
use Rattle.g_lang.proofs.reader.in_word.Goals as goal

pub returns-then-not-is_empty : goal.returns-then-not-is_empty
returns-then-not-is_empty c =
    let word = drop c.args.start c.args.before.now in
    let cut = take_rest c.args.before.now c.args.start in
    let text = c.args.before.now ++ c.args.byte ∷ [] in
    let none : extends word c.args.byte ≡ false = ap (λ (w : List ℕ). extends w c.args.byte) (sym cut) ∙ sym c.extends.ensures ∙ c.if-extends.false in
    let some : (length word == 0) ≡ false = ap (λ (w : List ℕ). length w == 0) (sym cut) ∙ sym c.is_empty.ensures ∙ c.if-not-is_empty.true in
    subst (λ (o : Option State). Steps o text c.behind_word.result) (sym (behind_in_word word c.args.inner c.args.byte none some c.if-byte-eq32.true))
    (subst (λ (w : List ℕ). Steps (state_behind_word w c.args.inner) text c.behind_word.result) cut (c.behind_word.ensures text))
