use Rattle.std.proofs.Common.{sym, ap, ◌∙◌, ◌≡◌, Bor, true, false, List, ℕ, codes}
use Rattle.std.proofs.lemmas.Bool.{false≢true}
use Rattle.g_name.specs.Order.{same_text}
use Rattle.g_lang.proofs.ParseLemmas.{wrong-input, right-input}
use Rattle.g_lang.specs.LineReader.{behind_word}
use Rattle.g_lang.specs.Words.{is_label, word_of, trimmed}
use Rattle.g_lang.proofs.parse.is_input_line.Goals as goal
use Rattle.g_lang.proofs.parse.is_input_line.Goals.{then-is_label, else-is_label}

pub returns-then-is_some : goal.returns-then-is_some
returns-then-is_some c = wrong-input c.args.text.now c.wrong_place.result c.wrong_place.ensures (sym c.is_some.ensures ∙ c.if-is_some.true)

pub returns : goal.returns
returns c =
    let cut : c.trimmed-line.result.now ≡ trimmed c.args.text.now = c.trimmed-line.ensures in
    let test : c.is_label.result ≡ is_label (word_of (trimmed c.args.text.now)) =
    c.is_label.ensures ∙ ap is_label (c.split_word.ensures.word ∙ ap word_of cut) in
    let labelled : is_label (word_of (trimmed c.args.text.now)) ≡ true → c.if-is_label.command.now ≡ behind_word (trimmed c.args.text.now) =
    elim c.if-is_label.branch [
      | then-is_label w ↦ λ is. ap (λ (r : Bor (List ℕ)). r.now) w.command-is ∙ c.split_word.ensures.behind ∙ ap behind_word cut
      | else-is_label w ↦ λ is. absurd (false≢true (sym w.if-is_label.false ∙ test ∙ is))
    ] in
    let bare : is_label (word_of (trimmed c.args.text.now)) ≡ false → c.if-is_label.command.now ≡ trimmed c.args.text.now =
    elim c.if-is_label.branch [
      | then-is_label w ↦ λ isnt. absurd (false≢true (sym isnt ∙ sym test ∙ w.if-is_label.true))
      | else-is_label w ↦ λ isnt. ap (λ (r : Bor (List ℕ)). r.now) w.command-is ∙ cut
    ] in
    let input : c.eq.result ≡ same_text (word_of c.if-is_label.command.now) (codes "INPUT") =
    c.eq.ensures ∙ ap (λ (t : List ℕ). same_text t c.as_slice.result.now) c.split_word-2.ensures.word
    ∙ ap (same_text (word_of c.if-is_label.command.now)) c.as_slice.ensures in
    input ∙ right-input c.args.text.now c.wrong_place.result c.if-is_label.command.now c.wrong_place.ensures (sym c.is_some.ensures ∙ c.if-is_some.false) labelled bare
