-- A form is placed if its words are.
-- serves: place_form
use Rattle.std.proofs.Common.{◌≡◌, ◌∙◌, ℕ, List, [], ◌∷◌, ◌++◌, Bool, true, false, Option, Some, None, ap, refl, subst, sym}
use Rattle.std.specs.Prelude.{◌&&◌, nat_lt, unwrap_or}
use Rattle.std.specs.List.{enumerate_from}
use Rattle.std.specs.Option.{option_map}
use Rattle.std.proofs.lemmas.List.{append-nil}
use Rattle.g_order.specs.Order.{word_of}
use Rattle.g_plan.specs.Assembly.{address, are_free, char_words, fields_with, given, is_below, resolved}
use Rattle.g_plan.specs.SecondPass.{IsImageOf, IsPut}
use Rattle.g_plan.specs.Passes.{IsFormPut}
use Rattle.g_plan.specs.Table.{row_of}
use Rattle.g_plan.specs.declared.form.Form.{Form}
use Rattle.g_plan.specs.declared.form.Form.TheVariants.{At, Word, Chars, Order}
use Rattle.g_plan.specs.declared.form.Value.{Value}
use Rattle.g_plan.specs.declared.image.Image.{Image}
use Rattle.g_plan.specs.declared.mnemonic.Mnemonic.{Mnemonic}
use Rattle.g_plan.specs.declared.source.Line.{Line}

form_put : (all : List Line) (size place : ℕ) (form : Form) (old new : Image) (result : Bool) (cs : Option (List (ℕ × ℕ)))
    → cs ≡ option_map (enumerate_from place) (given all form) → is_below size (Some form) ≡ true → IsPut cs old new result → IsFormPut all size form place old new result
form_put all size place form old new result cs same below put filled is =
    let answer = put size filled is in (
      answer.0 ∙ (ap (are_free size filled) same ∙ sym (ap (λ (b : Bool). b && are_free size filled (option_map (enumerate_from place) (given all form))) below)),
      (λ yes_is. subst (λ (o : Option (List (ℕ × ℕ))). IsImageOf size (filled ++ unwrap_or o []) new) same (answer.1 yes_is)),
    )

one_cell : (f : ℕ → ℕ) (o : Option ℕ) (place : ℕ) → option_map (λ w. (place, w) ∷ []) (option_map f o) ≡ option_map (enumerate_from place) (option_map (λ a. f a ∷ []) o)
one_cell f None place = refl
one_cell f (Some a) place = refl

word_cell : (o : Option ℕ) (place : ℕ) → option_map (λ w. (place, w) ∷ []) o ≡ option_map (enumerate_from place) (option_map (λ w. w ∷ []) o)
word_cell None place = refl
word_cell (Some w) place = refl

pub form-moved : (all : List Line) (size place placed : ℕ) (form formed : Form) (old new : Image) (result : Bool) → placed ≡ place → form ≡ formed
    → IsFormPut all size formed placed old new result → IsFormPut all size form place old new result
form-moved all size place placed form formed old new result same is put =
    subst (λ (f : Form). IsFormPut all size f place old new result) (sym is) (subst (λ (p : ℕ). IsFormPut all size formed p old new result) same put)

pub word-put : (all : List Line) (size place : ℕ) (v : Value) (old new : Image) (result : Bool) (word : Option ℕ) → word ≡ resolved all v
    → IsPut (option_map (λ w. (place, w) ∷ []) word) old new result → IsFormPut all size (Word v) place old new result
word-put all size place v old new result word is put =
    form_put all size place (Word v) old new result (option_map (λ w. (place, w) ∷ []) word)
    (ap (option_map (λ w. (place, w) ∷ [])) is ∙ word_cell (resolved all v) place) refl put

pub order-put : (all : List Line) (size place : ℕ) (name : Mnemonic) (x m : ℕ) (v : Value) (old new : Image) (result : Bool) (word : Option ℕ)
    → word ≡ option_map (λ a. word_of (fields_with (row_of name) x m a)) (address all (row_of name) v)
    → IsPut (option_map (λ w. (place, w) ∷ []) word) old new result → IsFormPut all size (Order name x m v) place old new result
order-put all size place name x m v old new result word is put =
    form_put all size place (Order name x m v) old new result (option_map (λ w. (place, w) ∷ []) word)
    (ap (option_map (λ w. (place, w) ∷ [])) is ∙ one_cell (λ a. word_of (fields_with (row_of name) x m a)) (address all (row_of name) v) place) refl put

pub chars-put : (all : List Line) (size place : ℕ) (text : List ℕ) (old new : Image) (result : Bool)
    → IsPut (Some (enumerate_from place (char_words text))) old new result → IsFormPut all size (Chars text) place old new result
chars-put all size place text old new result put = form_put all size place (Chars text) old new result (Some (enumerate_from place (char_words text))) refl refl put

nothing_put : (size : ℕ) (filled : List (ℕ × ℕ)) (image : Image) → IsImageOf size filled image → IsImageOf size (filled ++ []) image
nothing_put size filled image is = subst (λ (cs : List (ℕ × ℕ)). IsImageOf size cs image) (sym (append-nil filled)) is

and_true : (b : Bool) → b ≡ (b && true)
and_true true = refl
and_true false = refl

pub at-put : (all : List Line) (size place n : ℕ) (image : Image) (result : Bool) → result ≡ nat_lt n size → IsFormPut all size (At n) place image image result
at-put all size place n image result is filled there = (is ∙ and_true (nat_lt n size), (λ _. nothing_put size filled image there))
