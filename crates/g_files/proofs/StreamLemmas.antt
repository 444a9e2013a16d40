-- What several reads or writes of a stream do one after another.
-- serves: put_whole
use Rattle.std.proofs.Common.{◌≡◌, ℕ, ◌+◌, List, ◌++◌, take, drop, Some, None, refl, sym, ap, subst, ◌∙◌}
use Rattle.std.specs.Prelude.{Option}
use Rattle.std.specs.Option.{ForSome}
use Rattle.std.proofs.lemmas.List.{append_assoc}
use Rattle.std.proofs.Math.Seq.{take-add}
use Rattle.g_io.specs.Streams.{IsTaken, Takes, with_more}

-- one more call wrote a part of the rest
pub more_step : (done n : ℕ) (text piece : List ℕ) (o x y : Option (List ℕ)) → piece ≡ drop done text → x ≡ with_more o (take done text)
    → y ≡ with_more x (take n piece) → y ≡ with_more o (take (done + n) text)
more_step done n text piece None x y same first second = second ∙ ap (λ (z : Option (List ℕ)). with_more z (take n piece)) first
more_step done n text piece (Some b) x y same first second =
    second ∙ ap (λ (z : Option (List ℕ)). with_more z (take n piece)) first
    ∙ ap (λ (xs : List ℕ). Some xs) (append_assoc b (take done text) (take n piece)
    ∙ ap (λ (p : List ℕ). b ++ (take done text ++ take n p)) same ∙ ap (λ (q : List ℕ). b ++ q) (sym (take-add done n text)))

-- a read after calls that did nothing
pub takes_after : (n : ℕ) (into buffer new : List ℕ) (o x rest : Option (List ℕ)) → x ≡ o → ForSome o (λ _. buffer ≡ into)
    → Takes x n buffer new rest → Takes o n into new rest
takes_after n into buffer new None x rest same kept taken = subst (λ (z : Option (List ℕ)). Takes z n buffer new rest) same taken
takes_after n into buffer new (Some b) x rest same kept taken =
    subst (λ (old : List ℕ). IsTaken b n old new rest) (kept b refl) (subst (λ (z : Option (List ℕ)). Takes z n buffer new rest) same taken)
