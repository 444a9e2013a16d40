use Rattle.std.proofs.Common.{◌≡◌, ◌∙◌, ◌++◌, [], ◌∷◌, ℕ, List, ap}
use Rattle.std.specs.Prelude.{codes}
use Rattle.std.proofs.lemmas.List.{append_assoc}
use Rattle.std.proofs.lemmas.Result.{on_ok_weaker}
use Rattle.g_monitor.specs.Parts.{with_number}
use Rattle.g_twins.proofs.comparing.push_difference.Goals as goal

pub returns : goal.returns
returns c =
    let t = c.args.text.now in
    let a = with_number (codes "TWINS OF TAPE ") c.args.serial in
    let b = with_number (codes " DIFFER AT ") c.args.k in
    let one : c.push_number.new.text ≡ t ++ a = c.in_ok-push_number.ensures ∙ ap (λ (n : ℕ). t ++ with_number (codes "TWINS OF TAPE ") n) c.from.ensures in
    let two : c.push_number-2.new.text ≡ c.push_number.new.text ++ b = c.in_ok-push_number-2.ensures ∙ ap (λ (n : ℕ). c.push_number.new.text ++ with_number (codes " DIFFER AT ") n) c.from-2.ensures in
    on_ok_weaker c.push.result
    (λ is. is ∙ ap (λ (x : List ℕ). x ++ 10 ∷ []) (two ∙ ap (λ (x : List ℕ). x ++ b) one ∙ append_assoc t a b) ∙ append_assoc t (a ++ b) (10 ∷ [])) c.push.ensures.ok
