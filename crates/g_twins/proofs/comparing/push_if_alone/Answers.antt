use Rattle.std.proofs.Common.{◌≡◌, ◌∙◌, ◌++◌, ℕ, List, Option, ap, sym}
use Rattle.std.proofs.lemmas.List.{append-nil}
use Rattle.std.proofs.lemmas.Result.{on_ok_weaker}
use Rattle.g_lines.specs.Lines.{text_of}
use Rattle.g_twins.specs.Twins.{alone_lines}
use Rattle.g_twins.proofs.TwinLemmas.{exposed_reel, has_length, has_none}
use Rattle.g_twins.proofs.comparing.push_if_alone.Goals as goal

pub returns-in-Ok : goal.returns-in-Ok
returns-in-Ok g c = λ exposed.
    let rack = g.T.Tapes.rack c.args.first.now in
    let (r, there) = has_length c.args.serial _ rack (sym c.in-Ok.ensures) in
    let (xs, at) = exposed_reel c.args.serial rack exposed r there in
    sym (ap (λ (o : Option (List (List ℕ))). c.args.text.now ++ text_of (alone_lines c.args.serial o)) at ∙ append-nil c.args.text.now)

pub returns-in-Err : goal.returns-in-Err
returns-in-Err g c =
    let rack = g.T.Tapes.rack c.args.first.now in
    let none = has_none c.args.serial _ rack (sym c.in-Err.ensures) in
    on_ok_weaker c.push_named.result
    (λ is exposed. is ∙ ap (λ (t : List ℕ). c.args.text.now ++ t) (sym (append-nil _)) ∙ sym (ap (λ (o : Option (List (List ℕ))). c.args.text.now ++ text_of (alone_lines c.args.serial o)) none))
    c.push_named.ensures
