use Rattle.std.proofs.Common.{◌≡◌, ◌++◌, Option, subst, sym, ℕ}
use Rattle.std.specs.Prelude.{OnOk, codes}
use Rattle.g_look.specs.Text.{told}
use Rattle.g_look.proofs.PushLemmas.{last_more}
use Rattle.g_outlook.specs.Telling.{missing_line}
use Rattle.g_outlook.proofs.warning.push_missing.Goals as goal

pub returns-in_ok-push_told-in-Some : goal.returns-in_ok-push_told-in-Some
returns-in_ok-push_told-in-Some c =
    subst (λ (m : Option ℕ). OnOk c.extend.result (c.extend.new.self ≡ c.args.text.now ++ missing_line m)) (sym c.in-Some.is)
    (last_more _ c.args.text.now (told (codes "george: a RESTORE would lack dump ") c.in-Some.number) (codes ", which is on no reel of george.tapes\n") _ _ c.in_ok-push_told-in-Some.ensures c.extend.ensures.ok)
