use Rattle.std.specs.Prelude.{codes}
use Rattle.g_look.specs.Text.{told}
use Rattle.g_look.proofs.PushLemmas.{last_more}
use Rattle.g_look.proofs.broken_text.push_unbroken.Goals as goal

pub returns-in_ok-push_told-in-Some : goal.returns-in_ok-push_told-in-Some
returns-in_ok-push_told-in-Some c =
    rw c.in-Some.is
    (last_more _ c.args.text.now (told (codes "BROKEN 13 DUMP ") c.in-Some.number) (codes " MISSING") _ _ c.in_ok-push_told-in-Some.ensures c.extend.ensures.ok)

pub returns-else-holds : goal.returns-else-holds
returns-else-holds c = rw c.in-None.is (rw c.if-holds.false c.extend-else-holds.ensures.ok)
