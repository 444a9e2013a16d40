use Rattle.std.proofs.Common.{◌≢◌, ◌↔◌, AllPairs, arith}
use Rattle.std.specs.Prelude.{IsTrue}
use Rattle.std.proofs.lemmas.Result.{IfOk-weaker}
use Rattle.g_entry.specs.declared.user_rec.UserRec.{UserRec}
use Rattle.g_entry.specs.Rules.{AreUsers}
use Rattle.g_entry.proofs.RuleLemmas.{users_from}
use Rattle.g_entry.proofs.rules.users_keep.Goals as goal

pub returns : goal.returns
returns c =
    IfOk-weaker c.names_differ.result (λ keep. IsTrue keep ↔ AllPairs (λ (u : UserRec) v. u.user ≢ v.user) c.args.users.now) (λ keep. IsTrue keep ↔ AreUsers c.args.users.now)
    (λ keep both. (λ tells. users_from c.args.users.now (omega arith) (omega arith) (c.places_are_kept.ensures.0 c.if-not-places_are_kept.false) (both.0 tells), λ are. both.1 are.names))
    c.names_differ.ensures
