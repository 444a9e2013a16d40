-- Each user in turn is checked.
use Rattle.std.proofs.Common.{◌≡◌, ℕ, zero, suc, ◌+◌, ◌<◌, ◌≤◌, cond, List, [], ◌∷◌, drop, length, get_or, Option, Some, is_some, refl, sym, ap, ◌∙◌, arith}
use Rattle.std.proofs.Math.Seq.{drop-cons}
use Rattle.std.specs.Ordering.{eq_by_cmp}
use Rattle.std.specs.Cmp.{eq_by_cmp_equiv}
use Rattle.std.specs.Cmp.Lexicographic.{texts_ties}
use Rattle.std.specs.FinMap.{find, get, get-from_entries}
use Rattle.g_name.specs.Order.{text_cmp, same_text}
use Rattle.g_entry.specs.declared.user_rec.UserRec.{UserRec}
use Rattle.g_plain.proofs.TextMaps.{text_total}
use Rattle.g_tree.specs.Records.{users_by_name}
use Rattle.g_tree.proofs.MapLemmas.{keyed}
use Rattle.g_tree.proofs.RecordLemmas.{user_there}
use Rattle.g_tree.proofs.tree.Tree.find_user.Goals as goal

abbrev named : List ℕ → List UserRec → Option UserRec
named name users = find text_cmp name (keyed (λ u. u.user) users)

-- the first of those that are left
one_of : (name : List ℕ) (users : List UserRec) (i : ℕ) (u : UserRec) → i < length users → u ≡ get_or users i u → named name (drop i users) ≡ cond (same_text u.user name) (Some u) (named name (drop (i + 1) users))
one_of name users i u within is =
    let next : suc i ≡ i + 1 = omega arith in
    ap (named name) (drop-cons users i u within)
    ∙ (λ j. cond (eq_by_cmp text_cmp name (sym is j).user) (Some (sym is j)) (named name (drop (next j) users)))
    ∙ ap (λ t. cond t (Some u) (named name (drop (i + 1) users))) ((eq_by_cmp_equiv text_total).symm name u.user ∙ sym (texts_ties u.user name))

by_name_is : (name : List ℕ) (users : List UserRec) → named name users ≡ get (users_by_name users) name
by_name_is name users = sym (get-from_entries text_total (keyed (λ u. u.user) users) name)

drop_past : (users : List UserRec) (i : ℕ) → length users ≤ i → drop i users ≡ []
drop_past [] zero past = refl
drop_past [] (suc i) past = refl
drop_past (u ∷ users) zero past = absurd (omega arith)
drop_past (u ∷ users) (suc i) past = drop_past users i (omega arith)

pub returns-then-eq-clause-value : goal.returns-then-eq-clause-value
returns-then-eq-clause-value c =
    let users = c.deref-user-items.result.now in
    sym (one_of c.args.name.now users c.loop-user.user-index c.user-item.result c.loop-user-test.true c.user-item.is
    ∙ ap (λ b. cond b (Some c.user-item.result) (named c.args.name.now (drop (c.loop-user.user-index + 1) users))) (sym c.if-eq.ensures))
    ∙ c.loop-user.invariant ∙ by_name_is c.args.name.now c.args.self.now.users

pub returns-then-eq-clause-there : goal.returns-then-eq-clause-there
returns-then-eq-clause-there c = λ bytes next. ap is_some (returns-then-eq-clause-value c) ∙ user_there c.args.self.now.users c.args.self.now.files bytes next c.args.name.now

pub loop-user-preserved : goal.loop-user-preserved
loop-user-preserved c =
    let users = c.deref-user-items.result.now in
    sym (one_of c.args.name.now users c.loop-user.user-index c.user-item.result c.loop-user-test.true c.user-item.is
    ∙ ap (λ b. cond b (Some c.user-item.result) (named c.args.name.now (drop (c.loop-user.user-index + 1) users))) (sym c.if-eq.ensures))
    ∙ c.loop-user.invariant

pub returns-clause-value : goal.returns-clause-value
returns-clause-value c =
    sym (ap (named c.args.name.now) (drop_past c.deref-user-items.result.now c.loop-user.user-index c.loop-user-test.false)) ∙ c.loop-user.invariant ∙ by_name_is c.args.name.now c.args.self.now.users

pub returns-clause-there : goal.returns-clause-there
returns-clause-there c = λ bytes next. ap is_some (returns-clause-value c) ∙ user_there c.args.self.now.users c.args.self.now.files bytes next c.args.name.now
