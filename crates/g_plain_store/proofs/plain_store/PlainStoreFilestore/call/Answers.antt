-- A call without a fault is granted, and its tree keeps the rules of a tree; a fault is one of the plain step.
use Rattle.std.proofs.Common.{◌∙◌, ap, sym, subst, true≢false}
use Rattle.g_plain.specs.declared.faults.StoreFault.TheVariants.{WaitTape, Stopped}
use Rattle.g_plain.specs.PlainStep.{fault_of}
use Rattle.g_plain.specs.Replies.{IsReplyTo}
use Rattle.g_plain.specs.Rules.{IsTree}
use Rattle.g_plain.proofs.StepKept.{granted_kept}
use Rattle.g_plain.proofs.StepAnswers.{own_fault, granted_kind}
use Rattle.g_plain_store.proofs.plain_store.PlainStoreFilestore.call.Goals as goal

pub invariant_of-self : goal.invariant_of-self
invariant_of-self c = subst IsTree (sym c.in_err-grant.ensures) c.self.invariant

pub invariant_of-self-2 : goal.invariant_of-self-2
invariant_of-self-2 c =
    subst IsTree (sym c.in_ok-grant.ensures.1)
    (granted_kept c.self.inside.tree c.args.who.now c.args.call.now c.self.invariant c.requires.limits c.call_is_named.ensures
    (c.in_default.ensures ∙ ap (λ t. fault_of t c.args.who.now c.args.call.now) (sym c.self.view_is)))

pub returns-in-Some-clause-waits : goal.returns-in-Some-clause-waits
returns-in-Some-clause-waits c = λ s e. own_fault c.args.self.now c.args.who.now c.args.call.now c.in-Some.fault (WaitTape s) c.in-Some.ensures e

pub returns-in-Some-clause-may_wait : goal.returns-in-Some-clause-may_wait
returns-in-Some-clause-may_wait c = λ s e.
    absurd (true≢false (sym (own_fault c.args.self.now c.args.who.now c.args.call.now c.in-Some.fault (WaitTape s) c.in-Some.ensures e)))

pub returns-in-Some-clause-spent : goal.returns-in-Some-clause-spent
returns-in-Some-clause-spent c = (
  λ e. absurd (true≢false (sym e)),
  λ e. own_fault c.args.self.now c.args.who.now c.args.call.now c.in-Some.fault Stopped c.in-Some.ensures e,
)

pub returns-clause-kind : goal.returns-clause-kind
returns-clause-kind c =
    subst (IsReplyTo c.args.call.now) (sym c.in_ok-grant.ensures.0)
    (granted_kind c.self.inside.tree c.args.who.now c.args.call.now c.self.invariant
    (c.in_default.ensures ∙ ap (λ t. fault_of t c.args.who.now c.args.call.now) (sym c.self.view_is)))
