use Rattle.std.proofs.Common.{◌≡◌, Some, None, refl, ◌∙◌, sym, ap}
use Rattle.std.specs.Prelude.{slice_get}
use Rattle.g_mill.specs.declared.event.Event.{Event}
use Rattle.g_mill.specs.declared.event.Event.TheVariants.{Illegal}
use Rattle.g_mill.specs.Machine.{Machine}
use Rattle.g_mill.specs.Effect.{order}
use Rattle.g_mill.proofs.RunningLaws.{none_ran, no_more, past_order, tells_there, told_there, illegal_there}
use Rattle.g_mill.proofs.program.Program.step.Goals as goal

pub returns-in_default-clause-machine : goal.returns-in_default-clause-machine
returns-in_default-clause-machine c =
    let s = c.run.new.self in
    let stays : s ≡ c.args.self.now = none_ran c.run.result c.args.self.now s c.run.ensures.ran c.run.ensures.most c.if-run-eq1.false in
    let none : slice_get s.words s.next ≡ None = ap (slice_get s.words) (sym c.next-at.ensures.value) ∙ sym c.word.ensures ∙ c.in_default.is in
    sym (ap (λ (both : Machine × Event). both.0) (past_order s none)) ∙ ap (λ (m : Machine). (order m).0) stays

pub returns-in_default-clause-event : goal.returns-in_default-clause-event
returns-in_default-clause-event c =
    let s = c.run.new.self in
    let stays : s ≡ c.args.self.now = none_ran c.run.result c.args.self.now s c.run.ensures.ran c.run.ensures.most c.if-run-eq1.false in
    let none : slice_get s.words s.next ≡ None = ap (slice_get s.words) (sym c.next-at.ensures.value) ∙ sym c.word.ensures ∙ c.in_default.is in
    ap (Illegal 0) c.next-at.ensures.value ∙ sym (ap (λ (both : Machine × Event). both.1) (past_order s none)) ∙ ap (λ (m : Machine). (order m).1) stays

pub returns-in-Some-step_word-clause-machine : goal.returns-in-Some-step_word-clause-machine
returns-in-Some-step_word-clause-machine c =
    let s = c.run.new.self in
    let stays : s ≡ c.args.self.now = none_ran c.run.result c.args.self.now s c.run.ensures.ran c.run.ensures.most c.if-run-eq1.false in
    let is : slice_get s.words s.next ≡ Some c.in-Some.word = ap (slice_get s.words) (sym c.next-at.ensures.value) ∙ sym c.word.ensures ∙ c.in-Some.is in
    sym (ap (λ (both : Machine × Event). both.0) (told_there s s c.step_word.new.self c.in-Some.word c.in-Some-step_word.event is refl c.in-Some-step_word.ensures)) ∙ ap (λ (m : Machine). (order m).0) stays

pub returns-in-Some-step_word-clause-event : goal.returns-in-Some-step_word-clause-event
returns-in-Some-step_word-clause-event c =
    let s = c.run.new.self in
    let stays : s ≡ c.args.self.now = none_ran c.run.result c.args.self.now s c.run.ensures.ran c.run.ensures.most c.if-run-eq1.false in
    let is : slice_get s.words s.next ≡ Some c.in-Some.word = ap (slice_get s.words) (sym c.next-at.ensures.value) ∙ sym c.word.ensures ∙ c.in-Some.is in
    sym (ap (λ (both : Machine × Event). both.1) (told_there s s c.step_word.new.self c.in-Some.word c.in-Some-step_word.event is refl c.in-Some-step_word.ensures)) ∙ ap (λ (m : Machine). (order m).1) stays

pub returns-in-None-clause-machine : goal.returns-in-None-clause-machine
returns-in-None-clause-machine c =
    let s = c.run.new.self in
    let stays : s ≡ c.args.self.now = none_ran c.run.result c.args.self.now s c.run.ensures.ran c.run.ensures.most c.if-run-eq1.false in
    let is : slice_get s.words s.next ≡ Some c.in-Some.word = ap (slice_get s.words) (sym c.next-at.ensures.value) ∙ sym c.word.ensures ∙ c.in-Some.is in
    c.in-None.ensures.1 ∙ sym (ap (λ (both : Machine × Event). both.0) (illegal_there s s c.in-Some.word is refl c.in-None.ensures.0)) ∙ ap (λ (m : Machine). (order m).0) stays

pub returns-in-None-clause-event : goal.returns-in-None-clause-event
returns-in-None-clause-event c =
    let s = c.run.new.self in
    let stays : s ≡ c.args.self.now = none_ran c.run.result c.args.self.now s c.run.ensures.ran c.run.ensures.most c.if-run-eq1.false in
    let is : slice_get s.words s.next ≡ Some c.in-Some.word = ap (slice_get s.words) (sym c.next-at.ensures.value) ∙ sym c.word.ensures ∙ c.in-Some.is in
    ap (Illegal c.in-Some.word) c.next-at.ensures.value ∙ sym (ap (λ (both : Machine × Event). both.1) (illegal_there s s c.in-Some.word is refl c.in-None.ensures.0)) ∙ ap (λ (m : Machine). (order m).1) stays

pub step_word-requires : goal.step_word-requires
step_word-requires c =
    let s = c.run.new.self in
    let is : slice_get s.words s.next ≡ Some c.in-Some.word = ap (slice_get s.words) (sym c.next-at.ensures.value) ∙ sym c.word.ensures ∙ c.in-Some.is in
    tells_there s c.in-Some.word is (c.run.ensures.stops (no_more c.run.result c.run.ensures.most c.if-run-eq1.false))
