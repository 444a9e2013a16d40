-- The state after each place doesn't depend on the text.
use Rattle.std.proofs.Common.{◌∷◌, ◌++◌, []}
use Rattle.g_lang.proofs.reader.Place.step.Goals as goal

pub returns-in-Label : goal.returns-in-Label
returns-in-Label c = rw c.in-Label.is (c.in_label.ensures (c.args.before.now ++ c.args.byte ∷ []))

pub returns-in-Condition : goal.returns-in-Condition
returns-in-Condition c = rw c.in-Condition.is (c.in_condition.ensures (c.args.before.now ++ c.args.byte ∷ []))

pub returns-in-Fixed : goal.returns-in-Fixed
returns-in-Fixed c = rw c.in-Fixed.is (c.in_fixed.ensures (c.args.before.now ++ c.args.byte ∷ []))

pub returns-in-Letter : goal.returns-in-Letter
returns-in-Letter c = rw c.in-Letter.is (c.in_letter.ensures (c.args.before.now ++ c.args.byte ∷ []))

pub returns-in-Text : goal.returns-in-Text
returns-in-Text c = rw c.in-Text.is (c.in_text.ensures (c.args.before.now ++ c.args.byte ∷ []))

pub returns-in-BeforeLabel : goal.returns-in-BeforeLabel
returns-in-BeforeLabel c = rw c.in-BeforeLabel.is (c.in_before_label.ensures (c.args.before.now ++ c.args.byte ∷ []))

pub returns-in-Goto : goal.returns-in-Goto
returns-in-Goto c = rw c.in-Goto.is (c.in_goto.ensures (c.args.before.now ++ c.args.byte ∷ []))

pub returns-in-Back : goal.returns-in-Back
returns-in-Back c = rw c.in-Back.is (c.in_back.ensures (c.args.before.now ++ c.args.byte ∷ []))

pub returns-in-VerbGap : goal.returns-in-VerbGap
returns-in-VerbGap c = rw c.in-VerbGap.is (c.in_verb_gap.ensures (c.args.before.now ++ c.args.byte ∷ []))

pub returns-in-Params : goal.returns-in-Params
returns-in-Params c = rw c.in-Params.is (c.in_params.ensures (c.args.before.now ++ c.args.byte ∷ []))
