use Rattle.std.proofs.Common.{List, ℕ, [], ◌++◌, ◌∷◌, refl, sym, ◌∙◌, ap, subst, inl, inr, length, ◌+◌, ◌≤◌}
use Rattle.std.proofs.lemmas.Bool.{false≢true}
use Rattle.g_script.proofs.DocumentLemmas.{is_end, is_no_end}
use Rattle.g_typing.specs.Reader.{IsInDocument}
use Rattle.g_typing.proofs.AddLemmas.{closed_replies, document_more, document_refuses, going_on, holds_document, not_more}
use Rattle.g_typing.proofs.BeginLemmas.{refused_replies}
use Rattle.g_typing.proofs.item.ItemReader.add.Goals as goal

pub returns-then-eq : goal.returns-then-eq
returns-then-eq c number count k lines is d =
    closed_replies c.args.self.now.place number count lines c.args.line.now c.close.result c.close.new.self (going_on c.args.self.now.place k is)
    (is_end c.args.line.now c.eq.result c.eq.ensures c.if-eq.true) (c.close.ensures count lines d)

pub returns-then-not-is_printed : goal.returns-then-not-is_printed
returns-then-not-is_printed c number count k lines is d =
    refused_replies c.args.self.now.place number count lines c.args.line.now c.refuse.result c.refuse.new.self c.refuse.ensures.reply (going_on c.args.self.now.place k is)
    (document_refuses count lines c.args.self.now.timed c.args.self.now.text d c.refuse.new.self.place c.args.line.now c.refuse.ensures.place (is_no_end c.args.line.now c.eq.result c.eq.ensures c.if-eq.false)
    (inl (λ printed. false≢true (sym c.if-not-is_printed.true ∙ c.is_printed.ensures.1 printed))))

pub returns-then-is_full : goal.returns-then-is_full
returns-then-is_full c number count k lines is d =
    refused_replies c.args.self.now.place number count lines c.args.line.now c.refuse-then-is_full.result c.refuse-then-is_full.new.self c.refuse-then-is_full.ensures.reply (going_on c.args.self.now.place k is)
    (document_refuses count lines c.args.self.now.timed c.args.self.now.text d c.refuse-then-is_full.new.self.place c.args.line.now c.refuse-then-is_full.ensures.place
    (is_no_end c.args.line.now c.eq.result c.eq.ensures c.if-eq.false) (inr (c.is_full.ensures.0 c.if-is_full.true)))

pub returns : goal.returns
returns c number count k lines is d =
    let printed = c.is_printed.ensures.0 c.if-not-is_printed.false in
    let room : length c.args.self.now.text + (length c.args.line.now + 1) + 5 ≤ 16777216 = not_more (length c.args.self.now.text) (length c.args.line.now) (λ more. false≢true (sym c.if-is_full.false ∙ c.is_full.ensures.1 more)) in
    let more = document_more count lines c.args.self.now.timed c.args.self.now.text d c.args.line.now printed (is_no_end c.args.line.now c.eq.result c.eq.ensures c.if-eq.false) room in
    let text = c.in_ok-push.ensures.ok ∙ ap (λ (t : List ℕ). t ++ 10 ∷ []) c.in_ok-extend.ensures.ok in
    (holds_document count (lines ++ c.args.line.now ∷ []) _ k is (subst (λ (t : List ℕ). IsInDocument count (lines ++ c.args.line.now ∷ []) c.args.self.now.timed t) (sym text) more), inl refl)
