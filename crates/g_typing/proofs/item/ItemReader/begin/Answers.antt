use Rattle.std.proofs.Common.{List, ℕ, [], ◌≢◌, Option, Some, None, refl, sym, ◌∙◌, ap, subst, eq-eqb, arith, length, append-nil}
use Rattle.std.proofs.lemmas.Bool.{false≢true}
use Rattle.g_lines.specs.Lines.{lines_of}
use Rattle.g_script.specs.Script.{IsOneItem}
use Rattle.g_script.specs.declared.operator.Timed.{Timed}
use Rattle.g_typing.specs.declared.item.ItemReader.{ItemReader}
use Rattle.g_typing.specs.declared.item.Place.TheVariants as place
use Rattle.g_typing.proofs.BeginLemmas.{begun_replies, one_line_done, one_line_refused, refused_replies, skips_by, too_long}
use Rattle.g_typing.proofs.item.ItemReader.begin.Goals as goal

pub returns-then-line-gt-MOST_LINE : goal.returns-then-line-gt-MOST_LINE
returns-then-line-gt-MOST_LINE c one unasked =
    let some : c.args.line.now ≢ [] = λ none. false≢true (sym c.if-is_empty.false ∙ c.is_empty.ensures ∙ eq-eqb (length c.args.line.now) 0 (ap length none)) in
    refused_replies place.Start c.args.number c.args.count [] c.args.line.now c.refuse.result c.refuse.new.self c.refuse.ensures.reply refl
    (too_long c.args.count c.args.line.now _ _ _ c.head_of-head.ensures c.ranges.count.fits one c.refuse.new.self.place some unasked c.if-line-gt-MOST_LINE.true
    (skips_by _ c.begins_job-is_job.result c.refuse.new.self.place c.begins_job-is_job.ensures c.refuse.ensures.place))

pub returns-then-is_job : goal.returns-then-is_job
returns-then-is_job c one unasked =
    let some : c.args.line.now ≢ [] = λ none. false≢true (sym c.if-is_empty.false ∙ c.is_empty.ensures ∙ eq-eqb (length c.args.line.now) 0 (ap length none)) in
    let short = c.if-line-gt-MOST_LINE.false in
    let old : ItemReader = record { text = c.in_ok-self.field-0; place = c.args.self.now.place; timed = c.head_of-head.result.timed } in
    begun_replies c.args.count c.args.line.now _ _ _ c.head_of-head.ensures c.ranges.count.fits one c.args.number old c.begin_document.new.self c.begin_document.result some unasked (omega (arith, short))
    (c.begins_job-is_job.ensures.0 c.if-is_job.true) (c.in_ok-self.ensures ∙ sym (append-nil _)) refl c.begin_document.ensures

pub returns-in-Some : goal.returns-in-Some
returns-in-Some c one unasked =
    let text = c.in_ok-self.ensures ∙ sym (append-nil _) in
    let short = c.if-line-gt-MOST_LINE.false in
    let item = subst (λ (o : Option Timed). IsOneItem (lines_of c.as_slice.result.now) o) c.in-Some.is c.in_ok-next.ensures in (
      refl,
      one_line_done c.args.count c.args.line.now _ _ _ c.head_of-head.ensures c.ranges.count.fits one _ c.in-Some.next (omega (arith, short)) text c.requires
          (subst (λ (t : List ℕ). IsOneItem (lines_of t) (Some c.in-Some.next)) (c.as_slice.ensures ∙ text) item),
    )

pub returns-in-None : goal.returns-in-None
returns-in-None c one unasked =
    let some : c.args.line.now ≢ [] = λ none. false≢true (sym c.if-is_empty.false ∙ c.is_empty.ensures ∙ eq-eqb (length c.args.line.now) 0 (ap length none)) in
    let text = c.in_ok-self.ensures ∙ sym (append-nil _) in
    let item = subst (λ (o : Option Timed). IsOneItem (lines_of c.as_slice.result.now) o) c.in-None.is c.in_ok-next.ensures in (
      refl,
      one_line_refused c.args.count c.args.line.now _ _ _ c.head_of-head.ensures c.ranges.count.fits one c.args.self.now.place some unasked c.requires
          (λ job. false≢true (sym c.if-is_job.false ∙ c.begins_job-is_job.ensures.1 job))
          (subst (λ (t : List ℕ). IsOneItem (lines_of t) None) (c.as_slice.ensures ∙ text) item),
    )
