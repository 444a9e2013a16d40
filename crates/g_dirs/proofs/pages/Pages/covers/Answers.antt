use Rattle.std.proofs.Common.{◌≡◌, ◌∙◌, ℕ, Some, true, slice_get, ap, arith, refl, subst, sym}
use Rattle.g_dirs.specs.Pages.{is_remembered, marks_of, pages_of}
use Rattle.g_dirs.proofs.PageLemmas.{covers_whole, marked_more, remembered_more}
use Rattle.g_dirs.proofs.pages.Pages.covers.Goals.{else-next_marked-k-via-then-next_marked-k+else-not-is_remembered, else-next_marked-k-via-else-next_marked-k}
use Rattle.g_dirs.proofs.pages.Pages.covers.Goals as goal

pub loop-k-preserved : goal.loop-k-preserved
loop-k-preserved c =
    elim c.else-next_marked-k.branch [
      | else-next_marked-k-via-then-next_marked-k+else-not-is_remembered w ↦
          remembered_more c.args.listing.now c.args.side c.args.self.now c.loop-k.k
          (ap (is_remembered (pages_of c.args.side c.args.self.now) c.loop-k.k) (sym w.written.ensures) ∙ sym w.is_remembered.ensures ∙ w.if-not-is_remembered.false)
          c.loop-k.invariant
      | else-next_marked-k-via-else-next_marked-k w ↦
          marked_more c.args.listing.now c.args.side c.args.self.now c.loop-k.k
          (subst (λ (n : ℕ). slice_get (marks_of c.args.side c.args.self.now) n ≡ Some true) w.if-next_marked-k.false (c.next_marked.ensures.marked (omega (arith, w.if-next_marked-k.false, c.loop-k-test.true))))
          c.loop-k.invariant
    ]

pub returns : goal.returns
returns c = (λ yes. covers_whole c.args.listing.now c.args.side c.args.self.now c.loop-k.k c.loop-k-test.false c.loop-k.invariant, λ covers. refl)
