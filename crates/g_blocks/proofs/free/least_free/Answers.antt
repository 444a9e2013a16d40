-- A free block joins those that were found, and a taken one doesn't.
use Rattle.std.proofs.Common.{◌≡◌, ◌+◌, [], ◌∷◌, ◌++◌, length, length-append, sym, subst, ap, ◌∙◌, arith}
use Rattle.g_blocks.proofs.Least.{AreFound, AreFound-before, AreFound-next_free, AreFound-next_taken}
use Rattle.g_blocks.proofs.Marks.{slice_from}
use Rattle.g_blocks.proofs.free.least_free.Goals.{then-not-is_taken+in_ok-push, else-not-is_taken}
use Rattle.g_blocks.proofs.free.least_free.Goals as goal

pub loop-place-init : goal.loop-place-init
loop-place-init c =
    let empty : c.in_ok-blocks.blocks.items ≡ [] = c.in_ok-blocks.ensures.items in
    record { found = subst (AreFound _ _) (sym empty) (AreFound-before _ _ c.requires.low); short = omega (arith, ap length empty) }

pub loop-place-preserved : goal.loop-place-preserved
loop-place-preserved c =
    elim c.if-not-is_taken.branch [
      | then-not-is_taken+in_ok-push w ↦
          let items : c.if-not-is_taken.blocks.items ≡ c.loop-place.blocks.items ++ (2177 + (c.args.low + c.loop-place.place)) ∷ [] = ap (λ (b : _). b.items) w.blocks-is ∙ w.in_ok-push.ensures.items in
          record {
            found = subst (AreFound _ _) (sym items) (AreFound-next_free _ _ _ _ _ (slice_from c.args.low c.args.taken.now) c.loop-place.invariant.found c.loop-place-test.true w.if-not-is_taken.true);
            short = omega (arith, ap length items, length-append c.loop-place.blocks.items ((2177 + (c.args.low + c.loop-place.place)) ∷ []), c.if-len-n.false, c.len.ensures, c.loop-place.blocks.ok);
          }
      | else-not-is_taken w ↦
          let items : c.if-not-is_taken.blocks.items ≡ c.loop-place.blocks.items = ap (λ (b : _). b.items) w.blocks-is in
          record {
            found = subst (AreFound _ _) (sym items) (AreFound-next_taken _ _ _ _ _ (slice_from c.args.low c.args.taken.now) c.loop-place.invariant.found c.loop-place-test.true w.if-not-is_taken.false);
            short = omega (arith, ap length items, c.loop-place.invariant.short);
          }
    ]
