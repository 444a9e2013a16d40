-- A free block joins those that were found, and a taken one doesn't.
use Rattle.std.proofs.Common.{◌≡◌, ◌+◌, [], ◌∷◌, ◌++◌, length, length-append, sym, subst, ap, ◌∙◌, arith}
use Rattle.g_blocks.proofs.Least.{AreFound, AreFound-before, AreFound-next_free, AreFound-next_taken}
use Rattle.g_blocks.proofs.Marks.{slice_from}
use Rattle.g_blocks.proofs.free.put_least_free.Goals.{then-not-is_taken, else-not-is_taken}
use Rattle.g_blocks.proofs.free.put_least_free.Goals as goal

pub loop-place-init : goal.loop-place-init
loop-place-init c = record { found = subst (AreFound _ _) (sym c.requires.empty) (AreFound-before _ _ c.requires.low); short = omega (arith, ap length c.requires.empty) }

pub loop-place-preserved : goal.loop-place-preserved
loop-place-preserved c =
    elim c.if-not-is_taken.branch [
      | then-not-is_taken w ↦
          let joined : c.if-not-is_taken.blocks ≡ c.loop-place.blocks ++ (2177 + (c.args.low + c.loop-place.place)) ∷ [] = w.blocks-is ∙ w.push.ensures in
          record {
            found = subst (AreFound _ _) (sym joined) (AreFound-next_free _ _ _ _ _ (slice_from c.args.low c.args.taken.now) c.loop-place.invariant.found c.loop-place-test.true w.if-not-is_taken.true);
            short = omega (arith, ap length joined, length-append c.loop-place.blocks ((2177 + (c.args.low + c.loop-place.place)) ∷ []), c.if-as_slice-n.false, ap length c.as_slice.ensures.value, c.loop-place.invariant.short);
          }
      | else-not-is_taken w ↦
          record {
            found = subst (AreFound _ _) (sym w.blocks-is) (AreFound-next_taken _ _ _ _ _ (slice_from c.args.low c.args.taken.now) c.loop-place.invariant.found c.loop-place-test.true w.if-not-is_taken.false);
            short = omega (arith, ap length w.blocks-is, c.loop-place.invariant.short);
          }
    ]
