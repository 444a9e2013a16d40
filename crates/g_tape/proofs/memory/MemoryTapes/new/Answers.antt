-- The labels in rising serial give reels in rising serial.
use Rattle.std.proofs.Common.{◌≡◌, map, rules, arith, refl, subst, sym, ap, ◌∙◌}
use Rattle.std.specs.List.Sorted.{IsPermutation, IsNonDecreasingBy}
use Rattle.std.proofs.lemmas.List.Sorted.{IsNonDecreasingBy-from_sort_by_key, IsPermutation-map}
use Rattle.g_base.proofs.FuseLemmas.{unfailed_never}
use Rattle.g_tape.specs.Reel.{empty_reel_of}
use Rattle.g_tape.specs.Rack.{AreReels}
use Rattle.g_tape.proofs.SortLemmas.{serial_of, AreReels-empty}
use Rattle.g_tape.proofs.memory.MemoryTapes.new.Goals as goal

pub invariant_of-result : goal.invariant_of-result
invariant_of-result c =
    let sorted : IsNonDecreasingBy serial_of c.sort_by_key.new.self.items = IsNonDecreasingBy-from_sort_by_key serial_of _ c.in_ok-sort_by_key.ensures.sorted (λ a r f' k. search rules) in
    let reels : c.in_ok-empty_reels.field-0.items ≡ map empty_reel_of c.sort_by_key.new.self.items = c.in_ok-empty_reels.ensures ∙ ap (map empty_reel_of) c.deref.ensures.value in
    record {
      well_formed = subst AreReels (sym reels) (AreReels-empty c.args.reels.items c.sort_by_key.new.self.items (omega (arith, c.requires.few, c.args.reels.ok)) c.requires.limits c.requires.apart c.in_ok-sort_by_key.ensures.permutation (omega (arith, c.in_ok-sort_by_key.ensures.len, c.args.reels.ok, c.sort_by_key.new.self.ok)) sorted);
      fused = unfailed_never 0 c.new-4.result c.new-3.result c.new-4.ensures c.new-3.ensures;
    }

pub returns : goal.returns
returns c =
    let reels : c.in_ok-empty_reels.field-0.items ≡ map empty_reel_of c.sort_by_key.new.self.items = c.in_ok-empty_reels.ensures ∙ ap (map empty_reel_of) c.deref.ensures.value in
    record {
      reels = subst (IsPermutation (map empty_reel_of c.args.reels.items)) (sym reels) (IsPermutation-map empty_reel_of _ _ c.in_ok-sort_by_key.ensures.permutation);
      read_faults = refl;
      write_faults = refl;
      fuse = c.new-3.ensures;
      arms = c.new-4.ensures;
      risks = refl;
      leave = refl;
      fail = c.new.ensures.items;
      reads = refl;
      insecure = c.new-2.ensures.items;
    }
