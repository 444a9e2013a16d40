-- The completed dumps of the reel that is written: none before the mark, for any outcome of a failed write, and that dump
-- after it.
-- serves: ExitLemmas, LossLemmas, SafeLemmas
use Rattle.std.proofs.Common.{◌≡◌, ℕ, zero, suc, ◌<◌, List, [], ◌∷◌, drop, length, Some, sym, ◌∙◌, ap, arith, slice_get}
use Rattle.std.specs.Prelude.{All, replicate}
use Rattle.std.proofs.lemmas.Option.{same_Some}
use Rattle.g_base.specs.Block.{IsBlock}
use Rattle.g_base.proofs.BlockLemmas.{IsBlock-zeros}
use Rattle.g_incr.specs.Layout.{Dump, IsDump, dump_blocks, header_block, size_of}
use Rattle.g_incr.specs.Plan.{IsAway, IsPlan, IsReadyAt, Plan, content_blocks, dump_of, first_content, needs}
use Rattle.g_incr.proofs.OneLemmas.{same_header}
use Rattle.g_incr.proofs.PieceLemmas.{at_header}
use Rattle.g_incr.proofs.PlanLemmas.{length-made, plan_gives_dump}
use Rattle.g_shelf.specs.CompletedDumps.{AreCompleted}
use Rattle.g_shelf.proofs.QuietLemmas.{within}
use Rattle.g_process.proofs.ContentLemmas.{long_copies}
use Rattle.g_process.proofs.DumpLemmas.{get_below}

module _ (serial : ℕ) (p : Plan) (rules : IsPlan p) (away : IsAway p) (named : p.serial ≡ serial) (at : p.place ≡ 0) where
  abbrev blank : List (List ℕ)
  blank = replicate (content_blocks p) (replicate 512 0)

  abbrev any_dump : Dump
  any_dump = dump_of p blank

  blank_long : length blank ≡ content_blocks p
  blank_long = long_copies (content_blocks p) (replicate 512 0)

  blank_blocks : (n : ℕ) → All IsBlock (replicate n (replicate 512 0))
  blank_blocks zero = λ k d inside. absurd (let no : ⊥ = omega (arith, inside) in no)
  blank_blocks (suc n) = all_more (blank_blocks n)
    where
      all_more : All IsBlock (replicate n (replicate 512 0)) → All IsBlock (replicate 512 0 ∷ replicate n (replicate 512 0))
      all_more rest zero d inside = IsBlock-zeros
      all_more rest (suc k) d inside = rest k d (omega (arith, inside))

  any_rules : IsDump any_dump
  any_rules = plan_gives_dump p blank rules away blank_long (blank_blocks (content_blocks p))

  any_size : size_of any_dump ≡ needs p
  any_size =
      let long = blank_long in
      let files = length-made p.serial 0 (first_content p) p.files in
      omega (arith, long, files)

  -- a reel that begins with the header, and is too short for the dump, has none
  pub none_short : (w : List (List ℕ)) (b : List ℕ) → slice_get w 0 ≡ Some b → IsReadyAt p 0 b → length w < needs p → AreCompleted serial w []
  none_short w b first ready short = record {
    are = λ e next.
        let is_first : slice_get w 0 ≡ Some (header_block e) =
        sym (ap (λ (n : ℕ). slice_get (drop n w) 0) next.place) ∙ sym (get_below (size_of e) (drop e.place w) 0 (omega arith)) ∙ ap (λ (bs : List (List ℕ)). slice_get bs 0) next.stands.blocks ∙ at_header e in
        let mine : slice_get (dump_blocks any_dump) 0 ≡ Some b = ready.is blank blank_long in
        let same : header_block any_dump ≡ header_block e =
        same_Some (header_block any_dump) b (sym (at_header any_dump) ∙ mine) ∙ sym (same_Some (header_block e) b (sym is_first ∙ first)) in
        let counts = (same_header any_dump e any_rules next.stands.rules same).count in
        let low = within w e next.stands in
        let size = any_size in
        (let no : ⊥ = omega (arith, counts, low, size, short) in no);
  }
