use Rattle.std.proofs.Common.{◌*◌, refl, sym, ap, arith, ◌∙◌, inl}
use Rattle.g_files.proofs.BlockFileLemmas.{bytes_cut, cut_front, cut_more, made, made_cut, made_same, on_is_ok}
use Rattle.g_files.proofs.RiskLemmas.{cut_left, has_sectors, not_orderly, uncut_left}
use Rattle.g_files.proofs.block_file.BlockFile.drop_from.Goals.{then-not-has_blocks, else-not-has_blocks}
use Rattle.g_files.proofs.block_file.BlockFile.drop_from.Goals as goal
use Rattle.g_files.specs.declared.reach.Reach.TheVariants.{Failed}
use Rattle.g_tape.specs.Reel.{Shortened, Unchanged}

pub invariant_of-self : goal.invariant_of-self
invariant_of-self g c =
    let f = c.args.self.now in
    let content = g.F.RawFile.content in
    let n = 512 * c.args.k in
    let size = on_is_ok c.cut_at.result (sym c.is_ok.ensures.value ∙ c.if-is_ok.true) c.cut_at.ensures.done in
    let lowered = c.min-self.ensures in record {
      counted = omega (arith, lowered);
      there = λ is. absurd (cc);
      written = λ orderly. absurd (not_orderly Failed (inl refl) orderly);
      short = λ orderly. absurd (not_orderly Failed (inl refl) orderly);
      long = λ b is. let long = size b is in omega (arith, long);
      bytes = bytes_cut n (content f.file) (content c.cut_at.new.file) f.bytes c.cut_at.ensures.cut;
      ends = λ sound b is. let long = size b is in omega (arith, long);
    }

pub returns-then-is_ok-clause-done : goal.returns-then-is_ok-clause-done
returns-then-is_ok-clause-done g c =
    let f = c.args.self.now in
    let content = g.F.RawFile.content in
    made_cut f.len c.args.k (content f.file) (content c.cut_at.new.file) c.requires.place
    (cut_front (512 * c.args.k) (content f.file) (content c.cut_at.new.file) c.cut_at.ensures.cut)

pub returns-clause-left : goal.returns-clause-left
returns-clause-left g c =
    let f = c.args.self.now in
    let content = g.F.RawFile.content in
    let k = c.args.k in
    elim c.if-not-has_blocks.branch [
      | then-not-has_blocks w ↦ (
        Shortened,
        rw w.self-is (ap (made k) c.has_blocks.ensures.same ∙ made_cut f.len k (content f.file) (content c.cut_at.new.file) c.requires.place
            (cut_front (512 * k) (content f.file) (content c.cut_at.new.file) c.cut_at.ensures.cut)),
      )
      | else-not-has_blocks w ↦ (
        Unchanged,
        rw w.self-is (ap (made f.len) c.has_blocks.ensures.same ∙ made_same f.len (content f.file) (content c.cut_at.new.file)
            (cut_more (512 * k) (512 * f.len) (content f.file) (content c.cut_at.new.file) c.cut_at.ensures.cut (c.has_blocks.ensures.enough w.if-not-has_blocks.false))),
      )
    ]

pub returns-then-is_ok-clause-cuts : goal.returns-then-is_ok-clause-cuts
returns-then-is_ok-clause-cuts g c = c.cut_at.ensures.durability.sectors

pub returns-then-is_ok-clause-resized : goal.returns-then-is_ok-clause-resized
returns-then-is_ok-clause-resized g c = λ b at.
    let f = c.args.self.now in
    let d = g.F.RawFile.durability f.file in
    let d' = g.F.RawFile.durability c.cut_at.new.file in
    cut_left f.len c.args.k d.remnants d'.remnants c.cut_at.ensures.durability.sectors

pub returns-then-is_ok-clause-written : goal.returns-then-is_ok-clause-written
returns-then-is_ok-clause-written g c =
    let ok = sym c.is_ok.ensures.value ∙ c.if-is_ok.true in record {
      bytes = λ j least most. c.cut_at.ensures.durability.syncable j most (c.requires.below j (omega (arith, least, most)) most);
      sized = on_is_ok c.cut_at.result ok c.cut_at.ensures.durability.sized;
    }

pub returns-clause-cuts : goal.returns-clause-cuts
returns-clause-cuts g c = elim c.if-not-has_blocks.branch [
  | then-not-has_blocks w ↦ rw w.self-is (rw c.has_blocks.ensures.as_durable c.cut_at.ensures.durability.sectors)
  | else-not-has_blocks w ↦ rw w.self-is (rw c.has_blocks.ensures.as_durable c.cut_at.ensures.durability.sectors)
]

pub returns-clause-resized : goal.returns-clause-resized
returns-clause-resized g c =
    let f = c.args.self.now in
    let content = g.F.RawFile.content in
    let x = content f.file in
    let y = content c.cut_at.new.file in
    let d = g.F.RawFile.durability f.file in
    let d' = g.F.RawFile.durability c.cut_at.new.file in
    elim c.if-not-has_blocks.branch [
      | then-not-has_blocks w ↦ rw w.self-is (rw c.has_blocks.ensures.as_durable (λ b at. cut_left f.len c.args.k d.remnants d'.remnants c.cut_at.ensures.durability.sectors))
      | else-not-has_blocks w ↦ rw w.self-is (rw c.has_blocks.ensures.as_durable (uncut_left f.len c.args.k x y d d' c.cut_at.result
          (has_sectors f.len x f.long c.requires.ends) (c.has_blocks.ensures.enough w.if-not-has_blocks.false) c.cut_at.ensures.cut c.cut_at.ensures.durability))
    ]
