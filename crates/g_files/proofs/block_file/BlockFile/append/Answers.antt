use Rattle.std.proofs.Common.{◌*◌, sym, arith, ◌∙◌}
use Rattle.g_files.proofs.BlockFileLemmas.{bytes_ended, front_then, made_count, made_ended, on_is_ok}
use Rattle.g_files.proofs.RiskLemmas.{short_more, written_more}
use Rattle.g_files.proofs.SectorLemmas.{grows_then}
use Rattle.g_files.proofs.block_file.BlockFile.append.Goals as goal

pub invariant_of-self : goal.invariant_of-self
invariant_of-self g c =
    let f = c.args.self.now in
    let content = g.F.RawFile.content in
    let ok = sym c.is_ok.ensures.value ∙ c.if-is_ok.true in
    let size = on_is_ok c.put_last.result ok c.put_last.ensures.whole in record {
      long = λ b is. let long = size b is in omega (arith, long);
      bytes = bytes_ended (512 * f.len) c.args.block.now (content f.file) (content c.put_last.new.file) f.bytes (λ j. c.fits-block j) c.put_last.ensures.front size
          (on_is_ok c.put_last.result ok c.put_last.ensures.last);
      ends = λ sound b is. let long = size b is in omega (arith, long);
      counted = let few = f.counted in omega (arith, few);
      there = λ is. absurd (cc);
      written = λ orderly. written_more f.durable f.len (g.F.RawFile.durability f.file) (g.F.RawFile.durability c.put_last.new.file) _ ok (f.written c.requires.orderly)
          c.put_last.ensures.durability;
      short = λ orderly. short_more f.len (content f.file) (content c.put_last.new.file) (g.F.RawFile.durability f.file).remnants
          (g.F.RawFile.durability c.put_last.new.file).remnants c.put_last.ensures.front (f.short c.requires.orderly) c.put_last.ensures.durability.grows;
    }

pub returns-then-is_ok-clause-done : goal.returns-then-is_ok-clause-done
returns-then-is_ok-clause-done g c =
    let f = c.args.self.now in
    let content = g.F.RawFile.content in
    made_ended f.len f.len c.args.block.now (content f.file) (content c.put_last.new.file) (omega arith) c.put_last.ensures.front
    (on_is_ok c.put_last.result (sym c.is_ok.ensures.value ∙ c.if-is_ok.true) c.put_last.ensures.last)

pub returns-clause-left : goal.returns-clause-left
returns-clause-left g c =
    let f = c.args.self.now in
    let content = g.F.RawFile.content in
    made_count f.len f.len c.drop_last-self.result (content f.file) (content c.drop_last-self.new.file) (omega arith) c.drop_last-self.ensures.count
    (front_then (512 * f.len) (content f.file) (content c.put_last.new.file) (content c.drop_last-self.new.file) c.put_last.ensures.front c.drop_last-self.ensures.front)

pub returns-clause-front : goal.returns-clause-front
returns-clause-front g c =
    let f = c.args.self.now in
    let content = g.F.RawFile.content in
    front_then (512 * f.len) (content f.file) (content c.put_last.new.file) (content c.drop_last-self.new.file) c.put_last.ensures.front c.drop_last-self.ensures.front

pub returns-then-is_ok-clause-grows : goal.returns-then-is_ok-clause-grows
returns-then-is_ok-clause-grows g c = c.put_last.ensures.durability.grows

pub returns-clause-grows : goal.returns-clause-grows
returns-clause-grows g c =
    let f = c.args.self.now in
    let durability = g.F.RawFile.durability in
    grows_then f.len (durability f.file).remnants (durability c.put_last.new.file).remnants (durability c.drop_last-self.new.file).remnants
    c.put_last.ensures.durability.grows c.drop_last-self.ensures.grows
