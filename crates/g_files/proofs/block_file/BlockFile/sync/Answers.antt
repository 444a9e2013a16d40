use Rattle.std.proofs.Common.{refl, sym, ◌∙◌, inl, inr, arith}
use Rattle.g_files.specs.declared.reach.Reach.TheVariants.{Failed}
use Rattle.g_files.proofs.CallLemmas.{on_ok_at}
use Rattle.g_files.proofs.RiskLemmas.{has_sectors, left_none, not_orderly, short_by, some_at, stored_by}
use Rattle.g_files.proofs.block_file.BlockFile.sync.Goals as goal

pub returns-then-is_err-clause-durable : goal.returns-then-is_err-clause-durable
returns-then-is_err-clause-durable g c =
    let f = c.args.self.now in
    let d = g.F.RawFile.durability f.file in
    let d' = g.F.RawFile.durability c.sync.new.self in record {
      no_more = left_none f.len d.remnants d'.remnants c.sync.ensures.durability.no_other;
      stored = λ kept. tt;
      all = tt;
      same = refl;
      orderly = tt;
      disorderly = not_orderly Failed (inl refl);
    }

pub invariant_of-self-2 : goal.invariant_of-self-2
invariant_of-self-2 g c =
    let f = c.args.self.now in
    let x = g.F.RawFile.content f.file in
    let y = g.F.RawFile.content c.sync.new.self in
    let d = g.F.RawFile.durability f.file in
    let d' = g.F.RawFile.durability c.sync.new.self in
    let ok = sym c.is_err.ensures.value ∙ c.if-is_err.false in
    let has = has_sectors f.len x f.long c.requires.ends in record {
      counted = omega arith;
      there = λ is. refl;
      written = λ orderly. record {
        bytes = λ j least most. absurd (omega (arith, least, most));
        sized = on_ok_at c.sync.result ok c.sync.ensures.durability.sized c.requires.written.sized;
      };
      short = λ orderly. some_at x y c.sync.ensures.same (short_by f.len x d d' has c.requires.written.sized (on_ok_at c.sync.result ok c.sync.ensures.synced));
      long = some_at x y c.sync.ensures.same f.long;
      bytes = some_at x y c.sync.ensures.same f.bytes;
      ends = λ sound. some_at x y c.sync.ensures.same c.requires.ends;
    }

pub returns-clause-durable : goal.returns-clause-durable
returns-clause-durable g c =
    let f = c.args.self.now in
    let x = g.F.RawFile.content f.file in
    let d = g.F.RawFile.durability f.file in
    let d' = g.F.RawFile.durability c.sync.new.self in
    let ok = sym c.is_err.ensures.value ∙ c.if-is_err.false in record {
      no_more = left_none f.len d.remnants d'.remnants c.sync.ensures.durability.no_other;
      stored = λ kept. some_at x (g.F.RawFile.content c.sync.new.self) c.sync.ensures.same (stored_by f.durable f.len x d d'
          (has_sectors f.len x f.long c.requires.ends) c.requires.written (on_ok_at c.sync.result ok c.sync.ensures.synced)
          c.sync.ensures.durability.no_other kept);
      all = refl;
      same = tt;
      orderly = inr refl;
      disorderly = tt;
    }
