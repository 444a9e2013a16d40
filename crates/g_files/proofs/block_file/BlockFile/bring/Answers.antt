use Rattle.std.proofs.Common.{ℕ, refl, subst, inr}
use Rattle.g_files.specs.BlockFile.{content_of}
use Rattle.g_files.specs.Risks.{Keeps}
use Rattle.g_files.proofs.RiskLemmas.{not_orderly, stored_kept, swapped}
use Rattle.g_files.proofs.block_file.BlockFile.bring.Goals as goal

pub returns-in-There-clause-durable : goal.returns-in-There-clause-durable
returns-in-There-clause-durable g c =
    let f = c.args.self.now in record {
      no_more = λ left there. there;
      stored = λ kept. stored_kept f.len (content_of f) (g.F.RawFile.durability f.file).remnants (f.short (inr c.in-There.is))
          (subst (λ (n : ℕ). Keeps n f) (f.there c.in-There.is) kept);
      all = f.there c.in-There.is;
      same = tt;
      orderly = inr c.in-There.is;
      disorderly = tt;
    }

pub returns-in-Unknown-clause-durable : goal.returns-in-Unknown-clause-durable
returns-in-Unknown-clause-durable g c = record {
  no_more = λ left there. there;
  stored = λ kept. tt;
  all = tt;
  same = refl;
  orderly = tt;
  disorderly = not_orderly c.args.self.now.reach (swapped c.in-Unknown.is);
}
