use Rattle.std.proofs.Common.{List, [], ap, append_assoc, refl, take, ◌++◌, ◌∙◌, ◌∷◌}
use Rattle.g_reasons.specs.Reasons.{reasons}
use Rattle.g_reasons.specs.declared.reason.Reason.{Reason}
use Rattle.g_reasons.specs.declared.reason.Reason.TheVariants.{NoWord}
use Rattle.g_reasons.proofs.choice.reason_of.Goals as goal

pub returns-in-Some : goal.returns-in-Some
returns-in-Some c =
    let f = c.in-Some.ensures in
    record {
      before = f.before;
      after = f.after ++ NoWord ∷ [];
      all = ap (λ (rs : List Reason). rs ++ NoWord ∷ []) f.all ∙ append_assoc f.before (c.in-Some.reason ∷ f.after) (NoWord ∷ []);
      applies = f.applies;
      first = f.first;
    }

-- the last reason applies if no other does
pub returns-in-None : goal.returns-in-None
returns-in-None c = record { before = take 22 reasons; after = []; all = refl; applies = tt; first = c.in-None.ensures }
