-- A program that ran on a store that answers plainly is a program that ran on a plain tree.
-- serves: runs_are_plain, crates above
use Rattle.std.proofs.Common.{ℕ, List, refl, sym, subst}
use Rattle.g_plain.specs.PlainTree.{Tree}
use Rattle.g_plain.specs.declared.calls.StoreCall.{StoreCall}
use Rattle.g_plain.specs.Programs.{Answer, Asks, Gives, Call, IsAnswer, Ran}
use Rattle.g_plain.specs.PlainAnswers.{PlainOrDevice, RanPlainly}

module _ {S : Type 0} (answers : S → List ℕ → StoreCall → Answer → S → Type 0) (who : List ℕ) (HasTree : S → Tree → Type 0)
    (plainly : (s : S) (t : Tree) (call : StoreCall) (answer : Answer) (s' : S) → HasTree s t → answers s who call answer s' → IsAnswer answer → (t' : Tree) × PlainOrDevice t who call answer t' × HasTree s' t') where
  -- A program that ran on a store that answers plainly ran on a plain tree.
  pub ran_plainly : {A : Type 0} (old : S) (p : Asks A) (given : A) (new : S) (t : Tree) → HasTree old t → Ran answers who old p given new → (t' : Tree) × RanPlainly who t p given t' × HasTree new t'
  ran_plainly old (Gives x) given new t has r = (t, (r.0, refl), subst (λ (s : S). HasTree s t) (sym r.1) has)
  ran_plainly old (Call call more) given new t has r =
      let one = plainly old t call r.0 r.1 has r.2 r.3 in
      let rest = ran_plainly r.1 (more r.0) given new one.0 one.2 r.4 in
      (rest.0, (r.0, one.0, one.1, r.3, rest.1), rest.2)
