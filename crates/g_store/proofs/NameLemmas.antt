-- A path with a user names a file for any caller.
-- serves: file_named (err, ok)
use Rattle.std.proofs.Common.{◌≡◌, ℕ, Bool, false, true, List, [], ◌∷◌, Option, Some, None, unwrap_or, refl, sym, ◌∙◌, ap}
use Rattle.std.specs.Prelude.{◌||◌, is_none, not}
use Rattle.g_name.specs.declared.path.Path.{Path}
use Rattle.g_plain.specs.declared.faults.StoreFault.TheVariants.{NoFile, NoUser}
use Rattle.g_plain.specs.PlainStep.{first_fault}
use Rattle.g_plain.specs.PlainTree.{Tree, has_file, has_user, input_name, owner_of}
use Rattle.g_store.specs.Naming.{naming_refuses}

module _ (t : Tree) (path : Path) (user : List ℕ) (named : path.user ≡ Some user) where
  owner_is : (who : List ℕ) → owner_of who path ≡ user
  owner_is who = ap (λ (u : Option (List ℕ)). unwrap_or u who) named

  pub name_any : (who other : List ℕ) → input_name t who path ≡ input_name t other path
  name_any who other = by_owner (owner_is who ∙ sym (owner_is other))
    where
      by_owner : owner_of who path ≡ owner_of other path → input_name t who path ≡ input_name t other path
      by_owner same = ap (λ (o : List ℕ). input_name t o (record path { user = Some o })) same

  named_by : (is file : Bool) → has_user t user ≡ is → has_file t (input_name t [] path) ≡ file
      → naming_refuses t path ≡ first_fault ((not is, NoUser) ∷ (not file, NoFile) ∷ [])
  named_by is file here there =
      λ i. first_fault ((is_none (named i) || not ((ap (has_user t) (owner_is []) ∙ here) i), NoUser) ∷ (not (there i), NoFile) ∷ [])

  pub no_user : has_user t user ≡ false → naming_refuses t path ≡ Some NoUser
  no_user none = named_by false (has_file t (input_name t [] path)) none refl

  pub no_file : has_user t user ≡ true → (who : List ℕ) → has_file t (input_name t who path) ≡ false → naming_refuses t path ≡ Some NoFile
  no_file there who none = named_by true false there (ap (has_file t) (name_any [] who) ∙ none)

  pub is_there : has_user t user ≡ true → (who : List ℕ) → has_file t (input_name t who path) ≡ true → naming_refuses t path ≡ None
  is_there there who file = named_by true true there (ap (has_file t) (name_any [] who) ∙ file)
