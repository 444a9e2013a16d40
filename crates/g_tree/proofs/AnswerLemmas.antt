-- What a path names, among records and in the tree.
-- serves: find (number, there), input (named, there), input_name (some), modes_of, output (named, there)
use Rattle.std.proofs.Common.{◌≡◌, ◌≢◌, ℕ, ◌+◌, ◌<◌, ◌==◌, Bool, true, false, ◌&&◌, List, [], Option, Some, None, is_some, is_none, unwrap_or, refl, sym, ap, subst, ◌∙◌, arith}
use Rattle.std.specs.Option.{option_map}
use Rattle.std.proofs.lemmas.Bool.Decides.{nat_tests}
use Rattle.g_name.specs.declared.full.Full.{Full}
use Rattle.g_name.specs.declared.path.Path.{Path}
use Rattle.g_entry.specs.declared.user_rec.UserRec.{UserRec}
use Rattle.g_entry.specs.declared.file_rec.FileRec.{FileRec}
use Rattle.g_plain.specs.declared.names.NamedFile.{NamedFile}
use Rattle.g_plain.specs.Grants.{file_named}
use Rattle.g_plain.specs.PlainTree.{Tree, has_file, newest, owner_of, named, input_name, output_name}
use Rattle.g_tree.specs.Records.{IsRecords, tree_of, number_of}
use Rattle.g_tree.specs.Answers.{IsOutput, IsFileOrNew, is_past_last, newest_of}
use Rattle.g_tree.specs.declared.output.Output.{Output}
use Rattle.g_tree.specs.declared.output.Output.TheVariants.{Replace, Fresh, NoGeneration}
use Rattle.g_tree.proofs.CountLemmas.{nothing_newer}
use Rattle.g_tree.proofs.RecordLemmas.{file_there, newest_is, nobodys, nobodys_newest}

-- a full name with another generation
abbrev pub with_generation : Full → ℕ → Full
with_generation full g = record full { generation = g }

-- and a name with a number
abbrev pub with_number : Full → Option ℕ → NamedFile
with_number full number = record { full = full; number = number }

pub named_is : (numbers : Full → Option ℕ) (full called : Full) (number : Option ℕ) → number ≡ numbers full → full ≡ called → with_number full number ≡ file_named numbers called
named_is numbers full called number has is = ap (λ n. with_number full n) has ∙ ap (file_named numbers) is

both_no : (b : Bool) → (b && false) ≡ false
both_no true = refl
both_no false = refl

pub not_same : (m n : ℕ) → m ≢ n → (m == n) ≡ false
not_same m n apart = grind (arith, nat_tests)

module _ (users : List UserRec) (files : List FileRec) (bytes : FileRec → List ℕ) (next : ℕ) (who : List ℕ) (path : Path) where
  abbrev tree : Tree
  tree = tree_of users files bytes next

  pub input_given : (full : Full) (g : ℕ) → full ≡ named who path 1 → path.generation ≡ Some g → with_generation full g ≡ input_name tree who path
  input_given full g is given = (λ i. with_generation (is i) g) ∙ ap (λ o. named who path (unwrap_or o (newest tree who path))) (sym given)

  pub input_newest : (full : Full) (g : ℕ) → IsRecords users files → full ≡ named who path 1 → path.generation ≡ None → g ≡ newest_of users full files → with_generation full g ≡ input_name tree who path
  input_newest full g rules is none newest_there =
      (λ i. with_generation (is i) g)
      ∙ ap (named who path) (newest_there ∙ ap (λ f. newest_of users f files) is ∙ sym (newest_is users files bytes next who path rules))
      ∙ ap (λ o. named who path (unwrap_or o (newest tree who path))) (sym none)

  -- If there is no user of that name.
  pub nobodys_number : (full : Full) → IsRecords users files → full.user ≡ [] → number_of users files full ≡ None
  nobodys_number full rules none = ap (option_map (λ r. r.number)) (nobodys users files full rules none)

  pub nobodys_file : (full : Full) → IsRecords users files → full.user ≡ [] → has_file tree full ≡ false
  nobodys_file full rules none = sym (file_there users files bytes next full) ∙ ap is_some (nobodys_number full rules none)

  nobodys_first : IsRecords users files → owner_of who path ≡ [] → newest tree who path ≡ 0
  nobodys_first rules none = newest_is users files bytes next who path rules ∙ nobodys_newest users files (named who path 0) rules none

  pub nobodys_output : (g : ℕ) → IsRecords users files → owner_of who path ≡ [] → g ≡ unwrap_or path.generation 1 → IsOutput users files who path tree (Fresh g)
  nobodys_output g rules none is =
      let first = nobodys_first rules none in (
        ap (λ n. is_none path.generation && (n == 4095)) first ∙ both_no (is_none path.generation),
        nobodys_file (output_name tree who path) rules none,
        is ∙ ap (λ n. unwrap_or path.generation (n + 1)) (sym first),
      )

  pub output_past : path.generation ≡ None → newest tree who path ≡ 4095 → IsOutput users files who path tree NoGeneration
  output_past none last = (λ i. is_none (none i) && (last i == 4095))

  -- an output that a look-up found
  pub output_found : (full : Full) (output : Output) → IsFileOrNew users files full output → full ≡ output_name tree who path → is_past_last tree who path ≡ false → IsOutput users files who path tree output
  output_found full (Replace number) found is inside =
      (inside, sym (file_there users files bytes next (output_name tree who path)) ∙ ap (λ f. is_some (number_of users files f)) (sym is) ∙ ap is_some found, ap (number_of users files) (sym is) ∙ found)
  output_found full (Fresh generation) found is inside =
      (inside, sym (file_there users files bytes next (output_name tree who path)) ∙ ap (λ f. is_some (number_of users files f)) (sym is) ∙ ap is_some found.0, found.1 ∙ ap (λ f. f.generation) is)
  output_found full NoGeneration found is inside = absurd found

  pub output_given : (full : Full) (g : ℕ) (output : Output) → full ≡ named who path 1 → path.generation ≡ Some g → IsFileOrNew users files (with_generation full g) output → IsOutput users files who path tree output
  output_given full g output is given found =
      output_found (with_generation full g) output found
      ((λ i. with_generation (is i) g) ∙ ap (λ o. named who path (unwrap_or o (newest tree who path + 1))) (sym given))
      (ap (λ o. is_none o && (newest tree who path == 4095)) given)

  pub newest_there : (full : Full) → IsRecords users files → full ≡ named who path 1 → newest_of users full files ≡ newest tree who path
  newest_there full rules is = ap (λ f. newest_of users f files) is ∙ sym (newest_is users files bytes next who path rules)

  pub output_newest : (full : Full) (n : ℕ) → IsRecords users files → full ≡ named who path 1 → path.generation ≡ None → n ≡ newest_of users full files → with_generation full (n + 1) ≡ output_name tree who path
  output_newest full n rules is none top =
      (λ i. with_generation (is i) (n + 1)) ∙ ap (λ m. named who path (m + 1)) (top ∙ newest_there full rules is)
      ∙ ap (λ o. named who path (unwrap_or o (newest tree who path + 1))) (sym none)

  pub output_next : (full : Full) (n : ℕ) (output : Output) → IsRecords users files → full ≡ named who path 1 → path.generation ≡ None → n ≡ newest_of users full files → n ≢ 4095
      → IsFileOrNew users files (with_generation full (n + 1)) output → IsOutput users files who path tree output
  output_next full n output rules is none top below found =
      let same : n ≡ newest tree who path = top ∙ newest_there full rules is in
      output_found (with_generation full (n + 1)) output found (output_newest full n rules is none top)
      (ap (λ o. is_none o && (newest tree who path == 4095)) none ∙ ap (λ m. m == 4095) (sym same) ∙ not_same n 4095 below)

  -- The generation after the newest, which doesn't exist.
  below_next : (full : Full) (n : ℕ) → n ≡ newest_of users full files → newest_of users (with_generation full (n + 1)) files < n + 1
  below_next full n top = subst (λ m. m < n + 1) top (omega arith)

  pub output_unnumbered : (full : Full) (n : ℕ) → IsRecords users files → full ≡ named who path 1 → path.generation ≡ None → n ≡ newest_of users full files
      → with_number (with_generation full (n + 1)) None ≡ file_named (number_of users files) (output_name tree who path)
  output_unnumbered full n rules is none top =
      named_is (number_of users files) (with_generation full (n + 1)) (output_name tree who path) None
      (sym (nothing_newer users files (with_generation full (n + 1)) rules (below_next full n top))) (output_newest full n rules is none top)

  pub output_absent : (full : Full) (n : ℕ) → IsRecords users files → n ≡ newest_of users full files → false ≡ has_file tree (with_generation full (n + 1))
  output_absent full n rules top =
      ap is_some (sym (nothing_newer users files (with_generation full (n + 1)) rules (below_next full n top))) ∙ file_there users files bytes next (with_generation full (n + 1))
