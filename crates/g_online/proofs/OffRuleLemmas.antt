-- Files that are taken off the disc, or brought back, leave the records unchanged, so the rules of a directory hold.
-- serves: crates above
use Rattle.std.proofs.Common.{◌≡◌, ◌≢◌, ℕ, Bool, true, false, List, [], ◌∷◌, get_or, map, None, is_some, refl, sym, subst, inr, if◌then◌else◌}
use Rattle.std.specs.Prelude.{All}
use Rattle.std.proofs.lemmas.List.Elements.{All-map}
use Rattle.g_entry.specs.Rules.{StampsBelow}
use Rattle.g_tree.specs.Records.{IsRecords}
use Rattle.g_disc_contents.specs.Contents.{Contents, File, committed, has, offline_in, recs_in, taken_off}
use Rattle.g_online.specs.AllowedChanges.{KeepsRules, Lies}
use Rattle.g_online.specs.Change.{with_files}

-- RECORDS stay where files are taken off
pub rec_off : (numbers : List ℕ) (f : File) → (offline_in numbers f).rec ≡ f.rec
rec_off numbers f = by_case (has numbers f.rec.number)
  where
    by_case : (b : Bool) → (let off : File = record f { online = false; bytes = None } in (if b then off else f).rec) ≡ f.rec
    by_case true = refl
    by_case false = refl

pub recs_off : (numbers : List ℕ) (files : List File) → map (λ (f : File). f.rec) (taken_off numbers files) ≡ map (λ (f : File). f.rec) files
recs_off numbers [] = refl
recs_off numbers (f ∷ fs) = λ i. rec_off numbers f i ∷ recs_off numbers fs i

-- THE RULES stay: other files with the same records, each of them somewhere
pub same_recs : (c : Contents) (files : List File) → map (λ (f : File). f.rec) files ≡ recs_in c → All Lies files → KeepsRules c → KeepsRules (with_files files c)
same_recs c files same lie rules = record {
  head = rules.head;
  records = subst (IsRecords c.users) (sym same) rules.records;
  dated = subst (StampsBelow c.head.next_stamp) (sym same) rules.dated;
  lie = lie;
}

-- a file that is taken off has a copy on tape, and isn't empty
abbrev pub MayGo : List ℕ → File → Type 0
MayGo numbers f = has numbers f.rec.number ≡ true → (is_some f.rec.tape ≡ true) × (f.rec.len ≢ 0)

lies_off : (numbers : List ℕ) (f : File) → MayGo numbers f → Lies f → Lies (offline_in numbers f)
lies_off numbers f may lies = by_case (has numbers f.rec.number) may
  where
    by_case : (b : Bool) → (b ≡ true → (is_some f.rec.tape ≡ true) × (f.rec.len ≢ 0)) → (let off : File = record f { online = false; bytes = None } in Lies (if b then off else f))
    by_case true may = record { somewhere = inr (may refl).0; empty = λ none. absurd ((may refl).1 none) }
    by_case false may = lies

pub off_rules : (numbers : List ℕ) (c : Contents) → All (MayGo numbers) c.files → KeepsRules c → KeepsRules (with_files (taken_off numbers c.files) c)
off_rules numbers c may rules =
    same_recs c (taken_off numbers c.files) (recs_off numbers c.files)
    (All-map Lies (offline_in numbers) c.files (λ k d inside. lies_off numbers (get_or c.files k d) (may k d inside) (rules.lie k d inside))) rules

-- a commit that drops the intent, or preserves it
pub committed_rules : (b : Bool) (c : Contents) → KeepsRules c → KeepsRules (committed b c)
committed_rules true c rules = rules
committed_rules false c rules = record {
  head = record { least_stamp = rules.head.least_stamp; most_stamp = rules.head.most_stamp; last_dump = rules.head.last_dump; intent = tt };
  records = rules.records;
  dated = rules.dated;
  lie = rules.lie;
}
