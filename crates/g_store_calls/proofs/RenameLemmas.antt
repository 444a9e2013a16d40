-- A file's other name.
-- serves: rename (answers), renamed_file
use Rattle.std.proofs.Common.{◌≡◌, ℕ, ◌<◌, true, List, [], ◌∷◌, length, Option, None, is_some, refl, sym, ◌∙◌, ap, subst, All}
use Rattle.std.specs.Prelude.{Contains, not}
use Rattle.std.specs.Option.{option_map}
use Rattle.std.proofs.lemmas.Bool.{false≢true}
use Rattle.std.proofs.lemmas.List.Elements.{All-contains}
use Rattle.g_entry.specs.declared.file_rec.FileRec.{FileRec}
use Rattle.g_entry.specs.declared.user_rec.UserRec.{UserRec}
use Rattle.g_entry.specs.FileFields.{IsFile}
use Rattle.g_entry.proofs.RuleLemmas.{file_made}
use Rattle.g_name.specs.declared.full.Full.{Full}
use Rattle.g_name.specs.declared.path.Path.{Path}
use Rattle.g_name.specs.Grammar.{is_word}
use Rattle.g_plain.specs.declared.calls.StoreCall.TheVariants.{Rename}
use Rattle.g_plain.specs.declared.calls.StoreReply.TheVariants.{Renamed}
use Rattle.g_plain.specs.PlainTree.{Tree, has_file, input_name}
use Rattle.g_tree.specs.AskedRecords.{zeros}
use Rattle.g_tree.specs.Records.{IsRecords, full_of, tree_of}
use Rattle.g_tree.proofs.NamedLemmas.{zeros_fit}
use Rattle.g_tree.proofs.RecordLemmas.{file_there}
use Rattle.g_tree.proofs.RightLemmas.{found_named}
use Rattle.g_disc_contents.specs.Contents.{recs_in, set_rec}
use Rattle.g_disc_contents.specs.Facts.{IsTied, OnlineFacts}
use Rattle.g_laws_store.proofs.CallLemmas.{calls_go_by_step}
use Rattle.g_online.specs.declared.change.Change.TheVariants.{SetFile}
use Rattle.g_store_calls.specs.ReplacedRecords.{IsRenamed}
use Rattle.g_store_calls.specs.Replies.{RefusesAs}
use Rattle.g_store_calls.proofs.RecordLemmas.{IsRecorded, IsFileNamed}
use Rattle.g_store_calls.proofs.SetLemmas.{found, named_in, record_of, set_file, sets}
use Rattle.g_store_calls.proofs.TellLemmas.{granted_off}

abbrev called : List ℕ → Full → Full
called to full = record full { local = to }

-- IF THE CALL ISN'T REFUSED
module _ (users : List UserRec) (files : List FileRec) (next : ℕ) (who : List ℕ) (path : Path) (to : List ℕ) (is : IsRecords users files)
    (granted : RefusesAs users files next who (Rename path to) None) where
  abbrev t : Tree
  t = tree_of users files zeros next

  name_free : has_file t (called to (input_name t who path)) ≡ true → ⊥
  name_free has = false≢true (sym (ap not has) ∙ (granted_off t who (Rename path to) (granted zeros (zeros_fit files))).1.1.1.1.0)

  -- the record with its other name
  module _ (old r : FileRec) (full new : Full) (word : is_word to ≡ true) (at : IsFileNamed users files who path old full) (made : r ≡ record old { local = to })
      (new_is : new ≡ record full { local = to }) where
    fits : IsFile r
    fits =
        let o = All-contains IsFile files old is.each_file at.there in
        subst IsFile (sym made) (file_made old.number to old.stamp old.len old.traps old.tape old o word o.stamp o.len o.others o.sets o.no_owner o.tape)

    trapped : All (λ pair. pair.0 < length users) r.traps.others
    trapped =
        subst (λ (q : FileRec). All (λ pair. pair.0 < length users) q.traps.others) (sym made)
        (All-contains (λ (q : FileRec). All (λ pair. pair.0 < length users) q.traps.others) files old is.among_files.trapped at.there)

    name_then : full_of users r ≡ called to (input_name t who path)
    name_then = ap (full_of users) made ∙ ap (called to) (at.name_is ∙ at.named zeros next)

    apart : (q : FileRec) → Contains files q → (q.number ≡ r.number → ⊥) → full_of users r ≡ full_of users q → ⊥
    apart q there other same =
        name_free
        (ap (has_file t) (sym name_then ∙ same) ∙ sym (file_there users files zeros next (full_of users q))
        ∙ ap (λ (x : Option FileRec). is_some (option_map (λ (s : FileRec). s.number) x)) (found_named users files is q there))

    pub renamed_made : IsRenamed users files who path to r new
    renamed_made = record {
      set = set_file users files who path old r full is at (ap (λ (q : FileRec). q.number) made) (ap (λ (q : FileRec). q.owner) made) (ap (λ (q : FileRec). q.stamp) made) (ap (λ (q : FileRec). q.len) made)
          (ap (λ (q : FileRec). q.tape) made) fits trapped apart;
      traps = ap (λ (q : FileRec). q.traps) made;
      name_is = ap (full_of users) made ∙ ap (called to) at.name_is ∙ sym new_is;
      renamed = new_is ∙ ap (called to) (sym at.name_is);
    }

-- THE CALL is the step's
pub renames : (o : OnlineFacts) (who : List ℕ) (path : Path) (to : List ℕ) (r : FileRec) (full : Full) → o.live ≡ true → IsTied o
    → RefusesAs o.contents.users (recs_in o.contents) o.contents.head.next_stamp who (Rename path to) None → IsRenamed o.contents.users (recs_in o.contents) who path to r full
    → IsRecorded o who (Rename path to) (SetFile r) (record o.contents { files = set_rec r o.contents.files }) (r.owner ∷ []) (Renamed full)
renames o who path to r full live tied granted at =
    let (f, there, rec) = found o who path r live tied at.set in
    sets o who path r live tied at.set (Rename path to) (Renamed full) refl (λ u k. refl) (λ u k. refl) granted
    (λ bytes long. ap Renamed (at.renamed ∙ ap (called to) (at.set.named bytes o.contents.head.next_stamp)))
    (λ v reels new dump known free unjam behind.
    calls_go_by_step.renames v reels o new dump who path to f r 0 known there (named_in o who path r live tied at.set f rec v) (record_of o who path r live tied at.set f rec)
    (at.traps ∙ ap (λ (q : FileRec). q.traps) (sym rec))
    (at.name_is ∙ at.renamed ∙ ap (called to) (at.set.named (λ q. v.text q.stamp) o.contents.head.next_stamp)) free unjam behind)

-- of the records of the filestore
pub renamed_on : (o : OnlineFacts) (us : List UserRec) (fs : List FileRec) (who : List ℕ) (path : Path) (to : List ℕ) (r : FileRec) (full : Full) → us ≡ o.contents.users → fs ≡ recs_in o.contents
    → IsRenamed us fs who path to r full → IsRenamed o.contents.users (recs_in o.contents) who path to r full
renamed_on o us fs who path to r full users files is =
    subst (λ (rs : List FileRec). IsRenamed o.contents.users rs who path to r full) files (subst (λ (x : List UserRec). IsRenamed x fs who path to r full) users is)
