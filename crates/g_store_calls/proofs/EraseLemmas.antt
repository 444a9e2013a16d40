-- A file less.
-- serves: erase (answers), GrantedLemmas
use Rattle.std.proofs.Common.{◌≡◌, ℕ, zero, suc, ◌<◌, Bool, true, List, [], ◌∷◌, get_or, Option, Some, None, is_some, refl, sym, ◌∙◌, ap, arith, inl, inr, subst, All}
use Rattle.std.specs.Prelude.{◌⊎◌, ◌==◌, Contains, IfSome, not}
use Rattle.std.specs.FinMap.{get, get-from_entries}
use Rattle.std.proofs.lemmas.Bool.{cases_eq, cond-false, cond-true, eq-eqb, ne_eqb}
use Rattle.std.proofs.lemmas.List.Elements.{All-filter, All-head, All-tail, Contains-get_or}
use Rattle.g_entry.specs.declared.file_rec.FileRec.{FileRec}
use Rattle.g_entry.specs.declared.user_rec.UserRec.{UserRec}
use Rattle.g_name.specs.declared.full.Full.{Full}
use Rattle.g_name.specs.declared.path.Path.{Path}
use Rattle.g_name.proofs.Order.{full_total}
use Rattle.g_plain.proofs.TextMaps.{full_exact}
use Rattle.g_plain.specs.declared.calls.StoreCall.TheVariants.{Erase}
use Rattle.g_plain.specs.declared.calls.StoreReply.TheVariants.{Erased}
use Rattle.g_plain.specs.PlainTree.{input_name}
use Rattle.g_tree.specs.Records.{ForTree, IsRecords, by_name, full_of, number_of}
use Rattle.g_tree.proofs.MapLemmas.{found_one, keyed}
use Rattle.g_tree.proofs.RecordLemmas.{numbers_apart}
use Rattle.g_tree.proofs.RuleLemmas.{made_of, one_of_key}
use Rattle.g_disc_contents.specs.Contents.{Contents, File, committed, recs_in, without_file}
use Rattle.g_disc_contents.specs.Facts.{IsTied, OnlineFacts}
use Rattle.g_incr.specs.Layout.{holds}
use Rattle.g_store_meaning.specs.Directories.{IsOwnedIn}
use Rattle.g_store_meaning.specs.Reading.{AllTold, HasText}
use Rattle.g_store_meaning.specs.Staying.{behind}
use Rattle.g_store_meaning.specs.StoreInvariant.{DumpFacts, IsUp}
use Rattle.g_store_meaning.proofs.ChangeLemmas.{files_belong}
use Rattle.g_store_meaning.proofs.StayLemmas.{stays_up}
use Rattle.g_laws_store.specs.Calls.{IsBehind, marked}
use Rattle.g_laws_store.proofs.CallLemmas.{calls_go_by_step}
use Rattle.g_laws_store.proofs.WaitingLemmas.{from_mapped, mapped_there}
use Rattle.g_online.specs.declared.change.Change.TheVariants.{EraseFile}
use Rattle.g_online.specs.AllowedChanges.{IsAllowed, KeepsRules, Lies}
use Rattle.g_online.specs.Change.{changed, owner_in}
use Rattle.g_online.proofs.FewerLemmas.{all_fewer, records_fewer}
use Rattle.g_migrate.proofs.MigrationLemmas.{rules_here}
use Rattle.g_store_calls.specs.NewRecords.{IsFileAt}
use Rattle.g_store_calls.specs.Replies.{RefusesAs}
use Rattle.g_store_calls.proofs.AddLemmas.{or_false}
use Rattle.g_store_calls.proofs.MarkLemmas.{has_first, only_grow}
use Rattle.g_store_calls.proofs.RecordLemmas.{IsRecorded}
use Rattle.g_online.proofs.OffRuleLemmas.{committed_rules}

-- THE FILE that a path names
pub file_at : (users : List UserRec) (files : List FileRec) (who : List ℕ) (path : Path) (number : ℕ) (full : Full) → IsRecords users files → Some number ≡ number_of users files full
    → ForTree users files (λ t. full ≡ input_name t who path) → IsFileAt users files who path number full
file_at users files who path number full is found named =
    let (r, got, same) = made_of (λ (s : FileRec). s.number) (get (by_name users files) full) number (sym found) in
    let (there, name) = found_one full_total full_exact (full_of users) full files r (sym (get-from_entries full_total (keyed (full_of users) files) full) ∙ got) in
    record { rec = r; there = there; number_is = same; name_is = name; named = named }

-- THE CHANGE may be made
erase_is : (told pinned : Bool) (number : ℕ) (c : Contents) → changed told pinned (EraseFile number) c ≡ committed pinned (record c { files = without_file number c.files })
unfolding changed
erase_is told pinned number c = ap (λ (b : Bool). committed b (record c { files = without_file number c.files })) (or_false pinned)

pub may_erase : (o : OnlineFacts) (who : List ℕ) (path : Path) (number : ℕ) (full : Full) → o.live ≡ true → IsTied o → IsFileAt o.contents.users (recs_in o.contents) who path number full
    → IsAllowed (EraseFile number) o
may_erase o who path number full live tied at =
    let was = rules_here o live tied in
    let (f, there, rec) = from_mapped (λ (g : File). g.rec) o.contents.files at.rec at.there in
    let p : File → Bool = λ g. not (g.rec.number == number) in
    record {
      live = live;
      fits = (f, there, ap (λ (r : FileRec). r.number) rec ∙ at.number_is);
      rules = subst KeepsRules (sym (erase_is (is_some o.disc.held) (is_some o.pins) number o.contents))
          (committed_rules (is_some o.pins) (record o.contents { files = without_file number o.contents.files })
          (record {
            head = was.head;
            records = records_fewer p o.contents.files o.contents.users was.records;
            dated = all_fewer p o.contents.files (λ r. r.stamp < o.contents.head.next_stamp) was.dated;
            lie = All-filter p Lies o.contents.files was.lie;
          }));
    }

-- WHOSE FILE IT IS
IsOwn : ℕ → ℕ → File → Type 0
IsOwn number owner g = g.rec.number ≡ number → g.rec.owner ≡ owner

owner_first : (number owner : ℕ) (files : List File) → All (IsOwn number owner) files → (f : File) → Contains files f → f.rec.number ≡ number → owner_in number files ≡ owner ∷ []
unfolding IsOwn
owner_first number owner [] all f (k, within, at) is = let no : ⊥ = omega (arith, within) in absurd no
owner_first number owner (g ∷ gs) all f there is =
    by_number (cases_eq g.rec.number number) (λ other. owner_first number owner gs (All-tail (IsOwn number owner) g gs all) f (later there other) is)
  where
    later : Contains (g ∷ gs) f → (g.rec.number ≡ number → ⊥) → Contains gs f
    later (zero, within, at) other = absurd (other (ap (λ (h : File). h.rec.number) at ∙ is))
    later (suc k, within, at) other = (k, omega (arith, within), at)

    by_number : (g.rec.number ≡ number) ⊎ (g.rec.number ≡ number → ⊥) → ((g.rec.number ≡ number → ⊥) → owner_in number gs ≡ owner ∷ []) → owner_in number (g ∷ gs) ≡ owner ∷ []
    by_number (inl same) rest =
        cond-true (g.rec.number == number) (g.rec.owner ∷ []) (owner_in number gs) (eq-eqb g.rec.number number same)
        ∙ ap (λ (n : ℕ). let l : List ℕ = n ∷ [] in l) (All-head (IsOwn number owner) g gs all same)
    by_number (inr other) rest =
        cond-false (g.rec.number == number) (g.rec.owner ∷ []) (owner_in number gs) (ne_eqb g.rec.number number other) ∙ rest other

-- THE CALL is the step's
own_file : (o : OnlineFacts) (f : File) → IsRecords o.contents.users (recs_in o.contents) → Contains o.contents.files f → (g : File) → Contains o.contents.files g → g.rec.number ≡ f.rec.number → g.rec.owner ≡ f.rec.owner
own_file o f is there g there_g same =
    ap (λ (r : FileRec). r.owner)
    (one_of_key (λ (r : FileRec). r.number) (recs_in o.contents) g.rec f.rec (numbers_apart o.contents.users (recs_in o.contents) is)
    (mapped_there (λ (h : File). h.rec) o.contents.files g there_g) (mapped_there (λ (h : File). h.rec) o.contents.files f there) same)

owned_in : (files : List File) (number owner : ℕ) (changed numbers : List ℕ) → ((g : File) → Contains files g → g.rec.number ≡ number → g.rec.owner ≡ owner) → changed ≡ marked (owner ∷ []) numbers
    → All (IsOwnedIn number changed) files
owned_in files number owner changed numbers own is i d within same =
    let g = get_or files i d in
    ap (λ (n : ℕ). holds changed n) (own g (Contains-get_or files i d within) same) ∙ ap (λ (l : List ℕ). holds l owner) is ∙ has_first owner [] numbers

owned_open : (files : List File) (number owner : ℕ) (touched numbers : List ℕ) (dump : Option DumpFacts) → ((g : File) → Contains files g → g.rec.number ≡ number → g.rec.owner ≡ owner)
    → IfSome dump (λ d. touched ≡ marked (owner ∷ []) numbers) → IfSome dump (λ d. All (IsOwnedIn number touched) files)
owned_open files number owner touched numbers None own is = tt
owned_open files number owner touched numbers (Some d) own is = owned_in files number owner touched numbers own is

owner_all : (o : OnlineFacts) (number owner : ℕ) → ((g : File) → Contains o.contents.files g → g.rec.number ≡ number → g.rec.owner ≡ owner) → (f : File) → Contains o.contents.files f
    → f.rec.number ≡ number → owner_in number o.contents.files ≡ owner ∷ []
unfolding IsOwn
owner_all o number owner own f there is =
    owner_first number owner o.contents.files (λ i d within. own (get_or o.contents.files i d) (Contains-get_or o.contents.files i d within)) f there is

pub erases : (o : OnlineFacts) (who : List ℕ) (path : Path) (number : ℕ) (full : Full) → o.live ≡ true → IsTied o
    → RefusesAs o.contents.users (recs_in o.contents) o.contents.head.next_stamp who (Erase path) None
    → (at : IsFileAt o.contents.users (recs_in o.contents) who path number full)
    → IsRecorded o who (Erase path) (EraseFile number) (record o.contents { files = without_file number o.contents.files }) (at.rec.owner ∷ []) (Erased full)
erases o who path number full live tied granted at =
    let rules = (rules_here o live tied).records in
    let (f, there, rec) = from_mapped (λ (g : File). g.rec) o.contents.files at.rec at.there in
    let numbered : f.rec.number ≡ number = ap (λ (r : FileRec). r.number) rec ∙ at.number_is in
    let owner : f.rec.owner ≡ at.rec.owner = ap (λ (r : FileRec). r.owner) rec in
    let own : (g : File) → Contains o.contents.files g → g.rec.number ≡ number → g.rec.owner ≡ at.rec.owner = λ g there_g same. own_file o f rules there g there_g (same ∙ sym numbered) ∙ owner in
    record {
      live = live;
      records = rules;
      changes = λ told pinned. erase_is told pinned number o.contents;
      alone = refl;
      no_blocks = refl;
      touched = owner_all o number at.rec.owner own f there numbered;
      write = refl;
      off = λ s k. refl;
      none = λ s k. refl;
      head = refl;
      granted = granted;
      replied = λ bytes long. ap Erased (at.named bytes o.contents.head.next_stamp);
      goes = λ v reels new dump known free unjam behind.
          let name = ap (full_of o.contents.users) rec ∙ at.name_is ∙ at.named (λ r. v.text r.stamp) o.contents.head.next_stamp in
          calls_go_by_step.erases v reels o new dump who path f 0 known there name free unjam
          (subst (λ (n : ℕ). IsBehind o (record o.contents { files = without_file n o.contents.files }) (f.rec.owner ∷ []) new) (sym numbered)
          (subst (λ (n : ℕ). IsBehind o (record o.contents { files = without_file number o.contents.files }) (n ∷ []) new) (sym owner) behind));
      texts = λ held reels v are. All-filter (λ (g : File). not (g.rec.number == number)) (λ (g : File). HasText (AllTold held reels) (v.text g.rec.stamp) v.dumps g) o.contents.files are;
      up = λ text shelf s changed touched is changed_is touched_is was.
          let mine : changed ≡ marked (at.rec.owner ∷ []) s.online.changed = changed_is ∙ ap (λ (x : OnlineFacts). marked (at.rec.owner ∷ []) x.changed) (sym is) in
          let open_mine : IfSome s.dump (λ d. touched ≡ marked (at.rec.owner ∷ []) s.online.touched) =
          subst (λ (x : OnlineFacts). IfSome s.dump (λ d. touched ≡ marked (at.rec.owner ∷ []) x.touched)) (sym is) touched_is in
          let mine_own : (g : File) → Contains s.online.contents.files g → g.rec.number ≡ number → g.rec.owner ≡ at.rec.owner =
          subst (λ (x : OnlineFacts). (g : File) → Contains x.contents.files g → g.rec.number ≡ number → g.rec.owner ≡ at.rec.owner) (sym is) own in
          subst (λ (x : OnlineFacts). IsUp text shelf (behind s (record x.contents { files = without_file number x.contents.files }) changed touched)) is
          (stays_up.erased text shelf s number changed touched (only_grow s (at.rec.owner ∷ []) changed touched mine open_mine)
          (owned_in s.online.contents.files number at.rec.owner changed s.online.changed mine_own mine)
          (owned_open s.online.contents.files number at.rec.owner touched s.online.touched s.dump mine_own open_mine) was);
      belongs = λ text shelf reels was. files_belong.erased text shelf reels o.contents number was;
    }
