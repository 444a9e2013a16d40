-- Another record of a file, of the same version.
-- serves: rename, trap_go, trap_stop, RenameLemmas, TrapLemmas
use Rattle.std.proofs.Common.{◌≡◌, ◌≢◌, ℕ, ◌<◌, ◌≤◌, Bool, true, false, List, [], ◌∷◌, get_or, length, map, Option, Some, None, is_some, refl, sym, ◌∙◌, ap, arith, inl, inr, subst, All}
use Rattle.std.specs.Prelude.{◌⊎◌, ◌==◌, AllPairs, Contains, IfSome, if◌then◌else◌}
use Rattle.std.proofs.lemmas.Bool.{cases_eq, cond-false, cond-true, eq-eqb, ne_eqb}
use Rattle.std.proofs.lemmas.List.{length-map}
use Rattle.std.proofs.lemmas.List.Elements.{All-contains, All-map, Contains-get_or}
use Rattle.g_entry.specs.declared.file_rec.FileRec.{FileRec}
use Rattle.g_entry.specs.declared.file_rec.TapeCopy.{TapeCopy}
use Rattle.g_entry.specs.declared.user_rec.UserRec.{UserRec}
use Rattle.g_entry.specs.FileFields.{IsFile}
use Rattle.g_entry.specs.Rules.{SameName, StampsBelow}
use Rattle.g_name.specs.declared.full.Full.{Full}
use Rattle.g_name.specs.declared.path.Path.{Path}
use Rattle.g_tape.specs.Reel.{Reel}
use Rattle.g_incr.specs.Layout.{holds}
use Rattle.g_plain.specs.declared.calls.StoreCall.{StoreCall}
use Rattle.g_plain.specs.declared.calls.StoreReply.{StoreReply}
use Rattle.g_plain.specs.PlainStep.{fault_of}
use Rattle.g_plain.specs.PlainTree.{input_name}
use Rattle.g_tree.specs.Records.{IsRecords, full_of, name_of}
use Rattle.g_tree.specs.State.{with_file}
use Rattle.g_tree.proofs.RecordLemmas.{numbers_apart}
use Rattle.g_tree.proofs.RuleLemmas.{one_of_key}
use Rattle.g_disc_contents.specs.Contents.{Contents, File, committed, recs_in, set_rec, with_rec}
use Rattle.g_disc_contents.specs.Facts.{IsTied, OnlineFacts}
use Rattle.g_store_model.specs.State.{Holding, State}
use Rattle.g_store_model.specs.CallStep.{IsUnjam, after_call, is_offline, need, writes}
use Rattle.g_store_meaning.specs.Directories.{IsOwnedBy}
use Rattle.g_store_meaning.specs.Laws.{RecordsAnew}
use Rattle.g_store_meaning.specs.Meaning.{IsContent}
use Rattle.g_store_meaning.specs.Reading.{AllTold, HasText, View, state_up}
use Rattle.g_store_meaning.specs.Staying.{AreMarked, behind}
use Rattle.g_store_meaning.specs.StoreInvariant.{DumpFacts, IsUp}
use Rattle.g_store_meaning.proofs.ChangeLemmas.{files_belong}
use Rattle.g_store_meaning.proofs.StayLemmas.{stays_up}
use Rattle.g_laws_store.specs.Calls.{IsBehind, IsKnown, IsRecordOf, marked}
use Rattle.g_laws_store.specs.Rooms.{held_in}
use Rattle.g_laws_store.proofs.WaitingLemmas.{from_mapped, mapped_there}
use Rattle.g_online.specs.declared.change.Change.TheVariants.{SetFile}
use Rattle.g_online.specs.AllowedChanges.{IsAllowed, KeepsRules, Lies}
use Rattle.g_online.specs.Change.{changed}
use Rattle.g_online.proofs.CloseNoteLemmas.{pairs_map}
use Rattle.g_online.proofs.EntryLemmas.{put-set, set_one}
use Rattle.g_migrate.proofs.MigrationLemmas.{rules_here}
use Rattle.g_store_calls.specs.ReplacedRecords.{IsSetFile}
use Rattle.g_store_calls.specs.Replies.{RefusesAs}
use Rattle.g_store_calls.proofs.AddLemmas.{or_false}
use Rattle.g_store_calls.proofs.MarkLemmas.{has_first, only_grow}
use Rattle.g_store_calls.proofs.RecordLemmas.{IsRecorded, IsFileNamed}
use Rattle.g_store_calls.proofs.KindLemmas.{RepliesAs}
use Rattle.g_online.proofs.OffRuleLemmas.{committed_rules}

-- WITH ANOTHER RECORD in the place of one, of a name that no other file has, the records satisfy their rules
module _ (users : List UserRec) (files : List FileRec) (is : IsRecords users files) (r old : FileRec) (there : Contains files old) (number : r.number ≡ old.number) where
  abbrev after : List FileRec
  after = map (set_one r) files

  taken : (q : FileRec) → q.number ≡ r.number → set_one r q ≡ r
  taken q same = cond-true (q.number == r.number) r q (eq-eqb q.number r.number same)

  kept : (q : FileRec) → (q.number ≡ r.number → ⊥) → set_one r q ≡ q
  kept q other = cond-false (q.number == r.number) r q (ne_eqb q.number r.number other)

  -- the file of its number is the old one
  old_is : (q : FileRec) → Contains files q → q.number ≡ r.number → q ≡ old
  old_is q there_q same = one_of_key (λ (s : FileRec). s.number) files q old (numbers_apart users files is) there_q there (same ∙ number)

  all_after : (P : FileRec → Type 0) → P r → All P files → All P after
  all_after P mine all = All-map P (set_one r) files (λ k d less. by_case (get_or files k d) (all k d less) (cases_eq (get_or files k d).number r.number))
    where
      by_case : (q : FileRec) → P q → (q.number ≡ r.number) ⊎ (q.number ≡ r.number → ⊥) → P (set_one r q)
      by_case q has (inl same) = subst P (sym (taken q same)) mine
      by_case q has (inr other) = subst P (sym (kept q other)) has

  pairs_after : (R : FileRec → FileRec → Type 0) → ((q : FileRec) → Contains files q → (q.number ≡ r.number → ⊥) → R old q → R r q)
      → ((q : FileRec) → Contains files q → (q.number ≡ r.number → ⊥) → R q old → R q r) → AllPairs R files → AllPairs R after
  pairs_after R front back all = pairs_map R (set_one r) files one
    where
      by_case : (p q : FileRec) → Contains files p → Contains files q → p.number < q.number → R p q → (p.number ≡ r.number) ⊎ (p.number ≡ r.number → ⊥)
          → (q.number ≡ r.number) ⊎ (q.number ≡ r.number → ⊥) → R (set_one r p) (set_one r q)
      by_case p q there_p there_q less has (inl same_p) (inl same_q) = let no : ⊥ = omega (arith, less, same_p, same_q) in absurd no
      by_case p q there_p there_q less has (inl same_p) (inr other_q) =
          subst (λ (s : FileRec). R s (set_one r q)) (sym (taken p same_p))
          (subst (R r) (sym (kept q other_q)) (front q there_q other_q (subst (λ (s : FileRec). R s q) (old_is p there_p same_p) has)))
      by_case p q there_p there_q less has (inr other_p) (inl same_q) =
          subst (λ (s : FileRec). R s (set_one r q)) (sym (kept p other_p))
          (subst (R p) (sym (taken q same_q)) (back p there_p other_p (subst (R p) (old_is q there_q same_q) has)))
      by_case p q there_p there_q less has (inr other_p) (inr other_q) =
          subst (λ (s : FileRec). R s (set_one r q)) (sym (kept p other_p)) (subst (R p) (sym (kept q other_q)) has)

      one : AllPairs (λ p q. R (set_one r p) (set_one r q)) files
      one i j d less inner =
          let first : i < length files = omega (arith, less, inner) in
          by_case (get_or files i d) (get_or files j d) (Contains-get_or files i d first) (Contains-get_or files j d inner) (is.numbers.rising i j d less inner) (all i j d less inner)
          (cases_eq (get_or files i d).number r.number) (cases_eq (get_or files j d).number r.number)

  module _ (owner : r.owner ≡ old.owner) (stamp : r.stamp ≡ old.stamp) (len : r.len ≡ old.len) (tape : r.tape ≡ old.tape) (fits : IsFile r)
      (trapped : All (λ pair. pair.0 < length users) r.traps.others)
      (apart : (q : FileRec) → Contains files q → (q.number ≡ r.number → ⊥) → full_of users r ≡ full_of users q → ⊥) where
    named_same : (p q : FileRec) → SameName p q → full_of users p ≡ full_of users q
    named_same p q same = λ i. let full : Full = record { user = name_of users (same.owner i); local = same.local i; generation = same.generation i; lang = same.lang i } in full

    turned : (p q : FileRec) → SameName p q → SameName q p
    turned p q same = record { owner = sym same.owner; local = sym same.local; generation = sym same.generation; lang = sym same.lang }

    old_of : (P : FileRec → Type 0) → All P files → P old
    old_of P all = All-contains P files old all there

    records_after : IsRecords users after
    records_after =
        let few = is.among_files.few in
        let long = length-map files (set_one r) in
        let below : old.number < 1024 = old_of (λ q. q.number < 1024) is.numbers.below in
        let dated : 1 ≤ old.stamp = old_of (λ q. 1 ≤ q.stamp) is.among_files.dated in
        record {
          each_user = is.each_user;
          among_users = is.among_users;
          each_file = all_after IsFile fits is.each_file;
          numbers = record {
            rising = pairs_after (λ p q. p.number < q.number) (λ q there_q other less. omega (arith, number, less)) (λ q there_q other less. omega (arith, number, less)) is.numbers.rising;
            below = all_after (λ q. q.number < 1024) (omega (arith, below, number)) is.numbers.below;
          };
          among_files = record {
            few = omega (arith, few, long);
            owners = all_after (λ q. q.owner < length users) (subst (λ (n : ℕ). n < length users) (sym owner) (old_of (λ q. q.owner < length users) is.among_files.owners)) is.among_files.owners;
            trapped = all_after (λ q. All (λ pair. pair.0 < length users) q.traps.others) trapped is.among_files.trapped;
            names = pairs_after (λ p q. SameName p q → ⊥) (λ q there_q other were same. apart q there_q other (named_same r q same))
                (λ q there_q other were same. apart q there_q other (named_same r q (turned q r same))) is.among_files.names;
            stamps = pairs_after (λ p q. p.stamp ≢ q.stamp) (λ q there_q other were same. were (sym stamp ∙ same)) (λ q there_q other were same. were (same ∙ stamp)) is.among_files.stamps;
            dated = all_after (λ q. 1 ≤ q.stamp) (omega (arith, dated, stamp)) is.among_files.dated;
            empty = all_after (λ q. q.len ≡ 0 → q.tape ≡ None) (λ none. tape ∙ old_of (λ q. q.len ≡ 0 → q.tape ≡ None) is.among_files.empty (sym len ∙ none)) is.among_files.empty;
          };
        }

    pub records_set : IsRecords users (with_file r files)
    records_set =
        subst (IsRecords users)
        (sym (put-set r files is.numbers.rising (subst (Contains (map (λ (q : FileRec). q.number) files)) (sym number) (mapped_there (λ (q : FileRec). q.number) files old there)))) records_after

-- A RECORD THAT IS SET in the place of the one that a path names
abbrev pub set_file : (users : List UserRec) (files : List FileRec) (who : List ℕ) (path : Path) (old r : FileRec) (full : Full) → IsRecords users files → IsFileNamed users files who path old full
    → r.number ≡ old.number → r.owner ≡ old.owner → r.stamp ≡ old.stamp → r.len ≡ old.len → r.tape ≡ old.tape → IsFile r → All (λ pair. pair.0 < length users) r.traps.others
    → ((q : FileRec) → Contains files q → (q.number ≡ r.number → ⊥) → full_of users r ≡ full_of users q → ⊥) → IsSetFile users files who path r
set_file users files who path old r full is at number owner stamp len tape fits trapped apart = record {
  old = old;
  there = at.there;
  named = λ bytes then_. at.name_is ∙ at.named bytes then_;
  number = number;
  owner = owner;
  stamp = stamp;
  len = len;
  tape = tape;
  rules = records_set users files is r old at.there number owner stamp len tape fits trapped apart;
}

-- AMONG FILES on the disc
chosen_rec : (b : Bool) (r : FileRec) (g : File) → (if b then record g { rec = r } else g).rec ≡ (if b then r else g.rec)
chosen_rec true r g = refl
chosen_rec false r g = refl

recs_one : (r : FileRec) (files : List File) → map (λ (g : File). g.rec) (set_rec r files) ≡ map (set_one r) (map (λ (g : File). g.rec) files)
recs_one r [] = refl
recs_one r (g ∷ gs) = λ i. chosen_rec (g.rec.number == r.number) r g i ∷ recs_one r gs i

all_set : (P : File → Type 0) (r : FileRec) (files : List File) → ((g : File) → Contains files g → g.rec.number ≡ r.number → P g → P (record g { rec = r })) → All P files → All P (set_rec r files)
all_set P r files mine all =
    All-map P (with_rec r) files (λ k d less. by_case (get_or files k d) (Contains-get_or files k d less) (all k d less) (cases_eq (get_or files k d).rec.number r.number))
  where
    by_case : (g : File) → Contains files g → P g → (g.rec.number ≡ r.number) ⊎ (g.rec.number ≡ r.number → ⊥) → P (with_rec r g)
    by_case g there has (inl same) = subst P (sym (cond-true (g.rec.number == r.number) (record g { rec = r }) g (eq-eqb g.rec.number r.number same))) (mine g there same has)
    by_case g there has (inr other) = subst P (sym (cond-false (g.rec.number == r.number) (record g { rec = r }) g (ne_eqb g.rec.number r.number other))) has

file_is : (told pinned : Bool) (r : FileRec) (c : Contents) → changed told pinned (SetFile r) c ≡ committed pinned (record c { files = set_rec r c.files })
unfolding changed
file_is told pinned r c = ap (λ (b : Bool). committed b (record c { files = set_rec r c.files })) (or_false pinned)

copied_too : (a b : Option TapeCopy) (on : Bool) → a ≡ b → (on ≡ true) ⊎ (is_some b ≡ true) → (on ≡ true) ⊎ (is_some a ≡ true)
copied_too a b on same (inl is) = inl is
copied_too a b on same (inr is) = inr (ap is_some same ∙ is)

module _ (o : OnlineFacts) (who : List ℕ) (path : Path) (r : FileRec) (live : o.live ≡ true) (tied : IsTied o) (set : IsSetFile o.contents.users (recs_in o.contents) who path r) where
  abbrev files : List File
  files = o.contents.files

  abbrev recs : List FileRec
  recs = recs_in o.contents

  abbrev with_set : Contents
  with_set = record o.contents { files = set_rec r o.contents.files }

  records : IsRecords o.contents.users recs
  records = (rules_here o live tied).records

  pub found : (f : File) × Contains o.contents.files f × (f.rec ≡ set.old)
  found = from_mapped (λ (g : File). g.rec) o.contents.files set.old set.there

  -- the record of its number
  same_rec : (g : File) → Contains o.contents.files g → g.rec.number ≡ r.number → g.rec ≡ set.old
  same_rec g there same =
      one_of_key (λ (q : FileRec). q.number) recs g.rec set.old (numbers_apart o.contents.users recs records) (mapped_there (λ (h : File). h.rec) o.contents.files g there) set.there (same ∙ set.number)

  anew : All (RecordsAnew r) o.contents.files
  anew k d less same =
      let one = sym (same_rec (get_or o.contents.files k d) (Contains-get_or o.contents.files k d less) same) in
      record { stamp = set.stamp ∙ ap (λ (q : FileRec). q.stamp) one; len = set.len ∙ ap (λ (q : FileRec). q.len) one; tape = set.tape ∙ ap (λ (q : FileRec). q.tape) one }

  owned : All (IsOwnedBy r.number r.owner) o.contents.files
  owned k d less same = ap (λ (q : FileRec). q.owner) (same_rec (get_or o.contents.files k d) (Contains-get_or o.contents.files k d less) same) ∙ sym set.owner

  recs_are : recs_in with_set ≡ with_file r recs
  recs_are =
      recs_one r o.contents.files
      ∙ sym (put-set r recs records.numbers.rising (subst (Contains (map (λ (q : FileRec). q.number) recs)) (sym set.number) (mapped_there (λ (q : FileRec). q.number) recs set.old set.there)))

  lie : All Lies o.contents.files → All Lies (set_rec r o.contents.files)
  lie all = all_set Lies r o.contents.files (λ g there same has.
      let one = same_rec g there same in
      record {
        somewhere = copied_too r.tape g.rec.tape g.online (set.tape ∙ ap (λ (q : FileRec). q.tape) (sym one)) has.somewhere;
        empty = λ none. has.empty (ap (λ (q : FileRec). q.len) one ∙ sym set.len ∙ none);
      }) all

  dated : StampsBelow o.contents.head.next_stamp recs → StampsBelow o.contents.head.next_stamp (map (set_one r) recs)
  dated all = All-map (λ (q : FileRec). q.stamp < o.contents.head.next_stamp) (set_one r) recs (λ k d less. by_case (get_or recs k d) (all k d less) (cases_eq (get_or recs k d).number r.number))
    where
      mine : r.stamp < o.contents.head.next_stamp
      mine = subst (λ (n : ℕ). n < o.contents.head.next_stamp) (sym set.stamp) (All-contains (λ (q : FileRec). q.stamp < o.contents.head.next_stamp) recs set.old all set.there)

      by_case : (q : FileRec) → q.stamp < o.contents.head.next_stamp → (q.number ≡ r.number) ⊎ (q.number ≡ r.number → ⊥) → (set_one r q).stamp < o.contents.head.next_stamp
      by_case q has (inl same) = subst (λ (s : FileRec). s.stamp < o.contents.head.next_stamp) (sym (cond-true (q.number == r.number) r q (eq-eqb q.number r.number same))) mine
      by_case q has (inr other) = subst (λ (s : FileRec). s.stamp < o.contents.head.next_stamp) (sym (cond-false (q.number == r.number) r q (ne_eqb q.number r.number other))) has

  -- THE CHANGE may be made
  pub may_set_file : IsAllowed (SetFile r) o
  may_set_file =
      let was = rules_here o live tied in
      let (f, there, rec) = found in
      record {
        live = live;
        fits = (
          f,
          there,
          record {
            number = ap (λ (q : FileRec). q.number) rec ∙ sym set.number;
            owner = ap (λ (q : FileRec). q.owner) rec ∙ sym set.owner;
            stamp = ap (λ (q : FileRec). q.stamp) rec ∙ sym set.stamp;
            len = ap (λ (q : FileRec). q.len) rec ∙ sym set.len;
            tape = ap (λ (q : FileRec). q.tape) rec ∙ sym set.tape;
          },
        );
        rules = subst KeepsRules (sym (file_is (is_some o.disc.held) (is_some o.pins) r o.contents))
            (committed_rules (is_some o.pins) with_set
            (record {
              head = was.head;
              records = subst (IsRecords o.contents.users) (sym recs_are) set.rules;
              dated = subst (StampsBelow o.contents.head.next_stamp) (sym (recs_one r o.contents.files)) (dated was.dated);
              lie = lie was.lie;
            }));
      }

  -- THE CALL is the step's, if its own part is
  pub record_of : (f : File) → f.rec ≡ set.old → IsRecordOf o f.rec r
  record_of f rec = record {
    number = set.number ∙ ap (λ (q : FileRec). q.number) (sym rec);
    owner = set.owner ∙ ap (λ (q : FileRec). q.owner) (sym rec);
    stamp = set.stamp ∙ ap (λ (q : FileRec). q.stamp) (sym rec);
    len = set.len ∙ ap (λ (q : FileRec). q.len) (sym rec);
    tape = set.tape ∙ ap (λ (q : FileRec). q.tape) (sym rec);
    rules = set.rules;
  }

  pub named_in : (f : File) → f.rec ≡ set.old → (v : View) → full_of o.contents.users f.rec ≡ input_name (held_in v o).tree who path
  named_in f rec v = ap (full_of o.contents.users) rec ∙ set.named (λ q. v.text q.stamp) o.contents.head.next_stamp

  texts_set : (held : Option (List (List ℕ))) (reels : List Reel) (v : View) → All (λ f. HasText (AllTold held reels) (v.text f.rec.stamp) v.dumps f) o.contents.files
      → All (λ f. HasText (AllTold held reels) (v.text f.rec.stamp) v.dumps f) (set_rec r o.contents.files)
  texts_set held reels v are =
      all_set (λ (g : File). HasText (AllTold held reels) (v.text g.rec.stamp) v.dumps g) r o.contents.files
      (λ g there same has.
      let one = sym (same_rec g there same) in
      let stamp : r.stamp ≡ g.rec.stamp = set.stamp ∙ ap (λ (q : FileRec). q.stamp) one in
      let len : r.len ≡ g.rec.len = set.len ∙ ap (λ (q : FileRec). q.len) one in
      let tape : r.tape ≡ g.rec.tape = set.tape ∙ ap (λ (q : FileRec). q.tape) one in
      subst (λ (n : ℕ). HasText (AllTold held reels) (v.text n) v.dumps (record g { rec = r })) (sym stamp)
      (record {
        len = has.len ∙ sym len;
        bytes = has.bytes;
        tape = λ told off. subst (λ (t : Option TapeCopy). IfSome t (λ c. IsContent v.dumps c (v.text g.rec.stamp))) (sym tape) (has.tape told off);
      }))
      are

  marked_open : (dump : Option DumpFacts) (touched numbers : List ℕ) → IfSome dump (λ d. touched ≡ marked (r.owner ∷ []) numbers) → IfSome dump (λ d. holds touched r.owner ≡ true)
  marked_open None touched numbers is = tt
  marked_open (Some d) touched numbers is = ap (λ (l : List ℕ). holds l r.owner) is ∙ has_first r.owner [] numbers

  pub sets : (call : StoreCall) (reply : StoreReply) → writes call ≡ true → ((u : State) (k : Holding) → is_offline u k who call ≡ false) → ((u : State) (k : Holding) → need u k who call ≡ 0)
      → RefusesAs o.contents.users (recs_in o.contents) o.contents.head.next_stamp who call None → RepliesAs o.contents.users (recs_in o.contents) o.contents.head.next_stamp who call reply
      → ((v : View) (reels : List Reel) (new : OnlineFacts) (dump : Option DumpFacts) → IsKnown o dump → fault_of (held_in v o).tree who call ≡ None
      → IsUnjam (state_up v reels o dump) (held_in v o) who call 0 → IsBehind o (record o.contents { files = set_rec r o.contents.files }) (r.owner ∷ []) new
      → state_up v reels new dump ≡ after_call (state_up v reels o dump) (held_in v o) who call 0)
      → IsRecorded o who call (SetFile r) (record o.contents { files = set_rec r o.contents.files }) (r.owner ∷ []) reply
  sets call reply write off none granted replied goes = record {
    live = live;
    records = records;
    changes = λ told pinned. file_is told pinned r o.contents;
    alone = refl;
    no_blocks = refl;
    touched = refl;
    write = write;
    off = off;
    none = none;
    head = refl;
    granted = granted;
    replied = replied;
    goes = goes;
    texts = texts_set;
    up = λ text shelf s changed touched is changed_is touched_is was.
        let mine : changed ≡ marked (r.owner ∷ []) s.online.changed = changed_is ∙ ap (λ (x : OnlineFacts). marked (r.owner ∷ []) x.changed) (sym is) in
        let open_mine : IfSome s.dump (λ d. touched ≡ marked (r.owner ∷ []) s.online.touched) =
        subst (λ (x : OnlineFacts). IfSome s.dump (λ d. touched ≡ marked (r.owner ∷ []) x.touched)) (sym is) touched_is in
        let are : AreMarked s r.owner changed touched = record {
          grow = only_grow s (r.owner ∷ []) changed touched mine open_mine;
          has = ap (λ (l : List ℕ). holds l r.owner) mine ∙ has_first r.owner [] s.online.changed;
          has_open = marked_open s.dump touched s.online.touched open_mine;
        } in
        subst (λ (x : OnlineFacts). IsUp text shelf (behind s (record x.contents { files = set_rec r x.contents.files }) changed touched)) is
        (stays_up.recorded text shelf s r changed touched (subst (λ (x : OnlineFacts). All (RecordsAnew r) x.contents.files) (sym is) anew)
        (subst (λ (x : OnlineFacts). All (IsOwnedBy r.number r.owner) x.contents.files) (sym is) owned) are was);
    belongs = λ text shelf reels was. files_belong.recorded text shelf reels o.contents r anew was;
  }
