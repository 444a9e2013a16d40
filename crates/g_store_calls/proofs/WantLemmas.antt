-- The file that a call reads, as the state of a store has it: where its bytes lie, how many they are, and whether its reel is mounted.
-- serves: AppendCallLemmas, AppendLemmas, AppendedLemmas, BroughtLemmas, FetchLemmas, HereLemmas, TapeLemmas
use Rattle.std.proofs.Common.{◌≡◌, ℕ, true, List, length, map, Option, Some, None, unwrap_or, refl, sym, ◌∙◌, ap}
use Rattle.std.specs.Prelude.{◌==◌, Contains, not}
use Rattle.std.specs.Option.{option_map}
use Rattle.g_base.proofs.KeyLemmas.{find-map}
use Rattle.g_name.specs.declared.full.Full.{Full}
use Rattle.g_entry.specs.declared.file_rec.FileRec.{FileRec}
use Rattle.g_entry.specs.declared.file_rec.TapeCopy.{TapeCopy}
use Rattle.g_tape.specs.Rack.{Rack, is_mounted as is_on, reel}
use Rattle.g_tape.specs.Reads.{unread}
use Rattle.g_tape.specs.Reel.{Reel}
use Rattle.g_tape.proofs.ReadLemmas.{reel-unread}
use Rattle.g_plain.specs.declared.calls.StoreCall.{StoreCall}
use Rattle.g_plain.specs.PlainStep.{fault_of}
use Rattle.g_plain.specs.PlainTree.{FileRow, file_row}
use Rattle.g_tree.specs.Records.{ForTree, IsRecords, file_row_of, full_of}
use Rattle.g_tree.proofs.RightLemmas.{row_is}
use Rattle.g_disc_contents.specs.Contents.{File, recs_in}
use Rattle.g_disc_contents.specs.Facts.{OnlineFacts}
use Rattle.g_incr.specs.Layout.{Dump}
use Rattle.g_store_model.specs.State.{Holding, Place, ReelRow, State, is_mounted, mounted_in, place_at, reel_at}
use Rattle.g_store_model.specs.CallStep.{copy_serial, is_offline, len_of, place_of, reel_of, stamp_of, version_read}
use Rattle.g_store_meaning.specs.Meaning.{told_reels}
use Rattle.g_store_meaning.specs.Reading.{AllTold, IsView, View, place_of as place_by, row_of, state_up}
use Rattle.g_store_meaning.specs.StoreInvariant.{DumpFacts}
use Rattle.g_laws_store.specs.Rooms.{held_in}
use Rattle.g_laws_store.proofs.PlaceLemmas.{place_found}
use Rattle.g_laws_store.proofs.RoomLemmas.{files_apart}
use Rattle.g_laws_store.proofs.WaitingLemmas.{mapped_there}
use Rattle.g_store_calls.specs.Replies.{RefusesAs}
use Rattle.g_store_calls.proofs.CalmLemmas.{texts_fit}

-- the call is granted and reads this file
pub record Wants (o : OnlineFacts) (who : List ℕ) (call : StoreCall) (f : File) : Type 0 where
  pub there : Contains o.contents.files f
  pub granted : RefusesAs o.contents.users (recs_in o.contents) o.contents.head.next_stamp who call None
  pub reads : ForTree o.contents.users (recs_in o.contents) (λ t. version_read t who call ≡ Some (full_of o.contents.users f.rec))

-- A REEL is mounted in the state if it is in the rack
row_found : (shelf : ℕ → List Dump) (n : ℕ) (reels : List Reel) → reel_at n (map (row_of shelf) reels) ≡ option_map (row_of shelf) (reel n reels)
row_found shelf n reels = find-map (λ (r : ReelRow). n == r.serial) (λ (r : Reel). n == r.serial) (row_of shelf) (λ r. refl) reels

row_mounted : (shelf : ℕ → List Dump) (r : Option Reel) → mounted_in (option_map (row_of shelf) (option_map unread r)) ≡ is_on r
row_mounted shelf None = refl
row_mounted shelf (Some r) = refl

pub mounted_by : (shelf : ℕ → List Dump) (n : ℕ) (rack : Rack) → mounted_in (reel_at n (map (row_of shelf) (told_reels rack))) ≡ is_on (reel n rack.reels)
mounted_by shelf n rack =
    ap mounted_in (row_found shelf n (told_reels rack)) ∙ ap (λ (r : Option Reel). mounted_in (option_map (row_of shelf) r)) (reel-unread n rack.reels)
    ∙ row_mounted shelf (reel n rack.reels)

-- IN THE STATE of a view
module _ (v : View) (reels : List Reel) (o : OnlineFacts) (dump : Option DumpFacts) (who : List ℕ) (call : StoreCall) (f : File) (records : IsRecords o.contents.users (recs_in o.contents))
    (wants : Wants o who call f) where
  abbrev u : State
  u = state_up v reels o dump

  abbrev k : Holding
  k = held_in v o

  abbrev full : Full
  full = full_of o.contents.users f.rec

  pub reads_is : version_read k.tree who call ≡ Some full
  reads_is = wants.reads (λ (r : FileRec). v.text r.stamp) o.contents.head.next_stamp

  pub row_in : file_row k.tree full ≡ file_row_of o.contents.users (λ (r : FileRec). v.text r.stamp) f.rec
  row_in =
      row_is o.contents.users (recs_in o.contents) records (λ (r : FileRec). v.text r.stamp) o.contents.head.next_stamp f.rec
      (mapped_there (λ (g : File). g.rec) o.contents.files f wants.there)

  pub stamp_in : stamp_of k.tree full ≡ f.rec.stamp
  stamp_in = ap (λ (row : FileRow). row.stamp) row_in

  pub place_in : place_of u k who call (version_read k.tree who call) ≡ place_by f
  place_in =
      ap (λ (x : Option Full). place_of u k who call x) reads_is ∙ ap (λ (n : ℕ). place_at k.places n) stamp_in
      ∙ ap (λ (p : Option Place). unwrap_or p (record { online = true; copy = None }))
      (place_found o.contents.files f (files_apart o.contents.files records.among_files.stamps) wants.there)

  pub offline_in : is_offline u k who call ≡ not f.online
  offline_in = ap (λ (p : Place). not p.online) place_in

  pub reel_in : (c : TapeCopy) → f.rec.tape ≡ Some c → reel_of u k who call ≡ c.serial
  reel_in c copy = ap (λ (p : Place). copy_serial u k who call p.copy) place_in ∙ ap (λ (x : Option TapeCopy). copy_serial u k who call x) copy

  pub len_in : length (v.text f.rec.stamp) ≡ f.rec.len → len_of u k who call (version_read k.tree who call) ≡ f.rec.len
  len_in long = ap (λ (x : Option Full). len_of u k who call x) reads_is ∙ ap (λ (row : FileRow). length row.bytes) row_in ∙ long

  pub granted_in : IsView o.disc.held reels o.contents v → fault_of k.tree who call ≡ None
  granted_in right = sym (wants.granted (λ (r : FileRec). v.text r.stamp) (texts_fit (AllTold o.disc.held reels) v o.contents right.files))

-- its reel is mounted in the state if it is in the rack
pub mounted_in_state : (v : View) (rack : Rack) (o : OnlineFacts) (dump : Option DumpFacts) (who : List ℕ) (call : StoreCall) (f : File) (c : TapeCopy)
    → IsRecords o.contents.users (recs_in o.contents) → Wants o who call f → f.rec.tape ≡ Some c
    → is_mounted (state_up v (told_reels rack) o dump) (reel_of (state_up v (told_reels rack) o dump) (held_in v o) who call) ≡ is_on (reel c.serial rack.reels)
mounted_in_state v rack o dump who call f c records wants copy =
    ap (λ (n : ℕ). is_mounted (state_up v (told_reels rack) o dump) n) (reel_in v (told_reels rack) o dump who call f records wants c copy) ∙ mounted_by v.shelf c.serial rack
