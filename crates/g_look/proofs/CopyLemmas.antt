-- The bytes read at a copy on tape are those that the completed dumps of the rack hold there.
-- serves: copy_text (bytes, lost), file_bytes (bytes), taped_text (lost)
use Rattle.std.proofs.Common.{◌≡◌, ℕ, ◌<◌, true, List, length, Option, Some, None, Result, Ok, Err, IfOk, refl, sym, ◌∙◌, ap, subst}
use Rattle.std.specs.Prelude.{Contains, is_some}
use Rattle.std.specs.Option.{ForSome}
use Rattle.std.proofs.lemmas.List.Elements.{All-contains, All-map}
use Rattle.g_copy.specs.Copy.{bytes_at}
use Rattle.g_copy.specs.declared.copy.DiscCopy.{DiscCopy}
use Rattle.g_entry.specs.declared.file_rec.FileRec.{FileRec}
use Rattle.g_entry.specs.declared.file_rec.TapeCopy.{TapeCopy}
use Rattle.g_tape.specs.declared.fault.TapeFault.TheVariants as tape
use Rattle.g_tape.specs.Rack.{AreReels, Rack, reel, refuses_unmount, told_of}
use Rattle.g_tape.specs.Reads.{blocks_of, unread}
use Rattle.g_tape.specs.Reel.{Reel}
use Rattle.g_incr.specs.Layout.{Dump}
use Rattle.g_shelf.specs.CompletedDumps.{AreCompleted, all_dumps}
use Rattle.g_store_meaning.specs.Meaning.{IsContent, told_reels}
use Rattle.g_store_meaning.proofs.OneLemmas.{is_shelved, on_reel}
use Rattle.g_laws_store.proofs.UpOneLemmas.{on_all}
use Rattle.g_look.specs.declared.fault.LookFault.{LookFault}
use Rattle.g_look.specs.Copies.{AreBytesAt, IsHeldAt, IsHeldBy, IsHeldNowhere}
use Rattle.g_look.specs.Looks.{AreMounted, OfDumps}
use Rattle.g_look.specs.ShownBytes.{IsNowhere}
use Rattle.g_look.specs.Texts.{IsDiscText}
use Rattle.g_look.proofs.CompareLemmas.{not_unmounted}
use Rattle.g_look.proofs.HeadLemmas.{blocks_there, is_reel, no_reel, told_blocks, isnt_there}
use Rattle.g_look.proofs.SeenLemmas.{told_apart}

-- a reel that can be read is in the rack
mounted_reel : (rack : Rack) (s : ℕ) → refuses_unmount (reel s rack.reels) ≡ None → (r : Reel) × Contains (told_reels rack) r × (r.serial ≡ s)
mounted_reel rack s free = by_reel (reel s rack.reels) refl free
  where
    by_reel : (o : Option Reel) → reel s rack.reels ≡ o → refuses_unmount o ≡ None → (r : Reel) × Contains (told_reels rack) r × (r.serial ≡ s)
    by_reel None is wrong = absurd (let no : ⊥ = cc in no)
    by_reel (Some q) is none = is_reel rack s q.len (sym (ap (told_of (λ r. r.len)) is))

-- content of a reel's dumps is content of all
content_in : (old new : List Dump) (c : TapeCopy) (t : List ℕ) → ((d : Dump) → Contains old d → Contains new d) → IsContent old c t → IsContent new c t
content_in old new c t more is = record { dump = is.dump; there = more is.dump is.there; reel = is.reel; from = is.from; to = is.to; text_is = is.text_is }

-- WHAT WAS READ
pub held_at : (rack : Rack) (copy : TapeCopy) (len : ℕ) (text : List ℕ) → AreReels rack.reels → refuses_unmount (reel copy.serial rack.reels) ≡ None → length text ≡ len
    → ForSome (blocks_of copy.serial rack) (λ blocks. (dumps : List Dump) → AreCompleted copy.serial blocks dumps → 0 < len → IsContent dumps copy text)
    → OfDumps rack (λ dumps. IsHeldAt dumps copy len text)
held_at rack copy len text are free long some told shelf shelved =
    let (r, there, on) = mounted_reel rack copy.serial free in
    let (bs, tells) = told_blocks r.blocks (All-contains (λ (q : Reel). is_some q.blocks ≡ true) (told_reels rack) r told.each there) in
    let blocks : blocks_of copy.serial rack ≡ Some bs = blocks_there rack copy.serial r (told_apart rack are) there on ∙ tells in
    let completed : AreCompleted copy.serial bs (shelf copy.serial) = subst (λ (n : ℕ). AreCompleted n bs (shelf n)) on (shelved.each r there bs tells) in
    record {
      long = long;
      content = λ filled.
          content_in (shelf copy.serial) (all_dumps shelf (told_reels rack)) copy text
          (λ d inside. on_all shelf (told_reels rack) r d there (subst (λ (n : ℕ). Contains (shelf n) d) (sym on) inside))
          (some bs blocks (shelf copy.serial) completed filled);
    }

-- OR NOTHING IS HELD THERE
pub held_nowhere : (rack : Rack) (copy : TapeCopy) (len : ℕ) → AreReels rack.reels
    → ForSome (blocks_of copy.serial rack) (λ blocks. (dumps : List Dump) → AreCompleted copy.serial blocks dumps → (text : List ℕ) → length text ≡ len → IsContent dumps copy text → ⊥)
    → OfDumps rack (λ dumps. IsHeldNowhere dumps copy len)
held_nowhere rack copy len are none told shelf shelved text long is =
    let reels : List Reel = told_reels rack in
    let on = on_reel shelf reels is.dump is.there in
    let same : on.reel.serial ≡ copy.serial = sym (is_shelved shelf reels told shelved is.dump on.reel on.there on.on).0 ∙ is.reel in
    let (bs, tells) = told_blocks on.reel.blocks (All-contains (λ (q : Reel). is_some q.blocks ≡ true) reels on.reel told.each on.there) in
    let completed : AreCompleted copy.serial bs (shelf copy.serial) = subst (λ (n : ℕ). AreCompleted n bs (shelf n)) same (shelved.each on.reel on.there bs tells) in
    none bs (blocks_there rack copy.serial on.reel (told_apart rack are) on.there same ∙ tells) (shelf copy.serial) completed text long
    (record { dump = is.dump; there = subst (λ (n : ℕ). Contains (shelf n) is.dump) same on.on; reel = is.reel; from = is.from; to = is.to; text_is = is.text_is })

-- the reel isn't in the rack
pub no_tape : (rack : Rack) (copy : TapeCopy) (len : ℕ) → refuses_unmount (reel copy.serial rack.reels) ≡ Some tape.NoTape → OfDumps rack (λ dumps. IsHeldNowhere dumps copy len)
no_tape rack copy len refuses told shelf shelved text long is =
    let reels : List Reel = told_reels rack in
    let on = on_reel shelf reels is.dump is.there in
    let same : on.reel.serial ≡ copy.serial = sym (is_shelved shelf reels told shelved is.dump on.reel on.there on.on).0 ∙ is.reel in
    no_reel rack copy.serial tape.NoTape (isnt_there (reel copy.serial rack.reels) refuses) on.reel on.there same

-- every mounted reel is in the rack
pub not_mounted : (rack : Rack) (copy : TapeCopy) (len : ℕ) → refuses_unmount (reel copy.serial rack.reels) ≡ Some tape.NotMounted → AreMounted rack → OfDumps rack (λ dumps. IsHeldNowhere dumps copy len)
not_mounted rack copy len refuses mounted =
    not_unmounted rack copy.serial (All-map (λ (r : Reel). r.mounted ≡ true) unread rack.reels (λ k d within. mounted k d within)) refuses

-- FOR A FILE: its copy, if it has one
same_copy : (a b : TapeCopy) → Some a ≡ Some b → a ≡ b
same_copy a b is = cc

pub nowhere_at : (rack : Rack) (r : FileRec) (copy : TapeCopy) (len : ℕ) → r.tape ≡ Some copy → len ≡ r.len → OfDumps rack (λ dumps. IsHeldNowhere dumps copy len) → OfDumps rack (λ dumps. IsNowhere dumps r)
nowhere_at rack r copy len at is_len none told shelf shelved other is text long content =
    none told shelf shelved text (long ∙ sym is_len) (subst (λ (c : TapeCopy). IsContent (all_dumps shelf (told_reels rack)) c text) (same_copy other copy (sym is ∙ at)) content)

-- FOR A FILE WITH ITS COPY ON THE DISC
pub disc_bytes : (held : Option (List (List ℕ))) (rack : Rack) (r : FileRec) (o : Option DiscCopy) (text : List ℕ) → IsDiscText held o (Some text) → (c : DiscCopy) × (o ≡ Some c) × (length text ≡ c.len) → AreBytesAt held rack r o text
disc_bytes held rack r None text is (c, none, long) = let no : ⊥ = cc in absurd no
disc_bytes held rack r (Some copy) text is some = λ blocks told. same_bytes text (bytes_at copy.blocks copy.len blocks) (is blocks told)
  where
    same_bytes : (x y : List ℕ) → Some x ≡ Some y → x ≡ y
    same_bytes x y same = cc

pub taped_bytes : (held : Option (List (List ℕ))) (rack : Rack) (r : FileRec) (o : Option DiscCopy) (result : Result (List ℕ) LookFault) → o ≡ None → IfOk result (λ text. OfDumps rack (λ dumps. IsHeldBy dumps r text))
    → IfOk result (AreBytesAt held rack r o)
taped_bytes held rack r o (Err e) none is = tt
taped_bytes held rack r o (Ok text) none is = subst (λ (q : Option DiscCopy). AreBytesAt held rack r q text) (sym none) is
