-- What the bytes of a copy are where disc and rack belong together, and that it isn't lost then.
-- serves: BackLemmas, KeepsLemmas, crates above
use Rattle.std.proofs.Common.{◌≡◌, ℕ, ◌-◌, true, false, List, length, Option, Some, None, is_some, refl, sym, ◌∙◌, ap, subst}
use Rattle.std.specs.Prelude.{Contains, IfSome}
use Rattle.std.proofs.lemmas.List.Elements.{All-contains}
use Rattle.g_name.specs.declared.full.Full.{Full}
use Rattle.g_entry.specs.declared.file_rec.TapeCopy.{TapeCopy}
use Rattle.g_tape.specs.Rack.{Rack, is_mounted, reel}
use Rattle.g_tape.specs.Reads.{blocks_in, blocks_of, unread}
use Rattle.g_tape.specs.Reel.{Reel}
use Rattle.g_tape.proofs.PlaceLemmas.{reel-found}
use Rattle.g_tree.specs.Records.{full_of}
use Rattle.g_disc_contents.specs.Contents.{File}
use Rattle.g_disc_contents.specs.Facts.{OnlineFacts}
use Rattle.g_incr.specs.Layout.{Dump}
use Rattle.g_shelf.specs.CompletedDumps.{AreCompleted, AreShelved, all_dumps}
use Rattle.g_store_meaning.specs.Answers.{Belongs, IsLostCopy, Told}
use Rattle.g_store_meaning.specs.Belonging.{KeepsFile}
use Rattle.g_store_meaning.specs.Meaning.{IsContent, told_reels}
use Rattle.g_store_meaning.specs.Reading.{ReelsTold}
use Rattle.g_store_meaning.specs.StoreInvariant.{IsUp, StoreFacts}
use Rattle.g_store_meaning.proofs.OneLemmas.{are_right, is_shelved, on_reel, one_content}
use Rattle.g_laws_store.proofs.UpOneLemmas.{on_all}
use Rattle.g_laws_store.proofs.WaitingLemmas.{mapped_there}
use Rattle.g_retrieve.specs.Retrieval.{HasCopied, IsOnTape, IsNowhere}
use Rattle.g_retrieve.specs.Invariant.{HasLostCopy, IsOver}

-- the shelf has its completed dumps, if it exposes its contents
pub shelf_of : (shelf : ℕ → List Dump) (s : ℕ) (rack : Rack) (blocks : List (List ℕ)) → AreShelved shelf (told_reels rack) → blocks_of s rack ≡ Some blocks → AreCompleted s blocks (shelf s)
shelf_of shelf s rack blocks shelved told = by_reel (reel s rack.reels) refl
  where
    by_reel : (o : Option Reel) → reel s rack.reels ≡ o → AreCompleted s blocks (shelf s)
    by_reel None none = let wrong : None ≡ Some blocks = sym (ap blocks_in none) ∙ told in (let no : ⊥ = cc in absurd no)
    by_reel (Some q) some =
        let (there, at) = reel-found s rack.reels q some in
        let tells : q.blocks ≡ Some blocks = sym (ap blocks_in some) ∙ told in
        subst (λ (n : ℕ). AreCompleted n blocks (shelf n)) at (shelved.each (unread q) (mapped_there unread rack.reels q there) blocks tells)

-- a mounted reel exposes its contents, if all do, and its dumps are among all dumps
record TellsReel (shelf : ℕ → List Dump) (s : ℕ) (rack : Rack) : Type 0 where
  blocks : List (List ℕ)
  told : blocks_of s rack ≡ Some blocks
  on : (d : Dump) → Contains (shelf s) d → Contains (all_dumps shelf (told_reels rack)) d

tells_reel : (shelf : ℕ → List Dump) (s : ℕ) (rack : Rack) → ReelsTold (told_reels rack) → is_mounted (reel s rack.reels) ≡ true → TellsReel shelf s rack
tells_reel shelf s rack all mounted = by_reel (reel s rack.reels) refl mounted
  where
    by_blocks : (q : Reel) → reel s rack.reels ≡ Some q → (b : Option (List (List ℕ))) → q.blocks ≡ b → is_some b ≡ true → TellsReel shelf s rack
    by_blocks q some None none is = let no : ⊥ = cc in absurd no
    by_blocks q some (Some blocks) tells is =
        let (there, at) = reel-found s rack.reels q some in
        record {
          blocks = blocks;
          told = ap blocks_in some ∙ tells;
          on = λ d inside. on_all shelf (told_reels rack) (unread q) d (mapped_there unread rack.reels q there) (subst (λ (n : ℕ). Contains (shelf n) d) (sym at) inside);
        }

    by_reel : (o : Option Reel) → reel s rack.reels ≡ o → is_mounted o ≡ true → TellsReel shelf s rack
    by_reel None none is = let no : ⊥ = cc in absurd no
    by_reel (Some q) some is =
        let (there, at) = reel-found s rack.reels q some in
        by_blocks q some q.blocks refl (All-contains (λ (r : Reel). is_some r.blocks ≡ true) (told_reels rack) (unread q) all.each (mapped_there unread rack.reels q there))

-- CONTENT of all dumps is that of the dumps of its reel
content_on : (shelf : ℕ → List Dump) (reels : List Reel) (c : TapeCopy) (t : List ℕ) → ReelsTold reels → AreShelved shelf reels → IsContent (all_dumps shelf reels) c t → IsContent (shelf c.serial) c t
content_on shelf reels c t told shelved is =
    let on = on_reel shelf reels is.dump is.there in
    let (serial, rules) = is_shelved shelf reels told shelved is.dump on.reel on.there on.on in
    record {
      dump = is.dump;
      there = subst (λ (n : ℕ). Contains (shelf n) is.dump) (sym serial ∙ is.reel) on.on;
      reel = is.reel;
      from = is.from;
      to = is.to;
      text_is = is.text_is;
    }

content_in : (old new : List Dump) (c : TapeCopy) (t : List ℕ) → ((d : Dump) → Contains old d → Contains new d) → IsContent old c t → IsContent new c t
content_in old new c t more is = record { dump = is.dump; there = more is.dump is.there; reel = is.reel; from = is.from; to = is.to; text_is = is.text_is }

-- THE BYTES THAT WERE READ are the text that disc and tape know
pub copied_one : (shelf : ℕ → List Dump) (c : TapeCopy) (len : ℕ) (t bytes : List ℕ) (before after : Rack) → ReelsTold (told_reels before) → AreShelved shelf (told_reels before)
    → IsContent (all_dumps shelf (told_reels before)) c t → length t ≡ len → HasCopied c len bytes before after → bytes ≡ t
copied_one shelf c len t bytes before after told shelved is long copied =
    let reels : List Reel = told_reels before in
    let tells = tells_reel shelf c.serial before told copied.mounted in
    let here : IsContent (shelf c.serial) c bytes = copied.content tells.blocks tells.told (shelf c.serial) (shelf_of shelf c.serial before tells.blocks shelved tells.told) in
    one_content (all_dumps shelf reels) (are_right shelf reels told shelved) c bytes t (copied.long ∙ sym long)
    (content_in (shelf c.serial) (all_dumps shelf reels) c bytes tells.on here) is

-- a lost copy, as a store reports it
pub lost_copy : (s : StoreFacts) (f : File) (c : TapeCopy) → Contains s.online.contents.files f → f.online ≡ false → f.rec.tape ≡ Some c → IsNowhere c f.rec.len s.rack
    → IsLostCopy s (full_of s.online.contents.users f.rec) c.serial
lost_copy s f c there offline copy nowhere =
    (f, there, refl, offline, c.first, copy, λ shelf text shelved blocks told long is. nowhere.none blocks told (shelf c.serial) (shelf_of shelf c.serial s.rack blocks shelved told) text long is)

-- and never where the text of its version is content
never_lost : (shelf : ℕ → List Dump) (c : TapeCopy) (len : ℕ) (t : List ℕ) (rack : Rack) → ReelsTold (told_reels rack) → AreShelved shelf (told_reels rack)
    → IsContent (all_dumps shelf (told_reels rack)) c t → length t ≡ len → IsNowhere c len rack → ⊥
never_lost shelf c len t rack told shelved is long nowhere =
    let tells = tells_reel shelf c.serial rack told nowhere.mounted in
    nowhere.none tells.blocks tells.told (shelf c.serial) (shelf_of shelf c.serial rack tells.blocks shelved tells.told) t long (content_on shelf (told_reels rack) c t told shelved is)

-- the text of a version that a store knows
copy_text : (text : List ℕ) (dumps : List Dump) (f : File) (c : TapeCopy) → KeepsFile text dumps f → f.rec.tape ≡ Some c → IsContent dumps c text
copy_text text dumps f c keeps copy = subst (λ (o : Option TapeCopy). IfSome o (λ k. IsContent dumps k text)) copy keeps.rec.copy

pub text_is : (text : ℕ → List ℕ) (shelf : ℕ → List Dump) (s : StoreFacts) (f : File) (c : TapeCopy) → IsUp text shelf s → Contains s.online.contents.files f → f.rec.tape ≡ Some c
    → IsContent (all_dumps shelf (told_reels s.rack)) c (text f.rec.stamp) × (length (text f.rec.stamp) ≡ f.rec.len)
text_is text shelf s f c up there copy =
    let dumps : List Dump = all_dumps shelf (told_reels s.rack) in
    let keeps = All-contains (λ (g : File). KeepsFile (text g.rec.stamp) dumps g) s.online.contents.files f up.disc.files there in
    (copy_text (text f.rec.stamp) dumps f c keeps copy, keeps.rec.len)

belongs_not_lost : (s : StoreFacts) (f : File) (c : TapeCopy) → s.spent ≡ false → Told s → Belongs s → Contains s.online.contents.files f → f.rec.tape ≡ Some c → IsNowhere c f.rec.len s.rack → ⊥
belongs_not_lost s f c unspent told belongs there copy nowhere =
    let (text, shelf, shelved, up) = belongs.up unspent in
    let (is, long) = text_is text shelf s f c up there copy in
    never_lost shelf c f.rec.len (text f.rec.stamp) s.rack told.each shelved is long nowhere

-- the copy of a file that was searched for
pub is_lost : (number : ℕ) (o : OnlineFacts) (rack : Rack) (f : File) (c : TapeCopy) (name : Full) (serial : ℕ) → IsOnTape number o f c → name ≡ full_of o.contents.users f.rec → serial ≡ c.serial
    → IsNowhere c f.rec.len rack → HasLostCopy f c name serial o rack
is_lost number o rack f c name serial away named on nowhere = record {
  name_is = named;
  serial_is = on;
  nowhere = nowhere;
  copy = λ s over.
      let here = in_store s over in
      let lost = lost_copy s f c here.there here.offline here.copy (subst (IsNowhere c f.rec.len) (sym over.rack_is) nowhere) in
      subst (λ (n : ℕ). IsLostCopy s name n) (sym on)
      (subst (λ (n : Full). IsLostCopy s n c.serial) (ap (λ (p : OnlineFacts). full_of p.contents.users f.rec) over.online_is ∙ sym named) lost);
  never = λ s over told belongs.
      let here = in_store s over in
      belongs_not_lost s f c over.unspent told belongs here.there here.copy (subst (IsNowhere c f.rec.len) (sym over.rack_is) nowhere);
}
  where
    in_store : (s : StoreFacts) → IsOver o rack s → IsOnTape number s.online f c
    in_store s over = subst (λ (p : OnlineFacts). IsOnTape number p f c) (sym over.online_is) away
