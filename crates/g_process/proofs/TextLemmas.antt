-- The blocks that were read have the texts of the versions, where disc and rack belong together.
-- serves: ExitLemmas, crates above
use Rattle.std.proofs.Common.{◌≡◌, ℕ, zero, suc, ◌+◌, ◌-◌, ◌<◌, Bool, true, false, List, [], ◌∷◌, drop, length, map, Option, Some, None, refl, sym, ◌∙◌, ap, arith, subst, slice_get, get_or}
use Rattle.std.specs.Prelude.{All, Contains, IfSome, is_some}
use Rattle.std.specs.Option.{ForSome, option_map}
use Rattle.std.proofs.lemmas.List.Elements.{All-contains, Contains-get_or}
use Rattle.std.proofs.lemmas.Option.{same_Some}
use Rattle.g_base.specs.Block.{IsBlock, blocks_for}
use Rattle.g_copy.specs.Copy.{bytes_at}
use Rattle.g_entry.specs.declared.file_rec.FileRec.{FileRec}
use Rattle.g_entry.specs.declared.file_rec.TapeCopy.{TapeCopy}
use Rattle.g_tape.specs.Rack.{Rack, reel}
use Rattle.g_tape.specs.Reads.{blocks_in, blocks_of, unread}
use Rattle.g_tape.specs.Reel.{Reel}
use Rattle.g_dirs.specs.Directory.{FileEntry}
use Rattle.g_disc_contents.specs.Contents.{Contents, File, file_of}
use Rattle.g_disc_contents.specs.Facts.{IsTied, OnlineFacts}
use Rattle.g_disc_contents.specs.Parts.{IsPart}
use Rattle.g_disc_contents.proofs.PartLemmas.{joined_are_parts}
use Rattle.g_incr.specs.Layout.{Dump, StandsOn, content_at, dump_blocks, ends, size_of}
use Rattle.g_incr.proofs.ListLemmas.{get_drop, get_some}
use Rattle.g_shelf.specs.CompletedDumps.{AreNext, AreShelved, all_dumps}
use Rattle.g_store_meaning.specs.Meaning.{IsContent, told_reels}
use Rattle.g_store_meaning.specs.Belonging.{KeepsFile}
use Rattle.g_store_meaning.specs.Reading.{ReelsTold}
use Rattle.g_store_meaning.proofs.OneLemmas.{on_reel}
use Rattle.g_dumper.proofs.BeginLemmas.{reel_named}
use Rattle.g_dumper.proofs.ShelfLemmas.{reel_there, told_is}
use Rattle.g_dumper.proofs.NextLemmas.{at_content}
use Rattle.g_process.specs.Progress.{IsReadable, IsSource}
use Rattle.g_process.proofs.DumpLemmas.{from_drop, get_below}

-- a completed dump lies on its reel
pub record IsThere (serial : ℕ) (blocks : List (List ℕ)) (d : Dump) : Type 0 where
  pub on : d.serial ≡ serial
  pub stands : StandsOn blocks d

pub among : (serial : ℕ) (blocks : List (List ℕ)) (at from : ℕ) (ds : List Dump) → AreNext serial blocks at from ds → (d : Dump) → Contains ds d → IsThere serial blocks d
among serial blocks at from [] are d (i, inside, is) = absurd (let no : ⊥ = omega (arith, inside) in no)
among serial blocks at from (e ∷ es) (one, more) d (zero, inside, is) = subst (IsThere serial blocks) is (record { on = one.on; stands = one.stands })
among serial blocks at from (e ∷ es) (one, more) d (suc i, inside, is) = among serial blocks (ends e) (e.number + 1) es more d (i, omega (arith, inside), is)

-- a file that is on the disc has bytes, if the disc exposes them
pub bytes_told : (o : OnlineFacts) → o.live ≡ true → IsTied o → is_some o.disc.held ≡ true → (f : File) → Contains o.contents.files f → f.online ≡ true → (t : List ℕ) × (f.bytes ≡ Some t)
bytes_told o live tied told f there on =
    let (blocks, held) = told_is o.disc.held told in
    in_entries blocks held o.layout.directory.files (subst (λ (c : Contents). Contains c.files f) (tied.contents live) there)
  where
    by_entry : (blocks : List (List ℕ)) → o.disc.held ≡ Some blocks → (e : FileEntry) → file_of o.disc.held e ≡ f → (t : List ℕ) × (f.bytes ≡ Some t)
    by_entry blocks held (rec, None) same = absurd (let off : f.online ≡ false = ap (λ (x : File). x.online) (sym same) in (let no : ⊥ = cc in no))
    by_entry blocks held (rec, Some copy) same =
        (bytes_at copy.blocks copy.len blocks, ap (λ (x : File). x.bytes) (sym same) ∙ ap (option_map (bytes_at copy.blocks copy.len)) held)

    in_entries : (blocks : List (List ℕ)) → o.disc.held ≡ Some blocks → (es : List FileEntry) → Contains (map (file_of o.disc.held) es) f → (t : List ℕ) × (f.bytes ≡ Some t)
    in_entries blocks held [] (i, inside, is) = absurd (let no : ⊥ = omega (arith, inside) in no)
    in_entries blocks held (e ∷ es) (zero, inside, is) = by_entry blocks held e is
    in_entries blocks held (e ∷ es) (suc i, inside, is) = in_entries blocks held es (i, omega (arith, inside), is)

module _ (shelf : ℕ → List Dump) (rack : Rack) (shelved : AreShelved shelf (told_reels rack)) (tell : ReelsTold (told_reels rack)) where
  abbrev dumps : List Dump
  dumps = all_dumps shelf (told_reels rack)

  -- a block of a copy is that part of its text
  pub copy_part : (copy : TapeCopy) (t : List ℕ) (part : ℕ) (block : List ℕ) (q : Reel) → reel copy.serial rack.reels ≡ Some q → IsContent dumps copy t → part < blocks_for (length t)
      → ForSome (blocks_of copy.serial rack) (λ bs. slice_get bs (copy.first + part) ≡ Some block) → IsPart t part block
  copy_part copy t part block q found is less has =
      let d : Dump = is.dump in
      let q_in = reel_there copy.serial rack.reels q found in
      let q_named = reel_named copy.serial rack.reels q found in
      let (bs, q_blocks) = told_is q.blocks (All-contains (λ (r : Reel). is_some r.blocks ≡ true) (told_reels rack) (unread q) tell.each q_in) in
      let on = on_reel shelf (told_reels rack) d is.there in
      let (bs', on_blocks) = told_is on.reel.blocks (All-contains (λ (r : Reel). is_some r.blocks ≡ true) (told_reels rack) on.reel tell.each on.there) in
      let first = among on.reel.serial bs' 0 0 (shelf on.reel.serial) (shelved.each on.reel on.there bs' on_blocks).are d on.on in
      let serials : on.reel.serial ≡ q.serial = sym first.on ∙ is.reel ∙ sym q_named in
      let d_on : Contains (shelf q.serial) d = subst (λ (n : ℕ). Contains (shelf n) d) serials on.on in
      let here = among q.serial bs 0 0 (shelf q.serial) (shelved.each (unread q) q_in bs q_blocks).are d d_on in
      let from = is.from in
      let to = is.to in
      let m : ℕ = (copy.first - content_at d) + part in
      let inside : m < length d.content = omega (arith, from, to, less) in
      let (b, at) = get_some d.content m inside in
      let k : ℕ = 1 + length d.users + length d.files + m in
      let in_dump : slice_get (dump_blocks d) k ≡ Some b = at_content d m k b at refl in
      let on_blocks_at : slice_get bs (d.place + k) ≡ Some b =
      sym (get_drop d.place bs k) ∙ sym (get_below (size_of d) (drop d.place bs) k (omega (arith, inside))) ∙ ap (λ (xs : List (List ℕ)). slice_get xs k) here.stands.blocks ∙ in_dump in
      let place : d.place + k ≡ copy.first + part = omega (arith, from) in
      let mine : slice_get bs (copy.first + part) ≡ Some block = has bs (ap blocks_in found ∙ q_blocks) in
      let same : b ≡ block = same_Some b block (sym on_blocks_at ∙ ap (slice_get bs) place ∙ mine) in
      subst (IsPart t part) same
      (joined_are_parts t (drop (copy.first - content_at d) d.content) part b
      (λ n e below. All-contains IsBlock d.content (get_or (drop (copy.first - content_at d) d.content) n e) here.stands.rules.content
      (from_drop (copy.first - content_at d) d.content (get_or (drop (copy.first - content_at d) d.content) n e) (Contains-get_or (drop (copy.first - content_at d) d.content) n e below)))
      is.text_is (get_drop (copy.first - content_at d) d.content part ∙ at))

  -- and so is each block that was read
  pub source_part : (text : ℕ → List ℕ) (serial : ℕ) (o begun : OnlineFacts) (new : Rack) (r : FileRec) (part : ℕ) (block : List ℕ) → o.live ≡ true → IsTied o → is_some o.disc.held ≡ true
      → begun.contents.files ≡ o.contents.files → All (λ f. KeepsFile (text f.rec.stamp) dumps f) o.contents.files → IsReadable serial o rack r → part < blocks_for r.len
      → IsSource begun rack new r part block → (length (text r.stamp) ≡ r.len) × IsPart (text r.stamp) part block
  source_part text serial o begun new r part block live tied told files keeps readable less source =
      let (f, there, same) = readable.file in
      let kept = All-contains (λ (g : File). KeepsFile (text g.rec.stamp) dumps g) o.contents.files f keeps there in
      let stamps : f.rec.stamp ≡ r.stamp = ap (λ (x : FileRec). x.stamp) same in
      let long : length (text r.stamp) ≡ r.len = subst (λ (n : ℕ). length (text n) ≡ r.len) stamps (kept.rec.len ∙ ap (λ (x : FileRec). x.len) same) in
      (long, by_place f there same kept stamps long f.online refl)
    where
      by_place : (f : File) → Contains o.contents.files f → f.rec ≡ r → KeepsFile (text f.rec.stamp) dumps f → f.rec.stamp ≡ r.stamp → length (text r.stamp) ≡ r.len
          → (on : Bool) → f.online ≡ on → IsPart (text r.stamp) part block
      by_place f there same kept stamps long true on =
          let (t, bytes) = bytes_told o live tied told f there on in
          let there' : Contains begun.contents.files f = subst (λ (fs : List File). Contains fs f) (sym files) there in
          subst (λ (x : List ℕ). IsPart x part block) (kept.bytes t bytes ∙ ap text stamps) (source.online f there' (ap (λ (x : FileRec). x.number) same) on t bytes)
      by_place f there same kept stamps long false off =
          let named : f.rec.number ≡ r.number = ap (λ (x : FileRec). x.number) same in
          let there' : Contains begun.contents.files f = subst (λ (fs : List File). Contains fs f) (sym files) there in
          let it = readable.offline f there named off in
          let copy : TapeCopy = it.0 in
          let content : IsContent dumps copy (text f.rec.stamp) = subst (λ (x : Option TapeCopy). IfSome x (λ c. IsContent dumps c (text f.rec.stamp))) (ap (λ (x : FileRec). x.tape) same ∙ it.1) kept.rec.copy in
          let here : IsContent dumps copy (text r.stamp) = subst (λ (n : ℕ). IsContent dumps copy (text n)) stamps content in
          copy_part copy (text r.stamp) part block it.3 it.4 here (subst (λ (n : ℕ). part < blocks_for n) (sym long) less) (source.offline f there' named off copy it.1).0
