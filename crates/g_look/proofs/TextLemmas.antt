-- The bytes read at a place on tape are those that the dumps hold there.
-- serves: RecLemmas
use Rattle.std.proofs.Common.{◌≡◌, ℕ, ◌+◌, ◌-◌, ◌≤◌, true, List, length, take, drop, sym, ◌∙◌, ap, arith, subst}
use Rattle.std.specs.Prelude.{is_some}
use Rattle.std.proofs.lemmas.List.{length-drop}
use Rattle.std.proofs.lemmas.List.Elements.{All-contains, All-drop}
use Rattle.g_base.specs.Block.{IsBlock, blocks_for}
use Rattle.g_entry.specs.declared.file_rec.TapeCopy.{TapeCopy}
use Rattle.g_tape.specs.Reel.{Reel}
use Rattle.g_incr.specs.Layout.{Dump, content_at, ends}
use Rattle.g_shelf.specs.CompletedDumps.{all_dumps}
use Rattle.g_store_meaning.specs.Meaning.{IsContent, joined}
use Rattle.g_store_meaning.proofs.OneLemmas.{is_shelved, on_reel}
use Rattle.g_restore.specs.declared.dumps.Found.{Found}
use Rattle.g_look.specs.SeenDumps.{IsSeen}
use Rattle.g_look.specs.Texts.{IsTapeText}
use Rattle.g_look.proofs.HeadLemmas.{low_end, stands_in, told_blocks}
use Rattle.g_retrieve.proofs.ContentLemmas.{front_text, part_stands}

-- WHAT WAS READ IS WHAT LIES THERE
module _ (reels : List Reel) (shelf : ℕ → List Dump) (found : List Found) (seen : IsSeen reels shelf found) where
  pub text_at : (copy : TapeCopy) (len : ℕ) (text x : List ℕ) → IsTapeText reels copy len text → IsContent (all_dumps shelf reels) copy x → length x ≡ len → x ≡ text
  text_at copy len text x read is long =
      let d = is.dump in
      let on = on_reel shelf reels d is.there in
      let serial : on.reel.serial ≡ copy.serial = sym (is_shelved shelf reels seen.told seen.shelved d on.reel on.there on.on).0 ∙ is.reel in
      let (bs, told) = told_blocks on.reel.blocks (All-contains (λ (r : Reel). is_some r.blocks ≡ true) reels on.reel seen.told.each on.there) in
      let stands = stands_in on.reel.serial bs 0 0 (shelf on.reel.serial) d (seen.shelved.each on.reel on.there bs told).are on.on in
      let from = is.from in
      let to : copy.first + blocks_for len ≤ content_at d + length d.content = subst (λ (n : ℕ). copy.first + blocks_for n ≤ content_at d + length d.content) long is.to in
      let low = low_end reels shelf found seen d is.there in
      let ends_at : content_at d + length d.content ≤ ends d = omega arith in
      let behind = length-drop (copy.first - content_at d) d.content in
      let s : ℕ = copy.first - content_at d in
      sym is.text_is ∙ ap (λ (n : ℕ). take n (joined (drop s d.content))) long
      ∙ sym (front_text len (blocks_for len) (drop s d.content) (All-drop IsBlock s d.content stands.rules.content) (omega arith) (omega (arith, behind, from, to)))
      ∙ ap (λ (l : List (List ℕ)). take len (joined l)) (sym (part_stands bs d copy.first (blocks_for len) stands from to))
      ∙ sym (read on.reel on.there serial bs told (omega (arith, to, ends_at, low)))
