-- The files that were looked for in a second rack, one after another, while it was only read.
-- serves: find_files
use Rattle.std.proofs.Common.{◌≡◌, ℕ, ◌+◌, ◌<◌, ◌≤◌, Bool, List, [], ◌∷◌, ◌++◌, length, map, take, get_or, sym, ◌∙◌, ap, subst}
use Rattle.std.specs.Prelude.{filter}
use Rattle.std.proofs.lemmas.List.Elements.{filter-append}
use Rattle.std.proofs.lemmas.List.{append-nil, append_assoc, map-append, take_all, take_more}
use Rattle.g_tape.specs.Rack.{Rack}
use Rattle.g_tape.specs.Reel.{Reel}
use Rattle.g_store_meaning.specs.Meaning.{told_reels}
use Rattle.g_store_meaning.specs.Reading.{ReelsTold}
use Rattle.g_look.specs.Looks.{ReadsRackByCause}
use Rattle.g_seal.specs.declared.entries.SealedFile.{SealedFile}
use Rattle.g_seal.specs.declared.twins.Twins.{Twins}
use Rattle.g_seal.specs.declared.versions.CopyState.{CopyState}
use Rattle.g_seal.specs.Rotten.{is_other, is_sealed, stamps_in, twin_here}
use Rattle.g_seal.proofs.LineLemmas.{rack_never, rack_none, rack_then}

-- the first i files were looked for
pub record HasLooked (files : List SealedFile) (i : ℕ) (begun now : Twins) (old mid : Rack) : Type 0 where
  pub reads : ReadsRackByCause ⊥ old mid
  pub rotten : now.rotten ≡ begun.rotten
  pub sealed : ReelsTold (told_reels old) → now.sealed.items ≡ begun.sealed.items ++ stamps_in is_sealed (told_reels old) (take i files)
  pub other : ReelsTold (told_reels old) → now.other.items ≡ begun.other.items ++ stamps_in is_other (told_reels old) (take i files)

pub none_looked : (files : List SealedFile) (twins : Twins) (rack : Rack) → HasLooked files 0 twins twins rack rack
none_looked files twins rack = record {
  reads = rack_none rack;
  rotten = λ i. twins.rotten;
  sealed = λ told. sym (append-nil twins.sealed.items);
  other = λ told. sym (append-nil twins.other.items);
}

stamps_more : (is_so : CopyState → Bool) (reels : List Reel) (files : List SealedFile) (i : ℕ) (file : SealedFile) → i < length files → file ≡ get_or files i file
    → stamps_in is_so reels (take (i + 1) files) ≡ stamps_in is_so reels (take i files) ++ stamps_in is_so reels (file ∷ [])
stamps_more is_so reels files i file within at =
    ap (stamps_in is_so reels) (take_more files i file within ∙ ap (λ (f : SealedFile). take i files ++ f ∷ []) (sym at))
    ∙ ap (λ (fs : List SealedFile). map (λ (s : SealedFile). s.stamp) fs) (filter-append (λ (s : SealedFile). is_so (twin_here reels s)) (take i files) (file ∷ []))
    ∙ map-append (λ (s : SealedFile). s.stamp) (filter (λ (s : SealedFile). is_so (twin_here reels s)) (take i files)) (filter (λ (s : SealedFile). is_so (twin_here reels s)) (file ∷ []))

stamps_next : (is_so : CopyState → Bool) (files : List SealedFile) (i : ℕ) (file : SealedFile) (begun now next : List ℕ) (old mid : Rack) → i < length files → file ≡ get_or files i file → told_reels mid ≡ told_reels old
    → now ≡ begun ++ stamps_in is_so (told_reels old) (take i files) → next ≡ now ++ stamps_in is_so (told_reels mid) (file ∷ []) → next ≡ begun ++ stamps_in is_so (told_reels old) (take (i + 1) files)
stamps_next is_so files i file begun now next old mid within at still so adds =
    let one : List ℕ = stamps_in is_so (told_reels old) (file ∷ []) in
    adds ∙ ap (λ (rs : List Reel). now ++ stamps_in is_so rs (file ∷ [])) still ∙ ap (λ (xs : List ℕ). xs ++ one) so
    ∙ append_assoc begun (stamps_in is_so (told_reels old) (take i files)) one
    ∙ ap (λ (xs : List ℕ). begun ++ xs) (sym (stamps_more is_so (told_reels old) files i file within at))

pub looked_more : {Q : Type 0} (files : List SealedFile) (i : ℕ) (file : SealedFile) (begun now next : Twins) (old mid new : Rack) → i < length files → file ≡ get_or files i file → HasLooked files i begun now old mid → (Q → ⊥)
    → ReadsRackByCause Q mid new → next.rotten ≡ now.rotten → (ReelsTold (told_reels mid) → next.sealed.items ≡ now.sealed.items ++ stamps_in is_sealed (told_reels mid) (file ∷ []))
    → (ReelsTold (told_reels mid) → next.other.items ≡ now.other.items ++ stamps_in is_other (told_reels mid) (file ∷ [])) → HasLooked files (i + 1) begun next old new
looked_more {Q} files i file begun now next old mid new within at so never reads rotten sealed other =
    let still : told_reels mid ≡ told_reels old = so.reads.only.reels in
    record {
      reads = rack_then (λ wrong. wrong) so.reads (rack_never never reads);
      rotten = rotten ∙ so.rotten;
      sealed = λ told. stamps_next is_sealed files i file begun.sealed.items now.sealed.items next.sealed.items old mid within at still (so.sealed told) (sealed (subst ReelsTold (sym still) told));
      other = λ told. stamps_next is_other files i file begun.other.items now.other.items next.other.items old mid within at still (so.other told) (other (subst ReelsTold (sym still) told));
    }

pub all_sealed : (files : List SealedFile) (i : ℕ) (begun now : Twins) (old mid : Rack) → length files ≤ i → HasLooked files i begun now old mid → ReelsTold (told_reels old)
    → now.sealed.items ≡ begun.sealed.items ++ stamps_in is_sealed (told_reels old) files
all_sealed files i begun now old mid all so told = so.sealed told ∙ ap (λ (fs : List SealedFile). begun.sealed.items ++ stamps_in is_sealed (told_reels old) fs) (take_all i files all)

pub all_other : (files : List SealedFile) (i : ℕ) (begun now : Twins) (old mid : Rack) → length files ≤ i → HasLooked files i begun now old mid → ReelsTold (told_reels old)
    → now.other.items ≡ begun.other.items ++ stamps_in is_other (told_reels old) files
all_other files i begun now old mid all so told = so.other told ∙ ap (λ (fs : List SealedFile). begun.other.items ++ stamps_in is_other (told_reels old) fs) (take_all i files all)
