-- The state of a store whose devices don't expose all their contents.
-- serves: untold_have_states (real, some)
use Rattle.std.proofs.Common.{◌≡◌, ◌≢◌, ℕ, ◌+◌, ◌*◌, ◌<◌, ◌≤◌, Bool, true, false, List, [], ◌∷◌, ◌++◌, length, get_or, map, Option, Some, None, is_some, refl, sym, ◌∙◌, ap, arith, subst}
use Rattle.std.specs.Prelude.{◌==◌, All, AllPairs, Contains, IfSome, replicate, slice_index_or, if◌then◌else◌}
use Rattle.std.specs.Option.{ForSome}
use Rattle.std.proofs.lemmas.Bool.{cond-false, cond-true, eq-eqb, ne_eqb}
use Rattle.std.proofs.lemmas.List.{get_or-map, length-append, length-map, length-replicate, length-take-le}
use Rattle.std.proofs.lemmas.List.Elements.{All-cons, All-contains, All-contains_itself, All-head, All-nil, All-tail, All-weaker, Contains-append_left, Contains-append_right}
use Rattle.std.proofs.lemmas.Option.{none-some, same_Some}
use Rattle.g_base.specs.Block.{IsBlock, blocks_for}
use Rattle.g_blocks.specs.Pool.{IsInArea}
use Rattle.g_copy.specs.Copy.{blocks_at, bytes_at}
use Rattle.g_copy.specs.declared.copy.DiscCopy.{DiscCopy}
use Rattle.g_dirs.specs.Directory.{Directory, FileEntry, IsCopyOf, IsDirectory, LiesSomewhere, all_places, places_of, recs}
use Rattle.g_entry.specs.declared.file_rec.FileRec.{FileRec}
use Rattle.g_tape.specs.Reel.{Reel}
use Rattle.g_tree.proofs.ListLemmas.{pairs_first, pairs_rest}
use Rattle.g_disc_contents.specs.Contents.{File, contents_of, file_of}
use Rattle.g_incr.specs.Layout.{Dump}
use Rattle.g_shelf.specs.CompletedDumps.{AreShelved, all_dumps}
use Rattle.g_store_model.specs.State.{State}
use Rattle.g_store_meaning.specs.Answers.{IsStore, Told}
use Rattle.g_store_meaning.specs.Meaning.{told_reels}
use Rattle.g_store_meaning.specs.Reading.{AllTold, HasText, StandsForState, View, state_up}
use Rattle.g_store_meaning.specs.StoreInvariant.{StoreFacts}
use Rattle.g_store_meaning.proofs.ViewLemmas.{Stands, back}
use Rattle.g_laws_complete.specs.UntoldStores.{HasBlocks, RealHaveStates, UntoldHaveStates}

-- a file's bytes if they are exposed, and zeros otherwise
abbrev bytes_by : Option (List ℕ) → ℕ → List ℕ
bytes_by None len = replicate len 0
bytes_by (Some bytes) len = bytes

abbrev bytes_of : File → List ℕ
bytes_of f = bytes_by f.bytes f.rec.len

abbrev rec_of : File → FileRec
rec_of f = f.rec

-- by its stamp, among files of which no two have the same
abbrev text_in : List File → ℕ → List ℕ
text_in [] stamp = []
text_in (f ∷ fs) stamp = if f.rec.stamp == stamp then bytes_of f else text_in fs stamp

abbrev IsTextIn : List File → File → Type 0
IsTextIn fs f = text_in fs f.rec.stamp ≡ bytes_of f

-- one file more in front, of another stamp
one_more : (f : File) (fs : List File) → AllPairs (λ (r s : FileRec). r.stamp ≢ s.stamp) (map rec_of (f ∷ fs)) → All (IsTextIn fs) fs → All (IsTextIn (f ∷ fs)) (f ∷ fs)
one_more f fs apart rest =
    All-cons (IsTextIn (f ∷ fs)) f fs (cond-true (f.rec.stamp == f.rec.stamp) (bytes_of f) (text_in fs f.rec.stamp) (eq-eqb f.rec.stamp f.rec.stamp refl))
    (λ k d within.
    let g = get_or fs k d in
    cond-false (f.rec.stamp == g.rec.stamp) (bytes_of f) (text_in fs g.rec.stamp) (ne_eqb f.rec.stamp g.rec.stamp (others k d within)) ∙ rest k d within)
  where
    firsts : All (λ (s : FileRec). f.rec.stamp ≢ s.stamp) (map rec_of fs)
    firsts = pairs_first (λ (r s : FileRec). r.stamp ≢ s.stamp) f.rec (map rec_of fs) apart

    others : (k : ℕ) (d : File) → k < length fs → f.rec.stamp ≢ (get_or fs k d).rec.stamp
    others k d within =
        subst (λ (r : FileRec). f.rec.stamp ≢ r.stamp) (get_or-map rec_of fs k d d.rec within) (firsts k d.rec (let long = length-map fs rec_of in omega (arith, long, within)))

has_text : (fs : List File) → AllPairs (λ (r s : FileRec). r.stamp ≢ s.stamp) (map rec_of fs) → All (IsTextIn fs) fs
has_text [] apart = All-nil (IsTextIn [])
has_text (f ∷ fs) apart = one_more f fs apart (has_text fs (pairs_rest (λ (r s : FileRec). r.stamp ≢ s.stamp) f.rec (map rec_of fs) apart))

-- THEIR LENGTHS
module _ (blocks : List (List ℕ)) (each : All IsBlock blocks) where
  long : (places : List ℕ) → All (λ (k : ℕ). k < length blocks) places → length (blocks_at places blocks) ≡ 512 * length places
  unfolding blocks_at
  long [] within = refl
  long (k ∷ ks) within =
      let both : length (blocks_at (k ∷ ks) blocks) ≡ length (slice_index_or blocks k []) + length (blocks_at ks blocks) = length-append (slice_index_or blocks k []) (blocks_at ks blocks) in
      let one : length (slice_index_or blocks k []) ≡ 512 = (each k [] (All-head (λ (j : ℕ). j < length blocks) k ks within)).size in
      let rest = long ks (All-tail (λ (j : ℕ). j < length blocks) k ks within) in
      omega (arith, both, one, rest)

  copy_long : (copy : DiscCopy) (rec : FileRec) → IsCopyOf rec copy → All (λ (k : ℕ). k < length blocks) copy.blocks → length (bytes_at copy.blocks copy.len blocks) ≡ rec.len
  copy_long copy rec is within =
      let all = long copy.blocks within in
      let count : length copy.blocks ≡ blocks_for rec.len = is.count in
      let len = is.len in
      let fits = enough rec.len in
      length-take-le copy.len (blocks_at copy.blocks blocks) (omega (arith, all, count, len, fits)) ∙ len
    where
      enough : (n : ℕ) → n ≤ 512 * blocks_for n
      enough n = omega arith

abbrev IsLong : File → Type 0
IsLong f = length (bytes_of f) ≡ f.rec.len

abbrev AreBlocks : ℕ → Option (List (List ℕ)) → Type 0
AreBlocks size held = ForSome held (λ blocks. (length blocks ≡ size) × All IsBlock blocks)

entry_long : (size : ℕ) (held : Option (List (List ℕ))) (rec : FileRec) (copy : Option DiscCopy) → LiesSomewhere (rec, copy) → AreBlocks size held → All (IsInArea size) (places_of (rec, copy))
    → IsLong (file_of held (rec, copy))
entry_long size held rec None lies are within = length-replicate rec.len 0
entry_long size None rec (Some copy) lies are within = length-replicate rec.len 0
entry_long size (Some blocks) rec (Some copy) lies are within =
    let told = are blocks refl in
    copy_long blocks told.1 copy rec lies.copy
    (All-weaker (IsInArea size) (λ (k : ℕ). k < length blocks) (λ k area. let high = area.high in let many = told.0 in omega (arith, high, many)) copy.blocks within)

left_part : (P : ℕ → Type 0) (xs ys : List ℕ) → All P (xs ++ ys) → All P xs
left_part P xs ys all = All-weaker (Contains xs) P (λ x there. All-contains P (xs ++ ys) x all (Contains-append_left xs ys x there)) xs (All-contains_itself xs)

right_part : (P : ℕ → Type 0) (xs ys : List ℕ) → All P (xs ++ ys) → All P ys
right_part P xs ys all = All-weaker (Contains ys) P (λ x there. All-contains P (xs ++ ys) x all (Contains-append_right xs ys x there)) ys (All-contains_itself ys)

all_long : (size : ℕ) (held : Option (List (List ℕ))) (es : List FileEntry) → AreBlocks size held → All LiesSomewhere es → All (IsInArea size) (all_places es) → All IsLong (map (file_of held) es)
all_long size held [] are lies within = All-nil IsLong
all_long size held ((rec, copy) ∷ es) are lies within =
    All-cons IsLong (file_of held (rec, copy)) (map (file_of held) es)
    (entry_long size held rec copy (All-head LiesSomewhere (rec, copy) es lies) are (left_part (IsInArea size) (places_of (rec, copy)) (all_places es) within))
    (all_long size held es are (All-tail LiesSomewhere (rec, copy) es lies) (right_part (IsInArea size) (places_of (rec, copy)) (all_places es) within))

one_rec : (held : Option (List (List ℕ))) (rec : FileRec) (copy : Option DiscCopy) → (file_of held (rec, copy)).rec ≡ rec
one_rec held rec None = refl
one_rec held rec (Some copy) = refl

recs_same : (held : Option (List (List ℕ))) (es : List FileEntry) → map rec_of (map (file_of held) es) ≡ recs es
recs_same held [] = refl
recs_same held ((rec, copy) ∷ es) = λ i. one_rec held rec copy i ∷ recs_same held es i

-- THE STORE
module _ (s : StoreFacts) (shelf : ℕ → List Dump) (unspent : s.spent ≡ false) (keeps : IsStore s) (untold : Told s → ⊥) (are : AreBlocks s.online.disc.size s.online.disc.held)
    (shelved : AreShelved shelf (told_reels s.rack)) where
  abbrev reels : List Reel
  reels = told_reels s.rack

  abbrev files : List File
  files = s.online.contents.files

  abbrev d : Directory
  d = s.online.layout.directory

  rules : IsDirectory s.online.disc.size d
  rules = keeps.tied.rules (keeps.live unspent)

  files_are : files ≡ map (file_of s.online.disc.held) d.files
  files_are = ap (λ c. c.files) (keeps.tied.contents (keeps.live unspent))

  apart : AllPairs (λ (r t : FileRec). r.stamp ≢ t.stamp) (map rec_of files)
  apart =
      subst (λ (rs : List FileRec). AllPairs (λ (r t : FileRec). r.stamp ≢ t.stamp) rs) (sym (ap (map rec_of) files_are ∙ recs_same s.online.disc.held d.files)) rules.files.stamps

  lens : All IsLong files
  lens = subst (All IsLong) (sym files_are) (all_long s.online.disc.size s.online.disc.held d.files are rules.lies rules.area)

  abbrev v : View
  v = record { text = text_in files; shelf = shelf; dumps = all_dumps shelf reels; dumped = None; opened = None }

  told_bytes : (bytes : Option (List ℕ)) (len : ℕ) → ForSome bytes (λ b. b ≡ bytes_by bytes len)
  told_bytes None len b is = absurd (none-some b is)
  told_bytes (Some bytes) len b is = sym (same_Some bytes b is)

  texts : All (λ (f : File). HasText (AllTold s.online.disc.held reels) (v.text f.rec.stamp) v.dumps f) files
  texts k other within =
      let f = get_or files k other in
      let is : text_in files f.rec.stamp ≡ bytes_of f = has_text files apart k other within in record {
        len = ap length is ∙ lens k other within;
        bytes = λ b held. told_bytes f.bytes f.rec.len b held ∙ sym is;
        tape = λ told. absurd (untold told);
      }

  pub state_is : (u : State) × StandsForState s u
  unfolding Stands
  state_is = (
    state_up v reels s.online s.dump,
    back s.spent s.online s.dump (state_up v reels s.online s.dump) s.rack
        (subst (λ (b : Bool). Stands b s.online s.dump (state_up v reels s.online s.dump) reels) (sym unspent) (
          v,
          record {
            rack = record { shelved = shelved; all = refl; dumped = λ told. absurd (untold told); none = λ told. absurd (untold told) };
            files = texts;
          },
          record { is = λ told. absurd (untold told) },
          refl,
        )),
  )

pub untold_have : UntoldHaveStates
untold_have s shelf unspent keeps untold has shelved = state_is s shelf unspent keeps untold has.blocks shelved

pub real_have : RealHaveStates
real_have s unspent keeps none blank =
    state_is s (λ serial. []) unspent keeps
    (λ told. let no : ⊥ = nothing s.online.disc.held none told.disc in no)
    (λ blocks is. absurd (none-some blocks (sym none ∙ is)))
    (record { each = λ r there blocks is. absurd (none-some blocks (sym (All-contains (λ (q : Reel). q.blocks ≡ None) (told_reels s.rack) r blank there) ∙ is)) })
  where
    nothing : (held : Option (List (List ℕ))) → held ≡ None → is_some held ≡ true → ⊥
    nothing held none is = let no : ⊥ = cc in no
