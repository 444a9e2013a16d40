-- What the copies in memory say of the files.
-- serves: bytes (filled, text), file_block (block), is_online, crates above
use Rattle.std.proofs.Common.{◌≡◌, ◌≢◌, ℕ, suc, true, List, [], ◌∷◌, ◌++◌, length, take, get_or, map, Option, Some, None, All, AllPairs, refl, sym, ◌∙◌, ap, subst, arith, option_map, slice_get}
use Rattle.std.specs.Prelude.{◌<◌, Contains, IfSome, is_some, slice_index_or}
use Rattle.std.specs.Option.{ForSome}
use Rattle.std.proofs.lemmas.List.Elements.{All-cons, All-contains, All-head, All-tail, All-weaker}
use Rattle.std.proofs.lemmas.Option.{slice_get-get_or}
use Rattle.g_base.specs.Block.{IsBlock, blocks_for}
use Rattle.g_blocks.specs.Pool.{IsInArea}
use Rattle.g_copy.specs.declared.copy.DiscCopy.{DiscCopy}
use Rattle.g_copy.specs.Copy.{IsCopy, blocks_at, bytes_at}
use Rattle.g_disc.specs.Disc.{DiscState}
use Rattle.g_entry.specs.declared.file_rec.FileRec.{FileRec}
use Rattle.g_dirs.specs.Directory.{FileEntry, IsCopyOf, LiesSomewhere, all_places, copy_at, entries_of, places_of}
use Rattle.g_disc_contents.specs.Contents.{File, file_of}
use Rattle.g_disc_contents.specs.Facts.{OnlineFacts}
use Rattle.g_disc_contents.specs.Parts.{IsPart}
use Rattle.g_disc_contents.proofs.PartLemmas.{blocks_are_parts}
use Rattle.g_online.specs.Invariant.{AreWhole, IsKept, Memory, copy_places, facts_of}
use Rattle.g_online.proofs.ReadyLemmas.{pairs_left}
use Rattle.g_online.proofs.SameLemmas.{left_part, right_part}
use Rattle.g_online.proofs.TieLemmas.{block_at}

-- the copy of this number is the file's
pub record IsItsCopy (held : Option (List (List ℕ))) (online : List (ℕ × DiscCopy)) (size : ℕ) (f : File) : Type 0 where
  pub online_is : f.online ≡ is_some (copy_at online f.rec.number)
  pub bytes : (copy : DiscCopy) → copy_at online f.rec.number ≡ Some copy → f.bytes ≡ option_map (bytes_at copy.blocks copy.len) held
  pub len : (copy : DiscCopy) → copy_at online f.rec.number ≡ Some copy → copy.len ≡ f.rec.len
  pub copy : (copy : DiscCopy) → copy_at online f.rec.number ≡ Some copy → IsCopy size copy

inside_copy : (a b : DiscCopy) → (let one : Option DiscCopy = Some a in one ≡ Some b) → a ≡ b
inside_copy a b e = cc

no_copy : (b : DiscCopy) → (let none : Option DiscCopy = None in none ≡ Some b) → ⊥
no_copy b e = cc

its_copy : (held : Option (List (List ℕ))) (online : List (ℕ × DiscCopy)) (size : ℕ) (r : FileRec) (found : Option DiscCopy) → copy_at online r.number ≡ found → IfSome found (IsCopyOf r)
    → All (IsInArea size) (places_of (r, found)) → AllPairs (λ j k. j ≢ k) (places_of (r, found)) → IsItsCopy held online size (file_of held (r, found))
its_copy held online size r None is fits area apart = record {
  online_is = ap is_some (sym is);
  bytes = λ copy there. absurd (no_copy copy (sym is ∙ there));
  len = λ copy there. absurd (no_copy copy (sym is ∙ there));
  copy = λ copy there. absurd (no_copy copy (sym is ∙ there));
}
its_copy held online size r (Some it) is fits area apart = record {
  online_is = ap is_some (sym is);
  bytes = λ copy there. ap (λ (c : DiscCopy). option_map (bytes_at c.blocks c.len) held) (inside_copy it copy (sym is ∙ there));
  len = λ copy there. ap (λ (c : DiscCopy). c.len) (sym (inside_copy it copy (sym is ∙ there))) ∙ fits.len;
  copy = λ copy there. subst (IsCopy size) (inside_copy it copy (sym is ∙ there)) (record { count = fits.count ∙ lens; area = area; apart = apart });
}
  where
    lens : blocks_for r.len ≡ blocks_for it.len
    lens = ap blocks_for (sym fits.len)

pub pairs_right : (xs ys : List ℕ) → AllPairs (λ j k. j ≢ k) (xs ++ ys) → AllPairs (λ j k. j ≢ k) ys
pairs_right [] ys all = all
pairs_right (x ∷ xs) ys all = pairs_right xs ys (λ i j d less within. all (suc i) (suc j) d (omega arith) (omega arith))

-- therefore all are
pub copies_are : (held : Option (List (List ℕ))) (online : List (ℕ × DiscCopy)) (size : ℕ) (files : List FileRec) → All LiesSomewhere (entries_of files online) → All (IsInArea size) (all_places (entries_of files online))
    → AllPairs (λ j k. j ≢ k) (all_places (entries_of files online)) → All (IsItsCopy held online size) (map (file_of held) (entries_of files online))
copies_are held online size [] lies area apart = λ k d within. absurd (omega arith)
copies_are held online size (r ∷ files) lies area apart =
    let e : FileEntry = (r, copy_at online r.number) in
    let first = All-head LiesSomewhere e (entries_of files online) lies in
    All-cons (IsItsCopy held online size) (file_of held e) (map (file_of held) (entries_of files online))
    (its_copy held online size r (copy_at online r.number) refl first.copy (left_part (IsInArea size) (places_of e) (all_places (entries_of files online)) area)
    (pairs_left (places_of e) (all_places (entries_of files online)) apart))
    (copies_are held online size files (All-tail LiesSomewhere e (entries_of files online) lies) (right_part (IsInArea size) (places_of e) (all_places (entries_of files online)) area)
    (pairs_right (places_of e) (all_places (entries_of files online)) apart))

told_text : (F : List (List ℕ) → List ℕ) (held : Option (List (List ℕ))) (bytes : Option (List ℕ)) (text : List ℕ) → bytes ≡ option_map F held → ForSome held (λ blocks. F blocks ≡ text) → ForSome bytes (λ b. text ≡ b)
told_text F None bytes text is each = λ b told. (let no : (let none : Option (List ℕ) = None in none ≡ Some b) = sym is ∙ told in let never : ⊥ = cc in absurd never)
told_text F (Some blocks) bytes text is each = λ b told. sym (each blocks refl) ∙ inside_text (F blocks) b (sym is ∙ told)
  where
    inside_text : (a b : List ℕ) → (let one : Option (List ℕ) = Some a in one ≡ Some b) → a ≡ b
    inside_text a b e = cc

-- A BLOCK of a copy
part_there : (size len part : ℕ) (found : Option DiscCopy) → is_some found ≡ true → ((copy : DiscCopy) → found ≡ Some copy → IsCopy size copy) → ((copy : DiscCopy) → found ≡ Some copy → copy.len ≡ len) → part < blocks_for len
    → (place : ℕ) × (slice_get (copy_places found) part ≡ Some place) × (place < size)
part_there size len part None some is long within = (let no : ⊥ = cc in absurd no)
part_there size len part (Some copy) some is long within =
    let it : IsCopy size copy = is copy refl in
    let less : part < length copy.blocks = subst (λ (n : ℕ). part < n) (sym (it.count ∙ ap blocks_for (long copy refl))) within in
    (get_or copy.blocks part 0, slice_get-get_or copy.blocks part 0 less, (it.area part 0 less).high)

part_of : (held : Option (List (List ℕ))) (size part place : ℕ) (into : List ℕ) (found : Option DiscCopy) (bytes : Option (List ℕ)) → ForSome held (AreWhole size) → ((copy : DiscCopy) → found ≡ Some copy → IsCopy size copy)
    → ((copy : DiscCopy) → found ≡ Some copy → bytes ≡ option_map (bytes_at copy.blocks copy.len) held) → slice_get (copy_places found) part ≡ Some place
    → ForSome held (λ blocks. slice_get blocks place ≡ Some into) → ForSome bytes (λ text. IsPart text part into)
part_of held size part place into None bytes whole is bytes_are there read = (let no : ⊥ = cc in absurd no)
part_of None size part place into (Some copy) bytes whole is bytes_are there read = λ text told.
    (let wrong : (let none : Option (List ℕ) = None in none ≡ Some text) = sym (bytes_are copy refl) ∙ told in let no : ⊥ = cc in absurd no)
part_of (Some blocks) size part place into (Some copy) bytes whole is bytes_are there read = λ text told.
    subst (λ (t : List ℕ). IsPart t part into) (same_text (bytes_at copy.blocks copy.len blocks) text (sym (bytes_are copy refl) ∙ told))
    (blocks_are_parts blocks copy.blocks copy.len part place into
    (All-weaker (IsInArea size) (λ k. IsBlock (slice_index_or blocks k [])) (block_at size blocks (whole blocks refl)) copy.blocks (is copy refl).area) there (read blocks refl))
  where
    same_text : (a b : List ℕ) → (let one : Option (List ℕ) = Some a in one ≡ Some b) → a ≡ b
    same_text a b e = cc

-- FOR A CALL of a file by its number
module _ (disc : DiscState) (m : Memory) (o : OnlineFacts) (is : facts_of disc m ≡ o) (kept : IsKept disc m) (live : m.live ≡ true) (number : ℕ) (online : List (ℕ × DiscCopy)) (same : online ≡ m.online) where
  each_copy : All (IsItsCopy disc.held m.online disc.size) o.contents.files
  each_copy =
      let rules = (kept.agreed live).stored.rules in
      subst (λ (p : OnlineFacts). All (IsItsCopy disc.held m.online disc.size) p.contents.files) is
      (copies_are disc.held m.online disc.size m.files rules.lies rules.area rules.apart)

  one_copy : (f : File) → Contains o.contents.files f → IsItsCopy disc.held m.online disc.size f
  one_copy f there = All-contains (IsItsCopy disc.held m.online disc.size) o.contents.files f each_copy there

  copy_there : (f : File) → f.rec.number ≡ number → copy_at m.online f.rec.number ≡ copy_at online number
  copy_there f at = ap (copy_at m.online) at ∙ ap (λ (on : List (ℕ × DiscCopy)). copy_at on number) (sym same)

  pub online_is_there : (found : Option DiscCopy) → found ≡ copy_at online number → (f : File) → Contains o.contents.files f → f.rec.number ≡ number → is_some found ≡ f.online
  online_is_there found found_is f there at = ap is_some (found_is ∙ sym (copy_there f at)) ∙ sym (one_copy f there).online_is

  pub no_copy_no : (f : File) → Contains o.contents.files f → f.rec.number ≡ number → f.online ≡ true → (let none : Option DiscCopy = None in none ≡ copy_at online number) → ⊥
  no_copy_no f there at on none =
      let wrong : is_some (let no_one : Option DiscCopy = None in no_one) ≡ f.online = online_is_there None none f there at in
      (let never : ⊥ = cc in never)

  pub copy_is : (copy : DiscCopy) → (let one : Option DiscCopy = Some copy in one ≡ copy_at online number) → (f : File) → Contains o.contents.files f → f.rec.number ≡ number → IsCopy disc.size copy
  copy_is copy found f there at = (one_copy f there).copy copy (copy_there f at ∙ sym found)

  pub len_is : (copy : DiscCopy) → (let one : Option DiscCopy = Some copy in one ≡ copy_at online number) → (f : File) → Contains o.contents.files f → f.rec.number ≡ number → copy.len ≡ f.rec.len
  len_is copy found f there at = (one_copy f there).len copy (copy_there f at ∙ sym found)

  pub text_is : (copy : DiscCopy) → (let one : Option DiscCopy = Some copy in one ≡ copy_at online number) → (text : List ℕ) → ForSome disc.held (λ blocks. bytes_at copy.blocks copy.len blocks ≡ text) → length text ≡ copy.len
      → (f : File) → Contains o.contents.files f → f.rec.number ≡ number → ForSome f.bytes (λ bytes. text ≡ bytes) × (length text ≡ f.rec.len)
  text_is copy found text read long f there at =
      (told_text (bytes_at copy.blocks copy.len) disc.held f.bytes text ((one_copy f there).bytes copy (copy_there f at ∙ sym found)) read, long ∙ len_is copy found f there at)

  pub empty_is : (copy : DiscCopy) → (let one : Option DiscCopy = Some copy in one ≡ copy_at online number) → copy.len ≡ 0
      → (f : File) → Contains o.contents.files f → f.rec.number ≡ number → ForSome f.bytes (λ bytes. (let text : List ℕ = [] in text ≡ bytes)) × (0 ≡ f.rec.len)
  empty_is copy found none f there at =
      text_is copy found [] (λ blocks told. take_none (blocks_at copy.blocks blocks)) (sym none) f there at
    where
      no_more : (xs : List ℕ) → take 0 xs ≡ []
      no_more [] = refl
      no_more (x ∷ xs) = refl

      take_none : (xs : List ℕ) → take copy.len xs ≡ []
      take_none xs = ap (λ (n : ℕ). take n xs) none ∙ no_more xs

  -- where a block of the file lies
  module _ (part : ℕ) where
    place_there : (f : File) → Contains o.contents.files f → f.rec.number ≡ number → f.online ≡ true → part < blocks_for f.rec.len
        → (place : ℕ) × (slice_get (copy_places (copy_at online number)) part ≡ Some place) × (place < disc.size)
    place_there f there at on within =
        part_there disc.size f.rec.len part (copy_at online number) (online_is_there (copy_at online number) refl f there at ∙ on)
        (λ copy found. copy_is copy (sym found) f there at) (λ copy found. len_is copy (sym found) f there at) within

    pub part_no : (f : File) → Contains o.contents.files f → f.rec.number ≡ number → f.online ≡ true → part < blocks_for f.rec.len
        → (let none : Option ℕ = None in none ≡ slice_get (copy_places (copy_at online number)) part) → ⊥
    part_no f there at on within none =
        let it = place_there f there at on within in
        let wrong : (let none_one : Option ℕ = None in none_one ≡ Some it.0) = none ∙ it.1 in
        (let no : ⊥ = cc in no)

    pub part_within : (f : File) → Contains o.contents.files f → f.rec.number ≡ number → f.online ≡ true → part < blocks_for f.rec.len
        → (place : ℕ) → (let one : Option ℕ = Some place in one ≡ slice_get (copy_places (copy_at online number)) part) → place < disc.size
    part_within f there at on within place found =
        let it = place_there f there at on within in
        subst (λ (k : ℕ). k < disc.size) (sym (same_place place it.0 (found ∙ it.1))) it.2
      where
        same_place : (j k : ℕ) → (let one : Option ℕ = Some j in one ≡ Some k) → j ≡ k
        same_place j k e = cc

    -- what was read there
    pub part_read : (place : ℕ) (into : List ℕ) → (let one : Option ℕ = Some place in one ≡ slice_get (copy_places (copy_at online number)) part) → ForSome disc.held (λ blocks. slice_get blocks place ≡ Some into)
        → (f : File) → Contains o.contents.files f → f.rec.number ≡ number → ForSome f.bytes (λ text. IsPart text part into)
    part_read place into found read f there at =
        part_of disc.held disc.size part place into (copy_at online number) f.bytes kept.whole (λ copy is_it. copy_is copy (sym is_it) f there at)
        (λ copy is_it. (one_copy f there).bytes copy (copy_there f at ∙ is_it)) (sym found) read
