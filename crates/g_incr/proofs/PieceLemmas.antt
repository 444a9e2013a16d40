-- The individual blocks of a dump, as the plan gives them.
-- serves: content, file, header, mark, user, DumpLemmas, WaitingLemmas, crates above
use Rattle.std.proofs.Common.{◌≡◌, ◌⊎◌, ℕ, zero, suc, ◌+◌, ◌^◌, ◌<◌, true, false, List, [], ◌∷◌, ◌++◌, length, get_or, take, Some, None, refl, sym, ◌∙◌, ap, arith, slice_get, subst, inl, inr}
use Rattle.std.specs.Prelude.{◌==◌, map, option_map, IfSome, Option, if◌then◌else◌}
use Rattle.std.proofs.lemmas.Bool.{cases_Bool, cond-false, cond-true, eq-eqb, ne_eqb}
use Rattle.std.proofs.lemmas.List.{length-map}
use Rattle.std.proofs.lemmas.Option.{get_or_from_slice_get, slice_get-get_or, slice_get-map, slice_get_within}
use Rattle.g_base.specs.Block.{blocks_for}
use Rattle.g_entry.specs.declared.file_rec.FileRec.{FileRec}
use Rattle.g_entry.specs.declared.user_rec.UserRec.{UserRec}
use Rattle.g_entry.specs.declared.format.Format.TheVariants.{Two}
use Rattle.g_entry.specs.FileFields.{IsFile, file_block}
use Rattle.g_incr.specs.declared.note.DumpNote.{DumpNote}
use Rattle.g_incr.specs.Layout.{Dump, count_of, dump_blocks, file_in, header_block, mark_block, numbers_in, user_in}
use Rattle.g_incr.specs.Notes.{IsNoteOf}
use Rattle.g_incr.specs.Pieces.{dumped_rec}
use Rattle.g_incr.specs.Plan.{IsContentAt, IsPlan, IsReadyAt, Plan, blocks_of, content_blocks, dump_of, first_content, needs, noted_rec, waiting, waits, with_number}
use Rattle.g_incr.proofs.ListLemmas.{get_behind, get_front, get_seam}
use Rattle.g_incr.proofs.PlanLemmas.{blocks_keeps, blocks_most, blocks_waits, file_keeps, length-made, made, made_keeps, made_of, made_waits}

-- a block of content, counted from the first one, is block `part` of the i-th version that waits
pub record IsVersionAt (files : List FileRec) (offset i part : ℕ) : Type 0 where
  pub version : FileRec
  pub there : slice_get (waiting files) i ≡ Some version
  pub within : part < blocks_for version.len
  pub at : offset ≡ blocks_of (take i (waiting files)) + part

-- THE BLOCKS OF A DUMP
module _ (d : Dump) where
  pub at_header : slice_get (dump_blocks d) 0 ≡ Some (header_block d)
  unfolding dump_blocks
  at_header = refl

  pub at_user : (i : ℕ) (u : UserRec) → slice_get d.users i ≡ Some u → slice_get (dump_blocks d) (1 + i) ≡ Some (user_in d u)
  unfolding dump_blocks
  at_user i u is =
      let users : List (List ℕ) = map (user_in d) d.users in
      let rest : List (List ℕ) = map (file_in d) d.files ++ (d.content ++ mark_block d ∷ []) in
      ap (slice_get (header_block d ∷ (users ++ rest))) (let next : 1 + i ≡ suc i = omega arith in next)
      ∙ get_front users rest i (user_in d u) (slice_get-map (user_in d) d.users i ∙ ap (option_map (user_in d)) is)

  pub at_file : (i : ℕ) (r : FileRec) → slice_get d.files i ≡ Some r → slice_get (dump_blocks d) (1 + length d.users + i) ≡ Some (file_in d r)
  unfolding dump_blocks
  at_file i r is =
      let users : List (List ℕ) = map (user_in d) d.users in
      let files : List (List ℕ) = map (file_in d) d.files in
      let rest : List (List ℕ) = d.content ++ mark_block d ∷ [] in
      let long = length-map d.users (user_in d) in
      ap (slice_get (header_block d ∷ (users ++ (files ++ rest)))) (let next : 1 + length d.users + i ≡ suc (length users + i) = omega arith in next)
      ∙ get_behind users (files ++ rest) i
      ∙ get_front files rest i (file_in d r) (slice_get-map (file_in d) d.files i ∙ ap (option_map (file_in d)) is)

  pub at_mark : (k : ℕ) → k ≡ count_of d + 1 → slice_get (dump_blocks d) k ≡ Some (mark_block d)
  unfolding dump_blocks
  at_mark k is =
      let users : List (List ℕ) = map (user_in d) d.users in
      let files : List (List ℕ) = map (file_in d) d.files in
      let rest : List (List ℕ) = d.content ++ mark_block d ∷ [] in
      let long = length-map d.users (user_in d) in
      let long_files = length-map d.files (file_in d) in
      ap (slice_get (header_block d ∷ (users ++ (files ++ rest)))) (let next : k ≡ suc (length users + (length files + length d.content)) = omega arith in next)
      ∙ get_behind users (files ++ rest) (length files + length d.content) ∙ get_behind files rest (length d.content) ∙ get_seam d.content (mark_block d) []

-- THE RECORDS of a plan's dump
made_at : (serial n at : ℕ) (rs : List FileRec) (i : ℕ) (r : FileRec) → slice_get rs i ≡ Some r
    → slice_get (made serial n at rs) i ≡ Some (with_number (n + i) (if waits r then noted_rec serial (at + blocks_of (waiting (take i rs))) r else r))
made_at serial n at [] i r is = absurd (let no : ⊥ = cc in no)
made_at serial n at (s ∷ rs) i r is =
    by_copy (cases_Bool (waits s)) i is
    (λ j there. made_at serial (n + 1) (at + blocks_for s.len) rs j r there)
    (λ j there. made_at serial (n + 1) at rs j r there)
  where
    made_rec : ℕ → ℕ → FileRec
    made_rec m place = with_number m (if waits r then noted_rec serial place r else r)

    by_copy : (waits s ≡ true) ⊎ (waits s ≡ false) → (i : ℕ) → slice_get (s ∷ rs) i ≡ Some r
        → ((j : ℕ) → slice_get rs j ≡ Some r → slice_get (made serial (n + 1) (at + blocks_for s.len) rs) j ≡ Some (with_number (n + 1 + j) (if waits r then noted_rec serial (at + blocks_for s.len + blocks_of (waiting (take j rs))) r else r)))
        → ((j : ℕ) → slice_get rs j ≡ Some r → slice_get (made serial (n + 1) at rs) j ≡ Some (with_number (n + 1 + j) (if waits r then noted_rec serial (at + blocks_of (waiting (take j rs))) r else r)))
        → slice_get (made serial n at (s ∷ rs)) i ≡ Some (with_number (n + i) (if waits r then noted_rec serial (at + blocks_of (waiting (take i (s ∷ rs)))) r else r))
    by_copy (inl wait) zero here gets keeps =
        let same : s ≡ r = cc in
        let wait_r : waits r ≡ true = ap waits (sym same) ∙ wait in
        ap (λ (l : List FileRec). slice_get l 0) (made_waits serial n at s rs wait)
        ∙ ap (λ (t : FileRec). Some (with_number n (noted_rec serial at t))) same
        ∙ ap (λ (m : ℕ). Some (with_number m (noted_rec serial at r))) (let sum : n ≡ n + 0 = omega arith in sum)
        ∙ ap (λ (m : ℕ). Some (with_number (n + 0) (noted_rec serial m r))) (let sum : at ≡ at + 0 = omega arith in sum)
        ∙ ap (λ (t : FileRec). Some (with_number (n + 0) t)) (sym (cond-true (waits r) (noted_rec serial (at + 0) r) r wait_r))
    by_copy (inr wait) zero here gets keeps =
        let same : s ≡ r = cc in
        let wait_r : waits r ≡ false = ap waits (sym same) ∙ wait in
        ap (λ (l : List FileRec). slice_get l 0) (made_keeps serial n at s rs wait)
        ∙ ap (λ (t : FileRec). Some (with_number n t)) same
        ∙ ap (λ (m : ℕ). Some (with_number m r)) (let sum : n ≡ n + 0 = omega arith in sum)
        ∙ ap (λ (t : FileRec). Some (with_number (n + 0) t)) (sym (cond-false (waits r) (noted_rec serial (at + 0) r) r wait_r))
    by_copy (inl wait) (suc j) here gets keeps =
        let sum = blocks_waits s (take j rs) wait in
        ap (λ (l : List FileRec). slice_get l (suc j)) (made_waits serial n at s rs wait) ∙ gets j here
        ∙ ap (λ (m : ℕ). Some (with_number m (if waits r then noted_rec serial (at + blocks_for s.len + blocks_of (waiting (take j rs))) r else r))) (let next : n + 1 + j ≡ n + suc j = omega arith in next)
        ∙ ap (λ (m : ℕ). Some (with_number (n + suc j) (if waits r then noted_rec serial m r else r))) (let next : at + blocks_for s.len + blocks_of (waiting (take j rs)) ≡ at + blocks_of (waiting (take (suc j) (s ∷ rs))) = omega (arith, sum) in next)
    by_copy (inr wait) (suc j) here gets keeps =
        let sum = blocks_keeps s (take j rs) wait in
        ap (λ (l : List FileRec). slice_get l (suc j)) (made_keeps serial n at s rs wait) ∙ keeps j here
        ∙ ap (λ (m : ℕ). Some (with_number m (if waits r then noted_rec serial (at + blocks_of (waiting (take j rs))) r else r))) (let next : n + 1 + j ≡ n + suc j = omega arith in next)
        ∙ ap (λ (m : ℕ). Some (with_number (n + suc j) (if waits r then noted_rec serial m r else r))) (let next : at + blocks_of (waiting (take j rs)) ≡ at + blocks_of (waiting (take (suc j) (s ∷ rs))) = omega (arith, sum) in next)

-- PIECES of a plan
module _ (p : Plan) where
  pub note_is : (content : List (List ℕ)) (n : DumpNote) → length content ≡ content_blocks p → n.number ≡ p.number → n.place ≡ p.place → n.next_stamp ≡ p.next
      → n.users ≡ length p.users → n.files ≡ length p.files → n.count + 2 ≡ needs p → IsNoteOf (dump_of p content) n
  note_is content n long number place next users files count =
      let made_long = length-made p.serial 0 (first_content p) p.files in
      record { number = number; place = place; count = omega (arith, made_long); users = users; files = files ∙ sym made_long; next_stamp = next }

  pub dumped_at : (content : List (List ℕ)) (i : ℕ) (r : FileRec) → slice_get p.files i ≡ Some r → slice_get (dump_of p content).files i ≡ Some (dumped_rec p i r)
  dumped_at content i r is =
      made_at p.serial 0 (first_content p) p.files i r is
      ∙ ap (λ (m : ℕ). Some (with_number m (if waits r then noted_rec p.serial (first_content p + blocks_of (waiting (take i p.files))) r else r))) (let sum : 0 + i ≡ i = omega arith in sum)

  pub dumped_is : IsPlan p → (i : ℕ) (r : FileRec) → slice_get p.files i ≡ Some r → IsFile (dumped_rec p i r)
  dumped_is plan i r is =
      let c = first_content p in
      let to = c + content_blocks p in
      let most = blocks_most p.files plan.each_file in
      let few = plan.files.few in
      let users = plan.users.few in
      let place = plan.place in
      let low : to < 2 ^ 32 = omega arith in
      let within = slice_get_within p.files i r is in
      let there = get_or_from_slice_get p.files i r r is in
      let same : get_or (made p.serial 0 c p.files) i r ≡ dumped_rec p i r = get_or_from_slice_get (made p.serial 0 c p.files) i (dumped_rec p i r) r (dumped_at [] i r is) in
      let of = made_of p.serial 0 c c to p.files (omega arith) (omega arith) i r within in
      subst IsFile same (file_keeps p.serial c to (get_or p.files i r) (get_or (made p.serial 0 c p.files) i r) of plan.serial low (plan.each_file i r within))

  pub user_ready : (i : ℕ) (u : UserRec) (block : List ℕ) → slice_get p.users i ≡ Some u → block ≡ user_in (dump_of p []) u → IsReadyAt p (1 + i) block
  user_ready i u block there is = record { is = λ content long. at_user (dump_of p content) i u there ∙ ap (λ (b : List ℕ). Some b) (sym is) }

  pub file_ready : (i : ℕ) (r : FileRec) (block : List ℕ) → slice_get p.files i ≡ Some r → block ≡ file_in (dump_of p []) (dumped_rec p i r) → IsReadyAt p (1 + length p.users + i) block
  file_ready i r block there is = record {
    is = λ content long. at_file (dump_of p content) i (dumped_rec p i r) (dumped_at content i r there) ∙ ap (λ (b : List ℕ). Some b) (sym is);
  }

  pub header_ready : (block : List ℕ) → ((content : List (List ℕ)) → length content ≡ content_blocks p → block ≡ header_block (dump_of p content)) → IsReadyAt p 0 block
  header_ready block is = record { is = λ content long. at_header (dump_of p content) ∙ ap (λ (b : List ℕ). Some b) (sym (is content long)) }

  pub mark_ready : (block : List ℕ) (k : ℕ) → k + 1 ≡ needs p → ((content : List (List ℕ)) → length content ≡ content_blocks p → block ≡ mark_block (dump_of p content)) → IsReadyAt p k block
  mark_ready block k last is = record {
    is = λ content long.
        let made_long = length-made p.serial 0 (first_content p) p.files in
        at_mark (dump_of p content) k (omega (arith, made_long)) ∙ ap (λ (b : List ℕ). Some b) (sym (is content long));
  }

  pub content_at_version : (k i part offset : ℕ) → offset + 1 + length p.users + length p.files ≡ k → IsVersionAt p.files offset i part → IsContentAt p k i part
  content_at_version k i part offset sum is = let at = is.at in record { version = is.version; there = is.there; within = is.within; at = omega arith }

  -- the record of a file as the dump has it
  dumped_from : (i : ℕ) (s : FileRec) → i < length p.files → IfSome (slice_get p.files i) (λ r. s ≡ dumped_rec p i r) → (r : FileRec) × (slice_get p.files i ≡ Some r) × (s ≡ dumped_rec p i r)
  dumped_from i s within is =
      let r = get_or p.files i s in
      let at : slice_get p.files i ≡ Some r = slice_get-get_or p.files i s within in
      (r, at, subst (λ (o : Option FileRec). IfSome o (λ r'. s ≡ dumped_rec p i r')) at is)

  pub dumped_file : IsPlan p → (i : ℕ) (s : FileRec) → i < length p.files → IfSome (slice_get p.files i) (λ r. s ≡ dumped_rec p i r) → IsFile s
  dumped_file plan i s within is =
      let (r, at, same) = dumped_from i s within is in
      subst IsFile (sym same) (dumped_is plan i r at)

  pub file_piece : (i : ℕ) (s : FileRec) (block : List ℕ) → i < length p.files → IfSome (slice_get p.files i) (λ r. s ≡ dumped_rec p i r) → block ≡ file_block Two s (numbers_in s)
      → IsReadyAt p (1 + length p.users + i) block
  file_piece i s block within is here =
      let (r, at, same) = dumped_from i s within is in
      file_ready i r block at (here ∙ ap (λ (t : FileRec). file_block Two t (numbers_in t)) same)

pub numbers_empty : (s : FileRec) → s.len ≡ 0 → numbers_in s ≡ Some []
numbers_empty s is = cond-true (s.len == 0) (Some []) None (eq-eqb s.len 0 is)

pub numbers_none : (s : FileRec) → (s.len ≡ 0 → ⊥) → numbers_in s ≡ None
numbers_none s is = cond-false (s.len == 0) (Some []) None (ne_eqb s.len 0 is)
