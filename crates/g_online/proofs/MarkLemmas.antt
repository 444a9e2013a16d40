-- In which blocks two directories differ.
-- serves: carry_head (covers), BringStepLemmas, CloseMarkLemmas, EraseLemmas, FileLemmas, PutLemmas, RecordLemmas, UnjamLemmas, UnloadLemmas, UserLemmas
use Rattle.std.proofs.Common.{◌≡◌, ◌≢◌, ℕ, ◌+◌, ◌-◌, ◌<◌, ◌≤◌, ◌==◌, Bool, true, false, List, refl, ap, arith, slice_get, if◌then◌else◌}
use Rattle.std.specs.Prelude.{nat_lt}
use Rattle.std.proofs.lemmas.Bool.{eqb-true, eq-eqb, ltb-true, ltb-false}
use Rattle.g_entry.specs.declared.format.Format.TheVariants.{Two}
use Rattle.g_entry.specs.declared.user_rec.UserRec.{UserRec}
use Rattle.g_entry.specs.HeadFields.{head_block}
use Rattle.g_dirs.specs.Directory.{Directory, FileEntry}
use Rattle.g_dirs.specs.Image.{block_of, entry_at, file_or_empty, user_or_empty}

chosen : (b c : Bool) (h k u v f g : List ℕ) → (b ≡ true → h ≡ k) → (b ≡ false → c ≡ true → u ≡ v) → (b ≡ false → c ≡ false → f ≡ g)
    → (if b then h else (if c then u else f)) ≡ (if b then k else (if c then v else g))
chosen true c h k u v f g heads users files = heads refl
chosen false true h k u v f g heads users files = users refl refl
chosen false false h k u v f g heads users files = files refl refl

past_zero : (j : ℕ) → (j == 0) ≡ false → 1 ≤ j
past_zero j differs = let other : j ≢ 0 = λ is. (let wrong = eq-eqb j 0 is in let never : ⊥ = cc in never) in omega arith

-- block j is the same, if the part that it is made of is
pub same_block : (d e : Directory) (j : ℕ) → (j ≡ 0 → e.head ≡ d.head) → (1 ≤ j → j < 64 → slice_get e.users (j - 1) ≡ slice_get d.users (j - 1))
    → (64 ≤ j → entry_at e.files (j - 64) ≡ entry_at d.files (j - 64)) → block_of Two e j ≡ block_of Two d j
unfolding block_of
same_block d e j heads users files =
    chosen (j == 0) (nat_lt j 64) (head_block Two e.head) (head_block Two d.head) (user_or_empty Two (slice_get e.users (j - 1))) (user_or_empty Two (slice_get d.users (j - 1)))
    (file_or_empty Two (entry_at e.files (j - 64))) (file_or_empty Two (entry_at d.files (j - 64)))
    (λ is. ap (head_block Two) (heads (eqb-true j 0 is)))
    (λ not less. ap (user_or_empty Two) (users (past_zero j not) (ltb-true j 64 less)))
    (λ not past. ap (file_or_empty Two) (files (ltb-false j 64 past)))

-- all but the head's block
pub but_head : (d e : Directory) → e.users ≡ d.users → e.files ≡ d.files → (j : ℕ) → j ≢ 0 → block_of Two e j ≡ block_of Two d j
but_head d e users files j other =
    same_block d e j (λ is. absurd (other is)) (λ low less. ap (λ (us : List UserRec). slice_get us (j - 1)) users) (λ past. ap (λ (fs : List FileEntry). entry_at fs (j - 64)) files)

-- all but that of user n
pub but_user : (n : ℕ) (d e : Directory) → e.head ≡ d.head → ((i : ℕ) → i ≢ n → slice_get e.users i ≡ slice_get d.users i) → e.files ≡ d.files
    → (j : ℕ) → j ≢ 1 + n → block_of Two e j ≡ block_of Two d j
but_user n d e head users files j other =
    same_block d e j (λ is. head) (λ low less. users (j - 1) (λ same. other (omega (arith, same)))) (λ past. ap (λ (fs : List FileEntry). entry_at fs (j - 64)) files)

-- all but that of file n
pub but_file : (n : ℕ) (d e : Directory) → e.head ≡ d.head → e.users ≡ d.users → ((i : ℕ) → i ≢ n → entry_at e.files i ≡ entry_at d.files i)
    → (j : ℕ) → j ≢ 64 + n → block_of Two e j ≡ block_of Two d j
but_file n d e head users files j other =
    same_block d e j (λ is. head) (λ low less. ap (λ (us : List UserRec). slice_get us (j - 1)) users) (λ past. files (j - 64) (λ same. other (omega (arith, same))))
