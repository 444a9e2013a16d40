-- Blocks that are read one after the other at given numbers.
-- serves: read_copy (text)
use Rattle.std.proofs.Common.{◌≡◌, ℕ, ◌+◌, ◌-◌, ◌*◌, ◌<◌, ◌≤◌, min, List, [], ◌++◌, length, take, get_or, Some, Ok, sym, ap, ◌∙◌, arith, length-append}
use Rattle.std.specs.Prelude.{slice_index_or}
use Rattle.std.proofs.lemmas.List.{length-take, take_all, take_min}
use Rattle.std.proofs.lemmas.Option.{get_or_from_slice_get}
use Rattle.g_disc.specs.Disc.{DiscState, Reads, ReadsByCause}
use Rattle.g_disc.proofs.CallLemmas.{ReadsByCause-Reads_ok, ReadsByCause-none, ReadsByCause-then}
use Rattle.g_copy.specs.Copy.{blocks_at, bytes_at}
use Rattle.g_copy.proofs.Blocks.{take-append, blocks_at-more}

-- n blocks were read, and nothing else was done
pub record HasRead (n : ℕ) (places : List ℕ) (len : ℕ) (bytes : List ℕ) (before after : DiscState) : Type 0 where
  pub state : ReadsByCause ⊥ before after
  pub long : length bytes ≡ min len (512 * n)
  pub text : (b : List (List ℕ)) → before.held ≡ Some b → bytes ≡ bytes_at (take n places) len b

-- nothing was read yet
pub has_read_none : (places : List ℕ) (len : ℕ) (s : DiscState) → HasRead 0 places len [] s s
unfolding blocks_at
has_read_none places len s = record {
  state = ReadsByCause-none s (λ never. never);
  long = omega arith;
  text = λ b told. sym (take_all len [] (omega arith));
}

-- the next block was read, as far as the text goes
pub has_read_more : {T E : Type 0} (n : ℕ) (places : List ℕ) (len : ℕ) (bytes block : List ℕ) (before mid after : DiscState) (x : T) → n < length places → length block ≡ 512 → HasRead n places len bytes before mid
    → Reads {T = T} {E = E} (get_or places n 0) block mid after (Ok x) → HasRead (n + 1) places len (bytes ++ take (min (len - length bytes) 512) block) before after
has_read_more n places len bytes block before mid after x within full was read =
    let part : ℕ = min (len - length bytes) 512 in
    let cut = length-take part block in
    record {
      state = ReadsByCause-then (λ never. never) was.state (ReadsByCause-Reads_ok (λ never. never) read);
      long = let l = was.long in omega (arith, length-append bytes (take part block));
      text = λ b told.
          let at : List ℕ = blocks_at (take n places) b in
          let here : slice_index_or b (get_or places n 0) [] ≡ block = get_or_from_slice_get b (get_or places n 0) block [] (read.block b (was.state.held ∙ told)) in
          let so_far : bytes ≡ take len at = was.text b told in
          let so_long : length bytes ≡ min len (length at) = ap length so_far ∙ length-take len at in
          let left : len - length bytes ≡ len - length at = omega arith in
          let all : take part block ≡ take (len - length bytes) block =
          ap (λ (m : ℕ). take (min (len - length bytes) m) block) (sym full) ∙ take_min (len - length bytes) block in
          ap (λ (zs : List ℕ). zs ++ take part block) so_far ∙ ap (λ (zs : List ℕ). take len at ++ zs) (all ∙ ap (λ (m : ℕ). take m block) left)
          ∙ sym (ap (take len) (blocks_at-more places n b within ∙ ap (λ (zs : List ℕ). at ++ zs) here) ∙ take-append len at block);
    }

-- all were read
pub has_read_all : (places : List ℕ) (len : ℕ) (bytes : List ℕ) (before after : DiscState) → len ≤ 512 * length places → HasRead (length places) places len bytes before after
    → (length bytes ≡ len) × ((b : List (List ℕ)) → before.held ≡ Some b → bytes_at places len b ≡ bytes)
has_read_all places len bytes before after fits was = (
  let l = was.long in omega arith,
  λ b told. sym (was.text b told ∙ ap (λ (ps : List ℕ). bytes_at ps len b) (take_all (length places) places (omega arith))),
)
