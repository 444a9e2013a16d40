-- How many commits there were.
-- serves: commits_are_told
use Rattle.std.proofs.Common.{◌≡◌, ℕ, zero, suc, ◌+◌, ◌^◌, ◌<◌, ◌≤◌, ◌∙◌, ap, arith, sym}
use Rattle.g_slots.specs.declared.side.Side.{Side}
use Rattle.g_slots.specs.declared.side.Side.TheVariants.{A, B}
use Rattle.g_slots.specs.Layout.{other}
use Rattle.g_disc_contents.specs.Commits.{Commits}
use Rattle.g_disc_contents.specs.Facts.{Layout}
use Rattle.g_store_meaning.specs.Answers.{WroteCommits}
use Rattle.g_store_meaning.specs.StoreInvariant.{StoreFacts}
use Rattle.g_laws_store.specs.Commits.{CommitsAreTold, side_after}

sides : (k n : ℕ) (old new : Layout) → Commits k old new n → new.side ≡ side_after k old.side
sides zero n old new (same, none) = ap (λ (l : Layout). l.side) same
sides (suc k) n old new (mid, a, b, one, rest, sum) = sides k b mid new rest ∙ ap (side_after k) one.side

gates : (k n : ℕ) (old new : Layout) → Commits k old new n → k ≤ n
gates zero n old new is = omega arith
gates (suc k) n old new (mid, a, b, one, rest, sum) =
    let le = gates k b mid new rest in
    let written = one.written in
    omega (arith, le, written, sum)

-- a side more isn't the side
apart : (k : ℕ) (side : Side) → side_after k side ≡ side_after k (other side) → ⊥
apart zero A e = cc
apart zero B e = cc
apart (suc k) side e = apart k (other side) e

one_more : (k : ℕ) (old new : StoreFacts) → WroteCommits k old new → WroteCommits (suc k) old new → ⊥
one_more k old new one two =
    apart k old.online.layout.side
    (sym (sides k one.blocks old.online.layout new.online.layout one.commits) ∙ sides (suc k) two.blocks old.online.layout new.online.layout two.commits)

writes : (k : ℕ) (old new : StoreFacts) → (wrote : WroteCommits k old new) → old.online.disc.writes + wrote.blocks < 2 ^ 64
    → old.online.disc.writes + k ≤ new.online.disc.writes
writes k old new wrote fits =
    let le = gates k wrote.blocks old.online.layout new.online.layout wrote.commits in
    let is = wrote.writes.exactly fits in
    omega (arith, le, is)

pub commits_are_told : CommitsAreTold
commits_are_told = record { sides = sides; gates = gates; one_more = one_more; writes = writes }
