-- Lines of dumps and files, one after another, while the devices are only read.
-- serves: push_dumps (text), push_files (text), push_rotten_dumps, RottenLemmas, TwinLemmas, VersionLemmas
use Rattle.std.proofs.Common.{◌≡◌, ℕ, ◌+◌, ◌<◌, ◌≤◌, List, [], ◌∷◌, ◌++◌, length, map, take, get_or, refl, sym, ◌∙◌, ap, subst, arith}
use Rattle.std.proofs.lemmas.Grind.{flat_map-append}
use Rattle.std.proofs.lemmas.List.{append-nil, append_assoc, map-append, take_more}
use Rattle.std.specs.Option.{ForSome}
use Rattle.std.proofs.lemmas.List.{take_all}
use Rattle.g_base.specs.Counts.{Rose}
use Rattle.g_copy.specs.declared.copy.DiscCopy.{DiscCopy}
use Rattle.g_disc.specs.Disc.{DiscState, ReadsByCause}
use Rattle.g_disc.proofs.CallLemmas.{ReadsByCause-for, ReadsByCause-none, ReadsByCause-then}
use Rattle.g_entry.specs.declared.file_rec.FileRec.{FileRec}
use Rattle.g_entry.specs.declared.user_rec.UserRec.{UserRec}
use Rattle.g_tape.specs.Rack.{Rack}
use Rattle.g_tape.specs.Reel.{Reel}
use Rattle.g_tape.proofs.ReadLemmas.{more_reads, nothing_read}
use Rattle.g_lines.specs.Lines.{ended, text_of}
use Rattle.g_store_meaning.specs.Meaning.{told_reels}
use Rattle.g_store_meaning.specs.Reading.{ReelsTold}
use Rattle.g_restore.specs.declared.dumps.Found.{Found}
use Rattle.g_look.specs.Looks.{ReadsRackByCause}
use Rattle.g_seal.specs.InMemory.{found_line, rec_line}

-- A RACK THAT IS READ
pub rack_none : (rack : Rack) → ReadsRackByCause ⊥ rack rack
rack_none rack = record { only = nothing_read rack; kept = λ none. refl; rose = λ never. absurd never }

pub rack_then : {P Q : Type 0} {old mid new : Rack} → (P → ⊥) → ReadsRackByCause P old mid → ReadsRackByCause Q mid new → ReadsRackByCause Q old new
rack_then {P} {Q} {old} {mid} {new} never one two = record {
  only = more_reads old mid new one.only two.only;
  kept = λ none. two.kept none ∙ one.kept never;
  rose = λ is. subst (λ (n : ℕ). Rose n new.read_faults) (one.kept never) (two.rose is);
}

pub rack_never : {P : Type 0} {old new : Rack} → (P → ⊥) → ReadsRackByCause P old new → ReadsRackByCause ⊥ old new
rack_never never reads = record { only = reads.only; kept = λ none. reads.kept never; rose = λ wrong. absurd wrong }

-- LINES
-- of the first i dumps, while the rack was read
pub record DumpLines (found : List Found) (i : ℕ) (begun text : List ℕ) (old now : Rack) : Type 0 where
  pub reads : ReadsRackByCause ⊥ old now
  pub text_is : ReelsTold (told_reels old) → text ≡ begun ++ text_of (map (found_line (told_reels old)) (take i found))

-- of the first i files, while both were read
pub record FileLines (users : List UserRec) (online : List (ℕ × DiscCopy)) (files : List FileRec) (i : ℕ) (begun text : List ℕ) (disc dnow : DiscState) (old now : Rack) : Type 0 where
  pub disc_reads : ReadsByCause ⊥ disc dnow
  pub tape_reads : ReadsRackByCause ⊥ old now
  pub text_is : ReelsTold (told_reels old) → ForSome disc.held (λ blocks. text ≡ begun ++ text_of (map (rec_line blocks (told_reels old) users online) (take i files)))

pub line_more : {X : Type 0} (line : X → List ℕ) (xs : List X) (i : ℕ) (x : X) → i < length xs → x ≡ get_or xs i x
    → text_of (map line (take (i + 1) xs)) ≡ text_of (map line (take i xs)) ++ ended (line x)
line_more line xs i x within at =
    ap (λ ys. text_of (map line ys)) (take_more xs i x within ∙ ap (λ y. take i xs ++ y ∷ []) (sym at))
    ∙ ap text_of (map-append line (take i xs) (x ∷ []))
    ∙ flat_map-append ended (map line (take i xs)) (line x ∷ [])
    ∙ ap (λ ys. text_of (map line (take i xs)) ++ ys) (append-nil (ended (line x)))

-- the next line is appended
pub line_next : {X : Type 0} (line : X → List ℕ) (xs : List X) (i : ℕ) (d : X) (begun text next : List ℕ) → i < length xs → text ≡ begun ++ text_of (map line (take i xs)) → next ≡ text ++ ended (line (get_or xs i d))
    → next ≡ begun ++ text_of (map line (take (i + 1) xs))
line_next line xs i d begun text next within is more =
    let last : List ℕ = ended (line (get_or xs i d)) in
    let all : text_of (map line (take (i + 1) xs)) ≡ text_of (map line (take i xs)) ++ last =
    ap (λ ys. text_of (map line ys)) (take_more xs i d within) ∙ ap text_of (map-append line (take i xs) (get_or xs i d ∷ [])) ∙ flat_map-append ended (map line (take i xs)) (line (get_or xs i d) ∷ [])
    ∙ ap (λ ys. text_of (map line (take i xs)) ++ ys) (append-nil last) in
    more ∙ ap (λ (ys : List ℕ). ys ++ last) is ∙ append_assoc begun (text_of (map line (take i xs))) last ∙ ap (λ (ys : List ℕ). begun ++ ys) (sym all)

no_lines : (begun : List ℕ) → begun ≡ begun ++ []
no_lines begun = sym (append-nil begun)

pub no_dumps : (found : List Found) (begun : List ℕ) (rack : Rack) → DumpLines found 0 begun begun rack rack
no_dumps found begun rack = record { reads = rack_none rack; text_is = λ told. no_lines begun }

pub dump_more : {Q : Type 0} (found : List Found) (i : ℕ) (f : Found) (begun text next : List ℕ) (old mid new : Rack) → i < length found → f ≡ get_or found i f → DumpLines found i begun text old mid → (Q → ⊥)
    → ReadsRackByCause Q mid new → (ReelsTold (told_reels mid) → next ≡ text ++ ended (found_line (told_reels mid) f)) → DumpLines found (i + 1) begun next old new
dump_more {Q} found i f begun text next old mid new within at so never reads adds =
    let still : told_reels mid ≡ told_reels old = so.reads.only.reels in
    record {
      reads = rack_then (λ wrong. wrong) so.reads (rack_never never reads);
      text_is = λ told.
          let line : List ℕ = ended (found_line (told_reels old) f) in
          adds (subst ReelsTold (sym still) told) ∙ ap (λ (rs : List Reel). text ++ ended (found_line rs f)) still ∙ ap (λ (xs : List ℕ). xs ++ line) (so.text_is told)
          ∙ append_assoc begun (text_of (map (found_line (told_reels old)) (take i found))) line
          ∙ ap (λ (xs : List ℕ). begun ++ xs) (sym (line_more (found_line (told_reels old)) found i f within at));
    }

pub all_dumps_there : (found : List Found) (i : ℕ) (begun text : List ℕ) (old now : Rack) → length found ≤ i → DumpLines found i begun text old now → ReelsTold (told_reels old)
    → text ≡ begun ++ text_of (map (found_line (told_reels old)) found)
all_dumps_there found i begun text old now all so told = so.text_is told ∙ ap (λ (fs : List Found). begun ++ text_of (map (found_line (told_reels old)) fs)) (take_all i found all)

pub no_files : (users : List UserRec) (online : List (ℕ × DiscCopy)) (files : List FileRec) (begun : List ℕ) (disc : DiscState) (rack : Rack) → FileLines users online files 0 begun begun disc disc rack rack
no_files users online files begun disc rack = record { disc_reads = ReadsByCause-none disc (λ never. never); tape_reads = rack_none rack; text_is = λ told blocks is. no_lines begun }

pub file_more : {P Q : Type 0} (users : List UserRec) (online : List (ℕ × DiscCopy)) (files : List FileRec) (i : ℕ) (r : FileRec) (begun text next : List ℕ) (disc dmid dnew : DiscState) (old mid new : Rack)
    → i < length files → r ≡ get_or files i r → FileLines users online files i begun text disc dmid old mid → (P → ⊥) → (Q → ⊥) → ReadsByCause P dmid dnew → ReadsRackByCause Q mid new
    → (ReelsTold (told_reels mid) → ForSome dmid.held (λ blocks. next ≡ text ++ ended (rec_line blocks (told_reels mid) users online r))) → FileLines users online files (i + 1) begun next disc dnew old new
file_more users online files i r begun text next disc dmid dnew old mid new within at so no_p no_q disc_reads reads adds =
    let still : told_reels mid ≡ told_reels old = so.tape_reads.only.reels in
    record {
      disc_reads = ReadsByCause-then (λ never. never) so.disc_reads (ReadsByCause-for no_p (λ never. absurd never) disc_reads);
      tape_reads = rack_then (λ wrong. wrong) so.tape_reads (rack_never no_q reads);
      text_is = λ told blocks is.
          let line : List ℕ = ended (rec_line blocks (told_reels old) users online r) in
          adds (subst ReelsTold (sym still) told) blocks (so.disc_reads.held ∙ is) ∙ ap (λ (rs : List Reel). text ++ ended (rec_line blocks rs users online r)) still ∙ ap (λ (xs : List ℕ). xs ++ line) (so.text_is told blocks is)
          ∙ append_assoc begun (text_of (map (rec_line blocks (told_reels old) users online) (take i files))) line
          ∙ ap (λ (xs : List ℕ). begun ++ xs) (sym (line_more (rec_line blocks (told_reels old) users online) files i r within at));
    }

pub file_next : {P Q : Type 0} (users : List UserRec) (online : List (ℕ × DiscCopy)) (files slice : List FileRec) (i : ℕ) (r : FileRec) (begun text next : List ℕ) (disc dmid dnew : DiscState) (old mid new : Rack)
    → slice ≡ files → i < length slice → r ≡ get_or slice i r → FileLines users online files i begun text disc dmid old mid → (P → ⊥) → (Q → ⊥) → ReadsByCause P dmid dnew → ReadsRackByCause Q mid new
    → (ReelsTold (told_reels mid) → ForSome dmid.held (λ blocks. next ≡ text ++ ended (rec_line blocks (told_reels mid) users online r))) → FileLines users online files (i + 1) begun next disc dnew old new
file_next users online files slice i r begun text next disc dmid dnew old mid new same inside is =
    file_more users online files i r begun text next disc dmid dnew old mid new (subst (λ (xs : List FileRec). i < length xs) same inside) (subst (λ (xs : List FileRec). r ≡ get_or xs i r) same is)

pub all_files_there : (users : List UserRec) (online : List (ℕ × DiscCopy)) (files slice : List FileRec) (i : ℕ) (begun text : List ℕ) (disc dnow : DiscState) (old now : Rack) → slice ≡ files → length slice ≤ i
    → FileLines users online files i begun text disc dnow old now → ReelsTold (told_reels old) → ForSome disc.held (λ blocks. text ≡ begun ++ text_of (map (rec_line blocks (told_reels old) users online) files))
all_files_there users online files slice i begun text disc dnow old now same all so told blocks is =
    let long = ap (λ (xs : List FileRec). length xs) same in
    so.text_is told blocks is ∙ ap (λ (fs : List FileRec). begun ++ text_of (map (rec_line blocks (told_reels old) users online) fs)) (take_all i files (omega (arith, all, long)))
