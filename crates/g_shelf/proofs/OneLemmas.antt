-- A reel's blocks have one list of completed dumps.
-- serves: lib, ReadLemmas, SurvivingLemmas, crates above
use Rattle.std.proofs.Common.{◌≡◌, ℕ, ◌+◌, List, [], ◌∷◌, ◌++◌, take, drop, refl, sym, ◌∙◌, ap, arith, subst}
use Rattle.std.specs.Prelude.{map}
use Rattle.std.proofs.lemmas.List.{take-take}
use Rattle.g_incr.specs.Layout.{Dump, StandsOn, size_of, ends, dump_blocks, header_block, mark_block, user_in, file_in}
use Rattle.g_incr.proofs.OneLemmas.{SameHeader, same_cons, same_dump, same_header}
use Rattle.g_shelf.specs.CompletedDumps.{AreNext, CompletedAreOne, IsNext}

-- the first block of each is the block of the reel at that place
same_first : (reel : List (List ℕ)) (d e : Dump) → d.place ≡ e.place → StandsOn reel d → StandsOn reel e → SameHeader d e
unfolding dump_blocks
same_first reel d e place on_d on_e =
    let rest_d : List (List ℕ) = map (user_in d) d.users ++ (map (file_in d) d.files ++ (d.content ++ mark_block d ∷ [])) in
    let rest_e : List (List ℕ) = map (user_in e) e.users ++ (map (file_in e) e.files ++ (e.content ++ mark_block e ∷ [])) in
    let one_d : take 1 (drop d.place reel) ≡ header_block d ∷ [] = sym (take-take 1 (size_of d) (drop d.place reel) (omega arith)) ∙ ap (take 1) on_d.blocks in
    let one_e : take 1 (drop e.place reel) ≡ header_block e ∷ [] = sym (take-take 1 (size_of e) (drop e.place reel) (omega arith)) ∙ ap (take 1) on_e.blocks in
    let first = same_cons (header_block d) (header_block e) [] [] (sym one_d ∙ ap (λ (n : ℕ). take 1 (drop n reel)) place ∙ one_e) in
    same_header d e on_d.rules on_e.rules first.0

pub same_next : (serial : ℕ) (reel : List (List ℕ)) (at from : ℕ) (d e : Dump) → IsNext serial reel at from d → IsNext serial reel at from e → d ≡ e
same_next serial reel at from d e is_d is_e =
    let place = is_d.place ∙ sym is_e.place in
    let header = same_first reel d e place is_d.stands is_e.stands in
    let count : size_of d ≡ size_of e = ap (λ (n : ℕ). n + 2) header.count in
    same_dump d e is_d.stands.rules is_e.stands.rules (is_d.on ∙ sym is_e.on) place
    (sym is_d.stands.blocks ∙ ap (λ (n : ℕ). take n (drop d.place reel)) count ∙ ap (λ (n : ℕ). take (size_of e) (drop n reel)) place ∙ is_e.stands.blocks)

completed : (serial : ℕ) (reel : List (List ℕ)) (at from : ℕ) (ds es : List Dump) → AreNext serial reel at from ds → AreNext serial reel at from es → ds ≡ es
completed serial reel at from [] [] are_d are_e = refl
completed serial reel at from [] (e ∷ es) are_d are_e = let no : ⊥ = are_d e are_e.0 in absurd no
completed serial reel at from (d ∷ ds) [] are_d are_e = let no : ⊥ = are_e d are_d.0 in absurd no
completed serial reel at from (d ∷ ds) (e ∷ es) are_d are_e =
    let one = same_next serial reel at from d e are_d.0 are_e.0 in
    let rest = completed serial reel (ends d) (d.number + 1) ds es are_d.1 (subst (λ (c : Dump). AreNext serial reel (ends c) (c.number + 1) es) (sym one) are_e.1) in
    ap (λ (c : Dump). c ∷ ds) one ∙ ap (λ (l : List Dump). e ∷ l) rest

pub completed_are_one : CompletedAreOne
completed_are_one serial reel ds es are_d are_e = completed serial reel 0 0 ds es are_d.are are_e.are
