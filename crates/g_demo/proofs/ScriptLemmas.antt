-- Lines of a script in order.
-- serves: push_filled, push_job, push_round (lines), push_rounds
use Rattle.std.proofs.Common.{List, [], ap, codes, append_assoc, arith, refl, replicate, subst, suc, sym, ℕ, ◌%◌, ◌*◌, ◌+◌, ◌++◌, ◌∙◌, ◌∷◌, ◌≡◌}
use Rattle.std.specs.Fmt.{decimal}
use Rattle.std.proofs.lemmas.List.{append-nil, replicate_more}
use Rattle.std.proofs.lemmas.List.Concat.{flat_map-append}
use Rattle.g_lines.specs.Lines.{ended, text_of}
use Rattle.g_demo.specs.Script.{at_turn, behind_job, behind_round, behind_rounds, behind_three, drawn, file_name, filled_line, job_lines, next, round_lines, rounds_lines}

-- the text of lines and of one more
pub text_of-last : (lines : List (List ℕ)) (line : List ℕ) → text_of lines ++ ended line ≡ text_of (lines ++ line ∷ [])
text_of-last lines line = ap (λ (e : List ℕ). text_of lines ++ e) (sym (append-nil (ended line))) ∙ sym (flat_map-append ended lines (line ∷ []))

-- one more of n equal lines
filled_more : (text start line : List ℕ) (n : ℕ) → text ≡ start ++ text_of (replicate n line) → (text ++ line) ++ 10 ∷ [] ≡ start ++ text_of (replicate (n + 1) line)
filled_more text start line n is =
    append_assoc text line (10 ∷ [])
    ∙ ap (λ (t : List ℕ). t ++ ended line) is
    ∙ append_assoc start (text_of (replicate n line)) (ended line)
    ∙ ap (λ (t : List ℕ). start ++ t) (text_of-last (replicate n line) line ∙ ap text_of (replicate_more n line))

filled_line_is : (i letter : ℕ) → letter ≡ 65 + i % 26 → replicate 60 letter ≡ filled_line i
unfolding filled_line
filled_line_is i letter is = ap (replicate 60) is

pub filled_put : (text more new start : List ℕ) (i letter n : ℕ) → letter ≡ 65 + i % 26 → text ≡ start ++ text_of (replicate n (filled_line i)) → more ≡ text ++ replicate 60 letter → new ≡ more ++ 10 ∷ []
    → new ≡ start ++ text_of (replicate (n + 1) (filled_line i))
filled_put text more new start i letter n is so_far put last =
    last
    ∙ ap (λ (t : List ℕ). t ++ 10 ∷ []) (put ∙ ap (λ (t : List ℕ). text ++ t) (filled_line_is i letter is))
    ∙ filled_more text start (filled_line i) n so_far

-- one round more
lines_more : (number i : ℕ) → rounds_lines number (i + 1) ≡ rounds_lines number i ++ round_lines (i + 1) (behind_rounds number i)
unfolding rounds_lines
lines_more number i =
    let e : i + 1 ≡ suc i = omega arith in
    subst (λ (j : ℕ). rounds_lines number j ≡ rounds_lines number i ++ round_lines j (behind_rounds number i)) (sym e) refl

rounds_more : (text new start : List ℕ) (number i : ℕ) → text ≡ start ++ text_of (rounds_lines number i) → new ≡ text ++ text_of (round_lines (i + 1) (behind_rounds number i)) → new ≡ start ++ text_of (rounds_lines number (i + 1))
rounds_more text new start number i is more =
    more
    ∙ ap (λ (t : List ℕ). t ++ text_of (round_lines (i + 1) (behind_rounds number i))) is
    ∙ append_assoc start (text_of (rounds_lines number i)) (text_of (round_lines (i + 1) (behind_rounds number i)))
    ∙ ap (λ (t : List ℕ). start ++ t)
    (sym (flat_map-append ended (rounds_lines number i) (round_lines (i + 1) (behind_rounds number i))) ∙ ap text_of (sym (lines_more number i)))

state_more : (number i state new : ℕ) → state ≡ behind_rounds number i → new ≡ behind_round (i + 1) state → new ≡ behind_rounds number (i + 1)
unfolding behind_rounds
state_more number i state new is more =
    let e : i + 1 ≡ suc i = omega arith in
    more ∙ ap (behind_round (i + 1)) is ∙ subst (λ (j : ℕ). behind_round j (behind_rounds number i) ≡ behind_rounds number j) (sym e) refl

pub rounds_put : (text new start : List ℕ) (number i j state : ℕ) → j ≡ i → state ≡ behind_rounds number i → text ≡ start ++ text_of (rounds_lines number i) → new ≡ text ++ text_of (round_lines (j + 1) state)
    → new ≡ start ++ text_of (rounds_lines number (i + 1))
rounds_put text new start number i j state same is so_far put =
    rounds_more text new start number i so_far
    (put ∙ ap (λ (n : ℕ). text ++ text_of (round_lines (n + 1) state)) same ∙ ap (λ (n : ℕ). text ++ text_of (round_lines (i + 1) n)) is)

pub state_put : (number i j state new : ℕ) → j ≡ i → state ≡ behind_rounds number i → new ≡ behind_round (j + 1) state → new ≡ behind_rounds number (i + 1)
state_put number i j state new same is leaves = state_more number i state new is (leaves ∙ ap (λ (n : ℕ). behind_round (n + 1) state) same)

-- no round yet
pub no_rounds : (number : ℕ) → (behind_rounds number 0 ≡ number) × (rounds_lines number 0 ≡ [])
unfolding behind_rounds rounds_lines
no_rounds number = (refl, refl)

-- lines appended to a text
pub behind_then : (t u v : List ℕ) (a b : List (List ℕ)) → u ≡ t ++ text_of a → v ≡ u ++ text_of b → v ≡ t ++ text_of (a ++ b)
behind_then t u v a b first later =
    later
    ∙ ap (λ (s : List ℕ). s ++ text_of b) first
    ∙ append_assoc t (text_of a) (text_of b)
    ∙ ap (λ (s : List ℕ). t ++ s) (sym (flat_map-append ended a b))

pub line_then : (t u v line : List ℕ) (b : List (List ℕ)) → u ≡ t ++ ended line → v ≡ u ++ text_of b → v ≡ t ++ text_of (line ∷ b)
line_then t u v line b first later = behind_then t u v (line ∷ []) b (first ∙ ap (λ (s : List ℕ). t ++ s) (sym (append-nil (ended line)))) later

pub job_put : (t t1 t2 t3 t4 t5 t6 : List ℕ) (i k lines j made listed : ℕ) → made ≡ k → listed ≡ j
    → t1 ≡ t ++ ended (at_turn (4 * i) (codes "JOB J" ++ decimal i ++ codes ",:MASTER,TIME 20"))
    → t2 ≡ t1 ++ ended (codes "INPUT F" ++ decimal made ++ codes "(1)")
    → t3 ≡ t2 ++ text_of (replicate lines (filled_line i))
    → t4 ≡ t3 ++ ended (codes "////")
    → t5 ≡ t4 ++ ended (codes "LISTFILE F" ++ decimal listed ++ codes "(1)")
    → t6 ≡ t5 ++ text_of (codes "ENDJOB" ∷ codes "****" ∷ [])
    → t6 ≡ t ++ text_of (job_lines i k lines j)
job_put t t1 t2 t3 t4 t5 t6 i k lines j made listed is_k is_j head input filled end list last =
    let after_list : List (List ℕ) = codes "ENDJOB" ∷ codes "****" ∷ [] in
    let after_end : List (List ℕ) = (codes "LISTFILE " ++ file_name j) ∷ after_list in
    let after_filled : List (List ℕ) = codes "////" ∷ after_end in
    let after_input : List (List ℕ) = replicate lines (filled_line i) ++ after_filled in
    let input_k : t2 ≡ t1 ++ ended (codes "INPUT " ++ file_name k) = input ∙ ap (λ (n : ℕ). t1 ++ ended (codes "INPUT " ++ file_name n)) is_k in
    let list_j : t5 ≡ t4 ++ ended (codes "LISTFILE " ++ file_name j) = list ∙ ap (λ (n : ℕ). t4 ++ ended (codes "LISTFILE " ++ file_name n)) is_j in
    line_then t t1 t6 (at_turn (4 * i) (codes "JOB J" ++ decimal i ++ codes ",:MASTER,TIME 20")) ((codes "INPUT " ++ file_name k) ∷ after_input) head
    (line_then t1 t2 t6 (codes "INPUT " ++ file_name k) after_input input_k
    (behind_then t2 t3 t6 (replicate lines (filled_line i)) after_filled filled
    (line_then t3 t4 t6 (codes "////") after_end end (line_then t4 t5 t6 (codes "LISTFILE " ++ file_name j) after_list list_j last))))

-- a round's three draws, its job, and the lines after it
pub three_drawn : (state s1 s2 s3 : ℕ) → s1 ≡ next state → s2 ≡ next s1 → s3 ≡ next s2 → s3 ≡ behind_three state
three_drawn state s1 s2 s3 first second third = third ∙ ap next (second ∙ ap next first)

pub round_put : (t u v : List ℕ) (i state s1 s2 s3 k c j : ℕ) → s1 ≡ next state → s2 ≡ next s1 → s3 ≡ next s2 → k ≡ drawn 20 s1 → c ≡ drawn 40 s2 → j ≡ drawn 20 s3
    → u ≡ t ++ text_of (job_lines i k (c + 1) j) → v ≡ u ++ text_of (behind_job i state) → v ≡ t ++ text_of (round_lines i state)
round_put t u v i state s1 s2 s3 k c j first second third made lines listed job behind =
    let second' : s2 ≡ next (next state) = second ∙ ap next first in
    let is_k : k ≡ drawn 20 (next state) = made ∙ ap (drawn 20) first in
    let is_c : c ≡ drawn 40 (next (next state)) = lines ∙ ap (drawn 40) second' in
    let is_j : j ≡ drawn 20 (behind_three state) = listed ∙ ap (drawn 20) (three_drawn state s1 s2 s3 first second third) in
    behind_then t u v (job_lines i (drawn 20 (next state)) (drawn 40 (next (next state)) + 1) (drawn 20 (behind_three state))) (behind_job i state)
    (job
    ∙ ap (λ (n : ℕ). t ++ text_of (job_lines i n (c + 1) j)) is_k
    ∙ ap (λ (n : ℕ). t ++ text_of (job_lines i (drawn 20 (next state)) (n + 1) j)) is_c
    ∙ ap (λ (n : ℕ). t ++ text_of (job_lines i (drawn 20 (next state)) (drawn 40 (next (next state)) + 1) n)) is_j)
    behind
