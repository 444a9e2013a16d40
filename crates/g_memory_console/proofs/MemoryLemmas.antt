-- The lines that came, and the bytes of the input that are left.
-- serves: note (noted), put (put), take_line, text (lines)
use Rattle.std.proofs.Common.{subst, ◌≡◌, ◌-◌, ℕ, Bool, true, false, List, [], ◌∷◌, ◌++◌, append_assoc, length, length-append, map, drop, take, refl, sym, ap, ◌∙◌, arith, Option, Some, None}
use Rattle.std.proofs.lemmas.List.{append-nil, take-append-drop}
use Rattle.std.specs.Prelude.{if◌then◌else◌}
use Rattle.std.proofs.Math.Seq.{drop-append_seam}
use Rattle.std.proofs.lemmas.List.{map-append, take_rest}
use Rattle.std.specs.Prelude.{option_map}
use Rattle.g_console.specs.Transcript.{Request, Transcript, line_in, lines_typed, request_codes, requesting, written_of}
use Rattle.g_io.specs.Streams.{with_more}
use Rattle.std.specs.List.{flat_map}
use Rattle.g_lines.specs.Lines.{lines_of}
use Rattle.g_memory_console.specs.Memory.{AreFirst, AreFirstWhile, Leaves, found_end, is_end, request_of, shown, typed_of}
use Rattle.g_memory_console.specs.declared.memory.Noted.{Noted}

more_typed : (requests : List Noted) (n : Noted) → lines_typed (map request_of (requests ++ n ∷ [])) ≡ lines_typed (map request_of requests) ++ line_in (typed_of n.line)
more_typed [] n = append-nil (line_in (typed_of n.line))
more_typed (r ∷ requests) n =
    ap (λ (ls : List (List ℕ)). line_in (typed_of r.line) ++ ls) (more_typed requests n) ∙ sym (append_assoc (line_in (typed_of r.line)) (lines_typed (map request_of requests)) (line_in (typed_of n.line)))

none_found : (requests : List Noted) (n : Noted) → is_end (typed_of n.line) ≡ false → found_end (map request_of (requests ++ n ∷ [])) ≡ found_end (map request_of requests)
none_found [] n other = rw (other) refl
none_found (r ∷ requests) n other = ap (λ (b : Bool). if is_end (typed_of r.line) then true else b) (none_found requests n other)

some_line : (line : List ℕ) (lines : List (List ℕ)) → [] ≡ line ∷ lines → ⊥
some_line line lines e = cc

first_more : (input before after : List ℕ) (requests : List Noted) (n : Noted) (line : Option (List ℕ)) → n.line ≡ line → Leaves (typed_of line) before after
    → AreFirst input before (map request_of requests) → AreFirst input after (map request_of (requests ++ n ∷ []))
first_more input before after requests n None is leaves old = record {
  lines = old.lines ∙ ap (λ (bytes : List ℕ). lines_typed (map request_of requests) ++ lines_of bytes) (leaves.0 ∙ sym leaves.1)
      ∙ ap (λ (ls : List (List ℕ)). ls ++ lines_of after)
      (sym (more_typed requests n ∙ ap (λ (l : Option (List ℕ)). lines_typed (map request_of requests) ++ line_in (typed_of l)) is ∙ append-nil (lines_typed (map request_of requests))));
  all = λ e. leaves.1;
}
first_more input before after requests n (Some line) is leaves old = record {
  lines = old.lines ∙ ap (λ (ls : List (List ℕ)). lines_typed (map request_of requests) ++ ls) leaves
      ∙ sym (append_assoc (lines_typed (map request_of requests)) (line ∷ []) (lines_of after))
      ∙ ap (λ (ls : List (List ℕ)). ls ++ lines_of after)
      (sym (more_typed requests n ∙ ap (λ (l : Option (List ℕ)). lines_typed (map request_of requests) ++ line_in (typed_of l)) is));
  all = λ e. absurd (some_line line (lines_of after) (sym (ap lines_of (old.all (sym (none_found requests n (ap (λ (l : Option (List ℕ)). is_end (typed_of l)) is)) ∙ e))) ∙ leaves));
}

pub first_while : (exposed : Bool) (input before after : List ℕ) (requests : List Noted) (n : Noted) → Leaves (typed_of n.line) before after
    → AreFirstWhile exposed input before requests → AreFirstWhile exposed input after (requests ++ n ∷ [])
first_while true input before after requests n leaves old = first_more input before after requests n n.line refl leaves old
first_while false input before after requests n leaves old = old

-- the bytes after a line are those from their place on
pub left_after : (input front after : List ℕ) (at : ℕ) → drop at input ≡ front ++ after → drop (length input - length after) input ≡ after
left_after input front after at e =
    let whole : input ≡ (take at input ++ front) ++ after = sym (take-append-drop at input) ∙ ap (λ (bytes : List ℕ). take at input ++ bytes) e ∙ sym (append_assoc (take at input) front after) in
    let long : length ((take at input ++ front) ++ after) - length after ≡ length (take at input ++ front) = omega (arith, length-append (take at input ++ front) after) in
    ap (λ (bytes : List ℕ). drop (length bytes - length after) bytes) whole ∙ ap (λ (k : ℕ). drop k ((take at input ++ front) ++ after)) long ∙ drop-append_seam (take at input ++ front) after

-- the same, if the bytes were those of a slice from a place on
pub line_leaves : (input line after : List ℕ) (at : ℕ) → lines_of (take (length input - at) (drop at input)) ≡ line ∷ lines_of after → (front : List ℕ)
    → take (length input - at) (drop at input) ≡ front ++ after → lines_of (drop at input) ≡ line ∷ lines_of (drop (length input - length after) input)
line_leaves input line after at lines front e =
    ap lines_of (sym (take_rest input at)) ∙ lines ∙ ap (λ (bytes : List ℕ). line ∷ lines_of bytes) (sym (left_after input front after at (sym (take_rest input at) ∙ e)))

abbrev requests_in : Option Transcript → List Request
requests_in None = []
requests_in (Some t) = t.requests

-- a transcript that is shown has the requests that were noted
pub shown_first : (exposed : Bool) (input left text : List ℕ) (requests : List Noted) (t : Transcript) → shown exposed requests text ≡ Some t
    → AreFirstWhile exposed input left requests → AreFirst input left t.requests
shown_first true input left text requests t e old = subst (λ (rs : List Request). AreFirst input left rs) (ap requests_in e) old
shown_first false input left text requests t e old = cc

pub shown_more : (exposed : Bool) (requests : List Noted) (text piece : List ℕ)
    → option_map written_of (shown exposed requests (text ++ piece)) ≡ with_more (option_map written_of (shown exposed requests text)) piece
shown_more true requests text piece =
    ap (λ (bytes : List ℕ). Some (length (map request_of requests) ∷ bytes)) (sym (append_assoc (flat_map request_codes (map request_of requests)) text piece))
shown_more false requests text piece = refl

pub shown_noted : (exposed : Bool) (requests : List Noted) (text : List ℕ) (n : Noted) → n.printed ≡ length text
    → shown exposed (requests ++ n ∷ []) text ≡ option_map (requesting (typed_of n.line)) (shown exposed requests text)
shown_noted true requests text n printed =
    ap (λ (rs : List Request). Some (record { requests = rs; text = text }))
    (map-append request_of requests (n ∷ []) ∙ ap (λ (k : ℕ). map request_of requests ++ record { printed = k; typed = typed_of n.line } ∷ []) printed)
shown_noted false requests text n printed = refl
