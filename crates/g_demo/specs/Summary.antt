-- The summary of a text: its numbers of lines and bytes, and a number into which every byte is folded.
use Rattle.std.specs.Prelude.{List, codes, length, [], ℕ, ◌%◌, ◌*◌, ◌+◌, ◌++◌, ◌==◌, ◌^◌, ◌∷◌}
use Rattle.std.specs.Fmt.{decimal}
use Rattle.std.specs.List.{count_by, fold}
use Rattle.g_demo.specs.declared.demonstration.Demonstration.{Demonstration}
use Rattle.g_demo.specs.declared.summary.Summary.{Summary}
use Rattle.g_lines.specs.Lines.{text_of}

-- The number of bytes 10.
abbrev pub line_count : List ℕ → ℕ
line_count text = count_by (λ byte. byte == 10) text

-- One byte is folded in.
abbrev pub folded : ℕ → ℕ → ℕ
folded so_far byte = (31 * so_far + byte) % 2 ^ 32

-- The number into which all bytes of a text are folded.
abbrev pub fold_of : List ℕ → ℕ
fold_of text = fold folded 0 text

-- THE SUMMARY of a text
abbrev pub summary_of : List ℕ → Summary
summary_of text = record { lines = line_count text; bytes = length text; fold = fold_of text }

-- The four lines that a demonstration prints of its summary.
abbrev pub summary_lines : Demonstration → Summary → List (List ℕ)
summary_lines demo summary =
    (codes "DEMO " ++ decimal demo.number ++ codes " " ++ decimal demo.rounds)
    ∷ (codes "LINES " ++ decimal summary.lines)
    ∷ (codes "BYTES " ++ decimal summary.bytes)
    ∷ (codes "FOLD " ++ decimal summary.fold)
    ∷ []

-- The text that a demonstration prints.
abbrev pub summary_text : Demonstration → Summary → List ℕ
summary_text demo summary = text_of (summary_lines demo summary)
