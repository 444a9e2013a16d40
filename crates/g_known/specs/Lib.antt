pub mod ReelNotes
