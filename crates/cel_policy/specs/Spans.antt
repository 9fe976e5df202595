-- The span table, and what a read leaves in it. Assumes nothing.
use Rattle.std.specs.Prelude.{ℕ, zero, suc, ◌*◌, cond, List, [], ◌∷◌, get_or, eqb}
use Rattle.cel_text.specs.Table.{Words, Left, untouched, cleared, filled}
use Rattle.cel_policy.specs.Policy.{Span, Policy, all_strings}

-- “For reading, the first 512 words of the table count.”
abbrev pub span_words : ℕ
span_words = 512

-- “String i has its ends in the words 2i and 2i + 1 of the span table.”
abbrev pub span_rows : List Span → Words
span_rows [] = []
span_rows (s ∷ more) = s.from ∷ s.to ∷ span_rows more

-- “The strings are numbered from 0 through the request headers, the query parameters and the response headers.”
unfoldable pub span_table : Policy Span → Words
span_table p = span_rows (all_strings p)

-- “An accepted text leaves the rows of its tree in the node table and the spans of its policy's strings in the span table.” “Refusal 1 leaves both tables as
-- they were lent, even where only one is too short.” “Refusals 2 to 6 leave zeros in both tables.” “Refusals 7 to 16 leave the rows of the tree in the node
-- table and zeros in the span table.” Any other refusal clears
abbrev pub spans_left : ℕ → Left
spans_left refusal = cond (eqb refusal 0) filled (cond (eqb refusal 1) untouched cleared)

-- the table read back
abbrev pub span_at : Words → ℕ → Span
span_at ws i = record { from = get_or ws (2 * i) 0; to = get_or ws (suc (2 * i)) 0 }

-- n strings of the table, from string i on
abbrev pub spans_at : Words → (n i : ℕ) → List Span
spans_at ws zero i = []
spans_at ws (suc n) i = span_at ws i ∷ spans_at ws n (suc i)
