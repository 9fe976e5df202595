-- Where a string lies. Assumes nothing.
use Rattle.std.specs.Prelude.{ℕ, suc, ◌+◌, ◌*◌, ◌<◌, ◌≤◌, length}
use Rattle.cel_text.specs.Byte.{Text}
use Rattle.cel_text.specs.Table.{Words}
use Rattle.cel_policy.specs.Spans.{span_at}

-- string i's span is in its table, ordered and inside the text
pub record SpanInside (ws : Words) (x : Text) (i : ℕ) : Type 0 where
  pub in_table : suc (2 * i) < length ws
  pub ordered : (span_at ws i).from ≤ (span_at ws i).to
  pub in_text : (span_at ws i).to ≤ length x

-- the same of each of n strings from string i on
abbrev pub SpansInside : Words → Text → (n i : ℕ) → Type 0
SpansInside ws x n i = (k : ℕ) → k < n → SpanInside ws x (i + k)
