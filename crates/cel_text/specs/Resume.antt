-- Reading on, once a value is whole. Assumes nothing.
use Rattle.std.specs.Prelude.{ℕ, Bool}
use Rattle.cel_text.specs.Byte.{Text}
use Rattle.cel_text.specs.Tree.{Tree}
use Rattle.cel_text.specs.Reading.{Limits, Stack, root, inside, after, with_child, Outcome, accepted, run}

-- reading on, once the value t is whole, at place q
abbrev pub resume : (ℕ → Bool) → Limits → Stack → Tree → ℕ → Text → Outcome
resume S L root t q rest = accepted t q
resume S L (inside K f) t q rest = run S L (after K (with_child f t)) q rest
