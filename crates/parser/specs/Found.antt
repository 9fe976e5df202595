-- The answer of reading a tree: the program's struct in the numbers of SPEC.md, and what the steps below `read_over` answer. Assumes nothing.
use Rattle.std.specs.Prelude.{◌≡◌, ℕ, ◌≤◌, Result, Ok, Err}
use Rattle.std.proofs.lemmas.List.Edits.{sets}
use Rattle.cel_text.specs.Byte.{Text}
use Rattle.cel_text.specs.Tree.{Tree}
use Rattle.cel_text.specs.Reading.{max_depth, max_nodes}
use Rattle.cel_text.specs.Table.{Words, Left, untouched, cleared, filled, rows, node_words, nodes_left}
use Rattle.cel_text.specs.Answer.{Answer, refused_at, find_tree, tree, fault, max_text}
use Rattle.parser.specs.Set.{string_set}
use Rattle.parser.specs.declared.Answer.{Answer as Told}
use Rattle.parser.specs.declared.Read.{Read}
use Rattle.parser.specs.declared.Refused.{Refused}
use Rattle.parser.specs.Faults.{number_of}
use Rattle.parser.specs.Steps.{Sized}

-- the struct that the program answers, in the numbers of SPEC.md
abbrev pub told : Told → Answer
told a = record { refusal = a.refusal; name = a.name; kind = a.kind; place = a.place; nodes = a.nodes; depth = a.depth }

-- a tree found, with its rows at the table's start, or a refusal that clears the table
pub record Tree-found (x : Text) (w w' : Words) (r : Read) : Type 0 where
  pub found : Tree
  pub finds : find_tree string_set node_words x ≡ tree found r.end.0
  pub rows_put : w' ≡ sets w 0 (rows found)
  pub sized : Sized found x 0 0 max_depth r

pub record Fault-found (x : Text) (r p : ℕ) : Type 0 where
  pub finds : find_tree string_set node_words x ≡ fault r p
  pub clears : nodes_left r ≡ cleared
  pub within : p ≤ max_text

abbrev pub Finds : Text → (w w' : Words) → Result Read Refused → Type 0
Finds x w w' (Ok r) = Tree-found x w w' r
Finds x w w' (Err e) = Fault-found x (number_of e.fault) e.place.0

-- the numbers of what was found fit an answer's
abbrev pub Small : Result Read Refused → Type 0
Small (Ok r) = (r.next.0 ≤ max_nodes) × (r.depth ≤ max_depth)
Small (Err e) = e.place.0 ≤ max_text

-- the answer about a tree that was read, and the answer that what was found gives
abbrev pub accepted_with : Read → Answer
accepted_with r = record { refusal = 0; name = 0; kind = 0; place = 0; nodes = r.next.0; depth = r.depth }

abbrev pub answer_of : Result Read Refused → Answer
answer_of (Ok r) = accepted_with r
answer_of (Err e) = refused_at (number_of e.fault) e.place.0

-- the first of the counted words that is to be set to 0 after a read
abbrev pub stale_from : Left → ℕ
stale_from untouched = node_words
stale_from cleared = 0
stale_from filled = node_words
