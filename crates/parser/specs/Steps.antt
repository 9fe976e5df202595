-- What the steps of reading answer, over the machine of `cel_text`: what a step has read is said for every stack of open
-- containers at its depth that has opened as many nodes. Assumes nothing.
use Rattle.std.specs.Prelude.{◌≡◌, ℕ, suc, ◌+◌, ◌*◌, ◌<◌, ◌≤◌, [], ◌∷◌, length, drop, Some, Result, Ok, Err}
use Rattle.std.proofs.lemmas.List.Edits.{sets}
use Rattle.cel_text.specs.Byte.{Text}
use Rattle.cel_text.specs.Tree.{Kind, Key, unkeyed, Tree, Trees, container, nodes, depth, count}
use Rattle.cel_text.specs.Reading.{Stack, inside, Frame, level, opened, State, before, value, quoted, begun, child, fresh, Fault, Outcome, refused, follow, refuse, go, run, limits, max_depth, max_nodes}
use Rattle.cel_text.specs.Table.{Words, rows_of, rows_all, key_from, key_to, row_words, node_words}
use Rattle.cel_text.specs.Answer.{fault_number, max_text}
use Rattle.cel_text.specs.Resume.{resume}
use Rattle.parser.specs.Set.{string_set}
use Rattle.parser.specs.declared.Read.{Read}
use Rattle.parser.specs.declared.Refused.{Refused}
use Rattle.parser.specs.declared.Place.{Place}
use Rattle.parser.specs.declared.value.Kind.{Kind as Told}
use Rattle.parser.specs.declared.value.Opener.{Opener}
use Rattle.parser.specs.declared.value.Opener.TheVariants.{Container}
use Rattle.parser.specs.declared.value.Head.{Head}
use Rattle.parser.specs.declared.value.Key.{Key as Found}
use Rattle.parser.specs.declared.value.Slot.{Slot}
use Rattle.parser.specs.Faults.{number_of}
use Rattle.parser.specs.Kinds.{opens, open_state}

-- the machine at place p of x
abbrev pub reads : State → Text → ℕ → Outcome
reads st x p = run string_set limits st p (drop p x)

-- what the step s at place p leads to
abbrev pub goes_on : Rattle.cel_text.specs.Reading.Step → Text → ℕ → Outcome
goes_on s x p = follow s p (λ st. reads st x (suc p))

-- a stack at which a value is due where n nodes have opened and `left` more containers may open
pub record Around (K : Stack) (n left : ℕ) : Type 0 where
  pub below : level K + left ≡ max_depth
  pub sofar : opened K ≡ n

-- the machine, from a state for each stack around, refuses as the answer says
pub record RefusedBy (st : Stack → State) (x : Text) (at n left r p : ℕ) : Type 0 where
  pub fault : Fault
  pub number : fault_number fault ≡ r
  pub refuses : (K : Stack) → Around K n left → reads (st K) x at ≡ refused fault p
  pub within : p ≤ length x

-- what is lent and where reading stands
pub record Limited (x : Text) (w : Words) (at n left : ℕ) : Type 0 where
  pub short : length x ≤ max_text
  pub inside : at ≤ length x
  pub counted : length w ≡ node_words
  pub few : n ≤ max_nodes
  pub few_left : left ≤ max_depth

-- what opens the value that is due at place p, or that nothing does
pub record Headed (x : Text) (p : ℕ) (opener : Opener) (from to o : ℕ) : Type 0 where
  pub enters : (K : Stack) → reads (before (value K)) x p ≡ goes_on (opens (Some opener) K from to o) x o
  pub later : p ≤ o
  pub inside : o < length x
  pub from_in : from ≤ length x
  pub to_in : to ≤ length x

abbrev pub Begins : Text → ℕ → Result Head Refused → Type 0
Begins x p (Ok h) = Headed x p h.opener h.from.0 h.to.0 h.at.0
Begins x p (Err e) = (n left : ℕ) → RefusedBy (λ K. before (value K)) x p n left (number_of e.fault) e.place.0

-- an opener at place p, under the limits
pub record Entered (opener : Opener) (p n left q : ℕ) : Type 0 where
  pub next : q ≡ suc p
  pub room : n < max_nodes
  pub deeper : (kind : Told) → opener ≡ Container kind → 0 < left
  pub goes : (K : Stack) (from to : ℕ) → Around K n left → opens (Some opener) K from to p ≡ go (open_state opener K from to p)

pub record NotEntered (opener : Opener) (p n left r q : ℕ) : Type 0 where
  pub fault : Fault
  pub number : fault_number fault ≡ r
  pub refuses : (K : Stack) (from to : ℕ) → Around K n left → opens (Some opener) K from to p ≡ refuse fault
  pub there : q ≡ p

abbrev pub Opens : Opener → (p n left : ℕ) → Result Place Refused → Type 0
Opens opener p n left (Ok q) = Entered opener p n left q.0
Opens opener p n left (Err e) = NotEntered opener p n left (number_of e.fault) e.place.0

-- a child that has no key, and a text's first value, which is no child
abbrev pub no_key : Place → Found
no_key due = record { from = record { 0 = 0 }; to = record { 0 = 0 }; due = due }

abbrev pub root_slot : Slot
root_slot = record { node = record { 0 = 0 }; key = no_key (record { 0 = 0 }); parent = record { 0 = 0 } }

-- what is told of a value that was read from place `at` on, as node n, where `left` more containers may open
pub record Sized (t : Tree) (x : Text) (at n left : ℕ) (r : Read) : Type 0 where
  pub counts : r.next.0 ≡ n + nodes t
  pub deep : r.depth ≡ depth t
  pub later : at < r.end.0
  pub within : r.end.0 ≤ length x
  pub more : n < r.next.0
  pub room : r.next.0 ≤ max_nodes
  pub shallow : r.depth ≤ left

-- reading on after the value t of a step
abbrev pub resumes : Stack → Tree → Text → Read → Outcome
resumes K t x r = resume string_set limits K t r.end.0 (drop r.end.0 x)

-- a whole value, from a state for each stack around: its tree and its rows
pub record WholeValue (st : Stack → State) (x : Text) (w w' : Words) (at n left kf kt u : ℕ) (r : Read) : Type 0 where
  pub tree : Tree
  pub reading : (K : Stack) → Around K n left → reads (st K) x at ≡ resumes K tree x r
  pub rows : (k : Key) → key_from k ≡ kf → key_to k ≡ kt → w' ≡ sets w (row_words * n) (rows_of tree k u n)
  pub sized : Sized tree x at n left r

abbrev pub Valued : Text → (w w' : Words) → Slot → (left : ℕ) → Result Read Refused → Type 0
Valued x w w' s left (Ok r) = WholeValue (λ K. before (value K)) x w w' s.key.due.0 s.node.0 left s.key.from.0 s.key.to.0 s.parent.0 r
Valued x w w' s left (Err e) = RefusedBy (λ K. before (value K)) x s.key.due.0 s.node.0 left (number_of e.fault) e.place.0

-- a string whose opener stands before place `at`
abbrev pub StringRead : Text → (w w' : Words) → (at : ℕ) → Slot → Result Read Refused → Type 0
StringRead x w w' at s (Ok r) = (o left : ℕ) → at ≡ suc o → WholeValue (λ K. quoted K o) x w w' at s.node.0 left s.key.from.0 s.key.to.0 s.parent.0 r
StringRead x w w' at s (Err e) = (o left : ℕ) → RefusedBy (λ K. quoted K o) x at s.node.0 left (number_of e.fault) e.place.0

-- an open container with its children so far and the key of the child that comes next
abbrev pub framed : Kind → (o from to : ℕ) → Trees → Key → Frame
framed c o from to ts k = record { kind = c; o = o; from = from; to = to; children = ts; next = k }

-- the key of the child of a container of kind c that is due at place p, and where its value is due
pub record Keyed (x : Text) (c : Kind) (p : ℕ) (k : Found) : Type 0 where
  pub label : Key
  pub keyfrom : key_from label ≡ k.from.0
  pub keyto : key_to label ≡ k.to.0
  pub due : (K : Stack) (o from to : ℕ) (ts : Trees)
      → reads (before (child c K (framed c o from to ts unkeyed))) x p ≡ reads (before (value (inside K (framed c o from to ts label)))) x k.due.0
  pub later : p ≤ k.due.0
  pub within : k.due.0 ≤ length x
  pub from_in : k.from.0 ≤ length x
  pub to_in : k.to.0 ≤ length x

-- a child of a container of kind c, from where it is due: its key, its tree and its rows
pub record WholeChild (c : Kind) (x : Text) (w w' : Words) (at n left u : ℕ) (r : Read) : Type 0 where
  pub label : Key
  pub tree : Tree
  pub reading : (K : Stack) (o from to : ℕ) (ts : Trees) → Around (inside K (framed c o from to ts label)) n left
      → reads (before (child c K (framed c o from to ts unkeyed))) x at ≡ resumes (inside K (framed c o from to ts label)) tree x r
  pub rows : w' ≡ sets w (row_words * n) (rows_of tree label u n)
  pub sized : Sized tree x at n left r

pub record ChildRefused (c : Kind) (x : Text) (at n left r p : ℕ) : Type 0 where
  pub fault : Fault
  pub number : fault_number fault ≡ r
  pub refuses : (K : Stack) (o from to : ℕ) (ts : Trees) → Around (inside K (framed c o from to ts unkeyed)) n left
      → reads (before (child c K (framed c o from to ts unkeyed))) x at ≡ refused fault p
  pub within : p ≤ length x

abbrev pub Labels : Text → ℕ → Kind → Result Found Refused → Type 0
Labels x p c (Ok k) = Keyed x c p k
Labels x p c (Err e) = (n left : ℕ) → ChildRefused c x p n left (number_of e.fault) e.place.0

abbrev pub ChildRead : Kind → Text → (w w' : Words) → (at n left u : ℕ) → Result Read Refused → Type 0
ChildRead c x w w' at n left u (Ok r) = WholeChild c x w w' at n left u r
ChildRead c x w w' at n left u (Err e) = ChildRefused c x at n left (number_of e.fault) e.place.0

-- a whole list and its container's closer: the rows of the children, and the words of the container's row that are known now
pub record WholeList (x : Text) (w w' : Words) (at n : ℕ) (c : Kind) (left : ℕ) (r : Read) : Type 0 where
  pub children : Trees
  pub reading : (K : Stack) (o from to : ℕ) → Around K n (suc left)
      → reads (begun K (fresh c o from to)) x at ≡ resumes K (container c o from to r.end.0 children) x r
  pub rows : w' ≡ sets (sets w (row_words * suc n) (rows_all children (suc n) (suc n))) (row_words * n + 6) (count children ∷ r.next.0 ∷ [])
  pub sized : (o from to q : ℕ) → Sized (container c o from to q children) x at n (suc left) r

abbrev pub Listed : Text → (w w' : Words) → (at n : ℕ) → Kind → (left : ℕ) → Result Read Refused → Type 0
Listed x w w' at n c left (Ok r) = WholeList x w w' at n c left r
Listed x w w' at n c left (Err e) = (o from to : ℕ) → RefusedBy (λ K. begun K (fresh c o from to)) x at n (suc left) (number_of e.fault) e.place.0
