-- Reading, as a function that computes: a machine that takes a text byte by byte. A state is what is being read and the
-- containers that are open around it. S is the set of string bytes, L the limits. Assumes nothing.
use Rattle.std.specs.Prelude.{ℕ, suc, ◌+◌, Bool, false, cond, [], ◌∷◌, eqb}
use Rattle.cel_text.specs.Byte.{Text, blank, ident_byte, quote, comma, colon}
use Rattle.cel_text.specs.Tree.{Kind, array, object, function, opener, closer, Key, unkeyed, key, Tree, string, container, Trees, ∅, ◌▸◌∶◌, nodes_all}

-- limits: whether a container may not open at this depth; whether a node may not open when so many have
pub record Limits : Type 0 where
  pub deep : ℕ → Bool
  pub many : ℕ → Bool

-- a container that is open: its kind, its opener's place, its name's ends, its children so far, and the key of the child that comes next
pub record Frame : Type 0 where
  pub kind : Kind
  pub o : ℕ
  pub from : ℕ
  pub to : ℕ
  pub children : Trees
  pub next : Key

-- the open containers, the innermost at hand
pub data Stack : Type 0 where
  root : Stack
  inside : Stack → Frame → Stack

-- how many containers are open
abbrev pub level : Stack → ℕ
level root = 0
level (inside K f) = suc (level K)

-- how many nodes have opened
abbrev pub opened : Stack → ℕ
opened root = 0
opened (inside K f) = suc (opened K + nodes_all f.children)

-- what is due: a value, or an entry, which begins with its key
pub data Due : Type 0 where
  value : Stack → Due
  entry : Stack → Frame → Due

-- what is being read
pub data State : Type 0 where
  before : Due → State  -- the blanks before it
  naming : Due → (from : ℕ) → State  -- the identifier
  named : Due → (from to : ℕ) → State  -- the blanks after the identifier
  quoted : Stack → (o : ℕ) → State  -- a string's content
  dropping : Stack → (o to : ℕ) → State  -- the blanks after a string's content
  begun : Stack → Frame → State  -- the blanks after a container's opener
  after : Stack → Frame → State  -- the blanks after a container's child

pub data Fault : Type 0 where
  syntax too_deep too_many : Fault

-- what a byte does
pub data Step : Type 0 where
  go : State → Step
  done : Tree → Step
  refuse : Fault → Step

-- a container, opened and closed
abbrev pub fresh : Kind → (o from to : ℕ) → Frame
fresh c o from to = record { kind = c; o = o; from = from; to = to; children = ∅; next = unkeyed }

abbrev pub closed : Frame → ℕ → Tree
closed f q = container f.kind f.o f.from f.to q f.children

abbrev pub with_key : Frame → Key → Frame
with_key f k = record { kind = f.kind; o = f.o; from = f.from; to = f.to; children = f.children; next = k }

abbrev pub with_child : Frame → Tree → Frame
with_child f t = record { kind = f.kind; o = f.o; from = f.from; to = f.to; children = f.children ▸ f.next ∶ t; next = unkeyed }

-- the value t is whole: it is the text's, or the innermost container's next child
abbrev pub whole : Stack → Tree → Step
whole root t = done t
whole (inside K f) t = go (after K (with_child f t))

-- “The children of an array or a function are values; those of an object are entries, each a key and a value.”
abbrev pub child : Kind → Stack → Frame → Due
child array K f = value (inside K f)
child function K f = value (inside K f)
child object K f = entry K f

module _ (S : ℕ → Bool) (L : Limits) where
  -- a container or a string opens at place p. “A container that opens inside d others opens at depth d + 1.” “A container that is both too deep and one too
  -- many is refused with 5.”
  unfoldable pub enter : Kind → Stack → (from to p : ℕ) → Step
  enter c K from to p =
      cond (L.deep (suc (level K))) (refuse too_deep) (cond (L.many (opened K)) (refuse too_many) (go (begun K (fresh c p from to))))

  unfoldable pub enter_string : Stack → ℕ → Step
  enter_string K p = cond (L.many (opened K)) (refuse too_many) (go (quoted K p))

  -- the byte b at place p, after an identifier and blanks: the opener of an object or a function, or an entry's `:`
  unfoldable pub past : Due → (from to p b : ℕ) → Step
  past (value K) from to p b =
      cond (eqb b (opener object)) (enter object K from to p) (cond (eqb b (opener function)) (enter function K from to p) (refuse syntax))
  past (entry K f) from to p b = cond (eqb b colon) (go (before (value (inside K (with_key f (key from to)))))) (refuse syntax)

  -- the same where the identifier is empty: the opener of an array or a string too
  unfoldable pub bare : Due → (p b : ℕ) → Step
  bare (value K) p b = cond (eqb b (opener array)) (enter array K 0 0 p) (cond (eqb b quote) (enter_string K p) (past (value K) p p p b))
  bare (entry K f) p b = past (entry K f) p p p b

  unfoldable pub start : Due → (p b : ℕ) → Step
  start w p b = cond (blank b) (go (before w)) (cond (ident_byte b) (go (naming w p)) (bare w p b))

  -- after a string's content. “The blanks between the content and the closing quote are dropped.”
  unfoldable pub unquote : Stack → (o to p b : ℕ) → Step
  unquote K o to p b = cond (blank b) (go (dropping K o to)) (cond (eqb b quote) (whole K (string o to (suc p))) (refuse syntax))

  -- what the byte b at place p does
  unfoldable pub step : State → (p b : ℕ) → Step
  step (before w) p b = start w p b
  step (naming w from) p b = cond (ident_byte b) (go (naming w from)) (cond (blank b) (go (named w from p)) (past w from p p b))
  step (named w from to) p b = cond (blank b) (go (named w from to)) (past w from to p b)
  step (quoted K o) p b = cond (S b) (go (quoted K o)) (unquote K o p p b)
  step (dropping K o to) p b = unquote K o to p b
  step (begun K f) p b =
      cond (blank b) (go (begun K f)) (cond (eqb b (closer f.kind)) (whole K (closed f (suc p))) (start (child f.kind K f) p b))
  step (after K f) p b =
      cond (blank b) (go (after K f))
      (cond (eqb b comma) (go (before (child f.kind K f)))
      (cond (eqb b (closer f.kind)) (whole K (closed f (suc p))) (refuse syntax)))

-- what reading gives: the tree and the place after it, or the fault and its place
pub data Outcome : Type 0 where
  accepted : Tree → ℕ → Outcome
  refused : Fault → ℕ → Outcome

-- where the machine stops: after a whole value; or in a state out of which the next byte, or the text's end, does not lead
pub data Stop : Type 0 where
  ended : Tree → ℕ → Stop
  stopped : State → Fault → ℕ → Stop

abbrev pub outcome : Stop → Outcome
outcome (ended t q) = accepted t q
outcome (stopped st f p) = refused f p

-- one of three, by what a step does
abbrev pub meet : {R : Type 0} → Step → (State → R) → (Tree → R) → (Fault → R) → R
meet (go st) on full off = on st
meet (done t) on full off = full t
meet (refuse f) on full off = off f

-- what follows a step made at place p, where `on` reads on
abbrev pub follow : Step → ℕ → (State → Outcome) → Outcome
follow u p on = meet u on (λ t. accepted t (suc p)) (λ f. refused f p)

module _ (S : ℕ → Bool) (L : Limits) where
  -- reading on from a state, at place p: `full` is told the tree and the place after it, `off` the state, the fault and the place of a stop.
  -- Where the text ends no value is whole.
  abbrev pub reading : {R : Type 0} (full : Tree → ℕ → R) (off : State → Fault → ℕ → R) → State → ℕ → Text → R
  reading full off st p [] = off st syntax p
  reading full off st p (b ∷ bs) = meet (step S L st p b) (λ st'. reading full off st' (suc p) bs) (λ t. full t (suc p)) (λ f. off st f p)

  -- where it stops
  abbrev pub halt : State → ℕ → Text → Stop
  halt = reading ended stopped

  -- and what it gives, whatever the state
  abbrev pub run : State → ℕ → Text → Outcome
  run = reading accepted (λ st. refused)

  -- reading a text
  abbrev pub read : Text → Outcome
  read x = run (before (value root)) 0 x

-- a depth of 32 and 256 nodes are the most: refused is that “a container opens at depth 33” or “a node opens after 256 others”
abbrev pub max_depth : ℕ
max_depth = 32

abbrev pub max_nodes : ℕ
max_nodes = 256

abbrev pub limits : Limits
limits = record { deep = λ d. eqb d (suc max_depth); many = λ n. eqb n max_nodes }

-- no limits
abbrev pub unlimited : Limits
unlimited = record { deep = λ d. false; many = λ n. false }
