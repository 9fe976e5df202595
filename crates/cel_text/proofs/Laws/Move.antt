-- What one step does, with limits and without: it opens no node, or one; it ends the value; or it refuses. Assumes nothing.
use Rattle.std.specs.Prelude.{◌≡◌, ◌⊎◌, ℕ, suc, ◌+◌, Bool, true, false, cond, List, [], ◌∷◌, ◌++◌, length, eqb}
use Rattle.std.proofs.Math.Path.{refl}
use Rattle.std.proofs.Common.{sym, ap, subst, ◌∙◌, inl, inr, append_assoc, length-append, arith}
use Rattle.cel_text.specs.Byte.{blank, ident_byte, quote, comma, colon}
use Rattle.cel_text.specs.Tree.{Kind, array, object, function, opener, closer, Tree, string, container, Trees, ∅, ◌▸◌∶◌, nodes, nodes_all, Opening, openings, openings_all}
use Rattle.cel_text.specs.Reading.{Limits, unlimited, Stack, root, inside, level, opened, Frame, Due, value, entry, State, before, naming, named, quoted, dropping, begun, after, syntax}
use Rattle.cel_text.specs.Reading.{too_deep, too_many, Step, go, done, refuse, step, start, past, bare, unquote, enter, enter_string, whole, child, closed, fresh, with_child}
use Rattle.cel_text.proofs.Laws.Class.{by-test}

-- ---- the nodes that have opened

abbrev pub at : (place depth : ℕ) → Opening
at p d = record { place = p; depth = d }

abbrev pub opened_in : Stack → List Opening
opened_in root = []
opened_in (inside K f) = opened_in K ++ at f.o (suc (level K)) ∷ openings_all (suc (suc (level K))) f.children

abbrev pub opened_due : Due → List Opening
opened_due (value K) = opened_in K
opened_due (entry K f) = opened_in (inside K f)

abbrev pub opened_by : State → List Opening
opened_by (before w) = opened_due w
opened_by (naming w from) = opened_due w
opened_by (named w from to) = opened_due w
opened_by (quoted K o) = opened_in K ++ at o 0 ∷ []
opened_by (dropping K o to) = opened_in K ++ at o 0 ∷ []
opened_by (begun K f) = opened_in (inside K f)
opened_by (after K f) = opened_in (inside K f)

-- they are as many as `nodes` and `opened` count
mutual
  pub openings-count : (t : Tree) (d : ℕ) → length (openings d t) ≡ nodes t
  openings-count (string o to q) d = refl
  openings-count (container c o from to q ts) d = ap suc (openings_all-count ts (suc d))

  openings_all-count : (ts : Trees) (d : ℕ) → length (openings_all d ts) ≡ nodes_all ts
  openings_all-count ∅ d = refl
  openings_all-count (ts ▸ k ∶ t) d = length-append (openings_all d ts) (openings d t) ∙ (λ i. openings_all-count ts d i + openings-count t d i)

pub opened-count : (K : Stack) → length (opened_in K) ≡ opened K
opened-count root = refl
opened-count (inside K f) =
    let d : ℕ = suc (level K) in
    let inner : length (openings_all (suc d) f.children) ≡ nodes_all f.children = openings_all-count f.children (suc d) in
    let outer : length (opened_in K) ≡ opened K = opened-count K in
    length-append (opened_in K) (at f.o d ∷ openings_all (suc d) f.children) ∙ omega arith

-- ---- one step

module _ (L : Limits) where
  -- no string, and no container where the limits refuse one
  abbrev pub Shallow : ℕ → Type 0
  Shallow d = (d ≡ 0) ⊎ (L.deep d ≡ false)

  -- `Moves p os u v`: at place p, with the nodes os opened, the limits make the step u and no limits make the step v
  pub data Moves (p : ℕ) (os : List Opening) : Step → Step → Type 0 where
    quiet : (st : State) → opened_by st ≡ os → Moves p os (go st) (go st)
    opens : (st : State) (d : ℕ) → opened_by st ≡ os ++ at p d ∷ [] → Shallow d → L.many (length os) ≡ false → Moves p os (go st) (go st)
    finishes : (t : Tree) → openings 1 t ≡ os → Moves p os (done t) (done t)
    stops : Moves p os (refuse syntax) (refuse syntax)
    deep : (st : State) (d : ℕ) → opened_by st ≡ os ++ at p (suc d) ∷ [] → L.deep (suc d) ≡ true → Moves p os (refuse too_deep) (go st)
    many : (st : State) (d : ℕ) → opened_by st ≡ os ++ at p d ∷ [] → Shallow d → L.many (length os) ≡ true → Moves p os (refuse too_many) (go st)

  both : {p : ℕ} {os : List Opening} (t : Bool) {u u' v v' : Step} → Moves p os u u' → Moves p os v v' → Moves p os (cond t u v) (cond t u' v')
  both true m n = m
  both false m n = n

module _ (S : ℕ → Bool) (L : Limits) where
  enter-moves : (c : Kind) (K : Stack) (from to p : ℕ) → Moves L p (opened_in K) (enter S L c K from to p) (enter S unlimited c K from to p)
  unfolding enter
  enter-moves c K from to p =
      by-test (λ u. Moves L p (opened_in K) u (go st)) (L.deep (suc (level K))) _ _ (λ e. deep st (level K) refl e)
      (λ e. by-test (λ u. Moves L p (opened_in K) u (go st)) (L.many (opened K)) _ _
      (λ e'. many st (suc (level K)) refl (inr e) (ap L.many (opened-count K) ∙ e')) (λ e'. opens st (suc (level K)) refl (inr e) (ap L.many (opened-count K) ∙ e')))
    where
      st : State
      st = begun K (fresh c p from to)

  enter_string-moves : (K : Stack) (p : ℕ) → Moves L p (opened_in K) (enter_string S L K p) (enter_string S unlimited K p)
  unfolding enter_string
  enter_string-moves K p =
      by-test (λ u. Moves L p (opened_in K) u (go (quoted K p))) (L.many (opened K)) _ _
      (λ e. many (quoted K p) 0 refl (inl refl) (ap L.many (opened-count K) ∙ e)) (λ e. opens (quoted K p) 0 refl (inl refl) (ap L.many (opened-count K) ∙ e))

  past-moves : (w : Due) (from to p b : ℕ) → Moves L p (opened_due w) (past S L w from to p b) (past S unlimited w from to p b)
  unfolding past
  past-moves (value K) from to p b =
      both L (eqb b (opener object)) (enter-moves object K from to p) (both L (eqb b (opener function)) (enter-moves function K from to p) stops)
  past-moves (entry K f) from to p b = both L (eqb b colon) (quiet _ refl) stops

  bare-moves : (w : Due) (p b : ℕ) → Moves L p (opened_due w) (bare S L w p b) (bare S unlimited w p b)
  unfolding bare
  bare-moves (value K) p b =
      both L (eqb b (opener array)) (enter-moves array K 0 0 p) (both L (eqb b quote) (enter_string-moves K p) (past-moves (value K) p p p b))
  bare-moves (entry K f) p b = past-moves (entry K f) p p p b

  start-moves : (w : Due) (p b : ℕ) → Moves L p (opened_due w) (start S L w p b) (start S unlimited w p b)
  unfolding start
  start-moves w p b = both L (blank b) (quiet (before w) refl) (both L (ident_byte b) (quiet (naming w p) refl) (bare-moves w p b))

  whole-moves : (K : Stack) (t : Tree) (p : ℕ) → Moves L p (opened_in K ++ openings (suc (level K)) t) (whole K t) (whole K t)
  whole-moves root t p = finishes t refl
  whole-moves (inside K f) t p = quiet (after K (with_child f t)) (sym (append_assoc (opened_in K) _ _))

  unquote-moves : (K : Stack) (o to p b : ℕ) → Moves L p (opened_in K ++ at o 0 ∷ []) (unquote S L K o to p b) (unquote S unlimited K o to p b)
  unfolding unquote
  unquote-moves K o to p b = both L (blank b) (quiet (dropping K o to) refl) (both L (eqb b quote) (whole-moves K (string o to (suc p)) p) stops)

  child-opened : (c : Kind) (K : Stack) (f : Frame) → opened_due (child c K f) ≡ opened_in (inside K f)
  child-opened array K f = refl
  child-opened object K f = refl
  child-opened function K f = refl

  pub step-moves : (st : State) (p b : ℕ) → Moves L p (opened_by st) (step S L st p b) (step S unlimited st p b)
  unfolding step
  step-moves (before w) p b = start-moves w p b
  step-moves (naming w from) p b = both L (ident_byte b) (quiet (naming w from) refl) (both L (blank b) (quiet (named w from p) refl) (past-moves w from p p b))
  step-moves (named w from to) p b = both L (blank b) (quiet (named w from to) refl) (past-moves w from to p b)
  step-moves (quoted K o) p b = both L (S b) (quiet (quoted K o) refl) (unquote-moves K o p p b)
  step-moves (dropping K o to) p b = unquote-moves K o to p b
  step-moves (begun K f) p b =
      let w : Due = child f.kind K f in
      both L (blank b) (quiet (begun K f) refl)
      (both L (eqb b (closer f.kind)) (whole-moves K (closed f (suc p)) p)
      (subst (λ os. Moves L p os (start S L w p b) (start S unlimited w p b)) (child-opened f.kind K f) (start-moves w p b)))
  step-moves (after K f) p b =
      both L (blank b) (quiet (after K f) refl)
      (both L (eqb b comma) (quiet (before (child f.kind K f)) (child-opened f.kind K f)) (both L (eqb b (closer f.kind)) (whole-moves K (closed f (suc p)) p) stops))
