-- Where the limits refuse: at the opener of the first node that they do not admit, and never where the syntax does. Assumes nothing.
use Rattle.std.specs.Prelude.{◌≡◌, refl, ◌⊎◌, ◌↔◌, ℕ, zero, suc, ◌+◌, ◌≤◌, ◌<◌, Bool, true, false, List, [], ◌∷◌, ◌++◌, length, take, drop}
use Rattle.std.proofs.Common.{sym, ap, subst, subst₂, ◌∙◌, inl, inr, ⊎_elim, add-zero, zero-add, append_assoc, append-nil, length-append, take-append-drop, take-take, length-take-le, arith, eqb-true}
use Rattle.std.proofs.Math.Option.{some}
use Rattle.std.proofs.Math.Decide.{dec_le}
use Rattle.std.proofs.Math.ListN.{get_elem?}
use Rattle.std.proofs.lemmas.List.{take-append-le}
use Rattle.std.proofs.Math.Seq.{take-append-add, take-append_seam}
use Rattle.std.proofs.lemmas.Bool.{eqb-false}
use Rattle.cel_text.specs.Byte.{Text, ◌⧺◌, Plain}
use Rattle.cel_text.specs.Tree.{Tree, Opening, openings, OpensAs}
use Rattle.cel_text.specs.Grammar.{Legal, Viable, Always}
use Rattle.cel_text.specs.Reading.{Limits, unlimited, limits, max_depth, max_nodes, root, value, State, before, Fault, syntax, too_deep, too_many, Step, go, done, refuse, step, Outcome, accepted}
use Rattle.cel_text.specs.Reading.{refused, run, read}
use Rattle.cel_text.proofs.Laws.Trace.{Trace, here, there, traced, trace-snoc, trace-take, Accepts, Refuses, Stops, Ends, ends}
use Rattle.cel_text.proofs.Laws.Move.{at, opened_by, Shallow, Moves, quiet, opens, finishes, stops, deep, many, step-moves}
use Rattle.cel_text.proofs.Laws.Sound.{Reads, sound}
use Rattle.cel_text.proofs.Laws.Place.{trace-unlimited, trace-viable, legal-accepted, refused-longest, dead, moves-done, moves-syntax}

-- constructors that differ: `clash cc`
pub clash : {A : Type 0} → ◌≡◌ {A = ℕ} 0 1 → A
clash e = absurd (omega arith)

-- ---- looking up in lists put together

get_elem-append : (os more : List Opening) (n : ℕ) (o : Opening) → get_elem? (os ++ more) n ≡ some o → (get_elem? os n ≡ some o) ⊎ ((m : ℕ) × (get_elem? more m ≡ some o))
get_elem-append [] more n o e = inr (n, e)
get_elem-append (x ∷ os) more zero o e = inl e
get_elem-append (x ∷ os) more (suc n) o e = get_elem-append os more n o e

get_elem-last : (os : List Opening) (u : Opening) (n : ℕ) (o : Opening) → get_elem? (os ++ u ∷ []) n ≡ some o → (get_elem? os n ≡ some o) ⊎ ((n ≡ length os) × (u ≡ o))
get_elem-last [] u zero o e = inr (refl, cc)
get_elem-last [] u (suc n) o e = inl e
get_elem-last (x ∷ os) u zero o e = inl e
get_elem-last (x ∷ os) u (suc n) o e = ⊎_elim (λ h. inl h) (λ h. inr (ap suc h.0, h.1)) (get_elem-last os u n o e)

get_elem-seam : (os : List Opening) (o : Opening) (more : List Opening) → get_elem? (os ++ o ∷ [] ++ more) (length os) ≡ some o
get_elem-seam [] o more = refl
get_elem-seam (x ∷ os) o more = get_elem-seam os o more

-- every opening stands at p or later
abbrev From : ℕ → List Opening → Type 0
From p [] = Unit
From p (o ∷ os) = (p ≤ o.place) × From p os

from-earlier : (p q : ℕ) → q ≤ p → (os : List Opening) → From p os → From q os
from-earlier p q h [] f = tt
from-earlier p q h (o ∷ os) f = (omega (arith, f.0), from-earlier p q h os f.1)

from-later : (p j d : ℕ) → j < p → (os : List Opening) (n : ℕ) → From p os → get_elem? os n ≡ some (at j d) → ⊥
from-later p j d h [] n f e = clash cc
from-later p j d h (o ∷ os) zero f e =
    let same : o ≡ at j d = cc in
    let place : o.place ≡ j = ap (λ (u : Opening). u.place) same in
    omega (arith, f.0)
from-later p j d h (o ∷ os) (suc n) f e = from-later p j d h os n f.1 e

-- ---- what a step and a trace open

module _ (L : Limits) {p : ℕ} {os : List Opening} where
  step-grows : {u v : Step} (st : State) → Moves L p os u v → v ≡ go st → (opened_by st ≡ os) ⊎ ((d : ℕ) × (opened_by st ≡ os ++ at p d ∷ []))
  step-grows st (quiet st' e) q = let same : st ≡ st' = cc in inl (ap opened_by same ∙ e)
  step-grows st (opens st' d e s m) q = let same : st ≡ st' = cc in inr (d, ap opened_by same ∙ e)
  step-grows st (finishes t e) q = clash cc
  step-grows st stops q = clash cc
  step-grows st (deep st' d e l) q = let same : st ≡ st' = cc in inr (suc d, ap opened_by same ∙ e)
  step-grows st (many st' d e s l) q = let same : st ≡ st' = cc in inr (d, ap opened_by same ∙ e)

  -- the same of a step that the limits let go on: what it opens they admit
  step-fine : {u v : Step} (st : State) → Moves L p os u v → u ≡ go st → (opened_by st ≡ os) ⊎ ((d : ℕ) × (opened_by st ≡ os ++ at p d ∷ []) × Shallow L d × (L.many (length os) ≡ false))
  step-fine st (quiet st' e) q = let same : st ≡ st' = cc in inl (ap opened_by same ∙ e)
  step-fine st (opens st' d e s m) q = let same : st ≡ st' = cc in inr (d, ap opened_by same ∙ e, s, m)
  step-fine st (finishes t e) q = clash cc
  step-fine st stops q = clash cc
  step-fine st (deep st' d e l) q = clash cc
  step-fine st (many st' d e s l) q = clash cc

  step-done : {u v : Step} (t : Tree) → Moves L p os u v → v ≡ done t → openings 1 t ≡ os
  step-done t (quiet st e) q = clash cc
  step-done t (opens st d e s m) q = clash cc
  step-done t (finishes t' e) q = let same : t ≡ t' = cc in ap (openings 1) same ∙ e
  step-done t stops q = clash cc
  step-done t (deep st d e l) q = clash cc
  step-done t (many st d e s l) q = clash cc

  step-deep : {u v : Step} → Moves L p os u v → u ≡ refuse too_deep → (st : State) × (d : ℕ) × (v ≡ go st) × (opened_by st ≡ os ++ at p (suc d) ∷ []) × (L.deep (suc d) ≡ true)
  step-deep (quiet st e) q = clash cc
  step-deep (opens st d e s m) q = clash cc
  step-deep (finishes t e) q = clash cc
  step-deep stops q = clash cc
  step-deep (deep st d e l) q = (st, d, refl, e, l)
  step-deep (many st d e s l) q = clash cc

  step-many : {u v : Step} → Moves L p os u v → u ≡ refuse too_many → (st : State) × (d : ℕ) × (v ≡ go st) × (opened_by st ≡ os ++ at p d ∷ []) × Shallow L d × (L.many (length os) ≡ true)
  step-many (quiet st e) q = clash cc
  step-many (opens st d e s m) q = clash cc
  step-many (finishes t e) q = clash cc
  step-many stops q = clash cc
  step-many (deep st d e l) q = clash cc
  step-many (many st d e s l) q = (st, d, refl, e, s, l)

module _ (S : ℕ → Bool) where
  record Grown (st : State) (p : ℕ) (st' : State) : Type 0 where
    more : List Opening
    grows : opened_by st' ≡ opened_by st ++ more
    later : From p more

  trace-grows : {st st' : State} {p : ℕ} {v : Text} → Trace S unlimited st p v st' → Grown st p st'
  trace-grows {st = st} here = record { more = []; grows = sym (append-nil (opened_by st)); later = tt }
  trace-grows {st = st} {st' = st''} {p = p} (there {st' = st'} {b = b} e tr) = by (trace-grows tr) (step-grows unlimited st' (step-moves S unlimited st p b) e)
    where
      by : Grown st' (suc p) st'' → (opened_by st' ≡ opened_by st) ⊎ ((d : ℕ) × (opened_by st' ≡ opened_by st ++ at p d ∷ [])) → Grown st p st''
      by g (inl q) = record { more = g.more; grows = g.grows ∙ ap (λ (os : List Opening). os ++ g.more) q; later = from-earlier (suc p) p (omega arith) g.more g.later }
      by g (inr q) =
          record {
            more = at p q.0 ∷ g.more;
            grows = g.grows ∙ ap (λ (os : List Opening). os ++ g.more) q.1 ∙ append_assoc (opened_by st) (at p q.0 ∷ []) g.more;
            later = (omega arith, from-earlier (suc p) p (omega arith) g.more g.later);
          }

  -- every opening stands below p
  abbrev Below : ℕ → List Opening → Type 0
  Below p os = (n : ℕ) (o : Opening) → get_elem? os n ≡ some o → o.place < p

  trace-below : {st st' : State} {p : ℕ} {v : Text} → Trace S unlimited st p v st' → Below p (opened_by st) → Below (p + length v) (opened_by st')
  trace-below {p = p} here f = rw add-zero f
  trace-below {st = st} {st' = st''} {p = p} (there {st' = st'} {b = b} {v = v} e tr) f =
      subst (λ (n : ℕ). Below n (opened_by st'')) (omega arith) (trace-below tr (by (step-grows unlimited st' (step-moves S unlimited st p b) e)))
    where
      by : (opened_by st' ≡ opened_by st) ⊎ ((d : ℕ) × (opened_by st' ≡ opened_by st ++ at p d ∷ [])) → Below (suc p) (opened_by st')
      by (inl q) = subst (Below (suc p)) (sym q) (λ n o h. omega (arith, f n o h))
      by (inr q) = subst (Below (suc p)) (sym q.1) (λ n o h.
          ⊎_elim (λ g. omega (arith, f n o g)) (λ g. let here : p ≡ o.place = ap (λ (u : Opening). u.place) g.1 in omega arith)
          (get_elem-last (opened_by st) (at p q.0) n o h))

  -- the openings of an accepted tree begin with those made on the way
  accepted-grows : (st : State) (p : ℕ) (x : Text) (t : Tree) (q : ℕ) → run S unlimited st p x ≡ accepted t q → (more : List Opening) × (openings 1 t ≡ opened_by st ++ more) × From p more
  accepted-grows st p x t q e =
      let a : Accepts S unlimited st p x t q = subst (Ends S unlimited st p x) e (ends S unlimited st p x) in
      let g : Grown st p a.state = trace-grows a.trace in
      (g.more, step-done unlimited t (step-moves S unlimited a.state (p + length a.before) a.last) a.ends ∙ g.grows, g.later)

  module _ (L : Limits) where
    -- the limits admit each opening, by its depth and by its number
    abbrev Fine : List Opening → Type 0
    Fine os = (n : ℕ) (o : Opening) → get_elem? os n ≡ some o → Shallow L o.depth × (L.many n ≡ false)

    trace-fine : {st st' : State} {p : ℕ} {v : Text} → Trace S L st p v st' → Fine (opened_by st) → Fine (opened_by st')
    trace-fine here f = f
    trace-fine {st = st} {p = p} (there {st' = st'} {b = b} e tr) f = trace-fine tr (by (step-fine L st' (step-moves S L st p b) e))
      where
        by : (opened_by st' ≡ opened_by st) ⊎ ((d : ℕ) × (opened_by st' ≡ opened_by st ++ at p d ∷ []) × Shallow L d × (L.many (length (opened_by st)) ≡ false)) → Fine (opened_by st')
        by (inl q) = subst Fine (sym q) f
        by (inr q) = subst Fine (sym q.1) (λ n o h.
            ⊎_elim (λ g. f n o g) (λ g. (subst (λ (u : Opening). Shallow L u.depth) g.1 q.2, ap L.many g.0 ∙ q.3)) (get_elem-last (opened_by st) (at p q.0) n o h))

  module _ (P : Plain S) where
    -- a completion of what a trace has passed opens what the trace did, and the rest later
    completed : {v : Text} {st : State} → Trace S unlimited (before (value root)) 0 v st → (x : Text) → x ≡ v → (w : Text) (l : Legal S (x ⧺ w))
        → (more : List Opening) × (openings 1 l.tree ≡ opened_by st ++ more) × From (length v) more
    completed {v = v} {st = st} tr x e w l =
        let n : ℕ = 0 + length v in
        let q : ℕ = length l.value in
        let r : run S unlimited st n w ≡ accepted l.tree q = sym (traced S unlimited tr w) ∙ ap (λ (y : Text). read S unlimited (y ++ w)) (sym e) ∙ legal-accepted S P (x ⧺ w) l in
        let g = accepted-grows st n w l.tree q r in
        (g.0, g.1, subst (λ (m : ℕ). From m g.0) (zero-add (length v)) g.2)

    -- j is in the text, the bytes up to it and it are viable, and in every completion it opens node n, at depth d, and nothing at another depth
    record OpenedAt (x : Text) (n j d : ℕ) : Type 0 where
      in_text : j < length x
      viable : Viable S (take (suc j) x)
      always : Always S (λ t. OpensAs t n j d) (take (suc j) x)
      only : Always S (λ t. (m e : ℕ) → OpensAs t m j e → e ≡ d) (take (suc j) x)

    front : (v : Text) (b : ℕ) (bs : Text) → take (suc (length v)) (v ++ b ∷ bs) ≡ v ++ b ∷ []
    front v b bs = ap (λ (n : ℕ). take n (v ++ b ∷ bs)) (let e : suc (length v) ≡ length v + 1 = omega arith in e) ∙ take-append-add v (b ∷ bs) 1

    opened-at : {v : Text} {st : State} → Trace S unlimited (before (value root)) 0 v st → (b : ℕ) (bs : Text) (st' : State) (d : ℕ)
        → step S unlimited st (0 + length v) b ≡ go st' → opened_by st' ≡ opened_by st ++ at (0 + length v) d ∷ [] → OpenedAt (v ++ b ∷ bs) (length (opened_by st)) (length v) d
    opened-at {v = v} {st = st} tr b bs st' d e o =
        record {
          in_text = simp length-append (omega arith);
          viable = rw front (trace-viable S P tr');
          always = λ w l. let g = opened w l in ap (λ (us : List Opening). get_elem? us (length os)) g.1 ∙ get_elem-seam os (at (length v) d) g.0;
          only = λ w l m e h.
              let g = opened w l in
              let here : Opening = at (length v) e in
              by m e g.0 g.2 (get_elem-append (os ++ at (length v) d ∷ []) g.0 m here (ap (λ (us : List Opening). get_elem? us m) (sym g.1) ∙ h));
        }
      where
        os : List Opening
        os = opened_by st

        tr' : Trace S unlimited (before (value root)) 0 (v ++ b ∷ []) st'
        tr' = trace-snoc S unlimited tr b e

        o' : opened_by st' ≡ os ++ at (length v) d ∷ []
        o' = o ∙ ap (λ (n : ℕ). os ++ at n d ∷ []) (zero-add (length v))

        -- what a completion opens: what was open, the node at this byte, and more behind it
        opened : (w : Text) (l : Legal S (take (suc (length v)) (v ++ b ∷ bs) ⧺ w))
            → (more : List Opening) × (openings 1 l.tree ≡ (os ++ at (length v) d ∷ []) ++ more) × From (suc (length v)) more
        opened w l =
            let g = completed tr' (take (suc (length v)) (v ++ b ∷ bs)) (front v b bs) w l in
            (g.0, g.1 ∙ ap (λ (us : List Opening). us ++ g.0) o', subst (λ (n : ℕ). From n g.0) (simp length-append (omega arith)) g.2)

        last : (m e : ℕ) → (get_elem? os m ≡ some (at (length v) e)) ⊎ ((m ≡ length os) × (at (length v) d ≡ at (length v) e)) → e ≡ d
        last m e (inl h) = absurd (let low : length v < 0 + length v = trace-below tr (λ n u q. clash cc) m (at (length v) e) h in omega arith)
        last m e (inr h) = sym (ap (λ (u : Opening). u.depth) h.1)

        by : (m e : ℕ) (more : List Opening) → From (suc (length v)) more
            → (get_elem? (os ++ at (length v) d ∷ []) m ≡ some (at (length v) e)) ⊎ ((k : ℕ) × (get_elem? more k ≡ some (at (length v) e))) → e ≡ d
        by m e more f (inl h) = last m e (get_elem-last os (at (length v) d) m (at (length v) e) h)
        by m e more f (inr h) = absurd (from-later (suc (length v)) (length v) e (omega arith) more h.0 f h.1)

    refuses : (L : Limits) (x : Text) (f : Fault) (j : ℕ) → read S L x ≡ refused f j → Refuses S L (before (value root)) 0 x f j
    refuses L x f j e = subst (Ends S L (before (value root)) 0 x) e (ends S L (before (value root)) 0 x)

    module _ (L : Limits) where
      -- a limit's refusal falls on an opener
      deep-stop : {v : Text} {st : State} → Trace S L (before (value root)) 0 v st → (y : Text) → Stops S L st (0 + length v) y too_deep
          → (n : ℕ) × (d : ℕ) × OpenedAt (v ++ y) n (length v) (suc d) × (L.deep (suc d) ≡ true)
      deep-stop tr [] e = clash cc
      deep-stop {v = v} {st = st} tr (b ∷ bs) e =
          let m = step-deep L (step-moves S L st (0 + length v) b) e in
          (length (opened_by st), m.1, opened-at (trace-unlimited S L tr) b bs m.0 (suc m.1) m.2 m.3, m.4)

      many-stop : {v : Text} {st : State} → Trace S L (before (value root)) 0 v st → (y : Text) → Stops S L st (0 + length v) y too_many
          → (n : ℕ) × (d : ℕ) × OpenedAt (v ++ y) n (length v) d × Shallow L d × (L.many n ≡ true)
      many-stop tr [] e = clash cc
      many-stop {v = v} {st = st} tr (b ∷ bs) e =
          let m = step-many L (step-moves S L st (0 + length v) b) e in
          (length (opened_by st), m.1, opened-at (trace-unlimited S L tr) b bs m.0 m.1 m.2 m.3, m.4, m.5)

      -- an opening that the limits do not admit is not made, nor is a place after it reached
      fine-start : Fine L []
      fine-start n o e = clash cc

      -- the openings at j in a completion of what the limits let pass
      passed : {v : Text} {st : State} → Trace S L (before (value root)) 0 v st → (x : Text) → x ≡ v → (w : Text) (l : Legal S (x ⧺ w)) (n j d : ℕ) → j < length v → OpensAs l.tree n j d
          → Shallow L d × (L.many n ≡ false)
      passed {v = v} {st = st} tr x e w l n j d h o =
          let g = completed (trace-unlimited S L tr) x e w l in
          let os : List Opening = opened_by st in
          let o' : get_elem? (os ++ g.0) n ≡ some (at j d) = ap (λ (us : List Opening). get_elem? us n) (sym g.1) ∙ o in
          ⊎_elim (λ q. trace-fine L tr fine-start n (at j d) q) (λ q. absurd (from-later (length v) j d h g.0 q.0 g.2 q.1)) (get_elem-append os g.0 n (at j d) o')

-- ---- T3'

-- “a container opens at depth 33”; “a node opens after 256 others”, which is node 256, and it is not refused with 5; what the limits do not admit
abbrev pub Depth33 : (n d : ℕ) → Type 0
Depth33 n d = d ≡ suc max_depth

abbrev pub Node257 : (n d : ℕ) → Type 0
Node257 n d = (n ≡ max_nodes) × (d ≡ suc max_depth → ⊥)

abbrev pub Barred : (n d : ℕ) → Type 0
Barred n d = (d ≡ suc max_depth) ⊎ (n ≡ max_nodes)

-- in no completion of the bytes before j does such a node open below j
abbrev pub Clear : (S : ℕ → Bool) (x : Text) (j : ℕ) → Type 0
Clear S x j = Always S (λ t. (n i d : ℕ) → OpensAs t n i d → i < j → Barred n d → ⊥) (take j x)

-- `Falls S B x j`: the text goes on viably with its byte at j; in every completion a node that B marks, by its number and depth, opens there; and none that the limits do not admit opens below
pub record Falls (S : ℕ → Bool) (B : (n d : ℕ) → Type 0) (x : Text) (j : ℕ) : Type 0 where
  pub in_text : j < length x
  pub viable : Viable S (take (suc j) x)
  pub opens : Always S (λ t. (n : ℕ) × (d : ℕ) × OpensAs t n j d × B n d) (take (suc j) x)
  pub clear : Clear S x j

-- a completion of some bytes is one of fewer
fewer : (S : ℕ → Bool) (x : Text) (i k : ℕ) → i ≤ k → (w : Text) (l : Legal S (take k x ⧺ w)) → Legal S (take i x ⧺ (drop i (take k x) ⧺ w))
fewer S x i k h w l =
    let gone : Text = drop i (take k x) in
    let joined : take i x ++ gone ≡ take k x = ap (λ (y : Text). y ++ gone) (sym (take-take i k x h)) ∙ take-append-drop i (take k x) in
    record {
      value = l.value;
      rest = l.rest;
      tree = l.tree;
      split = sym (append_assoc (take i x) gone w) ∙ ap (λ (y : Text). y ++ w) joined ∙ l.split;
      reads = l.reads;
    }

module _ (S : ℕ → Bool) (P : Plain S) where
  deep-opened : (L : Limits) (x : Text) (j : ℕ) → read S L x ≡ refused too_deep j → (n : ℕ) × (d : ℕ) × OpenedAt S P x n j (suc d) × (L.deep (suc d) ≡ true)
  deep-opened L x j e =
      let r : Refuses S L (before (value root)) 0 x too_deep j = refuses S P L x too_deep j e in
      let m = deep-stop S P L r.trace r.rest r.stops in
      (m.0, m.1, subst₂ (λ (y : Text) (i : ℕ). OpenedAt S P y m.0 i (suc m.1)) (sym r.split) (sym (r.place ∙ zero-add (length r.before))) m.2, m.3)

  many-opened : (L : Limits) (x : Text) (j : ℕ) → read S L x ≡ refused too_many j → (n : ℕ) × (d : ℕ) × OpenedAt S P x n j d × Shallow L d × (L.many n ≡ true)
  many-opened L x j e =
      let r : Refuses S L (before (value root)) 0 x too_many j = refuses S P L x too_many j e in
      let m = many-stop S P L r.trace r.rest r.stops in
      (m.0, m.1, subst₂ (λ (y : Text) (i : ℕ). OpenedAt S P y m.0 i m.1) (sym r.split) (sym (r.place ∙ zero-add (length r.before))) m.2, m.3, m.4)

  depth33-bad : (d : ℕ) → d ≡ suc max_depth → Shallow limits d → ⊥
  depth33-bad d e s = ⊎_elim (λ (z : d ≡ 0). omega arith) (λ q. eqb-false d (suc max_depth) q e) s

  -- what is barred the limits do not admit
  barred : (n d : ℕ) → Barred n d → Shallow limits d × (limits.many n ≡ false) → ⊥
  barred n d (inl e) s = depth33-bad d e s.0
  barred n d (inr e) s = eqb-false n max_nodes s.1 e

  -- below a refusal all is clear
  pub refused-clear : (x : Text) (f : Fault) (j : ℕ) → read S limits x ≡ refused f j → Clear S x j
  refused-clear x f j e =
      let r : Refuses S limits (before (value root)) 0 x f j = refuses S P limits x f j e in
      subst₂ (Clear S) (sym r.split) (sym (r.place ∙ zero-add (length r.before))) (λ w l n i d o h b.
      barred n d b (passed S P limits r.trace (take (length r.before) (r.before ++ r.rest)) (take-append_seam r.before r.rest) w l n i d h o))

  -- ... and where all is clear a limit does not refuse
  pub clear-limit : (x : Text) (f : Fault) (i j : ℕ) → read S limits x ≡ refused f i → (f ≡ syntax → ⊥) → i < j → Viable S (take j x) → Clear S x j → ⊥
  unfolding fewer
  clear-limit x f i j e nf h u c = by f e nf
    where
      w : Text
      w = u.further

      bad : (n d : ℕ) → OpenedAt S P x n i d → Barred n d → ⊥
      bad n d o b = c w u.legal n i d (o.always (drop (suc i) (take j x) ⧺ w) (fewer S x (suc i) j h w u.legal)) h b

      by : (f : Fault) → read S limits x ≡ refused f i → (f ≡ syntax → ⊥) → ⊥
      by syntax e nf = nf refl
      by too_deep e nf = let m = deep-opened limits x i e in bad m.0 (suc m.1) m.2 (inl (eqb-true (suc m.1) (suc max_depth) m.3))
      by too_many e nf = let m = many-opened limits x i e in bad m.0 m.1 m.2 (inr (eqb-true m.0 max_nodes m.4))

  -- where it falls the limits refuse, if B marks only what is barred
  module _ (B : (n d : ℕ) → Type 0) (bars : (n d : ℕ) → B n d → Barred n d) where
    not-accepted : (x : Text) (j : ℕ) → Falls S B x j → (t : Tree) (q : ℕ) → read S limits x ≡ accepted t q → ⊥
    not-accepted x j h t q e =
        let a : Accepts S limits (before (value root)) 0 x t q = subst (Ends S limits (before (value root)) 0 x) e (ends S limits (before (value root)) 0 x) in
        let r : Reads S x t q = sound S limits x t q e in
        let l : Legal S (take (suc j) x ⧺ drop (suc j) x) = record { value = r.value; rest = r.rest; tree = t; split = take-append-drop (suc j) x ∙ r.split; reads = r.reads } in
        let m = h.opens (drop (suc j) x) l in
        let p : ℕ = 0 + length a.before in
        let moves = step-moves S limits a.state p a.last in
        let last : openings 1 t ≡ opened_by a.state = step-done limits t moves (moves-done limits t moves a.ends) in
        barred m.0 m.1 (bars m.0 m.1 m.3)
        (trace-fine S limits a.trace (fine-start S P limits) m.0 (at j m.1) (ap (λ (us : List Opening). get_elem? us m.0) (sym last) ∙ m.2))

    stops-syntax : (st : State) (p : ℕ) (y : Text) (f : Fault) → f ≡ syntax → Stops S limits st p y f → Stops S unlimited st p y syntax
    stops-syntax st p [] f e s = refl
    stops-syntax st p (b ∷ bs) f e s = moves-syntax limits (step-moves S limits st p b) (s ∙ ap refuse e)

    falls-here : (x : Text) (j : ℕ) → Falls S B x j → (f : Fault) (i : ℕ) → read S limits x ≡ refused f i → (i ≡ j) × (f ≡ syntax → ⊥)
    falls-here x j h f i e = (elim (dec_le (suc i) j) [ yes lo ↦ absurd (clear-limit x f i j e illegal lo before-viable h.clear) | no n ↦ omega (arith, n, not-later) ], illegal)
      where
        r : Refuses S limits (before (value root)) 0 x f i
        r = refuses S P limits x f i e

        v : Text
        v = r.before

        before-viable : Viable S (take j x)
        before-viable = record { further = drop j (take (suc j) x) ⧺ h.viable.further; legal = fewer S x j (suc j) (omega arith) h.viable.further h.viable.legal }

        not-passed : suc j ≤ length v → ⊥
        not-passed le =
            let tk : (st : State) × Trace S limits (before (value root)) 0 (take (suc j) v) st = trace-take S limits r.trace (suc j) in
            let begins : take (suc j) x ≡ take (suc j) v = ap (take (suc j)) r.split ∙ take-append-le (suc j) v r.rest le in
            let m = h.opens h.viable.further h.viable.legal in
            let inside : j < length (take (suc j) v) = rw (length-take-le (suc j) v le) (omega arith) in
            barred m.0 m.1 (bars m.0 m.1 m.3)
            (passed S P limits tk.1 (take (suc j) x) begins h.viable.further h.viable.legal m.0 j m.1 inside m.2)

        place : i ≡ length v
        place = r.place ∙ zero-add (length v)

        not-later : i ≤ j
        not-later = elim (dec_le (suc j) (length v)) [ yes le ↦ absurd (not-passed le) | no n ↦ omega (arith, n, place) ]

        illegal : f ≡ syntax → ⊥
        illegal fs =
            let long : length x ≡ length (v ++ r.rest) = ap length r.split in
            let at : length v < suc j = omega (arith, not-later, place) in
            let in-text : suc j ≤ length (v ++ r.rest) = omega (arith, h.in_text, long) in
            dead S P (trace-unlimited S limits r.trace) syntax r.rest (stops-syntax r.state (0 + length v) r.rest f fs r.stops) (suc j) at in-text
            (subst (λ (z : Text). Viable S (take (suc j) z)) r.split h.viable)

    -- ... at that place, and not for the syntax
    falls-refused : (x : Text) (j : ℕ) → Falls S B x j → (f : Fault) × (read S limits x ≡ refused f j) × (f ≡ syntax → ⊥)
    falls-refused x j h = by (read S limits x) refl
      where
        by : (o : Outcome) → read S limits x ≡ o → (f : Fault) × (read S limits x ≡ refused f j) × (f ≡ syntax → ⊥)
        by (accepted t q) e = absurd (not-accepted x j h t q e)
        by (refused f i) e = let r = falls-here x j h f i e in (f, e ∙ ap (refused f) r.0, r.1)

    -- an opening that a refusal falls on, and that B marks
    opened-falls : (x : Text) (n j d : ℕ) → OpenedAt S P x n j d → B n d → (f : Fault) → read S limits x ≡ refused f j → Falls S B x j
    opened-falls x n j d o b f e = record { in_text = o.in_text; viable = o.viable; opens = λ w l. (n, d, o.always w l, b); clear = refused-clear x f j e }

  -- the depth of what opens where it falls
  falls-depth : {B : (n d : ℕ) → Type 0} {x : Text} {n j d : ℕ} → OpenedAt S P x n j d → Falls S B x j → (m : ℕ) × B m d
  falls-depth {B = B} o h =
      let u = h.viable in
      let m = h.opens u.further u.legal in
      (m.0, subst (B m.0) (o.only u.further u.legal m.0 m.1 m.2) m.3)

  -- 5 falls exactly there
  pub deep-exact : (x : Text) (j : ℕ) → (read S limits x ≡ refused too_deep j) ↔ Falls S Depth33 x j
  deep-exact x j = (out, back)
    where
      out : read S limits x ≡ refused too_deep j → Falls S Depth33 x j
      out e = let m = deep-opened limits x j e in opened-falls Depth33 (λ n d b. inl b) x m.0 j (suc m.1) m.2 (eqb-true (suc m.1) (suc max_depth) m.3) too_deep e

      by : Falls S Depth33 x j → (f : Fault) → read S limits x ≡ refused f j → (f ≡ syntax → ⊥) → read S limits x ≡ refused too_deep j
      by h syntax e n = absurd (n refl)
      by h too_deep e n = e
      by h too_many e n = let m = many-opened limits x j e in absurd (depth33-bad m.1 (falls-depth m.2 h).1 m.3)

      back : Falls S Depth33 x j → read S limits x ≡ refused too_deep j
      back h = let r = falls-refused Depth33 (λ n d b. inl b) x j h in by h r.0 r.1 r.2

  -- 6 falls exactly there
  pub many-exact : (x : Text) (j : ℕ) → (read S limits x ≡ refused too_many j) ↔ Falls S Node257 x j
  many-exact x j = (out, back)
    where
      out : read S limits x ≡ refused too_many j → Falls S Node257 x j
      out e =
          let m = many-opened limits x j e in
          opened-falls Node257 (λ n d b. inr b.0) x m.0 j m.1 m.2 (eqb-true m.0 max_nodes m.4, λ q. depth33-bad m.1 q m.3) too_many e

      by : Falls S Node257 x j → (f : Fault) → read S limits x ≡ refused f j → (f ≡ syntax → ⊥) → read S limits x ≡ refused too_many j
      by h syntax e n = absurd (n refl)
      by h too_deep e n = let m = deep-opened limits x j e in absurd ((falls-depth m.2 h).1.1 (eqb-true (suc m.1) (suc max_depth) m.3))
      by h too_many e n = e

      back : Falls S Node257 x j → read S limits x ≡ refused too_many j
      back h = let r = falls-refused Node257 (λ n d b. inr b.0) x j h in by h r.0 r.1 r.2

  -- a limit's refusal never ties with the syntax's: it falls strictly below
  pub limit-below-syntax : (L : Limits) (x : Text) (f : Fault) (j i : ℕ) → read S L x ≡ refused f j → (f ≡ syntax → ⊥) → read S unlimited x ≡ refused syntax i → j < i
  limit-below-syntax L x f j i e nf u = by f e nf
    where
      lower : (n d : ℕ) → OpenedAt S P x n j d → j < i
      lower n d o = elim (dec_le (suc j) i) [ yes h ↦ h | no h ↦ absurd ((refused-longest S P x syntax i u).longest (suc j) (omega (arith, h)) o.in_text o.viable) ]

      by : (f : Fault) → read S L x ≡ refused f j → (f ≡ syntax → ⊥) → j < i
      by syntax e nf = absurd (nf refl)
      by too_deep e nf = let m = deep-opened L x j e in lower m.0 (suc m.1) m.2
      by too_many e nf = let m = many-opened L x j e in lower m.0 m.1 m.2
