-- The way of a reading: the states it goes through, and how it ends. Assumes nothing.
use Rattle.std.specs.Prelude.{◌≡◌, refl, ℕ, zero, suc, ◌+◌, Bool, [], ◌∷◌, ◌++◌, length, take}
use Rattle.std.proofs.Common.{sym, ap, subst, ◌∙◌, add-zero, arith}
use Rattle.cel_text.specs.Byte.{Text}
use Rattle.cel_text.specs.Tree.{Tree}
use Rattle.cel_text.specs.Reading.{Limits, State, Fault, syntax, Step, go, done, refuse, step, Outcome, accepted, refused, follow, run}

module _ (S : ℕ → Bool) (L : Limits) where
  -- the bytes v lead from the state st, at place p, to the state st'
  pub data Trace : State → ℕ → Text → State → Type 0 where
    here : {st : State} {p : ℕ} → Trace st p [] st
    there : {st st' st'' : State} {p b : ℕ} {v : Text} → step S L st p b ≡ go st' → Trace st' (suc p) v st'' → Trace st p (b ∷ v) st''

  -- a reading follows a trace
  pub traced : {st st' : State} {p : ℕ} {v : Text} → Trace st p v st' → (w : Text) → run S L st p (v ++ w) ≡ run S L st' (p + length v) w
  traced here w = rw add-zero
  traced {st' = st''} {p = p} (there {v = v} e tr) w = rw e (traced tr w ∙ ap (λ (n : ℕ). run S L st'' n w) (omega arith))

  -- one step more, and only the first k bytes
  pub trace-snoc : {st st' st'' : State} {p : ℕ} {v : Text} → Trace st p v st' → (b : ℕ) → step S L st' (p + length v) b ≡ go st'' → Trace st p (v ++ b ∷ []) st''
  trace-snoc {st' = st'} {st'' = st''} {p = p} here b e = there (subst (λ (n : ℕ). step S L st' n b ≡ go st'') (add-zero p) e) here
  trace-snoc {st' = st'} {st'' = st''} {p = p} (there {v = v} e tr) b q = there e (trace-snoc tr b (subst (λ (n : ℕ). step S L st' n b ≡ go st'') (omega arith) q))

  pub trace-take : {st st' : State} {p : ℕ} {v : Text} → Trace st p v st' → (k : ℕ) → (st'' : State) × Trace st p (take k v) st''
  trace-take {st = st} tr zero = (st, here)
  trace-take {st = st} here (suc k) = (st, here)
  trace-take (there e tr) (suc k) = let r = trace-take tr k in (r.0, there e r.1)

  -- how a reading of x from st at place p ends
  pub record Accepts (st : State) (p : ℕ) (x : Text) (t : Tree) (q : ℕ) : Type 0 where
    pub before : Text
    pub last : ℕ
    pub rest : Text
    pub state : State
    pub split : x ≡ before ++ last ∷ rest
    pub trace : Trace st p before state
    pub ends : step S L state (p + length before) last ≡ done t
    pub place : q ≡ suc (p + length before)

  -- it stops where the text ends, or at a byte that is refused
  abbrev pub Stops : State → ℕ → Text → Fault → Type 0
  Stops st p [] f = f ≡ syntax
  Stops st p (b ∷ bs) f = step S L st p b ≡ refuse f

  pub record Refuses (st : State) (p : ℕ) (x : Text) (f : Fault) (q : ℕ) : Type 0 where
    pub before : Text
    pub rest : Text
    pub state : State
    pub split : x ≡ before ++ rest
    pub trace : Trace st p before state
    pub stops : Stops state (p + length before) rest f
    pub place : q ≡ p + length before

  abbrev pub Ends : State → ℕ → Text → Outcome → Type 0
  Ends st p x (accepted t q) = Accepts st p x t q
  Ends st p x (refused f q) = Refuses st p x f q

  -- one byte more in front
  shift : (p : ℕ) (v : Text) → suc p + length v ≡ p + suc (length v)
  shift p v = omega arith

  ends-step : (st st' : State) (p b : ℕ) (bs : Text) → step S L st p b ≡ go st' → (o : Outcome) → Ends st' (suc p) bs o → Ends st p (b ∷ bs) o
  ends-step st st' p b bs e (accepted t q) a =
      record {
        before = b ∷ a.before;
        last = a.last;
        rest = a.rest;
        state = a.state;
        split = ap (λ (x : Text). b ∷ x) a.split;
        trace = there e a.trace;
        ends = subst (λ (n : ℕ). step S L a.state n a.last ≡ done t) (shift p a.before) a.ends;
        place = a.place ∙ ap suc (shift p a.before);
      }
  ends-step st st' p b bs e (refused f q) r =
      record {
        before = b ∷ r.before;
        rest = r.rest;
        state = r.state;
        split = ap (λ (x : Text). b ∷ x) r.split;
        trace = there e r.trace;
        stops = subst (λ (n : ℕ). Stops r.state n r.rest f) (shift p r.before) r.stops;
        place = r.place ∙ shift p r.before;
      }

  pub ends : (st : State) (p : ℕ) (x : Text) → Ends st p x (run S L st p x)
  ends st p [] = record { before = []; rest = []; state = st; split = refl; trace = here; stops = refl; place = sym (add-zero p) }
  ends st p (b ∷ bs) = by (λ st'. ends st' (suc p) bs) (step S L st p b) refl
    where
      by : ((st' : State) → Ends st' (suc p) bs (run S L st' (suc p) bs)) → (u : Step) → step S L st p b ≡ u → Ends st p (b ∷ bs) (follow u p (λ st'. run S L st' (suc p) bs))
      by ih (go st') e = ends-step st st' p b bs e (run S L st' (suc p) bs) (ih st')
      by ih (done t) e =
          record {
            before = [];
            last = b;
            rest = bs;
            state = st;
            split = refl;
            trace = here;
            ends = subst (λ (n : ℕ). step S L st n b ≡ done t) (sym (add-zero p)) e;
            place = ap suc (sym (add-zero p));
          }
      by ih (refuse f) e =
          record {
            before = [];
            rest = b ∷ bs;
            state = st;
            split = refl;
            trace = here;
            stops = subst (λ (n : ℕ). step S L st n b ≡ refuse f) (sym (add-zero p)) e;
            place = sym (add-zero p);
          }
