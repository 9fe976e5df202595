-- Where reading refuses: without limits exactly the texts that are not legal, with `syntax`, at the length of the longest viable
-- beginning; and with limits no other `syntax`. Every state has a completion, and no text goes on past a refused byte. Assumes nothing.
use Rattle.std.specs.Prelude.{◌≡◌, refl, ◌↔◌, ℕ, suc, ◌+◌, ◌-◌, ◌≤◌, ◌<◌, Bool, false, length, take}
use Rattle.std.proofs.Common.{sym, ap, subst, subst₂, ◌∙◌, zero-add, le_antisymm, length-append, arith}
use Rattle.std.proofs.Math.Decide.{dec_le}
use mathlib.Core.List.{List, [], ◌∷◌, ◌++◌, append_assoc, append-nil}
use Rattle.std.proofs.Math.Seq.{take-append_seam, take-append-add}
use Rattle.cel_text.specs.Byte.{Text, blank, ident_byte, over, quote, colon, Plain}
use Rattle.cel_text.specs.Tree.{function, opener, closer, unkeyed, key, Tree, string, ∅, ◌▸◌∶◌, Opening}
use Rattle.cel_text.specs.Grammar.{a_string, Legal, Viable, Longest}
use Rattle.cel_text.specs.Reading.{Limits, unlimited, Stack, root, inside, Frame, Due, value, entry, State, before, naming, named, quoted, dropping, begun, after, Fault, syntax, Step, go}
use Rattle.cel_text.specs.Reading.{done, refuse, step, start, past, bare, unquote, enter, closed, fresh, with_key, with_child, Outcome, accepted, refused, run, read}
use Rattle.cel_text.specs.Resume.{resume}
use Rattle.cel_text.proofs.Laws.Run.{whole-resumes}
use Rattle.cel_text.proofs.Laws.Complete.{reads-value, closes, complete-unlimited}
use Rattle.cel_text.proofs.Laws.Trace.{Trace, here, there, traced, Accepts, Refuses, Stops, Ends, ends}
use Rattle.cel_text.proofs.Laws.Move.{Moves, quiet, opens, finishes, stops, deep, many, step-moves}
use Rattle.cel_text.proofs.Laws.Sound.{Reads, sound}

-- ---- with limits a step is the same, or refuses for a limit

module _ (L : Limits) {p : ℕ} {os : List Opening} where
  moves-go : {u v : Step} (st : State) → Moves L p os u v → u ≡ go st → v ≡ go st
  moves-go st (quiet st' e) q = q
  moves-go st (opens st' d e s m) q = q
  moves-go st (finishes t e) q = q
  moves-go st stops q = q
  moves-go st (deep st' d e l) q = cc
  moves-go st (many st' d e s l) q = cc

  pub moves-done : {u v : Step} (t : Tree) → Moves L p os u v → u ≡ done t → v ≡ done t
  moves-done t (quiet st' e) q = q
  moves-done t (opens st' d e s m) q = q
  moves-done t (finishes t' e) q = q
  moves-done t stops q = q
  moves-done t (deep st' d e l) q = cc
  moves-done t (many st' d e s l) q = cc

  pub moves-syntax : {u v : Step} → Moves L p os u v → u ≡ refuse syntax → v ≡ refuse syntax
  moves-syntax (quiet st' e) q = q
  moves-syntax (opens st' d e s m) q = q
  moves-syntax (finishes t e) q = q
  moves-syntax stops q = q
  moves-syntax (deep st' d e l) q = cc
  moves-syntax (many st' d e s l) q = cc

  -- without limits nothing but syntax is refused
  moves-fault : {u v : Step} (f : Fault) → Moves L p os u v → v ≡ refuse f → f ≡ syntax
  moves-fault f (quiet st' e) q = cc
  moves-fault f (opens st' d e s m) q = cc
  moves-fault f (finishes t e) q = cc
  moves-fault f stops q = cc
  moves-fault f (deep st' d e l) q = cc
  moves-fault f (many st' d e s l) q = cc

module _ (S : ℕ → Bool) (L : Limits) where
  -- a trace with limits is one without
  pub trace-unlimited : {st st' : State} {p : ℕ} {v : Text} → Trace S L st p v st' → Trace S unlimited st p v st'
  trace-unlimited here = here
  trace-unlimited {st = st} {p = p} (there {st' = st'} {b = b} e tr) = there (moves-go L st' (step-moves S L st p b) e) (trace-unlimited tr)

  stops-unlimited : (st : State) (p : ℕ) (x : Text) → Stops S L st p x syntax → run S unlimited st p x ≡ refused syntax p
  stops-unlimited st p [] e = refl
  stops-unlimited st p (b ∷ bs) e = rw (moves-syntax L (step-moves S L st p b) e)

  accepts-unlimited : (x : Text) (t : Tree) (q : ℕ) → Accepts S L (before (value root)) 0 x t q → read S unlimited x ≡ accepted t q
  accepts-unlimited x t q a =
      let n : ℕ = 0 + length a.before in
      let e : step S unlimited a.state n a.last ≡ done t = moves-done L t (step-moves S L a.state n a.last) a.ends in
      rw a.split (traced S unlimited (trace-unlimited a.trace) (a.last ∷ a.rest) ∙ rw e (ap (accepted t) (sym a.place)))

  refuses-unlimited : (x : Text) (q : ℕ) → Refuses S L (before (value root)) 0 x syntax q → read S unlimited x ≡ refused syntax q
  refuses-unlimited x q r =
      rw r.split (traced S unlimited (trace-unlimited r.trace) r.rest
      ∙ stops-unlimited r.state (0 + length r.before) r.rest r.stops ∙ ap (refused syntax) (sym r.place))

  -- with limits, what is accepted, and what is refused for its syntax, is so without
  pub accepted-unlimited : (x : Text) (t : Tree) (q : ℕ) → read S L x ≡ accepted t q → read S unlimited x ≡ accepted t q
  accepted-unlimited x t q e = accepts-unlimited x t q (subst (Ends S L (before (value root)) 0 x) e (ends S L (before (value root)) 0 x))

  pub syntax-unlimited : (x : Text) (j : ℕ) → read S L x ≡ refused syntax j → read S unlimited x ≡ refused syntax j
  syntax-unlimited x j e = refuses-unlimited x j (subst (Ends S L (before (value root)) 0 x) e (ends S L (before (value root)) 0 x))

-- ---- every state has a completion

closers : Stack → Text
closers root = []
closers (inside K f) = closer f.kind ∷ closers K

module _ (S : ℕ → Bool) (P : Plain S) where
  -- some bytes end the reading well
  pub record Finish (o : Text → Outcome) : Type 0 where
    pub further : Text
    pub tree : Tree
    pub place : ℕ
    pub ends : o further ≡ accepted tree place

  -- ... and these do so after a whole value
  close : (K : Stack) (t : Tree) (p : ℕ) (o : Text → Outcome) (x : Text) → o (x ++ closers K) ≡ resume S unlimited K t p (closers K) → Finish o
  unfolding closers
  close root t p o x e = record { further = x ++ []; tree = t; place = p; ends = e }
  close (inside K f) t p o x e =
      let g : Frame = with_child f t in
      close K (closed g (suc (p + 0))) (suc (p + 0)) o (x ++ closer f.kind ∷ [])
      (rw append_assoc (e ∙ closes S unlimited g.children K g over p (closers K)))

  finish-value : (K : Stack) (p : ℕ) (o : Text → Outcome) (x : Text) → ((w : Text) → o (x ++ w) ≡ run S unlimited (before (value K)) p w) → Finish o
  finish-value K p o x e =
      let t : Tree = string (p + 0) (suc (p + 0) + 0) (suc (suc (p + 0) + 0 + 0)) in
      close K t (p + 2) o (x ++ quote ∷ quote ∷ [])
      (rw append_assoc (e (quote ∷ quote ∷ closers K) ∙ reads-value S unlimited P (a_string over over over) K (closers K) refl))

  finish-named : (w : Due) (from to p : ℕ) (st : State) → ((b : ℕ) → blank b ≡ false → ident_byte b ≡ false → step S unlimited st p b ≡ past S unlimited w from to p b) → Finish (run S unlimited st p)
  finish-named (value K) from to p st e =
      let f : Frame = fresh function p from to in
      close K (closed f (suc (suc p + 0))) (suc (suc p + 0)) (run S unlimited st p) (opener function ∷ closer function ∷ [])
      (rw (e (opener function) (unfold blank in refl) (unfold ident_byte in refl)) (unfold past enter in closes S unlimited ∅ K f over (suc p) (closers K)))
  finish-named (entry K f) from to p st e =
      finish-value (inside K (with_key f (key from to))) (suc p) (run S unlimited st p) (colon ∷ [])
      (λ w. rw (e colon (unfold blank in refl) (unfold ident_byte in refl)) (unfold past in refl))

  pub finish : (st : State) (p : ℕ) → Finish (run S unlimited st p)
  finish (before (value K)) p = finish-value K p (run S unlimited (before (value K)) p) [] (λ w. refl)
  finish (before (entry K f)) p = finish-named (entry K f) p p p (before (entry K f)) (λ b nb ni. unfold step start bare in rw (nb, ni))
  finish (naming w from) p = finish-named w from p p (naming w from) (λ b nb ni. unfold step in rw (ni, nb))
  finish (named w from to) p = finish-named w from to p (named w from to) (λ b nb ni. unfold step in rw nb)
  finish (quoted K o) p =
      close K (string o p (suc p)) (suc p) (run S unlimited (quoted K o) p) (quote ∷ [])
      (unfold step unquote blank in rw P.no_quote (whole-resumes S unlimited K (string o p (suc p)) p (closers K)))
  finish (dropping K o to) p =
      close K (string o to (suc p)) (suc p) (run S unlimited (dropping K o to) p) (quote ∷ []) (unfold step unquote blank in whole-resumes S unlimited K (string o to (suc p)) p (closers K))
  finish (begun K f) p =
      close K (closed f (suc (p + 0))) (suc (p + 0)) (run S unlimited (begun K f) p) (closer f.kind ∷ []) (closes S unlimited ∅ K f over p (closers K))
  finish (after K f) p =
      close K (closed f (suc (p + 0))) (suc (p + 0)) (run S unlimited (after K f) p) (closer f.kind ∷ []) (closes S unlimited (∅ ▸ unkeyed ∶ string 0 0 0) K f over p (closers K))

  -- ---- T3

  -- the bytes that a trace has passed are a viable beginning
  pub trace-viable : {v : Text} {st : State} → Trace S unlimited (before (value root)) 0 v st → Viable S v
  trace-viable {v = v} {st = st} tr =
      let g : Finish (run S unlimited st (0 + length v)) = finish st (0 + length v) in
      let r : Reads S (v ++ g.further) g.tree g.place = sound S unlimited (v ++ g.further) g.tree g.place (traced S unlimited tr g.further ∙ g.ends) in
      record { further = g.further; legal = record { value = r.value; rest = r.rest; tree = g.tree; split = r.split; reads = r.reads } }

  -- a legal text is accepted
  pub legal-accepted : (x : Text) (l : Legal S x) → read S unlimited x ≡ accepted l.tree (length l.value)
  legal-accepted x l = rw l.split (complete-unlimited S P l.reads l.rest)

  -- a text that is refused at its end or at a byte is not legal; nor is any that begins with the bytes up to that one
  stopped : {v : Text} {st : State} → Trace S unlimited (before (value root)) 0 v st → (f : Fault) (x : Text) → Stops S unlimited st (0 + length v) x f
      → read S unlimited (v ++ x) ≡ refused f (0 + length v)
  stopped {v = v} {st = st} tr f x s = traced S unlimited tr x ∙ stop x s
    where
      stop : (x : Text) → Stops S unlimited st (0 + length v) x f → run S unlimited st (0 + length v) x ≡ refused f (0 + length v)
      stop [] e = rw e
      stop (b ∷ bs) e = rw e

  refused-fault : (st : State) (p : ℕ) (x : Text) (f : Fault) → Stops S unlimited st p x f → f ≡ syntax
  refused-fault st p [] f e = e
  refused-fault st p (b ∷ bs) f e = moves-fault unlimited f (step-moves S unlimited st p b) e

  refuses : (x : Text) (f : Fault) (j : ℕ) → read S unlimited x ≡ refused f j → Refuses S unlimited (before (value root)) 0 x f j
  refuses x f j e = subst (Ends S unlimited (before (value root)) 0 x) e (ends S unlimited (before (value root)) 0 x)

  -- without limits every refusal is for the syntax
  pub refused-syntax : (x : Text) (f : Fault) (j : ℕ) → read S unlimited x ≡ refused f j → f ≡ syntax
  refused-syntax x f j e = let r : Refuses S unlimited (before (value root)) 0 x f j = refuses x f j e in refused-fault r.state (0 + length r.before) r.rest f r.stops

  pub refused-illegal : (x : Text) (f : Fault) (j : ℕ) → read S unlimited x ≡ refused f j → Legal S x → ⊥
  refused-illegal x f j e l =
      let z : refused f j ≡ accepted l.tree (length l.value) = sym e ∙ legal-accepted x l in
      let c : ◌≡◌ {A = ℕ} 0 1 = cc in
      omega arith

  -- past a refused byte nothing is viable
  pub dead : {v : Text} {st : State} → Trace S unlimited (before (value root)) 0 v st → (f : Fault) (x : Text) → Stops S unlimited st (0 + length v) x f
      → (i : ℕ) → length v < i → i ≤ length (v ++ x) → Viable S (take i (v ++ x)) → ⊥
  dead {v = v} tr f [] s i lo hi u = let n : length (v ++ []) ≡ length v = ap length (append-nil v) in omega arith
  dead {v = v} tr f (b ∷ bs) s i lo hi u =
      let k : ℕ = i - suc (length v) in
      let w : Text = u.further in
      let place : i ≡ length v + suc k = omega arith in
      let front : take i (v ++ b ∷ bs) ≡ v ++ b ∷ take k bs = ap (λ (n : ℕ). take n (v ++ b ∷ bs)) place ∙ take-append-add v (b ∷ bs) (suc k) in
      let whole : take i (v ++ b ∷ bs) ++ w ≡ v ++ b ∷ (take k bs ++ w) = rw front (append_assoc v (b ∷ take k bs) w) in
      refused-illegal (v ++ b ∷ (take k bs ++ w)) f (0 + length v) (stopped tr f (b ∷ (take k bs ++ w)) s) (subst (Legal S) whole u.legal)

  longest-of : {v : Text} {st : State} → Trace S unlimited (before (value root)) 0 v st → (f : Fault) (x : Text) → Stops S unlimited st (0 + length v) x f → Longest S (v ++ x) (length v)
  longest-of {v = v} tr f x s =
      record {
        within = simp length-append (omega arith);
        viable = rw take-append_seam (trace-viable tr);
        longest = dead tr f x s;
      }

  pub refused-longest : (x : Text) (f : Fault) (j : ℕ) → read S unlimited x ≡ refused f j → Longest S x j
  refused-longest x f j e =
      let r : Refuses S unlimited (before (value root)) 0 x f j = refuses x f j e in
      subst₂ (Longest S) (sym r.split) (sym (r.place ∙ zero-add (length r.before))) (longest-of r.trace f r.rest r.stops)

  -- a text has one longest viable beginning
  pub longest-unique : (x : Text) (i j : ℕ) → Longest S x i → Longest S x j → i ≡ j
  longest-unique x i j a b = le_antisymm (not-less j i b a) (not-less i j a b)
    where
      not-less : (i j : ℕ) → Longest S x i → Longest S x j → j ≤ i
      not-less i j a b = elim (dec_le j i) [ yes h ↦ h | no n ↦ absurd (a.longest j (omega (arith, n)) b.within b.viable) ]

  -- T3, both ways
  pub syntax-exact : (x : Text) (j : ℕ) → (read S unlimited x ≡ refused syntax j) ↔ ((Legal S x → ⊥) × Longest S x j)
  syntax-exact x j = ((λ e. (refused-illegal x syntax j e, refused-longest x syntax j e)), (λ h. by h (read S unlimited x) refl))
    where
      by : (Legal S x → ⊥) × Longest S x j → (o : Outcome) → read S unlimited x ≡ o → read S unlimited x ≡ refused syntax j
      by h (accepted t q) e =
          let r : Reads S x t q = sound S unlimited x t q e in
          absurd (h.0 (record { value = r.value; rest = r.rest; tree = t; split = r.split; reads = r.reads }))
      by h (refused f i) e =
          let fs : f ≡ syntax = refused-syntax x f i e in
          let ij : i ≡ j = longest-unique x i j (refused-longest x f i e) h.1 in
          e ∙ (λ k. refused (fs k) (ij k))
