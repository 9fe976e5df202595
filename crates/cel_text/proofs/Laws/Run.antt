-- Reading on, over a run of bytes, a name, and after a whole value. Assumes nothing.
use Rattle.std.specs.Prelude.{◌≡◌, refl, Bool, false, T, eqb}
use Rattle.std.proofs.Math.Path.{ap, ap₂}
use Rattle.std.proofs.Common.{◌∙◌, add-zero}
use Prim.Native.Nat.{ℕ, suc, ◌+◌}
use mathlib.Core.List.{[], ◌∷◌, ◌++◌, append_assoc}
use Rattle.std.proofs.Math.ListN.{length, length-append}
use native.Mathlib.Omega.{arith}
use Rattle.cel_text.specs.Byte.{Text, ◌⧺◌, blank, ident_byte, Run, over, byte, Blanks, quote}
use Rattle.cel_text.specs.Tree.{Tree, opener, array}
use Rattle.cel_text.specs.Grammar.{Named, nameless, with_name}
use Rattle.cel_text.specs.Reading.{Limits, Stack, root, inside, Frame, Due, value, entry, State, before, naming, named, quoted, dropping, begun, after, Step, go, done, refuse, step, start}
use Rattle.cel_text.specs.Reading.{past, bare, unquote, whole, Outcome, ended, stopped, outcome, meet, follow, halt, run}
use Rattle.cel_text.specs.Resume.{resume}
use Rattle.cel_text.proofs.Laws.Class.{is_true, ident-blank, blank-ident}

module _ (S : ℕ → Bool) (L : Limits) where
  -- what reading on gives is the outcome of where it stops
  pub halt-outcome : (st : State) (p : ℕ) (x : Text) → outcome (halt S L st p x) ≡ run S L st p x
  halt-outcome st p [] = refl
  halt-outcome st p (b ∷ bs) = by (λ st'. halt-outcome st' (suc p) bs) (step S L st p b)
    where
      by : ((st' : State) → outcome (halt S L st' (suc p) bs) ≡ run S L st' (suc p) bs) → (u : Step)
          → outcome (meet u (λ st'. halt S L st' (suc p) bs) (λ t. ended t (suc p)) (λ f. stopped st f p)) ≡ follow u p (λ st'. run S L st' (suc p) bs)
      by ih (go st') = ih st'
      by ih (done t) = refl
      by ih (refuse f) = refl

  pub whole-resumes : (K : Stack) (t : Tree) (p : ℕ) (rest : Text) → follow (whole K t) p (λ st. run S L st (suc p) rest) ≡ resume S L K t (suc p) rest
  whole-resumes root t p rest = refl
  whole-resumes (inside K f) t p rest = refl

  -- a state that bytes of a class leave as it is reads a run of them
  pub stays : (f : ℕ → Bool) (st : State) → ((p b : ℕ) → T (f b) → step S L st p b ≡ go st) → {x : Text} → Run f x → (p : ℕ) (r : Text) → run S L st p (x ++ r) ≡ run S L st (p + length x) r
  stays f st h over p r = rw add-zero
  stays f st h (byte {b = b} {bs = bs} t rs) p r = rw (h p b t) (stays f st h rs (suc p) r ∙ ap (λ (n : ℕ). run S L st n r) (omega arith))

  pub before-blanks : (w : Due) {x : Text} → Blanks x → (p : ℕ) (r : Text) → run S L (before w) p (x ++ r) ≡ run S L (before w) (p + length x) r
  unfolding step start
  before-blanks w = stays blank (before w) (λ p b t. rw (is_true (blank b) t))

  pub named-blanks : (w : Due) (from to : ℕ) {x : Text} → Blanks x → (p : ℕ) (r : Text) → run S L (named w from to) p (x ++ r) ≡ run S L (named w from to) (p + length x) r
  unfolding step
  named-blanks w from to = stays blank (named w from to) (λ p b t. rw (is_true (blank b) t))

  pub naming-idents : (w : Due) (from : ℕ) {x : Text} → Run ident_byte x → (p : ℕ) (r : Text) → run S L (naming w from) p (x ++ r) ≡ run S L (naming w from) (p + length x) r
  unfolding step
  naming-idents w from = stays ident_byte (naming w from) (λ p b t. rw (is_true (ident_byte b) t))

  pub quoted-strings : (K : Stack) (o : ℕ) {x : Text} → Run S x → (p : ℕ) (r : Text) → run S L (quoted K o) p (x ++ r) ≡ run S L (quoted K o) (p + length x) r
  unfolding step
  quoted-strings K o = stays S (quoted K o) (λ p b t. rw (is_true (S b) t))

  pub dropping-blanks : (K : Stack) (o to : ℕ) {x : Text} → Blanks x → (p : ℕ) (r : Text) → run S L (dropping K o to) p (x ++ r) ≡ run S L (dropping K o to) (p + length x) r
  unfolding step unquote
  dropping-blanks K o to = stays blank (dropping K o to) (λ p b t. rw (is_true (blank b) t))

  pub begun-blanks : (K : Stack) (f : Frame) {x : Text} → Blanks x → (p : ℕ) (r : Text) → run S L (begun K f) p (x ++ r) ≡ run S L (begun K f) (p + length x) r
  unfolding step
  begun-blanks K f = stays blank (begun K f) (λ p b t. rw (is_true (blank b) t))

  pub after-blanks : (K : Stack) (f : Frame) {x : Text} → Blanks x → (p : ℕ) (r : Text) → run S L (after K f) p (x ++ r) ≡ run S L (after K f) (p + length x) r
  unfolding step
  after-blanks K f = stays blank (after K f) (λ p b t. rw (is_true (blank b) t))

  -- what the byte y at place n does after an identifier from `from` to `to`, and what follows
  abbrev pub past_name : Due → (from to : ℕ) → ℕ → (y : ℕ) → Text → Outcome
  past_name w from to n y r = follow (past S L w from to n y) n (λ st. run S L st (suc n) r)

  -- from an identifier's end on: blanks, then the byte y that is neither
  name-end : (w : Due) (from : ℕ) {c : Text} → Blanks c → (e y : ℕ) (r : Text) → blank y ≡ false → ident_byte y ≡ false
      → run S L (naming w from) e (c ++ y ∷ r) ≡ past_name w from e (e + length c) y r
  name-end w from over e y r nb ni = unfold step in rw (add-zero, ni, nb)
  name-end w from (byte {b = b} {bs = bs} t ts) e y r nb ni =
      let first : step S L (naming w from) e b ≡ go (named w from e) = unfold step in rw (ident-blank b t, is_true (blank b) t) in
      let last : run S L (named w from e) (suc e + length bs) (y ∷ r) ≡ past_name w from e (suc e + length bs) y r = unfold step in rw nb in
      let places : suc e + length bs ≡ e + suc (length bs) = omega arith in
      rw first (named-blanks w from e ts (suc e) (y ∷ r) ∙ last ∙ ap (λ (n : ℕ). past_name w from e n y r) places)

  -- after blanks, an identifier and blanks, at a byte that is none of these and opens no array or string
  pub after-name : (w : Due) {p : ℕ} {l : Text} {from to : ℕ} → Named p l from to → (y : ℕ) (r : Text)
      → blank y ≡ false → ident_byte y ≡ false → eqb y (opener array) ≡ false → eqb y quote ≡ false
      → run S L (before w) p (l ++ y ∷ r) ≡ past_name w from to (p + length l) y r
  after-name w {p = p} (nameless {b = b} bs) y r nb ni na nq = before-blanks w bs p (y ∷ r) ∙ bare-past w (p + length b)
    where
      bare-past : (w : Due) (q : ℕ) → run S L (before w) q (y ∷ r) ≡ past_name w q q q y r
      bare-past (value K) q = unfold step start bare in rw (nb, ni, na, nq)
      bare-past (entry K f) q = unfold step start bare in rw (nb, ni)
  after-name w {p = p} (with_name {b = b} {c = c} bs (byte {b = i} {bs = is} t ts) cs) y r nb ni na nq =
      let q : ℕ = p + length b in
      let first : step S L (before w) q i ≡ go (naming w q) = unfold step start in rw (blank-ident i t, is_true (ident_byte i) t) in
      let ends : suc q + length is ≡ q + suc (length is) = omega arith in
      let places : suc q + length is + length c ≡ p + length (b ⧺ (i ∷ is) ⧺ c) = simp length-append (omega arith) in
      let regroup : (b ⧺ (i ∷ is) ⧺ c) ++ y ∷ r ≡ b ++ (i ∷ (is ++ (c ++ y ∷ r))) = simp append_assoc in
      ap (run S L (before w) p) regroup ∙ before-blanks w bs p (i ∷ (is ++ (c ++ y ∷ r)))
      ∙ rw first (naming-idents w q ts (suc q) (c ++ y ∷ r) ∙ name-end w q cs (suc q + length is) y r nb ni
      ∙ ap₂ (λ (e n : ℕ). past_name w q e n y r) ends places)
