-- The machine reads every value that the grammar has and the limits admit, and reads it as the grammar does. Assumes nothing.
use Rattle.std.specs.Prelude.{◌≡◌, Bool, false, take, T, eqb}
use Rattle.std.proofs.Math.Path.{refl, sym, ap}
use Rattle.std.proofs.Common.{subst, ◌∙◌, add-zero, suc-add, eqb→eq}
use Prim.Native.Nat.{ℕ, suc, ◌+◌, ◌≤◌}
use mathlib.Core.List.{[], ◌∷◌, ◌++◌, append_assoc}
use Rattle.std.proofs.Math.ListN.{length, length-append}
use Rattle.std.proofs.Math.Seq.{take-append_seam}
use native.Mathlib.Omega.{arith}
use Rattle.cel_text.specs.Byte.{Text, ◌⧺◌, blank, ident_byte, Run, over, byte, Blanks, quote, comma, colon, Plain}
use Rattle.cel_text.specs.Tree.{Kind, array, object, function, opener, closer, Key, unkeyed, key, Tree, string, container, Trees, ∅, ◌▸◌∶◌, nodes, nodes_all, depth}
use Rattle.cel_text.specs.Grammar.{Named, nameless, with_name, Head, array_head, object_head, function_head, Label, in_array, in_function, in_object, Separator, first, next, Value, a_string}
use Rattle.cel_text.specs.Grammar.{a_container, no_child, one_more}
use Rattle.cel_text.specs.Reading.{Limits, Stack, root, inside, level, opened, Frame, Due, value, entry, State, before, quoted, dropping, begun, after, Step, go, step, start, past, bare}
use Rattle.cel_text.specs.Reading.{unquote, enter, enter_string, whole, child, closed, fresh, with_key, accepted, follow, run, read, limits, unlimited, max_depth, max_nodes}
use Rattle.cel_text.proofs.Laws.Class.{is_true, is_false, blank-ident, closer-blank, closer-comma, closer-closer}
use Rattle.cel_text.proofs.Laws.Admit.{Admits, AdmitsAll, fits-admits, unlimited-admits}
use Rattle.cel_text.specs.Resume.{resume}
use Rattle.cel_text.proofs.Laws.Run.{whole-resumes, before-blanks, quoted-strings, dropping-blanks, begun-blanks, after-blanks, after-name}

-- ---- a child begins with blanks and a byte that is no blank and no closer

record Starts (r : Text) : Type 0 where
  blanks : Text
  head : ℕ
  tail : Text
  split : r ≡ blanks ++ head ∷ tail
  are_blanks : Blanks blanks
  no_blank : blank head ≡ false
  no_closer : (c : Kind) → eqb head (closer c) ≡ false

ident-closer : (b : ℕ) → T (ident_byte b) → (c : Kind) → eqb b (closer c) ≡ false
ident-closer b t c = is_false (eqb b (closer c)) (λ e. no c (subst (λ (x : ℕ). T (ident_byte x)) (eqb→eq b (closer c) e) t))
  where
    no : (c : Kind) → T (ident_byte (closer c)) → ⊥
    no array h = unfold ident_byte in h
    no object h = unfold ident_byte in h
    no function h = unfold ident_byte in h

named-starts : {p : ℕ} {l : Text} {from to : ℕ} → Named p l from to → (y : ℕ) (r : Text) → blank y ≡ false → ((c : Kind) → eqb y (closer c) ≡ false) → Starts (l ++ y ∷ r)
named-starts (nameless {b = b} bs) y r nb nc = record { blanks = b; head = y; tail = r; split = refl; are_blanks = bs; no_blank = nb; no_closer = nc }
named-starts (with_name {b = b} {c = c} bs (byte {b = i} {bs = is} t ts) cs) y r nb nc =
    record { blanks = b; head = i; tail = is ++ (c ++ y ∷ r); split = simp append_assoc; are_blanks = bs; no_blank = blank-ident i t; no_closer = ident-closer i t }

-- no opener closes anything
opener-closer : (c d : Kind) → eqb (opener c) (closer d) ≡ false
opener-closer array array = refl
opener-closer array object = refl
opener-closer array function = refl
opener-closer object array = refl
opener-closer object object = refl
opener-closer object function = refl
opener-closer function array = refl
opener-closer function object = refl
opener-closer function function = refl

open-starts : (c : Kind) {p : ℕ} {h : Text} {from to : ℕ} → Head c p h from to → (r : Text) → Starts (h ++ opener c ∷ r)
open-starts array (array_head bs) r = named-starts {p = 0} (nameless bs) (opener array) r (unfold blank in refl) (opener-closer array)
open-starts object (object_head n) r = named-starts n (opener object) r (unfold blank in refl) (opener-closer object)
open-starts function (function_head n) r = named-starts n (opener function) r (unfold blank in refl) (opener-closer function)

value-starts : (S : ℕ → Bool) {p : ℕ} {v : Text} {t : Tree} → Value S p v t → (r : Text) → Starts (v ++ r)
value-starts S (a_string {b = b} {i = i} {c = c} bs is cs) r =
    subst Starts (simp append_assoc)
    (named-starts {p = 0} (nameless bs) quote (i ++ (c ++ quote ∷ r)) (unfold blank in refl) (λ c. elim c as (λ k. eqb quote (closer k) ≡ false) [ array ↦ refl | object ↦ refl | function ↦ refl ]))
value-starts S (a_container {c = c} {h = h} {v = v} {b = b} hd ch bs) r =
    subst Starts (simp append_assoc) (open-starts c hd (v ++ (b ++ closer c ∷ r)))

label-starts : {c : Kind} {p : ℕ} {l : Text} {k : Key} → Label c p l k → (r : Text) → Starts r → Starts (l ++ r)
label-starts in_array r s = s
label-starts in_function r s = s
label-starts (in_object {l = l} n) r s =
    subst Starts (simp append_assoc) (named-starts n colon r (unfold blank in refl) (λ c. elim c as (λ k. eqb colon (closer k) ≡ false) [ array ↦ refl | object ↦ refl | function ↦ refl ]))

-- a frame with its children, before a key is read
abbrev pub holding : Kind → (o from to : ℕ) → Trees → Frame
holding c o from to ts = record { kind = c; o = o; from = from; to = to; children = ts; next = unkeyed }

-- what is read between the children ts and what comes next
abbrev pub resting : Trees → Stack → Frame → State
resting ∅ K f = begun K f
resting (ts ▸ k ∶ t) K f = after K f

module _ (S : ℕ → Bool) (L : Limits) where
  -- ---- the parts of a value

  -- an opener, after what stands before it
  opens : (c : Kind) (K : Stack) {p : ℕ} {h : Text} {from to : ℕ} → Head c p h from to → (r : Text)
      → run S L (before (value K)) p (h ++ opener c ∷ r) ≡ follow (enter S L c K from to (p + length h)) (p + length h) (λ st. run S L st (suc (p + length h)) r)
  opens array K {p = p} (array_head {b = b} bs) r = before-blanks S L (value K) bs p (opener array ∷ r) ∙ (unfold step start blank ident_byte bare in refl)
  opens object K (object_head n) r = after-name S L (value K) n (opener object) r (unfold blank in refl) (unfold ident_byte in refl) refl refl ∙ (unfold past in refl)
  opens function K (function_head n) r = after-name S L (value K) n (opener function) r (unfold blank in refl) (unfold ident_byte in refl) refl refl ∙ (unfold past in refl)

  enters : (c : Kind) (K : Stack) (from to p : ℕ) → L.deep (suc (level K)) ≡ false → L.many (opened K) ≡ false → enter S L c K from to p ≡ go (begun K (fresh c p from to))
  unfolding enter
  enters c K from to p d m = rw (d, m)

  -- the end of a string whose content ended at e
  string-end : Plain S → (K : Stack) (o : ℕ) {c : Text} → Blanks c → (e : ℕ) (rest : Text)
      → run S L (quoted K o) e (c ++ quote ∷ rest) ≡ resume S L K (string o e (suc (e + length c))) (suc (e + length c)) rest
  string-end P K o over e rest =
      let quoted-ends : step S L (quoted K o) e quote ≡ whole K (string o e (suc e)) = unfold step unquote blank in rw P.no_quote in
      rw (add-zero, quoted-ends) (whole-resumes S L K (string o e (suc e)) e rest)
  string-end P K o (byte {b = b} {bs = bs} t ts) e rest =
      let drops : step S L (quoted K o) e b ≡ go (dropping K o e) = unfold step unquote in rw (P.no_blank b t, is_true (blank b) t) in
      let n : ℕ = suc e + length bs in
      let ends : step S L (dropping K o e) n quote ≡ whole K (string o e (suc n)) = unfold step unquote blank in refl in
      let places : n ≡ e + suc (length bs) = omega arith in
      rw drops (dropping-blanks S L K o e ts (suc e) (quote ∷ rest)
      ∙ rw ends (whole-resumes S L K (string o e (suc n)) n rest)
      ∙ ap (λ (m : ℕ). resume S L K (string o e (suc m)) (suc m) rest) places)

  -- the end of a container, after its children
  pub closes : (ts : Trees) (K : Stack) (f : Frame) {b : Text} → Blanks b → (e : ℕ) (rest : Text)
      → run S L (resting ts K f) e (b ++ closer f.kind ∷ rest) ≡ resume S L K (closed f (suc (e + length b))) (suc (e + length b)) rest
  closes ∅ K f {b = b} bs e rest =
      let n : ℕ = e + length b in
      let c : Kind = f.kind in
      let ends : step S L (begun K f) n (closer c) ≡ whole K (closed f (suc n)) = unfold step in rw (closer-blank c, closer-closer c) in
      begun-blanks S L K f bs e (closer c ∷ rest) ∙ rw ends (whole-resumes S L K (closed f (suc n)) n rest)
  closes (ts ▸ k ∶ t) K f {b = b} bs e rest =
      let n : ℕ = e + length b in
      let c : Kind = f.kind in
      let ends : step S L (after K f) n (closer c) ≡ whole K (closed f (suc n)) = unfold step in rw (closer-blank c, closer-comma c, closer-closer c) in
      after-blanks S L K f bs e (closer c ∷ rest) ∙ rw ends (whole-resumes S L K (closed f (suc n)) n rest)

  -- before a first child a container that has just opened reads as it does after a comma
  begins : (K : Stack) (f : Frame) (r : Text) → Starts r → (q : ℕ) → run S L (begun K f) q r ≡ run S L (before (child f.kind K f)) q r
  begins K f r s q =
      let b : Text = s.blanks in
      let y : ℕ = s.head in
      let n : ℕ = q + length b in
      let w : Due = child f.kind K f in
      let same : step S L (begun K f) n y ≡ step S L (before w) n y = unfold step in rw (s.no_blank, s.no_closer f.kind) in
      rw s.split (begun-blanks S L K f s.are_blanks q (y ∷ s.tail)
      ∙ ap (λ (u : Step). follow u n (λ st. run S L st (suc n) s.tail)) same
      ∙ sym (before-blanks S L w s.are_blanks q (y ∷ s.tail)))

  separates : (c : Kind) (K : Stack) (o from to : ℕ) {ts : Trees} {s : Text} → Separator ts s → (r : Text) → Starts r → (q : ℕ)
      → run S L (resting ts K (holding c o from to ts)) q (s ++ r) ≡ run S L (before (child c K (holding c o from to ts))) (q + length s) r
  separates c K o from to first r st q = rw add-zero (begins K (holding c o from to ∅) r st q)
  separates c K o from to {ts = ts} (next {b = b} bs) r st q =
      let f : Frame = holding c o from to ts in
      let n : ℕ = q + length b in
      let goes : step S L (after K f) n comma ≡ go (before (child c K f)) = unfold step blank in refl in
      let regroup : (b ⧺ comma ∷ []) ++ r ≡ b ++ comma ∷ r = simp append_assoc in
      let places : suc n ≡ q + length (b ⧺ comma ∷ []) = simp length-append (omega arith) in
      rw regroup (after-blanks S L K f bs q (comma ∷ r) ∙ rw goes (ap (λ (m : ℕ). run S L (before (child c K f)) m r) places))

  labels : (K : Stack) (o from to : ℕ) (ts : Trees) {c : Kind} {q : ℕ} {l : Text} {k : Key} → Label c q l k → (r : Text)
      → run S L (before (child c K (holding c o from to ts))) q (l ++ r) ≡ run S L (before (value (inside K (with_key (holding c o from to ts) k)))) (q + length l) r
  labels K o from to ts in_array r = rw add-zero
  labels K o from to ts in_function r = rw add-zero
  labels K o from to ts {q = q} (in_object {l = l} {from = kf} {to = kt} n) r =
      let f : Frame = holding object o from to ts in
      let w : State = before (value (inside K (with_key f (key kf kt)))) in
      let regroup : (l ⧺ colon ∷ []) ++ r ≡ l ++ colon ∷ r = simp append_assoc in
      let goes : past S L (entry K f) kf kt (q + length l) colon ≡ go w = unfold past in refl in
      let places : suc (q + length l) ≡ q + length (l ⧺ colon ∷ []) = simp length-append (omega arith) in
      rw regroup (after-name S L (entry K f) n colon r (unfold blank in refl) (unfold ident_byte in refl) refl refl
      ∙ rw goes (ap (λ (m : ℕ). run S L w m r) places))

  -- ---- a value, by induction on how the grammar makes it

  abbrev ReadsValue : ℕ → Text → Tree → Type 0
  ReadsValue p v t = (K : Stack) (rest : Text) → Admits L t (level K) (opened K) → run S L (before (value K)) p (v ++ rest) ≡ resume S L K t (p + length v) rest

  abbrev ReadsChildren : Kind → ℕ → Text → Trees → Type 0
  ReadsChildren c p vs ts = (K : Stack) (o from to : ℕ) (rest : Text) → AdmitsAll L ts (suc (level K)) (suc (opened K))
      → run S L (begun K (fresh c o from to)) p (vs ++ rest) ≡ run S L (resting ts K (holding c o from to ts)) (p + length vs) rest

  reads-string : Plain S → (p : ℕ) {b i c : Text} → Blanks b → Run S i → Blanks c
      → ReadsValue p (b ⧺ (quote ∷ i) ⧺ c ⧺ quote ∷ []) (string (p + length b) (suc (p + length b) + length i) (suc (suc (p + length b) + length i + length c)))
  reads-string P p {b = b} {i = i} {c = c} bs is cs K rest a =
      let q : ℕ = p + length b in
      let e : ℕ = suc q + length i in
      let t : Tree = string q e (suc (e + length c)) in
      let enters : step S L (before (value K)) q quote ≡ go (quoted K q) = unfold step start blank ident_byte bare enter_string in rw a in
      let regroup : (b ⧺ (quote ∷ i) ⧺ c ⧺ quote ∷ []) ++ rest ≡ b ++ (quote ∷ (i ++ (c ++ quote ∷ rest))) = simp append_assoc in
      let places : suc (e + length c) ≡ p + length (b ⧺ (quote ∷ i) ⧺ c ⧺ quote ∷ []) = simp length-append (omega arith) in
      rw regroup (before-blanks S L (value K) bs p (quote ∷ (i ++ (c ++ quote ∷ rest)))
      ∙ rw enters (quoted-strings S L K q is (suc q) (c ++ quote ∷ rest) ∙ string-end P K q cs e rest
      ∙ ap (λ (n : ℕ). resume S L K t n rest) places))

  reads-container : (p : ℕ) (c : Kind) (v : Text) (ts : Trees) {h b : Text} {from to : ℕ} → Head c p h from to → ReadsChildren c (suc (p + length h)) v ts → Blanks b
      → ReadsValue p (h ⧺ (opener c ∷ v) ⧺ b ⧺ closer c ∷ []) (container c (p + length h) from to (suc (suc (p + length h) + length v + length b)) ts)
  reads-container p c v ts {h = h} {b = b} {from = from} {to = to} hd ch bs K rest a =
      let o : ℕ = p + length h in
      let e : ℕ = suc o + length v in
      let f : Frame = holding c o from to ts in
      let regroup : (h ⧺ (opener c ∷ v) ⧺ b ⧺ closer c ∷ []) ++ rest ≡ h ++ (opener c ∷ (v ++ (b ++ closer c ∷ rest))) = simp append_assoc in
      let places : suc (e + length b) ≡ p + length (h ⧺ (opener c ∷ v) ⧺ b ⧺ closer c ∷ []) = simp length-append (omega arith) in
      rw regroup (opens c K hd (v ++ (b ++ closer c ∷ rest))
      ∙ rw (enters c K from to o a.0 a.1) (ch K o from to (b ++ closer c ∷ rest) a.2 ∙ closes ts K f bs e rest
      ∙ ap (λ (n : ℕ). resume S L K (closed f (suc (e + length b))) n rest) places))

  reads_more : (c : Kind) (p : ℕ) (vs : Text) {s l v : Text} {ts : Trees} {k : Key} {t : Tree} → ReadsChildren c p vs ts → Separator ts s
      → Label c (p + length vs + length s) l k → Value S (p + length vs + length s + length l) v t → ReadsValue (p + length vs + length s + length l) v t
      → ReadsChildren c p (vs ⧺ s ⧺ l ⧺ v) (ts ▸ k ∶ t)
  reads_more c p vs {s = s} {l = l} {v = v} {ts = ts} {k = k} {t = t} ch sep lab val ih K o from to rest a =
      let f : Frame = holding c o from to ts in
      let q : ℕ = p + length vs in
      let regroup : (vs ⧺ s ⧺ l ⧺ v) ++ rest ≡ vs ++ (s ++ (l ++ (v ++ rest))) = simp append_assoc in
      let places : q + length s + length l + length v ≡ p + length (vs ⧺ s ⧺ l ⧺ v) = simp length-append (omega arith) in
      let admitted : Admits L t (suc (level K)) (suc (opened K + nodes_all ts)) = subst (λ (n : ℕ). Admits L t (suc (level K)) n) (suc-add (opened K) (nodes_all ts)) a.1 in
      rw regroup (ch K o from to (s ++ (l ++ (v ++ rest))) a.0
      ∙ separates c K o from to sep (l ++ (v ++ rest)) (label-starts lab (v ++ rest) (value-starts S val rest)) q
      ∙ labels K o from to ts lab (v ++ rest)
      ∙ ih (inside K (with_key f k)) rest admitted
      ∙ ap (λ (n : ℕ). run S L (after K (holding c o from to (ts ▸ k ∶ t))) n rest) places)

  -- a whole value is read, whatever follows it
  pub reads-value : Plain S → {p : ℕ} {v : Text} {t : Tree} → Value S p v t → ReadsValue p v t
  reads-value P d =
      elim d as (λ p v t d. ReadsValue p v t) (λ c p vs ts d. ReadsChildren c p vs ts) [
        | a_string {p = p} bs is cs ↦ reads-string P p bs is cs
        | a_container {p = p} {c = c} {v = v} {ts = ts} hd (ch → h) bs ↦ reads-container p c v ts hd h bs
        | no_child ↦ (λ K o from to rest a. rw add-zero)
        | one_more {c = c} {p = p} {vs = vs} (ch → h) sep lab (val → ih) ↦ reads_more c p vs h sep lab val ih
      ]

-- T2 at the limits of SPEC.md
pub complete : (S : ℕ → Bool) → Plain S → {v : Text} {t : Tree} → Value S 0 v t → depth t ≤ max_depth → nodes t ≤ max_nodes → (rest : Text) → read S limits (v ++ rest) ≡ accepted t (length v)
complete S P {v = v} {t = t} d hd hn rest =
    reads-value S limits P d root rest (fits-admits t 0 0 (omega arith) (omega arith)) ∙ ap (accepted t) (omega arith)

-- T2 without limits
pub complete-unlimited : (S : ℕ → Bool) → Plain S → {v : Text} {t : Tree} → Value S 0 v t → (rest : Text) → read S unlimited (v ++ rest) ≡ accepted t (length v)
complete-unlimited S P {v = v} {t = t} d rest = reads-value S unlimited P d root rest (unlimited-admits t 0 0) ∙ ap (accepted t) (omega arith)

-- the grammar is unambiguous and prefix-free: a text begins with one whole value at most, and it is one tree
pub unambiguous : (S : ℕ → Bool) → Plain S → {v v' : Text} {t t' : Tree} → Value S 0 v t → Value S 0 v' t' → (rest rest' : Text) → v ++ rest ≡ v' ++ rest' → (v ≡ v') × (t ≡ t')
unambiguous S P {v = v} {v' = v'} {t = t} {t' = t'} d d' rest rest' e =
    let same : accepted t (length v) ≡ accepted t' (length v') = sym (complete-unlimited S P d rest) ∙ ap (read S unlimited) e ∙ complete-unlimited S P d' rest' in
    let long : length v ≡ length v' = cc in
    (sym (take-append_seam v rest) ∙ (λ i. take (long i) (e i)) ∙ take-append_seam v' rest', cc)
