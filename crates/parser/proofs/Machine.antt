-- What the machine of `cel_text` does over what the steps of reading find: a byte, a run, a name, an opener, a key. Assumes nothing.
use Rattle.std.proofs.Common.{◌≡◌, ℕ, zero, suc, ◌+◌, Bool, true, false, cond, eqb, Option, Some, None, [], ◌∷◌, get_or, drop, sym, refl, ap, ◌∙◌, add-zero, arith, drop-drop, eq-eqb, ne_eqb, eqb-true}
use borrow.Table.Steps.{cases}
use Rattle.cel_text.specs.Byte.{Text, blank, ident_byte, string_byte, alphanumeric, lead, comma, quote}
use Rattle.cel_text.specs.Tree.{Kind, array, object, function, opener, closer, string}
use Rattle.cel_text.specs.Reading.{Stack, Frame, Due, value, entry, State, before, naming, named, quoted, dropping, begun, after, Step, go, refuse, syntax, refused, child, whole, closed, past, bare}
use Rattle.cel_text.specs.Reading.{start, unquote, step, follow, run, limits}
use Rattle.cel_text.proofs.Laws.Class.{closer-comma, closer-closer}
use Rattle.parser.specs.Set.{string_set}
use Rattle.parser.specs.declared.value.Opener.{Opener}
use Rattle.parser.specs.Run.{end_of, NamedAt}
use Rattle.parser.specs.Kinds.{opener_kind, opens, shown}
use Rattle.parser.specs.Steps.{reads, goes_on}
use Rattle.parser.proofs.Classes.{blank-zero}
use Rattle.parser.proofs.Runs.{end-stop, end_more, end-other, class-within}

-- what a byte does in a state
abbrev pub does : State → (p b : ℕ) → Step
does st p b = step string_set limits st p b

-- the byte 0 is refused in every state, as the end of the text is
start-zero : (w : Due) (p : ℕ) → start string_set limits w p 0 ≡ refuse syntax
unfolding start bare past blank ident_byte alphanumeric
start-zero (value K) p = refl
start-zero (entry K f) p = refl

closer-zero : (c : Kind) → eqb 0 (closer c) ≡ false
closer-zero array = refl
closer-zero object = refl
closer-zero function = refl

past-zero : (w : Due) (from to p : ℕ) → past string_set limits w from to p 0 ≡ refuse syntax
unfolding past
past-zero (value K) from to p = refl
past-zero (entry K f) from to p = refl

string-zero : string_set 0 ≡ false
unfolding string_byte alphanumeric
string-zero = refl

does-zero : (st : State) (p : ℕ) → does st p 0 ≡ refuse syntax
unfolding step unquote blank ident_byte alphanumeric
does-zero (before w) p = start-zero w p
does-zero (naming w from) p = past-zero w from p p
does-zero (named w from to) p = past-zero w from to p
does-zero (quoted K o) p = rw string-zero
does-zero (dropping K o to) p = refl
does-zero (begun K f) p = rw (closer-zero f.kind) (start-zero (child f.kind K f) p)
does-zero (after K f) p = rw (closer-zero f.kind)

-- the machine looks at the byte at its place
pub look : (st : State) (x : Text) (p : ℕ) → reads st x p ≡ goes_on (does st p (get_or x p 0)) x p
look st x p = look_at x p p
  where
    look_at : (x : Text) (i p : ℕ) → run string_set limits st p (drop i x) ≡ follow (does st p (get_or x i 0)) p (λ st'. run string_set limits st' (suc p) (drop (suc i) x))
    look_at [] zero p = rw (does-zero st p)
    look_at [] (suc i) p = rw (does-zero st p)
    look_at (b ∷ bs) zero p = refl
    look_at (b ∷ bs) (suc i) p = look_at bs i p

-- what a byte does where its step is known
pub sees : (st : State) (x : Text) (p : ℕ) {s : Step} → does st p (get_or x p 0) ≡ s → reads st x p ≡ goes_on s x p
sees st x p e = look st x p ∙ ap (λ (s : Step). goes_on s x p) e

-- two states in which the byte at this place does the same
same_here : (st st' : State) (x : Text) (p : ℕ) → does st p (get_or x p 0) ≡ does st' p (get_or x p 0) → reads st x p ≡ reads st' x p
same_here st st' x p e = sees st x p e ∙ sym (look st' x p)

-- a state that a class of bytes leaves as it is reads a run of them
pub over : (f : ℕ → Bool) (st : State) → ((p b : ℕ) → f b ≡ true → does st p b ≡ go st) → (x : Text) (p : ℕ) → reads st x p ≡ reads st x (end_of f x p)
over f st h x p = over-lead (drop p x) p ∙ ap (run string_set limits st (end_of f x p)) (drop-drop (lead f (drop p x)) p x)
  where
    over-lead : (y : Text) (p : ℕ) → run string_set limits st p y ≡ run string_set limits st (p + lead f y) (drop (lead f y) y)
    over-lead [] p = rw add-zero
    over-lead (b ∷ bs) p =
        cases (f b)
        (λ t. rw (h p b t, t) (over-lead bs (suc p) ∙ ap (λ (q : ℕ). run string_set limits st q (drop (lead f bs) bs)) (omega arith)))
        (λ t. rw (t, add-zero))

over-before : (w : Due) (x : Text) (p : ℕ) → reads (before w) x p ≡ reads (before w) x (end_of blank x p)
over-before w x p = over blank (before w) (λ p b t. unfold step start in rw t) x p

ident-zero : ident_byte 0 ≡ false
unfolding ident_byte alphanumeric
ident-zero = refl

-- the byte after a name, which may be empty
abbrev pub past_name : Due → (from to p b : ℕ) → Step
past_name w from to p b = cond (eqb from to) (bare string_set limits w p b) (past string_set limits w from to p b)

-- what a byte does, by its class
before-naming : (w : Due) (p b : ℕ) → blank b ≡ false → ident_byte b ≡ true → does (before w) p b ≡ go (naming w p)
unfolding step start
before-naming w p b nb t = rw (nb, t)

before-bare : (w : Due) (p b : ℕ) → blank b ≡ false → ident_byte b ≡ false → does (before w) p b ≡ bare string_set limits w p b
unfolding step start
before-bare w p b nb t = rw (nb, t)

naming-past : (w : Due) (from p b : ℕ) → ident_byte b ≡ false → does (naming w from) p b ≡ does (named w from p) p b
unfolding step
naming-past w from p b ni = rw ni

named_past : (w : Due) (from to p b : ℕ) → blank b ≡ false → does (named w from to) p b ≡ past string_set limits w from to p b
unfolding step
named_past w from to p b nb = rw nb

-- what a byte that opens something leads to, after a name with these ends, or after none
abbrev pub opens-named : Option Opener → Stack → (from to p : ℕ) → Step
opens-named None K from to p = refuse syntax
opens-named (Some o) K from to p = opens (Some o) K (shown o from) (shown o to) p

-- the byte that opens a value, after an identifier and after none
past-opens : (K : Stack) (from to p b : ℕ)
    → past string_set limits (value K) from to p b ≡ opens-named (opener_kind false b) K from to p
unfolding past
past-opens K from to p b =
    cases (eqb b (opener object)) (λ t. rw t) (λ t₁. cases (eqb b (opener function)) (λ t. rw (t₁, t))
    (λ t₂. cases (eqb b (opener array)) (λ t. rw (t₁, t₂, t)) (λ t₃. cases (eqb b quote) (λ t. rw (t₁, t₂, t₃, t)) (λ t. rw (t₁, t₂, t₃, t)))))

bare-opens : (K : Stack) (p b : ℕ) → bare string_set limits (value K) p b ≡ opens-named (opener_kind true b) K p p p
unfolding bare past
bare-opens K p b =
    cases (eqb b (opener object)) (λ t. rw (eqb-true b (opener object) t))
    (λ t₁. cases (eqb b (opener function)) (λ t. rw (eqb-true b (opener function) t))
    (λ t₂. cases (eqb b (opener array)) (λ t. rw (t₁, t₂, t)) (λ t₃. cases (eqb b quote) (λ t. rw (t₁, t₂, t₃, t)) (λ t. rw (t₁, t₂, t₃, t)))))

module _ (x : Text) {p from to end : ℕ} (n : NamedAt x p from to end) where
  no-blank : blank (get_or x from 0) ≡ false
  no-blank = rw n.begins (end-other blank x blank-zero p)

  no-ident : ident_byte (get_or x to 0) ≡ false
  no-ident = rw n.stops (end-other ident_byte x ident-zero from)

  -- an empty name stands where its end is
  empty-ends : from ≡ to → end ≡ from
  empty-ends e = n.ends ∙ rw (sym e) (end-stop blank x from no-blank)

  over-name : (w : Due) → reads (before w) x p ≡ goes_on (past_name w from to end (get_or x end 0)) x end
  over-name w = first ∙ cases (ident_byte (get_or x from 0)) long (λ t. short (n.stops ∙ end-stop ident_byte x from t) t)
    where
      first : reads (before w) x p ≡ reads (before w) x from
      first = rw n.begins (over-before w x p)

      short : to ≡ from → ident_byte (get_or x from 0) ≡ false → reads (before w) x from ≡ goes_on (past_name w from to end (get_or x end 0)) x end
      short e t =
          let here : end ≡ from = empty-ends (sym e) in
          let begin : does (before w) from (get_or x from 0) ≡ bare string_set limits w from (get_or x from 0) = before-bare w from (get_or x from 0) no-blank t in
          rw (e, here, eq-eqb from from refl) (sees (before w) x from begin)

      long : ident_byte (get_or x from 0) ≡ true → reads (before w) x from ≡ goes_on (past_name w from to end (get_or x end 0)) x end
      long t =
          let stops : to ≡ end_of ident_byte x (suc from) = n.stops ∙ end_more ident_byte x from (class-within ident_byte ident-zero x from t) t in
          let after : eqb from to ≡ false = ne_eqb from to (λ e. omega arith) in
          let other : blank (get_or x end 0) ≡ false = rw n.ends (end-other blank x blank-zero to) in
          rw after
          (sees (before w) x from (before-naming w from (get_or x from 0) no-blank t)
          ∙ over ident_byte (naming w from) (λ p b t. unfold step in rw t) x (suc from)
          ∙ ap (reads (naming w from) x) (sym stops)
          ∙ same_here (naming w from) (named w from to) x to (naming-past w from to (get_or x to 0) no-ident)
          ∙ over blank (named w from to) (λ p b t. unfold step in rw t) x to
          ∙ ap (reads (named w from to) x) (sym n.ends)
          ∙ sees (named w from to) x end (named_past w from to end (get_or x end 0) other))

  past-entry : (K : Stack) (f : Frame) → past_name (entry K f) from to end (get_or x end 0) ≡ past string_set limits (entry K f) from to end (get_or x end 0)
  past-entry K f = cases (eqb from to) same (λ t. rw t)
    where
      same : eqb from to ≡ true → past_name (entry K f) from to end (get_or x end 0) ≡ past string_set limits (entry K f) from to end (get_or x end 0)
      same t =
          let e : to ≡ from = sym (eqb-true from to t) in
          let here : end ≡ from = empty-ends (sym e) in
          rw (t, e, here) (unfold bare in refl)

  -- the colon of an entry
  pub over-key : (K : Stack) (f : Frame) → reads (before (entry K f)) x p ≡ goes_on (past string_set limits (entry K f) from to end (get_or x end 0)) x end
  over-key K f = over-name (entry K f) ∙ ap (λ (s : Step). goes_on s x end) (past-entry K f)

  past_value : (K : Stack) → past_name (value K) from to end (get_or x end 0)
      ≡ opens-named (opener_kind (eqb from to) (get_or x end 0)) K from to end
  past_value K = cases (eqb from to) same (λ t. rw t (past-opens K from to end (get_or x end 0)))
    where
      same : eqb from to ≡ true → past_name (value K) from to end (get_or x end 0)
          ≡ opens-named (opener_kind (eqb from to) (get_or x end 0)) K from to end
      same t =
          let e : to ≡ from = sym (eqb-true from to t) in
          let here : end ≡ from = empty-ends (sym e) in
          rw (t, e, here) (bare-opens K from (get_or x from 0))

  -- the opener of a value, or what is none
  pub over-opener : (K : Stack) (o : Option Opener) → o ≡ opener_kind (eqb from to) (get_or x end 0)
      → reads (before (value K)) x p ≡ goes_on (opens-named o K from to end) x end
  over-opener K o e = rw e (over-name (value K) ∙ ap (λ (s : Step). goes_on s x end) (past_value K))

-- the byte b at place p, which is neither content nor blank, in a string whose content ends at `to`
abbrev pub closing : Stack → (o to p b : ℕ) → Step
closing K o to p b = cond (eqb b quote) (whole K (string o to (suc p))) (refuse syntax)

quoted-past : (K : Stack) (o p b : ℕ) → string_set b ≡ false → does (quoted K o) p b ≡ does (dropping K o p) p b
unfolding step
quoted-past K o p b ns = rw ns

dropping-closing : (K : Stack) (o to p b : ℕ) → blank b ≡ false → does (dropping K o to) p b ≡ closing K o to p b
unfolding step unquote
dropping-closing K o to p b nb = rw nb

-- a string's content, the blanks after it and the byte at their end
pub over-string : (K : Stack) (o : ℕ) (x : Text) (at to end : ℕ) → to ≡ end_of string_set x at → end ≡ end_of blank x to
    → reads (quoted K o) x at ≡ goes_on (closing K o to end (get_or x end 0)) x end
over-string K o x at to end e e' =
    let ns : string_set (get_or x to 0) ≡ false = rw e (end-other string_set x string-zero at) in
    let nb : blank (get_or x end 0) ≡ false = rw e' (end-other blank x blank-zero to) in
    over string_set (quoted K o) (λ p b t. unfold step in rw t) x at
    ∙ ap (reads (quoted K o) x) (sym e)
    ∙ same_here (quoted K o) (dropping K o to) x to (quoted-past K o to (get_or x to 0) ns)
    ∙ over blank (dropping K o to) (λ p b t. unfold step unquote in rw t) x to
    ∙ ap (reads (dropping K o to) x) (sym e')
    ∙ sees (dropping K o to) x end (dropping-closing K o to end (get_or x end 0) nb)

-- after a run of blanks stands no blank
pub not-blank : (x : Text) (at p : ℕ) → p ≡ end_of blank x at → blank (get_or x p 0) ≡ false
not-blank x at p e = rw e (end-other blank x blank-zero at)

module _ (K : Stack) (f : Frame) (x : Text) (at p : ℕ) (e : p ≡ end_of blank x at) where
  other : blank (get_or x p 0) ≡ false
  other = not-blank x at p e

  pub over-begun : reads (begun K f) x at ≡ reads (begun K f) x p
  over-begun = rw e (over blank (begun K f) (λ p b t. unfold step in rw t) x at)

  over-after : reads (after K f) x at ≡ reads (after K f) x p
  over-after = rw e (over blank (after K f) (λ p b t. unfold step in rw t) x at)

  -- after a container's opener and blanks: its closer, or its first child
  pub begun-closes : get_or x p 0 ≡ closer f.kind → reads (begun K f) x at ≡ goes_on (whole K (closed f (suc p))) x p
  begun-closes h =
      let last : does (begun K f) p (get_or x p 0) ≡ whole K (closed f (suc p)) = unfold step in rw (other, h, closer-closer) in
      over-begun ∙ sees (begun K f) x p last

  pub begun-child : (get_or x p 0 ≡ closer f.kind → ⊥) → reads (begun K f) x at ≡ reads (before (child f.kind K f)) x p
  begun-child h = over-begun ∙ same_here (begun K f) (before (child f.kind K f)) x p (unfold step in rw (other, ne_eqb (get_or x p 0) (closer f.kind) h))

  -- after a child and blanks: the closer, a comma, or neither
  pub after-closes : get_or x p 0 ≡ closer f.kind → reads (after K f) x at ≡ goes_on (whole K (closed f (suc p))) x p
  after-closes h =
      let last : does (after K f) p (get_or x p 0) ≡ whole K (closed f (suc p)) = unfold step in rw (other, h, closer-comma, closer-closer) in
      over-after ∙ sees (after K f) x p last

  pub after-comma : get_or x p 0 ≡ comma → reads (after K f) x at ≡ reads (before (child f.kind K f)) x (suc p)
  after-comma h =
      let last : does (after K f) p (get_or x p 0) ≡ go (before (child f.kind K f)) = unfold step in rw (other, h) in
      over-after ∙ sees (after K f) x p last

  pub after-other : (get_or x p 0 ≡ closer f.kind → ⊥) → (get_or x p 0 ≡ comma → ⊥) → reads (after K f) x at ≡ refused syntax p
  after-other h k =
      let last : does (after K f) p (get_or x p 0) ≡ refuse syntax = unfold step in rw (other, ne_eqb (get_or x p 0) comma k, ne_eqb (get_or x p 0) (closer f.kind) h) in
      over-after ∙ sees (after K f) x p last
