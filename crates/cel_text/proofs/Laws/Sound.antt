-- Whatever the machine accepts is a value of the grammar, and the limits admit it: each state says how the bytes read so far
-- are put together, and each step keeps that. Assumes nothing.
use Rattle.std.specs.Prelude.{◌≡◌, Bool, false, T}
use Rattle.std.proofs.Math.Path.{refl, sym, ap, subst₂}
use Rattle.std.proofs.Common.{subst, ◌∙◌, suc-add, arith}
use Prim.Native.Nat.{ℕ, suc, ◌+◌, ◌≤◌}
use Rattle.std.proofs.Math.Bool.{true}
use mathlib.Core.List.{[], ◌∷◌, ◌++◌, append_assoc, append-nil}
use Rattle.std.proofs.Math.ListN.{length, length-append}
use Rattle.std.proofs.Math.Dec.{eqb}
use borrow.Author.Tests.{eqb-true}
use Rattle.cel_text.specs.Byte.{Text, ◌⧺◌, blank, ident_byte, Run, over, byte, Blanks, Identifier, quote, comma, colon}
use Rattle.cel_text.specs.Tree.{Kind, array, object, function, opener, closer, Key, unkeyed, key, Tree, string, container, Trees, nodes, nodes_all, depth}
use Rattle.cel_text.specs.Grammar.{Named, nameless, with_name, Head, array_head, object_head, function_head, Label, in_array, in_function, in_object, Separator, first, next, Value, a_string}
use Rattle.cel_text.specs.Grammar.{a_container, Children, no_child, one_more}
use Rattle.cel_text.specs.Reading.{Limits, Stack, root, inside, level, opened, Frame, Due, value, entry, State, before, naming, named, quoted, dropping, begun, after, Step, go, done, refuse}
use Rattle.cel_text.specs.Reading.{step, start, past, bare, unquote, enter, enter_string, whole, child, closed, with_key, accepted, read, limits, max_depth, max_nodes}
use Rattle.cel_text.proofs.Laws.Class.{by-test}
use Rattle.cel_text.proofs.Laws.Admit.{Admits, AdmitsAll, admits-fits}
use Rattle.cel_text.proofs.Laws.Trace.{Trace, here, there, Accepts, Ends, ends}

-- one byte more at a run's end
snoc : {f : ℕ → Bool} {x : Text} → Run f x → (b : ℕ) → T (f b) → Run f (x ++ b ∷ [])
snoc over b t = byte t over
snoc (byte t r) b u = byte t (snoc r b u)

passed : {b : Bool} → b ≡ true → T b
passed e = subst T (sym e) tt

module _ (S : ℕ → Bool) where
  -- ---- how the bytes read so far are put together

  -- y ends with the container f's opener and children; `Outer` says it of what stands before f
  pub record Holds (Outer : Text → Type 0) (y : Text) (f : Frame) : Type 0 where
    pub outer : Text
    pub head : Text
    pub kids : Text
    pub ready : Outer outer
    pub is_head : Head f.kind (length outer) head f.from f.to
    pub opening : f.o ≡ length outer + length head
    pub are_kids : Children S f.kind (suc (length outer + length head)) kids f.children
    pub split : y ≡ outer ⧺ head ⧺ opener f.kind ∷ kids

  -- and then a separator and a label, so that f's next value is due
  pub record Awaits (Outer : Text → Type 0) (y : Text) (f : Frame) : Type 0 where
    pub held : Text
    pub separator : Text
    pub label : Text
    pub holds : Holds Outer held f
    pub is_separator : Separator f.children separator
    pub is_label : Label f.kind (length held + length separator) label f.next
    pub split : y ≡ held ⧺ separator ⧺ label

  -- a value is due in K, right after y
  abbrev pub Ready : Stack → Text → Type 0
  Ready root y = y ≡ []
  Ready (inside K f) y = Awaits (λ z. Ready K z) y f

  pub record Entering (K : Stack) (f : Frame) (y : Text) : Type 0 where
    pub is_object : f.kind ≡ object
    pub held : Text
    pub separator : Text
    pub holds : Holds (Ready K) held f
    pub is_separator : Separator f.children separator
    pub split : y ≡ held ⧺ separator

  abbrev pub DueAt : Due → Text → Type 0
  DueAt (value K) y = Ready K y
  DueAt (entry K f) y = Entering K f y

  pub record Blank (P : Text → Type 0) (x : Text) : Type 0 where
    pub front : Text
    pub blanks : Text
    pub holds : P front
    pub are_blanks : Blanks blanks
    pub split : x ≡ front ⧺ blanks

  pub record Naming (w : Due) (from : ℕ) (x : Text) : Type 0 where
    pub front : Text
    pub blanks : Text
    pub i : ℕ
    pub is : Text
    pub due : DueAt w front
    pub are_blanks : Blanks blanks
    pub is_name : Identifier (i ∷ is)
    pub begins : from ≡ length front + length blanks
    pub split : x ≡ front ⧺ blanks ⧺ i ∷ is

  -- a part that ended at place `to`, and blanks
  pub record Ended (P : Text → Type 0) (to : ℕ) (x : Text) : Type 0 where
    pub stem : Text
    pub blanks : Text
    pub holds : P stem
    pub are_blanks : Blanks blanks
    pub ends : to ≡ length stem
    pub split : x ≡ stem ⧺ blanks

  pub record Quoted (K : Stack) (o : ℕ) (x : Text) : Type 0 where
    pub front : Text
    pub blanks : Text
    pub content : Text
    pub ready : Ready K front
    pub are_blanks : Blanks blanks
    pub is_content : Run S content
    pub opening : o ≡ length front + length blanks
    pub split : x ≡ front ⧺ blanks ⧺ quote ∷ content

  pub record Resting (K : Stack) (f : Frame) (Next : Trees → Type 0) (y : Text) : Type 0 where
    pub holds : Holds (Ready K) y f
    pub separable : Next f.children
    pub no_key : f.next ≡ unkeyed

  abbrev AtFirst : Trees → Type 0
  AtFirst ts = Separator ts []

  abbrev AtNext : Trees → Type 0
  AtNext ts = (b : Text) → Blanks b → Separator ts (b ⧺ comma ∷ [])

  -- x has been read, and st is being read
  abbrev pub Partial : State → Text → Type 0
  Partial (before w) x = Blank (DueAt w) x
  Partial (naming w from) x = Naming w from x
  Partial (named w from to) x = Ended (Naming w from) to x
  Partial (quoted K o) x = Quoted K o x
  Partial (dropping K o to) x = Ended (Quoted K o) to x
  Partial (begun K f) x = Blank (Resting K f AtFirst) x
  Partial (after K f) x = Blank (Resting K f AtNext) x

  -- what a step leads to, x being read with its byte
  abbrev pub Good : Step → Text → Type 0
  Good (go st) x = Partial st x
  Good (done t) x = Value S 0 x t
  Good (refuse f) x = Unit

  -- ---- the parts of a step

  whole-good : (K : Stack) (t : Tree) (y : Text) {v : Text} → Ready K y → Value S (length y) v t → (x : Text) → x ≡ y ⧺ v → Good (whole K t) x
  whole-good root t y {v = v} r val x e =
      subst (λ (z : Text). Value S 0 z t) (sym (e ∙ ap (λ (z : Text). z ++ v) r)) (subst (λ (n : ℕ). Value S n v t) (ap length r) val)
  whole-good (inside K f) t y {v = v} a val x e =
      let h : Holds (Ready K) a.held f = a.holds in
      let n : ℕ = suc (length h.outer + length h.head) + length h.kids in
      let held_long : length a.held ≡ n = ap length h.split ∙ simp length-append (omega arith) in
      let yLong : length y ≡ n + length a.separator + length a.label = ap length a.split ∙ simp length-append (omega arith) in
      record {
        front = x;
        blanks = [];
        holds =
            record {
              holds =
                  record {
                    outer = h.outer;
                    head = h.head;
                    kids = h.kids ⧺ a.separator ⧺ a.label ⧺ v;
                    ready = h.ready;
                    is_head = h.is_head;
                    opening = h.opening;
                    are_kids =
                        one_more h.are_kids a.is_separator
                        (subst (λ (m : ℕ). Label f.kind m a.label f.next) (ap (λ (m : ℕ). m + length a.separator) held_long) a.is_label)
                        (subst (λ (m : ℕ). Value S m v t) yLong val);
                    split = rw (e, a.split, h.split) (simp append_assoc);
                  };
              separable = λ b bs. next bs;
              no_key = refl;
            };
        are_blanks = over;
        split = sym (append-nil x);
      }

  rekeyed : {Outer : Text → Type 0} {y : Text} {f : Frame} (k : Key) → Holds Outer y f → Holds Outer y (with_key f k)
  rekeyed k h =
      record {
        outer = h.outer;
        head = h.head;
        kids = h.kids;
        ready = h.ready;
        is_head = h.is_head;
        opening = h.opening;
        are_kids = h.are_kids;
        split = h.split;
      }

  close-good : (K : Stack) (f : Frame) (y : Text) {b : Text} → Holds (Ready K) y f → Blanks b → (p : ℕ) (x : Text) → p ≡ length y + length b → x ≡ y ⧺ b ⧺ closer f.kind ∷ []
      → Good (whole K (closed f (suc p))) x
  close-good K f y {b = b} h bs p x ep ex =
      let o : ℕ = length h.outer + length h.head in
      let q : suc (suc o + length h.kids + length b) ≡ suc p = sym (ap suc (ep ∙ ap (λ (n : ℕ). n + length b) (ap length h.split ∙ simp length-append (omega arith)))) in
      whole-good K (closed f (suc p)) h.outer h.ready
      (subst (Value S (length h.outer) (h.head ⧺ (opener f.kind ∷ h.kids) ⧺ b ⧺ closer f.kind ∷ []))
      (λ i. container f.kind (sym h.opening i) f.from f.to (q i) f.children) (a_container h.is_head h.are_kids bs))
      x (rw (ex, h.split) (simp append_assoc))

  child-due : (K : Stack) (f : Frame) (y s x : Text) → Holds (Ready K) y f → Separator f.children s → f.next ≡ unkeyed → x ≡ y ⧺ s → (c : Kind) → f.kind ≡ c → DueAt (child c K f) x
  child-due K f y s x h sep nk e array ec =
      record {
        held = y;
        separator = s;
        label = [];
        holds = h;
        is_separator = sep;
        is_label = subst₂ (λ (c : Kind) (k : Key). Label c (length y + length s) [] k) (sym ec) (sym nk) in_array;
        split = rw e (simp append-nil);
      }
  child-due K f y s x h sep nk e function ec =
      record {
        held = y;
        separator = s;
        label = [];
        holds = h;
        is_separator = sep;
        is_label = subst₂ (λ (c : Kind) (k : Key). Label c (length y + length s) [] k) (sym ec) (sym nk) in_function;
        split = rw e (simp append-nil);
      }
  child-due K f y s x h sep nk e object ec = record { is_object = ec; held = y; separator = s; holds = h; is_separator = sep; split = e }

  module _ (L : Limits) where
    enter-good : (c : Kind) (K : Stack) (y : Text) {h : Text} {from to : ℕ} → Ready K y → Head c (length y) h from to → (p : ℕ) (x : Text) → p ≡ length y + length h → x ≡ y ⧺ h ⧺ opener c ∷ []
        → Good (enter S L c K from to p) x
    unfolding enter
    enter-good c K y {h = h} r hd p x ep ex =
        by-test (λ u. Good u x) (L.deep _) _ _ (λ e. tt) (λ e. by-test (λ u. Good u x) (L.many _) _ _ (λ e'. tt) (λ e'.
        record {
          front = x;
          blanks = [];
          are_blanks = over;
          split = sym (append-nil x);
          holds =
              record {
                holds = record { outer = y; head = h; kids = []; ready = r; is_head = hd; opening = ep; are_kids = no_child; split = ex };
                separable = first;
                no_key = refl;
              };
        }))

    enter_string-good : (K : Stack) (y : Text) {b : Text} → Ready K y → Blanks b → (p : ℕ) (x : Text) → p ≡ length y + length b → x ≡ y ⧺ b ⧺ quote ∷ [] → Good (enter_string S L K p) x
    unfolding enter_string
    enter_string-good K y {b = b} r bs p x ep ex =
        by-test (λ u. Good u x) (L.many _) _ _ (λ e. tt)
        (λ e. record { front = y; blanks = b; content = []; ready = r; are_blanks = bs; is_content = over; opening = ep; split = ex })

    past-good : (w : Due) (y : Text) {l : Text} {from to : ℕ} → DueAt w y → Named (length y) l from to → (p b : ℕ) (x : Text) → p ≡ length y + length l → x ≡ y ⧺ l ⧺ b ∷ []
        → Good (past S L w from to p b) x
    unfolding past
    past-good (value K) y {l = l} r n p b x ep ex =
        by-test (λ u. Good u x) (eqb b (opener object)) _ _ (λ e. enter-good object K y r (object_head n) p x ep (at (opener object) e))
        (λ e. by-test (λ u. Good u x) (eqb b (opener function)) _ _ (λ e'. enter-good function K y r (function_head n) p x ep (at (opener function) e')) (λ e'. tt))
      where
        at : (m : ℕ) → eqb b m ≡ true → x ≡ y ⧺ l ⧺ m ∷ []
        at m e = ex ∙ ap (λ (z : ℕ). y ⧺ l ⧺ z ∷ []) (eqb-true b m e)
    past-good (entry K f) y {l = l} {from = from} {to = to} d n p b x ep ex =
        by-test (λ u. Good u x) (eqb b colon) _ _ (λ e.
        record {
          front = x;
          blanks = [];
          are_blanks = over;
          split = sym (append-nil x);
          holds =
              record {
                held = d.held;
                separator = d.separator;
                label = l ⧺ colon ∷ [];
                holds = rekeyed (key from to) d.holds;
                is_separator = d.is_separator;
                is_label = subst₂ (λ (c : Kind) (m : ℕ). Label c m (l ⧺ colon ∷ []) (key from to)) (sym d.is_object) (ap length d.split ∙ length-append d.held d.separator) (in_object n);
                split = rw (ex, d.split, eqb-true b colon e) (simp append_assoc);
              };
        }) (λ e. tt)

    bare-good : (w : Due) (y : Text) {b : Text} → DueAt w y → Blanks b → (p c : ℕ) (x : Text) → p ≡ length y + length b → x ≡ y ⧺ b ⧺ c ∷ [] → Good (bare S L w p c) x
    unfolding bare
    bare-good (value K) y {b = b} d bs p c x ep ex =
        by-test (λ u. Good u x) (eqb c (opener array)) _ _ (λ e. enter-good array K y d (array_head bs) p x ep (at (opener array) e))
        (λ e. by-test (λ u. Good u x) (eqb c quote) _ _ (λ e'. enter_string-good K y d bs p x ep (at quote e'))
        (λ e'. past-good (value K) y d (subst (λ (n : ℕ). Named (length y) b n n) (sym ep) (nameless bs)) p c x ep ex))
      where
        at : (m : ℕ) → eqb c m ≡ true → x ≡ y ⧺ b ⧺ m ∷ []
        at m e = ex ∙ ap (λ (z : ℕ). y ⧺ b ⧺ z ∷ []) (eqb-true c m e)
    bare-good (entry K f) y {b = b} d bs p c x ep ex = past-good (entry K f) y d (subst (λ (n : ℕ). Named (length y) b n n) (sym ep) (nameless bs)) p c x ep ex

    start-good : (w : Due) (y : Text) {b : Text} → DueAt w y → Blanks b → (p c : ℕ) (x : Text) → p ≡ length y + length b → x ≡ y ⧺ b ⧺ c ∷ [] → Good (start S L w p c) x
    unfolding start
    start-good w y {b = b} d bs p c x ep ex =
        by-test (λ u. Good u x) (blank c) _ _ (λ e. record { front = y; blanks = b ⧺ c ∷ []; holds = d; are_blanks = snoc bs c (passed e); split = ex })
        (λ e. by-test (λ u. Good u x) (ident_byte c) _ _
        (λ e'. record { front = y; blanks = b; i = c; is = []; due = d; are_blanks = bs; is_name = byte (passed e') over; begins = ep; split = ex })
        (λ e'. bare-good w y d bs p c x ep ex))

    unquote-good : (K : Stack) (o to p b : ℕ) {z : Text} → Ended (Quoted K o) to z → (x : Text) → p ≡ length z → x ≡ z ⧺ b ∷ [] → Good (unquote S L K o to p b) x
    unfolding unquote
    unquote-good K o to p b d x ep ex =
        let q : Quoted K o d.stem = d.holds in
        let m : ℕ = length q.front + length q.blanks in
        let n : ℕ = suc m + length q.content in
        let ends : n ≡ to = sym (d.ends ∙ ap length q.split ∙ simp length-append (omega arith)) in
        let closes : suc (n + length d.blanks) ≡ suc p =
        ap suc (ap (λ (k : ℕ). k + length d.blanks) (ends ∙ d.ends) ∙ sym (length-append d.stem d.blanks) ∙ sym (ap length d.split) ∙ sym ep)
        in
        by-test (λ u. Good u x) (blank b) _ _
        (λ e.
        record {
          stem = d.stem;
          blanks = d.blanks ⧺ b ∷ [];
          holds = q;
          are_blanks = snoc d.are_blanks b (passed e);
          ends = d.ends;
          split = rw (ex, d.split) (simp append_assoc);
        })
        (λ e. by-test (λ u. Good u x) (eqb b quote) _ _
        (λ e'.
        whole-good K (string o to (suc p)) q.front q.ready
        (subst (Value S (length q.front) (q.blanks ⧺ (quote ∷ q.content) ⧺ d.blanks ⧺ quote ∷ []))
        (λ i. string (sym q.opening i) (ends i) (closes i)) (a_string q.are_blanks q.is_content d.are_blanks))
        x (rw (ex, d.split, q.split, eqb-true b quote e') (simp append_assoc)))
        (λ e'. tt))

    -- the name that ends where the stem does
    name_of : (w : Due) (from : ℕ) {z c : Text} (d : Naming w from z) → Blanks c → (to : ℕ) → to ≡ length z → Named (length d.front) (d.blanks ⧺ (d.i ∷ d.is) ⧺ c) from to
    name_of w from {c = c} d cs to e =
        subst₂ (Named (length d.front) (d.blanks ⧺ (d.i ∷ d.is) ⧺ c)) (sym d.begins) (sym (e ∙ ap length d.split ∙ simp length-append (omega arith)))
        (with_name d.are_blanks d.is_name cs)

    -- each step keeps how the bytes are put together
    step-good : (st : State) (z : Text) (b : ℕ) → Partial st z → (x : Text) → x ≡ z ⧺ b ∷ [] → Good (step S L st (length z) b) x
    unfolding step
    step-good (before w) z b d x ex =
        start-good w d.front d.holds d.are_blanks (length z) b x (ap length d.split ∙ length-append d.front d.blanks) (rw (ex, d.split) (simp append_assoc))
    step-good (naming w from) z b d x ex =
        by-test (λ u. Good u x) (ident_byte b) _ _
        (λ e.
        record {
          front = d.front;
          blanks = d.blanks;
          i = d.i;
          is = d.is ⧺ b ∷ [];
          due = d.due;
          are_blanks = d.are_blanks;
          is_name = snoc d.is_name b (passed e);
          begins = d.begins;
          split = rw (ex, d.split) (simp append_assoc);
        })
        (λ e. by-test (λ u. Good u x) (blank b) _ _
        (λ e'. record { stem = z; blanks = b ∷ []; holds = d; are_blanks = byte (passed e') over; ends = refl; split = ex })
        (λ e'. past-good w d.front d.due (name_of w from d over (length z) refl) (length z) b x (ap length d.split ∙ simp length-append (omega arith))
        (rw (ex, d.split) (simp append_assoc))))
    step-good (named w from to) z b d x ex =
        let m : Naming w from d.stem = d.holds in
        by-test (λ u. Good u x) (blank b) _ _
        (λ e.
        record {
          stem = d.stem;
          blanks = d.blanks ⧺ b ∷ [];
          holds = m;
          are_blanks = snoc d.are_blanks b (passed e);
          ends = d.ends;
          split = rw (ex, d.split) (simp append_assoc);
        })
        (λ e. past-good w m.front m.due (name_of w from m d.are_blanks to d.ends) (length z) b x
        (ap length (d.split ∙ ap (λ (u : Text). u ++ d.blanks) m.split) ∙ simp length-append (omega arith)) (rw (ex, d.split, m.split) (simp append_assoc)))
    step-good (quoted K o) z b d x ex =
        by-test (λ u. Good u x) (S b) _ _
        (λ e.
        record {
          front = d.front;
          blanks = d.blanks;
          content = d.content ⧺ b ∷ [];
          ready = d.ready;
          are_blanks = d.are_blanks;
          is_content = snoc d.is_content b (passed e);
          opening = d.opening;
          split = rw (ex, d.split) (simp append_assoc);
        })
        (λ e. unquote-good K o (length z) (length z) b (record { stem = z; blanks = []; holds = d; are_blanks = over; ends = refl; split = sym (append-nil z) }) x refl ex)
    step-good (dropping K o to) z b d x ex = unquote-good K o to (length z) b d x refl ex
    step-good (begun K f) z b d x ex =
        let r : Resting K f AtFirst d.front = d.holds in
        let ep : length z ≡ length d.front + length d.blanks = ap length d.split ∙ length-append d.front d.blanks in
        let ex' : x ≡ d.front ⧺ d.blanks ⧺ b ∷ [] = rw (ex, d.split) (simp append_assoc) in
        by-test (λ u. Good u x) (blank b) _ _
        (λ e. record { front = d.front; blanks = d.blanks ⧺ b ∷ []; holds = r; are_blanks = snoc d.are_blanks b (passed e); split = ex' })
        (λ e. by-test (λ u. Good u x) (eqb b (closer f.kind)) _ _
        (λ e'. close-good K f d.front r.holds d.are_blanks (length z) x ep (ex' ∙ ap (λ (m : ℕ). d.front ⧺ d.blanks ⧺ m ∷ []) (eqb-true b (closer f.kind) e')))
        (λ e'. start-good (child f.kind K f) d.front (child-due K f d.front [] d.front r.holds r.separable r.no_key (sym (append-nil d.front)) f.kind refl)
        d.are_blanks (length z) b x ep ex'))
    step-good (after K f) z b d x ex =
        let r : Resting K f AtNext d.front = d.holds in
        let ep : length z ≡ length d.front + length d.blanks = ap length d.split ∙ length-append d.front d.blanks in
        let ex' : x ≡ d.front ⧺ d.blanks ⧺ b ∷ [] = rw (ex, d.split) (simp append_assoc) in
        let at : (m : ℕ) → eqb b m ≡ true → x ≡ d.front ⧺ d.blanks ⧺ m ∷ [] = λ m e. ex' ∙ ap (λ (k : ℕ). d.front ⧺ d.blanks ⧺ k ∷ []) (eqb-true b m e) in
        by-test (λ u. Good u x) (blank b) _ _
        (λ e. record { front = d.front; blanks = d.blanks ⧺ b ∷ []; holds = r; are_blanks = snoc d.are_blanks b (passed e); split = ex' })
        (λ e. by-test (λ u. Good u x) (eqb b comma) _ _
        (λ e'.
        record {
          front = x;
          blanks = [];
          are_blanks = over;
          split = sym (append-nil x);
          holds = child-due K f d.front (d.blanks ⧺ comma ∷ []) x r.holds (r.separable d.blanks d.are_blanks) r.no_key (at comma e') f.kind refl;
        })
        (λ e'. by-test (λ u. Good u x) (eqb b (closer f.kind)) _ _ (λ e''. close-good K f d.front r.holds d.are_blanks (length z) x ep (at (closer f.kind) e'')) (λ e''. tt)))

    -- and so does a trace
    pub trace-good : {st st' : State} {p : ℕ} {v : Text} → Trace S L st p v st' → (z : Text) → p ≡ length z → Partial st z → Partial st' (z ++ v)
    trace-good {st' = st'} here z ep d = subst (Partial st') (sym (append-nil z)) d
    trace-good {st = st} {st' = st''} (there {st' = st'} {b = b} {v = v} e tr) z ep d =
        let g : Partial st' (z ++ b ∷ []) = subst (λ (u : Step). Good u (z ++ b ∷ [])) (ap (λ (n : ℕ). step S L st n b) (sym ep) ∙ e) (step-good st z b d (z ++ b ∷ []) refl) in
        subst (Partial st'') (append_assoc z (b ∷ []) v) (trace-good tr (z ++ b ∷ []) (ap suc ep ∙ simp length-append (omega arith)) g)

-- ---- the limits are kept

module _ (S : ℕ → Bool) (L : Limits) where
  -- the limits admit every node that has opened
  abbrev Kept : Stack → Type 0
  Kept root = Unit
  Kept (inside K f) = Kept K × (L.deep (suc (level K)) ≡ false) × (L.many (opened K) ≡ false) × AdmitsAll L f.children (suc (level K)) (suc (opened K))

  abbrev KeptDue : Due → Type 0
  KeptDue (value K) = Kept K
  KeptDue (entry K f) = Kept (inside K f)

  abbrev KeptState : State → Type 0
  KeptState (before w) = KeptDue w
  KeptState (naming w from) = KeptDue w
  KeptState (named w from to) = KeptDue w
  KeptState (quoted K o) = Kept K × (L.many (opened K) ≡ false)
  KeptState (dropping K o to) = Kept K × (L.many (opened K) ≡ false)
  KeptState (begun K f) = Kept (inside K f)
  KeptState (after K f) = Kept (inside K f)

  abbrev KeptStep : Step → Type 0
  KeptStep (go st) = KeptState st
  KeptStep (done t) = Admits L t 0 0
  KeptStep (refuse f) = Unit

  kept_whole : (K : Stack) (t : Tree) → Kept K → Admits L t (level K) (opened K) → KeptStep (whole K t)
  kept_whole root t k a = a
  kept_whole (inside K f) t k a =
      (k.0, k.1, k.2, (k.3, subst (λ (n : ℕ). Admits L t (suc (level K)) n) (sym (suc-add (opened K) (nodes_all f.children))) a))

  kept-enter : (c : Kind) (K : Stack) (from to p : ℕ) → Kept K → KeptStep (enter S L c K from to p)
  unfolding enter
  kept-enter c K from to p k =
      by-test KeptStep (L.deep (suc (level K))) _ _ (λ e. tt) (λ d. by-test KeptStep (L.many (opened K)) _ _ (λ e. tt) (λ m. (k, d, m, tt)))

  kept-past : (w : Due) (from to p b : ℕ) → KeptDue w → KeptStep (past S L w from to p b)
  unfolding past
  kept-past (value K) from to p b k =
      by-test KeptStep (eqb b (opener object)) _ _ (λ e. kept-enter object K from to p k)
      (λ e. by-test KeptStep (eqb b (opener function)) _ _ (λ e'. kept-enter function K from to p k) (λ e'. tt))
  kept-past (entry K f) from to p b k = by-test KeptStep (eqb b colon) _ _ (λ e. k) (λ e. tt)

  kept-bare : (w : Due) (p b : ℕ) → KeptDue w → KeptStep (bare S L w p b)
  unfolding bare enter_string
  kept-bare (value K) p b k =
      by-test KeptStep (eqb b (opener array)) _ _ (λ e. kept-enter array K 0 0 p k)
      (λ e. by-test KeptStep (eqb b quote) _ _ (λ e'. by-test KeptStep (L.many (opened K)) _ _ (λ m. tt) (λ m. (k, m))) (λ e'. kept-past (value K) p p p b k))
  kept-bare (entry K f) p b k = kept-past (entry K f) p p p b k

  kept-start : (w : Due) (p b : ℕ) → KeptDue w → KeptStep (start S L w p b)
  unfolding start
  kept-start w p b k = by-test KeptStep (blank b) _ _ (λ e. k) (λ e. by-test KeptStep (ident_byte b) _ _ (λ e'. k) (λ e'. kept-bare w p b k))

  kept-unquote : (K : Stack) (o to p b : ℕ) → Kept K × (L.many (opened K) ≡ false) → KeptStep (unquote S L K o to p b)
  unfolding unquote
  kept-unquote K o to p b k = by-test KeptStep (blank b) _ _ (λ e. k) (λ e. by-test KeptStep (eqb b quote) _ _ (λ e'. kept_whole K (string o to (suc p)) k.0 k.1) (λ e'. tt))

  kept-child : (c : Kind) (K : Stack) (f : Frame) → Kept (inside K f) → KeptDue (child c K f)
  kept-child array K f k = k
  kept-child object K f k = k
  kept-child function K f k = k

  kept-close : (K : Stack) (f : Frame) (q : ℕ) → Kept (inside K f) → KeptStep (whole K (closed f q))
  kept-close K f q k = kept_whole K (closed f q) k.0 (k.1, k.2, k.3)

  kept_step : (st : State) (p b : ℕ) → KeptState st → KeptStep (step S L st p b)
  unfolding step
  kept_step (before w) p b k = kept-start w p b k
  kept_step (naming w from) p b k = by-test KeptStep (ident_byte b) _ _ (λ e. k) (λ e. by-test KeptStep (blank b) _ _ (λ e'. k) (λ e'. kept-past w from p p b k))
  kept_step (named w from to) p b k = by-test KeptStep (blank b) _ _ (λ e. k) (λ e. kept-past w from to p b k)
  kept_step (quoted K o) p b k = by-test KeptStep (S b) _ _ (λ e. k) (λ e. kept-unquote K o p p b k)
  kept_step (dropping K o to) p b k = kept-unquote K o to p b k
  kept_step (begun K f) p b k =
      by-test KeptStep (blank b) _ _ (λ e. k)
      (λ e. by-test KeptStep (eqb b (closer f.kind)) _ _ (λ e'. kept-close K f (suc p) k) (λ e'. kept-start (child f.kind K f) p b (kept-child f.kind K f k)))
  kept_step (after K f) p b k =
      by-test KeptStep (blank b) _ _ (λ e. k)
      (λ e. by-test KeptStep (eqb b comma) _ _ (λ e'. kept-child f.kind K f k) (λ e'. by-test KeptStep (eqb b (closer f.kind)) _ _ (λ e''. kept-close K f (suc p) k) (λ e''. tt)))

  kept-trace : {st st' : State} {p : ℕ} {v : Text} → Trace S L st p v st' → KeptState st → KeptState st'
  kept-trace here k = k
  kept-trace {st = st} {p = p} (there {b = b} e tr) k = kept-trace tr (subst KeptStep e (kept_step st p b k))

  -- what is accepted the limits admit
  accepts-admitted : (x : Text) (t : Tree) (q : ℕ) → Accepts S L (before (value root)) 0 x t q → Admits L t 0 0
  accepts-admitted x t q a = subst KeptStep a.ends (kept_step a.state (0 + length a.before) a.last (kept-trace a.trace tt))

  pub admitted : (x : Text) (t : Tree) (q : ℕ) → read S L x ≡ accepted t q → Admits L t 0 0
  admitted x t q e = accepts-admitted x t q (subst (Ends S L (before (value root)) 0 x) e (ends S L (before (value root)) 0 x))

-- ---- T1

-- x begins with a whole value, which is t and ends at place q
pub record Reads (S : ℕ → Bool) (x : Text) (t : Tree) (q : ℕ) : Type 0 where
  pub value : Text
  pub rest : Text
  pub split : x ≡ value ⧺ rest
  pub place : q ≡ length value
  pub reads : Value S 0 value t

accepts-reads : (S : ℕ → Bool) (L : Limits) (x : Text) (t : Tree) (q : ℕ) → Accepts S L (before (value root)) 0 x t q → Reads S x t q
accepts-reads S L x t q a =
    let v : Text = a.before in
    let g : Partial S a.state v = trace-good S L a.trace [] refl (record { front = []; blanks = []; holds = refl; are_blanks = over; split = refl }) in
    let at : length v ≡ 0 + length v = omega arith in
    record {
      value = v ++ a.last ∷ [];
      rest = a.rest;
      split = a.split ∙ simp append_assoc;
      place = a.place ∙ simp length-append (omega arith);
      reads = subst (λ (u : Step). Good S u (v ++ a.last ∷ [])) (ap (λ (n : ℕ). step S L a.state n a.last) at ∙ a.ends) (step-good S L a.state v a.last g (v ++ a.last ∷ []) refl);
    }

pub sound : (S : ℕ → Bool) (L : Limits) (x : Text) (t : Tree) (q : ℕ) → read S L x ≡ accepted t q → Reads S x t q
sound S L x t q e = accepts-reads S L x t q (subst (Ends S L (before (value root)) 0 x) e (ends S L (before (value root)) 0 x))

-- the limits of SPEC.md are kept
pub within : (S : ℕ → Bool) (x : Text) (t : Tree) (q : ℕ) → read S limits x ≡ accepted t q → (depth t ≤ max_depth) × (nodes t ≤ max_nodes)
within S x t q e =
    let h : (0 + depth t ≤ max_depth) × (0 + nodes t ≤ max_nodes) = admits-fits t 0 0 (omega arith) (omega arith) (admitted S limits x t q e) in
    omega arith
