-- The steps of reading a list: a child's key, the children so far, the closer. Assumes nothing.
use Rattle.std.proofs.Common.{◌≡◌, ℕ, suc, ◌+◌, ◌*◌, ◌<◌, ◌≤◌, max, [], ◌∷◌, length, get_or, drop, sym, refl, ap, ◌∙◌, add-one, arith, ne_eqb}
use lib.Seq.{sets}
use Rattle.cel_text.specs.Byte.{Text, blank, colon, comma}
use Rattle.cel_text.specs.Tree.{Kind, array, object, function, closer, Key, key, unkeyed, container, Trees, ∅, ◌▸◌∶◌, nodes_all, depth_all, count}
use Rattle.cel_text.specs.Reading.{Stack, inside, Frame, value, entry, State, before, begun, after, Step, go, refuse, syntax, child, fresh, past, limits, max_nodes, with_key}
use Rattle.cel_text.specs.Table.{Words, rows_all, row_words}
use Rattle.cel_text.specs.Answer.{fault_number}
use Rattle.cel_text.proofs.Laws.Run.{whole-resumes}
use Rattle.parser.specs.Set.{string_set}
use Rattle.parser.specs.declared.Read.{Read}
use Rattle.parser.specs.declared.value.Key.{Key as Found}
use Rattle.parser.specs.Run.{end_of, NamedAt}
use Rattle.parser.specs.Steps.{reads, goes_on, Around, RefusedBy, Sized, WholeValue, framed, Keyed, WholeChild, ChildRefused, WholeList}
use Rattle.parser.proofs.Runs.{end-within, byte-within}
use Rattle.parser.proofs.Machine.{over-key, begun-closes, begun-child, after-closes, after-comma, after-other}
use Rattle.parser.proofs.Rows.{rows_child}
use Rattle.parser.proofs.Values.{Bounds, name-bounds, sized-from}

entry-goes : (K : Stack) (f : Frame) (from to p b : ℕ) → b ≡ colon → past string_set limits (entry K f) from to p b ≡ go (before (value (inside K (with_key f (key from to)))))
unfolding past
entry-goes K f from to p b e = rw e

entry-stops : (K : Stack) (f : Frame) (from to p b : ℕ) → (b ≡ colon → ⊥) → past string_set limits (entry K f) from to p b ≡ refuse syntax
unfolding past
entry-stops K f from to p b h = rw (ne_eqb b colon h)

-- ---- a child's key, and the child

-- an entry: its key, and the colon after it
module _ {x : Text} {p kf kt e : ℕ} (named : NamedAt x p kf kt e) (hp : p ≤ length x) where
  pub key-colon : (k : Found) → k.from.0 ≡ kf → k.to.0 ≡ kt → k.due.0 ≡ suc e → get_or x e 0 ≡ colon → Keyed x object p k
  key-colon k hf ht hd h =
      let b : Bounds x p kf kt e = name-bounds x named hp in
      let inside-text : e < length x = byte-within x e (λ z. omega (arith, h)) in
      record {
        label = key kf kt;
        keyfrom = sym hf;
        keyto = sym ht;
        due = λ K o from to ts. rw hd (over-key x named K (framed object o from to ts unkeyed)
            ∙ ap (λ (s : Step). goes_on s x e) (entry-goes K (framed object o from to ts unkeyed) kf kt e (get_or x e 0) h));
        later = omega (arith, hd, b.later);
        within = omega (arith, hd);
        from_in = omega (arith, hf, b.from_in);
        to_in = omega (arith, ht, b.to_in);
      }

  pub no-colon : (n left : ℕ) → (get_or x e 0 ≡ colon → ⊥) → ChildRefused object x p n left (fault_number syntax) e
  no-colon n left h =
      record {
        fault = syntax;
        number = refl;
        refuses = λ K o from to ts a. over-key x named K (framed object o from to ts unkeyed)
            ∙ ap (λ (s : Step). goes_on s x e) (entry-stops K (framed object o from to ts unkeyed) kf kt e (get_or x e 0) h);
        within = (name-bounds x named hp).within;
      }

-- the stack around a child, whatever the child's key
around-key : {K : Stack} {c : Kind} {o from to n left : ℕ} {ts : Trees} {k : Key} (k' : Key)
    → Around (inside K (framed c o from to ts k)) n left → Around (inside K (framed c o from to ts k')) n left
around-key k' a = record { below = a.below; sofar = a.sofar }

module _ {x : Text} {c : Kind} {p : ℕ} {k : Found} (l : Keyed x c p k) (n left : ℕ) where
  pub whole-child : {w w' : Words} {u : ℕ} {r : Read} → WholeValue (λ K. before (value K)) x w w' k.due.0 n left k.from.0 k.to.0 u r
      → WholeChild c x w w' p n left u r
  whole-child v =
      record {
        label = l.label;
        tree = v.tree;
        reading = λ K o from to ts a. l.due K o from to ts ∙ v.reading (inside K (framed c o from to ts l.label)) a;
        rows = v.rows l.label l.keyfrom l.keyto;
        sized = sized-from l.later v.sized;
      }

  pub refused-child : {r q : ℕ} → RefusedBy (λ K. before (value K)) x k.due.0 n left r q → ChildRefused c x p n left r q
  refused-child v =
      record {
        fault = v.fault;
        number = v.number;
        refuses = λ K o from to ts a. l.due K o from to ts ∙ v.refuses (inside K (framed c o from to ts l.label)) (around-key l.label a);
        within = v.within;
      }

-- ---- the list

-- no closer is 0
closer-some : (c : Kind) → closer c ≡ 0 → ⊥
closer-some array z = omega (arith, z)
closer-some object z = omega (arith, z)
closer-some function z = omega (arith, z)

-- a list so far, from the place after its opener on: its children, and the state and place that the machine is in
pub record Sofar (st : Stack → Frame → State) (x : Text) (w w' : Words) (at n : ℕ) (c : Kind) (left p m i d : ℕ) : Type 0 where
  pub children : Trees
  pub reading : (K : Stack) (o from to : ℕ) → Around K n (suc left) → reads (begun K (fresh c o from to)) x at ≡ reads (st K (framed c o from to children unkeyed)) x p
  pub counts : m ≡ suc n + nodes_all children
  pub number : i ≡ count children
  pub deep : d ≡ depth_all children
  pub rows : w' ≡ sets w (row_words * suc n) (rows_all children (suc n) (suc n))
  pub later : at ≤ p
  pub within : p ≤ length x
  pub room : m ≤ max_nodes
  pub fewer : i + n < m
  pub shallow : d ≤ left

-- where a child is due, and where one has been read
abbrev pub Due-child : (x : Text) (w w' : Words) (at n : ℕ) (c : Kind) (left p m i d : ℕ) → Type 0
Due-child x w w' at n c left p m i d = Sofar (λ K f. before (child c K f)) x w w' at n c left p m i d

abbrev pub Read-child : (x : Text) (w w' : Words) (at n : ℕ) (c : Kind) (left p m i d : ℕ) → Type 0
Read-child x w w' at n c left p m i d = Sofar (λ K f. after K f) x w w' at n c left p m i d

module _ {x : Text} {at p n left : ℕ} {c : Kind} (e : p ≡ end_of blank x at) (hi : at ≤ length x) (few : n + 1 ≤ max_nodes) where
  pub first-child : {w : Words} → (get_or x p 0 ≡ closer c → ⊥) → Due-child x w w at n c left p (n + 1) 0 0
  first-child h =
      record {
        children = ∅;
        reading = λ K o from to a. begun-child K (fresh c o from to) x at p e h;
        counts = omega arith;
        number = refl;
        deep = refl;
        rows = refl;
        later = omega (arith, e);
        within = rw e (end-within blank x at hi);
        room = few;
        fewer = omega arith;
        shallow = omega arith;
      }

  -- a container without children
  pub empty-list : {w w' : Words} (r : Read) → r.end.0 ≡ suc p → r.next.0 ≡ suc n → r.depth ≡ 1
      → get_or x p 0 ≡ closer c → w' ≡ sets w (row_words * n + 6) (0 ∷ r.next.0 ∷ []) → WholeList x w w' at n c left r
  empty-list r er en ed h hw =
      let inside-text : p < length x = byte-within x p (λ z. closer-some c (sym h ∙ z)) in
      record {
        children = ∅;
        reading = λ K o from to a. rw er (begun-closes K (fresh c o from to) x at p e h ∙ whole-resumes string_set limits K (container c o from to (suc p) ∅) p (drop (suc p) x));
        rows = hw;
        sized = λ o from to q. record {
          counts = omega (arith, en);
          deep = ed;
          later = omega (arith, er, e);
          within = omega (arith, er);
          more = omega (arith, en);
          room = omega (arith, en);
          shallow = omega (arith, ed);
        };
      }

-- the stack around the child that is due
around-child : {K : Stack} {n left m o from to : ℕ} {c : Kind} {ts : Trees} {k : Key} → Around K n (suc left) → m ≡ suc n + nodes_all ts → Around (inside K (framed c o from to ts k)) m left
around-child a e = record { below = omega (arith, a.below); sofar = omega (arith, a.sofar) }

module _ {x : Text} {w w' : Words} {at n : ℕ} {c : Kind} {left p m i d : ℕ} (s : Due-child x w w' at n c left p m i d) where
  pub child-read : {w'' : Words} {u d' : ℕ} {r : Read} → u ≡ suc n → d' ≡ max d r.depth → WholeChild c x w' w'' p m left u r
      → Read-child x w w'' at n c left r.end.0 r.next.0 (i + 1) d'
  child-read {w'' = w''} {u = u} {r = r} hu hd v =
      let z : Sized v.tree x p m left r = v.sized in
      record {
        children = s.children ▸ v.label ∶ v.tree;
        reading = λ K o from to a. s.reading K o from to a ∙ v.reading K o from to s.children (around-child a s.counts);
        counts = omega (arith, z.counts, s.counts);
        number = omega (arith, s.number);
        deep = hd ∙ rw (s.deep, z.deep);
        rows = v.rows ∙ rw (s.rows, hu) (rows_child w s.children v.label v.tree (suc n) (suc n) m s.counts);
        later = omega (arith, s.later, z.later);
        within = z.within;
        room = z.room;
        fewer = omega (arith, s.fewer, z.more);
        shallow = omega (arith, hd, s.shallow, z.shallow);
      }

  pub child-refused : {r q : ℕ} → ChildRefused c x p m left r q → (o from to : ℕ) → RefusedBy (λ K. begun K (fresh c o from to)) x at n (suc left) r q
  child-refused v o from to =
      record {
        fault = v.fault;
        number = v.number;
        refuses = λ K a. s.reading K o from to a ∙ v.refuses K o from to s.children (around-child a s.counts);
        within = v.within;
      }

module _ {x : Text} {w w' : Words} {at n : ℕ} {c : Kind} {left p m i d : ℕ} (s : Read-child x w w' at n c left p m i d) (q : ℕ) (e : q ≡ end_of blank x p) where
  stop-in : q ≤ length x
  stop-in = rw e (end-within blank x p s.within)

  pub comma-read : get_or x q 0 ≡ comma → Due-child x w w' at n c left (q + 1) m i d
  comma-read h =
      let inside-text : q < length x = byte-within x q (λ z. omega (arith, h)) in
      record {
        children = s.children;
        reading = λ K o from to a. rw add-one (s.reading K o from to a ∙ after-comma K (framed c o from to s.children unkeyed) x p q e h);
        counts = s.counts;
        number = s.number;
        deep = s.deep;
        rows = s.rows;
        later = omega (arith, s.later, e);
        within = omega arith;
        room = s.room;
        fewer = s.fewer;
        shallow = s.shallow;
      }

  pub list-closed : {w'' : Words} (r : Read) → r.end.0 ≡ suc q → r.next.0 ≡ m → r.depth ≡ d + 1
      → get_or x q 0 ≡ closer c → w'' ≡ sets w' (row_words * n + 6) (i ∷ r.next.0 ∷ []) → WholeList x w w'' at n c left r
  list-closed r er en ed h hw =
      let inside-text : q < length x = byte-within x q (λ z. closer-some c (sym h ∙ z)) in
      record {
        children = s.children;
        reading = λ K o from to a. rw er (s.reading K o from to a ∙ after-closes K (framed c o from to s.children unkeyed) x p q e h
            ∙ whole-resumes string_set limits K (container c o from to (suc q) s.children) q (drop (suc q) x));
        rows = hw ∙ rw (s.rows, s.number);
        sized = λ o from to q'. record {
          counts = omega (arith, en, s.counts);
          deep = omega (arith, ed, s.deep);
          later = omega (arith, er, s.later, e);
          within = omega (arith, er);
          more = omega (arith, en, s.fewer);
          room = omega (arith, en, s.room);
          shallow = omega (arith, ed, s.shallow);
        };
      }

  pub neither-refused : (get_or x q 0 ≡ closer c → ⊥) → (get_or x q 0 ≡ comma → ⊥) → (o from to : ℕ) → RefusedBy (λ K. begun K (fresh c o from to)) x at n (suc left) (fault_number syntax) q
  neither-refused h k o from to =
      record { fault = syntax; number = refl; refuses = λ K a. s.reading K o from to a ∙ after-other K (framed c o from to s.children unkeyed) x p q e h k; within = stop-in }
