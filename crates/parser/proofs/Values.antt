-- The steps of reading a value, put together: from what the parts find to what the machine does from the value's start. Assumes nothing.
use Rattle.std.proofs.Common.{◌≡◌, ℕ, suc, ◌+◌, ◌*◌, ◌<◌, ◌≤◌, Bool, true, false, eqb, Some, None, [], ◌∷◌, length, get_or, drop, sym, refl, ap, ◌∙◌, subst, add-one, arith, eq-eqb, ne_eqb}
use lib.Seq.{sets}
use Rattle.cel_text.specs.Byte.{Text, blank, ident_byte, quote}
use Rattle.cel_text.specs.Tree.{Kind as Told, Tree, string, container, nodes_all}
use Rattle.cel_text.specs.Reading.{Stack, level, opened, value, State, before, quoted, begun, Step, syntax, too_deep, too_many, fresh, enter, enter_string, limits, max_depth, max_nodes}
use Rattle.cel_text.specs.Table.{Words, kind_number, row_words}
use Rattle.cel_text.proofs.Laws.Run.{whole-resumes}
use Rattle.parser.specs.Set.{string_set}
use Rattle.parser.specs.declared.Read.{Read}
use Rattle.parser.specs.declared.value.Kind.{Kind}
use Rattle.parser.specs.declared.value.Kind.TheVariants.{Array, Object, Function}
use Rattle.parser.specs.declared.value.Opener.{Opener}
use Rattle.parser.specs.declared.value.Opener.TheVariants.{Quote, Container}
use Rattle.parser.specs.Run.{end_of, NamedAt}
use Rattle.parser.specs.Kinds.{kind_told, opener_kind, shown, open_state}
use Rattle.parser.specs.Steps.{reads, goes_on, Around, RefusedBy, Headed, Entered, NotEntered, Sized, WholeValue, WholeList}
use Rattle.parser.proofs.Runs.{end-within, byte-within}
use Rattle.parser.proofs.Machine.{over-opener, over-string}
use Rattle.parser.proofs.Rows.{rows-string, rows-container}

-- ---- the limits

around-deep : {K : Stack} {n left : ℕ} → Around K n left → left ≡ 0 → eqb (suc (level K)) (suc max_depth) ≡ true
around-deep {K = K} a e = eq-eqb (suc (level K)) (suc max_depth) (omega (arith, a.below))

around-shallow : {K : Stack} {n left : ℕ} → Around K n left → (left ≡ 0 → ⊥) → eqb (suc (level K)) (suc max_depth) ≡ false
around-shallow {K = K} a h = ne_eqb (suc (level K)) (suc max_depth) (λ e. omega (arith, a.below))

around-full : {K : Stack} {n left : ℕ} → Around K n left → n ≡ max_nodes → eqb (opened K) max_nodes ≡ true
around-full {K = K} a e = eq-eqb (opened K) max_nodes (a.sofar ∙ e)

around-room : {K : Stack} {n left : ℕ} → Around K n left → (n ≡ max_nodes → ⊥) → eqb (opened K) max_nodes ≡ false
around-room {K = K} a h = ne_eqb (opened K) max_nodes (λ e. h (sym a.sofar ∙ e))

module _ (p n left : ℕ) where
  stopped-string : n ≡ max_nodes → NotEntered Quote p n left 6 p
  unfolding enter_string
  stopped-string full = record { fault = too_many; number = refl; refuses = λ K from to a. rw (around-full a full); there = refl }

  entered-string : (n ≡ max_nodes → ⊥) → n ≤ max_nodes → Entered Quote p n left (p + 1)
  unfolding enter_string
  entered-string some few = record { next = add-one p; room = omega arith; deeper = λ k e. cc; goes = λ K from to a. rw (around-room a some) }

  module _ (kind : Kind) where
    -- by equations, so that the check's search finds it
    pub stopped_deep : {o : Opener} {r q : ℕ} → o ≡ Container kind → left ≡ 0 → r ≡ 5 → q ≡ p → NotEntered o p n left r q
    unfolding enter
    stopped_deep i e k h = record { fault = too_deep; number = sym k; refuses = λ K from to a. rw (i, around-deep a e); there = h }

    stopped-many : (left ≡ 0 → ⊥) → n ≡ max_nodes → NotEntered (Container kind) p n left 6 p
    unfolding enter
    stopped-many l full = record { fault = too_many; number = refl; refuses = λ K from to a. rw (around-shallow a l, around-full a full); there = refl }

    entered-container : (left ≡ 0 → ⊥) → (n ≡ max_nodes → ⊥) → n ≤ max_nodes → Entered (Container kind) p n left (p + 1)
    unfolding enter
    entered-container l some few =
        record { next = add-one p; room = omega arith; deeper = λ k e. omega arith; goes = λ K from to a. rw (around-shallow a l, around-room a some) }

  -- a string, or a container that may open here
  pub stopped-full : (o : Opener) → ((kind : Kind) → o ≡ Container kind → left ≡ 0 → ⊥) → n ≡ max_nodes → NotEntered o p n left 6 p
  stopped-full Quote h full = stopped-string full
  stopped-full (Container kind) h full = stopped-many kind (h kind refl) full

  pub entered : (o : Opener) → ((kind : Kind) → o ≡ Container kind → left ≡ 0 → ⊥) → (n ≡ max_nodes → ⊥) → n ≤ max_nodes → Entered o p n left (p + 1)
  entered Quote h some few = entered-string some few
  entered (Container kind) h some few = entered-container kind (h kind refl) some few

-- ---- what opens a value

opener-byte : (e : Bool) (b : ℕ) (o : Opener) → Some o ≡ opener_kind e b → b ≡ 0 → ⊥
opener-byte e b o h z = cc (rw z at h)

named_in : (o : Opener) (p l : ℕ) → p ≤ l → shown o p ≤ l
named_in Quote p l h = h
named_in (Container Array) p l h = omega arith
named_in (Container Object) p l h = h
named_in (Container Function) p l h = h

-- where a name stands
pub record Bounds (x : Text) (p from to end : ℕ) : Type 0 where
  pub later : p ≤ end
  pub from_in : from ≤ length x
  pub to_in : to ≤ length x
  pub within : end ≤ length x

pub name-bounds : (x : Text) {p from to end : ℕ} → NamedAt x p from to end → p ≤ length x → Bounds x p from to end
name-bounds x {p} {from} {to} {end} n h =
    let h₁ : from ≤ length x = rw n.begins (end-within blank x p h) in
    let h₂ : to ≤ length x = rw n.stops (end-within ident_byte x from h₁) in
    let h₃ : end ≤ length x = rw n.ends (end-within blank x to h₂) in
    record { later = omega (arith, n.begins, n.stops, n.ends); from_in = h₁; to_in = h₂; within = h₃ }

pub headed : (x : Text) {p from to end : ℕ} → NamedAt x p from to end → p ≤ length x → (o : Opener) (from' to' : ℕ) → Some o ≡ opener_kind (eqb from to) (get_or x end 0)
    → from' ≡ shown o from → to' ≡ shown o to → Headed x p o from' to' end
headed x {p} {from} {to} {end} n h o from' to' e ef et =
    let b : Bounds x p from to end = name-bounds x n h in
    record {
      enters = λ K. rw (ef, et) (over-opener x n K (Some o) e);
      later = b.later;
      inside = byte-within x end (opener-byte (eqb from to) (get_or x end 0) o e);
      from_in = rw ef (named_in o from (length x) b.from_in);
      to_in = rw et (named_in o to (length x) b.to_in);
    }

-- nothing opens here
pub unopened : (x : Text) {p from to end : ℕ} → NamedAt x p from to end → p ≤ length x → None ≡ opener_kind (eqb from to) (get_or x end 0)
    → (n left : ℕ) → RefusedBy (λ K. before (value K)) x p n left 4 end
unopened x {p} {from} {to} {end} n h e m left =
    record { fault = syntax; number = refl; refuses = λ K a. over-opener x n K None e; within = (name-bounds x n h).within }

-- ---- a value, from where it is due

-- what is read from a later place in another state is read from here, where the machine gets there
pub sized-from : {t : Tree} {x : Text} {at p n left : ℕ} {r : Read} → at ≤ p → Sized t x p n left r → Sized t x at n left r
sized-from h s =
    record {
      counts = s.counts;
      deep = s.deep;
      later = omega (arith, s.later);
      within = s.within;
      more = s.more;
      room = s.room;
      shallow = s.shallow;
    }

pub whole_from : {st st' : Stack → State} {x : Text} {w w' : Words} {at p n left kf kt u : ℕ} {r : Read}
    → ((K : Stack) → Around K n left → reads (st K) x at ≡ reads (st' K) x p) → at ≤ p
    → WholeValue st' x w w' p n left kf kt u r → WholeValue st x w w' at n left kf kt u r
whole_from gets h v = record { tree = v.tree; reading = λ K a. gets K a ∙ v.reading K a; rows = v.rows; sized = sized-from h v.sized }

pub refused-from : {st st' : Stack → State} {x : Text} {at p n left r q : ℕ} → ((K : Stack) → Around K n left → reads (st K) x at ≡ reads (st' K) x p)
    → RefusedBy st' x p n left r q → RefusedBy st x at n left r q
refused-from gets v = record { fault = v.fault; number = v.number; refuses = λ K a. gets K a ∙ v.refuses K a; within = v.within }

module _ {x : Text} {at : ℕ} {opener : Opener} {from to o : ℕ} (h : Headed x at opener from to o) (n left : ℕ) where
  module _ {q : ℕ} (e : Entered opener o n left q) where
    value-enters : (K : Stack) → Around K n left → reads (before (value K)) x at ≡ reads (open_state opener K from to o) x q
    value-enters K a = h.enters K ∙ ap (λ (s : Step). goes_on s x o) (e.goes K from to a) ∙ ap (reads (open_state opener K from to o) x) (sym e.next)

    pub at-string : opener ≡ Quote → (K : Stack) → Around K n left → reads (before (value K)) x at ≡ reads (quoted K o) x q
    at-string k K a = value-enters K a ∙ rw k

    pub at-container : (kind : Kind) → opener ≡ Container kind → (K : Stack) → Around K n left
        → reads (before (value K)) x at ≡ reads (begun K (fresh (kind_told kind) o from to)) x q
    at-container kind k K a = value-enters K a ∙ rw k

    pub value-later : at ≤ q
    value-later = omega (arith, h.later, e.next)

    -- a container whose row was begun before its list was read
    pub value-list : {w w₁ w₂ : Words} {left' kf kt u : ℕ} {r : Read} (kind : Kind) → opener ≡ Container kind → left ≡ suc left'
        → w₁ ≡ sets w (row_words * n) (kind_number (kind_told kind) ∷ from ∷ to ∷ kf ∷ kt ∷ u ∷ [])
        → WholeList x w₁ w₂ q n (kind_told kind) left' r → WholeValue (λ K. before (value K)) x w w₂ at n left kf kt u r
    value-list {w = w} {left' = left'} {kf = kf} {kt = kt} {u = u} {r = r} kind k hl hw v =
        let c : Told = kind_told kind in
        let t : Tree = container c o from to r.end.0 v.children in
        let z : Sized t x q n (suc left') r = v.sized o from to r.end.0 in
        let counts : r.next.0 ≡ suc n + nodes_all v.children = omega (arith, z.counts) in
        record {
          tree = t;
          reading = λ K a. at-container kind k K a ∙ v.reading K o from to (record { below = ap (λ (l : ℕ). level K + l) (sym hl) ∙ a.below; sofar = a.sofar });
          rows = λ i ef et. v.rows ∙ rw hw (rows-container w c o from to r.end.0 kf kt u n r.next.0 v.children i ef et counts);
          sized = sized-from value-later (subst (λ (l : ℕ). Sized t x q n l r) (sym hl) z);
        }

-- ---- a string, from the place after its first quote

module _ (x : Text) (o at to end n left : ℕ) (ht : to ≡ end_of string_set x at) (he : end ≡ end_of blank x to) (hi : at ≤ length x) where
  end-in : end ≤ length x
  end-in = rw he (end-within blank x to (rw ht (end-within string_set x at hi)))

  pub string-refused : (get_or x end 0 ≡ quote → ⊥) → RefusedBy (λ K. quoted K o) x at n left 4 end
  string-refused h =
      record {
        fault = syntax;
        number = refl;
        refuses = λ K a. over-string K o x at to end ht he ∙ rw (ne_eqb (get_or x end 0) quote h);
        within = end-in;
      }

  pub string-whole : {w w₁ w₂ : Words} {kf kt u : ℕ} (r : Read) → r.end.0 ≡ suc end → r.next.0 ≡ suc n → r.depth ≡ 0
      → get_or x end 0 ≡ quote → n < max_nodes → at ≡ suc o
      → w₁ ≡ sets w (row_words * n) (1 ∷ at ∷ to ∷ kf ∷ kt ∷ u ∷ []) → w₂ ≡ sets w₁ (row_words * n + 6) (0 ∷ r.next.0 ∷ [])
      → WholeValue (λ K. quoted K o) x w w₂ at n left kf kt u r
  string-whole {w = w} {kf = kf} {kt = kt} {u = u} r er en ed h room ho h₁ h₂ =
      let inside : end < length x = byte-within x end (λ z. omega (arith, h)) in
      let t : Tree = string o to (suc end) in
      record {
        tree = t;
        reading = λ K a. over-string K o x at to end ht he ∙ rw (eq-eqb (get_or x end 0) quote h, er) (whole-resumes string_set limits K t end (drop (suc end) x));
        rows = λ k ef et. h₂ ∙ rw (h₁, ho, en) (rows-string w o to (suc end) kf kt u n k ef et);
        sized =
            record {
              counts = omega (arith, en);
              deep = ed;
              later = omega (arith, er, ht, he);
              within = omega (arith, er);
              more = omega (arith, en);
              room = omega (arith, en);
              shallow = omega (arith, ed);
            };
      }
