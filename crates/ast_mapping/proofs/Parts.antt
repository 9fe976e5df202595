-- What the larger steps of the mapping come to in the definitions, where their parts have answered. Assumes nothing.
use mathlib.Core.Path.{◌≡◌, refl, sym, ap, subst, ◌∙◌}
use Prim.Native.Nat.{ℕ, suc, ◌+◌, ◌<◌}
use native.Mathlib.Omega.{arith}
use Rattle.std.specs.Prelude.{Option, Some, None, Result, Ok, Err, IsErrAnd}
use Rattle.cel_text.specs.Byte.{Text}
use Rattle.cel_text.specs.Reading.{max_nodes}
use Rattle.cel_text.specs.Table.{Words}
use Rattle.cel_text.proofs.Laws.Limit.{clash}
use Rattle.cel_policy.specs.Policy.{Span}
use Rattle.cel_policy.specs.Mapping.{Node, Nodes, childless, ◌▹◌∶◌, Refusal, Mapped, good, bad, and_then, missing_parameter, missing_property, exactly_one, lookup, string_array, first_child, first_of, certified}
use Rattle.parser.specs.declared.Node.{Node as Numbered}
use Rattle.parser.specs.declared.row.Row.{Row}
use Rattle.ast_mapping.specs.declared.tree.TreeNode.{TreeNode}
use Rattle.ast_mapping.specs.declared.mapping.Refusal.{Refusal as Told}
use Rattle.ast_mapping.specs.declared.mapping.Only.{Only as Which}
use Rattle.ast_mapping.specs.declared.mapping.Only.TheVariants.{First, Second}
use Rattle.ast_mapping.specs.declared.mapping.Request.{Request as Asked}
use Rattle.ast_mapping.specs.View.{RowRead, node_at, children, Held}
use Rattle.ast_mapping.specs.Steps.{node_of, With, Looked, refusal_told, fields_used, given_as, Gives, found_as, FoundIf, only_as, OnlyIf, ListChecked, list_of, ListIn}
use Rattle.ast_mapping.specs.Steps.{request_as, RequestIn, certified_as, Maps}
use Rattle.ast_mapping.proofs.View.{few, tabled, later, Begins, all, less, begins-none, Child, next-child, last-child}

-- what a refusal that was told gives
pub refuses : {A B : Type 0} {f : A → B} {P : A → Type 0} {m : Mapped B} {r : Told} {t : Refusal} → refusal_told r ≡ t → bad t ≡ m → t.node < max_nodes → Gives f P (Err r) m
refuses e h l = record { is = ap bad e ∙ h; inside = subst (λ (n : ℕ). n < max_nodes) (sym (ap (λ (t : Refusal). t.node) e)) l }

-- ---- a step, and the step after it

-- a refusal of the last step
pub halts : {A B C : Type 0} {f : A → B} {P : A → Type 0} {m : Mapped B} {g : C → B} {Q : C → Type 0} {d : Told} {r : Result C Told}
    → Gives f P (Err d) m → IsErrAnd r (λ e. e ≡ d) → Gives g Q r m
halts {r = Ok c} h i = absurd i
halts {r = Err e} h i = rw i (record { is = h.is; inside = h.inside })

module _ {A B : Type 0} {f : A → B} {P : A → Type 0} {m : Mapped B} {C D : Type 0} {g : C → D} {Q : C → Type 0} (k : B → Mapped D) where
  -- a refusal is that of both
  pub stops : {d : Told} {r : Result C Told} → Gives f P (Err d) m → IsErrAnd r (λ e. e ≡ d) → Gives g Q r (and_then m k)
  stops {r = Ok c} h i = absurd i
  stops {r = Err e} h i = rw i (record { is = ap (λ (m : Mapped B). and_then m k) h.is; inside = h.inside })

  -- and else the later step gives what both do
  pub goes_on : {a : A} {r : Result C Told} → Gives f P (Ok a) m → Gives g Q r (k (f a)) → Gives g Q r (and_then m k)
  goes_on h i = record { is = i.is ∙ ap (λ (m : Mapped B). and_then m k) h.is; inside = i.inside }

-- ---- exactly one

pub chosen : {A B : Type 0} (h : A → B) (P : A → Type 0) (both neither n : ℕ) (f g : Option A) (r : Result (Which A) Told)
    → given_as (only_as (λ a. a)) r ≡ exactly_one both neither n (found_as (λ a. a) f) (found_as (λ a. a) g)
    → n < max_nodes → FoundIf P f → FoundIf P g → Gives (only_as h) (OnlyIf P) r (exactly_one both neither n (found_as h f) (found_as h g))
chosen h P both neither n (Some a) (Some b) (Ok s) e l p q = clash (cc)
chosen h P both neither n (Some a) (Some b) (Err d) e l p q =
    let t : refusal_told d ≡ record { refusal = both; name = 0; kind = 0; node = n } = cc in refuses t refl l
chosen h P both neither n (Some a) None (Ok (First c)) e l p q = let t : c ≡ a = cc in record { is = rw t; inside = rw t p }
chosen h P both neither n (Some a) None (Ok (Second c)) e l p q = clash (cc)
chosen h P both neither n (Some a) None (Err d) e l p q = clash (cc)
chosen h P both neither n None (Some b) (Ok (First c)) e l p q = clash (cc)
chosen h P both neither n None (Some b) (Ok (Second c)) e l p q = let t : c ≡ b = cc in record { is = rw t; inside = rw t q }
chosen h P both neither n None (Some b) (Err d) e l p q = clash (cc)
chosen h P both neither n None None (Ok s) e l p q = clash (cc)
chosen h P both neither n None None (Err d) e l p q =
    let t : refusal_told d ≡ record { refusal = neither; name = 0; kind = 0; node = n } = cc in refuses t refl l

-- ---- the two parts of a policy

module _ (w : Words) where
  pub certified-gives : (q : Option Asked) (l : Which Numbered) → FoundIf (RequestIn w) q → OnlyIf (ListIn w) l
      → Maps w (Ok (certified_as q l)) (good (certified (found_as (request_as w) q) (only_as (list_of w) l)))
  certified-gives None (First l) h k = record { is = refl; inside = k }
  certified-gives None (Second l) h k = record { is = refl; inside = k }
  certified-gives (Some q) (First l) h k = record { is = refl; inside = (h, k) }
  certified-gives (Some q) (Second l) h k = record { is = refl; inside = (h, k) }

-- ---- nodes that were found

pub small : (e : TreeNode) → e.number.0 < max_nodes
small e = few e.table.now e.text.now e.number.0 e.held

module _ (e : TreeNode) where
  -- a key that is missing
  pub missing : {name : ℕ} {A B : Type 0} {f : A → B} {P : A → Type 0} {d : Told} → refusal_told d ≡ fields_used 10 name e.number.0
      → Gives f P (Err d) (missing_property name e.number.0)
  missing t = refuses t refl (small e)

  -- which of two keys is there
  pub picked : {a b : ℕ} {f g : Option TreeNode} (both neither : ℕ) {r : Result (Which TreeNode) Told} → Looked e a f → Looked e b g
      → given_as (only_as (λ a. a)) r ≡ exactly_one both neither e.number.0 (found_as (λ a. a) f) (found_as (λ a. a) g)
      → Gives (only_as node_of) (OnlyIf (With e.table.now)) r (exactly_one both neither e.number.0 (lookup a (children (node_of e))) (lookup b (children (node_of e))))
  picked {f = f} {g = g} both neither {r = r} l k h = rw (sym l.found, sym k.found) (chosen node_of (With e.table.now) both neither e.number.0 f g r h (small e) l.same k.same)

-- what is given in a table is given in the same table
pub moved : {A B : Type 0} (f : Words → A → B) (P : Words → A → Type 0) {w w' : Words} {r : Result A Told} {m : Mapped B} → w' ≡ w → Gives (f w') (P w') r m → Gives (f w) (P w) r m
moved f P {r = r} {m = m} = subst (λ (v : Words). Gives (f v) (P v) r m)

-- a list that was validated, in the table of the object that has it
pub listed : {w : Words} (m : TreeNode) (name : ℕ) → With w m → ListChecked m name (Ok tt) → Gives (list_of w) (ListIn w) (Ok m.number) (string_array name (node_of m))
listed m name s k = moved list_of ListIn s (record { is = k.is; inside = tabled m.table.now m.text.now m.number.0 m.held })

-- ---- the root

first-begins : {ns b : Nodes Span} {k : Text} {m : Node Span} (node : ℕ) → Begins ns (b ▹ k ∶ m) → first_child node ns ≡ first_child node (b ▹ k ∶ m)
unfolding first_child first_of
first-begins node all = refl
first-begins node (less s) = first-begins node s

module _ (e : TreeNode) {row : Row} (k : RowRead e.table.now e.number.0 row) where
  -- without an argument
  pub bare : row.past.0 ≡ e.number.0 + 1 → missing_parameter e.number.0 ≡ first_child e.number.0 (children (node_of e))
  unfolding first_child
  bare l =
      ap (first_child e.number.0)
      (last-child e.table.now e.text.now e.number.0 e.held {next = suc e.number.0} (begins-none (children (node_of e))) (omega arith) (omega (arith, k.past)))

  module _ (l : row.past.0 ≡ e.number.0 + 1 → ⊥) where
    argument : Child e.table.now e.text.now e.number.0 e.held childless (suc e.number.0)
    argument =
        next-child e.table.now e.text.now e.number.0 e.held (begins-none (children (node_of e))) (omega arith)
        (omega (arith, l, k.past, later e.table.now e.text.now e.number.0 e.held))

    pub argument-held : Held e.table.now e.text.now (suc e.number.0)
    argument-held = argument.is

    pub with-argument : good (node_at e.table.now e.text.now (suc e.number.0)) ≡ first_child e.number.0 (children (node_of e))
    unfolding first_child first_of
    with-argument = sym (first-begins e.number.0 argument.begins)
