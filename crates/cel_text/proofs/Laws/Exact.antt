-- What reading gives for every text, in the words of the grammar alone: a tree and its end, or which fault and where. Assumes nothing.
use Rattle.std.specs.Prelude.{◌≡◌, refl, ◌↔◌, ℕ, suc, ◌≤◌, Bool}
use Rattle.std.proofs.Common.{ap, ◌∙◌, arith}
use Rattle.std.proofs.Math.Decide.{dec_le}
use Rattle.cel_text.specs.Byte.{Text, Plain}
use Rattle.cel_text.specs.Tree.{Tree, nodes, depth}
use Rattle.cel_text.specs.Grammar.{Legal, Longest}
use Rattle.cel_text.specs.Reading.{limits, max_depth, max_nodes, Fault, syntax, too_deep, too_many, Outcome, accepted, refused, read}
use Rattle.cel_text.proofs.Laws.Complete.{complete}
use Rattle.cel_text.proofs.Laws.Sound.{Reads, sound, within}
use Rattle.cel_text.proofs.Laws.Place.{syntax-unlimited, refused-illegal, refused-longest, longest-unique}
use Rattle.cel_text.proofs.Laws.Limit.{clash, Depth33, Node257, Clear, Falls, refused-clear, clear-limit, deep-exact, many-exact}

module _ (S : ℕ → Bool) where
  -- the text begins with a whole value within the limits, which is t and ends at place q
  pub record Whole (x : Text) (t : Tree) (q : ℕ) : Type 0 where
    pub reads : Reads S x t q
    pub shallow : depth t ≤ max_depth
    pub few : nodes t ≤ max_nodes

  -- the text begins with no whole value, its first j bytes are its longest viable beginning, and the limits admit what opens in them
  pub record Broken (x : Text) (j : ℕ) : Type 0 where
    pub illegal : Legal S x → ⊥
    pub longest : Longest S x j
    pub clear : Clear S x j

  -- what the grammar says of a text
  abbrev pub Says : Text → Outcome → Type 0
  Says x (accepted t q) = Whole x t q
  Says x (refused syntax j) = Broken x j
  Says x (refused too_deep j) = Falls S Depth33 x j
  Says x (refused too_many j) = Falls S Node257 x j

  module _ (P : Plain S) where
    says : (x : Text) (o : Outcome) → read S limits x ≡ o → Says x o
    says x (accepted t q) e = record { reads = sound S limits x t q e; shallow = (within S x t q e).0; few = (within S x t q e).1 }
    says x (refused syntax j) e =
        let u = syntax-unlimited S limits x j e in
        record { illegal = refused-illegal S P x syntax j u; longest = refused-longest S P x syntax j u; clear = refused-clear S P x syntax j e }
    says x (refused too_deep j) e = (deep-exact S P x j).0 e
    says x (refused too_many j) e = (many-exact S P x j).0 e

    -- where a text breaks no limit refuses it: that would be below, where all is clear
    falls-not : {B : (n d : ℕ) → Type 0} (x : Text) (f : Fault) (i j : ℕ) → Broken x j → read S limits x ≡ refused f i → (f ≡ syntax → ⊥) → Falls S B x i → ⊥
    falls-not x f i j h e nf l =
        elim (dec_le (suc i) j) [
          | yes lo ↦ clear-limit S P x f i j e nf lo h.longest.viable h.clear
          | no n ↦ h.longest.longest (suc i) (omega (arith, n)) l.in_text l.viable
        ]

    breaks : (x : Text) (j : ℕ) → Broken x j → (o : Outcome) → read S limits x ≡ o → read S limits x ≡ refused syntax j
    breaks x j h (accepted t q) e =
        let r : Reads S x t q = sound S limits x t q e in
        absurd (h.illegal (record { value = r.value; rest = r.rest; tree = t; split = r.split; reads = r.reads }))
    breaks x j h (refused syntax i) e =
        e ∙ ap (refused syntax) (longest-unique S P x i j (refused-longest S P x syntax i (syntax-unlimited S limits x i e)) h.longest)
    breaks x j h (refused too_deep i) e = absurd (falls-not x too_deep i j h e (λ q. clash cc) ((deep-exact S P x i).0 e))
    breaks x j h (refused too_many i) e = absurd (falls-not x too_many i j h e (λ q. clash cc) ((many-exact S P x i).0 e))

    said : (x : Text) (o : Outcome) → Says x o → read S limits x ≡ o
    said x (accepted t q) h =
        let r : Reads S x t q = h.reads in
        rw (r.split, r.place) (complete S P r.reads h.shallow h.few r.rest)
    said x (refused syntax j) h = breaks x j h (read S limits x) refl
    said x (refused too_deep j) h = (deep-exact S P x j).1 h
    said x (refused too_many j) h = (many-exact S P x j).1 h

    -- T1 to T3' in one: reading gives exactly what the grammar says
    pub reading-exact : (x : Text) (o : Outcome) → (read S limits x ≡ o) ↔ Says x o
    reading-exact x o = ((λ e. says x o e), (λ h. said x o h))

    -- it says one thing of every text
    pub says-one : (x : Text) → (o : Outcome) × Says x o × ((o' : Outcome) → Says x o' → o ≡ o')
    says-one x = (read S limits x, says x (read S limits x) refl, λ o' h. said x o' h)
