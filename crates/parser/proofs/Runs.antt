-- Where a run of a class of bytes ends. Assumes nothing.
use Rattle.std.proofs.Common.{◌≡◌, ℕ, zero, suc, ◌+◌, ◌-◌, ◌<◌, ◌≤◌, Bool, true, false, not, T, ltb, [], ◌∷◌, length, get_or, drop, sym, refl, ap, ◌∙◌, subst, add-zero, zero-add, arith, ltb→lt, nltb→le, length-drop, get_or-drop, drop-cons, ltb-true, lt-ltb}
use borrow.Table.Steps.{cases}
use Rattle.cel_text.specs.Byte.{Text, lead, blank, ascii}
use Rattle.parser.specs.Run.{end_of, Spaces}
use Rattle.parser.proofs.Classes.{space-blank}

module _ (f : ℕ → Bool) where
  lead-stop : (x : Text) (p : ℕ) → f (get_or x p 0) ≡ false → lead f (drop p x) ≡ 0
  lead-stop [] zero h = refl
  lead-stop [] (suc p) h = refl
  lead-stop (b ∷ bs) zero h = rw h
  lead-stop (b ∷ bs) (suc p) h = lead-stop bs p h

  lead-within : (x : Text) → lead f x ≤ length x
  lead-within [] = omega arith
  lead-within (b ∷ bs) =
      let more : lead f bs ≤ length bs = lead-within bs in
      cases (f b) (λ t. rw t (omega arith)) (λ t. rw t (omega arith))

  lead-other : f 0 ≡ false → (x : Text) → f (get_or x (lead f x) 0) ≡ false
  lead-other z [] = z
  lead-other z (b ∷ bs) = cases (f b) (λ t. rw t (lead-other z bs)) (λ t. rw t t)

  module _ (x : Text) where
    -- a byte of another class ends it, one of this class does not
    pub end-stop : (p : ℕ) → f (get_or x p 0) ≡ false → end_of f x p ≡ p
    end-stop p h = rw (lead-stop x p h, add-zero)

    pub end_more : (p : ℕ) → p < length x → f (get_or x p 0) ≡ true → end_of f x p ≡ end_of f x (suc p)
    end_more p h t = rw (drop-cons x p 0 h, t) (omega arith)

    -- the byte after a run is of another class, where the end of the text counts as one
    pub end-other : f 0 ≡ false → (p : ℕ) → f (get_or x (end_of f x p) 0) ≡ false
    end-other z p = rw (get_or-drop p x (lead f (drop p x)) 0) at (lead-other z (drop p x))

    -- past bytes of the class the run goes on
    end-past : (n p : ℕ) → p + n ≤ length x → ((i : ℕ) → p ≤ i → i < p + n → f (get_or x i 0) ≡ true) → end_of f x p ≡ end_of f x (p + n)
    end-past zero p h t = rw add-zero
    end-past (suc n) p h t =
        let same : suc p + n ≡ p + suc n = omega arith in
        end_more p (omega arith) (t p (omega arith) (omega arith)) ∙ end-past n (suc p) (omega arith) (λ i a b. t i (omega arith) (omega arith)) ∙ ap (end_of f x) same

    pub end_later : (p : ℕ) → p ≤ end_of f x p
    end_later p = omega arith

    pub end-within : (p : ℕ) → p ≤ length x → end_of f x p ≤ length x
    end-within p h = omega (arith, lead-within (drop p x), length-drop p x)

-- spaces after one another
module _ (x : Text) where
  pub spaces-more : {p q r : ℕ} → Spaces x p q → Spaces x q r → Spaces x p r
  spaces-more {q = q} s t = (
    omega (arith, s.0, t.0),
    t.1,
    λ i a b. cases (ltb i q) (λ l. s.2 i a (ltb→lt i q (subst T (sym l) tt))) (λ l. t.2 i (nltb→le i q (subst (λ (y : Bool). T (not y)) (sym l) tt)) b),
  )

  pub spaces-eight : {p n : ℕ} → Spaces x p (p + n) → n ≤ 8 → 8 ≤ n → Spaces x p (p + 8)
  spaces-eight {p = p} s h k = subst (λ (m : ℕ). Spaces x p (p + m)) (omega arith) s

  -- a run of blanks goes on past them
  pub end-spaces : {p q : ℕ} → Spaces x p q → end_of blank x p ≡ end_of blank x q
  end-spaces {p = p} {q = q} s =
      let same : p + (q - p) ≡ q = omega (arith, s.0) in
      end-past blank x (q - p) p (omega (arith, s.0, s.1)) (λ i a b. ap blank (s.2 i a (omega (arith, b, s.0))) ∙ space-blank) ∙ ap (end_of blank x) same

-- a byte that is not 0 stands within the text
pub byte-within : (x : Text) (p : ℕ) → (get_or x p 0 ≡ 0 → ⊥) → p < length x
byte-within [] zero h = absurd (h refl)
byte-within [] (suc p) h = absurd (h refl)
byte-within (b ∷ bs) zero h = omega arith
byte-within (b ∷ bs) (suc p) h = let rest : p < length bs = byte-within bs p h in omega arith

-- a byte of a class that 0 is not in stands within the text
pub class-within : (f : ℕ → Bool) → f 0 ≡ false → (x : Text) (p : ℕ) → f (get_or x p 0) ≡ true → p < length x
class-within f z x p t = byte-within x p (λ e. subst T (sym t ∙ ap f e ∙ z) tt)

-- a byte that is no greater than one of ASCII is one
ascii-below : (b most : ℕ) → b ≤ most → ascii most ≡ true → ascii b ≡ true
unfolding ascii
ascii-below b most h t = lt-ltb b _ (omega (arith, ltb-true most _ t))

-- a text whose bytes are no greater than one of ASCII
pub all_ascii : (x : Text) (most : ℕ) → ascii most ≡ true → ((k : ℕ) → k < length x → get_or x k 0 ≤ most) → end_of ascii x 0 ≡ length x
all_ascii x most t h = zero-add (lead ascii x) ∙ leads x h
  where
    leads : (x : Text) → ((k : ℕ) → k < length x → get_or x k 0 ≤ most) → lead ascii x ≡ length x
    leads [] h = refl
    leads (b ∷ bs) h =
        let rest : lead ascii bs ≡ length bs = leads bs (λ k l. h (suc k) (omega arith)) in
        rw (ascii-below b most (h 0 (omega arith)) t) (omega arith)
