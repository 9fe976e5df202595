-- Byte classes against each other, and `string_byte` as a plain set. Assumes nothing.
use Rattle.std.specs.Prelude.{◌≡◌, refl, ℕ, zero, suc, Bool, true, false, cond, ◌&&◌, ◌||◌, [], ◌∷◌, ◌++◌, T, eqb}
use Rattle.std.proofs.Common.{sym, subst, eqb→eq}
use Rattle.cel_text.specs.Byte.{Text, Run, over, byte, bytes, blank, ident_byte, string_byte, comma, Plain}
use Rattle.cel_text.specs.Tree.{Kind, array, object, function, closer}

-- a test's value from a proof of it, and from a refutation
pub is_true : (b : Bool) → T b → b ≡ true
is_true true h = refl
is_true false h = absurd h

pub is_false : (b : Bool) → (T b → ⊥) → b ≡ false
is_false true h = absurd (h tt)
is_false false h = refl

-- what holds of both choices, each where its test's value is known, holds of the choice
pub by-test {ℓ} : {A : Type ℓ} (P : A → Type 0) (t : Bool) (u v : A) → (t ≡ true → P u) → (t ≡ false → P v) → P (cond t u v)
by-test P true u v f g = f refl
by-test P false u v f g = g refl

-- two tests that hold together hold each
pub both_true : (a b : Bool) → a && b ≡ true → (a ≡ true) × (b ≡ true)
both_true true b e = (refl, e)
both_true false b e = (e, cc)

-- two choices that are the same
pub same-either-way : (b : Bool) (n : ℕ) → cond b n n ≡ n
same-either-way true n = refl
same-either-way false n = refl

-- what holds of either test's proof holds of a proof of one or the other
either : {P : Type 0} (a b : Bool) → (T a → P) → (T b → P) → T (a || b) → P
either true b f g h = f h
either false b f g h = g h

-- what holds of the four blanks holds of every blank
blank-cases : (P : ℕ → Type 0) → P 32 → P 9 → P 10 → P 13 → (b : ℕ) → T (blank b) → P b
unfolding blank
blank-cases P s t l r b h =
    either (eqb b 32 || eqb b 9 || eqb b 10) (eqb b 13)
    (either (eqb b 32 || eqb b 9) (eqb b 10) (either (eqb b 32) (eqb b 9) (λ e. at 32 s e) (λ e. at 9 t e)) (λ e. at 10 l e))
    (λ e. at 13 r e) h
  where
    at : (n : ℕ) → P n → T (eqb b n) → P b
    at n x e = subst P (sym (eqb→eq b n e)) x

-- a class with none of the four blanks has no blank
disjoint : (f : ℕ → Bool) → f 32 ≡ false → f 9 ≡ false → f 10 ≡ false → f 13 ≡ false → (b : ℕ) → T (blank b) → f b ≡ false
disjoint f s t l r b h = blank-cases (λ x. f x ≡ false) s t l r b h

pub ident-blank : (b : ℕ) → T (blank b) → ident_byte b ≡ false
unfolding ident_byte
ident-blank = disjoint ident_byte refl refl refl refl

-- no identifier byte is a blank
pub blank-ident : (b : ℕ) → T (ident_byte b) → blank b ≡ false
blank-ident b h = is_false (blank b) (λ t. subst T (ident-blank b t) h)

pub string_byte-plain : Plain string_byte
unfolding string_byte
string_byte-plain = record { no_quote = refl; no_blank = disjoint string_byte refl refl refl refl }

-- a closer is no blank and no comma
pub closer-blank : (c : Kind) → blank (closer c) ≡ false
unfolding blank
closer-blank array = refl
closer-blank object = refl
closer-blank function = refl

pub closer-comma : (c : Kind) → eqb (closer c) comma ≡ false
closer-comma array = refl
closer-comma object = refl
closer-comma function = refl

pub closer-closer : (c : Kind) → eqb (closer c) (closer c) ≡ true
closer-closer array = refl
closer-closer object = refl
closer-closer function = refl

-- ---- the classes, byte by byte

-- the bytes of a class among b, b + 1, .. b + n - 1
members : (ℕ → Bool) → (n b : ℕ) → Text
members f zero b = []
members f (suc n) b = cond (f b) (b ∷ members f n (suc b)) (members f n (suc b))

blank-members : members blank 256 0 ≡ 9 ∷ 10 ∷ 13 ∷ 32 ∷ []
unfolding members blank
blank-members = refl

ident-members : members ident_byte 256 0 ≡ bytes "0123456789ABCDEFGHIJKLMNOPQRSTUVWXYZ_abcdefghijklmnopqrstuvwxyz"
unfolding members ident_byte
ident-members = refl

string-members : members string_byte 256 0 ≡ bytes "-0123456789ABCDEFGHIJKLMNOPQRSTUVWXYZabcdefghijklmnopqrstuvwxyz"
unfolding members string_byte
string-members = refl

-- runs of one class
pub run-append : {f : ℕ → Bool} {x y : Text} → Run f x → Run f y → Run f (x ++ y)
run-append over r = r
run-append (byte h s) r = byte h (run-append s r)
