-- Properties that each member of a list has, and tests of them. Assumes nothing.
use Rattle.std.specs.Prelude.{ℕ, zero, suc, Bool, false, List, [], ◌∷◌, ◌++◌, map, get_or, T}
use Rattle.cel_text.specs.Byte.{Text, Run, over, byte}
use Rattle.cel_text.proofs.Laws.Class.{by-test}
use Rattle.cel_policy.specs.Printed.{Each, nothing, each}
use Rattle.cel_policy.specs.Answers.{all_of}

module _ {A : Type 0} {P : A → Type 0} where
  pub each-split : (l m : List A) → Each P (l ++ m) → Each P l × Each P m
  each-split [] m e = (nothing, e)
  each-split (a ∷ l) m (each h e) = let s = each-split l m e in (each h s.0, s.1)

  pub each-get_d : {l : List A} {d : A} → Each P l → P d → (n : ℕ) → P (get_or l n d)
  each-get_d nothing h n = h
  each-get_d (each p e) h zero = p
  each-get_d (each p e) h (suc n) = each-get_d e h n

pub each_map : {A B : Type 0} {P : A → Type 0} {Q : B → Type 0} (f : A → B) (l : List A) → ((a : A) → P a → Q (f a)) → Each P l → Each Q (map f l)
each_map f [] h nothing = nothing
each_map f (a ∷ l) h (each p e) = each (h a p) (each_map f l h e)

-- from the test
pub each_of : {A : Type 0} (test : A → Bool) (l : List A) → T (all_of test l) → Each (λ (a : A). T (test a)) l
each_of test [] h = nothing
each_of test (a ∷ l) h =
    by-test (λ (v : Bool). T v → Each (λ (b : _). T (test b)) (a ∷ l)) (test a) (all_of test l) false
    (λ e t. each (rw e tt) (each_of test l t)) (λ e t. absurd t) h

pub run-each : {f : ℕ → Bool} {x : Text} → Each (λ b. T (f b)) x → Run f x
run-each nothing = over
run-each (each h e) = byte h (run-each e)

pub run-of : (f : ℕ → Bool) (x : Text) → T (all_of f x) → Run f x
run-of f x h = run-each (each_of f x h)
