-- A text that is written has no byte of 128 or more, where no string byte is one. Assumes nothing.
use Rattle.std.specs.Prelude.{◌≡◌, refl, ℕ, suc, ◌≤◌, Bool, true, false, length, T, ltb}
use Rattle.std.proofs.Common.{ap, subst, arith, ltb-false, le-leb, ne_eqb}
use Rattle.std.proofs.lemmas.Bool.{lt-leb}
use Rattle.cel_text.specs.Byte.{Text, Run, over, byte, ascii, ident_byte, string_byte, alphanumeric, lead}
use Rattle.cel_text.specs.Tree.{Kind, array, object, function, opener, closer}
use Rattle.cel_text.specs.Abstract.{Ast, str, con, Asts, ε, ◌▪◌∶◌, label, separator, write, write_all, GoodName, GoodKey, Writable, WritableAll}
use Rattle.cel_text.proofs.Laws.Class.{is_true, run-append}
use Rattle.cel_policy.specs.Policy.{Policy, all_strings}
use Rattle.cel_policy.specs.Printed.{Each, printed, Proper}
use Rattle.cel_policy.proofs.Laws.Shape.{Shape, skips, certifies, shape_of}
use Rattle.cel_policy.proofs.Laws.PrintedTree.{skip_value, empty_object, certified_value, printed-skip, printed-certified, writable-empty, writable-skip, writable-certified}

-- a set of bytes that has none of 128 or more
abbrev pub Low : (ℕ → Bool) → Type 0
Low f = (b : ℕ) → T (f b) → T (ascii b)

low : (f : ℕ → Bool) → ((b : ℕ) → 128 ≤ b → f b ≡ false) → Low f
unfolding ascii
low f h b t = at (ltb b 128) refl
  where
    at : (v : Bool) → ltb b 128 ≡ v → T v
    at true e = tt
    at false e = subst T (h b (ltb-false b 128 e)) t

high-alphanumeric : (b : ℕ) → 128 ≤ b → alphanumeric b ≡ false
unfolding alphanumeric
high-alphanumeric b h =
    rw (le-leb 48 b (omega arith), lt-leb b 57 (omega arith), le-leb 65 b (omega arith), lt-leb b 90 (omega arith), le-leb 97 b (omega arith), lt-leb b 122 (omega arith))

pub ident_byte-low : Low ident_byte
unfolding ident_byte
ident_byte-low = low ident_byte (λ b h. rw (high-alphanumeric b h, ne_eqb b 95 (omega arith)))

pub string_byte-low : Low string_byte
unfolding string_byte
string_byte-low = low string_byte (λ b h. rw (high-alphanumeric b h, ne_eqb b 45 (omega arith)))

run-low : {f : ℕ → Bool} {x : Text} → Low f → Run f x → Run ascii x
run-low l over = over
run-low l (byte {b = b} h r) = byte (l b h) (run-low l r)

pub lead-run : {f : ℕ → Bool} {x : Text} → Run f x → lead f x ≡ length x
lead-run over = refl
lead-run {f} (byte {b = b} h r) = rw (is_true (f b) h) (ap suc (lead-run r))

-- the parts of a written text
ascii-name : (c : Kind) (name : Text) → GoodName c name → Run ascii name
ascii-name array name g = rw g over
ascii-name object name g = run-low ident_byte-low g
ascii-name function name g = run-low ident_byte-low g

ascii-label : (c : Kind) (k : Text) → GoodKey c k → Run ascii (label c k)
unfolding ascii
ascii-label array k g = over
ascii-label object k g = run-append (run-low ident_byte-low g) (byte tt over)
ascii-label function k g = over

ascii-separator : (more : Asts) → Run ascii (separator more)
unfolding ascii
ascii-separator ε = over
ascii-separator (more ▪ k ∶ a) = byte tt over

ascii-opener : (c : Kind) → T (ascii (opener c))
unfolding ascii
ascii-opener array = tt
ascii-opener object = tt
ascii-opener function = tt

ascii-closer : (c : Kind) → T (ascii (closer c))
unfolding ascii
ascii-closer array = tt
ascii-closer object = tt
ascii-closer function = tt

module _ (S : ℕ → Bool) (l : Low S) where
  mutual
    unfolding ascii

    pub ascii-written : (a : Ast) → Writable S a → Run ascii (write a)
    ascii-written (str i) w = byte tt (run-append (run-low l w) (byte tt over))
    ascii-written (con c name more) w =
        run-append (ascii-name c name w.0) (byte (ascii-opener c) (run-append (ascii-all more c w.1) (byte (ascii-closer c) over)))

    ascii-all : (more : Asts) (c : Kind) → WritableAll S more c → Run ascii (write_all more c)
    ascii-all ε c w = over
    ascii-all (more ▪ k ∶ a) c w =
        run-append (ascii-all more c w.0) (run-append (ascii-separator more) (run-append (ascii-label c k w.1) (ascii-written a w.2)))

  ascii-shape : {p : Policy Text} → Shape p → Each (Run S) (all_strings p) → Run ascii (printed p)
  ascii-shape skips e = rw printed-skip (ascii-written skip_value (writable-skip S))
  ascii-shape (certifies r k h) e =
      rw (printed-certified r k) (ascii-written (certified_value empty_object r k) (writable-certified S empty_object r k (writable-empty S) e))

  pub ascii-printed : {p : Policy Text} → Proper S p → Run ascii (printed p)
  ascii-printed {p} h = ascii-shape (shape_of p h.shape) h.string_bytes
