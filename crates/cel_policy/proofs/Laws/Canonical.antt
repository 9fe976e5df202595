-- Canonicalising: what it writes is the text of the policy that was read, and canonicalises to itself. Assumes nothing.
use Rattle.std.specs.Prelude.{◌≡◌, refl, ℕ, ◌≤◌, Bool, [], ◌++◌, length, take, drop}
use Rattle.std.proofs.Common.{sym, ap, ◌∙◌, le_refl, arith, append-nil}
use Rattle.std.proofs.Math.Seq.{take-append_seam}
use Rattle.cel_text.specs.Byte.{Text, Run, Plain, ascii, string_byte}
use Rattle.cel_text.specs.Table.{node_words}
use Rattle.cel_text.specs.Answer.{max_text}
use Rattle.cel_text.proofs.Laws.Class.{string_byte-plain}
use Rattle.cel_policy.specs.Policy.{Policy, strings}
use Rattle.cel_policy.specs.Meaning.{ReadAs}
use Rattle.cel_policy.specs.Spans.{span_words}
use Rattle.cel_policy.specs.Printed.{printed, Printable}
use Rattle.cel_policy.specs.Answers.{FoundPolicy, Printing, written, unprinted, sized, output, reprinted, find_canonical, one_number, canonical_answer, canonical_output}
use Rattle.cel_policy.proofs.Laws.RoundTrip.{round_trip}
use Rattle.cel_policy.proofs.Laws.Readable.{readable, readable-proper}
use Rattle.cel_policy.proofs.Laws.SpanTable.{print-read, refused-written, sized-written}
use Rattle.cel_policy.proofs.Laws.Refusals.{find_policy-cases}
use Rattle.cel_policy.proofs.Laws.Ascii.{Low, string_byte-low, ascii-printed}
use Rattle.cel_policy.proofs.Laws.Entries.{find-read, sized-fits}

-- a text that is read as a policy, within the limits, canonicalises to that policy's text
pub canonical-read :
    (S : ℕ → Bool) {x : Text} {p : Policy Text} {q n d : ℕ}
    → ReadAs S x p q n d → length x ≤ max_text → Run ascii x → (r : ℕ) → find_canonical S x r ≡ sized (printed p) r
unfolding find_canonical
canonical-read S {x} {q} r short low room =
    rw (find-read S r short low node_words span_words (le_refl node_words) (le_refl span_words))
    (print-read S x r.places (readable S x r.tree q r.places r.reads r.maps) _ room
    ∙ ap (λ (u : Policy Text). sized (printed u) room) r.same)

-- what was written is the text of a printable policy
record Writes (S : ℕ → Bool) (t : Text) : Type 0 where
  policy : Policy Text
  printable : Printable S policy
  text : t ≡ printed policy

canonical-writes : (S : ℕ → Bool) (x : Text) (r : ℕ) (t : Text) → find_canonical S x r ≡ written t → Writes S t
unfolding find_canonical
canonical-writes S x r t =
    find_policy-cases S node_words span_words x (λ (f : FoundPolicy). reprinted S f x r ≡ written t → Writes S t)
    (λ a. refused) refused (λ p. refused) (λ f p. refused) (λ u n m. refused)
    (λ u q p e m w.
    let h = readable S x u q p e m in
    let s = sized-written r t (printed (strings x p)) (sym (print-read S x p h _ r) ∙ w) in
    record { policy = strings x p; printable = record { proper = readable-proper S x h; short = s.1 }; text = s.0 })
  where
    refused : {n p : ℕ} → unprinted n p ≡ written t → Writes S t
    refused e = absurd (refused-written e)

-- what was written canonicalises to itself, wherever there is room for it
pub canonical-again :
    (S : ℕ → Bool) → Plain S → Low S → (x : Text) (r : ℕ) (t : Text) → find_canonical S x r ≡ written t
    → (r' : ℕ) → length t ≤ r' → find_canonical S t r' ≡ written t
canonical-again S plain low x r t e r' room =
    let w = canonical-writes S x r t e in
    let p : Policy Text = w.policy in
    let back : find_canonical S (printed p) r' ≡ sized (printed p) r'
    = canonical-read S (rw append-nil at (round_trip S plain p w.printable.proper [])) w.printable.short (ascii-printed S low w.printable.proper) r' in
    rw w.text (back ∙ sized-fits (printed p) r' w.printable.short (rw (sym w.text) room))

-- ---- the entry itself

-- what canonicalise has written to the output
abbrev pub canonical_text : Text → (out : Text) → Text
canonical_text x out = take (canonical_answer x (length out)) (canonical_output x out)

-- it answered a length: then its text, in an output with room for it, gives that length and that text again
pub canonical-idempotent :
    (x out : Text) → canonical_answer x (length out) ≤ max_text → (out' : Text) → canonical_answer x (length out) ≤ length out'
    → (canonical_answer (canonical_text x out) (length out') ≡ canonical_answer x (length out))
    × (canonical_output (canonical_text x out) out' ≡ canonical_text x out ++ drop (canonical_answer x (length out)) out')
unfolding canonical_answer canonical_output
canonical-idempotent x out answered out' = at (find_canonical string_byte x (length out)) refl answered
  where
    Again : Printing → Type 0
    Again w =
        (one_number (find_canonical string_byte (take (one_number w) (output w out)) (length out')) ≡ one_number w)
        × (output (find_canonical string_byte (take (one_number w) (output w out)) (length out')) out' ≡ take (one_number w) (output w out) ++ drop (one_number w) out')

    at : (w : Printing) → find_canonical string_byte x (length out) ≡ w → one_number w ≤ max_text → one_number w ≤ length out' → Again w
    at (written t) e short room =
        rw (take-append_seam t (drop (length t) out), canonical-again string_byte string_byte-plain string_byte-low x (length out) t e (length out') room) (refl, refl)
    at (unprinted r p) e short room = absurd (omega arith)
