-- Demand 3 for the entries' answers: what print writes, whatever follows it within the limits, is read with the numbers that were given and the
-- strings that were printed, and prints to the same bytes again. Assumes nothing.
use Rattle.std.specs.Prelude.{◌≡◌, ℕ, ◌-◌, ◌≤◌, ◌<◌, Bool, ◌++◌}
use Rattle.std.proofs.Math.Path.{refl, ap, subst}
use Rattle.std.proofs.Common.{sym, ◌∙◌, arith, lt-ltb, le-ltb}
use Rattle.std.proofs.Math.ListN.{length, take, drop, replicate}
use Rattle.std.proofs.lemmas.List.{length-map}
use Rattle.std.proofs.Math.Seq.{take-append_seam}
use Rattle.cel_text.specs.Byte.{Text, Run, Plain, ascii, string_byte}
use Rattle.cel_text.specs.Tree.{Tree, nodes, depth}
use Rattle.cel_text.specs.Table.{Words, node_words}
use Rattle.cel_text.specs.Answer.{max_text}
use Rattle.cel_text.proofs.Laws.Class.{string_byte-plain, run-append}
use Rattle.cel_text.proofs.Laws.Find.{find-passes}
use Rattle.cel_policy.specs.Policy.{Span, Policy, Counted, counted, strings}
use Rattle.cel_policy.specs.Meaning.{ReadAs}
use Rattle.cel_policy.specs.Spans.{span_words, span_table}
use Rattle.cel_policy.specs.Printed.{printed, printed_nodes, printed_depth, Proper}
use Rattle.cel_policy.specs.Answers.{policy, find_policy, policy_answer, policy_spans, placed, Printing, written, unprinted, sized, find_print, print_answered, output, print_answer, print_output}
use Rattle.cel_policy.proofs.Laws.RoundTrip.{round_trip}
use Rattle.cel_policy.proofs.Laws.Readable.{readable}
use Rattle.cel_policy.proofs.Laws.SpanTable.{counted-placed, placed-table, print-read, prints}
use Rattle.cel_policy.proofs.Laws.Refusals.{Gives, OfPrint, print-gives}
use Rattle.cel_policy.proofs.Laws.Ascii.{Low, string_byte-low, lead-run, ascii-printed}

-- a text that is read as a policy, and is within the limits, is found to be it
pub find-read :
    (S : ℕ → Bool) {x : Text} {p : Policy Text} {q n d : ℕ} (r : ReadAs S x p q n d)
    → length x ≤ max_text → Run ascii x → (w v : ℕ) → node_words ≤ w → span_words ≤ v → find_policy S w v x ≡ policy r.tree r.places
find-read S {x} r short low w v hw hv =
    rw (le-ltb v span_words hv, find-passes S w x (record { enough = hw; short = short; low = omega (arith, lead-run low) }), r.reads, r.maps)

-- its numbers are the policy's
pub counted-strings : (x : Text) (p : Policy Span) → counted (strings x p) ≡ counted p
counted-strings x p = simp length-map

-- the text y is found, in tables of w and v words, to be the policy p, given as the numbers k; and it prints to p's text again, from its own table
pub record ReadBack (S : ℕ → Bool) (k : Counted) (p : Policy Text) (y : Text) (w v : ℕ) : Type 0 where
  pub tree : Tree
  pub places : Policy Span
  pub finds : find_policy S w v y ≡ policy tree places
  pub numbers : counted places ≡ k
  pub same : strings y places ≡ p
  pub has_nodes : nodes tree ≡ printed_nodes p
  pub has_depth : depth tree ≡ printed_depth p
  pub again : (ws : Words) (r : ℕ) → find_print S k (span_table places ++ ws) y r ≡ sized (printed p) r

module _ (S : ℕ → Bool) (plain : Plain S) (low : Low S) where
  -- the text of a printable policy, followed by any bytes below 128
  printed-read-back :
      (p : Policy Text) → Proper S p → (tail : Text) → Run ascii tail → length (printed p ++ tail) ≤ max_text
      → (w v : ℕ) → node_words ≤ w → span_words ≤ v → ReadBack S (counted p) p (printed p ++ tail) w v
  printed-read-back p h tail a short w v hw hv =
      let y : Text = printed p ++ tail in
      let r = round_trip S plain p h tail in
      let numbers : counted r.places ≡ counted p = sym (counted-strings y r.places) ∙ ap counted r.same in
      record {
        tree = r.tree;
        places = r.places;
        finds = find-read S r short (run-append (ascii-printed S low h) a) w v hw hv;
        numbers = numbers;
        same = r.same;
        has_nodes = r.has_nodes;
        has_depth = r.has_depth;
        again = λ ws room. rw (sym numbers) (print-read S y r.places (readable S y r.tree (length (printed p)) r.places r.reads r.maps) ws room
            ∙ ap (λ (q : Policy Text). sized (printed q) room) r.same);
      }

  pub print-read-back :
      (k : Counted) (ws : Words) (x : Text) (r : ℕ) (t : Text) → find_print S k ws x r ≡ written t
      → (tail : Text) → Run ascii tail → length (t ++ tail) ≤ max_text
      → (w v : ℕ) → node_words ≤ w → span_words ≤ v → ReadBack S k (strings x (placed k ws)) (t ++ tail) w v
  print-read-back k ws x r t e tail a short w v hw hv =
      let h = prints S k ws x r t e in
      let p : Policy Text = strings x (placed k ws) in
      subst (λ (u : Text). ReadBack S k p (u ++ tail) w v) (sym h.text)
      (subst (λ (c : Counted). ReadBack S c p (printed p ++ tail) w v) (counted-placed k ws x)
      (printed-read-back p h.printable.proper tail a (subst (λ (u : Text). length (u ++ tail) ≤ max_text) h.text short) w v hw hv))

-- ---- the entries themselves

pub sized-fits : (t : Text) (r : ℕ) → length t ≤ max_text → length t ≤ r → sized t r ≡ written t
unfolding sized
sized-fits t r short room = rw (le-ltb max_text (length t) short, le-ltb r (length t) room)

pub sized-long : (t : Text) (r : ℕ) → max_text < length t → sized t r ≡ unprinted 23 0
unfolding sized
sized-long t r long = rw (lt-ltb max_text (length t) long)

pub sized-short : (t : Text) (r : ℕ) → length t ≤ max_text → r < length t → sized t r ≡ unprinted 24 0
unfolding sized
sized-short t r short room = rw (le-ltb max_text (length t) short, lt-ltb r (length t) room)

-- what print has written to the output
abbrev pub written_text : Counted → Words → Text → (out : Text) → Text
written_text k ws x out = take (print_answer string_byte k ws x (length out)).length (print_output string_byte k ws x out)

-- y, which begins with the written text t, is answered with the numbers k and the nodes and depth of their policy; the span table that is left
-- gives the strings that were printed; from it t is printed again
pub record Demand3 (k : Counted) (ws : Words) (x t y : Text) (nodes spans : Words) : Type 0 where
  pub answers :
      policy_answer (length nodes) (length spans) y
      ≡ record {
        answer =
            record {
              refusal = 0;
              name = 0;
              kind = 0;
              place = 0;
              nodes = printed_nodes (strings x (placed k ws));
              depth = printed_depth (strings x (placed k ws));
            };
        policy = k;
      }
  pub same_strings : strings y (placed k (policy_spans y nodes spans)) ≡ strings x (placed k ws)
  pub same_answer :
      (r : ℕ) → length t ≤ r
      → print_answer string_byte k (policy_spans y nodes spans) y r ≡ record { refusal = 0; name = 0; kind = 0; place = 0; length = length t }
  pub same_bytes : (out : Text) → length t ≤ length out → print_output string_byte k (policy_spans y nodes spans) y out ≡ t ++ drop (length t) out

module _
    (k : Counted)
    (ws : Words)
    (x out tail : Text)
    (is_ascii : Run ascii tail)
    (nodes spans : Words)
    (enough_nodes : node_words ≤ length nodes)
    (enough_spans : span_words ≤ length spans)
  where
    back : (t : Text) → find_print string_byte k ws x (length out) ≡ written t → length (t ++ tail) ≤ max_text → Demand3 k ws x t (t ++ tail) nodes spans
    unfolding policy_answer policy_spans print_answer print_output
    back t e short =
        let y : Text = t ++ tail in
        let h = prints string_byte k ws x (length out) t e in
        let b = print-read-back string_byte string_byte-plain string_byte-low k ws x (length out) t e tail is_ascii short (length nodes) (length spans) enough_nodes enough_spans in
        let spare : Words = replicate (span_words - length (span_table b.places)) 0 ++ drop span_words spans in
        let again : (r : ℕ) → length t ≤ r → find_print string_byte k (policy_spans y nodes spans) y r ≡ written t
        = λ r room. rw b.finds (b.again spare r ∙ ap (λ (u : Text). sized u r) (sym h.text) ∙ sized-fits t r (rw h.text h.printable.short) room) in
        record {
          answers = rw (b.finds, b.numbers, b.has_nodes, b.has_depth);
          same_strings =
              rw b.finds (ap (λ (c : Counted). strings y (placed c (span_table b.places ++ spare))) (sym b.numbers)
              ∙ ap (strings y) (placed-table b.places spare) ∙ b.same);
          same_answer = λ r room. rw (again r room);
          same_bytes = λ o room. rw (again (length o) room);
        }

    -- demand 3: print answered a length; its text, and any bytes below 128 after it, are within 8,192 in all
    pub demand-3 :
        (print_answer string_byte k ws x (length out)).refusal ≡ 0 → length (written_text k ws x out ++ tail) ≤ max_text
        → Demand3 k ws x (written_text k ws x out) (written_text k ws x out ++ tail) nodes spans
    unfolding print_answer print_output
    demand-3 = at (find_print string_byte k ws x (length out)) refl (print-gives string_byte k ws x (length out))
      where
        at :
            (w : Printing) → find_print string_byte k ws x (length out) ≡ w → Gives OfPrint w
            → (print_answered w).refusal ≡ 0 → length (take (print_answered w).length (output w out) ++ tail) ≤ max_text
            → Demand3 k ws x (take (print_answered w).length (output w out)) (take (print_answered w).length (output w out) ++ tail) nodes spans
        at (written t) e g z short =
            let seam : take (length t) (t ++ drop (length t) out) ≡ t = take-append_seam t (drop (length t) out) in
            subst (λ (u : Text). Demand3 k ws x u (u ++ tail) nodes spans) (sym seam) (back t e (subst (λ (u : Text). length (u ++ tail) ≤ max_text) seam short))
        at (unprinted r p) e g z short = absurd (omega arith)
