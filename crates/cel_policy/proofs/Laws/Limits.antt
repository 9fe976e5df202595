-- The cases of SPEC.md where 8,192 bytes are printed and where they are not, for every string of the given length. Assumes nothing.
use Rattle.std.specs.Prelude.{◌≡◌, ℕ, ◌+◌, ◌-◌, ◌≤◌, [], ◌∷◌, ◌++◌}
use Rattle.std.proofs.Common.{sym, ◌∙◌, arith, append_assoc, append-nil, length-append, lit≤}
use Rattle.std.proofs.Math.Path.{ap}
use Rattle.std.proofs.Math.Option.{none}
use Rattle.std.proofs.Math.ListN.{length, drop, replicate}
use Rattle.std.proofs.Math.Seq.{take-length}
use Rattle.cel_text.specs.Byte.{Text, ◌⧺◌, Run, over, ascii, string_byte, bytes}
use Rattle.cel_text.specs.Abstract.{Ast, str, write, size_of, height_of, Writable}
use Rattle.cel_text.specs.Table.{Words, node_words}
use Rattle.cel_text.proofs.Laws.Class.{string_byte-plain}
use Rattle.cel_policy.specs.Names.{spelling}
use Rattle.cel_policy.specs.Policy.{Span, Policy, Counted, counted, response_only, inclusions}
use Rattle.cel_policy.specs.Mapping.{first, certified}
use Rattle.cel_policy.specs.Meaning.{ReadAs}
use Rattle.cel_policy.specs.Spans.{span_words, span_table}
use Rattle.cel_policy.specs.Printed.{nothing, each, printed, printed_length}
use Rattle.cel_policy.specs.Answers.{policy, find_policy, policy_spans, print_answered, policy_answer, sized, unprinted, find_print, print_answer, canonical_answer, refusal_base}
use Rattle.cel_policy.proofs.Laws.Lengths.{length-printed}
use Rattle.cel_policy.proofs.Laws.Shape.{certifies}
use Rattle.cel_policy.proofs.Laws.PrintedTree.{certified_value, size-certified, height-certified, mapping-certified, writable-certified}
use Rattle.cel_policy.proofs.Laws.RoundTrip.{written_read}
use Rattle.cel_policy.proofs.Laws.Readable.{Fits, Readable}
use Rattle.cel_policy.proofs.Laws.SpanTable.{print-read}
use Rattle.cel_policy.proofs.Laws.Refusals.{found-readable}
use Rattle.cel_policy.proofs.Laws.Ascii.{string_byte-low, ascii-written}
use Rattle.cel_policy.proofs.Laws.Entries.{find-read, counted-strings, sized-fits, sized-long}
use Rattle.cel_policy.proofs.Laws.Canonical.{canonical-read}

-- ResponseOnly with one included header
abbrev one_header : {A : Type 0} → A → Policy A
one_header a = certified none (first (a ∷ []))

length-one_header : (s : Text) → length (printed (one_header s)) ≡ 206 + length s
unfolding printed_length
length-one_header s = length-printed (one_header s) ∙ omega arith

-- the string s, alone in a text, asked for as the one header
abbrev pub one_asked : Counted
one_asked = record { form = response_only; kind = inclusions; request_headers = 0; query_parameters = 0; response_headers = 1 }

print-one : (s : Text) → Run string_byte s → (r : ℕ) → find_print string_byte one_asked (0 ∷ length s ∷ []) s r ≡ sized (printed (one_header s)) r
unfolding span_table
print-one s h r =
    let span : Span = record { from = 0; to = length s } in
    let fit : Fits string_byte s span = record { ordered = omega arith; inside = omega arith; string_bytes = rw take-length h } in
    let read : Readable string_byte s (one_header span) = record { shape = certifies none (first (span ∷ [])) (lit≤ tt); fits = each fit nothing } in
    print-read string_byte s (one_header span) read [] r ∙ ap (λ (t : Text). sized (printed (one_header t)) r) (take-length s)

-- “ResponseOnly with one string of 7,986 bytes prints 8,192 bytes.”
pub prints-8192 :
    (s : Text) → Run string_byte s → length s ≡ 7986 → (r : ℕ) → 8192 ≤ r
    → print_answer string_byte one_asked (0 ∷ 7986 ∷ []) s r ≡ record { refusal = 0; name = 0; kind = 0; place = 0; length = 8192 }
unfolding print_answer
prints-8192 s h n r room =
    let long : length (printed (one_header s)) ≡ 8192 = length-one_header s ∙ omega arith in
    rw (sym n, print-one s h r, sized-fits (printed (one_header s)) r (omega arith) (omega arith), long)

-- “With one of 7,987 it is refused with 23.”
pub refuses-8193 :
    (s : Text) → Run string_byte s → length s ≡ 7987 → (r : ℕ)
    → print_answer string_byte one_asked (0 ∷ 7987 ∷ []) s r ≡ record { refusal = 23; name = 0; kind = 0; place = 0; length = 0 }
unfolding print_answer
refuses-8193 s h n r = rw (sym n, print-one s h r, sized-long (printed (one_header s)) r (omega (arith, length-one_header s)))

-- a text of ResponseOnly with `""` for `Empty{}`
abbrev pub shorter_text : Text → Text
shorter_text s =
    bytes "default_certification(ValidationArgs{certification:Certification{no_request_certification:\"\","
    ⧺ bytes "response_certification:ResponseCertification{certified_response_headers:ResponseHeaderList{headers:[\""
    ⧺ s
    ⧺ bytes "\"]}}}})"

abbrev shorter_value : Text → Ast
shorter_value s = certified_value (str []) none (first (s ∷ []))

shorter-written : (s : Text) → shorter_text s ≡ write (shorter_value s)
unfolding spelling
shorter-written s = simp append_assoc

shorter-writable : (s : Text) → Run string_byte s → Writable string_byte (shorter_value s)
shorter-writable s h = writable-certified string_byte (str []) none (first (s ∷ [])) over (each h nothing)

shorter-read : (s : Text) → Run string_byte s → ReadAs string_byte (shorter_text s) (one_header s) (length (write (shorter_value s))) 8 6
shorter-read s h =
    let tall : height_of (shorter_value s) ≡ 6 = height-certified (str []) none (first (s ∷ [])) (lit≤ tt) in
    let big : size_of (shorter_value s) ≡ 8 = size-certified (str []) none (first (s ∷ [])) in
    let r = written_read string_byte string_byte-plain (shorter_value s) (one_header s) (shorter-writable s h)
    (mapping-certified (str []) none (first (s ∷ []))) (omega arith) (omega arith) [] in
    rw (shorter-written s, sym tall, sym big) (rw (append-nil (write (shorter_value s))) at r)

-- “A text of ResponseOnly with `""` for `Empty{}` and one string of 7,991 bytes has 8,192 bytes.”
module _ (s : Text) (h : Run string_byte s) (n : length s ≡ 7991) where
  shorter-length : length (shorter_text s) ≡ 8192
  shorter-length = simp (length-append, n)

  shorter-ascii : Run ascii (shorter_text s)
  shorter-ascii = rw (shorter-written s) (ascii-written string_byte string_byte-low (shorter_value s) (shorter-writable s h))

  numbers : counted (shorter-read s h).places ≡ one_asked
  numbers = sym (counted-strings (shorter_text s) (shorter-read s h).places) ∙ ap counted (shorter-read s h).same

  module _ (nodes spans : Words) (enough_nodes : node_words ≤ length nodes) (enough_spans : span_words ≤ length spans) where
    found-8192 : find_policy string_byte (length nodes) (length spans) (shorter_text s) ≡ policy (shorter-read s h).tree (shorter-read s h).places
    found-8192 = find-read string_byte (shorter-read s h) (omega (arith, shorter-length)) shorter-ascii (length nodes) (length spans) enough_nodes enough_spans

    pub reads-8192 :
        policy_answer (length nodes) (length spans) (shorter_text s)
        ≡ record { answer = record { refusal = 0; name = 0; kind = 0; place = 0; nodes = 8; depth = 6 }; policy = one_asked }
    unfolding policy_answer
    reads-8192 = rw (found-8192, numbers, (shorter-read s h).has_nodes, (shorter-read s h).has_depth)

    -- “It is read, and its policy is refused with 23 on printing.” It is printed from the span table that the read left
    pub refuses-8197 :
        (r : ℕ)
        → print_answer string_byte one_asked (policy_spans (shorter_text s) nodes spans) (shorter_text s) r
        ≡ record { refusal = 23; name = 0; kind = 0; place = 0; length = 0 }
    unfolding print_answer policy_spans
    refuses-8197 r =
        let p : Policy Span = (shorter-read s h).places in
        let spare : Words = replicate (span_words - length (span_table p)) 0 ++ drop span_words spans in
        let refused : find_print string_byte (counted p) (span_table p ++ spare) (shorter_text s) r ≡ unprinted 23 0
        = print-read string_byte (shorter_text s) p (found-readable string_byte (length nodes) (length spans) (shorter_text s) _ p found-8192) spare r
        ∙ ap (λ (q : Policy Text). sized (printed q) r) (shorter-read s h).same
        ∙ sized-long (printed (one_header s)) r (omega (arith, length-one_header s)) in
        rw found-8192
        (ap (λ (c : Counted). print_answered (find_print string_byte c (span_table p ++ spare) (shorter_text s) r)) (sym numbers) ∙ ap print_answered refused)

  -- canonicalise reads and prints it
  pub canonical-8197 : (r : ℕ) → canonical_answer (shorter_text s) r ≡ refusal_base + 23
  unfolding canonical_answer
  canonical-8197 r =
      rw (
        canonical-read string_byte (shorter-read s h) (omega (arith, shorter-length)) shorter-ascii r,
        sized-long (printed (one_header s)) r (omega (arith, length-one_header s)),
      )
