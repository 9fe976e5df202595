-- There is room for any line: it has at most 64 bytes. Assumes nothing.
use Rattle.std.specs.Prelude.{ℕ, ◌≤◌, ◌<◌, cond, length, eqb}
use Rattle.std.proofs.Common.{arith, length-append}
use Rattle.cel_text.specs.Byte.{Text, bytes}
use Rattle.cel_text.specs.Table.{node_words}
use Rattle.cel_text.proofs.Laws.Class.{by-test}
use Rattle.cel_policy.specs.Spans.{span_words}
use Rattle.cel_policy.proofs.Laws.Refusals.{policy-refusals, policy-within}
use Rattle.lines.specs.Laws.{numeral-length, numeral-length-u64}
use Rattle.recording.specs.declared.Ending.{Ending}
use Rattle.recording.specs.declared.Ending.TheVariants.{Complete, BrokenLength, BrokenBody}
use Rattle.recording.specs.declared.reply.Reply.{Reply}
use Rattle.recording.specs.declared.State.{State}
use Rattle.recording.specs.declared.window.Event.{Event}
use Rattle.recording.specs.declared.window.Event.TheVariants.{Body, Skipping, Skipped, Wanting, Last}
use Rattle.recording.specs.Replay.{form_word, line, last_line, reply_to, too_long}
use Rattle.recording.specs.Window.{part, says}
use Rattle.recording.specs.Turn.{line_room, max_count}

form-short : (form : ℕ) → length (form_word form) ≤ 8
form-short form =
    by-test P (eqb form 0) (bytes "none") (cond (eqb form 1) (bytes "skip") (cond (eqb form 2) (bytes "response") (bytes "full")))
    (λ t. omega arith)
    (λ t. by-test P (eqb form 1) (bytes "skip") (cond (eqb form 2) (bytes "response") (bytes "full"))
    (λ u. omega arith)
    (λ u. by-test P (eqb form 2) (bytes "response") (bytes "full") (λ v. omega arith) (λ v. omega arith)))
  where
    P : Text → Type 0
    P x = length x ≤ 8

-- a reply whose numbers have at most three digits
pub record Small (r : Reply) : Type 0 where
  pub answer : r.answer < 1000
  pub nodes : r.nodes < 1000
  pub depth : r.depth < 1000

pub reply-small : (t : Text) → Small (reply_to t)
unfolding reply_to
reply-small t =
    let w = policy-within node_words span_words t in
    record { answer = omega (arith, policy-refusals node_words span_words t); nodes = omega (arith, w.0); depth = omega (arith, w.1) }

long-small : Small too_long
long-small = record { answer = omega arith; nodes = omega arith; depth = omega arith }

line-short : (i : ℕ) (r : Reply) → i ≤ max_count → Small r → length (line i r) ≤ line_room
unfolding line
line-short i r h s =
    simp length-append
    (omega (arith, numeral-length-u64 i (omega arith), numeral-length r.answer 2 s.answer, form-short r.form, numeral-length r.nodes 2 s.nodes, numeral-length r.depth 2 s.depth))

last-short : (i r : ℕ) (e : Ending) → i ≤ max_count → r ≤ max_count → length (last_line i r e) ≤ line_room
unfolding last_line
last-short i r Complete h l = simp length-append (omega (arith, numeral-length-u64 i (omega arith), numeral-length-u64 r (omega arith)))
last-short i r BrokenLength h l = omega arith
last-short i r BrokenBody h l = omega arith

pub says-short : (s : State) (w : Text) (e : Event) → s.count ≤ max_count → s.refused ≤ max_count → length (says s w e) ≤ line_room
says-short s w (Body from to) h l = line-short s.count (reply_to (part from to w)) h (reply-small (part from to w))
says-short s w (Skipping to left) h l = omega arith
says-short s w (Skipped to) h l = line-short s.count too_long h long-small
says-short s w Wanting h l = omega arith
says-short s w (Last e) h l = last-short s.count s.refused e h l
