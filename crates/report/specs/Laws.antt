-- Every report is legible, whatever the text holds: line ends and printable ASCII bytes alone. Assumes nothing.
use Rattle.std.specs.Prelude.{ℕ, ◌+◌, ◌-◌, min, Bool, List, [], ◌∷◌, length, get_or, T, ltb, leb, eqb}
use Rattle.std.proofs.Math.Seq.{slice}
use Rattle.cel_text.specs.Byte.{Text, bytes, over, string_byte}
use Rattle.cel_text.specs.Tree.{object}
use Rattle.cel_text.specs.Reading.{too_many}
use Rattle.cel_text.specs.Table.{Words, kind_number, node_words}
use Rattle.cel_text.specs.Answer.{Answer, max_text, fault_number}
use Rattle.cel_policy.specs.Names.{spelling, spellings}
use Rattle.cel_policy.specs.Policy.{Span, Counted, skip, full}
use Rattle.cel_policy.specs.Spans.{spans_at, span_words}
use Rattle.cel_policy.specs.Answers.{Printing, written, unprinted, find_print, all_of, PolicyAnswer, policy_answer, policy_nodes, policy_spans}
use Rattle.cel_text.proofs.Laws.Class.{run-append}
use Rattle.cel_policy.proofs.Laws.Each.{each-get_d, each_of, run-of}
use Rattle.page.specs.Page.{legible_byte, Legible}
use Rattle.page.specs.Laws.{legible-cond, shown-legible, said-legible, spaces-legible}
use Rattle.report.specs.declared.window.Side.{Side}
use Rattle.report.specs.declared.window.Spot.{Spot}
use Rattle.report.specs.Words.{found_text, expected_text}
use Rattle.report.specs.Window.{back, last_of, margin_text, end_text, between_text, caret_text, spot_of, spot_text, place_text, byte_place_text, node_place_text}
use Rattle.report.specs.Node.{kind_at, start_of}
use Rattle.report.specs.Policy.{form_text, string_text, strings_text, title_text, list_lines, request_lines, lists_lines, size_text, canonical_lines, policy_text}
use Rattle.report.specs.Refusal.{reading_text, instead_text, wrong_text, no_argument_text, no_property_text, choice_text, mapping_text, refusal_text}
use Rattle.report.specs.Report.{answer_text, nodes_lent, spans_lent, reported}

name-legible : (name : ℕ) → Legible (spelling name)
unfolding spelling legible_byte
name-legible name =
    run-of legible_byte (get_or spellings name [])
    (each-get_d {P = λ (x : Text). T (all_of legible_byte x)} {l = spellings} {d = []} (each_of (all_of legible_byte) spellings tt) tt name)

-- ---- the window

margin-legible : (from : ℕ) → Legible (margin_text from)
unfolding margin_text
margin-legible from = legible-cond (eqb from 0) (said-legible _ 0) (said-legible _ 0)

end-legible : (more : Bool) → Legible (end_text more)
unfolding end_text
end-legible more = legible-cond more (said-legible _ 0) (said-legible _ 0)

between-legible : (x : Text) (first last : Side) → Legible (between_text x first last)
unfolding between_text
between-legible x first last =
    run-append (margin-legible first.at)
    (run-append (shown-legible (slice first.at last.at x))
    (run-append (end-legible (ltb last.at (length x))) (run-append (spaces-legible (4 + first.columns)) (said-legible (bytes "^ ") 0))))

caret-legible : (x : Text) (place : ℕ) → Legible (caret_text x place)
unfolding caret_text
caret-legible x place = between-legible x (back x place (72 - (last_of x place).columns)) (last_of x place)

spot-legible : (s : Spot) → Legible (spot_text s)
unfolding spot_text
spot-legible s = legible-cond (eqb s.line 1) over (run-append (said-legible _ s.line) (said-legible _ s.column))

place-legible : (x : Text) (place : ℕ) → Legible (place_text x place)
unfolding place_text
place-legible x place = run-append (said-legible _ place) (spot-legible (spot_of x place))

byte_place-legible : (x : Text) (place : ℕ) → Legible (byte_place_text x place)
unfolding byte_place_text
byte_place-legible x place = run-append (caret-legible x place) (place-legible x place)

node_place-legible : (x : Text) (node place : ℕ) → Legible (node_place_text x node place)
unfolding node_place_text
node_place-legible x node place = run-append (caret-legible x place) (run-append (said-legible _ node) (place-legible x place))

-- ---- a policy

string-legible : (x : Text) (from to : ℕ) → Legible (string_text x from to)
unfolding string_text
string-legible x from to =
    run-append (said-legible _ 0)
    (legible-cond (leb to (from + 72)) (run-append (shown-legible (slice from to x)) (said-legible _ 0))
    (run-append (shown-legible (slice from (from + 72) x)) (said-legible _ (to - from))))

strings-legible : (x : Text) (l : List Span) → Legible (strings_text x l)
strings-legible x [] = over
strings-legible x (s ∷ more) = run-append (string-legible x s.from s.to) (strings-legible x more)

list-legible : (x : Text) (ws : Words) (list first count : ℕ) → Legible (list_lines x ws list first count)
unfolding list_lines title_text
list-legible x ws list first count = run-append (said-legible _ count) (strings-legible x (spans_at ws count first))

request-legible : (x : Text) (ws : Words) (k : Counted) → Legible (request_lines x ws k)
unfolding request_lines
request-legible x ws k =
    legible-cond (eqb k.form full)
    (run-append (list-legible x ws 0 0 k.request_headers) (list-legible x ws 1 k.request_headers k.query_parameters))
    over

lists-legible : (x : Text) (ws : Words) (k : Counted) → Legible (lists_lines x ws k)
unfolding lists_lines
lists-legible x ws k =
    legible-cond (eqb k.form skip) over
    (run-append (said-legible _ 0)
    (run-append (request-legible x ws k) (list-legible x ws _ (k.request_headers + k.query_parameters) k.response_headers)))

canonical-legible : (p : Printing) → Legible (canonical_lines p)
unfolding canonical_lines
canonical-legible (written t) = run-append (said-legible _ (length t)) (run-append (shown-legible t) (said-legible _ 0))
canonical-legible (unprinted refusal place) = said-legible _ refusal

policy-legible : (x : Text) (ws : Words) (a : Answer) (k : Counted) → Legible (policy_text x ws a k)
unfolding policy_text form_text size_text
policy-legible x ws a k =
    run-append (said-legible _ 0)
    (run-append (lists-legible x ws k)
    (run-append (run-append (said-legible _ a.nodes) (said-legible _ a.depth)) (canonical-legible (find_print string_byte k ws x max_text))))

-- ---- a refusal

instead-legible : (kind name : ℕ) → Legible (instead_text kind name)
unfolding instead_text expected_text
instead-legible kind name = run-append (said-legible _ 0) (run-append (name-legible name) (said-legible _ 0))

wrong-legible : (node found : ℕ) (way : Text) (kind name : ℕ) → Legible (wrong_text node found way kind name)
unfolding wrong_text found_text
wrong-legible node found way kind name =
    run-append (said-legible _ node) (run-append (said-legible _ 0) (run-append (said-legible way 0) (instead-legible kind name)))

no_property-legible : (name : ℕ) → Legible (no_property_text name)
unfolding no_property_text
no_property-legible name = run-append (name-legible _) (run-append (said-legible _ 0) (run-append (name-legible name) (said-legible _ 0)))

mapping-legible : (a : Answer) (found : ℕ) → Legible (mapping_text a found)
unfolding mapping_text no_argument_text choice_text
mapping-legible a found =
    legible-cond (eqb a.refusal 7) (wrong-legible a.place found _ a.kind a.name)
    (legible-cond (eqb a.refusal 8) (wrong-legible a.place found _ found a.name)
    (legible-cond (eqb a.refusal 9) (run-append (said-legible _ 0) (instead-legible (kind_number object) a.name))
    (legible-cond (eqb a.refusal 10) (no_property-legible a.name) (said-legible _ 0))))

refusal-legible : (x : Text) (ws : Words) (a : Answer) → Legible (refusal_text x ws a)
unfolding refusal_text reading_text
refusal-legible x ws a =
    run-append (said-legible _ a.refusal)
    (legible-cond (leb a.refusal (fault_number too_many)) (run-append (said-legible _ _) (byte_place-legible x (min a.place (length x))))
    (run-append (mapping-legible a (kind_at ws a.place)) (node_place-legible x a.place (start_of x ws a.place))))

-- ---- a report

answer-legible : (x : Text) (nodes spans : Words) (a : PolicyAnswer) → Legible (answer_text x nodes spans a)
unfolding answer_text
answer-legible x nodes spans a =
    legible-cond (eqb a.answer.refusal 0) (policy-legible x spans a.answer a.policy) (refusal-legible x nodes a.answer)

pub reported-legible : (x : Text) → Legible (reported x)
unfolding reported
reported-legible x =
    answer-legible x (policy_nodes x nodes_lent spans_lent) (policy_spans x nodes_lent spans_lent) (policy_answer node_words span_words x)
