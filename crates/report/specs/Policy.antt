-- An accepted text in words: its form, its lists, its nodes and depth, and its canonical text. Assumes nothing.
use Rattle.std.specs.Prelude.{ℕ, ◌+◌, ◌-◌, ◌*◌, cond, List, [], ◌∷◌, length, eqb, leb}
use Rattle.std.proofs.Math.Seq.{slice}
use Rattle.cel_text.specs.Byte.{Text, ◌⧺◌, bytes, string_byte}
use Rattle.cel_text.specs.Table.{Words}
use Rattle.cel_text.specs.Answer.{Answer, max_text}
use Rattle.cel_policy.specs.Policy.{Span, Counted, skip, full, exclusions}
use Rattle.cel_policy.specs.Spans.{spans_at}
use Rattle.cel_policy.specs.Answers.{Printing, written, unprinted, find_print}
use Rattle.page.specs.Page.{shown, said}
use Rattle.report.specs.declared.policy.List.{List as Certified}
use Rattle.report.specs.declared.policy.List.TheVariants.{RequestHeaders, QueryParameters, ResponseInclusions, ResponseExclusions}
use Rattle.report.specs.Words.{message}

unfoldable pub form_text : (form : ℕ) → Text
form_text form =
    message
    (bytes "|Accepted: Skip. Nothing is certified.\n"
    ⧺ bytes "|Accepted: ResponseOnly. The response is certified, the request is not.\n"
    ⧺ bytes "|Accepted: Full. The request and the response are certified.\n")
    form
    0

-- a string in double quotes, on a line of its own; one of more than 72 bytes is cut, and its length said
unfoldable pub string_text : Text → (from to : ℕ) → Text
string_text x from to =
    said (bytes "        \"") 0
    ⧺ cond (leb to (from + 72)) (shown (slice from to x) ⧺ said (bytes "\"\n") 0)
    (shown (slice from (from + 72) x) ⧺ said (bytes "...\", # bytes\n") (to - from))

abbrev pub strings_text : Text → List Span → Text
strings_text x [] = []
strings_text x (s ∷ more) = string_text x s.from s.to ⧺ strings_text x more

-- the lists by their numbers
abbrev pub number_of : Certified → ℕ
number_of RequestHeaders = 0
number_of QueryParameters = 1
number_of ResponseInclusions = 2
number_of ResponseExclusions = 3

-- two titles for each list: without strings, and with some. The lists: request headers, query parameters, response headers that are certified, and
-- that are not
unfoldable pub title_text : (list count : ℕ) → Text
title_text list count =
    message
    (bytes "    Certified request headers: none, the list is empty.\n"
    ⧺ bytes "|    Certified request headers (#):\n"
    ⧺ bytes "|    Certified query parameters: none, the list is empty.\n"
    ⧺ bytes "|    Certified query parameters (#):\n"
    ⧺ bytes "|    Certified response headers: none, the list is empty.\n"
    ⧺ bytes "|    Certified response headers: only these (#):\n"
    ⧺ bytes "|    Certified response headers: all, the list of exclusions is empty.\n"
    ⧺ bytes "|    Certified response headers: all except these (#):\n")
    (cond (eqb count 0) (2 * list) (2 * list + 1))
    count

-- a list, its strings being `count` of the span table from string `first` on
unfoldable pub list_lines : Text → Words → (list first count : ℕ) → Text
list_lines x ws list first count = title_text list count ⧺ strings_text x (spans_at ws count first)

-- the lists of the request, which only Full has
unfoldable pub request_lines : Text → Words → Counted → Text
request_lines x ws k =
    cond (eqb k.form full)
    (list_lines x ws 0 0 k.request_headers ⧺ list_lines x ws 1 k.request_headers k.query_parameters)
    []

-- the lists, one after the other in the span table; Skip has none
unfoldable pub lists_lines : Text → Words → Counted → Text
lists_lines x ws k =
    cond (eqb k.form skip) []
    (said (bytes "\n") 0
    ⧺ request_lines x ws k
    ⧺ list_lines x ws (cond (eqb k.kind exclusions) 3 2) (k.request_headers + k.query_parameters) k.response_headers)

unfoldable pub size_text : Answer → Text
size_text a = said (bytes "\n# nodes, depth ") a.nodes ⧺ said (bytes "#. ") a.depth

-- the canonical text, which is not cut, or that there is none
unfoldable pub canonical_lines : Printing → Text
canonical_lines (written t) = said (bytes "Canonical text, # bytes:\n\n") (length t) ⧺ shown t ⧺ said (bytes "\n") 0
canonical_lines (unprinted refusal place) = said (bytes "No canonical text (#): it would have more than 8192 bytes.\n") refusal

unfoldable pub policy_text : Text → Words → Answer → Counted → Text
policy_text x ws a k = form_text k.form ⧺ lists_lines x ws k ⧺ size_text a ⧺ canonical_lines (find_print string_byte k ws x max_text)
