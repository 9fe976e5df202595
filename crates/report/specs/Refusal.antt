-- A refusal in words: its number, what it means, and the part of the text around its place. Assumes nothing.
use Rattle.std.specs.Prelude.{ℕ, ◌%◌, min, cond, length, eqb, leb}
use Rattle.cel_text.specs.Byte.{Text, ◌⧺◌, bytes}
use Rattle.cel_text.specs.Tree.{object}
use Rattle.cel_text.specs.Reading.{syntax, too_many}
use Rattle.cel_text.specs.Table.{Words, kind_number}
use Rattle.cel_text.specs.Answer.{Answer, fault_number}
use Rattle.cel_policy.specs.Names.{spelling, response_certification, Certification, RequestCertification}
use Rattle.page.specs.Page.{said}
use Rattle.report.specs.Words.{message, found_text, expected_text}
use Rattle.report.specs.Window.{byte_place_text, node_place_text}
use Rattle.report.specs.Node.{kind_at, start_of}

-- the message for one of refusals 1 to 6, at place i of a text of this length: of the syntax there are two more, at the text's end, and at its
-- first byte
abbrev pub message_number : (refusal i long : ℕ) → ℕ
message_number refusal i long = cond (eqb refusal (fault_number syntax)) (cond (eqb i long) 7 (cond (eqb i 0) 8 refusal)) refusal

-- what refusals 1 to 6 mean
unfoldable pub reading_text : (refusal i long : ℕ) → Text
reading_text refusal i long =
    message
    (bytes "|a table that was lent is too short.\n"
    ⧺ bytes "|too long. At most # bytes are allowed; what follows is not read.\n"
    ⧺ bytes "|not ASCII. Byte # is 128 or more.\n"
    ⧺ bytes "|syntax. Byte # cannot follow what stands before it.\n"
    ⧺ bytes "|too deep. Byte # opens a container at depth 33; at most 32 is allowed.\n"
    ⧺ bytes "|too many values. Byte # opens value 257; at most 256 are allowed.\n"
    ⧺ bytes "|syntax. The text ends at byte #, where more must follow.\n"
    ⧺ bytes "|syntax. Byte 0 cannot begin an expression.\n")
    (message_number refusal i long)
    i

-- what is expected instead
unfoldable pub instead_text : (kind name : ℕ) → Text
instead_text kind name = expected_text kind ⧺ spelling name ⧺ said (bytes ".\n") 0

-- a node of another kind or name: what it is, in what way it is wrong, and what it should be
unfoldable pub wrong_text : (node found : ℕ) → (way : Text) → (kind name : ℕ) → Text
wrong_text node found way kind name = said (bytes "node # is ") node ⧺ found_text found ⧺ said way 0 ⧺ instead_text kind name

unfoldable pub no_argument_text : (name : ℕ) → Text
no_argument_text name = said (bytes "default_certification has no argument.\n") 0 ⧺ instead_text (kind_number object) name

-- the object that must have this property
abbrev pub owner : (name : ℕ) → ℕ
owner name = cond (eqb name response_certification) Certification RequestCertification

unfoldable pub no_property_text : (name : ℕ) → Text
no_property_text name = spelling (owner name) ⧺ said (bytes " lacks the property ") 0 ⧺ spelling name ⧺ said (bytes ".\n") 0

-- what is wrong with two properties of which an object must have exactly one: refusals 11 to 16. A list object without headers counts as absent, so
-- of the lists the headers are spoken of.
unfoldable pub choice_text : (refusal : ℕ) → Text
choice_text refusal =
    message
    (bytes "|both no_certification and certification are given.\nExpected exactly one of them in ValidationArgs.\n"
    ⧺ bytes "|neither no_certification nor certification is given.\nExpected exactly one of them in ValidationArgs.\n"
    ⧺ bytes "|both no_request_certification and request_certification are given.\nExpected exactly one of them in Certification.\n"
    ⧺ bytes "|neither no_request_certification nor request_certification is given.\nExpected exactly one of them in Certification.\n"
    ⧺ bytes "|both certified_response_headers and response_header_exclusions give headers.\nExpected exactly one of them in ResponseCertification.\n"
    ⧺ bytes "|neither certified_response_headers nor response_header_exclusions gives headers.\nExpected exactly one of them in ResponseCertification.\n")
    (refusal % 10)
    0

-- what refusals 7 to 16 mean, the node being of the kind `found`
unfoldable pub mapping_text : Answer → (found : ℕ) → Text
mapping_text a found =
    cond (eqb a.refusal 7) (wrong_text a.place found (bytes ".\n") a.kind a.name)
    (cond (eqb a.refusal 8) (wrong_text a.place found (bytes " with another name.\n") found a.name)
    (cond (eqb a.refusal 9) (no_argument_text a.name)
    (cond (eqb a.refusal 10) (no_property_text a.name)
    (choice_text a.refusal))))

-- a refusal of 1 to 6 is about a byte, another about a node
unfoldable pub refusal_text : Text → Words → Answer → Text
refusal_text x ws a =
    said (bytes "Refused (#): ") a.refusal
    ⧺ cond (leb a.refusal (fault_number too_many))
    (reading_text a.refusal (min a.place (length x)) (length x) ⧺ byte_place_text x (min a.place (length x)))
    (mapping_text a (kind_at ws a.place) ⧺ node_place_text x a.place (start_of x ws a.place))
