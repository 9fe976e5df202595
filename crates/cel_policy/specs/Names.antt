-- The names that the mapping knows, by their numbers. Assumes nothing.
use Rattle.std.specs.Prelude.{ℕ, Bool, true, false, ◌&&◌, List, [], ◌∷◌, get_or, eqb}
use Rattle.cel_text.specs.Byte.{Text, bytes}

-- whether two texts have the same bytes
abbrev pub same : Text → Text → Bool
same [] [] = true
same [] (b ∷ bs) = false
same (a ∷ more) [] = false
same (a ∷ more) (b ∷ bs) = eqb a b && same more bs

-- “The names of the mapping are numbered from 1 to 16.” The number 0 names nothing
abbrev pub spellings : List Text
spellings =
    []
    ∷ bytes "default_certification"
    ∷ bytes "ValidationArgs"
    ∷ bytes "no_certification"
    ∷ bytes "certification"
    ∷ bytes "Certification"
    ∷ bytes "no_request_certification"
    ∷ bytes "request_certification"
    ∷ bytes "RequestCertification"
    ∷ bytes "certified_request_headers"
    ∷ bytes "certified_query_parameters"
    ∷ bytes "response_certification"
    ∷ bytes "ResponseCertification"
    ∷ bytes "certified_response_headers"
    ∷ bytes "response_header_exclusions"
    ∷ bytes "ResponseHeaderList"
    ∷ bytes "headers"
    ∷ []

-- a name's bytes, by its number
unfoldable pub spelling : ℕ → Text
spelling name = get_or spellings name []

-- the numbers, in the order of the list
abbrev pub default_certification : ℕ
default_certification = 1

abbrev pub ValidationArgs : ℕ
ValidationArgs = 2

abbrev pub no_certification : ℕ
no_certification = 3

abbrev pub certification : ℕ
certification = 4

abbrev pub Certification : ℕ
Certification = 5

abbrev pub no_request_certification : ℕ
no_request_certification = 6

abbrev pub request_certification : ℕ
request_certification = 7

abbrev pub RequestCertification : ℕ
RequestCertification = 8

abbrev pub certified_request_headers : ℕ
certified_request_headers = 9

abbrev pub certified_query_parameters : ℕ
certified_query_parameters = 10

abbrev pub response_certification : ℕ
response_certification = 11

abbrev pub ResponseCertification : ℕ
ResponseCertification = 12

abbrev pub certified_response_headers : ℕ
certified_response_headers = 13

abbrev pub response_header_exclusions : ℕ
response_header_exclusions = 14

abbrev pub ResponseHeaderList : ℕ
ResponseHeaderList = 15

abbrev pub headers : ℕ
headers = 16
