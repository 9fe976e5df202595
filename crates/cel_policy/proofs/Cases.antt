-- The examples of SPEC.md that are marked P, as one table under one statement. Beside it those at the limits of depth and nodes; tables of texts and of
-- policies to print on which a porter easily slips; and one each for the lengths lent, the mapping's refusals and the host's number. Each expected number is
-- written out; all are computed.
use mathlib.Core.Path.{◌≡◌, refl}
use mathlib.Core.List.{List, [], ◌∷◌, ◌++◌, map}
use Prim.Native.Nat.{ℕ, zero, suc, ◌-◌}
use lib.ListN.{replicate, length, take}
use Rattle.cel_text.specs.Byte.{Text, string_byte, bytes}
use Rattle.cel_text.specs.Table.{Words}
use Rattle.cel_text.specs.Answer.{Answer, tree_answer, tree_table}
use Rattle.cel_policy.specs.Policy.{Counted}
use Rattle.cel_policy.specs.Answers.{PolicyAnswer, policy_answer, policy_nodes, policy_spans, PrintAnswer, print_answer, print_output, canonical_answer, canonical_output}
use Rattle.cel_policy.proofs.Computing.{reading, mapped, printing}

-- a table of words as it is left: the words, then zeros
abbrev spare : ℕ → Words → Words
spare n ws = take n (ws ++ replicate n 0)

-- the answer for a tree that is accepted
abbrev a_tree : (nodes depth : ℕ) → Answer
a_tree n d = record { refusal = 0; name = 0; kind = 0; place = 0; nodes = n; depth = d }

-- the answer for a text that is refused while it is read
abbrev refused_at : (refusal place : ℕ) → Answer
refused_at r p = record { refusal = r; name = 0; kind = 0; place = p; nodes = 0; depth = 0 }

-- no policy, and Skip: form, kind and three counts
abbrev nothing : Counted
nothing = record { form = 0; kind = 0; request_headers = 0; query_parameters = 0; response_headers = 0 }

abbrev skips : Counted
skips = record { form = 1; kind = 0; request_headers = 0; query_parameters = 0; response_headers = 0 }

-- ---- the marked cases

-- a text; its answers as a tree and as a policy; the words of its rows
record Case : Type 0 where
  text : Text
  as_tree : Answer
  as_policy : PolicyAnswer
  rows : Words

-- refused while it is read; mapped to no policy; Skip
abbrev unread : Text → (refusal place : ℕ) → Case
unread x r p = record { text = x; as_tree = refused_at r p; as_policy = record { answer = refused_at r p; policy = nothing }; rows = [] }

abbrev unmapped : Text → (refusal name kind place nodes depth : ℕ) → Words → Case
unmapped x r m k p n d ws =
    record {
      text = x;
      as_tree = a_tree n d;
      as_policy = record { answer = record { refusal = r; name = m; kind = k; place = p; nodes = n; depth = d }; policy = nothing };
      rows = ws;
    }

abbrev a_skip : Text → (nodes depth : ℕ) → Words → Case
a_skip x n d ws =
    record {
      text = x;
      as_tree = a_tree n d;
      as_policy = record { answer = a_tree n d; policy = skips };
      rows = ws;
    }

cases : List Case
cases =
    unread (bytes "") 4 0
    ∷ unread (bytes "a") 4 1
    ∷ unmapped (bytes "f()") 8 1 0 0 1 1 (4 ∷ 0 ∷ 1 ∷ 0 ∷ 0 ∷ 0 ∷ 0 ∷ 1 ∷ [])
    ∷ unmapped (bytes "{}") 7 1 4 0 1 1 (3 ∷ 0 ∷ 0 ∷ 0 ∷ 0 ∷ 0 ∷ 0 ∷ 1 ∷ [])
    ∷ unmapped (bytes "default_certification()") 9 2 0 0 1 1 (4 ∷ 0 ∷ 21 ∷ 0 ∷ 0 ∷ 0 ∷ 0 ∷ 1 ∷ [])
    ∷ unread (bytes "[\"a\",]") 4 5
    ∷ unread (bytes "[\"\",\" x\"]") 4 6
    ∷ unread (bytes "[\"_\"]") 4 2
    ∷ unmapped (bytes "[\"abc  \"]") 7 1 4 0 2 1 (2 ∷ 0 ∷ 0 ∷ 0 ∷ 0 ∷ 0 ∷ 1 ∷ 2 ∷ 1 ∷ 2 ∷ 5 ∷ 0 ∷ 0 ∷ 1 ∷ 0 ∷ 2 ∷ [])
    ∷ a_skip (bytes "default_certification(ValidationArgs{no_certification:Empty{}})") 3 3
    (4 ∷ 0 ∷ 21 ∷ 0 ∷ 0 ∷ 0 ∷ 1 ∷ 3 ∷ 3 ∷ 22 ∷ 36 ∷ 0 ∷ 0 ∷ 1 ∷ 1 ∷ 3 ∷ 3 ∷ 54 ∷ 59 ∷ 37 ∷ 53 ∷ 2 ∷ 0 ∷ 3 ∷ [])
    ∷ a_skip (bytes "default_certification(ValidationArgs{no_certification:\"\"})") 3 2
    (4 ∷ 0 ∷ 21 ∷ 0 ∷ 0 ∷ 0 ∷ 1 ∷ 3 ∷ 3 ∷ 22 ∷ 36 ∷ 0 ∷ 0 ∷ 1 ∷ 1 ∷ 3 ∷ 1 ∷ 55 ∷ 55 ∷ 37 ∷ 53 ∷ 2 ∷ 0 ∷ 3 ∷ [])
    ∷ []

-- each case's two answers, and the tables, lent full of 7, that the two reads leave
cases-hold :
    (map (λ (c : Case). tree_answer 2048 c.text) cases ≡ map (λ (c : Case). c.as_tree) cases)
    × (map (λ (c : Case). policy_answer 2048 512 c.text) cases ≡ map (λ (c : Case). c.as_policy) cases)
    × (map (λ (c : Case). tree_table c.text (replicate 2048 7)) cases ≡ map (λ (c : Case). spare 2048 c.rows) cases)
    × (map (λ (c : Case). policy_nodes c.text (replicate 2048 7) (replicate 512 7)) cases ≡ map (λ (c : Case). spare 2048 c.rows) cases)
    × (map (λ (c : Case). policy_spans c.text (replicate 2048 7) (replicate 512 7)) cases ≡ map (λ (c : Case). spare 512 []) cases)
unfolding cases reading mapped
cases-hold = (refl, refl, refl, refl, refl)

-- ---- the tables

-- a text; the lengths of the node table and the span table that are lent, full of 7; the answers as a tree and as a policy; the node table that reading a
-- tree leaves, and both tables that reading a policy leaves
record Lent : Type 0 where
  text : Text
  nodes : ℕ
  spans : ℕ
  as_tree : Answer
  as_policy : Answer
  tree_nodes : Words
  policy_nodes : Words
  policy_spans : Words

-- a node table of 2,050 words with these rows; a span table of 514
abbrev long_nodes : Words → Words
long_nodes ws = spare 2048 ws ++ (7 ∷ 7 ∷ [])

abbrev long_spans : Words → Words
long_spans ws = spare 512 ws ++ (7 ∷ 7 ∷ [])

lents : List Lent
lents =
    -- “Refusal 1 leaves both tables as they were lent, even where only one is too short.”
    record {
      text = bytes "f()";
      nodes = 2047;
      spans = 514;
      as_tree = refused_at 1 0;
      as_policy = refused_at 1 0;
      tree_nodes = replicate 2047 7;
      policy_nodes = replicate 2047 7;
      policy_spans = replicate 514 7;
    }
    ∷ record {
      text = bytes "f()";
      nodes = 2050;
      spans = 511;
      as_tree = a_tree 1 1;
      as_policy = refused_at 1 0;
      tree_nodes = long_nodes (4 ∷ 0 ∷ 1 ∷ 0 ∷ 0 ∷ 0 ∷ 0 ∷ 1 ∷ []);
      policy_nodes = replicate 2050 7;
      policy_spans = replicate 511 7;
    }
    -- tables that are just long enough
    ∷ record {
      text = bytes "a";
      nodes = 2048;
      spans = 512;
      as_tree = refused_at 4 1;
      as_policy = refused_at 4 1;
      tree_nodes = replicate 2048 0;
      policy_nodes = replicate 2048 0;
      policy_spans = replicate 512 0;
    }
    -- “No word after those that count is touched.”
    ∷ record {
      text = bytes "a";
      nodes = 2050;
      spans = 514;
      as_tree = refused_at 4 1;
      as_policy = refused_at 4 1;
      tree_nodes = long_nodes [];
      policy_nodes = long_nodes [];
      policy_spans = long_spans [];
    }
    -- a second child that has children of its own
    ∷ record {
      text = bytes "f(g(),h{a:\"x\",b:[]})";
      nodes = 2050;
      spans = 514;
      as_tree = a_tree 5 3;
      as_policy = record { refusal = 8; name = 1; kind = 0; place = 0; nodes = 5; depth = 3 };
      tree_nodes = long_nodes five_rows;
      policy_nodes = long_nodes five_rows;
      policy_spans = long_spans [];
    }
    ∷ []
  where
    five_rows : Words
    five_rows =
        (4 ∷ 0 ∷ 1 ∷ 0 ∷ 0 ∷ 0 ∷ 2 ∷ 5 ∷ [])
        ++ (4 ∷ 2 ∷ 3 ∷ 0 ∷ 0 ∷ 1 ∷ 0 ∷ 2 ∷ [])
        ++ (3 ∷ 6 ∷ 7 ∷ 0 ∷ 0 ∷ 1 ∷ 2 ∷ 5 ∷ [])
        ++ (1 ∷ 11 ∷ 12 ∷ 8 ∷ 9 ∷ 3 ∷ 0 ∷ 4 ∷ [])
        ++ (2 ∷ 0 ∷ 0 ∷ 14 ∷ 15 ∷ 3 ∷ 0 ∷ 5 ∷ [])

lents-hold :
    (map (λ (c : Lent). tree_answer c.nodes c.text) lents ≡ map (λ (c : Lent). c.as_tree) lents)
    × (map (λ (c : Lent). (policy_answer c.nodes c.spans c.text).answer) lents ≡ map (λ (c : Lent). c.as_policy) lents)
    × (map (λ (c : Lent). tree_table c.text (replicate c.nodes 7)) lents ≡ map (λ (c : Lent). c.tree_nodes) lents)
    × (map (λ (c : Lent). policy_nodes c.text (replicate c.nodes 7) (replicate c.spans 7)) lents ≡ map (λ (c : Lent). c.policy_nodes) lents)
    × (map (λ (c : Lent). policy_spans c.text (replicate c.nodes 7) (replicate c.spans 7)) lents ≡ map (λ (c : Lent). c.policy_spans) lents)
unfolding lents reading mapped
lents-hold = (refl, refl, refl, refl, refl)

-- ---- at the limits of depth and nodes

strings : ℕ → Text
strings zero = []
strings (suc n) = bytes "\"\"," ++ strings n

-- 32 times `[` and 32 times `]`; 33 times each; “32 times `[`”; “`[` and 256 times `""`, with commas”
limits-hold :
    map (tree_answer 2048)
    ((replicate 32 91 ++ replicate 32 93) ∷ (replicate 33 91 ++ replicate 33 93) ∷ replicate 32 91 ∷ (bytes "[" ++ (strings 255 ++ bytes "\"\"]")) ∷ [])
    ≡ a_tree 32 32 ∷ refused_at 5 32 ∷ refused_at 4 32 ∷ refused_at 6 766 ∷ []
unfolding strings reading
limits-hold = refl

-- ---- texts on each side of a slip

-- a text, its answer as a policy, the words of its spans
record Slip : Type 0 where
  text : Text
  answer : PolicyAnswer
  spans : Words

-- the text around the entries of the object Certification, and a response part with these lists
abbrev certifying : Text → Text
certifying x = bytes "default_certification(ValidationArgs{certification:Certification{" ++ (x ++ bytes "}})")

abbrev responding : Text → Text
responding x = bytes "no_request_certification:\"\",response_certification:ResponseCertification{" ++ (x ++ bytes "}")

slips : List Slip
slips =
    -- “Of several entries with the same key, the last is the one that counts.”
    record {
      text = bytes "default_certification(ValidationArgs{no_certification:\"\",x:[],no_certification:{}})";
      answer = record { answer = a_tree 5 3; policy = skips };
      spans = [];
    }
    ∷ record {
      text =
          certifying (responding (bytes "response_header_exclusions:\"\",response_header_exclusions:ResponseHeaderList{headers:[{}],headers:[\"a\",\"bc\"]}"));
      answer = record { answer = a_tree 12 7; policy = record { form = 2; kind = 2; request_headers = 0; query_parameters = 0; response_headers = 2 } };
      spans = 237 ∷ 238 ∷ 241 ∷ 243 ∷ [];
    }
    -- an empty header list is a list, a list object without key 16 counts as absent
    ∷ record {
      text = certifying (responding (bytes "response_header_exclusions:ResponseHeaderList{},certified_response_headers:ResponseHeaderList{headers:[]}"));
      answer = record { answer = a_tree 8 6; policy = record { form = 2; kind = 1; request_headers = 0; query_parameters = 0; response_headers = 0 } };
      spans = [];
    }
    -- the second list's type comes before 15
    ∷ record {
      text = certifying (responding (bytes "certified_response_headers:ResponseHeaderList{headers:[\"a\"]},response_header_exclusions:\"\""));
      answer = record { answer = record { refusal = 7; name = 15; kind = 3; place = 8; nodes = 9; depth = 6 }; policy = nothing };
      spans = [];
    }
    ∷ record {
      text = certifying (responding (bytes "certified_response_headers:ResponseHeaderList{headers:[]},response_header_exclusions:ResponseHeaderList{headers:[]}"));
      answer = record { answer = record { refusal = 15; name = 0; kind = 0; place = 4; nodes = 9; depth = 6 }; policy = nothing };
      spans = [];
    }
    -- “The strings are numbered from 0 through the request headers, the query parameters and the response headers”, whatever their order in the text
    ∷ record {
      text =
          certifying
          (bytes "response_certification:ResponseCertification{certified_response_headers:ResponseHeaderList{headers:[\"r\"]}},"
          ++ bytes "request_certification:RequestCertification{certified_query_parameters:[\"q\"],certified_request_headers:[\"h\",\"i\"]}");
      answer = record { answer = a_tree 13 6; policy = record { form = 3; kind = 1; request_headers = 2; query_parameters = 1; response_headers = 1 } };
      spans = 276 ∷ 277 ∷ 280 ∷ 281 ∷ 244 ∷ 245 ∷ 166 ∷ 167 ∷ [];
    }
    ∷ []

slips-hold :
    (map (λ (c : Slip). policy_answer 2048 512 c.text) slips ≡ map (λ (c : Slip). c.answer) slips)
    × (map (λ (c : Slip). take 16 (policy_spans c.text (replicate 2048 7) (replicate 512 7))) slips ≡ map (λ (c : Slip). spare 16 c.spans) slips)
unfolding slips reading mapped
slips-hold = (refl, refl)

-- ---- the mapping's refusals

-- a text that is mapped to no policy, and its answer
record Unmapped : Type 0 where
  text : Text
  answer : Answer

abbrev refused_as : Text → (refusal name kind place nodes depth : ℕ) → Unmapped
refused_as x r m k p n d = record { text = x; answer = record { refusal = r; name = m; kind = k; place = p; nodes = n; depth = d } }

refusals : List Unmapped
refusals =
    refused_as (bytes "default_certification(ValidationArgs{certification:Certification{},no_certification:\"\"})") 11 0 0 1 4 3
    ∷ refused_as (bytes "default_certification(ValidationArgs{})") 12 0 0 1 2 2
    ∷ refused_as (certifying (bytes "request_certification:\"\",no_request_certification:\"\"")) 13 0 0 2 5 3
    ∷ refused_as (certifying (bytes "")) 14 0 0 2 3 3
    ∷ refused_as (certifying (responding (bytes ""))) 16 0 0 4 5 4
    -- 10 and the property, at the object's node
    ∷ refused_as (certifying (bytes "request_certification:RequestCertification{}")) 10 9 0 3 4 4
    ∷ refused_as (certifying (bytes "request_certification:RequestCertification{certified_request_headers:[]}")) 10 10 0 3 5 5
    ∷ refused_as (certifying (bytes "no_request_certification:\"\"")) 10 11 0 2 4 3
    -- “A node that is no array is refused with 7 and kind 2. Of the elements, the first that is no string is refused with 7 and kind 1.”
    ∷ refused_as (certifying (bytes "request_certification:RequestCertification{certified_request_headers:\"\"}")) 7 9 2 4 5 4
    ∷ refused_as (certifying (responding (bytes "certified_response_headers:ResponseHeaderList{headers:[\"a\",{}]}"))) 7 13 1 8 9 7
    ∷ []

refusals-hold :
    map (λ (c : Unmapped). policy_answer 2048 512 c.text) refusals ≡ map (λ (c : Unmapped). record { answer = c.answer; policy = nothing }) refusals
unfolding refusals reading mapped
refusals-hold = refl

-- ---- policies to print

-- the numbers asked for, the span table, the room in the output; the answer and what is written
record Asking : Type 0 where
  numbers : Counted
  spans : Words
  room : ℕ
  answer : PrintAnswer
  writes : Text

-- the text that the spans point into
abbrev letters : Text
letters = bytes "abc_def"

abbrev asked : Counted
asked = record { form = 3; kind = 2; request_headers = 2; query_parameters = 0; response_headers = 1 }

abbrev refusing : (refusal place : ℕ) → PrintAnswer
refusing r p = record { refusal = r; name = 0; kind = 0; place = p; length = 0 }

askings : List Asking
askings =
    record {
      numbers = asked;
      spans = 0 ∷ 2 ∷ 1 ∷ 1 ∷ 4 ∷ 7 ∷ [];
      room = 290;
      answer = record { refusal = 0; name = 0; kind = 0; place = 0; length = 286 };
      writes =
          certifying
          (bytes "request_certification:RequestCertification{certified_request_headers:[\"ab\",\"\"],certified_query_parameters:[]},"
          ++ bytes "response_certification:ResponseCertification{response_header_exclusions:ResponseHeaderList{headers:[\"def\"]}}");
    }
    ∷ record { numbers = asked; spans = 0 ∷ 2 ∷ 1 ∷ 1 ∷ 4 ∷ 7 ∷ []; room = 285; answer = refusing 24 0; writes = [] }
    ∷ record { numbers = asked; spans = 0 ∷ 4 ∷ 3 ∷ 4 ∷ 4 ∷ 7 ∷ []; room = 0; answer = refusing 22 0; writes = [] }
    ∷ record { numbers = asked; spans = 3 ∷ 4 ∷ 2 ∷ 1 ∷ 4 ∷ 9 ∷ []; room = 0; answer = refusing 21 1; writes = [] }
    ∷ record { numbers = asked; spans = 3 ∷ 4 ∷ 1 ∷ 2 ∷ 4 ∷ []; room = 0; answer = refusing 21 2; writes = [] }
    ∷ record {
      numbers = record { form = 3; kind = 2; request_headers = 4294967295; query_parameters = 1; response_headers = 1 };
      spans = [];
      room = 0;
      answer = refusing 20 0;
      writes = [];
    }
    ∷ []

askings-hold :
    (map (λ (c : Asking). print_answer string_byte c.numbers c.spans letters c.room) askings ≡ map (λ (c : Asking). c.answer) askings)
    × (map (λ (c : Asking). print_output string_byte c.numbers c.spans letters (replicate c.room 7)) askings
    ≡ map (λ (c : Asking). c.writes ++ replicate (c.room - length c.writes) 7) askings)
unfolding askings reading printing
askings-hold = (refl, refl)

-- ---- the host's number

-- a text, the room in the output; the number, and what is written
record Number : Type 0 where
  text : Text
  room : ℕ
  number : ℕ
  writes : Text

abbrev skipping : Text
skipping = bytes "default_certification(ValidationArgs{no_certification:Empty{}})"

-- “It answers the printed text's length, or the refusal's number plus 65,536.”
numbers : List Number
numbers =
    record { text = bytes "f()"; room = 9; number = 65544; writes = [] }
    ∷ record { text = bytes ""; room = 9; number = 65540; writes = [] }
    ∷ record { text = bytes "default_certification ( ValidationArgs { no_certification : \"\" , } )"; room = 64; number = 65540; writes = [] }
    ∷ record { text = bytes "default_certification ( ValidationArgs { no_certification : \"\" } )"; room = 64; number = 63; writes = skipping }
    ∷ record { text = skipping; room = 63; number = 63; writes = skipping }
    ∷ record { text = skipping; room = 62; number = 65560; writes = [] }
    ∷ []

numbers-hold :
    (map (λ (c : Number). canonical_answer c.text c.room) numbers ≡ map (λ (c : Number). c.number) numbers)
    × (map (λ (c : Number). canonical_output c.text (replicate c.room 7)) numbers
    ≡ map (λ (c : Number). c.writes ++ replicate (c.room - length c.writes) 7) numbers)
unfolding numbers reading mapped printing
numbers-hold = (refl, refl)
