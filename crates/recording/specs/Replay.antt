-- What a recording replays as, from its bytes to those of the output. Assumes nothing.
use Rattle.std.specs.Prelude.{ℕ, zero, suc, Bool, true, false, cond, List, [], ◌∷◌, ◌++◌, length, take, drop, ltb, eqb, Result, Ok, Err}
use Rattle.cel_text.specs.Byte.{Text, bytes, ◌⧺◌}
use Rattle.cel_text.specs.Table.{node_words}
use Rattle.cel_policy.specs.Policy.{no_form, skip, response_only}
use Rattle.cel_policy.specs.Spans.{span_words}
use Rattle.cel_policy.specs.Answers.{PolicyAnswer, policy_answer}
use Rattle.lines.specs.Texts.{numeral}
use Rattle.groups.specs.declared.Number.{Number}
use Rattle.groups.specs.declared.Fault.{Fault}
use Rattle.groups.specs.Groups.{number}
use Rattle.recording.specs.declared.Ending.{Ending}
use Rattle.recording.specs.declared.Ending.TheVariants.{Complete, BrokenLength, BrokenBody}
use Rattle.recording.specs.declared.reply.Reply.{Reply}

-- ---- the records

-- the bodies of the whole records, in their order, and how the recording ends
pub record Recording : Type 0 where
  pub bodies : List Text
  pub ending : Ending

abbrev pub ends : Ending → Recording
ends e = record { bodies = []; ending = e }

abbrev pub first : Text → Recording → Recording
first t r = record { bodies = t ∷ r.bodies; ending = r.ending }

-- “A record is a length and then that many bytes, its body.” “A body is broken where fewer bytes follow than the length says.”
abbrev pub body_then : (Text → Recording) → (n : ℕ) → Text → (short : Bool) → Recording
body_then after n x true = ends BrokenBody
body_then after n x false = first (take n x) (after (drop n x))

-- “A length is broken where it is cut short, not in its shortest form, or has more than three groups.”
abbrev pub record_then : (Text → Recording) → Text → Result Number Fault → Recording
record_then after x (Ok n) = body_then after n.value (drop n.size x) (ltb (length (drop n.size x)) n.value)
record_then after x (Err fault) = ends BrokenLength

-- “A recording is a list of records, one after the other.” No byte, or a record and what comes after it
abbrev pub record_or : (Text → Recording) → Text → Recording
record_or after [] = ends Complete
record_or after (b ∷ x) = record_then after (b ∷ x) (number (b ∷ x))

-- of at most `most` records
abbrev pub records_in : (most : ℕ) → Text → Recording
records_in zero x = ends Complete
records_in (suc most) x = record_or (λ (y : Text). records_in most y) x

-- a record has a byte at least
unfoldable pub records : Text → Recording
records x = records_in (length x) x

-- ---- the lines

-- “The first line is the heading, `record answer kind nodes depth`.”
abbrev pub heading : Text
heading = bytes "record answer kind nodes depth\n"

-- “The word is `none`, `skip`, `response` or `full`.”
abbrev pub form_word : ℕ → Text
form_word form = cond (eqb form no_form) (bytes "none") (cond (eqb form skip) (bytes "skip") (cond (eqb form response_only) (bytes "response") (bytes "full")))

-- a field after a space
abbrev pub number_field : ℕ → Text
number_field n = bytes " " ⧺ numeral n

abbrev pub form_field : ℕ → Text
form_field form = bytes " " ⧺ form_word form

-- “Each record has a line of five fields with a space between two: its number, counted from 0; the refusal that reading its body as a policy gives, or 0; the
-- policy's form as a word; the nodes; the depth.”
unfoldable pub line : (number : ℕ) → Reply → Text
line i r = numeral i ⧺ number_field r.answer ⧺ form_field r.form ⧺ number_field r.nodes ⧺ number_field r.depth ⧺ bytes "\n"

abbrev pub reply_of : PolicyAnswer → Reply
reply_of a = record { answer = a.answer.refusal; form = a.policy.form; nodes = a.answer.nodes; depth = a.answer.depth }

-- w and v are the lengths of the tables that reading is lent
abbrev pub reply_over : (w v : ℕ) → Text → Reply
reply_over w v t = reply_of (policy_answer w v t)

unfoldable pub reply_to : Text → Reply
reply_to t = reply_over node_words span_words t

-- “A body of more than 8,192 bytes is not looked at: its answer is 2, its word `none`, its nodes and its depth 0.”
abbrev pub too_long : Reply
too_long = record { answer = 2; form = 0; nodes = 0; depth = 0 }

-- “The last line says how many records there were and how many of them had another answer than 0, as in `2 records 1 refused`.” “Where a length or a body is
-- broken the last line is `broken length` or `broken body` instead, and nothing after it is looked at.”
unfoldable pub last_line : (count refused : ℕ) → Ending → Text
last_line i r Complete = numeral i ⧺ bytes " records " ⧺ numeral r ⧺ bytes " refused\n"
last_line i r BrokenLength = bytes "broken length\n"
last_line i r BrokenBody = bytes "broken body\n"

abbrev pub refusals : (refused : ℕ) → Reply → ℕ
refusals n r = cond (eqb r.answer 0) n (suc n)

-- after `count` records, of which some were refused
abbrev pub lines_from : (count refused : ℕ) → List Text → Ending → Text
lines_from i r [] e = last_line i r e
lines_from i r (t ∷ more) e = line i (reply_to t) ++ lines_from (suc i) (refusals r (reply_to t)) more e

abbrev pub lines_of : (count refused : ℕ) → Recording → Text
lines_of i r x = lines_from i r x.bodies x.ending

-- the whole output for a whole recording
unfoldable pub replayed : Text → Text
replayed x = heading ++ lines_of 0 0 (records x)
