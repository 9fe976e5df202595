-- What judging and printing answer, in the terms of `cel_policy`. Assumes nothing.
use Rattle.std.specs.Prelude.{ℕ, Result, Ok, Err}
use Rattle.cel_policy.specs.Printed.{printed}
use Rattle.cel_policy.specs.Answers.{Judgement, clean, faulty, Printing, unprinted, sized, PrintAnswer}
use Rattle.create_cel_expr.specs.declared.refusal.Refusal.{Refusal}
use Rattle.create_cel_expr.specs.declared.refusal.Refusal.TheVariants.{WrongShape, SpanOutside, NoStringByte, TooLong, OutputTooShort}
use Rattle.create_cel_expr.specs.declared.checked.Checked.{Checked}
use Rattle.create_cel_expr.specs.Given.{policy_of}

abbrev pub number_of : Refusal → ℕ
number_of WrongShape = 20
number_of (SpanOutside i) = 21
number_of (NoStringByte i) = 22
number_of TooLong = 23
number_of OutputTooShort = 24

-- the string that it names
abbrev pub place_of : Refusal → ℕ
place_of WrongShape = 0
place_of (SpanOutside i) = i
place_of (NoStringByte i) = i
place_of TooLong = 0
place_of OutputTooShort = 0

abbrev pub judged_as : {A : Type 0} → Result A Refusal → Judgement
judged_as (Ok a) = clean
judged_as (Err e) = faulty (number_of e) (place_of e)

abbrev pub printed_as : Result ℕ Refusal → PrintAnswer
printed_as (Ok n) = record { refusal = 0; name = 0; kind = 0; place = 0; length = n }
printed_as (Err e) = record { refusal = number_of e; name = 0; kind = 0; place = place_of e; length = 0 }

-- what is printed where judging has answered j, into an output of `room` bytes
abbrev pub printing : Result Checked Refusal → (room : ℕ) → Printing
printing (Ok c) room = sized (printed (policy_of c)) room
printing (Err e) room = unprinted (number_of e) (place_of e)
