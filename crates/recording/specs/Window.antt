-- A recording through a window: what the bytes held so far tell, and what is then still to be written. Assumes nothing.
use Rattle.std.specs.Prelude.{ℕ, suc, ◌+◌, ◌-◌, Bool, true, false, cond, [], ◌++◌, length, take, drop, ltb, eqb, Result, Ok, Err}
use Rattle.cel_text.specs.Byte.{Text}
use Rattle.cel_text.specs.Answer.{max_text}
use Rattle.groups.specs.declared.Number.{Number}
use Rattle.groups.specs.declared.Fault.{Fault}
use Rattle.groups.specs.declared.Fault.TheVariants.{Cut, Padded, TooMany}
use Rattle.groups.specs.Groups.{number}
use Rattle.recording.specs.declared.Ending.TheVariants.{Complete, BrokenLength, BrokenBody}
use Rattle.recording.specs.declared.reply.Reply.{Reply}
use Rattle.recording.specs.declared.State.{State}
use Rattle.recording.specs.declared.Why.{Why}
use Rattle.recording.specs.declared.Why.TheVariants.{Wanting as Wants, Full as GoesOn, Over}
use Rattle.recording.specs.declared.window.Event.{Event}
use Rattle.recording.specs.declared.window.Event.TheVariants.{Body, Skipping, Skipped, Wanting, Last}
use Rattle.recording.specs.Replay.{records, line, last_line, reply_to, too_long, refusals, lines_of}

-- ---- events

-- more bytes are wanted, unless there are none to come
abbrev pub unless : (ended : Bool) → Event → Event
unless ended e = cond ended e Wanting

-- after a length of n that took `size` of the bytes held
abbrev pub body_event : (n size held : ℕ) → (ended : Bool) → Event
body_event n size held ended =
    cond (ltb max_text n) (Skipping size n) (cond (ltb held (size + n)) (unless ended (Last BrokenBody)) (Body size (size + n)))

abbrev pub length_event : (held : ℕ) → (ended : Bool) → Result Number Fault → Event
length_event held ended (Ok n) = body_event n.value n.size held ended
length_event held ended (Err Cut) = unless ended (cond (eqb held 0) (Last Complete) (Last BrokenLength))
length_event held ended (Err Padded) = Last BrokenLength
length_event held ended (Err TooMany) = Last BrokenLength

-- inside a long record, of which `skip` bytes are still to come
abbrev pub skip_event : (skip held : ℕ) → (ended : Bool) → Event
skip_event skip held ended =
    cond (ltb held skip) (cond ended (Last BrokenBody) (cond (eqb held 0) Wanting (Skipping held (skip - held)))) (Skipped skip)

unfoldable pub event : (skip : ℕ) → Text → (ended : Bool) → Event
event skip w ended = cond (eqb skip 0) (length_event (length w) ended (number w)) (skip_event skip (length w) ended)

-- ---- what an event of the bytes w brings

-- the bytes from one place up to another
abbrev pub part : (from to : ℕ) → Text → Text
part from to w = take (to - from) (drop from w)

-- what is written for it
abbrev pub says : State → Text → Event → Text
says s w (Body from to) = line s.count (reply_to (part from to w))
says s w (Skipping to left) = []
says s w (Skipped to) = line s.count too_long
says s w Wanting = []
says s w (Last e) = last_line s.count s.refused e

-- how many of the bytes it uses
abbrev pub takes : Event → ℕ
takes (Body from to) = to
takes (Skipping to left) = to
takes (Skipped to) = to
takes Wanting = 0
takes (Last e) = 0

-- where the run stands then
abbrev pub with_reply : State → Reply → State
with_reply s r = record { count = suc s.count; refused = refusals s.refused r; skip = 0 }

abbrev pub skipping_on : State → (left : ℕ) → State
skipping_on s left = record { count = s.count; refused = s.refused; skip = left }

abbrev pub becomes : State → Text → Event → State
becomes s w (Body from to) = with_reply s (reply_to (part from to w))
becomes s w (Skipping to left) = skipping_on s left
becomes s w (Skipped to) = with_reply s too_long
becomes s w Wanting = s
becomes s w (Last e) = s

-- whether it goes on
abbrev pub goes : Event → Why
goes (Body from to) = GoesOn
goes (Skipping to left) = GoesOn
goes (Skipped to) = GoesOn
goes Wanting = Wants
goes (Last e) = Over

-- ---- what is still to be written in a state, for the bytes to come

abbrev pub owed_past : (count refused skip : ℕ) → Text → (short : Bool) → Text
owed_past i r k x true = last_line i r BrokenBody
owed_past i r k x false = line i too_long ++ lines_of (suc i) (suc r) (records (drop k x))

abbrev pub owed : State → Text → Text
owed s x =
    cond (eqb s.skip 0) (lines_of s.count s.refused (records x))
    (owed_past s.count s.refused s.skip x (ltb (length x) s.skip))

-- nothing, once it is over
abbrev pub owed_as : Why → State → Text → Text
owed_as Wants s x = owed s x
owed_as GoesOn s x = owed s x
owed_as Over s x = []
