-- What the functions that make a turn say to one another. Assumes nothing.
use Rattle.std.specs.Prelude.{◌≡◌, ℕ, suc, ◌+◌, ◌≤◌, Bool, length}
use Rattle.cel_text.specs.Byte.{Text}
use Rattle.pieces.specs.Pieces.{Wrote}
use Rattle.recording.specs.declared.reply.Reply.{Reply}
use Rattle.recording.specs.declared.State.{State}
use Rattle.recording.specs.declared.Why.{Why}
use Rattle.recording.specs.declared.Why.TheVariants.{Full}
use Rattle.recording.specs.declared.Turn.{Turn}
use Rattle.recording.specs.declared.window.Event.{Event}
use Rattle.recording.specs.Replay.{line}
use Rattle.recording.specs.Window.{event, says, takes, becomes, goes, with_reply}
use Rattle.recording.specs.Turn.{Turned, begun, turn_from, turn_of, max_count}

-- `more` bytes, each of them a record, can still be counted
pub record Counts (state : State) (from more : ℕ) : Type 0 where
  pub count : state.count + more ≤ max_count
  pub refused : state.refused + more ≤ max_count
  pub used : from + more ≤ max_count

-- a turn that has come so far, where so many bytes are written
abbrev pub turn_at : State → (used written : ℕ) → Why → Turn
turn_at s used written why = record { state = s; used = used; written = written; why = why }

-- after a record's line
pub record Answered (t : Turn) (to : ℕ) (reply : Reply) (out out' : Text) (r : Turn) : Type 0 where
  pub turn : r ≡ turn_at (with_reply t.state reply) (t.used + to) r.written Full
  pub wrote : Wrote out out' t.written r.written (line t.state.count reply)

-- after the event e of the bytes w
pub record After (t : Turn) (w : Text) (e : Event) (out out' : Text) (r : Turn) : Type 0 where
  pub turn : r ≡ turn_at (becomes t.state w e) (t.used + takes e) r.written (goes e)
  pub wrote : Wrote out out' t.written r.written (says t.state w e)

abbrev pub Stepped : (t : Turn) (rest : Text) (ended : Bool) (out out' : Text) (r : Turn) → Type 0
Stepped t rest ended out out' r = After t rest (event t.state.skip rest ended) out out' r

-- all the steps
abbrev pub turns : State → Text → Bool → (room : ℕ) → Turned
turns s held ended room = turn_from (suc (length held)) held ended room (begun s)

pub record Drained (s : State) (held : Text) (ended : Bool) (out out' : Text) (r : Turn) : Type 0 where
  pub turn : r ≡ turn_of (turns s held ended (length out))
  pub wrote : Wrote out out' 0 r.written (turns s held ended (length out)).wrote
