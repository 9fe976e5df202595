-- A turn over the bytes held, as `advance` makes one, and a run of turns with reads between them. Assumes nothing.
use Rattle.std.specs.Prelude.{◌≡◌, ℕ, zero, suc, ◌+◌, ◌-◌, Bool, true, false, cond, ◌&&◌, List, [], ◌∷◌, ◌++◌, length, drop, leb}
use Rattle.cel_text.specs.Byte.{Text}
use Rattle.recording.specs.declared.State.{State}
use Rattle.recording.specs.declared.Why.{Why}
use Rattle.recording.specs.declared.Why.TheVariants.{Wanting, Full, Over}
use Rattle.recording.specs.declared.Turn.{Turn}
use Rattle.recording.specs.declared.window.Event.{Event}
use Rattle.recording.specs.Window.{event, says, takes, becomes, goes}

-- before the first record
abbrev pub beginning : State
beginning = record { count = 0; refused = 0; skip = 0 }

-- a turn so far: where the run stands, how many of the bytes held are used, what was written, and why it stopped; `Full` is that of one that goes on
-- where there is room
pub record Turned : Type 0 where
  pub state : State
  pub used : ℕ
  pub wrote : Text
  pub why : Why

abbrev pub begun : State → Turned
begun s = record { state = s; used = 0; wrote = []; why = Full }

-- one event, of the bytes w not yet used
abbrev pub after : Turned → Text → Event → Turned
after t w e = record { state = becomes t.state w e; used = t.used + takes e; wrote = t.wrote ++ says t.state w e; why = goes e }

unfoldable pub stepped : Turned → (held : Text) → (ended : Bool) → Turned
stepped t held ended = after t (drop t.used held) (event t.state.skip (drop t.used held) ended)

-- room for any line
abbrev pub line_room : ℕ
line_room = 64

-- a step more only where the turn goes on
abbrev pub onward : (Turned → Turned) → Turned → Why → Turned
onward next t Wanting = t
onward next t Full = next t
onward next t Over = t

-- at most `most` steps, each of them only where there is room for a line
abbrev pub turn_from : (most : ℕ) → (held : Text) → (ended : Bool) → (room : ℕ) → Turned → Turned
turn_from zero held ended room t = t
turn_from (suc most) held ended room t =
    cond (leb line_room (room - length t.wrote))
    (onward (λ (u : Turned). turn_from most held ended room u) (stepped t held ended) (stepped t held ended).why)
    t

-- all that can be counted in 64 bits
abbrev pub max_count : ℕ
max_count = 18446744073709551615

abbrev pub countable : State → (held : ℕ) → Bool
countable s held = leb (s.count + held) max_count && leb (s.refused + held) max_count

-- a step uses a byte of those held, or is the last
unfoldable pub turned : State → (held : Text) → (ended : Bool) → (room : ℕ) → Turned
turned s held ended room =
    cond (countable s (length held)) (turn_from (suc (length held)) held ended room (begun s))
    (record { state = s; used = 0; wrote = []; why = Over })

-- the same in a turn's numbers
abbrev pub turn_of : Turned → Turn
turn_of t = record { state = t.state; used = t.used; written = length t.wrote; why = t.why }

-- ---- a run

-- Turns, each with some room, and reads: from a state, with bytes held, the pieces that are still to be read, and what is written from there on. A turn that
-- is over is the last. After a full one its output is written, and the next begins behind the bytes used. One that wants bytes gets the next piece behind
-- those that it left, or is told that the input has ended.
pub data Runs : State → (held : Text) → (ended : Bool) → (pieces : List Text) → (wrote : Text) → Type 0 where
  over :
      {s : State} {w o : Text} {ended : Bool} {cs : List Text} (room : ℕ) → (turned s w ended room).why ≡ Over
      → o ≡ (turned s w ended room).wrote → Runs s w ended cs o
  full :
      {s : State} {w o p : Text} {ended : Bool} {cs : List Text} (room : ℕ) → (turned s w ended room).why ≡ Full
      → Runs (turned s w ended room).state (drop (turned s w ended room).used w) ended cs p
      → o ≡ (turned s w ended room).wrote ++ p → Runs s w ended cs o
  reads :
      {s : State} {w c o p : Text} {cs : List Text} (room : ℕ) → (turned s w false room).why ≡ Wanting
      → Runs (turned s w false room).state (drop (turned s w false room).used w ++ c) false cs p
      → o ≡ (turned s w false room).wrote ++ p → Runs s w false (c ∷ cs) o
  ends :
      {s : State} {w o p : Text} (room : ℕ) → (turned s w false room).why ≡ Wanting
      → Runs (turned s w false room).state (drop (turned s w false room).used w) true [] p
      → o ≡ (turned s w false room).wrote ++ p → Runs s w false [] o
