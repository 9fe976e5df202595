-- What is held of standard input, and how it goes on from turn to turn. Assumes nothing.
use Rattle.std.specs.Prelude.{◌≡◌, ℕ, ◌+◌, ◌-◌, ◌≤◌, ◌<◌, Bool, true, false, List, [], ◌++◌, length, take, drop, eqb, Option, Some, None}
use Rattle.std.specs.declared.io.Error.{Error}
use Rattle.cel_text.specs.Byte.{Text}
use Rattle.recording.specs.declared.State.{State}
use Rattle.recording.specs.declared.Why.{Why}
use Rattle.recording.specs.declared.Why.TheVariants.{Wanting, Full, Over}
use Rattle.recording.specs.declared.Turn.{Turn}
use Rattle.recording.specs.Turn.{beginning, Runs}
use Rattle.replay.specs.declared.window.Held.{Held}

-- the bytes held lie within the buffer
pub record Inside (input : Text) (h : Held) : Type 0 where
  pub ordered : h.at ≤ h.end
  pub room : h.end ≤ length input

-- which bytes they are
abbrev pub window_of : Text → Held → Text
window_of input h = take (h.end - h.at) (drop h.at input)

-- what one read brings: the input has ended where it brings nothing; one that fails brings nothing either, and is no end
abbrev pub Brought : (failed : Option Error) → (piece : Text) → (ended : Bool) → Type 0
Brought None piece ended = ended ≡ eqb (length piece) 0
Brought (Some e) piece ended = (piece ≡ []) × (ended ≡ false)

-- behind the bytes that were left stands the piece that was read
pub record Reads (rest window : Text) (ended : Bool) (failed : Option Error) : Type 0 where
  pub piece : Text
  pub read : window ≡ rest ++ piece
  pub brought : Brought failed piece ended

-- one read behind the first `kept` bytes of the buffer
pub record Read (kept : ℕ) (input input' : Text) (r : Held) : Type 0 where
  pub inside : Inside input' r
  pub reads : Reads (take kept input) (window_of input' r) r.ended r.failed

-- what a turn's reason to stop asks for
abbrev pub Next : Why → (rest : Text) (ended : Bool) (window : Text) (ended' : Bool) (failed : Option Error) → Type 0
Next Wanting rest ended window ended' failed = Reads rest window ended' failed
Next Full rest ended window ended' failed = (window ≡ rest) × (ended' ≡ ended)
Next Over rest ended window ended' failed = (window ≡ rest) × (ended' ≡ ended)

-- what is held after a turn
pub record Follows (input : Text) (h : Held) (turn : Turn) (input' : Text) (r : Held) : Type 0 where
  pub inside : Inside input' r
  pub next : Next turn.why (drop turn.used (window_of input h)) h.ended (window_of input' r) r.ended r.failed

-- that is asked for it: the turn used no more than was held, and leaves room to read where it wants bytes
pub record Asks (input : Text) (h : Held) (turn : Turn) : Type 0 where
  pub inside : Inside input h
  pub used : h.at + turn.used ≤ h.end
  pub room : turn.why ≡ Wanting → h.end - (h.at + turn.used) < length input

-- where a run stands: with the pieces read so far before its own, and what was written so far before what it writes, each run that goes on from here is a
-- run from the beginning
pub record Leads (s : State) (window : Text) (ended : Bool) : Type 0 where
  pub read : List Text
  pub wrote : Text
  pub leads : (cs : List Text) (o : Text) → (ended ≡ true → cs ≡ []) → Runs s window ended cs o → Runs beginning [] false (read ++ cs) (wrote ++ o)
