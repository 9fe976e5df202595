-- What keeps a program over lines within its buffer. Assumes nothing.
use Rattle.std.specs.Prelude.{◌≡◌, ℕ, ◌-◌, ◌≤◌, cond, List, ◌++◌, length, take, drop, leb, Option, None, IfSome}
use Rattle.lines.specs.declared.input.Line.{Line}

-- before the first line
abbrev pub nothing : Option Line
nothing = None

-- a line's ends, among the bytes held, in a buffer of this length
pub record Inside (line : Line) (long : ℕ) : Type 0 where
  pub ordered : line.from ≤ line.to
  pub inside : line.to ≤ line.held
  pub room : line.held ≤ long

-- a buffer with its bytes from one place up to another at its front; as it is where it does not have them
abbrev pub brought_front : (buffer : List ℕ) (from to : ℕ) → List ℕ
brought_front buffer from to = cond (leb to (length buffer)) (take (to - from) (drop from buffer) ++ drop (to - from) buffer) buffer

pub nothing-inside : (line : Option Line) (long : ℕ) → line ≡ nothing → IfSome line (λ l. Inside l long)
nothing-inside line long e = rw e tt
