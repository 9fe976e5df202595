-- Kinds as the rows number them; and what opens a value, with the kind of a container. Assumes nothing.
use Rattle.std.specs.Prelude.{ℕ, Bool, cond, ◌==◌, Option, Some, None}
use Rattle.cel_text.specs.Byte.{quote}
use Rattle.cel_text.specs.Tree.{Kind, array, object, function, opener}
use Rattle.cel_text.specs.Reading.{Stack, Step, State, refuse, syntax, quoted, begun, fresh, enter, enter_string, limits}
use Rattle.cel_text.specs.Table.{kind_number}
use Rattle.parser.specs.Set.{string_set}
use Rattle.parser.specs.declared.value.Kind.{Kind as Told}
use Rattle.parser.specs.declared.value.Kind.TheVariants.{Array, Object, Function}
use Rattle.parser.specs.declared.value.Opener.{Opener}
use Rattle.parser.specs.declared.value.Opener.TheVariants.{Quote, Container}

abbrev pub kind_of : ℕ → Kind
kind_of k = cond (k == kind_number array) array (cond (k == kind_number object) object function)

-- the program's kinds as the definitions'
abbrev pub kind_told : Told → Kind
kind_told Array = array
kind_told Object = object
kind_told Function = function

-- what the byte b opens, after an identifier that is empty or not
abbrev pub opener_kind : (empty : Bool) → (b : ℕ) → Option Opener
opener_kind empty b =
    cond (b == opener object) (Some (Container Object))
    (cond (b == opener function) (Some (Container Function))
    (cond (b == opener array) (cond empty (Some (Container Array)) None)
    (cond (b == quote) (cond empty (Some Quote) None) None)))

-- an end of the name that a value's row shows: an array's row shows none
abbrev pub shown : Opener → (end : ℕ) → ℕ
shown Quote p = p
shown (Container Array) p = 0
shown (Container Object) p = p
shown (Container Function) p = p

-- the step that an opener makes at place p, and the state that it leads to
abbrev pub opens : Option Opener → Stack → (from to p : ℕ) → Step
opens None K from to p = refuse syntax
opens (Some Quote) K from to p = enter_string string_set limits K p
opens (Some (Container kind)) K from to p = enter string_set limits (kind_told kind) K from to p

abbrev pub open_state : Opener → Stack → (from to p : ℕ) → State
open_state Quote K from to p = quoted K p
open_state (Container kind) K from to p = begun K (fresh (kind_told kind) p from to)
