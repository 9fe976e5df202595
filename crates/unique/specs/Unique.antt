-- What is said of each public function, over its own contract and not over a copy. Assumes nothing.
use Rattle.std.specs.Prelude.{◌≡◌, ℕ, List}
use contract.Lifetimes.{Lfts}
use denote.Triple.Clauses.{Lasts, at_exit}
use borrow.Fn.Kinds.{ParamKind, ResultKind, In, Out, Dens, res_t, ended_of}

-- For all arguments a: where r and s are answers, and v and w all that is left in what was lent, and both meet the contract, r is s and v is w.
-- Of a `&mut` its last value is left, of any other argument nothing.
abbrev pub Unique : {n : ℕ} (parameters : List (ParamKind n)) (result : ResultKind n) → Out n parameters result → Type 0
Unique {n} parameters result Post =
    (κs : Lfts n) (a : Dens κs parameters) (r s : (res_t result κs).Denot) (v w : Lasts (ended_of n parameters result) κs a)
    → Post κs a r (at_exit (ended_of n parameters result) κs a v) → Post κs a s (at_exit (ended_of n parameters result) κs a w)
    → (r ≡ s) × (v ≡ w)

-- what a function's `requires` clauses ask holds of all arguments
abbrev pub AsksNothing : {n : ℕ} (parameters : List (ParamKind n)) → In n parameters → Type 0
AsksNothing {n} parameters Asked = (κs : Lfts n) (a : Dens κs parameters) → Asked κs a

-- the three, where `Says` is what is said of the arguments, the answer and what is left
pub record Kept {n : ℕ} (parameters : List (ParamKind n)) (result : ResultKind n) (Asked : In n parameters) (Post : Out n parameters result)
    (Says : (κs : Lfts n) (a : Dens κs parameters) → (res_t result κs).Denot → Lasts (ended_of n parameters result) κs a → Type 0) : Type 0 where
  pub one : Unique parameters result Post
  pub asks : AsksNothing parameters Asked
  pub says : (κs : Lfts n) (a : Dens κs parameters) (r : (res_t result κs).Denot) (v : Lasts (ended_of n parameters result) κs a)
      → Post κs a r (at_exit (ended_of n parameters result) κs a v) → Says κs a r v
