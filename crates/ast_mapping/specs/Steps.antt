-- What the steps of the mapping answer, in the terms of `cel_policy`. Assumes nothing.
use Rattle.std.specs.Prelude.{◌≡◌, ℕ, ◌<◌, cond, List, [], eqb, leb, ltb, Option, Some, None, Result, Ok, Err, MatchResult, MatchOption}
use Rattle.std.proofs.Math.Option.{Option as Maybe, none, some}
use Rattle.cel_text.specs.Tree.{Kind, array, object, function}
use Rattle.cel_text.specs.Reading.{max_nodes}
use Rattle.cel_text.specs.Table.{Words, kind_number}
use Rattle.cel_policy.specs.Names.{default_certification, certified_request_headers, certified_query_parameters, certified_response_headers, response_header_exclusions}
use Rattle.cel_policy.specs.Policy.{Span, Policy, response_only, full, inclusions, exclusions}
use Rattle.cel_policy.specs.Mapping.{Node, Refusal, Mapped, good, bad, Request, Only, first, second, Typed, typed, lookup, string_array, list_at, skipped}
use Rattle.parser.specs.declared.Node.{Node as Numbered}
use Rattle.ast_mapping.specs.View.{node_at, children, typed_at, strings_of, Tabled}
use Rattle.ast_mapping.specs.declared.tree.TreeNode.{TreeNode}
use Rattle.ast_mapping.specs.declared.mapping.Refusal.{Refusal as Told}
use Rattle.ast_mapping.specs.declared.mapping.Only.{Only as Which}
use Rattle.ast_mapping.specs.declared.mapping.Only.TheVariants.{First, Second}
use Rattle.ast_mapping.specs.declared.mapping.Request.{Request as Asked}
use Rattle.ast_mapping.specs.declared.mapping.Response.{Response}
use Rattle.ast_mapping.specs.declared.mapping.ListKind.{ListKind}
use Rattle.ast_mapping.specs.declared.mapping.ListKind.TheVariants.{Inclusions, Exclusions}
use Rattle.ast_mapping.specs.declared.mapping.Mapped.{Mapped as Told-policy}
use Rattle.ast_mapping.specs.declared.mapping.Mapped.TheVariants.{Skip, ResponseOnly, Full}

-- ---- nodes

-- the node that is read back
abbrev pub node_of : TreeNode → Node Span
node_of e = node_at e.table.now e.text.now e.number.0

abbrev pub typed_of : TreeNode → Typed Span
typed_of e = typed_at e.table.now e.text.now e.number.0

-- what was found, where f says what it stands for
abbrev pub found_as : {A B : Type 0} → (A → B) → Option A → Maybe B
found_as f (Some a) = some (f a)
found_as f None = none

-- P of what was found
abbrev pub FoundIf : {A : Type 0} → (A → Type 0) → Option A → Type 0
FoundIf P r = MatchOption r (Unit {0}) P

-- the same table
abbrev pub With : Words → TreeNode → Type 0
With w m = m.table.now ≡ w

pub record Looked (e : TreeNode) (name : ℕ) (r : Option TreeNode) : Type 0 where
  pub found : found_as node_of r ≡ lookup name (children (node_of e))
  pub same : FoundIf (With e.table.now) r

-- ---- refusals

-- the kind that a name expects: the root a function, the four lists an array, all others an object
abbrev pub expected_kind : ℕ → Kind
expected_kind name =
    cond (eqb name default_certification) function
    (cond (leb certified_request_headers name)
    (cond (leb name certified_query_parameters) array
    (cond (leb certified_response_headers name) (cond (leb name response_header_exclusions) array object) object))
    object)

-- the struct of a refusal, in the numbers of SPEC.md
abbrev pub refusal_told : Told → Refusal
refusal_told r = record { refusal = r.refusal; name = r.name; kind = r.kind; node = r.node.0 }

-- a refusal of 7, for another kind than this
abbrev pub kind_refused : (name kind node : ℕ) → Refusal
kind_refused name kind node = record { refusal = 7; name = name; kind = kind; node = node }

-- the fields that a refusal uses: the name for 7 to 10, the kind that it expects for 7
abbrev pub fields_used : (refusal name node : ℕ) → Refusal
fields_used refusal name node =
    record {
      refusal = refusal;
      name = cond (ltb refusal 7) 0 (cond (ltb refusal 11) name 0);
      kind = cond (eqb refusal 7) (kind_number (expected_kind name)) 0;
      node = node;
    }

-- a refusal's node is one that a table may have
abbrev pub SmallNode : Told → Type 0
SmallNode r = r.node.0 < max_nodes

-- ---- steps

-- what a step gives, where f says what its value stands for
abbrev pub given_as : {A B : Type 0} → (A → B) → Result A Told → Mapped B
given_as f (Ok a) = good (f a)
given_as f (Err r) = bad (refusal_told r)

-- a step gives m, where f says what its value stands for, and P holds of it
pub record Gives {A B : Type 0} (f : A → B) (P : A → Type 0) (r : Result A Told) (m : Mapped B) : Type 0 where
  pub is : given_as f r ≡ m
  pub inside : MatchResult r P SmallNode

-- a check that is passed gives b
abbrev pub Passes : {B : Type 0} → B → Result Unit Told → Mapped B → Type 0
Passes b r m = Gives (λ _. b) (λ _. Unit {0}) r m

abbrev pub Checked : TreeNode → (name : ℕ) → Result Unit Told → Type 0
Checked e name r = Passes (typed_of e) r (typed (expected_kind name) name (node_of e))

abbrev pub ListChecked : TreeNode → (name : ℕ) → Result Unit Told → Type 0
ListChecked e name r = Passes (strings_of e.table.now e.number.0) r (string_array name (node_of e))

-- which of two, where f says what each stands for
abbrev pub only_as : {A B : Type 0} → (A → B) → Which A → Only B
only_as f (First a) = first (f a)
only_as f (Second a) = second (f a)

abbrev pub OnlyIf : {A : Type 0} → (A → Type 0) → Which A → Type 0
OnlyIf P (First a) = P a
OnlyIf P (Second a) = P a

-- ---- lists of strings, by the nodes of their arrays, whose rows are in the table

abbrev pub list_of : Words → Numbered → List Span
list_of w m = strings_of w m.0

abbrev pub ListIn : Words → Numbered → Type 0
ListIn w m = Tabled w m.0

abbrev pub Listing : TreeNode → (name : ℕ) → Result Numbered Told → Type 0
Listing e name r = Gives (list_of e.table.now) (ListIn e.table.now) r (list_at name (typed_of e))

abbrev pub HeadersFound : TreeNode → Result (Option Numbered) Told → Mapped (Maybe (List Span)) → Type 0
HeadersFound e r m = Gives (found_as (list_of e.table.now)) (FoundIf (ListIn e.table.now)) r m

abbrev pub request_as : Words → Asked → Request Span
request_as w q = record { request_headers = list_of w q.headers; query_parameters = list_of w q.query }

abbrev pub RequestIn : Words → Asked → Type 0
RequestIn w q = ListIn w q.headers × ListIn w q.query

-- a request part that is there, and one that may be absent
abbrev pub RequestFound : TreeNode → Result Asked Told → Mapped (Maybe (Request Span)) → Type 0
RequestFound e r m = Gives (λ q. some (request_as e.table.now q)) (RequestIn e.table.now) r m

abbrev pub Requested : TreeNode → Result (Option Asked) Told → Mapped (Maybe (Request Span)) → Type 0
Requested e r m = Gives (found_as (request_as e.table.now)) (FoundIf (RequestIn e.table.now)) r m

abbrev pub Responded : TreeNode → Result (Which Numbered) Told → Mapped (Only (List Span)) → Type 0
Responded e r m = Gives (only_as (list_of e.table.now)) (OnlyIf (ListIn e.table.now)) r m

-- ---- the policy

abbrev pub list_number : ListKind → ℕ
list_number Inclusions = inclusions
list_number Exclusions = exclusions

abbrev pub response_of : Which Numbered → Response
response_of (First l) = record { kind = Inclusions; list = l }
response_of (Second l) = record { kind = Exclusions; list = l }

abbrev pub certified_as : Option Asked → Which Numbered → Told-policy
certified_as None l = ResponseOnly (response_of l)
certified_as (Some q) l = Full q (response_of l)

abbrev pub policy_as : Words → Told-policy → Policy Span
policy_as w Skip = skipped
policy_as w (ResponseOnly l) =
    record { form = response_only; kind = list_number l.kind; request_headers = []; query_parameters = []; response_headers = list_of w l.list }
policy_as w (Full q l) =
    record {
      form = full;
      kind = list_number l.kind;
      request_headers = list_of w q.headers;
      query_parameters = list_of w q.query;
      response_headers = list_of w l.list;
    }

abbrev pub MappedIn : Words → Told-policy → Type 0
MappedIn w Skip = Unit {0}
MappedIn w (ResponseOnly l) = ListIn w l.list
MappedIn w (Full q l) = RequestIn w q × ListIn w l.list

abbrev pub mapped_as : Words → Result Told-policy Told → Mapped (Policy Span)
mapped_as w r = given_as (policy_as w) r

abbrev pub Maps : Words → Result Told-policy Told → Mapped (Policy Span) → Type 0
Maps w r m = Gives (policy_as w) (MappedIn w) r m
