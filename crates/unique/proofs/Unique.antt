-- Three things of each public function, over its own contract and not over a copy: any two answers that meet it are equal, and so is afterwards every
-- word and byte that was lent; it asks nothing of its caller; and it gives the definition that is named here. A clause that is loosened, dropped or added
-- fails here. The one exception to the first is `lines::next`, which reads the world: no contract can say what is read. Assumes nothing.
use Rattle.std.specs.Prelude.{◌≡◌, refl, ℕ, ◌+◌, ◌-◌, List, [], ◌++◌, length, take, replicate}
use Rattle.std.proofs.Common.{cond, eqb, subst, sym, ap, ◌∙◌, Result, Ok, Err}
use borrow.Fn.Kinds.{Dens}
use Rattle.cel_text.specs.Byte.{string_byte}
use Rattle.cel_text.specs.Table.{row_at}
use Rattle.cel_text.specs.Answer.{refused_at, tree_answer, tree_table, tree_over}
use Rattle.cel_policy.specs.Names.{spelling}
use Rattle.cel_policy.specs.Policy.{string_count, numbers}
use Rattle.cel_policy.specs.Answers.{policy_answer, policy_nodes, policy_spans, policy_nodes_over, policy_spans_over, any_byte, Judgement, clean, faulty, judgement, print_answer, print_output, canonical_answer}
use Rattle.cel_policy.specs.Answers.{canonical_output}
use Rattle.cel_policy.specs.declared.Policy.{Policy}
use Rattle.cel_policy.proofs.Policy.before_response
use Rattle.cel_policy.proofs.Policy.strings
use Rattle.pieces.specs.Pieces.{Wrote}
use Rattle.parser.specs.Found.{told}
use Rattle.parser.specs.Rows.{row_told}
use Rattle.parser.specs.Run.{class_of, end_of}
use Rattle.parser.specs.declared.Answer.{Answer}
use Rattle.parser.specs.declared.row.Row.{Row}
use Rattle.parser.proofs.read_tree
use Rattle.parser.proofs.read_over as tree_reads
use Rattle.parser.proofs.too_short
use Rattle.parser.proofs.scan.run_of
use Rattle.parser.proofs.row.clear
use Rattle.parser.proofs.row.read_row
use Rattle.pieces.proofs.put as put_piece
use Rattle.ast_mapping.specs.Spans.{policy_told}
use Rattle.ast_mapping.proofs.read_policy
use Rattle.ast_mapping.proofs.read_over as policy_over
use Rattle.ast_mapping.proofs.name.spell
use Rattle.create_cel_expr.specs.Given.{print_told}
use Rattle.create_cel_expr.specs.Judged.{number_of, place_of, judged_as}
use Rattle.create_cel_expr.specs.declared.Printed.{Printed}
use Rattle.create_cel_expr.specs.declared.refusal.Refusal.{Refusal}
use Rattle.create_cel_expr.specs.declared.refusal.Refusal.TheVariants.{WrongShape, SpanOutside, NoStringByte, TooLong, OutputTooShort}
use Rattle.create_cel_expr.proofs.refusal.Refusal.number as refusal_number
use Rattle.create_cel_expr.proofs.refusal.Refusal.place as refusal_place
use Rattle.create_cel_expr.proofs.judge_policy
use Rattle.create_cel_expr.proofs.print_policy
use Rattle.create_cel_expr.proofs.print_any
use Rattle.host.proofs.canonicalise
use Rattle.host.proofs.hilladok_canonicalise
use Rattle.lines.specs.Fields.{hex_count, hex_left, read_decimal, number_after, part_from}
use Rattle.lines.specs.Bytes.{index_of, slice}
use Rattle.lines.specs.Input.{brought_front, nothing}
use Rattle.lines.specs.Texts.{numeral, numerals, pairs}
use Rattle.lines.proofs.none
use Rattle.lines.proofs.find
use Rattle.lines.proofs.next
use Rattle.lines.proofs.to_front
use Rattle.lines.proofs.unhex
use Rattle.lines.proofs.decimal
use Rattle.lines.proofs.number_after as number_after_fn
use Rattle.lines.proofs.part_start
use Rattle.lines.proofs.put_number
use Rattle.lines.proofs.put_words
use Rattle.lines.proofs.put_hex
use Rattle.page.specs.Page.{shown_byte, shown, said}
use Rattle.page.proofs.columns
use Rattle.page.proofs.put as put_shown
use Rattle.page.proofs.put_spaces
use Rattle.page.proofs.say
use Rattle.report.specs.Report.{reported}
use Rattle.report.proofs.report
use Rattle.std.specs.declared.io.traits.Read.{Ghosts}
use contract.Lifetimes.{Lfts}
use borrow.Fn.Kinds.{Dens}
use denote.RattleType.{RattleType}
use mathlib.Core.List.{Memᴰ}
use mathlib.Core.Logic.{∥∥₁_elim, ∥∥₁_prop}
use denote.Param.Laws.{Laws}
use mir.Syntax.{Dict}
use Rattle.groups.specs.Groups.{number}
use Rattle.groups.proofs.read_number
use Rattle.recording.specs.Replay.{heading}
use Rattle.recording.specs.Turn.{beginning, turned, turn_of}
use Rattle.recording.proofs.start as start_replay
use Rattle.recording.proofs.put_heading
use Rattle.recording.proofs.advance
use Rattle.unique.specs.Unique.{AsksNothing, Kept}

-- two things that equal a third are equal
meet : {X : Type 0} {a b c : X} → a ≡ c → b ≡ c → a ≡ b
meet e f = e ∙ sym f

tree-says : (r s : Answer) → told r ≡ told s → r ≡ s
tree-says r s e = λ i. record { refusal = (e i).refusal; name = (e i).name; kind = (e i).kind; place = (e i).place; nodes = (e i).nodes; depth = (e i).depth }

row-says : (r s : Row) → row_told r ≡ row_told s → r ≡ s
row-says r s e =
    λ i. record {
      kind = (e i).kind;
      from = record { 0 = (e i).from };
      to = record { 0 = (e i).to };
      keyfrom = record { 0 = (e i).keyfrom };
      keyto = record { 0 = (e i).keyto };
      parent = record { 0 = (e i).parent };
      children = (e i).children;
      past = record { 0 = (e i).past };
    }

-- `parser::read_tree`
pub read-tree :
    Kept read_tree.Kinds.ps read_tree.Kinds.r read_tree.Reads.Asked read_tree.Reads.Post (λ κs a r v.
    (told r ≡ tree_answer (length a.1.0.now) a.0.now) × (v.1.0 ≡ tree_table a.0.now a.1.0.now))
read-tree =
    record {
      one = λ κs a r s v w e f. (tree-says r s (meet e.0 f.0), λ i. (tt, (meet e.1 f.1 i, tt)));
      asks = λ κs a. tt;
      says = λ κs a r v e. e;
    }

-- `parser::read_over`
pub tree-over :
    Kept tree_reads.Kinds.ps tree_reads.Kinds.r tree_reads.Reads.Asked tree_reads.Reads.Post (λ κs a r v.
    (told r ≡ tree_answer (length a.1.0.now) a.0.now) × (v.1.0 ≡ tree_over a.0.now a.1.0.now))
tree-over =
    record {
      one = λ κs a r s v w e f. (tree-says r s (meet e.0 f.0), λ i. (tt, (meet e.1 f.1 i, tt)));
      asks = λ κs a. tt;
      says = λ κs a r v e. e;
    }

-- `parser::too_short`
pub tree-unread :
    Kept too_short.Kinds.ps too_short.Kinds.r too_short.Reads.Asked too_short.Reads.Post (λ κs a r v. told r ≡ refused_at 1 0)
tree-unread =
    record {
      one = λ κs a r s v w e f. (tree-says r s (meet e f), refl);
      asks = λ κs a. tt;
      says = λ κs a r v e. e;
    }

-- `parser::row::read_row`
pub read-row :
    Kept read_row.Kinds.ps read_row.Kinds.r read_row.Reads.Asked read_row.Reads.Post (λ κs a r v. row_told r ≡ row_at a.0.now a.1.0.0)
read-row =
    record {
      one = λ κs a r s v w e f. (row-says r s (meet e f), refl);
      asks = λ κs a. tt;
      says = λ κs a r v e. e;
    }

-- `parser::row::clear`
pub clear-row :
    Kept clear.Kinds.ps clear.Kinds.r clear.Reads.Asked clear.Reads.Post (λ κs a r v.
    v.0 ≡ take a.1.0 a.0.now ++ replicate (length a.0.now - a.1.0) 0)
clear-row =
    record {
      one = λ κs a r s v w e f. (refl, λ i. (meet e f i, (tt, tt)));
      asks = λ κs a. tt;
      says = λ κs a r v e. e;
    }

-- `parser::scan::run_of`
pub run-of :
    Kept run_of.Kinds.ps run_of.Kinds.r run_of.Reads.Asked run_of.Reads.Post (λ κs a r v. r.0 ≡ end_of (class_of a.1.1.0) a.0.now a.1.0.0)
run-of =
    record {
      one = λ κs a r s v w e f. (λ i. record { 0 = meet e f i }, refl);
      asks = λ κs a. tt;
      says = λ κs a r v e. e;
    }

-- ---- pieces

-- what was written, and the place after it
wrote_one : {out o p : List ℕ} {at q s : ℕ} {t : List ℕ} → Wrote out o at q t → Wrote out p at s t → (q ≡ s) × (o ≡ p)
wrote_one a b = (meet a.place b.place, meet a.buffer b.buffer)

-- `pieces::put`
pub put-piece :
    Kept put_piece.Kinds.ps put_piece.Kinds.r put_piece.Reads.Asked put_piece.Reads.Post (λ κs a r v. Wrote a.0.now v.0 a.1.0 r a.1.1.0.now)
put-piece =
    record {
      one = λ κs a r s v w e f. let o = wrote_one e f in (o.0, λ i. (o.1 i, (tt, (tt, tt))));
      asks = λ κs a. tt;
      says = λ κs a r v e. e;
    }

-- ---- reading a policy

policy-says : (r s : Policy) → numbers r ≡ numbers s → r ≡ s
policy-says r s e = λ i. record { form = (e i).form; kind = (e i).kind; request = (e i).request_headers; query = (e i).query_parameters; response = (e i).response_headers }

-- `ast_mapping::read_policy`
pub read-policy :
    Kept read_policy.Kinds.ps read_policy.Kinds.r read_policy.Reads.Asked read_policy.Reads.Post (λ κs a r v.
    (policy_told r ≡ policy_answer (length a.1.0.now) (length a.1.1.0.now) a.0.now)
    × ((v.1.0 ≡ policy_nodes a.0.now a.1.0.now a.1.1.0.now)
    × (v.1.1.0 ≡ policy_spans a.0.now a.1.0.now a.1.1.0.now)))
read-policy =
    record {
      one = λ κs a r s v w e f. (
        λ i. record {
          answer = tree-says r.answer s.answer (λ j. (meet e.0 f.0 j).answer) i;
          policy = policy-says r.policy s.policy (λ j. (meet e.0 f.0 j).policy) i;
        },
        λ i. (tt, (meet e.1.0 f.1.0 i, (meet e.1.1 f.1.1 i, tt))),
      );
      asks = λ κs a. tt;
      says = λ κs a r v e. e;
    }

-- `ast_mapping::read_over`
pub policy-over :
    Kept policy_over.Kinds.ps policy_over.Kinds.r policy_over.Reads.Asked policy_over.Reads.Post (λ κs a r v.
    (policy_told r ≡ policy_answer (length a.1.0.now) (length a.1.1.0.now) a.0.now)
    × ((v.1.0 ≡ policy_nodes_over a.0.now a.1.0.now a.1.1.0.now)
    × (v.1.1.0 ≡ policy_spans_over a.0.now a.1.0.now a.1.1.0.now)))
policy-over =
    record {
      one = λ κs a r s v w e f. (
        λ i. record {
          answer = tree-says r.answer s.answer (λ j. (meet e.0 f.0 j).answer) i;
          policy = policy-says r.policy s.policy (λ j. (meet e.0 f.0 j).policy) i;
        },
        λ i. (tt, (meet e.1.0 f.1.0 i, (meet e.1.1 f.1.1 i, tt))),
      );
      asks = λ κs a. tt;
      says = λ κs a r v e. e;
    }

-- `ast_mapping::name::spell`
pub spell-name :
    Kept spell.Kinds.ps spell.Kinds.r spell.Reads.Asked spell.Reads.Post (λ κs a r v.
    Wrote a.0.now v.0 a.1.0 r (spelling a.1.1.0))
spell-name =
    record {
      one = λ κs a r s v w e f. let o = wrote_one e f in (o.0, λ i. (o.1 i, (tt, (tt, tt))));
      asks = λ κs a. tt;
      says = λ κs a r v e. e;
    }

-- ---- printing

-- a judgement has one refusal
abbrev refused-as : (number place : ℕ) → Refusal
refused-as n i = cond (eqb n 20) WrongShape (cond (eqb n 21) (SpanOutside i) (cond (eqb n 22) (NoStringByte i) (cond (eqb n 23) TooLong OutputTooShort)))

abbrev found-as : Judgement → Result (Unit {0}) Refusal
found-as clean = Ok tt
found-as (faulty n i) = Err (refused-as n i)

found-back : (r : Result (Unit {0}) Refusal) → found-as (judged_as r) ≡ r
found-back (Ok u) = refl
found-back (Err WrongShape) = refl
found-back (Err (SpanOutside i)) = refl
found-back (Err (NoStringByte i)) = refl
found-back (Err TooLong) = refl
found-back (Err OutputTooShort) = refl

judged-says : (r s : Result (Unit {0}) Refusal) → judged_as r ≡ judged_as s → r ≡ s
judged-says r s e = sym (found-back r) ∙ ap found-as e ∙ found-back s

print-says : (r s : Printed) → print_told r ≡ print_told s → r ≡ s
print-says r s e = λ i. record { refusal = (e i).refusal; name = (e i).name; kind = (e i).kind; place = (e i).place; length = (e i).length }

-- `cel_policy::Policy::before_response`
pub strings-before-response :
    Kept before_response.Kinds.ps before_response.Kinds.r before_response.Reads.Asked before_response.Reads.Post (λ κs a r v.
    r ≡ a.0.request + a.0.query)
strings-before-response =
    record {
      one = λ κs a r s v w e f. (meet e f, refl);
      asks = λ κs a. tt;
      says = λ κs a r v e. e;
    }

-- `cel_policy::Policy::strings`
pub all-strings :
    Kept strings.Kinds.ps strings.Kinds.r strings.Reads.Asked strings.Reads.Post (λ κs a r v.
    r ≡ string_count (numbers a.0))
all-strings =
    record {
      one = λ κs a r s v w e f. (meet e f, refl);
      asks = λ κs a. tt;
      says = λ κs a r v e. e;
    }

-- `create_cel_expr::Refusal::number`
pub refusal-number :
    Kept refusal_number.Kinds.ps refusal_number.Kinds.r refusal_number.Reads.Asked refusal_number.Reads.Post (λ κs a r v.
    r ≡ number_of a.0)
refusal-number =
    record {
      one = λ κs a r s v w e f. (meet e f, refl);
      asks = λ κs a. tt;
      says = λ κs a r v e. e;
    }

-- `create_cel_expr::Refusal::place`
pub refusal-place :
    Kept refusal_place.Kinds.ps refusal_place.Kinds.r refusal_place.Reads.Asked refusal_place.Reads.Post (λ κs a r v.
    r ≡ place_of a.0)
refusal-place =
    record {
      one = λ κs a r s v w e f. (meet e f, refl);
      asks = λ κs a. tt;
      says = λ κs a r v e. e;
    }

-- `create_cel_expr::judge_policy`
pub judge-policy :
    Kept judge_policy.Kinds.ps judge_policy.Kinds.r judge_policy.Reads.Asked judge_policy.Reads.Post (λ κs a r v.
    judged_as r ≡ judgement string_byte (numbers a.0) a.1.1.0.now a.1.0.now)
judge-policy =
    record {
      one = λ κs a r s v w e f. (judged-says r s (meet e f), refl);
      asks = λ κs a. tt;
      says = λ κs a r v e. e;
    }

-- `create_cel_expr::print_policy`
pub print-policy :
    Kept print_policy.Kinds.ps print_policy.Kinds.r print_policy.Reads.Asked print_policy.Reads.Post (λ κs a r v.
    (print_told r ≡ print_answer string_byte (numbers a.0) a.1.1.0.now a.1.0.now (length a.1.1.1.0.now))
    × (v.1.1.1.0 ≡ print_output string_byte (numbers a.0) a.1.1.0.now a.1.0.now a.1.1.1.0.now))
print-policy =
    record {
      one = λ κs a r s v w e f. (print-says r s (meet e.0 f.0), λ i. (tt, (tt, (tt, (meet e.1 f.1 i, tt)))));
      asks = λ κs a. tt;
      says = λ κs a r v e. e;
    }

-- `create_cel_expr::print_any`
pub print-any :
    Kept print_any.Kinds.ps print_any.Kinds.r print_any.Reads.Asked print_any.Reads.Post (λ κs a r v.
    (print_told r ≡ print_answer any_byte (numbers a.0) a.1.1.0.now a.1.0.now (length a.1.1.1.0.now))
    × (v.1.1.1.0 ≡ print_output any_byte (numbers a.0) a.1.1.0.now a.1.0.now a.1.1.1.0.now))
print-any =
    record {
      one = λ κs a r s v w e f. (print-says r s (meet e.0 f.0), λ i. (tt, (tt, (tt, (meet e.1 f.1 i, tt)))));
      asks = λ κs a. tt;
      says = λ κs a r v e. e;
    }

-- ---- the host

-- `host::canonicalise`
pub canonicalise-text :
    Kept canonicalise.Kinds.ps canonicalise.Kinds.r canonicalise.Reads.Asked canonicalise.Reads.Post (λ κs a r v.
    (r ≡ canonical_answer a.0.now (length a.1.0.now)) × (v.1.0 ≡ canonical_output a.0.now a.1.0.now))
canonicalise-text =
    record {
      one = λ κs a r s v w e f. (meet e.0 f.0, λ i. (tt, (meet e.1 f.1 i, tt)));
      asks = λ κs a. tt;
      says = λ κs a r v e. e;
    }

-- `host::hilladok_canonicalise`
pub canonicalise-for-c :
    Kept hilladok_canonicalise.Kinds.ps hilladok_canonicalise.Kinds.r hilladok_canonicalise.Reads.Asked hilladok_canonicalise.Reads.Post (λ κs a r v.
    (r ≡ canonical_answer a.0.now (length a.1.0.now)) × (v.1.0 ≡ canonical_output a.0.now a.1.0.now))
canonicalise-for-c =
    record {
      one = λ κs a r s v w e f. (meet e.0 f.0, λ i. (tt, (meet e.1 f.1 i, tt)));
      asks = λ κs a. tt;
      says = λ κs a r v e. e;
    }

-- ---- lines, pages and reports

not-in : (k : ℕ) → Memᴰ k [] → ⊥
not-in k h = elim h [ ]

-- `lines::none`
pub no_line :
    Kept none.Kinds.ps none.Kinds.r none.Reads.Asked none.Reads.Post (λ κs a r v.
    r ≡ nothing)
no_line =
    record {
      one = λ κs a r s v w e f. (meet e f, refl);
      asks = λ κs a. tt;
      says = λ κs a r v e. e;
    }

-- `lines::next`, which asks nothing either of a reader that borrows nothing, as standard input does
pub next-asks : (R : RattleType) (laws : Laws R) (reads : Ghosts R.Denot) (dict : Dict) → R.lives ≡ []
    → AsksNothing (next.Kinds.ps R laws) (next.Reads.Asked R laws reads dict)
next-asks R laws reads dict none κs a k m = ∥∥₁_elim (subst (λ (l : List ℕ). ∥ Memᴰ k l ∥₁) none m) ∥∥₁_prop (λ h. absurd (not-in k h))

-- and of any other no more than that what it borrows lives as long as the call, which holds of every value
pub next-asks-borrowed : (R : RattleType) (laws : Laws R) (reads : Ghosts R.Denot) (dict : Dict) (κs : Lfts 3) (a : Dens κs (next.Kinds.ps R laws))
    → ((k : ℕ) → ∥ Memᴰ k R.lives ∥₁ → ∥ Memᴰ k κs.1.1.0 ∥₁) → next.Reads.Asked R laws reads dict κs a
next-asks-borrowed R laws reads dict κs a lives = lives

-- `lines::find`
pub find-byte :
    Kept find.Kinds.ps find.Kinds.r find.Reads.Asked find.Reads.Post (λ κs a r v.
    r ≡ a.1.0 + index_of a.1.1.1.0 (slice a.1.0 a.1.1.0 a.0.now))
find-byte =
    record {
      one = λ κs a r s v w e f. (meet e.0 f.0, refl);
      asks = λ κs a. tt;
      says = λ κs a r v e. e.0;
    }

-- `lines::to_front`
pub front-bytes :
    Kept to_front.Kinds.ps to_front.Kinds.r to_front.Reads.Asked to_front.Reads.Post (λ κs a r v.
    v.0 ≡ brought_front a.0.now a.1.0 a.1.1.0)
front-bytes =
    record {
      one = λ κs a r s v w e f. (refl, λ i. (meet e f i, (tt, (tt, tt))));
      asks = λ κs a. tt;
      says = λ κs a r v e. e;
    }

-- `lines::unhex`
pub unhex-field :
    Kept unhex.Kinds.ps unhex.Kinds.r unhex.Reads.Asked unhex.Reads.Post (λ κs a r v.
    (r ≡ hex_count a.0.now (length a.1.0.now)) × (v.1.0 ≡ hex_left a.0.now a.1.0.now))
unhex-field =
    record {
      one = λ κs a r s v w e f. (meet e.0 f.0, λ i. (tt, (meet e.1.0 f.1.0 i, tt)));
      asks = λ κs a. tt;
      says = λ κs a r v e. (e.0, e.1.0);
    }

-- `lines::decimal`
pub decimal-field :
    Kept decimal.Kinds.ps decimal.Kinds.r decimal.Reads.Asked decimal.Reads.Post (λ κs a r v.
    r ≡ read_decimal a.1.0 a.0.now)
decimal-field =
    record {
      one = λ κs a r s v w e f. (meet e.0 f.0, refl);
      asks = λ κs a. tt;
      says = λ κs a r v e. e.0;
    }

-- `lines::number_after`
pub number-after :
    Kept number_after_fn.Kinds.ps number_after_fn.Kinds.r number_after_fn.Reads.Asked number_after_fn.Reads.Post (λ κs a r v.
    r ≡ number_after a.1.1.0 a.0.now a.1.0)
number-after =
    record {
      one = λ κs a r s v w e f. (meet e.0 f.0, refl);
      asks = λ κs a. tt;
      says = λ κs a r v e. e.0;
    }

-- `lines::part_start`
pub part-start :
    Kept part_start.Kinds.ps part_start.Kinds.r part_start.Reads.Asked part_start.Reads.Post (λ κs a r v.
    r ≡ part_from a.1.1.0 a.1.0 a.0.now 0)
part-start =
    record {
      one = λ κs a r s v w e f. (meet e.0 f.0, refl);
      asks = λ κs a. tt;
      says = λ κs a r v e. e.0;
    }

-- `lines::put_number`
pub put-number :
    Kept put_number.Kinds.ps put_number.Kinds.r put_number.Reads.Asked put_number.Reads.Post (λ κs a r v.
    Wrote a.0.now v.0 a.1.0 r (numeral a.1.1.0))
put-number =
    record {
      one = λ κs a r s v w e f. let o = wrote_one e f in (o.0, λ i. (o.1 i, (tt, (tt, tt))));
      asks = λ κs a. tt;
      says = λ κs a r v e. e;
    }

-- `lines::put_words`
pub put-words :
    Kept put_words.Kinds.ps put_words.Kinds.r put_words.Reads.Asked put_words.Reads.Post (λ κs a r v.
    Wrote a.0.now v.0 a.1.0 r (numerals a.1.1.0.now))
put-words =
    record {
      one = λ κs a r s v w e f. let o = wrote_one e f in (o.0, λ i. (o.1 i, (tt, (tt, tt))));
      asks = λ κs a. tt;
      says = λ κs a r v e. e;
    }

-- `lines::put_hex`
pub put-hex :
    Kept put_hex.Kinds.ps put_hex.Kinds.r put_hex.Reads.Asked put_hex.Reads.Post (λ κs a r v.
    Wrote a.0.now v.0 a.1.0 r (pairs a.1.1.0.now))
put-hex =
    record {
      one = λ κs a r s v w e f. let o = wrote_one e f in (o.0, λ i. (o.1 i, (tt, (tt, tt))));
      asks = λ κs a. tt;
      says = λ κs a r v e. e;
    }

-- `page::columns`
pub columns_of :
    Kept columns.Kinds.ps columns.Kinds.r columns.Reads.Asked columns.Reads.Post (λ κs a r v.
    r ≡ length (shown_byte a.0))
columns_of =
    record {
      one = λ κs a r s v w e f. (meet e f, refl);
      asks = λ κs a. tt;
      says = λ κs a r v e. e;
    }

-- `page::put`
pub put-text :
    Kept put_shown.Kinds.ps put_shown.Kinds.r put_shown.Reads.Asked put_shown.Reads.Post (λ κs a r v.
    Wrote a.0.now v.0 a.1.0 r (shown a.1.1.0.now))
put-text =
    record {
      one = λ κs a r s v w e f. let o = wrote_one e f in (o.0, λ i. (o.1 i, (tt, (tt, tt))));
      asks = λ κs a. tt;
      says = λ κs a r v e. e;
    }

-- `page::put_spaces`
pub put-spaces :
    Kept put_spaces.Kinds.ps put_spaces.Kinds.r put_spaces.Reads.Asked put_spaces.Reads.Post (λ κs a r v.
    Wrote a.0.now v.0 a.1.0 r (replicate a.1.1.0 32))
put-spaces =
    record {
      one = λ κs a r s v w e f. let o = wrote_one e f in (o.0, λ i. (o.1 i, (tt, (tt, tt))));
      asks = λ κs a. tt;
      says = λ κs a r v e. e;
    }

-- `page::say`
pub say-words :
    Kept say.Kinds.ps say.Kinds.r say.Reads.Asked say.Reads.Post (λ κs a r v.
    Wrote a.0.now v.0 a.1.0 r (said a.1.1.0.now a.1.1.1.0))
say-words =
    record {
      one = λ κs a r s v w e f. let o = wrote_one e f in (o.0, λ i. (o.1 i, (tt, (tt, (tt, tt)))));
      asks = λ κs a. tt;
      says = λ κs a r v e. e;
    }

-- `report::report`
pub report-text :
    Kept report.Kinds.ps report.Kinds.r report.Reads.Asked report.Reads.Post (λ κs a r v.
    Wrote a.1.0.now v.1.0 0 r (reported a.0.now))
report-text =
    record {
      one = λ κs a r s v w e f. let o = wrote_one e f in (o.0, λ i. (tt, (o.1 i, tt)));
      asks = λ κs a. tt;
      says = λ κs a r v e. e;
    }

-- ---- recordings

-- `groups::read_number`
pub number-read :
    Kept read_number.Kinds.ps read_number.Kinds.r read_number.Reads.Asked read_number.Reads.Post (λ κs a r v. r ≡ number a.0.now)
number-read =
    record {
      one = λ κs a r s v w e f. (meet e f, refl);
      asks = λ κs a. tt;
      says = λ κs a r v e. e;
    }

-- `recording::start`
pub start-replay :
    Kept start_replay.Kinds.ps start_replay.Kinds.r start_replay.Reads.Asked start_replay.Reads.Post (λ κs a r v. r ≡ beginning)
start-replay =
    record {
      one = λ κs a r s v w e f. (meet e f, refl);
      asks = λ κs a. tt;
      says = λ κs a r v e. e;
    }

-- `recording::put_heading`
pub put-heading :
    Kept put_heading.Kinds.ps put_heading.Kinds.r put_heading.Reads.Asked put_heading.Reads.Post (λ κs a r v. Wrote a.0.now v.0 0 r heading)
put-heading =
    record {
      one = λ κs a r s v w e f. let o = wrote_one e f in (o.0, λ i. (o.1 i, tt));
      asks = λ κs a. tt;
      says = λ κs a r v e. e;
    }

-- `recording::advance`
pub advance-turn :
    Kept advance.Kinds.ps advance.Kinds.r advance.Reads.Asked advance.Reads.Post (λ κs a r v.
    (r ≡ turn_of (turned a.0 a.1.0.now a.1.1.0 (length a.1.1.1.0.now)))
    × Wrote a.1.1.1.0.now v.1.1.1.0 0 r.written (turned a.0 a.1.0.now a.1.1.0 (length a.1.1.1.0.now)).wrote)
advance-turn =
    record {
      one = λ κs a r s v w e f. let o = wrote_one e.1 f.1 in (meet e.0 f.0, λ i. (tt, (tt, (tt, (o.1 i, tt)))));
      asks = λ κs a. tt;
      says = λ κs a r v e. e;
    }
