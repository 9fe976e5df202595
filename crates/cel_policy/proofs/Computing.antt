-- What an answer is computed through, by names to unfold: reading, mapping, printing. For tables of examples, here and in the crates above. Assumes nothing.
use Rattle.cel_text.specs.Byte.{ascii, string_byte, blank, ident_byte, alphanumeric}
use Rattle.cel_text.specs.Reading.{enter, enter_string, past, bare, start, unquote, step}
use Rattle.cel_text.specs.Answer.{tree_answer, tree_table}
use Rattle.cel_policy.specs.Names.{spelling}
use Rattle.cel_policy.specs.Mapping.{typed, lookup, present, element, elements, string_array, first_of, first_child, headers_of, list_of, response_lists, response_part, list_at, request_lists}
use Rattle.cel_policy.specs.Mapping.{request_of, request_part, certification_parts, certification_of, validation_args, mapping}
use Rattle.cel_policy.specs.Spans.{span_table}
use Rattle.cel_policy.specs.Printed.{skip_text, request_text, response_text, response_only_text, full_text, printed, shaped}
use Rattle.cel_policy.specs.Answers.{policy_answer, policy_nodes, policy_spans, span_fits, bytes_fit, judgement, sized, find_print, print_answer, print_output, find_canonical}
use Rattle.cel_policy.specs.Answers.{canonical_answer, canonical_output}

unfoldable pub reading : Unit {0}
unfolding ascii string_byte blank ident_byte alphanumeric enter enter_string past bare start unquote step tree_answer tree_table
reading = tt

unfoldable pub listing : Unit {0}
unfolding spelling element elements string_array headers_of list_of list_at response_lists request_lists request_of
listing = tt

unfoldable pub mapped : Unit {0}
unfolding listing typed lookup present first_of first_child request_part response_part certification_parts certification_of validation_args mapping span_table policy_answer policy_nodes policy_spans
mapped = tt

unfoldable pub printing : Unit {0}
unfolding skip_text request_text response_text response_only_text full_text printed shaped span_fits bytes_fit judgement sized find_print print_answer print_output find_canonical canonical_answer canonical_output
printing = tt
