-- The recordings of SPEC.md that are marked P, as one table under one statement. Each expected line is written out; all are computed.
use Rattle.std.specs.Prelude.{◌≡◌, refl, ℕ, List, [], ◌∷◌, ◌++◌, map, replicate}
use Rattle.cel_text.specs.Byte.{Text, bytes}
use Rattle.cel_policy.proofs.Computing.{reading, mapped}
use Rattle.lines.specs.Texts.{numeral}
use Rattle.groups.specs.Groups.{number}
use Rattle.recording.specs.Replay.{records, line, last_line, reply_to, replayed}

abbrev skip_text : Text
skip_text = bytes "default_certification(ValidationArgs{no_certification:Empty{}})"

abbrev call : Text
call = bytes "f()"

abbrev blanks : ℕ → Text
blanks n = replicate n 32

-- a recording, and the lines after the heading
record Case : Type 0 where
  recording : Text
  lines : Text

abbrev has : (recording lines : Text) → Case
has x o = record { recording = x; lines = o }

cases : List Case
cases =
    has [] (bytes "0 records 0 refused\n")
    ∷ has (63 ∷ skip_text ++ (3 ∷ call)) (bytes "0 0 skip 3 3\n1 8 none 1 1\n2 records 1 refused\n")
    ∷ has (0 ∷ 200 ∷ 1 ∷ blanks 200) (bytes "0 4 none 0 0\n1 4 none 0 0\n2 records 2 refused\n")
    ∷ has (128 ∷ 128 ∷ 1 ∷ blanks 16384 ++ (63 ∷ skip_text)) (bytes "0 2 none 0 0\n1 0 skip 3 3\n2 records 1 refused\n")
    ∷ has (3 ∷ call ++ (131 ∷ [])) (bytes "0 8 none 1 1\nbroken length\n")
    ∷ has (3 ∷ call ++ (131 ∷ 0 ∷ call)) (bytes "0 8 none 1 1\nbroken length\n")
    ∷ has (255 ∷ 128 ∷ 0 ∷ blanks 127) (bytes "broken length\n")
    ∷ has (131 ∷ 128 ∷ 128 ∷ 1 ∷ call) (bytes "broken length\n")
    ∷ has (63 ∷ skip_text ++ (4 ∷ call)) (bytes "0 0 skip 3 3\nbroken body\n")
    ∷ has (129 ∷ 64 ∷ blanks 8192) (bytes "broken body\n")
    ∷ []

recordings-hold :
    map (λ (c : Case). replayed c.recording) cases ≡ map (λ (c : Case). bytes "record answer kind nodes depth\n" ++ c.lines) cases
unfolding cases reading mapped number records numeral line last_line reply_to replayed
recordings-hold = refl
