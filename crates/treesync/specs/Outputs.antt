-- What a job prints, and the status with which the whole of it is printed.
use Rattle.std.specs.Prelude.{◌≡◌, ◌++◌, ℕ, List, [], ◌∷◌, length, codes, decimal, Ok}
use Rattle.std.specs.List.{concat}
use Rattle.log_text.specs.Frame.{ended}
use Rattle.treesync.specs.Checks.{Check, Judged, Then}

-- A text is whole before its first byte is written. The lines of clashes, and those of reasons, are written as they
-- come, and their number after them.
pub data Output : Type 0 where
  WholeText : List ℕ → Output
  ClashLines : List (List ℕ) → Output
  ReasonLines : List (List ℕ) → Output

-- `clashes N`, or `left N`
abbrev pub number_line : List ℕ → ℕ → List ℕ
number_line word number = ended (word ++ decimal number)

-- lines, and after them how many they are
abbrev pub counted_lines : List ℕ → List (List ℕ) → List ℕ
counted_lines word lines = concat lines ++ number_line word (length lines)

abbrev pub text_in : Output → List ℕ
text_in (WholeText text) = text
text_in (ClashLines lines) = counted_lines (codes "clashes ") lines
text_in (ReasonLines lines) = counted_lines (codes "left ") lines

-- 1 where there is a clash
abbrev pub status_in : Output → ℕ
status_in (WholeText text) = 0
status_in (ReasonLines lines) = 0
status_in (ClashLines []) = 0
status_in (ClashLines (line ∷ lines)) = 1

-- the text that the check gives is printed
abbrev pub AsText : Check (List ℕ) → Check Output
AsText P = Then P (λ text. Judged (λ answer. answer ≡ Ok (WholeText text)))
