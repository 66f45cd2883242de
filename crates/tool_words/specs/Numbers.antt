-- Operands that are numbers.
use Rattle.std.specs.Prelude.{List, ℕ, nat_le, ◌&&◌, Option, Some, None, decimal, if◌then◌else◌}
use Rattle.std.specs.Str.{bytes_eq}
use Rattle.std.specs.Str.Parse.{digits_value}
use Rattle.tool_words.specs.Words.{Text}

-- the number, where the text is its decimal spelling and it lies between these
abbrev pub in_bounds : ℕ → ℕ → Text → ℕ → Option ℕ
in_bounds low high text number =
    if bytes_eq text (decimal number) && (nat_le low number && nat_le number high) then Some number else None

-- the number that the text spells, without sign and leading zeros, where it lies between these
abbrev pub number_between : ℕ → ℕ → Text → Option ℕ
number_between low high text = in_bounds low high text (digits_value 10 text)
