-- Calls answer what the readings give.
use Rattle.std.proofs.Common.{◌≡◌, ℕ, ◌≤◌, false, List, length, refl, ap, ◌∙◌, arith, nat_lt, Result, Ok, Err}
use Rattle.std.specs.List.{list_any}
use Rattle.std.proofs.lemmas.Bool.Decides.{nat_tests}
use Rattle.sync_path.specs.Escapes.{needs_escape, unescaped_of}
use Rattle.sync_path.proofs.CallerLemmas.{unescaped_plain}
use Rattle.sync_command.specs.declared.values.Value.{Value}
use Rattle.sync_command.specs.declared.values.ValueFault.{ValueFault}
use Rattle.sync_command.specs.declared.values.ValueFault.TheVariants.{BadValue, BadEscape, TooLong, Memory}
use Rattle.sync_command.specs.Values.{Gives, as_value, bytes_within}

-- bytes of which none is escaped are read as they are
pub plain_is : (text : List ℕ) (most : ℕ) → list_any needs_escape text ≡ false → length text ≤ most → bytes_within most (unescaped_of text) ≡ Ok text
plain_is text most none short =
    let within : nat_lt most (length text) ≡ false = grind (arith, nat_tests) in
    ap (bytes_within most) (unescaped_plain text none) ∙ rw within refl
