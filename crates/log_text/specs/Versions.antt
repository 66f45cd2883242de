-- The first lines of a form whose texts have versions.
use Rattle.std.specs.Prelude.{ℕ, List, Option, None, Some, if◌then◌else◌}
use Rattle.std.specs.Str.{bytes_eq}
use Rattle.sync_command.specs.declared.values.Version.{Version}
use Rattle.sync_command.specs.declared.values.Version.TheVariants.{One, Two}

-- the version whose first line the line is
abbrev pub version_of : (Version → List ℕ) → List ℕ → Option Version
version_of first line = if bytes_eq line (first One) then Some One else (if bytes_eq line (first Two) then Some Two else None)
