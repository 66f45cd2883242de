-- The entries of the files in memory.
use Rattle.std.specs.Prelude.{◌≡◌, [], ◌∷◌, ℕ, zero, suc, List, map, max, false, if◌then◌else◌, Option, None, Some, string_bytes}
use Rattle.std.specs.Str.{bytes_eq}
use Rattle.sync_port.specs.Ports.{Names}
use Rattle.sync_port.specs.declared.entries.Entry.{Entry}

-- the name of an entry, and the bytes under it
abbrev pub named : Entry → List ℕ × List ℕ
named e = (string_bytes e.name, e.bytes.items)

-- the bytes that stand first under the name
abbrev pub first_under : List (List ℕ × List ℕ) → Names
first_under [] name = None
first_under (file ∷ rest) name = if bytes_eq file.0 name then Some file.1 else first_under rest name

-- the bytes of the first entry of the name
abbrev pub held_in : List Entry → Names
held_in entries = first_under (map named entries)

-- the name of the entry at a place
abbrev pub name_at : List Entry → Option ℕ → Option (List ℕ)
name_at entries None = None
name_at [] (Some place) = None
name_at (e ∷ rest) (Some zero) = Some (string_bytes e.name)
name_at (e ∷ rest) (Some (suc place)) = name_at rest (Some place)

-- the most bytes that were read after one opening of an entry of the name
abbrev pub most_in : List Entry → List ℕ → ℕ
most_in [] name = 0
most_in (e ∷ rest) name = max (if bytes_eq (string_bytes e.name) name then e.most else 0) (most_in rest name)

-- the bytes of the entry at a place
abbrev pub entry_bytes : List Entry → ℕ → List ℕ
entry_bytes [] place = []
entry_bytes (e ∷ rest) zero = e.bytes.items
entry_bytes (e ∷ rest) (suc place) = entry_bytes rest place

-- the same, and nothing where no place is given
abbrev pub bytes_at : List Entry → Option ℕ → List ℕ
bytes_at entries None = []
bytes_at entries (Some place) = entry_bytes entries place

-- the first entry of the name is at the place
abbrev pub IsPlaceOf : List ℕ → List Entry → ℕ → Type 0
IsPlaceOf name [] place = ⊥
IsPlaceOf name (e ∷ rest) zero = string_bytes e.name ≡ name
IsPlaceOf name (e ∷ rest) (suc place) = (bytes_eq (string_bytes e.name) name ≡ false) × IsPlaceOf name rest place
