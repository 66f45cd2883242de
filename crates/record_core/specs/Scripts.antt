-- The text of a script, and the first fault of a text that is none.
use Rattle.std.specs.Prelude.{ℕ, nat_le, List, [], ◌∷◌, length, codes, if◌then◌else◌, Option, None, Some, Result, Ok, Err}
use Rattle.std.specs.Str.{bytes_eq}
use Rattle.sync_path.specs.declared.faults.PathFault.{PathFault}
use Rattle.sync_path.specs.Paths.{Node}
use Rattle.sync_path.specs.Reading.{path_of}
use Rattle.sync_command.specs.declared.values.Value.{Value}
use Rattle.sync_command.specs.declared.values.Value.TheVariants as value
use Rattle.sync_command.specs.declared.values.ValueFault.{ValueFault}
use Rattle.sync_command.specs.declared.values.Version.{Version}
use Rattle.sync_command.specs.declared.values.Version.TheVariants.{One, Two}
use Rattle.sync_command.specs.Values.{value_of}
use Rattle.log_text.specs.declared.faults.TextFault.{TextFault}
use Rattle.log_text.specs.declared.faults.TextKind.{TextKind}
use Rattle.log_text.specs.declared.faults.TextKind.TheVariants as kind
use Rattle.log_text.specs.declared.frame.TheConstants.{MAX_ITEMS}
use Rattle.log_text.specs.Frame.{Judge, framed_of}
use Rattle.log_text.specs.Versions.{version_of}
use Rattle.record_core.specs.declared.ops.Op.{Op}
use Rattle.record_core.specs.declared.ops.Op.TheVariants as op
use Rattle.record_core.specs.declared.words.ShortWord.{ShortWord}
use Rattle.record_core.specs.declared.words.ShortWord.TheVariants as short
use Rattle.record_core.specs.declared.words.LongWord.{LongWord}
use Rattle.record_core.specs.declared.words.LongWord.TheVariants as long

-- the first line
abbrev pub script_first : Version → List ℕ
script_first One = codes "treescript 1"
script_first Two = codes "treescript 2"

-- ---- the words

-- the word of a line of two fields
abbrev pub short_word : List ℕ → Option ShortWord
short_word field =
    if bytes_eq field (codes "mkdir") then Some short.Mkdir
    else (if bytes_eq field (codes "del") then Some short.Del
    else (if bytes_eq field (codes "deltree") then Some short.Deltree
    else None))

-- `label` is a word of version 2 alone
abbrev pub label_word : Version → Option LongWord
label_word One = None
label_word Two = Some long.Label

-- the word of a line of three fields
abbrev pub long_word : Version → List ℕ → Option LongWord
long_word version field =
    if bytes_eq field (codes "put") then Some long.Put
    else (if bytes_eq field (codes "move") then Some long.Move
    else (if bytes_eq field (codes "copy") then Some long.Copy
    else (if bytes_eq field (codes "label") then label_word version
    else None)))

-- ---- the fields after the word

abbrev pub one_path : (Node → Op) → Result Node PathFault → Result Op TextKind
one_path make (Err f) = Err kind.Path
one_path make (Ok p) = Ok (make p)

abbrev pub short_from : ShortWord → Result Node PathFault → Result Op TextKind
short_from short.Mkdir p = one_path op.Mkdir p
short_from short.Del p = one_path op.Del p
short_from short.Deltree p = one_path op.Deltree p

-- two paths
abbrev pub pair_from : Result Node PathFault → Result Node PathFault → Result (Node × Node) TextKind
pair_from (Err f) q = Err kind.Path
pair_from (Ok p) (Err f) = Err kind.Path
pair_from (Ok p) (Ok q) = Ok (p, q)

abbrev pub two_paths : (Node → Node → Op) → Result (Node × Node) TextKind → Result Op TextKind
two_paths make (Err k) = Err k
two_paths make (Ok pair) = Ok (make pair.0 pair.1)

-- a path and a file
abbrev pub put_of : Node → Result Value ValueFault → Result Op TextKind
put_of p (Err f) = Err kind.Value
put_of p (Ok value.Empty) = Err kind.Value
put_of p (Ok (value.Dir label)) = Err kind.Value
put_of p (Ok (value.File bytes)) = Ok (op.Put p bytes)

abbrev pub put_from : Result Node PathFault → Result Value ValueFault → Result Op TextKind
put_from (Err f) v = Err kind.Path
put_from (Ok p) v = put_of p v

-- a path and a directory
abbrev pub label_of : Node → Result Value ValueFault → Result Op TextKind
label_of p (Err f) = Err kind.Value
label_of p (Ok value.Empty) = Err kind.Value
label_of p (Ok (value.Dir label)) = Ok (op.Label p label)
label_of p (Ok (value.File bytes)) = Err kind.Value

abbrev pub label_from : Result Node PathFault → Result Value ValueFault → Result Op TextKind
label_from (Err f) v = Err kind.Path
label_from (Ok p) v = label_of p v

abbrev pub long_from : Version → LongWord → List ℕ → List ℕ → Result Op TextKind
long_from version long.Put p v = put_from (path_of p) (value_of version v)
long_from version long.Label p v = label_from (path_of p) (value_of version v)
long_from version long.Move p q = two_paths op.Move (pair_from (path_of p) (path_of q))
long_from version long.Copy p q = two_paths op.Copy (pair_from (path_of p) (path_of q))

-- ---- a line

-- the operation of a line of two fields, or of three, after k lines
abbrev pub short_op : ℕ → Option ShortWord → List ℕ → Result Op TextKind
short_op k None p = Err kind.Fields
short_op k (Some word) p = if nat_le MAX_ITEMS k then Err kind.TooMany else short_from word (path_of p)

abbrev pub long_op : Version → ℕ → Option LongWord → List ℕ → List ℕ → Result Op TextKind
long_op version k None a b = Err kind.Fields
long_op version k (Some word) a b = if nat_le MAX_ITEMS k then Err kind.TooMany else long_from version word a b

-- the operation of a line's fields after k lines, or the first kind that applies
unfoldable pub op_of : Version → ℕ → List (List ℕ) → Result Op TextKind
op_of version k [] = Err kind.Fields
op_of version k (word ∷ []) = Err kind.Fields
op_of version k (word ∷ p ∷ []) = short_op k (short_word word) p
op_of version k (word ∷ a ∷ b ∷ []) = long_op version k (long_word version word) a b
op_of version k (word ∷ a ∷ b ∷ c ∷ rest) = Err kind.Fields

abbrev pub judge_op : Version → Judge Op
judge_op version before fields = op_of version (length before) fields

-- the version and the operations of a text's lines, or the first fault
unfoldable pub script_of : List (List ℕ) → Result (Version × List Op) TextFault
script_of lines = framed_of (version_of script_first) judge_op lines
