-- A script that is read is one of paths and values.
use Rattle.std.proofs.Common.{◌≡◌, ℕ, ◌≤◌, Bool, true, false, ◌&&◌, List, [], ◌∷◌, ◌++◌, length, Option, Some, None, Ok, Err, refl, ap, subst, arith, nat_le, nat_lt, nat_eq}
use Rattle.std.specs.Prelude.{Result, if◌then◌else◌}
use Rattle.std.specs.List.{AllByRecursion}
use Rattle.std.proofs.lemmas.Bool.Decides.{nat_tests}
use Rattle.sync_path.specs.declared.faults.PathFault.{PathFault}
use Rattle.sync_path.specs.Escapes.{AreBytes, unescaped_of}
use Rattle.sync_path.specs.Paths.{IsPath, Node, parts}
use Rattle.sync_path.specs.Reading.{path_of}
use Rattle.sync_path.proofs.CallerLemmas.{read_is, unescaped_is}
use Rattle.sync_command.specs.declared.bytes.TheConstants.{MAX_FILE_LEN}
use Rattle.sync_command.specs.declared.labels.TheConstants.{MAX_LABEL_LEN}
use Rattle.sync_command.specs.declared.values.Value.{Value}
use Rattle.sync_command.specs.declared.values.Value.TheVariants as value
use Rattle.sync_command.specs.declared.values.ValueFault.{ValueFault}
use Rattle.sync_command.specs.declared.values.ValueFault.TheVariants.{BadValue, TooLong}
use Rattle.sync_command.specs.declared.values.Version.{Version}
use Rattle.sync_command.specs.declared.values.Version.TheVariants.{One, Two}
use Rattle.sync_command.specs.Values.{IsValue, as_value, bytes_within, file_of, labelled_of, value_of}
use Rattle.log_text.specs.declared.faults.TextFault.{TextFault}
use Rattle.log_text.specs.declared.faults.TextKind.{TextKind}
use Rattle.log_text.specs.declared.faults.TextKind.TheVariants as kind
use Rattle.log_text.specs.declared.frame.TheConstants.{MAX_ITEMS}
use Rattle.log_text.specs.Frame.{after_first, at_line, body_of, end_fault, end_number, framed_of, unless, with_head}
use Rattle.log_text.specs.Versions.{version_of}
use Rattle.record_core.specs.declared.ops.Op.{Op}
use Rattle.record_core.specs.declared.ops.Op.TheVariants as op
use Rattle.record_core.specs.declared.words.LongWord.{LongWord}
use Rattle.record_core.specs.declared.words.LongWord.TheVariants as long
use Rattle.record_core.specs.declared.words.ShortWord.{ShortWord}
use Rattle.record_core.specs.declared.words.ShortWord.TheVariants as short
use Rattle.record_core.specs.Scripts.{judge_op, label_from, long_from, long_op, long_word, op_of, pair_from, put_from, script_first, script_of, short_from, short_op, short_word, two_paths}
use Rattle.record_core.specs.Validity.{IsOp}

-- ---- values

-- what holds of the Ok of both branches holds of the Ok of a choice
if_ok : {X F : Type 0} (P : X → Type 0) (b : Bool) (r s : Result X F) (x : X) → (r ≡ Ok x → P x) → (s ≡ Ok x → P x) → (if b then r else s) ≡ Ok x → P x
if_ok P true r s x f g e = f e
if_ok P false r s x f g e = g e

-- bytes that a text is the escaped text of, of which there are few enough
bytes_valid : (make : List ℕ → Value) (most : ℕ) (text : List ℕ) (v : Value) → ((bytes : List ℕ) → AreBytes bytes → length bytes ≤ most → IsValue (make bytes)) →
    as_value make (bytes_within most (unescaped_of text)) ≡ Ok v → IsValue v
bytes_valid make most text v valid e = go (unescaped_of text) refl e
  where
    few : (k : ℕ) → nat_lt most k ≡ false → k ≤ most
    few k e = grind (arith, nat_tests)

    go : (r : Result (List ℕ) PathFault) → unescaped_of text ≡ r → as_value make (bytes_within most r) ≡ Ok v → IsValue v
    go (Err f) is e = cc
    go (Ok bytes) is e = within (nat_lt most (length bytes)) refl e
      where
        within : (b : Bool) → nat_lt most (length bytes) ≡ b → as_value make (if b then Err TooLong else Ok bytes) ≡ Ok v → IsValue v
        within true f e = cc
        within false f e = let same : make bytes ≡ v = cc in subst IsValue same (valid bytes (unescaped_is text bytes is).0 (few (length bytes) f))

-- a label that is read
labelled_valid : (version : Version) (text : List ℕ) (v : Value) → labelled_of version text ≡ Ok v → IsValue v
labelled_valid One text v e = cc
labelled_valid Two [] v e = cc
labelled_valid Two (b ∷ text) v e = bytes_valid value.Dir MAX_LABEL_LEN (b ∷ text) v (λ bytes are few. (are, few)) e

-- a text is read as a value
value_valid : (version : Version) (text : List ℕ) (v : Value) → value_of version text ≡ Ok v → IsValue v
unfolding value_of
value_valid version [] v e = cc
value_valid version (a ∷ []) v e =
    if_ok IsValue (nat_eq a 45) (Ok value.Empty) (if nat_eq a 100 then Ok (value.Dir []) else Err BadValue) v (λ f. plain value.Empty f tt)
    (if_ok IsValue (nat_eq a 100) (Ok (value.Dir [])) (Err BadValue) v (λ f. plain (value.Dir []) f (tt, omega arith)) (λ f. none f)) e
  where
    plain : (w : Value) → ◌≡◌ {A = Result Value ValueFault} (Ok w) (Ok v) → IsValue w → IsValue v
    plain w f h = let same : w ≡ v = cc in subst IsValue same h

    none : ◌≡◌ {A = Result Value ValueFault} (Err BadValue) (Ok v) → IsValue v
    none f = cc
value_valid version (a ∷ b ∷ rest) v e =
    if_ok IsValue (nat_eq a 102 && nat_eq b 58) (file_of rest) (if nat_eq a 100 && nat_eq b 58 then labelled_of version rest else Err BadValue) v
    (bytes_valid value.File MAX_FILE_LEN rest v (λ bytes are few. (are, few)))
    (if_ok IsValue (nat_eq a 100 && nat_eq b 58) (labelled_of version rest) (Err BadValue) v (labelled_valid version rest v) (λ f. none f)) e
  where
    none : ◌≡◌ {A = Result Value ValueFault} (Err BadValue) (Ok v) → IsValue v
    none f = cc

-- ---- a line

-- from an operation to what is read
same_op : (a o : Op) → ◌≡◌ {A = Result Op TextKind} (Ok a) (Ok o) → IsOp a → IsOp o
same_op a o e h = let same : a ≡ o = cc in subst IsOp same h

not_ok : (f : TextKind) (o : Op) → ◌≡◌ {A = Result Op TextKind} (Err f) (Ok o) → IsOp o
not_ok f o e = cc

-- the results of reading a path and a value
abbrev IsReadPath : Result Node PathFault → Type 0
IsReadPath (Ok p) = IsPath p
IsReadPath (Err f) = Unit {0}

abbrev IsReadValue : Result Value ValueFault → Type 0
IsReadValue (Ok v) = IsValue v
IsReadValue (Err f) = Unit {0}

path_read : (text : List ℕ) → IsReadPath (path_of text)
path_read text = go (path_of text) refl
  where
    go : (r : Result Node PathFault) → path_of text ≡ r → IsReadPath r
    go (Ok p) e = (read_is text p e).0
    go (Err f) e = tt

value_read : (version : Version) (text : List ℕ) → IsReadValue (value_of version text)
value_read version text = go (value_of version text) refl
  where
    go : (r : Result Value ValueFault) → value_of version text ≡ r → IsReadValue r
    go (Ok v) e = value_valid version text v e
    go (Err f) e = tt

short_valid : (word : ShortWord) (p : Result Node PathFault) (o : Op) → IsReadPath p → short_from word p ≡ Ok o → IsOp o
short_valid short.Mkdir (Ok p) o is e = same_op (op.Mkdir p) o e is
short_valid short.Del (Ok p) o is e = same_op (op.Del p) o e is
short_valid short.Deltree (Ok p) o is e = same_op (op.Deltree p) o e is
short_valid short.Mkdir (Err f) o is e = not_ok kind.Path o e
short_valid short.Del (Err f) o is e = not_ok kind.Path o e
short_valid short.Deltree (Err f) o is e = not_ok kind.Path o e

two_valid : (make : Node → Node → Op) → ((p q : Node) → IsPath p → IsPath q → IsOp (make p q)) → (p q : Result Node PathFault) (o : Op) → IsReadPath p → IsReadPath q → two_paths make (pair_from p q) ≡ Ok o → IsOp o
two_valid make valid (Ok p) (Ok q) o a b e = same_op (make p q) o e (valid p q a b)
two_valid make valid (Ok p) (Err f) o a b e = not_ok kind.Path o e
two_valid make valid (Err f) q o a b e = not_ok kind.Path o e

put_valid : (p : Result Node PathFault) (v : Result Value ValueFault) (o : Op) → IsReadPath p → IsReadValue v → put_from p v ≡ Ok o → IsOp o
put_valid (Err f) v o a b e = not_ok kind.Path o e
put_valid (Ok p) (Err f) o a b e = not_ok kind.Value o e
put_valid (Ok p) (Ok value.Empty) o a b e = not_ok kind.Value o e
put_valid (Ok p) (Ok (value.Dir label)) o a b e = not_ok kind.Value o e
put_valid (Ok p) (Ok (value.File bytes)) o a b e = same_op (op.Put p bytes) o e (a, b)

label_valid : (p : Result Node PathFault) (v : Result Value ValueFault) (o : Op) → IsReadPath p → IsReadValue v → label_from p v ≡ Ok o → IsOp o
label_valid (Err f) v o a b e = not_ok kind.Path o e
label_valid (Ok p) (Err f) o a b e = not_ok kind.Value o e
label_valid (Ok p) (Ok value.Empty) o a b e = not_ok kind.Value o e
label_valid (Ok p) (Ok (value.Dir label)) o a b e = same_op (op.Label p label) o e (a, b)
label_valid (Ok p) (Ok (value.File bytes)) o a b e = not_ok kind.Value o e

long_valid : (version : Version) (word : LongWord) (a b : List ℕ) (o : Op) → long_from version word a b ≡ Ok o → IsOp o
long_valid version long.Put a b o e = put_valid (path_of a) (value_of version b) o (path_read a) (value_read version b) e
long_valid version long.Label a b o e = label_valid (path_of a) (value_of version b) o (path_read a) (value_read version b) e
long_valid version long.Move a b o e = two_valid op.Move (λ p q i j. (i, j)) (path_of a) (path_of b) o (path_read a) (path_read b) e
long_valid version long.Copy a b o e = two_valid op.Copy (λ p q i j. (i, j)) (path_of a) (path_of b) o (path_read a) (path_read b) e

short_line : (k : ℕ) (word : Option ShortWord) (p : List ℕ) (o : Op) → short_op k word p ≡ Ok o → IsOp o
short_line k None p o e = not_ok kind.Fields o e
short_line k (Some word) p o e = if_ok IsOp (nat_le MAX_ITEMS k) (Err kind.TooMany) (short_from word (path_of p)) o (not_ok kind.TooMany o) (short_valid word (path_of p) o (path_read p)) e

long_line : (version : Version) (k : ℕ) (word : Option LongWord) (a b : List ℕ) (o : Op) → long_op version k word a b ≡ Ok o → IsOp o
long_line version k None a b o e = not_ok kind.Fields o e
long_line version k (Some word) a b o e = if_ok IsOp (nat_le MAX_ITEMS k) (Err kind.TooMany) (long_from version word a b) o (not_ok kind.TooMany o) (long_valid version word a b o) e

-- an operation of a line
line_valid : (version : Version) (k : ℕ) (fields : List (List ℕ)) (o : Op) → op_of version k fields ≡ Ok o → IsOp o
unfolding op_of
line_valid version k [] o e = not_ok kind.Fields o e
line_valid version k (word ∷ []) o e = not_ok kind.Fields o e
line_valid version k (word ∷ p ∷ []) o e = short_line k (short_word word) p o e
line_valid version k (word ∷ a ∷ b ∷ []) o e = long_line version k (long_word version word) a b o e
line_valid version k (word ∷ a ∷ b ∷ c ∷ rest) o e = not_ok kind.Fields o e

-- ---- a text

one_more : (ops : List Op) (o : Op) → AllByRecursion IsOp ops → IsOp o → AllByRecursion IsOp (ops ++ o ∷ [])
one_more [] o each is = (is, tt)
one_more (x ∷ ops) o each is = (each.0, one_more ops o each.1 is)

ended_valid : (fault : Option TextFault) (before ops : List Op) → AllByRecursion IsOp before → unless fault before ≡ Ok ops → AllByRecursion IsOp ops
ended_valid None before ops each e = let same : before ≡ ops = cc in subst (AllByRecursion IsOp) same each
ended_valid (Some fault) before ops each e = cc

-- the lines after some operations
body_valid : (version : Version) (before : List Op) (lines : List (List ℕ)) (ops : List Op) → AllByRecursion IsOp before → body_of (judge_op version) before lines ≡ Ok ops → AllByRecursion IsOp ops
unfolding body_of
body_valid version before [] ops each e = cc
body_valid version before (line ∷ []) ops each e = cc
body_valid version before (line ∷ next ∷ lines) ops each e =
    go (end_number (parts 32 line)) (op_of version (length before) (parts 32 line)) refl
    (λ o is. body_valid version (before ++ o ∷ []) (next ∷ lines) ops (one_more before o each is)) e
  where
    go : (number : Option (List ℕ)) (judged : Result Op TextKind) → op_of version (length before) (parts 32 line) ≡ judged
        → ((o : Op) → IsOp o → body_of (judge_op version) (before ++ o ∷ []) (next ∷ lines) ≡ Ok ops → AllByRecursion IsOp ops)
        → at_line before number judged (next ∷ lines) (λ o. body_of (judge_op version) (before ++ o ∷ []) (next ∷ lines)) ≡ Ok ops → AllByRecursion IsOp ops
    go (Some number) judged is later e = ended_valid (end_fault (length before) number (next ∷ lines)) before ops each e
    go None (Ok o) is later e = later o (line_valid version (length before) (parts 32 line) o is) e
    go None (Err f) is later e = cc

-- a script that is read
pub script_valid : (lines : List (List ℕ)) (version : Version) (script : List Op) → script_of lines ≡ Ok (version, script) → AllByRecursion IsOp script
unfolding script_of framed_of
script_valid [] version script e = cc
script_valid (line ∷ []) version script e = cc
script_valid (line ∷ next ∷ lines) version script e = go (version_of script_first line) e
  where
    headed : (head : Version) (r : Result (List Op) TextFault) → ((ops : List Op) → r ≡ Ok ops → AllByRecursion IsOp ops) → with_head head r ≡ Ok (version, script) → AllByRecursion IsOp script
    headed head (Ok ops) each e = subst (AllByRecursion IsOp) (same e) (each ops refl)
      where
        pair : ◌≡◌ {A = Result (Version × List Op) TextFault} (Ok (head, ops)) (Ok (version, script)) → ◌≡◌ {A = Version × List Op} (head, ops) (version, script)
        pair e = cc

        same : ◌≡◌ {A = Result (Version × List Op) TextFault} (Ok (head, ops)) (Ok (version, script)) → ops ≡ script
        same e = ap (λ p. p.1) (pair e)
    headed head (Err f) each e = cc

    go : (head : Option Version) → after_first head (λ head. with_head head (body_of (judge_op head) [] (next ∷ lines))) ≡ Ok (version, script) → AllByRecursion IsOp script
    go None e = cc
    go (Some head) e = headed head (body_of (judge_op head) [] (next ∷ lines)) (λ ops is. body_valid head [] (next ∷ lines) ops tt is) e
