-- The option `--prefs FILE` or `--prefs=FILE` before the operands.
use Rattle.std.proofs.Common.{◌≡◌, ◌∙◌, ℕ, suc, Bool, true, false, true≢false, refl, sym, ap, List, [], ◌∷◌, ◌++◌, ◌&&◌, Option, Some, None, is_some, option_map, take, drop, take-append-drop}
use Rattle.std.specs.List.{list_all}
use Rattle.std.specs.Prelude.{codes}
use Rattle.std.specs.Str.{bytes_eq}
use Rattle.std.proofs.lemmas.Slice.Eq.{bytes_eq-Decides}
use Rattle.clap.specs.Walk.{Held, Row, arg_by_id, idle, nothing_held, option, option_word}
use Rattle.clap.specs.Simple.{Shape}
use Rattle.tool_words.specs.Words.{Text, Operand, is_plain, numbered, plain_of}
use Rattle.tool_words.specs.Logs.{after_prefs, has_prefs_prefix, parts_of, part_texts, with_file, with_operands}
use Rattle.tool_words.proofs.Places.{numbered_plain, numbered_texts}
use Rattle.tool_words.proofs.Walks.{Stands, row, standing, stands_first}
use Rattle.tool_words.proofs.Repeats.{stands_value}

-- how the words begin
pub data Opening : Type 0 where
  plain : Opening
  equals : Text → Opening
  word : Text → Opening

-- the words that begin so
abbrev pub spelled : Opening → List Text → List Text
spelled plain rest = rest
spelled (equals file) rest = (codes "--prefs=" ++ file) ∷ rest
spelled (word file) rest = codes "--prefs" ∷ file ∷ rest

-- how many of them stand before the operands
abbrev pub skipped : Opening → ℕ
skipped plain = 0
skipped (equals file) = 1
skipped (word file) = 2

abbrev pub file_of : Opening → Option Text
file_of plain = None
file_of (equals file) = Some file
file_of (word file) = Some file

-- the file with the place of its word, where the command's is 0
abbrev pub placed : Opening → Option Operand
placed plain = None
placed (equals file) = Some (record { text = file; place = 1 })
placed (word file) = Some (record { text = file; place = 2 })

-- the file is plain
abbrev pub IsPlainFile : Opening → Type 0
IsPlainFile plain = Unit {0}
IsPlainFile (equals file) = is_plain file ≡ true
IsPlainFile (word file) = is_plain file ≡ true

-- ---- the words by their opening

-- what the words are, where they have parts
pub record Parted (words : List Text) : Type 0 where
  pub opening : Opening
  pub rest : List Text
  pub spelt : spelled opening rest ≡ words
  pub is : parts_of (numbered 1 words) ≡ Some (placed opening, numbered (suc (skipped opening)) rest)
  pub file : IsPlainFile opening
  pub all : list_all is_plain rest ≡ true

some_plain : (place : ℕ) (rest : List Text) → is_some (plain_of (numbered place rest)) ≡ true
    → (list_all is_plain rest ≡ true) × (plain_of (numbered place rest) ≡ Some (numbered place rest))
some_plain place rest e = by (list_all (λ operand. is_plain operand.text) (numbered place rest)) refl
  where
    by : (b : Bool) → list_all (λ operand. is_plain operand.text) (numbered place rest) ≡ b
        → (list_all is_plain rest ≡ true) × (plain_of (numbered place rest) ≡ Some (numbered place rest))
    by true is = (sym (numbered_plain place rest) ∙ is, rw is refl)
    by false is =
        let none : plain_of (numbered place rest) ≡ None = rw is refl in
        absurd (true≢false (sym e ∙ ap is_some none))

some_operands : (file : Option Operand) (place : ℕ) (rest : List Text) → is_some (with_operands file (numbered place rest)) ≡ true
    → (list_all is_plain rest ≡ true) × (with_operands file (numbered place rest) ≡ Some (file, numbered place rest))
some_operands file place rest e = by (plain_of (numbered place rest)) refl
  where
    by : (o : Option (List Operand)) → plain_of (numbered place rest) ≡ o
        → (list_all is_plain rest ≡ true) × (with_operands file (numbered place rest) ≡ Some (file, numbered place rest))
    by (Some operands) is =
        let h = some_plain place rest (ap is_some is) in
        (h.0, rw h.1 refl)
    by None is =
        let none : with_operands file (numbered place rest) ≡ None = rw is refl in
        absurd (true≢false (sym e ∙ ap is_some none))

some_file : (file : Operand) (place : ℕ) (rest : List Text) → is_some (with_file file (numbered place rest)) ≡ true
    → (is_plain file.text ≡ true) × (list_all is_plain rest ≡ true) × (with_file file (numbered place rest) ≡ Some (Some file, numbered place rest))
some_file file place rest e = go (is_plain file.text) refl
  where
    go : (b : Bool) → is_plain file.text ≡ b
        → (is_plain file.text ≡ true) × (list_all is_plain rest ≡ true) × (with_file file (numbered place rest) ≡ Some (Some file, numbered place rest))
    go true t =
        let same : with_file file (numbered place rest) ≡ with_operands (Some file) (numbered place rest) = rw t refl in
        let h = some_operands (Some file) place rest (ap is_some (sym same) ∙ e) in
        (t, h.0, same ∙ h.1)
    go false t =
        let same : with_file file (numbered place rest) ≡ None = rw t refl in
        absurd (true≢false (sym e ∙ ap is_some same))

parted_word : (w : Text) (rest : List Text) → codes "--prefs" ≡ w → parts_of (numbered 1 (w ∷ rest)) ≡ after_prefs (numbered 2 rest)
    → is_some (after_prefs (numbered 2 rest)) ≡ true → Parted (w ∷ rest)
parted_word w [] spelt same e = absurd (true≢false (sym e))
parted_word w (file ∷ rest) spelt same e =
    let h = some_file (record { text = file; place = 2 }) 3 rest e in
    record {
      opening = word file;
      rest = rest;
      spelt = ap (λ x. x ∷ file ∷ rest) spelt;
      is = same ∙ h.2;
      file = h.0;
      all = h.1;
    }

pub parted : (words : List Text) → is_some (parts_of (numbered 1 words)) ≡ true → Parted words
parted [] e = record { opening = plain; rest = []; spelt = refl; is = refl; file = tt; all = refl }
parted (w ∷ rest) e = go (bytes_eq w (codes "--prefs")) refl (has_prefs_prefix w) refl
  where
    go : (a : Bool) → bytes_eq w (codes "--prefs") ≡ a → (b : Bool) → has_prefs_prefix w ≡ b → Parted (w ∷ rest)
    go true ea b eb =
        let same : parts_of (numbered 1 (w ∷ rest)) ≡ after_prefs (numbered 2 rest) = rw ea refl in
        parted_word w rest (sym ((bytes_eq-Decides w (codes "--prefs")).0 ea)) same (ap is_some (sym same) ∙ e)
    go false ea true eb =
        let same : parts_of (numbered 1 (w ∷ rest)) ≡ with_file (record { text = drop 8 w; place = 1 }) (numbered 2 rest) = rw (ea, eb) refl in
        let h = some_file (record { text = drop 8 w; place = 1 }) 2 rest (ap is_some (sym same) ∙ e) in
        let head : take 8 w ≡ codes "--prefs=" = (bytes_eq-Decides (take 8 w) (codes "--prefs=")).0 eb in
        record {
          opening = equals (drop 8 w);
          rest = rest;
          spelt = ap (λ x. x ∷ rest) (ap (λ x. x ++ drop 8 w) (sym head) ∙ take-append-drop 8 w);
          is = same ∙ h.2;
          file = h.0;
          all = h.1;
        }
    go false ea false eb =
        let same : parts_of (numbered 1 (w ∷ rest)) ≡ with_operands None (numbered 1 (w ∷ rest)) = rw (ea, eb) refl in
        let h = some_operands None 1 (w ∷ rest) (ap is_some (sym same) ∙ e) in
        record { opening = plain; rest = w ∷ rest; spelt = refl; is = same ∙ h.1; file = tt; all = h.0 }

-- ---- clap's walk over an opening

-- what is held before the operands
abbrev pub opened : Opening → Held
opened plain = nothing_held
opened (equals file) = record { rows = row (codes "prefs") (file ∷ []) ∷ []; pending = None; skip = 0 }
opened (word file) = record { rows = []; pending = Some (codes "prefs", file ∷ []); skip = 0 }

-- what is held where the option waits for its file
abbrev pub waits : Held
waits = record { rows = []; pending = Some (codes "prefs", []); skip = 0 }

-- the rows of the option
abbrev pub prefs_rows : Option Text → List Row
prefs_rows None = []
prefs_rows (Some file) = row (codes "prefs") (file ∷ []) ∷ []

-- the app has the option: each is `record { .. = refl }` at an app that is written out
pub record HasPrefs (s : Shape) : Type 0 where
  pub by_equals : (file : Text) (rest : List Text) → Stands s ((codes "--prefs=" ++ file) ∷ rest) (opened (equals file)) idle 1 rest
  pub by_word : (rest : List Text) → Stands s (codes "--prefs" ∷ rest) waits (option (codes "prefs")) 1 rest
  pub value : (file : Text) → standing (option_word (arg_by_id s.rules (codes "prefs")) (codes "prefs") file waits).0 (option_word (arg_by_id s.rules (codes "prefs")) (codes "prefs") file waits).1 1
      ≡ standing (opened (word file)) idle 1

-- the walk stands before the operands
pub stands_opened : (s : Shape) → HasPrefs s → (o : Opening) (rest : List Text) → IsPlainFile o → Stands s (spelled o rest) (opened o) idle 1 rest
stands_opened s has plain rest h = stands_first s rest
stands_opened s has (equals file) rest h = has.by_equals file rest
stands_opened s has (word file) rest h =
    stands_value s (codes "--prefs" ∷ file ∷ rest) waits (codes "prefs") 1 file rest (opened (word file)) idle (has.by_word (file ∷ rest)) h (has.value file)

-- ---- the parts of the words

-- their texts
pub texts_placed : (words : List Text) (p : Parted words) → option_map part_texts (parts_of (numbered 1 words)) ≡ Some (file_of p.opening, p.rest)
texts_placed words p = ap (option_map part_texts) p.is ∙ by p.opening p.rest
  where
    by : (o : Opening) (rest : List Text) → option_map part_texts (Some (placed o, numbered (suc (skipped o)) rest)) ≡ Some (file_of o, rest)
    by plain rest = ap (λ (texts : List Text). Some (file_of plain, texts)) (numbered_texts 1 rest)
    by (equals file) rest = ap (λ (texts : List Text). Some (file_of (equals file), texts)) (numbered_texts 2 rest)
    by (word file) rest = ap (λ (texts : List Text). Some (file_of (word file), texts)) (numbered_texts 3 rest)

-- ---- which words have parts

with_operands_some : (file : Option Operand) (place : ℕ) (rest : List Text) → is_some (with_operands file (numbered place rest)) ≡ list_all is_plain rest
with_operands_some file place rest = by (list_all is_plain rest) refl
  where
    by : (b : Bool) → list_all is_plain rest ≡ b → is_some (with_operands file (numbered place rest)) ≡ list_all is_plain rest
    by true is = rw (numbered_plain place rest, is) refl
    by false is = rw (numbered_plain place rest, is) refl

with_file_some : (file : Operand) (place : ℕ) (rest : List Text) → is_some (with_file file (numbered place rest)) ≡ (is_plain file.text && list_all is_plain rest)
with_file_some file place rest = by (is_plain file.text) refl
  where
    by : (b : Bool) → is_plain file.text ≡ b → is_some (with_file file (numbered place rest)) ≡ (is_plain file.text && list_all is_plain rest)
    by true is = rw is (with_operands_some (Some file) place rest)
    by false is = rw is refl

-- where the option's file is the next word
pub parts_by_word : (w file : Text) (rest : List Text) → bytes_eq w (codes "--prefs") ≡ true
    → is_some (parts_of (numbered 1 (w ∷ file ∷ rest))) ≡ (is_plain file && list_all is_plain rest)
parts_by_word w file rest e = rw e (with_file_some (record { text = file; place = 2 }) 3 rest)

-- where there is no next word
pub parts_without : (w : Text) → bytes_eq w (codes "--prefs") ≡ true → is_some (parts_of (numbered 1 (w ∷ []))) ≡ false
parts_without w e = rw e refl

-- where it stands in the same word
pub parts_by_equals : (w file : Text) (rest : List Text) → bytes_eq w (codes "--prefs") ≡ false → has_prefs_prefix w ≡ true → file ≡ drop 8 w
    → is_some (parts_of (numbered 1 (w ∷ rest))) ≡ (is_plain file && list_all is_plain rest)
parts_by_equals w file rest e h is = rw (e, h, is) (with_file_some (record { text = drop 8 w; place = 1 }) 2 rest)

-- and where there is no option
pub parts_plain : (w : Text) (rest : List Text) → bytes_eq w (codes "--prefs") ≡ false → has_prefs_prefix w ≡ false
    → is_some (parts_of (numbered 1 (w ∷ rest))) ≡ list_all is_plain (w ∷ rest)
parts_plain w rest e h = rw (e, h) (with_operands_some None 1 (w ∷ rest))
