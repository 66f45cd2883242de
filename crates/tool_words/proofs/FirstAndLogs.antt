-- The command NAME [--prefs FILE] FIRST LOG...
use Rattle.std.proofs.Common.{◌≡◌, ◌∙◌, suc, true, refl, sym, ap, List, [], ◌∷◌, ◌++◌, Option, Some, None, is_some, option_map}
use Rattle.std.specs.List.{list_all}
use Rattle.std.specs.Prelude.{codes}
use Rattle.clap.specs.Walk.{Held, Row, all_of, arg_by_index, first_of, finished, idle, positional, to_positional, value}
use Rattle.clap.specs.Simple.{Shape, built}
use Rattle.clap.specs.Faults.{step_fault}
use Rattle.clap.specs.declared.error.kind.ErrorKind.TheVariants as kind
use Rattle.clap.proofs.OnLiterals.{clap_on_literals}
use Rattle.clap.proofs.WalkLemmas.{both}
use Rattle.tool_words.specs.Words.{Text, is_plain, numbered}
use Rattle.tool_words.specs.Logs.{file_first_and_texts, parts_of, part_texts, prefs_first_logs}
use Rattle.tool_words.specs.Apps.{first_logs_app}
use Rattle.tool_words.proofs.Walks.{Stands, end_fault, faults_at, reading, row, rows_at, some_kind, standing, stands_fault, stands_next, stands_walk}
use Rattle.tool_words.proofs.Repeats.{stands_repeated}
use Rattle.tool_words.proofs.PrefsOption.{HasPrefs, Opening, equals, file_of, opened, parted, placed, plain, prefs_rows, skipped, spelled, stands_opened, texts_placed, word}

module _ (name : Text) where
  -- the rules of the app, as clap builds it
  abbrev shape : Shape
  shape = (built (first_logs_app name)).top

  has_prefs : HasPrefs shape
  unfolding clap_on_literals
  has_prefs = record {
    by_equals = λ file rest. record { walks = refl; faults = refl };
    by_word = λ rest. record { walks = refl; faults = refl };
    value = λ file. refl;
  }

  -- the row of the logs that were read
  abbrev log_rows : List Text → List Row
  log_rows [] = []
  log_rows (v ∷ vs) = row (codes "logs") (v ∷ vs) ∷ []

  -- what is held after the first and them, with one more log that is pending
  abbrev held : Option Text → Text → List Text → Text → Held
  held file n vs v = reading (prefs_rows file ++ row (codes "first") (n ∷ []) ∷ log_rows vs) (codes "logs") v

  -- the walk after the first
  at_first : (o : Opening) (words : List Text) (n : Text) (rest : List Text) → Stands shape words (opened o) idle 1 (n ∷ rest) → is_plain n ≡ true
      → Stands shape words (reading (prefs_rows (file_of o)) (codes "first") n) idle 2 rest
  at_first plain words n rest h wn = stands_next shape words _ idle 1 n rest _ idle 2 h wn refl refl refl
  at_first (equals f) words n rest h wn = stands_next shape words _ idle 1 n rest _ idle 2 h wn refl refl refl
  at_first (word f) words n rest h wn = stands_next shape words _ idle 1 n rest _ idle 2 h wn refl refl refl

  -- the walk after one log
  at_log : (file : Option Text) (words : List Text) (n v : Text) (rest : List Text) → Stands shape words (reading (prefs_rows file) (codes "first") n) idle 2 (v ∷ rest)
      → is_plain v ≡ true → Stands shape words (held file n [] v) positional 2 rest
  at_log None words n v rest h wv = stands_next shape words _ idle 2 v rest _ positional 2 h wv refl refl refl
  at_log (Some f) words n v rest h wv = stands_next shape words _ idle 2 v rest _ positional 2 h wv refl refl refl

  -- one more
  more : (file : Option Text) (n : Text) (vs : List Text) (v w : Text)
      → to_positional shape.rules (arg_by_index shape.rules 2) w (standing (held file n vs v) positional 2) (held file n vs v) ≡ standing (held file n (vs ++ v ∷ []) w) positional 2
  more None n [] v w = refl
  more None n (x ∷ xs) v w = refl
  more (Some f) n [] v w = refl
  more (Some f) n (x ∷ xs) v w = refl

  passes : (file : Option Text) (n : Text) (vs : List Text) (v : Text) → step_fault shape 2 (held file n vs v) value ≡ []
  passes file n vs v = refl

  -- enough
  ends : (file : Option Text) (n : Text) (vs : List Text) (v : Text) → end_fault shape (held file n vs v) ≡ []
  unfolding clap_on_literals
  ends None n [] v = refl
  ends None n (x ∷ xs) v = refl
  ends (Some f) n [] v = refl
  ends (Some f) n (x ∷ xs) v = refl

  -- too few
  short0 : (o : Opening) → end_fault shape (opened o) ≡ kind.MissingRequiredArgument ∷ []
  unfolding clap_on_literals
  short0 plain = refl
  short0 (equals f) = refl
  short0 (word f) = refl

  short1 : (file : Option Text) (n : Text) → end_fault shape (reading (prefs_rows file) (codes "first") n) ≡ kind.MissingRequiredArgument ∷ []
  unfolding clap_on_literals
  short1 None n = refl
  short1 (Some f) n = refl

  -- the values that clap gives
  abbrev Values : Type 0
  Values = Option Text × Option Text × Option (List Text)

  abbrev values : List Row → Values
  values rows = (first_of (codes "prefs") rows, first_of (codes "first") rows, all_of (codes "logs") rows)

  values_at : (file : Option Text) (n : Text) (vs : List Text) (v : Text) → values (finished shape.rules (held file n vs v)) ≡ (file, Some n, Some (vs ++ v ∷ []))
  values_at None n [] v = refl
  values_at None n (x ∷ xs) v = refl
  values_at (Some f) n [] v = refl
  values_at (Some f) n (x ∷ xs) v = refl

  -- and with them the file and the operands
  abbrev Found : Type 0
  Found = Option (Option Text × List Text)

  abbrev joined : Values → Found
  joined v = file_first_and_texts v.0 v.1 v.2

  abbrev read : List Row → Found
  read rows = joined (values rows)

  -- clap takes a first operand and a log and more, and gives them and the file
  taken : (o : Opening) (words : List Text) (n v : Text) (rest : List Text) → list_all is_plain (n ∷ v ∷ rest) ≡ true → Stands shape words (opened o) idle 1 (n ∷ v ∷ rest)
      → (faults_at (first_logs_app name) words ≡ []) × (read (rows_at (first_logs_app name) words) ≡ Some (file_of o, n ∷ v ∷ rest))
  taken o words n v rest all h =
      let p = both _ _ all in
      let q = both _ _ p.1 in
      let file = file_of o in
      let r = stands_repeated shape words 2 (held file n) (passes file n) (more file n) v rest (at_log file words n v rest (at_first o words n (v ∷ rest) h p.0) q.0) q.1 in (
        stands_fault shape words (held file n r.0 r.1) positional 2 r.3 ∙ ends file n r.0 r.1,
        ap joined (ap values (stands_walk shape words (held file n r.0 r.1) positional 2 r.3) ∙ values_at file n r.0 r.1)
            ∙ ap (λ (logs : List Text). let x : Found = Some (file, n ∷ logs) in x) r.2,
      )

  exact_of : (o : Opening) (rest words : List Text) → spelled o rest ≡ words → Stands shape (spelled o rest) (opened o) idle 1 rest → list_all is_plain rest ≡ true
      → faults_at (first_logs_app name) words ≡ [] → Some (file_of o, rest) ≡ read (rows_at (first_logs_app name) words)
  exact_of o [] words spelt h all free =
      absurd (some_kind _ _ _ (ap (faults_at (first_logs_app name)) (sym spelt) ∙ stands_fault shape (spelled o []) (opened o) idle 1 h ∙ short0 o) free)
  exact_of o (n ∷ []) words spelt h all free =
      let after = at_first o (spelled o (n ∷ [])) n [] h (both _ _ all).0 in
      absurd (some_kind _ _ _ (ap (faults_at (first_logs_app name)) (sym spelt) ∙ stands_fault shape (spelled o (n ∷ [])) _ idle 2 after ∙ short1 (file_of o) n) free)
  exact_of o (n ∷ v ∷ rest) words spelt h all free =
      sym (ap (λ w. read (rows_at (first_logs_app name) w)) (sym spelt) ∙ (taken o (spelled o (n ∷ v ∷ rest)) n v rest all h).1)

  none_of : (o : Opening) (rest words : List Text) → spelled o rest ≡ words → Stands shape (spelled o rest) (opened o) idle 1 rest → list_all is_plain rest ≡ true
      → parts_of (numbered 1 words) ≡ Some (placed o, numbered (suc (skipped o)) rest) → (faults_at (first_logs_app name) words ≡ [] → ⊥) → prefs_first_logs (numbered 1 words) ≡ None
  none_of o [] words spelt h all is fails = rw is refl
  none_of o (n ∷ []) words spelt h all is fails = rw is refl
  none_of o (n ∷ v ∷ rest) words spelt h all is fails =
      absurd (fails (ap (faults_at (first_logs_app name)) (sym spelt) ∙ (taken o (spelled o (n ∷ v ∷ rest)) n v rest all h).0))

  -- where clap finds no fault in words that have parts, the values that it gives are their texts
  pub first_logs_exact : (words : List Text) → is_some (parts_of (numbered 1 words)) ≡ true → faults_at (first_logs_app name) words ≡ []
      → option_map part_texts (parts_of (numbered 1 words)) ≡ read (rows_at (first_logs_app name) words)
  first_logs_exact words e free =
      let p = parted words e in
      texts_placed words p ∙ exact_of p.opening p.rest words p.spelt (stands_opened shape has_prefs p.opening p.rest p.file) p.all free

  -- and where it finds one, there is no first operand with a log
  pub first_logs_none : (words : List Text) → is_some (parts_of (numbered 1 words)) ≡ true → (faults_at (first_logs_app name) words ≡ [] → ⊥) → prefs_first_logs (numbered 1 words) ≡ None
  first_logs_none words e fails =
      let p = parted words e in
      none_of p.opening p.rest words p.spelt (stands_opened shape has_prefs p.opening p.rest p.file) p.all p.is fails
