-- The command NAME [--prefs FILE] LOG...
use Rattle.std.proofs.Common.{◌≡◌, ◌∙◌, suc, true, refl, sym, ap, List, [], ◌∷◌, ◌++◌, Option, Some, None, is_some, option_map}
use Rattle.std.specs.List.{list_all}
use Rattle.std.specs.Prelude.{codes}
use Rattle.clap.specs.Walk.{Held, Row, all_of, arg_by_index, first_of, finished, idle, positional, to_positional, value}
use Rattle.clap.specs.Simple.{Shape, built}
use Rattle.clap.specs.Faults.{step_fault}
use Rattle.clap.specs.declared.error.kind.ErrorKind.TheVariants as kind
use Rattle.clap.proofs.OnLiterals.{clap_on_literals}
use Rattle.clap.proofs.WalkLemmas.{both}
use Rattle.tool_words.specs.Words.{Text, is_plain, numbered}
use Rattle.tool_words.specs.Logs.{file_and_texts, parts_of, part_texts, prefs_logs}
use Rattle.tool_words.specs.Apps.{logs_app}
use Rattle.tool_words.proofs.Walks.{Stands, end_fault, faults_at, reading, row, rows_at, some_kind, standing, stands_fault, stands_next, stands_walk}
use Rattle.tool_words.proofs.Repeats.{stands_repeated}
use Rattle.tool_words.proofs.PrefsOption.{HasPrefs, Opening, equals, file_of, opened, parted, placed, plain, prefs_rows, skipped, spelled, stands_opened, texts_placed, word}

module _ (name : Text) where
  -- the rules of the app, as clap builds it
  abbrev shape : Shape
  shape = (built (logs_app name)).top

  has_prefs : HasPrefs shape
  unfolding clap_on_literals
  has_prefs = record {
    by_equals = λ file rest. record { walks = refl; faults = refl };
    by_word = λ rest. record { walks = refl; faults = refl };
    value = λ file. refl;
  }

  -- the row of the logs that were read
  abbrev log_rows : List Text → List Row
  log_rows [] = []
  log_rows (v ∷ vs) = row (codes "logs") (v ∷ vs) ∷ []

  -- what is held after them, with one more that is pending
  abbrev held : Option Text → List Text → Text → Held
  held file vs v = reading (prefs_rows file ++ log_rows vs) (codes "logs") v

  -- the walk after the first log
  at_log : (o : Opening) (words : List Text) (v : Text) (rest : List Text) → Stands shape words (opened o) idle 1 (v ∷ rest) → is_plain v ≡ true
      → Stands shape words (held (file_of o) [] v) positional 1 rest
  at_log plain words v rest h wv = stands_next shape words _ idle 1 v rest _ positional 1 h wv refl refl refl
  at_log (equals f) words v rest h wv = stands_next shape words _ idle 1 v rest _ positional 1 h wv refl refl refl
  at_log (word f) words v rest h wv = stands_next shape words _ idle 1 v rest _ positional 1 h wv refl refl refl

  -- one more
  more : (file : Option Text) (vs : List Text) (v w : Text)
      → to_positional shape.rules (arg_by_index shape.rules 1) w (standing (held file vs v) positional 1) (held file vs v) ≡ standing (held file (vs ++ v ∷ []) w) positional 1
  more None [] v w = refl
  more None (x ∷ xs) v w = refl
  more (Some f) [] v w = refl
  more (Some f) (x ∷ xs) v w = refl

  passes : (file : Option Text) (vs : List Text) (v : Text) → step_fault shape 1 (held file vs v) value ≡ []
  passes file vs v = refl

  -- enough
  ends : (file : Option Text) (vs : List Text) (v : Text) → end_fault shape (held file vs v) ≡ []
  unfolding clap_on_literals
  ends None [] v = refl
  ends None (x ∷ xs) v = refl
  ends (Some f) [] v = refl
  ends (Some f) (x ∷ xs) v = refl

  -- too few
  short : (o : Opening) → end_fault shape (opened o) ≡ kind.MissingRequiredArgument ∷ []
  unfolding clap_on_literals
  short plain = refl
  short (equals f) = refl
  short (word f) = refl

  -- the values that clap gives
  abbrev Found : Type 0
  Found = Option (Option Text × List Text)

  abbrev read : List Row → Found
  read rows = file_and_texts (first_of (codes "prefs") rows) (all_of (codes "logs") rows)

  read_at : (file : Option Text) (vs : List Text) (v : Text) → read (finished shape.rules (held file vs v)) ≡ Some (file, vs ++ v ∷ [])
  read_at None [] v = refl
  read_at None (x ∷ xs) v = refl
  read_at (Some f) [] v = refl
  read_at (Some f) (x ∷ xs) v = refl

  -- clap takes a log and more, and gives them and the file
  taken : (o : Opening) (words : List Text) (v : Text) (rest : List Text) → list_all is_plain (v ∷ rest) ≡ true → Stands shape words (opened o) idle 1 (v ∷ rest)
      → (faults_at (logs_app name) words ≡ []) × (read (rows_at (logs_app name) words) ≡ Some (file_of o, v ∷ rest))
  taken o words v rest all h =
      let p = both _ _ all in
      let file = file_of o in
      let r = stands_repeated shape words 1 (held file) (passes file) (more file) v rest (at_log o words v rest h p.0) p.1 in (
        stands_fault shape words (held file r.0 r.1) positional 1 r.3 ∙ ends file r.0 r.1,
        ap read (stands_walk shape words (held file r.0 r.1) positional 1 r.3) ∙ read_at file r.0 r.1 ∙ ap (λ (logs : List Text). let x : Found = Some (file, logs) in x) r.2,
      )

  exact_of : (o : Opening) (rest words : List Text) → spelled o rest ≡ words → Stands shape (spelled o rest) (opened o) idle 1 rest → list_all is_plain rest ≡ true
      → faults_at (logs_app name) words ≡ [] → Some (file_of o, rest) ≡ read (rows_at (logs_app name) words)
  exact_of o [] words spelt h all free =
      absurd (some_kind _ _ _ (ap (faults_at (logs_app name)) (sym spelt) ∙ stands_fault shape (spelled o []) (opened o) idle 1 h ∙ short o) free)
  exact_of o (v ∷ rest) words spelt h all free =
      sym (ap (λ w. read (rows_at (logs_app name) w)) (sym spelt) ∙ (taken o (spelled o (v ∷ rest)) v rest all h).1)

  none_of : (o : Opening) (rest words : List Text) → spelled o rest ≡ words → Stands shape (spelled o rest) (opened o) idle 1 rest → list_all is_plain rest ≡ true
      → parts_of (numbered 1 words) ≡ Some (placed o, numbered (suc (skipped o)) rest) → (faults_at (logs_app name) words ≡ [] → ⊥) → prefs_logs (numbered 1 words) ≡ None
  none_of o [] words spelt h all is fails = rw is refl
  none_of o (v ∷ rest) words spelt h all is fails =
      absurd (fails (ap (faults_at (logs_app name)) (sym spelt) ∙ (taken o (spelled o (v ∷ rest)) v rest all h).0))

  -- where clap finds no fault in words that have parts, the values that it gives are their texts
  pub logs_exact : (words : List Text) → is_some (parts_of (numbered 1 words)) ≡ true → faults_at (logs_app name) words ≡ []
      → option_map part_texts (parts_of (numbered 1 words)) ≡ read (rows_at (logs_app name) words)
  logs_exact words e free =
      let p = parted words e in
      texts_placed words p ∙ exact_of p.opening p.rest words p.spelt (stands_opened shape has_prefs p.opening p.rest p.file) p.all free

  -- and where it finds one, there is no log
  pub logs_none : (words : List Text) → is_some (parts_of (numbered 1 words)) ≡ true → (faults_at (logs_app name) words ≡ [] → ⊥) → prefs_logs (numbered 1 words) ≡ None
  logs_none words e fails =
      let p = parted words e in
      none_of p.opening p.rest words p.spelt (stands_opened shape has_prefs p.opening p.rest p.file) p.all p.is fails
