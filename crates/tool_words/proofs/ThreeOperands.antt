-- The command NAME FIRST SECOND THIRD.
use Rattle.std.proofs.Common.{◌≡◌, true, refl, sym, ap, List, [], ◌∷◌, Option, None, is_some}
use Rattle.std.specs.List.{list_all}
use Rattle.std.specs.Prelude.{codes}
use Rattle.clap.specs.Walk.{Row, Text, first_of, idle}
use Rattle.clap.specs.Simple.{Shape, built}
use Rattle.clap.specs.declared.error.kind.ErrorKind.TheVariants as kind
use Rattle.clap.proofs.OnLiterals.{clap_on_literals}
use Rattle.clap.proofs.WalkLemmas.{both}
use Rattle.tool_words.specs.Words.{is_plain, triple_of, all_three_of}
use Rattle.tool_words.specs.Apps.{three_operand_app}
use Rattle.tool_words.proofs.Walks.{Stands, faults_at, reading, row, rows_at, some_kind, stands_fault, stands_first, stands_next, stands_stray, stands_walk}

module _ (name : Text) where
  -- the rules of the app, as clap builds it
  abbrev shape : Shape
  shape = (built (three_operand_app name)).top

  -- the walk after one operand
  at1 : (a : Text) (rest : List Text) → is_plain a ≡ true → Stands shape (a ∷ rest) (reading [] (codes "first") a) idle 2 rest
  at1 a rest wa = stands_next shape (a ∷ rest) _ idle 1 a rest _ idle 2 (stands_first shape (a ∷ rest)) wa refl refl refl

  -- the walk after two operands
  at2 : (a b : Text) (rest : List Text) → is_plain a ≡ true → is_plain b ≡ true
      → Stands shape (a ∷ b ∷ rest) (reading (row (codes "first") (a ∷ []) ∷ []) (codes "second") b) idle 3 rest
  at2 a b rest wa wb = stands_next shape (a ∷ b ∷ rest) _ idle 2 b rest _ idle 3 (at1 a (b ∷ rest) wa) wb refl refl refl

  -- the walk after three operands
  at3 : (a b c : Text) (rest : List Text) → is_plain a ≡ true → is_plain b ≡ true → is_plain c ≡ true
      → Stands shape (a ∷ b ∷ c ∷ rest) (reading (row (codes "first") (a ∷ []) ∷ row (codes "second") (b ∷ []) ∷ []) (codes "third") c) idle 4 rest
  at3 a b c rest wa wb wc = stands_next shape (a ∷ b ∷ c ∷ rest) _ idle 3 c rest _ idle 4 (at2 a b (c ∷ rest) wa wb) wc refl refl refl

  -- too few
  short0 : faults_at (three_operand_app name) [] ≡ kind.MissingRequiredArgument ∷ []
  unfolding clap_on_literals
  short0 = stands_fault shape [] _ idle 1 (stands_first shape [])

  short1 : (a : Text) → is_plain a ≡ true → faults_at (three_operand_app name) (a ∷ []) ≡ kind.MissingRequiredArgument ∷ []
  unfolding clap_on_literals
  short1 a wa = stands_fault shape (a ∷ []) _ idle 2 (at1 a [] wa)

  short2 : (a b : Text) → is_plain a ≡ true → is_plain b ≡ true → faults_at (three_operand_app name) (a ∷ b ∷ []) ≡ kind.MissingRequiredArgument ∷ []
  unfolding clap_on_literals
  short2 a b wa wb = stands_fault shape (a ∷ b ∷ []) _ idle 3 (at2 a b [] wa wb)

  -- enough
  taken : (a b c : Text) → is_plain a ≡ true → is_plain b ≡ true → is_plain c ≡ true → faults_at (three_operand_app name) (a ∷ b ∷ c ∷ []) ≡ []
  unfolding clap_on_literals
  taken a b c wa wb wc = stands_fault shape (a ∷ b ∷ c ∷ []) _ idle 4 (at3 a b c [] wa wb wc)

  -- too many
  long : (a b c d : Text) (rest : List Text) → is_plain a ≡ true → is_plain b ≡ true → is_plain c ≡ true → is_plain d ≡ true
      → faults_at (three_operand_app name) (a ∷ b ∷ c ∷ d ∷ rest) ≡ kind.UnknownArgument ∷ []
  long a b c d rest wa wb wc wd =
      stands_stray shape (a ∷ b ∷ c ∷ d ∷ rest) _ idle 4 d rest kind.UnknownArgument [] (at3 a b c (d ∷ rest) wa wb wc) wd refl refl

  -- the three values that clap gives
  abbrev values : List Row → Option (Text × Text × Text)
  values rows = all_three_of (first_of (codes "first") rows) (first_of (codes "second") rows) (first_of (codes "third") rows)

  abbrev read : List Text → Option (Text × Text × Text)
  read rest = values (rows_at (three_operand_app name) rest)

  -- where clap finds no fault there are three operands, and the values that it gives are those
  pub three_exact : (rest : List Text) → list_all is_plain rest ≡ true → faults_at (three_operand_app name) rest ≡ []
      → (is_some (triple_of rest) ≡ true) × (triple_of rest ≡ read rest)
  three_exact [] e free = absurd (some_kind _ _ _ short0 free)
  three_exact (a ∷ []) e free = absurd (some_kind _ _ _ (short1 a (both _ _ e).0) free)
  three_exact (a ∷ b ∷ []) e free =
      let p = both _ _ e in
      absurd (some_kind _ _ _ (short2 a b p.0 (both _ _ p.1).0) free)
  three_exact (a ∷ b ∷ c ∷ []) e free =
      let p = both _ _ e in
      let q = both _ _ p.1 in
      let r = both _ _ q.1 in
      (refl, sym (ap values (stands_walk shape (a ∷ b ∷ c ∷ []) _ idle 4 (at3 a b c [] p.0 q.0 r.0))))
  three_exact (a ∷ b ∷ c ∷ d ∷ rest) e free =
      let p = both _ _ e in
      let q = both _ _ p.1 in
      let r = both _ _ q.1 in
      absurd (some_kind _ _ _ (long a b c d rest p.0 q.0 r.0 (both _ _ r.1).0) free)

  -- and where it finds one, there are not three operands
  pub three_none : (rest : List Text) → list_all is_plain rest ≡ true → (faults_at (three_operand_app name) rest ≡ [] → ⊥) → triple_of rest ≡ None
  three_none [] e fails = refl
  three_none (a ∷ []) e fails = refl
  three_none (a ∷ b ∷ []) e fails = refl
  three_none (a ∷ b ∷ c ∷ []) e fails =
      let p = both _ _ e in
      let q = both _ _ p.1 in
      absurd (fails (taken a b c p.0 q.0 (both _ _ q.1).0))
  three_none (a ∷ b ∷ c ∷ d ∷ rest) e fails = refl
