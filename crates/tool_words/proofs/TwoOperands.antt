-- The command NAME FIRST SECOND.
use Rattle.std.proofs.Common.{◌≡◌, true, refl, sym, ap, List, [], ◌∷◌, Option, None, is_some}
use Rattle.std.specs.List.{list_all}
use Rattle.std.specs.Prelude.{codes}
use Rattle.clap.specs.Walk.{Text, first_of, idle}
use Rattle.clap.specs.Simple.{Shape, built}
use Rattle.clap.specs.declared.error.kind.ErrorKind.TheVariants as kind
use Rattle.clap.proofs.OnLiterals.{clap_on_literals}
use Rattle.clap.proofs.WalkLemmas.{both}
use Rattle.tool_words.specs.Words.{is_plain, pair_of, both_of}
use Rattle.tool_words.specs.Apps.{two_operand_app}
use Rattle.tool_words.proofs.Walks.{Stands, faults_at, reading, row, rows_at, some_kind, stands_fault, stands_first, stands_next, stands_stray, stands_walk}

module _ (name : Text) where
  -- the rules of the app, as clap builds it
  abbrev shape : Shape
  shape = (built (two_operand_app name)).top

  -- the walk after one operand
  at1 : (a : Text) (rest : List Text) → is_plain a ≡ true → Stands shape (a ∷ rest) (reading [] (codes "first") a) idle 2 rest
  at1 a rest wa = stands_next shape (a ∷ rest) _ idle 1 a rest _ idle 2 (stands_first shape (a ∷ rest)) wa refl refl refl

  -- the walk after two operands
  at2 : (a b : Text) (rest : List Text) → is_plain a ≡ true → is_plain b ≡ true
      → Stands shape (a ∷ b ∷ rest) (reading (row (codes "first") (a ∷ []) ∷ []) (codes "second") b) idle 3 rest
  at2 a b rest wa wb = stands_next shape (a ∷ b ∷ rest) _ idle 2 b rest _ idle 3 (at1 a (b ∷ rest) wa) wb refl refl refl

  -- too few
  short0 : faults_at (two_operand_app name) [] ≡ kind.MissingRequiredArgument ∷ []
  unfolding clap_on_literals
  short0 = stands_fault shape [] _ idle 1 (stands_first shape [])

  short1 : (a : Text) → is_plain a ≡ true → faults_at (two_operand_app name) (a ∷ []) ≡ kind.MissingRequiredArgument ∷ []
  unfolding clap_on_literals
  short1 a wa = stands_fault shape (a ∷ []) _ idle 2 (at1 a [] wa)

  -- enough
  taken : (a b : Text) → is_plain a ≡ true → is_plain b ≡ true → faults_at (two_operand_app name) (a ∷ b ∷ []) ≡ []
  unfolding clap_on_literals
  taken a b wa wb = stands_fault shape (a ∷ b ∷ []) _ idle 3 (at2 a b [] wa wb)

  -- too many
  long : (a b c : Text) (rest : List Text) → is_plain a ≡ true → is_plain b ≡ true → is_plain c ≡ true
      → faults_at (two_operand_app name) (a ∷ b ∷ c ∷ rest) ≡ kind.UnknownArgument ∷ []
  long a b c rest wa wb wc = stands_stray shape (a ∷ b ∷ c ∷ rest) _ idle 3 c rest kind.UnknownArgument [] (at2 a b (c ∷ rest) wa wb) wc refl refl

  -- the two values that clap gives
  abbrev read : List Text → Option (Text × Text)
  read rest = both_of (first_of (codes "first") (rows_at (two_operand_app name) rest)) (first_of (codes "second") (rows_at (two_operand_app name) rest))

  -- where clap finds no fault there are two operands, and the values that it gives are those
  pub two_exact : (rest : List Text) → list_all is_plain rest ≡ true → faults_at (two_operand_app name) rest ≡ []
      → (is_some (pair_of rest) ≡ true) × (pair_of rest ≡ read rest)
  two_exact [] e free = absurd (some_kind _ _ _ short0 free)
  two_exact (a ∷ []) e free = absurd (some_kind _ _ _ (short1 a (both _ _ e).0) free)
  two_exact (a ∷ b ∷ []) e free =
      let p = both _ _ e in
      let q = both _ _ p.1 in
      (refl, sym (ap (λ rows. both_of (first_of (codes "first") rows) (first_of (codes "second") rows)) (stands_walk shape (a ∷ b ∷ []) _ idle 3 (at2 a b [] p.0 q.0))))
  two_exact (a ∷ b ∷ c ∷ rest) e free =
      let p = both _ _ e in
      let q = both _ _ p.1 in
      absurd (some_kind _ _ _ (long a b c rest p.0 q.0 (both _ _ q.1).0) free)

  -- and where it finds one, there are not two operands
  pub two_none : (rest : List Text) → list_all is_plain rest ≡ true → (faults_at (two_operand_app name) rest ≡ [] → ⊥) → pair_of rest ≡ None
  two_none [] e fails = refl
  two_none (a ∷ []) e fails = refl
  two_none (a ∷ b ∷ []) e fails =
      let p = both _ _ e in
      absurd (fails (taken a b p.0 (both _ _ p.1).0))
  two_none (a ∷ b ∷ c ∷ rest) e fails = refl
