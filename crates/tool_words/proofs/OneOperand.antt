-- The command NAME FIRST.
use Rattle.std.proofs.Common.{◌≡◌, true, refl, sym, ap, List, [], ◌∷◌, None, is_some}
use Rattle.std.specs.List.{list_all}
use Rattle.std.specs.Prelude.{codes}
use Rattle.clap.specs.Walk.{Text, first_of, idle}
use Rattle.clap.specs.Simple.{Shape, built}
use Rattle.clap.specs.declared.error.kind.ErrorKind.TheVariants as kind
use Rattle.clap.proofs.OnLiterals.{clap_on_literals}
use Rattle.clap.proofs.WalkLemmas.{both}
use Rattle.tool_words.specs.Words.{is_plain, only_of}
use Rattle.tool_words.specs.Apps.{one_operand_app}
use Rattle.tool_words.proofs.Walks.{Stands, faults_at, reading, rows_at, some_kind, stands_fault, stands_first, stands_next, stands_stray, stands_walk}

module _ (name : Text) where
  -- the rules of the app, as clap builds it
  abbrev shape : Shape
  shape = (built (one_operand_app name)).top

  -- the walk after one operand
  at1 : (a : Text) (rest : List Text) → is_plain a ≡ true → Stands shape (a ∷ rest) (reading [] (codes "first") a) idle 2 rest
  at1 a rest wa = stands_next shape (a ∷ rest) _ idle 1 a rest _ idle 2 (stands_first shape (a ∷ rest)) wa refl refl refl

  -- too few
  short : faults_at (one_operand_app name) [] ≡ kind.MissingRequiredArgument ∷ []
  unfolding clap_on_literals
  short = stands_fault shape [] _ idle 1 (stands_first shape [])

  -- enough
  taken : (a : Text) → is_plain a ≡ true → faults_at (one_operand_app name) (a ∷ []) ≡ []
  unfolding clap_on_literals
  taken a wa = stands_fault shape (a ∷ []) _ idle 2 (at1 a [] wa)

  -- too many
  long : (a b : Text) (rest : List Text) → is_plain a ≡ true → is_plain b ≡ true → faults_at (one_operand_app name) (a ∷ b ∷ rest) ≡ kind.UnknownArgument ∷ []
  long a b rest wa wb = stands_stray shape (a ∷ b ∷ rest) _ idle 2 b rest kind.UnknownArgument [] (at1 a (b ∷ rest) wa) wb refl refl

  -- where clap finds no fault there is one operand, and the value that it gives is that
  pub one_exact : (rest : List Text) → list_all is_plain rest ≡ true → faults_at (one_operand_app name) rest ≡ []
      → (is_some (only_of rest) ≡ true) × (only_of rest ≡ first_of (codes "first") (rows_at (one_operand_app name) rest))
  one_exact [] e free = absurd (some_kind _ _ _ short free)
  one_exact (a ∷ []) e free = (refl, sym (ap (first_of (codes "first")) (stands_walk shape (a ∷ []) _ idle 2 (at1 a [] (both _ _ e).0))))
  one_exact (a ∷ b ∷ rest) e free =
      let p = both _ _ e in
      absurd (some_kind _ _ _ (long a b rest p.0 (both _ _ p.1).0) free)

  -- and where it finds one, there is not one operand
  pub one_none : (rest : List Text) → list_all is_plain rest ≡ true → (faults_at (one_operand_app name) rest ≡ [] → ⊥) → only_of rest ≡ None
  one_none [] e fails = refl
  one_none (a ∷ []) e fails = absurd (fails (taken a (both _ _ e).0))
  one_none (a ∷ b ∷ rest) e fails = refl
