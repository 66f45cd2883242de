-- The fields of a line, and the rules of a text that was read.
use Rattle.std.proofs.Common.{◌≡◌, ◌≢◌, ℕ, List, [], ◌∷◌, length, refl, ap, sym, subst, ◌∙◌, Option, Some, None, Err, Result, Bor}
use Rattle.sync_path.specs.Reading.{path_of}
use Rattle.log_text.specs.declared.faults.TextFault.{TextFault}
use Rattle.log_text.specs.declared.faults.TextKind.TheVariants as kind
use Rattle.log_text.specs.declared.faults.LineFault.{LineFault}
use Rattle.log_text.specs.declared.faults.LogFault.{LogFault}
use Rattle.log_text.specs.declared.faults.LogFault.TheVariants as fault
use Rattle.log_text.specs.declared.frame.Fields.{Fields}
use Rattle.log_text.specs.declared.frame.Fields.TheVariants as fields
use Rattle.log_text.specs.Frame.{end_number}
use Rattle.log_text.specs.Reading.{AreFields, GivesLine, FailsText}
use Rattle.pref_list.specs.declared.rules.Rule.{Rule}
use Rattle.pref_list.specs.Prefs.{log_number, of_log, of_place, rule_of, without_head}

pub two_fields : (before : List Rule) (fs : Fields) (ps : List (List ℕ)) (a b : Bor (List ℕ)) (r : Result Rule LineFault) → fs ≡ fields.Two a b → AreFields fs ps
    → GivesLine r (of_log before a.now (log_number b.now)) → GivesLine r (rule_of before ps)
unfolding rule_of
two_fields before fs ps a b r is h g =
    let f : AreFields (fields.Two a b) ps = subst (λ fs. AreFields fs ps) is h in
    subst (λ qs. GivesLine r (rule_of before qs)) (sym f.1) g

pub three_fields : (before : List Rule) (fs : Fields) (ps : List (List ℕ)) (a b c : Bor (List ℕ)) (r : Result Rule LineFault) → fs ≡ fields.Three a b c → AreFields fs ps
    → GivesLine r (of_place before a.now (log_number b.now) (path_of c.now)) → GivesLine r (rule_of before ps)
unfolding rule_of
three_fields before fs ps a b c r is h g =
    let f : AreFields (fields.Three a b c) ps = subst (λ fs. AreFields fs ps) is h in
    subst (λ qs. GivesLine r (rule_of before qs)) (sym f) g

other_count : (before : List Rule) (ps : List (List ℕ)) → length ps ≢ 2 → length ps ≢ 3 → rule_of before ps ≡ Err kind.Fields
unfolding rule_of
other_count before [] two three = refl
other_count before (a ∷ []) two three = refl
other_count before (a ∷ b ∷ []) two three = absurd (two refl)
other_count before (a ∷ b ∷ c ∷ []) two three = absurd (three refl)
other_count before (a ∷ b ∷ c ∷ d ∷ ps) two three = refl

-- neither an end line nor two or three fields, as a fault
pub other_fields : (before : List Rule) (fs : Fields) (ps : List (List ℕ)) → AreFields fs ps → end_number ps ≡ None → ((a b : Bor (List ℕ)) → fs ≡ fields.Two a b → ⊥) → ((a b c : Bor (List ℕ)) → fs ≡ fields.Three a b c → ⊥)
    → rule_of before ps ≡ Err kind.Fields
other_fields before (fields.End n) ps h e two three = absurd (some_not_none n.now (sym h ∙ e))
  where
    some_not_none : (n : List ℕ) → ◌≡◌ {A = Option (List ℕ)} (Some n) None → ⊥
    some_not_none n e = cc
other_fields before (fields.Two a b) ps h e two three = absurd (two a b refl)
other_fields before (fields.Three a b c) ps h e two three = absurd (three a b c refl)
other_fields before fields.Other ps h e two three = other_count before ps h.1 h.2

pub fails_without_head : (e : LogFault) (read : Result (Unit {0} × List Rule) TextFault) → FailsText e read → FailsText e (without_head read)
fails_without_head (fault.Text f) read h = ap without_head h
fails_without_head fault.Memory read h = tt
