-- The lines of a log.
use Rattle.std.proofs.Common.{◌≡◌, ◌≢◌, ℕ, List, [], ◌∷◌, length, refl, ap, sym, ◌∙◌, Option, Some, None, Err, arith, Bor}
use Rattle.sync_command.specs.declared.values.Version.{Version}
use Rattle.log_text.specs.declared.faults.TextKind.TheVariants as kind
use Rattle.log_text.specs.declared.frame.Fields.{Fields}
use Rattle.log_text.specs.declared.frame.Fields.TheVariants as fields
use Rattle.log_text.specs.Frame.{end_number}
use Rattle.log_text.specs.Reading.{AreFields}
use Rattle.log_text.specs.Logs.{change_of}

-- a line that has not three fields
pub not_three : (version : Version) (k : ℕ) (ps : List (List ℕ)) → length ps ≢ 3 → change_of version k ps ≡ Err kind.Fields
unfolding change_of
not_three version k [] h = refl
not_three version k (a ∷ []) h = refl
not_three version k (a ∷ b ∷ []) h = refl
not_three version k (a ∷ b ∷ c ∷ []) h = absurd (h refl)
not_three version k (a ∷ b ∷ c ∷ d ∷ ps) h = refl

-- neither an end line nor three fields, as a fault
pub no_three : (version : Version) (k : ℕ) (fs : Fields) (ps : List (List ℕ)) → AreFields fs ps → end_number ps ≡ None → ((a b c : Bor (List ℕ)) → fs ≡ fields.Three a b c → ⊥) → change_of version k ps ≡ Err kind.Fields
no_three version k (fields.End n) ps h e t = absurd (some_not_none n.now (sym h ∙ e))
  where
    some_not_none : (n : List ℕ) → ◌≡◌ {A = Option (List ℕ)} (Some n) None → ⊥
    some_not_none n e = cc
no_three version k (fields.Two a b) ps (n, h) e t = let count : length ps ≡ 2 = ap length h in not_three version k ps (λ three. omega arith)
no_three version k (fields.Three a b c) ps h e t = absurd (t a b c refl)
no_three version k fields.Other ps h e t = not_three version k ps h.2
