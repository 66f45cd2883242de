-- Two needs are incompatible exactly where no value meets both.
use Rattle.std.proofs.Common.{◌≡◌, ◌↔◌, Bool, true, false, IsTrue, refl, sym}
use Rattle.sync_command.specs.declared.values.Value.{Value}
use Rattle.sync_command.specs.Values.{is_dir, same_value}
use Rattle.refluent.specs.Needs.{Need, Anything, AnyDirectory, Exactly, meets, are_incompatible}
use Rattle.refluent.specs.CommonTrees.{both_needs, least_value}
use Rattle.refluent.proofs.Least.{met_first, not_false}
use Rattle.refluent.proofs.Needs.{met_together}
use Rattle.sync_command.proofs.CallerLemmas.{same_value_is, same_value_refl, same_value_at}

met_second : (m n : Need) → are_incompatible m n ≡ false → meets n (least_value (both_needs m n)) ≡ true
met_second Anything Anything e = refl
met_second Anything AnyDirectory e = refl
met_second Anything (Exactly w) e = same_value_refl w
met_second AnyDirectory Anything e = refl
met_second AnyDirectory AnyDirectory e = refl
met_second AnyDirectory (Exactly w) e = same_value_refl w
met_second (Exactly v) Anything e = refl
met_second (Exactly v) AnyDirectory e = not_false (is_dir v) e
met_second (Exactly v) (Exactly w) e = same_value_at w v (sym (same_value_is v w (not_false (same_value v w) e)))

pub incompatible_law : (m n : Need) → IsTrue (are_incompatible m n) ↔ ((v : Value) → IsTrue (meets m v) → IsTrue (meets n v) → ⊥)
incompatible_law m n = (λ e v a b. let f : are_incompatible m n ≡ false = met_together m n v a b in cc (e, f), λ none. go (are_incompatible m n) refl none)
  where
    go : (b : Bool) → are_incompatible m n ≡ b → ((v : Value) → IsTrue (meets m v) → IsTrue (meets n v) → ⊥) → are_incompatible m n ≡ true
    go true e none = e
    go false e none = absurd (none (least_value (both_needs m n)) (met_first m n e) (met_second m n e))
