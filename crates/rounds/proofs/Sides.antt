-- The log of a side, and the first merger as a set that has a transition.
use Rattle.std.proofs.Common.{◌≡◌, ◌<◌, ◌≤◌, ℕ, List, ap, ◌∙◌, arith}
use Rattle.sync_command.specs.Changes.{Change}
use Rattle.refluent.specs.Drawn.{drawn_of}
use Rattle.refluent.specs.Joints.{IsJoint, Joined}
use Rattle.refluent.specs.Sets.{IsSubset, is_in}
use Rattle.refluent.proofs.CallerLemmas.{drawn_is}
use Rattle.pref_list.specs.declared.rules.Rule.{Rule}
use Rattle.merge_core.specs.FirstMergers.{IsFirstMergerOf}
use Rattle.transition.specs.Transitions.{FitsCommonTrees}
use Rattle.rounds.specs.Rebasing.{log_number}
use Rattle.rounds.specs.declared.rebasing.Side.{Side}
use Rattle.rounds.specs.declared.rebasing.Side.TheVariants.{Next, Tree}

-- one of two logs
pub side_log : (side : Side) (number many : ℕ) → number ≡ log_number side → many ≡ 2 → (0 < number) × (number ≤ many)
side_log Tree number many is two = (omega arith, omega arith)
side_log Next number many is two = (omega arith, omega arith)

module _ (j : Joined) (rules : List Rule) (merger : List Change) (first : IsFirstMergerOf j rules merger) where
  pub first_drawn : IsJoint j → IsSubset merger (drawn_of j.sets)
  first_drawn joint c e =
      ap (λ l. is_in l c) (drawn_is j joint.logs joint.stands) ∙ (first joint.logs joint.stands.common.map joint.stands joint.stands.common.common).merger.within c e

  pub first_fits : FitsCommonTrees j merger
  first_fits logs m stands common = (first logs m stands common).merger.fits
