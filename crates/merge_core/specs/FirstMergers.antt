-- The first merger under a ranking, and what can still be added to a set.
use Rattle.std.specs.Prelude.{◌≡◌, Bool, true, false, List, [], ◌∷◌, if◌then◌else◌}
use Rattle.sync_command.specs.Changes.{Change}
use Rattle.sync_command.specs.Trees.{Holding, Fits}
use Rattle.refluent.specs.Sets.{is_in, IsSubset}
use Rattle.sync_command.specs.Maps.{Store, at}
use Rattle.refluent.specs.Mergers.{IsMerger}
use Rattle.refluent.specs.CommonTrees.{IsCommonTree}
use Rattle.refluent.specs.Drawn.{drawn_commands}
use Rattle.refluent.specs.Joints.{Joined, StandsForAll}
use Rattle.pref_list.specs.declared.rules.Rule.{Rule}
use Rattle.pref_list.specs.Ranking.{ranking}

-- the best-ranked command that is in exactly one of the two sets is in the first, or there is none
abbrev pub is_preferred : List Change → List Change → List Change → Bool
is_preferred [] ms ss = true
is_preferred (c ∷ ranking) ms ss =
    if is_in ms c then (if is_in ss c then is_preferred ranking ms ss else true)
    else (if is_in ss c then false else is_preferred ranking ms ss)

-- the merger that is preferred to every other
pub record IsFirstMerger (t : Holding) (drawn ranking ms : List Change) : Type 0 where
  pub merger : IsMerger t drawn ms
  pub first : (other : List Change) → IsMerger t drawn other → is_preferred ranking ms other ≡ true

-- the first merger under rules, for all logs that the joint stands for and every common tree of them
abbrev pub IsFirstMergerOf : Joined → List Rule → List Change → Type 0
IsFirstMergerOf j rules set = (logs : List (List Change)) (m : Store) → StandsForAll j logs → IsCommonTree m logs →
    IsFirstMerger (at m) (drawn_commands logs) (ranking logs rules) set

-- some drawn set that fits has all of these commands
pub record IsExtendable (t : Holding) (drawn cs : List Change) : Type 0 where
  pub whole : List Change
  pub within : IsSubset whole drawn
  pub fits : Fits t whole
  pub has : IsSubset cs whole
