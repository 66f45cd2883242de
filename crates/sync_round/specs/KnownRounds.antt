-- What a round leaves of trees of which it is known what each one holds.
use Rattle.std.specs.Prelude.{◌≡◌, ◌⊎◌, ◌<◌, ◌-◌, ℕ, zero, suc, ⊤, List, [], ◌∷◌, map, Some, Result, Ok, Err, IfOk}
use Rattle.sync_command.specs.Changes.{Change}
use Rattle.sync_command.specs.Maps.{Store, at}
use Rattle.sync_command.specs.Trees.{Holding}
use Rattle.tree_port.specs.States.{TreeState}
use Rattle.resume_apply.specs.Preparing.{Finds}
use Rattle.resume_apply.specs.Ready.{IsReady}
use Rattle.resume_apply.specs.declared.faults.ApplyFault.{ApplyFault}
use Rattle.resume_apply.specs.declared.faults.ApplyFault.TheVariants as fault
use Rattle.sync_round.specs.Rounds.{AreOnTheirWay, AreReady, round_work, targets}
use Rattle.sync_round.specs.Rounding.{IsFound}
use Rattle.sync_round.specs.declared.faults.RoundFault.{RoundFault}
use Rattle.sync_round.specs.declared.faults.RoundFault.TheVariants.{Tree, Memory}

-- each tree is known to hold the map of its number, and there are as many
abbrev pub AreHeld : List TreeState → List Store → Type 0
AreHeld [] [] = ⊤
AreHeld (tree ∷ trees) (m ∷ maps) = (tree.contents ≡ Some m) × AreHeld trees maps
AreHeld trees maps = ⊥

abbrev pub holdings : List Store → List Holding
holdings maps = map {B = Holding} at maps

-- ---- the answer

-- the tree at a place, counted from 0, is the first that is not ready, and this is what a look at it finds
abbrev pub IsFirstUnready : ApplyFault → ℕ → List (List Change) → List Store → Type 0
IsFirstUnready why zero (set ∷ sets) (m ∷ maps) = IsFound why × Finds set (at m) (Err why)
IsFirstUnready why (suc place) (set ∷ sets) (m ∷ maps) = IsReady (at m) set × IsFirstUnready why place sets maps
IsFirstUnready why place sets maps = ⊥

-- what a round answers on trees that hold these maps, where no call is refused and memory does not run out
abbrev pub IsRoundAnswer : List (List Change) → List Store → Result ℕ RoundFault → Type 0
IsRoundAnswer sets maps (Ok number) = AreReady sets (holdings maps) × (number ≡ round_work sets (holdings maps))
IsRoundAnswer sets maps (Err (Tree number why)) = (0 < number) × IsFirstUnready why (number - 1) sets maps
IsRoundAnswer sets maps (Err Memory) = ⊥

-- that, or out of memory, or a tree whose call failed
abbrev pub IsRightAnswer : List (List Change) → List Store → Result ℕ RoundFault → Type 0
IsRightAnswer sets maps (Ok number) = IsRoundAnswer sets maps (Ok number)
IsRightAnswer sets maps (Err (Tree number why)) = (why ≡ fault.Failed) ⊎ IsRoundAnswer sets maps (Err (Tree number why))
IsRightAnswer sets maps (Err Memory) = ⊤

-- ---- what is left

-- Trees that held the maps `before`. Where they are not ready none is changed; where they are, each is on its way to its
-- target, and after Ok it is there.
pub record RoundsKnown (sets : List (List Change)) (before : List Store) (result : Result ℕ RoundFault) (now : List TreeState) : Type 0 where
  pub answer : IsRightAnswer sets before result
  pub maps : List Store
  pub held : AreHeld now maps
  pub unready : (AreReady sets (holdings before) → ⊥) → maps ≡ before
  pub way : AreReady sets (holdings before) → AreOnTheirWay sets (holdings before) (holdings maps)
  pub done : IfOk result (λ number. holdings maps ≡ targets sets (holdings before))
