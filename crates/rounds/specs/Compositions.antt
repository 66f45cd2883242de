-- Undoing a log, and composing sets.
use Rattle.std.specs.Prelude.{◌≡◌, ℕ, ◌+◌, List, [], ◌∷◌, ◌++◌, length, map}
use Rattle.sync_path.specs.Paths.{Node}
use Rattle.sync_command.specs.Changes.{Change, inverse}
use Rattle.canon_set.specs.Logs.{IsTaken, net}
use Rattle.canon_set.specs.Sets.{canonical}
use Rattle.refluent.specs.Drawn.{in_turn}

-- ---- undoing

-- the inverse of a set, in the admissible order
abbrev pub inverse_set : List Change → List Change
inverse_set cs = canonical (map inverse cs)

-- what undoes a log: the inverse of its net set
abbrev pub undoing : List Change → List Change
undoing log = inverse_set (canonical (net log))

-- ---- composing

-- the canonical lists of some sets one after another
abbrev pub chain_list : List (List Change) → List Change
chain_list sets = in_turn (map canonical sets)

-- the net set of the chain list
abbrev pub composition : List (List Change) → List Change
composition sets = net (chain_list sets)

-- some tree takes the commands before and the first part of the set, and none takes them with the set's next command,
-- which is of the node
pub record StopsIn (before set : List Change) (node : Node) : Type 0 where
  pub prefix : List Change
  pub last : Change
  pub back : List Change
  pub set_is : canonical set ≡ prefix ++ last ∷ back
  pub node_is : node ≡ last.node
  pub taken : IsTaken (before ++ prefix)
  pub stops : IsTaken (before ++ prefix ++ last ∷ []) → ⊥

-- where sets stop following one another: in the set of this number, counted from 1, with its command of the node, which
-- is the last one of the shortest first part of the chain list that no tree takes
pub record StopsAt (sets : List (List Change)) (number : ℕ) (node : Node) : Type 0 where
  pub before : List (List Change)
  pub set : List Change
  pub behind : List (List Change)
  pub sets_are : sets ≡ before ++ set ∷ behind
  pub number_is : number ≡ length before + 1
  pub here : StopsIn (chain_list before) set node
