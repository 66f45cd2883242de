-- Reasons: which drawn commands a merger leaves out, each with its first chain.
use Rattle.std.specs.Prelude.{◌≡◌, ℕ, true, false, List, map, Some}
use Rattle.std.specs.List.{position_or_len}
use Rattle.sync_path.specs.Paths.{Node, same_path}
use Rattle.sync_command.specs.declared.commands.Row.{Row}
use Rattle.sync_command.specs.Changes.{Change}
use Rattle.sync_command.specs.Trees.{command_at}
use Rattle.sync_command.specs.Maps.{Store, at}
use Rattle.refluent.specs.CommonTrees.{IsCommonTree, least_common_tree}
use Rattle.refluent.specs.Drawn.{drawn_commands, drawn_of}
use Rattle.refluent.specs.Joints.{Joined, StandsForAll, path_at}
use Rattle.refluent.specs.Mergers.{IsMerger}
use Rattle.refluent.specs.Sets.{is_in}
use Rattle.pref_list.specs.Picks.{log_of}
use Rattle.pref_list.specs.Ranking.{set_of}
use Rattle.explain_core.specs.declared.reasons.Reason.{Reason}
use Rattle.explain_core.specs.Chains.{IsFirstChain, is_chain, without}
use Rattle.explain_core.specs.FirstChains.{first_chain, first_tree}

-- the set is a merger, for all logs that the joint stands for and every common tree of them
abbrev pub IsMergerOf : Joined → List Change → Type 0
IsMergerOf j ms = (logs : List (List Change)) (m : Store) → StandsForAll j logs → IsCommonTree m logs →
    IsMerger (at m) (drawn_commands logs) ms

-- ---- the list of all reasons

-- the place of a node
abbrev pub place_of : List Row → Node → ℕ
place_of nodes p = position_or_len (λ row. same_path p row.path) nodes

-- the least log that has the command, its node, and its first chain
abbrev pub reason_of : Joined → List Change → Change → Reason
reason_of j ms c = record {
  log = log_of j.sets c;
  node = place_of j.nodes c.node;
  via = map (place_of j.nodes) (first_chain j ms c);
}

-- a reason for each drawn command that the set leaves out, by its log and then in the admissible order
abbrev pub reasons : Joined → List Change → List Reason
reasons j ms = map (reason_of j ms) (without ms (drawn_of j.sets))

-- ---- what a reason says

-- the places are those of these nodes
abbrev pub AreAt : List Row → List ℕ → List Node → Type 0
AreAt nodes places paths = map (path_at nodes) places ≡ map Some paths

-- the least log that has the command, the place of its node, and the places of the nodes of its first chain
pub record Explains (j : Joined) (logs : List (List Change)) (ms : List Change) (c : Change) (r : Reason) : Type 0 where
  pub log : r.log ≡ log_of j.sets c
  pub own : command_at (set_of j.sets r.log) c.node ≡ Some c
  pub node : path_at j.nodes r.node ≡ Some c.node
  pub via : List Node
  pub along : AreAt j.nodes r.via via
  pub first : IsFirstChain (least_common_tree logs) ms c via

-- the log has a net command at the node, the set has not that command, and the nodes are a chain for it
pub record Shows (j : Joined) (ms : List Change) (r : Reason) : Type 0 where
  pub node : Node
  pub at : path_at j.nodes r.node ≡ Some node
  pub command : Change
  pub own : command_at (set_of j.sets r.log) node ≡ Some command
  pub out : is_in ms command ≡ false
  pub via : List Node
  pub along : AreAt j.nodes r.via via
  pub chain : is_chain (first_tree j) ms command via ≡ true
