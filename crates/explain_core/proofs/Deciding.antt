-- Which way the first chain of a command takes.
use Rattle.std.proofs.Common.{◌≡◌, Bool, true, false, not, ◌&&◌, List, [], Some, None, ap, ◌∙◌, refl, ◌⊎◌, inl, inr}
use Rattle.std.specs.Prelude.{is_some, if◌then◌else◌}
use Rattle.sync_path.specs.Paths.{Node}
use Rattle.sync_command.specs.Values.{is_dir, is_empty}
use Rattle.sync_command.specs.Changes.{Change}
use Rattle.sync_command.specs.Trees.{command_at}
use Rattle.refluent.specs.Joints.{Joined}
use Rattle.explain_core.specs.Chains.{is_denied, is_upward_chain}
use Rattle.explain_core.specs.FirstChains.{first_chain, first_left_under, first_tree, way_to, way_up}
use Rattle.explain_core.proofs.Leading.{up_leads}

module _ (j : Joined) (ms : List Change) (c : Change) where
  abbrev up : List Node
  up = way_up ms c.node

  abbrev down : List Node
  down = way_to c.node (first_left_under j.nodes ms c.node)

  upward : is_upward_chain (first_tree j) ms c up ≡ (not (is_empty c.new) && is_denied is_dir (first_tree j) ms up)
  upward = ap (λ b. not (is_empty c.new) && (b && is_denied is_dir (first_tree j) ms up)) (up_leads ms c.node)

  pub chain_own : (d : Change) → command_at ms c.node ≡ Some d → first_chain j ms c ≡ []
  chain_own d at = ap (λ o. if is_some o then [] else if is_upward_chain (first_tree j) ms c up then up else down) at

  not_own : command_at ms c.node ≡ None → first_chain j ms c ≡ (if is_upward_chain (first_tree j) ms c up then up else down)
  not_own at = ap (λ o. if is_some o then [] else if is_upward_chain (first_tree j) ms c up then up else down) at

  pub chain_up : command_at ms c.node ≡ None → is_upward_chain (first_tree j) ms c up ≡ true → first_chain j ms c ≡ up
  chain_up at so = not_own at ∙ ap (λ b. if b then up else down) so

  pub chain_down : command_at ms c.node ≡ None → is_upward_chain (first_tree j) ms c up ≡ false → first_chain j ms c ≡ down
  chain_down at so = not_own at ∙ ap (λ b. if b then up else down) so

  pub goes_up : is_empty c.new ≡ false → is_denied is_dir (first_tree j) ms up ≡ true → is_upward_chain (first_tree j) ms c up ≡ true
  goes_up full denied = upward ∙ ap (λ b. not b && is_denied is_dir (first_tree j) ms up) full ∙ denied

  pub goes_down : (is_empty c.new ≡ true) ⊎ (is_denied is_dir (first_tree j) ms up ≡ false) → is_upward_chain (first_tree j) ms c up ≡ false
  goes_down (inl empty) = upward ∙ ap (λ b. not b && is_denied is_dir (first_tree j) ms up) empty
  goes_down (inr met) = upward ∙ ap (λ b. not (is_empty c.new) && b) met ∙ and_false (not (is_empty c.new))
    where
      and_false : (b : Bool) → (b && false) ≡ false
      and_false true = refl
      and_false false = refl
