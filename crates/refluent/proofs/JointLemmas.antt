-- What a joint says of the logs that it stands for.
use Rattle.std.proofs.Common.{◌≡◌, ◌<◌, ℕ, zero, suc, Bool, true, false, ◌||◌, List, [], ◌∷◌, ◌++◌, length, Some, refl, sym, ap, subst, ◌∙◌, arith, ◌⊎◌, inl, inr}
use Rattle.std.specs.Prelude.{if◌then◌else◌}
use Rattle.std.specs.List.{slice_get}
use Rattle.sync_path.specs.Paths.{Node, same_path, comes_before}
use Rattle.sync_command.specs.declared.values.Value.{Value}
use Rattle.sync_command.specs.declared.commands.Row.{Row}
use Rattle.sync_command.specs.Changes.{Change}
use Rattle.sync_command.specs.Trees.{Fits}
use Rattle.sync_command.specs.Maps.{Store, at}
use Rattle.canon_set.specs.Logs.{names, net}
use Rattle.canon_set.specs.Leaving.{above}
use Rattle.canon_set.specs.Sets.{canonical}
use Rattle.refluent.specs.CommonTrees.{IsAmong, IsCommonTree, least_common_tree}
use Rattle.refluent.specs.Drawn.{drawn_commands, drawn_of, in_turn, nets_in_turn}
use Rattle.refluent.specs.FirstDisagreements.{log_at}
use Rattle.refluent.specs.Joints.{Joined, StandsForAll, comes_before_all, concerns, is_ascending, net_sets, some_if, value_in}
use Rattle.refluent.specs.Sets.{without_repeats}
use Rattle.canon_set.proofs.CallerLemmas.{net_fits, command_at-canonical, one_each-canonical}
use Rattle.sync_command.proofs.CallerLemmas.{same_fits}
use Rattle.sync_path.proofs.CallerLemmas.{both, before_irrefl, same_path_is, same_path_refl}

-- ---- net sets

nets_turn : (logs : List (List Change)) → in_turn (net_sets logs) ≡ nets_in_turn logs
nets_turn [] = refl
nets_turn (log ∷ logs) = ap (λ l. canonical (net log) ++ l) (nets_turn logs)

-- the drawn commands are those of the logs
pub drawn_is : (j : Joined) (logs : List (List Change)) → StandsForAll j logs → drawn_of j.sets ≡ drawn_commands logs
drawn_is j logs stands = ap drawn_of stands.sets ∙ ap without_repeats (nets_turn logs)

-- a net set, by its log
pub record IsNetSet (logs : List (List Change)) (i : ℕ) (set : List Change) : Type 0 where
  pub low : i < length logs
  pub among : IsAmong (log_at logs i) logs
  pub is : set ≡ canonical (net (log_at logs i))

pub set_is : (j : Joined) (logs : List (List Change)) → StandsForAll j logs → (i : ℕ) (set : List Change) → slice_get j.sets i ≡ Some set → IsNetSet logs i set
set_is j logs stands i set e = go logs i (sym (ap (λ l. slice_get l i) stands.sets) ∙ e)
  where
    same : {a b : List Change} → Some a ≡ Some b → a ≡ b
    same e = cc

    later : (log : List Change) (logs : List (List Change)) (i : ℕ) → IsNetSet logs i set → IsNetSet (log ∷ logs) (suc i) set
    later log logs i h = record { low = let l : i < length logs = h.low in omega arith; among = inr h.among; is = h.is }

    go : (logs : List (List Change)) (i : ℕ) → slice_get (net_sets logs) i ≡ Some set → IsNetSet logs i set
    go [] i f = cc (f)
    go (log ∷ logs) zero f = record { low = omega arith; among = inl refl; is = sym (same f) }
    go (log ∷ logs) (suc i) f = later log logs i (go logs i f)

-- each net set fits each common tree
pub set_fits : (j : Joined) (logs : List (List Change)) → StandsForAll j logs → (m : Store) → IsCommonTree m logs → (i : ℕ) (set : List Change) → slice_get j.sets i ≡ Some set → Fits (at m) set
set_fits j logs stands m common i set e =
    let s = set_is j logs stands i set e in
    let fits = (net_fits (at m) (log_at logs i) common.tree.tree (common.takes (log_at logs i) s.among)).0 in
    subst (Fits (at m)) (sym s.is) (same_fits (at m) (net (log_at logs i)) (canonical (net (log_at logs i))) (one_each-canonical (net (log_at logs i)) fits.one) (λ p. sym (command_at-canonical (net (log_at logs i)) fits.one p)) fits)

-- ---- nodes

pub before_at : (p : Node) (rows : List Row) → comes_before_all p rows ≡ true → (i : ℕ) (row : Row) → slice_get rows i ≡ Some row → comes_before p row.path ≡ true
before_at p [] h i row e = cc (e)
before_at p (r ∷ rows) h zero row e = ap (λ x. comes_before p x.path) (sym (same e)) ∙ (both (comes_before p r.path) (comes_before_all p rows) h).0
  where
    same : Some r ≡ Some row → r ≡ row
    same e = cc
before_at p (r ∷ rows) h (suc i) row e = before_at p rows (both (comes_before p r.path) (comes_before_all p rows) h).1 i row e

-- the value of a row is that of its node
pub value_at_row : (rows : List Row) → is_ascending rows ≡ true → (i : ℕ) (row : Row) → slice_get rows i ≡ Some row → value_in rows row.path ≡ Some row.value
value_at_row [] up i row e = cc (e)
value_at_row (r ∷ rows) up zero row e = ap (λ x. value_in (r ∷ rows) x.path) (sym (same e)) ∙ ap (λ b. if b then Some r.value else value_in rows r.path) (same_path_refl r.path) ∙ ap (λ x. Some x.value) (same e)
  where
    same : Some r ≡ Some row → r ≡ row
    same e = cc
value_at_row (r ∷ rows) up (suc i) row e =
    let h = both (comes_before_all r.path rows) (is_ascending rows) up in
    go (same_path row.path r.path) refl (before_at r.path rows h.0 i row e) (value_at_row rows h.1 i row e)
  where
    go : (b : Bool) → same_path row.path r.path ≡ b → comes_before r.path row.path ≡ true → value_in rows row.path ≡ Some row.value → (if b then Some r.value else value_in rows row.path) ≡ Some row.value
    go true f g ih = let n : comes_before r.path row.path ≡ false = ap (comes_before r.path) (same_path_is row.path r.path f) ∙ before_irrefl r.path in cc (g, n)
    go false f g ih = ih

-- the row of a node that has a value
pub row_with_value : (rows : List Row) (p : Node) (v : Value) → value_in rows p ≡ Some v → (i : ℕ) × (slice_get rows i ≡ Some (record { path = p; value = v }))
row_with_value [] p v e = cc (e)
row_with_value (r ∷ rows) p v e = go (row_with_value rows p v) (same_path p r.path) refl e
  where
    same : {a b : Value} → Some a ≡ Some b → a ≡ b
    same e = cc

    go : (value_in rows p ≡ Some v → (i : ℕ) × (slice_get rows i ≡ Some (record { path = p; value = v }))) → (b : Bool) → same_path p r.path ≡ b → (if b then Some r.value else value_in rows p) ≡ Some v →
        (i : ℕ) × (slice_get (r ∷ rows) i ≡ Some (record { path = p; value = v }))
    go rec true f g = (0, ap Some (λ i. record { path = sym (same_path_is p r.path f) i; value = same g i }))
    go rec false f g = let h = rec g in (suc h.0, h.1)

module _ (j : Joined) (logs : List (List Change)) (stands : StandsForAll j logs) where
  -- a node of the joint concerns the logs, and has the value of the least common tree
  pub node_is : (i : ℕ) (row : Row) → slice_get j.nodes i ≡ Some row → (concerns logs row.path ≡ true) × (row.value ≡ least_common_tree logs row.path)
  node_is i row e = go (concerns logs row.path) refl (sym (stands.nodes row.path) ∙ value_at_row j.nodes stands.order i row e)
    where
      same : {a b : Value} → Some a ≡ Some b → a ≡ b
      same e = cc

      go : (b : Bool) → concerns logs row.path ≡ b → some_if b (least_common_tree logs row.path) ≡ Some row.value → (concerns logs row.path ≡ true) × (row.value ≡ least_common_tree logs row.path)
      go true f g = (f, sym (same g))
      go false f g = cc (g)

  -- a node that concerns the logs is one of the joint
  pub has_node : (p : Node) → concerns logs p ≡ true → (i : ℕ) × (slice_get j.nodes i ≡ Some (record { path = p; value = least_common_tree logs p }))
  has_node p e = row_with_value j.nodes p (least_common_tree logs p) (stands.nodes p ∙ ap (λ b. some_if b (least_common_tree logs p)) e)

  -- a touched node, or one above it, concerns the logs
  pub concerns_named : (log : List Change) → IsAmong log logs → (p : Node) → (names log p ≡ true) ⊎ (above log p ≡ true) → concerns logs p ≡ true
  concerns_named log among p h = go logs among
    where
      one : (a b c : Bool) → (a ≡ true) ⊎ (b ≡ true) → ((a || b) || c) ≡ true
      one a b c (inl e) = grind arith
      one a b c (inr e) = grind arith

      more : (a b : Bool) → b ≡ true → (a || b) ≡ true
      more a b e = grind arith

      go : (logs : List (List Change)) → IsAmong log logs → concerns logs p ≡ true
      go [] i = absurd i
      go (l ∷ logs) (inl is) = one (names l p) (above l p) (concerns logs p) (subst (λ x. (names x p ≡ true) ⊎ (above x p ≡ true)) is h)
      go (l ∷ logs) (inr i) = more (names l p || above l p) (concerns logs p) (go logs i)
