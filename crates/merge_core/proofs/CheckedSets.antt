-- What the tables of a check say of a drawn set: where it does not fit, and what can be added.
use Rattle.std.proofs.Common.{◌≡◌, ℕ, ◌<◌, ◌≤◌, Bool, true, false, not, ◌&&◌, ◌||◌, List, ◌∷◌, length, Option, Some, None, refl, sym, ap, subst, ◌∙◌, arith, ◌⊎◌, inl, inr}
use Rattle.std.specs.Prelude.{is_none, is_some, if◌then◌else◌}
use Rattle.std.specs.List.{slice_get}
use Rattle.std.specs.Option.{option_map}
use Rattle.std.proofs.lemmas.Bool.{cases_lt}
use Rattle.std.proofs.lemmas.Option.{slice_get_within}
use Rattle.sync_path.specs.Paths.{Node, parent, same_path, comes_before}
use Rattle.sync_path.proofs.CallerLemmas.{both, before_asym, before_irrefl}
use Rattle.sync_command.specs.Values.{is_empty, is_dir}
use Rattle.sync_command.specs.Changes.{Change}
use Rattle.sync_command.specs.Trees.{Holding, IsTree, command_at, new_or, after, one_each, put, Fits}
use Rattle.sync_command.specs.Maps.{at}
use Rattle.sync_command.proofs.CallerLemmas.{command_at-node, same_tree}
use Rattle.refluent.specs.Sets.{is_in, IsSubset}
use Rattle.refluent.specs.CommonTrees.{least_common_tree}
use Rattle.refluent.specs.Drawn.{drawn_commands}
use Rattle.refluent.specs.Families.{IsFirstPlace}
use Rattle.refluent.specs.Joints.{Joined, StandsForAll, concerns, path_at}
use Rattle.refluent.specs.Picks.{IsParentPlace}
use Rattle.refluent.proofs.CallerLemmas.{IsCommon, common_holding, least_law, drawn_known, old_held, add_fits, at_from_in, in_from_at, has_node}
use Rattle.pref_list.specs.Numbers.{IsNodeAt}
use Rattle.pref_list.proofs.CallerLemmas.{rising_at}
use Rattle.merge_core.specs.declared.checking.After.{After}
use Rattle.merge_core.specs.Parents.{AreParentsOf}
use Rattle.merge_core.specs.Verdicts.{IsMisfit, IsFirstMisfit, CanBeAdded}
use Rattle.merge_core.specs.Afterwards.{AreAfter, AreFilled, HasFullChild, IsAddable, is_dir_in, is_full_in, is_named_in, flag_of, is_bare, is_misfit, can_add}
use Rattle.merge_core.proofs.ChangedTrees.{HoldsChild, not_both, put_tree, below_from_put, none_from_put}
use Rattle.merge_core.proofs.DrawnNodes.{row_at, some_at, drawn_node, first_at, unconcerned}

turned : (a b : Bool) → a ≡ not b → b ≡ false → a ≡ true
turned a b e f = grind arith

not_is : (b : Bool) → not b ≡ true → b ≡ false
not_is true e = cc (e)
not_is false e = refl

some_is : {X : Type 0} {x y : X} → Some x ≡ Some y → x ≡ y
some_is e = cc

pair : (a b : Bool) → a ≡ true → b ≡ true → (a && b) ≡ true
pair a b e f = grind arith

module _ (j : Joined) (logs : List (List Change)) (stands : StandsForAll j logs) (set : List Change) (one : one_each set ≡ true) (part : IsSubset set (drawn_commands logs)) where
  t : Holding
  t = least_common_tree logs

  abbrev u : Holding
  u = after set (least_common_tree logs)

  common : IsCommon (least_common_tree logs) logs
  common = let least = least_law logs stands.change stands.common in subst (λ h. IsCommon h logs) least.1 (common_holding logs stands.change least.0 least.2)

  -- ---- nodes

  none_outside : (p : Node) → concerns logs p ≡ false → command_at set p ≡ None → is_empty (u p) ≡ true
  none_outside p out none = ap (λ o. is_empty (new_or o (least_common_tree logs p))) none ∙ unconcerned logs p out

  -- a node that is not empty after the set is one of the joint
  full_node : (p : Node) → is_empty (u p) ≡ false → (i : ℕ) × IsNodeAt j.nodes i p
  full_node p full = go (command_at set p) refl (concerns logs p) refl
    where
      go : (o : Option Change) → command_at set p ≡ o → (b : Bool) → concerns logs p ≡ b → (i : ℕ) × IsNodeAt j.nodes i p
      go o e true f = let h = has_node j logs stands p f in (h.0, ap (λ x. option_map (λ r. r.path) x) h.1)
      go None e false f = absurd (not_both (is_empty (u p)) (none_outside p f e) full)
      go (Some c) e false f =
          let d = drawn_node j logs stands c (part c (in_from_at set p c e)) in
          (d.0, d.1 ∙ ap Some (sym (command_at-node set p c e)))

  -- ---- the tables

  module _ (parents : List (Option ℕ)) (seen : List After) (ups : AreParentsOf j.nodes parents) (are : AreAfter j.nodes set seen) where
    -- what the table says of the node at a place
    record IsSeen (i : ℕ) (p : Node) : Type 0 where
      a : After
      at : slice_get seen i ≡ Some a
      low : i < length parents
      named : a.named ≡ is_some (command_at set p)
      empty : a.empty ≡ is_empty (u p)
      dir : a.dir ≡ is_dir (u p)

    seen_at : (i : ℕ) (p : Node) → IsNodeAt j.nodes i p → IsSeen i p
    seen_at i p e =
        let row = row_at j.nodes i p e in
        let low : i < length j.nodes = slice_get_within j.nodes i row.row row.at in
        let many = are.many in
        let all = ups.many in
        let a = some_at seen i (omega (arith, low, many)) in
        let is = are.each i a.0 p row.row.value a.1 e row.value in
        let first = first_at j logs stands i p row in
        record {
          a = a.0;
          at = a.1;
          low = omega (arith, low, all);
          named = is.named;
          empty = is.empty ∙ ap (λ v. is_empty (new_or (command_at set p) v)) first;
          dir = is.dir ∙ ap (λ v. is_dir (new_or (command_at set p) v)) first;
        }

    full_in : (i : ℕ) (p : Node) → IsNodeAt j.nodes i p → is_full_in (slice_get seen i) ≡ not (is_empty (u p))
    full_in i p e = let s = seen_at i p e in ap is_full_in s.at ∙ ap not s.empty

    named_in : (i : ℕ) (p : Node) → IsNodeAt j.nodes i p → is_named_in (slice_get seen i) ≡ is_some (command_at set p)
    named_in i p e = let s = seen_at i p e in ap is_named_in s.at ∙ s.named

    dir_in : (i : ℕ) (p : Node) → IsNodeAt j.nodes i p → is_dir_in (slice_get seen i) ≡ is_dir (u p)
    dir_in i p e = let s = seen_at i p e in ap is_dir_in s.at ∙ s.dir

    -- the parent of the node at a place
    bare_no_parent : (i : ℕ) (p : Node) → IsNodeAt j.nodes i p → parent p ≡ None → is_bare seen (slice_get parents i) ≡ false
    bare_no_parent i p e root =
        let s = seen_at i p e in
        let o = some_at parents i s.low in
        let none : o.0 ≡ None = subst (λ up. IsParentPlace j.nodes up o.0) root (ups.each i o.0 p o.1 e) in
        ap (is_bare seen) (o.1 ∙ ap Some none)

    record HasParentPlace (i : ℕ) (q : Node) : Type 0 where
      k : ℕ
      at : slice_get parents i ≡ Some (Some k)
      node : IsNodeAt j.nodes k q

    parent_place : (i : ℕ) (p q : Node) → IsNodeAt j.nodes i p → parent p ≡ Some q → HasParentPlace i q
    parent_place i p q e up =
        let s = seen_at i p e in
        let o = some_at parents i s.low in
        let is = subst (λ up. IsParentPlace j.nodes up o.0) up (ups.each i o.0 p o.1 e) in
        record { k = is.0; at = o.1 ∙ ap Some is.1; node = is.2 }

    bare_parent : (i : ℕ) (p q : Node) → IsNodeAt j.nodes i p → parent p ≡ Some q → is_bare seen (slice_get parents i) ≡ not (is_dir (u q))
    bare_parent i p q e up =
        let h = parent_place i p q e up in
        ap (is_bare seen) h.at ∙ ap not (dir_in h.k q h.node)

    -- ---- misfits

    misfit_at : (i : ℕ) (p : Node) → IsNodeAt j.nodes i p → IsMisfit u p → is_misfit parents seen i ≡ true
    misfit_at i p e m =
        pair (is_full_in (slice_get seen i)) (is_bare seen (slice_get parents i)) (full_in i p e ∙ ap not m.2) (bare_parent i p m.0 e m.1 ∙ ap not m.3)

    misfit_from : (i : ℕ) (p : Node) → IsNodeAt j.nodes i p → is_misfit parents seen i ≡ true → IsMisfit u p
    misfit_from i p e m = go (parent p) refl
      where
        parts : (is_full_in (slice_get seen i) ≡ true) × (is_bare seen (slice_get parents i) ≡ true)
        parts = both (is_full_in (slice_get seen i)) (is_bare seen (slice_get parents i)) m

        go : (o : Option Node) → parent p ≡ o → IsMisfit u p
        go None up = absurd (not_both (is_bare seen (slice_get parents i)) parts.1 (bare_no_parent i p e up))
        go (Some q) up = (q, up, not_is (is_empty (u p)) (sym (full_in i p e) ∙ parts.0), not_is (is_dir (u q)) (sym (bare_parent i p q e up) ∙ parts.1))

    abbrev Misfits : ℕ → Type 0
    Misfits i = is_misfit parents seen i ≡ true

    pub first_misfit_is : (i : ℕ) (p : Node) → IsNodeAt j.nodes i p → IsFirstPlace (λ i. is_misfit parents seen i ≡ true) 0 (length parents) (Some i) → IsFirstMisfit (after set (least_common_tree logs)) p
    first_misfit_is i p e h = record { misfit = misfit_from i p e h.2; first = λ q m. go q m (full_node q m.2) }
      where
        go : (q : Node) → IsMisfit u q → (k : ℕ) × IsNodeAt j.nodes k q → comes_before q p ≡ false
        go q m at = split (cases_lt at.0 i) (cases_lt i at.0)
          where
            split : (at.0 < i) ⊎ (i ≤ at.0) → (i < at.0) ⊎ (at.0 ≤ i) → comes_before q p ≡ false
            split (inl l) b = absurd (h.3 at.0 (omega arith) l (misfit_at at.0 q at.1 m))
            split (inr l) (inl g) = before_asym p q (rising_at j.nodes stands.order i at.0 p q g e at.1)
            split (inr l) (inr g) =
                let n : at.0 ≡ i = omega arith in
                let same : q ≡ p = some_is (sym at.1 ∙ ap (path_at j.nodes) n ∙ e) in
                ap (comes_before q) (sym same) ∙ before_irrefl q

    pub no_misfit : IsFirstPlace (λ i. is_misfit parents seen i ≡ true) 0 (length parents) None → IsTree (after set (least_common_tree logs))
    no_misfit h q n up full = go (is_dir (u q)) refl
      where
        go : (b : Bool) → is_dir (u q) ≡ b → is_dir (u q) ≡ true
        go true e = e
        go false e =
            let at = full_node n full in
            let low = (seen_at at.0 n at.1).low in
            absurd (h at.0 (omega arith) low (misfit_at at.0 n at.1 (q, up, full, e)))

    -- the set fits where no node is a misfit
    pub fits_then : IsFirstPlace (λ i. is_misfit parents seen i ≡ true) 0 (length parents) None → Fits (least_common_tree logs) set
    fits_then h = record { one = one; olds = old_held (least_common_tree logs) logs common set part; tree = no_misfit h }

    -- ---- what can be added

    module _ (filled : List Bool) (fills : AreFilled parents seen (length parents) filled) (fits : Fits (least_common_tree logs) set) where
      child_filled : (i : ℕ) (p : Node) → IsNodeAt j.nodes i p → HoldsChild u p → flag_of (slice_get filled i) ≡ true
      child_filled i p e (q, up, full) = go some.0 some.1
        where
          some : (b : Bool) × (slice_get filled i ≡ Some b)
          some = let low = (seen_at i p e).low in let many = fills.many in some_at filled i (omega (arith, low, many))

          has : HasFullChild parents seen (length parents) i
          has =
              let at = full_node q full in
              let h = parent_place at.0 q p at.1 up in
              let same : h.k ≡ i = ups.unique h.k i p h.node e in
              (at.0, (seen_at at.0 q at.1).low, h.at ∙ ap (λ k. Some (Some k)) same, full_in at.0 q at.1 ∙ ap not full)

          go : (b : Bool) → slice_get filled i ≡ Some b → flag_of (slice_get filled i) ≡ true
          go true f = ap flag_of f
          go false f = absurd (fills.no i f has)

      filled_child : (i : ℕ) (p : Node) → IsNodeAt j.nodes i p → flag_of (slice_get filled i) ≡ true → HoldsChild u p
      filled_child i p e flag = go (slice_get filled i) refl flag
        where
          child : HasFullChild parents seen (length parents) i → HoldsChild u p
          child (k, low, up, full) =
              let row = some_at j.nodes k (let many = ups.many in omega (arith, low, many)) in
              let at : IsNodeAt j.nodes k row.0.path = ap (option_map (λ r. r.path)) row.1 in
              (row.0.path, over k row.0.path at up (parent row.0.path) refl, not_is (is_empty (u row.0.path)) (sym (full_in k row.0.path at) ∙ full))
            where
              over : (k : ℕ) (q : Node) → IsNodeAt j.nodes k q → slice_get parents k ≡ Some (Some i) → (o : Option Node) → parent q ≡ o → parent q ≡ Some p
              over k q at up None root = let none : Some i ≡ None = subst (λ x. IsParentPlace j.nodes x (Some i)) root (ups.each k (Some i) q up at) in cc (none)
              over k q at up (Some r) is =
                  let h = parent_place k q r at is in
                  let same : h.k ≡ i = some_is (some_is (sym h.at ∙ up)) in
                  is ∙ sym h.node ∙ ap (path_at j.nodes) same ∙ e

          go : (o : Option Bool) → slice_get filled i ≡ o → flag_of o ≡ true → HoldsChild u p
          go None f h = cc (h)
          go (Some false) f h = cc (h)
          go (Some true) f h = child (fills.yes i f)

      held_first : (c : Change) → is_in (drawn_commands logs) c ≡ true → least_common_tree logs c.node ≡ c.old
      held_first c e =
          let d = drawn_known (least_common_tree logs) logs common c e in
          d.fits.olds c.node c (at_from_in d.set d.fits.one c d.there)

      none_named : (o : Option Change) → is_some o ≡ false → o ≡ None
      none_named None e = refl
      none_named (Some c) e = cc (e)

      none_at : (c : Change) → command_at set c.node ≡ None → is_in set c ≡ false
      none_at c e = go (is_in set c) refl
        where
          go : (b : Bool) → is_in set c ≡ b → b ≡ false
          go false f = refl
          go true f = let at = at_from_in set one c f in cc (e, at)

      -- the test, by its parts
      record Passes (i : ℕ) (c : Change) : Type 0 where
        named : is_named_in (slice_get seen i) ≡ false
        up : (is_empty c.new || not (is_bare seen (slice_get parents i))) ≡ true
        down : (is_dir c.new || not (flag_of (slice_get filled i))) ≡ true

      passes_is : (i : ℕ) (c : Change) → can_add parents seen filled i c ≡ true → Passes i c
      passes_is i c e =
          let h = both (not (is_named_in (slice_get seen i))) ((is_empty c.new || not (is_bare seen (slice_get parents i))) && (is_dir c.new || not (flag_of (slice_get filled i)))) e in
          let g = both (is_empty c.new || not (is_bare seen (slice_get parents i))) (is_dir c.new || not (flag_of (slice_get filled i))) h.1 in
          record { named = not_is (is_named_in (slice_get seen i)) h.0; up = g.0; down = g.1 }

      or_else : (a b : Bool) → (a || not b) ≡ true → a ≡ false → b ≡ false
      or_else a b e f = grind arith

      pub addable_is : (c : Change) → is_in (drawn_commands logs) c ≡ true → IsAddable j.nodes parents seen filled c → CanBeAdded (least_common_tree logs) set c
      addable_is c drawn (i, at, test) = record { further = none_at c none; fits = add_fits (least_common_tree logs) set c fits none (record { old = old; tree = tree }) }
        where
          passes : Passes i c
          passes = passes_is i c test

          none : command_at set c.node ≡ None
          none = none_named (command_at set c.node) (sym (named_in i c.node at) ∙ passes.named)

          old : after set (least_common_tree logs) c.node ≡ c.old
          old = ap (λ o. new_or o (least_common_tree logs c.node)) none ∙ held_first c drawn

          tree : IsTree (put (after set (least_common_tree logs)) c.node c.new)
          tree = put_tree u c.node c.new fits.tree
              (λ full q up. turned (is_dir (u q)) (not (is_dir (u q))) (twice (is_dir (u q))) (sym (bare_parent i c.node q at up) ∙ or_else (is_empty c.new) (is_bare seen (slice_get parents i)) passes.up full))
              (λ flat child. not_both (flag_of (slice_get filled i)) (child_filled i c.node at child) (or_else (is_dir c.new) (flag_of (slice_get filled i)) passes.down flat))
            where
              twice : (b : Bool) → b ≡ not (not b)
              twice true = refl
              twice false = refl

      or_from : (a b : Bool) → (a ≡ false → b ≡ false) → (a || not b) ≡ true
      or_from true b h = refl
      or_from false b h = ap not (h refl)

      pub addable_from : (c : Change) → is_in (drawn_commands logs) c ≡ true → CanBeAdded (least_common_tree logs) set c → IsAddable j.nodes parents seen filled c
      addable_from c drawn can = (at.0, at.1, pair (not (is_named_in (slice_get seen at.0))) _ (ap not named) (pair _ _ up down))
        where
          at : (i : ℕ) × IsNodeAt j.nodes i c.node
          at = drawn_node j logs stands c drawn

          none : command_at set c.node ≡ None
          none = is_none_from (command_at set c.node) (both (is_none (command_at set c.node)) (one_each set) can.fits.one).0
            where
              is_none_from : (o : Option Change) → is_none o ≡ true → o ≡ None
              is_none_from None e = refl
              is_none_from (Some d) e = cc (e)

          named : is_named_in (slice_get seen at.0) ≡ false
          named = named_in at.0 c.node at.1 ∙ ap is_some none

          same_at : (p : Node) → put u c.node c.new p ≡ after (c ∷ set) (least_common_tree logs) p
          same_at p = elim (same_path p c.node) as (λ b. (if b then c.new else u p) ≡ new_or (if b then Some c else command_at set p) (least_common_tree logs p)) [ true ↦ refl | false ↦ refl ]

          tree : IsTree (put (after set (least_common_tree logs)) c.node c.new)
          tree = same_tree (after (c ∷ set) (least_common_tree logs)) (put u c.node c.new) (λ p. sym (same_at p)) can.fits.tree

          up : (is_empty c.new || not (is_bare seen (slice_get parents at.0))) ≡ true
          up = or_from (is_empty c.new) (is_bare seen (slice_get parents at.0)) (λ full. above full (parent c.node) refl)
            where
              above : is_empty c.new ≡ false → (o : Option Node) → parent c.node ≡ o → is_bare seen (slice_get parents at.0) ≡ false
              above full None root = bare_no_parent at.0 c.node at.1 root
              above full (Some q) is = bare_parent at.0 c.node q at.1 is ∙ ap not (below_from_put u c.node c.new tree full q is)

          down : (is_dir c.new || not (flag_of (slice_get filled at.0))) ≡ true
          down = or_from (is_dir c.new) (flag_of (slice_get filled at.0)) (λ flat. below flat (flag_of (slice_get filled at.0)) refl)
            where
              below : is_dir c.new ≡ false → (b : Bool) → flag_of (slice_get filled at.0) ≡ b → b ≡ false
              below flat false e = refl
              below flat true e = absurd (none_from_put u c.node c.new tree flat (filled_child at.0 c.node at.1 e))
