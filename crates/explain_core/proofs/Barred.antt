-- For a merger, each drawn command outside it has a chain, and one first chain.
use Rattle.std.proofs.Common.{◌≡◌, ◌↔◌, Bool, true, false, not, ◌&&◌, ◌||◌, List, [], ◌∷◌, length, Option, Some, None, IsTrue, refl, sym, ap, ◌∙◌, arith, ◌⊎◌, inl, inr}
use Rattle.std.specs.Prelude.{is_some}
use Rattle.std.specs.List.{list_any}
use Rattle.sync_path.specs.Paths.{Node, same_path, is_under}
use Rattle.sync_command.specs.Values.{is_empty, is_dir}
use Rattle.sync_command.specs.Changes.{Change}
use Rattle.sync_command.specs.Trees.{Holding, command_at, one_each, Fits}
use Rattle.sync_command.specs.Maps.{Store, at}
use Rattle.refluent.specs.Sets.{is_in}
use Rattle.refluent.specs.CommonTrees.{AllChange, IsCommonTree, least_common_tree}
use Rattle.refluent.specs.Drawn.{drawn_commands}
use Rattle.refluent.specs.Mergers.{IsMerger}
use Rattle.merge_core.specs.Conflicts.{bars_under, conflicts}
use Rattle.merge_core.specs.FirstMergers.{IsExtendable}
use Rattle.sync_path.proofs.CallerLemmas.{both, same_path_is, same_path_refl}
use Rattle.refluent.proofs.CallerLemmas.{at_from_in, fewer, in_from_at, merger_whole}
use Rattle.explain_core.specs.Chains.{IsFirstChain, is_chain}
use Rattle.explain_core.proofs.ChainLaws.{WayDown, WayUp, down_chain, least_fits, not_both, not_true, is_or_not, up_chain, way_down, way_up}
use Rattle.explain_core.proofs.FirstChains.{first_from, first_is_one}

-- beside commands that some drawn set that fits has, a drawn command can be taken exactly where it conflicts with none
abbrev pub TellConflicts : Type 0
TellConflicts = (logs : List (List Change)) → AllChange logs → (m : Store) → IsCommonTree m logs → (taken : List Change) → IsTrue (one_each taken) → IsExtendable (at m) (drawn_commands logs) taken → (c : Change) → IsTrue (is_in (drawn_commands logs) c) →
    IsExtendable (at m) (drawn_commands logs) (c ∷ taken) ↔ (list_any (conflicts c) taken ≡ false)

module _ (u : Holding) (ms : List Change) (fits : Fits u ms) where
  -- a command that conflicts with one of the set has a chain
  pub chain_from : (c d : Change) → is_in ms d ≡ true → conflicts c d ≡ true → (via : List Node) × (is_chain u ms c via ≡ true)
  chain_from c d there conflict = go (command_at ms c.node) refl
    where
      here : command_at ms d.node ≡ Some d
      here = at_from_in ms fits.one d there

      apart : command_at ms c.node ≡ None → same_path c.node d.node ≡ false
      apart none = decide (is_or_not (same_path c.node d.node))
        where
          decide : (same_path c.node d.node ≡ true) ⊎ (same_path c.node d.node ≡ false) → same_path c.node d.node ≡ false
          decide (inl e) = let x : None ≡ Some d = sym none ∙ ap (command_at ms) (same_path_is c.node d.node e) ∙ here in cc (x)
          decide (inr e) = e

      cases : (a b x y : Bool) → ((a && b) || (x || y)) ≡ true → a ≡ false → (x ≡ true) ⊎ (y ≡ true)
      cases a b true y e f = inl refl
      cases a b false true e f = inr refl
      cases true b false false e f = cc (f)
      cases false b false false e f = cc (e)

      down : command_at ms c.node ≡ None → bars_under c d ≡ true → (via : List Node) × (is_chain u ms c via ≡ true)
      down none holds =
          let parts = both (not (is_dir c.new)) (is_under d.node c.node && not (is_empty d.new)) holds in
          let more = both (is_under d.node c.node) (not (is_empty d.new)) parts.1 in
          let way : WayDown u ms c.node = (way_down u ms fits c.node d here more.0 (not_true (is_empty d.new) more.1)).way in
          (way.first ∷ way.rest, down_chain u ms fits c none (not_true (is_dir c.new) parts.0) way)

      up : command_at ms c.node ≡ None → bars_under d c ≡ true → (via : List Node) × (is_chain u ms c via ≡ true)
      up none holds =
          let parts = both (not (is_dir d.new)) (is_under c.node d.node && not (is_empty c.new)) holds in
          let more = both (is_under c.node d.node) (not (is_empty c.new)) parts.1 in
          let way : WayUp u ms c.node = way_up u ms fits (length c.node) d here (not_true (is_dir d.new) parts.0) c.node (omega arith) more.0 in
          (way.first ∷ way.rest, up_chain u ms fits c none (not_true (is_empty c.new) more.1) way)

      go : (o : Option Change) → command_at ms c.node ≡ o → (via : List Node) × (is_chain u ms c via ≡ true)
      go (Some x) e = ([], ap is_some e)
      go None e = split (cases (same_path c.node d.node) _ (bars_under c d) (bars_under d c) conflict (apart e))
        where
          split : (bars_under c d ≡ true) ⊎ (bars_under d c ≡ true) → (via : List Node) × (is_chain u ms c via ≡ true)
          split (inl x) = down e x
          split (inr x) = up e x

pub some_conflict : (c : Change) (ms : List Change) → list_any (conflicts c) ms ≡ true → (d : Change) × (is_in ms d ≡ true) × (conflicts c d ≡ true)
some_conflict c [] e = cc (e)
some_conflict c (x ∷ ms) e = go (conflicts c x) refl e (some_conflict c ms)
  where
    own : is_in (x ∷ ms) x ≡ true
    own = in_from_at (x ∷ ms) x.node x (first (same_path_refl x.node))
      where
        first : same_path x.node x.node ≡ true → command_at (x ∷ ms) x.node ≡ Some x
        first e = grind (arith, e)

    later : (d : Change) → is_in ms d ≡ true → is_in (x ∷ ms) d ≡ true
    later d i = grind (arith, i)

    go : (b : Bool) → conflicts c x ≡ b → (b || list_any (conflicts c) ms) ≡ true → (list_any (conflicts c) ms ≡ true → (d : Change) × (is_in ms d ≡ true) × (conflicts c d ≡ true)) → (d : Change) × (is_in (x ∷ ms) d ≡ true) × (conflicts c d ≡ true)
    go true f e rec = (x, own, f)
    go false f e rec = let r = rec e in (r.0, later r.0 r.1, r.2)

module _ (tell_conflicts : TellConflicts) (logs : List (List Change)) (change : AllChange logs) (m : Store) (common : IsCommonTree m logs) (ms : List Change) (merger : IsMerger (at m) (drawn_commands logs) ms) where
  -- a drawn command outside the merger conflicts with one of it
  pub barred : (c : Change) → is_in (drawn_commands logs) c ≡ true → is_in ms c ≡ false → list_any (conflicts c) ms ≡ true
  barred c there missing = decide (is_or_not (list_any (conflicts c) ms))
    where
      ext : IsExtendable (at m) (drawn_commands logs) ms
      ext = record { whole = ms; within = merger.within; fits = merger.fits; has = λ x i. i }

      decide : (list_any (conflicts c) ms ≡ true) ⊎ (list_any (conflicts c) ms ≡ false) → list_any (conflicts c) ms ≡ true
      decide (inl e) = e
      decide (inr free) =
          let more : IsExtendable (at m) (drawn_commands logs) (c ∷ ms) = (tell_conflicts logs change m common ms merger.fits.one ext c there).1 free in
          let parts = fewer c ms more.whole more.has in
          absurd (not_both (is_in ms c) (merger_whole (at m) (drawn_commands logs) ms more.whole merger more.within more.fits parts.1 c parts.0) missing)

  -- For a merger, each drawn command outside it has a chain.
  pub chain_law : (c : Change) → is_in (drawn_commands logs) c ≡ true → is_in ms c ≡ false → (via : List Node) × (is_chain (least_common_tree logs) ms c via ≡ true)
  chain_law c there missing = let d = some_conflict c ms (barred c there missing) in chain_from (least_common_tree logs) ms (least_fits logs change m common ms merger.within merger.fits) c d.0 d.1 d.2

  -- For a merger, each drawn command outside it has one first chain.
  pub first_law : (c : Change) → is_in (drawn_commands logs) c ≡ true → is_in ms c ≡ false →
      (via : List Node) × IsFirstChain (least_common_tree logs) ms c via × ((other : List Node) → IsFirstChain (least_common_tree logs) ms c other → other ≡ via)
  first_law c there missing =
      let fits : Fits (least_common_tree logs) ms = least_fits logs change m common ms merger.within merger.fits in
      let first = first_from (least_common_tree logs) ms fits c (chain_law c there missing) in
      (first.0, first.1, λ other is. first_is_one (least_common_tree logs) ms fits c other first.0 is first.1)
