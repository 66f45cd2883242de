-- A drawn set that fits one common tree fits each.
use Rattle.std.proofs.Common.{◌≡◌, true, false, List, [], ◌∷◌, Option, Some, None, refl, sym, ap, ◌∙◌, arith, ◌⊎◌, inl, inr}
use Rattle.std.specs.Prelude.{is_some}
use Rattle.canon_set.specs.Logs.{touches, net, names, all_change}
use Rattle.sync_command.specs.Changes.{Change, is_change}
use Rattle.sync_command.specs.Trees.{Holding, IsTree, put, Takes, result_of, command_at, after, Fits}
use Rattle.sync_command.specs.Values.{is_empty, is_dir}
use Rattle.sync_path.specs.Paths.{Node, parent}
use Rattle.refluent.proofs.Sets.{yes_or_no}
use Rattle.refluent.proofs.Prerequisites.{after_none, after_some}
use Rattle.canon_set.proofs.CallerLemmas.{net_fits, one_each-touches, olds-touches, is_some-touches, untouched}
use Rattle.sync_command.proofs.CallerLemmas.{command_at-filter, passing-is, tree-result_of, one_full}
use Rattle.sync_path.proofs.CallerLemmas.{both, same_path_is, same_path_at}

-- a tree that takes a log holds a directory at the untouched parent of a touched node
pub touched_parent : (t : Holding) (cs : List Change) → IsTree t → Takes t cs → all_change cs ≡ true → (q n : Node) → parent n ≡ Some q → names cs n ≡ true → names cs q ≡ false → is_dir (t q) ≡ true
touched_parent t [] tree takes change q n e there none = cc
touched_parent t (c ∷ cs) tree takes change q n e there none =
    step (λ h a b. touched_parent (put t c.node c.new) cs takes.0.tree takes.1 h q n e a b) (tree q n e) (takes.0.tree q n e) takes.0.old (one_full c.old c.new (both _ _ change).0) (both _ _ change).1 there none
  where
    step : (all_change cs ≡ true → names cs n ≡ true → names cs q ≡ false → is_dir (put t c.node c.new q) ≡ true) →
        (is_empty (t n) ≡ false → is_dir (t q) ≡ true) → (is_empty (put t c.node c.new n) ≡ false → is_dir (put t c.node c.new q) ≡ true) → t c.node ≡ c.old →
        (is_empty c.old ≡ false) ⊎ (is_empty c.new ≡ false) → all_change cs ≡ true → names (c ∷ cs) n ≡ true → names (c ∷ cs) q ≡ false → is_dir (t q) ≡ true
    step ih here then' old full rest there none = grind (arith, same_path_is, same_path_at)

-- what a net command says of a tree that takes the log
pub record NetAt (t : Holding) (cs : List Change) (p : Node) (d : Change) : Type 0 where
  pub old : t p ≡ d.old
  pub new : result_of t cs p ≡ d.new
  pub named : names cs p ≡ true

pub net_at : (t : Holding) (cs : List Change) → IsTree t → Takes t cs → (p : Node) (d : Change) → command_at (net cs) p ≡ Some d → NetAt t cs p d
net_at t cs tree takes p d e = record {
  old = (net_fits t cs tree takes).0.olds p d e;
  new = sym ((net_fits t cs tree takes).1 p) ∙ after_some t (net cs) p d e;
  named = sym (is_some-touches cs p) ∙ ap is_some (passing-is is_change _ d (sym (command_at-filter is_change (touches cs) (one_each-touches cs) p) ∙ e));
}

-- a command that a log of both trees draws
pub record IsDrawnOfBoth (t u : Holding) (p : Node) (c : Change) : Type 0 where
  pub log : List Change
  pub change : all_change log ≡ true
  pub first : Takes t log
  pub second : Takes u log
  pub there : command_at (net log) p ≡ Some c

-- two trees that take a log hold the same where it touches
pub same_touched : (t u : Holding) (cs : List Change) → Takes t cs → Takes u cs → (p : Node) → names cs p ≡ true → t p ≡ u p
same_touched t u cs takes takes' p touched = go (command_at (touches cs) p) refl (is_some-touches cs p ∙ touched)
  where
    go : (o : Option Change) → command_at (touches cs) p ≡ o → is_some o ≡ true → t p ≡ u p
    go None e there = cc (there)
    go (Some d) e there = olds-touches t cs takes p d e ∙ sym (olds-touches u cs takes' p d e)

-- A drawn set that fits one common tree fits each.
pub fits_each : (t u : Holding) (ms : List Change) → IsTree t → IsTree u → ((p : Node) (c : Change) → command_at ms p ≡ Some c → IsDrawnOfBoth t u p c) → Fits t ms → Fits u ms
fits_each t u ms tt' tu drawn fits = record {
  one = fits.one;
  olds = λ p c e. (net_at u (drawn p c e).log tu (drawn p c e).second p c (drawn p c e).there).old;
  tree = λ q n e. tree_at q n e (command_at ms q) (command_at ms n) refl refl;
}
  where
    tree_at : (q n : Node) → parent n ≡ Some q → (r o : Option Change) → command_at ms q ≡ r → command_at ms n ≡ o → is_empty (after ms u n) ≡ false → is_dir (after ms u q) ≡ true
    tree_at q n e None None er eo full = ap is_dir (after_none u ms q er) ∙ tu q n e (ap is_empty (sym (after_none u ms n eo)) ∙ full)
    tree_at q n e None (Some c) er eo full = ap is_dir (after_none u ms q er) ∙ go (yes_or_no (names d.log q))
      where
        d : IsDrawnOfBoth t u n c
        d = drawn n c eo

        here : NetAt u d.log n c
        here = net_at u d.log tu d.second n c d.there

        was : is_dir (t q) ≡ true
        was = ap is_dir (sym (after_none t ms q er)) ∙ fits.tree q n e (ap is_empty (after_some t ms n c eo ∙ sym (after_some u ms n c eo)) ∙ full)

        go : (names d.log q ≡ true) ⊎ (names d.log q ≡ false) → is_dir (u q) ≡ true
        go (inl touched) = ap is_dir (same_touched u t d.log d.second d.first q touched) ∙ was
        go (inr none) = touched_parent u d.log tu d.second d.change q n e here.named none
    tree_at q n e (Some d) None er eo full = ap is_dir (after_some u ms q d er) ∙ go (yes_or_no (names b.log n))
      where
        b : IsDrawnOfBoth t u q d
        b = drawn q d er

        here : NetAt u b.log q d
        here = net_at u b.log tu b.second q d b.there

        held : is_empty (u n) ≡ false
        held = ap is_empty (sym (after_none u ms n eo)) ∙ full

        go : (names b.log n ≡ true) ⊎ (names b.log n ≡ false) → is_dir d.new ≡ true
        go (inl touched) = ap is_dir (sym (after_some t ms q d er)) ∙ fits.tree q n e (ap is_empty (after_none t ms n eo ∙ same_touched t u b.log b.first b.second n touched) ∙ held)
        go (inr none) = ap is_dir (sym here.new) ∙ tree-result_of u b.log tu b.second q n e (ap is_empty (untouched u b.log n none) ∙ held)
    tree_at q n e (Some d) (Some c) er eo full = ap is_dir (after_some u ms q d er ∙ sym (after_some t ms q d er)) ∙ fits.tree q n e (ap is_empty (after_some t ms n c eo ∙ sym (after_some u ms n c eo)) ∙ full)
