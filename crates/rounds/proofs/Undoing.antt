-- Undoing: what undoes a log, and a stopped tree.
use Rattle.std.proofs.Common.{◌≡◌, Bool, true, not, ◌&&◌, ◌||◌, List, Option, Some, None, refl, sym, ap, subst, ◌∙◌, arith, map}
use mathlib.Core.Path.{fun_ext}
use Rattle.std.specs.Prelude.{if◌then◌else◌}
use Rattle.std.specs.Option.{option_map}
use Rattle.sync_path.specs.Paths.{Node}
use Rattle.sync_command.specs.declared.values.Value.{Value}
use Rattle.sync_command.specs.Values.{is_empty, is_dir, same_value}
use Rattle.sync_command.specs.Changes.{Change, inverse, is_change}
use Rattle.sync_command.specs.Trees.{Holding, IsTree, Takes, command_at, new_or, after, one_each, Fits}
use Rattle.sync_command.specs.Maps.{Store, at, stored, IsTreeMap}
use Rattle.sync_command.proofs.CallerLemmas.{command_at-inverse, one_each-filter, one_each-inverse, same_fits, same_tree}
use Rattle.canon_set.specs.Logs.{touches, net}
use Rattle.canon_set.specs.Sets.{canonical}
use Rattle.canon_set.proofs.CallerLemmas.{command_at-canonical, inverse_law, net_law, one_each-canonical, one_each-touches}
use Rattle.resume_apply.specs.Ready.{is_ready_value, IsReady}
use Rattle.rounds.specs.Compositions.{inverse_set, undoing}

pub one_net : (log : List Change) → one_each (net log) ≡ true
one_net log = one_each-filter is_change (touches log) (one_each-touches log)

pub one_set : (log : List Change) → one_each (canonical (net log)) ≡ true
one_set log = one_each-canonical (net log) (one_net log)

pub inverse_at : (cs : List Change) → one_each cs ≡ true → (p : Node) → command_at (inverse_set cs) p ≡ option_map inverse (command_at cs p)
inverse_at cs one p = command_at-canonical (map inverse cs) (one_each-inverse cs ∙ one) p ∙ command_at-inverse cs p

same_after : (cs ds : List Change) (t : Holding) → ((p : Node) → command_at cs p ≡ command_at ds p) → after cs t ≡ after ds t
same_after cs ds t same = fun_ext (λ p. ap (λ o. new_or o (t p)) (same p))

pub undo_law : (m : Store) → IsTreeMap m → (log : List Change) → Takes (at m) log → Fits (at (stored m log)) (undoing log) × (after (undoing log) (at (stored m log)) ≡ at m)
undo_law m tree log takes =
    let done = net_law m log tree takes in
    let back = inverse_law m (net log) tree done.0 in (
      subst (λ t. Fits t (undoing log)) (sym done.1) (same_fits (after (net log) (at m)) (map inverse (net log)) (undoing log) (one_each-canonical (map inverse (canonical (net log))) (one_each-inverse (canonical (net log)) ∙ one_set log)) (λ p. sym (same p)) back.0),
      ap (after (undoing log)) done.1 ∙ same_after (undoing log) (map inverse (net log)) (after (net log) (at m)) same ∙ back.1,
    )
  where
    same : (p : Node) → command_at (undoing log) p ≡ command_at (map inverse (net log)) p
    same p = inverse_at (canonical (net log)) (one_set log) p ∙ ap (option_map inverse) (command_at-canonical (net log) (one_net log) p) ∙ sym (command_at-inverse (net log) p)

-- a value at which a tree is ready for a command is one at which it is ready for the inverse
ready_back : (c : Change) (v : Value) → is_ready_value c v ≡ true → is_ready_value (inverse c) v ≡ true
ready_back c v e = go (same_value v c.old) (same_value v c.new) (is_empty v) (is_empty c.old) (is_empty c.new) (is_dir c.old) (is_dir c.new) e
  where
    go : (a b s x y d e : Bool) → (a || (b || ((not x && (not y && (if d then not e else e))) && s))) ≡ true → (b || (a || ((not y && (not x && (if e then not d else d))) && s))) ≡ true
    go a b s x y d e f = grind arith

pub stopped_law : (x y : Holding) → IsTree x → (cs : List Change) → Fits x cs → IsReady y cs → after cs y ≡ after cs x →
    IsReady y (inverse_set cs) × (after (inverse_set cs) y ≡ x)
stopped_law x y tree cs fits ready target =
    (record { values = λ p c e. values p c (command_at cs p) refl (sym (inverse_at cs fits.one p) ∙ e); tree = same_tree x (after (inverse_set cs) y) (λ p. sym (back p)) tree }, fun_ext back)
  where
    values : (p : Node) (c : Change) (o : Option Change) → command_at cs p ≡ o → option_map inverse o ≡ Some c → is_ready_value c (y p) ≡ true
    values p c None e f = cc (f)
    values p c (Some d) e f = subst (λ b. is_ready_value b (y p) ≡ true) (some_is f) (ready_back d (y p) (ready.values p d e))
      where
        some_is : Some (inverse d) ≡ Some c → inverse d ≡ c
        some_is f = cc

    back : (p : Node) → after (inverse_set cs) y p ≡ x p
    back p = ap (λ o. new_or o (y p)) (inverse_at cs fits.one p) ∙ go (command_at cs p) (fits.olds p) (ap (λ t. t p) target)
      where
        go : (o : Option Change) → ((c : Change) → o ≡ Some c → x p ≡ c.old) → new_or o (y p) ≡ new_or o (x p) → new_or (option_map inverse o) (y p) ≡ x p
        go None olds same = same
        go (Some c) olds same = sym (olds c refl)
