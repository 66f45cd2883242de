-- A set with one command per node has no clash exactly where no command leaves a node other than a directory while another leaves a child of it non-empty.
use Rattle.std.proofs.Common.{◌≡◌, Bool, true, false, not, ◌&&◌, ◌||◌, List, [], ◌∷◌, Option, Some, None, refl, sym, ap, subst, ◌∙◌, arith}
use Rattle.std.specs.Prelude.{is_none}
use Rattle.sync_path.specs.Paths.{parent, same_path}
use Rattle.sync_command.specs.Values.{is_empty, is_dir}
use Rattle.sync_command.specs.Changes.{Change, same_change}
use Rattle.sync_command.specs.Trees.{command_at, one_each}
use Rattle.sync_path.specs.Children.{is_child}
use Rattle.sync_path.proofs.CallerLemmas.{both, child_at, child_is, same_path_is, same_path_at}
use Rattle.sync_command.proofs.CallerLemmas.{command_at-node}
use Rattle.refluent.proofs.Prerequisites.{LeavesNoChild}
use Rattle.refluent.proofs.Sets.{at_from_in, in_from_at, same_change_at, same_change_is, same_change_refl}
use Rattle.refluent.specs.Sets.{is_in, all_differ}
use Rattle.refluent.specs.Clashes.{clashes_below, HasNoClash}

neither : (a b c : Bool) → (a || (b || c)) ≡ false → (a ≡ false) × (b ≡ false) × (c ≡ false)
neither a b c e = grind arith

not_both : (a b : Bool) → (a && not b) ≡ false → a ≡ true → b ≡ true
not_both a b e f = grind arith

-- what clashes with nothing of its node is the only command there
pub one_from_no_clash : (cs : List Change) → all_differ cs ≡ true → HasNoClash cs → one_each cs ≡ true
one_from_no_clash [] differ apart = refl
one_from_no_clash (c ∷ cs) differ apart =
    ap (λ b. b && one_each cs) (alone (command_at cs c.node) refl) ∙ one_from_no_clash cs parts.1 (λ x y i j. apart x y (later x i) (later y j))
  where
    parts : (not (is_in cs c) ≡ true) × (all_differ cs ≡ true)
    parts = both (not (is_in cs c)) (all_differ cs) differ

    later : (x : Change) → is_in cs x ≡ true → is_in (c ∷ cs) x ≡ true
    later x i = grind (arith, i)

    own : is_in (c ∷ cs) c ≡ true
    own = ap (λ b. b || is_in cs c) (same_change_refl c)

    twice : is_in cs c ≡ true → ⊥
    twice i = let e : not (is_in cs c) ≡ true = parts.0 in cc (i, e)

    alone : (o : Option Change) → command_at cs c.node ≡ o → is_none o ≡ true
    alone None e = refl
    alone (Some d) e =
        let there : is_in cs d ≡ true = in_from_at cs c.node d e in
        let here : same_path c.node d.node ≡ true = same_path_at c.node d.node (command_at-node cs c.node d e) in
        let same : same_change c d ≡ true = not_both (same_path c.node d.node) (same_change c d) (neither _ (clashes_below c d) (clashes_below d c) (apart c d own (later d there))).0 here in
        absurd (twice (subst (λ x. is_in cs x ≡ true) (sym (same_change_is c d same)) there))

pub leaves_no_child : (cs : List Change) → HasNoClash cs → LeavesNoChild cs
leaves_no_child cs apart q n d c e at at' other =
    go (neither (same_path d.node c.node && not (same_change d c)) (clashes_below d c) (clashes_below c d) (apart d c (in_from_at cs q d at) (in_from_at cs n c at'))).1
  where
    below : is_child c.node d.node ≡ true
    below = child_at c.node d.node (ap parent (sym (command_at-node cs n c at')) ∙ e ∙ ap Some (command_at-node cs q d at))

    go : clashes_below d c ≡ false → is_empty c.new ≡ true
    go f = fin (is_dir d.new) (is_child c.node d.node) (is_empty c.new) f other below
      where
        fin : (x y z : Bool) → (not x && (y && not z)) ≡ false → x ≡ false → y ≡ true → z ≡ true
        fin x y z e f g = grind arith

pub has_no_clash : (cs : List Change) → one_each cs ≡ true → LeavesNoChild cs → HasNoClash cs
has_no_clash cs one none c d i j = all (same_node (same_path c.node d.node) (same_path_is c.node d.node)) (none_below c d i j) (none_below d c j i)
  where
    all : {x y z : Bool} → x ≡ false → y ≡ false → z ≡ false → (x || (y || z)) ≡ false
    all {x} {y} {z} e f g = grind arith

    same_node : (b : Bool) → (b ≡ true → c.node ≡ d.node) → (b && not (same_change c d)) ≡ false
    same_node false f = refl
    same_node true f =
        let at : command_at cs c.node ≡ Some d = ap (command_at cs) (f refl) ∙ at_from_in cs one d j in
        let is : c ≡ d = some_is (sym (at_from_in cs one c i) ∙ at) in
        ap not (same_change_at c d is)
      where
        some_is : Some c ≡ Some d → c ≡ d
        some_is e = cc

    none_below : (x y : Change) → is_in cs x ≡ true → is_in cs y ≡ true → clashes_below x y ≡ false
    none_below x y i j = go (is_dir x.new) refl (is_child y.node x.node) refl
      where
        go : (a : Bool) → is_dir x.new ≡ a → (b : Bool) → is_child y.node x.node ≡ b → (not a && (b && not (is_empty y.new))) ≡ false
        go true e b f = refl
        go false e false f = refl
        go false e true f = ap not (none x.node y.node x y (child_is y.node x.node f) (at_from_in cs one x i) (at_from_in cs one y j) e)
