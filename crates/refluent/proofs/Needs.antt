-- A tree that takes logs meets their needs, and no two of these logs disagree.
use Rattle.std.proofs.Common.{◌≡◌, Bool, true, false, not, ◌&&◌, ◌||◌, List, Option, Some, None, refl, sym, ap, ◌∙◌, arith}
use Rattle.std.specs.Prelude.{is_some}
use Rattle.canon_set.specs.Leaving.{above}
use Rattle.canon_set.specs.Logs.{touches, names, all_change}
use Rattle.refluent.specs.Needs.{Need, Anything, AnyDirectory, Exactly, need_by, need, meets, needs_non_empty, are_incompatible, leaves_parent, are_opposed, disagree}
use Rattle.sync_command.specs.Changes.{Change}
use Rattle.sync_command.specs.Trees.{Holding, IsTree, Takes, command_at}
use Rattle.sync_command.specs.Values.{is_empty, is_dir}
use Rattle.sync_command.specs.declared.values.Value.{Value}
use Rattle.sync_command.specs.declared.values.Value.TheVariants.{Empty, Dir, File}
use Rattle.sync_path.specs.Paths.{Node, parent}
use Rattle.canon_set.proofs.CallerLemmas.{olds-touches, is_some-touches, above_dir, leaves_none}
use Rattle.sync_command.proofs.CallerLemmas.{same_value_is, same_value_at}

-- a tree that takes a log meets its needs
pub meets_need : (t : Holding) (cs : List Change) → IsTree t → Takes t cs → all_change cs ≡ true → (p : Node) → meets (need cs p) (t p) ≡ true
meets_need t cs tree takes change p = go (command_at (touches cs) p) refl (is_some-touches cs p) (above cs p) refl
  where
    go : (o : Option Change) → command_at (touches cs) p ≡ o → is_some o ≡ names cs p → (b : Bool) → above cs p ≡ b → meets (need_by o b) (t p) ≡ true
    go (Some d) e s b a = same_value_at d.old (t p) (sym (olds-touches t cs takes p d e))
    go None e s true a = above_dir t cs tree takes change p a (sym s)
    go None e s false a = refl

pub met_together : (m n : Need) (v : Value) → meets m v ≡ true → meets n v ≡ true → are_incompatible m n ≡ false
met_together Anything n v a b = refl
met_together AnyDirectory Anything v a b = refl
met_together AnyDirectory AnyDirectory v a b = refl
met_together AnyDirectory (Exactly w) v a b = go (same_value_is w v b)
  where
    go : w ≡ v → not (is_dir w) ≡ false
    go e = ap (λ x. not (is_dir x)) e ∙ ap not a
met_together (Exactly u) Anything v a b = refl
met_together (Exactly u) AnyDirectory v a b = ap (λ x. not (is_dir x)) (same_value_is u v a) ∙ ap not b
met_together (Exactly u) (Exactly w) v a b = ap not (same_value_at u w (same_value_is u v a ∙ sym (same_value_is w v b)))

pub full_met : (m : Need) (v : Value) → needs_non_empty m ≡ true → meets m v ≡ true → is_empty v ≡ false
full_met Anything v f a = cc
full_met AnyDirectory Empty f a = cc
full_met AnyDirectory (Dir l) f a = refl
full_met AnyDirectory (File b) f a = refl
full_met (Exactly w) v f a = ap is_empty (sym (same_value_is w v a)) ∙ go (is_empty w) f
  where
    go : (b : Bool) → not b ≡ true → b ≡ false
    go true e = cc
    go false e = refl

-- No two logs that a tree takes disagree.
pub opposed_none : (t : Holding) (cs ds : List Change) → IsTree t → Takes t cs → Takes t ds → all_change cs ≡ true → (n : Node) → are_opposed cs ds n ≡ false
opposed_none t cs ds tree takes takes' change n = go (needs_non_empty (need cs n)) (λ f. full_met (need cs n) (t n) f (meets_need t cs tree takes change n)) (names ds n) (λ h. h) (parent n) refl
  where
    go : (a : Bool) → (a ≡ true → is_empty (t n) ≡ false) → (b : Bool) → (b ≡ false → names ds n ≡ false) → (o : Option Node) → parent n ≡ o → (a && (not b && leaves_parent ds o)) ≡ false
    go false f b g o e = refl
    go true f true g o e = refl
    go true f false g None e = refl
    go true f false g (Some q) e = leaves_none t ds tree takes' q n e (f refl) (g refl)

pub taken_agree : (t : Holding) (cs ds : List Change) → IsTree t → Takes t cs → Takes t ds → all_change cs ≡ true → all_change ds ≡ true → (n : Node) → disagree cs ds n ≡ false
taken_agree t cs ds tree takes takes' change change' n =
    three _ _ _ (met_together (need cs n) (need ds n) (t n) (meets_need t cs tree takes change n) (meets_need t ds tree takes' change' n)) (opposed_none t cs ds tree takes takes' change n) (opposed_none t ds cs tree takes' takes change' n)
  where
    three : (a b c : Bool) → a ≡ false → b ≡ false → c ≡ false → (a || (b || c)) ≡ false
    three a b c x y z = grind arith
