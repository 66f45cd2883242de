-- The loops along the ways up and down.
use Rattle.std.proofs.Common.{◌≡◌, ℕ, ◌<◌, true, false, not, List, [], ◌∷◌, ◌++◌, length, drop, map, reverse, Option, Some, None, append_assoc, refl, sym, ap, subst, ◌∙◌, ◌⊎◌, inl, inr}
use Rattle.std.proofs.lemmas.List.{append-nil, map-append, reverse-append}
use Rattle.sync_path.specs.Paths.{Node, is_under, parent}
use Rattle.sync_command.specs.declared.values.Value.{Value}
use Rattle.sync_command.specs.declared.commands.Row.{Row}
use Rattle.sync_command.specs.Values.{is_dir}
use Rattle.sync_command.specs.Changes.{Change}
use Rattle.sync_command.specs.Trees.{Holding, command_at}
use Rattle.refluent.specs.Joints.{IsJoint, Joined, path_at, value_at}
use Rattle.refluent.specs.Picks.{IsParentPlace}
use Rattle.sync_path.proofs.CallerLemmas.{HasParentUnder, parent_shorter, under_split}
use Rattle.pref_list.proofs.CallerLemmas.{one_place, path_within}
use Rattle.explain_core.specs.Chains.{denies, is_denied}
use Rattle.explain_core.specs.FirstChains.{first_tree, way_down, way_up}
use Rattle.explain_core.specs.Reasons.{AreAt}
use Rattle.explain_core.proofs.Placing.{at_more, first_at, no_parent_place, parent_place, some_is}
use Rattle.explain_core.proofs.Leading.{down_own, down_step, met_none, on_none, up_none, up_root, up_some}

abbrev pub depth_of : Option Node → ℕ
depth_of None = 0
depth_of (Some p) = length p

-- the number of names of the node at a place
abbrev pub depth_at : List Row → ℕ → ℕ
depth_at rows place = depth_of (path_at rows place)

depth_less : (rows : List Row) (i k : ℕ) (p q : Node) → path_at rows i ≡ Some p → path_at rows k ≡ Some q → length q < length p → depth_at rows k < depth_at rows i
depth_less rows i k p q e f less = subst (λ m. m < depth_at rows i) (sym (ap depth_of f)) (subst (λ m. length q < m) (sym (ap depth_of e)) less)

-- ---- up

-- the nodes so far are the first of the way up, and pass on whether it is denied
pub record UpTo (t : Holding) (rows : List Row) (ms : List Change) (n : Node) (via : List ℕ) (at : ℕ) : Type 0 where
  pub node : Node
  pub here : path_at rows at ≡ Some node
  pub prefix : List Node
  pub along : AreAt rows via prefix
  pub way : way_up ms n ≡ prefix ++ way_up ms node
  pub denied : is_denied is_dir t ms (way_up ms n) ≡ is_denied is_dir t ms (way_up ms node)

pub up_start : (t : Holding) (rows : List Row) (ms : List Change) (n : Node) (place : ℕ) → path_at rows place ≡ Some n → UpTo t rows ms n [] place
up_start t rows ms n place e = record { node = n; here = e; prefix = []; along = refl; way = refl; denied = refl }

module _ (j : Joined) (is : IsJoint j) (ms : List Change) (n : Node) (via : List ℕ) (at : ℕ) (u : UpTo (first_tree j) j.nodes ms n via at) where
  pub up_low : at < length j.nodes
  up_low = path_within j.nodes at u.node u.here

  -- at a root nothing is denied
  pub up_ends : ((p : Node) → path_at j.nodes at ≡ Some p → IsParentPlace j.nodes (parent p) None) → is_denied is_dir (first_tree j) ms (way_up ms n) ≡ false
  up_ends above = u.denied ∙ ap (is_denied is_dir (first_tree j) ms) (up_root ms u.node (no_parent_place j.nodes u.node (above u.node u.here)))

  module _ (up : ℕ) (above : (p : Node) → path_at j.nodes at ≡ Some p → IsParentPlace j.nodes (parent p) (Some up)) where
    over : (q : Node) × (parent u.node ≡ Some q) × (path_at j.nodes up ≡ Some q)
    over = parent_place j.nodes u.node up (above u.node u.here)

    pub up_within : up < length j.nodes
    up_within = path_within j.nodes up over.0 over.2

    pub up_smaller : depth_at j.nodes up < depth_at j.nodes at
    up_smaller = depth_less j.nodes at up u.node over.0 u.here over.2 (parent_shorter over.0 u.node over.1)

    module _ (q : Node) (there : path_at j.nodes up ≡ Some q) where
      is_over : parent u.node ≡ Some q
      is_over = over.1 ∙ sym over.2 ∙ there

      -- at a command the way ends
      pub up_taken : (d : Change) → command_at ms q ≡ Some d → is_dir d.new ≡ false → AreAt j.nodes (via ++ up ∷ []) (way_up ms n) × (is_denied is_dir (first_tree j) ms (way_up ms n) ≡ true)
      up_taken d some bare = (
        subst (AreAt j.nodes (via ++ up ∷ [])) (sym (u.way ∙ ap (λ l. u.prefix ++ l) (up_some ms u.node q d is_over some))) (at_more j.nodes via u.prefix up q u.along there),
        u.denied ∙ ap (is_denied is_dir (first_tree j) ms) (up_some ms u.node q d is_over some) ∙ ap (denies is_dir) some ∙ ap not bare,
      )

      pub up_made : (d : Change) → command_at ms q ≡ Some d → is_dir d.new ≡ true → is_denied is_dir (first_tree j) ms (way_up ms n) ≡ false
      up_made d some made = u.denied ∙ ap (is_denied is_dir (first_tree j) ms) (up_some ms u.node q d is_over some) ∙ ap (denies is_dir) some ∙ ap not made

      module _ (none : command_at ms q ≡ None) (v : Value) (first : value_at j.nodes up ≡ Some v) where
        holds : first_tree j q ≡ v
        holds = first_at j.nodes is.stands.order up q v there first

        pub up_dir : is_dir v ≡ true → is_denied is_dir (first_tree j) ms (way_up ms n) ≡ false
        up_dir dir = u.denied ∙ ap (is_denied is_dir (first_tree j) ms) (up_none ms u.node q is_over none) ∙ met_none is_dir (first_tree j) ms q none (ap is_dir holds ∙ dir) (way_up ms q)

        pub up_on : is_dir v ≡ false → UpTo (first_tree j) j.nodes ms n (via ++ up ∷ []) up
        up_on bare = record {
          node = q;
          here = there;
          prefix = u.prefix ++ q ∷ [];
          along = at_more j.nodes via u.prefix up q u.along there;
          way = u.way ∙ ap (λ l. u.prefix ++ l) (up_none ms u.node q is_over none) ∙ sym (append_assoc u.prefix (q ∷ []) (way_up ms q));
          denied = u.denied ∙ ap (is_denied is_dir (first_tree j) ms) (up_none ms u.node q is_over none) ∙ on_none is_dir (first_tree j) ms q none (ap is_dir holds ∙ bare) (way_up ms q);
        }

-- ---- down

reverse-last : {X : Type 0} (xs : List X) (x : X) → reverse (xs ++ x ∷ []) ≡ x ∷ reverse xs
reverse-last xs x = reverse-append xs (x ∷ [])

map-reverse_of : {X Y : Type 0} (f : X → Y) (xs : List X) → map f (reverse xs) ≡ reverse (map f xs)
map-reverse_of f [] = refl
map-reverse_of f (x ∷ xs) = ap (map f) (reverse-append (x ∷ []) xs) ∙ map-append f (reverse xs) (x ∷ []) ∙ ap (λ l. l ++ f x ∷ []) (map-reverse_of f xs) ∙ sym (reverse-append (f x ∷ []) (map f xs))

pub at_reverse : (rows : List Row) (is : List ℕ) (xs : List Node) → AreAt rows is xs → AreAt rows (reverse is) (reverse xs)
at_reverse rows is xs e = map-reverse_of (path_at rows) is ∙ ap reverse e ∙ sym (map-reverse_of Some xs)

-- the nodes so far are the last of the way down, the last one first
pub record DownTo (rows : List Row) (n p : Node) (via : List ℕ) (at : ℕ) : Type 0 where
  pub node : Node
  pub here : path_at rows at ≡ Some node
  pub low : (node ≡ n) ⊎ (is_under node n ≡ true)
  pub prefix : List Node
  pub along : AreAt rows via prefix
  pub way : way_down n (drop (length n) p) ≡ way_down n (drop (length n) node) ++ reverse prefix

pub down_start : (rows : List Row) (n p : Node) (low : ℕ) → path_at rows low ≡ Some p → is_under p n ≡ true → DownTo rows n p [] low
down_start rows n p low e under = record { node = p; here = e; low = inr under; prefix = []; along = refl; way = sym (append-nil (way_down n (drop (length n) p))) }

module _ (j : Joined) (is : IsJoint j) (n p : Node) (via : List ℕ) (at : ℕ) (d : DownTo j.nodes n p via at) (place : ℕ) (top : path_at j.nodes place ≡ Some n) where
  pub down_low : at < length j.nodes
  down_low = path_within j.nodes at d.node d.here

  pub down_ends : at ≡ place → AreAt j.nodes (reverse via) (way_down n (drop (length n) p))
  down_ends same =
      let own : d.node ≡ n = some_is (sym d.here ∙ ap (path_at j.nodes) same ∙ top) in
      subst (AreAt j.nodes (reverse via)) (sym (d.way ∙ ap (λ l. l ++ reverse d.prefix) (ap (λ q. way_down n (drop (length n) q)) own ∙ down_own n))) (at_reverse j.nodes via d.prefix d.along)

  module _ (apart : at ≡ place → ⊥) where
    below : is_under d.node n ≡ true
    below = go d.low
      where
        go : (d.node ≡ n) ⊎ (is_under d.node n ≡ true) → is_under d.node n ≡ true
        go (inr under) = under
        go (inl own) = absurd (apart (one_place j.nodes is.stands.order at place n (d.here ∙ ap Some own) top))

    split : HasParentUnder d.node n
    split = under_split d.node n below

    pub down_has : ((q : Node) → path_at j.nodes at ≡ Some q → IsParentPlace j.nodes (parent q) None) → ⊥
    down_has above = let e : None ≡ Some split.up = sym (no_parent_place j.nodes d.node (above d.node d.here)) ∙ split.is in cc (e)

    module _ (up : ℕ) (above : (q : Node) → path_at j.nodes at ≡ Some q → IsParentPlace j.nodes (parent q) (Some up)) where
      upper : (q : Node) × (parent d.node ≡ Some q) × (path_at j.nodes up ≡ Some q)
      upper = parent_place j.nodes d.node up (above d.node d.here)

      pub down_smaller : depth_at j.nodes up < depth_at j.nodes at
      down_smaller = depth_less j.nodes at up d.node upper.0 d.here upper.2 (parent_shorter upper.0 d.node upper.1)

      pub down_on : DownTo j.nodes n p (via ++ at ∷ []) up
      down_on = record {
        node = upper.0;
        here = upper.2;
        low = low;
        prefix = d.prefix ++ d.node ∷ [];
        along = at_more j.nodes via d.prefix at d.node d.along d.here;
        way = d.way ∙ ap (λ l. l ++ reverse d.prefix) (down_step n d.node upper.0 upper.1 low) ∙ append_assoc (way_down n (drop (length n) upper.0)) (d.node ∷ []) (reverse d.prefix)
            ∙ ap (λ l. way_down n (drop (length n) upper.0) ++ l) (sym (reverse-last d.prefix d.node));
      }
        where
          low : (upper.0 ≡ n) ⊎ (is_under upper.0 n ≡ true)
          low = let same : split.up ≡ upper.0 = some_is (sym split.is ∙ upper.1) in subst (λ q. (q ≡ n) ⊎ (is_under q n ≡ true)) same split.way
