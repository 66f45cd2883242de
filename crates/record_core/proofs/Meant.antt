-- The commands of an operation are taken by its tree, one call each.
use Rattle.std.proofs.Common.{◌≡◌, ◌⊎◌, inl, inr, Bool, true, false, ◌&&◌, ◌||◌, List, [], ◌∷◌, ◌++◌, Option, Some, None, refl, sym, ap, subst, ◌∙◌}
use Rattle.std.specs.Prelude.{map, if◌then◌else◌, is_none}
use Rattle.std.specs.List.{AllByRecursion, list_all}
use Rattle.sync_path.specs.Paths.{Node, comes_before, is_under, parent, same_path}
use Rattle.sync_path.proofs.CallerLemmas.{before_irrefl, same_path_at, same_path_is, same_path_refl, same_path_comm, parent_apart, under_down, under_parent}
use Rattle.sync_command.specs.declared.values.Value.{Value}
use Rattle.sync_command.specs.declared.values.Value.TheVariants.{Empty, Dir, File}
use Rattle.sync_command.specs.Values.{is_dir, is_empty}
use Rattle.sync_command.specs.Changes.{Change, goes_before, is_canonical, is_down}
use Rattle.sync_command.specs.Maps.{IsTreeMap, Store, at}
use Rattle.sync_command.specs.Trees.{Fits, Holding, IsTree, Takes, after, command_at, new_or, one_each, put, result_of}
use Rattle.sync_command.proofs.CallerLemmas.{fits_takes, put_here, put_apart}
use Rattle.tree_port.specs.Conditions.{HasNoChild}
use Rattle.record_core.specs.Changing.{CanChange, CanRecord}
use Rattle.record_core.specs.Meanings.{backwards, emptied, nodes_of, subtree}
use Rattle.record_core.proofs.Ascending.{Ascends, from_or, has, has-append, not_both, or_left, or_right}
use Rattle.record_core.proofs.SubtreeLemmas.{in_subtree, subtree_ascends, to_subtree}

-- ---- from lists that are taken to single calls

below_tree : (t : Holding) (n : Node) (v : Value) → IsTree (put t n v) → is_empty v ≡ false → (q : Node) → parent n ≡ Some q → is_dir (t q) ≡ true
below_tree t n v tree full q up = sym (ap is_dir (put_apart t n v q (parent_apart q n up))) ∙ tree q n up (ap is_empty (put_here t n v) ∙ full)

no_child : (t : Holding) (n : Node) → IsTree (put t n Empty) → HasNoChild t n
no_child t n tree p up = go (is_empty (t p)) refl
  where
    go : (b : Bool) → is_empty (t p) ≡ b → b ≡ true
    go true e = refl
    go false e = absurd (not_both (is_dir (put t n Empty n)) (tree n p up (ap is_empty (put_apart t n Empty p (same_path_comm p n ∙ parent_apart n p up)) ∙ e)) (ap is_dir (put_here t n Empty)))

-- an applicable command that makes, empties, or changes a value in its kind is one call
pub can_change : (t : Holding) (n : Node) (old new : Value) → t n ≡ old → IsTree (put t n new) → (is_empty new ≡ true → is_empty old ≡ false) → (is_dir new ≡ true → is_empty old ≡ false → is_dir old ≡ true) → (is_dir old ≡ true → is_empty new ≡ false → is_dir new ≡ true)
    → CanChange old new t n
can_change t n old Empty held tree full plain kept = record { full = ap is_empty held ∙ full refl; last = no_child t n tree }
can_change t n old (File bytes) held tree full plain kept = record { no_dir = ap is_dir held ∙ go (is_dir old) (λ e. kept e refl); below = below_tree t n (File bytes) tree refl }
  where
    go : (b : Bool) → (b ≡ true → false ≡ true) → b ≡ false
    go true f = sym (f refl)
    go false f = refl
can_change t n Empty (Dir label) held tree full plain kept = record { free = ap is_empty held; below = below_tree t n (Dir label) tree refl }
can_change t n (Dir from) (Dir label) held tree full plain kept = ap is_dir held
can_change t n (File bytes) (Dir label) held tree full plain kept = absurd (not_both false (plain refl refl) refl)

-- the command changes a value, and makes no directory of a file nor the other way
pub record IsSingle (c : Change) : Type 0 where
  pub full : is_empty c.new ≡ true → is_empty c.old ≡ false
  pub plain : is_dir c.new ≡ true → is_empty c.old ≡ false → is_dir c.old ≡ true
  pub kept : is_dir c.old ≡ true → is_empty c.new ≡ false → is_dir c.new ≡ true

pub can_record : (t : Holding) (cs : List Change) → Takes t cs → AllByRecursion IsSingle cs → CanRecord t cs
can_record t [] takes single = tt
can_record t (c ∷ cs) takes single = (
  can_change t c.node c.old c.new takes.0.old takes.0.tree single.0.full single.0.plain single.0.kept,
  can_record (put t c.node c.new) cs takes.1 single.1,
)

pub takes_append : (t : Holding) (cs ds : List Change) → Takes t cs → Takes (result_of t cs) ds → Takes t (cs ++ ds)
takes_append t [] ds f g = g
takes_append t (c ∷ cs) ds f g = (f.0, takes_append (put t c.node c.new) cs ds f.1 g)

pub single_append : (cs ds : List Change) → AllByRecursion IsSingle cs → AllByRecursion IsSingle ds → AllByRecursion IsSingle (cs ++ ds)
single_append [] ds f g = g
single_append (c ∷ cs) ds f g = (f.0, single_append cs ds f.1 g)

-- ---- sets made from lists of nodes

-- R holds of each node and each later one
abbrev pub Pairs : (Node → Node → Type 0) → List Node → Type 0
Pairs R [] = Unit {0}
Pairs R (n ∷ ns) = AllByRecursion (R n) ns × Pairs R ns

all_more : {P Q : Node → Type 0} (ns : List Node) → ((n : Node) → has ns n ≡ true → P n → Q n) → AllByRecursion P ns → AllByRecursion Q ns
all_more [] f h = tt
all_more (x ∷ ns) f h = (f x (or_left (same_path x x) (has ns x) (same_path_refl x)) h.0, all_more ns (λ n i p. f n (or_right (same_path n x) (has ns n) i) p) h.1)

pub pairs_from : (R : Node → Node → Type 0) (ns : List Node) → ((a b : Node) → has ns a ≡ true → has ns b ≡ true → comes_before a b ≡ true → R a b) → Ascends ns → Pairs R ns
pairs_from R [] f h = tt
pairs_from R (x ∷ ns) f h = (
  all_more ns (λ n i low. f x n (or_left (same_path x x) (has ns x) (same_path_refl x)) (or_right (same_path n x) (has ns n) i) low) h.0,
  pairs_from R ns (λ a b i j low. f a b (or_right (same_path a x) (has ns a) i) (or_right (same_path b x) (has ns b) j) low) h.1,
)

all_append : (P : Node → Type 0) (a b : List Node) → AllByRecursion P a → AllByRecursion P b → AllByRecursion P (a ++ b)
all_append P [] b f g = g
all_append P (x ∷ a) b f g = (f.0, all_append P a b f.1 g)

pairs_push : (R : Node → Node → Type 0) (a : List Node) (x : Node) → Pairs R a → AllByRecursion (λ n. R n x) a → Pairs R (a ++ x ∷ [])
pairs_push R [] x f g = (tt, tt)
pairs_push R (y ∷ a) x f g = (all_append (R y) a (x ∷ []) f.0 (g.0, tt), pairs_push R a x f.1 g.1)

all_backwards : (P : Node → Type 0) (ns : List Node) → AllByRecursion P ns → AllByRecursion P (backwards ns)
all_backwards P [] h = tt
all_backwards P (x ∷ ns) h = all_append P (backwards ns) (x ∷ []) (all_backwards P ns h.1) (h.0, tt)

pairs_backwards : (R : Node → Node → Type 0) (ns : List Node) → Pairs R ns → Pairs (λ a b. R b a) (backwards ns)
pairs_backwards R [] h = tt
pairs_backwards R (x ∷ ns) h = pairs_push (λ a b. R b a) (backwards ns) x (pairs_backwards R ns h.1) (all_backwards (R x) ns h.0)

-- the command of a goes before that of b and is one of another node
abbrev pub Goes : (Node → Change) → Node → Node → Type 0
Goes f a b = (goes_before (f a) (f b) ≡ true) × (same_path (f a).node (f b).node ≡ false)

canonical_all : (f : Node → Change) (n : Node) (ns : List Node) → AllByRecursion (Goes f n) ns → (list_all (goes_before (f n)) (map f ns) ≡ true) × (is_none (command_at (map f ns) (f n).node) ≡ true)
canonical_all f n [] h = (refl, refl)
canonical_all f n (x ∷ ns) h = let r = canonical_all f n ns h.1 in (
  (λ i. h.0.0 i && r.0 i),
  ap (λ b. is_none (if b then Some (f x) else command_at (map f ns) (f n).node)) h.0.1 ∙ r.1,
)

pub canonical_pairs : (f : Node → Change) (ns : List Node) → Pairs (Goes f) ns → (is_canonical (map f ns) ≡ true) × (one_each (map f ns) ≡ true)
canonical_pairs f [] h = (refl, refl)
canonical_pairs f (x ∷ ns) h = let a = canonical_all f x ns h.0 in let r = canonical_pairs f ns h.1 in ((λ i. a.0 i && r.0 i), (λ i. a.1 i && r.1 i))

-- the command at a node is that of a member
pub at_some : (f : Node → Change) (ns : List Node) (x : Node) (c : Change) → command_at (map f ns) x ≡ Some c → (n : Node) × (has ns n ≡ true) × (x ≡ (f n).node) × (c ≡ f n)
at_some f [] x c e = cc
at_some f (n ∷ ns) x c e = go (same_path x (f n).node) refl e (at_some f ns x c)
  where
    go : (s : Bool) → same_path x (f n).node ≡ s → (if s then Some (f n) else command_at (map f ns) x) ≡ Some c → (command_at (map f ns) x ≡ Some c → (n : Node) × (has ns n ≡ true) × (x ≡ (f n).node) × (c ≡ f n))
        → (k : Node) × (has (n ∷ ns) k ≡ true) × (x ≡ (f k).node) × (c ≡ f k)
    go true s e rec = (n, or_left (same_path n n) (has ns n) (same_path_refl n), same_path_is x (f n).node s, same e)
      where
        same : ◌≡◌ {A = Option Change} (Some (f n)) (Some c) → c ≡ f n
        same e = cc
    go false s e rec = let r = rec e in (r.0, or_right (same_path r.0 n) (has ns r.0) r.1, r.2, r.3)

pub at_member : (f : Node → Change) (ns : List Node) (n : Node) → has ns n ≡ true → ((k : Node) → has ns k ≡ true → (f k).node ≡ (f n).node → k ≡ n) → command_at (map f ns) (f n).node ≡ Some (f n)
at_member f [] n h one = absurd (not_both false h refl)
at_member f (x ∷ ns) n h one = go (same_path (f n).node (f x).node) refl (from_or (same_path n x) (has ns n) h) (λ g. at_member f ns n g (λ k i e. one k (or_right (same_path k x) (has ns k) i) e))
  where
    go : (s : Bool) → same_path (f n).node (f x).node ≡ s → (same_path n x ≡ true) ⊎ (has ns n ≡ true) → (has ns n ≡ true → command_at (map f ns) (f n).node ≡ Some (f n)) → (if s then Some (f x) else command_at (map f ns) (f n).node) ≡ Some (f n)
    go true s h rec = ap (λ k. Some (f k)) (one x (or_left (same_path x x) (has ns x) (same_path_refl x)) (sym (same_path_is (f n).node (f x).node s)))
    go false s (inl e) rec = absurd (not_both (same_path (f n).node (f x).node) (same_path_at (f n).node (f x).node (ap (λ k. (f k).node) (same_path_is n x e))) s)
    go false s (inr h) rec = rec h

pub has_backwards : (ns : List Node) (p : Node) → has (backwards ns) p ≡ has ns p
has_backwards [] p = refl
has_backwards (x ∷ ns) p = has-append (backwards ns) (x ∷ []) p ∙ ap (λ b. b || (same_path p x || false)) (has_backwards ns p) ∙ turned (has ns p) (same_path p x)
  where
    turned : (a b : Bool) → (a || (b || false)) ≡ (b || a)
    turned true true = refl
    turned true false = refl
    turned false true = refl
    turned false false = refl

-- ---- a subtree that is emptied

module _ (m : Store) (tree : IsTreeMap m) (p : Node) where
  abbrev gone : List Node
  gone = backwards (subtree (nodes_of m) p)

  empties_down : (n : Node) → is_down (emptied (at m) n) ≡ true
  empties_down n = refl

  pub empties_canonical : (is_canonical (map (emptied (at m)) gone) ≡ true) × (one_each (map (emptied (at m)) gone) ≡ true)
  empties_canonical = canonical_pairs (emptied (at m)) gone (pairs_backwards (λ a b. Goes (emptied (at m)) b a) (subtree (nodes_of m) p)
      (pairs_from (λ a b. Goes (emptied (at m)) b a) (subtree (nodes_of m) p) (λ a b i j low. (low, apart a b low)) (subtree_ascends m p)))
    where
      apart : (a b : Node) → comes_before a b ≡ true → same_path b a ≡ false
      apart a b low = go (same_path b a) refl
        where
          go : (s : Bool) → same_path b a ≡ s → s ≡ false
          go true s = absurd (not_both (comes_before a b) low (subst (λ x. comes_before a x ≡ false) (sym (same_path_is b a s)) (before_irrefl a)))
          go false s = refl

  in_gone : (n : Node) → has gone n ≡ has (subtree (nodes_of m) p) n
  in_gone n = has_backwards (subtree (nodes_of m) p) n

  -- what is in the subtree is emptied, and nothing else changes
  emptied_at : (x : Node) → has (subtree (nodes_of m) p) x ≡ true → command_at (map (emptied (at m)) gone) x ≡ Some (emptied (at m) x)
  emptied_at x h = at_member (emptied (at m)) gone x (in_gone x ∙ h) (λ k i e. e)

  after_emptied : (x : Node) → (is_empty (after (map (emptied (at m)) gone) (at m) x) ≡ false) → (is_empty (at m x) ≡ false) × (has (subtree (nodes_of m) p) x ≡ false)
  after_emptied x full = go (has (subtree (nodes_of m) p) x) refl (command_at (map (emptied (at m)) gone) x) refl
    where
      go : (b : Bool) → has (subtree (nodes_of m) p) x ≡ b → (o : Option Change) → command_at (map (emptied (at m)) gone) x ≡ o → (is_empty (at m x) ≡ false) × (b ≡ false)
      go true h o e = absurd (not_both true refl (sym (ap (λ o. is_empty (new_or o (at m x))) (emptied_at x h)) ∙ full))
      go false h None e = (sym (ap (λ o. is_empty (new_or o (at m x))) e) ∙ full, refl)
      go false h (Some c) e = let r = at_some (emptied (at m)) gone x c e in absurd (not_both (has (subtree (nodes_of m) p) x) (ap (has (subtree (nodes_of m) p)) r.2 ∙ sym (in_gone r.0) ∙ r.1) h)

  pub empties_fit : Fits (at m) (map (emptied (at m)) gone)
  empties_fit = record {
    one = empties_canonical.1;
    olds = λ n c e. let r = at_some (emptied (at m)) gone n c e in ap (at m) r.2 ∙ ap (λ d. d.old) (sym r.3);
    tree = λ q n up full.
        let a = after_emptied n full in
        let dir = tree.tree q n up a.0 in
        ap is_dir (stays q dir (outside q n up a.0 a.1)) ∙ dir;
  }
    where
      outside : (q n : Node) → parent n ≡ Some q → is_empty (at m n) ≡ false → has (subtree (nodes_of m) p) n ≡ false → has (subtree (nodes_of m) p) q ≡ false
      outside q n up full out = go (has (subtree (nodes_of m) p) q) refl
        where
          below : (same_path q p ≡ true) ⊎ (is_under q p ≡ true) → is_under n p ≡ true
          below (inl s) = under_parent p n (up ∙ ap (λ x. Some x) (same_path_is q p s))
          below (inr u) = under_down n q p up u

          go : (b : Bool) → has (subtree (nodes_of m) p) q ≡ b → b ≡ false
          go true h = absurd (not_both (has (subtree (nodes_of m) p) n) (to_subtree m tree p n full (or_right (same_path n p) (is_under n p) (below (from_or (same_path q p) (is_under q p) (in_subtree m tree p q h).1)))) out)
          go false h = refl

      stays : (q : Node) → is_dir (at m q) ≡ true → has (subtree (nodes_of m) p) q ≡ false → after (map (emptied (at m)) gone) (at m) q ≡ at m q
      stays q dir out = go (command_at (map (emptied (at m)) gone) q) refl
        where
          go : (o : Option Change) → command_at (map (emptied (at m)) gone) q ≡ o → new_or (command_at (map (emptied (at m)) gone) q) (at m q) ≡ at m q
          go None e = ap (λ o. new_or o (at m q)) e
          go (Some c) e = let r = at_some (emptied (at m)) gone q c e in absurd (not_both (has (subtree (nodes_of m) p) q) (ap (has (subtree (nodes_of m) p)) r.2 ∙ sym (in_gone r.0) ∙ r.1) out)

  pub empties_taken : Takes (at m) (map (emptied (at m)) gone)
  empties_taken = fits_takes (at m) (map (emptied (at m)) gone) tree.tree empties_canonical.0 empties_fit

  single_emptied : (n : Node) → is_empty (at m n) ≡ false → IsSingle (emptied (at m) n)
  single_emptied n full = record { full = λ e. full; plain = λ e f. absurd (not_both false e refl); kept = λ e f. absurd (not_both true refl f) }

  pub empties_single : AllByRecursion IsSingle (map (emptied (at m)) gone)
  empties_single = go gone (λ n h. (in_subtree m tree p n (sym (in_gone n) ∙ h)).0)
    where
      go : (ns : List Node) → ((n : Node) → has ns n ≡ true → is_empty (at m n) ≡ false) → AllByRecursion IsSingle (map (emptied (at m)) ns)
      go [] f = tt
      go (x ∷ ns) f = (single_emptied x (f x (or_left (same_path x x) (has ns x) (same_path_refl x))), go ns (λ n h. f n (or_right (same_path n x) (has ns n) h)))
