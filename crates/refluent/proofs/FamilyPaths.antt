-- Links between the places of nodes, read as what their paths say.
use Rattle.std.proofs.Common.{◌≡◌, ◌↔◌, ◌<◌, ◌≤◌, ◌+◌, ℕ, zero, suc, true, false, List, [], ◌∷◌, get_or, length, Option, Some, None, refl, sym, ap, subst, ◌∙◌, arith, ◌⊎◌, inl, inr}
use Rattle.std.specs.Option.{option_map}
use Rattle.std.specs.List.{slice_get}
use Rattle.std.proofs.lemmas.Option.{slice_get-get_or, slice_get_within}
use Rattle.std.proofs.lemmas.Bool.{cases_lt}
use Rattle.sync_path.specs.Paths.{Node, parent, comes_before}
use Rattle.sync_command.specs.declared.commands.Row.{Row}
use Rattle.refluent.specs.Joints.{comes_before_all, is_ascending, path_at}
use Rattle.refluent.specs.Picks.{IsParentPlace}
use Rattle.refluent.specs.Families.{AreFamilies, HasParent, IsFirstChild, IsFirstPlace, place_or, up_at, up_of}
use Rattle.refluent.specs.JointTables.{HasFamilies, IsHeld}
use Rattle.refluent.specs.Numberings.{AreLinks}
use Rattle.refluent.specs.Tables.{IsTable}
use Rattle.sync_command.specs.Changes.{Change}
use Rattle.refluent.specs.declared.joint.Pick.{Pick}
use Rattle.refluent.specs.declared.joint.Link.{Link}
use Rattle.refluent.specs.declared.claims.Claim.{Claim}
use Rattle.refluent.specs.declared.table.Group.{Group}
use Rattle.refluent.proofs.JointLemmas.{before_at}
use Rattle.refluent.proofs.Wanting.{parent_low}
use Rattle.sync_path.proofs.CallerLemmas.{both, before_irrefl}

-- what passes may be said in other words
first_same : (P Q : ℕ → Type 0) (from to : ℕ) (o : Option ℕ) → ((j : ℕ) → j < to → P j ↔ Q j) → IsFirstPlace P from to o → IsFirstPlace Q from to o
first_same P Q from to None same h = λ j low less q. h j low less ((same j less).1 q)
first_same P Q from to (Some i) same h = (h.0, h.1, (same i h.1).0 h.2, λ j low less q. h.3 j low less ((same j (let a : i < to = h.1 in omega arith)).1 q))

-- each node has one place
before_in : (rows : List Row) → is_ascending rows ≡ true → (i j : ℕ) (x y : Row) → i < j → slice_get rows i ≡ Some x → slice_get rows j ≡ Some y → comes_before x.path y.path ≡ true
before_in [] up i j x y less e f = cc (e)
before_in (r ∷ rows) up i zero x y less e f = absurd (omega arith)
before_in (r ∷ rows) up zero (suc j) x y less e f = ap (λ z. comes_before z.path y.path) (sym (same e)) ∙ before_at r.path rows (both (comes_before_all r.path rows) (is_ascending rows) up).0 j y f
  where
    same : Some r ≡ Some x → r ≡ x
    same e = cc
before_in (r ∷ rows) up (suc i) (suc j) x y less e f = before_in rows (both (comes_before_all r.path rows) (is_ascending rows) up).1 i j x y (omega arith) e f

row_of_path : (rows : List Row) (i : ℕ) (p : Node) → path_at rows i ≡ Some p → (row : Row) × (slice_get rows i ≡ Some row) × (row.path ≡ p)
row_of_path rows i p e = go (slice_get rows i) refl e
  where
    same : {a b : Node} → Some a ≡ Some b → a ≡ b
    same e = cc

    go : (o : Option Row) → slice_get rows i ≡ o → option_map (λ r. r.path) o ≡ Some p → (row : Row) × (slice_get rows i ≡ Some row) × (row.path ≡ p)
    go None f g = cc (g)
    go (Some row) f g = (row, f, same g)

one_place : (rows : List Row) → is_ascending rows ≡ true → (i j : ℕ) (p : Node) → path_at rows i ≡ Some p → path_at rows j ≡ Some p → i ≡ j
one_place rows up i j p e f = go (cases_lt i j) (cases_lt j i)
  where
    clash : (a b : ℕ) → a < b → path_at rows a ≡ Some p → path_at rows b ≡ Some p → ⊥
    clash a b less g h = let x = row_of_path rows a p g in let y = row_of_path rows b p h in
        let k : comes_before p p ≡ true = sym (ap (λ q. comes_before q y.0.path) x.2 ∙ ap (comes_before p) y.2) ∙ before_in rows up a b x.0 y.0 less x.1 y.1 in
        let n : comes_before p p ≡ false = before_irrefl p in cc (k, n)

    go : (i < j) ⊎ (j ≤ i) → (j < i) ⊎ (i ≤ j) → i ≡ j
    go (inl less) h = absurd (clash i j less e f)
    go (inr most) (inl less) = absurd (clash j i less f e)
    go (inr most) (inr more) = omega arith

item_of : {X : Type 0} (xs : List X) (k : ℕ) → k < length xs → (x : X) × (slice_get xs k ≡ Some x)
item_of [] k low = absurd (omega arith)
item_of (x ∷ xs) zero low = (x, refl)
item_of (x ∷ xs) (suc k) low = item_of xs k (omega arith)

module _ (rows : List Row) (up : is_ascending rows ≡ true) (links : List Link) (many : length links ≡ length rows)
    (parents : (i : ℕ) (row : Row) (link : Link) → slice_get rows i ≡ Some row → slice_get links i ≡ Some link → IsParentPlace rows (parent row.path) link.parent) where
  path_here : (i : ℕ) (row : Row) → slice_get rows i ≡ Some row → path_at rows i ≡ Some row.path
  path_here i row e = ap (option_map (λ r. r.path)) e

  low_place : (i : ℕ) (p : Node) → path_at rows i ≡ Some p → i < length links
  low_place i p e = let r = row_of_path rows i p e in let h : i < length rows = slice_get_within rows i r.0 r.1 in omega arith

  -- the place of the parent, by the paths
  up_is : (j : ℕ) (row : Row) → slice_get rows j ≡ Some row → ((q : Node) → parent row.path ≡ Some q → (i : ℕ) × (up_at links j ≡ i) × (path_at rows i ≡ Some q)) × (parent row.path ≡ None → up_at links j ≡ length links)
  up_is j row e = let l = item_of links j (let h : j < length rows = slice_get_within rows j row e in omega arith) in
      let here : up_at links j ≡ place_or l.0.parent (length links) = ap (λ o. up_of o (length links)) l.1 in
      go l.0.parent (parent row.path) refl here (parents j row l.0 e l.1)
    where
      go : (f : Option ℕ) (o : Option Node) → parent row.path ≡ o → up_at links j ≡ place_or f (length links) → IsParentPlace rows o f →
          ((q : Node) → o ≡ Some q → (i : ℕ) × (up_at links j ≡ i) × (path_at rows i ≡ Some q)) × (o ≡ None → up_at links j ≡ length links)
      go f None g here h = (λ q x. cc (x), λ _. here ∙ ap (λ y. place_or y (length links)) h)
      go f (Some p) g here h = (λ q x. (h.0, here ∙ ap (λ y. place_or y (length links)) h.1, h.2 ∙ x), λ x. cc (x))

  parent_of_place : (i : ℕ) (p : Node) → path_at rows i ≡ Some p → (j : ℕ) → j < length links → (up_at links j ≡ i) ↔ HasParent rows (Some p) j
  parent_of_place i p at j low = (λ e. forth e, λ h. back h)
    where
      row : (r : Row) × (slice_get rows j ≡ Some r)
      row = item_of rows j (omega arith)

      some_node : {a b : Node} → Some a ≡ Some b → a ≡ b
      some_node e = cc

      forth : up_at links j ≡ i → HasParent rows (Some p) j
      forth e = (row.0.path, path_here j row.0 row.1, by (parent row.0.path) refl)
        where
          by : (o : Option Node) → parent row.0.path ≡ o → o ≡ Some p
          by None f = let g : up_at links j ≡ length links = (up_is j row.0 row.1).1 f in let h : i < length links = low_place i p at in absurd (omega arith)
          by (Some q) f = let g = (up_is j row.0 row.1).0 q f in sym g.2 ∙ ap (path_at rows) (sym g.1 ∙ e) ∙ at

      back : HasParent rows (Some p) j → up_at links j ≡ i
      back h = let r = row_of_path rows j h.0 h.1 in let g = (up_is j r.0 r.1).0 p (ap parent r.2 ∙ h.2) in g.1 ∙ one_place rows up g.0 i p g.2 at

  root_place : (j : ℕ) → j < length links → (up_at links j ≡ length links) ↔ HasParent rows None j
  root_place j low = (λ e. forth e, λ h. let r = row_of_path rows j h.0 h.1 in (up_is j r.0 r.1).1 (ap parent r.2 ∙ h.2))
    where
      row : (r : Row) × (slice_get rows j ≡ Some r)
      row = item_of rows j (omega arith)

      forth : up_at links j ≡ length links → HasParent rows None j
      forth e = (row.0.path, path_here j row.0 row.1, by (parent row.0.path) refl)
        where
          by : (o : Option Node) → parent row.0.path ≡ o → o ≡ None
          by None f = refl
          by (Some q) f = let g = (up_is j row.0 row.1).0 q f in let i : up_at links j ≡ g.0 = g.1 in let h : g.0 < length links = low_place g.0 q g.2 in absurd (omega arith)

  module _ (children siblings : List (Option ℕ)) (h : AreFamilies links 0 children siblings) where
    pub first_children : (i : ℕ) (o : Option ℕ) → slice_get children i ≡ Some o → (p : Node) → path_at rows i ≡ Some p → IsFirstChild rows (Some p) 0 o
    first_children i o e p at = subst (λ n. IsFirstPlace (HasParent rows (Some p)) 0 n o) many (first_same (λ j. up_at links j ≡ i) (HasParent rows (Some p)) 0 (length links) o (parent_of_place i p at) (h.first i o e))

    pub first_roots : (o : Option ℕ) → slice_get children (length rows) ≡ Some o → IsFirstChild rows None 0 o
    first_roots o e = subst (λ n. IsFirstPlace (HasParent rows None) 0 n o) many (first_same (λ j. up_at links j ≡ length links) (HasParent rows None) 0 (length links) o root_place (h.first (length links) o (ap (slice_get children) many ∙ e)))

    pub next_siblings : (i : ℕ) (o : Option ℕ) → slice_get siblings i ≡ Some o → (p : Node) → path_at rows i ≡ Some p → IsFirstChild rows (parent p) (i + 1) o
    next_siblings i o e p at = subst (λ n. IsFirstPlace (HasParent rows (parent p)) (i + 1) n o) many (first_same (λ j. up_at links j ≡ up_at links i) (HasParent rows (parent p)) (i + 1) (length links) o (λ j low. same j low (parent p) refl) (h.next i o (omega arith) e))
      where
        r : (row : Row) × (slice_get rows i ≡ Some row) × (row.path ≡ p)
        r = row_of_path rows i p at

        same : (j : ℕ) → j < length links → (q : Option Node) → parent p ≡ q → (up_at links j ≡ up_at links i) ↔ HasParent rows q j
        same j low None f = let u : up_at links i ≡ length links = (up_is i r.0 r.1).1 (ap parent r.2 ∙ f) in
            (λ x. (root_place j low).0 (x ∙ u), λ y. (root_place j low).1 y ∙ sym u)
        same j low (Some q) f = let g = (up_is i r.0 r.1).0 q (ap parent r.2 ∙ f) in
            (λ x. (parent_of_place g.0 q g.2 j low).0 (x ∙ g.1), λ y. (parent_of_place g.0 q g.2 j low).1 y ∙ sym g.1)

-- the place of a parent is one of the nodes
pub up_low : (claims : List Claim) (groups : List Group) (links : List Link) → IsTable claims groups → AreLinks claims groups links (length groups) → (i : ℕ) → i < length links → up_at links i ≤ length links
up_low claims groups links table linked i low = let many : length links ≡ length groups = linked.many in let s = item_of groups i (omega arith) in
    ap_le (up_at links i) (place_or s.0.parent (length links)) (ap (λ o. up_of o (length links)) (linked.each i s.0 (omega arith) s.1)) (by s)
  where
    ap_le : (a b : ℕ) → a ≡ b → b ≤ length links → a ≤ length links
    ap_le a b e h = omega arith

    by : (s : (x : Group) × (slice_get groups i ≡ Some x)) → place_or s.0.parent (length links) ≤ length links
    by s = go s.0.parent refl
      where
        go : (o : Option ℕ) → s.0.parent ≡ o → place_or o (length links) ≤ length links
        go None e = omega arith
        go (Some k) e = let l : k < length groups = parent_low claims groups table i k s.0 s.1 e in let many : length links ≡ length groups = linked.many in omega arith

pub has_families : (sets : List (List Change)) (rows : List Row) (links : List Link) (picks : List Pick) (drawn : ℕ) → IsHeld sets rows links picks drawn → (l : List Link) → l ≡ links → (children siblings : List (Option ℕ)) → AreFamilies l 0 children siblings → HasFamilies rows children siblings
has_families sets rows links picks drawn held l same children siblings made = record {
  many = h.many ∙ ap (λ n. n + 1) held.many;
  each = h.each ∙ held.many;
  first = first_children rows held.joint.stands.order links held.many held.parents children siblings h;
  roots = first_roots rows held.joint.stands.order links held.many held.parents children siblings h;
  next = next_siblings rows held.joint.stands.order links held.many held.parents children siblings h;
}
  where
    h : AreFamilies links 0 children siblings
    h = subst (λ x. AreFamilies x 0 children siblings) same made

pub up_low_here : (claims c1 : List Claim) (groups s1 : List Group) (links l : List Link) → c1 ≡ claims → s1 ≡ groups → l ≡ links → IsTable claims groups → AreLinks c1 s1 links (length s1) → (i : ℕ) → i < length l → up_at l i ≤ length l
up_low_here claims c1 groups s1 links l e f g table linked = subst (λ x. (i : ℕ) → i < length x → up_at x i ≤ length x) (sym g)
    (up_low claims groups links table (subst (λ s. AreLinks claims s links (length s)) f (subst (λ c. AreLinks c s1 links (length s1)) e linked)))

pub root_found : (nodes : List Row) (children siblings : List (Option ℕ)) → HasFamilies nodes children siblings → (i : ℕ) → i ≡ length nodes → (o : Option ℕ) → o ≡ get_or children i o → IsFirstChild nodes None 0 o
root_found nodes children siblings h i is o found = h.roots o (ap (slice_get children) (sym is) ∙ slice_get-get_or children i o (let m : length children ≡ length nodes + 1 = h.many in omega arith) ∙ ap Some (sym found))
