-- Nodes and their order, by tests: which are one, which comes before which, and a node and its parent.
use Rattle.std.proofs.Common.{◌≡◌, ◌↔◌, ℕ, Bool, true, false, IsTrue, List, [], ◌∷◌, Some, refl, sym, ap, subst, ◌∙◌, arith}
use Rattle.std.specs.declared.cmp.Ordering.{Ordering}
use Rattle.std.specs.declared.cmp.Ordering.TheVariants.{Less, Equal, Greater}
use Rattle.std.specs.Ordering.{is_eq, is_lt, nat_cmp, ordering_reverse, ordering_then}
use Rattle.std.specs.Cmp.Lexicographic.{slice_cmp}
use Rattle.std.proofs.lemmas.Cmp.{nat_list_cmp_total}
use Rattle.sync_path.specs.Paths.{Node, path_cmp, same_path, comes_before, parent, without_last}
use Rattle.sync_path.specs.Order.{path_cmp_total, path_cmp_exact}

-- ---- what an order says

pub tied_itself : (o : Ordering) → o ≡ ordering_reverse o → o ≡ Equal
tied_itself Less e = cc
tied_itself Equal e = refl
tied_itself Greater e = cc

pub from_is_eq : (o : Ordering) → is_eq o ≡ true → o ≡ Equal
from_is_eq Less e = cc
from_is_eq Equal e = refl
from_is_eq Greater e = cc

pub from_is_lt : (o : Ordering) → is_lt o ≡ true → o ≡ Less
from_is_lt Less e = refl
from_is_lt Equal e = cc
from_is_lt Greater e = cc

-- ---- one node

-- nodes that compare alike are one
pub equal_is : (p q : Node) → (path_cmp p q ≡ Equal) ↔ (p ≡ q)
equal_is p q = (path_cmp_exact p q, λ e. ap (path_cmp p) (sym e) ∙ tied_itself (path_cmp p p) (path_cmp_total.antisymm p p))

pub same_path_is : (p q : Node) → same_path p q ≡ true → p ≡ q
unfolding same_path
same_path_is p q h = path_cmp_exact p q (from_is_eq _ h)

pub same_path_at : (p q : Node) → p ≡ q → same_path p q ≡ true
unfolding same_path
same_path_at p q e = ap is_eq ((equal_is p q).1 e)

pub same_path_refl : (p : Node) → same_path p p ≡ true
same_path_refl p = same_path_at p p refl

pub same_path_decides : (p q : Node) → IsTrue (same_path p q) ↔ (p ≡ q)
same_path_decides p q = (same_path_is p q, same_path_at p q)

pub same_path_comm : (p q : Node) → same_path p q ≡ same_path q p
same_path_comm p q = go (same_path p q) (same_path q p) (λ h. same_path_at q p (sym (same_path_is p q h))) (λ h. same_path_at p q (sym (same_path_is q p h)))
  where
    go : (a b : Bool) → (a ≡ true → b ≡ true) → (b ≡ true → a ≡ true) → a ≡ b
    go true b f g = sym (f refl)
    go false true f g = g refl
    go false false f g = refl

-- ---- before

pub before_is : (p q : Node) → path_cmp p q ≡ Less → comes_before p q ≡ true
unfolding comes_before
before_is p q e = ap is_lt e

pub less_is : (p q : Node) → comes_before p q ≡ true → path_cmp p q ≡ Less
unfolding comes_before
less_is p q h = from_is_lt (path_cmp p q) h

pub before_trans : (p q r : Node) → comes_before p q ≡ true → comes_before q r ≡ true → comes_before p r ≡ true
before_trans p q r h g = before_is p r (path_cmp_total.trans p q r (less_is p q h) (less_is q r g))

pub before_irrefl : (p : Node) → comes_before p p ≡ false
unfolding comes_before
before_irrefl p = ap is_lt ((equal_is p p).1 refl)

pub before_asym : (p q : Node) → comes_before p q ≡ true → comes_before q p ≡ false
before_asym p q h = go (comes_before q p) (λ g. before_trans p q p h g)
  where
    go : (b : Bool) → (b ≡ true → comes_before p p ≡ true) → b ≡ false
    go false f = refl
    go true f = let up : comes_before p p ≡ true = f refl in let flat : comes_before p p ≡ false = before_irrefl p in cc (up, flat)

-- of two nodes that differ one comes before the other
pub before_total : (p q : Node) → same_path p q ≡ false → comes_before p q ≡ false → comes_before q p ≡ true
unfolding same_path comes_before
before_total p q apart late = go (path_cmp p q) (path_cmp q p) (path_cmp_total.antisymm p q) apart late
  where
    go : (a b : Ordering) → a ≡ ordering_reverse b → is_eq a ≡ false → is_lt a ≡ false → is_lt b ≡ true
    go a b e apart late = grind arith

-- ---- parents

pub name_itself : (x : List ℕ) → slice_cmp nat_cmp x x ≡ Equal
name_itself x = tied_itself (slice_cmp nat_cmp x x) (nat_list_cmp_total.antisymm x x)

without_last_before : (x : List ℕ) (ys : Node) → path_cmp (without_last x ys) (x ∷ ys) ≡ Less
without_last_before x [] = refl
without_last_before x (y ∷ ys) =
    ap (λ o. ordering_then o (path_cmp (without_last y ys) (y ∷ ys))) (name_itself x) ∙ without_last_before y ys

-- a parent comes before its children
pub parent_before : (q n : Node) → parent n ≡ Some q → comes_before q n ≡ true
unfolding parent comes_before
parent_before q [] e = cc
parent_before q (x ∷ []) e = cc
parent_before q (x ∷ (y ∷ ys)) e = subst (λ p. is_lt (path_cmp p (x ∷ (y ∷ ys))) ≡ true) (some_is e) (ap is_lt (without_last_before x (y ∷ ys)))
  where
    some_is : {p : Node} → Some p ≡ Some q → p ≡ q
    some_is e = cc

-- no node is its own parent
pub parent_apart : (q n : Node) → parent n ≡ Some q → same_path q n ≡ false
parent_apart q n e = go (same_path q n) (same_path_is q n)
  where
    go : (b : Bool) → (b ≡ true → q ≡ n) → b ≡ false
    go false h = refl
    go true h = let is : q ≡ n = h refl in let low : comes_before q n ≡ true = parent_before q n e in
        let flat : comes_before q n ≡ false = ap (comes_before q) (sym is) ∙ before_irrefl q in cc (low, flat)
