-- Nodes under others, by the test, and what passes along the way between them.
use Rattle.std.proofs.Common.{◌≡◌, ℕ, zero, suc, ◌<◌, ◌≤◌, length, Bool, true, false, ◌&&◌, List, [], ◌∷◌, Some, refl, sym, ap, subst, ◌∙◌, arith, ◌⊎◌, inl, inr}
use Rattle.std.specs.Str.{bytes_eq}
use Rattle.std.specs.Cmp.Lexicographic.{bytes_decides}
use Rattle.sync_path.specs.Paths.{Node, is_under, parent, rest_under, same_path, without_last}
use Rattle.sync_path.proofs.Nodes.{same_path_is}

-- both tests pass
pub both : (a b : Bool) → (a && b) ≡ true → (a ≡ true) × (b ≡ true)
both true b e = (refl, e)
both false b e = cc

some_is : {p q : Node} → Some p ≡ Some q → p ≡ q
some_is e = cc

name_same : (x : List ℕ) → bytes_eq x x ≡ true
name_same x = (bytes_decides x x).1 refl

rest_under-without_last : (x : List ℕ) (ys : Node) → rest_under (x ∷ ys) (without_last x ys) ≡ true
rest_under-without_last x [] = refl
rest_under-without_last x (y ∷ ys) = ap (λ b. b && rest_under (y ∷ ys) (without_last y ys)) (name_same x) ∙ rest_under-without_last y ys

-- a node is under its parent
pub under_parent : (q n : Node) → parent n ≡ Some q → is_under n q ≡ true
unfolding parent is_under
under_parent q [] e = cc
under_parent q (x ∷ []) e = cc
under_parent q (x ∷ (y ∷ ys)) e = subst (λ p. is_under (x ∷ (y ∷ ys)) p ≡ true) (some_is e) (ap (λ b. b && rest_under (y ∷ ys) (without_last y ys)) (name_same x) ∙ rest_under-without_last y ys)

rest_under_longer : (p : Node) (x : List ℕ) (ys : Node) → rest_under p (x ∷ ys) ≡ true → rest_under p (without_last x ys) ≡ true
rest_under_longer [] x ys h = cc
rest_under_longer (z ∷ p) x [] h = refl
rest_under_longer (z ∷ p) x (y ∷ ys) h = let parts = both (bytes_eq z x) (rest_under p (y ∷ ys)) h in
    ap (λ b. b && rest_under p (without_last y ys)) parts.0 ∙ rest_under_longer p y ys parts.1

-- what is under a node is under its parent
pub under_up : (p n q : Node) → is_under p n ≡ true → parent n ≡ Some q → is_under p q ≡ true
unfolding parent is_under
under_up [] n q h e = cc
under_up (z ∷ p) [] q h e = cc
under_up (z ∷ p) (x ∷ []) q h e = cc
under_up (z ∷ p) (x ∷ (y ∷ ys)) q h e = let parts = both (bytes_eq z x) (rest_under p (y ∷ ys)) h in
    subst (λ r. is_under (z ∷ p) r ≡ true) (some_is e) (ap (λ b. b && rest_under p (without_last y ys)) parts.0 ∙ rest_under_longer p y ys parts.1)

length-without_last : (x : List ℕ) (ys : Node) → length (without_last x ys) ≡ length ys
length-without_last x [] = refl
length-without_last x (y ∷ ys) = ap suc (length-without_last y ys)

rest_split : (x : List ℕ) (ys q : Node) → rest_under (x ∷ ys) q ≡ true → (without_last x ys ≡ q) ⊎ (rest_under (without_last x ys) q ≡ true)
rest_split x [] [] h = inl refl
rest_split x [] (z ∷ q) h = let parts = both (bytes_eq x z) (rest_under [] q) h in cc (parts.1)
rest_split x (y ∷ ys) [] h = inr refl
rest_split x (y ∷ ys) (z ∷ q) h = let parts = both (bytes_eq x z) (rest_under (y ∷ ys) q) h in
    go parts.0 (rest_split y ys q parts.1)
  where
    go : bytes_eq x z ≡ true → (without_last y ys ≡ q) ⊎ (rest_under (without_last y ys) q ≡ true) → (x ∷ without_last y ys ≡ z ∷ q) ⊎ (rest_under (x ∷ without_last y ys) (z ∷ q) ≡ true)
    go same (inl is) = inl (λ i. (bytes_decides x z).0 same i ∷ is i)
    go same (inr under) = inr (ap (λ b. b && rest_under (without_last y ys) q) same ∙ under)

-- what is under a node has a parent, which is that node or is under it
pub record HasParentUnder (p q : Node) : Type 0 where
  pub up : Node
  pub is : parent p ≡ Some up
  pub shorter : length up < length p
  pub way : (up ≡ q) ⊎ (is_under up q ≡ true)

pub under_split : (p q : Node) → is_under p q ≡ true → HasParentUnder p q
unfolding parent is_under
under_split [] q h = cc
under_split (x ∷ []) [] h = cc
under_split (x ∷ []) (z ∷ q) h = let parts = both (bytes_eq x z) false h in cc (parts.1)
under_split (x ∷ (y ∷ ys)) [] h = cc
under_split (x ∷ (y ∷ ys)) (z ∷ q) h = let parts = both (bytes_eq x z) (rest_under (y ∷ ys) q) h in record {
  up = x ∷ without_last y ys;
  is = refl;
  shorter = let e : length (without_last y ys) ≡ length ys = length-without_last y ys in omega arith;
  way = go parts.0 (rest_split y ys q parts.1);
}
  where
    go : bytes_eq x z ≡ true → (without_last y ys ≡ q) ⊎ (rest_under (without_last y ys) q ≡ true) → (x ∷ without_last y ys ≡ z ∷ q) ⊎ ((bytes_eq x z && rest_under (without_last y ys) q) ≡ true)
    go same (inl is) = inl (λ i. (bytes_decides x z).0 same i ∷ is i)
    go same (inr under) = inr (ap (λ b. b && rest_under (without_last y ys) q) same ∙ under)

rest_under_down : (x : List ℕ) (ys q : Node) → rest_under (without_last x ys) q ≡ true → rest_under (x ∷ ys) q ≡ true
rest_under_down x [] q h = cc
rest_under_down x (y ∷ ys) [] h = refl
rest_under_down x (y ∷ ys) (z ∷ q) h = let parts = both (bytes_eq x z) (rest_under (without_last y ys) q) h in
    ap (λ b. b && rest_under (y ∷ ys) q) parts.0 ∙ rest_under_down y ys q parts.1

-- what the parent is under, the child is under
pub under_down : (n q r : Node) → parent n ≡ Some q → is_under q r ≡ true → is_under n r ≡ true
unfolding parent is_under
under_down [] q r e h = cc
under_down (x ∷ []) q r e h = cc
under_down (x ∷ (y ∷ ys)) q [] e h = go q h
  where
    go : (q : Node) → is_under q [] ≡ true → false ≡ true
    go [] h = h
    go (z ∷ q) h = h
under_down (x ∷ (y ∷ ys)) q (z ∷ r) e h =
    let k : is_under (x ∷ without_last y ys) (z ∷ r) ≡ true = subst (λ p. is_under p (z ∷ r) ≡ true) (sym (some_is e)) h in
    let parts = both (bytes_eq x z) (rest_under (without_last y ys) r) k in
    ap (λ b. b && rest_under (y ∷ ys) r) parts.0 ∙ rest_under_down y ys r parts.1

rest_shorter : (p q : Node) → rest_under p q ≡ true → length q < length p
rest_shorter [] q h = cc
rest_shorter (x ∷ p) [] h = omega arith
rest_shorter (x ∷ p) (y ∷ q) h = let parts = both (bytes_eq x y) (rest_under p q) h in let s : length q < length p = rest_shorter p q parts.1 in omega arith

pub under_shorter : (p q : Node) → is_under p q ≡ true → length q < length p
unfolding is_under
under_shorter [] q h = cc
under_shorter (x ∷ p) [] h = cc
under_shorter (x ∷ p) (y ∷ q) h = let parts = both (bytes_eq x y) (rest_under p q) h in let s : length q < length p = rest_shorter p q parts.1 in omega arith

-- a parent is shorter, and what is under a node is another
pub parent_shorter : (q n : Node) → parent n ≡ Some q → length q < length n
parent_shorter q n e = under_shorter n q (under_parent q n e)

pub under_apart : (p q : Node) → is_under p q ≡ true → same_path p q ≡ false
under_apart p q h = go (same_path p q) (same_path_is p q)
  where
    go : (b : Bool) → (b ≡ true → p ≡ q) → b ≡ false
    go false f = refl
    go true f = let s : length q < length p = under_shorter p q h in let l : length p ≡ length q = ap length (f refl) in absurd (omega arith)

-- what holds of a node and passes to parents holds of each node above
up_by : (k : ℕ) (f : Node → Bool) → ((q n : Node) → parent n ≡ Some q → f n ≡ true → f q ≡ true) → (p q : Node) → length p ≤ k → is_under p q ≡ true → f p ≡ true → f q ≡ true
up_by zero f up p q short u h = let w : HasParentUnder p q = under_split p q u in let s : length w.up < length p = w.shorter in absurd (omega arith)
up_by (suc k) f up p q short u h = go (under_split p q u) (λ r s v g. up_by k f up r q s v g)
  where
    go : HasParentUnder p q → ((r : Node) → length r ≤ k → is_under r q ≡ true → f r ≡ true → f q ≡ true) → f q ≡ true
    go w rec = let g : f w.up ≡ true = up w.up p w.is h in split w.way g
      where
        split : (w.up ≡ q) ⊎ (is_under w.up q ≡ true) → f w.up ≡ true → f q ≡ true
        split (inl is) g = subst (λ r. f r ≡ true) is g
        split (inr v) g = let s : length w.up < length p = w.shorter in rec w.up (omega arith) v g

pub closed_up : (f : Node → Bool) → ((q n : Node) → parent n ≡ Some q → f n ≡ true → f q ≡ true) → (p q : Node) → is_under p q ≡ true → f p ≡ true → f q ≡ true
closed_up f up p q u h = up_by (length p) f up p q (omega arith) u h

-- what holds of a node and passes to children holds of the parent of each node below
down_by : (k : ℕ) (f : Node → Bool) → ((q n : Node) → parent n ≡ Some q → f q ≡ true → f n ≡ true) → (p q : Node) → length p ≤ k → is_under p q ≡ true → f q ≡ true → (r : Node) × (parent p ≡ Some r) × (f r ≡ true)
down_by zero f down p q short u h = let w : HasParentUnder p q = under_split p q u in let s : length w.up < length p = w.shorter in absurd (omega arith)
down_by (suc k) f down p q short u h = go (under_split p q u) (λ r s v. down_by k f down r q s v h)
  where
    go : HasParentUnder p q → ((r : Node) → length r ≤ k → is_under r q ≡ true → (s : Node) × (parent r ≡ Some s) × (f s ≡ true)) → (r : Node) × (parent p ≡ Some r) × (f r ≡ true)
    go w rec = split w.way
      where
        split : (w.up ≡ q) ⊎ (is_under w.up q ≡ true) → (r : Node) × (parent p ≡ Some r) × (f r ≡ true)
        split (inl is) = (w.up, w.is, subst (λ r. f r ≡ true) (sym is) h)
        split (inr v) = let s : length w.up < length p = w.shorter in let g = rec w.up (omega arith) v in (w.up, w.is, down g.0 w.up g.1 g.2)

pub closed_down : (f : Node → Bool) → ((q n : Node) → parent n ≡ Some q → f q ≡ true → f n ≡ true) → (p q : Node) → is_under p q ≡ true → f q ≡ true → (r : Node) × (parent p ≡ Some r) × (f r ≡ true)
closed_down f down p q u h = down_by (length p) f down p q (omega arith) u h
