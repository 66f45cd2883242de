-- Lists of nodes: which nodes they have, and a node with all that is above it.
use Rattle.std.proofs.Common.{◌≡◌, Bool, true, false, ◌||◌, ℕ, List, [], ◌∷◌, ◌++◌, refl, sym, ap, subst, arith}
use Rattle.std.specs.Prelude.{map}
use Rattle.std.specs.Str.{bytes_eq}
use Rattle.std.specs.Cmp.Lexicographic.{bytes_decides}
use Rattle.sync_path.specs.Paths.{Node, same_path, rest_under, is_under}
use Rattle.sync_path.proofs.Nodes.{same_path_is, same_path_at}
use Rattle.sync_path.proofs.Under.{both}

-- the list has the node
abbrev pub lists : List Node → Node → Bool
lists [] p = false
lists (q ∷ ps) p = same_path p q || lists ps p

pub lists-append : (ps qs : List Node) (p : Node) → lists (ps ++ qs) p ≡ (lists ps p || lists qs p)
lists-append [] qs p = refl
lists-append (q ∷ ps) qs p = step (lists-append ps qs p)
  where
    step : lists (ps ++ qs) p ≡ (lists ps p || lists qs p) → lists (q ∷ ps ++ qs) p ≡ (lists (q ∷ ps) p || lists qs p)
    step ih = grind arith

-- the node and those above it, the root first
abbrev pub prefixes : Node → List Node
prefixes [] = []
prefixes (x ∷ p) = (x ∷ []) ∷ map (λ q. x ∷ q) (prefixes p)

lists-map : (x : List ℕ) (ps : List Node) (q : Node) → lists ps q ≡ true → lists (map (λ r. x ∷ r) ps) (x ∷ q) ≡ true
lists-map x [] q e = cc
lists-map x (p ∷ ps) q e = step (lists-map x ps q) (λ h. same_path_at (x ∷ q) (x ∷ p) (ap (λ r. x ∷ r) (same_path_is q p h))) e
  where
    step : (lists ps q ≡ true → lists (map (λ r. x ∷ r) ps) (x ∷ q) ≡ true) → (same_path q p ≡ true → same_path (x ∷ q) (x ∷ p) ≡ true) → lists (p ∷ ps) q ≡ true → lists (map (λ r. x ∷ r) (p ∷ ps)) (x ∷ q) ≡ true
    step ih here e = grind arith

-- each node above a node is among its prefixes
pub under_listed : (p q : Node) → is_under p q ≡ true → lists (prefixes p) q ≡ true
unfolding is_under
under_listed [] q e = cc
under_listed (x ∷ p) [] e = cc
under_listed (x ∷ p) (y ∷ []) e = let parts = both (bytes_eq x y) (rest_under p []) e in
    ap (λ b. b || lists (map (λ q. x ∷ q) (prefixes p)) (y ∷ [])) (same_path_at (y ∷ []) (x ∷ []) (ap (λ n. n ∷ []) (sym ((bytes_decides x y).0 parts.0))))
under_listed (x ∷ p) (y ∷ z ∷ q) e = let parts = both (bytes_eq x y) (rest_under p (z ∷ q)) e in
    let same : y ≡ x = sym ((bytes_decides x y).0 parts.0) in
    wide (same_path (y ∷ z ∷ q) (x ∷ [])) _ (subst (λ n. lists (map (λ r. x ∷ r) (prefixes p)) (n ∷ z ∷ q) ≡ true) (sym same) (lists-map x (prefixes p) (z ∷ q) (under_listed p (z ∷ q) (next p parts.1))))
  where
    wide : (a b : Bool) → b ≡ true → (a || b) ≡ true
    wide a b e = grind arith

    next : (p : Node) → rest_under p (z ∷ q) ≡ true → is_under p (z ∷ q) ≡ true
    next [] e = cc
    next (w ∷ p) e = e
