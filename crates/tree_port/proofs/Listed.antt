-- Paths of a folder that are in order, one place after another.
use Rattle.std.proofs.Common.{◌≡◌, ◌⊎◌, inl, inr, ℕ, zero, suc, ◌+◌, ◌-◌, ◌<◌, ◌≤◌, nat_eq, true, List, [], ◌∷◌, length, Option, get_or, refl, sym, ap, ◌∙◌, arith}
use Rattle.std.proofs.lemmas.Bool.{eqb-true}
use Rattle.std.specs.Prelude.{IsTrue}
use Rattle.std.specs.Ordering.{is_lt}
use Rattle.sync_path.specs.Paths.{Node, comes_before, parent, path_cmp}
use Rattle.sync_path.proofs.CallerLemmas.{before_trans}
use Rattle.tree_port.specs.Conditions.{AreBelow}

pub one_name : (k n : ℕ) → k ≡ n → IsTrue (nat_eq k 1) → n ≤ 1
one_name k n e t = let one : k ≡ 1 = eqb-true k 1 t in omega arith

upto : (k n : ℕ) → k < suc n → k < n ⊎ k ≡ n
upto zero zero low = inr refl
upto zero (suc n) low = inl (omega arith)
upto (suc k) zero low = absurd (omega arith)
upto (suc k) (suc n) low = further (upto k n (omega arith))
  where
    further : k < n ⊎ k ≡ n → suc k < suc n ⊎ suc k ≡ suc n
    further (inl low) = inl (omega arith)
    further (inr is) = inr (ap suc is)

same_default : (ps : List Node) (k : ℕ) (d e : Node) → k < length ps → get_or ps k d ≡ get_or ps k e
same_default [] k d e low = absurd (omega arith)
same_default (p ∷ ps) zero d e low = refl
same_default (p ∷ ps) (suc k) d e low = same_default ps k d e (omega arith)

pub follows_by : (paths : List Node) (place : ℕ) (x y : Node) → x ≡ get_or paths (place - 1) x → y ≡ get_or paths place y → place < length paths → is_lt (path_cmp x y) ≡ true →
    (k : ℕ) (d : Node) → place ≡ k + 1 → comes_before (get_or paths k d) (get_or paths place d) ≡ true
unfolding comes_before
follows_by paths place x y is at high before k d e =
    ap (λ p. comes_before p (get_or paths place d)) (same_default paths k d x (omega arith) ∙ ap (λ n. get_or paths n x) back ∙ sym is) ∙ ap (comes_before x) (same_default paths place d y high ∙ sym at) ∙ before
  where
    back : k ≡ place - 1
    back = omega arith

-- the first places of some paths: all have the parent, and they ascend
pub record AreFirst (above : Option Node) (paths : List Node) (place : ℕ) : Type 0 where
  pub bound : place ≤ length paths
  pub parents : (k : ℕ) (d : Node) → k < place → parent (get_or paths k d) ≡ above
  pub order : (i j : ℕ) (d : Node) → i < j → j < place → comes_before (get_or paths i d) (get_or paths j d) ≡ true

pub no_place : (above : Option Node) (paths : List Node) → AreFirst above paths 0
no_place above paths = record {
  bound = omega arith;
  parents = λ k d low. absurd (omega arith);
  order = λ i j d low high. absurd (omega arith);
}

pub next_place : (above : Option Node) (paths : List Node) (place : ℕ) (e : Node) → place < length paths → parent (get_or paths place e) ≡ above →
    ((k : ℕ) (d : Node) → place ≡ k + 1 → comes_before (get_or paths k d) (get_or paths place d) ≡ true) → AreFirst above paths place → AreFirst above paths (place + 1)
next_place above paths place e high up follows first = record {
  bound = omega arith;
  parents = λ k d low. parents k d (upto k place (omega arith));
  order = λ i j d low high. order i j d low (upto j place (omega arith));
}
  where
    parents : (k : ℕ) (d : Node) → k < place ⊎ k ≡ place → parent (get_or paths k d) ≡ above
    parents k d (inl low) = first.parents k d low
    parents k d (inr is) = ap (λ n. parent (get_or paths n d)) is ∙ ap parent (same_default paths place d e high) ∙ up

    last : (i : ℕ) (d : Node) (n : ℕ) → place ≡ n + 1 → i < n ⊎ i ≡ n → comes_before (get_or paths i d) (get_or paths place d) ≡ true
    last i d n e (inl low) = before_trans (get_or paths i d) (get_or paths n d) (get_or paths place d) (first.order i n d low (omega arith)) (follows n d e)
    last i d n e (inr is) = ap (λ k. comes_before (get_or paths k d) (get_or paths place d)) is ∙ follows n d e

    step : (i : ℕ) (d : Node) (n : ℕ) → n ≡ place → i < n → comes_before (get_or paths i d) (get_or paths place d) ≡ true
    step i d zero e low = absurd (omega arith)
    step i d (suc n) e low = last i d n (omega arith) (upto i n low)

    order : (i j : ℕ) (d : Node) → i < j → j < place ⊎ j ≡ place → comes_before (get_or paths i d) (get_or paths j d) ≡ true
    order i j d low (inl high) = first.order i j d low high
    order i j d low (inr is) = ap (λ k. comes_before (get_or paths i d) (get_or paths k d)) is ∙ step i d place refl (omega arith)

pub all_places : (above : Option Node) (paths : List Node) (place : ℕ) → length paths ≤ place → AreFirst above paths place → AreBelow above paths
all_places above paths place all first = record {
  order = λ i j d low high. first.order i j d low (omega arith);
  parents = λ k d low. first.parents k d (omega arith);
}
