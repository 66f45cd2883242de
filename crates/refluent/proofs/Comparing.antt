-- What is known of logs by their sums.
use Rattle.std.proofs.Common.{◌≡◌, ◌<◌, ◌+◌, ◌-◌, ℕ, List, length, Some, sym, subst, arith}
use Rattle.std.specs.Prelude.{Result, Err}
use Rattle.std.specs.List.{slice_get}
use Rattle.refluent.specs.declared.faults.JoinFault.{JoinFault}
use Rattle.refluent.specs.declared.faults.JoinFault.TheVariants.{NoCommonTree}
use Rattle.std.specs.List.Sorted.{IsPermutation}
use Rattle.sync_path.specs.Paths.{Node}
use Rattle.sync_command.specs.Changes.{Change}
use Rattle.canon_set.specs.Sums.{Sum}
use Rattle.refluent.specs.Joints.{AreSums, EachStandsFor}
use Rattle.refluent.specs.CommonTrees.{HasCommonTree}
use Rattle.refluent.specs.Tables.{AreClaims, AreClosed}
use Rattle.refluent.specs.Comparisons.{IsAgreed}
use Rattle.refluent.specs.FirstDisagreements.{IsDisagreement, IsRefused}
use Rattle.refluent.specs.declared.claims.Claim.{Claim}
use Rattle.refluent.specs.declared.table.Group.{Group}
use Rattle.refluent.proofs.Gathering.{permuted, are_closed, each_length}
use Rattle.refluent.proofs.Agreeing.{common_tree}

module _ (sums : List Sum) (have : AreSums sums) (xs ys : List Claim) (moved : IsPermutation xs ys) (are : (logs : List (List Change)) → EachStandsFor sums logs → AreClaims xs logs) where
  pub still : (logs : List (List Change)) → EachStandsFor sums logs → AreClaims ys logs
  still logs stand = permuted xs ys moved logs (are logs stand)

  pub closed : AreClosed ys
  closed = are_closed ys have.logs (still have.logs have.stand)

  pub below : (n : ℕ) → n ≡ length sums → (k : ℕ) (c : Claim) → slice_get ys k ≡ Some c → c.log < n
  below n is k c at = let h : c.log < length have.logs = ((still have.logs have.stand).sound k c at).0 in let e : length have.logs ≡ length sums = each_length sums have.logs have.stand in omega arith

pub agreed_tree : (sums : List Sum) (logs : List (List Change)) (claims : List Claim) (groups : List Group) → EachStandsFor sums logs → IsAgreed logs claims groups → IsAgreed logs claims groups × HasCommonTree logs
agreed_tree sums logs claims groups stand h = (h, common_tree sums logs stand h.agree)

pub refused_by_one : (logs : List (List Change)) (i j m n : ℕ) (p q : Node) → m ≡ i + 1 → n ≡ j + 1 → q ≡ p → IsDisagreement logs i j p → IsRefused logs m n q
refused_by_one logs i j m n p q e f g h = record { counted = omega arith; disagreement = subst (λ k. IsDisagreement logs k (n - 1) q) a (subst (λ k. IsDisagreement logs i k q) b (subst (λ x. IsDisagreement logs i j x) (sym g) h)) }
  where
    a : i ≡ m - 1
    a = omega arith

    b : j ≡ n - 1
    b = omega arith

pub err_is : {X : Type 0} (a b i j : ℕ) (p q : Node) → (let l : Result X JoinFault = Err (NoCommonTree a b p) in l) ≡ Err (NoCommonTree i j q) → (i ≡ a) × (j ≡ b) × (q ≡ p)
err_is a b i j p q e = (first, second, path)
  where
    first : i ≡ a
    first = cc

    second : j ≡ b
    second = cc

    path : q ≡ p
    path = cc
