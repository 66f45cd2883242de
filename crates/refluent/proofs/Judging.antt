-- The least disagreement over the table's nodes is the first disagreement of the logs.
use Rattle.std.proofs.Common.{◌≡◌, ◌<◌, ◌≤◌, ℕ, Bool, true, false, List, length, get_or, Option, Some, None, refl, sym, ap, subst, ◌∙◌, arith, ◌⊎◌, inl, inr}
use Rattle.std.specs.List.{slice_get}
use Rattle.std.proofs.lemmas.Option.{slice_get_within, slice_get-get_or, get_or_from_slice_get}
use Rattle.std.proofs.lemmas.Bool.{cases_lt}
use Rattle.sync_path.specs.Paths.{Node, comes_before}
use Rattle.sync_command.specs.Changes.{Change}
use Rattle.canon_set.specs.Sums.{Sum}
use Rattle.refluent.specs.Needs.{Anything, are_incompatible, disagree, needs_absent}
use Rattle.refluent.specs.Joints.{EachStandsFor}
use Rattle.refluent.specs.CommonTrees.{HasCommonTree}
use Rattle.refluent.specs.FirstDisagreements.{IsDisagreement, IsFirstDisagreement, log_at, pair_before}
use Rattle.refluent.specs.Tables.{AreClaims, AreSorted, IsTable, IsGroup, HasGroup, node_of, said, wanted, wanted_of}
use Rattle.refluent.specs.Disagreements.{are_incompatible_at, IsLeastDisagreement, NoDisagreement, IsDisagreementSoFar, IsWithin, IsInRange}
use Rattle.refluent.specs.Comparisons.{IsAgreed}
use Rattle.refluent.specs.declared.claims.Statement.{Statement}
use Rattle.refluent.specs.declared.claims.Claim.{Claim}
use Rattle.refluent.specs.declared.table.Group.{Group}
use Rattle.refluent.specs.declared.table.Disagreement.{Disagreement}
use Rattle.refluent.proofs.Wanting.{need_none}
use Rattle.refluent.proofs.Agreeing.{log_is, disagree_wanted, disagree_none, log_none, no_common}
use Rattle.sync_path.proofs.CallerLemmas.{before_irrefl, before_asym}

-- needs of logs that say nothing of a node are met by nothing there
unsaid_apart : (cs ds : List Change) (p : Node) → said cs p ≡ None → said ds p ≡ None → are_incompatible (wanted cs p) (wanted ds p) ≡ false
unsaid_apart cs ds p e f = ap (λ n. are_incompatible (wanted_of n (needs_absent cs p)) (wanted ds p)) (need_none cs p e) ∙ ap (λ n. are_incompatible (wanted_of Anything (needs_absent cs p)) (wanted_of n (needs_absent ds p))) (need_none ds p f) ∙ go (needs_absent cs p) (needs_absent ds p)
  where
    go : (a b : Bool) → are_incompatible (wanted_of Anything a) (wanted_of Anything b) ≡ false
    go false false = refl
    go false true = refl
    go true false = refl
    go true true = refl

module _ (sums : List Sum) (logs : List (List Change)) (stand : EachStandsFor sums logs) (claims : List Claim) (groups : List Group) (are : AreClaims claims logs) (table : IsTable claims groups) where
  by_wanted : (k l : ℕ) → k < length logs → l < length logs → (p : Node) → disagree (log_at logs k) (log_at logs l) p ≡ are_incompatible_at logs k l p
  by_wanted k l low high p = disagree_wanted (log_at logs k) (log_at logs l) (log_is sums logs stand k low).taken (log_is sums logs stand k low).change (log_is sums logs stand l high).taken (log_is sums logs stand l high).change p

  -- two logs that say something of a node do so in the table
  said_somewhere : (l : ℕ) (p : Node) (s : Statement) → said (log_at logs l) p ≡ Some s → (i : ℕ) × HasGroup claims groups p i
  said_somewhere l p s e = let h = are.complete l p s e in table.all h.0 _ h.1

  -- what holds at the table's nodes holds at each
  pub apart_each : (k l : ℕ) (p : Node) → ((i : ℕ) (s : Group) → slice_get groups i ≡ Some s → node_of claims s ≡ p → are_incompatible_at logs k l p ≡ false) → are_incompatible_at logs k l p ≡ false
  apart_each k l p h = go (said (log_at logs k) p) refl (said (log_at logs l) p) refl
    where
      here : (i : ℕ) × HasGroup claims groups p i → are_incompatible_at logs k l p ≡ false
      here f = h f.0 f.1.group f.1.at f.1.node

      go : (a : Option Statement) → said (log_at logs k) p ≡ a → (b : Option Statement) → said (log_at logs l) p ≡ b → are_incompatible_at logs k l p ≡ false
      go (Some s) e b f = here (said_somewhere k p s e)
      go None e (Some s) f = here (said_somewhere l p s f)
      go None e None f = unsaid_apart (log_at logs k) (log_at logs l) p e f

  none_beyond : (k l : ℕ) (p : Node) → length logs ≤ l → disagree (log_at logs k) (log_at logs l) p ≡ false
  none_beyond k l p h = ap (λ ds. disagree (log_at logs k) ds p) (log_none logs l h) ∙ disagree_none (log_at logs k) p

  pub none_disagree : NoDisagreement logs claims groups (length groups) → (k l : ℕ) (p : Node) → k < l → disagree (log_at logs k) (log_at logs l) p ≡ false
  none_disagree none k l p less = go (cases_lt l (length logs))
    where
      go : (l < length logs) ⊎ (length logs ≤ l) → disagree (log_at logs k) (log_at logs l) p ≡ false
      go (inl high) = by_wanted k l (omega arith) high p ∙ apart_each k l p (λ i s at is. ap (are_incompatible_at logs k l) (sym is) ∙ none k l i s less high (slice_get_within groups i s at) at)
      go (inr h) = none_beyond k l p h

  pub first_disagreement : (d : Disagreement) (h : IsLeastDisagreement logs claims groups (length groups) d) → IsFirstDisagreement logs d.first d.second (node_of claims h.group)
  first_disagreement d h = record {
    pair = h.pair;
    in_range = h.low;
    here = by_wanted d.first d.second first_low h.low (node_of claims h.group) ∙ h.here;
    least_pair = λ k l q less before. pairs k l q less before (cases_lt l (length logs));
    first_node = λ q before. by_wanted d.first d.second first_low h.low q ∙ apart_each d.first d.second q (λ i s at is. ap (are_incompatible_at logs d.first d.second) (sym is) ∙ h.nodes i s (early i s at (ap (λ x. comes_before x (node_of claims h.group)) is ∙ before) (cases_lt i d.place)) at);
  }
    where
      first_low : d.first < length logs
      first_low = let a : d.first < d.second = h.pair in let b : d.second < length logs = h.low in omega arith

      pairs : (k l : ℕ) (q : Node) → k < l → pair_before k l d.first d.second ≡ true → (l < length logs) ⊎ (length logs ≤ l) → disagree (log_at logs k) (log_at logs l) q ≡ false
      pairs k l q less before (inl high) = by_wanted k l (omega arith) high q ∙ apart_each k l q (λ i s at is. ap (are_incompatible_at logs k l) (sym is) ∙ h.pairs k l i s less high (slice_get_within groups i s at) at before)
      pairs k l q less before (inr high) = none_beyond k l q high

      same_group : {a b : Group} → Some a ≡ Some b → a ≡ b
      same_group e = cc

      early : (i : ℕ) (s : Group) → slice_get groups i ≡ Some s → comes_before (node_of claims s) (node_of claims h.group) ≡ true → (i < d.place) ⊎ (d.place ≤ i) → i < d.place
      early i s at before (inl low) = low
      early i s at before (inr high) = late (cases_lt d.place i)
        where
          late : (d.place < i) ⊎ (i ≤ d.place) → i < d.place
          late (inl more) = let f : comes_before (node_of claims s) (node_of claims h.group) ≡ false = before_asym (node_of claims h.group) (node_of claims s) (table.order d.place i h.group s more h.at at) in cc (before, f)
          late (inr less) = let e : i ≡ d.place = omega arith in let same : s ≡ h.group = same_group (sym at ∙ ap (slice_get groups) e ∙ h.at) in
              let f : comes_before (node_of claims s) (node_of claims h.group) ≡ false = ap (λ x. comes_before (node_of claims x) (node_of claims h.group)) same ∙ before_irrefl (node_of claims h.group) in cc (before, f)

  pub none_common : (d : Disagreement) (h : IsLeastDisagreement logs claims groups (length groups) d) → HasCommonTree logs → ⊥
  none_common d h common = let f = first_disagreement d h in let a : d.first < d.second = h.pair in let b : d.second < length logs = h.low in no_common sums logs stand d.first d.second (node_of claims h.group) (omega arith) h.low f.here common

-- ---- what `compare_claims` knows

pub agreed : (claims c1 c2 : List Claim) (groups s1 : List Group) → c1 ≡ claims → c2 ≡ claims → s1 ≡ groups → IsTable c1 groups → (found : Option Disagreement) → found ≡ None → AreSorted claims → (sums : List Sum) (logs : List (List Change)) → EachStandsFor sums logs → AreClaims claims logs →
    (AreClaims c2 logs → IsDisagreementSoFar logs c2 s1 (length s1) found) → IsAgreed logs claims groups
agreed claims c1 c2 groups s1 e1 e2 f1 table found none sorted sums logs stand are so = record { are = are; sorted = sorted; table = whole; agree = λ k l p less. none_disagree sums logs stand claims groups are whole none_so k l p less }
  where
    whole : IsTable claims groups
    whole = subst (λ c. IsTable c groups) e1 table

    none_so : NoDisagreement logs claims groups (length groups)
    none_so = subst (λ c. NoDisagreement logs c groups (length groups)) e2 (subst (λ s. NoDisagreement logs c2 s (length s)) f1 (subst (λ o. IsDisagreementSoFar logs c2 s1 (length s1) o) none (so (subst (λ c. AreClaims c logs) (sym e2) are))))

pub disagreed : (claims c1 c2 c3 : List Claim) (groups s1 s2 : List Group) → c1 ≡ claims → c2 ≡ claims → c3 ≡ claims → s1 ≡ groups → s2 ≡ groups → IsTable c1 groups → (found : Option Disagreement) (d : Disagreement) → found ≡ Some d → (sums : List Sum) (logs : List (List Change)) → EachStandsFor sums logs → AreClaims claims logs →
    (AreClaims c2 logs → IsDisagreementSoFar logs c2 s1 (length s1) found) → (z : Group) (p q : Node) → p ≡ q → q ≡ node_of c3 (get_or s2 d.place z) → IsDisagreement logs d.first d.second p
disagreed claims c1 c2 c3 groups s1 s2 e1 e2 e3 f1 f2 table found d some sums logs stand are so z p q is of = record { disagreement = subst (λ x. IsFirstDisagreement logs d.first d.second x) (sym same) (first_disagreement sums logs stand claims groups are whole d least); none = none_common sums logs stand claims groups are whole d least }
  where
    whole : IsTable claims groups
    whole = subst (λ c. IsTable c groups) e1 table

    least : IsLeastDisagreement logs claims groups (length groups) d
    least = subst (λ c. IsLeastDisagreement logs c groups (length groups) d) e2 (subst (λ s. IsLeastDisagreement logs c2 s (length s) d) f1 (subst (λ o. IsDisagreementSoFar logs c2 s1 (length s1) o) some (so (subst (λ c. AreClaims c logs) (sym e2) are))))

    same : p ≡ node_of claims least.group
    same = is ∙ of ∙ ap (λ c. node_of c (get_or s2 d.place z)) e3 ∙ ap (λ s. node_of claims (get_or s d.place z)) f2 ∙ ap (node_of claims) (get_or_from_slice_get groups d.place least.group z least.at)

pub disagreement_group : (claims c1 c3 : List Claim) (groups s2 : List Group) → c1 ≡ claims → c3 ≡ claims → s2 ≡ groups → IsTable c1 groups → (place : ℕ) → place < length groups → (z : Group) → (get_or s2 place z).start < length c3
disagreement_group claims c1 c3 groups s2 e1 e3 f2 table place low z = subst (λ s. (get_or s place z).start < length c3) (sym f2) (subst (λ c. (get_or groups place z).start < length c) (sym e3) go)
  where
    group : IsGroup claims (get_or groups place z)
    group = ((subst (λ c. IsTable c groups) e1 table).each place (get_or groups place z) (slice_get-get_or groups place z low)).0

    go : (get_or groups place z).start < length claims
    go = let a : (get_or groups place z).start < (get_or groups place z).end = group.some in let b : (get_or groups place z).end ≤ length claims = group.high in omega arith

pub place_within : (found : Option Disagreement) (d : Disagreement) (s1 groups : List Group) (n : ℕ) → s1 ≡ groups → found ≡ Some d → IsWithin (length s1) n found → d.place < length groups
place_within found d s1 groups n f some h = (subst (λ s. IsInRange d (length s) n) f (subst (λ o. IsWithin (length s1) n o) some h)).place

pub pair_within : (found : Option Disagreement) (d : Disagreement) (n places : ℕ) → found ≡ Some d → IsWithin places n found → (d.first < d.second) × (d.second < n)
pair_within found d n places some h = let r = subst (λ o. IsWithin places n o) some h in (r.pair, r.low)
