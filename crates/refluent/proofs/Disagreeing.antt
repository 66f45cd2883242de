-- The least pair of logs over the nodes of a table.
use Rattle.std.proofs.Common.{◌≡◌, ◌<◌, ◌≤◌, ◌+◌, ℕ, Bool, true, false, List, [], ◌∷◌, ◌++◌, take, drop, length, get_or, Option, Some, None, refl, sym, ap, subst, ◌∙◌, arith, ◌⊎◌, inl, inr}
use Rattle.std.specs.Prelude.{if◌then◌else◌}
use Rattle.std.specs.List.{slice_get}
use Rattle.std.proofs.lemmas.Option.{slice_get-get_or, slice_get_within}
use Rattle.std.proofs.lemmas.Bool.{cases_lt}
use Rattle.std.proofs.lemmas.Bool.Decides.{nat_tests}
use Rattle.sync_path.specs.Paths.{Node}
use Rattle.sync_command.specs.Changes.{Change}
use Rattle.refluent.specs.Needs.{are_incompatible}
use Rattle.refluent.specs.FirstDisagreements.{log_at, pair_before}
use Rattle.refluent.specs.Demands.{demanded, are_incompatible_demands, NoPair, IsPairAt, IsLeastPair}
use Rattle.refluent.specs.Tables.{wanted, node_of, AreFor, AreClaims}
use Rattle.refluent.specs.Disagreements.{are_incompatible_at, IsLeastDisagreement, IsDisagreementSoFar, better_of, IsWithin, IsInRange}
use Rattle.refluent.specs.declared.claims.Claim.{Claim}
use Rattle.refluent.specs.declared.demands.Demand.{Demand}
use Rattle.refluent.specs.declared.demands.Demand.TheVariants as demand
use Rattle.refluent.specs.declared.table.Group.{Group}
use Rattle.refluent.specs.declared.table.Disagreement.{Disagreement}

-- ---- pairs of numbers

pair_split : (k l i j : ℕ) → pair_before k l i j ≡ true → (k < i) ⊎ ((k ≡ i) × (l < j))
pair_split k l i j e = go (cases_lt k i)
  where
    rest : i ≤ k → pair_before k l i j ≡ true → (k ≡ i) × (l < j)
    rest h e = (first, second)
      where
        first : k ≡ i
        first = grind (arith, nat_tests)

        second : l < j
        second = grind (arith, nat_tests)

    go : (k < i) ⊎ (i ≤ k) → (k < i) ⊎ ((k ≡ i) × (l < j))
    go (inl h) = inl h
    go (inr h) = inr (rest h e)

pair_trans : (k l i j m n : ℕ) → pair_before k l i j ≡ true → pair_before i j m n ≡ true → pair_before k l m n ≡ true
pair_trans k l i j m n e f = grind (arith, nat_tests)

-- what goes before a pair, and not before another that does not come later, goes before that one
pair_low : (k l i j m n : ℕ) → pair_before k l m n ≡ true → pair_before i j m n ≡ false → pair_before k l i j ≡ true
pair_low k l i j m n e f = grind (arith, nat_tests)

pair_self : (i j : ℕ) → pair_before i j i j ≡ false
pair_self i j = grind (arith, nat_tests)

-- ---- one node

module _ (logs : List (List Change)) (p : Node) (ds : List Demand) (are : AreFor logs p ds) (many : length ds ≡ length logs) where
  at_low : (k : ℕ) → k < length logs → slice_get ds k ≡ Some (get_or ds k demand.Anything)
  at_low k low = slice_get-get_or ds k demand.Anything (subst (λ n. k < n) (sym many) low)

  by_needs : (k l : ℕ) (d e : Demand) → slice_get ds k ≡ Some d → slice_get ds l ≡ Some e → are_incompatible_at logs k l p ≡ are_incompatible_demands d e
  by_needs k l d e f g = sym (ap (λ n. are_incompatible n (demanded e)) (are k d f) ∙ ap (λ n. are_incompatible (wanted (log_at logs k) p) n) (are l e g))

  none_apart : (n : ℕ) → NoPair ds n → (k l : ℕ) → k < n → k < l → l < length logs → are_incompatible_at logs k l p ≡ false
  none_apart n none k l low pair high = by_needs k l _ _ (at_low k (omega arith)) (at_low l high) ∙ none k _ low (at_low k (omega arith)) l _ (omega arith) (subst (λ x. l < x) (sym many) high) (at_low l high)

  pair_apart : (i j : ℕ) → IsPairAt ds i j → are_incompatible_at logs i j p ≡ true
  pair_apart i j h = by_needs i j h.demand h.apart.other h.at h.apart.at ∙ h.apart.apart

  pair_order : (i j : ℕ) → IsPairAt ds i j → (i < j) × (j < length logs)
  pair_order i j h = let a : i + 1 ≤ j = h.apart.high in (omega arith, subst (λ n. j < n) many (slice_get_within ds j h.apart.other h.apart.at))

  pair_first : (i j : ℕ) → IsPairAt ds i j → (k l : ℕ) → k < l → l < length logs → pair_before k l i j ≡ true → are_incompatible_at logs k l p ≡ false
  pair_first i j h k l pair high before = go (pair_split k l i j before)
    where
      go : (k < i) ⊎ ((k ≡ i) × (l < j)) → are_incompatible_at logs k l p ≡ false
      go (inl low) = none_apart i h.rows k l low pair high
      go (inr e) = let up : i + 1 ≤ l = omega (arith, e.0) in by_needs k l h.demand _ (ap (slice_get ds) e.0 ∙ h.at) (at_low l high) ∙ h.apart.first l _ up e.1 (at_low l high)

-- ---- one node more

module _ (logs : List (List Change)) (claims : List Claim) (groups : List Group) (place : ℕ) (s : Group) (at : slice_get groups place ≡ Some s) (ds : List Demand) (are : AreFor logs (node_of claims s) ds) (many : length ds ≡ length logs) where
  same_group : {a b : Group} → Some a ≡ Some b → a ≡ b
  same_group e = cc

  this : (i : ℕ) (t : Group) → i ≡ place → slice_get groups i ≡ Some t → t ≡ s
  this i t e f = same_group (sym f ∙ ap (slice_get groups) e ∙ at)

  -- what holds at the nodes before and at this one holds of one more
  more : (k l i : ℕ) (t : Group) → ((j : ℕ) (u : Group) → j < place → slice_get groups j ≡ Some u → are_incompatible_at logs k l (node_of claims u) ≡ false) → are_incompatible_at logs k l (node_of claims s) ≡ false → i < place + 1 → slice_get groups i ≡ Some t → are_incompatible_at logs k l (node_of claims t) ≡ false
  more k l i t before here low f = go (cases_lt i place)
    where
      go : (i < place) ⊎ (place ≤ i) → are_incompatible_at logs k l (node_of claims t) ≡ false
      go (inl h) = before i t h f
      go (inr h) = ap (λ u. are_incompatible_at logs k l (node_of claims u)) (this i t (omega arith) f) ∙ here

  none_here : NoPair ds (length ds) → (k l : ℕ) → k < l → l < length logs → are_incompatible_at logs k l (node_of claims s) ≡ false
  none_here none k l pair high = none_apart logs (node_of claims s) ds are many (length ds) none k l (let h : l < length ds = subst (λ n. l < n) (sym many) high in omega arith) pair high

  taken : (pair : ℕ × ℕ) → IsPairAt ds pair.0 pair.1 → ((k l i : ℕ) (t : Group) → k < l → l < length logs → i < place → slice_get groups i ≡ Some t → pair_before k l pair.0 pair.1 ≡ true → are_incompatible_at logs k l (node_of claims t) ≡ false) →
      ((i : ℕ) (t : Group) → i < place → slice_get groups i ≡ Some t → are_incompatible_at logs pair.0 pair.1 (node_of claims t) ≡ false) → IsLeastDisagreement logs claims groups (place + 1) (record { first = pair.0; second = pair.1; place = place })
  taken pair h pairs nodes = record {
    pair = (pair_order logs (node_of claims s) ds are many pair.0 pair.1 h).0;
    low = (pair_order logs (node_of claims s) ds are many pair.0 pair.1 h).1;
    within = omega arith;
    group = s;
    at = at;
    here = pair_apart logs (node_of claims s) ds are many pair.0 pair.1 h;
    pairs = λ k l i t kl high low f b. more k l i t (λ j u below g. pairs k l j u kl high below g b) (pair_first logs (node_of claims s) ds are many pair.0 pair.1 h k l kl high b) low f;
    nodes = nodes;
  }

  pub so_far : (best : Option Disagreement) (found : Option (ℕ × ℕ)) → IsLeastPair ds found → IsDisagreementSoFar logs claims groups place best → IsDisagreementSoFar logs claims groups (place + 1) (better_of best found place)
  so_far None None h b = λ k l i t kl high low f. more k l i t (λ j u below g. b k l j u kl high below g) (none_here h k l kl high) low f
  so_far (Some d) None h b = record {
    pair = b.pair;
    low = b.low;
    within = let w : d.place < place = b.within in omega arith;
    group = b.group;
    at = b.at;
    here = b.here;
    pairs = λ k l i t kl high low f e. more k l i t (λ j u below g. b.pairs k l j u kl high below g e) (none_here h k l kl high) low f;
    nodes = b.nodes;
  }
  so_far None (Some pair) h b = let o = pair_order logs (node_of claims s) ds are many pair.0 pair.1 h in taken pair h (λ k l i t kl high low f e. b k l i t kl high low f) (λ i t low f. b pair.0 pair.1 i t o.0 o.1 low f)
  so_far (Some d) (Some pair) h b = go (pair_before pair.0 pair.1 d.first d.second) refl
    where
      o : (pair.0 < pair.1) × (pair.1 < length logs)
      o = pair_order logs (node_of claims s) ds are many pair.0 pair.1 h

      go : (x : Bool) → pair_before pair.0 pair.1 d.first d.second ≡ x → IsDisagreementSoFar logs claims groups (place + 1) (if x then Some (record { first = pair.0; second = pair.1; place = place }) else Some d)
      go true e = taken pair h (λ k l i t kl high low f g. b.pairs k l i t kl high low f (pair_trans k l pair.0 pair.1 d.first d.second g e)) (λ i t low f. b.pairs pair.0 pair.1 i t o.0 o.1 low f e)
      go false e = record {
        pair = b.pair;
        low = b.low;
        within = let w : d.place < place = b.within in omega arith;
        group = b.group;
        at = b.at;
        here = b.here;
        pairs = λ k l i t kl high low f g. more k l i t (λ j u below v. b.pairs k l j u kl high below v g) (pair_first logs (node_of claims s) ds are many pair.0 pair.1 h k l kl high (pair_low k l pair.0 pair.1 d.first d.second g e)) low f;
        nodes = b.nodes;
      }

pub step_all : (logs : List (List Change)) (claims : List Claim) (groups : List Group) (place : ℕ) → place < length groups → (ds : List Demand) → ((s : Group) → AreClaims claims logs → slice_get groups place ≡ Some s → AreFor logs (node_of claims s) ds) → length ds ≡ length logs →
    (best : Option Disagreement) (found : Option (ℕ × ℕ)) (now : Option Disagreement) {seen : List Demand} → seen ≡ ds → IsLeastPair seen found → now ≡ better_of best found place → IsDisagreementSoFar logs claims groups place best → AreClaims claims logs → IsDisagreementSoFar logs claims groups (place + 1) now
step_all logs claims groups place low ds are many best found now same h made b all = let z : Group = record { start = 0; end = 0; parent = None } in let at : slice_get groups place ≡ Some (get_or groups place z) = slice_get-get_or groups place z low in
    subst (λ o. IsDisagreementSoFar logs claims groups (place + 1) o) (sym made) (so_far logs claims groups place (get_or groups place z) at ds (are (get_or groups place z) all at) many best found (subst (λ l. IsLeastPair l found) same h) b)

written_whole : {X : Type 0} (new items : List X) → length new ≡ length items → take (length items) (new ++ drop (length new) items) ≡ new
written_whole [] [] e = refl
written_whole [] (y ∷ items) e = absurd (omega arith)
written_whole (x ∷ new) [] e = absurd (omega arith)
written_whole (x ∷ new) (y ∷ items) e = ap (λ l. x ∷ l) (written_whole new items (omega arith))

-- what is written over all of a vector is what it holds then
pub written : {X : Type 0} (new items : List X) (n : ℕ) → n ≡ length items → length new ≡ length items → take n (new ++ drop (length new) items) ≡ new
written new items n is e = ap (λ k. take k (new ++ drop (length new) items)) is ∙ written_whole new items e

within_pair : (ds : List Demand) (n : ℕ) → length ds ≡ n → (pair : ℕ × ℕ) → IsPairAt ds pair.0 pair.1 → (place : ℕ) → IsInRange (record { first = pair.0; second = pair.1; place = place }) (place + 1) n
within_pair ds n many pair h place = let a : pair.0 + 1 ≤ pair.1 = h.apart.high in let b : pair.1 < length ds = slice_get_within ds pair.1 h.apart.other h.apart.at in record { pair = omega arith; low = omega arith; place = omega arith }

within_more : (d : Disagreement) (place n : ℕ) → IsInRange d place n → IsInRange d (place + 1) n
within_more d place n h = record { pair = h.pair; low = h.low; place = let a : d.place < place = h.place in omega arith }

pub within_step : (ds seen : List Demand) (n place : ℕ) → seen ≡ ds → length ds ≡ n → (best : Option Disagreement) (found : Option (ℕ × ℕ)) (now : Option Disagreement) → IsLeastPair seen found → now ≡ better_of best found place → IsWithin place n best → IsWithin (place + 1) n now
within_step ds seen n place same many best found now h made b = subst (λ o. IsWithin (place + 1) n o) (sym made) (go best found (subst (λ l. IsLeastPair l found) same h) b)
  where
    go : (best : Option Disagreement) (found : Option (ℕ × ℕ)) → IsLeastPair ds found → IsWithin place n best → IsWithin (place + 1) n (better_of best found place)
    go None None h b = tt
    go (Some d) None h b = within_more d place n b
    go None (Some pair) h b = within_pair ds n many pair h place
    go (Some d) (Some pair) h b = by (pair_before pair.0 pair.1 d.first d.second)
      where
        by : (x : Bool) → IsWithin (place + 1) n (if x then Some (record { first = pair.0; second = pair.1; place = place }) else Some d)
        by true = within_pair ds n many pair h place
        by false = within_more d place n b
