-- How the table grows by one node, and where its parent is found.
use Rattle.std.proofs.Common.{◌≡◌, ◌≢◌, ◌↔◌, ◌<◌, ◌≤◌, ◌+◌, ◌-◌, ℕ, zero, suc, Bool, true, false, List, [], ◌∷◌, ◌++◌, length, get_or, Option, Some, None, refl, sym, ap, subst, ◌∙◌, arith, ◌⊎◌, inl, inr}
use Rattle.std.specs.Prelude.{IsTrue}
use Rattle.std.specs.List.{slice_get}
use Rattle.std.proofs.lemmas.Option.{slice_get-get_or, slice_get_within}
use Rattle.std.proofs.Common.{length-append}
use Rattle.std.proofs.lemmas.Bool.{cases_lt}
use Rattle.sync_path.specs.Paths.{Node, parent, comes_before, same_path, IsUnder, is_under}
use Rattle.refluent.specs.Tables.{IsTable, IsTableTo, IsFresh, IsGroup, IsParentGroup, HasGroup, AreSorted, AreClosed, node_of, node_in}
use Rattle.refluent.specs.declared.claims.Claim.{Claim}
use Rattle.refluent.specs.declared.table.Group.{Group}
use Rattle.sync_path.proofs.CallerLemmas.{contiguous, under_is, parent_is, parent_none, before_trans, before_irrefl, parent_before, same_path_is, same_path_at, before_total, HasParentUnder, under_split, under_shorter, IsUnder-parent}

-- a node of the table that is the other one, or under it
pub record IsOnWay (claims : List Claim) (groups : List Group) (q : Node) (i : ℕ) : Type 0 where
  pub group : Group
  pub at : slice_get groups i ≡ Some group
  pub way : (node_of claims group ≡ q) ⊎ (is_under (node_of claims group) q ≡ true)

abbrev pub OnWay : List Claim → List Group → Node → Option ℕ → Type 0
OnWay claims groups q None = ⊥
OnWay claims groups q (Some i) = IsOnWay claims groups q i

-- the climb is at the parent or under it
pub record Climbs (claims : List Claim) (groups : List Group) (start : ℕ) (at : Option ℕ) : Type 0 where
  pub way : (c : Claim) (q : Node) → slice_get claims start ≡ Some c → parent c.path ≡ Some q → OnWay claims groups q at
  pub low : (i : ℕ) → at ≡ Some i → i < length groups

abbrev pub rest_of : Option ℕ → ℕ
rest_of None = 0
rest_of (Some i) = i + 1

-- the table as far as the claims of whole nodes go, and the claims of the node that has begun
pub record Grows (claims : List Claim) (groups : List Group) (start place : ℕ) : Type 0 where
  pub table : IsTableTo claims groups start
  pub low : start ≤ place
  pub run : (k : ℕ) (c d : Claim) → start ≤ k → k ≤ place → slice_get claims k ≡ Some c → slice_get claims start ≡ Some d → c.path ≡ d.path
  pub fresh : IsFresh claims start

same_claim : {a b : Claim} → Some a ≡ Some b → a ≡ b
same_claim e = cc

same_node : {a b : Node} → Some a ≡ Some b → a ≡ b
same_node e = cc

same_place : {a b : ℕ} → Some a ≡ Some b → a ≡ b
same_place e = cc

same_group : {a b : Group} → Some a ≡ Some b → a ≡ b
same_group e = cc

pub some_name : (p q : Node) → parent p ≡ Some q → 0 < length q
some_name p q e = ((parent_is p q).0 e).1

pub one_longer : (p q : Node) → parent p ≡ Some q → length p ≡ length q + 1
one_longer p q e = let h = (parent_is p q).0 e in ap length h.2 ∙ omega (arith, length-append q (h.0 ∷ []))

claim_of : (claims : List Claim) (k : ℕ) → k < length claims → (c : Claim) × (slice_get claims k ≡ Some c)
claim_of [] k low = absurd (omega arith)
claim_of (c ∷ claims) zero low = (c, refl)
claim_of (c ∷ claims) (suc k) low = claim_of claims k (omega arith)

pub group_at : (groups : List Group) (k : ℕ) → k < length groups → (s : Group) × (slice_get groups k ≡ Some s)
group_at [] k low = absurd (omega arith)
group_at (s ∷ groups) zero low = (s, refl)
group_at (s ∷ groups) (suc k) low = group_at groups k (omega arith)

module _ (claims : List Claim) (groups : List Group) (start : ℕ) (table : IsTableTo claims groups start) (sorted : AreSorted claims) (closed : AreClosed claims) (fresh : IsFresh claims start) (c : Claim) (at : slice_get claims start ≡ Some c) where
  -- the parent's claims come before
  early : (q : Node) → parent c.path ≡ Some q → (j : ℕ) (d : Claim) → slice_get claims j ≡ Some d → d.path ≡ q → j < start
  early q up j d there is = go (cases_lt j start)
    where
      before : comes_before d.path c.path ≡ true
      before = ap (λ p. comes_before p c.path) is ∙ parent_before q c.path up

      late : (start < j) ⊎ (j ≤ start) → start ≤ j → j < start
      late (inl h) low = let late' : comes_before d.path c.path ≡ false = sorted start j c d h at there in cc (late', before)
      late (inr h) low = let e : j ≡ start = omega arith in let same : d ≡ c = same_claim (sym there ∙ ap (slice_get claims) e ∙ at) in
          let late' : comes_before d.path c.path ≡ false = ap (λ x. comes_before x.path c.path) same ∙ before_irrefl c.path in cc (late', before)

      go : (j < start) ⊎ (start ≤ j) → j < start
      go (inl h) = h
      go (inr h) = late (cases_lt start j) h

  -- each node of the table comes before the new one
  node_before : (i : ℕ) (t : Group) → slice_get groups i ≡ Some t → comes_before (node_of claims t) c.path ≡ true
  node_before i t there = let group = (table.each i t there).0 in let some : t.start < t.end = group.some in let high : t.end ≤ length claims = group.high in let ends : t.end ≤ start = table.ends i t there in
      let e = claim_of claims t.start (omega arith) in ap (λ o. comes_before (node_in o) c.path) e.1 ∙ fresh t.start e.0 c (omega arith) e.1 at

  pub way_first : (q : Node) → parent c.path ≡ Some q → (0 < length groups) × IsOnWay claims groups q (length groups - 1)
  way_first q up = from (closed start c q at up)
    where
      from : (j : ℕ) × (d : Claim) × (slice_get claims j ≡ Some d) × (d.path ≡ q) → (0 < length groups) × IsOnWay claims groups q (length groups - 1)
      from h = go (table.all h.0 h.1 (early q up h.0 h.1 h.2 h.3) h.2)
        where
          go : (i : ℕ) × HasGroup claims groups h.1.path i → (0 < length groups) × IsOnWay claims groups q (length groups - 1)
          go f = (let l : f.0 < length groups = slice_get_within groups f.0 f.1.group f.1.at in omega arith, here (cases_lt f.0 (length groups - 1)))
            where
              low : f.0 < length groups
              low = slice_get_within groups f.0 f.1.group f.1.at

              is : node_of claims f.1.group ≡ q
              is = f.1.node ∙ h.3

              last : (s : Group) × (slice_get groups (length groups - 1) ≡ Some s)
              last = group_at groups (length groups - 1) (let l : f.0 < length groups = low in omega arith)

              here : (f.0 < length groups - 1) ⊎ (length groups - 1 ≤ f.0) → IsOnWay claims groups q (length groups - 1)
              here (inl less) = record {
                group = last.0;
                at = last.1;
                way = inr ((under_is (node_of claims last.0) q (some_name c.path q up)).1
                    (contiguous q (node_of claims last.0) c.path (IsUnder-parent c.path q up) (ap (λ p. comes_before p (node_of claims last.0)) (sym is) ∙ table.order f.0 (length groups - 1) f.1.group last.0 less f.1.at last.1) (node_before (length groups - 1) last.0 last.1)));
              }
              here (inr more) = let l : f.0 < length groups = low in let e : f.0 ≡ length groups - 1 = omega arith in record { group = last.0; at = last.1; way = inl (ap (node_of claims) (same_group (sym last.1 ∙ ap (slice_get groups) (sym e) ∙ f.1.at)) ∙ is) }

  pub climb_first : (found : Option ℕ) → (length groups ≡ 0 → found ≡ None) → (0 < length groups → found ≡ Some (length groups - 1)) → Climbs claims groups start found
  climb_first found none some = record {
    way = λ d q there up. let same : d ≡ c = same_claim (sym there ∙ at) in let h = way_first q (ap (λ x. parent x.path) (sym same) ∙ up) in subst (λ o. OnWay claims groups q o) (sym (some h.0)) h.1;
    low = λ i e. low i e (cases_lt 0 (length groups));
  }
    where
      low : (i : ℕ) → found ≡ Some i → (0 < length groups) ⊎ (length groups ≤ 0) → i < length groups
      low i e (inl h) = let is : i ≡ length groups - 1 = same_place (sym e ∙ some h) in omega arith
      low i e (inr h) = let is : found ≡ None = none (omega arith) in cc (e, is)

  -- a node that the new one is not under is under the parent, and so is its own parent, or it is the parent
  pub climb_next : (found : Option ℕ) → Climbs claims groups start found → (i : ℕ) (s : Group) → found ≡ Some i → slice_get groups i ≡ Some s → (b : Bool) → IsTrue b ↔ IsUnder c.path (node_of claims s) → b ≡ false → Climbs claims groups start s.parent
  climb_next found climbs i s is there b known apart = record {
    way = λ d q f up. let same : d ≡ c = same_claim (sym f ∙ at) in next q (ap (λ x. parent x.path) (sym same) ∙ up) (subst (λ o. OnWay claims groups q o) is (climbs.way d q f up));
    low = λ j e. let less : j < i = table.low i j s there e in let low : i < length groups = climbs.low i is in omega arith;
  }
    where
      next : (q : Node) → parent c.path ≡ Some q → IsOnWay claims groups q i → OnWay claims groups q s.parent
      next q up h = go h.way
        where
          same : h.group ≡ s
          same = same_group (sym h.at ∙ there)

          over : (u : HasParentUnder (node_of claims s) q) → (o : Option Node) → parent (node_of claims s) ≡ o → IsParentGroup claims groups o s.parent → OnWay claims groups q s.parent
          over u None e p = let k : parent (node_of claims s) ≡ Some u.up = u.is in cc (k, e)
          over u (Some r) e p = let is : r ≡ u.up = same_node (sym e ∙ u.is) in subst (λ o. OnWay claims groups q o) (sym p.1) (record { group = p.2.group; at = p.2.at; way = subst (λ x. (x ≡ q) ⊎ (is_under x q ≡ true)) (sym (p.2.node ∙ is)) u.way })

          go : (node_of claims h.group ≡ q) ⊎ (is_under (node_of claims h.group) q ≡ true) → OnWay claims groups q s.parent
          go (inl e) = let yes' : b ≡ true = known.1 (subst (λ x. IsUnder c.path x) (sym (ap (node_of claims) (sym same) ∙ e)) (IsUnder-parent c.path q up)) in cc (yes', apart)
          go (inr e) = let u = under_split (node_of claims s) q (ap (λ x. is_under (node_of claims x) q) (sym same) ∙ e) in over u (parent (node_of claims s)) refl (table.each i s there).1

  -- the first node on the way that the new one is under is its parent
  pub climb_found : (found : Option ℕ) → Climbs claims groups start found → (i : ℕ) (s : Group) → found ≡ Some i → slice_get groups i ≡ Some s → (b : Bool) → IsTrue b ↔ IsUnder c.path (node_of claims s) → b ≡ true → 1 < length c.path → IsParentGroup claims groups (parent c.path) (Some i)
  climb_found found climbs i s is there b known under deep = go (parent c.path) refl
    where
      go : (o : Option Node) → parent c.path ≡ o → IsParentGroup claims groups o (Some i)
      go None e = let short : length c.path ≤ 1 = (parent_none c.path).0 e in absurd (omega arith)
      go (Some q) up = (i, refl, record { group = s; at = there; node = here (subst (λ o. OnWay claims groups q o) is (climbs.way c q at up)) })
        where
          here : IsOnWay claims groups q i → node_of claims s ≡ q
          here h = by_way h.way
            where
              same : h.group ≡ s
              same = same_group (sym h.at ∙ there)

              by_way : (node_of claims h.group ≡ q) ⊎ (is_under (node_of claims h.group) q ≡ true) → node_of claims s ≡ q
              by_way (inl e) = ap (node_of claims) (sym same) ∙ e
              by_way (inr e) = let u = known.0 under in let k : length c.path ≡ length q + 1 = one_longer c.path q up in let l : length q < length (node_of claims s) = under_shorter (node_of claims s) q (ap (λ x. is_under (node_of claims x) q) (sym same) ∙ e) in
                  let m : length c.path ≡ length (node_of claims s) + length u.0 = ap length u.2 ∙ length-append (node_of claims s) u.0 in let r : 0 < length u.0 = u.1 in absurd (omega arith)

  pub climb_none : (found : Option ℕ) → Climbs claims groups start found → found ≡ None → IsParentGroup claims groups (parent c.path) None
  climb_none found climbs is = go (parent c.path) refl
    where
      go : (o : Option Node) → parent c.path ≡ o → IsParentGroup claims groups o None
      go None e = refl
      go (Some q) e = absurd (subst (λ o. OnWay claims groups q o) is (climbs.way c q at e))

-- the same of the claim that was read
pub for_claim : (claims : List Claim) (groups : List Group) (start : ℕ) (x : Claim) (found : Option ℕ) → slice_get claims start ≡ Some x → IsParentGroup claims groups (parent x.path) found → (c : Claim) → slice_get claims start ≡ Some c → IsParentGroup claims groups (parent c.path) found
for_claim claims groups start x found at h c there = subst (λ y. IsParentGroup claims groups (parent y.path) found) (same_claim (sym at ∙ there)) h

pub root_none : (claims : List Claim) (groups : List Group) (p : Node) → length p ≡ 1 → IsParentGroup claims groups (parent p) None
root_none claims groups p e = subst (λ o. IsParentGroup claims groups o None) (sym ((parent_none p).1 (omega arith))) refl

pub start_low : (claims : List Claim) (groups : List Group) (start : ℕ) → IsTableTo claims groups start → (i : ℕ) → i < length groups → (z : Group) → (get_or groups i z).start < length claims
start_low claims groups start table i low z = let group = (table.each i (get_or groups i z) (slice_get-get_or groups i z low)).0 in let some : (get_or groups i z).start < (get_or groups i z).end = group.some in let high : (get_or groups i z).end ≤ length claims = group.high in omega arith

pub less_rest : (claims : List Claim) (groups : List Group) (start : ℕ) → IsTableTo claims groups start → (i : ℕ) → i < length groups → (z : Group) → (found : Option ℕ) → found ≡ Some i → rest_of (get_or groups i z).parent < rest_of found
less_rest claims groups start table i low z found is = subst (λ o. rest_of (get_or groups i z).parent < rest_of o) (sym is) (go (get_or groups i z).parent refl)
  where
    go : (o : Option ℕ) → (get_or groups i z).parent ≡ o → rest_of o < i + 1
    go None e = omega arith
    go (Some j) e = let less : j < i = table.low i j (get_or groups i z) (slice_get-get_or groups i z low) e in omega arith

pub under_known : (b : Bool) (p r a e : Node) → p ≡ r → a ≡ e → IsTrue b ↔ IsUnder p a → IsTrue b ↔ IsUnder r e
under_known b p r a e same also known = subst (λ y. IsTrue b ↔ IsUnder r y) also (subst (λ x. IsTrue b ↔ IsUnder x a) same known)

pub deep_of : (n : ℕ) (p r : Node) → n ≡ length p → p ≡ r → 0 < n → (n ≡ 1 → ⊥) → 1 < length r
deep_of n p r many same some apart = let h : length p ≡ length r = ap length same in omega arith

-- ---- the table with one node more

snoc_at : (groups : List Group) (s : Group) → slice_get (groups ++ s ∷ []) (length groups) ≡ Some s
snoc_at [] s = refl
snoc_at (t ∷ groups) s = snoc_at groups s

snoc_old : (groups : List Group) (s : Group) (i : ℕ) (t : Group) → slice_get groups i ≡ Some t → slice_get (groups ++ s ∷ []) i ≡ Some t
snoc_old [] s i t e = cc
snoc_old (u ∷ groups) s zero t e = e
snoc_old (u ∷ groups) s (suc i) t e = snoc_old groups s i t e

snoc_split : (groups : List Group) (s : Group) (i : ℕ) (t : Group) → slice_get (groups ++ s ∷ []) i ≡ Some t → (slice_get groups i ≡ Some t) ⊎ ((i ≡ length groups) × (t ≡ s))
snoc_split [] s zero t e = inr (refl, same_group (sym e))
snoc_split [] s (suc i) t e = cc
snoc_split (u ∷ groups) s zero t e = inl e
snoc_split (u ∷ groups) s (suc i) t e = go (snoc_split groups s i t e)
  where
    go : (slice_get groups i ≡ Some t) ⊎ ((i ≡ length groups) × (t ≡ s)) → (slice_get groups i ≡ Some t) ⊎ ((suc i ≡ suc (length groups)) × (t ≡ s))
    go (inl h) = inl h
    go (inr h) = inr (ap suc h.0, h.1)

snoc_has : (claims : List Claim) (groups : List Group) (s : Group) (p : Node) (i : ℕ) → HasGroup claims groups p i → HasGroup claims (groups ++ s ∷ []) p i
snoc_has claims groups s p i h = record { group = h.group; at = snoc_old groups s i h.group h.at; node = h.node }

snoc_parent : (claims : List Claim) (groups : List Group) (s : Group) (o : Option Node) (found : Option ℕ) → IsParentGroup claims groups o found → IsParentGroup claims (groups ++ s ∷ []) o found
snoc_parent claims groups s None found h = h
snoc_parent claims groups s (Some q) found h = (h.0, h.1, snoc_has claims groups s q h.0 h.2)

module _ (claims : List Claim) (groups : List Group) (start place : ℕ) (sorted : AreSorted claims) (grows : Grows claims groups start place) (low : place < length claims) (x : Claim) (begins : slice_get claims start ≡ Some x) where
  -- the claims behind the last one of the node are of later nodes
  later : ((c d : Claim) → slice_get claims place ≡ Some c → slice_get claims (place + 1) ≡ Some d → d.path ≡ c.path → ⊥) → (k : ℕ) (c d : Claim) → place < k → slice_get claims k ≡ Some d → slice_get claims start ≡ Some c → comes_before c.path d.path ≡ true
  later ends k c d up there at = go (claim_of claims place low) (claim_of claims (place + 1) (let h : k < length claims = slice_get_within claims k d there in omega arith))
    where
      go : (e : Claim) × (slice_get claims place ≡ Some e) → (f : Claim) × (slice_get claims (place + 1) ≡ Some f) → comes_before c.path d.path ≡ true
      go e f = by (cases_lt (place + 1) k)
        where
          same : e.0.path ≡ c.path
          same = grows.run place e.0 c grows.low (omega arith) e.1 at

          not_same : (b : Bool) → (b ≡ true → ⊥) → b ≡ false
          not_same true h = absurd (h refl)
          not_same false h = refl

          next : comes_before e.0.path f.0.path ≡ true
          next = before_total f.0.path e.0.path (not_same (same_path f.0.path e.0.path) (λ h. ends e.0 f.0 e.1 f.1 (same_path_is f.0.path e.0.path h))) (sorted place (place + 1) e.0 f.0 (omega arith) e.1 f.1)

          by : (place + 1 < k) ⊎ (k ≤ place + 1) → comes_before c.path d.path ≡ true
          by (inl more) = ap (λ p. comes_before p d.path) (sym same) ∙ past e.0.path f.0.path d.path next (sorted (place + 1) k f.0 d more f.1 there)
            where
              past : (p q r : Node) → comes_before p q ≡ true → comes_before r q ≡ false → comes_before p r ≡ true
              past p q r h g = cases (same_path q r) refl
                where
                  cases : (b : Bool) → same_path q r ≡ b → comes_before p r ≡ true
                  cases true e = ap (comes_before p) (sym (same_path_is q r e)) ∙ h
                  cases false e = before_trans p q r h (before_total r q (turned (same_path r q) refl) g)
                    where
                      turned : (b : Bool) → same_path r q ≡ b → b ≡ false
                      turned true f = let k : same_path q r ≡ true = same_path_at q r (sym (same_path_is r q f)) in cc (k, e)
                      turned false f = refl
          by (inr less) = let is : place + 1 ≡ k = omega arith in let same' : f.0 ≡ d = same_claim (sym f.1 ∙ ap (slice_get claims) is ∙ there) in ap (λ p. comes_before p d.path) (sym same) ∙ ap (λ x. comes_before e.0.path x.path) (sym same') ∙ next

  -- the group of the node is whole
  whole : ((c d : Claim) → slice_get claims place ≡ Some c → slice_get claims (place + 1) ≡ Some d → d.path ≡ c.path → ⊥) → (s : Group) → s.start ≡ start → s.end ≡ place + 1 → (node_of claims s ≡ x.path) × IsGroup claims s
  whole ends s is end = (
    node,
    record {
      some = let l : start ≤ place = grows.low in omega arith;
      high = omega arith;
      inside = λ k c up down there. inside k c (omega arith) (omega arith) there ∙ sym node;
      outside = λ k c there e. let h = outside k c there (e ∙ node) in let a : start ≤ k = h.0 in let b : k < place + 1 = h.1 in (omega arith, omega arith);
    },
  )
    where
      node : node_of claims s ≡ x.path
      node = ap (λ n. node_in (slice_get claims n)) is ∙ ap node_in begins

      inside : (k : ℕ) (c : Claim) → start ≤ k → k < place + 1 → slice_get claims k ≡ Some c → c.path ≡ x.path
      inside k c up down there = grows.run k c x up (omega arith) there begins

      outside : (k : ℕ) (c : Claim) → slice_get claims k ≡ Some c → c.path ≡ x.path → (start ≤ k) × (k < place + 1)
      outside k c there e = (lower (cases_lt k start), upper (cases_lt k (place + 1)))
        where
          lower : (k < start) ⊎ (start ≤ k) → start ≤ k
          lower (inl h) = let b : comes_before c.path x.path ≡ true = grows.fresh k c x h there begins in let n : comes_before c.path x.path ≡ false = ap (λ p. comes_before p x.path) e ∙ before_irrefl x.path in cc (b, n)
          lower (inr h) = h

          upper : (k < place + 1) ⊎ (place + 1 ≤ k) → k < place + 1
          upper (inl h) = h
          upper (inr h) = let b : comes_before x.path c.path ≡ true = later ends k x c (omega arith) there begins in let n : comes_before x.path c.path ≡ false = ap (comes_before x.path) e ∙ before_irrefl x.path in cc (b, n)

  module _ (ends : (c d : Claim) → slice_get claims place ≡ Some c → slice_get claims (place + 1) ≡ Some d → d.path ≡ c.path → ⊥) (s : Group) (is : s.start ≡ start) (end : s.end ≡ place + 1) (up : IsParentGroup claims groups (parent x.path) s.parent) where
    node : node_of claims s ≡ x.path
    node = (whole ends s is end).0

    each_more : (i : ℕ) (t : Group) → slice_get (groups ++ s ∷ []) i ≡ Some t → IsGroup claims t × IsParentGroup claims (groups ++ s ∷ []) (parent (node_of claims t)) t.parent
    each_more i t e = go (snoc_split groups s i t e)
      where
        go : (slice_get groups i ≡ Some t) ⊎ ((i ≡ length groups) × (t ≡ s)) → IsGroup claims t × IsParentGroup claims (groups ++ s ∷ []) (parent (node_of claims t)) t.parent
        go (inl h) = ((grows.table.each i t h).0, snoc_parent claims groups s (parent (node_of claims t)) t.parent (grows.table.each i t h).1)
        go (inr h) = subst (λ y. IsGroup claims y × IsParentGroup claims (groups ++ s ∷ []) (parent (node_of claims y)) y.parent) (sym h.1)
            ((whole ends s is end).1, snoc_parent claims groups s (parent (node_of claims s)) s.parent (subst (λ p. IsParentGroup claims groups (parent p) s.parent) (sym node) up))

    low_more : (i j : ℕ) (t : Group) → slice_get (groups ++ s ∷ []) i ≡ Some t → t.parent ≡ Some j → j < i
    low_more i j t e f = go (snoc_split groups s i t e)
      where
        own : (o : Option Node) → IsParentGroup claims groups o s.parent → s.parent ≡ Some j → j < length groups
        own None h g = let z : s.parent ≡ None = h in cc (z, g)
        own (Some q) h g = let is : j ≡ h.0 = same_place (sym g ∙ h.1) in let l : h.0 < length groups = slice_get_within groups h.0 h.2.group h.2.at in omega arith

        go : (slice_get groups i ≡ Some t) ⊎ ((i ≡ length groups) × (t ≡ s)) → j < i
        go (inl h) = grows.table.low i j t h f
        go (inr h) = let l : j < length groups = own (parent x.path) up (ap (λ x. x.parent) (sym h.1) ∙ f) in let e : i ≡ length groups = h.0 in omega arith

    order_more : (i j : ℕ) (t u : Group) → i < j → slice_get (groups ++ s ∷ []) i ≡ Some t → slice_get (groups ++ s ∷ []) j ≡ Some u → comes_before (node_of claims t) (node_of claims u) ≡ true
    order_more i j t u less e f = go (snoc_split groups s i t e) (snoc_split groups s j u f)
      where
        go : (slice_get groups i ≡ Some t) ⊎ ((i ≡ length groups) × (t ≡ s)) → (slice_get groups j ≡ Some u) ⊎ ((j ≡ length groups) × (u ≡ s)) → comes_before (node_of claims t) (node_of claims u) ≡ true
        go (inl h) (inl g) = grows.table.order i j t u less h g
        go (inl h) (inr g) = ap (λ x. comes_before (node_of claims t) (node_of claims x)) g.1 ∙ ap (comes_before (node_of claims t)) node ∙ before
          where
            group : IsGroup claims t
            group = (grows.table.each i t h).0

            before : comes_before (node_of claims t) x.path ≡ true
            before = via (claim_of claims t.start (let a : t.start < t.end = group.some in let b : t.end ≤ length claims = group.high in omega arith))
              where
                via : (y : Claim) × (slice_get claims t.start ≡ Some y) → comes_before (node_of claims t) x.path ≡ true
                via y = ap (λ o. comes_before (node_in o) x.path) y.1 ∙ grows.fresh t.start y.0 x (let a : t.start < t.end = group.some in let c : t.end ≤ start = grows.table.ends i t h in omega arith) y.1 begins
        go (inr h) (inl g) = let l : j < length groups = slice_get_within groups j u g in let e : i ≡ length groups = h.0 in absurd (omega arith)
        go (inr h) (inr g) = let e : i ≡ length groups = h.0 in let f : j ≡ length groups = g.0 in absurd (omega arith)

    all_more : (k : ℕ) (c : Claim) → k < place + 1 → slice_get claims k ≡ Some c → (i : ℕ) × HasGroup claims (groups ++ s ∷ []) c.path i
    all_more k c less there = go (cases_lt k start)
      where
        go : (k < start) ⊎ (start ≤ k) → (i : ℕ) × HasGroup claims (groups ++ s ∷ []) c.path i
        go (inl h) = let f = grows.table.all k c h there in (f.0, snoc_has claims groups s c.path f.0 f.1)
        go (inr h) = (length groups, record { group = s; at = snoc_at groups s; node = node ∙ sym (grows.run k c x h (omega arith) there begins) })

    ends_more : (i : ℕ) (t : Group) → slice_get (groups ++ s ∷ []) i ≡ Some t → t.end ≤ place + 1
    ends_more i t e = go (snoc_split groups s i t e)
      where
        go : (slice_get groups i ≡ Some t) ⊎ ((i ≡ length groups) × (t ≡ s)) → t.end ≤ place + 1
        go (inl h) = let a : t.end ≤ start = grows.table.ends i t h in let b : start ≤ place = grows.low in omega arith
        go (inr h) = let a : t.end ≡ s.end = ap (λ x. x.end) h.1 in omega arith

    fresh_more : IsFresh claims (place + 1)
    fresh_more k c d less there at = go (cases_lt k start)
      where
        after : comes_before x.path d.path ≡ true
        after = later ends (place + 1) x d (omega arith) at begins

        go : (k < start) ⊎ (start ≤ k) → comes_before c.path d.path ≡ true
        go (inl h) = before_trans c.path x.path d.path (grows.fresh k c x h there begins) after
        go (inr h) = ap (λ p. comes_before p d.path) (grows.run k c x h (omega arith) there begins) ∙ after

    pub grows_node : Grows claims (groups ++ s ∷ []) (place + 1) (place + 1)
    grows_node = record {
      table = record { each = each_more; low = low_more; order = order_more; all = all_more; ends = ends_more };
      low = omega arith;
      run = λ k c d up down there at. let e : k ≡ place + 1 = omega arith in ap (λ x. x.path) (same_claim (sym there ∙ ap (slice_get claims) e ∙ at));
      fresh = fresh_more;
    }

  pub grows_claim : ((c d : Claim) → slice_get claims place ≡ Some c → slice_get claims (place + 1) ≡ Some d → d.path ≡ c.path) → Grows claims groups start (place + 1)
  grows_claim same = record { table = grows.table; low = let l : start ≤ place = grows.low in omega arith; run = run; fresh = grows.fresh }
    where
      via : (k : ℕ) (c d : Claim) → (y : Claim) × (slice_get claims place ≡ Some y) → k ≡ place + 1 → slice_get claims k ≡ Some c → slice_get claims start ≡ Some d → c.path ≡ d.path
      via k c d y e there at = same y.0 c y.1 (ap (slice_get claims) (sym e) ∙ there) ∙ grows.run place y.0 d grows.low (omega arith) y.1 at

      run : (k : ℕ) (c d : Claim) → start ≤ k → k ≤ place + 1 → slice_get claims k ≡ Some c → slice_get claims start ≡ Some d → c.path ≡ d.path
      run k c d up down there at = go (cases_lt place k)
        where
          go : (place < k) ⊎ (k ≤ place) → c.path ≡ d.path
          go (inl h) = via k c d (claim_of claims place low) (omega arith) there at
          go (inr h) = grows.run k c d up h there at

pub with_node : (claims : List Claim) (groups : List Group) (start place : ℕ) → AreSorted claims → Grows claims groups start place → place < length claims → (b : Bool) → ((c d : Claim) → slice_get claims place ≡ Some c → slice_get claims (place + 1) ≡ Some d → IsTrue b ↔ (d.path ≢ c.path)) → b ≡ true →
    (found : Option ℕ) → ((c : Claim) → slice_get claims start ≡ Some c → IsParentGroup claims groups (parent c.path) found) → (now : List Group) → now ≡ groups ++ record { start = start; end = place + 1; parent = found } ∷ [] → Grows claims now (place + 1) (place + 1)
with_node claims groups start place sorted grows low b known is found up now made = subst (λ l. Grows claims l (place + 1) (place + 1)) (sym made) (go (claim_of claims start (let l : start ≤ place = grows.low in omega arith)))
  where
    go : (y : Claim) × (slice_get claims start ≡ Some y) → Grows claims (groups ++ record { start = start; end = place + 1; parent = found } ∷ []) (place + 1) (place + 1)
    go y = grows_node claims groups start place sorted grows low y.0 y.1 (λ c d e f. (known c d e f).0 is) (record { start = start; end = place + 1; parent = found }) refl refl (up y.0 y.1)

pub with_claim : (claims : List Claim) (groups : List Group) (start place : ℕ) → AreSorted claims → Grows claims groups start place → place < length claims → (b : Bool) → ((c d : Claim) → slice_get claims place ≡ Some c → slice_get claims (place + 1) ≡ Some d → IsTrue b ↔ (d.path ≢ c.path)) → b ≡ false →
    Grows claims groups start (place + 1)
with_claim claims groups start place sorted grows low b known is = go (claim_of claims start (let l : start ≤ place = grows.low in omega arith))
  where
    same : (c d : Claim) → (IsTrue b ↔ (d.path ≢ c.path)) → d.path ≡ c.path
    same c d h = by (same_path d.path c.path) refl
      where
        by : (x : Bool) → same_path d.path c.path ≡ x → d.path ≡ c.path
        by true e = same_path_is d.path c.path e
        by false e = let t : b ≡ true = h.1 (λ f. let g : same_path d.path c.path ≡ true = same_path_at d.path c.path f in cc (e, g)) in cc (t, is)

    go : (y : Claim) × (slice_get claims start ≡ Some y) → Grows claims groups start (place + 1)
    go y = grows_claim claims groups start place sorted grows low y.0 y.1 (λ c d e f. same c d (known c d e f))

pub grows_none : (claims : List Claim) → Grows claims [] 0 0
grows_none claims = record {
  table = record { each = λ i s e. cc (e); low = λ i j s e f. cc (e); order = λ i j s t l e f. cc (e); all = λ k c l e. absurd (omega arith); ends = λ i s e. cc (e) };
  low = omega arith;
  run = λ k c d up down there at. let e : k ≡ 0 = omega arith in ap (λ x. x.path) (same_claim (sym there ∙ ap (slice_get claims) e ∙ at));
  fresh = λ k c d l e f. absurd (omega arith);
}

-- where the last claim was the last of its node, the table is whole
pub grown : (claims : List Claim) (groups : List Group) (start : ℕ) → Grows claims groups start (length claims) → start ≡ length claims → IsTable claims groups
grown claims groups start g is = record { each = g.table.each; order = g.table.order; all = λ k c e. let l : k < length claims = slice_get_within claims k c e in g.table.all k c (omega arith) e }
