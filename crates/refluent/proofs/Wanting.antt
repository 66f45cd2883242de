-- The demands that are written for one node are those of the logs there.
use Rattle.std.proofs.Common.{◌≡◌, ◌<◌, ◌≤◌, ◌+◌, ◌-◌, ℕ, zero, suc, Bool, true, false, not, ◌&&◌, ◌||◌, List, [], ◌∷◌, map, take, drop, length, get_or, Option, Some, None, refl, sym, ap, subst, ◌∙◌, arith, ◌⊎◌, inl, inr}
use Rattle.std.specs.Prelude.{slice_set, is_some}
use Rattle.std.specs.List.{slice_get, slice_range}
use Rattle.std.specs.Option.{option_map}
use Rattle.std.proofs.lemmas.Option.{slice_get-map, slice_get_within, slice_get-get_or, get_or_from_slice_get}
use Rattle.sync_path.specs.Paths.{Node, parent}
use Rattle.sync_command.specs.declared.values.Value.TheVariants as value
use Rattle.sync_command.specs.Changes.{Change}
use Rattle.sync_command.specs.Trees.{command_at}
use Rattle.canon_set.specs.Logs.{names, touches}
use Rattle.canon_set.specs.Leaving.{above, leaves, starts_other, gives_other}
use Rattle.refluent.specs.Needs.{Need, Anything, Exactly, need, need_by, needs_absent, leaves_parent}
use Rattle.refluent.specs.FirstDisagreements.{log_at}
use Rattle.refluent.specs.Demands.{demanded}
use Rattle.refluent.specs.Tables.{said, said_of, wanted, wanted_of, AreClaims, IsGroup, IsTable, IsParentGroup, AreFor, node_of, write_own, write_absent, write_if, need_said, leaves_by}
use Rattle.refluent.specs.declared.claims.Statement.{Statement}
use Rattle.refluent.specs.declared.claims.Statement.TheVariants.{Above, Touches}
use Rattle.refluent.specs.declared.claims.Claim.{Claim}
use Rattle.refluent.specs.declared.table.Group.{Group}
use Rattle.refluent.specs.declared.demands.Demand.{Demand}
use Rattle.canon_set.proofs.CallerLemmas.{is_some-touches, gives_named}

-- ---- parts of lists

take_at : {X : Type 0} (n : ℕ) (l : List X) (k : ℕ) (x : X) → slice_get (take n l) k ≡ Some x → (k < n) × (slice_get l k ≡ Some x)
take_at zero l k x e = cc
take_at (suc n) [] k x e = cc
take_at (suc n) (y ∷ l) zero x e = (omega arith, e)
take_at (suc n) (y ∷ l) (suc k) x e = let h = take_at n l k x e in (omega (arith, h.0), h.1)

take_low : {X : Type 0} (n : ℕ) (l : List X) (k : ℕ) → k < n → slice_get (take n l) k ≡ slice_get l k
take_low zero l k low = absurd (omega arith)
take_low (suc n) [] k low = refl
take_low (suc n) (y ∷ l) zero low = refl
take_low (suc n) (y ∷ l) (suc k) low = take_low n l k (omega arith)

drop_at : {X : Type 0} (a : ℕ) (l : List X) (k j : ℕ) → j ≡ a + k → slice_get (drop a l) k ≡ slice_get l j
drop_at zero l k j e = let h : k ≡ j = omega arith in ap (slice_get l) h
drop_at (suc a) [] k j e = refl
drop_at (suc a) (y ∷ l) k zero e = absurd (omega arith)
drop_at (suc a) (y ∷ l) k (suc j) e = drop_at a l k j (omega arith)

pub range_at : {X : Type 0} (l : List X) (a b k : ℕ) (x : X) → slice_get (slice_range l a b) k ≡ Some x → (a + k < b) × (slice_get l (a + k) ≡ Some x)
range_at l a b k x e = let h = take_at (b - a) (drop a l) k x e in let low : k < b - a = h.0 in (omega arith, sym (drop_at a l k (a + k) refl) ∙ h.1)

pub range_low : {X : Type 0} (l : List X) (a b j : ℕ) → a ≤ j → j < b → slice_get (slice_range l a b) (j - a) ≡ slice_get l j
range_low l a b j low high = take_low (b - a) (drop a l) (j - a) (omega arith) ∙ drop_at a l (j - a) j (omega arith)

pub set_at : {X : Type 0} (l : List X) (i k : ℕ) (y x : X) → slice_get (slice_set l i y) k ≡ Some x → ((k ≡ i) × (x ≡ y)) ⊎ ((k ≡ i → ⊥) × (slice_get l k ≡ Some x))
set_at [] i k y x e = cc (e)
set_at (z ∷ l) zero zero y x e = inl (refl, some_is (sym e))
  where
    some_is : Some x ≡ Some y → x ≡ y
    some_is e = cc
set_at (z ∷ l) zero (suc k) y x e = inr ((λ h. absurd (omega arith)), e)
set_at (z ∷ l) (suc i) zero y x e = inr ((λ h. absurd (omega arith)), e)
set_at (z ∷ l) (suc i) (suc k) y x e = go (set_at l i k y x e)
  where
    go : ((k ≡ i) × (x ≡ y)) ⊎ ((k ≡ i → ⊥) × (slice_get l k ≡ Some x)) → ((suc k ≡ suc i) × (x ≡ y)) ⊎ ((suc k ≡ suc i → ⊥) × (slice_get l k ≡ Some x))
    go (inl h) = inl (ap suc h.0, h.1)
    go (inr h) = inr ((λ e. h.0 (omega arith)), h.1)

-- ---- whose claim gave a need

pub record IsOwn (cs : List Claim) (l : ℕ) (n : Need) : Type 0 where
  pub place : ℕ
  pub claim : Claim
  pub at : slice_get cs place ≡ Some claim
  pub log : claim.log ≡ l
  pub is : n ≡ need_said claim.says

pub record IsKeptOwn (cs : List Claim) (ns : List Need) (l : ℕ) (n : Need) : Type 0 where
  pub none : (k : ℕ) (c : Claim) → slice_get cs k ≡ Some c → c.log ≡ l → ⊥
  pub at : slice_get ns l ≡ Some n

pub who_own : (cs : List Claim) (ns : List Need) (l : ℕ) (n : Need) → slice_get (write_own cs ns) l ≡ Some n → IsOwn cs l n ⊎ IsKeptOwn cs ns l n
who_own [] ns l n e = inr (record { none = λ k c f g. cc (f); at = e })
who_own (d ∷ cs) ns l n e = go (who_own cs (slice_set ns d.log (need_said d.says)) l n e)
  where
    here : (k : ℕ) (c : Claim) → ((k : ℕ) (c : Claim) → slice_get cs k ≡ Some c → c.log ≡ l → ⊥) → (d.log ≡ l → ⊥) → slice_get (d ∷ cs) k ≡ Some c → c.log ≡ l → ⊥
    here zero c none apart f g = apart (ap (λ x. x.log) (some_is f) ∙ g)
      where
        some_is : Some d ≡ Some c → d ≡ c
        some_is e = cc
    here (suc k) c none apart f g = none k c f g

    kept : ((k : ℕ) (c : Claim) → slice_get cs k ≡ Some c → c.log ≡ l → ⊥) → ((l ≡ d.log) × (n ≡ need_said d.says)) ⊎ ((l ≡ d.log → ⊥) × (slice_get ns l ≡ Some n)) → IsOwn (d ∷ cs) l n ⊎ IsKeptOwn (d ∷ cs) ns l n
    kept none (inl h) = inl (record { place = 0; claim = d; at = refl; log = sym h.0; is = h.1 })
    kept none (inr h) = inr (record { none = λ k c. here k c none (λ x. h.0 (sym x)); at = h.1 })

    go : IsOwn cs l n ⊎ IsKeptOwn cs (slice_set ns d.log (need_said d.says)) l n → IsOwn (d ∷ cs) l n ⊎ IsKeptOwn (d ∷ cs) ns l n
    go (inl h) = inl (record { place = suc h.place; claim = h.claim; at = h.at; log = h.log; is = h.is })
    go (inr h) = kept h.none (set_at ns d.log l (need_said d.says) n h.at)

pub record IsLeft (cs : List Claim) (l : ℕ) (n : Need) : Type 0 where
  pub place : ℕ
  pub claim : Claim
  pub at : slice_get cs place ≡ Some claim
  pub log : claim.log ≡ l
  pub left : leaves_by claim.says ≡ true
  pub is : n ≡ Exactly value.Empty

pub record IsKeptLeft (cs : List Claim) (ns : List Need) (l : ℕ) (n : Need) : Type 0 where
  pub none : (k : ℕ) (c : Claim) → slice_get cs k ≡ Some c → c.log ≡ l → leaves_by c.says ≡ false
  pub at : slice_get ns l ≡ Some n

if_at : (b : Bool) (ns : List Need) (i l : ℕ) (n : Need) → slice_get (write_if b ns i) l ≡ Some n → ((b ≡ true) × (l ≡ i) × (n ≡ Exactly value.Empty)) ⊎ ((l ≡ i → b ≡ false) × (slice_get ns l ≡ Some n))
if_at false ns i l n e = inr ((λ _. refl), e)
if_at true ns i l n e = go (set_at ns i l (Exactly value.Empty) n e)
  where
    go : ((l ≡ i) × (n ≡ Exactly value.Empty)) ⊎ ((l ≡ i → ⊥) × (slice_get ns l ≡ Some n)) → ((true ≡ true) × (l ≡ i) × (n ≡ Exactly value.Empty)) ⊎ ((l ≡ i → true ≡ false) × (slice_get ns l ≡ Some n))
    go (inl h) = inl (refl, h.0, h.1)
    go (inr h) = inr ((λ x. absurd (h.0 x)), h.1)

pub who_left : (cs : List Claim) (ns : List Need) (l : ℕ) (n : Need) → slice_get (write_absent cs ns) l ≡ Some n → IsLeft cs l n ⊎ IsKeptLeft cs ns l n
who_left [] ns l n e = inr (record { none = λ k c f g. cc (f); at = e })
who_left (d ∷ cs) ns l n e = go (who_left cs (write_if (leaves_by d.says) ns d.log) l n e)
  where
    here : (k : ℕ) (c : Claim) → ((k : ℕ) (c : Claim) → slice_get cs k ≡ Some c → c.log ≡ l → leaves_by c.says ≡ false) → (l ≡ d.log → leaves_by d.says ≡ false) → slice_get (d ∷ cs) k ≡ Some c → c.log ≡ l → leaves_by c.says ≡ false
    here zero c none apart f g = ap (λ x. leaves_by x.says) (sym (some_is f)) ∙ apart (sym (ap (λ x. x.log) (some_is f) ∙ g))
      where
        some_is : Some d ≡ Some c → d ≡ c
        some_is e = cc
    here (suc k) c none apart f g = none k c f g

    kept : ((k : ℕ) (c : Claim) → slice_get cs k ≡ Some c → c.log ≡ l → leaves_by c.says ≡ false) → ((leaves_by d.says ≡ true) × (l ≡ d.log) × (n ≡ Exactly value.Empty)) ⊎ ((l ≡ d.log → leaves_by d.says ≡ false) × (slice_get ns l ≡ Some n)) →
        IsLeft (d ∷ cs) l n ⊎ IsKeptLeft (d ∷ cs) ns l n
    kept none (inl h) = inl (record { place = 0; claim = d; at = refl; log = sym h.1; left = h.0; is = h.2 })
    kept none (inr h) = inr (record { none = λ k c. here k c none h.0; at = h.1 })

    go : IsLeft cs l n ⊎ IsKeptLeft cs (write_if (leaves_by d.says) ns d.log) l n → IsLeft (d ∷ cs) l n ⊎ IsKeptLeft (d ∷ cs) ns l n
    go (inl h) = inl (record { place = suc h.place; claim = h.claim; at = h.at; log = h.log; left = h.left; is = h.is })
    go (inr h) = kept h.none (if_at (leaves_by d.says) ns d.log l n h.at)

-- ---- what is said and what is needed

some_says : {s u : Statement} → Some s ≡ Some u → s ≡ u
some_says e = cc

pub need_from_said : (cs : List Change) (p : Node) (s : Statement) → said cs p ≡ Some s → need cs p ≡ need_said s
need_from_said cs p s e = go (command_at (touches cs) p) (above cs p) e
  where
    go : (o : Option Change) (b : Bool) → said_of o (leaves cs p) b ≡ Some s → need_by o b ≡ need_said s
    go (Some d) b e = ap need_said (some_says e)
    go None true e = ap need_said (some_says e)
    go None false e = cc (e)

pub need_none : (cs : List Change) (p : Node) → said cs p ≡ None → need cs p ≡ Anything
need_none cs p e = go (command_at (touches cs) p) (above cs p) e
  where
    go : (o : Option Change) (b : Bool) → said_of o (leaves cs p) b ≡ None → need_by o b ≡ Anything
    go (Some d) b e = cc (e)
    go None true e = cc (e)
    go None false e = refl

pub names_none : (cs : List Change) (p : Node) → said cs p ≡ None → names cs p ≡ false
names_none cs p e = go (command_at (touches cs) p) (above cs p) (is_some-touches cs p) e
  where
    go : (o : Option Change) (b : Bool) → is_some o ≡ names cs p → said_of o (leaves cs p) b ≡ None → names cs p ≡ false
    go (Some d) b s e = cc (e)
    go None b s e = sym s

pub leaves_said : (cs : List Change) (p : Node) (s : Statement) → said cs p ≡ Some s → leaves cs p ≡ leaves_by s
leaves_said cs p s e = go (command_at (touches cs) p) refl (above cs p) (is_some-touches cs p) e
  where
    go : (o : Option Change) → command_at (touches cs) p ≡ o → (b : Bool) → is_some o ≡ names cs p → said_of o (leaves cs p) b ≡ Some s → leaves cs p ≡ leaves_by s
    go (Some d) f b n e = ap leaves_by (some_says e)
    go None f true n e = ap (λ o. starts_other o || gives_other cs p) f ∙ gives_named cs p (sym n) ∙ ap leaves_by (some_says e)
    go None f false n e = cc (e)

pub leaves_unsaid : (cs : List Change) (p : Node) → said cs p ≡ None → leaves cs p ≡ false
leaves_unsaid cs p e = go (command_at (touches cs) p) refl (above cs p) e
  where
    go : (o : Option Change) → command_at (touches cs) p ≡ o → (b : Bool) → said_of o (leaves cs p) b ≡ None → leaves cs p ≡ false
    go (Some d) f b e = cc (e)
    go None f b g = ap (λ o. starts_other o || gives_other cs p) f ∙ gives_named cs p (names_none cs p e)

-- ---- the demands of a node

some_need : {m n : Need} → Some m ≡ Some n → m ≡ n
some_need e = cc

some_node : {p q : Node} → Some p ≡ Some q → p ≡ q
some_node e = cc

wanted_said : (s : Statement) (b : Bool) → wanted_of (need_said s) b ≡ need_said s
wanted_said Above b = refl
wanted_said (Touches first last left) b = refl

module _ (claims : List Claim) (logs : List (List Change)) (are : AreClaims claims logs) (l : ℕ) (p : Node) where
  wanted_some : (s : Statement) → said (log_at logs l) p ≡ Some s → wanted (log_at logs l) p ≡ need_said s
  wanted_some s e = ap (λ n. wanted_of n (needs_absent (log_at logs l) p)) (need_from_said (log_at logs l) p s e) ∙ wanted_said s (needs_absent (log_at logs l) p)

  wanted_none : said (log_at logs l) p ≡ None → wanted (log_at logs l) p ≡ wanted_of Anything (leaves_parent (log_at logs l) (parent p))
  wanted_none e = ap (λ n. wanted_of n (needs_absent (log_at logs l) p)) (need_none (log_at logs l) p e) ∙ ap (λ b. wanted_of Anything (not b && leaves_parent (log_at logs l) (parent p))) (names_none (log_at logs l) p e)

  -- what a claim of the log says of the node is what the log says
  said_by : (k : ℕ) (c : Claim) → slice_get claims k ≡ Some c → c.log ≡ l → (q : Node) → c.path ≡ q → said (log_at logs l) q ≡ Some c.says
  said_by k c at log q path = sym (ap (λ i. said (log_at logs i) q) log) ∙ sym (ap (λ x. said (log_at logs c.log) x) path) ∙ (are.sound k c at).1

  -- where no claim of the run is the log's, the log says nothing of the node
  unsaid : (s : Group) (q : Node) → IsGroup claims s → node_of claims s ≡ q → ((k : ℕ) (c : Claim) → slice_get (slice_range claims s.start s.end) k ≡ Some c → c.log ≡ l → ⊥) → said (log_at logs l) q ≡ None
  unsaid s q group is none = go (said (log_at logs l) q) refl
    where
      go : (o : Option Statement) → said (log_at logs l) q ≡ o → o ≡ None
      go None e = refl
      go (Some x) e = let h = are.complete l q x e in let r = group.outside h.0 _ h.1 (sym is) in absurd (none (h.0 - s.start) _ (range_low claims s.start s.end h.0 r.0 r.1 ∙ h.1) refl)

  inside_of : (s : Group) (q : Node) → IsGroup claims s → node_of claims s ≡ q → (k : ℕ) (c : Claim) → slice_get (slice_range claims s.start s.end) k ≡ Some c → (slice_get claims (s.start + k) ≡ Some c) × (c.path ≡ q)
  inside_of s q group is k c at = let h = range_at claims s.start s.end k c at in let low : s.start + k < s.end = h.0 in (h.1, group.inside (s.start + k) c (omega arith) low h.1 ∙ is)

  left_false : (s : Group) (q : Node) → IsGroup claims s → node_of claims s ≡ q → ((k : ℕ) (c : Claim) → slice_get (slice_range claims s.start s.end) k ≡ Some c → c.log ≡ l → leaves_by c.says ≡ false) → leaves (log_at logs l) q ≡ false
  left_false s q group is none = go (said (log_at logs l) q) refl
    where
      go : (o : Option Statement) → said (log_at logs l) q ≡ o → leaves (log_at logs l) q ≡ false
      go None e = leaves_unsaid (log_at logs l) q e
      go (Some x) e = let h = are.complete l q x e in let r = group.outside h.0 _ h.1 (sym is) in leaves_said (log_at logs l) q x e ∙ none (h.0 - s.start) _ (range_low claims s.start s.end h.0 r.0 r.1 ∙ h.1) refl

  -- the demand of a log, from those of its parent's leavers
  from_own : (s : Group) → IsGroup claims s → node_of claims s ≡ p → (ns : List Need) → ((n : Need) → said (log_at logs l) p ≡ None → slice_get ns l ≡ Some n → n ≡ wanted (log_at logs l) p) →
      (n : Need) → slice_get (write_own (slice_range claims s.start s.end) ns) l ≡ Some n → n ≡ wanted (log_at logs l) p
  from_own s group is ns rest n e = go (who_own (slice_range claims s.start s.end) ns l n e)
    where
      go : IsOwn (slice_range claims s.start s.end) l n ⊎ IsKeptOwn (slice_range claims s.start s.end) ns l n → n ≡ wanted (log_at logs l) p
      go (inl h) = let i = inside_of s p group is h.place h.claim h.at in h.is ∙ sym (wanted_some h.claim.says (said_by (s.start + h.place) h.claim i.0 h.log p i.1))
      go (inr h) = rest n (unsaid s p group is h.none) h.at

  from_left : (t : Group) (q : Node) → IsGroup claims t → node_of claims t ≡ q → parent p ≡ Some q → (ns : List Need) → ((n : Need) → slice_get ns l ≡ Some n → n ≡ Anything) →
      (n : Need) → said (log_at logs l) p ≡ None → slice_get (write_absent (slice_range claims t.start t.end) ns) l ≡ Some n → n ≡ wanted (log_at logs l) p
  from_left t q group is up ns cleared n none e = go (who_left (slice_range claims t.start t.end) ns l n e)
    where
      here : leaves_parent (log_at logs l) (parent p) ≡ leaves (log_at logs l) q
      here = ap (leaves_parent (log_at logs l)) up

      go : IsLeft (slice_range claims t.start t.end) l n ⊎ IsKeptLeft (slice_range claims t.start t.end) ns l n → n ≡ wanted (log_at logs l) p
      go (inl h) = let i = inside_of t q group is h.place h.claim h.at in
          h.is ∙ sym (wanted_none none ∙ ap (wanted_of Anything) (here ∙ leaves_said (log_at logs l) q h.claim.says (said_by (t.start + h.place) h.claim i.0 h.log q i.1) ∙ h.left))
      go (inr h) = cleared n h.at ∙ sym (wanted_none none ∙ ap (wanted_of Anything) (here ∙ left_false t q group is h.none))

  from_root : parent p ≡ None → (n : Need) → said (log_at logs l) p ≡ None → n ≡ Anything → n ≡ wanted (log_at logs l) p
  from_root up n none is = is ∙ sym (wanted_none none ∙ ap (λ o. wanted_of Anything (leaves_parent (log_at logs l) o)) up)

-- a list of demands by their needs
need_at : (ds : List Demand) (l : ℕ) (d : Demand) → slice_get ds l ≡ Some d → slice_get (map demanded ds) l ≡ Some (demanded d)
need_at ds l d e = slice_get-map demanded ds l ∙ ap (option_map demanded) e

cleared_needs : (ds : List Demand) → ((k : ℕ) (d : Demand) → slice_get ds k ≡ Some d → demanded d ≡ Anything) → (l : ℕ) (n : Need) → slice_get (map demanded ds) l ≡ Some n → n ≡ Anything
cleared_needs ds h l n e = go (slice_get ds l) refl (sym (slice_get-map demanded ds l) ∙ e)
  where
    go : (o : Option Demand) → slice_get ds l ≡ o → option_map demanded o ≡ Some n → n ≡ Anything
    go None f g = cc (g)
    go (Some d) f g = some_need (sym g) ∙ h l d f

module _ (claims : List Claim) (groups : List Group) (table : IsTable claims groups) (place : ℕ) (s : Group) (at : slice_get groups place ≡ Some s) (cleared ds : List Demand) (clear : (k : ℕ) (d : Demand) → slice_get cleared k ≡ Some d → demanded d ≡ Anything) where
  pub demands_root : s.parent ≡ None → map demanded ds ≡ write_own (slice_range claims s.start s.end) (map demanded cleared) → (logs : List (List Change)) → AreClaims claims logs → AreFor logs (node_of claims s) ds
  demands_root up made logs are l d e = from_own claims logs are l (node_of claims s) s (table.each place s at).0 refl (map demanded cleared)
      (λ n none f. from_root claims logs are l (node_of claims s) (root (parent (node_of claims s)) (table.each place s at).1) n none (cleared_needs cleared clear l n f))
      (demanded d) (sym (ap (λ x. slice_get x l) made) ∙ need_at ds l d e)
    where
      root : (o : Option Node) → IsParentGroup claims groups o s.parent → o ≡ None
      root None h = refl
      root (Some q) h = let f : s.parent ≡ Some h.0 = h.1 in cc (f, up)

  pub demands_child : (i : ℕ) (t : Group) → s.parent ≡ Some i → slice_get groups i ≡ Some t → (mid : List Demand) → map demanded mid ≡ write_absent (slice_range claims t.start t.end) (map demanded cleared) →
      map demanded ds ≡ write_own (slice_range claims s.start s.end) (map demanded mid) → (logs : List (List Change)) → AreClaims claims logs → AreFor logs (node_of claims s) ds
  demands_child i t up there mid left made logs are l d e = from_own claims logs are l (node_of claims s) s (table.each place s at).0 refl (map demanded mid)
      (λ n none f. child (parent (node_of claims s)) refl (table.each place s at).1 n none (sym (ap (λ x. slice_get x l) left) ∙ f))
      (demanded d) (sym (ap (λ x. slice_get x l) made) ∙ need_at ds l d e)
    where
      same_place : {a b : ℕ} → Some a ≡ Some b → a ≡ b
      same_place e = cc

      same_group : {a b : Group} → Some a ≡ Some b → a ≡ b
      same_group e = cc

      child : (o : Option Node) → parent (node_of claims s) ≡ o → IsParentGroup claims groups o s.parent → (n : Need) → said (log_at logs l) (node_of claims s) ≡ None → slice_get (write_absent (slice_range claims t.start t.end) (map demanded cleared)) l ≡ Some n → n ≡ wanted (log_at logs l) (node_of claims s)
      child None f h n none g = let z : s.parent ≡ None = h in cc (z, up)
      child (Some q) f h n none g = let is : i ≡ h.0 = same_place (sym up ∙ h.1) in let group : t ≡ h.2.group = same_group (sym there ∙ ap (slice_get groups) is ∙ h.2.at) in
          from_left claims logs are l (node_of claims s) t q (table.each i t there).0 (ap (node_of claims) group ∙ h.2.node) f (map demanded cleared) (cleared_needs cleared clear l) n none g

-- a parent's place is one of the table
pub parent_low : (claims : List Claim) (groups : List Group) → IsTable claims groups → (place i : ℕ) (s : Group) → slice_get groups place ≡ Some s → s.parent ≡ Some i → i < length groups
parent_low claims groups table place i s at up = go (parent (node_of claims s)) (table.each place s at).1
  where
    same_place : {a b : ℕ} → Some a ≡ Some b → a ≡ b
    same_place e = cc

    go : (o : Option Node) → IsParentGroup claims groups o s.parent → i < length groups
    go None h = let z : s.parent ≡ None = h in cc (z, up)
    go (Some q) h = let is : i ≡ h.0 = same_place (sym up ∙ h.1) in subst (λ j. j < length groups) (sym is) (slice_get_within groups h.0 h.2.group h.2.at)

-- ---- the same by places

module _ (claims : List Claim) (groups : List Group) (table : IsTable claims groups) (place : ℕ) (low : place < length groups) (z : Group) where
  there : slice_get groups place ≡ Some (get_or groups place z)
  there = slice_get-get_or groups place z low

  pub parent_below : (i : ℕ) → (get_or groups place z).parent ≡ Some i → i < length groups
  parent_below i up = parent_low claims groups table place i (get_or groups place z) there up

  pub group_run : ((get_or groups place z).start ≤ (get_or groups place z).end) × ((get_or groups place z).end ≤ length claims)
  group_run = let h = (table.each place (get_or groups place z) there).0 in let some : (get_or groups place z).start < (get_or groups place z).end = h.some in (omega arith, h.high)

  pub run_logs : (n : ℕ) → ((k : ℕ) (c : Claim) → slice_get claims k ≡ Some c → c.log < n) → (run : List Claim) → run ≡ slice_range claims (get_or groups place z).start (get_or groups place z).end → (k : ℕ) (c : Claim) → slice_get run k ≡ Some c → c.log < n
  run_logs n all run is k c at = all ((get_or groups place z).start + k) c (range_at claims (get_or groups place z).start (get_or groups place z).end k c (sym (ap (λ l. slice_get l k) is) ∙ at)).1

  pub for_root : (cleared mid ds : List Demand) (run : List Claim) → ((k : ℕ) (d : Demand) → slice_get cleared k ≡ Some d → demanded d ≡ Anything) → (get_or groups place z).parent ≡ None → mid ≡ cleared → run ≡ slice_range claims (get_or groups place z).start (get_or groups place z).end →
      map demanded ds ≡ write_own run (map demanded mid) → (logs : List (List Change)) (s : Group) → AreClaims claims logs → slice_get groups place ≡ Some s → AreFor logs (node_of claims s) ds
  for_root cleared mid ds run clear up same is made logs s are at = subst (λ y. AreFor logs (node_of claims y) ds) (get_or_from_slice_get groups place s z at)
      (demands_root claims groups table place (get_or groups place z) there cleared ds clear up (made ∙ ap (λ r. write_own r (map demanded mid)) is ∙ ap (λ m. write_own (slice_range claims (get_or groups place z).start (get_or groups place z).end) (map demanded m)) same) logs are)

  pub for_child : (cleared left mid ds : List Demand) (run above : List Claim) (i : ℕ) (y : Group) → ((k : ℕ) (d : Demand) → slice_get cleared k ≡ Some d → demanded d ≡ Anything) → (get_or groups place z).parent ≡ Some i →
      above ≡ slice_range claims (get_or groups i y).start (get_or groups i y).end → map demanded left ≡ write_absent above (map demanded cleared) → mid ≡ left → run ≡ slice_range claims (get_or groups place z).start (get_or groups place z).end →
      map demanded ds ≡ write_own run (map demanded mid) → (logs : List (List Change)) (s : Group) → AreClaims claims logs → slice_get groups place ≡ Some s → AreFor logs (node_of claims s) ds
  for_child cleared left mid ds run above i y clear up over lefts same is made logs s are at = subst (λ y. AreFor logs (node_of claims y) ds) (get_or_from_slice_get groups place s z at)
      (demands_child claims groups table place (get_or groups place z) there cleared ds clear i (get_or groups i y) up (slice_get-get_or groups i y (parent_below i up)) left (lefts ∙ ap (λ r. write_absent r (map demanded cleared)) over)
      (made ∙ ap (λ r. write_own r (map demanded mid)) is ∙ ap (λ m. write_own (slice_range claims (get_or groups place z).start (get_or groups place z).end) (map demanded m)) same) logs are)

pub none_of : (o : Option ℕ) → ((x : ℕ) → o ≡ Some x → ⊥) → o ≡ None
none_of None f = refl
none_of (Some x) f = absurd (f x refl)
