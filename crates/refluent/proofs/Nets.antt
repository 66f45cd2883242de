-- What a log changes, by claims that say once what it touches.
use Rattle.std.proofs.Common.{◌≡◌, ◌<◌, ◌+◌, ◌==◌, ℕ, zero, suc, Bool, true, false, ◌&&◌, List, [], ◌∷◌, length, Option, Some, None, refl, sym, ap, subst, ◌∙◌, arith}
use Rattle.std.specs.Prelude.{if◌then◌else◌, is_none}
use Rattle.std.specs.List.{slice_get}
use Rattle.std.proofs.lemmas.Bool.Decides.{nat_tests}
use Rattle.sync_path.specs.Paths.{Node, same_path}
use Rattle.sync_command.specs.Changes.{Change, is_change}
use Rattle.sync_command.specs.Trees.{command_at, one_each}
use Rattle.sync_command.specs.Maps.{at}
use Rattle.canon_set.specs.Logs.{touches, net}
use Rattle.canon_set.specs.Leaving.{above, leaves}
use Rattle.canon_set.specs.Sets.{IsFitting, canonical}
use Rattle.canon_set.specs.Sums.{Sum}
use Rattle.refluent.specs.Joints.{EachStandsFor, net_sets}
use Rattle.refluent.specs.FirstDisagreements.{log_at}
use Rattle.refluent.specs.Tables.{AreClaims, said, said_of}
use Rattle.refluent.specs.JointParts.{HasNets, change_by, change_in, changes_of, if_change, with_change, sets_by, sets_from}
use Rattle.refluent.specs.UniqueClaims.{AreUnique, is_touching}
use Rattle.refluent.specs.declared.claims.Statement.{Statement}
use Rattle.refluent.specs.declared.claims.Statement.TheVariants.{Above, Touches}
use Rattle.refluent.specs.declared.claims.Claim.{Claim}
use Rattle.refluent.proofs.Agreeing.{log_is, IsLog}
use Rattle.canon_set.proofs.CallerLemmas.{one_each-touches, net_fits, is_canonical-canonical, one_each-canonical, command_at-canonical}
use Rattle.sync_command.proofs.CallerLemmas.{command_at-filter, command_at-node, one_each-filter, passing, same_fits, canonical_unique}
use Rattle.sync_path.proofs.CallerLemmas.{same_path_is, same_path_at}

pub is_log : (a b : ℕ) → (a == b) ≡ true → a ≡ b
is_log a b e = grind (arith, nat_tests)

log_is_same : (a b : ℕ) → a ≡ b → (a == b) ≡ true
log_is_same a b e = grind (arith, nat_tests)

-- a change of the log comes from a claim
pub record IsClaimed (m : ℕ) (cs : List Claim) (p : Node) (e : Change) : Type 0 where
  pub place : ℕ
  pub claim : Claim
  pub at : slice_get cs place ≡ Some claim
  pub log : claim.log ≡ m
  pub path : claim.path ≡ p
  pub change : change_in claim ≡ Some e

pub change_node : (c : Claim) (e : Change) → change_in c ≡ Some e → e.node ≡ c.path
change_node c e h = go c.says h
  where
    some_is : {a b : Change} → Some a ≡ Some b → a ≡ b
    some_is e = cc

    by : (b : Bool) (d : Change) → if_change b d ≡ Some e → e.node ≡ d.node
    by true d f = ap (λ x. x.node) (sym (some_is f))
    by false d f = cc (f)

    go : (s : Statement) → change_by c.path s ≡ Some e → e.node ≡ c.path
    go Above f = cc (f)
    go (Touches a b l) f = by (is_change (record { node = c.path; old = a; new = b })) (record { node = c.path; old = a; new = b }) f

pub change_touching : (c : Claim) (e : Change) → change_in c ≡ Some e → is_touching c.says ≡ true
change_touching c e h = go c.says h
  where
    go : (s : Statement) → change_by c.path s ≡ Some e → is_touching s ≡ true
    go Above f = cc (f)
    go (Touches a b l) f = refl

pub claimed : (m : ℕ) (cs : List Claim) (p : Node) (e : Change) → command_at (changes_of m cs) p ≡ Some e → IsClaimed m cs p e
claimed m [] p e h = cc (h)
claimed m (c ∷ cs) p e h = go (c.log == m) refl (change_in c) refl (claimed m cs p e) h
  where
    later : IsClaimed m cs p e → IsClaimed m (c ∷ cs) p e
    later r = record { place = suc r.place; claim = r.claim; at = r.at; log = r.log; path = r.path; change = r.change }

    some_is : {a b : Change} → Some a ≡ Some b → a ≡ b
    some_is e = cc

    by : (d : Change) → (c.log == m) ≡ true → change_in c ≡ Some d → (command_at (changes_of m cs) p ≡ Some e → IsClaimed m cs p e) → (b : Bool) → same_path p d.node ≡ b → (if b then Some d else command_at (changes_of m cs) p) ≡ Some e → IsClaimed m (c ∷ cs) p e
    by d l f rest true g k = record { place = 0; claim = c; at = refl; log = is_log c.log m l; path = sym (same_path_is p d.node g ∙ change_node c d f); change = f ∙ k }
    by d l f rest false g k = later (rest k)

    go : (b : Bool) → (c.log == m) ≡ b → (o : Option Change) → change_in c ≡ o → (command_at (changes_of m cs) p ≡ Some e → IsClaimed m cs p e) → command_at (with_change b o (changes_of m cs)) p ≡ Some e → IsClaimed m (c ∷ cs) p e
    go false l o f rest k = later (rest k)
    go true l None f rest k = later (rest k)
    go true l (Some d) f rest k = by d l f rest (same_path p d.node) refl k

once_tail : (c : Claim) (cs : List Claim) → AreUnique (c ∷ cs) → AreUnique cs
once_tail c cs h i j x y e f l p t = let s : suc i ≡ suc j = h (suc i) (suc j) x y e f l p t in omega arith

-- no later claim of the log changes the node again
once_none : (m : ℕ) (c : Claim) (cs : List Claim) (d : Change) → AreUnique (c ∷ cs) → c.log ≡ m → change_in c ≡ Some d → (o : Option Change) → command_at (changes_of m cs) d.node ≡ o → o ≡ None
once_none m c cs d h l f None g = refl
once_none m c cs d h l f (Some e) g = let r = claimed m cs d.node e g in let s : 0 ≡ suc r.place = h 0 (suc r.place) c r.claim refl r.at (l ∙ sym r.log) (sym (r.path ∙ change_node c d f)) (change_touching c d f) in absurd (omega arith)

pub once_each : (m : ℕ) (cs : List Claim) → AreUnique cs → one_each (changes_of m cs) ≡ true
once_each m [] h = refl
once_each m (c ∷ cs) h = go (c.log == m) refl (change_in c) refl (once_each m cs (once_tail c cs h))
  where
    go : (b : Bool) → (c.log == m) ≡ b → (o : Option Change) → change_in c ≡ o → one_each (changes_of m cs) ≡ true → one_each (with_change b o (changes_of m cs)) ≡ true
    go false l o f one = one
    go true l None f one = one
    go true l (Some d) f one = ap (λ o. is_none o && one_each (changes_of m cs)) (once_none m c cs d h (is_log c.log m l) f (command_at (changes_of m cs) d.node) refl) ∙ one

-- the change of a claim is that of its node
pub found : (m : ℕ) (cs : List Claim) → AreUnique cs → (k : ℕ) (c : Claim) (d : Change) → slice_get cs k ≡ Some c → c.log ≡ m → change_in c ≡ Some d → command_at (changes_of m cs) c.path ≡ Some d
found m [] h k c d e l f = cc (e)
found m (x ∷ cs) h zero c d e l f = subst (λ y. command_at (with_change (y.log == m) (change_in y) (changes_of m cs)) c.path ≡ Some d) (sym (same e))
    (ap (λ b. command_at (with_change b (change_in c) (changes_of m cs)) c.path) (log_is_same c.log m l) ∙ ap (λ o. command_at (with_change true o (changes_of m cs)) c.path) f ∙ ap (λ b. if b then Some d else command_at (changes_of m cs) c.path) (same_path_at c.path d.node (sym (change_node c d f))))
  where
    same : Some x ≡ Some c → x ≡ c
    same e = cc
found m (x ∷ cs) h (suc k) c d e l f = go (x.log == m) refl (change_in x) refl (found m cs (once_tail x cs h) k c d e l f)
  where
    go : (b : Bool) → (x.log == m) ≡ b → (o : Option Change) → change_in x ≡ o → command_at (changes_of m cs) c.path ≡ Some d → command_at (with_change b o (changes_of m cs)) c.path ≡ Some d
    go false g o p ih = ih
    go true g None p ih = ih
    go true g (Some y) p ih = by (same_path c.path y.node) refl
      where
        by : (b : Bool) → same_path c.path y.node ≡ b → (if b then Some y else command_at (changes_of m cs) c.path) ≡ Some d
        by false q = ih
        by true q = let s : 0 ≡ suc k = h 0 (suc k) x c refl e (is_log x.log m g ∙ sym l) (sym (same_path_is c.path y.node q ∙ change_node x y p)) (change_touching x y p) in absurd (omega arith)

-- ---- the net set

abbrev said_change : Node → Option Statement → Option Change
said_change p None = None
said_change p (Some s) = change_by p s

-- the net command of a log at a node, by what it says there
net_said : (cs : List Change) (p : Node) → command_at (net cs) p ≡ said_change p (said cs p)
net_said cs p = command_at-filter is_change (touches cs) (one_each-touches cs) p ∙ go (command_at (touches cs) p) (λ d e. command_at-node (touches cs) p d e) (above cs p)
  where
    pass : (b : Bool) (d : Change) → (if b then Some d else None) ≡ if_change b d
    pass true d = refl
    pass false d = refl

    go : (o : Option Change) → ((d : Change) → o ≡ Some d → p ≡ d.node) → (b : Bool) → passing is_change o ≡ said_change p (said_of o (leaves cs p) b)
    go None f true = refl
    go None f false = refl
    go (Some d) f b = pass (is_change d) d ∙ ap (λ q. if_change (is_change (record { node = q; old = d.old; new = d.new })) (record { node = q; old = d.old; new = d.new })) (sym (f d refl))

module _ (logs : List (List Change)) (claims : List Claim) (are : AreClaims claims logs) (once : AreUnique claims) (m : ℕ) where
  same_at : (p : Node) → command_at (changes_of m claims) p ≡ command_at (net (log_at logs m)) p
  same_at p = go (command_at (changes_of m claims) p) refl ∙ sym (net_said (log_at logs m) p)
    where
      known : (s : Option Statement) → said (log_at logs m) p ≡ s → command_at (changes_of m claims) p ≡ None → None ≡ said_change p s
      known None e f = refl
      known (Some s) e f = by (change_by p s) refl
        where
          by : (o : Option Change) → change_by p s ≡ o → None ≡ o
          by None g = refl
          by (Some d) g = let c = are.complete m p s e in let h : command_at (changes_of m claims) p ≡ Some d = found m claims once c.0 _ d c.1 refl g in cc (f, h)

      go : (o : Option Change) → command_at (changes_of m claims) p ≡ o → o ≡ said_change p (said (log_at logs m) p)
      go None e = known (said (log_at logs m) p) refl e
      go (Some d) e = let r = claimed m claims p d e in
          sym (ap (said_change p) (sym (ap (λ n. said (log_at logs n) p) r.log) ∙ sym (ap (said (log_at logs r.claim.log)) r.path) ∙ (are.sound r.place r.claim r.at).1) ∙ ap (λ q. change_by q r.claim.says) (sym r.path) ∙ r.change)

net_one : (cs : List Change) → one_each (net cs) ≡ true
net_one cs = one_each-filter is_change (touches cs) (one_each-touches cs)

net_fitting : (cs : List Change) → IsLog cs → IsFitting (net cs)
net_fitting cs h = record { map = h.taken.map; tree = h.taken.tree; fits = (net_fits (at h.taken.map) cs h.taken.tree.tree h.taken.takes).0 }

same_canonical : (xs ys : List Change) → one_each xs ≡ true → one_each ys ≡ true → ((p : Node) → command_at xs p ≡ command_at ys p) → canonical xs ≡ canonical ys
same_canonical xs ys one two same = canonical_unique (canonical xs) (canonical ys) (is_canonical-canonical xs one) (is_canonical-canonical ys two) (one_each-canonical xs one) (one_each-canonical ys two)
    (λ p. command_at-canonical xs one p ∙ same p ∙ sym (command_at-canonical ys two p))

sets_each : (logs : List (List Change)) (claims : List Claim) (from : ℕ) → ((k : ℕ) → k < length logs → canonical (changes_of (k + from) claims) ≡ canonical (net (log_at logs k))) → sets_from from (length logs) claims ≡ net_sets logs
sets_each [] claims from h = refl
sets_each (cs ∷ logs) claims from h = ap (λ c. c ∷ sets_from (from + 1) (length logs) claims) (ap (λ n. canonical (changes_of n claims)) first ∙ h 0 (omega arith)) ∙ ap (λ l. canonical (net cs) ∷ l) (sets_each logs claims (from + 1) (λ k low. ap (λ n. canonical (changes_of n claims)) (next k) ∙ h (suc k) (omega arith)))
  where
    first : from ≡ 0 + from
    first = omega arith

    next : (k : ℕ) → k + (from + 1) ≡ suc k + from
    next k = omega arith

pub nets : (sums : List Sum) (logs : List (List Change)) (claims : List Claim) → EachStandsFor sums logs → AreClaims claims logs → AreUnique claims → HasNets claims (length logs) × (sets_by claims (length logs) ≡ net_sets logs)
nets sums logs claims stand are once = (
  record {
    logs = λ k c e. (are.sound k c e).0;
    one = λ l low. once_each l claims once;
    fitting = λ l low. let f = net_fitting (log_at logs l) (log_is sums logs stand l low) in
        record { map = f.map; tree = f.tree; fits = same_fits (at f.map) (net (log_at logs l)) (changes_of l claims) (once_each l claims once) (λ p. sym (same_at logs claims are once l p)) f.fits };
  },
  sets_each logs claims 0 (λ k low. ap (λ n. canonical (changes_of n claims)) (zero_less k) ∙ same_canonical (changes_of k claims) (net (log_at logs k)) (once_each k claims once) (net_one (log_at logs k)) (same_at logs claims are once k)),
)
  where
    zero_less : (k : ℕ) → k + 0 ≡ k
    zero_less k = omega arith
