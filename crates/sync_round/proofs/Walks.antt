-- The look at the trees and the changes, tree by tree, and the one after the other.
use Rattle.std.proofs.Common.{◌≡◌, ◌⊎◌, ◌<◌, ◌≤◌, ◌+◌, ◌-◌, ℕ, zero, suc, List, [], ◌∷◌, length, get_or, map, Option, None, Some, Result, Ok, Err, inl, inr, refl, sym, ap, subst, ◌∙◌, arith}
use Rattle.std.specs.Prelude.{slice_set}
use Rattle.std.proofs.lemmas.List.{get_or-map, length-map, map-set}
use Rattle.sync_port.specs.States.{IfBoth}
use Rattle.sync_port.proofs.CallerLemmas.{both_alone, both_more}
use Rattle.sync_command.specs.Changes.{Change}
use Rattle.sync_command.specs.Maps.{Store, at}
use Rattle.sync_command.specs.Trees.{after}
use Rattle.canon_set.specs.Logs.{net}
use Rattle.canon_set.specs.Sets.{canonical}
use Rattle.tree_port.specs.States.{Counts, IfHeld, NoneFell, NoneRefused, TreeState, WhereKnown}
use Rattle.tree_port.specs.declared.faults.TreeFault.{TreeFault}
use Rattle.tree_port.specs.declared.faults.TreeFault.TheVariants as tree
use Rattle.refluent.specs.CommonTrees.{IsCommonTree}
use Rattle.refluent.specs.Joints.{IsJoint, Joined, StandsForAll}
use Rattle.transition.specs.Transitions.{IsTransitionOf, transition}
use Rattle.resume_apply.specs.Faults.{of_tree}
use Rattle.resume_apply.specs.Finishing.{Finishes, IsPaid, counted_on}
use Rattle.resume_apply.specs.Preparing.{Finds, IsAsking}
use Rattle.resume_apply.specs.Ready.{IsOnItsWay, IsReady, work}
use Rattle.resume_apply.specs.declared.faults.ApplyFault.{ApplyFault}
use Rattle.resume_apply.specs.declared.faults.ApplyFault.TheVariants as fault
use Rattle.sync_round.specs.Faults.{fault_of}
use Rattle.sync_round.specs.Rounds.{OfRound, transitions}
use Rattle.sync_round.specs.Rounding.{AtPlace, EachTree, EndsRight, IsAtTarget, IsCause, IsLedOn, IsPaidFor, IsReadyIfKnown, IsStill, Rounds}
use Rattle.sync_round.specs.KnownRounds.{AreHeld, RoundsKnown}
use Rattle.sync_round.specs.Walking.{AreReadyIfKnown, IsAsked, IsFoundReady, IsLed, Leads, LeadsRight, Looks, LooksAtAll, LooksRight, set_of}
use Rattle.sync_round.specs.declared.faults.RoundFault.{RoundFault}
use Rattle.sync_round.specs.declared.faults.RoundFault.TheVariants.{Tree, Memory}
use Rattle.sync_round.proofs.Trees.{FirstOnes, OfCounted, OfTree, adds_each, adds_more, adds_then, at_stop, at_then, each_alone, each_first, each_ready, each_same, each_stop, each_then, first_all, first_next, many_first, ready_at}
use Rattle.sync_round.proofs.KnownRounds.{of_known}

-- ---- the set of a number

at_map : (f : List Change → List Change) (logs : List (List Change)) (i : ℕ) → i < length logs → get_or (map f logs) i [] ≡ f (get_or logs i [])
at_map f [] i low = absurd (omega (arith, low))
at_map f (log ∷ logs) zero low = refl
at_map f (log ∷ logs) (suc i) low = at_map f logs i (omega (arith, low))

pub of_number : (j : Joined) (merger : List Change) (number : ℕ) (cs : List Change) → IsTransitionOf j number merger cs → 0 < number → number ≤ length j.sets →
    (logs : List (List Change)) (m : Store) → StandsForAll j logs → IsCommonTree m logs → cs ≡ set_of (transitions (at m) logs merger) number
of_number j merger number cs is up low logs m stands common =
    let many : length j.sets ≡ length logs = ap length stands.sets ∙ length-map logs (λ log. canonical (net log)) in
    is logs m stands common ∙ sym (at_map (λ log. canonical (transition (at m) (net log) merger)) logs (number - 1) (omega (arith, up, low, many)))

pub many_sets : (j : Joined) (merger : List Change) (logs : List (List Change)) (m : Store) → StandsForAll j logs → length (transitions (at m) logs merger) ≡ length j.sets
many_sets j merger logs m stands =
    length-map logs (λ log. canonical (transition (at m) (net log) merger)) ∙ sym (ap length stands.sets ∙ length-map logs (λ log. canonical (net log)))

-- ---- known contents

held_more : {P Q : Store → Type 0} (a : Option Store) → ((m : Store) → P m → Q m) → IfHeld a P → IfHeld a Q
held_more None f p = tt
held_more (Some m) f p = f m p

never_known : (a : Option Store) → IfHeld a (λ m. ⊥) → a ≡ None
never_known None h = refl
never_known (Some m) h = absurd h

-- of contents that stayed
stayed : (P : Store → Store → Type 0) (a b : Option Store) → b ≡ a → ((m : Store) → P m m) → IfBoth a b P
stayed P a b e f = subst (λ c. IfBoth a c P) (sym e) (both_alone P a f)

-- of contents that were known
from_held : {P : Store → Type 0} {Q R : Store → Store → Type 0} (a b : Option Store) → ((m n : Store) → P m → Q m n → R m n) → IfHeld a P → IfBoth a b Q → IfBoth a b R
from_held None None f p q = tt
from_held None (Some n) f p q = absurd q
from_held (Some m) None f p q = absurd q
from_held (Some m) (Some n) f p q = f m n p q

held_from : {P : Store → Type 0} {Q : Store → Store → Type 0} (a b : Option Store) → ((m n : Store) → Q m n → P m) → IfBoth a b Q → IfHeld a P
held_from None b f q = tt
held_from (Some m) None f q = absurd q
held_from (Some m) (Some n) f q = f m n q

-- ---- one tree

none_fell : (c : Counts) → NoneFell c c
none_fell c = record { faults = omega arith; denials = omega arith; out_of_memory = omega arith; changes = omega arith }

later_then : (a b c : Counts) → NoneFell a b → NoneFell b c → NoneFell a c
later_then a b c f g = record {
  faults = omega (arith, f.faults, g.faults);
  denials = omega (arith, f.denials, g.denials);
  out_of_memory = omega (arith, f.out_of_memory, g.out_of_memory);
  changes = omega (arith, f.changes, g.changes);
}

quiet_then : (a b c : Counts) → NoneRefused a b → NoneRefused b c → NoneRefused a c
quiet_then a b c f g = record { faults = g.faults ∙ f.faults; denials = g.denials ∙ f.denials; out_of_memory = g.out_of_memory ∙ f.out_of_memory }

none_refused : (c : Counts) → NoneRefused c c
none_refused c = record { faults = refl; denials = refl; out_of_memory = refl }

same_still : (t : TreeState) → IsStill t t
same_still t = record { contents = refl; changes = refl }

same_asked : (t : TreeState) → IsAsked t t
same_asked t = record { later = none_fell t.counts; still = same_still t }

still_then : (t u v : TreeState) → IsStill t u → IsStill u v → IsStill t v
still_then t u v f g = record { contents = g.contents ∙ f.contents; changes = g.changes ∙ f.changes }

still_paid : (cs : List Change) (t u : TreeState) → IsStill t u → IsPaidFor cs t u
still_paid cs t u s = stayed (λ m n. IsPaid t.counts (work cs (at m)) u.counts (work cs (at n))) t.contents u.contents s.contents (λ m. omega (arith, s.changes))

same_way : (cs : List Change) (m : Store) → IsReady (at m) cs → IsOnItsWay cs (at m) (at m)
same_way cs m ready = record { ready = ready; target = refl; elsewhere = λ p none. refl }

same_led : (cs : List Change) (t : TreeState) → IsReadyIfKnown cs t → IsLed cs t t
same_led cs t ready = record {
  later = none_fell t.counts;
  moved = from_held t.contents t.contents (λ m n is e. (is, subst (λ x. IsOnItsWay cs (at m) (at x)) e (same_way cs m is))) ready (both_alone (λ m n. m ≡ n) t.contents (λ m. refl));
  paid = still_paid cs t t (same_still t);
}

-- ---- the look at one tree

pub nothing_looked : {T : Type 0} (number : ℕ) (cs : List Change) (t : TreeState) → Looks {T = T} number cs (Err Memory) t t
nothing_looked number cs t = record { asked = same_asked t; ends = tt }

asked_of : {T : Type 0} (r : Result T ApplyFault) (t u : TreeState) → IsAsking r t u → IsAsked t u
asked_of r t u a = record { later = a.later; still = record { contents = a.contents; changes = a.changes } }

pub found_ready : {T : Type 0} (number k : ℕ) (cs : List Change) (done : T) (t u : TreeState) → IsAsking {T = ℕ} (Ok k) t u → WhereKnown t (λ m. Finds cs (at m) (Ok k)) → Looks number cs (Ok done) t u
found_ready number k cs done t u a finds = record {
  asked = asked_of (Ok k) t u a;
  ends = record { asked = asked_of (Ok k) t u a; quiet = a.answered; ready = held_more t.contents (λ m f. f.0) finds };
}

pub not_ready : {T : Type 0} (number : ℕ) (cs : List Change) (r : ApplyFault) (t u : TreeState) → IsAsking {T = ℕ} (Err r) t u → WhereKnown t (λ m. Finds cs (at m) (Err r)) → Looks {T = T} number cs (Err (fault_of number r)) t u
not_ready {T} number cs r t u a finds = record { asked = asked_of (Err r) t u a; ends = right r a finds }
  where
    right : (r : ApplyFault) → IsAsking {T = ℕ} (Err r) t u → WhereKnown t (λ m. Finds cs (at m) (Err r)) → LooksRight {T = T} number cs t u (Err (fault_of number r))
    right (fault.Diverged p) a finds = (refl, finds, λ h. a.answered)
    right (fault.Blocked p) a finds = (refl, finds, λ h. a.answered)
    right fault.Failed a finds = (refl, a.failed refl, λ h. absurd h)
    right fault.Denied a finds = (refl, (a.denied refl, never_known t.contents (held_more t.contents (λ m never. never refl) a.never_denied)), λ h. absurd h)
    right fault.Memory a finds = tt

-- ---- the changes of one tree

pub nothing_led : (number : ℕ) (cs : List Change) (t : TreeState) → IsReadyIfKnown cs t → Leads number cs (Err Memory) t t
nothing_led number cs t ready = record { led = same_led cs t ready; ends = tt }

led_of : (cs : List Change) (r : Result ℕ TreeFault) (t u : TreeState) → IsReadyIfKnown cs t → Finishes cs r t u → IsLed cs t u
led_of cs r t u ready f = record {
  later = f.counts.later;
  moved = from_held t.contents u.contents (λ m n is way. (is, way)) ready f.way;
  paid = f.paid;
}

pub finished : (number k : ℕ) (cs : List Change) (t u : TreeState) → IsReadyIfKnown cs t → Finishes cs (Ok k) t u → Leads number cs (Ok k) t u
finished number k cs t u ready f = record {
  led = led_of cs (Ok k) t u ready f;
  ends = record {
    counted = f.number;
    quiet = f.counts.done;
    target = from_held t.contents u.contents (λ m n is h. (is, h.0, h.1)) ready f.target;
  };
}

pub not_finished : (number : ℕ) (cs : List Change) (r : TreeFault) (t u : TreeState) → IsReadyIfKnown cs t → Finishes cs (Err r) t u → Leads number cs (Err (fault_of number (of_tree r))) t u
not_finished number cs r t u ready f = record { led = led_of cs (Err r) t u ready f; ends = right r f }
  where
    right : (r : TreeFault) → Finishes cs (Err r) t u → LeadsRight number cs t u (Err (fault_of number (of_tree r)))
    right tree.Failed f = (refl, f.counts.failed refl, λ h. h)
    right tree.Denied f = (refl, (f.counts.denied refl, never_known t.contents (held_more t.contents (λ m never. never refl) f.never_denied)), λ h. h)
    right tree.Memory f = tt

-- ---- the same for the transition of the tree's number

module _ (j : Joined) (merger : List Change) (number : ℕ) (cs : List Change) (t u : TreeState) (is : IsTransitionOf j number merger cs) (counted : (0 < number) × (number ≤ length j.sets)) where
  pub looked_ready : {T : Type 0} (k : ℕ) (done : T) → IsAsking {T = ℕ} (Ok k) t u → WhereKnown t (λ m. Finds cs (at m) (Ok k)) → OfRound j merger (λ sets. Looks number (set_of sets number) (Ok done) t u)
  looked_ready k done a finds = λ logs m stands common.
      subst (λ set. Looks number set (Ok done) t u) (of_number j merger number cs is counted.0 counted.1 logs m stands common) (found_ready number k cs done t u a finds)

  pub looked_refused : {T : Type 0} (r : ApplyFault) → IsAsking {T = ℕ} (Err r) t u → WhereKnown t (λ m. Finds cs (at m) (Err r)) → OfRound j merger (λ sets. Looks {T = T} number (set_of sets number) (Err (fault_of number r)) t u)
  looked_refused {T} r a finds = λ logs m stands common.
      subst (λ set. Looks {T = T} number set (Err (fault_of number r)) t u) (of_number j merger number cs is counted.0 counted.1 logs m stands common) (not_ready number cs r t u a finds)

  module _ (ready : OfRound j merger (λ sets. IsReadyIfKnown (set_of sets number) t)) where
    here_ready : (logs : List (List Change)) (m : Store) → StandsForAll j logs → IsCommonTree m logs → IsReadyIfKnown cs t
    here_ready logs m stands common = subst (λ set. IsReadyIfKnown set t) (sym (of_number j merger number cs is counted.0 counted.1 logs m stands common)) (ready logs m stands common)

    pub ready_for_it : IsJoint j → IsReadyIfKnown cs t
    ready_for_it joint = let s = joint.stands in here_ready joint.logs s.common.map s s.common.common

    pub led_to_end : (k : ℕ) → Finishes cs (Ok k) t u → OfRound j merger (λ sets. Leads number (set_of sets number) (Ok k) t u)
    led_to_end k f = λ logs m stands common.
        subst (λ set. Leads number set (Ok k) t u) (of_number j merger number cs is counted.0 counted.1 logs m stands common) (finished number k cs t u (here_ready logs m stands common) f)

    pub led_and_refused : (r : TreeFault) → Finishes cs (Err r) t u → OfRound j merger (λ sets. Leads number (set_of sets number) (Err (fault_of number (of_tree r))) t u)
    led_and_refused r f = λ logs m stands common.
        subst (λ set. Leads number set (Err (fault_of number (of_tree r))) t u) (of_number j merger number cs is counted.0 counted.1 logs m stands common) (not_finished number cs r t u (here_ready logs m stands common) f)

-- ---- the look at all the trees

abbrev pub IsFoundReadyOne : OfCounted
IsFoundReadyOne k cs t u = IsFoundReady cs t u

module _ (css : List (List Change)) (a b : List TreeState) (s d : TreeState) (i total number : ℕ) where
  pub look_stops : {T : Type 0} (e : RoundFault) → number ≡ i + 1 → i < length css → length css ≡ length a → FirstOnes IsFoundReadyOne i total css a b → Looks {T = T} number (get_or css i []) (Err e) (get_or b i d) s → Rounds css (Err e) a (slice_set b i s)
  look_stops {T} e is low many walked looked = record {
    later = each_stop i total css a b s d (λ k cs t u p. p.asked.later) (each_same _ css a many (λ cs t. none_fell t.counts)) low walked looked.asked.later;
    moved = inl (each_stop i total css a b s d (λ k cs t u p. p.asked.still) (each_same _ css a many (λ cs t. same_still t)) low walked looked.asked.still);
    paid = each_stop i total css a b s d (λ k cs t u p. still_paid cs t u p.asked.still) (each_same _ css a many (λ cs t. still_paid cs t t (same_still t))) low walked (still_paid _ _ _ looked.asked.still);
    ends = ends e looked.ends;
  }
    where
      ends : (e : RoundFault) → LooksRight {T = T} number (get_or css i []) (get_or b i d) s (Err e) → EndsRight css a (slice_set b i s) (Err e)
      ends Memory h = tt
      ends (Tree n why) h = record {
        counted = omega (arith, h.0, is);
        here = subst (λ x. AtPlace (IsCause why) x css a (slice_set b i s)) (let g : i ≡ n - 1 = omega (arith, h.0, is) in g)
            (at_stop (IsCause why) i total css a b s d (λ k cs t u p. p.ready) low walked h.1);
        untouched = λ found. each_stop i total css a b s d (λ k cs t u p. record { still = p.asked.still; quiet = p.quiet })
            (each_same _ css a many (λ cs t. record { still = same_still t; quiet = none_refused t.counts })) low walked (record { still = looked.asked.still; quiet = h.2 found });
      }

pub look_ends : {T : Type 0} (css : List (List Change)) (a b : List TreeState) (i total : ℕ) (done : T) → length css ≤ i → FirstOnes IsFoundReadyOne i total css a b → LooksAtAll css (Ok done) a b
look_ends css a b i total done low walked = adds_each total css a b (λ k cs t u p. p) (first_all _ i total css a b low walked)

-- ---- the changes of all the trees

-- a tree that was led to its end
pub record IsLedTo (k : ℕ) (cs : List Change) (t u : TreeState) : Type 0 where
  pub led : IsLed cs t u
  pub ended : IsAtTarget k cs t u

pub led_to : (number k : ℕ) (cs : List Change) (t u : TreeState) → Leads number cs (Ok k) t u → IsLedTo k cs t u
led_to number k cs t u l = record { led = l.led; ended = l.ends }

known_ready : (k : ℕ) (cs : List Change) (t u : TreeState) → IsLedTo k cs t u → IsReadyIfKnown cs t
known_ready k cs t u l = held_from t.contents u.contents (λ m n h. h.0) l.led.moved

module _ (css : List (List Change)) (a b : List TreeState) (ready : AreReadyIfKnown css a) where
  led_all : (result : Result ℕ RoundFault) (i total : ℕ) → FirstOnes IsLedTo i total css a b → EndsRight css a b result → Rounds css result a b
  led_all result i total walked ends = record {
    later = each_first i total css a b (λ k cs t u p. p.led.later) (each_alone _ css a (λ cs t is. none_fell t.counts) ready) walked;
    moved = inr (each_first i total css a b (λ k cs t u p. p.led.moved) (each_alone _ css a (λ cs t is. (same_led cs t is).moved) ready) walked);
    paid = each_first i total css a b (λ k cs t u p. p.led.paid) (each_alone _ css a (λ cs t is. (same_led cs t is).paid) ready) walked;
    ends = ends;
  }

  pub lead_ends : (i total : ℕ) → length css ≤ i → FirstOnes IsLedTo i total css a b → Rounds css (Ok total) a b
  lead_ends i total low walked = led_all (Ok total) i total walked (adds_more total css a b (λ k cs t u p. p.ended) (first_all _ i total css a b low walked))

  pub lead_out : (i total : ℕ) → FirstOnes IsLedTo i total css a b → Rounds css (Err Memory) a b
  lead_out i total walked = led_all (Err Memory) i total walked tt

  module _ (s d : TreeState) (i total number : ℕ) where
    pub lead_stops : (e : RoundFault) → number ≡ i + 1 → i < length css → FirstOnes IsLedTo i total css a b → Leads number (get_or css i []) (Err e) (get_or b i d) s → Rounds css (Err e) a (slice_set b i s)
    lead_stops e is low walked led = record {
      later = each_stop i total css a b s d (λ k cs t u p. p.led.later) (each_alone _ css a (λ cs t is. none_fell t.counts) ready) low walked led.led.later;
      moved = inr (each_stop i total css a b s d (λ k cs t u p. p.led.moved) (each_alone _ css a (λ cs t is. (same_led cs t is).moved) ready) low walked led.led.moved);
      paid = each_stop i total css a b s d (λ k cs t u p. p.led.paid) (each_alone _ css a (λ cs t is. (same_led cs t is).paid) ready) low walked led.led.paid;
      ends = ends e led.ends;
    }
      where
        ends : (e : RoundFault) → LeadsRight number (get_or css i []) (get_or b i d) s (Err e) → EndsRight css a (slice_set b i s) (Err e)
        ends Memory h = tt
        ends (Tree n why) h = record {
          counted = omega (arith, h.0, is);
          here = subst (λ x. AtPlace (IsCause why) x css a (slice_set b i s)) (let g : i ≡ n - 1 = omega (arith, h.0, is) in g)
              (at_stop (IsCause why) i total css a b s d known_ready low walked h.1);
          untouched = λ found. absurd (h.2 found);
        }

-- ---- the one after the other

module _ (cs : List Change) (t u v : TreeState) (found : IsFoundReady cs t u) where
  led_since : IsLedOn cs u v → IsLedOn cs t v
  led_since h = subst (λ c. IfBoth c v.contents (λ m n. IsReady (at m) cs × IsOnItsWay cs (at m) (at n))) found.asked.still.contents h

  paid_since : IsPaidFor cs u v → IsPaidFor cs t v
  paid_since h = subst (λ c. IfBoth c v.contents (λ m n. IsPaid t.counts (work cs (at m)) v.counts (work cs (at n)))) found.asked.still.contents
      (both_more u.contents v.contents h (λ m n p. omega (arith, p, found.asked.still.changes)))

  target_since : (k : ℕ) → IsAtTarget k cs u v → IsAtTarget k cs t v
  target_since k h = record {
    counted = h.counted ∙ ap (λ x. counted_on x k) found.asked.still.changes;
    quiet = quiet_then t.counts u.counts v.counts found.quiet h.quiet;
    target = subst (λ c. IfBoth c v.contents (λ m n. IsReady (at m) cs × (at n ≡ after cs (at m)) × (k ≡ work cs (at m)))) found.asked.still.contents h.target;
  }

  cause_since : (why : ApplyFault) → IsCause why cs u v → IsCause why cs t v
  cause_since (fault.Diverged p) h = subst (λ c. IfHeld c (λ m. Finds cs (at m) (Err (fault.Diverged p)))) found.asked.still.contents h
  cause_since (fault.Blocked p) h = subst (λ c. IfHeld c (λ m. Finds cs (at m) (Err (fault.Blocked p)))) found.asked.still.contents h
  cause_since fault.Failed h = omega (arith, h, found.asked.later.faults)
  cause_since fault.Denied h = (omega (arith, h.0, found.asked.later.denials), sym found.asked.still.contents ∙ h.1)
  cause_since fault.Memory h = h

  ready_since : IsReadyIfKnown cs u
  ready_since = subst (λ c. IfHeld c (λ m. IsReady (at m) cs)) (sym found.asked.still.contents) found.ready

module _ (css : List (List Change)) (a b c : List TreeState) (found : EachTree IsFoundReady css a b) where
  moved_since : EachTree (λ cs. IsStill) css b c ⊎ EachTree IsLedOn css b c → EachTree (λ cs. IsStill) css a c ⊎ EachTree IsLedOn css a c
  moved_since (inl h) = inl (each_then css a b c (λ cs t u v p q. still_then t u v p.asked.still q) found h)
  moved_since (inr h) = inr (each_then css a b c (λ cs t u v p q. led_since cs t u v p q) found h)

  ends_since : (result : Result ℕ RoundFault) → EndsRight css b c result → EndsRight css a c result
  ends_since (Ok total) h = adds_then total css a b c (λ k cs t u v p q. target_since cs t u v p k q) found h
  ends_since (Err Memory) h = tt
  ends_since (Err (Tree n why)) h = record {
    counted = h.counted;
    here = at_then (n - 1) css a b c (λ cs t u v p q. cause_since cs t u v p why q) (λ cs t u p. p.ready) found h.here;
    untouched = λ is. each_then css a b c (λ cs t u v p q. record { still = still_then t u v p.asked.still q.still; quiet = quiet_then t.counts u.counts v.counts p.quiet q.quiet }) found (h.untouched is);
  }

  pub after_look : (result : Result ℕ RoundFault) → Rounds css result b c → Rounds css result a c
  after_look result r = record {
    later = each_then css a b c (λ cs t u v p q. later_then t.counts u.counts v.counts p.asked.later q) found r.later;
    moved = moved_since r.moved;
    paid = each_then css a b c (λ cs t u v p q. paid_since cs t u v p q) found r.paid;
    ends = ends_since result r.ends;
  }

pub ready_after_look : (css : List (List Change)) (a b : List TreeState) → EachTree IsFoundReady css a b → AreReadyIfKnown css b
ready_after_look css a b found = each_ready css a b (λ cs t u p. ready_since cs t u u p) found

-- ---- over a list of boxes, of which f is what is known

module _ {X : Type 0} (f : X → TreeState) (j : Joined) (merger : List Change) (xs ys : List X) (place : ℕ) where
  module _ (P : OfCounted) (total : ℕ) (css : List (List Change)) (low : place < length css) (walked : FirstOnes P place total css (map f xs) (map f ys)) (x : X) (here : x ≡ get_or ys place x) where
    at_box : get_or (map f ys) place (f x) ≡ f x
    at_box =
        let many : length css ≡ length ys = many_first P place total css (map f xs) (map f ys) walked ∙ length-map ys f in
        get_or-map f ys place x (f x) (omega (arith, low, many)) ∙ ap f (sym here)

  set_is : (css : List (List Change)) → set_of css (place + 1) ≡ get_or css place []
  set_is css = let e : place + 1 - 1 ≡ place = omega arith in ap (λ i. get_or css i []) e

  low_sets : (logs : List (List Change)) (m : Store) → StandsForAll j logs → place < length j.sets → place < length (transitions (at m) logs merger)
  low_sets logs m stands low = let many = many_sets j merger logs m stands in omega (arith, low, many)

  module _ (low : place < length j.sets) (x y : X) (here : x ≡ get_or ys place x) where
    module _ (walked : OfRound j merger (λ css. FirstOnes IsFoundReadyOne place 0 css (map f xs) (map f ys))) where
      pub look_on : {T : Type 0} (done : T) → OfRound j merger (λ css. Looks (place + 1) (set_of css (place + 1)) (Ok done) (f x) (f y)) → OfRound j merger (λ css. FirstOnes IsFoundReadyOne (place + 1) 0 css (map f xs) (map f (slice_set ys place y)))
      look_on done looked = λ logs m stands common.
          let css : List (List Change) = transitions (at m) logs merger in
          let low = low_sets logs m stands low in
          let w : FirstOnes IsFoundReadyOne place 0 css (map f xs) (map f ys) = walked logs m stands common in
          let l : Looks (place + 1) (set_of css (place + 1)) (Ok done) (f x) (f y) = looked logs m stands common in
          let p : IsFoundReady (get_or css place []) (get_or (map f ys) place (f x)) (f y) =
          subst (λ t. IsFoundReady (get_or css place []) t (f y)) (sym (at_box IsFoundReadyOne 0 css low w x here)) (subst (λ cs. IsFoundReady cs (f x) (f y)) (set_is css) l.ends) in
          subst (λ l. FirstOnes IsFoundReadyOne (place + 1) 0 css (map f xs) l) (sym (map-set f ys place y))
          (first_next IsFoundReadyOne place (place + 1) 0 0 0 css (map f xs) (map f ys) (f y) (f x) refl refl low w p)

      pub look_refused : {T : Type 0} (e : RoundFault) → length xs ≡ length j.sets → OfRound j merger (λ css. Looks {T = T} (place + 1) (set_of css (place + 1)) (Err e) (f x) (f y)) → OfRound j merger (λ css. Rounds css (Err e) (map f xs) (map f (slice_set ys place y)))
      look_refused {T} e many looked = λ logs m stands common.
          let css : List (List Change) = transitions (at m) logs merger in
          let low = low_sets logs m stands low in
          let w : FirstOnes IsFoundReadyOne place 0 css (map f xs) (map f ys) = walked logs m stands common in
          let l : Looks {T = T} (place + 1) (set_of css (place + 1)) (Err e) (f x) (f y) = looked logs m stands common in
          let p : Looks {T = T} (place + 1) (get_or css place []) (Err e) (get_or (map f ys) place (f x)) (f y) =
          subst (λ t. Looks {T = T} (place + 1) (get_or css place []) (Err e) t (f y)) (sym (at_box IsFoundReadyOne 0 css low w x here)) (subst (λ cs. Looks {T = T} (place + 1) cs (Err e) (f x) (f y)) (set_is css) l) in
          let all : length css ≡ length (map f xs) = many_sets j merger logs m stands ∙ sym many ∙ sym (length-map xs f) in
          subst (λ l. Rounds css (Err e) (map f xs) l) (sym (map-set f ys place y))
          (look_stops css (map f xs) (map f ys) (f y) (f x) place 0 (place + 1) e refl low all w p)

    module _ (total : ℕ) (ready : OfRound j merger (λ css. AreReadyIfKnown css (map f xs))) (walked : OfRound j merger (λ css. FirstOnes IsLedTo place total css (map f xs) (map f ys))) where
      pub lead_can : OfRound j merger (λ css. IsReadyIfKnown (set_of css (place + 1)) (f x))
      lead_can = λ logs m stands common.
          let css : List (List Change) = transitions (at m) logs merger in
          let low = low_sets logs m stands low in
          let w : FirstOnes IsLedTo place total css (map f xs) (map f ys) = walked logs m stands common in
          subst (λ cs. IsReadyIfKnown cs (f x)) (sym (set_is css)) (subst (λ t. IsReadyIfKnown (get_or css place []) t) (at_box IsLedTo total css low w x here)
          (ready_at IsLedTo place total css (map f xs) (map f ys) (f x) low (ready logs m stands common) w))

      pub lead_more : (k next : ℕ) → next ≡ total + k → OfRound j merger (λ css. Leads (place + 1) (set_of css (place + 1)) (Ok k) (f x) (f y)) → OfRound j merger (λ css. FirstOnes IsLedTo (place + 1) next css (map f xs) (map f (slice_set ys place y)))
      lead_more k next sum led = λ logs m stands common.
          let css : List (List Change) = transitions (at m) logs merger in
          let low = low_sets logs m stands low in
          let w : FirstOnes IsLedTo place total css (map f xs) (map f ys) = walked logs m stands common in
          let l : IsLedTo k (set_of css (place + 1)) (f x) (f y) = led_to (place + 1) k (set_of css (place + 1)) (f x) (f y) (led logs m stands common) in
          let p : IsLedTo k (get_or css place []) (get_or (map f ys) place (f x)) (f y) =
          subst (λ t. IsLedTo k (get_or css place []) t (f y)) (sym (at_box IsLedTo total css low w x here)) (subst (λ cs. IsLedTo k cs (f x) (f y)) (set_is css) l) in
          subst (λ l. FirstOnes IsLedTo (place + 1) next css (map f xs) l) (sym (map-set f ys place y))
          (first_next IsLedTo place (place + 1) total k next css (map f xs) (map f ys) (f y) (f x) refl sum low w p)

      -- more changes than are counted
      pub lead_too_far : (k : ℕ) → OfRound j merger (λ css. Leads (place + 1) (set_of css (place + 1)) (Ok k) (f x) (f y)) → OfRound j merger (λ css. Rounds css (Err Memory) (map f xs) (map f (slice_set ys place y)))
      lead_too_far k led = λ logs m stands common.
          lead_out (transitions (at m) logs merger) (map f xs) (map f (slice_set ys place y)) (ready logs m stands common) (place + 1) (total + k) (lead_more k (total + k) refl led logs m stands common)

      pub lead_refused : (e : RoundFault) → OfRound j merger (λ css. Leads (place + 1) (set_of css (place + 1)) (Err e) (f x) (f y)) → OfRound j merger (λ css. Rounds css (Err e) (map f xs) (map f (slice_set ys place y)))
      lead_refused e led = λ logs m stands common.
          let css : List (List Change) = transitions (at m) logs merger in
          let low = low_sets logs m stands low in
          let w : FirstOnes IsLedTo place total css (map f xs) (map f ys) = walked logs m stands common in
          let l : Leads (place + 1) (set_of css (place + 1)) (Err e) (f x) (f y) = led logs m stands common in
          let p : Leads (place + 1) (get_or css place []) (Err e) (get_or (map f ys) place (f x)) (f y) =
          subst (λ t. Leads (place + 1) (get_or css place []) (Err e) t (f y)) (sym (at_box IsLedTo total css low w x here)) (subst (λ cs. Leads (place + 1) cs (Err e) (f x) (f y)) (set_is css) l) in
          subst (λ l. Rounds css (Err e) (map f xs) l) (sym (map-set f ys place y))
          (lead_stops css (map f xs) (map f ys) (ready logs m stands common) (f y) (f x) place total (place + 1) e refl low w p)

  module _ (high : length j.sets ≤ place) where
    high_sets : (logs : List (List Change)) (m : Store) → StandsForAll j logs → length (transitions (at m) logs merger) ≤ place
    high_sets logs m stands = let many = many_sets j merger logs m stands in omega (arith, high, many)

    pub looked_all : {T : Type 0} (done : T) → OfRound j merger (λ css. FirstOnes IsFoundReadyOne place 0 css (map f xs) (map f ys)) → OfRound j merger (λ css. LooksAtAll css (Ok done) (map f xs) (map f ys))
    looked_all done walked = λ logs m stands common.
        look_ends (transitions (at m) logs merger) (map f xs) (map f ys) place 0 done (high_sets logs m stands) (walked logs m stands common)

    pub led_all_on : (total : ℕ) → OfRound j merger (λ css. AreReadyIfKnown css (map f xs)) → OfRound j merger (λ css. FirstOnes IsLedTo place total css (map f xs) (map f ys)) → OfRound j merger (λ css. Rounds css (Ok total) (map f xs) (map f ys))
    led_all_on total ready walked = λ logs m stands common.
        lead_ends (transitions (at m) logs merger) (map f xs) (map f ys) (ready logs m stands common) place total (high_sets logs m stands) (walked logs m stands common)

pub walk_begins : {X : Type 0} (P : OfCounted) (f : X → TreeState) (j : Joined) (merger : List Change) (xs : List X) → length xs ≡ length j.sets → OfRound j merger (λ css. FirstOnes P 0 0 css (map f xs) (map f xs))
walk_begins P f j merger xs many = λ logs m stands common. (refl, many_sets j merger logs m stands ∙ sym many ∙ sym (length-map xs f), refl)

-- ---- the whole round

each_many : (P : OfTree) (css : List (List Change)) (a b : List TreeState) → EachTree P css a b → length css ≡ length b
each_many P [] [] [] p = refl
each_many P [] [] (u ∷ b) p = absurd p
each_many P [] (t ∷ a) b p = absurd p
each_many P (cs ∷ css) [] b p = absurd p
each_many P (cs ∷ css) (t ∷ a) [] p = absurd p
each_many P (cs ∷ css) (t ∷ a) (u ∷ b) p = ap suc (each_many P css a b p.1)

module _ {X : Type 0} (f : X → TreeState) (j : Joined) (merger : List Change) (xs ys : List X) (found : OfRound j merger (λ css. EachTree IsFoundReady css (map f xs) (map f ys))) where
  pub many_boxes : IsJoint j → length ys ≡ length j.sets
  many_boxes joint =
      let s = joint.stands in
      let m : Store = s.common.map in
      sym (sym (many_sets j merger joint.logs m s) ∙ each_many IsFoundReady (transitions (at m) joint.logs merger) (map f xs) (map f ys) (found joint.logs m s s.common.common) ∙ length-map ys f)

  pub ready_boxes : OfRound j merger (λ css. AreReadyIfKnown css (map f ys))
  ready_boxes = λ logs m stands common. ready_after_look (transitions (at m) logs merger) (map f xs) (map f ys) (found logs m stands common)

  pub round_on : (result : Result ℕ RoundFault) (zs : List X) → OfRound j merger (λ css. Rounds css result (map f ys) (map f zs)) → OfRound j merger (λ css. Rounds css result (map f xs) (map f zs))
  round_on result zs led = λ logs m stands common.
      after_look (transitions (at m) logs merger) (map f xs) (map f ys) (map f zs) (found logs m stands common) result (led logs m stands common)

pub round_of_known : (j : Joined) (merger : List Change) (result : Result ℕ RoundFault) (a b : List TreeState) → OfRound j merger (λ css. Rounds css result a b) → OfRound j merger (λ css. (maps : List Store) → AreHeld a maps → RoundsKnown css maps result b)
round_of_known j merger result a b r = λ logs m stands common maps held.
    of_known (transitions (at m) logs merger) a b maps held result (r logs m stands common)
