-- The net commands of the claims of a node are those of the net sets there.
use Rattle.std.proofs.Common.{◌≡◌, ◌<◌, ◌≤◌, ◌+◌, ◌-◌, ℕ, zero, suc, List, [], ◌∷◌, Option, Some, None, refl, sym, ap, ◌∙◌, arith, ◌⊎◌, inl, inr}
use Rattle.std.specs.Prelude.{if◌then◌else◌, is_some}
use Rattle.std.specs.List.{slice_get, slice_range}
use Rattle.std.proofs.lemmas.Bool.{cases_lt}
use Rattle.sync_path.specs.Paths.{Node}
use Rattle.sync_command.specs.Changes.{Change}
use Rattle.sync_command.specs.Trees.{command_at}
use Rattle.canon_set.specs.Sets.{canonical}
use Rattle.refluent.specs.Picks.{net_commands, picks_from, place_in}
use Rattle.refluent.specs.Tables.{AreOrdered, IsGroup, node_of}
use Rattle.refluent.specs.UniqueClaims.{AreUnique}
use Rattle.refluent.specs.JointParts.{change_in, changes_of, sets_by, sets_from}
use Rattle.refluent.specs.Numberings.{pick_of, picks_of, with_pick}
use Rattle.refluent.specs.declared.claims.Claim.{Claim}
use Rattle.refluent.specs.declared.table.Group.{Group}
use Rattle.refluent.proofs.Nets.{change_node, change_touching, claimed, found, once_each}
use Rattle.refluent.proofs.Wanting.{range_at, range_low}
use Rattle.canon_set.proofs.CallerLemmas.{command_at-canonical}

-- some claims of a node, from a log on
record IsRun (W : List Claim) (p : Node) (from : ℕ) (cs : List Claim) : Type 0 where
  low : (k : ℕ) (c : Claim) → slice_get cs k ≡ Some c → from ≤ c.log
  logs : (i j : ℕ) (c e : Claim) → i < j → slice_get cs i ≡ Some c → slice_get cs j ≡ Some e → c.log ≤ e.log
  rising : (i j : ℕ) (c e : Claim) (d : Change) → i < j → slice_get cs i ≡ Some c → slice_get cs j ≡ Some e → change_in c ≡ Some d → c.log < e.log
  path : (k : ℕ) (c : Claim) → slice_get cs k ≡ Some c → c.path ≡ p
  sound : (k : ℕ) (c : Claim) (d : Change) → slice_get cs k ≡ Some c → change_in c ≡ Some d → command_at (changes_of c.log W) p ≡ Some d
  complete : (l : ℕ) (d : Change) → from ≤ l → command_at (changes_of l W) p ≡ Some d → (k : ℕ) × (c : Claim) × (slice_get cs k ≡ Some c) × (c.log ≡ l) × (change_in c ≡ Some d)

some_claim : {a b : Claim} → Some a ≡ Some b → a ≡ b
some_claim e = cc

module _ (W : List Claim) (unique : AreUnique W) (p : Node) where
  in_canonical : (l : ℕ) → command_at (canonical (changes_of l W)) p ≡ command_at (changes_of l W) p
  in_canonical l = command_at-canonical (changes_of l W) (once_each l W unique) p

  -- logs without a command at the node add nothing
  skipped : (k from n : ℕ) → ((l : ℕ) → from ≤ l → l < from + k → command_at (changes_of l W) p ≡ None) → picks_from (from + 1) (sets_from from (k + n) W) p ≡ picks_from (from + k + 1) (sets_from (from + k) n W) p
  skipped zero from n none = ap (λ m. picks_from (from + 1) (sets_from from m W) p) zero_more ∙ ap (λ f. picks_from (f + 1) (sets_from f n W) p) zero_after
    where
      zero_more : 0 + n ≡ n
      zero_more = omega arith

      zero_after : from ≡ from + 0
      zero_after = omega arith
  skipped (suc k) from n none = ap (λ m. picks_from (from + 1) (sets_from from m W) p) one_more ∙
      ap (λ o. if is_some o then record { log = from + 1; place = place_in (canonical (changes_of from W)) p } ∷ picks_from (from + 1 + 1) (sets_from (from + 1) (k + n) W) p else picks_from (from + 1 + 1) (sets_from (from + 1) (k + n) W) p) (in_canonical from ∙ none from (omega arith) (omega arith)) ∙
      skipped k (from + 1) n (λ l low high. none l (omega arith) (omega arith)) ∙ ap (λ f. picks_from (f + 1) (sets_from f n W) p) after
    where
      one_more : suc k + n ≡ suc (k + n)
      one_more = omega arith

      after : from + 1 + k ≡ from + suc k
      after = omega arith

  no_picks : (n from : ℕ) → ((l : ℕ) → from ≤ l → command_at (changes_of l W) p ≡ None) → picks_from (from + 1) (sets_from from n W) p ≡ []
  no_picks n from none = ap (λ m. picks_from (from + 1) (sets_from from m W) p) zero_more ∙ skipped n from 0 (λ l low high. none l low)
    where
      zero_more : n ≡ n + 0
      zero_more = omega arith

  none_at : (o : Option Change) → ((d : Change) → o ≡ Some d → ⊥) → o ≡ None
  none_at None f = refl
  none_at (Some d) f = absurd (f d refl)

  run_picks : (cs : List Claim) (from n : ℕ) → IsRun W p from cs → ((k : ℕ) (c : Claim) → slice_get cs k ≡ Some c → c.log < from + n) → picks_of W cs ≡ picks_from (from + 1) (sets_from from n W) p
  run_picks [] from n run high = sym (no_picks n from (λ l low. none_at (command_at (changes_of l W) p) (λ d e. let r = run.complete l d low e in let f : slice_get {X = Claim} [] r.0 ≡ Some r.1 = r.2 in cc (f))))
  run_picks (c ∷ cs) from n run high = go (λ f m r h. run_picks cs f m r h) (change_in c) refl
    where
      tail_complete : (from' : ℕ) → from ≤ from' → ((l : ℕ) (d : Change) → from' ≤ l → c.log ≡ l → change_in c ≡ Some d → ⊥) → (l : ℕ) (d : Change) → from' ≤ l → command_at (changes_of l W) p ≡ Some d →
          (k : ℕ) × (e : Claim) × (slice_get cs k ≡ Some e) × (e.log ≡ l) × (change_in e ≡ Some d)
      tail_complete from' less other l d low e = by (run.complete l d (omega arith) e)
        where
          by : (k : ℕ) × (x : Claim) × (slice_get (c ∷ cs) k ≡ Some x) × (x.log ≡ l) × (change_in x ≡ Some d) → (k : ℕ) × (x : Claim) × (slice_get cs k ≡ Some x) × (x.log ≡ l) × (change_in x ≡ Some d)
          by (zero, x, at, log, change) = let same : c ≡ x = some_claim at in absurd (other l d low (ap (λ y. y.log) same ∙ log) (ap change_in same ∙ change))
          by (suc k, x, at, log, change) = (k, x, at, log, change)

      tail : (from' : ℕ) → from ≤ from' → ((k : ℕ) (e : Claim) → slice_get cs k ≡ Some e → from' ≤ e.log) → ((l : ℕ) (d : Change) → from' ≤ l → c.log ≡ l → change_in c ≡ Some d → ⊥) → IsRun W p from' cs
      tail from' less low other = record {
        low = low;
        logs = λ i j x y l e f. run.logs (suc i) (suc j) x y (omega arith) e f;
        rising = λ i j x y d l e f g. run.rising (suc i) (suc j) x y d (omega arith) e f g;
        path = λ k x e. run.path (suc k) x e;
        sound = λ k x d e f. run.sound (suc k) x d e f;
        complete = tail_complete from' less other;
      }

      go : ((from n : ℕ) → IsRun W p from cs → ((k : ℕ) (c : Claim) → slice_get cs k ≡ Some c → c.log < from + n) → picks_of W cs ≡ picks_from (from + 1) (sets_from from n W) p) → (o : Option Change) → change_in c ≡ o → with_pick W c.log o (picks_of W cs) ≡ picks_from (from + 1) (sets_from from n W) p
      go rec None f = rec from n (tail from (omega arith) (λ k e at. run.low (suc k) e at) (λ l d low log g. cc (f, g))) (λ k e at. high (suc k) e at)
      go rec (Some d) f =
          sym (ap (λ m. picks_from (from + 1) (sets_from from m W) p) split ∙ skipped (c.log - from) from (suc (from + n - c.log - 1)) skips ∙ ap (λ q. picks_from (q + 1) (sets_from q (suc (from + n - c.log - 1)) W) p) here ∙
          ap (λ o. if is_some o then record { log = c.log + 1; place = place_in (canonical (changes_of c.log W)) p } ∷ picks_from (c.log + 1 + 1) (sets_from (c.log + 1) (from + n - c.log - 1) W) p else picks_from (c.log + 1 + 1) (sets_from (c.log + 1) (from + n - c.log - 1) W) p) (in_canonical c.log ∙ run.sound 0 c d refl f) ∙
          ap (λ q. record { log = c.log + 1; place = place_in (canonical (changes_of c.log W)) q } ∷ picks_from (c.log + 1 + 1) (sets_from (c.log + 1) (from + n - c.log - 1) W) p) (sym (change_node c d f ∙ run.path 0 c refl)) ∙
          ap (λ ps. pick_of W c.log d ∷ ps) (sym (rec (c.log + 1) (from + n - c.log - 1) (tail (c.log + 1) (let a : from ≤ c.log = first in omega arith) (λ k e at. let l : c.log < e.log = run.rising 0 (suc k) c e d (omega arith) refl at f in omega arith) (λ l e low log g. absurd (omega arith))) (λ k e at. let h : e.log < from + n = high (suc k) e at in let a : from ≤ c.log = first in let b : c.log < from + n = last in omega arith))))
        where
          first : from ≤ c.log
          first = run.low 0 c refl

          last : c.log < from + n
          last = high 0 c refl

          split : n ≡ (c.log - from) + suc (from + n - c.log - 1)
          split = let a : from ≤ c.log = first in let b : c.log < from + n = last in omega arith

          here : from + (c.log - from) ≡ c.log
          here = let a : from ≤ c.log = first in omega arith

          skips : (l : ℕ) → from ≤ l → l < from + (c.log - from) → command_at (changes_of l W) p ≡ None
          skips l low less = let a : from + (c.log - from) ≡ c.log = here in let less' : l < c.log = omega arith in none_at (command_at (changes_of l W) p) (λ x e. by less' (run.complete l x low e))
            where
              by : {x : Change} → l < c.log → (k : ℕ) × (e : Claim) × (slice_get (c ∷ cs) k ≡ Some e) × (e.log ≡ l) × (change_in e ≡ Some x) → ⊥
              by under (zero, e, at, log, change) = let same : c.log ≡ e.log = ap (λ y. y.log) (some_claim at) in absurd (omega arith)
              by under (suc k, e, at, log, change) = let more : c.log ≤ e.log = run.logs 0 (suc k) c e (omega arith) refl at in absurd (omega arith)

-- the net commands of a group's claims
pub group_picks : (W : List Claim) (ordered : AreOrdered W) (s : Group) → IsGroup W s → (count : ℕ) → ((k : ℕ) (c : Claim) → slice_get W k ≡ Some c → c.log < count) →
    picks_of W (slice_range W s.start s.end) ≡ net_commands (sets_by W count) (node_of W s)
group_picks W ordered s group count logs = run_picks W ordered.unique (node_of W s) (slice_range W s.start s.end) 0 count run (λ k c e. let l : c.log < count = logs (s.start + k) c (range_at W s.start s.end k c e).1 in omega arith)
  where
    path : (k : ℕ) (c : Claim) → slice_get (slice_range W s.start s.end) k ≡ Some c → c.path ≡ node_of W s
    path k c e = let h = range_at W s.start s.end k c e in let b : s.start + k < s.end = h.0 in group.inside (s.start + k) c (omega arith) b h.1

    logs_up : (i j : ℕ) (c e : Claim) → i < j → slice_get (slice_range W s.start s.end) i ≡ Some c → slice_get (slice_range W s.start s.end) j ≡ Some e → c.log ≤ e.log
    logs_up i j c e less at there = ordered.logs (s.start + i) (s.start + j) c e (omega arith) (range_at W s.start s.end i c at).1 (range_at W s.start s.end j e there).1 (path i c at ∙ sym (path j e there))

    run : IsRun W (node_of W s) 0 (slice_range W s.start s.end)
    run = record {
      low = λ k c e. omega arith;
      logs = logs_up;
      rising = λ i j c e d less at there change. strict i j c e d less at there change (cases_lt c.log e.log);
      path = path;
      sound = λ k c d e f. ap (command_at (changes_of c.log W)) (sym (path k c e)) ∙ found c.log W ordered.unique (s.start + k) c d (range_at W s.start s.end k c e).1 refl f;
      complete = λ l d low e. let r = claimed l W (node_of W s) d e in let b = group.outside r.place r.claim r.at r.path in
          (r.place - s.start, r.claim, range_low W s.start s.end r.place b.0 b.1 ∙ r.at, r.log, r.change);
    }
      where
        strict : (i j : ℕ) (c e : Claim) (d : Change) → i < j → slice_get (slice_range W s.start s.end) i ≡ Some c → slice_get (slice_range W s.start s.end) j ≡ Some e → change_in c ≡ Some d → (c.log < e.log) ⊎ (e.log ≤ c.log) → c.log < e.log
        strict i j c e d less at there change (inl h) = h
        strict i j c e d less at there change (inr h) = let up : c.log ≤ e.log = logs_up i j c e less at there in let same : c.log ≡ e.log = omega arith in
            let one : s.start + i ≡ s.start + j = ordered.unique (s.start + i) (s.start + j) c e (range_at W s.start s.end i c at).1 (range_at W s.start s.end j e there).1 same (path i c at ∙ sym (path j e there)) (change_touching c d change) in absurd (omega arith)
