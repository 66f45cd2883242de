-- The walk of finish over a live tree: what holds before each command, and what stands at each exit.
use Rattle.std.proofs.Common.{◌≡◌, ◌≤◌, ◌<◌, ℕ, zero, suc, ◌+◌, Bool, true, false, ◌&&◌, List, [], ◌∷◌, Option, Some, None, Result, Ok, Err, refl, sym, ap, subst, ◌∙◌, arith, IfOk, IsErrOf, drop, length, get_or}
use Rattle.std.specs.Prelude.{if◌then◌else◌}
use Rattle.std.proofs.lemmas.List.{at_drop_all, at_drop_more}
use Rattle.sync_path.specs.Paths.{Node, same_path}
use Rattle.sync_path.proofs.CallerLemmas.{both, same_path_refl}
use Rattle.sync_port.specs.States.{IfBoth, next_number}
use Rattle.sync_port.proofs.CallerLemmas.{both_more, both_then}
use Rattle.sync_command.specs.Changes.{Change, goes_before, is_canonical}
use Rattle.sync_command.specs.Trees.{Holding, after, command_at, one_each}
use Rattle.sync_command.specs.Maps.{IsTreeMap, Store, at}
use Rattle.canon_set.specs.Sets.{IsFitting}
use Rattle.tree_port.specs.States.{Counts, CountsRefusals, IfHeld, IfTreeKnown, NoneFell, NoneRefused, TreeState, WhereKnown}
use Rattle.tree_port.specs.declared.faults.TreeFault.{TreeFault}
use Rattle.tree_port.specs.declared.faults.TreeFault.TheVariants.{Failed, Denied, Memory}
use Rattle.resume_apply.specs.Ready.{IsOnItsWay, IsReady, work, work_at}
use Rattle.resume_apply.specs.Finishing.{CanDo, Does, Finishes, IsDone, IsMoved, IsPaid, counted_on}
use Rattle.resume_apply.proofs.Stepping.{both_as, counted_bound, fell_none, fell_on, never, no_work_left, now_known, quiet_none, quiet_on, risen}
use Rattle.resume_apply.proofs.Walking.{IsWalking, arrived, begins, can_do, canonical_rest, moved_way, moved_work, of_rest, walks}

-- what is known before the command with this place
pub record IsWalked (cs : List Change) (i : ℕ) (s0 s1 : TreeState) (changes : ℕ) : Type 0 where
  pub later : NoneFell s0.counts s1.counts
  pub quiet : NoneRefused s0.counts s1.counts
  pub number : s1.counts.changes ≡ counted_on s0.counts.changes changes
  pub few : changes ≤ i + i
  pub known : IfTreeKnown s0 s1 (λ m n. IsWalking cs (drop i cs) changes (at m) (at n))

pub walk_begins : (cs : List Change) (s0 : TreeState) → WhereKnown s0 (λ m. IsReady (at m) cs) → IsWalked cs 0 s0 s0 0
walk_begins cs s0 ready = record {
  later = fell_none s0.counts;
  quiet = quiet_none s0.counts;
  number = refl;
  few = omega arith;
  known = go s0.contents ready;
}
  where
    go : (t : Option Store) → IfHeld t (λ m. IsReady (at m) cs) → IfBoth t t (λ m n. IsWalking cs cs 0 (at m) (at n))
    go None r = tt
    go (Some m) r = begins cs (at m) r

rest_is : (cs : List Change) (i : ℕ) (c : Change) → i < length cs → c ≡ get_or cs i c → drop i cs ≡ c ∷ drop (i + 1) cs
rest_is cs i c h is = at_drop_more (λ xs. xs) cs i c h ∙ ap (λ d. d ∷ drop (i + 1) cs) (sym is)

pub command_is : (cs : List Change) (i : ℕ) (c : Change) → one_each cs ≡ true → i < length cs → c ≡ get_or cs i c → command_at cs c.node ≡ Some c
command_is cs i c one h is = of_rest i cs one c.node c (ap (λ r. command_at r c.node) (rest_is cs i c h is) ∙ ap (λ b. if b then Some c else command_at (drop (i + 1) cs) c.node) (same_path_refl c.node))

pub walk_can : (cs : List Change) (i : ℕ) (c : Change) (s0 s1 : TreeState) (changes : ℕ) → is_canonical cs ≡ true → IsFitting cs → i < length cs → c ≡ get_or cs i c →
    IsWalked cs i s0 s1 changes → WhereKnown s1 (λ n. IsTreeMap n → CanDo c (at n))
walk_can cs i c s0 s1 changes order fitting h is walked = now_known s0.contents s1.contents (λ m n w tree. at_one m n w tree) walked.known
  where
    rest : List Change
    rest = drop (i + 1) cs

    at_one : (m n : Store) → IsWalking cs (drop i cs) changes (at m) (at n) → IsTreeMap n → CanDo c (at n)
    at_one m n w tree = can_do cs rest c (at n) tree.tree w.way.ready fitting
        (λ p d e. of_rest i cs fitting.fits.one p d (ap (λ r. command_at r p) (rest_is cs i c h is) ∙ e))
        (both _ _ (subst (λ r. is_canonical r ≡ true) (rest_is cs i c h is) (canonical_rest i cs order))).0
        (λ p e. w.done p (ap (λ r. command_at r p) (rest_is cs i c h is) ∙ e))

count_more : (a x k : ℕ) → counted_on (counted_on a x) k ≡ counted_on a (x + k)
count_more a x zero = ap (counted_on a) (same x)
  where
    same : (x : ℕ) → x ≡ x + 0
    same x = omega arith
count_more a x (suc k) = ap next_number (count_more a x k) ∙ ap (counted_on a) (same x k)
  where
    same : (x k : ℕ) → suc (x + k) ≡ x + suc k
    same x k = omega arith

three : {P Q R : Store → Store → Type 0} (t0 t1 t2 : Option Store) → ((m n o : Store) → P m n → Q n o → R m o) → IfBoth t0 t1 P → IfBoth t1 t2 Q → IfBoth t0 t2 R
three t0 t1 t2 f a b = both_then t0 t1 t2 a b f

two : (P Q : Store → Store → Type 0) (t1 t2 : Option Store) → IfBoth t1 t2 P → IfBoth t1 t2 Q → IfBoth t1 t2 (λ m n. P m n × Q m n)
two P Q None None a b = tt
two P Q None (Some n) a b = absurd a
two P Q (Some m) None a b = absurd a
two P Q (Some m) (Some n) a b = (a, b)

pub walk_on : (cs : List Change) (i : ℕ) (c : Change) (s0 s1 s2 : TreeState) (changes k : ℕ) → IsFitting cs → i < length cs → c ≡ get_or cs i c →
    IsWalked cs i s0 s1 changes → Does c (Ok k) s1 s2 → IsWalked cs (i + 1) s0 s2 (changes + k)
walk_on cs i c s0 s1 s2 changes k fitting h is walked does = record {
  later = fell_on s0.counts s1.counts s2.counts walked.later does.counts.later;
  quiet = quiet_on s0.counts s1.counts s2.counts walked.quiet does.counts.done;
  number = does.number ∙ ap (λ x. counted_on x k) walked.number ∙ count_more s0.counts.changes changes k;
  few = more _ _ _ walked.few does.few;
  known = three s0.contents s1.contents s2.contents step walked.known (two _ _ s1.contents s2.contents does.moved does.done);
}
  where
    more : (x y i : ℕ) → x ≤ i + i → y ≤ 2 → x + y ≤ (i + 1) + (i + 1)
    more x y i f g = omega arith

    step : (m n o : Store) → IsWalking cs (drop i cs) changes (at m) (at n) → IsMoved c (at n) (at o) × IsDone c (at n) (at o) k → IsWalking cs (drop (i + 1) cs) (changes + k) (at m) (at o)
    step m n o w d = walks cs (drop (i + 1) cs) c changes k (at m) (at n) (at o) fitting.fits.one (command_is cs i c fitting.fits.one h is) (subst (λ r. IsWalking cs r changes (at m) (at n)) (rest_is cs i c h is) w)
        d.0 d.1.there d.1.all_work (no_work_left c (at o c.node) d.1.there)

pub walk_refused : (cs : List Change) (i : ℕ) (c : Change) (s0 s1 s2 : TreeState) (changes : ℕ) (e : TreeFault) (r : Result ℕ TreeFault) → IsFitting cs → i < length cs → c ≡ get_or cs i c →
    IsWalked cs i s0 s1 changes → Does c (Err e) s1 s2 → r ≡ Err e → Finishes cs r s0 s2
walk_refused cs i c s0 s1 s2 changes e r fitting h is walked does was = subst (λ r. Finishes cs r s0 s2) (sym was) (record {
  counts = risen {T = ℕ} s0.counts s1.counts s2.counts e walked.later does.counts;
  number = tt;
  way = three s0.contents s1.contents s2.contents (λ m n o w d. moved_way cs c (at m) (at n) (at o) at_c w.way d) walked.known does.moved;
  paid = three s0.contents s1.contents s2.contents paid walked.known (two _ _ s1.contents s2.contents does.moved does.paid);
  target = three s0.contents s1.contents s2.contents (λ m n o w d. tt) walked.known does.moved;
  never_denied = never _ _ s0.contents s1.contents walked.known does.never_denied;
})
  where
    at_c : command_at cs c.node ≡ Some c
    at_c = command_is cs i c fitting.fits.one h is

    sums : (a b d ch wm wn wo x y : ℕ) → d + x ≤ b + y → b ≤ a + ch → ch + wn ≡ wm → wn + x ≡ wo + y → d + wo ≤ a + wm
    sums a b d ch wm wn wo x y e f g h = omega arith

    bounded : (x y z : ℕ) → x ≡ y → y ≤ z → x ≤ z
    bounded x y z e h = omega arith

    paid : (m n o : Store) → IsWalking cs (drop i cs) changes (at m) (at n) → IsMoved c (at n) (at o) × IsPaid s1.counts (work_at c (at n c.node)) s2.counts (work_at c (at o c.node)) → IsPaid s0.counts (work cs (at m)) s2.counts (work cs (at o))
    paid m n o w d = sums s0.counts.changes s1.counts.changes s2.counts.changes changes (work cs (at m)) (work cs (at n)) (work cs (at o)) (work_at c (at o c.node)) (work_at c (at n c.node))
        d.1 (bounded s1.counts.changes _ _ walked.number (counted_bound s0.counts.changes changes)) w.left (moved_work cs c (at n) (at o) fitting.fits.one at_c d.0)

pub walk_ends : (cs : List Change) (i : ℕ) (s0 s1 : TreeState) (changes : ℕ) → IsFitting cs → length cs ≤ i → IsWalked cs i s0 s1 changes → Finishes cs (Ok changes) s0 s1
walk_ends cs i s0 s1 changes fitting h walked = record {
  counts = record { later = walked.later; done = walked.quiet; failed = λ x. absurd (none Failed x); denied = λ x. absurd (none Denied x); memory = λ x. absurd (none Memory x) };
  number = walked.number;
  way = both_as s0.contents s1.contents (λ m n w. w.way) walked.known;
  paid = both_as s0.contents s1.contents paid walked.known;
  target = both_as s0.contents s1.contents (λ m n w. arrived cs changes (at m) (at n) fitting.fits.one (subst (λ r. IsWalking cs r changes (at m) (at n)) (at_drop_all (λ xs. xs) cs i h) w)) walked.known;
  never_denied = sure s0.contents;
}
  where
    none : (e : TreeFault) → IsErrOf {T = ℕ} (Ok changes) e → ⊥
    none e x = cc

    sure : (t : Option Store) → IfHeld t (λ m. IsErrOf {T = ℕ} (Ok changes) Denied → ⊥)
    sure None = tt
    sure (Some m) = none Denied

    sums : (a b ch wm wn : ℕ) → b ≤ a + ch → ch + wn ≡ wm → b + wn ≤ a + wm
    sums a b ch wm wn f g = omega arith

    bounded : (x y z : ℕ) → x ≡ y → y ≤ z → x ≤ z
    bounded x y z e h = omega arith

    paid : (m n : Store) → IsWalking cs (drop i cs) changes (at m) (at n) → IsPaid s0.counts (work cs (at m)) s1.counts (work cs (at n))
    paid m n w = sums s0.counts.changes s1.counts.changes changes (work cs (at m)) (work cs (at n)) (bounded s1.counts.changes _ _ walked.number (counted_bound s0.counts.changes changes)) w.left

pub in_set : (xs cs : List Change) (i : ℕ) (c : Change) → xs ≡ cs → i < length xs → c ≡ get_or xs i c → (i < length cs) × (c ≡ get_or cs i c)
in_set xs cs i c e h is = (subst (λ ys. i < length ys) e h, subst (λ ys. c ≡ get_or ys i c) e is)

pub at_end : (xs cs : List Change) (i : ℕ) → xs ≡ cs → length xs ≤ i → length cs ≤ i
at_end xs cs i e h = subst (λ ys. length ys ≤ i) e h
