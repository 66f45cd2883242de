-- What a round leaves of trees of which it is known what each one holds.
use Rattle.std.proofs.Common.{◌≡◌, ◌⊎◌, ◌<◌, ◌-◌, ℕ, zero, suc, Bool, true, false, List, [], ◌∷◌, Option, None, Some, Result, Ok, Err, IfOk, inl, inr, refl, sym, ap, subst, ◌∙◌, arith}
use Rattle.std.specs.Prelude.{if◌then◌else◌, is_none}
use Rattle.std.specs.List.{list_all}
use Rattle.sync_port.specs.States.{IfBoth}
use Rattle.sync_path.specs.Paths.{Node, comes_before, same_path}
use Rattle.sync_path.proofs.CallerLemmas.{before_total, both, same_path_is, same_path_refl}
use Rattle.sync_command.specs.Changes.{Change}
use Rattle.sync_command.specs.Maps.{Store, at}
use Rattle.sync_command.specs.Trees.{Holding, after, command_at, one_each}
use Rattle.tree_port.specs.States.{IfHeld, TreeState}
use Rattle.resume_apply.specs.Preparing.{Finds, IsBlocked, IsFirstBlocked, first_diverged}
use Rattle.resume_apply.specs.Ready.{IsOnItsWay, IsReady, is_ready_value, work}
use Rattle.resume_apply.specs.declared.faults.ApplyFault.{ApplyFault}
use Rattle.resume_apply.specs.declared.faults.ApplyFault.TheVariants as fault
use Rattle.sync_round.specs.Rounds.{AreOnTheirWay, AreReady, round_work, targets}
use Rattle.sync_round.specs.Rounding.{AddsUp, AtPlace, EachTree, EndsRight, IsAtTarget, IsCause, IsFound, IsLedOn, IsPaidFor, IsStill, Rounds}
use Rattle.sync_round.specs.KnownRounds.{AreHeld, IsFirstUnready, IsRightAnswer, IsRoundAnswer, RoundsKnown, holdings}
use Rattle.sync_round.specs.declared.faults.RoundFault.{RoundFault}
use Rattle.sync_round.specs.declared.faults.RoundFault.TheVariants.{Tree, Memory}

-- ---- a tree that is ready is found ready

not_diverged : (cs : List Change) (t : Holding) (p : Node) → one_each cs ≡ true → ((q : Node) (c : Change) → command_at cs q ≡ Some c → is_ready_value c (t q) ≡ true) → first_diverged cs t ≡ Some p → ⊥
not_diverged [] t p one values e = absurd (cc)
not_diverged (c ∷ cs) t p one values e =
    not_diverged cs t p rest_one.1 (λ q d f. values q d (later q d f)) (sym (ap (λ b. if b then first_diverged cs t else Some c.node) here) ∙ e)
  where
    rest_one : (is_none (command_at cs c.node) ≡ true) × (one_each cs ≡ true)
    rest_one = both (is_none (command_at cs c.node)) (one_each cs) one

    here : is_ready_value c (t c.node) ≡ true
    here = values c.node c (ap (λ b. if b then Some c else command_at cs c.node) (same_path_refl c.node))

    none_not : (o : Option Change) (d : Change) → is_none o ≡ true → o ≡ Some d → ⊥
    none_not None d n e = absurd (cc)
    none_not (Some x) d n e = absurd (cc)

    later : (q : Node) (d : Change) → command_at cs q ≡ Some d → command_at (c ∷ cs) q ≡ Some d
    later q d f = by (same_path q c.node) refl
      where
        by : (b : Bool) → same_path q c.node ≡ b → (if b then Some c else command_at cs q) ≡ Some d
        by true s = absurd (none_not (command_at cs c.node) d rest_one.0 (sym (ap (command_at cs) (same_path_is q c.node s)) ∙ f))
        by false s = f

not_blocked : (cs : List Change) (t : Holding) (p : Node) → IsReady t cs → IsBlocked cs t p → ⊥
not_blocked cs t p ready b = let dir = ready.tree b.above p b.parent_is b.full in absurd (cc (dir, b.no_dir))

-- ---- known contents

some_is : {m n : Store} → ◌≡◌ {A = Option Store} (Some m) (Some n) → m ≡ n
some_is e = cc

known_later : (P : Store → Store → Type 0) (x y : Option Store) (m : Store) → x ≡ Some m → IfBoth x y P → (n : Store) × (y ≡ Some n)
known_later P None y m e h = absurd (cc)
known_later P (Some k) None m e h = absurd h
known_later P (Some k) (Some n) m e h = (n, refl)

both_at : (P : Store → Store → Type 0) (x y : Option Store) (m n : Store) → x ≡ Some m → y ≡ Some n → IfBoth x y P → P m n
both_at P x y m n e f h = subst (λ c. IfBoth c (Some n) P) e (subst (λ c. IfBoth x c P) f h)

held_at : (P : Store → Type 0) (x : Option Store) (m : Store) → x ≡ Some m → IfHeld x P → P m
held_at P x m e h = subst (λ c. IfHeld c P) e h

-- ---- tree by tree

maps_after : (css : List (List Change)) (a b : List TreeState) (ms : List Store) → AreHeld a ms → EachTree IsPaidFor css a b → (ns : List Store) × AreHeld b ns
maps_after [] [] [] ms held p = ([], tt)
maps_after [] [] (u ∷ b) ms held p = absurd p
maps_after [] (t ∷ a) b ms held p = absurd p
maps_after (cs ∷ css) [] b ms held p = absurd p
maps_after (cs ∷ css) (t ∷ a) [] ms held p = absurd p
maps_after (cs ∷ css) (t ∷ a) (u ∷ b) [] held p = absurd held
maps_after (cs ∷ css) (t ∷ a) (u ∷ b) (m ∷ ms) held p =
    let here = known_later _ t.contents u.contents m held.0 p.0 in
    let rest = maps_after css a b ms held.1 p.1 in
    (here.0 ∷ rest.0, (here.1, rest.1))

maps_stay : (css : List (List Change)) (a b : List TreeState) (ms ns : List Store) → AreHeld a ms → AreHeld b ns → EachTree (λ cs. IsStill) css a b → ns ≡ ms
maps_stay [] [] [] [] [] held next p = refl
maps_stay [] [] [] [] (n ∷ ns) held next p = absurd next
maps_stay [] [] [] (m ∷ ms) ns held next p = absurd held
maps_stay [] [] (u ∷ b) ms ns held next p = absurd p
maps_stay [] (t ∷ a) b ms ns held next p = absurd p
maps_stay (cs ∷ css) [] b ms ns held next p = absurd p
maps_stay (cs ∷ css) (t ∷ a) [] ms ns held next p = absurd p
maps_stay (cs ∷ css) (t ∷ a) (u ∷ b) [] ns held next p = absurd held
maps_stay (cs ∷ css) (t ∷ a) (u ∷ b) (m ∷ ms) [] held next p = absurd next
maps_stay (cs ∷ css) (t ∷ a) (u ∷ b) (m ∷ ms) (n ∷ ns) held next p =
    let here : n ≡ m = some_is (sym next.0 ∙ p.0.contents ∙ held.0) in
    let rest = maps_stay css a b ms ns held.1 next.1 p.1 in
    λ i. here i ∷ rest i

ready_known : (css : List (List Change)) (a b : List TreeState) (ms ns : List Store) → AreHeld a ms → AreHeld b ns → EachTree IsLedOn css a b → AreReady css (holdings ms) × AreOnTheirWay css (holdings ms) (holdings ns)
ready_known [] [] [] [] [] held next p = (tt, tt)
ready_known [] [] [] [] (n ∷ ns) held next p = absurd next
ready_known [] [] [] (m ∷ ms) ns held next p = absurd held
ready_known [] [] (u ∷ b) ms ns held next p = absurd p
ready_known [] (t ∷ a) b ms ns held next p = absurd p
ready_known (cs ∷ css) [] b ms ns held next p = absurd p
ready_known (cs ∷ css) (t ∷ a) [] ms ns held next p = absurd p
ready_known (cs ∷ css) (t ∷ a) (u ∷ b) [] ns held next p = absurd held
ready_known (cs ∷ css) (t ∷ a) (u ∷ b) (m ∷ ms) [] held next p = absurd next
ready_known (cs ∷ css) (t ∷ a) (u ∷ b) (m ∷ ms) (n ∷ ns) held next p =
    let here = both_at (λ m n. IsReady (at m) cs × IsOnItsWay cs (at m) (at n)) t.contents u.contents m n held.0 next.0 p.0 in
    let rest = ready_known css a b ms ns held.1 next.1 p.1 in
    ((here.0, rest.0), (here.1, rest.1))

same_ways : (css : List (List Change)) (ts : List Holding) → AreReady css ts → AreOnTheirWay css ts ts
same_ways [] [] ready = tt
same_ways [] (t ∷ ts) ready = absurd ready
same_ways (cs ∷ css) [] ready = absurd ready
same_ways (cs ∷ css) (t ∷ ts) ready = (record { ready = ready.0; target = refl; elsewhere = λ p none. refl }, same_ways css ts ready.1)

targets_known : (total : ℕ) (css : List (List Change)) (a b : List TreeState) (ms ns : List Store) → AreHeld a ms → AreHeld b ns → AddsUp IsAtTarget total css a b →
    AreReady css (holdings ms) × (holdings ns ≡ targets css (holdings ms)) × (total ≡ round_work css (holdings ms))
targets_known total [] [] [] [] [] held next p = (tt, refl, p)
targets_known total [] [] [] [] (n ∷ ns) held next p = absurd next
targets_known total [] [] [] (m ∷ ms) ns held next p = absurd held
targets_known total [] [] (u ∷ b) ms ns held next p = absurd p
targets_known total [] (t ∷ a) b ms ns held next p = absurd p
targets_known total (cs ∷ css) [] b ms ns held next p = absurd p
targets_known total (cs ∷ css) (t ∷ a) [] ms ns held next p = absurd p
targets_known total (cs ∷ css) (t ∷ a) (u ∷ b) [] ns held next p = absurd held
targets_known total (cs ∷ css) (t ∷ a) (u ∷ b) (m ∷ ms) [] held next p = absurd next
targets_known total (cs ∷ css) (t ∷ a) (u ∷ b) (m ∷ ms) (n ∷ ns) held next (k, more, e, done, others) =
    let here = both_at (λ m n. IsReady (at m) cs × (at n ≡ after cs (at m)) × (k ≡ work cs (at m))) t.contents u.contents m n held.0 next.0 done.target in
    let rest = targets_known more css a b ms ns held.1 next.1 others in
    let units : k ≡ work cs (at m) = here.2 in
    let sum : more ≡ round_work css (holdings ms) = rest.2 in
    ((here.0, rest.0), (λ i. here.1 i ∷ rest.1 i), omega (arith, e))

-- what a tree is named for
cause_known : (why : ApplyFault) (cs : List Change) (t u : TreeState) (m : Store) → t.contents ≡ Some m → IsCause why cs t u → (why ≡ fault.Failed) ⊎ (IsFound why × Finds cs (at m) (Err why))
cause_known (fault.Diverged p) cs t u m e h = inr (tt, held_at (λ m. Finds cs (at m) (Err (fault.Diverged p))) t.contents m e h)
cause_known (fault.Blocked p) cs t u m e h = inr (tt, held_at (λ m. Finds cs (at m) (Err (fault.Blocked p))) t.contents m e h)
cause_known fault.Failed cs t u m e h = inl refl
cause_known fault.Denied cs t u m e h = absurd (some_not (sym e ∙ h.1))
  where
    some_not : {m : Store} → ◌≡◌ {A = Option Store} (Some m) None → ⊥
    some_not e = cc
cause_known fault.Memory cs t u m e h = absurd h

place_known : (why : ApplyFault) (place : ℕ) (css : List (List Change)) (a b : List TreeState) (ms : List Store) → AreHeld a ms → AtPlace (IsCause why) place css a b → (why ≡ fault.Failed) ⊎ IsFirstUnready why place css ms
place_known why zero [] a b ms held h = absurd h
place_known why zero (cs ∷ css) [] b ms held h = absurd h
place_known why zero (cs ∷ css) (t ∷ a) [] ms held h = absurd h
place_known why zero (cs ∷ css) (t ∷ a) (u ∷ b) [] held h = absurd held
place_known why zero (cs ∷ css) (t ∷ a) (u ∷ b) (m ∷ ms) held h = cause_known why cs t u m held.0 h
place_known why (suc place) [] a b ms held h = absurd h
place_known why (suc place) (cs ∷ css) [] b ms held h = absurd h
place_known why (suc place) (cs ∷ css) (t ∷ a) [] ms held h = absurd h
place_known why (suc place) (cs ∷ css) (t ∷ a) (u ∷ b) [] held h = absurd held
place_known why (suc place) (cs ∷ css) (t ∷ a) (u ∷ b) (m ∷ ms) held h = more (place_known why place css a b ms held.1 h.1)
  where
    more : (why ≡ fault.Failed) ⊎ IsFirstUnready why place css ms → (why ≡ fault.Failed) ⊎ IsFirstUnready why (suc place) (cs ∷ css) (m ∷ ms)
    more (inl e) = inl e
    more (inr f) = inr (held_at (λ m. IsReady (at m) cs) t.contents m held.0 h.0, f)

-- ---- the round

module _ (css : List (List Change)) (a b : List TreeState) (ms : List Store) (held : AreHeld a ms) where
  module _ (ns : List Store) (next : AreHeld b ns) where
    unready_stay : EachTree (λ cs. IsStill) css a b ⊎ EachTree IsLedOn css a b → (AreReady css (holdings ms) → ⊥) → ns ≡ ms
    unready_stay (inl h) never = maps_stay css a b ms ns held next h
    unready_stay (inr h) never = absurd (never (ready_known css a b ms ns held next h).0)

    ready_way : EachTree (λ cs. IsStill) css a b ⊎ EachTree IsLedOn css a b → AreReady css (holdings ms) → AreOnTheirWay css (holdings ms) (holdings ns)
    ready_way (inl h) ready = subst (λ x. AreOnTheirWay css (holdings ms) (holdings x)) (sym (maps_stay css a b ms ns held next h)) (same_ways css (holdings ms) ready)
    ready_way (inr h) ready = (ready_known css a b ms ns held next h).1

    done_known : (result : Result ℕ RoundFault) → EndsRight css a b result → IfOk result (λ number. holdings ns ≡ targets css (holdings ms))
    done_known (Ok number) h = (targets_known number css a b ms ns held next h).1
    done_known (Err e) h = tt

    answer_known : (result : Result ℕ RoundFault) → EndsRight css a b result → IsRightAnswer css ms result
    answer_known (Ok number) h = let k = targets_known number css a b ms ns held next h in (k.0, k.2)
    answer_known (Err Memory) h = tt
    answer_known (Err (Tree number why)) h = go (place_known why (number - 1) css a b ms held h.here)
      where
        go : (why ≡ fault.Failed) ⊎ IsFirstUnready why (number - 1) css ms → (why ≡ fault.Failed) ⊎ ((0 < number) × IsFirstUnready why (number - 1) css ms)
        go (inl e) = inl e
        go (inr f) = inr (h.counted, f)

  pub of_known : (result : Result ℕ RoundFault) → Rounds css result a b → RoundsKnown css ms result b
  of_known result r =
      let next = maps_after css a b ms held r.paid in
      record {
        answer = answer_known next.0 next.1 result r.ends;
        maps = next.0;
        held = next.1;
        unready = unready_stay next.0 next.1 r.moved;
        way = ready_way next.0 next.1 r.moved;
        done = done_known next.0 next.1 result r.ends;
      }

-- ---- one answer

one_blocked : (cs : List Change) (t : Holding) (p q : Node) → IsFirstBlocked cs t p → IsFirstBlocked cs t q → p ≡ q
one_blocked cs t p q a b = go (same_path p q) refl (comes_before p q) refl
  where
    go : (s : Bool) → same_path p q ≡ s → (e : Bool) → comes_before p q ≡ e → p ≡ q
    go true s e f = same_path_is p q s
    go false s true f = let no_one = b.first p a.blocked in absurd (cc (no_one, f))
    go false s false f = let no_one = a.first q b.blocked in let here = before_total p q s f in absurd (cc (no_one, here))

-- a tree that is ready is not found unready
found_not_ready : (why : ApplyFault) (cs : List Change) (t : Holding) → one_each cs ≡ true → IsReady t cs → IsFound why → Finds cs t (Err why) → ⊥
found_not_ready (fault.Diverged p) cs t one ready is h = not_diverged cs t p one ready.values h
found_not_ready (fault.Blocked p) cs t one ready is h = not_blocked cs t p ready h.1.blocked
found_not_ready fault.Failed cs t one ready is h = is
found_not_ready fault.Denied cs t one ready is h = is
found_not_ready fault.Memory cs t one ready is h = is

some_node : {p q : Node} → ◌≡◌ {A = Option Node} (Some p) (Some q) → p ≡ q
some_node e = cc

none_some : {p : Node} → ◌≡◌ {A = Option Node} None (Some p) → ⊥
none_some e = cc

one_found : (why other : ApplyFault) (cs : List Change) (t : Holding) → IsFound why → IsFound other → Finds cs t (Err why) → Finds cs t (Err other) → why ≡ other
one_found (fault.Diverged p) (fault.Diverged q) cs t is too h k = ap fault.Diverged (some_node (sym h ∙ k))
one_found (fault.Diverged p) (fault.Blocked q) cs t is too h k = absurd (none_some (sym k.0 ∙ h))
one_found (fault.Diverged p) fault.Failed cs t is too h k = absurd too
one_found (fault.Diverged p) fault.Denied cs t is too h k = absurd too
one_found (fault.Diverged p) fault.Memory cs t is too h k = absurd too
one_found (fault.Blocked p) (fault.Diverged q) cs t is too h k = absurd (none_some (sym h.0 ∙ k))
one_found (fault.Blocked p) (fault.Blocked q) cs t is too h k = ap fault.Blocked (one_blocked cs t p q h.1 k.1)
one_found (fault.Blocked p) fault.Failed cs t is too h k = absurd too
one_found (fault.Blocked p) fault.Denied cs t is too h k = absurd too
one_found (fault.Blocked p) fault.Memory cs t is too h k = absurd too
one_found fault.Failed other cs t is too h k = absurd is
one_found fault.Denied other cs t is too h k = absurd is
one_found fault.Memory other cs t is too h k = absurd is

-- ready trees have no first unready one
pub none_unready : (why : ApplyFault) (place : ℕ) (css : List (List Change)) (ms : List Store) → list_all one_each css ≡ true → AreReady css (holdings ms) → IsFirstUnready why place css ms → ⊥
none_unready why zero [] ms one ready h = h
none_unready why zero (cs ∷ css) [] one ready h = h
none_unready why zero (cs ∷ css) (m ∷ ms) one ready h = found_not_ready why cs (at m) (both (one_each cs) (list_all one_each css) one).0 ready.0 h.0 h.1
none_unready why (suc place) [] ms one ready h = h
none_unready why (suc place) (cs ∷ css) [] one ready h = h
none_unready why (suc place) (cs ∷ css) (m ∷ ms) one ready h = none_unready why place css ms (both (one_each cs) (list_all one_each css) one).1 ready.1 h.1

one_unready : (why other : ApplyFault) (i j : ℕ) (css : List (List Change)) (ms : List Store) → list_all one_each css ≡ true → IsFirstUnready why i css ms → IsFirstUnready other j css ms → (i ≡ j) × (why ≡ other)
one_unready why other zero j [] ms one h k = absurd h
one_unready why other zero j (cs ∷ css) [] one h k = absurd h
one_unready why other zero zero (cs ∷ css) (m ∷ ms) one h k = (refl, one_found why other cs (at m) h.0 k.0 h.1 k.1)
one_unready why other zero (suc j) (cs ∷ css) (m ∷ ms) one h k = absurd (found_not_ready why cs (at m) (both (one_each cs) (list_all one_each css) one).0 k.0 h.0 h.1)
one_unready why other (suc i) j [] ms one h k = absurd h
one_unready why other (suc i) j (cs ∷ css) [] one h k = absurd h
one_unready why other (suc i) zero (cs ∷ css) (m ∷ ms) one h k = absurd (found_not_ready other cs (at m) (both (one_each cs) (list_all one_each css) one).0 h.0 k.0 k.1)
one_unready why other (suc i) (suc j) (cs ∷ css) (m ∷ ms) one h k =
    let rest = one_unready why other i j css ms (both (one_each cs) (list_all one_each css) one).1 h.1 k.1 in
    (ap suc rest.0, rest.1)

pub one_answer : (css : List (List Change)) → list_all one_each css ≡ true → (ms : List Store) (one other : Result ℕ RoundFault) → IsRoundAnswer css ms one → IsRoundAnswer css ms other → one ≡ other
one_answer css each ms (Ok k) (Ok n) p q = ap Ok (p.1 ∙ sym q.1)
one_answer css each ms (Ok k) (Err Memory) p q = absurd q
one_answer css each ms (Ok k) (Err (Tree n why)) p q = absurd (none_unready why (n - 1) css ms each p.0 q.1)
one_answer css each ms (Err Memory) other p q = absurd p
one_answer css each ms (Err (Tree n why)) (Ok k) p q = absurd (none_unready why (n - 1) css ms each q.0 p.1)
one_answer css each ms (Err (Tree n why)) (Err Memory) p q = absurd q
one_answer css each ms (Err (Tree n why)) (Err (Tree k reason)) p q =
    let h = one_unready why reason (n - 1) (k - 1) css ms each p.1 q.1 in
    let number : n ≡ k = omega (arith, p.0, q.0, h.0) in
    λ i. Err (Tree (number i) (h.1 i))
