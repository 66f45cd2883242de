-- The sealed list is the one whose result the tree is, and there is one at most.
use Rattle.std.proofs.Common.{◌≡◌, inl, inr, ℕ, Bool, true, false, not, ◌&&◌, ◌||◌, List, [], ◌∷◌, ◌++◌, length, drop, Option, Some, None, refl, sym, ap, subst, ◌∙◌, arith, length-append}
use Rattle.std.specs.Prelude.{if◌then◌else◌, is_some}
use Rattle.sync_path.specs.Paths.{Node, same_path}
use Rattle.sync_path.proofs.CallerLemmas.{same_path_is, same_path_refl}
use Rattle.sync_command.specs.Values.{same_value}
use Rattle.sync_command.specs.Changes.{Change, is_change}
use Rattle.sync_command.specs.Maps.{Store, at, stored}
use Rattle.sync_command.specs.Trees.{Holding, Takes, command_at, put, result_of}
use Rattle.sync_command.proofs.CallerLemmas.{at-stored, put_here, same_value_at}
use Rattle.canon_set.specs.Logs.{all_change, names, touches}
use Rattle.canon_set.proofs.CallerLemmas.{is_some-touches, result_touched}
use Rattle.record_core.specs.Seals.{Diverges, HoldsLast, IsAllOrAllButLast, IsSealed, IsUndone, OpenLog}

-- ---- what stands

result_push : (t : Holding) (cs : List Change) (c : Change) → result_of t (cs ++ c ∷ []) ≡ put (result_of t cs) c.node c.new
result_push t [] c = refl
result_push t (k ∷ cs) c = result_push (put t k.node k.new) cs c

held_before : (t : Holding) (cs : List Change) (c : Change) → Takes t (cs ++ c ∷ []) → result_of t cs c.node ≡ c.old
held_before t [] c takes = takes.0.old
held_before t (k ∷ cs) c takes = held_before (put t k.node k.new) cs c takes.1

seals_result : (t : Holding) (log : OpenLog) (done : List Change) → Takes t log.commands → IsAllOrAllButLast log done → IsSealed log (result_of t done) done
seals_result t log done takes (inl all) = inl (all, λ n d e. ap (λ l. result_of t l n) all ∙ result_touched t log.commands n d e)
seals_result t log done takes (inr (no_end, (last, all))) =
    inr (
      last,
      (
        record { all = all; no_end = no_end; old = held_before t done last (subst (Takes t) all takes) },
        λ n apart d e. sym (ap (λ b. if b then last.new else result_of t done n) apart) ∙ sym (ap (λ (h : Holding). h n) (ap (result_of t) all ∙ result_push t done last)) ∙ result_touched t log.commands n d e,
      ),
    )

pub done_is_sealed : (m : Store) (log : OpenLog) (done : List Change) → Takes (at m) log.commands → IsAllOrAllButLast log done → IsSealed log (at (stored m done)) done
done_is_sealed m log done takes which = subst (λ t. IsSealed log t done) (sym (at-stored m done)) (seals_result (at m) log done takes which)

-- ---- one at most

named_last : (cs : List Change) (c : Change) → names (cs ++ c ∷ []) c.node ≡ true
named_last [] c = ap (λ b. b || false) (same_path_refl c.node)
named_last (k ∷ cs) c = go (same_path c.node k.node) (named_last cs c)
  where
    go : (b : Bool) → names (cs ++ c ∷ []) c.node ≡ true → (b || names (cs ++ c ∷ []) c.node) ≡ true
    go true h = refl
    go false h = h

-- a log's last command gives its node the last value
record IsLastTouch (cs : List Change) (c : Change) : Type 0 where
  pub touch : Change
  pub at : command_at (touches cs) c.node ≡ Some touch
  pub new : touch.new ≡ c.new

last_touch : (t : Holding) (cs done : List Change) (c : Change) → cs ≡ done ++ c ∷ [] → IsLastTouch cs c
last_touch t cs done c all = go (command_at (touches cs) c.node) refl
  where
    named : is_some (command_at (touches cs) c.node) ≡ true
    named = is_some-touches cs c.node ∙ ap (λ l. names l c.node) all ∙ named_last done c

    at_end : result_of t cs c.node ≡ c.new
    at_end = ap (λ (h : Holding). h c.node) (ap (result_of t) all ∙ result_push t done c) ∙ put_here (result_of t done) c.node c.new

    go : (o : Option Change) → command_at (touches cs) c.node ≡ o → IsLastTouch cs c
    go None e = absurd (none (sym (ap is_some e) ∙ named))
      where
        none : false ≡ true → ⊥
        none h = cc (h)
    go (Some d) e = record { touch = d; at = e; new = sym (result_touched t cs c.node d e) ∙ at_end }

last_changes : (cs done : List Change) (c : Change) → cs ≡ done ++ c ∷ [] → all_change cs ≡ true → is_change c ≡ true
last_changes cs done c all h = passes done (subst (λ l. all_change l ≡ true) all h)
  where
    first : (a b : Bool) → (a && b) ≡ true → a ≡ true
    first a b h = grind arith

    rest : (a b : Bool) → (a && b) ≡ true → b ≡ true
    rest a b h = grind arith

    passes : (done : List Change) → all_change (done ++ c ∷ []) ≡ true → is_change c ≡ true
    passes [] h = first (is_change c) true h
    passes (k ∷ done) h = passes done (rest (is_change k) (all_change (done ++ c ∷ [])) h)

-- the last command is not both done and undone
exclude : (log : OpenLog) (t : Holding) (done : List Change) (last : Change) → all_change log.commands ≡ true → ((n : Node) → HoldsLast log t n) → IsUndone log t done last → ⊥
exclude log t done last change holds un =
    let k = last_touch t log.commands done last un.all in
    let same : last.old ≡ last.new = sym un.old ∙ holds last.node k.touch k.at ∙ k.new in
    differ (same_value_at last.old last.new same) (last_changes log.commands done last un.all change)
  where
    differ : same_value last.old last.new ≡ true → not (same_value last.old last.new) ≡ true → ⊥
    differ e f = grind arith

not_longer : (xs : List Change) (x : Change) (n : ℕ) → n ≡ length (xs ++ x ∷ []) → n ≡ 0 → ⊥
not_longer xs x n e z = let h = length-append xs (x ∷ []) in omega (arith, h)

same_prefix : (xs ys : List Change) (x y : Change) → xs ++ x ∷ [] ≡ ys ++ y ∷ [] → xs ≡ ys
same_prefix [] [] x y e = refl
same_prefix [] (b ∷ ys) x y e = absurd (not_longer ys y (length (drop 1 (x ∷ []))) (ap (λ l. length (drop 1 l)) e) refl)
same_prefix (a ∷ xs) [] x y e = absurd (not_longer xs x (length (drop 1 (y ∷ []))) (ap (λ l. length (drop 1 l)) (sym e)) refl)
same_prefix (a ∷ xs) (b ∷ ys) x y e = let h : xs ≡ ys = same_prefix xs ys x y (ap (drop 1) e) in let k : a ≡ b = cc in ap (λ l. a ∷ l) h ∙ ap (λ c. c ∷ ys) k

pub only_one : (log : OpenLog) (t : Holding) (one other : List Change) → all_change log.commands ≡ true → IsSealed log t one → IsSealed log t other → one ≡ other
only_one log t one other change (inl a) (inl b) = a.0 ∙ sym b.0
only_one log t one other change (inl a) (inr b) = absurd (exclude log t other b.0 change a.1 b.1.0)
only_one log t one other change (inr a) (inl b) = absurd (exclude log t one a.0 change b.1 a.1.0)
only_one log t one other change (inr a) (inr b) = same_prefix one other a.0 b.0 (sym a.1.0.all ∙ b.1.0.all)

-- ---- no node diverges

pub not_both : (log : OpenLog) (t : Holding) (sealed : List Change) (n : Node) → IsSealed log t sealed → Diverges log t n → ⊥
not_both log t sealed n (inl a) d = d.here (inl (a.1 n))
not_both log t sealed n (inr (last, (un, others))) d = go (same_path n last.node) refl
  where
    go : (b : Bool) → same_path n last.node ≡ b → ⊥
    go true e = d.here (inr (sealed, (last, (same_path_is n last.node e, un))))
    go false e = d.here (inl (others n e))
