-- The laws of rebasing.
use Rattle.std.proofs.Common.{◌≡◌, Bool, true, false, not, ◌&&◌, ◌||◌, List, [], ◌∷◌, Option, Some, None, refl, sym, ap, subst, ◌∙◌, ◌⊎◌, inl, inr}
use mathlib.Core.Path.{fun_ext}
use Rattle.std.specs.Prelude.{if◌then◌else◌}
use Rattle.sync_path.specs.Paths.{Node}
use Rattle.sync_command.specs.Values.{same_value}
use Rattle.sync_command.specs.Changes.{Change}
use Rattle.sync_command.specs.Trees.{Holding, Takes, command_at, new_or, after, Fits}
use Rattle.sync_command.specs.Maps.{Store, at, stored, IsTreeMap}
use Rattle.sync_command.proofs.CallerLemmas.{command_at-node, same_value_at}
use Rattle.canon_set.specs.Logs.{all_change, names, net}
use Rattle.canon_set.specs.Sets.{canonical}
use Rattle.canon_set.proofs.CallerLemmas.{canonical_law, net_fits, net_law}
use Rattle.refluent.specs.CommonTrees.{IsAmong, AllChange, IsCommonTree, least_common_tree}
use Rattle.refluent.specs.Drawn.{drawn_commands}
use Rattle.refluent.specs.Joints.{Joined, StandsForAll}
use Rattle.refluent.specs.Sets.{is_in, IsSubset}
use Rattle.refluent.proofs.CallerLemmas.{after_none, after_some, at_from_in, in_from_at, least_law}
use Rattle.pref_list.specs.Ranking.{ranking}
use Rattle.pref_list.specs.declared.rules.Rule.{Rule}
use Rattle.pref_list.specs.declared.rules.Rule.TheVariants.{All}
use Rattle.merge_core.specs.FirstMergers.{IsFirstMerger}
use Rattle.transition.specs.Transitions.{IsNetCommand, change_between, transition}
use Rattle.transition.proofs.CallerLemmas.{drawn_net, law_of_each_tree, transition_at, transition_fits}
use Rattle.rounds.specs.Compositions.{chain_list, composition}
use Rattle.rounds.specs.Rebasing.{IsRebasedOf, rebase_logs, rebased_next, rebased_tree}
use Rattle.rounds.specs.declared.rebasing.Side.TheVariants.{Next, Tree}
use Rattle.rounds.proofs.Composed.{all_change-canonical, composition_law, net_canonical}
use Rattle.rounds.proofs.Ranked.{first_log_first, held_law, ruled_log_first, is_or_not}
use Rattle.rounds.proofs.Undoing.{one_net}

-- ---- where a merger has a log's whole net set, the log's transition is of the other commands of the merger

transition_rest : (t : Holding) (ns ms : List Change) → Fits t ns → Fits t ms → IsSubset ns ms → (c : Change) → is_in (transition t ns ms) c ≡ true → (is_in ms c ≡ true) × (is_in ns c ≡ false)
transition_rest t ns ms small large part c there = go (names ns c.node || names ms c.node) (is_or_not (same_value (after ns t c.node) (after ms t c.node))) (sym (transition_at t ns ms c.node) ∙ at_from_in (transition t ns ms) (transition_fits t ns ms large).0.one c there)
  where
    kept : (p : Node) (d : Change) → command_at ns p ≡ Some d → command_at ms p ≡ Some d
    kept p d e = subst (λ q. command_at ms q ≡ Some d) (sym (command_at-node ns p d e)) (at_from_in ms large.one d (part d (in_from_at ns p d e)))

    differ : same_value (after ns t c.node) (after ms t c.node) ≡ false → change_between (after ns t) (after ms t) c.node ≡ c → (is_in ms c ≡ true) × (is_in ns c ≡ false)
    differ apart is = first (command_at ns c.node) refl
      where
        clash : after ns t c.node ≡ after ms t c.node → ⊥
        clash e = let f : same_value (after ns t c.node) (after ms t c.node) ≡ true = same_value_at (after ns t c.node) (after ms t c.node) e in cc (f, apart)

        first : (o : Option Change) → command_at ns c.node ≡ o → (is_in ms c ≡ true) × (is_in ns c ≡ false)
        first (Some d) e = absurd (clash (after_some t ns c.node d e ∙ sym (after_some t ms c.node d (kept c.node d e))))
        first None e = second (command_at ms c.node) refl
          where
            second : (o : Option Change) → command_at ms c.node ≡ o → (is_in ms c ≡ true) × (is_in ns c ≡ false)
            second None f = absurd (clash (after_none t ns c.node e ∙ sym (after_none t ms c.node f)))
            second (Some d) f =
                let node : c.node ≡ d.node = command_at-node ms c.node d f in
                let old : after ns t c.node ≡ d.old = after_none t ns c.node e ∙ large.olds c.node d f in
                let new : after ms t c.node ≡ d.new = after_some t ms c.node d f in
                let same : change_between (after ns t) (after ms t) c.node ≡ d = λ i. record { node = node i; old = old i; new = new i } in
                (subst (λ x. is_in ms x ≡ true) (sym same ∙ is) (in_from_at ms c.node d f), out (is_or_not (is_in ns c)))
              where
                out : (is_in ns c ≡ true) ⊎ (is_in ns c ≡ false) → is_in ns c ≡ false
                out (inr e) = e
                out (inl g) = let x : Some c ≡ None = sym (at_from_in ns small.one c g) ∙ e in cc (x)

    go : (b : Bool) → (same_value (after ns t c.node) (after ms t c.node) ≡ true) ⊎ (same_value (after ns t c.node) (after ms t c.node) ≡ false) →
        (if b && not (same_value (after ns t c.node) (after ms t c.node)) then Some (change_between (after ns t) (after ms t) c.node) else None) ≡ Some c → (is_in ms c ≡ true) × (is_in ns c ≡ false)
    go false s e = cc (e)
    go true (inl s) e = let x : None ≡ Some c = ap (λ b. if not b then Some (change_between (after ns t) (after ms t) c.node) else None) (sym s) ∙ e in cc (x)
    go true (inr s) e = differ s (some_is (ap (λ b. if not b then Some (change_between (after ns t) (after ms t) c.node) else None) (sym s) ∙ e))
      where
        some_is : Some (change_between (after ns t) (after ms t) c.node) ≡ Some c → change_between (after ns t) (after ms t) c.node ≡ c
        some_is e = cc

-- the transition is the same on the least common tree
pub on_least : (logs : List (List Change)) → AllChange logs → (m : Store) → IsCommonTree m logs → (log : List Change) → IsAmong log logs → (ms : List Change) → IsSubset ms (drawn_commands logs) →
    transition (least_common_tree logs) (net log) ms ≡ transition (at m) (net log) ms
on_least logs change m common log among ms part =
    let least = least_law logs change (record { map = m; common = common }) in
    ap (λ t. transition t (net log) ms) (sym least.1) ∙ law_of_each_tree logs change least.0 m least.2 common log among ms part

pub rest_law : (logs : List (List Change)) → AllChange logs → (m : Store) → IsCommonTree m logs → (log : List Change) → IsAmong log logs → (ms : List Change) → IsSubset ms (drawn_commands logs) → Fits (at m) ms → IsSubset (net log) ms →
    (c : Change) → is_in (transition (least_common_tree logs) (net log) ms) c ≡ true → (is_in ms c ≡ true) × (is_in (net log) c ≡ false)
rest_law logs change m common log among ms part fits has c there =
    transition_rest (at m) (net log) ms (net_fits (at m) log common.tree.tree (common.takes log among)).0 fits has c (subst (λ l. is_in l c ≡ true) (on_least logs change m common log among ms part) there)

-- what is drawn from two logs and is not of the one is of the other
of_other : (first second : List Change) (c : Change) → is_in (drawn_commands (first ∷ (second ∷ []))) c ≡ true → (is_in (net first) c ≡ true) ⊎ (is_in (net second) c ≡ true)
of_other first second c e = let f : IsNetCommand (first ∷ (second ∷ [])) c = drawn_net (first ∷ (second ∷ [])) c e in split f.log f.among f.is
  where
    split : (log : List Change) → IsAmong log (first ∷ (second ∷ [])) → is_in (net log) c ≡ true → (is_in (net first) c ≡ true) ⊎ (is_in (net second) c ≡ true)
    split log (inl is) h = inl (subst (λ l. is_in (net l) c ≡ true) is h)
    split log (inr (inl is)) h = inr (subst (λ l. is_in (net l) c ≡ true) is h)
    split log (inr (inr none)) h = absurd none

not_both : (b : Bool) → b ≡ true → b ≡ false → ⊥
not_both b e f = cc (e, f)

-- what leads from one tree does so from an equal one, by an equal set
moved : (t u v : Holding) (cs ds ms : List Change) → u ≡ v → ds ≡ cs → Fits v cs × (after cs v ≡ after ms t) → Fits u ds × (after ds u ≡ after ms t)
moved t u v cs ds ms tree set leads = (subst (λ w. Fits w ds) (sym tree) (subst (λ l. Fits v l) (sym set) leads.0), ap (after ds) tree ∙ ap (λ l. after l v) set ∙ leads.1)

-- ---- the laws of rebasing

module _ (recorded : List Change) (change : all_change recorded ≡ true) (sets : List (List Change)) (m : Store) (tree : IsTreeMap m) (takes : Takes (at m) recorded) (follow : Takes (at m) (chain_list sets)) where
  joined : List Change
  joined = canonical (composition sets)

  pub rebase_change : AllChange (rebase_logs recorded sets)
  rebase_change log (inl is) = subst (λ l. all_change l ≡ true) (sym is) change
  rebase_change log (inr (inl is)) = subst (λ l. all_change l ≡ true) (sym is) (all_change-canonical (chain_list sets))
  rebase_change log (inr (inr none)) = absurd none

  pub rebase_common : IsCommonTree m (rebase_logs recorded sets)
  rebase_common = record { tree = tree; takes = each }
    where
      second : Takes (at m) (canonical (composition sets))
      second = (canonical_law m (composition sets) tree (one_net (chain_list sets))).0.0 (composition_law m tree sets follow).0

      each : (log : List Change) → IsAmong log (rebase_logs recorded sets) → Takes (at m) log
      each log (inl is) = subst (Takes (at m)) (sym is) takes
      each log (inr (inl is)) = subst (Takes (at m)) (sym is) second
      each log (inr (inr none)) = absurd none

  same_in : (c : Change) → is_in (net (canonical (composition sets))) c ≡ is_in (composition sets) c
  same_in c = alike _ _
      (λ h. in_from_at (composition sets) c.node c (sym (net_canonical (chain_list sets) c.node) ∙ at_from_in (net (canonical (composition sets))) (one_net (canonical (composition sets))) c h))
      (λ h. in_from_at (net (canonical (composition sets))) c.node c (net_canonical (chain_list sets) c.node ∙ at_from_in (composition sets) (one_net (chain_list sets)) c h))
    where
      alike : (a b : Bool) → (a ≡ true → b ≡ true) → (b ≡ true → a ≡ true) → a ≡ b
      alike true b f g = sym (f refl)
      alike false true f g = g refl
      alike false false f g = refl

  first_in : IsAmong recorded (rebase_logs recorded sets)
  first_in = inl refl

  second_in : IsAmong (canonical (composition sets)) (rebase_logs recorded sets)
  second_in = inr (inl refl)

  pub work_law : (ms : List Change) → IsFirstMerger (at m) (drawn_commands (rebase_logs recorded sets)) (ranking (rebase_logs recorded sets) []) ms →
      IsSubset (net recorded) ms × IsSubset (rebased_tree recorded sets ms) (composition sets)
  work_law ms first = (has, rest)
    where
      has : IsSubset (net recorded) ms
      has = held_law (rebase_logs recorded sets) rebase_change m rebase_common recorded first_in [] (first_log_first recorded (canonical (composition sets) ∷ [])) ms first

      rest : IsSubset (rebased_tree recorded sets ms) (composition sets)
      rest c there =
          let parts = rest_law (rebase_logs recorded sets) rebase_change m rebase_common recorded first_in ms first.merger.within first.merger.fits has c there in
          split parts.1 (of_other recorded (canonical (composition sets)) c (first.merger.within c parts.0))
        where
          split : is_in (net recorded) c ≡ false → (is_in (net recorded) c ≡ true) ⊎ (is_in (net (canonical (composition sets))) c ≡ true) → is_in (composition sets) c ≡ true
          split out (inl h) = absurd (not_both _ h out)
          split out (inr h) = sym (same_in c) ∙ h

  pub rounds_law : (ms : List Change) → IsFirstMerger (at m) (drawn_commands (rebase_logs recorded sets)) (ranking (rebase_logs recorded sets) (All 2 ∷ [])) ms →
      IsSubset (composition sets) ms × IsSubset (rebased_next recorded sets ms) (net recorded)
  rounds_law ms first = (λ c h. has c (same_in c ∙ h), rest)
    where
      has : IsSubset (net (canonical (composition sets))) ms
      has = held_law (rebase_logs recorded sets) rebase_change m rebase_common (canonical (composition sets)) second_in (All 2 ∷ []) (ruled_log_first (rebase_logs recorded sets) 1 []) ms first

      rest : IsSubset (rebased_next recorded sets ms) (net recorded)
      rest c there =
          let parts = rest_law (rebase_logs recorded sets) rebase_change m rebase_common (canonical (composition sets)) second_in ms first.merger.within first.merger.fits has c there in
          split parts.1 (of_other recorded (canonical (composition sets)) c (first.merger.within c parts.0))
        where
          split : is_in (net (canonical (composition sets))) c ≡ false → (is_in (net recorded) c ≡ true) ⊎ (is_in (net (canonical (composition sets))) c ≡ true) → is_in (net recorded) c ≡ true
          split out (inl h) = h
          split out (inr h) = absurd (not_both _ h out)

  pub tree_law : (rules : List Rule) (ms : List Change) → IsFirstMerger (at m) (drawn_commands (rebase_logs recorded sets)) (ranking (rebase_logs recorded sets) rules) ms →
      Fits (at (stored m recorded)) (rebased_tree recorded sets ms) × (after (rebased_tree recorded sets ms) (at (stored m recorded)) ≡ after ms (at m))
  tree_law rules ms first = moved (at m) (at (stored m recorded)) (after (net recorded) (at m)) (transition (at m) (net recorded) ms) (rebased_tree recorded sets ms) ms (net_law m recorded tree takes).1 (on_least (rebase_logs recorded sets) rebase_change m rebase_common recorded first_in ms first.merger.within) (transition_fits (at m) (net recorded) ms first.merger.fits)

  pub next_law : (rules : List Rule) (ms : List Change) → IsFirstMerger (at m) (drawn_commands (rebase_logs recorded sets)) (ranking (rebase_logs recorded sets) rules) ms →
      Fits (at (stored m (chain_list sets))) (rebased_next recorded sets ms) × (after (rebased_next recorded sets ms) (at (stored m (chain_list sets))) ≡ after ms (at m))
  next_law rules ms first =
      moved (at m) (at (stored m (chain_list sets))) (after (net (canonical (composition sets))) (at m)) (transition (at m) (net (canonical (composition sets))) ms) (rebased_next recorded sets ms) ms
      ((net_law m (chain_list sets) tree follow).1 ∙ fun_ext (λ p. ap (λ o. new_or o (at m p)) (sym (net_canonical (chain_list sets) p))))
      (on_least (rebase_logs recorded sets) rebase_change m rebase_common (canonical (composition sets)) second_in ms first.merger.within) (transition_fits (at m) (net (canonical (composition sets))) ms first.merger.fits)

  -- what is made of the joint of the two logs is the one or the other
  module _ (j : Joined) (stands : StandsForAll j (rebase_logs recorded sets)) (rules : List Rule) (set : List Change) where
    pub rebased_tree_is : (r : IsRebasedOf j rules Tree set) → set ≡ canonical (rebased_tree recorded sets r.merger)
    rebased_tree_is r =
        let first = r.first (rebase_logs recorded sets) m stands rebase_common in
        r.leads (rebase_logs recorded sets) m stands rebase_common ∙ ap canonical (sym (on_least (rebase_logs recorded sets) rebase_change m rebase_common recorded first_in r.merger first.merger.within))

    pub rebased_next_is : (r : IsRebasedOf j rules Next set) → set ≡ canonical (rebased_next recorded sets r.merger)
    rebased_next_is r =
        let first = r.first (rebase_logs recorded sets) m stands rebase_common in
        r.leads (rebase_logs recorded sets) m stands rebase_common ∙ ap canonical (sym (on_least (rebase_logs recorded sets) rebase_change m rebase_common (canonical (composition sets)) second_in r.merger first.merger.within))
