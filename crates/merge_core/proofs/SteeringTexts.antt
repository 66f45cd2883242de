-- The rules that steer to a set are a preference list, so their text is read back.
use Rattle.std.proofs.Common.{◌≡◌, zero, suc, ◌+◌, ◌<◌, ◌≤◌, Bool, true, false, ◌||◌, List, [], ◌∷◌, length, Ok, refl, sym, ap, subst, ◌∙◌, arith, lit≤}
use Rattle.std.specs.Prelude.{if◌then◌else◌}
use Rattle.std.specs.List.{AllByRecursion}
use Rattle.std.proofs.lemmas.List.{length-map}
use Rattle.std.proofs.lemmas.List.Sums.{sum_by-append}
use Rattle.sync_path.specs.Paths.{IsPath, parts}
use Rattle.sync_command.specs.Changes.{Change, goes_before, same_change}
use Rattle.sync_command.specs.Trees.{one_each}
use Rattle.canon_set.specs.Sets.{canonical, put_in}
use Rattle.log_text.specs.declared.frame.TheConstants.{MAX_ITEMS}
use Rattle.refluent.specs.declared.joint.TheConstants.{MAX_LOGS}
use Rattle.refluent.specs.Sets.{is_in, IsSubset}
use Rattle.refluent.specs.Drawn.{drawn_commands, in_turn}
use Rattle.refluent.specs.Joints.{net_sets}
use Rattle.refluent.proofs.CallerLemmas.{is_in-append, is_in-canonical, is_in-without_repeats, same_change_refl}
use Rattle.pref_list.specs.declared.rules.TheConstants.{MAX_WIDE}
use Rattle.pref_list.specs.declared.rules.Rule.TheVariants.{At}
use Rattle.pref_list.specs.Picks.{first_with, log_of}
use Rattle.pref_list.specs.Prefs.{IsPrefs, IsRule, IsLogNumber, wide_rules, prefs_of, prefs_text}
use Rattle.pref_list.proofs.CallerLemmas.{in_turn-nets, prefs_back}
use Rattle.merge_core.specs.Steering.{at_rules, steering_rules}

length-put_in : (c : Change) (cs : List Change) → length (put_in c cs) ≡ length cs + 1
length-put_in c [] = refl
length-put_in c (d ∷ ds) = go (goes_before c d) (length-put_in c ds)
  where
    go : (b : Bool) → length (put_in c ds) ≡ length ds + 1 → length (if b then c ∷ (d ∷ ds) else d ∷ put_in c ds) ≡ length (d ∷ ds) + 1
    go true e = omega arith
    go false e = omega arith

length-canonical : (cs : List Change) → length (canonical cs) ≡ length cs
length-canonical [] = refl
length-canonical (c ∷ cs) = length-put_in c (canonical cs) ∙ (let e = length-canonical cs in omega (arith, e))

-- the first set that has a command is one of the sets
first_low : (sets : List (List Change)) (c : Change) → is_in (in_turn sets) c ≡ true → first_with sets c < length sets
first_low [] c e = cc (e)
first_low (set ∷ sets) c e = go (is_in set c) refl (first_low sets c)
  where
    rest : (a b : Bool) → (a || b) ≡ true → a ≡ false → b ≡ true
    rest a b e f = grind arith

    go : (b : Bool) → is_in set c ≡ b → (is_in (in_turn sets) c ≡ true → first_with sets c < length sets) → (if b then zero else suc (first_with sets c)) < length (set ∷ sets)
    go true f rec = omega arith
    go false f rec =
        let l = rec (rest (is_in set c) (is_in (in_turn sets) c) (sym (is_in-append set (in_turn sets) c) ∙ e) f) in
        omega (arith, l)

module _ (logs : List (List Change)) (few : length logs ≤ MAX_LOGS) where
  number_is : (c : Change) → is_in (drawn_commands logs) c ≡ true → IsLogNumber (log_of (net_sets logs) c)
  number_is c e =
      let low = first_low (net_sets logs) c (ap (λ l. is_in l c) (in_turn-nets logs) ∙ sym (is_in-without_repeats _ c) ∙ e) in
      let many : length (net_sets logs) ≡ length logs = length-map logs _ in
      record { low = omega arith; high = omega (arith, low, many, few) }

  each_rule : (cs : List Change) → ((c : Change) → is_in cs c ≡ true → (is_in (drawn_commands logs) c ≡ true) × IsPath c.node) → AllByRecursion IsRule (at_rules (net_sets logs) cs)
  each_rule [] h = tt
  each_rule (c ∷ cs) h = ((number_is c here.0, here.1), each_rule cs (λ d e. h d (later d e)))
    where
      left : (a b : Bool) → a ≡ true → (a || b) ≡ true
      left a b e = grind arith

      right : (a b : Bool) → b ≡ true → (a || b) ≡ true
      right a b e = grind arith

      here : (is_in (drawn_commands logs) c ≡ true) × IsPath c.node
      here = h c (left (same_change c c) (is_in cs c) (same_change_refl c))

      later : (d : Change) → is_in cs d ≡ true → is_in (c ∷ cs) d ≡ true
      later d e = right (same_change d c) (is_in cs d) e

none_wide : (sets : List (List Change)) (cs : List Change) → wide_rules (at_rules sets cs) ≡ 0
none_wide sets [] = refl
none_wide sets (c ∷ cs) =
    let rest = none_wide sets cs in
    let all : wide_rules (at_rules sets (c ∷ cs)) ≡ 0 + wide_rules (at_rules sets cs) = sum_by-append _ (At (log_of sets c) c.node ∷ []) (at_rules sets cs) in
    omega (arith, rest, all)

pub steering_prefs : (logs : List (List Change)) (set : List Change) → length logs ≤ MAX_LOGS → one_each set ≡ true → IsSubset set (drawn_commands logs) → length set ≤ MAX_ITEMS → ((c : Change) → is_in set c ≡ true → IsPath c.node) → IsPrefs (steering_rules logs set)
steering_prefs logs set few one part small paths = record {
  few = let a = length-canonical set in let b : length (steering_rules logs set) ≡ length (canonical set) = length-map (canonical set) _ in omega (arith, a, b, small);
  narrow = subst (λ n. n ≤ MAX_WIDE) (sym (none_wide (net_sets logs) (canonical set))) (lit≤ tt);
  each = each_rule logs few (canonical set) (λ c e. let h : is_in set c ≡ true = sym (is_in-canonical set one c) ∙ e in (part c h, paths c h));
}

pub steering_back : (logs : List (List Change)) (set : List Change) → length logs ≤ MAX_LOGS → one_each set ≡ true → IsSubset set (drawn_commands logs) → length set ≤ MAX_ITEMS → ((c : Change) → is_in set c ≡ true → IsPath c.node)
    → prefs_of (parts 10 (prefs_text (steering_rules logs set))) ≡ Ok (steering_rules logs set)
steering_back logs set few one part small paths = prefs_back (steering_rules logs set) (steering_prefs logs set few one part small paths)
