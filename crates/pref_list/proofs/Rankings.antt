-- Rankings, rule by rule and then log by log.
use Rattle.std.proofs.Common.{◌≡◌, ℕ, zero, suc, ◌<◌, ◌+◌, Bool, false, List, [], ◌∷◌, ◌++◌, get_or, take, drop, length, append_assoc, Some, None, refl, sym, ap, subst, ◌∙◌, arith}
use Rattle.std.specs.List.{slice_get}
use Rattle.std.proofs.lemmas.List.{append-nil, length-replicate}
use Rattle.std.proofs.Common.{replicate}
use Rattle.std.proofs.Math.Seq.{take-suc, drop-cons}
use Rattle.sync_command.specs.Changes.{Change}
use Rattle.refluent.specs.declared.joint.Pick.{Pick}
use Rattle.pref_list.specs.declared.rules.Rule.{Rule}
use Rattle.pref_list.specs.declared.faults.RankFault.{RankFault}
use Rattle.pref_list.specs.declared.faults.RankFault.TheVariants.{NoSuchLog, NoCommand, Memory}
use Rattle.pref_list.specs.Ranking.{set_of, set_from, expansion, expansions}
use Rattle.refluent.specs.Drawn.{in_turn}
use Rattle.pref_list.specs.Numbers.{AreLeast}
use Rattle.std.proofs.Common.{map}
use Rattle.pref_list.specs.Picks.{command_of}
use Rattle.pref_list.specs.Orders.{IsOrderOf, IsFirstFault, IsRankingOf, TakesAll, fault_of, first_of, first_fault, first_fault_from}
use Rattle.pref_list.proofs.Named.{set_of_next}
use Rattle.pref_list.proofs.Ordering.{takes_none, takes_then}
use Rattle.pref_list.proofs.Numbering.{numbered_low}

-- the commands of the first so many rules are taken, and none of these rules is at fault
pub record RulesTo (sets : List (List Change)) (table : List Pick) (first : List Bool) (first_picks : List Pick) (seen : List Bool) (picks : List Pick) (rules : List Rule) (at : ℕ) : Type 0 where
  pub many : length seen ≡ length table
  pub taken : TakesAll sets table first first_picks seen picks (expansions sets (take at rules))
  pub faultless : first_fault sets rules ≡ first_fault_from sets (at + 1) (drop at rules)

pub rules_start : (sets : List (List Change)) (table : List Pick) (seen : List Bool) (picks : List Pick) (rules : List Rule) → length seen ≡ length table → RulesTo sets table seen picks seen picks rules 0
rules_start sets table seen picks rules many = record {
  many = many;
  taken = takes_none sets table seen picks [] refl;
  faultless = refl;
}

expansions-append : (sets : List (List Change)) (xs ys : List Rule) → expansions sets (xs ++ ys) ≡ expansions sets xs ++ expansions sets ys
expansions-append sets [] ys = refl
expansions-append sets (x ∷ xs) ys = ap (λ l. expansion sets x ++ l) (expansions-append sets xs ys) ∙ sym (append_assoc (expansion sets x) (expansions sets xs) (expansions sets ys))

module _ (sets : List (List Change)) (table : List Pick) (first : List Bool) (first_picks : List Pick) (seen : List Bool) (picks : List Pick) (rules : List Rule) (at : ℕ) (so : RulesTo sets table first first_picks seen picks rules at) (low : at < length rules) (rule : Rule) (is : rule ≡ get_or rules at rule) where
  rest_is : drop at rules ≡ rule ∷ drop (at + 1) rules
  rest_is = drop-cons rules at rule low ∙ ap (λ x. x ∷ drop (suc at) rules) (sym is) ∙ ap (λ n. rule ∷ drop n rules) (let n : suc at ≡ at + 1 = omega arith in n)

  pub first_is : first_fault sets rules ≡ first_of (fault_of sets (at + 1) rule) (first_fault_from sets (at + 1 + 1) (drop (at + 1) rules))
  first_is = so.faultless ∙ ap (first_fault_from sets (at + 1)) rest_is

  pub rule_refused : (fault : RankFault) → Some fault ≡ fault_of sets (at + 1) rule → IsFirstFault sets rules fault
  rule_refused fault e = go fault (first_is ∙ ap (λ o. first_of o (first_fault_from sets (at + 1 + 1) (drop (at + 1) rules))) (sym e))
    where
      go : (f : RankFault) → first_fault sets rules ≡ Some f → IsFirstFault sets rules f
      go (NoSuchLog number) e = e
      go (NoCommand number) e = e
      go Memory e = tt

  pub rules_more : (seen2 : List Bool) (picks2 : List Pick) → None ≡ fault_of sets (at + 1) rule → length seen2 ≡ length table → TakesAll sets table seen picks seen2 picks2 (expansion sets rule) → RulesTo sets table first first_picks seen2 picks2 rules (at + 1)
  rules_more seen2 picks2 none many taken = record {
    many = many;
    taken = subst (TakesAll sets table first first_picks seen2 picks2) (sym more) (takes_then sets table first seen seen2 first_picks picks picks2 (expansions sets (take at rules)) (expansion sets rule) so.taken taken);
    faultless = first_is ∙ ap (λ o. first_of o (first_fault_from sets (at + 1 + 1) (drop (at + 1) rules))) (sym none);
  }
    where
      more : expansions sets (take (at + 1) rules) ≡ expansions sets (take at rules) ++ expansion sets rule
      more = ap (λ n. expansions sets (take n rules)) (let n : at + 1 ≡ suc at = omega arith in n) ∙ ap (expansions sets) (take-suc rules at rule low ∙ ap (λ x. take at rules ++ x ∷ []) (sym is))
          ∙ expansions-append sets (take at rules) (rule ∷ []) ∙ ap (λ l. expansions sets (take at rules) ++ l) (append-nil (expansion sets rule))

take_whole : {X : Type 0} (xs : List X) (n : ℕ) → n ≡ length xs → take n xs ≡ xs
take_whole [] zero e = refl
take_whole [] (suc n) e = absurd (omega arith)
take_whole (x ∷ xs) zero e = absurd (omega arith)
take_whole (x ∷ xs) (suc n) e = ap (λ l. x ∷ l) (take_whole xs n (omega arith))

drop_whole : {X : Type 0} (xs : List X) (n : ℕ) → n ≡ length xs → drop n xs ≡ []
drop_whole [] zero e = refl
drop_whole [] (suc n) e = refl
drop_whole (x ∷ xs) zero e = absurd (omega arith)
drop_whole (x ∷ xs) (suc n) e = drop_whole xs n (omega arith)

module _ (sets : List (List Change)) (table : List Pick) (first : List Bool) (first_picks : List Pick) (seen : List Bool) (picks : List Pick) (rules : List Rule) (at : ℕ) (so : RulesTo sets table first first_picks seen picks rules at) (end : at ≡ length rules) where
  pub rules_taken : TakesAll sets table first first_picks seen picks (expansions sets rules)
  rules_taken = subst (TakesAll sets table first first_picks seen picks) (ap (expansions sets) (take_whole rules at end)) so.taken

  pub rules_faultless : first_fault sets rules ≡ None
  rules_faultless = so.faultless ∙ ap (first_fault_from sets (at + 1)) (drop_whole rules at end)

-- ---- the logs

pub record LogsTo (sets : List (List Change)) (table : List Pick) (first : List Bool) (first_picks : List Pick) (seen : List Bool) (picks : List Pick) (log : ℕ) : Type 0 where
  pub many : length seen ≡ length table
  pub taken : TakesAll sets table first first_picks seen picks (in_turn (take log sets))

in_turn-append : (xs ys : List (List Change)) → in_turn (xs ++ ys) ≡ in_turn xs ++ in_turn ys
in_turn-append [] ys = refl
in_turn-append (x ∷ xs) ys = ap (λ l. x ++ l) (in_turn-append xs ys) ∙ sym (append_assoc x (in_turn xs) (in_turn ys))

set_get : (sets : List (List Change)) (l : ℕ) → get_or sets l [] ≡ set_from sets l
set_get [] l = refl
set_get (set ∷ sets) zero = refl
set_get (set ∷ sets) (suc l) = set_get sets l

pub logs_more : (sets : List (List Change)) (table : List Pick) (first seen seen2 : List Bool) (first_picks picks picks2 : List Pick) (log : ℕ) → LogsTo sets table first first_picks seen picks log → log < length sets → length seen2 ≡ length table →
    TakesAll sets table seen picks seen2 picks2 (set_of sets (log + 1)) → LogsTo sets table first first_picks seen2 picks2 (log + 1)
logs_more sets table first seen seen2 first_picks picks picks2 log so low many taken = record {
  many = many;
  taken = subst (TakesAll sets table first first_picks seen2 picks2) (sym more) (takes_then sets table first seen seen2 first_picks picks picks2 (in_turn (take log sets)) (set_of sets (log + 1)) so.taken taken);
}
  where
    more : in_turn (take (log + 1) sets) ≡ in_turn (take log sets) ++ set_of sets (log + 1)
    more = ap (λ n. in_turn (take n sets)) (let n : log + 1 ≡ suc log = omega arith in n) ∙ ap in_turn (take-suc sets log [] low) ∙ in_turn-append (take log sets) (get_or sets log [] ∷ [])
        ∙ ap (λ l. in_turn (take log sets) ++ l) (append-nil (get_or sets log []) ∙ set_get sets log ∙ sym (set_of_next sets log))

pub logs_taken : (sets : List (List Change)) (table : List Pick) (first seen : List Bool) (first_picks picks : List Pick) (log : ℕ) → LogsTo sets table first first_picks seen picks log → log ≡ length sets → TakesAll sets table first first_picks seen picks (in_turn sets)
logs_taken sets table first seen first_picks picks log so end = subst (TakesAll sets table first first_picks seen picks) (ap in_turn (take_whole sets log end)) so.taken

-- ---- the whole

unseen : (n m : ℕ) → m < n → slice_get (replicate n false) m ≡ Some false
unseen zero m low = absurd (omega arith)
unseen (suc n) zero low = refl
unseen (suc n) (suc m) low = unseen n m (omega arith)

pub order_start : (sets : List (List Change)) (table : List Pick) (seen : List Bool) (picks : List Pick) → seen ≡ replicate (length table) false → picks ≡ [] → IsOrderOf sets table seen picks []
order_start sets table seen picks e f = record {
  many = ap length e ∙ length-replicate (length table) false;
  flags = λ m c is. ap (λ l. slice_get l m) e ∙ unseen (length table) m (numbered_low sets table m c is);
  commands = ap (map (command_of sets)) f;
  least = subst (AreLeast sets) (sym f) (λ m pick e. cc (e));
}

pub ranking_is : (sets : List (List Change)) (table : List Pick) (rules : List Rule) (first seen seen2 : List Bool) (first_picks picks picks2 : List Pick) → IsOrderOf sets table first first_picks [] → TakesAll sets table first first_picks seen picks (expansions sets rules) → TakesAll sets table seen picks seen2 picks2 (in_turn sets) →
    IsRankingOf sets rules picks2
ranking_is sets table rules first seen seen2 first_picks picks picks2 none some rest = let o = rest (expansions sets rules) (some [] none) in record {
  commands = o.commands;
  least = o.least;
}
