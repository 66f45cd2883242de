-- Preference along a ranking: repeats do not matter, and two sets that are each preferred to the other have the same ranked commands.
use Rattle.std.proofs.Common.{◌≡◌, Bool, true, false, not, List, [], ◌∷◌, refl, sym, ap, ◌∙◌, arith}
use Rattle.std.specs.Prelude.{if◌then◌else◌}
use Rattle.std.specs.List.{filter}
use Rattle.sync_command.specs.Changes.{Change, same_change}
use Rattle.sync_command.specs.Trees.{Holding}
use Rattle.refluent.specs.Sets.{is_in, IsSubset, HaveSameCommands, without_repeats, differs_from}
use Rattle.merge_core.specs.FirstMergers.{is_preferred, IsFirstMerger}
use Rattle.refluent.proofs.CallerLemmas.{same_change_is}

-- how a command decides between two sets, and what is left where it does not
abbrev decide : Bool → Bool → Bool → Bool
decide m s rest = if m then (if s then rest else true) else (if s then false else rest)

passes : (m s rest : Bool) → m ≡ s → decide m s rest ≡ rest
passes true true rest e = refl
passes true false rest e = cc (e)
passes false true rest e = cc (e)
passes false false rest e = refl

-- a command that both sets have, or neither, can be left out
preferred_without : (c : Change) (cs ms ss : List Change) → is_in ms c ≡ is_in ss c → is_preferred (filter (differs_from c) cs) ms ss ≡ is_preferred cs ms ss
preferred_without c [] ms ss e = refl
preferred_without c (d ∷ cs) ms ss e = go (same_change d c) (same_change_is d c) (preferred_without c cs ms ss e)
  where
    go : (b : Bool) → (b ≡ true → d ≡ c) → is_preferred (filter (differs_from c) cs) ms ss ≡ is_preferred cs ms ss →
        is_preferred (if not b then d ∷ filter (differs_from c) cs else filter (differs_from c) cs) ms ss ≡ decide (is_in ms d) (is_in ss d) (is_preferred cs ms ss)
    go true is ih = ih ∙ sym (passes (is_in ms d) (is_in ss d) (is_preferred cs ms ss) (ap (is_in ms) (is refl) ∙ e ∙ ap (is_in ss) (sym (is refl))))
    go false is ih = ap (decide (is_in ms d) (is_in ss d)) ih

pub preferred_once : (cs ms ss : List Change) → is_preferred (without_repeats cs) ms ss ≡ is_preferred cs ms ss
preferred_once [] ms ss = refl
preferred_once (c ∷ cs) ms ss = go (is_in ms c) (is_in ss c) (preferred_without c (without_repeats cs) ms ss) (preferred_once cs ms ss)
  where
    go : (m s : Bool) → (m ≡ s → is_preferred (filter (differs_from c) (without_repeats cs)) ms ss ≡ is_preferred (without_repeats cs) ms ss) → is_preferred (without_repeats cs) ms ss ≡ is_preferred cs ms ss →
        decide m s (is_preferred (filter (differs_from c) (without_repeats cs)) ms ss) ≡ decide m s (is_preferred cs ms ss)
    go true true f ih = f refl ∙ ih
    go true false f ih = refl
    go false true f ih = refl
    go false false f ih = f refl ∙ ih

same_ranked : (cs ms ss : List Change) → is_preferred cs ms ss ≡ true → is_preferred cs ss ms ≡ true → (c : Change) → is_in cs c ≡ true → is_in ms c ≡ is_in ss c
same_ranked [] ms ss e f c i = cc (i)
same_ranked (d ∷ cs) ms ss e f c i = go (same_change_is c d) (λ x y. same_ranked cs ms ss x y c) i e f
  where
    go : (same_change c d ≡ true → c ≡ d) → (is_preferred cs ms ss ≡ true → is_preferred cs ss ms ≡ true → is_in cs c ≡ true → is_in ms c ≡ is_in ss c) → is_in (d ∷ cs) c ≡ true →
        is_preferred (d ∷ cs) ms ss ≡ true → is_preferred (d ∷ cs) ss ms ≡ true → is_in ms c ≡ is_in ss c
    go is ih i e f = grind arith

-- two first mergers have the same commands
pub one_first : (t : Holding) (drawn ranking ms ss : List Change) → IsSubset drawn ranking → IsFirstMerger t drawn ranking ms → IsFirstMerger t drawn ranking ss → HaveSameCommands ms ss
one_first t drawn ranking ms ss ranked first second = (λ c i. sym (same c (first.merger.within c i)) ∙ i, λ c i. same c (second.merger.within c i) ∙ i)
  where
    same : (c : Change) → is_in drawn c ≡ true → is_in ms c ≡ is_in ss c
    same c i = same_ranked ranking ms ss (first.first ss second.merger) (second.first ms first.merger) c (ranked c i)
