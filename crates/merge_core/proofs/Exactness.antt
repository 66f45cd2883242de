-- What is blocked beside what is taken.
use Rattle.std.proofs.Common.{◌≡◌, Bool, true, false, not, ◌&&◌, ◌||◌, List, [], ◌∷◌, Option, Some, None, refl, ap, ◌∙◌, arith}
use Rattle.std.specs.Prelude.{is_none}
use Rattle.sync_path.proofs.CallerLemmas.{both}
use Rattle.refluent.proofs.CallerLemmas.{IsDrawn, fewer}
use Rattle.merge_core.specs.FirstMergers.{IsExtendable}
use Rattle.refluent.specs.Sets.{is_in}
use Rattle.sync_command.specs.Changes.{Change}
use Rattle.sync_command.specs.Trees.{Holding, IsTree, command_at, one_each}
use Rattle.sync_command.specs.Values.{is_empty, is_dir}
use Rattle.sync_path.specs.Paths.{Node, parent}
use Rattle.merge_core.proofs.Spreading.{IsSettled, barred_above}
use Rattle.merge_core.proofs.Turning.{IsSound, barred_first, barred_with, blocked_none, is_blocked, is_other, needed_with, open_extends, settled_first, settled_next, sound_first, sound_next}

-- the nodes that have to be directories beside what is taken, and those that can be none
abbrev pub needed_by : List Change → Node → Bool
needed_by [] = λ n. false
needed_by (c ∷ cs) = needed_with c (needed_by cs)

abbrev pub barred_by : Holding → List Change → List Change → Node → Bool
barred_by t drawn [] = barred_first t drawn
barred_by t drawn (c ∷ cs) = barred_with c (barred_by t drawn cs)

pub sound_of : (t : Holding) (drawn taken : List Change) → IsSound t drawn taken (needed_by taken) (barred_by t drawn taken)
sound_of t drawn [] = sound_first t drawn
sound_of t drawn (c ∷ taken) = sound_next t drawn taken (needed_by taken) (barred_by t drawn taken) (sound_of t drawn taken) c

none_is : (o : Option Change) → is_none o ≡ true → o ≡ None
none_is None e = refl
none_is (Some d) e = cc

right : (a b d : Bool) → b ≡ true → (a || (b || d)) ≡ true
right a b d e = grind arith

last : (a b d : Bool) → d ≡ true → (a || (b || d)) ≡ true
last a b d e = grind arith

-- Where some drawn set that fits has all that is taken, all is settled.
pub settled_of : (t : Holding) (drawn taken : List Change) → IsTree t → ((c : Change) → is_in drawn c ≡ true → IsDrawn t drawn c) → one_each taken ≡ true → IsExtendable t drawn taken →
    IsSettled t drawn taken (needed_by taken) (barred_by t drawn taken)
settled_of t drawn [] tree known one ext = settled_first t drawn tree known
settled_of t drawn (c ∷ taken) tree known one ext = settled_next t drawn taken (needed_by taken) (barred_by t drawn taken)
    (settled_of t drawn taken tree known (both (is_none (command_at taken c.node)) (one_each taken) one).1 (record { whole = ext.whole; within = ext.within; fits = ext.fits; has = (fewer c taken ext.whole ext.has).1 }))
    c (ext.within c (fewer c taken ext.whole ext.has).0) (none_is _ (both (is_none (command_at taken c.node)) (one_each taken) one).0)
    (λ m o. none (right (is_other (command_at taken c.node) c) (needed_by taken c.node && not (is_dir c.new)) (barred_above (barred_by t drawn taken) (parent c.node) && not (is_empty c.new)) (ap (λ b. b && not (is_dir c.new)) m ∙ ap not o)))
    (λ q e b o. none (last (is_other (command_at taken c.node) c) (needed_by taken c.node && not (is_dir c.new)) (barred_above (barred_by t drawn taken) (parent c.node) && not (is_empty c.new))
    (ap (λ p. barred_above (barred_by t drawn taken) p && not (is_empty c.new)) e ∙ ap (λ x. x && not (is_empty c.new)) b ∙ ap not o)))
  where
    none : is_blocked taken (needed_by taken) (barred_by t drawn taken) c ≡ true → ⊥
    none b = blocked_none t drawn taken (needed_by taken) (barred_by t drawn taken) (sound_of t drawn taken) c b ext

-- whether no drawn set that fits has the command beside what is taken, as a test
abbrev pub blocks : Holding → List Change → List Change → Change → Bool
blocks t drawn taken c = is_blocked taken (needed_by taken) (barred_by t drawn taken) c

pub blocks_exactly : (t : Holding) (drawn taken : List Change) → IsTree t → ((c : Change) → is_in drawn c ≡ true → IsDrawn t drawn c) → one_each taken ≡ true → IsExtendable t drawn taken →
    (c : Change) → is_in drawn c ≡ true → (blocks t drawn taken c ≡ true → IsExtendable t drawn (c ∷ taken) → ⊥) × (blocks t drawn taken c ≡ false → IsExtendable t drawn (c ∷ taken))
blocks_exactly t drawn taken tree known one ext c there = (
  blocked_none t drawn taken (needed_by taken) (barred_by t drawn taken) (sound_of t drawn taken) c,
  open_extends t drawn taken (needed_by taken) (barred_by t drawn taken) tree known (settled_of t drawn taken tree known one ext) c there,
)
