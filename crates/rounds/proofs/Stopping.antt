-- Where sets stop following one another, no tree takes their chain list, and there is one such place.
use Rattle.std.proofs.Common.{◌≡◌, ℕ, suc, ◌+◌, List, [], ◌∷◌, ◌++◌, length, refl, sym, ap, subst, ◌∙◌, append_assoc}
use Rattle.sync_path.specs.Paths.{Node}
use Rattle.sync_command.specs.Changes.{Change}
use Rattle.sync_command.specs.Trees.{Holding, Takes, put}
use Rattle.sync_command.specs.Maps.{at}
use Rattle.canon_set.specs.Logs.{IsTaken}
use Rattle.canon_set.specs.Sets.{canonical}
use Rattle.rounds.specs.Compositions.{chain_list, StopsAt}

takes_prefix : (t : Holding) (cs ds : List Change) → Takes t (cs ++ ds) → Takes t cs
takes_prefix t [] ds takes = tt
takes_prefix t (c ∷ cs) ds takes = (takes.0, takes_prefix (put t c.node c.new) cs ds takes.1)

-- a log with a prefix that no tree takes
prefix_taken : (cs ds es : List Change) → es ≡ cs ++ ds → IsTaken es → IsTaken cs
prefix_taken cs ds es is taken = record { map = taken.map; tree = taken.tree; takes = takes_prefix (at taken.map) cs ds (subst (Takes (at taken.map)) is taken.takes) }

same_taken : (cs ds : List Change) → cs ≡ ds → IsTaken cs → IsTaken ds
same_taken cs ds is taken = subst IsTaken is taken

pub chain_append : (sets more : List (List Change)) → chain_list (sets ++ more) ≡ chain_list sets ++ chain_list more
chain_append [] more = refl
chain_append (set ∷ sets) more = ap (λ l. canonical set ++ l) (chain_append sets more) ∙ sym (append_assoc (canonical set) (chain_list sets) (chain_list more))

pub stop_law : (sets : List (List Change)) (number : ℕ) (node : Node) → StopsAt sets number node → IsTaken (chain_list sets) → ⊥
stop_law sets number node s taken = s.here.stops (prefix_taken (chain_list s.before ++ s.here.prefix ++ s.here.last ∷ []) (s.here.back ++ chain_list s.behind) (chain_list sets) whole taken)
  where
    regroup : (a b : List Change) (c : Change) (d e : List Change) → a ++ ((b ++ (c ∷ d)) ++ e) ≡ ((a ++ b) ++ (c ∷ [])) ++ (d ++ e)
    regroup a b c d e = simp append_assoc

    whole : chain_list sets ≡ (chain_list s.before ++ s.here.prefix ++ s.here.last ∷ []) ++ (s.here.back ++ chain_list s.behind)
    whole = ap chain_list s.sets_are ∙ chain_append s.before (s.set ∷ s.behind) ∙ ap (λ l. chain_list s.before ++ (l ++ chain_list s.behind)) s.here.set_is ∙ regroup (chain_list s.before) s.here.prefix s.here.last s.here.back (chain_list s.behind)

-- the first command that no tree takes behind the same commands is one
one_command : (D f : List Change) (c : Change) (k g : List Change) (d : Change) (l : List Change) → f ++ (c ∷ k) ≡ g ++ (d ∷ l) → IsTaken (D ++ f) → (IsTaken (D ++ (f ++ (c ∷ []))) → ⊥) → IsTaken (D ++ g) → (IsTaken (D ++ (g ++ (d ∷ []))) → ⊥) → c ≡ d
one_command D [] c k [] d l same tf sf tg sg = cc (same)
one_command D [] c k (y ∷ g) d l same tf sf tg sg =
    let is : c ≡ y = cc (same) in
    absurd (sf (prefix_taken (D ++ (c ∷ [])) g (D ++ (y ∷ g)) (ap (λ x. D ++ (x ∷ g)) (sym is) ∙ sym (append_assoc D (c ∷ []) g)) tg))
one_command D (x ∷ f) c k [] d l same tf sf tg sg =
    let is : x ≡ d = cc (same) in
    absurd (sg (prefix_taken (D ++ (d ∷ [])) f (D ++ (x ∷ f)) (ap (λ y. D ++ (y ∷ f)) is ∙ sym (append_assoc D (d ∷ []) f)) tf))
one_command D (x ∷ f) c k (y ∷ g) d l same tf sf tg sg =
    let is : y ≡ x = cc (same) in
    let rest : f ++ (c ∷ k) ≡ g ++ (d ∷ l) = cc (same) in
    one_command (D ++ (x ∷ [])) f c k g d l rest
    (same_taken _ _ (sym (append_assoc D (x ∷ []) f)) tf) (λ h. sf (same_taken _ _ (append_assoc D (x ∷ []) (f ++ (c ∷ []))) h))
    (same_taken _ _ (ap (λ z. D ++ (z ∷ g)) is ∙ sym (append_assoc D (x ∷ []) g)) tg) (λ h. sg (same_taken _ _ (append_assoc D (x ∷ []) (g ++ (d ∷ [])) ∙ ap (λ z. D ++ (z ∷ (g ++ (d ∷ [])))) (sym is)) h))

one_place : (D : List Change) (b : List (List Change)) (s : List Change) (r : List (List Change)) (f : List Change) (c : Change) (k : List Change) (b' : List (List Change)) (s' : List Change) (r' : List (List Change)) (f' : List Change) (c' : Change) (k' : List Change) →
    b ++ (s ∷ r) ≡ b' ++ (s' ∷ r') → canonical s ≡ f ++ (c ∷ k) → canonical s' ≡ f' ++ (c' ∷ k') →
    IsTaken (D ++ (chain_list b ++ f)) → (IsTaken (D ++ (chain_list b ++ (f ++ (c ∷ [])))) → ⊥) →
    IsTaken (D ++ (chain_list b' ++ f')) → (IsTaken (D ++ (chain_list b' ++ (f' ++ (c' ∷ [])))) → ⊥) → (length b ≡ length b') × (c ≡ c')
one_place D [] s r f c k [] s' r' f' c' k' same is is' t stop t' stop' =
    let sets : s ≡ s' = cc (same) in (refl, one_command D f c k f' c' k' (sym is ∙ ap canonical sets ∙ is') t stop t' stop')
one_place D [] s r f c k (x ∷ b') s' r' f' c' k' same is is' t stop t' stop' =
    let set : x ≡ s = cc (same) in
    absurd (stop (prefix_taken (D ++ (f ++ (c ∷ []))) (k ++ (chain_list b' ++ f')) (D ++ ((canonical x ++ chain_list b') ++ f')) (ap (λ z. D ++ ((z ++ chain_list b') ++ f')) (ap canonical set ∙ is) ∙ regroup D f c k (chain_list b') f') t'))
  where
    regroup : (a b : List Change) (c : Change) (d e g : List Change) → a ++ (((b ++ (c ∷ d)) ++ e) ++ g) ≡ (a ++ (b ++ (c ∷ []))) ++ (d ++ (e ++ g))
    regroup a b c d e g = simp append_assoc
one_place D (x ∷ b) s r f c k [] s' r' f' c' k' same is is' t stop t' stop' =
    let set : x ≡ s' = cc (same) in
    absurd (stop' (prefix_taken (D ++ (f' ++ (c' ∷ []))) (k' ++ (chain_list b ++ f)) (D ++ ((canonical x ++ chain_list b) ++ f)) (ap (λ z. D ++ ((z ++ chain_list b) ++ f)) (ap canonical set ∙ is') ∙ regroup D f' c' k' (chain_list b) f) t))
  where
    regroup : (a b : List Change) (c : Change) (d e g : List Change) → a ++ (((b ++ (c ∷ d)) ++ e) ++ g) ≡ (a ++ (b ++ (c ∷ []))) ++ (d ++ (e ++ g))
    regroup a b c d e g = simp append_assoc
one_place D (x ∷ b) s r f c k (y ∷ b') s' r' f' c' k' same is is' t stop t' stop' =
    let set : y ≡ x = cc (same) in
    let tails : b ++ (s ∷ r) ≡ b' ++ (s' ∷ r') = cc (same) in
    let rest = one_place (D ++ canonical x) b s r f c k b' s' r' f' c' k' tails is is'
    (same_taken _ _ (sym (regroup D (canonical x) (chain_list b) f)) t) (λ h. stop (same_taken _ _ (regroup D (canonical x) (chain_list b) (f ++ (c ∷ []))) h))
    (same_taken _ _ (ap (λ z. D ++ ((canonical z ++ chain_list b') ++ f')) set ∙ sym (regroup D (canonical x) (chain_list b') f')) t')
    (λ h. stop' (same_taken _ _ (regroup D (canonical x) (chain_list b') (f' ++ (c' ∷ [])) ∙ ap (λ z. D ++ ((canonical z ++ chain_list b') ++ (f' ++ (c' ∷ [])))) (sym set)) h)) in
    (ap suc rest.0, rest.1)
  where
    regroup : (a b d e : List Change) → (a ++ b) ++ (d ++ e) ≡ a ++ ((b ++ d) ++ e)
    regroup a b d e = simp append_assoc

pub stop_once_law : (sets : List (List Change)) (number other : ℕ) (node place : Node) → StopsAt sets number node → StopsAt sets other place → (number ≡ other) × (node ≡ place)
stop_once_law sets number other node place s z =
    let one = one_place [] s.before s.set s.behind s.here.prefix s.here.last s.here.back z.before z.set z.behind z.here.prefix z.here.last z.here.back (sym s.sets_are ∙ z.sets_are) s.here.set_is z.here.set_is s.here.taken (λ h. s.here.stops (same_taken _ _ (sym (append_assoc (chain_list s.before) s.here.prefix (s.here.last ∷ []))) h)) z.here.taken (λ h. z.here.stops (same_taken _ _ (sym (append_assoc (chain_list z.before) z.here.prefix (z.here.last ∷ []))) h)) in
    (s.number_is ∙ ap (λ k. k + 1) one.0 ∙ sym z.number_is, s.here.node_is ∙ ap (λ x. x.node) one.1 ∙ sym z.here.node_is)
