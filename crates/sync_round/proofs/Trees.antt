-- What holds of each tree of a list, and walks over the list by the place.
use Rattle.std.proofs.Common.{◌≡◌, ◌<◌, ◌≤◌, ◌+◌, ℕ, zero, suc, List, [], ◌∷◌, length, get_or, refl, sym, ap, subst, ◌∙◌, arith}
use Rattle.std.specs.Prelude.{slice_set}
use Rattle.sync_command.specs.Changes.{Change}
use Rattle.tree_port.specs.States.{TreeState}
use Rattle.sync_round.specs.Rounding.{AddsUp, AtPlace, EachTree, IsReadyIfKnown}
use Rattle.sync_round.specs.Walking.{AreReadyIfKnown}

-- a relation of a tree before and after, by its set, and one with a number
abbrev pub OfTree : Type 1
OfTree = List Change → TreeState → TreeState → Type 0

abbrev pub OfCounted : Type 1
OfCounted = ℕ → List Change → TreeState → TreeState → Type 0

-- ---- lists of trees

pub each_more : {P Q : OfTree} (css : List (List Change)) (a b : List TreeState) → ((cs : List Change) (t u : TreeState) → P cs t u → Q cs t u) → EachTree P css a b → EachTree Q css a b
each_more [] [] [] f p = tt
each_more [] [] (u ∷ b) f p = absurd p
each_more [] (t ∷ a) b f p = absurd p
each_more (cs ∷ css) [] b f p = absurd p
each_more (cs ∷ css) (t ∷ a) [] f p = absurd p
each_more (cs ∷ css) (t ∷ a) (u ∷ b) f p = (f cs t u p.0, each_more css a b f p.1)

pub each_then : {P Q R : OfTree} (css : List (List Change)) (a b c : List TreeState) → ((cs : List Change) (t u v : TreeState) → P cs t u → Q cs u v → R cs t v) → EachTree P css a b → EachTree Q css b c → EachTree R css a c
each_then [] [] [] [] f p q = tt
each_then [] [] [] (v ∷ c) f p q = absurd q
each_then [] [] (u ∷ b) c f p q = absurd p
each_then [] (t ∷ a) b c f p q = absurd p
each_then (cs ∷ css) [] b c f p q = absurd p
each_then (cs ∷ css) (t ∷ a) [] c f p q = absurd p
each_then (cs ∷ css) (t ∷ a) (u ∷ b) [] f p q = absurd q
each_then (cs ∷ css) (t ∷ a) (u ∷ b) (v ∷ c) f p q = (f cs t u v p.0 q.0, each_then css a b c f p.1 q.1)

pub adds_then : {P : OfTree} {Q R : OfCounted} (total : ℕ) (css : List (List Change)) (a b c : List TreeState) → ((k : ℕ) (cs : List Change) (t u v : TreeState) → P cs t u → Q k cs u v → R k cs t v) → EachTree P css a b → AddsUp Q total css b c → AddsUp R total css a c
adds_then total [] [] [] [] f p q = q
adds_then total [] [] [] (v ∷ c) f p q = absurd q
adds_then total [] [] (u ∷ b) c f p q = absurd p
adds_then total [] (t ∷ a) b c f p q = absurd p
adds_then total (cs ∷ css) [] b c f p q = absurd p
adds_then total (cs ∷ css) (t ∷ a) [] c f p q = absurd p
adds_then total (cs ∷ css) (t ∷ a) (u ∷ b) [] f p q = absurd q
adds_then total (cs ∷ css) (t ∷ a) (u ∷ b) (v ∷ c) f p (k, rest, e, here, more) =
    (k, rest, e, f k cs t u v p.0 here, adds_then rest css a b c f p.1 more)

pub adds_more : {P Q : OfCounted} (total : ℕ) (css : List (List Change)) (a b : List TreeState) → ((k : ℕ) (cs : List Change) (t u : TreeState) → P k cs t u → Q k cs t u) → AddsUp P total css a b → AddsUp Q total css a b
adds_more total [] [] [] f p = p
adds_more total [] [] (u ∷ b) f p = absurd p
adds_more total [] (t ∷ a) b f p = absurd p
adds_more total (cs ∷ css) [] b f p = absurd p
adds_more total (cs ∷ css) (t ∷ a) [] f p = absurd p
adds_more total (cs ∷ css) (t ∷ a) (u ∷ b) f (k, rest, e, here, more) = (k, rest, e, f k cs t u here, adds_more rest css a b f more)

pub adds_each : {P : OfCounted} {R : OfTree} (total : ℕ) (css : List (List Change)) (a b : List TreeState) → ((k : ℕ) (cs : List Change) (t u : TreeState) → P k cs t u → R cs t u) → AddsUp P total css a b → EachTree R css a b
adds_each total [] [] [] f p = tt
adds_each total [] [] (u ∷ b) f p = absurd p
adds_each total [] (t ∷ a) b f p = absurd p
adds_each total (cs ∷ css) [] b f p = absurd p
adds_each total (cs ∷ css) (t ∷ a) [] f p = absurd p
adds_each total (cs ∷ css) (t ∷ a) (u ∷ b) f (k, rest, e, here, more) = (f k cs t u here, adds_each rest css a b f more)

pub at_then : {P Q R : OfTree} (place : ℕ) (css : List (List Change)) (a b c : List TreeState) → ((cs : List Change) (t u v : TreeState) → P cs t u → Q cs u v → R cs t v) → ((cs : List Change) (t u : TreeState) → P cs t u → IsReadyIfKnown cs t) →
    EachTree P css a b → AtPlace Q place css b c → AtPlace R place css a c
at_then zero [] [] [] c f ready p q = absurd q
at_then zero [] [] (u ∷ b) c f ready p q = absurd p
at_then zero [] (t ∷ a) b c f ready p q = absurd p
at_then zero (cs ∷ css) [] b c f ready p q = absurd p
at_then zero (cs ∷ css) (t ∷ a) [] c f ready p q = absurd p
at_then zero (cs ∷ css) (t ∷ a) (u ∷ b) [] f ready p q = absurd q
at_then zero (cs ∷ css) (t ∷ a) (u ∷ b) (v ∷ c) f ready p q = f cs t u v p.0 q
at_then (suc place) [] [] [] c f ready p q = absurd q
at_then (suc place) [] [] (u ∷ b) c f ready p q = absurd p
at_then (suc place) [] (t ∷ a) b c f ready p q = absurd p
at_then (suc place) (cs ∷ css) [] b c f ready p q = absurd p
at_then (suc place) (cs ∷ css) (t ∷ a) [] c f ready p q = absurd p
at_then (suc place) (cs ∷ css) (t ∷ a) (u ∷ b) [] f ready p q = absurd q
at_then (suc place) (cs ∷ css) (t ∷ a) (u ∷ b) (v ∷ c) f ready p q = (ready cs t u p.0, at_then place css a b c f ready p.1 q.1)

-- trees that are ready, and what then holds of each beside itself
pub each_alone : (R : OfTree) (css : List (List Change)) (a : List TreeState) → ((cs : List Change) (t : TreeState) → IsReadyIfKnown cs t → R cs t t) → AreReadyIfKnown css a → EachTree R css a a
each_alone R [] [] f p = tt
each_alone R [] (t ∷ a) f p = absurd p
each_alone R (cs ∷ css) [] f p = absurd p
each_alone R (cs ∷ css) (t ∷ a) f p = (f cs t p.0, each_alone R css a f p.1)

pub each_ready : {P : OfTree} (css : List (List Change)) (a b : List TreeState) → ((cs : List Change) (t u : TreeState) → P cs t u → IsReadyIfKnown cs u) → EachTree P css a b → AreReadyIfKnown css b
each_ready [] [] [] f p = tt
each_ready [] [] (u ∷ b) f p = absurd p
each_ready [] (t ∷ a) b f p = absurd p
each_ready (cs ∷ css) [] b f p = absurd p
each_ready (cs ∷ css) (t ∷ a) [] f p = absurd p
each_ready (cs ∷ css) (t ∷ a) (u ∷ b) f p = (f cs t u p.0, each_ready css a b f p.1)

-- the same of as many trees as sets, whatever they hold
pub each_same : (R : OfTree) (css : List (List Change)) (a : List TreeState) → length css ≡ length a → ((cs : List Change) (t : TreeState) → R cs t t) → EachTree R css a a
each_same R [] [] many f = tt
each_same R [] (t ∷ a) many f = absurd (omega (arith, many))
each_same R (cs ∷ css) [] many f = absurd (omega (arith, many))
each_same R (cs ∷ css) (t ∷ a) many f = (f cs t, each_same R css a (omega (arith, many)) f)

-- ---- a walk up to a place

-- P of the trees before the place, each with a number, which are added up; the others are as they were
abbrev pub FirstOnes : OfCounted → ℕ → ℕ → List (List Change) → List TreeState → List TreeState → Type 0
FirstOnes P zero total css a b = (b ≡ a) × (length css ≡ length a) × (total ≡ 0)
FirstOnes P (suc i) total [] a b = ⊥
FirstOnes P (suc i) total (cs ∷ css) [] b = ⊥
FirstOnes P (suc i) total (cs ∷ css) (t ∷ a) [] = ⊥
FirstOnes P (suc i) total (cs ∷ css) (t ∷ a) (u ∷ b) = (k : ℕ) × (rest : ℕ) × (total ≡ k + rest) × P k cs t u × FirstOnes P i rest css a b

first_more : (P : OfCounted) (i total k : ℕ) (css : List (List Change)) (a b : List TreeState) (s d : TreeState) → i < length css → FirstOnes P i total css a b → P k (get_or css i []) (get_or b i d) s → FirstOnes P (suc i) (total + k) css a (slice_set b i s)
first_more P zero total k [] a b s d low h p = absurd (omega (arith, low))
first_more P zero total k (cs ∷ css) [] b s d low h p = absurd (omega (arith, h.1))
first_more P zero total k (cs ∷ css) (t ∷ a) b s d low h p =
    subst (λ l. FirstOnes P (suc zero) (total + k) (cs ∷ css) (t ∷ a) (slice_set l zero s)) (sym h.0)
    (k, 0, omega (arith, h.2), subst (λ l. P k cs (get_or l zero d) s) h.0 p, (refl, omega (arith, h.1), refl))
first_more P (suc i) total k [] a b s d low h p = absurd h
first_more P (suc i) total k (cs ∷ css) [] b s d low h p = absurd h
first_more P (suc i) total k (cs ∷ css) (t ∷ a) [] s d low h p = absurd h
first_more P (suc i) total k (cs ∷ css) (t ∷ a) (u ∷ b) s d low (x, rest, e, here, more) p =
    (x, rest + k, omega (arith, e), here, first_more P i rest k css a b s d (omega (arith, low)) more p)

-- one tree further
pub first_next : (P : OfCounted) (i j total k next : ℕ) (css : List (List Change)) (a b : List TreeState) (s d : TreeState) → j ≡ i + 1 → next ≡ total + k → i < length css → FirstOnes P i total css a b → P k (get_or css i []) (get_or b i d) s → FirstOnes P j next css a (slice_set b i s)
first_next P i j total k next css a b s d e f low h p =
    let g : j ≡ suc i = omega (arith, e) in
    subst (λ x. FirstOnes P x next css a (slice_set b i s)) (sym g) (subst (λ x. FirstOnes P (suc i) x css a (slice_set b i s)) (sym f) (first_more P i total k css a b s d low h p))

-- all of them
pub first_all : (P : OfCounted) (i total : ℕ) (css : List (List Change)) (a b : List TreeState) → length css ≤ i → FirstOnes P i total css a b → AddsUp P total css a b
first_all P zero total [] [] b low h = subst (λ l. AddsUp P total [] [] l) (sym h.0) h.2
first_all P zero total [] (t ∷ a) b low h = absurd (omega (arith, h.1))
first_all P zero total (cs ∷ css) a b low h = absurd (omega (arith, low))
first_all P (suc i) total [] a b low h = absurd h
first_all P (suc i) total (cs ∷ css) [] b low h = absurd h
first_all P (suc i) total (cs ∷ css) (t ∷ a) [] low h = absurd h
first_all P (suc i) total (cs ∷ css) (t ∷ a) (u ∷ b) low (k, rest, e, here, more) = (k, rest, e, here, first_all P i rest css a b (omega (arith, low)) more)

-- what holds of each so far
pub each_first : {P : OfCounted} {R : OfTree} (i total : ℕ) (css : List (List Change)) (a b : List TreeState) → ((k : ℕ) (cs : List Change) (t u : TreeState) → P k cs t u → R cs t u) → EachTree R css a a → FirstOnes P i total css a b → EachTree R css a b
each_first {R = R} zero total css a b f alone h = subst (λ l. EachTree R css a l) (sym h.0) alone
each_first (suc i) total [] a b f alone h = absurd h
each_first (suc i) total (cs ∷ css) [] b f alone h = absurd h
each_first (suc i) total (cs ∷ css) (t ∷ a) [] f alone h = absurd h
each_first (suc i) total (cs ∷ css) (t ∷ a) (u ∷ b) f alone (k, rest, e, here, more) = (f k cs t u here, each_first i rest css a b f alone.1 more)

-- and with one tree more, at the place
pub each_stop : {P : OfCounted} {R : OfTree} (i total : ℕ) (css : List (List Change)) (a b : List TreeState) (s d : TreeState) → ((k : ℕ) (cs : List Change) (t u : TreeState) → P k cs t u → R cs t u) → EachTree R css a a → i < length css → FirstOnes P i total css a b →
    R (get_or css i []) (get_or b i d) s → EachTree R css a (slice_set b i s)
each_stop zero total [] a b s d f alone low h r = absurd (omega (arith, low))
each_stop zero total (cs ∷ css) [] b s d f alone low h r = absurd alone
each_stop {R = R} zero total (cs ∷ css) (t ∷ a) b s d f alone low h r =
    subst (λ l. EachTree R (cs ∷ css) (t ∷ a) (slice_set l zero s)) (sym h.0) (subst (λ l. R cs (get_or l zero d) s) h.0 r, alone.1)
each_stop (suc i) total [] a b s d f alone low h r = absurd h
each_stop (suc i) total (cs ∷ css) [] b s d f alone low h r = absurd h
each_stop (suc i) total (cs ∷ css) (t ∷ a) [] s d f alone low h r = absurd h
each_stop (suc i) total (cs ∷ css) (t ∷ a) (u ∷ b) s d f alone low (k, rest, e, here, more) r =
    (f k cs t u here, each_stop i rest css a b s d f alone.1 (omega (arith, low)) more r)

-- the tree at the place, and those before it
pub at_stop : {P : OfCounted} (Q : OfTree) (i total : ℕ) (css : List (List Change)) (a b : List TreeState) (s d : TreeState) → ((k : ℕ) (cs : List Change) (t u : TreeState) → P k cs t u → IsReadyIfKnown cs t) → i < length css → FirstOnes P i total css a b →
    Q (get_or css i []) (get_or b i d) s → AtPlace Q i css a (slice_set b i s)
at_stop Q zero total [] a b s d f low h q = absurd (omega (arith, low))
at_stop Q zero total (cs ∷ css) [] b s d f low h q = absurd (omega (arith, h.1))
at_stop Q zero total (cs ∷ css) (t ∷ a) b s d f low h q =
    subst (λ l. AtPlace Q zero (cs ∷ css) (t ∷ a) (slice_set l zero s)) (sym h.0) (subst (λ l. Q cs (get_or l zero d) s) h.0 q)
at_stop Q (suc i) total [] a b s d f low h q = absurd h
at_stop Q (suc i) total (cs ∷ css) [] b s d f low h q = absurd h
at_stop Q (suc i) total (cs ∷ css) (t ∷ a) [] s d f low h q = absurd h
at_stop Q (suc i) total (cs ∷ css) (t ∷ a) (u ∷ b) s d f low (k, rest, e, here, more) q =
    (f k cs t u here, at_stop Q i rest css a b s d f (omega (arith, low)) more q)

-- the tree at a place that is still to come is ready
pub ready_at : (P : OfCounted) (i total : ℕ) (css : List (List Change)) (a b : List TreeState) (d : TreeState) → i < length css → AreReadyIfKnown css a → FirstOnes P i total css a b → IsReadyIfKnown (get_or css i []) (get_or b i d)
ready_at P zero total [] a b d low ready h = absurd (omega (arith, low))
ready_at P zero total (cs ∷ css) [] b d low ready h = absurd ready
ready_at P zero total (cs ∷ css) (t ∷ a) b d low ready h = subst (λ l. IsReadyIfKnown cs (get_or l zero d)) (sym h.0) ready.0
ready_at P (suc i) total [] a b d low ready h = absurd h
ready_at P (suc i) total (cs ∷ css) [] b d low ready h = absurd h
ready_at P (suc i) total (cs ∷ css) (t ∷ a) [] d low ready h = absurd h
ready_at P (suc i) total (cs ∷ css) (t ∷ a) (u ∷ b) d low ready (k, rest, e, here, more) = ready_at P i rest css a b d (omega (arith, low)) ready.1 more

pub many_first : (P : OfCounted) (i total : ℕ) (css : List (List Change)) (a b : List TreeState) → FirstOnes P i total css a b → length css ≡ length b
many_first P zero total css a b h = h.1 ∙ ap length (sym h.0)
many_first P (suc i) total [] a b h = absurd h
many_first P (suc i) total (cs ∷ css) [] b h = absurd h
many_first P (suc i) total (cs ∷ css) (t ∷ a) [] h = absurd h
many_first P (suc i) total (cs ∷ css) (t ∷ a) (u ∷ b) (k, rest, e, here, more) = ap suc (many_first P i rest css a b more)
