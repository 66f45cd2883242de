-- Single lines of a text.
use Rattle.std.proofs.Common.{true, false, ◌≡◌, ◌≢◌, ℕ, ◌+◌, ◌<◌, List, [], ◌∷◌, ◌++◌, length, refl, ap, ◌∙◌, arith, Some, None, cond, nat_eq, ⊎_elim}
use Rattle.std.specs.List.{onto_first}
use Rattle.std.proofs.lemmas.Bool.{cases_Bool}
use Rattle.sync_path.specs.Paths.{parts}
use Rattle.sync_path.proofs.CallerLemmas.{parts-some}
use Rattle.log_text.specs.declared.faults.TextKind.TheVariants as kind
use Rattle.log_text.specs.Frame.{Judge, body_of, at_line, after_end, end_number, fault_at}

step_at : {X : Type 0} (judge : Judge X) (xs : List X) (line : List ℕ) (lines : List (List ℕ)) → 0 < length lines
    → body_of judge xs (line ∷ lines) ≡ at_line xs (end_number (parts 32 line)) (judge xs (parts 32 line)) lines (λ x. body_of judge (xs ++ x ∷ []) lines)
unfolding body_of
step_at judge xs line [] h = absurd (omega arith)
step_at judge xs line (next ∷ lines) h = refl

-- a line with its line feed is judged first
pub body_step : {X : Type 0} (judge : Judge X) (xs : List X) (rest line after : List ℕ) → parts 10 rest ≡ line ∷ parts 10 after
    → body_of judge xs (parts 10 rest) ≡ at_line xs (end_number (parts 32 line)) (judge xs (parts 32 line)) (parts 10 after) (λ x. body_of judge (xs ++ x ∷ []) (parts 10 after))
body_step judge xs rest line after e = ap (body_of judge xs) e ∙ step_at judge xs line (parts 10 after) (parts-some 10 after)

-- ---- after the end line

more_after : (k x : ℕ) (p : List (List ℕ)) → 0 < length p → Some (fault_at (k + 1) kind.After) ≡ after_end k (cond (nat_eq x 10) ([] ∷ p) (onto_first x p))
more_after k x [] h = absurd (omega arith)
more_after k x (n ∷ ns) h =
    ⊎_elim
    (λ (t : nat_eq x 10 ≡ true). rw t refl)
    (λ (f : nat_eq x 10 ≡ false). rw f refl)
    (cases_Bool (nat_eq x 10))

pub something_after : (k : ℕ) (after : List ℕ) → 0 < length after → Some (fault_at (k + 1) kind.After) ≡ after_end k (parts 10 after)
unfolding parts
something_after k [] h = absurd (omega arith)
something_after k (x ∷ after) h = more_after k x (parts 10 after) (parts-some 10 after)

-- ---- fields

no_end_at : (a b : List ℕ) (p : List (List ℕ)) → 0 < length p → end_number (a ∷ b ∷ p) ≡ None
no_end_at a b [] h = absurd (omega arith)
no_end_at a b (x ∷ p) h = refl

-- a line of more than three fields
pub many_fields : (line a b c more middle rest : List ℕ) → parts 32 line ≡ a ∷ parts 32 more → parts 32 more ≡ b ∷ parts 32 middle → parts 32 middle ≡ c ∷ parts 32 rest
    → (end_number (parts 32 line) ≡ None) × (length (parts 32 line) ≢ 2) × (length (parts 32 line) ≢ 3)
many_fields line a b c more middle rest e f g =
    let all : parts 32 line ≡ a ∷ b ∷ c ∷ parts 32 rest = e ∙ ap (λ p. a ∷ p) (f ∙ ap (λ p. b ∷ p) g) in
    let some = parts-some 32 rest in
    let count : length (parts 32 line) ≡ length (a ∷ b ∷ c ∷ parts 32 rest) = ap length all in
    (ap end_number all ∙ no_end_at a b (c ∷ parts 32 rest) (omega arith), (λ h. omega arith), (λ h. omega arith))
