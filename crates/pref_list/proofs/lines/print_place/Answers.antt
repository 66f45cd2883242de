use Rattle.std.proofs.Common.{◌≡◌, ℕ, List, ◌++◌, length, take, Result, Ok, Err, OnErr, ap, ◌∙◌, append_assoc}
use Rattle.std.proofs.Math.Seq.{take-append_seam}
use Rattle.sync_path.proofs.CallerLemmas.{kept_on}
use Rattle.pref_list.proofs.lines.print_place.Goals as goal

kept_through : {E : Type 0} (a b c d x y : List ℕ) (r : Result (Unit {0}) E) → b ≡ a ++ x → c ≡ b ++ y → OnErr r (take (length c) d ≡ c) → OnErr r (take (length a) d ≡ a)
kept_through a b c d x y (Ok u) e f h = tt
kept_through a b c d x y (Err fault) e f h =
    let all : c ≡ a ++ (x ++ y) = f ∙ ap (λ l. l ++ y) e ∙ append_assoc a x y in
    kept_on a c d (ap (take (length a)) all ∙ take-append_seam a (x ++ y)) h

pub returns-clause-err : goal.returns-clause-err
returns-clause-err c = kept_through _ _ _ _ _ _ c.print_to.result c.in_ok-print_log.ensures.ok c.in_ok-push.ensures.items c.print_to.ensures.err
