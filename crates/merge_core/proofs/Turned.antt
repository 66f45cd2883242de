-- A turn keeps a board settled.
use Rattle.std.proofs.Common.{◌≡◌, ℕ, ◌<◌, refl, sym, subst, ◌∙◌, ◌⊎◌, inl, inr, List}
use Rattle.sync_path.specs.Paths.{Node}
use Rattle.sync_command.specs.Changes.{Change}
use Rattle.sync_command.specs.Trees.{Holding}
use Rattle.scan_board.specs.declared.board.Mark.{Mark}
use Rattle.scan_board.specs.declared.board.Mark.TheVariants.{Open, Taken, Blocked}
use Rattle.scan_board.specs.Tables.{Tables, State, IsSound, mark_of, command_count}
use Rattle.scan_board.specs.Settling.{IsSettled}
use Rattle.scan_board.proofs.CallerLemmas.{tell_equal}
use Rattle.merge_core.specs.Boards.{HasSet, IsTaken, IsTakenOr, IsSettledFor}
use Rattle.merge_core.proofs.DrawnBoards.{IsOf}
use Rattle.merge_core.proofs.Beside.{settled_to}

tell_open : (m : Mark) → (m ≡ Open) ⊎ ((m ≡ Open) → ⊥)
tell_open Open = inl refl
tell_open Taken = inr (λ e. cc)
tell_open Blocked = inr (λ e. cc)

pub turned : (s r : State) (own : ℕ) → IsSound s.tables → IsSound r.tables → own < command_count s.tables → r.tables ≡ s.tables → IsSettled r →
    ((i : ℕ) → i < command_count s.tables → (i ≡ own → ⊥) → mark_of r i ≡ Taken → mark_of s i ≡ Taken) → ((mark_of s own ≡ Open → ⊥) → r ≡ s) →
    (t : Holding) (drawn : List Change) (cmd : ℕ → Change) (path : ℕ → Node) → IsOf t drawn cmd path s.tables → IsSettledFor t drawn cmd s → IsSettledFor t drawn cmd r
turned s r own hs hr lo tables settled others stays t drawn cmd path h w = go (tell_open (mark_of s own))
  where
    go : (mark_of s own ≡ Open) ⊎ ((mark_of s own ≡ Open) → ⊥) → IsSettledFor t drawn cmd r
    go (inr a) = subst (λ x. IsSettledFor t drawn cmd x) (sym (stays a)) w
    go (inl e) = settled_to t drawn cmd path r hr (subst (λ (x : Tables). IsOf t drawn cmd path x) (sym tables) h) settled (subst (λ (x : Tables). HasSet t drawn cmd (command_count x) (IsTaken r)) (sym tables) (wider (w.free own lo (λ b. let z : Blocked ≡ Open = sym b ∙ e in cc (z)))))
      where
        wider : HasSet t drawn cmd (command_count s.tables) (IsTakenOr s own) → HasSet t drawn cmd (command_count s.tables) (IsTaken r)
        wider v = record { set = v.set; within = v.within; fits = v.fits; has = (λ i l m. v.has i l (pick i l m (tell_equal i own))) }
          where
            pick : (i : ℕ) → i < command_count s.tables → mark_of r i ≡ Taken → (i ≡ own) ⊎ ((i ≡ own) → ⊥) → (mark_of s i ≡ Taken) ⊎ (i ≡ own)
            pick i l m (inl same) = inr same
            pick i l m (inr apart) = inl (others i l apart m)
