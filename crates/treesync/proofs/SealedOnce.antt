-- Sealing a text over a tree that is known has one answer.
use Rattle.std.proofs.Common.{◌≡◌, ◌∙◌, Bool, true, false, ℕ, List, Some, Result, Ok, Err, refl, sym, ap, subst}
use Rattle.std.specs.Prelude.{IsErr, MatchBool}
use Rattle.sync_path.specs.Paths.{Node, comes_before, parts, same_path}
use Rattle.sync_path.proofs.CallerLemmas.{before_total, same_path_is}
use Rattle.sync_command.specs.declared.values.Version.{Version}
use Rattle.sync_command.specs.Changes.{Change}
use Rattle.sync_command.specs.Maps.{Store, at}
use Rattle.sync_command.specs.Trees.{Holding}
use Rattle.log_text.specs.declared.faults.TextFault.{TextFault}
use Rattle.log_text.specs.Logs.{log_of, log_text}
use Rattle.log_text.specs.OpenLogs.{ended_part}
use Rattle.canon_set.specs.Logs.{IsBrokenAt}
use Rattle.record_core.specs.Seals.{Diverges, FailsText, IsLogOf, IsSealed, OpenLog, SealsText}
use Rattle.record_core.specs.declared.faults.SealFault.{SealFault}
use Rattle.record_core.specs.declared.faults.SealFault.TheVariants as fault
use Rattle.record_core.proofs.CallerLemmas.{not_both, only_one}
use Rattle.treesync.specs.Seal.{IsFinding, IsSealing, seal_refusal}
use Rattle.treesync.specs.declared.refusal.Refusal.{Refusal}
use Rattle.treesync.proofs.BrokenLogs.{broken_once, not_broken}

-- ---- the log of a text

module _ {A : Type 0} where
  one_fault : (r : Result A TextFault) (f g : TextFault) → r ≡ Err f → r ≡ Err g → f ≡ g
  one_fault r f g e h = cc

  no_err : (c : A) → IsErr {T = A} {E = TextFault} (Ok c) → ⊥
  no_err c h = cc (h)

  read_or_not : (r : Result A TextFault) (a b : A) (x y : Bool) → MatchBool x (r ≡ Ok a) (IsErr r) → MatchBool y (r ≡ Ok b) (IsErr r) → x ≡ y
  read_or_not r a b true true p q = refl
  read_or_not (Ok c) a b true false p q = absurd (no_err c q)
  read_or_not (Err f) a b true false p q = absurd (cc (p))
  read_or_not (Ok c) a b false true p q = absurd (no_err c p)
  read_or_not (Err f) a b false true p q = absurd (cc (q))
  read_or_not r a b false false p q = refl

pub one_open : (text : List ℕ) (l k : OpenLog) → IsLogOf text l → IsLogOf text k → l ≡ k
one_open text l k p q =
    let version : l.version ≡ k.version = p.first ∙ sym q.first in
    let commands : l.commands ≡ k.commands = sym p.complete_commands ∙ q.complete_commands in
    let ended : l.ended ≡ k.ended = read_or_not (log_of (parts 10 (ended_part text))) (l.version, l.commands) (k.version, k.commands) l.ended k.ended p.end q.end in
    (λ i. record { version = version i; commands = commands i; ended = ended i })

-- ---- faults

one_diverged : (log : OpenLog) (t : Holding) (p q : Node) → Diverges log t p → Diverges log t q → p ≡ q
one_diverged log t p q a b = go (same_path p q) refl (comes_before p q) refl
  where
    go : (s : Bool) → same_path p q ≡ s → (e : Bool) → comes_before p q ≡ e → p ≡ q
    go true s e f = same_path_is p q s
    go false s true f = let no = b.first p a.here in absurd (cc (no, f))
    go false s false f = let no = a.first q b.here in let yes = before_total p q s f in absurd (cc (no, yes))

module _ (text : List ℕ) (m : Store) where
  -- what is found of a text is found of its log, where it has one
  of_log : (log : OpenLog) → IsLogOf text log → (f : TextFault) → FailsText text (Some m) (fault.Text f) → ⊥
  of_log log is f h = is.right f h

  broken_in : (log : OpenLog) → IsLogOf text log → (number : ℕ) (h : FailsText text (Some m) (fault.Broken number)) → h.0 ≡ log
  broken_in log is number h = one_open text h.0 log h.1.0 is

  diverged_in : (log : OpenLog) → IsLogOf text log → (p : Node) (h : FailsText text (Some m) (fault.Diverged p)) → h.0 ≡ log
  diverged_in log is p h = one_open text h.0 log h.1.0 is

  -- a text that is sealed has no finding
  pub no_finding : (version : Version) (sealed : List Change) → SealsText text (Some m) version sealed → (e : SealFault) → FailsText text (Some m) e → IsFinding e → ⊥
  no_finding version sealed s (fault.Text f) h is = s.read.right f h
  no_finding version sealed s (fault.Broken number) h is =
      not_broken s.log.commands number (subst (λ (log : OpenLog). IsBrokenAt log.commands number) (broken_in s.log s.read number h) h.1.1) s.answer.taken
  no_finding version sealed s (fault.Diverged p) h is =
      not_both s.log (at m) sealed p s.answer.is_sealed (subst (λ (log : OpenLog). Diverges log (at m) p) (diverged_in s.log s.read p h) h.1.1.2)
  no_finding version sealed s fault.Failed h is = is
  no_finding version sealed s fault.Denied h is = is
  no_finding version sealed s fault.Memory h is = is

  -- two findings are one
  one_finding : (e f : SealFault) → FailsText text (Some m) e → FailsText text (Some m) f → IsFinding e → IsFinding f → e ≡ f
  one_finding (fault.Text x) (fault.Text y) p q a b = ap fault.Text (one_fault (log_of (parts 10 (ended_part text))) x y p.0 q.0)
  one_finding (fault.Text x) (fault.Broken j) p q a b = absurd (of_log q.0 q.1.0 x p)
  one_finding (fault.Text x) (fault.Diverged y) p q a b = absurd (of_log q.0 q.1.0 x p)
  one_finding (fault.Broken i) (fault.Text y) p q a b = absurd (of_log p.0 p.1.0 y q)
  one_finding (fault.Broken i) (fault.Broken j) p q a b =
      let same : p.0 ≡ q.0 = one_open text p.0 q.0 p.1.0 q.1.0 in
      ap fault.Broken (broken_once q.0.commands i j (subst (λ (log : OpenLog). IsBrokenAt log.commands i) same p.1.1) q.1.1)
  one_finding (fault.Broken i) (fault.Diverged y) p q a b =
      let same : p.0 ≡ q.0 = one_open text p.0 q.0 p.1.0 q.1.0 in
      absurd (not_broken q.0.commands i (subst (λ (log : OpenLog). IsBrokenAt log.commands i) same p.1.1) q.1.1.0)
  one_finding (fault.Diverged x) (fault.Text y) p q a b = absurd (of_log p.0 p.1.0 y q)
  one_finding (fault.Diverged x) (fault.Broken j) p q a b =
      let same : q.0 ≡ p.0 = one_open text q.0 p.0 q.1.0 p.1.0 in
      absurd (not_broken p.0.commands j (subst (λ (log : OpenLog). IsBrokenAt log.commands j) same q.1.1) p.1.1.0)
  one_finding (fault.Diverged x) (fault.Diverged y) p q a b =
      let same : p.0 ≡ q.0 = one_open text p.0 q.0 p.1.0 q.1.0 in
      ap fault.Diverged (one_diverged q.0 (at m) x y (subst (λ (log : OpenLog). Diverges log (at m) x) same p.1.1.2) q.1.1.2)
  one_finding fault.Failed f p q a b = absurd a
  one_finding fault.Denied f p q a b = absurd a
  one_finding fault.Memory f p q a b = absurd a
  one_finding e fault.Failed p q a b = absurd b
  one_finding e fault.Denied p q a b = absurd b
  one_finding e fault.Memory p q a b = absurd b

-- ---- the answer

module _ (folder word : ℕ) (m : Store) (text : List ℕ) where
  one_text : (version other : Version) (sealed list : List Change) → SealsText text (Some m) version sealed → SealsText text (Some m) other list → log_text version sealed ≡ log_text other list
  one_text version other sealed list s r =
      let same : s.log ≡ r.log = one_open text s.log r.log s.read r.read in
      let versions : version ≡ other = s.same_version ∙ ap (λ (log : OpenLog). log.version) same ∙ sym r.same_version in
      let lists : sealed ≡ list = only_one r.log (at m) sealed list r.answer.change (subst (λ (log : OpenLog). IsSealed log (at m) sealed) same s.answer.is_sealed) r.answer.is_sealed in
      (λ i. log_text (versions i) (lists i))

  pub sealing_once : (one other : Result (List ℕ) Refusal) → IsSealing folder word (Some m) text false one → IsSealing folder word (Some m) text false other → one ≡ other
  sealing_once (Ok one) (Ok other) p q = ap Ok (p.3 ∙ one_text p.0 q.0 p.1 q.1 p.2 q.2 ∙ sym q.3)
  sealing_once (Ok one) (Err r) p q = absurd (no_finding text m p.0 p.1 p.2 q.0 q.2 q.3)
  sealing_once (Err r) (Ok other) p q = absurd (no_finding text m q.0 q.1 q.2 p.0 p.2 p.3)
  sealing_once (Err r) (Err s) p q = ap Err (p.1 ∙ ap (seal_refusal folder word) (one_finding text m p.0 q.0 p.2 q.2 p.3 q.3) ∙ sym q.1)
