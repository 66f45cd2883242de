-- Lines that are written as they come, through a block.
use Rattle.std.proofs.Common.{◌≡◌, ◌≤◌, ◌++◌, ℕ, zero, suc, List, [], ◌∷◌, take, drop, length, Ok, Err, refl, sym, ap, subst, ◌∙◌, arith, append_assoc, append-nil, take-append-drop}
use Rattle.std.proofs.Math.Seq.{take-append_seam, take-length}
use Rattle.sync_command.specs.declared.commands.Row.{Row}
use Rattle.refluent.specs.Joints.{path_at}
use Rattle.sync_port.specs.States.{IfKnown}
use Rattle.sync_port.specs.Ports.{Flushes, SinkContents, SinkState}
use Rattle.sync_port.specs.Sending.{Passes, Sends}
use Rattle.sync_port.specs.declared.faults.SinkFailed.{SinkFailed}
use Rattle.sync_port.proofs.CallerLemmas.{both_alone, both_more, both_then}
use Rattle.std.proofs.lemmas.Bool.Decides.{nat_tests}
use Rattle.treesync.specs.Ends.{Printed, PrintsAll, end_line}
use Rattle.treesync.specs.Outputs.{ClashLines, status_in}
use Rattle.clash_list.specs.declared.clashes.Clash.{Clash}
use Rattle.treesync.specs.Conflicts.{lines_of, node_text}
use Rattle.treesync.specs.Writing.{PassesOn, WritesAll, WritesLines}
use Rattle.treesync.specs.declared.writing.WriteFault.{WriteFault}
use Rattle.treesync.proofs.Sending.{first_beyond, first_of_both}

-- no node stands at a place past the last
pub no_node : (nodes : List Row) (place : ℕ) → length nodes ≤ place → node_text (path_at nodes place) ≡ []
no_node [] place h = refl
no_node (row ∷ rows) zero h = absurd (omega (arith, h))
no_node (row ∷ rows) (suc place) h = no_node rows place (omega (arith, h))

pub nothing_pushed : (nodes : List Row) (place : ℕ) (bytes : List ℕ) → length nodes ≤ place → bytes ≡ bytes ++ node_text (path_at nodes place)
nothing_pushed nodes place bytes h = sym (append-nil bytes) ∙ ap (λ l. bytes ++ l) (sym (no_node nodes place h))

-- a line for each clash
pub lined : (nodes : List Row) (all : List Clash) → length (lines_of nodes all) ≡ length all
lined nodes [] = refl
lined nodes (clash ∷ rest) = ap suc (lined nodes rest)

-- ---- what is passed on

passes_none : (bytes : List ℕ) (m : SinkContents) → Passes bytes bytes m m
passes_none bytes m = ([], sym (append-nil m.written), refl, refl)

-- after the block comes one more part of what was left
passes_part : (whole block part more now : List ℕ) (m k j : SinkContents) → Passes whole (block ++ (part ++ more)) m k → Passes (block ++ part) now k j → Passes whole (now ++ more) m j
passes_part whole block part more now m k j p q =
    let left : block ++ (part ++ more) ≡ q.0 ++ (now ++ more) = sym (append_assoc block part more) ∙ ap (λ l. l ++ more) q.2 ∙ append_assoc q.0 now more in (
      p.0 ++ q.0,
      q.1 ∙ ap (λ l. l ++ q.0) p.1 ∙ append_assoc m.written p.0 q.0,
      p.2 ∙ ap (λ l. p.0 ++ l) left ∙ sym (append_assoc p.0 q.0 (now ++ more)),
      q.3 ∙ p.3,
    )

-- what was passed on is the first bytes
passes_first : (whole rest : List ℕ) (m k : SinkContents) → Passes whole rest m k → (n : ℕ) × (k.written ≡ m.written ++ take n whole)
passes_first whole rest m k p = (length p.0, p.1 ∙ ap (λ l. m.written ++ l) (sym (take-append_seam p.0 rest) ∙ ap (take (length p.0)) (sym p.2)))

-- ---- a block

pub none_sent : (state : SinkState) (bytes : List ℕ) → IfKnown state state (PassesOn {T = Unit {0}} {E = SinkFailed} bytes bytes (Ok tt))
none_sent state bytes = both_alone (Passes bytes bytes) state.contents (passes_none bytes)

pub block_sent : (before now : SinkState) (sent bytes left : List ℕ) (done : Unit {0}) → sent ≡ bytes → left ≡ [] → IfKnown before now (Sends sent (Ok done)) → IfKnown before now (PassesOn {T = Unit {0}} {E = SinkFailed} bytes left (Ok tt))
block_sent before now sent bytes left done e f h =
    both_more before.contents now.contents h (λ m k s. (bytes, s.0 ∙ ap (λ l. m.written ++ l) e, sym (append-nil bytes) ∙ ap (λ l. bytes ++ l) (sym f), s.1))

pub block_failed : (before now : SinkState) (sent bytes left : List ℕ) (failed : SinkFailed) → sent ≡ bytes → IfKnown before now (Sends {T = Unit {0}} sent (Err failed)) →
    IfKnown before now (PassesOn {T = Unit {0}} {E = SinkFailed} bytes left (Err failed))
block_failed before now sent bytes left failed e h =
    both_more before.contents now.contents h (λ m k s. (drop s.0.0 sent, (take s.0.0 sent, s.0.1, sym e ∙ sym (take-append-drop s.0.0 sent), s.1)))

-- ---- lines

-- nothing of the line was written
pub line_wanted : (state : SinkState) (bytes left : List ℕ) (fault : WriteFault) → IfKnown state state (PassesOn {T = Unit {0}} bytes left (Err fault))
line_wanted state bytes left fault = both_alone (λ m k. (rest : List ℕ) × Passes bytes rest m k) state.contents (λ m. (bytes, passes_none bytes m))

module _ (T : Type 0) (before mid now : SinkState) (whole block part more : List ℕ) (h : IfKnown before mid (Passes whole (block ++ (part ++ more)))) where
  pub line_passed : (left : List ℕ) (done : T) → IfKnown mid now (PassesOn {T = T} {E = WriteFault} (block ++ part) left (Ok done)) → IfKnown before now (Passes whole (left ++ more))
  line_passed left done w = both_then before.contents mid.contents now.contents h w (λ m k j p q. passes_part whole block part more left m k j p q)

  pub line_stopped : (left : List ℕ) (fault : WriteFault) → IfKnown mid now (PassesOn {T = T} (block ++ part) left (Err fault)) → IfKnown before now (λ m k. (rest : List ℕ) × Passes whole rest m k)
  line_stopped left fault w = both_then before.contents mid.contents now.contents h w (λ m k j p q. (q.0 ++ more, passes_part whole block part more q.0 m k j p q.1))

pub lines_begin : (state : SinkState) (bytes : List ℕ) → IfKnown state state (Passes bytes bytes)
lines_begin state bytes = both_alone (Passes bytes bytes) state.contents (passes_none bytes)

pub lines_end : (before now : SinkState) (whole block : List ℕ) → IfKnown before now (Passes whole (block ++ [])) → IfKnown before now (Passes whole block)
lines_end before now whole block h = subst (λ l. IfKnown before now (Passes whole l)) (append-nil block) h

-- it stopped after a line
pub lines_stopped : (before now : SinkState) (whole rest left : List ℕ) (fault : WriteFault) → IfKnown before now (Passes whole rest) → IfKnown before now (PassesOn {T = ℕ} whole left (Err fault))
lines_stopped before now whole rest left fault h = both_more before.contents now.contents h (λ m k p. (rest, p))

-- ---- the whole text

pub none_written : (state : SinkState) (bytes : List ℕ) (fault : WriteFault) → IfKnown state state (WritesAll {T = ℕ} bytes (Err fault))
none_written state bytes fault = both_alone (WritesAll {T = ℕ} bytes (Err fault)) state.contents (λ m. passes_first bytes bytes m m (passes_none bytes m))

pub number_wanted : (state : SinkState) (bytes : List ℕ) (fault : WriteFault) → IfKnown state state (WritesAll {T = Unit {0}} bytes (Err fault))
number_wanted state bytes fault = both_alone (WritesAll {T = Unit {0}} bytes (Err fault)) state.contents (λ m. passes_first bytes bytes m m (passes_none bytes m))

pub number_sent : (before now : SinkState) (sent bytes : List ℕ) (done : Unit {0}) → sent ≡ bytes → IfKnown before now (Sends sent (Ok done)) → IfKnown before now (WritesAll {T = Unit {0}} {E = WriteFault} bytes (Ok tt))
number_sent before now sent bytes done e h = both_more before.contents now.contents h (λ m k s. s.0 ∙ ap (λ l. m.written ++ l) e)

pub number_failed : (before now : SinkState) (sent bytes : List ℕ) (failed : SinkFailed) (fault : WriteFault) → sent ≡ bytes → IfKnown before now (Sends {T = Unit {0}} sent (Err failed)) →
    IfKnown before now (WritesAll {T = Unit {0}} bytes (Err fault))
number_failed before now sent bytes failed fault e h = both_more before.contents now.contents h (λ m k s. (s.0.0, s.0.1 ∙ ap (λ l. m.written ++ take s.0.0 l) e))

-- the lines stopped before the end line
pub text_stopped : (before now : SinkState) (block lines end : List ℕ) (fault : WriteFault) → block ≡ [] → IfKnown before now (λ m k. (rest : List ℕ) × Passes (block ++ lines) rest m k) →
    IfKnown before now (WritesAll {T = ℕ} (lines ++ end) (Err fault))
text_stopped before now block lines end fault e h =
    both_more before.contents now.contents h (λ m k p.
    let n = passes_first lines p.0 m k (subst (λ b. Passes (b ++ lines) p.0 m k) e p.1) in
    let more = first_of_both lines end n.0 in
    (more.0, n.1 ∙ ap (λ l. m.written ++ l) (sym more.1)))

-- the block that the lines left was written, and the end line after it
after_lines : (begun lines block end : List ℕ) (m k : SinkContents) → begun ≡ [] → Passes (begun ++ lines) block m k → (first : List ℕ) × (k.written ≡ m.written ++ first) × (lines ++ end ≡ first ++ (block ++ end))
after_lines begun lines block end m k e p = (p.0, p.1, ap (λ l. l ++ end) (ap (λ b. b ++ lines) (sym e) ∙ p.2) ∙ append_assoc p.0 block end)

module _ (before mid now : SinkState) (begun lines block end : List ℕ) (e : begun ≡ []) (h : IfKnown before mid (Passes (begun ++ lines) block)) where
  pub text_written : (done : Unit {0}) (number : ℕ) → IfKnown mid now (WritesAll {E = WriteFault} (block ++ end) (Ok done)) → IfKnown before now (WritesAll {E = WriteFault} (lines ++ end) (Ok number))
  text_written done number w =
      both_then before.contents mid.contents now.contents h w (λ m k j p q.
      let a = after_lines begun lines block end m k e p in
      q ∙ ap (λ l. l ++ (block ++ end)) a.1 ∙ append_assoc m.written a.0 (block ++ end) ∙ ap (λ l. m.written ++ l) (sym a.2))

  pub text_failed : (fault other : WriteFault) → IfKnown mid now (WritesAll {T = Unit {0}} (block ++ end) (Err fault)) → IfKnown before now (WritesAll {T = ℕ} (lines ++ end) (Err other))
  text_failed fault other w =
      both_then before.contents mid.contents now.contents h w (λ m k j p q.
      let a = after_lines begun lines block end m k e p in
      let more = first_beyond a.0 (block ++ end) q.0 in (
        more.0,
        q.1 ∙ ap (λ l. l ++ take q.0 (block ++ end)) a.1 ∙ append_assoc m.written a.0 (take q.0 (block ++ end)) ∙ ap (λ l. m.written ++ l) (sym more.1 ∙ ap (take more.0) (sym a.2)),
      ))

-- ---- and flushed

pub lines_flushed : (before mid now : SinkState) (text : List ℕ) (first number : ℕ) (done : Unit {0}) → IfKnown before mid (WritesAll {E = WriteFault} text (Ok first)) → IfKnown mid now (Flushes (Ok done)) →
    IfKnown before now (WritesLines {E = WriteFault} text (Ok number))
lines_flushed before mid now text first number done h w =
    both_then before.contents mid.contents now.contents h w (λ m k j p q. (q.0 ∙ p, q.1 ∙ ap length (sym q.0)))

pub flush_failed : (before mid now : SinkState) (text : List ℕ) (first : ℕ) (failed : SinkFailed) (fault : WriteFault) → IfKnown before mid (WritesAll {E = WriteFault} text (Ok first)) → IfKnown mid now (Flushes {T = Unit {0}} (Err failed)) →
    IfKnown before now (WritesLines {T = ℕ} text (Err fault))
flush_failed before mid now text first failed fault h w =
    both_then before.contents mid.contents now.contents h w (λ m k j p q. (length text, ap (λ s. s.written) q ∙ p ∙ ap (λ l. m.written ++ l) (sym (take-length text))))

-- the status of so many lines
pub lines_status : (number : ℕ) (lines : List (List ℕ)) → number ≡ length lines → (number ≡ 0 → 0 ≡ status_in (ClashLines lines)) × ((number ≡ 0 → ⊥) → 1 ≡ status_in (ClashLines lines))
lines_status number [] e = (λ z. refl, λ some. absurd (some e))
lines_status number (line ∷ lines) e = (λ z. absurd (omega (arith, e, z)), λ some. refl)

-- ---- what is printed, by the status

pub text_printed : (before now : SinkState) (text : List ℕ) (done : Unit {0}) → IfKnown before now (PrintsAll text (Ok done)) → IfKnown before now (Printed 0 text)
text_printed before now text done h =
    both_more before.contents now.contents h (λ m k p. record { whole = λ low. p; part = (length text, p.0 ∙ ap (λ l. m.written ++ l) (sym (take-length text))) })

pub text_cut : (before now : SinkState) (text : List ℕ) (failed : SinkFailed) → IfKnown before now (PrintsAll {T = Unit {0}} text (Err failed)) → IfKnown before now (Printed 4 text)
text_cut before now text failed h = both_more before.contents now.contents h (λ m k p. record { whole = λ low. absurd (omega (arith, low)); part = p })

pub lines_printed : (before now : SinkState) (status : ℕ) (text : List ℕ) (number : ℕ) → IfKnown before now (WritesLines {E = WriteFault} text (Ok number)) → IfKnown before now (Printed status text)
lines_printed before now status text number h =
    both_more before.contents now.contents h (λ m k p. record { whole = λ low. p; part = (length text, p.0 ∙ ap (λ l. m.written ++ l) (sym (take-length text))) })

pub lines_cut : (before now : SinkState) (status : ℕ) (text : List ℕ) (fault : WriteFault) → 2 ≤ status → IfKnown before now (WritesLines {T = ℕ} text (Err fault)) → IfKnown before now (Printed status text)
lines_cut before now status text fault high h = both_more before.contents now.contents h (λ m k p. record { whole = λ low. absurd (omega (arith, high, low)); part = p })

-- no line is wanted
pub no_end_line : (status : ℕ) → (status ≡ 4 → ⊥) → (status ≡ 16 → ⊥) → end_line status ≡ []
no_end_line status first second = grind (arith, nat_tests, first, second)
