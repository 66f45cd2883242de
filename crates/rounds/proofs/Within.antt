-- A composition weighs no more than its sets together.
use Rattle.std.proofs.Common.{false, ◌||◌, List, [], ◌∷◌, ◌∙◌, ap, arith, length, length-append}
use Rattle.std.proofs.lemmas.List.Sums.{sum_by-append, sum_by-cons}
use Rattle.sync_command.specs.Changes.{Change}
use Rattle.canon_set.specs.Logs.{net}
use Rattle.canon_set.specs.Sets.{canonical}
use Rattle.refluent.specs.Drawn.{drawn_commands, nets_in_turn}
use Rattle.refluent.specs.Sets.{IsSubset}
use Rattle.refluent.proofs.CallerLemmas.{is_in-append, is_in-canonical, is_in-without_repeats}
use Rattle.transition.specs.Limits.{IsWithinLogs, line_size, lines_size}
use Rattle.transition.proofs.CallerLemmas.{canonical_within, drawn_within}
use Rattle.rounds.specs.Compositions.{chain_list, composition}
use Rattle.rounds.proofs.Undoing.{one_net}

-- the net set of a log is drawn from it
own_net : (log : List Change) → IsSubset (net log) (drawn_commands (log ∷ []))
own_net log c e =
    is_in-without_repeats (nets_in_turn (log ∷ [])) c ∙ is_in-append (canonical (net log)) [] c
    ∙ ap (λ b. b || false) (is_in-canonical (net log) (one_net log) c ∙ e)

-- a set is within itself, and so is its canonical list
own_set : (set : List Change) → IsWithinLogs (set ∷ []) (canonical set)
own_set set = canonical_within (set ∷ []) set (record {
  commands = omega (arith, sum_by-cons (λ (log : List Change). length log) set []);
  bytes = omega (arith, sum_by-cons lines_size set []);
})

-- the chain list is within its sets
chain_within : (sets : List (List Change)) → IsWithinLogs sets (chain_list sets)
chain_within [] = record { commands = omega arith; bytes = omega arith }
chain_within (set ∷ sets) =
    let own = own_set set in
    let rest = chain_within sets in record {
      commands = omega (arith, own.commands, rest.commands, length-append (canonical set) (chain_list sets), sum_by-cons (λ (log : List Change). length log) set sets, sum_by-cons (λ (log : List Change). length log) set []);
      bytes = omega (arith, own.bytes, rest.bytes, sum_by-append line_size (canonical set) (chain_list sets), sum_by-cons lines_size set sets, sum_by-cons lines_size set []);
    }

pub composition_within : (sets : List (List Change)) → IsWithinLogs sets (composition sets)
composition_within sets =
    let own = drawn_within (chain_list sets ∷ []) (composition sets) (one_net (chain_list sets)) (own_net (chain_list sets)) in
    let chain = chain_within sets in record {
      commands = omega (arith, own.commands, chain.commands, sum_by-cons (λ (log : List Change). length log) (chain_list sets) []);
      bytes = omega (arith, own.bytes, chain.bytes, sum_by-cons lines_size (chain_list sets) []);
    }
