-- The numbers that are drawn.
use Rattle.std.specs.Prelude.{ℕ, zero, suc, ◌+◌, ◌*◌, ◌/◌, ◌%◌, ◌^◌}
use Rattle.sync_drill.specs.declared.draws.StepDraws.{StepDraws}

-- the state that follows
abbrev pub next_state : ℕ → ℕ
next_state x = (x * 1103515245 + 12345) % 2 ^ 31

-- the state so many draws later
abbrev pub state_after : ℕ → ℕ → ℕ
state_after zero x = x
state_after (suc draws) x = state_after draws (next_state x)

-- the number below a bound that is drawn where this is the new state
abbrev pub drawn : ℕ → ℕ → ℕ
drawn x bound = (x / 65536) % bound

-- the numbers of the step that begins at a state, in the order in which they are drawn
abbrev pub step_draws : ℕ → StepDraws
step_draws x = record {
  root = drawn (state_after 1 x) 64;
  depth = drawn (state_after 2 x) 3;
  child = drawn (state_after 3 x) 16;
  grandchild = drawn (state_after 4 x) 16;
  value = drawn (state_after 5 x) 4;
}

-- the state so many steps later, each of five draws
abbrev pub state_after_steps : ℕ → ℕ → ℕ
state_after_steps zero x = x
state_after_steps (suc steps) x = state_after_steps steps (state_after 5 x)
