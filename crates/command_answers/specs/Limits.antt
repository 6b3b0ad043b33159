-- How much a command reads, and the numbers with which a search or a sample is called.
use Rattle.std.specs.Prelude.{ℕ, ◌≤◌, ◌<◌, ◌^◌}
use Rattle.retro_ports.specs.declared.piecewise.TheConstants.{MOST_BYTES}

-- a command reads at most so many bytes, which are 64 MiB
abbrev pub most_bytes : ℕ
most_bytes = MOST_BYTES

-- a search goes back at most 64 moves, and visits at least one query and at most 500,000
pub record AreLimits (depth nodes : ℕ) : Type 0 where
  pub shallow : depth ≤ 64
  pub some_nodes : 1 ≤ nodes
  pub few_nodes : nodes ≤ 500000

-- a sample starts from a number of 64 bits, and has from 1 to 1,000 games of at most so many moves, from 1 to 200
pub record AreSampleNumbers (start games plies : ℕ) : Type 0 where
  pub start_fits : start < 2 ^ 64
  pub some_games : 1 ≤ games
  pub few_games : games ≤ 1000
  pub some_plies : 1 ≤ plies
  pub few_plies : plies ≤ 200
